-- `merge_guards`: the questions, then the bytes. Assumes nothing.
use Rattle.serialize.specs.Tokens.{bytes_of}
use Rattle.filewriter.proofs.Answers.{answers-short, answers-written}
use Rattle.mergewriter.proofs.Held.{others-held, rows-held}
use Rattle.merge.proofs.merge_guards.Goals as goal

pub names_of-n-requires : goal.names_of-n-requires
names_of-n-requires c = let both = c.requires.two_guards.both in
    record { types = _; rows = _; others = _; holds = rows-held both.one; holds-others = others-held both }

pub returns-in_default : goal.returns-in_default
returns-in_default c = record {
  answers = λ g h b. answers-short bytes_of (c.in_ok-ask.ensures.asks.asks g h b c.names_of-n.ensures) c.args.out.now c.requires.out_value (c.in_default.ensures.puts g h b) c.clear.ensures;
}

pub returns : goal.returns
returns c = record { answers = λ g h b. answers-written bytes_of (c.in_ok-ask.ensures.asks.asks g h b c.names_of-n.ensures) c.args.out.now c.requires.out_value (c.in-Some.ensures.puts g h b) }
