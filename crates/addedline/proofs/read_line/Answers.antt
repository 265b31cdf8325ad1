-- `read_line` meets its contract: it asks in the order of the definition. Assumes nothing.
use Rattle.std.proofs.Common.{◌∙◌, ap, sym, [], arith, drop}
use Rattle.std.proofs.lemmas.Result.{err_from_is_err_and}
use lib.ListN.{length-drop}
use Rattle.guard.specs.Number.{Parsed.accepted}
use Rattle.guard.specs.Question.{number_of}
use Rattle.tables.specs.declared.LiteralTable.{LiteralTable}
use Rattle.literalkinds.specs.OneLiteral.{literal_in}
use Rattle.addedline.proofs.LineLaws.{appended_table, at_the_end, few-rows, few-variants, full, line_refuses, not_ended, types-there}
use Rattle.addedline.proofs.read_line.Goals as goal

pub returns-then-lines-ge32 : goal.returns-then-lines-ge32
returns-then-lines-ge32 c = record { reads = λ g held. full g held c.args.bytes.now (omega arith) }

pub read_literal-requires : goal.read_literal-requires
read_literal-requires c = record {
  rows_bound = few-rows c.requires.guard c.requires.held [];
  each_below = few-variants c.requires.guard c.requires.held [];
  each_below_2 = types-there c.requires.guard c.requires.held [];
}

pub returns-in_err-l : goal.returns-in_err-l
returns-in_err-l c = let p = err_from_is_err_and c.from_residual.result c.from_residual.ensures.1 in
    let room = c.if-lines-ge32.false in
    rw (p.1, p.2) (record { reads = λ g held. line_refuses g held c.args.bytes.now (omega (arith, room)) (number_of c.in_err-l.field-0.0) c.in_err-l.ensures })

pub returns-then-l-bytes : goal.returns-then-l-bytes
returns-then-l-bytes c = let s = c.args in
    let l = c.in_ok-l.l in
    let room = c.if-lines-ge32.false in
    record { reads = λ g held. not_ended g held s.bytes.now (omega (arith, room)) (literal_in l.value) (drop l.at s.bytes.now) c.in_ok-l.ensures.0.accepts (omega (arith, length-drop l.at s.bytes.now)) }

pub returns : goal.returns
returns c = let s = c.args in
    let l = c.in_ok-l.l in
    let room = c.if-lines-ge32.false in
    record {
      reads = λ g held.
          at_the_end g held s.bytes.now (omega (arith, room)) (literal_in l.value) (drop l.at s.bytes.now) c.in_ok-l.ensures.0.accepts (omega (arith, length-drop l.at s.bytes.now))
          ∙ ap (λ (t : LiteralTable). accepted t []) (sym (c.appended.ensures ∙ appended_table g held s.bytes.now (omega (arith, room)) l.value c.in_ok-l.ensures.1));
    }
