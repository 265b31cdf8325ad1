-- `put_name`: the words, the number and a space, from the start of the buffer on. Assumes nothing.
use Rattle.std.proofs.Common.{rules}
use mathlib.Core.Path.{ap, ◌∙◌}
use native.Mathlib.Omega.{arith}
use Prim.Native.Nat.{◌+◌}
use lib.ListN.{length}
use Rattle.writing.proofs.Wrote.{and_then, from_start, more_room}
use Rattle.branchtext.proofs.put_name.Goals as goal

pub put_named-requires : goal.put_named-requires
put_named-requires c = let new = c.new-words.ensures in omega (arith, new.at, ap length new.out, c.requires.word_len_bound, c.requires.in_bounds)

pub put_bytes-requires : goal.put_bytes-requires
put_bytes-requires c = let new = c.new-words.ensures in
    let w = c.put_named.ensures in
    omega (arith, new.at, ap length new.out, w.ends, w.few, w.long, c.requires.word_len_bound, c.requires.in_bounds)

pub returns : goal.returns
returns c = let new = c.new-words.ensures in
    let p = from_start {most = length c.args.word.now + 11} new.out new.at (more_room _ (omega arith) (and_then c.put_named.ensures c.put_bytes.ensures)) in
    let same = c.put_bytes.ensures.same ∙ c.put_named.ensures.same ∙ new.same in
    search (rules, p, same)
