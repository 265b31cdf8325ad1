-- `put_pairs_of` meets its contract: the words and the number of the lower branch name the lines. Assumes nothing.
use mathlib.Core.Path.{ap, sym, ◌∙◌}
use mathlib.Core.List.{List}
use Prim.Native.Nat.{ℕ, ◌+◌}
use native.Mathlib.Omega.{arith}
use lib.ListN.{length-take}
use lib.Seq.{length-take-le}
use Rattle.writing.proofs.Wrote.{same_text}
use Rattle.branchtext.specs.BranchText.{lines}
use Rattle.branchtext.proofs.PairLaws.{by_name}
use Rattle.branchtext.proofs.put_pairs_of.Goals as goal

pub slice_bounds-put_list-end : goal.slice_bounds-put_list-end
slice_bounds-put_list-end c = let w = c.put_name-end.ensures in
    sym (length-take-le _ _ (omega (arith, w.ends, w.few, w.long)))

pub put_list-requires : goal.put_list-requires
put_list-requires c = let w = c.put_name-end.ensures in
    record {
      name_len_bound = omega (arith, w.ends, w.few, length-take c.put_name-end.result c.put_name-end.new.name, c.requires.word_len_bound);
      n_bound = c.requires.n_bound;
      n_in_bounds = c.requires.n_in_bounds;
      has_room = c.requires.has_room;
    }

pub returns : goal.returns
returns c = let s = c.args in
    let w = c.put_name-end.ensures in
    same_text (ap (λ (l : List ℕ). lines l s.code s.n (s.i + 1) s.place s.codes.now) w.front ∙ by_name s.word.now s.code s.n s.i s.place s.codes.now) c.put_list.ensures
