-- The types of terms by their part of the column: rows, siblings, defaults, nothing. Assumes nothing.
use mathlib.Core.Path.{◌≡◌, refl, ap, sym, ◌∙◌}
use mathlib.Core.Bool.{Bool, true, false}
use mathlib.Core.List.{List, map}
use Prim.Native.Nat.{ℕ, ◌+◌, ◌-◌, ◌≤◌, ◌<◌}
use native.Mathlib.Omega.{arith}
use lib.Dec.{ltb}
use lib.ListN.{get_or, length}
use borrow.Author.Tests.{lt-ltb, le-ltb}
use borrow.Rule.Slice.PartMut.{put_mid}
use Rattle.std.proofs.lemmas.Grind.{same_number_lists}
use Rattle.laws.specs.Lists.{from}
use Rattle.laws.proofs.Lists.{map-from-at, map-from-length}
use Rattle.columns.proofs.EntryLaws.{no-type}
use Rattle.columns.proofs.Filled.{filled_end, filled_next, filled_none, filled_skips}
use Rattle.columns.specs.Entries.{filled, plus_one_if}
use Rattle.sortcolumn.specs.Sorts.{sort_entry}

module _ (many count : ℕ) (types siblings : List ℕ) (x : ℕ) where
  pub row_sort : x < 24 → plus_one_if (ltb x many) (get_or types x 0) ≡ sort_entry many count types siblings x
  unfolding sort_entry
  row_sort h = let p : ltb x 24 ≡ true = lt-ltb x 24 h in cc

  pub sibling_sort : 24 ≤ x → x < 72 → get_or siblings (x - 24) 0 ≡ sort_entry many count types siblings x
  unfolding sort_entry
  sibling_sort h l =
      let p : ltb x 24 ≡ false = le-ltb x 24 h in
      let q : ltb x 72 ≡ true = lt-ltb x 72 l in
      cc

  pub default_sort : 72 ≤ x → plus_one_if (ltb (x - 72) count) (x - 72) ≡ sort_entry many count types siblings x
  unfolding sort_entry
  default_sort h =
      let p : ltb x 24 ≡ false = le-ltb x 24 (omega arith) in
      let q : ltb x 72 ≡ false = le-ltb x 72 h in
      cc

  none : (b : Bool) (t : ℕ) → 6 ≤ t → plus_one_if b t ≡ 0
  unfolding plus_one_if
  none true t h = no-type t h
  none false t h = refl

  pub no_sort : 78 ≤ x → sort_entry many count types siblings x ≡ 0
  no_sort h = sym (default_sort (omega arith)) ∙ none (ltb (x - 72) count) (x - 72) (omega arith)

module _ (many count : ℕ) (types siblings column : List ℕ) where
  abbrev entry : ℕ → ℕ
  entry = sort_entry many count types siblings

  siblings-from : (k : ℕ) → k < 48 → get_or siblings k 0 ≡ get_or (map entry (from 48 24)) k 0
  siblings-from k h =
      let q : (24 + k) - 24 ≡ k = omega arith in
      ap (λ (j : ℕ). get_or siblings j 0) (sym q) ∙ sibling_sort many count types siblings (24 + k) (omega arith) (omega arith) ∙ sym (map-from-at entry 48 24 k 0 h)

  -- the siblings are copied behind the rows
  pub siblings_put : length siblings ≡ 48 → column ≡ filled 96 entry 24 → put_mid 24 48 column siblings ≡ filled 96 entry 72
  siblings_put l e =
      let same : siblings ≡ map entry (from 48 24) = same_number_lists siblings (map entry (from 48 24)) (l ∙ sym (map-from-length entry 48 24)) (λ k h. siblings-from k (omega arith)) in
      ap (λ (c : List ℕ). put_mid 24 48 c siblings) e ∙ ap (put_mid 24 48 (filled 96 entry 24)) same

  -- nothing stands past the last default
  pub sorts_end : column ≡ filled 96 entry 78 → column ≡ filled 96 entry 96
  sorts_end e = filled_skips 96 entry 18 78 column (omega arith) (λ j h. no_sort many count types siblings (78 + j) (omega arith)) e

-- what loops over columns need
pub ruleset column_filled = (filled_none, filled_next, filled_end)
