-- The column of shapes a slot at a time: eight places are written, or stay 0. Assumes nothing.
use mathlib.Core.Path.{◌≡◌, ap, sym, ◌∙◌}
use mathlib.Core.Bool.{Bool, true, cond}
use mathlib.Core.List.{List}
use Prim.Native.Nat.{ℕ, ◌+◌, ◌*◌, ◌-◌, ◌/◌, ◌%◌, ◌≤◌, ◌<◌}
use native.Mathlib.Omega.{arith}
use lib.Dec.{ltb}
use lib.ListN.{get_or}
use borrow.Author.Tests.{lt-ltb, le-ltb, eq-eqb, ne_eqb}
use Rattle.columns.proofs.Filled.{filled_end, filled_none, filled_skips, filled-written, written_same}
use Rattle.columns.specs.Entries.{filled, written}
use Rattle.rowshapes.proofs.ShapeLaws.{shape_places}
use Rattle.rowshapes.specs.RowShapes.{arity_of, eight_places, kind_number, row_place, shape_place}
use Rattle.shapecolumn.specs.Shapes.{default_part, default_place, made_place, shape_entry}

-- a made default, by what the code has computed
pub default_written : (defaults first arities sorts column : List ℕ) (at t v many a b c d : ℕ) → v ≡ get_or defaults t 0 → many ≡ arity_of first arities t v
    → a ≡ default_part first arities sorts t v 4 → b ≡ default_part first arities sorts t v 5 → c ≡ default_part first arities sorts t v 6 → d ≡ default_part first arities sorts t v 7
    → written 8 column at (eight_places (72 + t) (kind_number t v) 0 many a b c d) ≡ written 8 column at (made_place defaults first arities sorts t)
default_written defaults first arities sorts column at t v many a b c d e m p q r z =
    written_same 8 at column _ _ (λ j l. shape_places (72 + t) t v 0 many (default_part first arities sorts t v) a b c d p q r z j l ∙ made j)
  where
    made : (j : ℕ) → shape_place (72 + t) t v 0 many (default_part first arities sorts t v j) j ≡ made_place defaults first arities sorts t j
    made j = cc

module _ (kinds types variants parts fields counts defaults first arities sorts : List ℕ) where
  abbrev entry : ℕ → ℕ
  entry = shape_entry kinds types variants parts fields counts defaults first arities sorts

  row-entry : (i j : ℕ) → i < 24 → j < 8 → entry (8 * i + j) ≡ row_place kinds types variants parts fields first arities i j
  unfolding shape_entry
  row-entry i j h l =
      let x = 8 * i + j in
      let q : (8 * i + j) / 8 ≡ i = omega arith in
      let r : (8 * i + j) % 8 ≡ j = omega arith in
      let default = default_place counts defaults first arities sorts (x / 8 - 24) (x % 8) in
      ap (λ (b : Bool). cond b (row_place kinds types variants parts fields first arities (x / 8) (x % 8)) default) (lt-ltb x 192 (omega arith))
      ∙ ap (λ (k : ℕ). row_place kinds types variants parts fields first arities k (x % 8)) q
      ∙ ap (row_place kinds types variants parts fields first arities i) r

  no_row : (i j : ℕ) → get_or kinds i 0 < 2 → row_place kinds types variants parts fields first arities i j ≡ 0
  unfolding row_place
  no_row i j h = let q : ltb (get_or kinds i 0) 2 ≡ true = lt-ltb (get_or kinds i 0) 2 h in cc

  default-entry : (t j : ℕ) → j < 8 → entry (192 + 8 * t + j) ≡ default_place counts defaults first arities sorts t j
  unfolding shape_entry
  default-entry t j l =
      let x = 192 + 8 * t + j in
      let q : (192 + 8 * t + j) / 8 - 24 ≡ t = omega arith in
      let r : (192 + 8 * t + j) % 8 ≡ j = omega arith in
      ap (λ (b : Bool). cond b (row_place kinds types variants parts fields first arities (x / 8) (x % 8)) (default_place counts defaults first arities sorts (x / 8 - 24) (x % 8))) (le-ltb x 192 (omega arith))
      ∙ ap (λ (k : ℕ). default_place counts defaults first arities sorts k (x % 8)) q
      ∙ ap (default_place counts defaults first arities sorts t) r

  no_default : (t j : ℕ) → get_or counts t 0 ≤ 0 → default_place counts defaults first arities sorts t j ≡ 0
  unfolding default_place
  no_default t j h = let q : get_or counts t 0 ≡ 0 = omega arith in ap (λ (b : Bool). cond b 0 (made_place defaults first arities sorts t j)) (eq-eqb (get_or counts t 0) 0 q)

  a_default : (t j : ℕ) → 0 < get_or counts t 0 → made_place defaults first arities sorts t j ≡ default_place counts defaults first arities sorts t j
  unfolding default_place
  a_default t j h = let q : ¬ (get_or counts t 0 ≡ 0) = omega arith in sym (ap (λ (b : Bool). cond b 0 (made_place defaults first arities sorts t j)) (ne_eqb (get_or counts t 0) 0 q))

  module _ (column : List ℕ) where
    pub row_skipped : (i : ℕ) → i < 24 → get_or kinds i 0 < 2 → column ≡ filled 256 entry (8 * i) → column ≡ filled 256 entry (8 * (i + 1))
    row_skipped i h k e =
        let q : 8 * i + 8 ≡ 8 * (i + 1) = omega arith in
        filled_skips 256 entry 8 (8 * i) column (omega arith) (λ j l. row-entry i j h l ∙ no_row i j k) e ∙ ap (filled 256 entry) q

    pub row_stored : (i : ℕ) (new : List ℕ) → i < 24 → column ≡ filled 256 entry (8 * i) → new ≡ written 8 column (8 * i) (row_place kinds types variants parts fields first arities i) → new ≡ filled 256 entry (8 * (i + 1))
    row_stored i new h e w =
        let q : 8 * i + 8 ≡ 8 * (i + 1) = omega arith in
        w ∙ filled-written 256 entry 8 (8 * i) column (row_place kinds types variants parts fields first arities i) (omega arith) (λ j l. sym (row-entry i j h l)) e ∙ ap (filled 256 entry) q

    pub default_skipped : (t : ℕ) → t < 8 → get_or counts t 0 ≤ 0 → column ≡ filled 256 entry (192 + 8 * t) → column ≡ filled 256 entry (192 + 8 * (t + 1))
    default_skipped t h k e =
        let q : 192 + 8 * t + 8 ≡ 192 + 8 * (t + 1) = omega arith in
        filled_skips 256 entry 8 (192 + 8 * t) column (omega arith) (λ j l. default-entry t j l ∙ no_default t j k) e ∙ ap (filled 256 entry) q

    pub default_stored : (t : ℕ) (new : List ℕ) → t < 8 → 0 < get_or counts t 0 → column ≡ filled 256 entry (192 + 8 * t) → new ≡ written 8 column (192 + 8 * t) (made_place defaults first arities sorts t) → new ≡ filled 256 entry (192 + 8 * (t + 1))
    default_stored t new h k e w =
        let q : 192 + 8 * t + 8 ≡ 192 + 8 * (t + 1) = omega arith in
        w ∙ filled-written 256 entry 8 (192 + 8 * t) column (made_place defaults first arities sorts t) (omega arith) (λ j l. a_default t j k ∙ sym (default-entry t j l)) e ∙ ap (filled 256 entry) q

-- what a loop over the slots needs
pub ruleset slots_filled = (filled_none, row_stored, row_skipped, default_stored, default_skipped, filled_end)
