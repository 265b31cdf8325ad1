-- The column of reads a row at a time: four places are written, or stay 0. Assumes nothing.
use mathlib.Core.Path.{◌≡◌, refl, ap, sym, ◌∙◌}
use mathlib.Core.Bool.{Bool, cond}
use mathlib.Core.List.{List}
use Prim.Native.Nat.{ℕ, zero, suc, ◌+◌, ◌*◌, ◌/◌, ◌%◌, ◌<◌}
use native.Mathlib.Nat.{add-zero}
use native.Mathlib.Omega.{arith}
use lib.Dec.{eqb}
use lib.ListN.{get_or, set}
use borrow.Author.Tests.{eq-eqb, ne_eqb}
use Rattle.columns.proofs.Filled.{filled_end, filled_next, filled_none, filled_skips, filled-written, written_same}
use Rattle.columns.specs.Entries.{bit_of, filled, written}
use Rattle.readcolumn.specs.Reads.{field_key, four_places, read_entry, read_place, row_read}

-- stored one after the other
pub four_written : (column : List ℕ) (at a key bit absent : ℕ) → set (set (set (set column at a) (at + 1) key) (at + 2) bit) (at + 3) absent ≡ written 4 column at (four_places a key bit absent)
four_written column at a key bit absent = ap (λ (k : ℕ). set (set (set (set column k a) (at + 1) key) (at + 2) bit) (at + 3) absent) (sym (add-zero at))

read_places : (a t v p bit absent : ℕ) → bit ≡ bit_of v → (j : ℕ) → j < 4 → four_places a (field_key t v p) bit absent j ≡ read_place a t v p absent j
unfolding read_place
read_places a t v p bit absent e zero h = refl
read_places a t v p bit absent e (suc zero) h = refl
read_places a t v p bit absent e (suc (suc zero)) h = e
read_places a t v p bit absent e (suc (suc (suc zero))) h = refl
read_places a t v p bit absent e (suc (suc (suc (suc j)))) h = absurd (omega arith)

-- a read, by what the code has computed
pub read_written : (types variants parts column : List ℕ) (at i a t v p own bit : ℕ) → a ≡ get_or parts (3 * i) 0 → t ≡ get_or types a 0 → v ≡ get_or variants i 0 → p ≡ get_or parts (3 * i + 1) 0 → own ≡ get_or types i 0 → bit ≡ bit_of v
    → written 4 column at (four_places a (field_key t v p) bit (72 + own)) ≡ written 4 column at (row_read types variants parts i)
read_written types variants parts column at i a t v p own bit e₁ e₂ e₃ e₄ e₅ e₆ =
    written_same 4 at column _ _ (λ j l. read_places a t v p bit (72 + own) e₆ j l ∙ made j)
  where
    made : (j : ℕ) → read_place a t v p (72 + own) j ≡ row_read types variants parts i j
    made j = cc

module _ (kinds types variants parts : List ℕ) where
  abbrev entry : ℕ → ℕ
  entry = read_entry kinds types variants parts

  read-entry : (i j : ℕ) → j < 4 → entry (4 * i + j) ≡ cond (eqb (get_or kinds i 0) 3) (row_read types variants parts i j) 0
  unfolding read_entry
  read-entry i j l =
      let q : (4 * i + j) / 4 ≡ i = omega arith in
      let r : (4 * i + j) % 4 ≡ j = omega arith in
      ap (λ (k : ℕ). cond (eqb (get_or kinds k 0) 3) (row_read types variants parts k ((4 * i + j) % 4)) 0) q
      ∙ ap (λ (k : ℕ). cond (eqb (get_or kinds i 0) 3) (row_read types variants parts i k) 0) r

  module _ (column : List ℕ) (i : ℕ) (h : i < 24) (e : column ≡ filled 96 entry (4 * i)) where
    pub read_skipped : ¬ (get_or kinds i 0 ≡ 3) → column ≡ filled 96 entry (4 * (i + 1))
    read_skipped k =
        let q : 4 * i + 4 ≡ 4 * (i + 1) = omega arith in
        filled_skips 96 entry 4 (4 * i) column (omega arith) (λ j l. read-entry i j l ∙ ap (λ (b : Bool). cond b (row_read types variants parts i j) 0) (ne_eqb (get_or kinds i 0) 3 k)) e ∙ ap (filled 96 entry) q

    pub read_stored : (new : List ℕ) → get_or kinds i 0 ≡ 3 → new ≡ written 4 column (4 * i) (row_read types variants parts i) → new ≡ filled 96 entry (4 * (i + 1))
    read_stored new k w =
        let q : 4 * i + 4 ≡ 4 * (i + 1) = omega arith in
        w ∙ filled-written 96 entry 4 (4 * i) column (row_read types variants parts i) (omega arith) (λ j l. sym (read-entry i j l ∙ ap (λ (b : Bool). cond b (row_read types variants parts i j) 0) (eq-eqb (get_or kinds i 0) 3 k))) e
        ∙ ap (filled 96 entry) q

-- what a loop over the rows needs
pub ruleset reads_filled = (filled_none, read_stored, read_skipped, filled_end)

-- what a loop over the slots needs
pub ruleset constants_filled = (filled_none, filled_next, filled_end)
