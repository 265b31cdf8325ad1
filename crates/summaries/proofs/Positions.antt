-- Where the masks of a row stand in a summary, and the bits of each. Assumes nothing.
use mathlib.Core.Path.{◌≡◌, refl, ap, sym, ◌∙◌}
use mathlib.Core.Bool.{not}
use mathlib.Core.List.{List, [], ◌∷◌, ◌++◌}
use Prim.Native.Nat.{ℕ, zero, suc, ◌+◌, ◌*◌, ◌≤◌, ◌<◌}
use native.Mathlib.Omega.{arith}
use lib.Dec.{eqb, ltb}
use lib.ListN.{length, get_or, length-append, get_or-append, get_or-eq_default}
use lib.Seq.{get_or-append-add, get_or_at}
use borrow.Author.Tests.{ltb-false, ltb-true}
use Rattle.laws.specs.Bits.{bit}
use Rattle.laws.proofs.Bools.{by_test}
use Rattle.summaries.specs.Summary.{masks_below, possible_at, possible_by, settled_at, settled_by}
use Rattle.summaries.proofs.Masks.{mask_bit, mask_past, one_if}

module _ (codes : ℕ → ℕ → ℕ) (counts : ℕ → ℕ) where
  pub masks_length : (n : ℕ) → length (masks_below codes counts n) ≡ 2 * n
  masks_length zero = refl
  masks_length (suc n) = omega (arith, length-append (masks_below codes counts n) (settled_by (codes n) (counts n) ∷ possible_by (codes n) (counts n) ∷ []), masks_length n)

  -- those of an earlier row
  earlier : (n i : ℕ) → i < 2 * n → get_or (masks_below codes counts (suc n)) i 0 ≡ get_or (masks_below codes counts n) i 0
  earlier n i h = get_or-append (masks_below codes counts n) (settled_by (codes n) (counts n) ∷ possible_by (codes n) (counts n) ∷ []) 0 i (omega (arith, masks_length n))

  pub settled_at_lem : (n i : ℕ) → i < n → settled_at (masks_below codes counts n) i ≡ settled_by (codes i) (counts i)
  settled_at_lem zero i h = absurd (omega arith)
  settled_at_lem (suc n) i h =
      by_test (ltb i n) (λ e. earlier n (2 * i) (omega (arith, ltb-true i n e)) ∙ settled_at_lem n i (ltb-true i n e))
      (λ e.
      let q : i ≡ n = omega (arith, ltb-false i n e) in
      get_or_at (masks_below codes counts n) (settled_by (codes n) (counts n)) (possible_by (codes n) (counts n) ∷ []) 0 (2 * i) (omega (arith, masks_length n)) ∙ ap (λ (k : ℕ). settled_by (codes k) (counts k)) (sym q))

  pub possible_at_lem : (n i : ℕ) → i < n → possible_at (masks_below codes counts n) i ≡ possible_by (codes i) (counts i)
  possible_at_lem zero i h = absurd (omega arith)
  possible_at_lem (suc n) i h =
      by_test (ltb i n) (λ e. earlier n (2 * i + 1) (omega (arith, ltb-true i n e)) ∙ possible_at_lem n i (ltb-true i n e))
      (λ e.
      let q : i ≡ n = omega (arith, ltb-false i n e) in
      let k : 2 * i + 1 ≡ length (masks_below codes counts n) + 1 = omega (arith, masks_length n) in
      ap (λ (k : ℕ). get_or (masks_below codes counts (suc n)) k 0) k ∙ get_or-append-add (masks_below codes counts n) (settled_by (codes n) (counts n) ∷ possible_by (codes n) (counts n) ∷ []) 1 0 ∙ ap (λ (k : ℕ). possible_by (codes k) (counts k)) (sym q))

  pub settled-past : (n i : ℕ) → n ≤ i → settled_at (masks_below codes counts n) i ≡ 0
  settled-past n i h = get_or-eq_default (masks_below codes counts n) 0 (omega (arith, masks_length n))

  pub possible_past : (n i : ℕ) → n ≤ i → possible_at (masks_below codes counts n) i ≡ 0
  possible_past n i h = get_or-eq_default (masks_below codes counts n) 0 (omega (arith, masks_length n))

  -- ---- bits

  module _ (n i v : ℕ) (row : i < n) where
    module _ (there : v < counts i) where
      pub settled-bit : bit (settled_at (masks_below codes counts n) i) v ≡ one_if (not (eqb (codes i v) 3))
      settled-bit = ap (λ (m : ℕ). bit m v) (settled_at_lem n i row) ∙ mask_bit (λ u. not (eqb (codes i u) 3)) (counts i) v there

      pub possible_bit : bit (possible_at (masks_below codes counts n) i) v ≡ one_if (eqb (codes i v) 1)
      possible_bit = ap (λ (m : ℕ). bit m v) (possible_at_lem n i row) ∙ mask_bit (λ u. eqb (codes i u) 1) (counts i) v there

    module _ (past : counts i ≤ v) where
      pub settled-none : bit (settled_at (masks_below codes counts n) i) v ≡ 0
      settled-none = ap (λ (m : ℕ). bit m v) (settled_at_lem n i row) ∙ mask_past (λ u. not (eqb (codes i u) 3)) (counts i) v past

      pub possible_none : bit (possible_at (masks_below codes counts n) i) v ≡ 0
      possible_none = ap (λ (m : ℕ). bit m v) (possible_at_lem n i row) ∙ mask_past (λ u. eqb (codes i u) 1) (counts i) v past
