-- The value of a row is made of the values of the rows that it names, which stand before it. So rows that stand renumbered among
-- others have the values that they had, by induction over rows. Assumes nothing.
use mathlib.Core.Path.{◌≡◌, refl, ap, sym, subst, ◌∙◌}
use mathlib.Core.List.{List, [], ◌∷◌, ◌++◌}
use Prim.Native.Nat.{ℕ, zero, suc, ◌+◌, ◌<◌}
use native.Mathlib.Omega.{arith}
use native.Mathlib.Nat.{add-zero, zero-add}
use lib.ListN.{length, get_or, length-append, get_or-append}
use lib.Seq.{get_or-append_seam}
use Rattle.laws.specs.Lists.{from}
use Rattle.guard.specs.Guard.{Row, row_at}
use Rattle.guard.specs.Meaning.{value_of, values_from}
use Rattle.guard.specs.Message.{Message, no_message}
use Rattle.guard.specs.Types.{Types}
use Rattle.guard.specs.WellFormed.{RowFits}
use Rattle.guard.proofs.Accepted.{RowsFit}
use Rattle.soundness.proofs.TermValues.{kept, next}
use Rattle.merged.specs.Merge.{named}
use Rattle.merged.proofs.Renumbered.{Among, own_named, own_row, renamed_value}

module _ (ts : Types) (ρ : ℕ → Message) where
  -- only the values of the rows before count
  depends : (rs : List Row) (i : ℕ) (r : Row) → RowFits ts rs i r → (xs ys : List Message) → ((p : ℕ) → p < i → get_or xs p no_message ≡ get_or ys p no_message) → value_of ts ρ i xs r ≡ value_of ts ρ i ys r
  depends rs i r f xs ys at =
      ap (value_of ts ρ i xs) (sym (own_row ts rs i i r (omega arith) f))
      ∙ renamed_value ts rs i (from i 0) ρ ρ i xs ys r f refl (λ p h. ap (λ (k : ℕ). get_or xs k no_message) (own_named i p h) ∙ at p h)

  module _ (all : List Row) where
    value-from : (rs : List Row) (vals : List Message) → ((k : ℕ) → k < length rs → RowFits ts all (length vals + k) (row_at rs k)) → (k : ℕ) → k < length rs
        → get_or (values_from ts ρ vals rs) (length vals + k) no_message ≡ value_of ts ρ (length vals + k) (values_from ts ρ vals rs) (row_at rs k)
    value-from [] vals fit k h = absurd (omega arith)
    value-from (r ∷ rs) vals fit zero h =
        rw add-zero
        (kept ts ρ rs (vals ++ next ts ρ vals r) (length vals) (omega (arith, length-append vals (next ts ρ vals r)))
        ∙ get_or-append_seam vals (value_of ts ρ (length vals) vals r) [] no_message
        ∙ depends all (length vals) r (subst (λ (q : ℕ). RowFits ts all q r) (add-zero (length vals)) (fit 0 h)) vals (values_from ts ρ vals (r ∷ rs)) (λ p l. sym (kept ts ρ (r ∷ rs) vals p l)))
    value-from (r ∷ rs) vals fit (suc k) h =
        let shift : (j : ℕ) → length vals + suc j ≡ length (vals ++ next ts ρ vals r) + j = λ j. omega (arith, length-append vals (next ts ρ vals r)) in
        rw (shift k) (value-from rs (vals ++ next ts ρ vals r) (λ j l. subst (λ (q : ℕ). RowFits ts all q (row_at rs j)) (shift j) (fit (suc j) (omega arith))) k (omega arith))

    value-is : RowsFit ts all → (i : ℕ) → i < length all → get_or (values_from ts ρ [] all) i no_message ≡ value_of ts ρ i (values_from ts ρ [] all) (row_at all i)
    value-is fit i h = rw zero-add at (value-from all [] (λ k l. subst (λ (q : ℕ). RowFits ts all q (row_at all k)) (sym (zero-add k)) (fit k l)) i h)

module _ (ts : Types) (all : List Row) (names : List ℕ) (rs : List Row) (among : Among all names rs) (all_fit : RowsFit ts all) (fit : RowsFit ts rs)
    (ρ σ : ℕ → Message) (same : (i : ℕ) → i < length rs → ρ (named names i) ≡ σ i) where
  same-below : (n i : ℕ) → i < n → i < length rs → get_or (values_from ts ρ [] all) (named names i) no_message ≡ get_or (values_from ts σ [] rs) i no_message
  same-below zero i h l = absurd (omega arith)
  same-below (suc n) i h l =
      let q = named names i in
      value-is ts ρ all all_fit q (among i l).0 ∙ ap (value_of ts ρ q (values_from ts ρ [] all)) (among i l).1
      ∙ renamed_value ts rs i names ρ σ q (values_from ts ρ [] all) (values_from ts σ [] rs) (row_at rs i) (fit i l) (same i l) (λ p k. same-below n p (omega arith) (omega arith))
      ∙ sym (value-is ts σ rs fit i l)

  pub same-values : (i : ℕ) → i < length rs → get_or (values_from ts ρ [] all) (named names i) no_message ≡ get_or (values_from ts σ [] rs) i no_message
  same-values i l = same-below (suc i) i (omega arith) l
