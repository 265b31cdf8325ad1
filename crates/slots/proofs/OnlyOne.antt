-- When a term is of one fieldless variant alone: by its type's fieldless variants, by the number of variants left, by the
-- lowest of them. Assumes nothing.
use mathlib.Core.Path.{◌≡◌, refl, ap, sym, ◌∙◌}
use mathlib.Core.Bool.{Bool, true, false, not, ◌&&◌}
use mathlib.Core.List.{List, [], ◌∷◌, Memᴰ}
use mathlib.Core.Logic.{◌⊎◌, inl, inr, ⊎_elim}
use Prim.Native.Nat.{ℕ, ◌+◌, ◌^◌, ◌≤◌, ◌<◌}
use native.Mathlib.Omega.{arith}
use lib.Dec.{eqb}
use lib.ListN.{length, get_or}
use borrow.Author.Tests.{eq-eqb, eqb-true}
use Rattle.laws.specs.Bits.{bit}
use Rattle.laws.specs.Lists.{all, filter, from}
use Rattle.laws.proofs.Bits.{bit_zero}
use Rattle.laws.proofs.Bools.{and_left, and_right, by_test, or_cases}
use Rattle.laws.proofs.Lists.{all_true_inv, filter-is, from_bounds, mem_from}
use Rattle.guard.specs.Closure.{State, alone, label_of}
use Rattle.guard.specs.Limits.{variant_limit}
use Rattle.labels.specs.Label.{variants_in}
use Rattle.arrays.specs.Slots.{fieldless_at, only_is}

-- ---- the variants of a label with one variant

each-alone : all (λ u. eqb (length (variants_in (2 ^ u))) 1 && eqb (get_or (variants_in (2 ^ u)) 0 16) u) (from 16 0) ≡ true
unfolding variants_in
each-alone = refl

pub one_left : (u : ℕ) → u < 16 → (length (variants_in (2 ^ u)) ≡ 1) × (get_or (variants_in (2 ^ u)) 0 16 ≡ u)
one_left u h =
    let e = all_true_inv (λ u. eqb (length (variants_in (2 ^ u))) 1 && eqb (get_or (variants_in (2 ^ u)) 0 16) u) (from 16 0) each-alone u (mem_from 16 0 u (omega arith) (omega arith)) in
    (eqb-true _ _ (and_left (eqb (length (variants_in (2 ^ u))) 1) _ e), eqb-true _ _ (and_right (eqb (length (variants_in (2 ^ u))) 1) _ e))

none_left : (length (variants_in 0) ≡ 0) × (get_or (variants_in 0) 0 16 ≡ 16)
unfolding variants_in
none_left = (refl, refl)

pub lowest_most : (m : ℕ) → get_or (variants_in m) 0 16 ≤ 16
unfolding variants_in
lowest_most m = go (filter (λ v. not (eqb (bit m v) 0)) (from variant_limit 0)) (λ v k. omega (arith, from_bounds variant_limit 0 v (filter-is (λ v. not (eqb (bit m v) 0)) (from variant_limit 0) v k).0))
  where
    go : (vs : List ℕ) → ((v : ℕ) → Memᴰ v vs → v < 16) → get_or vs 0 16 ≤ 16
    go [] h = omega arith
    go (v ∷ vs) h = omega (arith, h v (Memᴰ.head refl))

-- ---- a term

module _ (sorts fieldless : List ℕ) (s : State) (x : ℕ) where
  pub lacks-fieldless : (v : ℕ) → eqb (bit (fieldless_at sorts fieldless x) v) 0 ≡ true → false ≡ only_is sorts fieldless s x v
  unfolding only_is
  lacks-fieldless v e = sym (ap (λ (b : Bool). not b && alone s x v) e)

  -- a type without fieldless variants
  pub never : fieldless_at sorts fieldless x ≡ 0 → (v : ℕ) → only_is sorts fieldless s x v ≡ false
  never e v = sym (lacks-fieldless v (eq-eqb _ 0 (ap (λ (m : ℕ). bit m v) e ∙ bit_zero v)))

  is-alone : (v : ℕ) → only_is sorts fieldless s x v ≡ true → (label_of s x ≡ 2 ^ v) ⊎ (label_of s x ≡ 0)
  unfolding only_is
  is-alone v e =
      ⊎_elim (λ q. inl (eqb-true _ _ q)) (λ q. inr (eqb-true _ _ q))
      (or_cases (eqb (label_of s x) (2 ^ v)) (eqb (label_of s x) 0) (and_right (not (eqb (bit (fieldless_at sorts fieldless x) v) 0)) _ e))

  -- more than one variant is left
  pub not_one : (n v : ℕ) → v < 16 → n ≡ length (variants_in (label_of s x)) → 1 < n → only_is sorts fieldless s x v ≡ false
  not_one n v h e l =
      by_test (only_is sorts fieldless s x v)
      (λ o. absurd (⊎_elim (λ q. omega (arith, e ∙ ap (λ (m : ℕ). length (variants_in m)) q ∙ (one_left v h).0, l)) (λ q. omega (arith, e ∙ ap (λ (m : ℕ). length (variants_in m)) q ∙ none_left.0, l)) (is-alone v o)))
      (λ o. o)

  -- the lowest variant is another one
  pub not_lowest : (n v : ℕ) → v < 16 → n ≡ get_or (variants_in (label_of s x)) 0 16 → n < 16 → ¬ (v ≡ n) → only_is sorts fieldless s x v ≡ false
  not_lowest n v h e l d =
      by_test (only_is sorts fieldless s x v)
      (λ o. absurd (⊎_elim (λ q. d (sym (e ∙ ap (λ (m : ℕ). get_or (variants_in m) 0 16) q ∙ (one_left v h).1))) (λ q. omega (arith, e ∙ ap (λ (m : ℕ). get_or (variants_in m) 0 16) q ∙ none_left.1, l)) (is-alone v o)))
      (λ o. o)

  -- a range of variants outside which none is the term's own
  pub record OnlyBetween (v end : ℕ) : Type 0 where
    pub ordered : v ≤ end
    pub most : end ≤ variant_limit
    pub before : (u : ℕ) → u < v → only_is sorts fieldless s x u ≡ false
    pub after : (u : ℕ) → end ≤ u → u < variant_limit → only_is sorts fieldless s x u ≡ false

  pub range_of : (n v end : ℕ) → n ≡ get_or (variants_in (label_of s x)) 0 16 → ((n ≡ 16) × (v ≡ 0) × (end ≡ 16)) ⊎ (¬ (n ≡ 16) × (v ≡ n) × (end ≡ n + 1)) → OnlyBetween v end
  range_of n v end e (inl (a, b, c)) =
      record { ordered = omega arith; most = omega arith; before = λ u h. absurd (omega (arith, b)); after = λ u h k. absurd (omega (arith, c)) }
  range_of n v end e (inr (a, b, c)) =
      let l : n < 16 = omega (arith, e, lowest_most (label_of s x), a) in
      record {
        ordered = omega arith;
        most = omega arith;
        before = λ u h. not_lowest n u (omega (arith, b, l)) e l (λ q. omega (arith, b, q));
        after = λ u h k. not_lowest n u k e l (λ q. omega (arith, c, q));
      }
