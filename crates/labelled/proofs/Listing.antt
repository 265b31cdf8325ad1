-- A list of the numbers that pass a test, made number by number. Assumes nothing.
use mathlib.Core.Path.{◌≡◌, refl, ap, sym, ◌∙◌}
use mathlib.Core.Bool.{Bool, true, false, false≢true}
use mathlib.Core.List.{List}
use Prim.Native.Nat.{ℕ, ◌+◌, ◌<◌}
use native.Mathlib.Omega.{arith}
use lib.Dec.{eqb, ltb}
use lib.ListN.{get_or-eq_default, get_or, get_or-replicate, length, length-replicate, replicate, set}
use lib.Seq.{get_or-set_other, get_or-set_same}
use borrow.Author.Tests.{eqb-false, eqb-true, ltb-false, ltb-true}
use Rattle.laws.proofs.Bools.{by_test}
use Rattle.arrays.specs.Slots.{SortsFit, sort_at}
use Rattle.labelled.specs.Covers.{Lists}
use Rattle.labelled.proofs.Covering.{place, somewhere}
use Rattle.laws.specs.Lists.{any, from}

zeros : (n i : ℕ) → get_or {A = ℕ} (replicate n 0) i 0 ≡ 0
zeros n i = by_test (ltb i n) (λ b. get_or-replicate {A = ℕ} n i 0 0 (ltb-true i n b)) (λ b. get_or-eq_default (replicate {A = ℕ} n 0) 0 (omega (arith, ltb-false i n b, length-replicate {A = ℕ} n 0)))

module _ (p : ℕ → Bool) where
  pub lists_none : (room : ℕ) → Lists p 0 (replicate room 0) 0
  lists_none room =
      record {
        covers = record { few = omega arith; below = λ i h. absurd (omega arith); rising = λ i j l h. absurd (omega arith); every = λ x h e. absurd (omega arith) };
        passes = λ i h. absurd (omega arith);
        past = λ i h. zeros room i;
      }

  module _ (x : ℕ) (list : List ℕ) (k : ℕ) (l : Lists p x list k) where
    -- number x doesn't pass
    pub lists_without : p x ≡ false → Lists p (x + 1) list k
    lists_without e =
        record {
          covers = record {
            few = omega (arith, l.covers.few);
            below = λ i h. omega (arith, l.covers.below i h);
            rising = l.covers.rising;
            every = λ y h t. by_test (eqb y x) (λ q. absurd (false≢true (sym e ∙ ap p (sym (eqb-true y x q)) ∙ t))) (λ q. l.covers.every y (omega (arith, eqb-false y x q)) t);
          };
          passes = l.passes;
          past = l.past;
        }

    -- number x passes, and is put behind the others
    pub lists_with : k < length list → p x ≡ true → Lists p (x + 1) (set list k x) (k + 1)
    lists_with room e =
        record {
          covers = record { few = omega (arith, l.covers.few); below = below; rising = rising; every = every };
          passes = λ i h. by_place i h (λ q. ap p (here i q) ∙ e) (λ n o. ap p (there i o) ∙ l.passes i n);
          past = λ i h. there i (λ q. omega (arith, q)) ∙ l.past i (omega arith);
        }
      where
        here : (i : ℕ) → i ≡ k → get_or (set list k x) i 0 ≡ x
        here i q = ap (λ (j : ℕ). get_or (set list k x) j 0) q ∙ get_or-set_same list k x 0 room

        there : (i : ℕ) → ¬ (i ≡ k) → get_or (set list k x) i 0 ≡ get_or list i 0
        there i n = get_or-set_other list k i x 0 n

        by_place : {P : Type 0} (i : ℕ) → i < k + 1 → (i ≡ k → P) → (i < k → ¬ (i ≡ k) → P) → P
        by_place i h f g = by_test (eqb i k) (λ q. f (eqb-true i k q)) (λ q. g (omega (arith, eqb-false i k q)) (eqb-false i k q))

        below : (i : ℕ) → i < k + 1 → get_or (set list k x) i 0 < x + 1
        below i h = by_place i h (λ q. omega (arith, here i q)) (λ n o. omega (arith, there i o, l.covers.below i n))

        rising : (i j : ℕ) → i < j → j < k + 1 → get_or (set list k x) i 0 < get_or (set list k x) j 0
        rising i j o h =
            by_place j h (λ q. omega (arith, here j q, there i (λ r. omega (arith, r, q)), l.covers.below i (omega (arith, q))))
            (λ n d. omega (arith, there j d, there i (λ r. omega (arith, r)), l.covers.rising i j o n))

        every : (y : ℕ) → y < x + 1 → p y ≡ true → any (λ i. eqb (get_or (set list k x) i 0) y) (from (k + 1) 0) ≡ true
        every y h t =
            by_test (eqb y x) (λ q. somewhere (set list k x) (k + 1) y k (omega arith) (here k refl ∙ sym (eqb-true y x q)))
            (λ q.
            let (i, n, f) = place list k y (l.covers.every y (omega (arith, eqb-false y x q)) t) in
            somewhere (set list k x) (k + 1) y i (omega arith) (there i (λ r. omega (arith, r, n)) ∙ f))

-- ---- a term's type is there

pub sort_small : (sorts : List ℕ) (x : ℕ) → SortsFit sorts → sort_at sorts x < 7
sort_small sorts x fit = fit.sort x
