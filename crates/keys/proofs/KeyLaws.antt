-- Two active shapes of one variant have the same parts exactly if their first keys are equal, and equal terms exactly if their second
-- ones are. So where both are equal or none is, all that the two say of each other holds. Assumes nothing.
use mathlib.Core.Path.{◌≡◌, refl, ap, sym, subst, ◌∙◌}
use mathlib.Core.Bool.{Bool, true, false, false≢true, ◌&&◌}
use mathlib.Core.List.{List, Memᴰ}
use mathlib.Core.Logic.{inl, inr}
use Prim.Native.Nat.{ℕ, zero, suc, ◌+◌, ◌*◌, ◌%◌, ◌≤◌, ◌<◌}
use native.Mathlib.Omega.{arith}
use lib.Dec.{eqb, ltb}
use lib.ListN.{get_or}
use borrow.Author.Tests.{eq-eqb, eqb-true, ltb-false, ltb-true}
use Rattle.laws.specs.All.{All, All.none}
use Rattle.laws.specs.Lists.{from}
use Rattle.laws.proofs.Bools.{and_left, and_right, by_test}
use Rattle.laws.proofs.Lists.{all_append, all-concat_map, all_true_inv, from_bounds, mem_concat_map, mem_concat_map_inv, mem_from}
use Rattle.guard.specs.Closure.{Fact, State, class_of, holds, same_class}
use Rattle.passes.specs.Pass.{Due, Pass}
use Rattle.passes.proofs.PassLaws.{one_more, settled, steps-more, up_to}
use Rattle.arrays.specs.Slots.{ShapesFit, active, kind_at, many_at, owner_at, part_at}
use Rattle.arrays.proofs.DueLaws.{quiet_one}
use Rattle.congruence.specs.Due.{alike, owners_due, part_due, parts_due, same_owners, same_parts, shape_due, shapes_meet}
use Rattle.congruence.proofs.Tests.{inactive, unlike}
use Rattle.keys.specs.Keys.{Keyed, Quiet, kind_byte, owner_key, parts_key}

-- ---- what the keys tell

-- three classes and the same kind
module _ (h a b c : ℕ) {d e f : ℕ} (la : a < 256) (lb : b < 256) (lc : c < 256) (ld : d < 256) (le : e < 256) (lf : f < 256)
    (q : 16777216 * h + 65536 * a + 256 * b + c ≡ 16777216 * h + 65536 * d + 256 * e + f) where
  first-digit : a ≡ d
  first-digit = omega arith

  second-digit : b ≡ e
  second-digit = omega arith

  third-digit : c ≡ f
  third-digit = omega arith

module _ (shapes : List ℕ) (fit : ShapesFit shapes) (s : State) (inside : (x : ℕ) → class_of s x < 96) (parts owners : List ℕ) (w : Keyed shapes s 30 parts owners)
    (k i : ℕ) (hk : k < 30) (hi : i < 30) (like : alike shapes s k i ≡ true) where
  kinds : kind_at shapes k ≡ kind_at shapes i
  unfolding alike
  kinds = eqb-true _ _ (and_left (eqb (kind_at shapes k) (kind_at shapes i)) _ like)

  first : active shapes s k ≡ true
  unfolding alike
  first = and_left (active shapes s k) _ (and_right (eqb (kind_at shapes k) (kind_at shapes i)) _ like)

  second : active shapes s i ≡ true
  unfolding alike
  second = and_right (active shapes s k) _ (and_right (eqb (kind_at shapes k) (kind_at shapes i)) _ like)

  bytes : kind_byte shapes i ≡ kind_byte shapes k
  bytes = ap (λ (n : ℕ). n % 256) (sym kinds)

  abbrev part : ℕ → ℕ → ℕ
  part j p = class_of s (part_at shapes j p)

  same_key : same_parts shapes s k i ≡ true → get_or parts i 0 ≡ get_or parts k 0
  unfolding same_parts
  same_key e = w.parts_are i hi second ∙ omega (arith, bytes, at 0 (omega arith), at 1 (omega arith), at 2 (omega arith)) ∙ sym (w.parts_are k hk first)
    where
      at : (p : ℕ) → p < 3 → part i p ≡ part k p
      at p h =
          by_test (ltb p (many_at shapes k))
          (λ t. eqb-true _ _ (all_true_inv (λ p. same_class s (part_at shapes i p) (part_at shapes k p)) (from (many_at shapes k) 0) e p (mem_from (many_at shapes k) 0 p (omega arith) (omega (arith, ltb-true p (many_at shapes k) t)))))
          (λ t. ap (class_of s) (fit.past i p hi h (omega (arith, fit.arity k i hk hi kinds, ltb-false p (many_at shapes k) t)) ∙ sym (fit.past k p hk h (ltb-false p (many_at shapes k) t))))

  key_same : get_or parts i 0 ≡ get_or parts k 0 → (p : ℕ) → p < many_at shapes k → part i p ≡ part k p
  key_same e p h = at p (omega (arith, fit.many k hk))
    where
      small : (j p : ℕ) → part j p < 256
      small j p = omega (arith, inside (part_at shapes j p))

      keys : parts_key shapes s i ≡ 16777216 * kind_byte shapes i + 65536 * part k 0 + 256 * part k 1 + part k 2
      keys = sym (w.parts_are i hi second) ∙ e ∙ w.parts_are k hk first ∙ omega (arith, bytes)

      at : (p : ℕ) → p < 3 → part i p ≡ part k p
      at zero h = first-digit (kind_byte shapes i) (part i 0) (part i 1) (part i 2) (small i 0) (small i 1) (small i 2) (small k 0) (small k 1) (small k 2) keys
      at (suc zero) h = second-digit (kind_byte shapes i) (part i 0) (part i 1) (part i 2) (small i 0) (small i 1) (small i 2) (small k 0) (small k 1) (small k 2) keys
      at (suc (suc zero)) h = third-digit (kind_byte shapes i) (part i 0) (part i 1) (part i 2) (small i 0) (small i 1) (small i 2) (small k 0) (small k 1) (small k 2) keys
      at (suc (suc (suc p))) h = absurd (omega arith)

  same-owner : get_or owners i 0 ≡ get_or owners k 0 → class_of s (owner_at shapes i) ≡ class_of s (owner_at shapes k)
  same-owner e = let q : owner_key shapes s i ≡ owner_key shapes s k = sym (w.owners_are i hi second) ∙ e ∙ w.owners_are k hk first in omega (arith, bytes, q)

  owner-same : class_of s (owner_at shapes i) ≡ class_of s (owner_at shapes k) → get_or owners i 0 ≡ get_or owners k 0
  owner-same e = w.owners_are i hi second ∙ omega (arith, bytes, e) ∙ sym (w.owners_are k hk first)

  agreed-pair : eqb (get_or parts i 0) (get_or parts k 0) ≡ eqb (get_or owners i 0) (get_or owners k 0) → All (λ f. holds s f ≡ true) (shapes_meet shapes s k i)
  unfolding shapes_meet owners_due parts_due part_due
  agreed-pair q =
      all_append
      (quiet_one (alike shapes s k i && same_parts shapes s k i) (owner_at shapes i) (owner_at shapes k) s
      (λ t. same-owner (eqb-true _ _ (sym q ∙ eq-eqb _ _ (same_key (and_right (alike shapes s k i) _ t))))))
      (all-concat_map (part_due shapes s k i) (from (many_at shapes k) 0) (λ p m.
      quiet_one (alike shapes s k i && same_owners shapes s k i) (part_at shapes i p) (part_at shapes k p) s
      (λ t. key_same (eqb-true _ _ (q ∙ eq-eqb _ _ (owner-same (eqb-true _ _ (and_right (alike shapes s k i) _ t))))) p (omega (arith, (from_bounds (many_at shapes k) 0 p m).1)))))

-- a shape and those before it
module _ (shapes : List ℕ) (fit : ShapesFit shapes) (s : State) (inside : (x : ℕ) → class_of s x < 96) (parts owners : List ℕ) (w : Keyed shapes s 30 parts owners) (k : ℕ) (hk : k < 30) where
  quiet-shape : Quiet parts owners k → All (λ f. holds s f ≡ true) (shape_due shapes s k)
  unfolding shape_due
  quiet-shape (inl z) =
      by_test (active shapes s k) (λ a. absurd (omega (arith, z, w.owners_are k hk a)))
      (λ a. subst (All (λ f. holds s f ≡ true)) (sym (inactive shapes s k a)) none)
  quiet-shape (inr q) =
      all-concat_map (shapes_meet shapes s k) (from k 0) (λ i m. let l : i < k = omega (arith, (from_bounds k 0 i m).1) in
      by_test (alike shapes s k i) (λ a. agreed-pair shapes fit s inside parts owners w k i hk (omega arith) a (q i l))
      (λ a. subst (All (λ f. holds s f ≡ true)) (sym (unlike shapes s k i a)) none))

  pub quiet_pass : Quiet parts owners k → Pass (λ x. shape_due shapes x k) s s false
  quiet_pass q = settled (λ x. shape_due shapes x k) s (quiet-shape q)

-- ---- one shape after the other, until one changes something

module _ (due : ℕ → Due) where
  -- a change will do, whatever else is due
  change_will_do : (n end : ℕ) {s s' : State} → n ≤ end → Pass (up_to due n) s s' true → Pass (up_to due end) s s' true
  change_will_do n end {s = s} {s' = s'} h p = record { steps = steps-more {s = s} further p.steps; falls = p.falls; quiet = λ e. absurd (false≢true (sym e)) }
    where
      further : (x : State) (f : Fact) → Memᴰ f (up_to due n x) → Memᴰ f (up_to due end x)
      further x =
          mem_concat_map_inv (λ e. due e x) (λ f. Memᴰ f (up_to due end x)) (from n 0)
          (λ k m f i. mem_concat_map (λ e. due e x) (from end 0) (mem_from end 0 k (omega arith) (omega (arith, (from_bounds n 0 k m).1))) i)

  pub changed_at : (n end : ℕ) {s s' s'' : State} (r : Bool) → n < end → Pass (up_to due n) s s' false → Pass (due n) s' s'' r → r ≡ true → Pass (up_to due end) s s'' true
  changed_at n end r h p q e = change_will_do (n + 1) end (omega arith) (one_more due n false r true p q (inl (e, refl)))

  pub unchanged_at : (n : ℕ) {s s' s'' : State} (r : Bool) → Pass (up_to due n) s s' false → Pass (due n) s' s'' r → r ≡ false → Pass (up_to due (n + 1)) s s'' false
  unchanged_at n r p q e = one_more due n false r false p q (inr (e, refl))
