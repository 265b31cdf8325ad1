-- Bits of a mask: conjunction, powers of two, masks with at most one bit, fewer bits. Assumes nothing.
use mathlib.Core.Path.{◌≡◌, refl, ap, sym, ◌∙◌}
use mathlib.Core.Bool.{Bool, true, false, not, ◌||◌, false≢true}
use mathlib.Core.Logic.{◌⊎◌, inl, inr}
use Prim.Native.Nat.{ℕ, zero, suc, ◌+◌, ◌-◌, ◌*◌, ◌/◌, ◌%◌, ◌^◌, ◌≤◌, ◌<◌, min}
use native.Mathlib.Omega.{arith}
use native.Mathlib.Nat.{zero-div, div-eq_of_lt, lt_of_lt_of_le, add-zero, zero-add, div-div-eq-div-mul, pow-suc, mul_comm, div-one}
use lib.Bits.{bit_and, and_high, and_shr, and_step}
use lib.Count.{ones, ones_step}
use lib.Pow.{ones_lt, pow-add, pow_mono}
use lib.Dec.{leb, eqb}
use borrow.Author.Tests.{eqb-true, eqb-false, leb-true, leb-false, ne_eqb, eq-eqb}
use Rattle.laws.specs.Bits.{bit}
use Rattle.laws.specs.Lists.{all, from}
use Rattle.laws.proofs.Bools.{and_left, and_right}

pub bit_zero : (v : ℕ) → bit 0 v ≡ 0
bit_zero v = rw (zero-div (2 ^ v))

pub bit_suc : (n u : ℕ) → bit n (suc u) ≡ bit (n / 2) u
bit_suc n u = ap (λ (x : ℕ). x % 2) (ap (λ (d : ℕ). n / d) (pow-suc 2 u ∙ mul_comm (2 ^ u) 2) ∙ sym (div-div-eq-div-mul n 2 (2 ^ u)))

pub bit-low : (n : ℕ) → bit n 0 ≡ n % 2
bit-low n = ap (λ (x : ℕ). x % 2) (div-one n)

and_low : (a b : ℕ) → bit_and a b % 2 ≡ min (a % 2) (b % 2)
and_low a b = omega (arith, and_step a b)

pub bit_and_lem : (a b v : ℕ) → bit (bit_and a b) v ≡ min (bit a v) (bit b v)
bit_and_lem a b v = rw (and_shr a b v) (and_low (a / 2 ^ v) (b / 2 ^ v))

-- one bit alone
pub and_one : (m v : ℕ) → bit_and m (2 ^ v) ≡ bit m v * 2 ^ v
and_one m v =
    let e : 2 ^ (1 + v) - 2 ^ v ≡ 2 ^ v = omega (arith, pow-add 2 1 v) in
    ap (bit_and m) (sym e) ∙ and_high m 1 v

-- a common bit that is missing is missing on one side
pub and_missing : (a b v : ℕ) → bit (bit_and a b) v ≡ 0 → (bit a v ≡ 0) ⊎ (bit b v ≡ 0)
and_missing a b v e = go (eqb (bit a v) 0) refl
  where
    go : (x : Bool) → eqb (bit a v) 0 ≡ x → (bit a v ≡ 0) ⊎ (bit b v ≡ 0)
    go true q = inl (eqb-true _ _ q)
    go false q = inr (omega (arith, eqb-false (bit a v) 0 q, bit_and_lem a b v, e))

-- a bit that is there
pub bit_le : (n v : ℕ) → ¬ (bit n v ≡ 0) → 2 ^ v ≤ n
bit_le n v h = go (leb (2 ^ v) n) refl
  where
    go : (b : Bool) → leb (2 ^ v) n ≡ b → 2 ^ v ≤ n
    go true e = leb-true _ _ e
    go false e = absurd (h (ap (λ (x : ℕ). x % 2) (div-eq_of_lt (leb-false (2 ^ v) n e))))

-- ---- 16-bit masks, each law by one computed test over a table

module _ (p : ℕ → Bool) where
  step : (n a k : ℕ) → all p (from n a) ≡ true → k < n → p (a + k) ≡ true
  step zero a k t h = absurd (omega arith)
  step (suc n) a zero t h = rw add-zero (and_left (p a) (all p (from n (suc a))) t)
  step (suc n) a (suc k) t h =
      let e : a + suc k ≡ suc a + k = omega arith in rw e (step n (suc a) k (and_right (p a) (all p (from n (suc a))) t) (omega arith))

  -- a test that is computed for all numbers below n
  pub below : (n : ℕ) → all p (from n 0) ≡ true → (k : ℕ) → k < n → p k ≡ true
  below n t k h = rw (zero-add k) at (step n 0 k t h)

implies : Bool → Bool → Bool
implies a b = not a || b

use_implies : (a b : Bool) → implies a b ≡ true → a ≡ true → b ≡ true
unfolding implies
use_implies true b e h = e
use_implies false b e h = absurd (false≢true h)

table : (ℕ → ℕ → Bool) → ℕ → Bool
table f n = all (λ v. all (λ u. f v u) (from 16 0)) (from n 0)

look : (f : ℕ → ℕ → Bool) (n : ℕ) → table f n ≡ true → (v u : ℕ) → v < n → u < 16 → f v u ≡ true
unfolding table
look f n t v u hv hu = below (f v) 16 (below (λ w. all (λ u'. f w u') (from 16 0)) n t v hv) u hu

-- a power has its own bit alone
pub bit_pow : (v u : ℕ) → v < 16 → u < 16 → ¬ (u ≡ v) → bit (2 ^ v) u ≡ 0
unfolding table implies
bit_pow v u hv hu n =
    eqb-true _ _ (use_implies (not (eqb u v)) (eqb (bit (2 ^ v) u) 0) (look (λ v' u'. implies (not (eqb u' v')) (eqb (bit (2 ^ v') u') 0)) 16 refl v u hv hu) (ap not (ne_eqb u v n)))

pub bit_own : (v : ℕ) → v < 16 → bit (2 ^ v) v ≡ 1
bit_own v hv = eqb-true _ _ (below (λ w. eqb (bit (2 ^ w) w) 1) 16 refl v hv)

-- every bit but one
pub bit_but : (v u : ℕ) → v < 16 → u < 16 → bit (2 ^ 16 - 1 - 2 ^ v) u ≡ 0 → u ≡ v
unfolding table implies
bit_but v u hv hu e =
    eqb-true _ _ (use_implies (eqb (bit (2 ^ 16 - 1 - 2 ^ v) u) 0) (eqb u v) (look (λ v' u'. implies (eqb (bit (2 ^ 16 - 1 - 2 ^ v') u') 0) (eqb u' v')) 16 refl v u hv hu) (eq-eqb _ _ e))

pub but_own : (v : ℕ) → v < 16 → bit (2 ^ 16 - 1 - 2 ^ v) v ≡ 0
but_own v hv = eqb-true _ _ (below (λ w. eqb (bit (2 ^ 16 - 1 - 2 ^ w) w) 0) 16 refl v hv)

-- the n low bits
pub bit_ones : (n u : ℕ) → n < 17 → u < 16 → bit (2 ^ n - 1) u ≡ 0 → n ≤ u
unfolding table implies
bit_ones n u hn hu e =
    leb-true _ _ (use_implies (eqb (bit (2 ^ n - 1) u) 0) (leb n u) (look (λ n' u'. implies (eqb (bit (2 ^ n' - 1) u') 0) (leb n' u')) 17 refl n u hn hu) (eq-eqb _ _ e))

pub ones_past : (n u : ℕ) → n ≤ u → bit (2 ^ n - 1) u ≡ 0
ones_past n u h = rw (div-eq_of_lt (lt_of_lt_of_le (ones_lt n) (pow_mono h)))

-- ---- masks with at most one bit

none-set : (k n : ℕ) → n < 2 ^ k → ((u : ℕ) → u < k → bit n u ≡ 0) → n ≡ 0
none-set zero n h f = omega arith
none-set (suc k) n h f =
    let e : n / 2 ≡ 0 = none-set k (n / 2) (omega (arith, pow-suc 2 k)) (λ u hu. sym (bit_suc n u) ∙ f (suc u) (omega arith)) in
    omega (arith, bit-low n, f 0 (omega arith))

pub one_set : (k v n : ℕ) → n < 2 ^ k → ((u : ℕ) → u < k → ¬ (u ≡ v) → bit n u ≡ 0) → (n ≡ 0) ⊎ (n ≡ 2 ^ v)
one_set zero v n h f = inl (omega arith)
one_set (suc k) zero n h f =
    let e : n / 2 ≡ 0 = none-set k (n / 2) (omega (arith, pow-suc 2 k)) (λ u hu. sym (bit_suc n u) ∙ f (suc u) (omega arith) (λ q. omega (arith, q))) in
    go (n % 2) refl e
  where
    go : (r : ℕ) → n % 2 ≡ r → n / 2 ≡ 0 → (n ≡ 0) ⊎ (n ≡ 1)
    go zero q e = inl (omega arith)
    go (suc r) q e = inr (omega arith)
one_set (suc k) (suc v) n h f =
    go (one_set k v (n / 2) (omega (arith, pow-suc 2 k)) (λ u hu d. sym (bit_suc n u) ∙ f (suc u) (omega arith) (λ q. d (omega (arith, q)))))
    (sym (bit-low n) ∙ f 0 (omega arith) (λ q. omega (arith, q)))
  where
    go : (n / 2 ≡ 0) ⊎ (n / 2 ≡ 2 ^ v) → n % 2 ≡ 0 → (n ≡ 0) ⊎ (n ≡ 2 ^ suc v)
    go (inl e) q = inl (omega arith)
    go (inr e) q = inr (omega (arith, pow-suc 2 v))

-- ---- fewer bits: b has no bit that a lacks

module _ (k a b : ℕ) (small : b < 2 ^ suc k) (inside : (v : ℕ) → v < suc k → bit a v ≡ 0 → bit b v ≡ 0) where
  half_small : b / 2 < 2 ^ k
  half_small = omega (arith, pow-suc 2 k)

  half_inside : (v : ℕ) → v < k → bit (a / 2) v ≡ 0 → bit (b / 2) v ≡ 0
  half_inside v hv e = sym (bit_suc b v) ∙ inside (suc v) (omega arith) (bit_suc a v ∙ e)

  low-inside : b % 2 ≤ a % 2
  low-inside = go (a % 2) refl
    where
      go : (r : ℕ) → a % 2 ≡ r → b % 2 ≤ a % 2
      go zero q = omega (arith, inside 0 (omega arith) (bit-low a ∙ q), bit-low b)
      go (suc r) q = omega arith

pub sub_ones : (k a b : ℕ) → b < 2 ^ k → ((v : ℕ) → v < k → bit a v ≡ 0 → bit b v ≡ 0) → ones b ≤ ones a
sub_ones zero a b h f = let z : b ≡ 0 = omega arith in rw z (unfold ones in omega arith)
sub_ones (suc k) a b h f =
    omega (arith, ones_step a, ones_step b, low-inside k a b h f, sub_ones k (a / 2) (b / 2) (half_small k a b h f) (half_inside k a b h f))

pub sub_le : (k a b : ℕ) → b < 2 ^ k → ((v : ℕ) → v < k → bit a v ≡ 0 → bit b v ≡ 0) → b ≤ a
sub_le zero a b h f = omega arith
sub_le (suc k) a b h f =
    omega (arith, low-inside k a b h f, sub_le k (a / 2) (b / 2) (half_small k a b h f) (half_inside k a b h f))

pub sub_less : (k a b : ℕ) → b < 2 ^ k → ((v : ℕ) → v < k → bit a v ≡ 0 → bit b v ≡ 0) → ¬ (b ≡ a) → ones b < ones a ⊎ (2 ^ k ≤ a)
sub_less zero a b h f ne = inr (omega arith)
sub_less (suc k) a b h f ne = go (eqb (b / 2) (a / 2)) refl (sub_less k (a / 2) (b / 2) (half_small k a b h f) (half_inside k a b h f))
  where
    low : b % 2 ≤ a % 2
    low = low-inside k a b h f

    go : (c : Bool) → eqb (b / 2) (a / 2) ≡ c → (¬ (b / 2 ≡ a / 2) → ones (b / 2) < ones (a / 2) ⊎ (2 ^ k ≤ a / 2)) → ones b < ones a ⊎ (2 ^ suc k ≤ a)
    go true e ih =
        let q : b / 2 ≡ a / 2 = eqb-true (b / 2) (a / 2) e in
        let o : ones (b / 2) ≡ ones (a / 2) = ap ones q in
        let r : ¬ (b % 2 ≡ a % 2) = λ z. ne (omega (arith, q, z)) in
        inl (omega (arith, ones_step a, ones_step b, low, r))
    go false e ih = pick (ih (eqb-false (b / 2) (a / 2) e))
      where
        pick : ones (b / 2) < ones (a / 2) ⊎ (2 ^ k ≤ a / 2) → ones b < ones a ⊎ (2 ^ suc k ≤ a)
        pick (inl l) = inl (omega (arith, ones_step a, ones_step b, low, l))
        pick (inr l) = inr (omega (arith, pow-suc 2 k, l))
