-- The variants of a label are found bit by bit from the lowest on, so their number is that of the ones, and the lowest
-- stands behind the trailing zeros. Assumes nothing.
use mathlib.Core.Path.{◌≡◌, refl, ap, sym, ◌∙◌}
use mathlib.Core.Bool.{Bool, true, false, not, ◌||◌}
use mathlib.Core.List.{List, [], ◌∷◌, map}
use Prim.Native.Nat.{ℕ, zero, suc, ◌+◌, ◌-◌, ◌*◌, ◌/◌, ◌%◌, ◌^◌, ◌<◌}
use native.Mathlib.Nat.{one-mul}
use native.Mathlib.Numerals.{add-one}
use native.Mathlib.Omega.{arith}
use lib.Bits.{bit_and}
use lib.Count.{ones, ones_step, count_trailing_zeros, under}
use lib.Dec.{eqb, lit<}
use lib.ListN.{length, get_or, length-map}
use lib.Pow.{pow_pos, shl_exact, shr_lt}
use borrow.Author.Tests.{eq-eqb, ne_eqb}
use Rattle.laws.specs.Bits.{bit}
use Rattle.laws.specs.Lists.{cons_if, filter, from}
use Rattle.laws.proofs.Bits.{and_one, bit-low, bit_suc}
use Rattle.guard.specs.Limits.{variant_limit}
use Rattle.labels.specs.Label.{variants_below, variants_in}

-- ---- one bit

-- a shifted 1
pub shifted_one : (v : ℕ) → v < 16 → (1 * 2 ^ v) % 2 ^ 16 ≡ 2 ^ v
shifted_one v h = shl_exact 1 v 16 (lit< tt) (omega arith) ∙ one-mul (2 ^ v)

bit_test : (m v : ℕ) → eqb (bit_and m (2 ^ v)) 0 ≡ eqb (bit m v) 0
bit_test m v = ap (λ (x : ℕ). eqb x 0) (and_one m v) ∙ go (bit m v) (omega arith)
  where
    go : (d : ℕ) → d < 2 → eqb (d * 2 ^ v) 0 ≡ eqb d 0
    go zero h = eq-eqb (0 * 2 ^ v) 0 (omega arith) ∙ sym (eq-eqb 0 0 refl)
    go (suc zero) h = ne_eqb (1 * 2 ^ v) 0 (λ e. omega (arith, e, pow_pos v)) ∙ sym (ne_eqb 1 0 (λ e. omega arith))
    go (suc (suc d)) h = absurd (omega arith)

module _ (m v : ℕ) (small : v < 16) where
  pub lacks_test : eqb (bit_and m ((1 * 2 ^ v) % 2 ^ 16)) 0 ≡ eqb (bit m v) 0
  lacks_test = ap (λ (x : ℕ). eqb (bit_and m x) 0) (shifted_one v small) ∙ bit_test m v

  -- by the first test: the variant alone, or something else
  pub alone_test : m ≡ (1 * 2 ^ v) % 2 ^ 16 → eqb m ((1 * 2 ^ v) % 2 ^ 16) ≡ (eqb m (2 ^ v) || eqb m 0)
  alone_test e = eq-eqb m _ e ∙ sym (ap (λ (b : Bool). b || eqb m 0) (eq-eqb m (2 ^ v) (e ∙ shifted_one v small)))

  pub other_test : ¬ (m ≡ (1 * 2 ^ v) % 2 ^ 16) → eqb m 0 ≡ (eqb m (2 ^ v) || eqb m 0)
  other_test n = sym (ap (λ (b : Bool). b || eqb m 0) (ne_eqb m (2 ^ v) (λ e. n (e ∙ sym (shifted_one v small)))))

-- ---- the variants, from the lowest bit on

map_if : (b : Bool) (x : ℕ) (xs : List ℕ) → map suc (cons_if b x xs) ≡ cons_if b (suc x) (map suc xs)
map_if true x xs = refl
map_if false x xs = refl

filter_shift : (p : ℕ → Bool) (k a : ℕ) → filter p (from k (suc a)) ≡ map suc (filter (λ u. p (suc u)) (from k a))
filter_shift p zero a = refl
filter_shift p (suc k) a = ap (cons_if (p (suc a)) (suc a)) (filter_shift p k (suc a)) ∙ sym (map_if (p (suc a)) a (filter (λ u. p (suc u)) (from k (suc a))))

filter_same : (p q : ℕ → Bool) → ((u : ℕ) → p u ≡ q u) → (xs : List ℕ) → filter p xs ≡ filter q xs
filter_same p q e [] = refl
filter_same p q e (x ∷ xs) = ap (λ (b : Bool). cons_if b x (filter p xs)) (e x) ∙ ap (cons_if (q x) x) (filter_same p q e xs)

by_bits : (k m : ℕ) → variants_below (suc k) m ≡ cons_if (not (eqb (m % 2) 0)) 0 (map suc (variants_below k (m / 2)))
by_bits k m =
    ap (λ (d : ℕ). cons_if (not (eqb d 0)) 0 (filter (λ v. not (eqb (bit m v) 0)) (from k 1))) (bit-low m)
    ∙ ap (cons_if (not (eqb (m % 2) 0)) 0)
    (filter_shift (λ v. not (eqb (bit m v) 0)) k 0
    ∙ ap (map suc) (filter_same (λ u. not (eqb (bit m (suc u)) 0)) (λ u. not (eqb (bit (m / 2) u) 0)) (λ u. ap (λ (d : ℕ). not (eqb d 0)) (bit_suc m u)) (from k 0)))

-- a bit put before variants: one more if it is set
bit_length : (d : ℕ) (l : List ℕ) → d < 2 → length (cons_if (not (eqb d 0)) 0 (map suc l)) ≡ d + length l
bit_length zero l h = length-map l suc ∙ omega arith
bit_length (suc zero) l h = omega (arith, length-map l suc)
bit_length (suc (suc d)) l h = absurd (omega arith)

size_below : (k m : ℕ) → m < 2 ^ k → length (variants_below k m) ≡ ones m
unfolding ones
size_below zero m h = let z : m ≡ 0 = omega arith in sym (ap ones z)
size_below (suc k) m h =
    let r = size_below k (m / 2) (shr_lt k 1 (rw add-one h)) in
    ap length (by_bits k m) ∙ bit_length (m % 2) (variants_below k (m / 2)) (omega arith) ∙ ap (λ (n : ℕ). m % 2 + n) r ∙ sym (ones_step m)

bit-lowest : (d k : ℕ) (l : List ℕ) → d < 2 → get_or (cons_if (not (eqb d 0)) 0 (map suc l)) 0 (suc k) ≡ under d (get_or l 0 k)
bit-lowest zero k [] h = refl
bit-lowest zero k (x ∷ l) h = refl
bit-lowest (suc zero) k l h = refl
bit-lowest (suc (suc d)) k l h = absurd (omega arith)

lowest-below : (k m : ℕ) → get_or (variants_below k m) 0 k ≡ count_trailing_zeros k m
unfolding count_trailing_zeros
lowest-below zero m = refl
lowest-below (suc k) m =
    ap (λ (l : List ℕ). get_or l 0 (suc k)) (by_bits k m) ∙ bit-lowest (m % 2) k (variants_below k (m / 2)) (omega arith) ∙ ap (under (m % 2)) (lowest-below k (m / 2))

pub size_is : (m : ℕ) → m < 2 ^ 16 → ones m ≡ length (variants_in m)
unfolding variants_in
size_is m h = sym (size_below variant_limit m h)

pub lowest-is : (m : ℕ) → count_trailing_zeros 16 m ≡ get_or (variants_in m) 0 16
unfolding variants_in
lowest-is m = sym (lowest-below variant_limit m)
