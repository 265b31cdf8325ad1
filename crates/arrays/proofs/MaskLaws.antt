-- Masks against the rules' own words: a label without a read's bit lacks the variant, a label without all other variants is that
-- variant alone, and the mask of the fieldless variants has exactly their bits. Assumes nothing.
use mathlib.Core.Path.{◌≡◌, refl, ap, ◌∙◌, subst}
use mathlib.Core.Bool.{Bool, true, false}
use mathlib.Core.List.{List, [], ◌∷◌, Memᴰ}
use Prim.Native.Nat.{ℕ, zero, suc, ◌+◌, ◌*◌, ◌-◌, ◌/◌, ◌^◌, ◌≤◌, ◌<◌}
use native.Mathlib.Nat.{pow-suc, zero-add}
use native.Mathlib.Omega.{arith}
use lib.Bits.{and_le_l, and_zero_l, bit_and}
use lib.Dec.{eqb, ltb}
use lib.ListN.{get_or, length}
use borrow.Author.Tests.{eqb-false, eqb-true, ltb-false, ltb-true}
use Rattle.laws.specs.Bits.{bit}
use Rattle.laws.proofs.Bits.{and_missing, below, bit_and_lem, bit_but, bit-low, bit_own, bit_pow, bit_suc, bit_zero, sub_le}
use Rattle.laws.proofs.Bools.{either, or_cases}
use Rattle.guard.specs.Closure.{State, alone, class_of, every_variant, label_of}
use Rattle.guard.specs.Limits.{variant_limit}
use Rattle.guard.specs.Terms.{fieldless}
use Rattle.guard.specs.Types.{Variant}
use Rattle.guard.proofs.ClosureState.{Small}
use Rattle.guard.proofs.LeastClosure.{alone_of}
use Rattle.guard.proofs.TableLaws.{fieldless_has, fieldless-is}
use Rattle.arrays.specs.Arrays.{mask_of}

-- ---- labels

module _ (s : State) (small : Small s) (i v : ℕ) (fits : v < variant_limit) where
  -- a mask without one bit
  pub bit_gone : bit_and (label_of s i) (2 ^ v) ≡ 0 → bit (label_of s i) v ≡ 0
  bit_gone e =
      either (λ q. q) (λ q. absurd (omega (arith, q, bit_own v fits))) (and_missing (label_of s i) (2 ^ v) v (ap (λ (x : ℕ). bit x v) e ∙ bit_zero v))

  pub gone_bit : bit (label_of s i) v ≡ 0 → bit_and (label_of s i) (2 ^ v) ≡ 0
  unfolding Small
  gone_bit e =
      omega (
        arith,
        sub_le variant_limit 0 (bit_and (label_of s i) (2 ^ v)) (omega (arith, and_le_l (label_of s i) (2 ^ v), small (class_of s i)))
            (λ u hu z. go u hu (eqb u v) refl),
      )
    where
      go : (u : ℕ) → u < variant_limit → (b : Bool) → eqb u v ≡ b → bit (bit_and (label_of s i) (2 ^ v)) u ≡ 0
      go u hu true q = let z : bit (label_of s i) u ≡ 0 = ap (bit (label_of s i)) (eqb-true u v q) ∙ e in omega (arith, bit_and_lem (label_of s i) (2 ^ v) u)
      go u hu false q = omega (arith, bit_and_lem (label_of s i) (2 ^ v) u, bit_pow v u fits hu (eqb-false u v q))

  -- a mask without all bits but one
  pub others_gone : bit_and (label_of s i) (every_variant - 2 ^ v) ≡ 0 → alone s i v ≡ true
  others_gone e =
      alone_of s small i v (λ u hu n. either (λ q. q) (λ q. absurd (n (bit_but v u fits hu q)))
      (and_missing (label_of s i) (every_variant - 2 ^ v) u (ap (λ (x : ℕ). bit x u) e ∙ bit_zero u)))

  pub gone_others : alone s i v ≡ true → bit_and (label_of s i) (every_variant - 2 ^ v) ≡ 0
  gone_others e = either (λ q. of (2 ^ v) q lone_power) (λ q. of 0 q (and_zero_l (every_variant - 2 ^ v))) (or_cases (eqb (label_of s i) (2 ^ v)) (eqb (label_of s i) 0) e)
    where
      lone_power : bit_and (2 ^ v) (every_variant - 2 ^ v) ≡ 0
      lone_power = eqb-true _ _ (below (λ w. eqb (bit_and (2 ^ w) (every_variant - 2 ^ w)) 0) variant_limit refl v fits)

      of : (m : ℕ) → eqb (label_of s i) m ≡ true → bit_and m (every_variant - 2 ^ v) ≡ 0 → bit_and (label_of s i) (every_variant - 2 ^ v) ≡ 0
      of m q z = rw (eqb-true (label_of s i) m q) z

-- ---- the fieldless variants

-- variants counted from one more: a mask of twice the size
shifted : (n : ℕ) (vs : List Variant) → mask_of (fieldless (suc n) vs) ≡ 2 * mask_of (fieldless n vs)
shifted n [] = omega arith
shifted n ([] ∷ vs) = omega (arith, pow-suc 2 n, shifted (suc n) vs)
shifted n ((f ∷ fs) ∷ vs) = shifted (suc n) vs

-- the bit of a variant
lone : Variant → ℕ
lone [] = 1
lone (f ∷ fs) = 0

mask_cons : (fs : Variant) (vs : List Variant) → mask_of (fieldless 0 (fs ∷ vs)) ≡ lone fs + 2 * mask_of (fieldless 0 vs)
unfolding lone
mask_cons [] vs = omega (arith, shifted 0 vs)
mask_cons (f ∷ fs) vs = omega (arith, shifted 0 vs)

lone_small : (fs : Variant) → lone fs < 2
unfolding lone
lone_small [] = omega arith
lone_small (f ∷ fs) = omega arith

mask_next : (fs : Variant) (vs : List Variant) (u : ℕ) → bit (mask_of (fieldless 0 (fs ∷ vs))) (suc u) ≡ bit (mask_of (fieldless 0 vs)) u
mask_next fs vs u =
    let e : mask_of (fieldless 0 (fs ∷ vs)) / 2 ≡ mask_of (fieldless 0 vs) = omega (arith, mask_cons fs vs, lone_small fs) in
    bit_suc (mask_of (fieldless 0 (fs ∷ vs))) u ∙ ap (λ (m : ℕ). bit m u) e

mask_bit : (vs : List Variant) (u : ℕ) → u < length vs → bit (mask_of (fieldless 0 vs)) u ≡ lone (get_or vs u [])
mask_bit [] u h = absurd (omega arith)
mask_bit (fs ∷ vs) zero h = bit-low (mask_of (fieldless 0 (fs ∷ vs))) ∙ omega (arith, mask_cons fs vs, lone_small fs)
mask_bit (fs ∷ vs) (suc u) h = mask_next fs vs u ∙ mask_bit vs u (omega arith)

mask_past : (vs : List Variant) (u : ℕ) → length vs ≤ u → bit (mask_of (fieldless 0 vs)) u ≡ 0
mask_past [] u h = bit_zero u
mask_past (fs ∷ vs) zero h = absurd (omega arith)
mask_past (fs ∷ vs) (suc u) h = mask_next fs vs u ∙ mask_past vs u (omega arith)

pub fieldless-bit : (vs : List Variant) (v : ℕ) → Memᴰ v (fieldless 0 vs) → bit (mask_of (fieldless 0 vs)) v ≡ 1
unfolding lone
fieldless-bit vs v m =
    let (k, e, h, q) = fieldless-is 0 v vs m in
    let z : v ≡ k = omega (arith, e) in
    ap (bit (mask_of (fieldless 0 vs))) z ∙ mask_bit vs k h ∙ ap lone q

pub bit-fieldless : (vs : List Variant) (v : ℕ) → ¬ (bit (mask_of (fieldless 0 vs)) v ≡ 0) → Memᴰ v (fieldless 0 vs)
unfolding lone
bit-fieldless vs v n = go (ltb v (length vs)) refl
  where
    empty : (fs : Variant) → ¬ (lone fs ≡ 0) → fs ≡ []
    empty [] k = refl
    empty (f ∷ fs) k = absurd (k refl)

    go : (b : Bool) → ltb v (length vs) ≡ b → Memᴰ v (fieldless 0 vs)
    go true q =
        let h : v < length vs = ltb-true v (length vs) q in
        subst (λ (x : ℕ). Memᴰ x (fieldless 0 vs)) (zero-add v) (fieldless_has 0 v vs h (empty (get_or vs v []) (λ z. n (mask_bit vs v h ∙ z))))
    go false q = absurd (n (mask_past vs v (ltb-false v (length vs) q)))
