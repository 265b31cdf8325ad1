-- Loops of a reader: after the elements read so far, what is left to read is the whole. Laws for the start of such a loop,
-- its next turn, a refusal and its end, for a parser so many times. Assumes nothing.
use mathlib.Core.Path.{◌≡◌, refl, ap, sym, ◌∙◌}
use mathlib.Core.List.{List, [], ◌∷◌, ◌++◌}
use Prim.Native.Nat.{ℕ, suc, ◌+◌, ◌-◌, ◌≤◌, ◌<◌}
use native.Mathlib.Omega.{arith}
use native.Mathlib.Nat.{sub-zero}
use lib.ListN.{length, drop, length-append}
use Rattle.guard.specs.Number.{Parsed.accepted, Parsed.refused, Parser, times}
use Rattle.guard.proofs.Repeats.{after, after_none, times-done, times-next, times_stop}

module _ {A : Type 0} where
  -- i of n elements are read, the elements xs, and the next one begins at the cursor `next`
  pub record Midway (p : Parser A) (n : ℕ) (bytes : List ℕ) (at i next : ℕ) (xs : List A) : Type 0 where
    pub count : length xs ≡ i
    pub within : next ≤ length bytes
    pub whole : after xs (times (n - i) p (drop next bytes)) ≡ times n p (drop at bytes)

  module _ (p : Parser A) (n : ℕ) (bytes : List ℕ) (at : ℕ) where
    pub midway_start : at ≤ length bytes → Midway p n bytes at 0 at []
    midway_start h =
        record {
          count = refl;
          within = h;
          whole = after_none (times (n - 0) p (drop at bytes)) ∙ ap (λ (k : ℕ). times k p (drop at bytes)) (sub-zero n);
        }

    module _ (i next : ℕ) (xs : List A) (m : Midway p n bytes at i next xs) where
      pub midway_next : i < n → (x : A) (next' : ℕ) → p (drop next bytes) ≡ accepted x (drop next' bytes) → next' ≤ length bytes
          → Midway p n bytes at (i + 1) next' (xs ++ (x ∷ []))
      midway_next h x next' e w =
          let k : n - i ≡ suc (n - (i + 1)) = omega arith in
          record {
            count = omega (arith, length-append xs (x ∷ []), m.count);
            within = w;
            whole = sym (times-next p xs (n - (i + 1)) (drop next bytes) x (drop next' bytes) e) ∙ ap (λ (k : ℕ). after xs (times k p (drop next bytes))) (sym k) ∙ m.whole;
          }

      pub midway_stop : i < n → (q : ℕ) → p (drop next bytes) ≡ refused q → times n p (drop at bytes) ≡ refused q
      midway_stop h q e =
          let k : n - i ≡ suc (n - (i + 1)) = omega arith in
          sym m.whole ∙ ap (λ (k : ℕ). after xs (times k p (drop next bytes))) k ∙ times_stop p xs (n - (i + 1)) (drop next bytes) q e

      pub midway_done : n ≤ i → times n p (drop at bytes) ≡ accepted xs (drop next bytes)
      midway_done h =
          let k : n - i ≡ 0 = omega arith in
          sym m.whole ∙ ap (λ (k : ℕ). after xs (times k p (drop next bytes))) k ∙ times-done p xs 0 (drop next bytes)
