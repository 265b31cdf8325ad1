-- Five numbers written one by one in front of a buffer, and the numbers of an answer: they tell which answer it was.
-- Assumes nothing.
use mathlib.Core.Path.{◌≡◌, refl, ap, sym, ◌∙◌}
use mathlib.Core.List.{List, [], ◌∷◌, ◌++◌}
use Prim.Native.Nat.{ℕ, ◌≤◌}
use native.Mathlib.Omega.{arith}
use lib.ListN.{length, drop, set}
use Rattle.guard.specs.declared.Answer.{Answer}
use Rattle.guard.specs.declared.Answer.TheVariants.{Refused, Sat, Unsat, Spent}
use Rattle.answernumbers.specs.Numbers.{answer_numbers}

pub five_sets : (xs : List ℕ) (a b c d e : ℕ) → 5 ≤ length xs → set (set (set (set (set xs 0 a) 1 b) 2 c) 3 d) 4 e ≡ a ∷ b ∷ c ∷ d ∷ e ∷ drop 5 xs
five_sets [] a b c d e h = absurd (omega (arith, h))
five_sets (x ∷ []) a b c d e h = absurd (omega (arith, h))
five_sets (x ∷ y ∷ []) a b c d e h = absurd (omega (arith, h))
five_sets (x ∷ y ∷ z ∷ []) a b c d e h = absurd (omega (arith, h))
five_sets (x ∷ y ∷ z ∷ u ∷ []) a b c d e h = absurd (omega (arith, h))
five_sets (x ∷ y ∷ z ∷ u ∷ v ∷ xs) a b c d e h = refl

-- the numbers of the variant that was matched are those of the answer
pub of_answer : (answer known : Answer) (rest now : List ℕ) → answer ≡ known → now ≡ answer_numbers known ++ rest → now ≡ answer_numbers answer ++ rest
of_answer answer known rest now e told = told ∙ ap (λ (a : Answer). answer_numbers a ++ rest) (sym e)

-- two answers with the same numbers are one
pub numbers_tell : (a b : Answer) → answer_numbers a ≡ answer_numbers b → a ≡ b
unfolding answer_numbers
numbers_tell (Refused q) (Refused p) e = let s : q ≡ p = cc in ap (λ (k : ℕ). Refused k) s
numbers_tell (Refused q) (Sat m g u p) e = let z : ◌≡◌ {A = ℕ} 0 1 = cc in absurd (omega (arith, z))
numbers_tell (Refused q) (Unsat m g u) e = let z : ◌≡◌ {A = ℕ} 0 2 = cc in absurd (omega (arith, z))
numbers_tell (Refused q) (Spent m g u) e = let z : ◌≡◌ {A = ℕ} 0 3 = cc in absurd (omega (arith, z))
numbers_tell (Sat n f s r) (Refused p) e = let z : ◌≡◌ {A = ℕ} 1 0 = cc in absurd (omega (arith, z))
numbers_tell (Sat n f s r) (Sat m g u p) e = let a : n ≡ m = cc in let b : f ≡ g = cc in let c : s ≡ u = cc in let d : r ≡ p = cc in rw (a, b, c, d) refl
numbers_tell (Sat n f s r) (Unsat m g u) e = let z : ◌≡◌ {A = ℕ} 1 2 = cc in absurd (omega (arith, z))
numbers_tell (Sat n f s r) (Spent m g u) e = let z : ◌≡◌ {A = ℕ} 1 3 = cc in absurd (omega (arith, z))
numbers_tell (Unsat n f s) (Refused p) e = let z : ◌≡◌ {A = ℕ} 2 0 = cc in absurd (omega (arith, z))
numbers_tell (Unsat n f s) (Sat m g u p) e = let z : ◌≡◌ {A = ℕ} 2 1 = cc in absurd (omega (arith, z))
numbers_tell (Unsat n f s) (Unsat m g u) e = let a : n ≡ m = cc in let b : f ≡ g = cc in let c : s ≡ u = cc in rw (a, b, c) refl
numbers_tell (Unsat n f s) (Spent m g u) e = let z : ◌≡◌ {A = ℕ} 2 3 = cc in absurd (omega (arith, z))
numbers_tell (Spent n f s) (Refused p) e = let z : ◌≡◌ {A = ℕ} 3 0 = cc in absurd (omega (arith, z))
numbers_tell (Spent n f s) (Sat m g u p) e = let z : ◌≡◌ {A = ℕ} 3 1 = cc in absurd (omega (arith, z))
numbers_tell (Spent n f s) (Unsat m g u) e = let z : ◌≡◌ {A = ℕ} 3 2 = cc in absurd (omega (arith, z))
numbers_tell (Spent n f s) (Spent m g u) e = let a : n ≡ m = cc in let b : f ≡ g = cc in let c : s ≡ u = cc in rw (a, b, c) refl
