-- Which question the number for an answer tells. Assumes nothing.
use Rattle.std.proofs.Common.{◌≡◌, refl, ap, ℕ, zero, suc, ◌<◌, arith}
use Rattle.std.specs.Prelude.{Result, Ok, Err}
use lib.IntN.{negsuc}
use Rattle.guard.specs.Question.{number_of}
use Rattle.guard.specs.declared.Question.{Question}
use Rattle.returncodes.specs.Code.{answer_code, code_of, minus}

-- a number above 0 is told of that number alone
pub code-tells : (answer : Result ℕ ℕ) (k : ℕ) → 0 < k → code_of answer ≡ minus k → answer ≡ Err k
code-tells answer zero l e = absurd (omega arith)
code-tells (Ok n) (suc k) l e = absurd cc
code-tells (Err q) (suc k) l e = ap Err (of_minus q e)
  where
    of_minus : (p : ℕ) → minus p ≡ negsuc k → p ≡ suc k
    of_minus zero e = absurd cc
    of_minus (suc p) e = let z : p ≡ k = cc in ap suc z

-- a question's number is told of that question alone
pub answer-tells : (answer : Result ℕ Question) (k : ℕ) → 0 < k → answer_code answer ≡ minus k → (q : Question) × (answer ≡ Err q) × (number_of q ≡ k)
answer-tells (Ok n) k l e = let d : Path (Result ℕ ℕ) (Ok n) (Err k) = code-tells (Ok n) k l e in absurd cc
answer-tells (Err q) k l e = let d : Path (Result ℕ ℕ) (Err (number_of q)) (Err k) = code-tells (Err (number_of q)) k l e in (q, refl, cc)
