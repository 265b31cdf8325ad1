-- `answer`: there are at most eight branches. Assumes nothing.
use Rattle.std.proofs.Common.{◌≡◌, subst, sym, ℕ, ◌≤◌}
use Rattle.std.specs.Prelude.{Result, Ok, Err, IfOk, MatchResult}
use Rattle.guard.specs.Question.{number_of}
use Rattle.guard.specs.declared.Question.{Question}
use Rattle.branchverdicts.proofs.Corollaries.{few-told}
use Rattle.branchdesk.proofs.answer.Goals as goal

few : (judged : Result ℕ Question) (told : Result ℕ ℕ) → MatchResult judged (λ n. told ≡ Ok n) (λ q. told ≡ Err (number_of q)) → IfOk judged (λ n. n ≤ 8) → IfOk told (λ n. n ≤ 8)
few (Ok n) told is h = subst (λ (r : Result ℕ ℕ). IfOk r (λ n. n ≤ 8)) (sym is) h
few (Err q) told is h = subst (λ (r : Result ℕ ℕ). IfOk r (λ n. n ≤ 8)) (sym is) tt

pub print-requires-clause-many_bound : goal.print-requires-clause-many_bound
print-requires-clause-many_bound c = few _ _ c.told.ensures (few-told _ _ _ c.judge_branches-judged.ensures.value)
