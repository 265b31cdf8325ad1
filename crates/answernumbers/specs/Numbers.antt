-- An answer as five numbers. Assumes nothing: definitions.
use Rattle.std.specs.Prelude.{List, [], ◌∷◌, ℕ}
use Rattle.guard.specs.declared.Answer.{Answer}
use Rattle.guard.specs.declared.Answer.TheVariants.{Refused, Sat, Unsat, Spent}

-- the numbers of an answer: its verdict (0 REFUSED, 1 SAT, 2 UNSAT, 3 SPENT); the question that got a no, the node count
-- or the budget; how many rows are shown, none but after SAT; and the splits of the first and of the second kind
unfoldable pub answer_numbers : Answer → List ℕ
answer_numbers (Refused q) = 0 ∷ q ∷ 0 ∷ 0 ∷ 0 ∷ []
answer_numbers (Sat n f s r) = 1 ∷ n ∷ r ∷ f ∷ s ∷ []
answer_numbers (Unsat n f s) = 2 ∷ n ∷ 0 ∷ f ∷ s ∷ []
answer_numbers (Spent b f s) = 3 ∷ b ∷ 0 ∷ f ∷ s ∷ []

-- how many numbers an answer has
abbrev pub answer_length : ℕ
answer_length = 5
