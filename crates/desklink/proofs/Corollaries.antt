-- What a caller with any limits may take from the numbers, for a file that is accepted. First 1, and the buffers show messages that make the
-- guard hold; 2, and no messages do, and the nodes are twice the splits and one; 3, and the search takes more nodes than the
-- budget. Each follows from the contract. Assumes nothing.
use mathlib.Core.Path.{◌≡◌, refl, ap, sym, subst, ◌∙◌}
use mathlib.Core.List.{List, ◌++◌}
use Prim.Native.Nat.{ℕ, ◌+◌, ◌*◌, ◌<◌}
use native.Mathlib.Omega.{arith}
use lib.IntN.{ℤ}
use lib.ListN.{length, drop, get_or}
use Rattle.guard.specs.Answer.{Outcome.sat, Outcome.spent, Outcome.unsat, outcome_of, questions, rows_of}
use Rattle.guard.specs.Guard.{Guard}
use Rattle.guard.specs.Limits.{Limits, Supported}
use Rattle.guard.specs.Meaning.{Satisfiable}
use Rattle.guard.specs.Number.{Parsed.accepted}
use Rattle.guard.specs.Search.{Counts, node_count}
use Rattle.guard.specs.Shown.{Shows}
use Rattle.guard.specs.declared.Answer.{Answer}
use Rattle.guard.specs.declared.Answer.TheVariants.{Refused, Sat, Unsat, Spent}
use Rattle.decidewithin.proofs.Corollaries.{spent-below-count, unsat_twice}
use Rattle.answernumbers.specs.Numbers.{answer_numbers}
use Rattle.desklink.specs.Links.{Answers}

-- ---- the answer, from its first number

first-sat : (a : Answer) (rest : List ℕ) → get_or (answer_numbers a ++ rest) 0 0 ≡ 1 → (n : Counts) × ((outcome_of a ≡ sat n) × (get_or (answer_numbers a ++ rest) 2 0 ≡ rows_of a))
unfolding answer_numbers outcome_of rows_of
first-sat (Refused q) rest e = absurd (omega (arith, e))
first-sat (Sat n f s r) rest e = (record { nodes = n; first = f; second = s }, (refl, refl))
first-sat (Unsat n f s) rest e = absurd (omega (arith, e))
first-sat (Spent n f s) rest e = absurd (omega (arith, e))

-- and with the counts that it carries
first-unsat : (a : Answer) (rest : List ℕ) → get_or (answer_numbers a ++ rest) 0 0 ≡ 2
    → (c : Counts) × (outcome_of a ≡ unsat c) × (get_or (answer_numbers a ++ rest) 1 0 ≡ c.nodes) × (get_or (answer_numbers a ++ rest) 3 0 ≡ c.first) × (get_or (answer_numbers a ++ rest) 4 0 ≡ c.second)
unfolding answer_numbers outcome_of
first-unsat (Refused q) rest e = absurd (omega (arith, e))
first-unsat (Sat n f s r) rest e = absurd (omega (arith, e))
first-unsat (Unsat n f s) rest e = (record { nodes = n; first = f; second = s }, refl, refl, refl, refl)
first-unsat (Spent n f s) rest e = absurd (omega (arith, e))

first-spent : (a : Answer) (rest : List ℕ) → get_or (answer_numbers a ++ rest) 0 0 ≡ 3 → (b : Counts) × (outcome_of a ≡ spent b)
unfolding answer_numbers outcome_of
first-spent (Refused q) rest e = absurd (omega (arith, e))
first-spent (Sat n f s r) rest e = absurd (omega (arith, e))
first-spent (Unsat n f s) rest e = absurd (omega (arith, e))
first-spent (Spent n f s) rest e = (record { nodes = n; first = f; second = s }, refl)

-- ---- an accepted file

module _ (limits : Limits) (sup : Supported limits) (bytes : List ℕ) (budget : ℕ) (rows places : List ℤ) (numbers : List ℕ) (rows' places' : List ℤ) (numbers' : List ℕ) (a : Answers limits bytes budget rows places numbers rows' places' numbers') (g : Guard) (rest : List ℕ) (taken : questions limits bytes (length rows) (length places) ≡ accepted g rest) where
  number : (i : ℕ) → get_or numbers' i 0 ≡ get_or (answer_numbers a.answer ++ drop 5 numbers) i 0
  number i = ap (λ (xs : List ℕ). get_or xs i 0) a.told

  pub told-sat : get_or numbers' 0 0 ≡ 1 → Shows limits g (get_or numbers' 2 0) rows' places'
  told-sat e =
      let (n, (s, many)) = first-sat a.answer (drop 5 numbers) (sym (number 0) ∙ e) in
      subst (λ (k : ℕ). Shows limits g k rows' places') (sym (number 2 ∙ many)) (a.decided.shown g rest taken n s)

  pub told-unsat : get_or numbers' 0 0 ≡ 2 → ¬ Satisfiable g
  told-unsat e = let told = first-unsat a.answer (drop 5 numbers) (sym (number 0) ∙ e) in a.decided.dead g rest taken told.0 told.1

  pub told-spent : get_or numbers' 0 0 ≡ 3 → budget < node_count g
  told-spent e = (spent-below-count limits sup bytes budget rows places a.answer rows' places' a.decided g rest taken).0 (first-spent a.answer (drop 5 numbers) (sym (number 0) ∙ e))

  -- document 02, #105: "For UNSAT, nodes are twice the two counts together and one more."
  pub told_twice : get_or numbers' 0 0 ≡ 2 → get_or numbers' 1 0 ≡ 2 * (get_or numbers' 3 0 + get_or numbers' 4 0) + 1
  told_twice e =
      let told = first-unsat a.answer (drop 5 numbers) (sym (number 0) ∙ e) in
      let twice = unsat_twice limits sup bytes budget rows places a.answer rows' places' a.decided g rest taken told.0 told.1 in
      omega (arith, number 1, number 3, number 4, told.2, told.3, told.4, twice)
