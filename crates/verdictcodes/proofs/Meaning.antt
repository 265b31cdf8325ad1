-- What the numbers mean, for every well-formed guard: 1 that some messages make it hold, 2 that none do, 3 that the budget is below the node
-- count. There is no other. Assumes nothing.
use mathlib.Core.Path.{◌≡◌, refl, ap, ◌∙◌}
use mathlib.Core.Bool.{Bool, true, false, cond}
use mathlib.Core.List.{List}
use mathlib.Core.Logic.{◌↔◌}
use Prim.Native.Nat.{ℕ, ◌≤◌, ◌<◌}
use native.Mathlib.Omega.{arith}
use lib.Dec.{leb}
use lib.ListN.{length}
use borrow.Author.Tests.{leb-false, leb-true}
use Rattle.guard.specs.Answer.{cut_off, verdict, with_budget}
use Rattle.guard.specs.Guard.{Guard}
use Rattle.guard.specs.Limits.{Limits, Supported, total_variant_limit}
use Rattle.guard.specs.Meaning.{Satisfiable}
use Rattle.guard.specs.Search.{Visit, Visits, Visits.closed, Visits.opened, node_count, search_of, visits}
use Rattle.guard.specs.WellFormed.{WellFormed}
use Rattle.guard.proofs.Accepted.{variants_in}
use Rattle.guard.proofs.Claims.{Accepts}
use Rattle.serialize.specs.Tokens.{bytes_of}
use Rattle.serialize.proofs.Theorems.{well_formed-file}
use Rattle.theory.proofs.Theorems.{closed_unsatisfiable, open_exactly}
use Rattle.verdictcodes.specs.Codes.{code_for, code_of}

module _ (limits : Limits) (sup : Supported limits) (g : Guard) (ok : WellFormed limits g) (total : length (variants_in g.types) ≤ total_variant_limit) where
  -- it has a file
  accepts : Accepts limits (bytes_of g) g
  accepts = record { supported = sup; accepts = well_formed-file limits sup g ok total }

  module _ (budget : ℕ) where
    -- the three cases
    pub data Coded : Type 0 where
      satisfiable : node_count g ≤ budget → Satisfiable g → code_for budget g ≡ 1 → Coded
      unsatisfiable : node_count g ≤ budget → ¬ Satisfiable g → code_for budget g ≡ 2 → Coded
      spent : budget < node_count g → code_for budget g ≡ 3 → Coded

    pub coded : Coded
    unfolding code_for
    coded = go (search_of g) refl (leb (visits (search_of g)) budget) refl
      where
        go : (w : Visits) → search_of g ≡ w → (b : Bool) → leb (visits (search_of g)) budget ≡ b → Coded
        go w e false l = spent (leb-false (visits (search_of g)) budget l) (ap (λ (b : Bool). code_of (cond b (verdict (search_of g)) (cut_off budget (search_of g)))) l)
        go (opened xs) e true l =
            satisfiable (leb-true (visits (search_of g)) budget l) ((open_exactly limits (bytes_of g) g accepts).0 (xs, e))
            (ap (λ (b : Bool). code_of (cond b (verdict (search_of g)) (cut_off budget (search_of g)))) l ∙ ap (λ (v : Visits). code_of (verdict v)) e)
        go (closed xs) e true l =
            unsatisfiable (leb-true (visits (search_of g)) budget l) (closed_unsatisfiable limits (bytes_of g) g accepts xs e)
            (ap (λ (b : Bool). code_of (cond b (verdict (search_of g)) (cut_off budget (search_of g)))) l ∙ ap (λ (v : Visits). code_of (verdict v)) e)

    pub sat-code : code_for budget g ≡ 1 → Satisfiable g
    sat-code e = go coded
      where
        go : Coded → Satisfiable g
        go (satisfiable l s c) = s
        go (unsatisfiable l s c) = absurd (omega (arith, e, c))
        go (spent l c) = absurd (omega (arith, e, c))

    pub unsat-code : code_for budget g ≡ 2 → ¬ Satisfiable g
    unsat-code e = go coded
      where
        go : Coded → ¬ Satisfiable g
        go (satisfiable l s c) = absurd (omega (arith, e, c))
        go (unsatisfiable l s c) = s
        go (spent l c) = absurd (omega (arith, e, c))

    -- SPENT "exactly when the budget is below the file's node count"
    pub spent-code : (code_for budget g ≡ 3) ↔ (budget < node_count g)
    spent-code = (λ e. low coded e, λ h. high coded h)
      where
        low : Coded → code_for budget g ≡ 3 → budget < node_count g
        low (satisfiable l s c) e = absurd (omega (arith, e, c))
        low (unsatisfiable l s c) e = absurd (omega (arith, e, c))
        low (spent l c) e = l

        high : Coded → budget < node_count g → code_for budget g ≡ 3
        high (satisfiable l s c) h = absurd (omega (arith, l, h))
        high (unsatisfiable l s c) h = absurd (omega (arith, l, h))
        high (spent l c) h = c

    pub some-code : (0 < code_for budget g) × (code_for budget g < 4)
    some-code = go coded
      where
        go : Coded → (0 < code_for budget g) × (code_for budget g < 4)
        go (satisfiable l s c) = (omega (arith, c), omega (arith, c))
        go (unsatisfiable l s c) = (omega (arith, c), omega (arith, c))
        go (spent l c) = (omega (arith, c), omega (arith, c))
