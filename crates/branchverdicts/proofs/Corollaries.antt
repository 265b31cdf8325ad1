-- What follows from the contract of `judge_branches`, for an integrator: each number in the buffer is the verdict on its branch or pair, it
-- means what the desk's verdict means, and behind the last there is nothing but zeros. Every call ends, since the call is proved. Assumes nothing.
use mathlib.Core.Path.{◌≡◌, refl, ap, sym, ◌∙◌}
use mathlib.Core.Bool.{Bool, true, false, cond}
use mathlib.Core.List.{List, []}
use mathlib.Core.Logic.{◌↔◌}
use Prim.Native.Nat.{ℕ, ◌≤◌, ◌<◌}
use native.Mathlib.Omega.{arith}
use lib.Dec.{ltb}
use lib.ListN.{length, get_or, length-map, get_or-append}
use Rattle.laws.proofs.Lists.{all_get_d}
use Rattle.std.specs.Prelude.{Result, Ok, Err, IfOk}
use Rattle.guard.specs.Guard.{Guard}
use Rattle.guard.specs.Limits.{Supported, base}
use Rattle.guard.specs.Meaning.{Satisfiable}
use Rattle.guard.specs.Number.{Parsed, Parsed.accepted, Parsed.refused}
use Rattle.guard.specs.Search.{node_count}
use Rattle.guard.specs.WellFormed.{WellFormed}
use Rattle.guard.specs.declared.Question.{Question}
use Rattle.guard.proofs.Accepted.{head_guard, with_literals, with_lines}
use Rattle.tables.specs.Layout.{pad}
use Rattle.tables.proofs.Columns.{pad_get, pad-past}
use Rattle.verdictcodes.specs.Codes.{code_for}
use Rattle.verdictcodes.proofs.Meaning.{sat-code, some-code, spent-code, unsat-code}
use Rattle.branches.specs.Procedure.{Procedure, guard_with, procedure}
use Rattle.branches.specs.Verdicts.{asked, asks_of, buffer_length, codes, left_in, pairs}
use Rattle.branches.proofs.Fits.{ProcedureFits, accepted-fits, asked-fit}
use Rattle.numbers.specs.Reader.{ReadsAll}
use Rattle.numbers.proofs.Mapped.{mapped}
use Rattle.branchverdicts.specs.Judging.{count_in}
use Rattle.branchverdicts.proofs.Asking.{mapped_at}

-- the file of a call that is taken
file_of_lem : (bytes : List ℕ) (long : ℕ) (p : Procedure) (rest : List ℕ) → asks_of bytes long ≡ accepted p rest → procedure base bytes ≡ accepted p rest
unfolding asks_of
file_of_lem bytes long p rest e = go (ltb long buffer_length) refl
  where
    by : (b : Bool) → ltb long buffer_length ≡ b → cond b (refused 1) (procedure base bytes) ≡ accepted p rest
    by b h = ap (λ (x : Bool). cond x (refused 1) (procedure base bytes)) (sym h) ∙ e

    go : (b : Bool) → ltb long buffer_length ≡ b → procedure base bytes ≡ accepted p rest
    go false h = by false h
    go true h = let a : Path (Parsed Procedure) (refused 1) (accepted p rest) = by true h in let z : ◌≡◌ {A = ℕ} 0 1 = cc in absurd (omega arith)

fits_of : (bytes : List ℕ) (long : ℕ) (p : Procedure) (rest : List ℕ) → asks_of bytes long ≡ accepted p rest → ProcedureFits base p
fits_of bytes long p rest e = accepted-fits base (record { types = omega arith; terms = omega arith; lines = omega arith }) bytes p rest (file_of_lem bytes long p rest e)

-- at most eight branches are told
pub few-told : (bytes : List ℕ) (long : ℕ) (r : Result ℕ Question) → ReadsAll (count_in (asks_of bytes long)) r → IfOk r (λ n. n ≤ 8)
few-told bytes long (Err q) e = tt
few-told bytes long (Ok n) e =
    let (p, taken, is) = mapped (λ (x : Procedure). length x.branches) (asks_of bytes long) n [] e in
    omega (arith, is, (fits_of bytes long p [] taken).few)

-- a file that is taken, and what the call left in the buffer
module _ (bytes : List ℕ) (budget long : ℕ) (out : List ℕ) (left : out ≡ left_in budget long (asks_of bytes long)) (p : Procedure) (rest : List ℕ) (taken : asks_of bytes long ≡ accepted p rest) where
  fits : ProcedureFits base p
  fits = fits_of bytes long p rest taken

  is : out ≡ pad long (codes budget p)
  is = left ∙ ap (left_in budget long) taken

  -- the guard that place k tells of: the branches in their order, then the pairs, "by lower branch, then higher"
  abbrev told : ℕ → Guard
  told k = guard_with p (get_or (asked p) k [])

  -- the first places are the branches
  pub branch-told : (i : ℕ) → i < length p.branches → get_or (asked p) i [] ≡ get_or p.branches i []
  branch-told i h = get_or-append p.branches (pairs p.branches) [] i h

  pub zeros_behind : (k : ℕ) → length (asked p) ≤ k → get_or out k 0 ≡ 0
  unfolding codes
  zeros_behind k h = ap (λ (l : List ℕ). get_or l k 0) is ∙ pad-past 0 long k (codes budget p) (omega (arith, length-map (asked p) (λ ls. code_for budget (guard_with p ls))))

  module _ (k : ℕ) (there : k < length (asked p)) where
    pub number_is : get_or out k 0 ≡ code_for budget (told k)
    unfolding codes
    number_is = ap (λ (l : List ℕ). get_or l k 0) is ∙ pad_get 0 long k (codes budget p) ∙ mapped_at (λ ls. code_for budget (guard_with p ls)) (asked p) k [] 0 there

    ok : WellFormed (with_lines base 64) (told k)
    ok = let h = all_get_d (asked-fit fits) k [] there in with_literals base (head_guard p.types p.rows) fits.head 64 (get_or (asked p) k []) h.0 h.1

    supported : Supported (with_lines base 64)
    supported = record { types = omega arith; terms = omega arith; lines = omega arith }

    -- 1: it can run, or the two can run together
    pub can_run : get_or out k 0 ≡ 1 → Satisfiable (told k)
    can_run e = sat-code (with_lines base 64) supported (told k) ok fits.total budget (sym number_is ∙ e)

    -- 2: it never runs, or the two never run together
    pub never_runs : get_or out k 0 ≡ 2 → ¬ Satisfiable (told k)
    never_runs e = unsat-code (with_lines base 64) supported (told k) ok fits.total budget (sym number_is ∙ e)

    -- 3 exactly if the budget is below the node count
    pub spent_exactly : (get_or out k 0 ≡ 3) ↔ (budget < node_count (told k))
    spent_exactly =
        let s = spent-code (with_lines base 64) supported (told k) ok fits.total budget in
        (λ e. s.0 (sym number_is ∙ e), λ h. number_is ∙ s.1 h)

    -- there is no other number
    pub one_of_three : (0 < get_or out k 0) × (get_or out k 0 < 4)
    one_of_three = let s = some-code (with_lines base 64) supported (told k) ok fits.total budget in (omega (arith, number_is, s.0), omega (arith, number_is, s.1))
