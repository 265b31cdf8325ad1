-- The file of a guard in tables: it fits into the buffer, and what the desk answers to it is the verdict on the guard. Assumes nothing.
use mathlib.Core.Path.{◌≡◌, refl, ap, subst, ◌∙◌}
use mathlib.Core.Bool.{Bool, true, false, cond}
use mathlib.Core.List.{List, []}
use Prim.Native.Nat.{ℕ, ◌≤◌}
use native.Mathlib.Omega.{arith}
use lib.Dec.{leb}
use lib.ListN.{length, take}
use lib.Seq.{take_at}
use Rattle.std.specs.Prelude.{Option, Some, None}
use Rattle.std.specs.Option.{IsSome}
use Rattle.guard.specs.Answer.{after_questions, cut_off, outcome, questions, verdict}
use Rattle.guard.specs.File.{file}
use Rattle.guard.specs.Guard.{Guard, Literal}
use Rattle.guard.specs.Number.{Parsed, Parsed.accepted}
use Rattle.guard.specs.Search.{Visits, Visits.closed, Visits.opened, search_of, visits}
use Rattle.guard.proofs.Accepted.{accepted-length}
use Rattle.tables.specs.declared.LiteralTable.{LiteralTable}
use Rattle.tables.specs.declared.RowTable.{RowTable}
use Rattle.tables.specs.declared.TypeTable.{TypeTable}
use Rattle.serialize.specs.Tokens.{bytes_of}
use Rattle.serialize.proofs.Theorems.{well_formed-file}
use Rattle.bytebuffer.specs.Puts.{Puts, Stand}
use Rattle.guardwriter.specs.GuardBytes.{AskedOf, wide}
use Rattle.guardwriter.proofs.AskedLaws.{wide-supported}
use Rattle.verdictcodes.specs.Codes.{code_for, code_of, with_more}
use Rattle.verdicts.specs.VerdictOn.{code_or_none}
use Rattle.verdicts.specs.declared.Verdict.{Verdict}

module _ {types : TypeTable} {rows : RowTable} {first second : LiteralTable} {g : Guard} {more : List Literal} (k : AskedOf types rows first second g more) where
  taken : file wide (bytes_of (with_more g more)) ≡ accepted (with_more g more) []
  taken = well_formed-file wide wide-supported (with_more g more) k.fits k.total

  -- a guard with up to 64 lines has at most 681 bytes
  few_bytes : length (bytes_of (with_more g more)) ≤ 681
  few_bytes = accepted-length wide wide-supported (bytes_of (with_more g more)) (with_more g more) [] taken

  pub answered : (budget : ℕ) → code_of (outcome wide (bytes_of (with_more g more)) budget 16384 24) ≡ code_for budget (with_more g more)
  unfolding outcome questions code_for
  answered budget = ap (λ (p : Parsed Guard). code_of (after_questions budget p)) taken

  module _ (out out' : List ℕ) (long : length out ≡ 681) where
    -- it fits
    pub all_fit : (r : Option ℕ) → Puts (bytes_of (with_more g more)) out 0 r out' → IsSome r
    all_fit (Some end) w = refl
    all_fit None w = absurd (omega (arith, long, w.over, few_bytes))

    pub the_bytes : {r : Option ℕ} {end : ℕ} → r ≡ Some end → Puts (bytes_of (with_more g more)) out 0 r out' → take end out' ≡ bytes_of (with_more g more)
    the_bytes {end = end} e w =
        let s : Stand (bytes_of (with_more g more)) out 0 end out' = subst (λ (o : Option ℕ). Puts (bytes_of (with_more g more)) out 0 o out') e w in
        ap (take end) s.is ∙ take_at (bytes_of (with_more g more)) _ end (omega (arith, s.ends))

-- the desk refuses no guard
never_refused : (b : Bool) (budget : ℕ) (w : Visits) → ¬ (0 ≡ code_of (cond b (verdict w) (cut_off budget w)))
never_refused true budget (opened xs) = λ e. omega (arith, e)
never_refused true budget (closed xs) = λ e. omega (arith, e)
never_refused false budget w = λ e. omega (arith, e)

pub some_verdict : (budget : ℕ) (g : Guard) (v : Option Verdict) → code_or_none v ≡ code_for budget g → IsSome v
unfolding code_for
some_verdict budget g (Some v) e = refl
some_verdict budget g None e = absurd (never_refused (leb (visits (search_of g)) budget) budget (search_of g) e)
