-- The call: a short buffer, a file that is refused, and one that is taken. Assumes nothing.
use Rattle.std.proofs.Common.{◌≡◌, ◌∙◌, ap, sym, arith, ℕ, ◌≤◌, ◌<◌, List, [], Bool, length, cond}
use lib.ListN.{replicate}
use borrow.Author.Tests.{le-ltb, lt-ltb}
use Rattle.std.specs.Prelude.{Result, Ok, Err}
use Rattle.guard.specs.Limits.{Supported, base}
use Rattle.guard.specs.Number.{Parsed.accepted, Parsed.refused}
use Rattle.guard.specs.Question.{number_of}
use Rattle.guard.specs.declared.Question.{Question}
use Rattle.guard.specs.declared.Question.TheVariants.{ShortBuffer}
use Rattle.numbers.specs.Reader.{ReadsAll}
use Rattle.branches.specs.Procedure.{procedure}
use Rattle.branches.specs.Verdicts.{asks_of, buffer_length, left_in}
use Rattle.branches.proofs.Fits.{accepted-fits}
use Rattle.branchreader.specs.BranchReader.{in_tables}
use Rattle.branchreader.specs.declared.Procedure as tables
use Rattle.branchreader.proofs.TablesRead.{FileTables, refused-file, taken-file}
use Rattle.branchverdicts.specs.Judging.{Fills, Holds, Taken, count_in}
use Rattle.branchverdicts.proofs.Asking.{count_held}

-- what the call answers and leaves, from what is asked of it
pub record Gives (budget : ℕ) (bytes : List ℕ) (long : ℕ) (r : Result ℕ Question) (out' : List ℕ) : Type 0 where
  pub answers : ReadsAll (count_in (asks_of bytes long)) r
  pub leaves : out' ≡ left_in budget long (asks_of bytes long)

module _ (budget : ℕ) (bytes : List ℕ) (long : ℕ) (out' : List ℕ) where
  refuses : (q : Question) → asks_of bytes long ≡ refused (number_of q) → out' ≡ replicate long 0 → Gives budget bytes long (Err q) out'
  refuses q e zeros = record { answers = ap count_in e; leaves = zeros ∙ ap (left_in budget long) (sym e) }

  pub too_short : long < buffer_length → out' ≡ replicate long 0 → Gives budget bytes long (Err ShortBuffer) out'
  unfolding asks_of
  too_short h = refuses ShortBuffer (ap (λ (b : Bool). cond b (refused 1) (procedure base bytes)) (lt-ltb long buffer_length h))

  module _ (room : buffer_length ≤ long) where
    asks : asks_of bytes long ≡ procedure base bytes
    unfolding asks_of
    asks = ap (λ (b : Bool). cond b (refused 1) (procedure base bytes)) (le-ltb long buffer_length room)

    pub file-refused : (q : Question) → in_tables (procedure base) bytes ≡ refused (number_of q) → out' ≡ replicate long 0 → Gives budget bytes long (Err q) out'
    file-refused q e = refuses q (asks ∙ refused-file bytes (number_of q) e)

    module _ (t : tables.Procedure) (read : in_tables (procedure base) bytes ≡ accepted t []) where
      file : FileTables bytes t
      file = taken-file bytes t read

      supported : Supported base
      supported = record { types = omega arith; terms = omega arith; lines = omega arith }

      held : Holds t file.holds
      held = record { tables = file.is; fits = accepted-fits base supported bytes file.holds [] file.parsed }

      pub holds-some : Taken t
      holds-some = record { procedure = file.holds; holds = held }

      pub file-taken : (out : List ℕ) → length out ≡ long → Fills t budget out out' → Gives budget bytes long (Ok t.many) out'
      file-taken out same f =
          let e : asks_of bytes long ≡ accepted file.holds [] = asks ∙ file.parsed in
          record {
            answers = ap count_in e ∙ ap (λ (k : ℕ). accepted k []) (sym (count_held t file.holds held));
            leaves = f.fills file.holds held ∙ ap (λ (n : ℕ). left_in budget n (accepted file.holds [])) same ∙ ap (left_in budget long) (sym e);
          }
