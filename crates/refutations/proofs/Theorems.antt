-- The theorems about files and records, for any limits up to 6 types, 24 terms and 64 lines. Quoted sentences are document 02's,
-- of request #101. Assumes nothing.
use mathlib.Core.Path.{◌≡◌, refl, ap, sym, ◌∙◌}
use mathlib.Core.List.{List, [], ◌∷◌}
use Prim.Native.Nat.{ℕ, ◌*◌, ◌≤◌}
use native.Mathlib.Omega.{arith}
use lib.ListN.{length}
use Rattle.guard.specs.File.{file}
use Rattle.guard.specs.Guard.{Guard}
use Rattle.guard.specs.Limits.{Limits, Supported}
use Rattle.guard.specs.Meaning.{Satisfiable}
use Rattle.guard.specs.Number.{Parsed.accepted, Parsed.refused, and_then}
use Rattle.guard.specs.Search.{Visit, Visits.closed, node_count, search_of, visits}
use Rattle.guard.specs.Terms.{table_of}
use Rattle.guard.proofs.Claims.{Accepts, accepts-all, well_formed_lem}
use Rattle.refutations.specs.Checker.{check, check_from, checked, no_more}
use Rattle.refutations.specs.Record.{record_bytes, record_of}
use Rattle.refutations.proofs.AcceptedDead.{accepted-dead}
use Rattle.encoding.proofs.Parsers.{bind_inv, not_accepted}
use Rattle.refutations.proofs.RecordAccepted.{record-accepted, record-bytes, record-length}

module _ (limits : Limits) (bytes written : List ℕ) where
  -- "A checker asks 2 to 10 of the file, then reads the record against it"
  pub file-refused : (q : ℕ) → file limits bytes ≡ refused q → checked limits bytes written ≡ refused q
  unfolding checked
  file-refused q e = ap (and_then (λ (g : Guard) (rest : List ℕ). check g written)) e

  pub file-taken : (g : Guard) → Accepts limits bytes g → checked limits bytes written ≡ check g written
  unfolding checked
  file-taken g a = ap (and_then (λ (g : Guard) (rest : List ℕ). check g written)) a.accepts

  -- "what it accepts has no satisfying messages"
  pub accepted_unsatisfiable : Supported limits → (u : Unit {0}) (rest : List ℕ) → checked limits bytes written ≡ accepted u rest → (g : Guard) × Accepts limits bytes g × (¬ Satisfiable g)
  unfolding checked
  accepted_unsatisfiable sup u rest e =
      let (g, left, p, q) = bind_inv (file limits) (λ g left. check g written) bytes u rest e in
      let a : Accepts limits bytes g = accepts-all limits bytes g left sup p in
      (g, a, accepted-dead limits sup g (well_formed_lem limits bytes g a) written u rest q)

-- an accepted record is read to its end
pub accepted-ended : (g : Guard) (bs : List ℕ) (u : Unit {0}) (rest : List ℕ) → check g bs ≡ accepted u rest → check g bs ≡ accepted tt []
unfolding check
accepted-ended g bs u rest e = let (v, mid, p, q) = bind_inv (check_from (table_of g) g.literals g.literals) (λ v. no_more) bs u rest e in ap (and_then (λ (v : Unit {0}). no_more)) p ∙ last mid q
  where
    last : (mid : List ℕ) → no_more mid ≡ accepted u rest → no_more mid ≡ accepted tt []
    last [] q = refl
    last (b ∷ bs) q = absurd (not_accepted 13 u rest q)

module _ (limits : Limits) (bytes : List ℕ) (g : Guard) (a : Accepts limits bytes g) (n : List Visit) (e : search_of g ≡ closed n) where
  -- "Every record that call writes is accepted"
  pub record-checked : checked limits bytes (record_bytes g) ≡ accepted tt []
  record-checked = file-taken limits bytes (record_bytes g) g a ∙ record-accepted limits a.supported g (well_formed_lem limits bytes g a) n e

  -- "node by node": an entry for each node that is counted
  pub entry_for_each : length (record_of g) ≡ node_count g
  entry_for_each = record-length limits a.supported g (well_formed_lem limits bytes g a) n e ∙ sym (ap visits e)

  -- a buffer of three bytes for each node is long enough
  pub at-most-three : length (record_bytes g) ≤ 3 * node_count g
  at-most-three = omega (arith, record-bytes limits a.supported g (well_formed_lem limits bytes g a) n e, ap visits e)
