-- The tables of an accepted file are those that a search begins with. Assumes nothing.
use mathlib.Core.Path.{◌≡◌, ap}
use mathlib.Core.List.{List, []}
use Prim.Native.Nat.{ℕ}
use Rattle.guard.specs.File.{file}
use Rattle.guard.specs.Guard.{Guard}
use Rattle.guard.specs.Limits.{Limits, Supported}
use Rattle.guard.specs.Number.{Parsed.accepted, and_then, return}
use Rattle.guard.proofs.Accepted.{accepted-total, accepted_well_formed}
use Rattle.reader.specs.Reader.{guard_tables, in_tables}
use Rattle.reader.specs.declared.Tables.{Tables}
use Rattle.reader.proofs.TablesRead.{Taken, taken-file}
use Rattle.search.specs.Nodes.{Accepted}
use Rattle.roots.specs.Roots.{GuardsTables}

-- whatever guard the file has
pub guard-tables : (limits : Limits) (bytes : List ℕ) (t : Tables) → in_tables (file limits) bytes ≡ accepted t [] → (g : Guard) (rest : List ℕ) → file limits bytes ≡ accepted g rest → t ≡ guard_tables g
guard-tables limits bytes t e g rest f = let h : in_tables (file limits) bytes ≡ accepted (guard_tables g) rest = ap (and_then (λ (x : Guard). return (guard_tables x))) f in cc

module _ (limits : Limits) (sup : Supported limits) (bytes : List ℕ) where
  pub guard-accepted : (g : Guard) (rest : List ℕ) → file limits bytes ≡ accepted g rest → Accepted g
  guard-accepted g rest e =
      record { limits = limits; supported = sup; well_formed = accepted_well_formed limits sup bytes g rest e; total = accepted-total limits sup bytes g rest e }

  pub tables-read : (t : Tables) → in_tables (file limits) bytes ≡ accepted t [] → GuardsTables t
  tables-read t e = let k : Taken limits bytes t = taken-file limits bytes t e in record { guard = k.guard; accepted = guard-accepted k.guard [] k.parsed; is = k.is }
