-- The tables of guards hold their parts, those of an accepted file its guard's, and the names of the second's rows are the
-- definition's. Assumes nothing.
use mathlib.Core.Path.{◌≡◌, ap, sym, subst}
use mathlib.Core.List.{List, []}
use Prim.Native.Nat.{ℕ, ◌<◌}
use native.Mathlib.Omega.{arith}
use lib.ListN.{length}
use Rattle.laws.specs.Lists.{from}
use Rattle.guard.specs.File.{file}
use Rattle.guard.specs.Guard.{Guard}
use Rattle.guard.specs.Limits.{base}
use Rattle.guard.specs.Number.{Parsed.accepted}
use Rattle.guard.specs.Types.{Types}
use Rattle.guard.proofs.Accepted.{accepted-total, accepted_well_formed}
use Rattle.guard.proofs.Claims.{base-supported}
use Rattle.tables.specs.Layout.{literal_table}
use Rattle.reader.specs.declared.Tables.{Tables}
use Rattle.reader.specs.Reader.{guard_tables, in_tables}
use Rattle.reader.proofs.TablesRead.{taken-file}
use Rattle.heldparts.specs.Held.{HoldsLiterals, HoldsRows, HoldsTypes}
use Rattle.heldparts.proofs.FromGuard.{holds-literals, holds_rows, holds-types}
use Rattle.literalwriter.specs.LiteralBytes.{SmallNames, SomeLiterals}
use Rattle.merged.specs.Merge.{named}
use Rattle.merged.proofs.Renumbered.{own_named}
use Rattle.renaming.specs.declared.Names.{Names}
use Rattle.renaming.specs.Names.{AreNames, NamesOf}
use Rattle.mergewriter.specs.Merging.{BothOf, TablesOf}

module _ {t : Tables} {g : Guard} (k : TablesOf t g) where
  pub types-held : HoldsTypes t.types g.types
  unfolding guard_tables
  types-held = subst (λ (x : Tables). HoldsTypes x.types g.types) (sym k.are) (holds-types base base-supported g k.fits k.total)

  pub rows-held : HoldsRows t.rows g.types g.rows
  unfolding guard_tables
  rows-held = subst (λ (x : Tables). HoldsRows x.rows g.types g.rows) (sym k.are) (holds_rows base base-supported g k.fits)

  pub literals-held : HoldsLiterals t.literals g.types g.rows g.literals
  unfolding guard_tables
  literals-held = subst (λ (x : Tables). HoldsLiterals x.literals g.types g.rows g.literals) (sym k.are) (holds-literals base base-supported g k.fits)

  pub lines_are : t.literals.many ≡ length g.literals
  unfolding guard_tables literal_table
  lines_are = ap (λ (x : Tables). x.literals.many) k.are

-- a file that is taken, with the tables of its guard
pub record Opened (bytes : List ℕ) (t : Tables) : Type 0 where
  pub guard : Guard
  pub is : file base bytes ≡ accepted guard []
  pub tables : TablesOf t guard

pub opened : (bytes : List ℕ) (t : Tables) → in_tables (file base) bytes ≡ accepted t [] → Opened bytes t
opened bytes t e =
    let k = taken-file base bytes t e in
    record {
      guard = k.guard;
      is = k.parsed;
      tables = record { are = k.is; fits = accepted_well_formed base base-supported bytes k.guard [] k.parsed; total = accepted-total base base-supported bytes k.guard [] k.parsed };
    }

-- a guard's lines can be put, and under their own numbers
pub some-literals : {t : Tables} {g : Guard} → TablesOf t g → SomeLiterals t.literals
some-literals k = record { ts = _; rs = _; ls = _; held = literals-held k; rows = (rows-held k).many; variants = (types-held k).variants }

pub own_small : (own : List ℕ) → own ≡ from 24 0 → SmallNames own
own_small own e = record { small = λ i h. subst (λ (xs : List ℕ). named xs i < 128) (sym e) (omega (arith, h, own_named 24 i h)) }

module _ {first second : Tables} {g h : Guard} (b : BothOf first second g h) where
  -- the second's rows under the types of the first
  pub others-held : HoldsRows second.rows g.types h.rows
  others-held = subst (λ (ts : Types). HoldsRows second.rows ts h.rows) (sym b.types) (rows-held b.other)

  pub names-are : {n : Names} → NamesOf first.rows second.rows n → AreNames g.types g.rows h.rows n
  names-are n = n.are g.types g.rows h.rows (rows-held b.one) others-held
