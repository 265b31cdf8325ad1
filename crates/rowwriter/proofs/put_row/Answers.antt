-- `put_row`: by the kind that the table says. Assumes nothing.
use Rattle.std.proofs.Common.{arith, rules}
use mathlib.Core.Path.{ap, ◌∙◌}
use mathlib.Core.List.{[]}
use lib.IntN.{ℤ, pos}
use lib.ListN.{get_or}
use mir.Syntax.{w64}
use mir.Val.{SFits}
use mir.Facts.{to_z-of_z}
use Rattle.guard.specs.Guard.{Row.constant}
use Rattle.bytebuffer.proofs.PutLaws.{same-bytes}
use Rattle.rowterms.specs.Rows.{row_bytes}
use Rattle.rowterms.proofs.RowLaws.{entry, some-place}
use Rattle.rowwriter.proofs.KindLaws.{constant-bytes, field_puts, field-small, type-small, variable-bytes}
use Rattle.rowwriter.proofs.put_row.Goals as goal

pub bounds-rows-r : goal.bounds-rows-r
bounds-rows-r c = some-place c.requires.some_rows c.requires.r_lt_many

pub bounds-rows-r-2 : goal.bounds-rows-r-2
bounds-rows-r-2 c = some-place c.requires.some_rows c.requires.r_lt_many

pub returns-in-0 : goal.returns-in-0
returns-in-0 c = record { puts = λ ts rs t h. same-bytes (variable-bytes t (entry t h c.args.r c.requires.r_lt_many) c.in-0.is c.args.names.now) c.put.ensures }

pub put_constant-requires : goal.put_constant-requires
put_constant-requires c = let s = c.requires.some_rows in type-small s.holds-types (entry s.holds-types s.holds_rows c.args.r c.requires.r_lt_many) c.in-1.is

pub returns-in-1 : goal.returns-in-1
returns-in-1 c = let a = c.args in
    let rows = a.rows.now in
    let fits : SFits w64 (get_or rows.values a.r (pos 0)) = search rules in
    record {
      puts = λ ts rs t h. same-bytes
          (ap (λ (z : ℤ). row_bytes [] (constant (get_or rows.types a.r 0) z)) (to_z-of_z fits) ∙ constant-bytes t (entry t h a.r c.requires.r_lt_many) c.in-1.is a.names.now) c.put_constant.ensures;
    }

pub put_field-requires : goal.put_field-requires
put_field-requires c = let s = c.requires.some_rows in
    field-small s.holds-types (entry s.holds-types s.holds_rows c.args.r c.requires.r_lt_many) (λ e. omega arith) (λ e. omega arith) (λ e. omega arith)

pub returns-in_default : goal.returns-in_default
returns-in_default c = record { puts = λ ts rs t h. field_puts t (entry t h c.args.r c.requires.r_lt_many) (λ e. omega arith) (λ e. omega arith) (λ e. omega arith) c.args.names.now c.put_field.ensures }
