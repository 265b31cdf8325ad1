-- `row_numbers` meets its contract. Assumes nothing.
use mathlib.Core.Path.{sym, ◌∙◌}
use native.Mathlib.Omega.{arith}
use Rattle.guard.specs.Guard.{row_at}
use Rattle.valuemarks.proofs.RowLaws.{arity-small, built-numbers, constant-numbers, field-numbers, kind-is, place-small, sort-small, variable-numbers}
use Rattle.valuemarks.proofs.row_numbers.Goals as goal

pub returns-in-0 : goal.returns-in-0
returns-in-0 c = record { is = λ g l. sym (variable-numbers (row_at g.rows c.args.r) (sym (kind-is l c.args.r c.requires.r_lt_many) ∙ c.in-0.is)) }

pub returns-in-1 : goal.returns-in-1
returns-in-1 c = record { is = λ g l. sym (constant-numbers (row_at g.rows c.args.r) (sym (kind-is l c.args.r c.requires.r_lt_many) ∙ c.in-1.is)) }

pub returns-in-3 : goal.returns-in-3
returns-in-3 c = record { is = λ g l. sym (field-numbers (row_at g.rows c.args.r) (sym (kind-is l c.args.r c.requires.r_lt_many) ∙ c.in-3.is)) }

pub bounds-types-t : goal.bounds-types-t
bounds-types-t c = sort-small c.requires.guards_rows.listed c.args.r c.requires.r_lt_many (λ e. omega arith) (λ e. omega arith) (λ e. omega arith)

pub overflow_add-place : goal.overflow_add-place
overflow_add-place c = omega (arith, place-small c.requires.guards_rows.listed c.args.r c.requires.r_lt_many (λ e. omega arith) (λ e. omega arith) (λ e. omega arith))

pub bounds-types-place : goal.bounds-types-place
bounds-types-place c = place-small c.requires.guards_rows.listed c.args.r c.requires.r_lt_many (λ e. omega arith) (λ e. omega arith) (λ e. omega arith)

pub overflow_add-result : goal.overflow_add-result
overflow_add-result c = omega (arith, arity-small c.requires.guards_rows.listed c.args.r c.requires.r_lt_many (λ e. omega arith) (λ e. omega arith) (λ e. omega arith))

pub returns-in_default : goal.returns-in_default
returns-in_default c = record { is = λ g l. built-numbers l c.args.r c.requires.r_lt_many (λ e. omega arith) (λ e. omega arith) (λ e. omega arith) }
