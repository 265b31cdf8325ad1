-- The tables of a procedure hold the guard of a table of lines with those of a branch behind them: up to 64 lines, well formed. Assumes
-- nothing.
use mathlib.Core.Path.{◌≡◌, refl, ap, ◌∙◌}
use mathlib.Core.List.{List, [], ◌∷◌, ◌++◌, map}
use Prim.Native.Nat.{ℕ, zero, suc, ◌≤◌, ◌<◌}
use native.Mathlib.Omega.{arith}
use lib.ListN.{length, get_or, length-append, length-map}
use Rattle.laws.proofs.Lists.{all_append, all_get_d}
use Rattle.guard.specs.Guard.{Literal}
use Rattle.guard.specs.Limits.{base}
use Rattle.guard.proofs.Accepted.{head_guard, with_literals}
use Rattle.tables.specs.Layout.{literal_table, row_table, type_table}
use Rattle.tables.specs.declared.LiteralTable.{LiteralTable}
use Rattle.tables.proofs.Columns.{pad-at}
use Rattle.branches.specs.Procedure.{Procedure, branch_limit, guard_with}
use Rattle.branchreader.specs.BranchReader.{branch_tables, procedure_tables}
use Rattle.branchreader.specs.declared.Procedure as tables
use Rattle.verdicts.specs.VerdictOn.{Askable, AskedOf}
use Rattle.branchverdicts.specs.Judging.{Holds, HoldsLines}

-- an entry of a column that has one for each element
pub mapped_at : {A B : Type 0} (f : A → B) (xs : List A) (j : ℕ) (a : A) (d : B) → j < length xs → get_or (map f xs) j d ≡ f (get_or xs j a)
mapped_at f [] j a d h = absurd (omega arith)
mapped_at f (x ∷ xs) zero a d h = refl
mapped_at f (x ∷ xs) (suc j) a d h = mapped_at f xs j a d (omega arith)

module _ (t : tables.Procedure) (p : Procedure) (h : Holds t p) where
  -- ---- the tables, one by one

  pub types-held : t.types ≡ type_table p.types
  unfolding procedure_tables
  types-held = ap (λ (x : tables.Procedure). x.types) h.tables

  pub rows-held : t.rows ≡ row_table p.types p.rows
  unfolding procedure_tables
  rows-held = ap (λ (x : tables.Procedure). x.rows) h.tables

  pub count_held : t.many ≡ length p.branches
  unfolding procedure_tables
  count_held = ap (λ (x : tables.Procedure). x.many) h.tables

  pub few : t.many ≤ 8
  few = omega (arith, count_held, h.fits.few)

  lines-held : t.lines ≡ branch_tables p.branches
  unfolding procedure_tables
  lines-held = ap (λ (x : tables.Procedure). x.lines) h.tables

  -- the lines of a branch
  abbrev pub lines_at : ℕ → List Literal
  lines_at j = get_or p.branches j []

  module _ (j : ℕ) (there : j < t.many) (d : LiteralTable) where
    table_at : get_or t.lines j d ≡ literal_table (lines_at j)
    table_at =
        ap (λ (l : List LiteralTable). get_or l j d) lines-held
        ∙ pad-at (literal_table []) branch_limit j (map literal_table p.branches) d (omega (arith, length-map p.branches literal_table, count_held))
        ∙ mapped_at literal_table p.branches j [] d (omega (arith, count_held))

    pub branch_held : HoldsLines p (get_or t.lines j d) (lines_at j)
    branch_held = record { table = table_at; lines = all_get_d h.fits.lines j [] (omega (arith, count_held)) }

  -- ---- what is asked

  module _ (first second : LiteralTable) (ls ms : List Literal) (a : HoldsLines p first ls) (b : HoldsLines p second ms) where
    pub asked : AskedOf t.types t.rows first second (guard_with p ls) ms
    asked =
        record {
          type_tables = types-held;
          row_tables = rows-held;
          first_lines = a.table;
          second_lines = b.table;
          fits = with_literals base (head_guard p.types p.rows) h.fits.head 64 (ls ++ ms) (omega (arith, length-append ls ms, a.lines.0, b.lines.0)) (all_append a.lines.1 b.lines.1);
          total = h.fits.total;
        }

    pub askable : Askable t.types t.rows first second
    askable = record { guard = guard_with p ls; more = ms; asked = asked }
