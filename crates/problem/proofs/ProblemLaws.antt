-- What `problem_of` computes from the tables of a well-formed guard is the guard's problem. Assumes nothing.
use mathlib.Core.Path.{◌≡◌, ap, sym, ◌∙◌}
use mathlib.Core.List.{List, map}
use Prim.Native.Nat.{ℕ, ◌≤◌, ◌<◌}
use native.Mathlib.Nat.{zero-add}
use native.Mathlib.Omega.{arith}
use lib.ListN.{length, get_or}
use lib.Seq.{ext_get_or}
use Rattle.laws.specs.Lists.{from}
use Rattle.laws.proofs.Lists.{map-from-at, map-from-length}
use Rattle.guard.specs.Guard.{Guard}
use Rattle.guard.specs.Limits.{Limits, Supported, total_variant_limit}
use Rattle.guard.specs.WellFormed.{WellFormed}
use Rattle.tables.specs.Layout.{flat, row_table, type_table}
use Rattle.tables.proofs.Columns.{pad_get, pad-length}
use Rattle.reader.specs.Reader.{guard_tables}
use Rattle.problem.specs.declared.Problem.{Problem}
use Rattle.problem.specs.Problem.{problem_of}
use Rattle.columns.specs.Entries.{filled}
use Rattle.problem.specs.Columns.{problem_by}
use Rattle.problem.proofs.OtherColumns.{constant-is, fieldless-is, full_is, read_is, sort-is}
use Rattle.problem.proofs.ShapeColumn.{shape_is}
use Rattle.arrays.proofs.SlotLaws.{constants-length, fieldless-length, full_length, reads-length, shapes-length, sorts-length}

-- a problem is its columns
pub all-columns : (q : Problem) (shapes reads sorts full fieldless constants : List ℕ)
    → shapes ≡ q.shapes → reads ≡ q.reads → sorts ≡ q.sorts → full ≡ q.full → fieldless ≡ q.fieldless → constants ≡ q.constants
    → ◌≡◌ {A = Problem} (record { shapes = shapes; reads = reads; sorts = sorts; full = full; fieldless = fieldless; constants = constants }) q
all-columns q shapes reads sorts full fieldless constants = same
  where
    same : {a b c d e f : List ℕ} → shapes ≡ a → reads ≡ b → sorts ≡ c → full ≡ d → fieldless ≡ e → constants ≡ f
        → ◌≡◌ {A = Problem} (record { shapes = shapes; reads = reads; sorts = sorts; full = full; fieldless = fieldless; constants = constants }) (record { shapes = a; reads = b; sorts = c; full = d; fieldless = e; constants = f })
    same p₁ p₂ p₃ p₄ p₅ p₆ = cc

-- a column filled with the elements of a list is the list
column-is : (n : ℕ) (f : ℕ → ℕ) (xs : List ℕ) → length xs ≡ n → ((x : ℕ) → x < n → f x ≡ get_or xs x 0) → filled n f n ≡ xs
column-is n f xs l each =
    ext_get_or 0 (filled n f n) xs (long ∙ sym l) (λ x h. pad_get 0 n x (map f (from n 0)) ∙ map-from-at f n 0 x 0 (omega (arith, long)) ∙ ap f (zero-add x) ∙ each x (omega (arith, long)))
  where
    long : length (filled n f n) ≡ n
    long = pad-length 0 n (map f (from n 0)) (omega (arith, map-from-length f n 0))

module _ (limits : Limits) (supported : Supported limits) (g : Guard) (ok : WellFormed limits g) (total : length (flat g.types) ≤ total_variant_limit) where
  pub problem_is : problem_by (guard_tables g) ≡ problem_of g
  unfolding problem_by problem_of guard_tables row_table type_table
  problem_is =
      all-columns (problem_of g) _ _ _ _ _ _ (column-is 256 _ _ (shapes-length limits supported g ok total) (shape_is limits supported g ok total))
      (column-is 96 _ _ (reads-length limits supported g ok total) (read_is limits supported g ok total)) (column-is 96 _ _ (sorts-length limits supported g ok total) (λ x h. sort-is limits supported g ok total x))
      (column-is 8 _ _ (full_length limits supported g ok total) (λ y h. full_is limits supported g ok total y)) (column-is 8 _ _ (fieldless-length limits supported g ok total) (λ y h. fieldless-is limits supported g ok total y))
      (column-is 32 _ _ (constants-length limits supported g ok total) (λ i h. constant-is limits supported g ok total i))
