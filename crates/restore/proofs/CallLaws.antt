-- From the head and the columns of a stored file to the restored file. Assumes nothing.
use mathlib.Core.Path.{◌≡◌, refl, ap, sym, ◌∙◌}
use mathlib.Core.List.{List, [], ◌++◌}
use Prim.Native.Nat.{ℕ, zero, suc, ◌+◌, ◌*◌}
use lib.ListN.{drop, get_or, length-replicate, replicate}
use Rattle.guard.specs.File.{file}
use Rattle.guard.specs.Limits.{base}
use Rattle.guard.specs.Number.{Parsed.accepted, Parsed.refused, and_then, return}
use Rattle.guard.specs.Types.{Types}
use Rattle.tables.specs.Layout.{types_of}
use Rattle.columnfile.specs.Columns.{columns, restored_file, restored_head}
use Rattle.columnreader.specs.Cells.{ColumnsRead, Holds}
use Rattle.restore.specs.declared.Head.{Head}
use Rattle.restore.specs.Restoring.{HeadTaken, Restored, head_of}
use Rattle.restore.proofs.BoundLaws.{columns-bounded}

module _ (stored : List ℕ) where
  pub head_stop : (q : ℕ) → restored_head base stored ≡ refused q → restored_file base stored ≡ refused q
  unfolding restored_file
  head_stop q e = ap (and_then (λ head rest. file base (head ++ rest))) e

  module _ (r : Head) (k : HeadTaken stored r) where
    pub columns_stop : (q : ℕ) → columns (types_of r.table) r.rows (drop r.at stored) ≡ refused q → restored_file base stored ≡ refused q
    columns_stop q e =
        head_stop q
        (k.rest ∙ ap (and_then (λ cs. return (head_of k.ts r.rows cs)))
        (ap (λ (ts : Types). columns ts r.rows (drop r.at stored)) (sym k.taken.back) ∙ e))

    module _ (next : ℕ) {cells : List ℕ} (c : ColumnsRead stored r.at (types_of r.table) r.rows next cells) where
      parsed : columns k.ts r.rows (drop r.at stored) ≡ accepted c.cs (drop next stored)
      parsed = ap (λ (ts : Types). columns ts r.rows (drop r.at stored)) (sym k.taken.back) ∙ c.found.accepts

      pub restored_as : Restored r.table r.rows cells k.ts c.cs
      restored_as =
          record {
            taken = k.taken;
            holds = c.holds;
            many = c.many;
            few = k.few;
            bounded = columns-bounded k.ts r.rows (drop r.at stored) c.cs (drop next stored) parsed;
          }

      -- the file that is restored
      pub restored-is : restored_file base stored ≡ file base (head_of k.ts r.rows c.cs ++ drop next stored)
      unfolding restored_file
      restored-is = ap (and_then (λ head rest. file base (head ++ rest))) (k.rest ∙ ap (and_then (λ cs. return (head_of k.ts r.rows cs))) parsed)

none-there : (n i : ℕ) → get_or {A = ℕ} (replicate n 0) i 0 ≡ 0
none-there zero i = refl
none-there (suc n) zero = refl
none-there (suc n) (suc i) = none-there n i

pub zero_cells : Holds (replicate 144 0) []
zero_cells = record { long = length-replicate {A = ℕ} 144 0; is = λ j i l. none-there 144 (24 * j + i) }
