-- The masks of a row, variant by variant, and the variants that a row has by the tables. Assumes nothing.
use mathlib.Core.Path.{◌≡◌, ap, sym, ◌∙◌}
use mathlib.Core.Bool.{Bool, true, false, cond, not, ◌&&◌}
use mathlib.Core.List.{[], ◌∷◌}
use Prim.Native.Nat.{ℕ, ◌+◌, ◌^◌, ◌≤◌, ◌<◌}
use native.Mathlib.Omega.{arith}
use native.Mathlib.Numerals.{add-one}
use lib.Dec.{ltb}
use lib.ListN.{length, get_or}
use lib.Pow.{pow_mono}
use borrow.Author.Tests.{le-ltb, lt-ltb}
use Rattle.guard.specs.Guard.{Guard, Literal.is, type_at}
use Rattle.guard.specs.Limits.{Limits}
use Rattle.guard.specs.Types.{variants_of}
use Rattle.tables.specs.Layout.{literal_table, row_table}
use Rattle.tables.specs.declared.LiteralTable.{LiteralTable}
use Rattle.tables.specs.declared.RowTable.{RowTable}
use Rattle.tables.specs.declared.TypeTable.{TypeTable}
use Rattle.tables.proofs.Lookups.{row-type_anywhere, variants_at_lem}
use Rattle.summaries.specs.InTables.{InTables, longer}
use Rattle.summaries.specs.Summary.{mask_of, ruled_out, variant_count, walked, with_variant}
use Rattle.summaries.proofs.Masks.{mask_small}
use Rattle.summaries.proofs.Truth.{walked-formed}
use Rattle.verdictcodes.specs.Codes.{code_for}
use Rattle.verdicts.specs.VerdictOn.{AskedOf}
use Rattle.variantmasks.specs.Masks.{number_by}

module _ {limits : Limits} {types : TypeTable} {rows : RowTable} {lines : LiteralTable} (g : Guard) (held : InTables limits types rows lines g) (i : ℕ) where
  many-rows : rows.many ≡ length g.rows
  unfolding row_table
  many-rows = ap (λ (t : RowTable). t.many) held.rows_of

  pub variants-there : i < rows.many → get_or types.variants (get_or rows.types i 0) 0 ≡ variant_count g i
  unfolding variant_count
  variants-there h =
      ap (λ (t : RowTable). get_or types.variants (get_or t.types i 0) 0) held.rows_of
      ∙ ap (λ (u : ℕ). get_or types.variants u 0) (row-type_anywhere g.types g.rows i)
      ∙ ap (λ (t : TypeTable). get_or t.variants (type_at g.types g.rows i) 0) held.types_of
      ∙ variants_at_lem g.types (type_at g.types g.rows i)
      ∙ sym (ap (λ (b : Bool). cond b (length (variants_of g.types (type_at g.types g.rows i))) 0) (lt-ltb i (length g.rows) (omega (arith, many-rows))))

  pub variants-none : rows.many ≤ i → 0 ≡ variant_count g i
  unfolding variant_count
  variants-none h = sym (ap (λ (b : Bool). cond b (length (variants_of g.types (type_at g.types g.rows i))) 0) (le-ltb i (length g.rows) (omega (arith, many-rows))))

  pub few-variants : variant_count g i ≤ 16
  unfolding variant_count
  few-variants = go (ltb i (length g.rows))
    where
      go : (b : Bool) → cond b (length (variants_of g.types (type_at g.types g.rows i))) 0 ≤ 16
      go true = held.formed.variant_counts (type_at g.types g.rows i)
      go false = omega arith

-- ---- a mask with a bit more

module _ (p : ℕ → Bool) (m v bit : ℕ) (is : m ≡ mask_of p v) (small : v < 16) (b : bit ≡ cond (p v) (2 ^ v) 0) where
  pub mask_next : m + bit ≡ mask_of p (v + 1)
  mask_next = ap (λ (x : ℕ). x + bit) is ∙ ap (λ (x : ℕ). mask_of p v + x) b ∙ sym (ap (mask_of p) (add-one v))

  pub mask_fits : m + bit < 65536
  mask_fits = omega (arith, mask_next, mask_small p (v + 1), pow_mono {i = v + 1} {j = 16} (omega arith))

-- ---- the test of the masks that a row had

pub not_settled : (lacks e f : Bool) → lacks ≡ e → lacks ≡ true → false ≡ (not e && f)
not_settled lacks e f q t = ap (λ (b : Bool). not b && f) (sym t ∙ q)

pub settled_so : (lacks e f lacks' : Bool) → lacks ≡ e → lacks ≡ false → lacks' ≡ f → lacks' ≡ (not e && f)
settled_so lacks e f lacks' q t q' = q' ∙ ap (λ (b : Bool). not b && f) (sym t ∙ q)

-- ---- the number of a variant

module _ {types : TypeTable} {rows : RowTable} {lines : LiteralTable} (g : Guard) (held : InTables longer types rows lines g) (i v : ℕ) (h : v < variant_count g i) where
  pub asked_of : {second : LiteralTable} → second ≡ literal_table (is i v ∷ []) → AskedOf types rows lines second g (is i v ∷ [])
  asked_of e =
      record {
        type_tables = held.types_of;
        row_tables = held.rows_of;
        first_lines = held.lines_of;
        second_lines = e;
        fits = walked-formed g held.formed i v h;
        total = held.total;
      }

module _ (budget settled possible : ℕ) (g : Guard) (i v : ℕ) (out : Bool) (q : out ≡ ruled_out settled possible v) where
  pub kept : out ≡ true → 2 ≡ number_by budget g settled possible i v
  kept t = ap (λ (b : Bool). cond b 2 (walked budget g i v)) (sym t ∙ q)

  pub asked_afresh : (r : ℕ) → out ≡ false → r ≡ code_for budget (with_variant g i v) → r ≡ number_by budget g settled possible i v
  unfolding walked
  asked_afresh r t verdict = verdict ∙ ap (λ (b : Bool). cond b 2 (walked budget g i v)) (sym t ∙ q)
