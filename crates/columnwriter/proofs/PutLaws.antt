-- The parts of a stored file, put one behind the other. Assumes nothing.
use mathlib.Core.Path.{◌≡◌, refl, ap, ap₂, sym, ◌∙◌}
use mathlib.Core.List.{List, [], ◌∷◌, ◌++◌, append_assoc, map}
use Prim.Native.Nat.{ℕ, ◌<◌}
use native.Mathlib.Omega.{arith}
use lib.ListN.{length}
use Rattle.laws.specs.Lists.{concat_map, from}
use Rattle.guard.specs.Guard.{Guard}
use Rattle.reader.specs.declared.Tables.{Tables}
use Rattle.encoding.specs.Encoding.{encoded}
use Rattle.encoding.proofs.ReadBack.{one_byte}
use Rattle.serialize.specs.Tokens.{literal_tokens, token_bytes}
use Rattle.merged.specs.Merge.{renamed_literal, type_part}
use Rattle.merged.proofs.Renaming.{own_literals}
use Rattle.rowterms.proofs.RowLaws.{row_count}
use Rattle.mergewriter.specs.Merging.{TablesOf}
use Rattle.mergewriter.proofs.Held.{lines_are, literals-held, own_small, rows-held, some-literals, types-held}
use Rattle.bytebuffer.specs.declared.Writer.{Writer}
use Rattle.bytebuffer.specs.Appends.{Appends}
use Rattle.bytebuffer.proofs.PutLaws.{and_then, same-bytes, still_full}
use Rattle.literalwriter.specs.LiteralBytes.{PutsLiterals}
use Rattle.rowterms.specs.Rows.{SomeRows}
use Rattle.std.specs.Prelude.{Option, Some, None}
use Rattle.columnwriter.specs.Entries.{PutsColumns, PutsLines, PutsRows, SomeGuard}
use Rattle.mergewriter.proofs.ThreePuts.{Parts}
use Rattle.columnfile.specs.Columns.{columns_bytes, line_part, stored_bytes}

module _ {t : Tables} {g : Guard} (k : TablesOf t g) where
  -- N is one byte, and so is L
  pub rows_few : t.rows.many < 128
  rows_few = omega (arith, row_count (rows-held k), (rows-held k).many)

  pub count_byte : t.rows.many ∷ [] ≡ encoded (length g.rows)
  count_byte = sym (one_byte t.rows.many rows_few) ∙ ap encoded (row_count (rows-held k))

  pub lines-few : t.literals.many < 128
  lines-few = omega (arith, lines_are k, (literals-held k).many)

  pub line-part : (own : List ℕ) → own ≡ from 24 0
      → (t.literals.many ∷ []) ++ concat_map token_bytes (concat_map literal_tokens (map (renamed_literal own) g.literals)) ≡ line_part g
  line-part own e =
      ap₂ (λ (x y : List ℕ). x ++ y) (sym (one_byte t.literals.many lines-few) ∙ ap encoded (lines_are k))
      (ap (λ (names : List ℕ). concat_map token_bytes (concat_map literal_tokens (map (renamed_literal names) g.literals))) e
      ∙ ap (λ ls. concat_map token_bytes (concat_map literal_tokens ls)) (own_literals 24 g.types g.rows (rows-held k).many g.literals (literals-held k).fit))

module _ {t : Tables} where
  -- ---- N and the columns

  pub some_rows : SomeGuard t → SomeRows t.types t.rows
  some_rows k = record { ts = _; rs = _; holds-types = types-held k.is; holds_rows = rows-held k.is }

  module _ {w w' : Writer} where
    pub rows_none : Appends (t.rows.many ∷ []) w None w' → PutsRows t w None w'
    rows_none p = record { puts = λ g k. same-bytes (ap (λ (l : List ℕ). l ++ columns_bytes g.rows) (count_byte k)) (still_full (columns_bytes g.rows) p) }

    pub rows_put : Appends (t.rows.many ∷ []) w (Some tt) w' → {result : Option (Unit {0})} {w'' : Writer} → PutsColumns t.types t.rows w' result w'' → PutsRows t w result w''
    rows_put p q = record { puts = λ g k. same-bytes (ap (λ (l : List ℕ). l ++ columns_bytes g.rows) (count_byte k)) (and_then p (q.puts g.types g.rows (types-held k) (rows-held k))) }

    -- ---- L and the lines

    pub lines_none : Appends (t.literals.many ∷ []) w None w' → PutsLines t w None w'
    lines_none p = record { puts = λ g k. same-bytes (line-part k (from 24 0) refl) (still_full _ p) }

    pub lines_put : Appends (t.literals.many ∷ []) w (Some tt) w' → {own : List ℕ} → own ≡ from 24 0 → {result : Option (Unit {0})} {w'' : Writer} → PutsLiterals t.literals own w' result w'' → PutsLines t w result w''
    lines_put p {own} e q = record { puts = λ g k. same-bytes (line-part k own e) (and_then p (q.puts g.types g.rows g.literals (literals-held k))) }

pub ruleset rows_laws = (some_rows, rows_none, rows_put)

pub ruleset lines_laws = (lines_none, lines_put, own_small)

-- the types, then N and the columns, then the lines
pub in_parts : (g : Guard) → Parts (type_part g.types) (encoded (length g.rows) ++ columns_bytes g.rows) (line_part g) (stored_bytes g)
unfolding stored_bytes
in_parts g = record { are = ap (λ (l : List ℕ). type_part g.types ++ l) (append_assoc (encoded (length g.rows)) (columns_bytes g.rows) (line_part g)) }
