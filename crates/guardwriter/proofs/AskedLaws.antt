-- Tables that hold a guard and lines behind its own hold their parts, and the bytes of the guard are those of the parts. Assumes nothing.
use mathlib.Core.Path.{◌≡◌, ap, ap₂, sym, subst, ◌∙◌}
use mathlib.Core.List.Memᴰ
use mathlib.Core.List.{List, [], ◌∷◌, ◌++◌, map}
use Prim.Native.Nat.{ℕ, ◌+◌, ◌≤◌, ◌<◌}
use native.Mathlib.Omega.{arith}
use lib.ListN.{length, length-append, replicate}
use Rattle.laws.specs.All.{All}
use Rattle.laws.specs.Lists.{from}
use Rattle.laws.proofs.Lists.{all_of}
use Rattle.guard.specs.Guard.{Guard, Literal}
use Rattle.guard.specs.Limits.{Supported}
use Rattle.guard.specs.WellFormed.{LiteralFits}
use Rattle.tables.specs.Layout.{literal_table}
use Rattle.tables.specs.declared.LiteralTable.{LiteralTable}
use Rattle.tables.specs.declared.RowTable.{RowTable}
use Rattle.tables.specs.declared.TypeTable.{TypeTable}
use Rattle.encoding.specs.Encoding.{encoded}
use Rattle.encoding.proofs.ReadBack.{one_byte}
use Rattle.heldparts.specs.Held.{HoldsLiterals, HoldsRows, HoldsTypes}
use Rattle.heldparts.proofs.FromGuard.{holds_rows, holds-types}
use Rattle.literalwriter.specs.LiteralBytes.{SomeLiterals}
use Rattle.rowterms.specs.Rows.{SomeRows}
use Rattle.rowterms.proofs.RowLaws.{row_count}
use Rattle.merged.specs.Merge.{kept_rows, renamed_literal, renamed_row}
use Rattle.merged.proofs.Renaming.{keep_all, own_literals, own_rows}
use Rattle.mergewriter.specs.Merging.{all_literals, all_rows}
use Rattle.mergewriter.proofs.MergedBytes.{literals-both, literals_bytes, rows_bytes}
use Rattle.mergewriter.proofs.ThreePuts.{Parts}
use Rattle.verdictcodes.specs.Codes.{with_more}
use Rattle.guardwriter.specs.GuardBytes.{AskedOf, wide}

pub wide-supported : Supported wide
wide-supported = record { types = omega arith; terms = omega arith; lines = omega arith }

module _ {types : TypeTable} {rows : RowTable} {first second : LiteralTable} {g : Guard} {more : List Literal} (k : AskedOf types rows first second g more) where
  -- ---- what the tables hold

  pub types-held : HoldsTypes types g.types
  types-held = subst (λ (x : TypeTable). HoldsTypes x g.types) (sym k.type_tables) (holds-types wide wide-supported (with_more g more) k.fits k.total)

  pub rows-held : HoldsRows rows g.types g.rows
  rows-held = subst (λ (x : RowTable). HoldsRows x g.types g.rows) (sym k.row_tables) (holds_rows wide wide-supported (with_more g more) k.fits)

  lines-few : length g.literals + length more ≤ 64
  lines-few = omega (arith, length-append g.literals more, k.fits.line_count)

  own_fit : All (LiteralFits g.types g.rows) g.literals
  own_fit = all_of g.literals (λ l m. k.fits.literals l (Memᴰ.append_left more m))

  more-fit : All (LiteralFits g.types g.rows) more
  more-fit = all_of more (λ l m. k.fits.literals l (Memᴰ.append_right g.literals m))

  pub own_held : HoldsLiterals first g.types g.rows g.literals
  own_held = record { are = k.first_lines; many = omega (arith, lines-few); fit = own_fit }

  pub more-held : HoldsLiterals second g.types g.rows more
  more-held = record { are = k.second_lines; many = omega (arith, lines-few); fit = more-fit }

  pub some-rows : SomeRows types rows
  some-rows = record { ts = _; rs = _; holds-types = types-held; holds_rows = rows-held }

  pub some_own : SomeLiterals first
  some_own = record { ts = _; rs = _; ls = _; held = own_held; rows = rows-held.many; variants = types-held.variants }

  pub some_more : SomeLiterals second
  some_more = record { ts = _; rs = _; ls = _; held = more-held; rows = rows-held.many; variants = types-held.variants }

  -- ---- counts

  pub rows_byte : rows.many < 128
  rows_byte = omega (arith, row_count rows-held, rows-held.many)

  own_many : first.many ≡ length g.literals
  unfolding literal_table
  own_many = ap (λ (x : LiteralTable). x.many) k.first_lines

  more-many : second.many ≡ length more
  unfolding literal_table
  more-many = ap (λ (x : LiteralTable). x.many) k.second_lines

  pub lines_byte : first.many + second.many < 128
  lines_byte = omega (arith, own_many, more-many, lines-few)

  -- ---- bytes

  pub row-part : (own : List ℕ) → own ≡ from 24 0 → (rows.many ∷ []) ++ rows_bytes (map (renamed_row own) (kept_rows (replicate 24 0) g.rows)) ≡ all_rows (with_more g more)
  row-part own e =
      ap₂ (λ (x y : List ℕ). x ++ y) (sym (one_byte rows.many rows_byte) ∙ ap encoded (row_count rows-held))
      (ap (λ (names : List ℕ). rows_bytes (map (renamed_row names) (kept_rows (replicate 24 0) g.rows))) e
      ∙ ap rows_bytes (ap (map (renamed_row (from 24 0))) (keep_all 24 g.rows) ∙ own_rows 24 g.types g.rows rows-held.many rows-held.fit))

  named_own : (own : List ℕ) → own ≡ from 24 0 → (ls : List Literal) → All (LiteralFits g.types g.rows) ls → literals_bytes (map (renamed_literal own) ls) ≡ literals_bytes ls
  named_own own e ls fit =
      ap (λ (names : List ℕ). literals_bytes (map (renamed_literal names) ls)) e ∙ ap literals_bytes (own_literals 24 g.types g.rows rows-held.many ls fit)

  pub line-part : (own : List ℕ) → own ≡ from 24 0
      → Parts ((first.many + second.many) ∷ []) (literals_bytes (map (renamed_literal own) g.literals)) (literals_bytes (map (renamed_literal own) more)) (all_literals (with_more g more))
  line-part own e =
      let count : first.many + second.many ≡ length (g.literals ++ more) = omega (arith, own_many, more-many, length-append g.literals more) in
      record {
        are = ap₂ (λ (x y : List ℕ). x ++ y) (sym (one_byte (first.many + second.many) lines_byte) ∙ ap encoded count)
            (ap₂ (λ (x y : List ℕ). x ++ y) (named_own own e g.literals own_fit) (named_own own e more more-fit) ∙ sym (literals-both g.literals more));
      }
