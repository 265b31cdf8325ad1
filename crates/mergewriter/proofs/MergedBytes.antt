-- The bytes of a merged guard are those of the parts that are put one behind the other. Assumes nothing.
use mathlib.Core.Path.{◌≡◌, refl, ap, ap₂, sym, ◌∙◌}
use mathlib.Core.List.{List, [], ◌∷◌, ◌++◌, map}
use Prim.Native.Nat.{ℕ, ◌+◌, ◌≤◌}
use native.Mathlib.Omega.{arith}
use lib.ListN.{length, length-append, length-map, replicate}
use Rattle.laws.specs.Lists.{concat_map, from}
use Rattle.guard.specs.Guard.{Guard, Literal, Row}
use Rattle.reader.specs.declared.Tables.{Tables}
use Rattle.encoding.specs.Encoding.{encoded}
use Rattle.encoding.proofs.ReadBack.{one_byte}
use Rattle.serialize.specs.Tokens.{Token, Token.plain, bytes_of, guard_tokens, literal_tokens, row_tokens, token_bytes, type_tokens}
use Rattle.serialize.proofs.Copying.{concat_map-append}
use Rattle.merged.specs.Merge.{kept_rows, merged, names, names_from, renamed_literal, renamed_row, type_part, variables, written, written_of}
use Rattle.merged.proofs.Renaming.{keep_all, own_literals, own_rows}
use Rattle.renaming.specs.declared.Names.{Names}
use Rattle.renaming.specs.Names.{AreNames}
use Rattle.renaming.proofs.Padded.{padded-literals, padded-rows}
use Rattle.mergewriter.specs.Merging.{BothOf, all_literals, all_rows}
use Rattle.mergewriter.proofs.ThreePuts.{Parts}
use Rattle.mergewriter.proofs.Held.{lines_are, literals-held, rows-held}

-- ---- parts of a guard

abbrev pub rows_bytes : List Row → List ℕ
rows_bytes rs = concat_map token_bytes (concat_map row_tokens rs)

abbrev pub literals_bytes : List Literal → List ℕ
literals_bytes ls = concat_map token_bytes (concat_map literal_tokens ls)

-- the types, then the rows, then the literals
pub in_parts : (g : Guard) → Parts (type_part g.types) (all_rows g) (all_literals g) (bytes_of g)
unfolding bytes_of guard_tokens type_part
in_parts g = record {
  are = sym (
      concat_map-append token_bytes (plain (length g.types) ∷ concat_map type_tokens g.types) (row_part ++ literal_part)
      ∙ ap (λ (l : List ℕ). type_part g.types ++ l) (concat_map-append token_bytes row_part literal_part));
}
  where
    row_part : List Token
    row_part = plain (length g.rows) ∷ concat_map row_tokens g.rows

    literal_part : List Token
    literal_part = plain (length g.literals) ∷ concat_map literal_tokens g.literals

pub rows_both : (rs ss : List Row) → rows_bytes (rs ++ ss) ≡ rows_bytes rs ++ rows_bytes ss
rows_both rs ss = ap (concat_map token_bytes) (concat_map-append row_tokens rs ss) ∙ concat_map-append token_bytes (concat_map row_tokens rs) (concat_map row_tokens ss)

pub literals-both : (ls ms : List Literal) → literals_bytes (ls ++ ms) ≡ literals_bytes ls ++ literals_bytes ms
literals-both ls ms = ap (concat_map token_bytes) (concat_map-append literal_tokens ls ms) ∙ concat_map-append token_bytes (concat_map literal_tokens ls) (concat_map literal_tokens ms)

pub merged-types : (g h : Guard) → type_part g.types ≡ type_part (merged g h).types
unfolding merged
merged-types g h = refl

pub line-count : (g h : Guard) → length (merged g h).literals ≡ length g.literals + length h.literals
unfolding merged
line-count g h = length-append g.literals (map (renamed_literal (names g h)) h.literals) ∙ ap (λ (k : ℕ). length g.literals + k) (length-map h.literals (renamed_literal (names g h)))

-- ---- parts of two guards

module _ {first second : Tables} {g h : Guard} (b : BothOf first second g h) where
  -- the first's rows under their own numbers, none of them skipped
  pub own_bytes : rows_bytes (map (renamed_row (from 24 0)) (kept_rows (replicate 24 0) g.rows)) ≡ rows_bytes g.rows
  own_bytes =
      let held = rows-held b.one in
      ap rows_bytes (ap (map (renamed_row (from 24 0))) (keep_all 24 g.rows) ∙ own_rows 24 g.types g.rows held.many held.fit)

  pub own_lines : literals_bytes (map (renamed_literal (from 24 0)) g.literals) ≡ literals_bytes g.literals
  own_lines = ap literals_bytes (own_literals 24 g.types g.rows (rows-held b.one).many g.literals (literals-held b.one).fit)

  pub lines-sum : first.literals.many + second.literals.many ≡ length (merged g h).literals
  lines-sum = ap₂ ◌+◌ (lines_are b.one) (lines_are b.other) ∙ sym (line-count g h)

  module _ {n : Names} (are : AreNames g.types g.rows h.rows n) where
    abbrev pub added : List Row
    added = map (renamed_row n.names) (kept_rows n.skipped h.rows)

    -- the names in the array are the definition's, with zeros behind them
    added_is : added ≡ map (renamed_row (names g h)) (written g h)
    unfolding names written
    added_is =
        ap₂ (λ (xs : List ℕ) (rs : List Row). map (renamed_row xs) rs) are.names are.kept
        ∙ padded-rows 24 (names_from (variables g.rows) (length g.rows) h.rows) (written_of (variables g.rows) h.rows)

    pub row_count : n.rows ≡ length (merged g h).rows
    unfolding merged written
    row_count = are.rows ∙ sym (length-append g.rows (map (renamed_row (names g h)) (written g h)) ∙ ap (λ (k : ℕ). length g.rows + k) (length-map (written g h) (renamed_row (names g h))))

    pub all-rows : n.rows ≤ 24 → Parts (n.rows ∷ []) (rows_bytes g.rows) (rows_bytes added) (all_rows (merged g h))
    unfolding merged
    all-rows few =
        record {
          are = ap₂ (λ (x y : List ℕ). x ++ y) (sym (one_byte n.rows (omega (arith, few))) ∙ ap encoded row_count)
              (sym (rows_both g.rows added) ∙ ap (λ (rs : List Row). rows_bytes (g.rows ++ rs)) added_is);
        }

    abbrev pub added-lines : List Literal
    added-lines = map (renamed_literal n.names) h.literals

    lines-is : added-lines ≡ map (renamed_literal (names g h)) h.literals
    unfolding names
    lines-is =
        ap (λ (xs : List ℕ). map (renamed_literal xs) h.literals) are.names
        ∙ padded-literals 24 (names_from (variables g.rows) (length g.rows) h.rows) h.literals

    pub all-literals : (k : ℕ) → k ≡ length (merged g h).literals → k ≤ 32 → Parts (k ∷ []) (literals_bytes g.literals) (literals_bytes added-lines) (all_literals (merged g h))
    unfolding merged
    all-literals k e few =
        record {
          are = ap₂ (λ (x y : List ℕ). x ++ y) (sym (one_byte k (omega (arith, few))) ∙ ap encoded e)
              (sym (literals-both g.literals added-lines) ∙ ap (λ (ls : List Literal). literals_bytes (g.literals ++ ls)) lines-is);
        }
