-- "The inverse gives the original bytes, for every accepted file." Each column of a guard's rows is read back, so the restored file has
-- the guard's bytes. Assumes nothing.
use mathlib.Core.Path.{◌≡◌, refl, ap, ap₂, sym, subst, ◌∙◌}
use mathlib.Core.List.{List, [], ◌∷◌, ◌++◌, append_assoc, append-nil, map, Memᴰ}
use Prim.Native.Nat.{ℕ, zero, suc, ◌≤◌, ◌<◌}
use native.Mathlib.Omega.{arith}
use lib.ListN.{length, get_or, take}
use Rattle.laws.specs.All.{All}
use Rattle.laws.specs.Lists.{concat_map, from}
use Rattle.laws.proofs.Lists.{by_positions, concat_map_cong, from_bounds}
use Rattle.guard.specs.File.{count, file, types}
use Rattle.guard.specs.Guard.{Guard, Row, no_row, row_at}
use Rattle.guard.specs.Limits.{Limits, Supported, total_variant_limit}
use Rattle.guard.specs.Number.{Parsed, Parsed.accepted, Parser, and_then, return, width32}
use Rattle.guard.specs.Types.{Types, Variant, all_defaults, infinite_fields}
use Rattle.guard.specs.WellFormed.{RowFits, WellFormed}
use Rattle.guard.proofs.Accepted.{accepted-total, accepted_well_formed}
use Rattle.tables.proofs.Lookups.{map_at}
use Rattle.encoding.specs.Encoding.{encoded}
use Rattle.serialize.specs.Tokens.{Token, Token.plain, bytes_of, guard_tokens, literal_tokens, row_tokens, token_bytes, type_tokens}
use Rattle.serialize.proofs.Copying.{concat_map-append}
use Rattle.serialize.proofs.Taking.{Takes, TakesBefore}
use Rattle.serialize.proofs.TakenFile.{all-ready, takes_count, takes_types, types-fit}
use Rattle.serialize.proofs.Theorems.{as_bytes, file-numbers, well_formed-file}
use Rattle.merged.specs.Merge.{type_part}
use Rattle.columnfile.specs.Columns.{bytes_for, cell, column, column_bytes, columns, columns_bytes, entry, line_part, restored_file, restored_head, restored_row, restored_rows, row_numbers, second, stored_bytes, third, width}
use Rattle.columnfile.proofs.Gives.{Gives, gives-asked, gives_bind, gives-return, gives_same}
use Rattle.columnfile.proofs.RowNumbers.{Sizes, at, at-most-six, row-bytes, six_places, width_is}
use Rattle.columnfile.proofs.Cells.{cell-back, column-back}

-- ---- lists

each_of_each : {A B : Type 0} (f : A → List ℕ) (g : B → List A) (xs : List B) → concat_map (λ x. concat_map f (g x)) xs ≡ concat_map f (concat_map g xs)
each_of_each f g [] = refl
each_of_each f g (x ∷ xs) = ap (λ (l : List ℕ). concat_map f (g x) ++ l) (each_of_each f g xs) ∙ sym (concat_map-append f (g x) (concat_map g xs))

concat_map_lem : {A B : Type 0} (f : A → List ℕ) (g : B → A) (xs : List B) → concat_map (λ x. f (g x)) xs ≡ concat_map f (map g xs)
concat_map_lem f g [] = refl
concat_map_lem f g (x ∷ xs) = ap (λ (l : List ℕ). f (g x) ++ l) (concat_map_lem f g xs)

map_same : {A : Type 0} (xs : List A) → map (λ x. x) xs ≡ xs
map_same [] = refl
map_same (x ∷ xs) = ap (λ l. x ∷ l) (map_same xs)

each_row : (f : Row → List ℕ) (rs : List Row) → concat_map (λ i. f (row_at rs i)) (from (length rs) 0) ≡ concat_map f rs
each_row f rs = concat_map_lem f (row_at rs) (from (length rs) 0) ∙ ap (concat_map f) (by_positions (λ r. r) rs no_row ∙ map_same rs)

-- ---- parts of a file

-- what a parser takes from tokens, it takes from their bytes
pub from-tokens : {A : Type 0} (p : Parser A) (ks : List Token) (a : A) → Takes as_bytes p ks a → Gives p (concat_map token_bytes ks) a
unfolding TakesBefore as_bytes
from-tokens p ks a h = record { takes = λ left. h left tt }

pub count-back : (most n : ℕ) → n ≤ width32.most → n ≤ most → Gives (count most) (encoded n) n
unfolding as_bytes
count-back most n small h = gives_same (count most) (append-nil (encoded n)) (from-tokens (count most) (plain n ∷ []) n (takes_count as_bytes most n small h))

-- the types, then the rows, then the lines
pub in_parts : (g : Guard) → bytes_of g ≡ type_part g.types ++ (encoded (length g.rows) ++ (concat_map token_bytes (concat_map row_tokens g.rows) ++ line_part g))
unfolding bytes_of guard_tokens type_part
in_parts g =
    concat_map-append token_bytes (plain (length g.types) ∷ concat_map type_tokens g.types) (plain (length g.rows) ∷ (concat_map row_tokens g.rows ++ lines_of))
    ∙ ap (λ (l : List ℕ). type_part g.types ++ (encoded (length g.rows) ++ l)) (concat_map-append token_bytes (concat_map row_tokens g.rows) lines_of)
  where
    lines_of : List Token
    lines_of = plain (length g.literals) ∷ concat_map literal_tokens g.literals

-- ---- the way back

module _ (limits : Limits) (sup : Supported limits) (g : Guard) (w : WellFormed limits g) where
  abbrev ts : Types
  ts = g.types

  abbrev rs : List Row
  rs = g.rows

  sizes : Sizes ts
  sizes = record { types = omega (arith, w.type_count, sup.types); variants = w.variant_counts; fields = w.field_counts }

  few : (i : ℕ) → i < length rs → i ≤ 24
  few i h = omega (arith, w.term_count, sup.terms)

  abbrev numbers_at : ℕ → List ℕ
  numbers_at j = map (at j) rs

  -- the columns before this one
  abbrev columns_up_to : ℕ → List (List ℕ)
  columns_up_to j = map numbers_at (from j 0)

  abbrev columns_of : List (List ℕ)
  columns_of = columns_up_to 6

  at_row : (j i : ℕ) → i < length rs → get_or (numbers_at j) i 0 ≡ at j (row_at rs i)
  at_row j i h = map_at (at j) rs i no_row 0 h

  -- a column, whose parsers know what stands before
  one-column : (j : ℕ) (ks ss vs : List ℕ)
      → ((i : ℕ) → i < length rs → cell ts j (get_or ks i 0) (get_or ss i 0) (get_or vs i 0) ≡ cell ts j (at 0 (row_at rs i)) (at 1 (row_at rs i)) (at 2 (row_at rs i)))
      → Gives (column ts j (length rs) ks ss vs) (column_bytes j rs) (numbers_at j)
  one-column j ks ss vs same =
      column-back (λ i. cell ts j (get_or ks i 0) (get_or ss i 0) (get_or vs i 0)) (λ r. bytes_for (entry j r)) (at j) rs
      (λ i h. subst (λ (p : Parser ℕ). Gives p (bytes_for (entry j (row_at rs i))) (at j (row_at rs i))) (sym (same i h)) (cell-back ts rs sizes i (few i h) j (row_at rs i) (w.rows i h)))
      [] rs refl

  -- from the fourth column on
  later_column : (j : ℕ) → Gives (column ts j (length rs) (numbers_at 0) (numbers_at 1) (numbers_at 2)) (column_bytes j rs) (numbers_at j)
  later_column j =
      one-column j (numbers_at 0) (numbers_at 1) (numbers_at 2)
      (λ i h. ap₂ (λ (k s : ℕ). cell ts j k s (get_or (numbers_at 2) i 0)) (at_row 0 i h) (at_row 1 i h) ∙ ap (cell ts j (at 0 (row_at rs i)) (at 1 (row_at rs i))) (at_row 2 i h))

  all-columns : Gives (columns ts (length rs)) (columns_bytes rs) columns_of
  all-columns =
      gives_bind _ _ (one-column 0 [] [] [] (λ i h. refl))
      (gives_bind _ _ (one-column 1 (numbers_at 0) [] [] (λ i h. ap (second ts) (at_row 0 i h)))
      (gives_bind _ _ (one-column 2 (numbers_at 0) (numbers_at 1) [] (λ i h. ap₂ (third ts) (at_row 0 i h) (at_row 1 i h)))
      (gives_bind _ _ (later_column 3) (gives_bind _ _ (later_column 4) (gives_bind _ _ (later_column 5) (gives-return columns_of))))))

  -- each row has its numbers
  row_back : (i : ℕ) → i < length rs → restored_row ts columns_of i ≡ row_numbers (row_at rs i)
  row_back i h =
      rw (at_row 0 i h, at_row 1 i h, at_row 2 i h, at_row 3 i h, at_row 4 i h, at_row 5 i h, width_is ts rs sizes i (few i h) (row_at rs i) (w.rows i h))
      (six_places (row_numbers (row_at rs i)) (at-most-six ts rs sizes i (few i h) (row_at rs i) (w.rows i h)))

  rows_back : restored_rows ts (length rs) columns_of ≡ encoded (length rs) ++ concat_map token_bytes (concat_map row_tokens rs)
  rows_back =
      ap (λ (l : List ℕ). encoded (length rs) ++ l)
      (concat_map_cong (λ i. bytes_for (restored_row ts columns_of i)) (λ i. concat_map token_bytes (row_tokens (row_at rs i))) (from (length rs) 0)
      (λ i m. let h : i < length rs = omega (arith, from_bounds (length rs) 0 i m) in ap bytes_for (row_back i h) ∙ row-bytes ts rs sizes i (few i h) (row_at rs i) (w.rows i h))
      ∙ each_row (λ r. concat_map token_bytes (row_tokens r)) rs ∙ each_of_each token_bytes row_tokens rs)

  module _ (total : length (concat_map (λ (vs : List Variant). vs) ts) ≤ total_variant_limit) where
    abbrev types_bytes : List ℕ
    types_bytes = concat_map token_bytes (concat_map type_tokens ts)

    head-back : Gives (restored_head limits) (encoded (length ts) ++ (types_bytes ++ (encoded (length rs) ++ (columns_bytes rs ++ [])))) (type_part ts ++ restored_rows ts (length rs) columns_of)
    unfolding restored_head as_bytes
    head-back =
        gives_bind _ _ (count-back limits.types (length ts) (omega (arith, sizes.types)) w.type_count)
        (gives_bind _ _ (from-tokens (types (length ts) (length ts) 0) (concat_map type_tokens ts) ts (takes_types as_bytes (length ts) 0 ts (omega (arith, sizes.types)) (types-fit w) (omega (arith, total))))
        (gives-asked 8 (all_defaults ts) _ (all-ready w)
        (gives-asked 9 (infinite_fields ts) _ w.infinite
        (gives_bind _ _ (count-back limits.terms (length rs) (omega (arith, w.term_count, sup.terms)) w.term_count)
        (gives_bind _ _ all-columns (gives-return (type_part ts ++ restored_rows ts (length rs) columns_of)))))))

    stored-parts : stored_bytes g ≡ (encoded (length ts) ++ (types_bytes ++ (encoded (length rs) ++ (columns_bytes rs ++ [])))) ++ line_part g
    unfolding stored_bytes type_part
    stored-parts = simp (append_assoc, append-nil)

    -- what is stored is restored
    pub restored_guard : restored_file limits (stored_bytes g) ≡ accepted g []
    unfolding restored_file
    restored_guard =
        ap (λ (l : List ℕ). and_then (λ head rest. file limits (head ++ rest)) (restored_head limits l)) stored-parts
        ∙ ap (and_then (λ head rest. file limits (head ++ rest))) (head-back.takes (line_part g))
        ∙ ap (file limits) (ap (λ (l : List ℕ). (type_part ts ++ l) ++ line_part g) rows_back ∙ grouped ∙ sym (in_parts g))
        ∙ well_formed-file limits sup g w total
      where
        grouped : (type_part ts ++ (encoded (length rs) ++ concat_map token_bytes (concat_map row_tokens rs))) ++ line_part g
            ≡ type_part ts ++ (encoded (length rs) ++ (concat_map token_bytes (concat_map row_tokens rs) ++ line_part g))
        grouped = simp append_assoc

-- "The inverse gives the original bytes, for every accepted file."
module _ (limits : Limits) (sup : Supported limits) (bs : List ℕ) (g : Guard) (rest : List ℕ) (small : All (λ b. b < 256) bs) (taken : file limits bs ≡ accepted g rest) where
  pub inverse : (restored_file limits (stored_bytes g) ≡ accepted g []) × (bytes_of g ≡ bs)
  inverse = (
    restored_guard limits sup g (accepted_well_formed limits sup bs g rest taken) (accepted-total limits sup bs g rest taken),
    (file-numbers limits sup bs g rest small taken).1,
  )
