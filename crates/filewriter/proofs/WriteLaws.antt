-- A list that is taken: its guard, its tokens, and the tables that its reader gave. Assumes nothing.
use mathlib.Core.Path.{◌≡◌, refl, ap, ap₂, sym, subst, ◌∙◌}
use mathlib.Core.List.{List, [], ◌∷◌, map}
use Prim.Native.Nat.{ℕ, ◌+◌, ◌-◌, ◌*◌, ◌≤◌}
use native.Mathlib.Omega.{arith}
use lib.IntN.{ℤ}
use lib.ListN.{length, length-append, length-map}
use Rattle.laws.specs.Lists.{concat_map}
use Rattle.guard.specs.Guard.{Guard, Literal, Literal.equal, Literal.is, Literal.isnt, Literal.unequal, Row, Row.built, Row.constant, Row.field, Row.variable, type_of}
use Rattle.guard.specs.Limits.{base}
use Rattle.guard.specs.Number.{fold_signed}
use Rattle.guard.specs.Types.{Types}
use Rattle.guard.proofs.Accepted.{accepted-length, accepted-total, accepted_well_formed}
use Rattle.guard.proofs.Claims.{base-supported}
use Rattle.tables.specs.Layout.{literal_table, pad, row_kind, row_table, row_variant, type_table}
use Rattle.reader.specs.declared.Tables.{Tables}
use Rattle.reader.specs.Reader.{guard_tables}
use Rattle.encoding.proofs.ReadBack.{one-at_least, value-one-at_least}
use Rattle.serialize.specs.NumberList.{list_file}
use Rattle.serialize.specs.Tokens.{Token, Token.plain, Token.value, bytes_of, guard_tokens, listed, literal_tokens, numbers_of, token_bytes}
use Rattle.serialize.proofs.Theorems.{read_as_list, tokens-fit}
use Rattle.std.specs.Prelude.{Option}
use Rattle.bytebuffer.specs.Puts.{Puts}
use Rattle.listreader.specs.ListReader.{Taken, valueless_row, valueless_rows}
use Rattle.valuemarks.specs.Marks.{Listed, MarksValues, marks_of, room, until_lines}
use Rattle.valuemarks.proofs.Midway.{all-length, lines}
use Rattle.filewriter.specs.Marking.{Marked}
use Rattle.filewriter.proofs.TokenLaws.{bytes}

-- ---- columns of rows don't show values

kind-kept : (r : Row) → row_kind (valueless_row r) ≡ row_kind r
kind-kept (variable t) = refl
kind-kept (constant t z) = refl
kind-kept (built t v ps) = refl
kind-kept (field t a v p) = refl

variant-kept : (r : Row) → row_variant (valueless_row r) ≡ row_variant r
variant-kept (variable t) = refl
variant-kept (constant t z) = refl
variant-kept (built t v ps) = refl
variant-kept (field t a v p) = refl

type-kept : (ts : Types) (r : Row) → type_of ts (valueless_row r) ≡ type_of ts r
type-kept ts (variable t) = refl
type-kept ts (constant t z) = refl
type-kept ts (built t v ps) = refl
type-kept ts (field t a v p) = refl

column-kept : (f : Row → ℕ) → ((r : Row) → f (valueless_row r) ≡ f r) → (rs : List Row) → map f (valueless_rows rs) ≡ map f rs
column-kept f h [] = refl
column-kept f h (r ∷ rs) = ap₂ (λ (x : ℕ) (xs : List ℕ). x ∷ xs) (h r) (column-kept f h rs)

-- ---- lengths

some_byte : (k : Token) → 1 ≤ length (token_bytes k)
some_byte (plain n) = one-at_least n
some_byte (value z) = value-one-at_least (fold_signed z)

bytes_cover : (ks : List Token) → length ks ≤ length (bytes ks)
bytes_cover [] = omega arith
bytes_cover (k ∷ ks) = omega (arith, bytes_cover ks, some_byte k, length-append (token_bytes k) (bytes ks))

lines-length : (ls : List Literal) → length (concat_map literal_tokens ls) ≡ 3 * length ls
lines-length [] = refl
lines-length (equal i j ∷ ls) = omega (arith, lines-length ls)
lines-length (unequal i j ∷ ls) = omega (arith, lines-length ls)
lines-length (is i v ∷ ls) = omega (arith, lines-length ls)
lines-length (isnt i v ∷ ls) = omega (arith, lines-length ls)

module _ (zs : List ℤ) {t : Tables} (k : Taken (list_file base zs) t) where
  abbrev g : Guard
  g = k.guard

  taken-types : k.shown.types ≡ g.types
  taken-types = ap (λ (x : Guard). x.types) k.same

  taken-literals : k.shown.literals ≡ g.literals
  taken-literals = ap (λ (x : Guard). x.literals) k.same

  kept : (f : Row → ℕ) → ((r : Row) → f (valueless_row r) ≡ f r) → map f k.shown.rows ≡ map f g.rows
  kept f h = sym (column-kept f h k.shown.rows) ∙ ap (λ (x : Guard). map f x.rows) k.same ∙ column-kept f h g.rows

  pub bytes_read : (bytes_of g ≡ bytes (guard_tokens g)) × (zs ≡ map listed (guard_tokens g)) × (length (guard_tokens g) ≤ room)
  unfolding bytes_of numbers_of
  bytes_read =
      let (back, same) = read_as_list base base-supported zs g k.rest k.is in
      (refl, sym same, omega (arith, bytes_cover (guard_tokens g), accepted-length base base-supported (bytes_of g) g [] back))

  pub listed-tables : Listed t.types t.rows g
  unfolding guard_tables row_table
  listed-tables =
      let back = (read_as_list base base-supported zs g k.rest k.is).0 in
      record {
        well_formed = accepted_well_formed base base-supported (bytes_of g) g [] back;
        total = accepted-total base base-supported (bytes_of g) g [] back;
        short = bytes_read.2;
        types_are = ap (λ (x : Tables). x.types) k.tables ∙ ap type_table taken-types;
        many = ap (λ (x : Tables). x.rows.many) k.tables ∙ sym (length-map k.shown.rows row_kind) ∙ ap length (kept row_kind kind-kept) ∙ length-map g.rows row_kind;
        kinds = ap (λ (x : Tables). x.rows.kinds) k.tables ∙ ap (pad 24) (kept row_kind kind-kept);
        sorts = ap (λ (x : Tables). x.rows.types) k.tables ∙ ap (λ (ts : Types). pad 24 (map (type_of ts) k.shown.rows)) taken-types ∙ ap (pad 24) (kept (type_of g.types) (type-kept g.types));
        variants = ap (λ (x : Tables). x.rows.variants) k.tables ∙ ap (pad 24) (kept row_variant variant-kept);
      }

  lines-many : t.literals.many ≡ length g.literals
  unfolding guard_tables literal_table
  lines-many = ap (λ (x : Tables). x.literals.many) k.tables ∙ ap length taken-literals

  -- where the rows end
  pub list_length : length zs ≡ length (until_lines g) + (1 + 3 * t.literals.many)
  list_length =
      ap length bytes_read.1 ∙ length-map (guard_tokens g) listed ∙ all-length g
      ∙ (let e : length (lines g) ≡ 1 + 3 * t.literals.many = omega (arith, lines-length g.literals, lines-many) in ap (λ (n : ℕ). length (until_lines g) + n) e)

  pub rows_end : length zs - 1 - 3 * t.literals.many ≡ length (until_lines g)
  rows_end = omega (arith, list_length)

  pub lines-few : t.literals.many ≤ 32
  lines-few = omega (arith, lines-many, listed-tables.well_formed.line_count)

  pub all-marked : {marks : List ℕ} → MarksValues t.types t.rows (length zs - 1 - 3 * t.literals.many) marks → Marked zs marks (guard_tokens g)
  unfolding marks_of
  all-marked m = let e = m.are g listed-tables rows_end in record { are = bytes_read.1; marked = e; fit = tokens-fit base base-supported zs g k.rest k.is; short = bytes_read.2 }

  -- ---- the answer

  pub file-puts : (out : List ℕ) (r : Option ℕ) (out' : List ℕ) → Puts (bytes (guard_tokens g)) out 0 r out' → Puts (bytes_of g) out 0 r out'
  file-puts out r out' p = subst (λ (bs : List ℕ). Puts bs out 0 r out') (sym bytes_read.0) p
