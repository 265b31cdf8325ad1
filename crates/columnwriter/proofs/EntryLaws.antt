-- The numbers of a row, by what the tables say of it. Assumes nothing.
use mathlib.Core.Path.{◌≡◌, refl, ap, sym, ◌∙◌}
use mathlib.Core.List.{List, [], ◌∷◌, map}
use Prim.Native.Nat.{ℕ, zero, suc, ◌+◌, ◌-◌, ◌*◌, ◌≤◌, ◌<◌}
use native.Mathlib.Omega.{arith}
use lib.IntN.{pos}
use lib.ListN.{length, get_or, take, drop}
use Rattle.std.specs.Prelude.{Some, None}
use Rattle.guard.specs.Guard.{Row, Row.built, Row.constant, Row.field, Row.variable, row_at, type_of}
use Rattle.guard.specs.Number.{fold_signed}
use Rattle.guard.specs.Types.{Types}
use Rattle.tables.specs.declared.RowTable.{RowTable}
use Rattle.tables.specs.declared.TypeTable.{TypeTable}
use Rattle.tables.specs.Layout.{row_kind, row_parts, row_value, row_variant}
use Rattle.serialize.specs.Tokens.{Token.plain, unsigned_of}
use Rattle.rowterms.specs.Rows.{BuiltRow, PartCount}
use Rattle.rowterms.proofs.RowLaws.{entry}
use Rattle.columnfile.specs.Columns as columns
use Rattle.columnwriter.specs.Entries.{HasRow, IsEntry}

-- ---- a row, by its kind

kind-first : (r : Row) → row_kind r ∷ [] ≡ columns.entry 0 r
kind-first (variable t) = refl
kind-first (constant t z) = refl
kind-first (built t v ps) = refl
kind-first (field t a v p) = refl

type-second : (ts : Types) (r : Row) → ¬ (row_kind r ≡ 3) → type_of ts r ∷ [] ≡ columns.entry 1 r
type-second ts (variable t) h = refl
type-second ts (constant t z) h = refl
type-second ts (built t v ps) h = refl
type-second ts (field t a v p) h = absurd (h refl)

term-second : (r : Row) → row_kind r ≡ 3 → get_or (row_parts r) 0 0 ∷ [] ≡ columns.entry 1 r
term-second (field t a v p) e = refl
term-second (variable t) e = absurd (omega (arith, e))
term-second (constant t z) e = absurd (omega (arith, e))
term-second (built t v ps) e = absurd (omega (arith, e))

none-third : (r : Row) → row_kind r ≡ 0 → [] ≡ columns.entry 2 r
none-third (variable t) e = refl
none-third (constant t z) e = absurd (omega (arith, e))
none-third (built t v ps) e = absurd (omega (arith, e))
none-third (field t a v p) e = absurd (omega (arith, e))

value-third : (r : Row) → row_kind r ≡ 1 → fold_signed (row_value r) ∷ [] ≡ columns.entry 2 r
value-third (constant t z) e = refl
value-third (variable t) e = absurd (omega (arith, e))
value-third (built t v ps) e = absurd (omega (arith, e))
value-third (field t a v p) e = absurd (omega (arith, e))

variant-third : (r : Row) → ¬ (row_kind r ≡ 0) → ¬ (row_kind r ≡ 1) → row_variant r ∷ [] ≡ columns.entry 2 r
variant-third (built t v ps) h k = refl
variant-third (field t a v p) h k = refl
variant-third (variable t) h k = absurd (h refl)
variant-third (constant t z) h k = absurd (k refl)

-- parts, one after the other
part-at : (ps : List ℕ) (p : ℕ) → p < length ps → get_or ps p 0 ∷ [] ≡ take 1 (drop p (map unsigned_of (map plain ps)))
part-at [] p h = absurd (omega arith)
part-at (x ∷ ps) zero h = refl
part-at (x ∷ ps) (suc p) h = part-at ps p (omega arith)

part-past : (ps : List ℕ) (p : ℕ) → length ps ≤ p → [] ≡ take 1 (drop p (map unsigned_of (map plain ps)))
part-past [] zero h = refl
part-past [] (suc p) h = refl
part-past (x ∷ ps) zero h = absurd (omega arith)
part-past (x ∷ ps) (suc p) h = part-past ps p (omega arith)

part_later : (r : Row) → row_kind r ≡ 2 → (p : ℕ) → p < length (row_parts r) → get_or (row_parts r) p 0 ∷ [] ≡ columns.entry (suc (suc (suc p))) r
part_later (built t v ps) e p h = part-at ps p h
part_later (variable t) e p h = absurd (omega (arith, e))
part_later (constant t z) e p h = absurd (omega (arith, e))
part_later (field t a v q) e p h = absurd (omega (arith, e))

none_later : (r : Row) → row_kind r ≡ 2 → (p : ℕ) → length (row_parts r) ≤ p → [] ≡ columns.entry (suc (suc (suc p))) r
none_later (built t v ps) e p h = part-past ps p h
none_later (variable t) e p h = absurd (omega (arith, e))
none_later (constant t z) e p h = absurd (omega (arith, e))
none_later (field t a v q) e p h = absurd (omega (arith, e))

position_fourth : (r : Row) → row_kind r ≡ 3 → get_or (row_parts r) 1 0 ∷ [] ≡ columns.entry 3 r
position_fourth (field t a v p) e = refl
position_fourth (variable t) e = absurd (omega (arith, e))
position_fourth (constant t z) e = absurd (omega (arith, e))
position_fourth (built t v ps) e = absurd (omega (arith, e))

-- nothing else has a fourth number
no_fourth : (r : Row) (j : ℕ) → ¬ (row_kind r ≡ 2) → (row_kind r ≡ 3 → ¬ (j ≡ 0)) → [] ≡ columns.entry (suc (suc (suc j))) r
no_fourth (variable t) zero h k = refl
no_fourth (variable t) (suc j) h k = refl
no_fourth (constant t z) zero h k = refl
no_fourth (constant t z) (suc j) h k = refl
no_fourth (built t v ps) j h k = absurd (h refl)
no_fourth (field t a v p) zero h k = absurd (k refl refl)
no_fourth (field t a v p) (suc zero) h k = refl
no_fourth (field t a v p) (suc (suc j)) h k = refl

-- ---- as the tables have it

one : {m n : ℕ} → m ≡ n → m ∷ [] ≡ n ∷ []
one e = ap (λ (k : ℕ). k ∷ []) e

-- from the fourth number on
counted : (j : ℕ) → 3 ≤ j → (r : Row) → columns.entry (suc (suc (suc (j - 3)))) r ≡ columns.entry j r
counted j h r = let e : suc (suc (suc (j - 3))) ≡ j = omega arith in ap (λ (k : ℕ). columns.entry k r) e

module _ {types : TypeTable} {rows : RowTable} {r : ℕ} (b : HasRow types rows r) where
  pub place : r < 24
  place = (entry b.some.holds-types b.some.holds_rows r b.inside).small

  pub kind-is : IsEntry types rows r 0 (Some (get_or rows.kinds r 0))
  kind-is = record { is = λ ts rs t h. one (entry t h r b.inside).kind ∙ kind-first (row_at rs r) }

  pub term_is : get_or rows.kinds r 0 ≡ 3 → IsEntry types rows r 1 (Some (get_or rows.parts (3 * r) 0))
  term_is e =
      record {
        is = λ ts rs t h. let x = entry t h r b.inside in
            let i : 3 * r ≡ 3 * r + 0 = omega arith in one (ap (λ (k : ℕ). get_or rows.parts k 0) i ∙ x.part 0 (omega arith)) ∙ term-second (row_at rs r) (sym x.kind ∙ e);
      }

  pub type-is : ¬ (get_or rows.kinds r 0 ≡ 3) → IsEntry types rows r 1 (Some (get_or rows.types r 0))
  type-is n = record { is = λ ts rs t h. let x = entry t h r b.inside in one x.type ∙ type-second ts (row_at rs r) (λ e. n (x.kind ∙ e)) }

  pub none_is : get_or rows.kinds r 0 ≡ 0 → IsEntry types rows r 2 None
  none_is e = record { is = λ ts rs t h. none-third (row_at rs r) (sym (entry t h r b.inside).kind ∙ e) }

  pub value-is : get_or rows.kinds r 0 ≡ 1 → (n : ℕ) → n ≡ fold_signed (get_or rows.values r (pos 0)) → IsEntry types rows r 2 (Some n)
  value-is e n q = record { is = λ ts rs t h. let x = entry t h r b.inside in one (q ∙ ap fold_signed x.value) ∙ value-third (row_at rs r) (sym x.kind ∙ e) }

  pub variant_is : ¬ (get_or rows.kinds r 0 ≡ 0) → ¬ (get_or rows.kinds r 0 ≡ 1) → IsEntry types rows r 2 (Some (get_or rows.variants r 0))
  variant_is n m = record { is = λ ts rs t h. let x = entry t h r b.inside in one x.variant ∙ variant-third (row_at rs r) (λ e. n (x.kind ∙ e)) (λ e. m (x.kind ∙ e)) }

  pub position-is : get_or rows.kinds r 0 ≡ 3 → IsEntry types rows r 3 (Some (get_or rows.parts (3 * r + 1) 0))
  position-is e = record { is = λ ts rs t h. let x = entry t h r b.inside in one (x.part 1 (omega arith)) ∙ position_fourth (row_at rs r) (sym x.kind ∙ e) }

  pub no_more : (j : ℕ) → 3 ≤ j → ¬ (get_or rows.kinds r 0 ≡ 2) → (get_or rows.kinds r 0 ≡ 3 → ¬ (j ≡ 3)) → IsEntry types rows r j None
  no_more j l n m =
      record {
        is = λ ts rs t h. let x = entry t h r b.inside in
            no_fourth (row_at rs r) (j - 3) (λ e. n (x.kind ∙ e)) (λ e z. m (x.kind ∙ e) (omega arith)) ∙ counted j l (row_at rs r);
      }

pub ruleset second_laws = (place, term_is, type-is)

pub ruleset third_laws = (place, none_is, value-is, variant_is)

pub ruleset later_laws = (place, position-is, no_more)

pub ruleset kind_laws = (place, kind-is)

module _ {types : TypeTable} {rows : RowTable} {r : ℕ} (b : BuiltRow types rows r) (many : ℕ) (count : PartCount types rows r many) (j : ℕ) (later : 3 ≤ j) where
  pub part-is : j - 3 < many → j - 3 < 3 → IsEntry types rows r j (Some (get_or rows.parts (3 * r + (j - 3)) 0))
  part-is l few =
      record {
        is = λ ts rs t h. let x = entry t h r b.inside in
            one (x.part (j - 3) few) ∙ part_later (row_at rs r) (sym x.kind ∙ b.built) (j - 3) (omega (arith, count.is ts rs t h)) ∙ counted j later (row_at rs r);
      }

  pub part_none : many ≤ j - 3 → IsEntry types rows r j None
  part_none l =
      record {
        is = λ ts rs t h. let x = entry t h r b.inside in
            none_later (row_at rs r) (sym x.kind ∙ b.built) (j - 3) (omega (arith, count.is ts rs t h)) ∙ counted j later (row_at rs r);
      }
