-- What the tables say of a row, and the bytes of a built one. Assumes nothing.
use mathlib.Core.Path.{◌≡◌, refl, ap, ap₂, sym, subst, ◌∙◌}
use mathlib.Core.List.{List, [], ◌∷◌, ◌++◌}
use Prim.Native.Nat.{ℕ, suc, ◌+◌, ◌*◌, ◌≤◌, ◌<◌}
use native.Mathlib.Omega.{arith}
use lib.IntN.{pos}
use lib.ListN.{length, get_or, length-map}
use Rattle.laws.specs.All.{All, All.more, All.none}
use Rattle.laws.proofs.Lists.{all_get_d}
use Rattle.guard.specs.Guard.{Row, Row.built, Row.constant, Row.field, Row.variable, no_row, row_at, type_at, type_of}
use Rattle.guard.specs.Types.{Types, fields_of, variants_of}
use Rattle.guard.specs.WellFormed.{RowFits}
use Rattle.tables.specs.declared.RowTable.{RowTable}
use Rattle.tables.specs.declared.TypeTable.{TypeTable}
use Rattle.tables.specs.Layout.{row_kind, row_parts, row_table, row_value, row_variant}
use Rattle.tables.proofs.Lookups.{arity-at, first-at, flat-at, offset_inside, offset_of, row-kind-at, row-part-at, row-type-at, row-value-at, row-variant-at}
use Rattle.encoding.specs.Encoding.{encoded}
use Rattle.heldparts.specs.Held.{HoldsRows, HoldsTypes}
use Rattle.std.specs.Prelude.{Option, Some, None}
use Rattle.bytebuffer.specs.declared.Writer.{Writer}
use Rattle.bytebuffer.specs.Appends.{Appends}
use Rattle.bytebuffer.proofs.PutLaws.{and_then, same-bytes, still_full}
use Rattle.rowterms.specs.Rows.{BuiltRow, PartCount, PartsInside, PutsRow, SomeRows, part_bytes, row_bytes, up_to}
use Rattle.rowterms.proofs.ByteLaws.{parts-bytes, three-bytes}

-- ---- the entries of a row

all-at : {A : Type 0} (P : A → Type 0) (d : A) (xs : List A) → ((i : ℕ) → i < length xs → P (get_or xs i d)) → All P xs
all-at P d [] h = none
all-at P d (x ∷ xs) h = more (h 0 (omega arith)) (all-at P d xs (λ i l. h (suc i) (omega arith)))

module _ {types : TypeTable} {ts : Types} (t : HoldsTypes types ts) where
  pub few-fields : (t v : ℕ) → v < length (variants_of ts t) → length (fields_of ts t v) ≤ 3
  few-fields s v h = omega (arith, (all_get_d t.fields (offset_of ts s + v) [] (omega (arith, offset_inside ts s))).0, ap length (flat-at ts s v h))

  few-parts : (rs : List Row) → ((i : ℕ) → i < length rs → RowFits ts rs i (row_at rs i)) → All (λ r. length (row_parts r) ≤ 3) rs
  few-parts rs fit = all-at (λ r. length (row_parts r) ≤ 3) no_row rs (λ i h. go i (row_at rs i) (fit i h))
    where
      go : (i : ℕ) (r : Row) → RowFits ts rs i r → length (row_parts r) ≤ 3
      go i (variable t) h = omega arith
      go i (constant t z) h = omega arith
      go i (built t v ps) (ht, hv, hp, e) = omega (arith, length-map ps (type_at ts rs), ap length e, few-fields t v hv)
      go i (field t a v p) h = omega arith

pub row_count : {rows : RowTable} {ts : Types} {rs : List Row} → HoldsRows rows ts rs → rows.many ≡ length rs
unfolding row_table
row_count h = ap (λ (x : RowTable). x.many) h.are

pub record Entry (rows : RowTable) (ts : Types) (rs : List Row) (r : ℕ) : Type 0 where
  pub small : r < 24
  pub kind : get_or rows.kinds r 0 ≡ row_kind (row_at rs r)
  pub type : get_or rows.types r 0 ≡ type_at ts rs r
  pub variant : get_or rows.variants r 0 ≡ row_variant (row_at rs r)
  pub value : get_or rows.values r (pos 0) ≡ row_value (row_at rs r)
  pub part : (j : ℕ) → j < 3 → get_or rows.parts (3 * r + j) 0 ≡ get_or (row_parts (row_at rs r)) j 0
  pub fits : RowFits ts rs r (row_at rs r)

pub entry : {types : TypeTable} {rows : RowTable} {ts : Types} {rs : List Row} → HoldsTypes types ts → HoldsRows rows ts rs → (r : ℕ) → r < rows.many → Entry rows ts rs r
entry {ts = ts} {rs = rs} t h r inside =
    let there : r < length rs = omega (arith, inside, row_count h) in
    record {
      small = omega (arith, h.many);
      kind = ap (λ (x : RowTable). get_or x.kinds r 0) h.are ∙ row-kind-at ts rs r there;
      type = ap (λ (x : RowTable). get_or x.types r 0) h.are ∙ row-type-at ts rs r there;
      variant = ap (λ (x : RowTable). get_or x.variants r 0) h.are ∙ row-variant-at ts rs r there;
      value = ap (λ (x : RowTable). get_or x.values r (pos 0)) h.are ∙ row-value-at ts rs r there;
      part = λ j l. ap (λ (x : RowTable). get_or x.parts (3 * r + j) 0) h.are ∙ row-part-at ts rs r there j (few-parts t rs h.fit) l;
      fits = h.fit r there;
    }

pub some-place : {types : TypeTable} {rows : RowTable} {r : ℕ} → SomeRows types rows → r < rows.many → r < 24
some-place {r = r} s inside = (entry s.holds-types s.holds_rows r inside).small

-- ---- built rows

as_built : (ts : Types) (r : Row) → row_kind r ≡ 2 → r ≡ built (type_of ts r) (row_variant r) (row_parts r)
as_built ts (built t v ps) e = refl
as_built ts (variable t) e = absurd (omega (arith, e))
as_built ts (constant t z) e = absurd (omega (arith, e))
as_built ts (field t a v p) e = absurd (omega (arith, e))

module _ {types : TypeTable} {rows : RowTable} {ts : Types} {rs : List Row} (t : HoldsTypes types ts) {r : ℕ} (x : Entry rows ts rs r) (e : get_or rows.kinds r 0 ≡ 2) where
  abbrev row : Row
  row = row_at rs r

  built-is : row_at rs r ≡ built (type_of ts (row_at rs r)) (row_variant (row_at rs r)) (row_parts (row_at rs r))
  built-is = as_built ts row (sym x.kind ∙ e)

  built-fits : RowFits ts rs r (built (type_of ts (row_at rs r)) (row_variant (row_at rs r)) (row_parts (row_at rs r)))
  built-fits = subst (RowFits ts rs r) built-is x.fits

  pub sort-small : get_or rows.types r 0 < 6
  sort-small = omega (arith, x.type, built-fits.0, t.many)

  part_count : length (row_parts (row_at rs r)) ≡ length (fields_of ts (type_at ts rs r) (row_variant (row_at rs r)))
  part_count = omega (arith, length-map (row_parts row) (type_at ts rs), ap length built-fits.3)

  abbrev place : ℕ
  place = get_or types.first (get_or rows.types r 0) 0 + get_or rows.variants r 0

  place_is : place ≡ offset_of ts (type_at ts rs r) + row_variant (row_at rs r)
  place_is =
      let first : get_or types.first (get_or rows.types r 0) 0 ≡ offset_of ts (type_at ts rs r) =
      ap₂ (λ (y : TypeTable) (s : ℕ). get_or y.first s 0) t.are x.type ∙ first-at ts (type_at ts rs r) built-fits.0 in
      omega (arith, first, x.variant)

  pub place-small : get_or types.first (get_or rows.types r 0) 0 + get_or rows.variants r 0 < 48
  place-small = omega (arith, place_is, built-fits.1, offset_inside ts (type_at ts rs r), t.total)

  pub arity-is : get_or types.arities (get_or types.first (get_or rows.types r 0) 0 + get_or rows.variants r 0) 0 ≡ length (row_parts (row_at rs r))
  arity-is =
      ap₂ (λ (y : TypeTable) (k : ℕ). get_or y.arities k 0) t.are place_is ∙ arity-at ts (type_at ts rs r) (row_variant row) built-fits.1 ∙ sym part_count

  few : length (row_parts (row_at rs r)) ≤ 3
  few = omega (arith, part_count, few-fields t (type_at ts rs r) (row_variant row) built-fits.1)

  pub parts-inside : (n : ℕ) → n ≡ length (row_parts (row_at rs r)) → PartsInside rows r n
  parts-inside n q =
      record {
        place = x.small;
        few = omega (arith, q, few);
        terms = λ k l. omega (arith, q, few, x.part k (omega (arith, q, few)), all_get_d built-fits.2 k 0 (omega (arith, q)), x.small);
      }

  pub built-bytes : (names : List ℕ) (n : ℕ) → n ≡ length (row_parts (row_at rs r))
      → (2 ∷ get_or rows.types r 0 ∷ get_or rows.variants r 0 ∷ []) ++ up_to (part_bytes names rows r) n ≡ row_bytes names (row_at rs r)
  built-bytes names n q =
      three-bytes 2 (get_or rows.types r 0) (get_or rows.variants r 0) (omega arith) (omega (arith, sort-small)) (omega (arith, x.variant, built-fits.1, t.variants (type_at ts rs r))) (up_to (part_bytes names rows r) n)
      ∙ ap₂ (λ (s v : ℕ). encoded 2 ++ (encoded s ++ (encoded v ++ up_to (part_bytes names rows r) n))) x.type x.variant
      ∙ ap (λ (l : List ℕ). encoded 2 ++ (encoded (type_at ts rs r) ++ (encoded (row_variant row) ++ l)))
      (ap (up_to (part_bytes names rows r)) q ∙ parts-bytes names (λ k. get_or rows.parts (3 * r + k) 0) (row_parts row) (λ k l. x.part k (omega (arith, few))))
      ∙ ap (row_bytes names) (sym built-is)

module _ {types : TypeTable} {rows : RowTable} {r : ℕ} (b : BuiltRow types rows r) where
  held : Entry rows b.some.ts b.some.rs r
  held = entry b.some.holds-types b.some.holds_rows r b.inside

  pub built-sort : get_or rows.types r 0 < 6
  built-sort = sort-small b.some.holds-types held b.built

  pub built-place : get_or types.first (get_or rows.types r 0) 0 + get_or rows.variants r 0 < 48
  built-place = place-small b.some.holds-types held b.built

  pub built-parts : {n : ℕ} → PartCount types rows r n → PartsInside rows r n
  built-parts {n} q = parts-inside b.some.holds-types held b.built n (q.is b.some.ts b.some.rs b.some.holds-types b.some.holds_rows)

  module _ {names : List ℕ} {w w' : Writer} where
    pub built_full : Appends (2 ∷ get_or rows.types r 0 ∷ get_or rows.variants r 0 ∷ []) w None w' → PutsRow types rows names r w None w'
    built_full p =
        record { puts = λ ts rs t h. let n = length (row_parts (row_at rs r)) in same-bytes (built-bytes t (entry t h r b.inside) b.built names n refl) (still_full (up_to (part_bytes names rows r) n) p) }

    pub built_put : Appends (2 ∷ get_or rows.types r 0 ∷ get_or rows.variants r 0 ∷ []) w (Some tt) w' → {n : ℕ} → PartCount types rows r n → {result : Option (Unit {0})} {w'' : Writer} → Appends (up_to (part_bytes names rows r) n) w' result w'' → PutsRow types rows names r w result w''
    built_put p {n} q v = record { puts = λ ts rs t h. same-bytes (built-bytes t (entry t h r b.inside) b.built names n (q.is ts rs t h)) (and_then p v) }

pub ruleset built_laws = (built-sort, built-place, built-parts, built_full, built_put)
