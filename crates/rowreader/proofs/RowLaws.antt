-- Rows, one at a time: what is left to read, behind the rows read so far, is the whole, and the table is that of the rows
-- read so far. Storing a row that was read makes the table of one row more. Assumes nothing.
use mathlib.Core.Path.{◌≡◌, refl, ap, sym, ◌∙◌, subst}
use mathlib.Core.List.{List, [], ◌∷◌, ◌++◌, append_assoc, append-nil, map}
use Prim.Native.Nat.{ℕ, suc, ◌+◌, ◌*◌, ◌-◌, ◌≤◌, ◌<◌}
use native.Mathlib.Omega.{arith}
use lib.IntN.{ℤ, pos}
use lib.ListN.{length, drop, get_or, take, set, length-append}
use lib.Seq.{take_at}
use Rattle.laws.specs.All.{All, All.more, All.none}
use Rattle.laws.specs.Lists.{concat_map}
use Rattle.laws.proofs.Lists.{all_append, all_get_d, all_weaken, map-length}
use Rattle.guard.specs.File.{kind, row_of, rows}
use Rattle.guard.specs.Guard.{Row, Row.built, Row.constant, Row.field, Row.variable, no_row, type_of}
use Rattle.guard.specs.Number.{Parsed, Parsed.accepted, Parsed.refused, and_then, return}
use Rattle.guard.specs.Types.{Types}
use Rattle.guard.proofs.Repeats.{rows_next, rows_stop_kind, rows_stop_row}
use Rattle.rowparts.specs.ByTypes.{row_by}
use Rattle.rowparts.specs.RowParts.{Before, as_row, row_with}
use Rattle.rowparts.specs.declared.Row as read
use Rattle.rowparts.proofs.BelowLaws.{below-small}
use Rattle.rowkinds.proofs.KindLaws.{RowShape, kind-is, row-shape}
use Rattle.rowreader.specs.RowReader.{stored, table_with}
use Rattle.rowreader.proofs.Mapped.{mapped-from, mapped-stops}
use Rattle.rowreader.proofs.SameRows.{row-by}
use Rattle.tables.specs.Layout.{TypesInRange, pad, pad_to, row_kind, row_parts, row_table, row_value, row_variant, types_of}
use Rattle.tables.specs.declared.TypeTable.{TypeTable}
use Rattle.tables.specs.declared.RowTable.{RowTable}
use Rattle.tables.proofs.Columns.{pad-at, pad-length, pad-set}
use Rattle.tables.proofs.Held.{fields-few, fields-small, held-many}
use Rattle.tables.proofs.Lookups.{map_at, triples_length}

-- ---- the table of one row more
module _ {A : Type 0} where
  map_snoc : {B : Type 0} (f : A → B) (xs : List A) (x : A) → map f (xs ++ (x ∷ [])) ≡ map f xs ++ (f x ∷ [])
  map_snoc f [] x = refl
  map_snoc f (y ∷ xs) x = ap (λ l. f y ∷ l) (map_snoc f xs x)

  concat_map_snoc : {B : Type 0} (f : A → List B) (xs : List A) (x : A) → concat_map f (xs ++ (x ∷ [])) ≡ concat_map f xs ++ f x
  concat_map_snoc f [] x = append-nil (f x)
  concat_map_snoc f (y ∷ xs) x = ap (λ l. f y ++ l) (concat_map_snoc f xs x) ∙ sym (append_assoc (f y) (concat_map f xs) (f x))

  column-next : {B : Type 0} (f : A → B) (z : B) (n : ℕ) (xs : List A) (x : A) → length xs < n
      → set (pad_to z n (map f xs)) (length xs) (f x) ≡ pad_to z n (map f (xs ++ (x ∷ [])))
  column-next f z n xs x h =
      ap (λ (k : ℕ). set (pad_to z n (map f xs)) k (f x)) (sym (map-length f xs)) ∙ pad-set z n (map f xs) (f x) (omega (arith, map-length f xs))
      ∙ ap (pad_to z n) (sym (map_snoc f xs x))

three : (q : List ℕ) → length q ≡ 3 → q ≡ get_or q 0 0 ∷ get_or q 1 0 ∷ get_or q 2 0 ∷ []
three [] h = absurd (omega arith)
three (a ∷ []) h = absurd (omega arith)
three (a ∷ b ∷ []) h = absurd (omega arith)
three (a ∷ b ∷ c ∷ []) h = refl
three (a ∷ b ∷ c ∷ d ∷ q) h = absurd (omega arith)

-- three stores
set-three : (n m : ℕ) (xs : List ℕ) (a b c : ℕ) → length xs ≡ m → m + 3 ≤ n → set (set (set (pad n xs) m a) (m + 1) b) (m + 2) c ≡ pad n (xs ++ (a ∷ b ∷ c ∷ []))
set-three n m xs a b c l h =
    let la : length (xs ++ (a ∷ [])) ≡ m + 1 = omega (arith, length-append xs (a ∷ [])) in
    let lb : length ((xs ++ (a ∷ [])) ++ (b ∷ [])) ≡ m + 2 = omega (arith, length-append (xs ++ (a ∷ [])) (b ∷ [])) in
    ap (λ (k : ℕ). set (set (set (pad n xs) k a) (m + 1) b) (m + 2) c) (sym l)
    ∙ ap (λ (y : List ℕ). set (set y (m + 1) b) (m + 2) c) (pad-set 0 n xs a (omega arith))
    ∙ ap (λ (k : ℕ). set (set (pad n (xs ++ (a ∷ []))) k b) (m + 2) c) (sym la)
    ∙ ap (λ (y : List ℕ). set y (m + 2) c) (pad-set 0 n (xs ++ (a ∷ [])) b (omega arith))
    ∙ ap (λ (k : ℕ). set (pad n ((xs ++ (a ∷ [])) ++ (b ∷ []))) k c) (sym lb)
    ∙ pad-set 0 n ((xs ++ (a ∷ [])) ++ (b ∷ [])) c (omega arith)
    ∙ ap (pad n) (append_assoc (xs ++ (a ∷ [])) (b ∷ []) (c ∷ []) ∙ append_assoc xs (a ∷ []) (b ∷ c ∷ []))

-- a row whose parts have three places
abbrev pub Fitting : Types → Row → Type 0
Fitting ts r = (type_of ts r < length ts) × (length (row_parts r) ≤ 3)

module _ (ts : Types) (rs : List Row) (r : Row) (room : length rs < 24) (few : All (Fitting ts) rs) (fits : length (row_parts r) ≤ 3) where
  parts_next : set (set (set (row_table ts rs).parts (3 * length rs) (get_or (pad 3 (row_parts r)) 0 0)) (3 * length rs + 1) (get_or (pad 3 (row_parts r)) 1 0)) (3 * length rs + 2) (get_or (pad 3 (row_parts r)) 2 0)
      ≡ (row_table ts (rs ++ (r ∷ []))).parts
  unfolding row_table
  parts_next =
      set-three 72 (3 * length rs) (concat_map (λ r. pad 3 (row_parts r)) rs) (get_or (pad 3 (row_parts r)) 0 0) (get_or (pad 3 (row_parts r)) 1 0) (get_or (pad 3 (row_parts r)) 2 0)
      (triples_length row_parts rs (all_weaken (λ r h. h.1) few)) (omega arith)
      ∙ ap (λ (q : List ℕ). pad 72 (concat_map (λ r. pad 3 (row_parts r)) rs ++ q)) (sym (three (pad 3 (row_parts r)) (pad-length 0 3 (row_parts r) fits)))
      ∙ ap (pad 72) (sym (concat_map_snoc (λ r. pad 3 (row_parts r)) rs r))

  pub stored_next : stored (row_table ts rs) (row_kind r) (as_row ts r) ≡ row_table ts (rs ++ (r ∷ []))
  unfolding row_table stored
  stored_next =
      let m : length rs + 1 ≡ length (rs ++ (r ∷ [])) = omega (arith, length-append rs (r ∷ [])) in
      same-table m (column-next row_kind 0 24 rs r room) (column-next (type_of ts) 0 24 rs r room) (column-next row_variant 0 24 rs r room) parts_next (column-next row_value (pos 0) 24 rs r room)
    where
      same-table : {m m' : ℕ} {a a' b b' c c' d d' : List ℕ} {e e' : List ℤ} → m ≡ m' → a ≡ a' → b ≡ b' → c ≡ c' → d ≡ d' → e ≡ e'
          → Path RowTable (record { many = m; kinds = a; types = b; variants = c; parts = d; values = e })
          (record { many = m'; kinds = a'; types = b'; variants = c'; parts = d'; values = e' })
      same-table pm pa pb pc pd pe = cc

-- ---- between two turns of the loop: at the cursor `next`, after i rows

pub record RowsSoFar (bytes : List ℕ) (at n : ℕ) (ts : Types) (table : RowTable) (next i : ℕ) : Type 0 where
  pub got : List Row
  pub many : length got ≡ i
  pub is : table ≡ row_table ts got
  pub fit : All (Fitting ts) got
  pub within : next ≤ length bytes
  pub left : rows (n - i) ts got (drop next bytes) ≡ rows n ts [] (drop at bytes)

empty-table : (ts : Types) → row_table [] [] ≡ row_table ts []
unfolding row_table
empty-table ts = refl

types-column : (ts : Types) (rs : List Row) → (row_table ts rs).types ≡ pad 24 (map (type_of ts) rs)
unfolding row_table
types-column ts rs = refl

-- its type is a type, and its parts have three places
shape-fits : (table : TypeTable) → TypesInRange table → (r : Row) → RowShape (types_of table) r → Fitting (types_of table) r
shape-fits table range (variable t) h = (h, omega arith)
shape-fits table range (constant t z) h = (h, omega arith)
shape-fits table range (built t v ps) h = (h.0, omega (arith, h.1, fields-few table range t v))
shape-fits table range (field t a v p) h = (fields-small table range t v p h, omega arith)

module _ (bytes : List ℕ) (at n : ℕ) (table : TypeTable) where
  abbrev SoFar : RowTable → ℕ → ℕ → Type 0
  SoFar rows next i = RowsSoFar bytes at n (types_of table) rows next i

  abbrev tabled : Parsed (List Row) → Parsed RowTable
  tabled r = and_then (λ rs. return (row_table (types_of table) rs)) r

  pub rows_start : at ≤ length bytes → SoFar (row_table [] []) at 0
  rows_start h =
      let z : n - 0 ≡ n = omega arith in
      record {
        got = [];
        many = refl;
        is = empty-table (types_of table);
        fit = none;
        within = h;
        left = ap (λ (k : ℕ). rows k (types_of table) [] (drop at bytes)) z;
      }

  abbrev whole : Parsed RowTable
  whole = table_with (types_of table) (rows n (types_of table) []) (drop at bytes)

  module _ (held : RowTable) (next i : ℕ) (s : SoFar held next i) where
    pub rows-done : n ≤ i → whole ≡ accepted held (drop next bytes)
    rows-done h =
        let z : n - i ≡ 0 = omega arith in
        ap tabled (sym s.left) ∙ ap (λ (k : ℕ). table_with (types_of table) (rows k (types_of table) s.got) (drop next bytes)) z
        ∙ ap (λ (x : RowTable). accepted x (drop next bytes)) (sym s.is)

    pub rows-many : held.many ≡ i
    unfolding row_table
    rows-many = ap (λ (x : RowTable). x.many) s.is ∙ s.many

    column : held.types ≡ pad 24 (map (type_of (types_of table)) s.got)
    column = ap (λ (x : RowTable). x.types) s.is ∙ types-column (types_of table) s.got

    typed-length : length (map (type_of (types_of table)) s.got) ≡ i
    typed-length = map-length (type_of (types_of table)) s.got ∙ s.many

    module _ (range : TypesInRange table) (small : n ≤ 24) (another : i < n) where
      pub before-row : Before table i held.types
      before-row =
          record {
            few = omega arith;
            long = ap length column ∙ pad-length 0 24 (map (type_of (types_of table)) s.got) (omega (arith, typed-length));
            small = λ p h. subst (λ (t : ℕ). t < table.many) (sym (at-column p h)) (at_row p h);
          }
        where
          at-column : (p : ℕ) → p < i → get_or held.types p 0 ≡ type_of (types_of table) (get_or s.got p no_row)
          at-column p h =
              ap (λ (l : List ℕ). get_or l p 0) column ∙ pad-at 0 24 p (map (type_of (types_of table)) s.got) 0 (omega (arith, typed-length))
              ∙ map_at (type_of (types_of table)) s.got p no_row 0 (omega (arith, s.many))

          at_row : (p : ℕ) → p < i → type_of (types_of table) (get_or s.got p no_row) < table.many
          at_row p h = omega (arith, held-many table, (all_get_d s.fit p no_row (omega (arith, s.many))).0)

      -- the front of the column is the types of the rows
      front : take i held.types ≡ map (type_of (types_of table)) s.got
      front = ap (take i) column ∙ take_at (map (type_of (types_of table)) s.got) _ i typed-length

      abbrev again : ℕ
      again = n - suc i

      one_more : rows (suc again) (types_of table) s.got (drop next bytes) ≡ rows n (types_of table) [] (drop at bytes)
      one_more = let z : suc again ≡ n - i = omega arith in ap (λ (k : ℕ). rows k (types_of table) s.got (drop next bytes)) z ∙ s.left

      pub kind_stops : (q : ℕ) → kind (drop next bytes) ≡ refused q → whole ≡ refused q
      kind_stops q e = ap tabled (sym one_more ∙ rows_stop_kind again (types_of table) s.got (drop next bytes) q e)

      module _ (k to : ℕ) (kind_read : kind (drop next bytes) ≡ accepted k (drop to bytes)) where
        -- by the rows before
        by_rows : row_of (types_of table) s.got k (drop to bytes) ≡ row_by (types_of table) (take i held.types) k (drop to bytes)
        by_rows = row-by (types_of table) s.got k (drop to bytes) ∙ ap (λ (us : List ℕ). row_by (types_of table) us k (drop to bytes)) (sym front)

        pub row_stops : (q : ℕ) → row_with (types_of table) (row_by (types_of table) (take i held.types) k) (drop to bytes) ≡ refused q → whole ≡ refused q
        row_stops q e =
            ap tabled (sym one_more ∙ rows_stop_row again (types_of table) s.got (drop next bytes) k (drop to bytes) kind_read q
            (by_rows ∙ mapped-stops (as_row (types_of table)) (row_by (types_of table) (take i held.types) k (drop to bytes)) q e))

        pub row_next : (r : read.Row) (behind : ℕ) → row_with (types_of table) (row_by (types_of table) (take i held.types) k) (drop to bytes) ≡ accepted r (drop behind bytes)
            → behind ≤ length bytes → SoFar (stored held k r) behind (i + 1)
        row_next r behind e within =
            let g = mapped-from (as_row (types_of table)) (row_by (types_of table) (take i held.types) k (drop to bytes)) r (drop behind bytes) e in
            let four : k < 4 = below-small 4 6 k (drop next bytes) (drop to bytes) kind_read in
            let f = shape-fits table range g.value (row-shape (types_of table) (take i held.types) k (drop to bytes) g.value (drop behind bytes) four g.parsed) in
            let same = kind-is (types_of table) (take i held.types) k (drop to bytes) g.value (drop behind bytes) four g.parsed in
            let o : i + 1 ≡ suc i = omega arith in
            record {
              got = s.got ++ (g.value ∷ []);
              many = omega (arith, length-append s.got (g.value ∷ []), s.many);
              is =
                  ap (λ (x : RowTable). stored x k r) s.is
                  ∙ ap (λ (q : ℕ). stored (row_table (types_of table) s.got) q r) (sym same)
                  ∙ ap (stored (row_table (types_of table) s.got) (row_kind g.value)) (sym g.is)
                  ∙ stored_next (types_of table) s.got g.value (omega (arith, s.many)) s.fit f.1;
              fit = all_append s.fit (more f none);
              within = within;
              left =
                  ap (λ (k : ℕ). rows (n - k) (types_of table) (s.got ++ (g.value ∷ [])) (drop behind bytes)) o
                  ∙ sym (rows_next again (types_of table) s.got (drop next bytes) k (drop to bytes) kind_read g.value (drop behind bytes) (by_rows ∙ g.parsed))
                  ∙ one_more;
            }
