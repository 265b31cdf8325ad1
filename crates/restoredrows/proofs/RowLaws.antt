-- The numbers of a restored row, by the cells that hold its columns, and its bytes put one number behind the other. Assumes nothing.
use mathlib.Core.Path.{◌≡◌, ap, ap₂, sym, ◌∙◌}
use mathlib.Core.List.{List, [], ◌∷◌, map}
use Prim.Native.Nat.{ℕ, zero, suc, ◌+◌, ◌*◌, ◌≤◌, ◌<◌}
use native.Mathlib.Omega.{arith}
use lib.ListN.{get_or, length, length-map, length-take}
use lib.Seq.{get_or-take}
use Rattle.std.specs.Prelude.{Option, Some, None}
use Rattle.laws.specs.Lists.{concat_map, from}
use Rattle.laws.proofs.Lists.{from_at, from-length}
use Rattle.guard.specs.Number.{width64}
use Rattle.guard.specs.Types.{Types, fields_of}
use Rattle.tables.specs.Layout.{TypesInRange, types_of}
use Rattle.tables.specs.declared.TypeTable.{TypeTable}
use Rattle.tables.proofs.Held.{fields-few}
use Rattle.tables.proofs.Lookups.{map_at}
use Rattle.encoding.specs.Encoding.{encoded, encoded_of, encoded_value}
use Rattle.encoding.proofs.ReadBack.{one_byte}
use Rattle.bytebuffer.specs.declared.Writer.{Writer}
use Rattle.bytebuffer.specs.Appends.{Appends}
use Rattle.bytebuffer.proofs.EachLaws.{each_all, each_full, each_next, first_bytes}
use Rattle.bytebuffer.proofs.PutLaws.{and_then, from_start, full_from_start, nothing, same-bytes, still_full}
use Rattle.columnfile.specs.Columns.{bytes_for, number_in, restored_row, width}
use Rattle.columnreader.specs.Cells.{Holds}
use Rattle.restoredrows.specs.Restored.{PutsRow, PutsRows}

width_few : (ts : Types) → ((t v : ℕ) → length (fields_of ts t v) ≤ 3) → (k s v : ℕ) → width ts k s v ≤ 6
width_few ts few zero s v = omega arith
width_few ts few (suc zero) s v = omega arith
width_few ts few (suc (suc zero)) s v = omega (arith, few s v)
width_few ts few (suc (suc (suc k))) s v = omega arith

-- ---- how many numbers row i has, and which

-- as the code tells it
abbrev told : Types → List ℕ → ℕ → ℕ
told ts cells i = width ts (get_or cells i 0) (get_or cells (24 + i) 0) (get_or cells (48 + i) 0)

module _ (ts : Types) (few : (t v : ℕ) → length (fields_of ts t v) ≤ 3) (cells : List ℕ) {cs : List (List ℕ)} (h : Holds cells cs) (many : length cs ≡ 6) {i : ℕ} (inside : i < 24) where
  at_place : (j k : ℕ) → k ≡ 24 * j + i → get_or cells k 0 ≡ number_in cs j i
  at_place j k e = ap (λ (m : ℕ). get_or cells m 0) e ∙ h.is j i inside

  width-told : told ts cells i ≡ width ts (number_in cs 0 i) (number_in cs 1 i) (number_in cs 2 i)
  width-told =
      ap₂ (λ (k s : ℕ). width ts k s (get_or cells (48 + i) 0)) (at_place 0 i (omega arith)) (at_place 1 (24 + i) (omega arith))
      ∙ ap (width ts (number_in cs 0 i) (number_in cs 1 i)) (at_place 2 (48 + i) (omega arith))

  row-long : length (restored_row ts cs i) ≡ told ts cells i
  row-long =
      let n : length (map (λ c. get_or c i 0) cs) ≡ 6 = length-map cs (λ c. get_or c i 0) ∙ many in
      omega (arith, length-take (width ts (number_in cs 0 i) (number_in cs 1 i) (number_in cs 2 i)) (map (λ c. get_or c i 0) cs), n, width-told, width_few ts few (number_in cs 0 i) (number_in cs 1 i) (number_in cs 2 i))

  row_number : (j : ℕ) → j < told ts cells i → get_or cells (24 * j + i) 0 ≡ get_or (restored_row ts cs i) j 0
  row_number j l =
      h.is j i inside ∙ sym (map_at (λ c. get_or c i 0) cs j [] 0 (omega (arith, l, many, width_few ts few (get_or cells i 0) (get_or cells (24 + i) 0) (get_or cells (48 + i) 0))))
      ∙ sym (get_or-take (width ts (number_in cs 0 i) (number_in cs 1 i) (number_in cs 2 i)) (map (λ c. get_or c i 0) cs) j 0 (omega (arith, l, width-told)))

-- ---- its numbers before j, for all columns that the cells may hold

pub record RowSoFar (types : TypeTable) (cells : List ℕ) (i : ℕ) (w : Writer) (j : ℕ) (w' : Writer) : Type 0 where
  pub so_far : (cs : List (List ℕ)) → Holds cells cs → length cs ≡ 6 → Appends (first_bytes encoded_value (restored_row (types_of types) cs i) j) w (Some tt) w'

module _ {types : TypeTable} (range : TypesInRange types) where
  few : (cells : List ℕ) (i : ℕ) {n : ℕ} → n ≡ told (types_of types) cells i → n ≤ 6
  few cells i is = omega (arith, is, width_few (types_of types) (fields-few types range) (get_or cells i 0) (get_or cells (24 + i) 0) (get_or cells (48 + i) 0))

  pub in_cells : (cells : List ℕ) {i : ℕ} → i < 24 → {n : ℕ} → n ≡ told (types_of types) cells i → {j : ℕ} → j < n → 24 * j + i < 144
  in_cells cells {i} inside is l = omega (arith, l, few cells i is, inside)

module _ {types : TypeTable} {cells : List ℕ} {i : ℕ} where
  pub row_begin : {w : Writer} → RowSoFar types cells i w 0 w
  row_begin {w} = record { so_far = λ cs h m. nothing w }

  module _ (range : TypesInRange types) (inside : i < 24) {n : ℕ} (is : n ≡ told (types_of types) cells i) where
    module _ {w w' : Writer} {j : ℕ} (s : RowSoFar types cells i w j w') where
      module _ (l : j < n) where
        its : {cs : List (List ℕ)} → Holds cells cs → length cs ≡ 6 → encoded_of width64 (get_or cells (24 * j + i) 0) ≡ encoded_value (get_or (restored_row (types_of types) cs i) j 0)
        unfolding encoded_value
        its h m = ap (encoded_of width64) (row_number (types_of types) (fields-few types range) cells h m inside j (omega (arith, l, is)))

        before : {cs : List (List ℕ)} → Holds cells cs → length cs ≡ 6 → j < length (restored_row (types_of types) cs i)
        before h m = omega (arith, l, is, row-long (types_of types) (fields-few types range) cells h m inside)

        pub row_next : {w'' : Writer} → Appends (encoded_of width64 (get_or cells (24 * j + i) 0)) w' (Some tt) w'' → RowSoFar types cells i w (j + 1) w''
        row_next q = record { so_far = λ cs h m. each_next encoded_value _ (s.so_far cs h m) (before h m) 0 (same-bytes (its h m) q) }

        pub row_full : {w'' : Writer} → Appends (encoded_of width64 (get_or cells (24 * j + i) 0)) w' None w'' → PutsRow (types_of types) cells i w None w''
        row_full q = record { puts = λ cs h m. each_full encoded_value _ (s.so_far cs h m) (before h m) 0 (same-bytes (its h m) q) }

      pub row_all : n ≤ j → PutsRow (types_of types) cells i w (Some tt) w'
      row_all l = record { puts = λ cs h m. each_all encoded_value _ (s.so_far cs h m) (omega (arith, l, is, row-long (types_of types) (fields-few types range) cells h m inside)) }

pub ruleset row_laws = (row_begin, row_next, row_full, row_all)

-- ---- the rows before i

-- row k among them
abbrev of_row : Types → List (List ℕ) → ℕ → List ℕ
of_row ts cs k = bytes_for (restored_row ts cs k)

pub record RowsSoFar (ts : Types) (cells : List ℕ) (n : ℕ) (w : Writer) (i : ℕ) (w' : Writer) : Type 0 where
  pub so_far : (cs : List (List ℕ)) → Holds cells cs → length cs ≡ 6 → Appends (first_bytes (of_row ts cs) (from n 0) i) w (Some tt) w'

pub record AllRows (ts : Types) (cells : List ℕ) (n : ℕ) (w : Writer) (result : Option (Unit {0})) (w' : Writer) : Type 0 where
  pub all : (cs : List (List ℕ)) → Holds cells cs → length cs ≡ 6 → Appends (concat_map (of_row ts cs) (from n 0)) w result w'

module _ {ts : Types} {cells : List ℕ} {n : ℕ} where
  pub rows_begin : {w : Writer} → RowsSoFar ts cells n w 0 w
  rows_begin {w} = record { so_far = λ cs h m. nothing w }

  module _ {w w' : Writer} {i : ℕ} (s : RowsSoFar ts cells n w i w') where
    module _ (l : i < n) where
      its_row : (cs : List (List ℕ)) → of_row ts cs i ≡ of_row ts cs (get_or (from n 0) i 0)
      its_row cs = let e : i ≡ get_or (from n 0) i 0 = omega (arith, from_at n 0 i 0 l) in ap (of_row ts cs) e

      before_all : i < length (from n 0)
      before_all = omega (arith, l, from-length n 0)

      pub rows_next : {w'' : Writer} → PutsRow ts cells i w' (Some tt) w'' → RowsSoFar ts cells n w (i + 1) w''
      rows_next q = record { so_far = λ cs h m. each_next (of_row ts cs) (from n 0) (s.so_far cs h m) before_all 0 (same-bytes (its_row cs) (q.puts cs h m)) }

      pub rows_full : {w'' : Writer} → PutsRow ts cells i w' None w'' → AllRows ts cells n w None w''
      rows_full q = record { all = λ cs h m. each_full (of_row ts cs) (from n 0) (s.so_far cs h m) before_all 0 (same-bytes (its_row cs) (q.puts cs h m)) }

    pub rows_all : n ≤ i → AllRows ts cells n w (Some tt) w'
    rows_all l = record { all = λ cs h m. each_all (of_row ts cs) (from n 0) (s.so_far cs h m) (omega (arith, l, from-length n 0)) }

-- ---- N, and then the rows, from the start of a buffer on

count-byte : {n : ℕ} → n ≤ 24 → n ∷ [] ≡ encoded n
count-byte {n} few = sym (one_byte n (omega (arith, few)))

module _ {ts : Types} {cells : List ℕ} {n : ℕ} (few : n ≤ 24) {out : List ℕ} {w w' : Writer} (is : w.out.now ≡ out) (at : w.at ≡ 0) where
  pub count_full : Appends (n ∷ []) w None w' → PutsRows ts cells n out None w'.out.now
  count_full p = record { puts = λ cs h m. full_from_start is at (still_full _ (same-bytes (count-byte few) p)) }

  pub put_full : Appends (n ∷ []) w (Some tt) w' → {w'' : Writer} → AllRows ts cells n w' None w'' → PutsRows ts cells n out None w''.out.now
  put_full p q = record { puts = λ cs h m. full_from_start is at (and_then (same-bytes (count-byte few) p) (q.all cs h m)) }

  pub put_all : Appends (n ∷ []) w (Some tt) w' → {w'' : Writer} → AllRows ts cells n w' (Some tt) w'' → PutsRows ts cells n out (Some w''.at) w''.out.now
  put_all p q = record { puts = λ cs h m. from_start is at (and_then (same-bytes (count-byte few) p) (q.all cs h m)) }

pub ruleset rows_laws = (rows_begin, rows_next, rows_full, rows_all, count_full)
