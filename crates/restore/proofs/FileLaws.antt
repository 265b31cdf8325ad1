-- The restored file: what is asked of it, its bytes, and how many its rows have. Assumes nothing.
use mathlib.Core.Path.{◌≡◌, refl, ap, sym, subst, ◌∙◌}
use mathlib.Core.Bool.{Bool, true, false, cond}
use mathlib.Core.List.{List, [], ◌∷◌, ◌++◌, append_assoc, append-nil, map}
use Prim.Native.Nat.{ℕ, zero, suc, ◌+◌, ◌*◌, ◌/◌, ◌%◌, ◌≤◌, ◌<◌}
use native.Mathlib.Nat.{mul-suc}
use native.Mathlib.Omega.{arith}
use lib.Dec.{ltb}
use lib.ListN.{get_or, length, length-append, length-map, length-take, take}
use borrow.Author.Tests.{ltb-true}
use Rattle.laws.specs.All.{All, All.more, All.none}
use Rattle.laws.specs.Lists.{concat_map, from}
use Rattle.laws.proofs.Lists.{all_append, all-concat_map, all_map, from_bounds, from-length, map-from-length}
use Rattle.guard.specs.File.{count, file, rows}
use Rattle.guard.specs.Guard.{Guard, Row}
use Rattle.guard.specs.Limits.{base}
use Rattle.guard.specs.Number.{Parsed, Parsed.accepted, Parsed.refused, Parser, ◌>>◌, and_then, ask, return}
use Rattle.guard.specs.Types.{Types, all_defaults, infinite_fields}
use Rattle.guard.proofs.Claims.{base-supported}
use Rattle.tables.specs.declared.TypeTable.{TypeTable}
use Rattle.encoding.specs.Encoding.{encoded, encoded_value, groups_of}
use Rattle.serialize.specs.Tokens.{Token, Token.plain, Token.value, bytes_of, token_bytes, type_tokens}
use Rattle.serialize.proofs.Theorems.{file-numbers}
use Rattle.merged.specs.Merge.{type_part}
use Rattle.rowreader.specs.RowReader.{counted_rows}
use Rattle.headreader.specs.Head.{Head, rows_behind}
use Rattle.reader.proofs.FileParts.{after_head, file-parts}
use Rattle.columnfile.specs.Columns.{bytes_for, number_in, restored_row, restored_rows, width}
use Rattle.columnfile.proofs.Inverse.{count-back}
use Rattle.columnfile.proofs.Settles.{Settles, Settles.stops, Settles.takes, settles_after, settles_same}
use Rattle.columnfile.proofs.SettledRows.{Shaped, Shaped.shaped, settles_rows}
use Rattle.restore.specs.Restoring.{Restored, after_rows, asked_of, head_of}
use Rattle.restore.proofs.TypeLaws.{types-back, variant_fits_lem}

-- ---- bytes of numbers

groups-bytes : (k n : ℕ) → All (λ b. b < 256) (groups_of k n)
groups-bytes zero n = none
groups-bytes (suc k) n = go (ltb n 128) refl (groups-bytes k (n / 128))
  where
    go : (b : Bool) → ltb n 128 ≡ b → All (λ b. b < 256) (groups_of k (n / 128)) → All (λ b. b < 256) (cond b (n ∷ []) ((128 + n % 128) ∷ groups_of k (n / 128)))
    go true e h = more {x = n} (omega (arith, ltb-true n 128 e)) none
    go false e h = more {x = 128 + n % 128} (omega arith) h

groups-few : (k n : ℕ) → length (groups_of k n) ≤ k
groups-few zero n = omega arith
groups-few (suc k) n = go (ltb n 128) (groups-few k (n / 128))
  where
    go : (b : Bool) → length (groups_of k (n / 128)) ≤ k → length (cond b (n ∷ []) ((128 + n % 128) ∷ groups_of k (n / 128))) ≤ suc k
    go true h = omega arith
    go false h = omega arith

number-bytes : (n : ℕ) → All (λ b. b < 256) (encoded n)
unfolding encoded
number-bytes n = groups-bytes 5 n

value-bytes : (n : ℕ) → All (λ b. b < 256) (encoded_value n)
unfolding encoded_value
value-bytes n = groups-bytes 10 n

value-few : (n : ℕ) → length (encoded_value n) ≤ 10
unfolding encoded_value
value-few n = groups-few 10 n

number-few : (n : ℕ) → length (encoded n) ≤ 5
unfolding encoded
number-few n = groups-few 5 n

token-bytes : (k : Token) → All (λ b. b < 256) (token_bytes k)
token-bytes (plain n) = number-bytes n
token-bytes (value z) = value-bytes _

-- so many bytes for each
each-few : {A : Type 0} (f : A → List ℕ) (m : ℕ) (xs : List A) → ((x : A) → length (f x) ≤ m) → length (concat_map f xs) ≤ m * length xs
each-few f m [] h = omega arith
each-few f m (x ∷ xs) h = omega (arith, length-append (f x) (concat_map f xs), h x, each-few f m xs h, mul-suc m (length xs))

concat_map_lem : {A B : Type 0} (f : A → List ℕ) (g : B → A) (xs : List B) → concat_map f (map g xs) ≡ concat_map (λ x. f (g x)) xs
concat_map_lem f g [] = refl
concat_map_lem f g (x ∷ xs) = ap (λ (l : List ℕ). f (g x) ++ l) (concat_map_lem f g xs)

-- six columns, place by place
six-columns : (cs : List (List ℕ)) (i : ℕ) → length cs ≡ 6 → map (λ c. get_or c i 0) cs ≡ number_in cs 0 i ∷ number_in cs 1 i ∷ number_in cs 2 i ∷ number_in cs 3 i ∷ number_in cs 4 i ∷ number_in cs 5 i ∷ []
six-columns (a ∷ b ∷ c ∷ d ∷ e ∷ f ∷ []) i h = refl
six-columns [] i h = absurd (omega (arith, h))
six-columns (a ∷ []) i h = absurd (omega (arith, h))
six-columns (a ∷ b ∷ []) i h = absurd (omega (arith, h))
six-columns (a ∷ b ∷ c ∷ []) i h = absurd (omega (arith, h))
six-columns (a ∷ b ∷ c ∷ d ∷ []) i h = absurd (omega (arith, h))
six-columns (a ∷ b ∷ c ∷ d ∷ e ∷ []) i h = absurd (omega (arith, h))
six-columns (a ∷ b ∷ c ∷ d ∷ e ∷ f ∷ g ∷ cs) i h = absurd (omega (arith, h))

-- ---- the file

module _ {table : TypeTable} {n : ℕ} {cells : List ℕ} {ts : Types} {cs : List (List ℕ)} (k : Restored table n cells ts cs) where
  abbrev rows_bytes : List ℕ
  rows_bytes = restored_rows ts n cs

  shaped_row : (i : ℕ) → i < n → Shaped ts (restored_row ts cs i)
  shaped_row i l =
      let b = k.bounded in
      subst (λ (xs : List ℕ). Shaped ts (take (width ts (number_in cs 0 i) (number_in cs 1 i) (number_in cs 2 i)) xs)) (sym (six-columns cs i k.many))
      (shaped (number_in cs 0 i) (number_in cs 1 i) (number_in cs 2 i) (number_in cs 3 i ∷ number_in cs 4 i ∷ number_in cs 5 i ∷ [])
      (record {
        kind = b.small 0 i (λ q. omega (arith, q)) l;
        second = b.small 1 i (λ q. omega (arith, q)) l;
        third = b.third i l;
        value = b.value i l;
        many = refl;
        parts = more (b.small 3 i (λ q. omega (arith, q)) l) (more (b.small 4 i (λ q. omega (arith, q)) l) (more (b.small 5 i (λ q. omega (arith, q)) l) none));
      }))

  -- the answer to N and the rows doesn't depend on what follows
  settled : Settles (counted_rows 24 ts) rows_bytes
  settled =
      settles_after (count 24) (λ m. rows m ts []) (count-back 24 n (omega (arith, k.few)) k.few)
      (subst (λ (m : ℕ). Settles (rows m ts []) (concat_map (λ i. bytes_for (restored_row ts cs i)) (from n 0))) (map-from-length (restored_row ts cs) n 0)
      (settles_same (rows (length (map (restored_row ts cs) (from n 0))) ts []) (concat_map_lem bytes_for (restored_row ts cs) (from n 0))
      (settles_rows ts (λ t v. (variant_fits_lem k.taken t v).0) (map (restored_row ts cs) (from n 0)) [] (all_map (restored_row ts cs) (from n 0) (λ i m. shaped_row i (omega (arith, from_bounds n 0 i m)))))))

  by-settled : (s : Settles (counted_rows 24 ts) rows_bytes) (rest : List ℕ) → and_then (after_rows ts) (counted_rows 24 ts (rows_bytes ++ rest)) ≡ asked_of ts rows_bytes rest
  by-settled (stops q h) rest =
      ap (and_then (after_rows ts)) (h rest)
      ∙ sym (ap (λ (l : List ℕ). and_then (λ rs left. after_rows ts rs rest) (counted_rows 24 ts l)) (sym (append-nil rows_bytes)) ∙ ap (and_then (λ rs left. after_rows ts rs rest)) (h []))
  by-settled (takes rs h) rest =
      ap (and_then (after_rows ts)) (h rest)
      ∙ sym (ap (λ (l : List ℕ). and_then (λ us left. after_rows ts us rest) (counted_rows 24 ts l)) (sym (append-nil rows_bytes)) ∙ ap (and_then (λ us left. after_rows ts us rest)) (h []))

  behind_rows : (r : Parsed (List Row)) → and_then (after_head base) (and_then (λ rs. return (record { types = ts; rows = rs })) r) ≡ and_then (after_rows ts) r
  behind_rows (refused q) = refl
  behind_rows (accepted rs left) = refl

  abbrev head_from : Types → Parser Head
  head_from us = ask 8 (all_defaults us) >> (ask 9 (infinite_fields us) >> rows_behind 24 us)

  -- "the rest are asked of the restored file"
  pub file-asked : (rest : List ℕ) → file base (head_of ts n cs ++ rest) ≡ asked_of ts rows_bytes rest
  file-asked rest =
      ap (file base) (append_assoc (type_part ts) rows_bytes rest) ∙ file-parts base (type_part ts ++ (rows_bytes ++ rest))
      ∙ ap (λ (p : Parsed Types). and_then (after_head base) (and_then head_from p)) ((types-back k.taken).takes (rows_bytes ++ rest))
      ∙ ap (λ (b : Bool). and_then (after_head base) ((ask 8 b >> (ask 9 (infinite_fields ts) >> rows_behind 24 ts)) (rows_bytes ++ rest))) k.taken.ready
      ∙ ap (λ (b : Bool). and_then (after_head base) ((ask 9 b >> rows_behind 24 ts) (rows_bytes ++ rest))) k.taken.infinite
      ∙ behind_rows (counted_rows 24 ts (rows_bytes ++ rest)) ∙ by-settled settled rest

  head_bytes : All (λ b. b < 256) (head_of ts n cs)
  unfolding type_part
  head_bytes =
      all_append (all-concat_map token_bytes (plain (length ts) ∷ concat_map type_tokens ts) (λ t m. token-bytes t))
      (all_append (number-bytes n) (all-concat_map (λ i. bytes_for (restored_row ts cs i)) (from n 0) (λ i m. all-concat_map encoded_value (restored_row ts cs i) (λ x l. value-bytes x))))

  -- a restored file that is taken has these bytes
  pub file-bytes : (rest : List ℕ) → All (λ b. b < 256) rest → (g : Guard) (left : List ℕ) → asked_of ts rows_bytes rest ≡ accepted g left → type_part ts ++ (rows_bytes ++ rest) ≡ bytes_of g
  file-bytes rest small g left e =
      sym (append_assoc (type_part ts) rows_bytes rest) ∙ sym (file-numbers base base-supported (head_of ts n cs ++ rest) g left (all_append head_bytes small) (file-asked rest ∙ e)).1

  -- its rows have room
  pub rows-room : length (restored_rows ts n cs) ≤ 1536
  rows-room =
      let row : (i : ℕ) → length (bytes_for (restored_row ts cs i)) ≤ 60 = λ i.
      omega (arith, each-few encoded_value 10 (restored_row ts cs i) value-few, length-take (width ts (number_in cs 0 i) (number_in cs 1 i) (number_in cs 2 i)) (map (λ c. get_or c i 0) cs), length-map cs (λ c. get_or c i 0), k.many) in
      omega (arith, length-append (encoded n) (concat_map (λ i. bytes_for (restored_row ts cs i)) (from n 0)), number-few n, each-few (λ i. bytes_for (restored_row ts cs i)) 60 (from n 0) row, from-length n 0, k.few)
