-- Stores of messages: what the rows decode to depends on the rows before only, a row that fits is told by its message,
-- and a store with one message more is a store. Assumes nothing.
use mathlib.Core.Path.{◌≡◌, refl, ap, ap₂, sym, ◌∙◌, subst}
use mathlib.Core.Bool.{Bool, true, false≢true}
use mathlib.Core.List.{List, [], ◌∷◌, ◌++◌, append_assoc}
use Prim.Native.Nat.{ℕ, zero, suc, ◌+◌, ◌*◌, ◌-◌, ◌≤◌, ◌<◌}
use native.Mathlib.Nat.{suc-add}
use native.Mathlib.Omega.{arith}
use lib.Dec.{eqb, ltb}
use lib.IntN.{ℤ, pos, negsuc}
use lib.ListN.{length, get_or, take, drop, length-append, length-drop, length-take, get_or-append}
use lib.Seq.{drop_at, drop-drop, get_or_at, length-sets, length-take-le, sets-eq, take_all, take-append-le, take_at, take-nil, take-take}
use borrow.Author.Tests.{eqb-true, ltb-true, ltb-false, lt-ltb, eq-eqb}
use Rattle.laws.specs.Lists.{all}
use Rattle.laws.proofs.Bools.{and_both, and_left, and_right, by_test}
use Rattle.guard.specs.Limits.{row_width}
use Rattle.guard.specs.Message.{Message, Message.made, no_message, to_parts}
use Rattle.guard.specs.Shown.{decode, decode_row, is_below, is_zero, message_type, natural, part_messages, parts_fit, row_fits, row_numbers, tag_type, tag_variant}
use Rattle.guard.specs.Types.{Types, Variant, fields_of, is_number, variants_of}
use Rattle.guard.specs.Words.{high_of, is_word, low_of, value_of}
use Rattle.guard.proofs.MessageLaws.{parts_eq}
use Rattle.guard.proofs.WordLaws.{high_of_lem, low_of_lem}
use Rattle.rowstore.specs.Store.{Added, Grown, Stored, appended, many_after, message_at, row_found, with_row}
use Rattle.rowstore.proofs.Numbers.{found_all, found-is, found_none, many-found, many_new, with_found, with_new}

-- ---- the rows before decide

part_of : (n k : ℕ) (l : List ℤ) → take k (drop n l) ≡ drop n (take (n + k) l)
part_of zero k l = let e : k ≡ 0 + k = omega arith in ap (λ (m : ℕ). take m l) e
part_of (suc n) k [] = take-nil k ∙ sym (ap (drop (suc n)) (take-nil (suc n + k)))
part_of (suc n) k (x ∷ l) = part_of n k l ∙ ap (λ (m : ℕ). drop (suc n) (take m (x ∷ l))) (sym (suc-add n k))

-- the first rows of two buffers with the same numbers there
module _ (rows rows' : List ℤ) where
  abbrev pub SameRows : ℕ → Type 0
  SameRows n = take (row_width * n) rows ≡ take (row_width * n) rows'

  pub fewer : (m n : ℕ) → m ≤ n → SameRows n → SameRows m
  fewer m n h e = sym (take-take (row_width * m) (row_width * n) rows (omega arith)) ∙ ap (take (row_width * m)) e ∙ take-take (row_width * m) (row_width * n) rows' (omega arith)

  pub row_kept : (i n : ℕ) → i < n → SameRows n → row_numbers rows i ≡ row_numbers rows' i
  row_kept i n h e =
      let d : SameRows (suc i) = fewer (suc i) n (omega arith) e in
      let s : row_width * i + row_width ≡ row_width * suc i = omega arith in
      part_of (row_width * i) row_width rows ∙ ap (λ (k : ℕ). drop (row_width * i) (take k rows)) s ∙ ap (drop (row_width * i)) d
      ∙ sym (part_of (row_width * i) row_width rows' ∙ ap (λ (k : ℕ). drop (row_width * i) (take k rows')) s)

  pub decode-rows : (ts : Types) (n : ℕ) → ((i : ℕ) → i < n → row_numbers rows i ≡ row_numbers rows' i) → decode ts rows n ≡ decode ts rows' n
  decode-rows ts zero h = refl
  decode-rows ts (suc n) h =
      ap₂ (λ (ms : List Message) (xs : List ℤ). ms ++ (decode_row ts ms xs ∷ [])) (decode-rows ts n (λ i l. h i (omega arith))) (h n (omega arith))

  -- so later writes leave the messages as they are
  pub decode-kept : (ts : Types) (n : ℕ) → SameRows n → decode ts rows n ≡ decode ts rows' n
  decode-kept ts n e = decode-rows ts n (λ i h. row_kept i n h e)

module _ (ts : Types) (rows : List ℤ) where
  pub decode-length : (n : ℕ) → length (decode ts rows n) ≡ n
  decode-length zero = refl
  decode-length (suc n) = length-append (decode ts rows n) _ ∙ omega (arith, decode-length n)

  -- the message of row i, from the rows before it
  pub decode-at : (i n : ℕ) → i < n → get_or (decode ts rows n) i no_message ≡ decode_row ts (decode ts rows i) (row_numbers rows i)
  decode-at i zero h = absurd (omega arith)
  decode-at i (suc n) h =
      by_test (ltb i n) (λ b. get_or-append (decode ts rows n) _ no_message i (omega (arith, decode-length n, ltb-true i n b)) ∙ decode-at i n (ltb-true i n b))
      (λ b. let e : i ≡ n = omega (arith, ltb-false i n b) in subst (λ (k : ℕ). get_or (decode ts rows (suc n)) k no_message ≡ decode_row ts (decode ts rows k) (row_numbers rows k)) (sym e) (get_or_at (decode ts rows n) _ [] no_message n (decode-length n)))

  -- rows keep their messages while others come
  pub decode-longer : (i m n : ℕ) → i < m → m ≤ n → get_or (decode ts rows m) i no_message ≡ get_or (decode ts rows n) i no_message
  decode-longer i m n h l = decode-at i m h ∙ sym (decode-at i n (omega arith))

  pub decode-take : (m n : ℕ) → m ≤ n → take m (decode ts rows n) ≡ decode ts rows m
  decode-take m zero h = let e : m ≡ 0 = omega arith in subst (λ (k : ℕ). take k (decode ts rows 0) ≡ decode ts rows k) (sym e) refl
  decode-take m (suc n) h =
      by_test (ltb n m) (λ b. let e : m ≡ suc n = omega (arith, ltb-true n m b) in ap (λ (k : ℕ). take k (decode ts rows (suc n))) e ∙ take_all (suc n) (decode ts rows (suc n)) (omega (arith, decode-length (suc n))) ∙ ap (decode ts rows) (sym e))
      (λ b. let l : m ≤ n = ltb-false n m b in take-append-le m (decode ts rows n) _ (omega (arith, decode-length n)) ∙ decode-take m n l)

-- ---- rows after others

pub grown-itself : (rows : List ℤ) (n : ℕ) → Grown rows n rows n
grown-itself rows n = record { more = omega arith; kept = λ i h. refl; rest = refl; long = refl }

pub grown_twice : (rows : List ℤ) (n : ℕ) (rows' : List ℤ) (n' : ℕ) (rows'' : List ℤ) (n'' : ℕ) → Grown rows n rows' n' → Grown rows' n' rows'' n'' → Grown rows n rows'' n''
grown_twice rows n rows' n' rows'' n'' g h =
    let at : row_width * n'' ≡ row_width * n' + (row_width * n'' - row_width * n') = omega (arith, h.more) in
    let behind : (l : List ℤ) → drop (row_width * n'') l ≡ drop (row_width * n'' - row_width * n') (drop (row_width * n') l) = λ l. ap (λ (k : ℕ). drop k l) at ∙ sym (drop-drop (row_width * n'' - row_width * n') (row_width * n') l) in
    record {
      more = omega (arith, g.more, h.more);
      kept = λ i l. h.kept i (omega (arith, g.more)) ∙ g.kept i l;
      rest = h.rest ∙ behind rows' ∙ ap (drop (row_width * n'' - row_width * n')) g.rest ∙ sym (behind rows);
      long = h.long ∙ g.long;
    }

module _ (ts : Types) (rows : List ℤ) (n : ℕ) (rows' : List ℤ) (n' : ℕ) (g : Grown rows n rows' n') where
  pub grown-decode : decode ts rows' n ≡ decode ts rows n
  grown-decode = decode-rows rows' rows ts n g.kept

  pub grown-message : (i : ℕ) → i < n → message_at ts rows' n' i ≡ message_at ts rows n i
  grown-message i h = sym (decode-longer ts rows' i n n' h g.more) ∙ ap (λ (ms : List Message). get_or ms i no_message) grown-decode

-- ---- rows that fit

pub below-is : (n : ℕ) (x : ℤ) → is_below n x ≡ true → (x ≡ pos (natural x)) × (natural x < n)
below-is n (pos k) e = (refl, ltb-true k n e)
below-is n (negsuc k) e = absurd (false≢true e)

below_of : (n : ℕ) (x : ℤ) → x ≡ pos (natural x) → natural x < n → is_below n x ≡ true
below_of n (pos k) e h = lt-ltb k n h
below_of n (negsuc k) e h = let z : ◌≡◌ {A = ℕ} 0 1 = cc in absurd (omega arith)

zeros_same : (xs ys : List ℤ) → length xs ≡ length ys → all is_zero xs ≡ true → all is_zero ys ≡ true → xs ≡ ys
zeros_same [] [] l p q = refl
zeros_same [] (y ∷ ys) l p q = absurd (omega arith)
zeros_same (x ∷ xs) [] l p q = absurd (omega arith)
zeros_same (x ∷ xs) (y ∷ ys) l p q =
    ap₂ (λ (z : ℤ) (zs : List ℤ). z ∷ zs) (zero_is x (and_left _ _ p) ∙ sym (zero_is y (and_left _ _ q))) (zeros_same xs ys (omega arith) (and_right (is_zero x) _ p) (and_right (is_zero y) _ q))
  where
    zero_is : (z : ℤ) → is_zero z ≡ true → z ≡ pos 0
    zero_is (pos k) e = ap pos (eqb-true k 0 e)
    zero_is (negsuc k) e = absurd (false≢true e)

-- a part that fits, and the other way round
module _ (ms : List Message) (n f : ℕ) (fs : Variant) (x : ℤ) (xs : List ℤ) where
  pub part-fits : parts_fit ms n (f ∷ fs) (x ∷ xs) ≡ true → (x ≡ pos (natural x)) × (natural x < n) × (message_type (get_or ms (natural x) no_message) ≡ f) × (parts_fit ms n fs xs ≡ true)
  part-fits p =
      let (is, low) = below-is n x (and_left _ _ p) in
      let q = and_right (is_below n x) _ p in
      (is, low, eqb-true _ _ (and_left _ _ q), and_right (eqb (message_type (get_or ms (natural x) no_message)) f) _ q)

  pub fits-part : x ≡ pos (natural x) → natural x < n → message_type (get_or ms (natural x) no_message) ≡ f → parts_fit ms n fs xs ≡ true → parts_fit ms n (f ∷ fs) (x ∷ xs) ≡ true
  fits-part is low e p = and_both _ _ (below_of n x is low) (and_both _ _ (eq-eqb _ _ e) p)

-- what a tag says: whether the type has the variant, and its fields
abbrev pub has_variant : Types → ℕ → Bool
has_variant ts k = ltb (tag_variant k) (length (variants_of ts (tag_type k)))

abbrev pub tag_fields : Types → ℕ → Variant
tag_fields ts k = fields_of ts (tag_type k) (tag_variant k)

-- parts over two lists of messages that agree below i, and in a row that is higher
module _ (ms ms' : List Message) (i n : ℕ) (more : i ≤ n) (agree : (j : ℕ) → j < i → get_or ms j no_message ≡ get_or ms' j no_message) where
  parts_over_lem : (fs : Variant) (xs : List ℤ) → parts_fit ms i fs xs ≡ true → (part_messages ms fs xs ≡ part_messages ms' fs xs) × (parts_fit ms' n fs xs ≡ true)
  parts_over_lem [] xs p = (refl, p)
  parts_over_lem (f ∷ fs) [] p = absurd (false≢true p)
  parts_over_lem (f ∷ fs) (x ∷ xs) p =
      let (is, low, type, q) = part-fits ms i f fs x xs p in
      let e : get_or ms (natural x) no_message ≡ get_or ms' (natural x) no_message = agree (natural x) low in
      let (rest, fit) = parts_over_lem fs xs q in
      (ap₂ (λ (m : Message) (ns : List Message). m ∷ ns) e rest, fits-part ms' n f fs x xs is (omega arith) (sym (ap message_type e) ∙ type) fit)

  -- so with rows
  row_over : (ts : Types) (xs : List ℤ) → row_fits ts ms i xs ≡ true → (decode_row ts ms xs ≡ decode_row ts ms' xs) × (row_fits ts ms' n xs ≡ true)
  row_over ts [] p = (refl, p)
  row_over ts (negsuc t ∷ xs) p = (refl, p)
  row_over ts (pos k ∷ xs) p =
      let (e, q) = parts_over_lem (tag_fields ts k) xs (and_right (has_variant ts k) _ p) in
      (ap (λ (ns : List Message). made (tag_type k) (tag_variant k) (to_parts ns)) e, and_both (has_variant ts k) (parts_fit ms' n (tag_fields ts k) xs) (and_left (has_variant ts k) (parts_fit ms i (tag_fields ts k) xs) p) q)

-- ---- a message tells its row

module _ (ms : List Message) (n : ℕ) (apart : (i j : ℕ) → i < n → j < n → get_or ms i no_message ≡ get_or ms j no_message → i ≡ j) where
  same_parts_lem : (fs : Variant) (xs ys : List ℤ) → length xs ≡ length ys → parts_fit ms n fs xs ≡ true → parts_fit ms n fs ys ≡ true → part_messages ms fs xs ≡ part_messages ms fs ys → xs ≡ ys
  same_parts_lem [] xs ys l p q e = zeros_same xs ys l p q
  same_parts_lem (f ∷ fs) [] ys l p q e = absurd (false≢true p)
  same_parts_lem (f ∷ fs) (x ∷ xs) [] l p q e = absurd (false≢true q)
  same_parts_lem (f ∷ fs) (x ∷ xs) (y ∷ ys) l p q e =
      let (is_x, lowX, _, restX) = part-fits ms n f fs x xs p in
      let (isY, lowY, _, restY) = part-fits ms n f fs y ys q in
      let head : get_or ms (natural x) no_message ≡ get_or ms (natural y) no_message = cc in
      let tail : part_messages ms fs xs ≡ part_messages ms fs ys = cc in
      ap₂ (λ (z : ℤ) (zs : List ℤ). z ∷ zs) (is_x ∙ ap pos (apart (natural x) (natural y) lowX lowY head) ∙ sym isY) (same_parts_lem fs xs ys (omega arith) restX restY tail)

  -- the same two numbers, and zeros behind them
  same-value : (xs ys : List ℤ) → length xs ≡ length ys → get_or xs 0 (pos 0) ≡ get_or ys 0 (pos 0) → get_or xs 1 (pos 0) ≡ get_or ys 1 (pos 0) → all is_zero (drop 2 xs) ≡ true → all is_zero (drop 2 ys) ≡ true → xs ≡ ys
  same-value [] [] l low high p q = refl
  same-value [] (y ∷ ys) l low high p q = absurd (omega arith)
  same-value (x ∷ xs) [] l low high p q = absurd (omega arith)
  same-value (x ∷ []) (y ∷ []) l low high p q = ap (λ (z : ℤ). z ∷ []) low
  same-value (x ∷ []) (y ∷ b ∷ ys) l low high p q = absurd (omega arith)
  same-value (x ∷ a ∷ xs) (y ∷ []) l low high p q = absurd (omega arith)
  same-value (x ∷ a ∷ xs) (y ∷ b ∷ ys) l low high p q = ap₂ (λ (z : ℤ) (zs : List ℤ). z ∷ zs) low (ap₂ (λ (z : ℤ) (zs : List ℤ). z ∷ zs) high (zeros_same xs ys (omega arith) p q))

  -- over messages that differ, two rows of one message have the same numbers
  pub same_numbers : (ts : Types) (xs ys : List ℤ) → length xs ≡ length ys → row_fits ts ms n xs ≡ true → row_fits ts ms n ys ≡ true → decode_row ts ms xs ≡ decode_row ts ms ys → xs ≡ ys
  same_numbers ts [] ys l p q e = absurd (false≢true p)
  same_numbers ts (x ∷ xs) [] l p q e = absurd (false≢true q)
  same_numbers ts (negsuc t ∷ xs) (negsuc u ∷ ys) l p q e =
      let types : t ≡ u = cc in
      let value : value_of (get_or xs 0 (pos 0)) (get_or xs 1 (pos 0)) ≡ value_of (get_or ys 0 (pos 0)) (get_or ys 1 (pos 0)) = cc in
      let fits_x = and_right (is_number ts t) _ (and_right (ltb t (length ts)) _ p) in
      let fits_y = and_right (is_number ts u) _ (and_right (ltb u (length ts)) _ q) in
      let word_x : is_word (get_or xs 0 (pos 0)) ≡ true = and_left _ _ fits_x in
      let word_y : is_word (get_or ys 0 (pos 0)) ≡ true = and_left _ _ fits_y in
      ap₂ (λ (w : ℕ) (zs : List ℤ). negsuc w ∷ zs) types
      (same-value xs ys (omega arith)
      (sym (low_of_lem (get_or xs 0 (pos 0)) (get_or xs 1 (pos 0)) word_x) ∙ ap low_of value ∙ low_of_lem (get_or ys 0 (pos 0)) (get_or ys 1 (pos 0)) word_y)
      (sym (high_of_lem (get_or xs 0 (pos 0)) (get_or xs 1 (pos 0)) word_x) ∙ ap high_of value ∙ high_of_lem (get_or ys 0 (pos 0)) (get_or ys 1 (pos 0)) word_y)
      (and_right (is_word (get_or xs 0 (pos 0))) _ fits_x) (and_right (is_word (get_or ys 0 (pos 0))) _ fits_y))
  same_numbers ts (negsuc t ∷ xs) (pos k ∷ ys) l p q e = let z : ◌≡◌ {A = ℕ} 0 1 = cc in absurd (omega arith)
  same_numbers ts (pos j ∷ xs) (negsuc t ∷ ys) l p q e = let z : ◌≡◌ {A = ℕ} 0 1 = cc in absurd (omega arith)
  same_numbers ts (pos j ∷ xs) (pos k ∷ ys) l p q e =
      let types : tag_type j ≡ tag_type k = cc in
      let variants : tag_variant j ≡ tag_variant k = cc in
      let tags : j ≡ k = omega arith in
      let parts : to_parts (part_messages ms (tag_fields ts j) xs) ≡ to_parts (part_messages ms (tag_fields ts k) ys) = cc in
      ap₂ (λ (m : ℕ) (zs : List ℤ). pos m ∷ zs) tags
      (same_parts_lem (tag_fields ts k) xs ys (omega arith) (subst (λ (m : ℕ). parts_fit ms n (tag_fields ts m) xs ≡ true) tags (and_right (has_variant ts j) _ p)) (and_right (has_variant ts k) _ q)
      (ap (λ (m : ℕ). part_messages ms (tag_fields ts m) xs) (sym tags) ∙ parts_eq _ _ parts))

-- ---- one message more

pub nothing_stored : (ts : Types) (rows : List ℤ) → Stored ts rows 0
nothing_stored ts rows = record { fit = λ i h. absurd (omega arith); apart = λ i j h k e. absurd (omega arith) }

module _ (ts : Types) (rows : List ℤ) (n : ℕ) (store : Stored ts rows n) (numbers : List ℤ) where
  abbrev ms : List Message
  ms = decode ts rows n

  -- a row of the store over all its messages
  row_over_all : (i : ℕ) → i < n → (message_at ts rows n i ≡ decode_row ts ms (row_numbers rows i)) × (row_fits ts ms n (row_numbers rows i) ≡ true)
  row_over_all i h =
      let (e, f) = row_over (decode ts rows i) ms i n (omega arith) (λ j l. decode-longer ts rows j i n l (omega arith)) ts (row_numbers rows i) (store.fit i h) in
      (decode-at ts rows i n h ∙ e, f)

  found-added : (r : ℕ) → r < n → row_numbers rows r ≡ numbers → Added ts rows n numbers r rows n
  found-added r h w = record {
    stored = store;
    grown = grown-itself rows n;
    few = omega arith;
    there = h;
    written = w;
    message = (row_over_all r h).0 ∙ ap (decode_row ts ms) w;
  }

  module _ (four : length numbers ≡ row_width) (room : row_width * n + row_width ≤ length rows) (fits : row_fits ts ms n numbers ≡ true) where
    module _ (absent : (i : ℕ) → i < n → ¬ (row_numbers rows i ≡ numbers)) where
      abbrev new : List ℤ
      new = appended rows n numbers

      parts : new ≡ take (row_width * n) rows ++ (numbers ++ drop (row_width * n + length numbers) rows)
      parts = sets-eq numbers rows (row_width * n) (omega arith) ∙ append_assoc (take (row_width * n) rows) numbers _

      front : length (take (row_width * n) rows) ≡ row_width * n
      front = length-take-le (row_width * n) rows (omega arith)

      same : SameRows new rows n
      same = ap (take (row_width * n)) parts ∙ take_at (take (row_width * n) rows) _ (row_width * n) front

      back : drop (row_width * n) new ≡ numbers ++ drop (row_width * n + length numbers) rows
      back = ap (drop (row_width * n)) parts ∙ drop_at (take (row_width * n) rows) _ (row_width * n) front

      written : row_numbers new n ≡ numbers
      written = ap (take row_width) back ∙ take_at numbers _ row_width four

      rest : drop (row_width * suc n) new ≡ drop (row_width * suc n) rows
      rest =
          let next : row_width * suc n ≡ row_width * n + row_width = omega arith in
          let behind : row_width * n + length numbers ≡ row_width * suc n = omega arith in
          ap (λ (k : ℕ). drop k new) next ∙ sym (drop-drop row_width (row_width * n) new) ∙ ap (drop row_width) back ∙ drop_at numbers _ row_width four ∙ ap (λ (k : ℕ). drop k rows) behind

      decoded : decode ts new (suc n) ≡ ms ++ (decode_row ts ms numbers ∷ [])
      decoded = ap₂ (λ (ns : List Message) (xs : List ℤ). ns ++ (decode_row ts ns xs ∷ [])) (decode-kept new rows ts n same) written

      old-message : (i : ℕ) → i < n → message_at ts new (suc n) i ≡ message_at ts rows n i
      old-message i h = ap (λ (ns : List Message). get_or ns i no_message) decoded ∙ get_or-append ms _ no_message i (omega (arith, decode-length ts rows n))

      new_message : message_at ts new (suc n) n ≡ decode_row ts ms numbers
      new_message = ap (λ (ns : List Message). get_or ns n no_message) decoded ∙ get_or_at ms _ [] no_message n (decode-length ts rows n)

      -- no row of the store shows the new message
      fresh : (i : ℕ) → i < n → ¬ (message_at ts new (suc n) i ≡ message_at ts new (suc n) n)
      fresh i h e =
          let (m, f) = row_over_all i h in
          let l : length (row_numbers rows i) ≡ row_width = simp (length-take, length-drop) (omega arith) in
          absent i h (same_numbers ms n store.apart ts (row_numbers rows i) numbers (l ∙ sym four) f fits (sym m ∙ sym (old-message i h) ∙ e ∙ new_message))

      fit : (i : ℕ) → i < suc n → row_fits ts (decode ts new i) i (row_numbers new i) ≡ true
      fit i h =
          by_test (ltb i n)
          (λ b. let l : i < n = ltb-true i n b in ap₂ (λ (ns : List Message) (xs : List ℤ). row_fits ts ns i xs) (decode-kept new rows ts i (fewer new rows i n (omega arith) same)) (row_kept new rows i n l same) ∙ store.fit i l)
          (λ b. let e : n ≡ i = omega (arith, ltb-false i n b) in subst (λ (k : ℕ). row_fits ts (decode ts new k) k (row_numbers new k) ≡ true) e (ap₂ (λ (ns : List Message) (xs : List ℤ). row_fits ts ns n xs) (decode-kept new rows ts n same) written ∙ fits))

      apart : (i j : ℕ) → i < suc n → j < suc n → message_at ts new (suc n) i ≡ message_at ts new (suc n) j → i ≡ j
      apart i j h k e =
          by_test (ltb i n)
          (λ b. by_test (ltb j n) (λ d. store.apart i j (ltb-true i n b) (ltb-true j n d) (sym (old-message i (ltb-true i n b)) ∙ e ∙ old-message j (ltb-true j n d)))
          (λ d. let q : j ≡ n = omega (arith, ltb-false j n d) in absurd (fresh i (ltb-true i n b) (e ∙ ap (message_at ts new (suc n)) q))))
          (λ b. let p : i ≡ n = omega (arith, ltb-false i n b) in
          by_test (ltb j n) (λ d. absurd (fresh j (ltb-true j n d) (sym e ∙ ap (message_at ts new (suc n)) p))) (λ d. omega (arith, ltb-false j n d)))

      new_added : Added ts rows n numbers n new (suc n)
      new_added = record {
        stored = record { fit = fit; apart = apart };
        grown = record { more = omega arith; kept = λ i l. row_kept new rows i n l same; rest = rest; long = length-sets rows (row_width * n) numbers };
        few = omega arith;
        there = omega arith;
        written = written;
        message = new_message;
      }

    -- the row found, or the row appended, where no row below `start` has the numbers
    pub row-stored : (start : ℕ) → ((i : ℕ) → i < start → i < n → ¬ (row_numbers rows i ≡ numbers)) → (r : ℕ) (rows' : List ℤ) → r ≡ row_found rows start n numbers → rows' ≡ with_row rows n r numbers
        → Added ts rows n numbers r rows' (many_after n r)
    row-stored start none r rows' e w =
        by_test (ltb r n)
        (λ b. let h : r < n = ltb-true r n b in
        subst (λ (k : ℕ). Added ts rows n numbers r rows' k) (sym (many-found n r h))
        (subst (λ (l : List ℤ). Added ts rows n numbers r l n) (with_found rows n r numbers h ∙ sym w) (found-added r h (found-is rows start numbers n r e h))))
        (λ b. let h : n ≤ r = ltb-false r n b in
        let at : n ≡ r = found_all rows start numbers n (omega arith) ∙ sym e in
        subst (λ (k : ℕ). Added ts rows n numbers r rows' k) (sym (many_new n r h))
        (subst (λ (l : List ℤ). Added ts rows n numbers r l (suc n)) (with_new rows n r numbers h ∙ sym w)
        (subst (λ (k : ℕ). Added ts rows n numbers k (appended rows n numbers) (suc n)) at
        (new_added (λ i l. by_test (ltb i start) (λ d. none i (ltb-true i start d) l) (λ d. found_none rows start numbers n r e h i (ltb-false i start d) l))))))
