-- One row more: a number, or a variant over the rows of its parts. What is drawn is the message, and the parts lie under
-- its row. Assumes nothing.
use mathlib.Core.Path.{◌≡◌, refl, ap, ap₂, sym, ◌∙◌, subst}
use mathlib.Core.List.{List, [], ◌∷◌, map, map-id}
use Prim.Native.Nat.{ℕ, zero, suc, ◌+◌, ◌*◌, ◌≤◌, ◌<◌}
use native.Mathlib.Omega.{arith}
use lib.Dec.{ltb}
use lib.IntN.{ℤ, pos, negsuc, ◌-ℤ◌}
use lib.ListN.{length, get_or, get_or-map}
use mir.Syntax.{w32}
use mir.Val.{SFits, of_z, to_z}
use mir.Facts.{to_z-of_z, to_z_pos}
use borrow.Author.Tests.{ltb-true, ltb-false, lt-ltb}
use Rattle.laws.specs.Lists.{from}
use Rattle.laws.proofs.Bools.{by_test}
use Rattle.laws.proofs.Lists.{by_positions, map-length}
use Rattle.guard.specs.Message.{Message, Message.made, Message.number, no_message, to_parts}
use Rattle.guard.specs.Shown.{decode, decode_row, is_below, message_type, natural, part_count, row_numbers}
use Rattle.guard.specs.Types.{Types, fields_of, variants_of}
use Rattle.guard.specs.Words.{high_of, low_of}
use Rattle.rowstore.specs.Store.{Added, Grown, PartRows, Stored, made_row, many_after, number_row, row_found, with_row}
use Rattle.rowstore.proofs.Numbers.{many-found, many_new}
use Rattle.rowstore.proofs.RowLaws.{made-fits, made-shown, number_fits, number-shown, start-after-part, tag_fields_lem}
use Rattle.rowstore.proofs.StoreLaws.{grown-message, grown_twice, row-stored, tag_fields}
use Rattle.drawnrows.specs.Drawing.{Drew, LowRows, NumberDrawn, Parted, Store, Under, Under.here, Under.part, parts_over}
use Rattle.drawnrows.proofs.DrawnLaws.{under-kept, under_trans}
use Rattle.drawnrows.proofs.FillLaws.{fill_length}

-- the rows of defaults stay
pub store-grown : (ts : Types) (rows : List ℤ) (many : ℕ) (drawn : List ℕ) (rows' : List ℤ) (many' : ℕ) → Store ts rows many drawn → Stored ts rows' many' → Grown rows many rows' many' → Store ts rows' many' drawn
store-grown ts rows many drawn rows' many' s s' g =
    record {
      stored = s';
      six = s.six;
      known = λ t x e. let (h, l, m) = s.known t x e in (h, omega (arith, g.more), grown-message ts rows many rows' many' g x l ∙ m);
    }

-- a row found or appended is one drawn
module _ (ts : Types) (rows : List ℤ) (many : ℕ) (drawn : List ℕ) (store : Store ts rows many drawn) (numbers : List ℤ) (r : ℕ) (rows' : List ℤ) (added : Added ts rows many numbers r rows' (many_after many r)) where
  new_row : (i : ℕ) → many ≤ i → i < many_after many r → r ≡ i
  new_row i a b =
      by_test (ltb r many) (λ e. absurd (omega (arith, many-found many r (ltb-true _ _ e))))
      (λ e. omega (arith, many_new many r (ltb-false r many e), ltb-false r many e, added.there))

  pub drew-added : (m : Message) → decode_row ts (decode ts rows many) numbers ≡ m → Drew ts rows many drawn 1 m rows' (many_after many r) drawn r
  drew-added m e = record {
    store = store-grown ts rows many drawn rows' (many_after many r) store added.stored added.grown;
    grown = added.grown;
    cost = omega (arith, added.few);
    there = added.there;
    message = added.message ∙ e;
    under = λ i a b. subst (Under ts rows' r) (new_row i a b) here;
  }

-- ---- numbers

pub number-drew : (rows : List ℤ) (many t : ℕ) (z : ℤ) (r : ℕ) (rows' : List ℤ) (many' : ℕ) → 4 * many + 4 ≤ length rows
    → r ≡ row_found rows 0 many (number_row t z) → rows' ≡ with_row rows many r (number_row t z) → many' ≡ many_after many r → NumberDrawn rows many t z rows' many' r
number-drew rows many t z r rows' many' long found with_it now ts drawn h e s =
    subst (λ (k : ℕ). Drew ts rows many drawn 1 (number t z) rows' k drawn r) (sym now)
    (drew-added ts rows many drawn s (number_row t z) r rows'
    (row-stored ts rows many s.stored (number_row t z) refl (omega arith) (number_fits ts (decode ts rows many) many t z h e) 0 (λ i l. absurd (omega arith)) r rows' found with_it) (number t z) (number-shown ts (decode ts rows many) many t z))

-- ---- variants

-- a variant over the rows of its parts: the message of their messages, and they lie under its row
module _ (ts : Types) (t v : ℕ) (small : v < 16) (inside : v < length (variants_of ts t)) (rows : List ℤ) (many : ℕ) (drawn : List ℕ) (store : Store ts rows many drawn) (ps : List ℕ) (three : length ps ≡ 3)
    (f : ℕ → Message) (parts : PartRows (decode ts rows many) many (fields_of ts t v) (map pos ps) f) where
  abbrev numbers : List ℤ
  numbers = made_row t v (map pos ps)

  counted : length (tag_fields ts (16 * t + v)) ≡ length (fields_of ts t v)
  counted = ap length (tag_fields_lem (decode ts rows many) many ts t v small)

  part-number : (q : ℕ) → natural (get_or (map pos ps) q (pos 0)) ≡ get_or ps q 0
  part-number q = ap natural (get_or-map pos ps q 0)

  -- no row up to a part has the numbers
  pub none_before : (q : ℕ) → q < length (fields_of ts t v) → (i : ℕ) → i < get_or ps q 0 + 1 → i < many → ¬ (row_numbers rows i ≡ numbers)
  none_before q h i l = start-after-part ts rows many store.stored (16 * t + v) (map pos ps) q (omega (arith, counted)) i (omega (arith, part-number q))

  module _ (long : 4 * many + 4 ≤ length rows) (start : ℕ) (none : (i : ℕ) → i < start → i < many → ¬ (row_numbers rows i ≡ numbers))
      (r : ℕ) (rows' : List ℤ) (many' : ℕ) (found : r ≡ row_found rows start many numbers) (with_it : rows' ≡ with_row rows many r numbers) (now : many' ≡ many_after many r) where
    abbrev whole : Message
    whole = made t v (to_parts (map f (from (length (fields_of ts t v)) 0)))

    added : Added ts rows many numbers r rows' (many_after many r)
    added =
        row-stored ts rows many store.stored numbers (ap suc (map-length pos ps ∙ three)) (omega arith) (made-fits (decode ts rows many) many ts t v small (map pos ps) f parts inside) start none r rows' found with_it

    pub drew_over : Drew ts rows many drawn 1 whole rows' many' drawn r
    drew_over =
        subst (λ (k : ℕ). Drew ts rows many drawn 1 whole rows' k drawn r) (sym now)
        (drew-added ts rows many drawn store numbers r rows' added whole (made-shown (decode ts rows many) many ts t v small (map pos ps) f parts))

    pub part-under : (q : ℕ) → q < length (fields_of ts t v) → Under ts rows' r (get_or ps q 0)
    part-under q h =
        let l : q < part_count ts numbers = omega (arith, counted) in
        subst (Under ts rows' r) (ap (λ (xs : List ℤ). natural (get_or xs (suc q) (pos 0))) added.written ∙ part-number q)
        (part r q here (subst (λ (xs : List ℤ). q < part_count ts xs) (sym added.written) l))

-- the same after the parts were drawn
module _ (ts : Types) (t v c row : ℕ) (rows : List ℤ) (many : ℕ) (drawn : List ℕ) (ps : List ℕ) (rows' : List ℤ) (many' : ℕ) (drawn' : List ℕ)
    (parted : Parted ts (fields_of ts t v) c row rows many drawn (length (fields_of ts t v)) ps rows' many' drawn')
    (three : length (fields_of ts t v) ≤ 3) (small : v < 16) (inside : v < length (variants_of ts t))
    (typed : (q : ℕ) → q < length (fields_of ts t v) → message_type (get_or (parts_over ts rows many (fields_of ts t v) c row) q no_message) ≡ get_or (fields_of ts t v) q 0) where
  abbrev parts : List Message
  parts = parts_over ts rows many (fields_of ts t v) c row

  number_at : (q : ℕ) → get_or (map pos ps) q (pos 0) ≡ pos (get_or ps q 0)
  number_at q = get_or-map pos ps q 0

  rows_of-parts : PartRows (decode ts rows' many') many' (fields_of ts t v) (map pos ps) (λ q. get_or parts q no_message)
  rows_of-parts = record {
    long = omega (arith, map-length pos ps, parted.three);
    low = λ q h. ap (is_below many') (number_at q) ∙ lt-ltb (get_or ps q 0) many' (parted.low q h);
    shows = λ q h. ap (λ (x : ℤ). get_or (decode ts rows' many') (natural x) no_message) (number_at q) ∙ parted.shows q h;
    typed = typed;
    unused = λ q h. number_at q ∙ ap pos (parted.unused q h);
  }

  -- no row up to the one given has the numbers
  pub none-before-given : c < length (fields_of ts t v) → (i : ℕ) → i < row + 1 → i < many' → ¬ (row_numbers rows' i ≡ made_row t v (map pos ps))
  none-before-given h i l = none_before ts t v small inside rows' many' drawn' parted.store ps parted.three (λ q. get_or parts q no_message) rows_of-parts c h i (omega (arith, parted.given h))

  module _ (long : 4 * many' + 4 ≤ length rows') (start : ℕ) (none : (i : ℕ) → i < start → i < many' → ¬ (row_numbers rows' i ≡ made_row t v (map pos ps)))
      (r : ℕ) (rows'' : List ℤ) (many'' : ℕ) (found : r ≡ row_found rows' start many' (made_row t v (map pos ps))) (with_it : rows'' ≡ with_row rows' many' r (made_row t v (map pos ps))) (now : many'' ≡ many_after many' r) where
    last : Drew ts rows' many' drawn' 1 (made t v (to_parts parts)) rows'' many'' drawn' r
    last =
        let listed : map (λ q. get_or parts q no_message) (from (length (fields_of ts t v)) 0) ≡ parts =
        ap (λ (n : ℕ). map (λ q. get_or parts q no_message) (from n 0)) (sym (fill_length _ (fields_of ts t v) c _)) ∙ by_positions (λ (m : Message). m) parts no_message ∙ map-id parts in
        subst (λ (l : List Message). Drew ts rows' many' drawn' 1 (made t v (to_parts l)) rows'' many'' drawn' r) listed
        (drew_over ts t v small inside rows' many' drawn' parted.store ps parted.three (λ q. get_or parts q no_message) rows_of-parts long start none r rows'' many'' found with_it now)

    under-made : (q : ℕ) → q < length (fields_of ts t v) → Under ts rows'' r (get_or ps q 0)
    under-made = part-under ts t v small inside rows' many' drawn' parted.store ps parted.three (λ q. get_or parts q no_message) rows_of-parts long start none r rows'' many'' found with_it now

    -- the message over the parts; every row drawn for them lies under its row
    pub drew-made : Drew ts rows many drawn 1 (made t v (to_parts parts)) rows'' many'' drawn' r
    drew-made = record {
      store = last.store;
      grown = grown_twice rows many rows' many' rows'' many'' parted.grown last.grown;
      cost = omega (arith, parted.cost, last.cost);
      there = last.there;
      message = last.message;
      under = λ i a b. by_test (ltb i many')
          (λ e. let (q, l, u) = parted.under i a (ltb-true _ _ e) in
          under_trans (under-made q l) (under-kept ts rows' many' parted.store.stored rows'' many'' last.grown (get_or ps q 0) i (parted.low q l) u))
          (λ e. last.under i (ltb-false i many' e) b);
    }

    pub drew-given : c < length (fields_of ts t v) → Under ts rows'' r row
    drew-given h = subst (Under ts rows'' r) (parted.given h) (under-made c h)

-- ---- numbers as the code has them

-- −1 − t
less-type : (t : ℕ) → negsuc 0 -ℤ pos t ≡ negsuc t
less-type zero = refl
less-type (suc t) = ap negsuc (omega arith)

pub number_tag : (t : ℕ) → t < 256 → negsuc 0 -ℤ to_z w32 t ≡ negsuc t
number_tag t h = ap (λ (z : ℤ). negsuc 0 -ℤ z) (to_z_pos w32 {n = t} (omega arith)) ∙ less-type t

pub number-numbers : (t : ℕ) (z low high : ℤ) → t < 256 → SFits w32 low → SFits w32 high → low ≡ low_of z → high ≡ high_of z
    → (to_z w32 (of_z w32 (negsuc 0 -ℤ to_z w32 t)) ∷ to_z w32 (of_z w32 low) ∷ to_z w32 (of_z w32 high) ∷ pos 0 ∷ []) ≡ number_row t z
number-numbers t z low high h f g l e =
    let tag : SFits w32 (negsuc t) = record { sfits = omega arith } in
    ap₂ (λ (a : ℤ) (xs : List ℤ). a ∷ xs) (ap (λ (y : ℤ). to_z w32 (of_z w32 y)) (number_tag t h) ∙ to_z-of_z tag)
    (ap₂ (λ (a b : ℤ). a ∷ b ∷ pos 0 ∷ []) (to_z-of_z f ∙ l) (to_z-of_z g ∙ e))

-- the row found and the buffer with it, by the numbers that the code hands on
pub handed : (rows : List ℤ) (start many : ℕ) (numbers numbers' : List ℤ) (x : ℕ) (rows' : List ℤ) (r many' : ℕ) → numbers ≡ numbers' → x ≡ row_found rows start many numbers → rows' ≡ with_row rows many x numbers → r ≡ x
    → many' ≡ many_after many x → (r ≡ row_found rows start many numbers') × (rows' ≡ with_row rows many r numbers') × (many' ≡ many_after many r)
handed rows start many numbers numbers' x rows' r many' same found with_it e now = (
  e ∙ found ∙ ap (row_found rows start many) same,
  with_it ∙ ap (with_row rows many x) same ∙ ap (λ (k : ℕ). with_row rows many k numbers') (sym e),
  now ∙ ap (many_after many) (sym e),
)

-- three numbers
three-numbers : (ps : List ℕ) → length ps ≡ 3 → map pos ps ≡ pos (get_or ps 0 0) ∷ pos (get_or ps 1 0) ∷ pos (get_or ps 2 0) ∷ []
three-numbers [] h = absurd (omega arith)
three-numbers (a ∷ []) h = absurd (omega arith)
three-numbers (a ∷ b ∷ []) h = absurd (omega arith)
three-numbers (a ∷ b ∷ c ∷ []) h = refl
three-numbers (a ∷ b ∷ c ∷ d ∷ ps) h = absurd (omega arith)

pub made-numbers : (t v : ℕ) (ps : List ℕ) → t < 256 → v < 256 → LowRows ps → (to_z w32 (16 * t + v) ∷ to_z w32 (get_or ps 0 0) ∷ to_z w32 (get_or ps 1 0) ∷ to_z w32 (get_or ps 2 0) ∷ []) ≡ made_row t v (map pos ps)
made-numbers t v ps ht hv (three, low) =
    ap₂ (λ (a : ℤ) (l : List ℤ). a ∷ l) (to_z_pos w32 {n = 16 * t + v} (omega arith))
    (ap₂ (λ (a : ℤ) (l : List ℤ). a ∷ l) (to_z_pos w32 {n = get_or ps 0 0} (omega (arith, low 0)))
    (ap₂ (λ (a b : ℤ). a ∷ b ∷ []) (to_z_pos w32 {n = get_or ps 1 0} (omega (arith, low 1))) (to_z_pos w32 {n = get_or ps 2 0} (omega (arith, low 2)))) ∙ sym (three-numbers ps three))
