-- Rows as callers make them: numbers, and variants over the rows of their parts. They fit, and show what they should.
-- Assumes nothing.
use mathlib.Core.Path.{◌≡◌, refl, ap, ap₂, sym, ◌∙◌, subst}
use mathlib.Core.Bool.{true, false≢true}
use mathlib.Core.List.{List, [], ◌∷◌, ◌++◌, map}
use Prim.Native.Nat.{ℕ, zero, suc, ◌+◌, ◌*◌, ◌-◌, ◌<◌}
use native.Mathlib.Omega.{arith}
use lib.Dec.{ltb}
use lib.IntN.{ℤ, pos}
use lib.ListN.{length, get_or, replicate, length-append, get_or-eq_default}
use borrow.Author.Tests.{lt-ltb}
use Rattle.laws.specs.Lists.{all, from}
use Rattle.laws.proofs.Bools.{and_both, and_right}
use Rattle.laws.proofs.Lists.{by_positions, map-from_suc, map-length}
use Rattle.guard.specs.Limits.{field_limit}
use Rattle.guard.specs.Meaning.{Belongs}
use Rattle.guard.specs.Message.{Message, Message.number, Message.made, no_message, to_parts}
use Rattle.guard.specs.Shown.{decode, decode_row, is_below, is_zero, message_type, natural, part_messages, parts_fit, row_fits, row_numbers, tag_type, tag_variant}
use Rattle.guard.specs.Types.{Types, Variant, fields_of, is_number, variants_of}
use Rattle.guard.proofs.WordLaws.{low_word, value_of_lem}
use Rattle.rowstore.specs.Store.{PartRows, Stored, made_row, number_row, part_numbers}
use Rattle.rowstore.proofs.StoreLaws.{below-is, fits-part, has_variant, part-fits, tag_fields}

-- ---- types of messages

pub belongs-type : (ts : Types) (m : Message) (t : ℕ) → Belongs ts m t → message_type m ≡ t
belongs-type ts (number u z) t b = b.0
belongs-type ts (made u v ps) t b = b.0

-- ---- numbers

module _ (ts : Types) (ms : List Message) (n t : ℕ) (z : ℤ) where
  pub number_fits : t < length ts → is_number ts t ≡ true → row_fits ts ms n (number_row t z) ≡ true
  number_fits h e = and_both _ _ (lt-ltb t (length ts) h) (and_both _ _ e (and_both _ _ (low_word z) refl))

  pub number-shown : decode_row ts ms (number_row t z) ≡ number t z
  number-shown = ap (number t) (value_of_lem z)

-- ---- variants

zeros : (xs : List ℤ) → ((q : ℕ) → get_or xs q (pos 0) ≡ pos 0) → all is_zero xs ≡ true
zeros [] h = refl
zeros (x ∷ xs) h = and_both _ _ (ap is_zero (h 0)) (zeros xs (λ q. h (suc q)))

module _ (ms : List Message) (n : ℕ) where
  -- the parts after the first
  later : (f : ℕ) (fs : Variant) (x : ℤ) (xs : List ℤ) (g : ℕ → Message) → PartRows ms n (f ∷ fs) (x ∷ xs) g → PartRows ms n fs xs (λ q. g (suc q))
  later f fs x xs g r = record {
    long = omega (arith, r.long);
    low = λ q h. r.low (suc q) (omega arith);
    shows = λ q h. r.shows (suc q) (omega arith);
    typed = λ q h. r.typed (suc q) (omega arith);
    unused = λ q h. r.unused (suc q) (omega arith);
  }

  parts-fit : (fs : Variant) (xs : List ℤ) (g : ℕ → Message) → PartRows ms n fs xs g → parts_fit ms n fs xs ≡ true
  parts-fit [] xs g r = zeros xs (λ q. r.unused q (omega arith))
  parts-fit (f ∷ fs) [] g r = absurd (omega (arith, r.long))
  parts-fit (f ∷ fs) (x ∷ xs) g r =
      let (is, low) = below-is n x (r.low 0 (omega arith)) in
      fits-part ms n f fs x xs is low (ap message_type (r.shows 0 (omega arith)) ∙ r.typed 0 (omega arith)) (parts-fit fs xs (λ q. g (suc q)) (later f fs x xs g r))

  parts-shown : (fs : Variant) (xs : List ℤ) (g : ℕ → Message) → PartRows ms n fs xs g → part_messages ms fs xs ≡ map g (from (length fs) 0)
  parts-shown [] xs g r = refl
  parts-shown (f ∷ fs) [] g r = absurd (omega (arith, r.long))
  parts-shown (f ∷ fs) (x ∷ xs) g r =
      ap₂ (λ (m : Message) (l : List Message). m ∷ l) (r.shows 0 (omega arith)) (parts-shown fs xs (λ q. g (suc q)) (later f fs x xs g r) ∙ sym (map-from_suc g (length fs) 0))

  module _ (ts : Types) (t v : ℕ) (small : v < 16) where
    tag_type_lem : tag_type (16 * t + v) ≡ t
    tag_type_lem = omega arith

    tag_variant_lem : tag_variant (16 * t + v) ≡ v
    tag_variant_lem = omega arith

    pub tag_fields_lem : tag_fields ts (16 * t + v) ≡ fields_of ts t v
    tag_fields_lem = ap₂ (fields_of ts) tag_type_lem tag_variant_lem

    module _ (xs : List ℤ) (g : ℕ → Message) (parts : PartRows ms n (fields_of ts t v) xs g) where
      pub made-fits : v < length (variants_of ts t) → row_fits ts ms n (made_row t v xs) ≡ true
      made-fits h =
          and_both (has_variant ts (16 * t + v)) (parts_fit ms n (tag_fields ts (16 * t + v)) xs) (ap₂ (λ (u w : ℕ). ltb w (length (variants_of ts u))) tag_type_lem tag_variant_lem ∙ lt-ltb v _ h)
          (ap (λ (fs : Variant). parts_fit ms n fs xs) tag_fields_lem ∙ parts-fit (fields_of ts t v) xs g parts)

      pub made-shown : decode_row ts ms (made_row t v xs) ≡ made t v (to_parts (map g (from (length (fields_of ts t v)) 0)))
      made-shown =
          ap₂ (λ (u w : ℕ). made u w (to_parts (part_messages ms (fields_of ts u w) xs))) tag_type_lem tag_variant_lem ∙ ap (λ (l : List Message). made t v (to_parts l)) (parts-shown (fields_of ts t v) xs g parts)

-- ---- part rows as a list

numbers-at : (ps : List ℕ) (k q : ℕ) → get_or (map pos ps ++ replicate k (pos 0)) q (pos 0) ≡ pos (get_or ps q 0)
numbers-at [] zero q = refl
numbers-at [] (suc k) zero = refl
numbers-at [] (suc k) (suc q) = numbers-at [] k q
numbers-at (p ∷ ps) k zero = refl
numbers-at (p ∷ ps) k (suc q) = numbers-at ps k q

module _ (ms : List Message) (n : ℕ) (fs : Variant) (ps : List ℕ) where
  pub part-rows : length ps ≡ length fs → ((q : ℕ) → q < length fs → (get_or ps q 0 < n) × (message_type (get_or ms (get_or ps q 0) no_message) ≡ get_or fs q 0))
      → PartRows ms n fs (part_numbers ps) (λ q. get_or ms (get_or ps q 0) no_message)
  part-rows l h =
      let is : (q : ℕ) → get_or (part_numbers ps) q (pos 0) ≡ pos (get_or ps q 0) = numbers-at ps (field_limit - length ps) in
      record {
        long = simp (length-append, map-length) (omega arith);
        low = λ q m. ap (is_below n) (is q) ∙ lt-ltb _ n (h q m).0;
        shows = λ q m. ap (λ (x : ℤ). get_or ms (natural x) no_message) (is q);
        typed = λ q m. (h q m).1;
        unused = λ q m. is q ∙ ap pos (get_or-eq_default ps 0 {n = q} (omega arith));
      }

module _ (ms : List Message) (n : ℕ) (ts : Types) (t v : ℕ) (small : v < 16) (ps : List ℕ) (many : length ps ≡ length (fields_of ts t v))
    (parts : (q : ℕ) → q < length (fields_of ts t v) → (get_or ps q 0 < n) × (message_type (get_or ms (get_or ps q 0) no_message) ≡ get_or (fields_of ts t v) q 0)) where
  pub over_fits : v < length (variants_of ts t) → row_fits ts ms n (made_row t v (part_numbers ps)) ≡ true
  over_fits = made-fits ms n ts t v small (part_numbers ps) (λ q. get_or ms (get_or ps q 0) no_message) (part-rows ms n (fields_of ts t v) ps many parts)

  pub over_shown : decode_row ts ms (made_row t v (part_numbers ps)) ≡ made t v (to_parts (map (λ p. get_or ms p no_message) ps))
  over_shown =
      made-shown ms n ts t v small (part_numbers ps) (λ q. get_or ms (get_or ps q 0) no_message) (part-rows ms n (fields_of ts t v) ps many parts)
      ∙ ap (λ (k : ℕ). made t v (to_parts (map (λ q. get_or ms (get_or ps q 0) no_message) (from k 0)))) (sym many) ∙ ap (λ (l : List Message). made t v (to_parts l)) (by_positions (λ p. get_or ms p no_message) ps 0)

-- ---- where a search may start

pub part_low : (ms : List Message) (i : ℕ) (fs : Variant) (xs : List ℤ) (q : ℕ) → q < length fs → parts_fit ms i fs xs ≡ true → natural (get_or xs q (pos 0)) < i
part_low ms i [] xs q h p = absurd (omega arith)
part_low ms i (f ∷ fs) [] q h p = absurd (false≢true p)
part_low ms i (f ∷ fs) (x ∷ xs) zero h p = (part-fits ms i f fs x xs p).1
part_low ms i (f ∷ fs) (x ∷ xs) (suc q) h p = part_low ms i fs xs q (omega arith) (part-fits ms i f fs x xs p).3

-- no row up to a part has the numbers of the whole
pub start-after-part : (ts : Types) (rows : List ℤ) (n : ℕ) → Stored ts rows n → (k : ℕ) (xs : List ℤ) (q : ℕ) → q < length (tag_fields ts k)
    → (i : ℕ) → i < suc (natural (get_or xs q (pos 0))) → i < n → ¬ (row_numbers rows i ≡ pos k ∷ xs)
start-after-part ts rows n store k xs q h i l m e =
    omega (arith, part_low (decode ts rows i) i (tag_fields ts k) xs q h (and_right (has_variant ts k) _ (subst (λ (l : List ℤ). row_fits ts (decode ts rows i) i l ≡ true) e (store.fit i m))))
