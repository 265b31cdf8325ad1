-- Messages: sizes, parts, which variant a message is, and what a field read gives. Assumes nothing.
use mathlib.Core.Path.{◌≡◌, refl, ap, sym, ◌∙◌, subst}
use mathlib.Core.Bool.{Bool, false, cond, false≢true}
use mathlib.Core.List.{List, [], ◌∷◌, Memᴰ, map}
use mathlib.Core.Logic.{◌⊎◌, inl, inr}
use Prim.Native.Nat.{ℕ, zero, suc, ◌+◌, ◌<◌}
use native.Mathlib.Omega.{arith}
use lib.Dec.{eqb}
use lib.ListN.{length, get_or}
use borrow.Author.Tests.{eqb-true, eqb-false, eq-eqb, ne_eqb}
use Rattle.laws.specs.Lists.{from}
use Rattle.laws.proofs.Bools.{by_test}
use Rattle.laws.proofs.Lists.{map_cong, map-from_suc}
use Rattle.guard.specs.Meaning.{BelongAll, Belongs, IsVariant, read_field}
use Rattle.guard.specs.Message.{Message, Message.made, Message.number, Parts, Parts.nil, Parts.part, no_message, part_at, to_parts}
use Rattle.guard.specs.Types.{Types, Variant, absent_field, fields_of, is_number, variants_of}

-- ---- sizes
abbrev mutual
  pub message_size : Message → ℕ
  message_size (number t z) = 1
  message_size (made t v ms) = suc (part_sizes ms)

  pub part_sizes : Parts → ℕ
  part_sizes nil = 0
  part_sizes (part m ms) = message_size m + part_sizes ms

-- a part is smaller than the message
pub size-part : (ms : List Message) (p : ℕ) (d : Message) → p < length ms → message_size (part_at (to_parts ms) p d) < suc (part_sizes (to_parts ms))
size-part [] p d h = absurd (omega arith)
size-part (m ∷ ms) zero d h = omega arith
size-part (m ∷ ms) (suc p) d h = omega (arith, size-part ms p d (omega arith))

pub size_mem : (ms : List Message) (m : Message) → Memᴰ m ms → message_size m < suc (part_sizes (to_parts ms))
size_mem [] m x' = elim x' [ ]
size_mem (n ∷ ms) m (Memᴰ.head e) = let q : message_size m ≡ message_size n = ap message_size e in omega arith
size_mem (n ∷ ms) m (Memᴰ.tail k) = omega (arith, size_mem ms m k)

-- ---- parts

pub parts_eq : (xs ys : List Message) → to_parts xs ≡ to_parts ys → xs ≡ ys
parts_eq [] [] e = refl
parts_eq [] (y ∷ ys) e = let z : ◌≡◌ {A = ℕ} 0 1 = cc in absurd (omega arith)
parts_eq (x ∷ xs) [] e = let z : ◌≡◌ {A = ℕ} 0 1 = cc in absurd (omega arith)
parts_eq (x ∷ xs) (y ∷ ys) e =
    let h : x ≡ y = cc in
    let k : to_parts xs ≡ to_parts ys = cc in
    let r : xs ≡ ys = parts_eq xs ys k in cc

module _ (ts : Types) where
  -- messages of the field types, as many as there are
  pub belong_length : (ms : List Message) (fs : Variant) → BelongAll ts (to_parts ms) fs → length ms ≡ length fs
  belong_length [] [] b = refl
  belong_length [] (f ∷ fs) b = absurd b
  belong_length (m ∷ ms) [] b = absurd b
  belong_length (m ∷ ms) (f ∷ fs) b = ap suc (belong_length ms fs b.1)

  pub belong_all : (ms : List Message) (fs : Variant) → length ms ≡ length fs → ((k : ℕ) → k < length fs → Belongs ts (get_or ms k no_message) (get_or fs k 0)) → BelongAll ts (to_parts ms) fs
  belong_all [] [] l h = tt
  belong_all [] (f ∷ fs) l h = absurd (omega arith)
  belong_all (m ∷ ms) [] l h = absurd (omega arith)
  belong_all (m ∷ ms) (f ∷ fs) l h = (h 0 (omega arith), belong_all ms fs (omega arith) (λ k hk. h (suc k) (omega arith)))

  pub part-belongs : (ms : Parts) (fs : Variant) (p : ℕ) → p < length fs → BelongAll ts ms fs → Belongs ts (part_at ms p no_message) (get_or fs p 0)
  part-belongs nil [] p h b = absurd (omega arith)
  part-belongs nil (f ∷ fs) p h b = absurd b
  part-belongs (part m ms) [] p h b = absurd b
  part-belongs (part m ms) (f ∷ fs) zero h b = b.0
  part-belongs (part m ms) (f ∷ fs) (suc p) h b = part-belongs ms fs p (omega arith) b.1

  no-parts : (ms : Parts) → BelongAll ts ms [] → ms ≡ nil
  no-parts nil b = refl
  no-parts (part m ms) b = absurd b

  -- the parts, one position after the other
  parts_from : (ms : Parts) (fs : Variant) → BelongAll ts ms fs → to_parts (map (λ p. part_at ms p no_message) (from (length fs) 0)) ≡ ms
  parts_from nil [] b = refl
  parts_from nil (f ∷ fs) b = absurd b
  parts_from (part m ms) [] b = absurd b
  parts_from (part m ms) (f ∷ fs) b = ap (part m) (ap to_parts (map-from_suc (λ p. part_at (part m ms) p no_message) (length fs) 0) ∙ parts_from ms fs b.1)

-- a part of mapped parts
pub part-map : (f : ℕ → Message) (ps : List ℕ) (k : ℕ) (d : Message) → k < length ps → part_at (to_parts (map f ps)) k d ≡ f (get_or ps k 0)
part-map f [] k d h = absurd (omega arith)
part-map f (p ∷ ps) zero d h = refl
part-map f (p ∷ ps) (suc k) d h = part-map f ps k d (omega arith)

-- ---- variants

pub variant_or_not : (m : Message) (v : ℕ) → IsVariant m v ⊎ (¬ IsVariant m v)
variant_or_not (number t z) v = inr (λ i. i)
variant_or_not (made t w ms) v = by_test (eqb w v) (λ e. inl (eqb-true w v e)) (λ e. inr (eqb-false w v e))

pub one-variant : (m : Message) (u v : ℕ) → IsVariant m u → IsVariant m v → u ≡ v
one-variant (number t z) u v i j = absurd i
one-variant (made t w ms) u v i j = sym i ∙ j

module _ (ts : Types) where
  -- a type with variants is no number type
  pub variant-type : (t v : ℕ) → v < length (variants_of ts t) → is_number ts t ≡ false
  variant-type t v h = ne_eqb (length (variants_of ts t)) 0 (λ e. omega arith)

  pub has_variant_lem : (m : Message) (t : ℕ) → Belongs ts m t → is_number ts t ≡ false → (v : ℕ) × (v < length (variants_of ts t)) × IsVariant m v
  has_variant_lem (number u z) t b n = absurd (false≢true (sym n ∙ b.1))
  has_variant_lem (made u w ms) t b n = (w, b.1, refl)

  pub variant-below : (m : Message) (t v : ℕ) → Belongs ts m t → IsVariant m v → v < length (variants_of ts t)
  variant-below (number u z) t v b i = absurd i
  variant-below (made u w ms) t v b i = subst (λ (x : ℕ). x < length (variants_of ts t)) i b.1

  -- a message of a variant is made by it, from messages of the field types
  pub made_by : (m : Message) (t v : ℕ) → Belongs ts m t → IsVariant m v → (ms : Parts) × (m ≡ made t v ms) × BelongAll ts ms (fields_of ts t v)
  made_by (number u z) t v b i = absurd i
  made_by (made u w ms) t v b i = (ms, ap (λ (x : ℕ). made x w ms) b.0 ∙ ap (λ (x : ℕ). made t x ms) i, subst (λ (x : ℕ). BelongAll ts ms (fields_of ts t x)) i b.2)

  pub made-fieldless : (m : Message) (t v : ℕ) → Belongs ts m t → IsVariant m v → fields_of ts t v ≡ [] → m ≡ made t v nil
  made-fieldless m t v b i e = let (ms, q, bs) = made_by m t v b i in q ∙ ap (made t v) (no-parts ts ms (subst (BelongAll ts ms) e bs))

  -- ---- field reads

  pub read_own : (t v p u : ℕ) (ms : Parts) → read_field ts t v p (made u v ms) ≡ part_at ms p no_message
  read_own t v p u ms = ap (λ (b : Bool). cond b (part_at ms p no_message) (absent_field ts t v p)) (eq-eqb v v refl)

  pub read-other : (t v p : ℕ) (m : Message) (w : ℕ) → IsVariant m w → ¬ (w ≡ v) → read_field ts t v p m ≡ absent_field ts t v p
  read-other t v p (number u z) w i n = absurd i
  read-other t v p (made u x ms) w i n = ap (λ (b : Bool). cond b (part_at ms p no_message) (absent_field ts t v p)) (ne_eqb v x (λ e. n (sym i ∙ sym e)))

  -- the reads of all fields of a message of the variant are its parts
  pub reads_all : (t v u : ℕ) (ms : Parts) (fs : Variant) → BelongAll ts ms fs → to_parts (map (λ p. read_field ts t v p (made u v ms)) (from (length fs) 0)) ≡ ms
  reads_all t v u ms fs b =
      ap to_parts (map_cong (λ p. read_field ts t v p (made u v ms)) (λ p. part_at ms p no_message) (from (length fs) 0) (λ p m. read_own t v p u ms)) ∙ parts_from ts ms fs b
