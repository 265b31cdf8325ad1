-- The split by the arrays of a guard's problem is the split of document 01. Assumes nothing.
use mathlib.Core.Path.{◌≡◌, refl, ap, ap₂, sym, ◌∙◌}
use mathlib.Core.Logic.{◌⊎◌, inl, inr}
use mathlib.Core.Bool.{Bool, true, false, not, cond, ◌&&◌, false≢true}
use mathlib.Core.List.{List, [], ◌∷◌, Memᴰ}
use mathlib.Core.Option.{Option, none, some}
use Prim.Native.Nat.{ℕ, zero, suc, ◌+◌, ◌-◌, ◌≤◌, ◌<◌, ◌^◌}
use native.Mathlib.Omega.{arith}
use lib.Bits.{bit_and, and_le_l, and_zero_r}
use lib.Dec.{eqb, leb, ltb}
use lib.ListN.{length, get_or}
use borrow.Author.Tests.{eq-eqb, ne_eqb, eqb-true, eqb-false, leb-true, le-ltb, lt-ltb, ltb-true, ltb-false, not-true}
use Rattle.laws.specs.Bits.{bit}
use Rattle.laws.specs.Lists.{all, any, cons_if, filter, find, from, member}
use Rattle.laws.proofs.Bits.{bit_and_lem, sub_le}
use Rattle.laws.proofs.Bools.{and_left, and_right, by_test}
use Rattle.laws.proofs.Lists.{all_true, all_true_inv, any_of, any_some, filter-is, filter_mem, find_none, mem_from}
use Rattle.laws.proofs.Members.{member_of, of_member}
use Rattle.guard.specs.Closure.{State, class_of, label_of, lacks}
use Rattle.guard.specs.Guard.{Guard}
use Rattle.guard.specs.Limits.{Limits, Supported, total_variant_limit, variant_limit}
use Rattle.guard.specs.Node.{Kind, Split, first_kind, kind_of, on_read, on_term, second_kind, split_of, variants_left}
use Rattle.guard.specs.Terms.{Read, Table, Term, fieldless, table_of}
use Rattle.guard.specs.Types.{variants_of}
use Rattle.guard.specs.WellFormed.{WellFormed}
use Rattle.guard.proofs.ClosureState.{Small}
use Rattle.tables.specs.Layout.{flat}
use Rattle.labels.specs.Label.{variants_in}
use Rattle.labels.proofs.LabelLaws.{lacks_test, shifted_one}
use Rattle.loops.specs.Lowest.{lowest}
use Rattle.loops.proofs.Loops.{both}
use Rattle.arrays.specs.Arrays.{fieldless_of, mask_of, reads_of, sorts_of}
use Rattle.arrays.specs.Slots.{fieldless_at, read_bit, read_key, read_term, sort_at}
use Rattle.arrays.proofs.GuardSlots.{read_slots, sort_slots}
use Rattle.arrays.proofs.MaskLaws.{bit-fieldless, fieldless-bit}
use Rattle.slots.proofs.OnlyOne.{one_left}
use Rattle.arrays.proofs.TableSlots.{ReadSlot, ReadSlots, SortSlots}
use Rattle.splits.specs.Choice.{first_by, lowest_in, on_read_at, on_term_at, read_splits, split_at, split_by, term_splits}
use Rattle.splits.proofs.InOrder.{find-lowest}
use Rattle.splits.proofs.Tests.{no-variants}
use Rattle.splits.proofs.TermOrder.{number_of, reads_rise, row_of, terms_rise}

-- ---- first kind

power_test : (m v : ℕ) → v < 16 → eqb (bit_and m (2 ^ v)) 0 ≡ eqb (bit m v) 0
power_test m v h = ap (λ (x : ℕ). eqb (bit_and m x) 0) (sym (shifted_one v h)) ∙ lacks_test m v h

module _ (array : List ℕ) (s : State) (k : ℕ) (r : Read) (slot : ReadSlot array k r) where
  read_same : read_splits array s k ≡ first_kind s r
  unfolding read_splits
  read_same =
      let there : not (eqb (read_key array k) 0) ≡ true = ap not (ne_eqb (read_key array k) 0 (λ z. omega (arith, z, slot.key))) in
      ap (λ (b : Bool). b && rest (read_term array k) (read_bit array k)) there ∙ ap₂ rest slot.term slot.bit
      ∙ ap (λ (b : Bool). not b && not (eqb (label_of s r.term) (2 ^ r.variant))) (power_test (label_of s r.term) r.variant slot.variant_fits)
    where
      rest : ℕ → ℕ → Bool
      rest x m = not (eqb (bit_and (label_of s x) m) 0) && not (eqb (label_of s x) m)

  on-read-same : on_read_at array k ≡ on_read r
  on-read-same = ap₂ (λ (x v : ℕ). record { term = x; variant = v }) slot.term (ap lowest_in slot.bit ∙ (one_left r.variant slot.variant_fits).1)

-- ---- second kind

-- where a test passes at none of the last numbers, they may be left out
filter-front : (p : ℕ → Bool) (n m a : ℕ) → ((v : ℕ) → a + n ≤ v → p v ≡ false) → filter p (from (n + m) a) ≡ filter p (from n a)
filter-front p zero m a h = ap (λ (k : ℕ). filter p (from k a)) e ∙ none m a (λ v l. h v (omega arith))
  where
    e : 0 + m ≡ m
    e = omega arith

    none : (m a : ℕ) → ((v : ℕ) → a ≤ v → p v ≡ false) → filter p (from m a) ≡ []
    none zero a h = refl
    none (suc m) a h = ap (λ (b : Bool). cons_if b a (filter p (from m (suc a)))) (h a (omega arith)) ∙ none m (suc a) (λ v l. h v (omega arith))
filter-front p (suc n) m a h =
    let e : suc n + m ≡ suc (n + m) = omega arith in
    ap (λ (k : ℕ). filter p (from k a)) e ∙ ap (cons_if (p a) a) (filter-front p n m (suc a) (λ v l. h v (omega arith)))

-- the label of a term, its variants and the mask of the fieldless ones
module _ (t : Table) (s : State) (small : Small s) (x : Term) (few : length (variants_of t.types x.type) ≤ variant_limit)
    (within : (v : ℕ) → length (variants_of t.types x.type) ≤ v → bit (label_of s x.term) v ≡ 0) where
  abbrev label : ℕ
  label = label_of s x.term

  abbrev many : ℕ
  many = length (variants_of t.types x.type)

  abbrev mask : ℕ
  mask = mask_of (fieldless 0 (variants_of t.types x.type))

  variants-same : variants_in label ≡ variants_left t s x
  unfolding variants_in
  variants-same =
      let e : variant_limit ≡ many + (variant_limit - many) = omega arith in
      let p : ℕ → Bool = λ v. not (eqb (bit label v) 0) in
      ap (λ (k : ℕ). filter p (from k 0)) e ∙ filter-front p many (variant_limit - many) 0 (λ v h. ap not (eq-eqb _ _ (within v (omega arith))))

  in_mask : (v : ℕ) → Memᴰ v (variants_left t s x) → bit_and label mask ≡ label → member v (fieldless 0 (variants_of t.types x.type)) ≡ true
  in_mask v m e =
      let (k, b) = filter-is (λ v. not (lacks s x.term v)) (from many 0) v m in
      let held : ¬ (bit label v ≡ 0) = eqb-false _ _ (not-true _ b) in
      member_of v _ (bit-fieldless (variants_of t.types x.type) v (λ z. held (omega (arith, bit_and_lem label mask v, z, ap (λ (n : ℕ). bit n v) e))))

  all_in : all (λ v. member v (fieldless 0 (variants_of t.types x.type))) (variants_left t s x) ≡ true → bit_and label mask ≡ label
  unfolding Small
  all_in e = omega (arith, and_le_l label mask, sub_le variant_limit (bit_and label mask) label (small (class_of s x.term)) (λ v h z. gone v z (eqb (bit label v) 0) refl))
    where
      fieldless_ones : List ℕ
      fieldless_ones = fieldless 0 (variants_of t.types x.type)

      -- a variant that is left is fieldless
      held : (v : ℕ) → v < many → eqb (bit label v) 0 ≡ false → bit mask v ≡ 1
      held v h b =
          fieldless-bit (variants_of t.types x.type) v (of_member v fieldless_ones (all_true_inv (λ v. member v fieldless_ones) (variants_left t s x) e v
          (filter_mem (λ v. not (lacks s x.term v)) (from many 0) v (mem_from many 0 v (omega arith) (omega arith)) (ap not b))))

      gone : (v : ℕ) → bit (bit_and label mask) v ≡ 0 → (b : Bool) → eqb (bit label v) 0 ≡ b → bit label v ≡ 0
      gone v z true q = eqb-true _ _ q
      gone v z false q =
          by_test (ltb v many) (λ c. absurd (eqb-false (bit label v) 0 q (omega (arith, bit_and_lem label mask v, z, held v (ltb-true v many c) q)))) (λ c. within v (ltb-false v many c))

  module _ (sorts masks : List ℕ) (is_mask : fieldless_at sorts masks x.term ≡ mask) where
    term-same : term_splits sorts masks s x.term ≡ second_kind t s x
    unfolding term_splits
    term-same =
        ap₂ (λ (a b : Bool). a && b) (ap (λ (vs : List ℕ). leb 2 (length vs)) variants-same)
        (ap (λ (m : ℕ). eqb (bit_and label m) label) is_mask
        ∙ both _ _ (λ e. all_true _ (variants_left t s x) (λ v m. in_mask v m (eqb-true _ _ e))) (λ e. eq-eqb _ _ (all_in e)))

  on-term-same : second_kind t s x ≡ true → on_term_at s x.term ≡ on_term t s x
  on-term-same e = ap (λ (v : ℕ). record { term = x.term; variant = v }) (ap (λ (vs : List ℕ). get_or vs 0 16) variants-same ∙ first (variants_left t s x) (leb-true 2 (length (variants_left t s x)) (and_left _ _ e)))
    where
      first : (vs : List ℕ) → 2 ≤ length vs → get_or vs 0 16 ≡ get_or vs 0 0
      first [] h = absurd (omega arith)
      first (v ∷ vs) h = refl

-- a slot without a term splits nothing
no-term : (sorts masks : List ℕ) (s : State) (k : ℕ) → sort_at sorts k ≡ 0 → get_or masks 0 0 ≡ 0 → term_splits sorts masks s k ≡ true → ⊥
unfolding term_splits
no-term sorts masks s k e z q =
    let m : fieldless_at sorts masks k ≡ 0 = ap (λ (i : ℕ). get_or masks i 0) e ∙ z in
    let l : label_of s k ≡ 0 = sym (eqb-true _ _ (and_right (leb 2 (length (variants_in (label_of s k)))) _ q)) ∙ ap (bit_and (label_of s k)) m ∙ and_zero_r (label_of s k) in
    let none : length (variants_in (label_of s k)) ≡ 0 = ap (λ (n : ℕ). length (variants_in n)) l ∙ no-variants in
    omega (arith, leb-true 2 (length (variants_in (label_of s k))) (and_left (leb 2 (length (variants_in (label_of s k)))) _ q), none)

-- the split, from what is found among the reads and among the terms
chosen : Table → State → Option Read → Option Term → Option Split
chosen t s (some r) o = some (on_read r)
chosen t s none (some x) = some (on_term t s x)
chosen t s none none = none

split-chosen : (t : Table) (s : State) → split_of t s ≡ chosen t s (find (first_kind s) t.reads) (find (second_kind t s) t.terms)
unfolding split_of chosen
split-chosen t s = go (find (first_kind s) t.reads) (find (second_kind t s) t.terms)
  where
    go : (o : Option Read) (p : Option Term)
        → ◌≡◌ {A = Option Split} (elim o [ some r ↦ some (on_read r) | none ↦ elim p [ some x ↦ some (on_term t s x) | none ↦ none ] ]) (chosen t s o p)
    go (some r) p = refl
    go none (some x) = refl
    go none none = refl

module _ (limits : Limits) (supported : Supported limits) (g : Guard) (ok : WellFormed limits g) (total : length (flat g.types) ≤ total_variant_limit) (s : State) (small : Small s)
    (within : (x : Term) → Memᴰ x (table_of g).terms → (v : ℕ) → length (variants_of (table_of g).types x.type) ≤ v → bit (label_of s x.term) v ≡ 0) where
  abbrev t : Table
  t = table_of g

  reads_have : ReadSlots (table_of g) (reads_of g)
  reads_have = read_slots limits supported g ok total

  sorts_have : SortSlots (table_of g) (sorts_of g) (fieldless_of g)
  sorts_have = sort_slots limits supported g ok total

  abbrev first_test : ℕ → Bool
  first_test = read_splits (reads_of g) s

  abbrev second_test : ℕ → Bool
  second_test = term_splits (sorts_of g) (fieldless_of g) s

  read_found : (k : ℕ) → k < 24 → read_splits (reads_of g) s k ≡ true → (r : Read) × Memᴰ r (table_of g).reads × (r.row ≡ k)
  unfolding read_splits
  read_found k h e =
      let (r, m, slot) = reads_have.found k h (eqb-false _ _ (not-true _ (and_left (not (eqb (read_key (reads_of g) k) 0)) _ e))) in
      (r, m, sym slot.row)

  term_found : (k : ℕ) → k < 78 → second_test k ≡ true → (x : Term) × Memᴰ x (table_of g).terms × (x.term ≡ k)
  term_found k h e = go (sort_at (sorts_of g) k) refl
    where
      go : (n : ℕ) → sort_at (sorts_of g) k ≡ n → (x : Term) × Memᴰ x (table_of g).terms × (x.term ≡ k)
      go zero q = absurd (no-term (sorts_of g) (fieldless_of g) s k q sorts_have.no_mask e)
      go (suc u) q = (record { term = k; type = u }, sorts_have.found k u h q, refl)

  term_slot : (x : Term) → Memᴰ x (table_of g).terms → (x.term < 78) × (second_test x.term ≡ second_kind t s x)
  term_slot x m =
      let (h, e) = sorts_have.slot x m in
      (h, term-same t s small x (sorts_have.few_variants x.type) (within x m) (sorts_of g) (fieldless_of g) (ap (λ (i : ℕ). get_or (fieldless_of g) i 0) e ∙ sorts_have.mask x.type))

  by_read : (r : Read) → Memᴰ r (table_of g).reads → r.row ≡ lowest first_test 24 → on_read_at (reads_of g) (lowest first_test 24) ≡ on_read r
  by_read r m e = ap (on_read_at (reads_of g)) (sym e) ∙ on-read-same (reads_of g) s r.row r (reads_have.slot r m).1

  by-term : (x : Term) → Memᴰ x (table_of g).terms → x.term ≡ lowest second_test 78 → second_kind t s x ≡ true → on_term_at s (lowest second_test 78) ≡ on_term t s x
  by-term x m e q = ap (on_term_at s) (sym e) ∙ on-term-same t s small x (sorts_have.few_variants x.type) (within x m) q

  found-read
      : ((r : Read) × Memᴰ r (table_of g).reads × (r.row ≡ lowest first_test 24) × (lowest first_test 24 < 24) × (first_kind s r ≡ true) × (find (first_kind s) (table_of g).reads ≡ some r))
      ⊎ ((24 ≤ lowest first_test 24) × (find (first_kind s) (table_of g).reads ≡ none))
  found-read =
      find-lowest row_of (first_kind s) first_test 24 (table_of g).reads (reads_rise limits supported g ok)
      (λ r m. let (h, slot) = reads_have.slot r m in (h, read_same (reads_of g) s r.row r slot)) read_found

  pub first-same : cond (first_by (reads_of g) s) Kind.first Kind.second ≡ kind_of (table_of g) s
  unfolding first_by kind_of
  first-same = ap (λ (b : Bool). cond b Kind.first Kind.second) (go found-read)
    where
      go : ((r : Read) × Memᴰ r (table_of g).reads × (r.row ≡ lowest first_test 24) × (lowest first_test 24 < 24) × (first_kind s r ≡ true) × (find (first_kind s) (table_of g).reads ≡ some r))
          ⊎ ((24 ≤ lowest first_test 24) × (find (first_kind s) (table_of g).reads ≡ none)) → ltb (lowest first_test 24) 24 ≡ any (first_kind s) (table_of g).reads
      go (inl (r, m, e, h, q, f)) = lt-ltb _ 24 h ∙ sym (any_of (first_kind s) (table_of g).reads r m q)
      go (inr (h, f)) =
          le-ltb _ 24 h
          ∙ sym (by_test (any (first_kind s) (table_of g).reads) (λ e. let (r, m, q) = any_some (first_kind s) (table_of g).reads e in absurd (false≢true (sym (find_none (first_kind s) (table_of g).reads f r m) ∙ q))) (λ e. e))

  pub split-same : split_by (reads_of g) (sorts_of g) (fieldless_of g) s ≡ split_of (table_of g) s
  unfolding split_by chosen
  split-same =
      go found-read
      (find-lowest number_of (second_kind t s) second_test 78 (table_of g).terms (terms_rise limits supported g ok) term_slot term_found)
      ∙ sym (split-chosen (table_of g) s)
    where
      k : ℕ
      k = lowest (read_splits (reads_of g) s) 24

      x : ℕ
      x = lowest (term_splits (sorts_of g) (fieldless_of g) s) 78

      reads : List Read
      reads = (table_of g).reads

      terms : List Term
      terms = (table_of g).terms

      go : ((r : Read) × Memᴰ r reads × (r.row ≡ k) × (k < 24) × (first_kind s r ≡ true) × (find (first_kind s) reads ≡ some r)) ⊎ ((24 ≤ k) × (find (first_kind s) reads ≡ none))
          → ((y : Term) × Memᴰ y terms × (y.term ≡ x) × (x < 78) × (second_kind t s y ≡ true) × (find (second_kind t s) terms ≡ some y)) ⊎ ((78 ≤ x) × (find (second_kind t s) terms ≡ none))
          → split_at (reads_of g) s k x ≡ chosen t s (find (first_kind s) reads) (find (second_kind t s) terms)
      go (inl (r, m, e, h, q, f)) w =
          ap (λ (b : Bool). cond b (some (on_read_at (reads_of g) k)) (cond (ltb x 78) (some (on_term_at s x)) none)) (lt-ltb k 24 h) ∙ ap some (by_read r m e)
          ∙ sym (ap (λ (o : Option Read). chosen t s o (find (second_kind t s) terms)) f)
      go (inr (h, f)) (inl (y, m, e, l, q, f2)) =
          ap (λ (b : Bool). cond b (some (on_read_at (reads_of g) k)) (cond (ltb x 78) (some (on_term_at s x)) none)) (le-ltb k 24 h)
          ∙ ap (λ (b : Bool). cond b (some (on_term_at s x)) none) (lt-ltb x 78 l) ∙ ap some (by-term y m e q) ∙ sym (ap₂ (chosen t s) f f2)
      go (inr (h, f)) (inr (l, f2)) =
          ap (λ (b : Bool). cond b (some (on_read_at (reads_of g) k)) (cond (ltb x 78) (some (on_term_at s x)) none)) (le-ltb k 24 h)
          ∙ ap (λ (b : Bool). cond b (some (on_term_at s x)) none) (le-ltb x 78 l) ∙ sym (ap₂ (chosen t s) f f2)
