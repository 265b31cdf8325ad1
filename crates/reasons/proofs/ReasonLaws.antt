-- The reasons by the arrays of a guard's problem are those of document 01: empty labels, unequal lines, unlike constants. Assumes nothing.
use mathlib.Core.Path.{◌≡◌, refl, ap, ap₂, sym, ◌∙◌}
use mathlib.Core.Bool.{Bool, true, not, false≢true, ◌&&◌}
use mathlib.Core.List.{List, map, Memᴰ}
use Prim.Native.Nat.{ℕ, zero, suc, ◌-◌, ◌≤◌, ◌<◌, ◌^◌}
use native.Mathlib.Omega.{arith}
use native.Mathlib.Nat.{pow-suc}
use lib.Dec.{eqb, ltb}
use lib.IntN.{ℤ}
use lib.ListN.{length, get_or}
use lib.Pow.{pow_pos}
use borrow.Author.Tests.{eq-eqb, ne_eqb, eqb-true, eqb-false, ltb-true, ltb-false, not-true}
use Rattle.laws.specs.Lists.{any}
use Rattle.laws.proofs.Bools.{and_both, and_left, and_right, by_test}
use Rattle.laws.proofs.Lists.{all_get_d, all_of, any_of, any_some}
use Rattle.laws.proofs.Positions.{any_true_at}
use Rattle.guard.specs.Closure.{State, class_of, eq_z, label_of, same_class}
use Rattle.guard.specs.Guard.{Guard, Literal, Literal.equal, Literal.is, Literal.isnt, Literal.unequal}
use Rattle.guard.specs.Limits.{Limits, Supported, total_variant_limit}
use Rattle.guard.specs.Node.{broken, empty_label, unlike_constants}
use Rattle.guard.specs.Terms.{Const, Table, Term, table_of}
use Rattle.guard.specs.Types.{variants_of}
use Rattle.guard.specs.WellFormed.{WellFormed}
use Rattle.guard.proofs.ClosureBelow.{eq_z_true}
use Rattle.guard.proofs.LeastClosure.{eq_z_of}
use Rattle.guard.proofs.TableLaws.{const_inv, term-default, term-row}
use Rattle.tables.specs.Layout.{flat, literal_kind, literal_other, literal_table, literal_term, pad, row_table}
use Rattle.tables.proofs.Columns.{pad_get}
use Rattle.tables.proofs.Lookups.{map_at}
use Rattle.classes.specs.Held.{Held}
use Rattle.loops.specs.Lowest.{lowest}
use Rattle.loops.proofs.Loops.{found-same}
use Rattle.arrays.specs.Arrays.{constants_of, fieldless_of, full_of, sorts_of}
use Rattle.arrays.proofs.SlotLaws.{full_at, full_none}
use Rattle.arrays.specs.Slots.{sort_at}
use Rattle.arrays.proofs.GuardSlots.{sort_slots}
use Rattle.arrays.proofs.TableSlots.{SortSlots}
use Rattle.constants.specs.Constants.{constant_term, constant_value}
use Rattle.constants.proofs.ConstantSlots.{ConstantSlot, ConstantSlots, constant_slots}
use Rattle.reasons.specs.Reasons.{broken_at, constant_class, empty_at, unlike_at}
use Rattle.reasons.proofs.Constants.{unlike-is, unlike-yes}

-- ---- unequal lines

abbrev no_literal : Literal
no_literal = equal 0 0

module _ (ls : List Literal) where
  column-at : (f : Literal → ℕ) (j : ℕ) → j < length ls → get_or (pad 64 (map f ls)) j 0 ≡ f (get_or ls j no_literal)
  column-at f j h = pad_get 0 64 j (map f ls) ∙ map_at f ls j no_literal 0 h

  pub broken-at : (s : State) (j : ℕ) → j < length ls → broken_at (literal_table ls).kinds (literal_table ls).terms (literal_table ls).others s.classes j ≡ broken s (get_or ls j no_literal)
  unfolding broken_at literal_table
  broken-at s j h =
      ap₂ (λ (k : ℕ) (b : Bool). eqb k 1 && b) (column-at literal_kind j h) (ap₂ (λ (a b : ℕ). eqb (get_or s.classes a 0) (get_or s.classes b 0)) (column-at literal_term j h) (column-at literal_other j h))
      ∙ of (get_or ls j no_literal)
    where
      of : (l : Literal) → (eqb (literal_kind l) 1 && eqb (get_or s.classes (literal_term l) 0) (get_or s.classes (literal_other l) 0)) ≡ broken s l
      of (equal a b) = refl
      of (unequal a b) = refl
      of (is a v) = refl
      of (isnt a v) = refl

  mem_at : (j : ℕ) → j < length ls → Memᴰ (get_or ls j no_literal) ls
  mem_at j h = all_get_d (all_of ls (λ l m. m)) j no_literal h

  -- of a node's literals only the unequal ones count
  pub broken-same : (s : State) (node : List Literal) → ((i j : ℕ) → Memᴰ (unequal i j) node → Memᴰ (unequal i j) ls) → ((i j : ℕ) → Memᴰ (unequal i j) ls → Memᴰ (unequal i j) node)
      → ltb (lowest (broken_at (literal_table ls).kinds (literal_table ls).terms (literal_table ls).others s.classes) (length ls)) (length ls) ≡ any (broken s) node
  broken-same s node into back =
      found-same (broken s) node (broken_at (literal_table ls).kinds (literal_table ls).terms (literal_table ls).others s.classes) (length ls)
      (λ l m e. let (j, h, q) = any_true_at (broken s) ls no_literal (any_of (broken s) ls l (inside l m e) e) in (j, h, broken-at s j h ∙ q))
      (λ j h e. let q : broken s (get_or ls j no_literal) ≡ true = sym (broken-at s j h) ∙ e in (get_or ls j no_literal, outside (get_or ls j no_literal) (mem_at j h) q, q))
    where
      inside : (l : Literal) → Memᴰ l node → broken s l ≡ true → Memᴰ l ls
      inside (equal a b) m e = absurd (false≢true e)
      inside (unequal a b) m e = into a b m
      inside (is a v) m e = absurd (false≢true e)
      inside (isnt a v) m e = absurd (false≢true e)

      outside : (l : Literal) → Memᴰ l ls → broken s l ≡ true → Memᴰ l node
      outside (equal a b) m e = absurd (false≢true e)
      outside (unequal a b) m e = back a b m
      outside (is a v) m e = absurd (false≢true e)
      outside (isnt a v) m e = absurd (false≢true e)

module _ (limits : Limits) (supported : Supported limits) (g : Guard) (ok : WellFormed limits g) (total : length (flat g.types) ≤ total_variant_limit) where
  abbrev t : Table
  t = table_of g

  -- ---- empty labels

  sorts_have : SortSlots (table_of g) (sorts_of g) (fieldless_of g)
  sorts_have = sort_slots limits supported g ok total

  full_one : (n : ℕ) → ¬ (n ≡ 0) → ¬ (2 ^ n - 1 ≡ 0)
  full_one zero h e = h refl
  full_one (suc n) h e = omega (arith, e, pow-suc 2 n, pow_pos n)

  pub empty-same : (s : State) → ltb (lowest (empty_at (sorts_of g) (full_of g) s) 78) 78 ≡ any (empty_label (table_of g) s) (table_of g).terms
  unfolding empty_at table_of
  empty-same s = found-same (empty_label t s) t.terms (empty_at (sorts_of g) (full_of g) s) 78 there (λ k h e. back k h e (sort_at (sorts_of g) k) refl)
    where
      many : ℕ → ℕ
      many u = length (variants_of g.types u)

      there : (x : Term) → Memᴰ x (table_of g).terms → empty_label t s x ≡ true → (k : ℕ) × (k < 78) × (empty_at (sorts_of g) (full_of g) s k ≡ true)
      there x m e =
          let (h, q) = sorts_have.slot x m in
          let f : get_or (full_of g) (sort_at (sorts_of g) x.term) 0 ≡ 2 ^ many x.type - 1 = ap (λ (i : ℕ). get_or (full_of g) i 0) q ∙ full_at limits supported g ok total x.type in
          let n : ¬ (many x.type ≡ 0) = eqb-false _ _ (not-true _ (and_left (not (eqb (many x.type) 0)) (eqb (label_of s x.term) 0) e)) in
          (x.term, h, and_both _ _ (ap not (ne_eqb _ _ (λ z. full_one (many x.type) n (sym f ∙ z)))) (and_right (not (eqb (many x.type) 0)) (eqb (label_of s x.term) 0) e))

      back : (k : ℕ) → k < 78 → empty_at (sorts_of g) (full_of g) s k ≡ true → (n : ℕ) → sort_at (sorts_of g) k ≡ n → (x : Term) × Memᴰ x (table_of g).terms × (empty_label t s x ≡ true)
      back k h e zero q =
          absurd (eqb-false _ _ (not-true _ (and_left (not (eqb (get_or (full_of g) (sort_at (sorts_of g) k) 0) 0)) _ e)) (ap (λ (i : ℕ). get_or (full_of g) i 0) q ∙ full_none limits supported g ok total))
      back k h e (suc u) q =
          let n : ¬ (get_or (full_of g) (sort_at (sorts_of g) k) 0 ≡ 0) = eqb-false _ _ (not-true _ (and_left (not (eqb (get_or (full_of g) (sort_at (sorts_of g) k) 0) 0)) (eqb (label_of s k) 0) e)) in
          let f : get_or (full_of g) (sort_at (sorts_of g) k) 0 ≡ 2 ^ many u - 1 = ap (λ (i : ℕ). get_or (full_of g) i 0) q ∙ full_at limits supported g ok total u in (
            record { term = k; type = u },
            sorts_have.found k u h q,
            and_both _ _ (ap not (ne_eqb _ _ (λ z. n (f ∙ ap (λ (i : ℕ). 2 ^ i - 1) z)))) (and_right (not (eqb (get_or (full_of g) (sort_at (sorts_of g) k) 0) 0)) (eqb (label_of s k) 0) e),
          )

  -- ---- constants

  abbrev values : List ℤ
  values = (row_table g.types g.rows).values

  consts : ConstantSlots (table_of g) (constants_of g) values
  consts = constant_slots limits supported g ok total

  -- a constant of the table stands in its slot
  stands : (k : ℕ) (c : Const) → ConstantSlot (constants_of g) values k c → ¬ (get_or (constants_of g) k 0 ≡ 0)
  stands k c p z = omega (arith, z, p.type)

  const-term : (c : Const) → Memᴰ c (table_of g).consts → (x : Term) × Memᴰ x (table_of g).terms × (x.term ≡ c.term)
  const-term =
      const_inv g (λ c. (x : Term) × Memᴰ x (table_of g).terms × (x.term ≡ c.term)) (λ i u z h e. (_, term-row g i h, refl))
      (λ u w z h e. (_, term-default g u h, refl))

  pub unlike-same : (s : State) → Held s.classes → ltb (lowest (unlike_at (constants_of g) (row_table g.types g.rows).values s.classes 30) 96) 96 ≡ any (unlike_constants (table_of g) s) (table_of g).terms
  unlike-same s held = found-same (unlike_constants t s) t.terms (unlike_at (constants_of g) values s.classes 30) 96 there back
    where
      -- two constants of the table
      differ : Term → Const → Const → Bool
      differ x a b = same_class s x.term a.term && (same_class s x.term b.term && not (eq_z a.value b.value))

      Pair : Type 0
      Pair = (c : ℕ) × (c < 96) × (unlike_at (constants_of g) values s.classes 30 c ≡ true)

      pair : (a b : Const) (j k : ℕ) → k < 30 → j < k → ConstantSlot (constants_of g) values j a → ConstantSlot (constants_of g) values k b → class_of s a.term ≡ class_of s b.term → ¬ (a.value ≡ b.value) → Pair
      pair a b j k h l p q e n = (
        constant_class s.classes k,
        held.there (constant_term k),
        unlike-yes (constants_of g) values s.classes 30 k j h l (record {
          here = stands k b q;
          before = stands j a p;
          class = ap (class_of s) p.term ∙ e ∙ sym (ap (class_of s) q.term);
          value = λ z. n (sym p.value ∙ z ∙ q.value);
        }),
      )

      there : (x : Term) → Memᴰ x (table_of g).terms → unlike_constants t s x ≡ true → Pair
      there x m e =
          let (a, ma, p) = any_some (λ a. any (differ x a) t.consts) t.consts e in
          let (b, mb, q) = any_some (differ x a) t.consts p in
          let (j, hj, sj) = consts.slot a ma in
          let (k, hk, sk) = consts.slot b mb in
          let r : (same_class s x.term b.term && not (eq_z a.value b.value)) ≡ true = and_right (same_class s x.term a.term) _ q in
          let one : class_of s a.term ≡ class_of s b.term = sym (eqb-true (class_of s x.term) (class_of s a.term) (and_left (same_class s x.term a.term) _ q)) ∙ eqb-true (class_of s x.term) (class_of s b.term) (and_left (same_class s x.term b.term) _ r) in
          let other : ¬ (a.value ≡ b.value) = λ z. false≢true (sym (not-true (eq_z a.value b.value) (and_right (same_class s x.term b.term) _ r)) ∙ eq_z_of a.value b.value z) in
          by_test (ltb j k) (λ c. pair a b j k hk (ltb-true _ _ c) sj sk one other)
          (λ c. by_test (ltb k j) (λ d. pair b a k j hj (ltb-true _ _ d) sk sj (sym one) (λ z. other (sym z)))
          (λ d. let z : j ≡ k = omega (arith, ltb-false j k c, ltb-false k j d) in absurd (other (sym sj.value ∙ ap (constant_value values) z ∙ sk.value))))

      back : (c : ℕ) → c < 96 → unlike_at (constants_of g) values s.classes 30 c ≡ true → (x : Term) × Memᴰ x (table_of g).terms × (unlike_constants t s x ≡ true)
      back c h e =
          let (k, j, hk, hj, u) = unlike-is (constants_of g) values s.classes 30 c e in
          let (a, ma, p) = consts.found j (omega arith) u.before in
          let (b, mb, q) = consts.found k hk u.here in
          let (x, m, z) = const-term a ma in
          let one : class_of s a.term ≡ class_of s b.term = sym (ap (class_of s) p.term) ∙ u.class ∙ ap (class_of s) q.term in
          let other : ¬ (a.value ≡ b.value) = λ y. u.value (p.value ∙ y ∙ sym q.value) in (
            x,
            m,
            any_of (λ a. any (differ x a) t.consts) t.consts a ma (any_of (differ x a) t.consts b mb
                (and_both _ _ (eq-eqb (class_of s x.term) (class_of s a.term) (ap (class_of s) z)) (and_both _ _ (eq-eqb (class_of s x.term) (class_of s b.term) (ap (class_of s) z ∙ one)) (by_test (eq_z a.value b.value) (λ y. absurd (other (eq_z_true _ _ y))) (λ y. ap not y))))),
          )
