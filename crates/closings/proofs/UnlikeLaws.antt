-- Unlike constants: the lowest class that holds two is the lowest term whose class does, since a class is named by its lowest member
-- and its name is a term of the table. Assumes nothing.
use mathlib.Core.Path.{◌≡◌, ap, sym, ◌∙◌, subst}
use mathlib.Core.Bool.{Bool, true, not, false≢true, ◌&&◌}
use mathlib.Core.List.{List, Memᴰ}
use Prim.Native.Nat.{ℕ, ◌≤◌, ◌<◌}
use native.Mathlib.Omega.{arith}
use lib.Dec.{eqb, ltb}
use lib.IntN.{ℤ}
use lib.ListN.{length}
use borrow.Author.Tests.{eq-eqb, eqb-true, ltb-false, ltb-true, not-true}
use Rattle.laws.specs.Lists.{any, from}
use Rattle.laws.proofs.Bools.{and_both, and_left, and_right, by_test}
use Rattle.laws.proofs.Lists.{any_of, any_some, from_bounds}
use Rattle.laws.proofs.Positions.{least, least_first, least_passes}
use Rattle.guard.specs.Closure.{State, class_of, closure_of, eq_z, same_class}
use Rattle.guard.specs.Guard.{Guard, Literal}
use Rattle.guard.specs.Limits.{Limits, Supported, total_variant_limit}
use Rattle.guard.specs.Node.{unlike_constants}
use Rattle.guard.specs.Terms.{Const, Table, Term, table_of, term_count}
use Rattle.guard.specs.WellFormed.{WellFormed}
use Rattle.guard.proofs.Agreement.{Agrees, named_closure}
use Rattle.guard.proofs.ClosureBelow.{eq_z_true}
use Rattle.guard.proofs.LeastClosure.{eq_z_of}
use Rattle.guard.proofs.TableLaws.{table_in_range}
use Rattle.models.proofs.Nodes.{NodeOf}
use Rattle.models.proofs.TypedTable.{table-typed}
use Rattle.tables.specs.Layout.{flat, row_table}
use Rattle.loops.specs.Lowest.{lowest}
use Rattle.loops.proofs.Loops.{NoneBelow, lowest-here, lowest_nowhere}
use Rattle.arrays.specs.Arrays.{constants_of}
use Rattle.arrays.proofs.DueLaws.{nonzero_is}
use Rattle.constants.specs.Constants.{constant_term, constant_value, is_constant}
use Rattle.constants.proofs.ConstantSlots.{ConstantSlot, ConstantSlots, constant_slots}
use Rattle.reasons.specs.Reasons.{constant_class, unlike, unlike_at, unlike_before}
use Rattle.reasons.proofs.Constants.{unlike-yes}
use Rattle.refutations.specs.Record.{Entry, claim}
use Rattle.refutations.proofs.ClaimLaws.{of_term, term_of_lem}
use Rattle.closings.proofs.TermClasses.{class_term}

module _ (limits : Limits) (sup : Supported limits) (g : Guard) (ok : WellFormed limits g) (total : length (flat g.types) ≤ total_variant_limit) (ls : List Literal) (nd : NodeOf g ls)
    (s : State) (agree : Agrees s (closure_of (table_of g) ls)) where
  abbrev t : Table
  t = table_of g

  abbrev values : List ℤ
  values = (row_table g.types g.rows).values

  consts : ConstantSlots (table_of g) (constants_of g) values
  consts = constant_slots limits sup g ok total

  -- two constants of class c that differ
  record Pair (c : ℕ) : Type 0 where
    one : Const
    other : Const
    is_one : Memᴰ one (table_of g).consts
    is_other : Memᴰ other (table_of g).consts
    class_one : class_of s one.term ≡ c
    class_other : class_of s other.term ≡ c
    differ : ¬ (one.value ≡ other.value)

  apart : (y z : ℤ) → not (eq_z y z) ≡ true → ¬ (y ≡ z)
  apart y z e q = false≢true (sym (not-true (eq_z y z) e) ∙ eq_z_of y z q)

  -- ---- the class of a term

  test : Term → Const → Const → Bool
  test x a b = same_class s x.term a.term && (same_class s x.term b.term && not (eq_z a.value b.value))

  term-pair : (x : Term) → unlike_constants t s x ≡ true → Pair (class_of s x.term)
  unfolding test
  term-pair x e =
      let (a, ma, p) = any_some (λ a. any (test x a) t.consts) t.consts e in
      let (b, mb, q) = any_some (test x a) t.consts p in
      let r : (same_class s x.term b.term && not (eq_z a.value b.value)) ≡ true = and_right (same_class s x.term a.term) _ q in
      record {
        one = a;
        other = b;
        is_one = ma;
        is_other = mb;
        class_one = sym (eqb-true (class_of s x.term) (class_of s a.term) (and_left (same_class s x.term a.term) _ q));
        class_other = sym (eqb-true (class_of s x.term) (class_of s b.term) (and_left (same_class s x.term b.term) _ r));
        differ = apart a.value b.value (and_right (same_class s x.term b.term) _ r);
      }

  pair-term : (x : Term) → Pair (class_of s x.term) → unlike_constants t s x ≡ true
  unfolding test
  pair-term x p =
      any_of (λ a. any (test x a) t.consts) t.consts p.one p.is_one (any_of (test x p.one) t.consts p.other p.is_other
      (and_both _ _ (eq-eqb (class_of s x.term) (class_of s p.one.term) (sym p.class_one)) (and_both _ _ (eq-eqb (class_of s x.term) (class_of s p.other.term) (sym p.class_other))
      (by_test (eq_z p.one.value p.other.value) (λ y. absurd (p.differ (eq_z_true _ _ y))) (λ y. ap not y)))))

  -- ---- the class, by its name

  slots_pair : (c k j : ℕ) → k < 30 → j < 30 → is_constant (constants_of g) k ≡ true → unlike (constants_of g) values s.classes k j ≡ true → class_of s (constant_term k) ≡ c → Pair c
  unfolding unlike
  slots_pair c k j hk hj r p z =
      let rest : (eqb (constant_class s.classes j) (constant_class s.classes k) && not (eq_z (constant_value values j) (constant_value values k))) ≡ true = and_right (is_constant (constants_of g) j) _ p in
      let same : class_of s (constant_term j) ≡ class_of s (constant_term k) = eqb-true _ _ (and_left (eqb (constant_class s.classes j) (constant_class s.classes k)) _ rest) in
      let (a, ma, sa) = consts.found j hj (nonzero_is _ (and_left (is_constant (constants_of g) j) _ p)) in
      let (b, mb, sb) = consts.found k hk (nonzero_is _ r) in
      record {
        one = a;
        other = b;
        is_one = ma;
        is_other = mb;
        class_one = sym (ap (class_of s) sa.term) ∙ same ∙ z;
        class_other = sym (ap (class_of s) sb.term) ∙ z;
        differ = λ y. apart (constant_value values j) (constant_value values k) (and_right (eqb (constant_class s.classes j) (constant_class s.classes k)) _ rest) (sa.value ∙ y ∙ sym sb.value);
      }

  class_pair : (c : ℕ) → unlike_at (constants_of g) values s.classes 30 c ≡ true → Pair c
  unfolding unlike_at unlike_before
  class_pair c e =
      let (k, m, q) = any_some (λ i. unlike_before (constants_of g) values s.classes i && eqb (constant_class s.classes i) c) (from 30 0) e in
      let r : unlike_before (constants_of g) values s.classes k ≡ true = and_left (unlike_before (constants_of g) values s.classes k) _ q in
      let (j, i, p) = any_some (unlike (constants_of g) values s.classes k) (from k 0) (and_right (is_constant (constants_of g) k) _ r) in
      slots_pair c k j (omega (arith, (from_bounds 30 0 k m).1)) (omega (arith, (from_bounds 30 0 k m).1, (from_bounds k 0 j i).1)) (and_left (is_constant (constants_of g) k) _ r) p
      (eqb-true _ _ (and_right (unlike_before (constants_of g) values s.classes k) _ q))

  pair_class : (c : ℕ) → Pair c → unlike_at (constants_of g) values s.classes 30 c ≡ true
  pair_class c p =
      let (j, hj, sj) = consts.slot p.one p.is_one in
      let (k, hk, sk) = consts.slot p.other p.is_other in
      by_test (ltb j k) (λ l. at p.one p.other j k hk (ltb-true _ _ l) sj sk p.class_one p.class_other p.differ)
      (λ l. by_test (ltb k j) (λ m. at p.other p.one k j hj (ltb-true _ _ m) sk sj p.class_other p.class_one (λ z. p.differ (sym z)))
      (λ m. let z : j ≡ k = omega (arith, ltb-false j k l, ltb-false k j m) in absurd (p.differ (sym sj.value ∙ ap (constant_value values) z ∙ sk.value))))
    where
      at : (a b : Const) (j k : ℕ) → k < 30 → j < k → ConstantSlot (constants_of g) values j a → ConstantSlot (constants_of g) values k b → class_of s a.term ≡ c → class_of s b.term ≡ c → ¬ (a.value ≡ b.value)
          → unlike_at (constants_of g) values s.classes 30 c ≡ true
      at a b j k h l sj sk ca cb n =
          let own : class_of s (constant_term k) ≡ c = ap (class_of s) sk.term ∙ cb in
          subst (λ (d : ℕ). unlike_at (constants_of g) values s.classes 30 d ≡ true) own
          (unlike-yes (constants_of g) values s.classes 30 k j h l (record {
            here = λ z. omega (arith, z, sk.type);
            before = λ z. omega (arith, z, sj.type);
            class = ap (class_of s) sj.term ∙ ca ∙ sym own;
            value = λ z. n (sym sj.value ∙ z ∙ sk.value);
          }))

  -- ---- the lowest

  abbrev here : ℕ → Bool
  here i = claim t g.literals s (Entry.unlike i)

  abbrev class : ℕ → Bool
  class = unlike_at (constants_of g) values s.classes 30

  low : (i : ℕ) → i < term_count → class_of s i ≤ i
  low i h = omega (arith, agree.class i h, (named_closure t ls).low i)

  -- a term whose class has unlike constants
  here_class : (i : ℕ) → i < term_count → here i ≡ true → class (class_of s i) ≡ true
  here_class i h e = let (x, m, q, p) = term_of_lem t (unlike_constants t s) i e in pair_class (class_of s i) (subst (λ (k : ℕ). Pair (class_of s k)) q (term-pair x p))

  -- such a class is named by a term
  class_here : (c : ℕ) → class c ≡ true → (c < term_count) × (here c ≡ true)
  class_here c e =
      let p = class_pair c e in
      let (y, m, q) = class_term limits sup g ok ls nd _ ((table-typed limits sup g ok).const_terms p.one p.is_one) in
      let inside = (table_in_range limits sup g ok).consts p.one p.is_one in
      let name : y.term ≡ c = q ∙ sym (agree.class p.one.term inside) ∙ p.class_one in
      let there : c < term_count = omega (arith, name, ((table_in_range limits sup g ok).terms y m).0) in
      let own : class_of s y.term ≡ c = ap (class_of s) name ∙ agree.class c there ∙ ap (class_of (closure_of t ls)) (sym name ∙ q) ∙ (named_closure t ls).own p.one.term ∙ sym q ∙ name in
      (there, subst (λ (k : ℕ). here k ≡ true) name (of_term t (unlike_constants t s) y m (pair-term y (subst Pair (sym own) p))))

  -- no term below some number, as long as no class below it
  none_here : (n : ℕ) → n ≤ term_count → n ≤ lowest class 96 → NoneBelow here n
  unfolding lowest
  none_here n k l j h =
      by_test (here j) (λ e. absurd (false≢true (sym (least_first class 96 (class_of s j) (omega (arith, low j (omega arith), h, l))) ∙ here_class j (omega arith) e))) (λ e. e)

  pub unlike-found : (c : ℕ) → c ≡ lowest (unlike_at (constants_of g) (row_table g.types g.rows).values s.classes 30) 96 → c < 96
      → (c < term_count) × (least (λ i. claim (table_of g) g.literals s (Entry.unlike i)) term_count ≡ c)
  unfolding lowest
  unlike-found c e h =
      let (there, p) = class_here c (subst (λ (k : ℕ). class k ≡ true) (sym e) (least_passes class 96 (omega (arith, e, h)))) in
      (there, sym (lowest-here here term_count c there (none_here c (omega (arith, there)) (omega (arith, e))) p))

  pub unlike_nowhere : lowest (unlike_at (constants_of g) (row_table g.types g.rows).values s.classes 30) 96 ≡ 96
      → least (λ i. claim (table_of g) g.literals s (Entry.unlike i)) term_count ≡ term_count
  unfolding lowest
  unlike_nowhere e = sym (lowest_nowhere here term_count term_count (omega arith) (none_here term_count (omega arith) (omega (arith, e))))
