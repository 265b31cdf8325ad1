-- What is chosen for the classes of an open node fits what crate `models` says of them: a class that gets a message is one
-- of a term, its type is that of its terms, it is free if nothing is found that fixes it, and then its variant is in its
-- label. Assumes nothing.
use mathlib.Core.Path.{◌≡◌, refl, ap, sym, ◌∙◌, subst}
use mathlib.Core.Bool.{Bool, true, false, not, ◌&&◌, false≢true}
use mathlib.Core.List.{List, Memᴰ}
use Prim.Native.Nat.{ℕ, zero, suc, ◌≤◌, ◌<◌}
use native.Mathlib.Omega.{arith}
use lib.Dec.{eqb, leb, ltb}
use lib.ListN.{get_or, length}
use borrow.Author.Tests.{eq-eqb, eqb-false, eqb-true, leb-false, leb-true, lt-ltb, ltb-true, ne_eqb, not-true}
use Rattle.laws.specs.All.{All}
use Rattle.laws.specs.Bits.{bit}
use Rattle.laws.proofs.Bools.{and_both, and_left, and_right, by_test}
use Rattle.laws.proofs.Lists.{all_get_d, all_mem}
use Rattle.laws.proofs.Positions.{least_le, least_passes}
use Rattle.guard.specs.Closure.{State, builds_at, class_of, closure_of, label_of}
use Rattle.guard.specs.Guard.{Guard, Literal, type_at}
use Rattle.guard.specs.Limits.{Limits, Supported, total_variant_limit}
use Rattle.guard.specs.Terms.{Build, Table, Term, table_of, term_count}
use Rattle.guard.specs.Types.{fields_of, is_number, variants_of}
use Rattle.guard.specs.WellFormed.{WellFormed}
use Rattle.guard.proofs.Agreement.{Agrees}
use Rattle.guard.proofs.ClosureBelow.{all-builds}
use Rattle.guard.proofs.ClosureState.{Small}
use Rattle.guard.proofs.TableLaws.{few-rows, term-row}
use Rattle.growth.proofs.Injective.{Kind, Kind.free}
use Rattle.models.proofs.Classes.{IsClass, const≢free, kind_of, node≢free, type-at}
use Rattle.models.proofs.FreeClasses.{HeldVariant, lowest-held, lowest_held}
use Rattle.models.proofs.Nodes.{NodeOf, OpenNode, TypedNode, class_small, typed-node}
use Rattle.models.proofs.TypedTable.{term_type}
use Rattle.tables.specs.Layout.{flat}
use Rattle.loops.specs.Lowest.{lowest}
use Rattle.arrays.specs.Arrays.{constants_of, fieldless_of, shapes_of, sorts_of}
use Rattle.arrays.specs.Slots.{sort_at}
use Rattle.arrays.proofs.GuardSlots.{shape_slots, sort_slots}
use Rattle.arrays.proofs.ActiveSlots.{active-build}
use Rattle.kinds.specs.Found.{constant_of, shape_of, single_of}
use Rattle.kinds.proofs.KindLaws.{found-constant, found-shape, found-single, none-is-free}
use Rattle.needed.specs.Needed.{Marks, Needed, Needed.of_part, Needed.of_row}
use Rattle.plans.specs.Chosen.{free_at, held_in, is_marked, is_member, sort_in, term_in, variant_in}
use Rattle.plans.specs.Plans.{OpenState, is_free, marked, open_of, sort_for, type_for, variant_for}

-- where a test passes below n, the lowest such number is found
lowest-found : (p : ℕ → Bool) (n v : ℕ) → v < n → p v ≡ true → (lowest p n < n) × (p (lowest p n) ≡ true)
unfolding lowest
lowest-found p n v h e = let l = least_le p n v e in (omega arith, least_passes p n (omega arith))

-- the lowest variant with fields in the label of a free class is one that `models` asks for
lowest-variant : (t : Table) (ls : List Literal) (type : ℕ → ℕ) (n : TypedNode t ls type) (o : OpenNode t ls) (c : ℕ) (y : Term) → Memᴰ y t.terms → class_of (closure_of t ls) y.term ≡ c
    → kind_of t ls type n o c ≡ free → is_number t.types (type c) ≡ false → HeldVariant t ls type n o c (variant_in t.types (label_of (closure_of t ls) y.term) (type c))
unfolding variant_in held_in
lowest-variant t ls type n o c y m e f q =
    record {
      variant = found.0;
      fields = ltb-true 0 (length (fields_of t.types (type c) low)) (and_right (not (eqb (bit label low) 0)) _ found.1);
      held = λ z mz ez lack. eqb-false (bit label low) 0 (not-true _ (and_left (not (eqb (bit label low) 0)) _ found.1)) (ap (λ (d : ℕ). bit (get_or (closure_of t ls).labels d 0) low) (e ∙ sym ez) ∙ lack);
    }
  where
    label : ℕ
    label = label_of (closure_of t ls) y.term

    test : ℕ → Bool
    test v = not (eqb (bit label v) 0) && ltb 0 (length (fields_of t.types (type c) v))

    low : ℕ
    low = lowest test (length (variants_of t.types (type c)))

    some : HeldVariant t ls type n o c (lowest_held t ls type n o c)
    some = lowest-held t ls type n o c (y, m, e) f q

    found : (low < length (variants_of t.types (type c))) × (test low ≡ true)
    found =
        lowest-found test (length (variants_of t.types (type c))) (lowest_held t ls type n o c) some.variant
        (and_both _ _ (ap not (ne_eqb (bit label (lowest_held t ls type n o c)) 0 (some.held y m e))) (lt-ltb 0 (length (fields_of t.types (type c) (lowest_held t ls type n o c))) some.fields))

module _ (limits : Limits) (sup : Supported limits) (g : Guard) (ok : WellFormed limits g) (total : length (flat g.types) ≤ total_variant_limit)
    (ls : List Literal) (nd : NodeOf g ls) (o : OpenNode (table_of g) ls) (s : State) (agree : Agrees s (closure_of (table_of g) ls)) (small : Small s)
    (marks : List ℕ) (is_marks : Marks (shapes_of g) s (length g.rows) marks) where
  abbrev S : State
  S = closure_of (table_of g) ls

  abbrev typed : TypedNode (table_of g) ls (term_type g)
  typed = typed-node limits sup g ok ls nd

  abbrev kind : ℕ → Kind
  kind = kind_of (table_of g) ls (term_type g) typed o

  abbrev Class : ℕ → Type 0
  Class = IsClass (table_of g) ls (term_type g) typed o

  abbrev x : OpenState
  x = open_of g s marks

  abbrev Need : ℕ → Type 0
  Need = Needed (shapes_of g) s (length g.rows)

  term-small : (y : Term) → Memᴰ y (table_of g).terms → y.term < term_count
  term-small y m = (typed.in_range.terms y m).0

  -- ---- classes that get a message

  part-terms : (b : Build) → Memᴰ b (builds_at (table_of g) s) → All (λ p. Memᴰ (record { term = p; type = term_type g p }) (table_of g).terms) b.parts
  part-terms =
      all_mem (all-builds {P = λ b. All (λ p. Memᴰ (record { term = p; type = term_type g p }) (table_of g).terms) b.parts} (table_of g) s
      (λ b m. (typed.typed.builds b m).part_terms) (λ r m e. (typed.typed.reads r m).part_terms))

  -- each is the class of a term: of a row, or of a part of a build
  pub need_class : (c : ℕ) → Need c → Class c
  need_class c (of_row i h e) = (record { term = i; type = type_at g.types g.rows i }, term-row g i h, sym (agree.class i (omega (arith, few-rows limits sup g ok))) ∙ e)
  need_class c (of_part k p h l a n e) =
      let b = active-build (table_of g) (shapes_of g) (shape_slots limits sup g ok total) s small k h a in
      let q : ℕ = get_or b.build.parts p 0 in
      let m : Memᴰ (record { term = q; type = term_type g q }) (table_of g).terms = all_get_d (part-terms b.build b.among) p 0 (omega (arith, l, b.slot.many)) in
      (record { term = q; type = term_type g q }, m, sym (agree.class q (term-small _ m)) ∙ ap (class_of s) (sym (b.slot.part p (omega (arith, l, b.slot.many, b.slot.few)))) ∙ e)

  pub need_small : (c : ℕ) → Need c → c < 78
  need_small c n = let (y, m, e) = need_class c n in subst (λ (d : ℕ). d < 78) e (class_small (table_of g) ls typed.in_range typed.literals_in_range y.term (term-small y m))

  pub need_marked : (c : ℕ) → Need c → marked x c ≡ true
  unfolding marked is_marked
  need_marked c n = eq-eqb _ _ (is_marks.each c n)

  pub marked_need : (c : ℕ) → c < 96 → marked x c ≡ true → Need c
  unfolding marked is_marked
  marked_need c h e = is_marks.only c h (eqb-true _ _ e)

  -- ---- types

  pub class_sort : (c : ℕ) → Class c → sort_for x c ≡ suc (term_type g c)
  unfolding sort_for sort_in term_in is_member
  class_sort c (y, m, e) = go (sort_at (sorts_of g) low) refl
    where
      member : ℕ → Bool
      member z = not (eqb (sort_at (sorts_of g) z) 0) && eqb (get_or s.classes z 0) c

      low : ℕ
      low = lowest member 78

      found : (low < 78) × (member low ≡ true)
      found =
          let (inside, sort) = (sort_slots limits sup g ok total).slot y m in
          lowest-found member 78 y.term inside (and_both _ _ (ap not (ne_eqb (sort_at (sorts_of g) y.term) 0 (λ z. omega (arith, z, sort)))) (eq-eqb _ _ (agree.class y.term inside ∙ e)))

      go : (n : ℕ) → sort_at (sorts_of g) low ≡ n → n ≡ suc (term_type g c)
      go zero q = absurd (eqb-false _ _ (not-true _ (and_left (not (eqb (sort_at (sorts_of g) low) 0)) _ found.1)) q)
      go (suc u) q =
          ap suc (sym (type-at (table_of g) ls (term_type g) typed o (record { term = low; type = u }) ((sort_slots limits sup g ok total).found low u found.0 q) c
          (sym (agree.class low found.0) ∙ eqb-true _ _ (and_right (not (eqb (sort_at (sorts_of g) low) 0)) _ found.1))))

  pub class_type : (c : ℕ) → Class c → type_for x c ≡ term_type g c
  unfolding type_for
  class_type c i = let e = class_sort c i in omega (arith, e)

  pub type_for_lem : (c : ℕ) → Need c → type_for x c ≡ term_type g c
  type_for_lem c n = class_type c (need_class c n)

  -- its sort is the type plus one
  pub sort_for_lem : (c : ℕ) → Need c → sort_for x c ≡ suc (type_for x c)
  sort_for_lem c n = class_sort c (need_class c n) ∙ ap suc (sym (type_for_lem c n))

  pub type-small : (c : ℕ) → Need c → type_for x c < length g.types
  unfolding table_of
  type-small c n =
      let (y, m, e) = need_class c n in
      subst (λ (u : ℕ). u < length g.types) (sym (type-at (table_of g) ls (term_type g) typed o y m c e) ∙ sym (type_for_lem c n)) (typed.typed.known y m)

  -- ---- free classes

  pub free-is-free : (c : ℕ) → is_free x c ≡ true → kind c ≡ free
  unfolding is_free free_at
  free-is-free c e =
      let a = and_right (is_marked marks c) _ e in
      let b = and_right (leb 30 (shape_of (shapes_of g) s c)) _ a in
      none-is-free limits sup g ok total ls nd o s agree small c (leb-true _ _ (and_left (leb 30 (shape_of (shapes_of g) s c)) _ a)) (leb-true _ _ (and_left (leb 30 (constant_of (constants_of g) s.classes c)) _ b))
      (leb-true _ _ (and_right (leb 30 (constant_of (constants_of g) s.classes c)) _ b))

  pub free-marked : (c : ℕ) → is_free x c ≡ true → marked x c ≡ true
  unfolding is_free free_at marked
  free-marked c e = and_left (is_marked marks c) _ e

  pub free_need : (c : ℕ) → c < 96 → is_free x c ≡ true → Need c
  free_need c h e = marked_need c h (free-marked c e)

  pub free_back : (c : ℕ) → Need c → kind c ≡ free → is_free x c ≡ true
  unfolding is_free free_at marked
  free_back c n f =
      and_both (is_marked marks c) _ (need_marked c n)
      (and_both (leb 30 (shape_of (shapes_of g) s c)) _ (no_less 30 (shape_of (shapes_of g) s c) (λ h. node≢free (sym (found-shape limits sup g ok total ls nd o s agree small c h).is_node ∙ f)))
      (and_both (leb 30 (constant_of (constants_of g) s.classes c)) _ (no_less 30 (constant_of (constants_of g) s.classes c) (λ h. const≢free (sym (found-constant limits sup g ok total ls nd o s agree small c h).is_const ∙ f)))
      (no_less 78 (single_of (sorts_of g) (fieldless_of g) s c) (λ h. node≢free (sym (found-single limits sup g ok total ls nd o s agree small c h).is_node ∙ f)))))
    where
      no_less : (n k : ℕ) → (k < n → ⊥) → leb n k ≡ true
      no_less n k h = by_test (leb n k) (λ b. b) (λ b. absurd (h (leb-false n k b)))

  -- ---- variants

  class_label : (c : ℕ) (y : Term) → Memᴰ y (table_of g).terms → class_of S y.term ≡ c → get_or s.labels c 0 ≡ label_of S y.term
  class_label c y m e = ap (λ (d : ℕ). get_or s.labels d 0) (sym (agree.class y.term (term-small y m) ∙ e)) ∙ agree.label y.term (term-small y m)

  -- the variant of a free class of variant type has fields, and is in the label
  pub variant-held : (c : ℕ) → Class c → kind c ≡ free → is_number g.types (term_type g c) ≡ false → HeldVariant (table_of g) ls (term_type g) typed o c (variant_for x c)
  unfolding table_of variant_for
  variant-held c (y, m, e) f n =
      subst (λ (label : ℕ). HeldVariant (table_of g) ls (term_type g) typed o c (variant_in g.types label (type_for x c))) (sym (class_label c y m e))
      (subst (λ (t : ℕ). HeldVariant (table_of g) ls (term_type g) typed o c (variant_in g.types (label_of S y.term) t)) (sym (class_type c (y, m, e)))
      (lowest-variant (table_of g) ls (term_type g) typed o c y m e f n))

  -- the same at the type chosen
  pub free-variant : (c : ℕ) → Need c → is_free x c ≡ true → is_number g.types (type_for x c) ≡ false
      → (variant_for x c < length (variants_of g.types (type_for x c))) × (0 < length (fields_of g.types (type_for x c) (variant_for x c)))
  unfolding table_of
  free-variant c n f e =
      let q : type_for x c ≡ term_type g c = type_for_lem c n in
      let h = variant-held c (need_class c n) (free-is-free c f) (ap (is_number g.types) (sym q) ∙ e) in (
        subst (λ (t : ℕ). variant_for x c < length (variants_of g.types t)) (sym q) h.variant,
        subst (λ (t : ℕ). 0 < length (fields_of g.types t (variant_for x c))) (sym q) h.fields,
      )

  -- a class that gets a message is free, or found to be something else
  pub not_free : (c : ℕ) → Need c → is_free x c ≡ false → ¬ (kind c ≡ free)
  not_free c n e f = false≢true (sym e ∙ free_back c n f)
