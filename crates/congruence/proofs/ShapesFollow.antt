-- Terms built by a variant: what is due by the slots of an array of shapes is what the rules give for the builds of a table at a
-- state, and where all that is due holds, all that they give holds. The array and the table are any two with `ShapeSlots`.
-- Assumes nothing.
use mathlib.Core.Path.{◌≡◌, refl, ap₂, sym, ◌∙◌, subst}
use mathlib.Core.Bool.{true, ◌&&◌}
use mathlib.Core.List.Memᴰ
use mathlib.Core.List.{List, [], ◌∷◌, ◌++◌, Memᴰ}
use Prim.Native.Nat.{ℕ, zero, suc, ◌<◌}
use native.Mathlib.Omega.{arith}
use lib.Dec.{eqb}
use lib.ListN.{get_or, length}
use borrow.Author.Tests.{eq-eqb, eqb-true}
use Rattle.laws.specs.All.{All, All.more, All.none}
use Rattle.laws.specs.Lists.{from, when}
use Rattle.laws.proofs.Bools.{and_both, and_left, and_right, either}
use Rattle.laws.proofs.Lists.{all_append, all_left, all_right, all_true, all_true_inv, all-when, from_bounds, mem_from}
use Rattle.guard.specs.Closure.{Fact, Fact.same, SameAt, State, builds_at, built_rows, holds, same_all, same_class, same_classes}
use Rattle.guard.specs.Terms.{Build, Table}
use Rattle.guard.specs.Types.{fields_of}
use Rattle.guard.proofs.AnyOrder.{Follows, Follows.by-built}
use Rattle.guard.proofs.ClosureState.{Small}
use Rattle.arrays.specs.Arrays.{kind_number}
use Rattle.arrays.specs.Slots.{active, kind_at, many_at, owner_at, part_at}
use Rattle.arrays.proofs.ActiveSlots.{ActiveSlot, BuildSlot, active-build, build-active}
use Rattle.arrays.proofs.TableSlots.{ShapeSlot, ShapeSlots}
use Rattle.arrays.proofs.DueLaws.{either_order, mem_one, mem_when, moved, one-is, one-quiet, quiet_one, slots_are, slots_at}
use Rattle.congruence.specs.Due.{alike, owners_due, part_due, parts_due, same_owners, same_parts, shape_due, shapes_due, shapes_meet}

-- ---- parts by position

module _ (s : State) where
  classes_of : (ps qs : List ℕ) → ((p : ℕ) → p < length ps → p < length qs → SameAt s (get_or ps p 0) (get_or qs p 0)) → same_classes s ps qs ≡ true
  classes_of [] qs h = refl
  classes_of (p ∷ ps) [] h = refl
  classes_of (p ∷ ps) (q ∷ qs) h = and_both _ _ (eq-eqb _ _ (h 0 (omega arith) (omega arith))) (classes_of ps qs (λ k l m. h (suc k) (omega arith) (omega arith)))

  of_classes : (ps qs : List ℕ) → same_classes s ps qs ≡ true → (p : ℕ) → p < length ps → p < length qs → SameAt s (get_or ps p 0) (get_or qs p 0)
  of_classes [] qs e p l m = absurd (omega arith)
  of_classes (x ∷ ps) [] e p l m = absurd (omega arith)
  of_classes (x ∷ ps) (y ∷ qs) e zero l m = eqb-true _ _ (and_left (same_class s x y) (same_classes s ps qs) e)
  of_classes (x ∷ ps) (y ∷ qs) e (suc p) l m = of_classes ps qs (and_right (same_class s x y) (same_classes s ps qs) e) p (omega arith) (omega arith)

  quiet_all : (ps qs : List ℕ) → ((p : ℕ) → p < length ps → p < length qs → SameAt s (get_or ps p 0) (get_or qs p 0)) → All (λ f. holds s f ≡ true) (same_all ps qs)
  quiet_all [] qs h = none
  quiet_all (p ∷ ps) [] h = none
  quiet_all (p ∷ ps) (q ∷ qs) h = more (eq-eqb _ _ (h 0 (omega arith) (omega arith))) (quiet_all ps qs (λ k l m. h (suc k) (omega arith) (omega arith)))

mem_all : (ps qs : List ℕ) (p : ℕ) → p < length ps → p < length qs → Memᴰ (same (get_or ps p 0) (get_or qs p 0)) (same_all ps qs)
mem_all [] qs p l m = absurd (omega arith)
mem_all (x ∷ ps) [] p l m = absurd (omega arith)
mem_all (x ∷ ps) (y ∷ qs) zero l m = Memᴰ.head refl
mem_all (x ∷ ps) (y ∷ qs) (suc p) l m = Memᴰ.tail (mem_all ps qs p (omega arith) (omega arith))

module _ (t : Table) (array : List ℕ) (slots : ShapeSlots t array) (s : State) (small : Small s) where
  -- ---- two active slots of one kind

  record Alike (k i : ℕ) : Type 0 where
    kinds : kind_at array k ≡ kind_at array i
    first : active array s k ≡ true
    second : active array s i ≡ true

  alike_is : (k i : ℕ) → alike array s k i ≡ true → Alike k i
  unfolding alike
  alike_is k i e =
      let r = and_right (eqb (kind_at array k) (kind_at array i)) _ e in
      record { kinds = eqb-true _ _ (and_left (eqb (kind_at array k) (kind_at array i)) _ e); first = and_left (active array s k) _ r; second = and_right (active array s k) _ r }

  is-alike : (k i : ℕ) → Alike k i → alike array s k i ≡ true
  unfolding alike
  is-alike k i w = and_both _ _ (eq-eqb _ _ w.kinds) (and_both _ _ w.first w.second)

  abbrev SameOwners : ℕ → ℕ → Type 0
  SameOwners k i = SameAt s (owner_at array i) (owner_at array k)

  abbrev SameParts : ℕ → ℕ → Type 0
  SameParts k i = (p : ℕ) → p < many_at array k → SameAt s (part_at array i p) (part_at array k p)

  parts_are_lem : (k i : ℕ) → same_parts array s k i ≡ true → SameParts k i
  unfolding same_parts
  parts_are_lem k i e p h =
      eqb-true _ _ (all_true_inv (λ p. same_class s (part_at array i p) (part_at array k p)) (from (many_at array k) 0) e p (mem_from (many_at array k) 0 p (omega arith) (omega arith)))

  are-parts : (k i : ℕ) → SameParts k i → same_parts array s k i ≡ true
  unfolding same_parts
  are-parts k i h =
      all_true (λ p. same_class s (part_at array i p) (part_at array k p)) (from (many_at array k) 0) (λ p m. eq-eqb _ _ (h p (omega (arith, (from_bounds (many_at array k) 0 p m).1))))

  -- slots of one kind are those of builds of one variant, with the same terms and parts
  module _ (k i : ℕ) (a b : Build) (x : ShapeSlot t array i a) (y : ShapeSlot t array k b) where
    record OneVariant : Type 0 where
      types : a.type ≡ b.type
      variants : a.variant ≡ b.variant

    one-variant : kind_at array k ≡ kind_at array i → OneVariant
    one-variant e =
        let z : kind_number a.type a.variant ≡ kind_number b.type b.variant = sym x.kind ∙ sym e ∙ y.kind in
        record { types = omega (arith, z, x.variant_fits, y.variant_fits); variants = omega (arith, z, x.variant_fits, y.variant_fits) }

    one-kind : OneVariant → kind_at array k ≡ kind_at array i
    one-kind v = omega (arith, x.kind, y.kind, v.types, v.variants)

    same-many : OneVariant → length a.parts ≡ length b.parts
    same-many v = x.arity ∙ ap₂ (λ (u w : ℕ). length (fields_of t.types u w)) v.types v.variants ∙ sym y.arity

    parts-there : SameParts k i → (p : ℕ) → p < length a.parts → p < length b.parts → SameAt s (get_or a.parts p 0) (get_or b.parts p 0)
    parts-there h p l m = moved s (x.part p (omega (arith, x.few))) (y.part p (omega (arith, x.few))) (h p (omega (arith, y.many)))

    parts-here : OneVariant → ((p : ℕ) → p < length a.parts → p < length b.parts → SameAt s (get_or a.parts p 0) (get_or b.parts p 0)) → SameParts k i
    parts-here v h p l =
        let m : p < length b.parts = omega (arith, y.many) in
        let n : p < length a.parts = omega (arith, same-many v) in
        let q : p < 4 = omega (arith, x.few) in
        moved s (sym (x.part p q)) (sym (y.part p q)) (h p n m)

  -- ---- what is due follows

  module _ (k i : ℕ) (hk : k < 30) (hi : i < 30) (w : Alike k i) where
    abbrev first-build : BuildSlot t array slots s small i
    first-build = active-build t array slots s small i hi w.second

    abbrev second-build : BuildSlot t array slots s small k
    second-build = active-build t array slots s small k hk w.first

    abbrev a : Build
    a = first-build.build

    abbrev b : Build
    b = second-build.build

    one : OneVariant k i a b first-build.slot second-build.slot
    one = one-variant k i a b first-build.slot second-build.slot w.kinds

    many-are : many_at array k ≡ many_at array i
    many-are = second-build.slot.many ∙ sym (same-many k i a b first-build.slot second-build.slot one) ∙ sym first-build.slot.many

    abbrev term_facts : List Fact
    term_facts = when (same_classes s a.parts b.parts) (same a.term b.term ∷ [])

    abbrev part_facts : List Fact
    part_facts = when (same_class s a.term b.term) (same_all a.parts b.parts)

    built : {f : Fact} → Memᴰ f (term_facts ++ part_facts) → Follows t s f
    built m =
        by-built a b first-build.among second-build.among
        (mem_when (eqb a.type b.type && eqb a.variant b.variant) (term_facts ++ part_facts) (and_both _ _ (eq-eqb _ _ one.types) (eq-eqb _ _ one.variants)) m)

    owners_follow : SameParts k i → Follows t s (same (owner_at array i) (owner_at array k))
    owners_follow h =
        built (Memᴰ.append_left part_facts (mem_one (same_classes s a.parts b.parts) a.term b.term
        (classes_of s a.parts b.parts (parts-there k i a b first-build.slot second-build.slot h)) (ap₂ same first-build.slot.owner second-build.slot.owner)))

    part_follows : SameOwners k i → (p : ℕ) → p < many_at array k → Follows t s (same (part_at array i p) (part_at array k p))
    part_follows e p h =
        let m : p < length b.parts = omega (arith, second-build.slot.many) in
        let n : p < length a.parts = omega (arith, same-many k i a b first-build.slot second-build.slot one) in
        let q : p < 4 = omega (arith, first-build.slot.few) in
        subst (Follows t s) (sym (ap₂ same (first-build.slot.part p q) (second-build.slot.part p q)))
        (built (Memᴰ.append_right term_facts (mem_when (same_class s a.term b.term) (same_all a.parts b.parts)
        (eq-eqb _ _ (moved s first-build.slot.owner second-build.slot.owner e)) (mem_all a.parts b.parts p n m))))

  pub builds_follow : (f : Fact) → Memᴰ f (shapes_due array s) → Follows t s f
  unfolding shapes_due shape_due shapes_meet owners_due parts_due part_due
  builds_follow = slots_are 30 (shape_due array s) (λ k h. slots_are k (shapes_meet array s k) (go k h))
    where
      owners : (k i : ℕ) → k < 30 → i < 30 → (f : Fact) → Memᴰ f (owners_due array s k i) → Follows t s f
      owners k i hk hi f m =
          let (e, q) = one-is (alike array s k i && same_parts array s k i) (owner_at array i) (owner_at array k) m in
          subst (Follows t s) (sym q) (owners_follow k i hk hi (alike_is k i (and_left (alike array s k i) _ e)) (parts_are_lem k i (and_right (alike array s k i) _ e)))

      parts : (k i : ℕ) → k < 30 → i < 30 → (p : ℕ) → p < many_at array k → (f : Fact) → Memᴰ f (part_due array s k i p) → Follows t s f
      parts k i hk hi p h f m =
          let (e, q) = one-is (alike array s k i && same_owners array s k i) (part_at array i p) (part_at array k p) m in
          subst (Follows t s) (sym q) (part_follows k i hk hi (alike_is k i (and_left (alike array s k i) _ e)) (eqb-true _ _ (and_right (alike array s k i) _ e)) p h)

      go : (k : ℕ) → k < 30 → (i : ℕ) → i < k → (f : Fact) → Memᴰ f (shapes_meet array s k i) → Follows t s f
      go k hk i hi f m =
          let l : i < 30 = omega arith in
          either (owners k i hk l f) (slots_are (many_at array k) (part_due array s k i) (parts k i hk l) f) (Memᴰ.append_cases (owners_due array s k i) m)

  -- ---- where what is due holds, nothing is new

  -- two alike slots have equal terms if they have equal parts, and the other way round
  record Joined (k i : ℕ) : Type 0 where
    owners : SameParts k i → SameOwners k i
    parts : SameOwners k i → SameParts k i

  module _ (h : All (λ f. holds s f ≡ true) (shapes_due array s)) where
    turn : (k i : ℕ) → k < 30 → i < 30 → (Alike k i → Joined k i) → Alike i k → Joined i k
    turn k i hk hi j u =
        let w : Alike k i = record { kinds = sym u.kinds; first = u.second; second = u.first } in
        let e = many-are k i hk hi w in
        record {
          owners = λ q. sym ((j w).owners (λ p l. sym (q p (omega (arith, e)))));
          parts = λ q p l. sym ((j w).parts (sym q) p (omega (arith, e)));
        }

    joined : (k i : ℕ) → k < 30 → i < 30 → Alike k i → Joined k i
    unfolding shapes_due shape_due shapes_meet owners_due parts_due part_due
    joined = either_order 30 (λ k i. Alike k i → Joined k i) turn (λ k w. record { owners = λ q. refl; parts = λ q p l. refl }) go
      where
        go : (k i : ℕ) → k < 30 → i < k → Alike k i → Joined k i
        go k i hk hi w =
            let here : All (λ f. holds s f ≡ true) (shapes_meet array s k i) = slots_at k (shapes_meet array s k) (slots_at 30 (shape_due array s) h k hk) i hi in
            record {
              owners = λ q. one-quiet (alike array s k i && same_parts array s k i) (owner_at array i) (owner_at array k) s
                  (all_left (owners_due array s k i) (parts_due array s k i) here) (and_both _ _ (is-alike k i w) (are-parts k i q));
              parts = λ q p l. one-quiet (alike array s k i && same_owners array s k i) (part_at array i p) (part_at array k p) s
                  (slots_at (many_at array k) (part_due array s k i) (all_right (owners_due array s k i) (parts_due array s k i) here) p l) (and_both _ _ (is-alike k i w) (eq-eqb _ _ q));
            }

    pub builds-quiet : (a b : Build) → Memᴰ a (builds_at t s) → Memᴰ b (builds_at t s) → All (λ f. holds s f ≡ true) (built_rows s a b)
    builds-quiet a b ma mb = go (build-active t array slots s small a ma) (build-active t array slots s small b mb)
      where
        go : ActiveSlot t array slots s small a → ActiveSlot t array slots s small b → All (λ f. holds s f ≡ true) (built_rows s a b)
        go x y =
            all-when (eqb a.type b.type && eqb a.variant b.variant) _ (λ e. all_append
            (quiet_one (same_classes s a.parts b.parts) a.term b.term s
            (λ q. moved s x.slot.owner y.slot.owner ((both e).owners (parts-here k i a b x.slot y.slot (one_of e) (of_classes s a.parts b.parts q)))))
            (all-when (same_class s a.term b.term) (same_all a.parts b.parts)
            (λ q. quiet_all s a.parts b.parts
            (parts-there k i a b x.slot y.slot ((both e).parts (moved s (sym x.slot.owner) (sym y.slot.owner) (eqb-true _ _ q)))))))
          where
            k : ℕ
            k = y.place

            i : ℕ
            i = x.place

            one_of : (eqb a.type b.type && eqb a.variant b.variant) ≡ true → OneVariant k i a b x.slot y.slot
            one_of e = record { types = eqb-true _ _ (and_left (eqb a.type b.type) _ e); variants = eqb-true _ _ (and_right (eqb a.type b.type) _ e) }

            both : (eqb a.type b.type && eqb a.variant b.variant) ≡ true → Joined k i
            both e = joined k i y.inside x.inside (record { kinds = one-kind k i a b x.slot y.slot (one_of e); first = y.is_active; second = x.is_active })
