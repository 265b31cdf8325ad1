-- For a guard's arrays: a class is a part of itself through active shapes exactly where it is through built rows at the state. So the
-- search gives the lowest term whose class is a part of itself. Assumes nothing.
use mathlib.Core.Path.{◌≡◌, refl, ap, sym, subst, ◌∙◌}
use mathlib.Core.Bool.{Bool, true, false, ◌&&◌, cond}
use mathlib.Core.List.Memᴰ
use mathlib.Core.List.{List, [], map, Memᴰ}
use Prim.Native.Nat.{ℕ, zero, suc, ◌≤◌, ◌<◌}
use native.Mathlib.Omega.{arith}
use lib.Dec.{eqb}
use lib.ListN.{length, get_or}
use borrow.Author.Tests.{eq-eqb, eqb-true}
use Rattle.laws.specs.All.{All}
use Rattle.laws.specs.Lists.{any, concat_map, union, when}
use Rattle.laws.proofs.Bools.{and_both, and_left, and_right, by_test}
use Rattle.laws.proofs.Lists.{all_get_d, all_of, any_of, any_some, map_inv, mem_concat_map_inv}
use Rattle.laws.proofs.Members.{member_of, of_member, union_inv, union_left}
use Rattle.laws.proofs.Positions.{any_true_at}
use Rattle.guard.specs.Closure.{State, builds_at, class_of}
use Rattle.guard.specs.Guard.{Guard}
use Rattle.guard.specs.Limits.{Limits, Supported, total_variant_limit}
use Rattle.guard.specs.Node.{inside_itself, parts_of, reached}
use Rattle.guard.specs.Terms.{Build, Table, Term, table_of, term_count}
use Rattle.guard.specs.WellFormed.{WellFormed}
use Rattle.guard.proofs.ClosureState.{Small}
use Rattle.models.proofs.Ranks.{complete, is-part, reached_keeps}
use Rattle.tables.specs.Layout.{flat}
use Rattle.classes.specs.Held.{Held}
use Rattle.std.specs.Prelude.{is_some}
use Rattle.std.specs.declared.option.Option.{Option}
use Rattle.std.specs.declared.option.Option.TheVariants.{None, Some}
use Rattle.loops.specs.Lowest.{Finds}
use Rattle.loops.proofs.Loops.{finds_here, finds_nowhere, finds_test, found-same}
use Rattle.arrays.specs.Arrays.{fieldless_of, shapes_of, sorts_of}
use Rattle.arrays.specs.Slots.{active, many_at, sort_at}
use Rattle.arrays.proofs.DueLaws.{when-is}
use Rattle.arrays.proofs.GuardSlots.{shape_slots, sort_slots}
use Rattle.arrays.proofs.ActiveSlots.{ActiveSlot, BuildSlot, active-build, build-active}
use Rattle.arrays.proofs.TableSlots.{ShapeSlots, SortSlots}
use Rattle.ranks.proofs.CycleLaws.{parts-small}
use Rattle.needed.specs.Needed.{own_class, part_class}
use Rattle.cycles.specs.Cycles.{Inside, LowestOf, PartOf, PartOf.its_part, PartOf.of_part, inside_term}

-- what holds of the classes to begin with, and of the parts of each class of which it holds, holds of all that is reached
reached_inv : (s : State) (bs : List Build) (P : ℕ → Type 0) → ((d : ℕ) → P d → (e : ℕ) → Memᴰ e (parts_of s bs d) → P e) → (k : ℕ) (cs : List ℕ) → ((x : ℕ) → Memᴰ x cs → P x)
    → (x : ℕ) → Memᴰ x (reached k s bs cs) → P x
reached_inv s bs P step zero cs h x m = h x m
reached_inv s bs P step (suc k) cs h x m =
    go (eqb (length next) (length cs)) (reached_inv s bs P step k next (union_inv P (concat_map (parts_of s bs) cs) cs (mem_concat_map_inv (parts_of s bs) P cs (λ d i. step d (h d i))) h) x) m
  where
    next : List ℕ
    next = union (concat_map (parts_of s bs) cs) cs

    go : (b : Bool) → (Memᴰ x (reached k s bs next) → P x) → Memᴰ x (cond b cs (reached k s bs next)) → P x
    go true ih i = h x i
    go false ih i = ih i

module _ (limits : Limits) (supported : Supported limits) (g : Guard) (ok : WellFormed limits g) (total : length (flat g.types) ≤ total_variant_limit) (s : State) (small : Small s)
    (held : Held s.classes) (inside : (i : ℕ) → i < term_count → class_of s i < term_count) where
  abbrev t : Table
  t = table_of g

  abbrev bs : List Build
  bs = builds_at (table_of g) s

  abbrev shapes : List ℕ
  shapes = shapes_of g

  slots : ShapeSlots (table_of g) (shapes_of g)
  slots = shape_slots limits supported g ok total

  sorts_have : SortSlots (table_of g) (sorts_of g) (fieldless_of g)
  sorts_have = sort_slots limits supported g ok total

  few : (b : Build) → Memᴰ b bs → All (λ p. class_of s p < term_count) b.parts
  few = parts-small limits supported g ok total s small held inside

  -- ---- parts through shapes are parts through built rows

  shape-part : (k p : ℕ) → k < 30 → p < many_at shapes k → active shapes s k ≡ true → Memᴰ (part_class shapes s k p) (parts_of s bs (own_class shapes s k))
  shape-part k p h l a = go (active-build t shapes slots s small k h a)
    where
      go : BuildSlot t shapes slots s small k → Memᴰ (part_class shapes s k p) (parts_of s bs (own_class shapes s k))
      go b =
          let is_part : class_of s (get_or b.build.parts p 0) ≡ part_class shapes s k p = ap (class_of s) (sym (b.slot.part p (omega (arith, l, b.slot.many, b.slot.few)))) in
          let is_own : class_of s b.build.term ≡ own_class shapes s k = ap (class_of s) (sym b.slot.owner) in
          let m = is-part s bs few b.build b.among (get_or b.build.parts p 0) (all_get_d (all_of b.build.parts (λ x m. m)) p 0 (omega (arith, l, b.slot.many))) in
          subst (λ (e : ℕ). Memᴰ e (parts_of s bs (own_class shapes s k))) is_part (subst (λ (d : ℕ). Memᴰ (class_of s (get_or b.build.parts p 0)) (parts_of s bs d)) is_own m)

  -- the classes reached from the parts of class c
  abbrev within : ℕ → List ℕ
  within c = reached term_count s bs (union (parts_of s bs c) [])

  part-reached : (c : ℕ) {d : ℕ} → PartOf shapes s c d → Memᴰ d (within c)
  part-reached c (its_part k p hk hp e o q) =
      subst (λ (d : ℕ). Memᴰ d (within c)) q (reached_keeps s bs few term_count (union (parts_of s bs c) []) (part_class shapes s k p)
      (union_left (parts_of s bs c) [] (part_class shapes s k p) (subst (λ (c : ℕ). Memᴰ (part_class shapes s k p) (parts_of s bs c)) o (shape-part k p hk hp e))))
  part-reached c (of_part k p hk hp e w q) =
      subst (λ (d : ℕ). Memᴰ d (within c)) q (complete s bs few (union (parts_of s bs c) []) (own_class shapes s k) (part-reached c w) (part_class shapes s k p) (shape-part k p hk hp e))

  -- ---- and the other way round

  -- class e is part p of shape k, whose class is d
  record PartAt (d e : ℕ) : Type 0 where
    shape : ℕ
    place : ℕ
    there : shape < 30
    below : place < many_at shapes shape
    is_active : active shapes s shape ≡ true
    own : own_class shapes s shape ≡ d
    part : part_class shapes s shape place ≡ e

  part-at : (d e : ℕ) → Memᴰ e (parts_of s bs d) → PartAt d e
  part-at d =
      mem_concat_map_inv (λ b. when (eqb (class_of s b.term) d) (map (class_of s) b.parts)) (PartAt d) bs
      (λ b m e n. let (q, k) = when-is (eqb (class_of s b.term) d) (map (class_of s) b.parts) n in
      map_inv (class_of s) (PartAt d) b.parts (λ p i. go b (eqb-true _ _ q) p i (build-active t shapes slots s small b m)) e k)
    where
      go : (b : Build) → class_of s b.term ≡ d → (p : ℕ) → Memᴰ p b.parts → ActiveSlot t shapes slots s small b → PartAt d (class_of s p)
      go b o p i a =
          let (q, h, z) = any_true_at (eqb p) b.parts 0 (member_of p b.parts i) in
          record {
            shape = a.place;
            place = q;
            there = a.inside;
            below = omega (arith, h, a.slot.many);
            is_active = a.is_active;
            own = ap (class_of s) a.slot.owner ∙ o;
            part = ap (class_of s) (a.slot.part q (omega (arith, h, a.slot.few)) ∙ sym (eqb-true _ _ z));
          }

  reached-part : (c d : ℕ) → Memᴰ d (within c) → PartOf shapes s c d
  reached-part c =
      reached_inv s bs (PartOf shapes s c)
      (λ d w e m. let a = part-at d e m in of_part a.shape a.place a.there a.below a.is_active (subst (PartOf shapes s c) (sym a.own) w) a.part)
      term_count (union (parts_of s bs c) [])
      (union_inv (PartOf shapes s c) (parts_of s bs c) [] (λ e m. let a = part-at c e m in its_part a.shape a.place a.there a.below a.is_active a.own a.part) (λ e m. absurd (Memᴰ.not-nil m)))

  -- ---- terms

  -- the test at a term of the table
  pub inside_is : (x : Term) → Memᴰ x (table_of g).terms → inside_itself s (builds_at (table_of g) s) x ≡ true → Inside (shapes_of g) (sorts_of g) s x.term
  inside_is x m e =
      (λ z. omega (arith, z, (sorts_have.slot x m).1), reached-part (class_of s x.term) (class_of s x.term) (of_member (class_of s x.term) (within (class_of s x.term)) e))

  pub is-inside : (x : Term) → Inside (shapes_of g) (sorts_of g) s x.term → inside_itself s (builds_at (table_of g) s) x ≡ true
  is-inside x w = member_of (class_of s x.term) (within (class_of s x.term)) (part-reached (class_of s x.term) w.1)

  abbrev test : ℕ → Term → Bool
  test x a = eqb a.term x && inside_itself s bs a

  number_is : (x : ℕ) → inside_term (table_of g) s x ≡ true → Inside (shapes_of g) (sorts_of g) s x
  unfolding inside_term
  number_is x e =
      let (a, m, q) = any_some (test x) t.terms e in
      subst (Inside shapes (sorts_of g) s) (eqb-true _ _ (and_left (eqb a.term x) _ q)) (inside_is a m (and_right (eqb a.term x) _ q))

  is-number : (x : ℕ) → x < 78 → Inside (shapes_of g) (sorts_of g) s x → inside_term (table_of g) s x ≡ true
  unfolding inside_term
  is-number x h w = go (sort_at (sorts_of g) x) refl
    where
      go : (n : ℕ) → sort_at (sorts_of g) x ≡ n → any (test x) t.terms ≡ true
      go zero q = absurd (w.0 q)
      go (suc u) q =
          any_of (test x) t.terms (record { term = x; type = u }) (sorts_have.found x u h q)
          (and_both _ _ (eq-eqb x x refl) (is-inside (record { term = x; type = u }) w))

  -- ---- the result: the lowest term whose class is a part of itself

  outside : (n : ℕ) → ((x : ℕ) → x < n → ¬ Inside (shapes_of g) (sorts_of g) s x) → (x : ℕ) → x < n → inside_term (table_of g) s x ≡ false
  outside n w x h = by_test (inside_term t s x) (λ e. absurd (w x h (number_is x e))) (λ e. e)

  pub named : (r : Option ℕ) → LowestOf (Inside (shapes_of g) (sorts_of g) s) 78 r → Finds (inside_term (table_of g) s) 78 r
  named None w = finds_nowhere (inside_term t s) 78 (outside 78 w)
  named (Some k) (l, c, w) = finds_here (inside_term t s) 78 k l (outside k w) (is-number k l c)

  -- there is one exactly if one is defined
  pub some-named : (r : Option ℕ) → LowestOf (Inside (shapes_of g) (sorts_of g) s) 78 r → is_some r ≡ any (inside_itself s (builds_at (table_of g) s)) (table_of g).terms
  unfolding inside_term
  some-named r w =
      finds_test (inside_term t s) 78 r (named r w)
      ∙ found-same (inside_itself s bs) t.terms (inside_term t s) 78 (λ x m e. (x.term, (sorts_have.slot x m).0, is-number x.term (sorts_have.slot x m).0 (inside_is x m e))) back
    where
      back : (k : ℕ) → k < 78 → inside_term t s k ≡ true → (x : Term) × Memᴰ x t.terms × (inside_itself s bs x ≡ true)
      back k h e = let (a, m, q) = any_some (test k) t.terms e in (a, m, and_right (eqb a.term k) _ q)
