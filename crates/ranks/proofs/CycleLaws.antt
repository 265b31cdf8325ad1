-- A class is a part of itself through built rows exactly where ranks do not fall. Assumes nothing.
use mathlib.Core.Path.{◌≡◌, ap, sym, ◌∙◌, subst}
use mathlib.Core.Bool.{Bool, true, false, not, cond, false≢true}
use mathlib.Core.List.Memᴰ
use mathlib.Core.List.{List, [], map, Memᴰ}
use Prim.Native.Nat.{ℕ, zero, suc, ◌≤◌, ◌<◌}
use native.Mathlib.Omega.{arith}
use lib.Dec.{eqb}
use lib.ListN.{length, get_or}
use borrow.Author.Tests.{eqb-true}
use Rattle.laws.specs.All.{All}
use Rattle.laws.specs.Lists.{any, concat_map, member, union, when}
use Rattle.laws.proofs.Bools.{by_test}
use Rattle.laws.proofs.Lists.{all_get_d, all_mem, all_of, all_weaken, any_none, any_some, map_inv, mem_concat_map_inv}
use Rattle.laws.proofs.Members.{filter-most, member_of, of_member, union_inv}
use Rattle.laws.proofs.Positions.{any_true_at}
use Rattle.guard.specs.Closure.{State, builds_at, class_of}
use Rattle.guard.specs.Guard.{Guard}
use Rattle.guard.specs.Limits.{Limits, Supported, total_variant_limit}
use Rattle.guard.specs.Node.{inside_itself, parts_of, reached}
use Rattle.guard.specs.Terms.{Build, Table, Term, table_of, term_count}
use Rattle.guard.specs.WellFormed.{WellFormed}
use Rattle.guard.proofs.ClosureBelow.{InRange, all-builds}
use Rattle.guard.proofs.ClosureState.{Small}
use Rattle.guard.proofs.TableLaws.{few-rows, table_in_range}
use Rattle.models.proofs.Ranks.{few-builds, from_class, rank-part, rank_of}
use Rattle.tables.specs.Layout.{flat}
use Rattle.classes.specs.Held.{Held}
use Rattle.loops.proofs.Loops.{both}
use Rattle.arrays.specs.Arrays.{shapes_of}
use Rattle.arrays.specs.Slots.{many_at}
use Rattle.arrays.proofs.DueLaws.{when-is}
use Rattle.arrays.proofs.GuardSlots.{shape_slots}
use Rattle.arrays.proofs.ActiveSlots.{ActiveSlot, BuildSlot, active-build, build-active}
use Rattle.arrays.proofs.TableSlots.{ShapeSlots}
use Rattle.ranks.specs.Ranks.{own_class, part_class, ranking_of}
use Rattle.ranks.proofs.RankLaws.{heights_rank, ranks_fall}

-- ---- where ranks fall, no class is a part of itself

module _ (s : State) (bs : List Build) (rank : ℕ → ℕ) (falls : (b : Build) → Memᴰ b bs → (p : ℕ) → Memᴰ p b.parts → rank (class_of s p) < rank (class_of s b.term)) where
  part-lower : (c e : ℕ) → Memᴰ e (parts_of s bs c) → rank e < rank c
  part-lower c =
      mem_concat_map_inv (λ b. when (eqb (class_of s b.term) c) (map (class_of s) b.parts)) (λ e. rank e < rank c) bs
      (λ b m e n. let (q, k) = when-is (eqb (class_of s b.term) c) (map (class_of s) b.parts) n in
      subst (λ (d : ℕ). rank e < rank d) (eqb-true _ _ q) (map_inv (class_of s) (λ e. rank e < rank (class_of s b.term)) b.parts (falls b m) e k))

  reached-lower : (n k : ℕ) (cs : List ℕ) → ((x : ℕ) → Memᴰ x cs → rank x < n) → (x : ℕ) → Memᴰ x (reached k s bs cs) → rank x < n
  reached-lower n zero cs h x m = h x m
  reached-lower n (suc k) cs h x m =
      go (eqb (length next) (length cs)) (reached-lower n k next (union_inv (λ y. rank y < n) (concat_map (parts_of s bs) cs) cs
      (mem_concat_map_inv (parts_of s bs) (λ y. rank y < n) cs (λ d i e j. omega (arith, part-lower d e j, h d i))) h) x) m
    where
      next : List ℕ
      next = union (concat_map (parts_of s bs) cs) cs

      go : (b : Bool) → (Memᴰ x (reached k s bs next) → rank x < n) → Memᴰ x (cond b cs (reached k s bs next)) → rank x < n
      go true ih i = h x i
      go false ih i = ih i

  not_inside : (x : Term) → inside_itself s bs x ≡ true → ⊥
  not_inside x e =
      let c : ℕ = class_of s x.term in
      let l : rank c < rank c = reached-lower (rank c) term_count (union (parts_of s bs c) []) (union_inv (λ y. rank y < rank c) (parts_of s bs c) [] (part-lower c) (λ y n. absurd (Memᴰ.not-nil n))) c (of_member c _ e) in
      omega arith

module _ (limits : Limits) (supported : Supported limits) (g : Guard) (ok : WellFormed limits g) (total : length (flat g.types) ≤ total_variant_limit) (s : State) (small : Small s)
    (held : Held s.classes) (inside : (i : ℕ) → i < term_count → class_of s i < term_count) where
  abbrev t : Table
  t = table_of g

  abbrev bs : List Build
  bs = builds_at (table_of g) s

  abbrev shapes : List ℕ
  shapes = shapes_of g

  range : InRange (table_of g)
  range = table_in_range limits supported g ok

  slots : ShapeSlots (table_of g) (shapes_of g)
  slots = shape_slots limits supported g ok total

  -- ---- builds fall as shapes do

  builds_fall : (ranking_of shapes s).falls ≡ true → (b : Build) → Memᴰ b bs → (p : ℕ) → Memᴰ p b.parts
      → get_or (ranking_of shapes s).ranks (class_of s p) 0 < get_or (ranking_of shapes s).ranks (class_of s b.term) 0
  builds_fall e b m p n =
      let a : ActiveSlot t shapes slots s small b = build-active t shapes slots s small b m in
      let k : ℕ = a.place in
      let (q, h, z) = any_true_at (eqb p) b.parts 0 (member_of p b.parts n) in
      let is_part : part_class shapes s.classes k q ≡ class_of s p = ap (class_of s) (a.slot.part q (omega (arith, h, a.slot.few)) ∙ sym (eqb-true _ _ z)) in
      let is_own : own_class shapes s.classes k ≡ class_of s b.term = ap (class_of s) a.slot.owner in
      let l = ranks_fall shapes s e k q a.inside (omega (arith, h, a.slot.many)) a.is_active in
      subst (λ (c : ℕ). get_or (ranking_of shapes s).ranks c 0 < get_or (ranking_of shapes s).ranks (class_of s b.term) 0) is_part
      (subst (λ (c : ℕ). get_or (ranking_of shapes s).ranks (part_class shapes s.classes k q) 0 < get_or (ranking_of shapes s).ranks c 0) is_own l)

  -- ---- where no class is a part of itself, the builds reached from a class give heights

  pub parts-small : (b : Build) → Memᴰ b bs → All (λ p. class_of s p < term_count) b.parts
  parts-small =
      all_mem (all-builds t s (λ b m. all_weaken (λ p h. inside p h) (range.builds b m).2) (λ r m e. all_weaken (λ p h. inside p h) (range.reads r m).4))

  build-term : (b : Build) → Memᴰ b bs → Memᴰ (record { term = b.term; type = b.type }) t.terms
  build-term = all_mem (all-builds {P = λ b. Memᴰ (record { term = b.term; type = b.type }) t.terms} t s (λ b m. range.build_terms b m) (λ r m e. range.read_terms r m))

  heights : any (inside_itself s bs) t.terms ≡ false → (ranking_of shapes s).falls ≡ true
  heights none =
      heights_rank shapes s held (rank_of s bs parts-small)
      (λ c. omega (arith, filter-most (λ b. member (class_of s b.term) (from_class s bs parts-small c)) bs, few-builds g s, few-rows limits supported g ok, ok.type_count, supported.types))
      (λ k p h l a. down k p h l (active-build t shapes slots s small k h a))
    where
      down : (k p : ℕ) → k < 30 → p < many_at shapes k → BuildSlot t shapes slots s small k → rank_of s bs parts-small (part_class shapes s.classes k p) < rank_of s bs parts-small (own_class shapes s.classes k)
      down k p h l b =
          let is_part : class_of s (get_or b.build.parts p 0) ≡ part_class shapes s.classes k p = ap (class_of s) (sym (b.slot.part p (omega (arith, l, b.slot.many, b.slot.few)))) in
          let is_own : class_of s b.build.term ≡ own_class shapes s.classes k = ap (class_of s) (sym b.slot.owner) in
          let r =
          rank-part s bs parts-small b.build b.among (any_none (inside_itself s bs) t.terms none (record { term = b.build.term; type = b.build.type }) (build-term b.build b.among))
          (get_or b.build.parts p 0) (all_get_d (all_of b.build.parts (λ x m. m)) p 0 (omega (arith, l, b.slot.many))) in
          subst (λ (c : ℕ). rank_of s bs parts-small c < rank_of s bs parts-small (own_class shapes s.classes k)) is_part
          (subst (λ (c : ℕ). rank_of s bs parts-small (class_of s (get_or b.build.parts p 0)) < rank_of s bs parts-small c) is_own r)

  pub inside-same : not (ranking_of (shapes_of g) s).falls ≡ any (inside_itself s (builds_at (table_of g) s)) (table_of g).terms
  inside-same =
      both _ _ (λ e. by_test (any (inside_itself s bs) t.terms) (λ b. b) (λ b. absurd (false≢true (sym (ap not (heights b)) ∙ e))))
      (λ e. by_test (ranking_of shapes s).falls (λ b. let (x, m, q) = any_some (inside_itself s bs) t.terms e in absurd (not_inside s bs (λ c. get_or (ranking_of shapes s).ranks c 0) (builds_fall b) x q)) (λ b. ap not b))
