-- The plans that the arrays of an open node give are those that `Drawing` of crate `models` asks for: numbers at ends are
-- fresh, since each free class that ends in a number gets the next one; ranks fall, since the node is not closed; and the
-- rest is that of plans in closed form. Assumes nothing.
use mathlib.Core.Path.{◌≡◌, ap, sym, ◌∙◌, subst}
use mathlib.Core.Bool.{Bool, true, false, cond, not, ◌&&◌, false≢true}
use mathlib.Core.List.{List, [], Memᴰ}
use mathlib.Core.Option.{some}
use Prim.Native.Nat.{ℕ, zero, suc, ◌≤◌, ◌<◌, max}
use native.Mathlib.Omega.{arith}
use lib.Dec.{eqb, ltb}
use lib.IntN.{pos}
use lib.ListN.{get_or, length}
use borrow.Author.Tests.{eq-eqb, eqb-true, le-ltb, lt-ltb, ltb-false, ltb-true, ne_eqb}
use Rattle.laws.specs.All.{All}
use Rattle.laws.specs.Lists.{from}
use Rattle.laws.proofs.Bools.{and_both, and_left, and_right, by_test}
use Rattle.laws.proofs.Lists.{all_mem, all_of, any_some, filter_mem, mem_from, none-some}
use Rattle.laws.proofs.Members.{filter_lt, member_of}
use Rattle.laws.proofs.Positions.{any_true_at}
use Rattle.guard.specs.Closure.{LacksAt, State, builds_at, class_of, closure_of}
use Rattle.guard.specs.Guard.{Guard, Literal}
use Rattle.guard.specs.Limits.{Limits, Supported, total_variant_limit}
use Rattle.guard.specs.Message.{Message, Message.made, Message.number, Parts.nil}
use Rattle.guard.specs.Node.{inside_itself}
use Rattle.guard.specs.Rules.{BuiltAt}
use Rattle.guard.specs.Terms.{Build, table_of, term_count}
use Rattle.guard.specs.Types.{fields_of, is_number}
use Rattle.guard.specs.WellFormed.{WellFormed}
use Rattle.guard.proofs.Agreement.{Agrees, builds-agree, closed-agrees}
use Rattle.guard.proofs.ClosureBelow.{all-builds}
use Rattle.guard.proofs.ClosureState.{Small}
use Rattle.growth.proofs.ClosedPlans.{Choices, closed_planned, closed_plan_ind}
use Rattle.growth.proofs.Growth.{TypesAccepted, types-accepted}
use Rattle.growth.proofs.Injective.{Kind, Kind.const, Kind.free}
use Rattle.growth.proofs.Plans.{PlanFits, Planned, plan_variant, planned_message, root_by}
use Rattle.models.proofs.Classes.{const_class}
use Rattle.models.proofs.Drawing.{Drawing, Drawn, free_by, kind_at, message_of}
use Rattle.models.proofs.Messages.{const-message, free-message, node-message}
use Rattle.models.proofs.Nodes.{NodeOf, OpenNode, TypedNode, build_of_lem, class_small, not_inside, typed-node}
use Rattle.models.proofs.TypedTable.{term_type}
use Rattle.tables.specs.Layout.{flat}
use Rattle.classes.specs.Held.{Held}
use Rattle.arrays.specs.Arrays.{constants_of, shapes_of}
use Rattle.arrays.proofs.GuardSlots.{shape_slots}
use Rattle.arrays.proofs.ActiveSlots.{build-active}
use Rattle.constants.proofs.ConstantSlots.{constant_slots}
use Rattle.ranks.specs.Ranks.{own_class, part_class, ranking_of}
use Rattle.ranks.proofs.CycleLaws.{inside-same}
use Rattle.ranks.proofs.RankLaws.{ranks_fall}
use Rattle.needed.specs.Needed.{Marks, Needed}
use Rattle.needed.proofs.NeededLaws.{need_parts_lem, need_rows}
use Rattle.plans.specs.Chosen.{higher_at, highest_below, highest_of, is_marked}
use Rattle.plans.specs.Fresh.{fresh_after}
use Rattle.plans.specs.Plans.{OpenState, circling, end_for, ends_before, free_classes, highest_rank, is_free, open_of, plan_for, type_for, variant_for}
use Rattle.plans.proofs.ClassLaws.{free_back, need_class, need_small, type_for_lem, variant-held}
use Rattle.plans.proofs.FreshLaws.{fresh_once, fresh_positive, fresh_untaken, taken_of}

-- ---- the highest rank is as high as each

pub highest-at : (marks ranks : List ℕ) (n c : ℕ) → c < n → get_or marks c 0 ≡ 0 → get_or ranks c 0 ≤ highest_below marks ranks n
unfolding highest_below higher_at is_marked
highest-at marks ranks zero c h e = absurd (omega arith)
highest-at marks ranks (suc n) c h e =
    by_test (eqb c n)
    (λ b. let q : c ≡ n = eqb-true _ _ b in
    let z : highest_below marks ranks (suc n) ≡ max (highest_below marks ranks n) (get_or ranks n 0) = here (sym (ap (λ (k : ℕ). get_or marks k 0) q) ∙ e) in
    omega (arith, z, ap (λ (k : ℕ). get_or ranks k 0) q))
    (λ b. let d : ¬ (c ≡ n) = ne c n b in
    omega (arith, highest-at marks ranks n c (omega arith) e, up (eqb (get_or marks n 0) 0)))
  where
    here : get_or marks n 0 ≡ 0 → cond (eqb (get_or marks n 0) 0) (max (highest_below marks ranks n) (get_or ranks n 0)) (highest_below marks ranks n) ≡ max (highest_below marks ranks n) (get_or ranks n 0)
    here q = ap (λ (b : Bool). cond b (max (highest_below marks ranks n) (get_or ranks n 0)) (highest_below marks ranks n)) (eq-eqb (get_or marks n 0) 0 q)

    up : (b : Bool) → highest_below marks ranks n ≤ cond b (max (highest_below marks ranks n) (get_or ranks n 0)) (highest_below marks ranks n)
    up true = omega arith
    up false = omega arith

    ne : (a b : ℕ) → eqb a b ≡ false → ¬ (a ≡ b)
    ne a b q r = false≢true (sym q ∙ eq-eqb a b r)

-- ---- numbers at ends

module _ (x : OpenState) where
  free_among : (c : ℕ) → c < 78 → is_free x c ≡ true → Memᴰ c (free_classes x)
  unfolding free_classes
  free_among c h e = filter_mem (is_free x) (from 78 0) c (mem_from 78 0 c (omega arith) (omega arith)) e

  -- a class that ends in a number is counted before those above it
  ends-less : (u w : ℕ) → u < w → Memᴰ u (free_classes x) → circling x u ≡ false → ends_before x u < ends_before x w
  unfolding ends_before
  ends-less u w h m e =
      filter_lt (λ y. ltb y u && not (circling x y)) (λ y. ltb y w && not (circling x y)) (free_classes x)
      (λ y n q. and_both (ltb y w) (not (circling x y)) (lt-ltb y w (omega (arith, ltb-true y u (and_left (ltb y u) _ q)))) (and_right (ltb y u) _ q))
      u m (ap (λ (b : Bool). b && not (circling x u)) (le-ltb u u (omega arith))) (and_both (ltb u w) (not (circling x u)) (lt-ltb u w h) (ap not e))

  ends_once : (u w : ℕ) → Memᴰ u (free_classes x) → Memᴰ w (free_classes x) → circling x u ≡ false → circling x w ≡ false → ends_before x u ≡ ends_before x w → w ≡ u
  ends_once u w mu mw eu ew q =
      by_test (ltb u w) (λ b. absurd (omega (arith, ends-less u w (ltb-true _ _ b) mu eu)))
      (λ b. by_test (ltb w u) (λ d. absurd (omega (arith, ends-less w u (ltb-true _ _ d) mw ew))) (λ d. omega (arith, ltb-false u w b, ltb-false w u d)))

  pos_same : (a b : ℕ) → pos a ≡ pos b → a ≡ b
  pos_same a b e = cc

  end_once : (u w : ℕ) → Memᴰ u (free_classes x) → Memᴰ w (free_classes x) → circling x u ≡ false → circling x w ≡ false → end_for x u ≡ end_for x w → w ≡ u
  unfolding end_for
  end_once u w mu mw eu ew q =
      ends_once u w mu mw eu ew (omega (arith, fresh_once x.constants x.values _ _ (pos_same _ _ q)))

  end_nonzero : (c : ℕ) → ¬ (end_for x c ≡ pos 0)
  unfolding end_for
  end_nonzero c q = omega (arith, fresh_positive x.constants x.values (ends_before x c), pos_same _ _ q)

module _ (limits : Limits) (sup : Supported limits) (g : Guard) (ok : WellFormed limits g) (total : length (flat g.types) ≤ total_variant_limit)
    (ls : List Literal) (nd : NodeOf g ls) (o : OpenNode (table_of g) ls) (s : State) (agree : Agrees s (closure_of (table_of g) ls)) (small : Small s)
    (marks : List ℕ) (is_marks : Marks (shapes_of g) s (length g.rows) marks) (held : Held s.classes) where
  abbrev S : State
  S = closure_of (table_of g) ls

  abbrev typed : TypedNode (table_of g) ls (term_type g)
  typed = typed-node limits sup g ok ls nd

  abbrev x : OpenState
  x = open_of g s marks

  abbrev Need : ℕ → Type 0
  Need = Needed (shapes_of g) s (length g.rows)

  -- a class that gets a message, as `Drawing` has it
  abbrev pub Drawn' : ℕ → Type 0
  Drawn' = Drawn limits sup g ok ls nd o (Needed (shapes_of g) s (length g.rows)) (plan_for (open_of g s marks))

  pub drawn_of_need : (c : ℕ) → Need c → Drawn' c
  drawn_of_need c n = (need_class limits sup g ok total ls nd o s agree small marks is_marks c n, n)

  abbrev kind : ℕ → Kind
  kind = kind_at limits sup g ok ls nd o Need (plan_for x)

  abbrev val : ℕ → Message
  val = message_of limits sup g ok ls nd o Need (plan_for x)

  abbrev by_plan : ℕ → Message
  by_plan = free_by limits sup g ok ls nd o Need (plan_for x)

  drawn-type : (c : ℕ) → Drawn' c → type_for x c ≡ term_type g c
  drawn-type c i = type_for_lem limits sup g ok total ls nd o s agree small marks is_marks c i.1

  drawn_among : (c : ℕ) → Drawn' c → kind c ≡ free → Memᴰ c (free_classes x)
  drawn_among c i f = free_among x c (need_small limits sup g ok total ls nd o s agree small marks is_marks c i.1) (free_back limits sup g ok total ls nd o s agree small marks is_marks c i.1 f)

  -- ---- ranks

  pub falls : (ranking_of (shapes_of g) s).falls ≡ true
  falls =
      by_test (ranking_of (shapes_of g) s).falls (λ b. b)
      (λ b. let (y, m, q) = any_some (inside_itself s (builds_at (table_of g) s)) (table_of g).terms
      (sym (inside-same limits sup g ok total s small held (λ i h. subst (λ (d : ℕ). d < term_count) (sym (agree.class i h)) (class_small (table_of g) ls typed.in_range typed.literals_in_range i h))) ∙ ap not b) in
      absurd (false≢true (sym (not_inside (table_of g) ls s (closed-agrees (table_of g) ls typed.in_range typed.literals_in_range s S agree ∙ o.not_closed) y m) ∙ q)))

  abbrev rank : ℕ → ℕ
  rank c = get_or (ranking_of (shapes_of g) s).ranks c 0

  -- the numbers of a build are those of terms
  abbrev Inside : Build → Type 0
  Inside b = (b.term < term_count) × All (λ p. p < term_count) b.parts

  inside_of : (b : Build) → Memᴰ b (builds_at (table_of g) S) → Inside b
  inside_of =
      all_mem (all-builds {P = Inside} (table_of g) S (λ b m. ((typed.in_range.builds b m).0, (typed.in_range.builds b m).2)) (λ r m e. ((typed.in_range.reads r m).1, (typed.in_range.reads r m).4)))

  ranks-below : (b : Build) → BuiltAt (table_of g) (LacksAt S) b → All (λ p. rank (class_of S p) < rank (class_of S b.term)) b.parts
  ranks-below b built =
      let m : Memᴰ b (builds_at (table_of g) S) = build_of_lem (table_of g) ls typed.in_range typed.literals_in_range b built in
      let (term, parts) = inside_of b m in
      let a =
      build-active (table_of g) (shapes_of g) (shape_slots limits sup g ok total) s small b (subst (Memᴰ b) (sym (builds-agree (table_of g) typed.in_range s S agree)) m) in
      let own : own_class (shapes_of g) s.classes a.place ≡ class_of S b.term = ap (class_of s) a.slot.owner ∙ agree.class b.term term in
      all_of b.parts (λ p n.
      let (q, h, z) = any_true_at (eqb p) b.parts 0 (member_of p b.parts n) in
      let part : part_class (shapes_of g) s.classes a.place q ≡ class_of S p = ap (class_of s) (a.slot.part q (omega (arith, h, a.slot.few)) ∙ sym (eqb-true _ _ z)) ∙ agree.class p (all_mem parts p n) in
      subst (λ (c : ℕ). rank c < rank (class_of S b.term)) part
      (subst (λ (c : ℕ). rank (part_class (shapes_of g) s.classes a.place q) < rank c) own (ranks_fall (shapes_of g) s falls a.place q a.inside (omega (arith, h, a.slot.many)) a.is_active)))

  rank-low : (c : ℕ) → Need c → rank c ≤ highest_rank x
  unfolding highest_rank highest_of
  rank-low c n = highest-at marks (ranking_of (shapes_of g) s).ranks 78 c (need_small limits sup g ok total ls nd o s agree small marks is_marks c n) (is_marks.each c n)

  -- ---- plans

  accepted : TypesAccepted g.types
  accepted = types-accepted limits g ok

  -- no drawn constant is at an end
  not_constant : (u w : ℕ) → kind w ≡ const (end_for x u) → ⊥
  unfolding end_for
  not_constant u w e =
      let z : ℕ = fresh_after x.constants x.values (suc (ends_before x u)) in
      let c = const_class (table_of g) ls (term_type g) typed o w (pos z) e in
      let (k, h, slot) = (constant_slots limits sup g ok total).slot c.const c.mem in
      false≢true (sym (fresh_untaken x.constants x.values (ends_before x u))
      ∙ taken_of x.constants x.values z k h (ap not (ne_eqb (get_or (constants_of g) k 0) 0 (λ q. omega (arith, q, slot.type)))) (slot.value ∙ sym c.value))

  choices-made : Choices g.types (type_for x) (variant_for x) (free_classes x) (highest_rank x) (end_for x) Drawn' kind val
  unfolding plan_for circling table_of
  choices-made =
      record {
        few = drawn_among;
        wide = λ c i f e. wide c i f e;
        fresh = λ u w i f cu iw e. not_constant u w e;
        own = λ u w i f cu iw fw cw e. end_once x u w (drawn_among u i f) (drawn_among w iw fw) cu cw e;
        nonzero = λ u i f cu e. end_nonzero x u e;
        free-val = λ c i f. free-message (table_of g) ls (term_type g) typed o by_plan c f ∙ ap (λ (t : ℕ). planned_message g.types t (plan_for x c)) (sym (drawn-type c i));
        node-val = λ c v i e. node-message (table_of g) ls (term_type g) typed o by_plan c v [] e ∙ ap (λ (t : ℕ). made t v nil) (sym (drawn-type c i));
        const-val = λ c z i e. const-message (table_of g) ls (term_type g) typed o by_plan c z e ∙ ap (λ (t : ℕ). number t z) (sym (drawn-type c i));
      }
    where
      wide : (c : ℕ) → Drawn' c → kind c ≡ free → is_number g.types (type_for x c) ≡ false → 0 < length (fields_of g.types (type_for x c) (variant_for x c))
      wide c i f e =
          subst (λ (t : ℕ). 0 < length (fields_of g.types t (variant_for x c))) (sym (drawn-type c i))
          (variant-held limits sup g ok total ls nd o s agree small marks is_marks c i.0 f (ap (is_number g.types) (sym (drawn-type c i)) ∙ e)).fields

  planned : Planned g.types Drawn' (type_for x) kind val (highest_rank x) (plan_for x)
  unfolding plan_for
  planned = closed_planned g.types (type_for x) (variant_for x) (free_classes x) (highest_rank x) (end_for x) Drawn' kind val accepted choices-made

  -- the variant of a plan
  plan_variant_lem : (c v : ℕ) → plan_variant (plan_for x c) ≡ some v → (v ≡ variant_for x c) × (is_number g.types (type_for x c) ≡ false)
  unfolding plan_for
  plan_variant_lem c v =
      closed_plan_ind g.types (type_for x) (variant_for x) (free_classes x) (highest_rank x) (end_for x) (λ p. plan_variant p ≡ some v → (v ≡ variant_for x c) × (is_number g.types (type_for x c) ≡ false)) c
      (λ e q. absurd (none-some v q)) (λ e h q. ((cc), e)) (λ e h l q. ((cc), e))

  pub plans_drawing : Drawing limits sup g ok ls nd o (Needed (shapes_of g) s (length g.rows)) (plan_for (open_of g s marks)) (λ c. get_or (ranking_of (shapes_of g) s).ranks c 0) (highest_rank (open_of g s marks))
  unfolding table_of
  plans_drawing =
      record {
        ranks = ranks-below;
        low = λ c i. rank-low c i.1;
        rows = need_rows limits sup g ok total ls typed.literals_in_range s small agree;
        parts = need_parts_lem limits sup g ok total ls typed.literals_in_range s small agree;
        fits = λ c i f. subst (λ (t : ℕ). PlanFits g.types t (plan_for x c)) (drawn-type c i) (planned.fits c i f);
        held = λ c i f v q y m e. let (ev, en) = plan_variant_lem c v q in
            subst (λ (w : ℕ). ¬ LacksAt S y.term w) (sym ev)
            ((variant-held limits sup g ok total ls nd o s agree small marks is_marks c i.0 f (ap (is_number g.types) (sym (drawn-type c i)) ∙ en)).held y m e);
        fresh = planned.fresh;
        own = planned.own;
        nonzero = planned.nonzero;
        long = planned.long;
        gap = λ u w v y n k i f e iw fw ew r hk. planned.gap u w v y n k i f e iw fw ew
            (ap (λ (t : ℕ). root_by g.types t v) (drawn-type u i) ∙ r ∙ ap (λ (t : ℕ). root_by g.types t y) (sym (drawn-type w iw))) hk;
      }
