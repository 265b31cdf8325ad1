-- An open node has a model of few rows. Every class is drawn; the plans are those in closed form, with numbers past all
-- constants at their ends. The messages of all classes and what they are made of are a list that holds all their parts; its
-- length is bounded by the limits: the terms, the deepest class and the types. Assumes nothing.
use mathlib.Core.List.Memᴰ
use mathlib.Core.List.{List, map, [], ◌∷◌, Memᴰ, ◌++◌}
use Prim.Native.Nat.{ℕ, ◌+◌, ◌*◌, ◌≤◌, ◌-◌, zero, suc, ◌<◌}
use native.Mathlib.Omega.{arith}
use lib.ListN.{length, length-append, get_or-eq_default}
use mathlib.Core.Path.{◌≡◌, refl, ap, subst, sym}
use mathlib.Core.Bool.{Bool, true, false, not}
use lib.Dec.{eqb, leb}
use borrow.Author.Tests.{eqb-false, eq-eqb, leb-true, leb-false}
use lib.IntN.{ℤ, pos, negsuc}
use mathlib.Core.Option.{some}
use native.Mathlib.Nat.{mul-le-mul}
use Rattle.laws.specs.Lists.{concat_map, from, sum}
use Rattle.laws.proofs.Counts.{concat_map-length, sum-map-most}
use Rattle.laws.proofs.Lists.{all_of, all_weaken, map-from-length, map_inv, map-length, mem_map, none-some, sum-map-at}
use Rattle.laws.proofs.Members.{filter_drops}
use Rattle.guard.specs.Closure.{LacksAt, State, builds_at, class_of, closure_of}
use Rattle.guard.specs.Guard.{Guard, Literal, Row, Row.built, Row.constant, Row.field, Row.variable, row_at, type_at}
use Rattle.guard.specs.Limits.{Limits, Supported, base}
use Rattle.guard.specs.Meaning.{Holds, values}
use Rattle.guard.specs.Message.{Message}
use Rattle.guard.specs.Terms.{Const, Read, Term, default_term, field_terms, from_rows, pair_terms, read_of, row_term, sibling_term, siblings_of, table_of}
use Rattle.guard.specs.Types.{Variant, fields_of, is_number, variants_of}
use Rattle.guard.specs.WellFormed.{RowFits, WellFormed}
use Rattle.guard.proofs.TableLaws.{read_inv, row-fit, term-default, term-row}
use Rattle.growth.proofs.ClosedPlans.{Choices, closed_planned, closed_plan, closed_plan_ind}
use Rattle.growth.proofs.Growth.{TypesAccepted, types-accepted}
use Rattle.growth.proofs.Injective.{Kind, Kind.const}
use Rattle.growth.proofs.Plans.{Plan, Planned, plan_variant}
use Rattle.growth.proofs.Rows.{PartsIn, Valued, all_rows, class_in, rows-length, rows-parts}
use Rattle.models.proofs.Classes.{const_class, node_class}
use Rattle.models.proofs.Drawing.{Drawing, Drawn, drawn-default, drawn-holds, drawn-values, free_by, kind_at, message_of, shown_by}
use Rattle.models.proofs.FreeClasses.{lowest-held, lowest_held}
use Rattle.models.proofs.Messages.{class_rank, const-message, free-message, node-message}
use Rattle.models.proofs.Nodes.{NodeOf, OpenNode, TypedNode, not_inside, typed-node}
use Rattle.models.proofs.Ranks.{few-builds, rank_falls_lem, rank-low}
use Rattle.models.proofs.TypedTable.{term_type}

-- the rows of messages that always suffice: for each term its own message, a lap of its cycle, and a way to it
abbrev pub row_bound : Limits → ℕ
row_bound limits =
    let terms : ℕ = 3 * limits.terms + limits.types in
    terms + (terms * ((limits.terms + limits.types) + (limits.types - 1) + limits.types) + terms * limits.types)

-- "Within these limits 4,096 rows always suffice"
pub base-rows : row_bound base ≤ base.rows
base-rows = omega arith

-- the classes of all terms
classes : Guard → List Literal → List ℕ
classes g ls = map (λ x. class_of (closure_of (table_of g) ls) x.term) (table_of g).terms

-- how far up a number lies
abbrev magnitude : ℤ → ℕ
magnitude (pos n) = n
magnitude (negsuc n) = 0

-- ---- a guard has at most three terms for each row, and one for each type

pair-length : (ps fs : List ℕ) → length (pair_terms ps fs) ≤ length fs
pair-length [] fs = omega arith
pair-length (p ∷ ps) [] = omega arith
pair-length (p ∷ ps) (f ∷ fs) = omega (arith, pair-length ps fs)

-- the row itself is among the terms of its read's fields
own_field : (r p q s k : ℕ) (fs : Variant) → p ≡ q + k → k < length fs → (u : ℕ) × Memᴰ (record { term = r; type = u }) (pair_terms (field_terms r p q s fs) fs)
own_field r p q s k [] e h = absurd (omega arith)
own_field r p q s k (f ∷ fs) e h = go (λ s' j. own_field r p (suc q) s' j fs) (eqb p q) refl k e h
  where
    go : ((s' j : ℕ) → p ≡ suc q + j → j < length fs → (u : ℕ) × Memᴰ (record { term = r; type = u }) (pair_terms (field_terms r p (suc q) s' fs) fs)) → (b : Bool) → eqb p q ≡ b
        → (k : ℕ) → p ≡ q + k → k < suc (length fs)
        → (u : ℕ) × Memᴰ (record { term = r; type = u }) (pair_terms (elim b [ true ↦ r ∷ field_terms r p (suc q) s fs | false ↦ s ∷ field_terms r p (suc q) (suc s) fs ]) (f ∷ fs))
    go ih true x k e h = (f, Memᴰ.head refl)
    go ih false x zero e h = absurd (eqb-false p q x (omega arith))
    go ih false x (suc k) e h = let (u, m) = ih (suc s) k (omega arith) (omega arith) in (u, Memᴰ.tail m)

rows-length_of : {A : Type 0} (f : ℕ → Row → List A) (i : ℕ) (rs : List Row) → ((i : ℕ) (r : Row) → length (f i r) ≤ 1) → length (from_rows f i rs) ≤ length rs
rows-length_of f i [] h = omega arith
rows-length_of f i (r ∷ rs) h = omega (arith, h i r, rows-length_of f (suc i) rs h, length-append (f i r) (from_rows f (suc i) rs))

module _ (limits : Limits) (sup : Supported limits) (g : Guard) (ok : WellFormed limits g) where
  siblings_few : (r : Read) → Memᴰ r (table_of g).reads → length (siblings_of g.types r) ≤ 2
  siblings_few =
      read_inv g (λ r. length (siblings_of g.types r) ≤ 2)
      (λ i t a v p h e.
      let f : RowFits g.types g.rows i (field t a v p) = row-fit limits sup g ok i (field t a v p) h e in
      let (u, m) = own_field i p 0 (sibling_term i) p (fields_of g.types t v) (omega arith) f.3 in
      omega (
        arith,
        ok.field_counts t v,
        pair-length (field_terms i p 0 (sibling_term i) (fields_of g.types t v)) (fields_of g.types t v),
        filter_drops (λ x. not (eqb x.term i)) (pair_terms (field_terms i p 0 (sibling_term i) (fields_of g.types t v)) (fields_of g.types t v)) (record { term = i; type = u }) m (ap not (eq-eqb i i refl)),
      ))

  terms-few : length (table_of g).terms ≤ 3 * length g.rows + length g.types
  unfolding table_of
  terms-few =
      omega (
        arith,
        length-append (rows ++ siblings) default_terms,
        length-append rows siblings,
        rows-length_of (row_term g.types) 0 g.rows (λ i r. omega arith),
        rows-length_of (read_of g.types) 0 g.rows one-read,
        concat_map-length (siblings_of g.types) reads,
        sum-map-most (λ r. length (siblings_of g.types r)) 2 reads siblings_few,
        map-from-length {A = Term} (λ t. record { term = default_term t; type = t }) (length g.types) 0,
      )
    where
      rows : List Term
      rows = from_rows (row_term g.types) 0 g.rows

      reads : List Read
      reads = from_rows (read_of g.types) 0 g.rows

      siblings : List Term
      siblings = concat_map (siblings_of g.types) reads

      default_terms : List Term
      default_terms = map (λ t. record { term = default_term t; type = t }) (from (length g.types) 0)

      one-read : (i : ℕ) (r : Row) → length (read_of g.types i r) ≤ 1
      one-read i (variable t) = omega arith
      one-read i (constant t z) = omega arith
      one-read i (built t v ps) = omega arith
      one-read i (field t a v p) = omega arith

  -- ---- the closed-form drawing of an open node

  module _ (ls : List Literal) (nd : NodeOf g ls) (o : OpenNode (table_of g) ls) where
    abbrev S : State
    S = closure_of (table_of g) ls

    abbrev node' : TypedNode (table_of g) ls (term_type g)
    node' = typed-node limits sup g ok ls nd

    -- every class is drawn
    abbrev All' : ℕ → Type 0
    All' c = Unit {0}

    -- past every constant of the guard
    top : ℕ
    top = suc (sum (map (λ a. magnitude a.value) (table_of g).consts))

    end_for : ℕ → ℤ
    end_for c = pos (top + c)

    variant_for : ℕ → ℕ
    variant_for = lowest_held (table_of g) ls (term_type g) node' o

    deep : ℕ
    deep = length (builds_at (table_of g) S)

    plan : ℕ → Plan
    plan = closed_plan g.types (term_type g) variant_for (classes g ls) deep end_for

    abbrev kind : ℕ → Kind
    kind = kind_at limits sup g ok ls nd o All' plan

    abbrev In : ℕ → Type 0
    In = Drawn limits sup g ok ls nd o All' plan

    accepted : TypesAccepted g.types
    accepted = types-accepted limits g ok

    in_classes : (c : ℕ) → In c → Memᴰ c (classes g ls)
    unfolding classes
    in_classes c ((x, m, e), u) = subst (λ (d : ℕ). Memᴰ d (classes g ls)) e (mem_map (λ x. class_of S x.term) m)

    top_positive : 0 < top
    unfolding top
    top_positive = omega arith

    below_top : (a : Const) → Memᴰ a (table_of g).consts → magnitude a.value < top
    unfolding top
    below_top a m = omega (arith, sum-map-at (λ a. magnitude a.value) (table_of g).consts a m)

    abbrev val : ℕ → Message
    val = message_of limits sup g ok ls nd o All' plan

    choices-made : Choices g.types (term_type g) variant_for (classes g ls) deep end_for In kind val
    unfolding table_of end_for variant_for plan
    choices-made =
        record {
          few = λ c i f. in_classes c i;
          wide = λ c i f e. (lowest-held (table_of g) ls (term_type g) node' o c i.0 f e).fields;
          fresh = λ u w i f cu iw e. constant_end u w e;
          own = λ u w i f cu iw fw cw e. same u w e;
          nonzero = λ u i f cu e. zero_end u e;
          free-val = λ c i f. free-message (table_of g) ls (term_type g) node' o (free_by limits sup g ok ls nd o All' plan) c f;
          node-val = λ c v i e. node-message (table_of g) ls (term_type g) node' o (free_by limits sup g ok ls nd o All' plan) c v [] e;
          const-val = λ c z i e. const-message (table_of g) ls (term_type g) node' o (free_by limits sup g ok ls nd o All' plan) c z e;
        }
      where
        constant_end : (u w : ℕ) → kind w ≡ const (pos (top + u)) → ⊥
        constant_end u w e =
            let c = const_class (table_of g) ls (term_type g) node' o w (pos (top + u)) e in
            let q : magnitude (pos (top + u)) ≡ magnitude c.const.value = ap magnitude c.value in
            omega (arith, below_top c.const c.mem, q)

        same : (u w : ℕ) → pos (top + u) ≡ pos (top + w) → w ≡ u
        same u w e = let q : top + u ≡ top + w = cc in omega arith

        zero_end : (u : ℕ) → ¬ (pos (top + u) ≡ pos 0)
        zero_end u e = let q : top + u ≡ 0 = cc in omega (arith, top_positive)

    planned : Planned g.types In (term_type g) kind val deep plan
    unfolding plan
    planned = closed_planned g.types (term_type g) variant_for (classes g ls) deep end_for In kind val accepted choices-made

    -- the variant of a plan is the lowest with fields in the label
    plan_variant_lem : (c v : ℕ) → plan_variant (plan c) ≡ some v → (v ≡ variant_for c) × (is_number g.types (term_type g c) ≡ false)
    unfolding plan
    plan_variant_lem c v =
        closed_plan_ind g.types (term_type g) variant_for (classes g ls) deep end_for (λ p. plan_variant p ≡ some v → (v ≡ variant_for c) × (is_number g.types (term_type g c) ≡ false)) c
        (λ e q. absurd (none-some v q)) (λ e h q. ((cc), e)) (λ e h l q. ((cc), e))

    rank : ℕ → ℕ
    rank = class_rank (table_of g) ls (term_type g) node' o

    drawing : Drawing limits sup g ok ls nd o All' plan rank deep
    unfolding table_of deep variant_for rank
    drawing =
        record {
          ranks = rank_falls_lem (table_of g) ls node'.in_range node'.literals_in_range (not_inside (table_of g) ls S o.not_closed);
          low = λ c i. rank-low (table_of g) ls node'.in_range node'.literals_in_range (not_inside (table_of g) ls S o.not_closed) c;
          rows = λ i h. tt;
          parts = λ b m u. all_of b.parts (λ p k. tt);
          fits = planned.fits;
          held = λ c i f v q x m e. let (ev, en) = plan_variant_lem c v q in subst (λ (w : ℕ). ¬ LacksAt S x.term w) (sym ev) ((lowest-held (table_of g) ls (term_type g) node' o c i.0 f en).held x m e);
          fresh = planned.fresh;
          own = planned.own;
          nonzero = planned.nonzero;
          long = planned.long;
          gap = planned.gap;
        }

    -- ---- the rows

    abbrev rows : List Message
    rows = all_rows g.types (term_type g) variant_for (classes g ls) deep end_for kind val

    class_of_lem : (c : ℕ) → Memᴰ c (classes g ls) → In c
    unfolding classes
    class_of_lem = map_inv (λ x. class_of S x.term) In (table_of g).terms (λ x m. ((x, m, refl), tt))

    valued : Valued g.types (term_type g) variant_for (classes g ls) deep end_for kind val
    unfolding plan
    valued =
        record {
          node-val = λ c v ps m e. node-message (table_of g) ls (term_type g) node' o (free_by limits sup g ok ls nd o All' plan) c v ps e;
          node_in = λ c v ps m e. all_weaken (λ p q. in_classes p (q, tt)) (node_class (table_of g) ls (term_type g) node' o c v ps e).part_classes;
          const-val = λ c z m e. const-message (table_of g) ls (term_type g) node' o (free_by limits sup g ok ls nd o All' plan) c z e;
          free-val = λ c m e. free-message (table_of g) ls (term_type g) node' o (free_by limits sup g ok ls nd o All' plan) c e;
          default-val = λ t h. (class_of S (default_term t), in_classes (class_of S (default_term t)) ((record { term = default_term t; type = t }, term-default g t h, refl), tt), drawn-default limits sup g ok ls nd o All' plan rank deep drawing t h tt);
        }

    classes-few : length (classes g ls) ≤ 3 * limits.terms + limits.types
    unfolding classes
    classes-few = omega (arith, map-length (λ x. class_of S x.term) (table_of g).terms, terms-few, ok.term_count, ok.type_count)

    deep_few : deep ≤ limits.terms + limits.types
    unfolding deep
    deep_few = omega (arith, few-builds g S, ok.term_count, ok.type_count)

    rows_few : 0 < length g.types → length rows ≤ row_bound limits
    rows_few h =
        bound (length (classes g ls)) deep (length g.types) (length rows) classes-few deep_few ok.type_count
        (rows-length g.types (term_type g) variant_for (classes g ls) deep end_for kind val accepted h)
      where
        bound : (c d n r : ℕ) → c ≤ 3 * limits.terms + limits.types → d ≤ limits.terms + limits.types → n ≤ limits.types
            → r ≤ c + (c * (d + (n - 1) + n) + c * n) → r ≤ row_bound limits
        bound c d n r hc hd hn hr =
            let a : c * (d + (n - 1) + n) ≤ (3 * limits.terms + limits.types) * ((limits.terms + limits.types) + (limits.types - 1) + limits.types) = mul-le-mul hc (omega arith) in
            let b : c * n ≤ (3 * limits.terms + limits.types) * limits.types = mul-le-mul hc hn in
            omega arith

-- ---- the model

-- messages that make a guard hold, with a list of at most so many rows for them and all their parts
pub record FewRows (g : Guard) (most : ℕ) : Type 0 where
  pub assignment : ℕ → Message
  pub holds : Holds g assignment
  -- the assignment gives each row's number the row's value
  pub valued : values g assignment ≡ map assignment (from (length g.rows) 0)
  pub rows : List Message
  pub shown : (i : ℕ) → i < length g.rows → Memᴰ (assignment i) rows
  pub parts : (m : Message) → Memᴰ m rows → PartsIn rows m
  pub few : length rows ≤ most

-- an open node has messages that make the guard hold, in at most `row_bound limits` rows
pub open_few_rows : (limits : Limits) (sup : Supported limits) (g : Guard) (ok : WellFormed limits g) (ls : List Literal) → NodeOf g ls → OpenNode (table_of g) ls → FewRows g (row_bound limits)
open_few_rows limits sup g ok ls nd o = go (leb 1 (length g.types)) refl
  where
    shown : ℕ → Message
    shown = shown_by limits sup g ok ls nd o (All' limits sup g ok ls nd o) (plan limits sup g ok ls nd o)

    -- a guard without types has no rows
    no_rows : length g.types < 1 → (i : ℕ) → i < length g.rows → ⊥
    no_rows h i l = none-fits (row_at g.rows i) (ok.rows i l)
      where
        none-fits : (r : Row) → RowFits g.types g.rows i r → ⊥
        none-fits (variable t) f = omega (arith, f)
        none-fits (constant t z) f = omega (arith, f.0)
        none-fits (built t v ps) f = omega (arith, f.0)
        none-fits (field t a v p) f = let e : length (variants_of g.types t) ≡ 0 = ap length (get_or-eq_default g.types [] {n = t} (omega arith)) in omega (arith, f.2)

    go : (b : Bool) → leb 1 (length g.types) ≡ b → FewRows g (row_bound limits)
    go true e =
        record {
          assignment = shown;
          holds = drawn-holds limits sup g ok ls nd o (All' limits sup g ok ls nd o) (plan limits sup g ok ls nd o) (rank limits sup g ok ls nd o) (deep limits sup g ok ls nd o) (drawing limits sup g ok ls nd o) shown (λ i h. refl);
          valued = drawn-values limits sup g ok ls nd o (All' limits sup g ok ls nd o) (plan limits sup g ok ls nd o) (rank limits sup g ok ls nd o) (deep limits sup g ok ls nd o) (drawing limits sup g ok ls nd o) shown (λ i h. refl);
          rows = rows limits sup g ok ls nd o;
          shown = λ i h.
              class_in g.types (term_type g) (variant_for limits sup g ok ls nd o) (classes g ls) (deep limits sup g ok ls nd o) (end_for limits sup g ok ls nd o) (kind limits sup g ok ls nd o) (val limits sup g ok ls nd o)
              (class_of (closure_of (table_of g) ls) i) (in_classes limits sup g ok ls nd o (class_of (closure_of (table_of g) ls) i) ((record { term = i; type = type_at g.types g.rows i }, term-row g i h, refl), tt));
          parts = rows-parts g.types (term_type g) (variant_for limits sup g ok ls nd o) (classes g ls) (deep limits sup g ok ls nd o) (end_for limits sup g ok ls nd o) (kind limits sup g ok ls nd o) (val limits sup g ok ls nd o) (accepted limits sup g ok ls nd o) (leb-true 1 _ e) (valued limits sup g ok ls nd o);
          few = rows_few limits sup g ok ls nd o (leb-true 1 _ e);
        }
    go false e =
        record {
          assignment = shown;
          holds = drawn-holds limits sup g ok ls nd o (All' limits sup g ok ls nd o) (plan limits sup g ok ls nd o) (rank limits sup g ok ls nd o) (deep limits sup g ok ls nd o) (drawing limits sup g ok ls nd o) shown (λ i h. refl);
          valued = drawn-values limits sup g ok ls nd o (All' limits sup g ok ls nd o) (plan limits sup g ok ls nd o) (rank limits sup g ok ls nd o) (deep limits sup g ok ls nd o) (drawing limits sup g ok ls nd o) shown (λ i h. refl);
          rows = [];
          shown = λ i h. absurd (no_rows (leb-false 1 _ e) i h);
          parts = λ m k. absurd (Memᴰ.not-nil k);
          few = omega arith;
        }
