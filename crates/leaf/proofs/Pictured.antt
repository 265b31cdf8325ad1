-- The messages that crate `models` draws for an open node of a guard are those that the slots of its arrays say: a class
-- with a shape has that variant over the messages of its parts' classes, a class with a constant that number, a class of
-- one fieldless variant that variant, and a free class the message of its plan. Assumes nothing.
use mathlib.Core.Path.{◌≡◌, refl, ap, sym, ◌∙◌, subst}
use mathlib.Core.Bool.{true}
use mathlib.Core.List.{List, [], Memᴰ, map}
use Prim.Native.Nat.{ℕ, ◌≤◌, ◌<◌}
use native.Mathlib.Omega.{arith}
use lib.IntN.{ℤ}
use lib.ListN.{length, get_or}
use Rattle.laws.specs.All.{All}
use Rattle.laws.specs.Lists.{from}
use Rattle.laws.proofs.Lists.{all_get_d, all_weaken, by_positions, from_bounds, map_cong, map-map}
use Rattle.guard.specs.Closure.{LacksAt, State, builds_at, class_of, closure_of, label_of}
use Rattle.guard.specs.Guard.{Guard, Literal}
use Rattle.guard.specs.Limits.{Limits, Supported, total_variant_limit}
use Rattle.guard.specs.Message.{Message, Message.made, to_parts}
use Rattle.guard.specs.Rules.{BuiltAt, BuiltAt.read, BuiltAt.row}
use Rattle.guard.specs.Shown.{message_type}
use Rattle.guard.specs.Terms.{Build, table_of, term_count}
use Rattle.guard.specs.Types.{Types, fields_of, is_number}
use Rattle.guard.specs.WellFormed.{WellFormed}
use Rattle.guard.proofs.Agreement.{Agrees}
use Rattle.guard.proofs.ClosureState.{Small}
use Rattle.growth.proofs.Injective.{Kind, Kind.free}
use Rattle.growth.proofs.Plans.{planned_message}
use Rattle.models.proofs.Classes.{ConstClass, IsClass, NodeClass, const_class, node_class, type-at}
use Rattle.models.proofs.Drawing.{Drawing, drawn-belongs, free_by, message_of}
use Rattle.models.proofs.Messages.{const-message, free-message, node-message}
use Rattle.models.proofs.Nodes.{NodeOf, OpenNode, TypedNode, built_of_lem, built-term, typed-node}
use Rattle.models.proofs.TypedTable.{term_type}
use Rattle.tables.specs.Layout.{flat, row_table}
use Rattle.tables.proofs.Lookups.{map_at}
use Rattle.arrays.specs.Arrays.{constants_of, fieldless_of, kind_number, shapes_of, sorts_of}
use Rattle.arrays.specs.Slots.{many_at, part_at}
use Rattle.constants.specs.Constants.{constant_value}
use Rattle.splits.specs.Choice.{lowest_in}
use Rattle.rowstore.proofs.RowLaws.{belongs-type}
use Rattle.kinds.specs.Found.{constant_of, is_shape, single_of}
use Rattle.kinds.proofs.KindLaws.{ConstantClass, ShapeClass, SingleClass, found-constant, found-single, kind, shape_class}
use Rattle.needed.proofs.NeededLaws.{Need, need_parts_lem}
use Rattle.plans.specs.Plans.{OpenState, is_free, plan_for, type_for}
use Rattle.leaf.specs.Picture.{ConstantIs, Pictured, ShapeIs, SingleIs, Wanted, part_class}

module _ (limits : Limits) (sup : Supported limits) (g : Guard) (ok : WellFormed limits g) (total : length (flat g.types) ≤ total_variant_limit)
    (ls : List Literal) (nd : NodeOf g ls) (o : OpenNode (table_of g) ls) (s : State) (agree : Agrees s (closure_of (table_of g) ls)) (small : Small s)
    (marks ranks : List ℕ) where
  abbrev S : State
  S = closure_of (table_of g) ls

  abbrev ts : Types
  ts = g.types

  -- the arrays of the guard's open node
  abbrev pub leaf_state : OpenState
  leaf_state =
      record {
        types = g.types;
        classes = s.classes;
        labels = s.labels;
        shapes = shapes_of g;
        sorts = sorts_of g;
        fieldless = fieldless_of g;
        constants = constants_of g;
        values = (row_table g.types g.rows).values;
        marks = marks;
        ranks = ranks;
      }

  abbrev Needs : ℕ → Type 0
  Needs = Need limits sup g ok total ls nd.in_range s small agree

  -- the message of each class
  abbrev pub val : ℕ → Message
  val = message_of limits sup g ok ls nd o Needs (plan_for leaf_state)

  abbrev typed : TypedNode (table_of g) ls (term_type g)
  typed = typed-node limits sup g ok ls nd

  abbrev kind_at : ℕ → Kind
  kind_at = kind limits sup g ok total ls nd o s agree small

  module _ (needed : (c : ℕ) → Wanted leaf_state c → Needs c) (marking : (c : ℕ) → Needs c → Wanted leaf_state c)
      (classes : (c : ℕ) → Needs c → IsClass (table_of g) ls (term_type g) typed o c)
      (falls : (k p : ℕ) → k < 30 → p < many_at (shapes_of g) k → (c : ℕ) → is_shape (shapes_of g) s c k ≡ true → get_or ranks (class_of s (part_at (shapes_of g) k p)) 0 < get_or ranks c 0)
      (rank : ℕ → ℕ) (most : ℕ) (drawing : Drawing limits sup g ok ls nd o Needs (plan_for leaf_state) rank most) where
    -- messages have the types of their classes
    message-type : (c : ℕ) → Needs c → message_type (val c) ≡ term_type g c
    message-type c need =
        let (y, m, e) = classes c need in
        subst (λ (d : ℕ). message_type (val d) ≡ term_type g d) e
        (belongs-type ts (val (class_of S y.term)) y.type (drawn-belongs limits sup g ok ls nd o Needs (plan_for leaf_state) rank most drawing y m (subst Needs (sym e) need))
        ∙ sym (type-at (table_of g) ls (term_type g) typed o y m (class_of S y.term) refl))

    -- ---- shapes

    built : (b : Build) → Memᴰ b (builds_at (table_of g) S) → BuiltAt (table_of g) (LacksAt S) b
    built = built_of_lem (table_of g) ls typed.in_range typed.literals_in_range

    build-term : (b : Build) → Memᴰ b (builds_at (table_of g) S) → Memᴰ (record { term = b.term; type = b.type }) (table_of g).terms
    build-term b m = built-term (table_of g) ls typed.in_range typed.literals_in_range b (built b m)

    -- the parts of a build are terms
    part-terms : (b : Build) → BuiltAt (table_of g) (LacksAt S) b → All (λ p. p < term_count) b.parts
    part-terms b (row m) = all_weaken (λ p k. (typed.in_range.terms _ k).0) (typed.typed.builds b m).part_terms
    part-terms b (read r m f e) = subst (λ (a : Build). All (λ p. p < term_count) a.parts) (sym e) (all_weaken (λ p k. (typed.in_range.terms _ k).0) (typed.typed.reads r m).part_terms)

    shape_is : (c k : ℕ) → Wanted leaf_state c → k < 30 → is_shape (shapes_of g) s c k ≡ true → ShapeIs leaf_state val c k
    unfolding table_of
    shape_is c k mark h here =
        record {
          type = term_type g c;
          variant = b.variant;
          kind = shape.slot.kind ∙ ap (λ (u : ℕ). kind_number u b.variant) (sym et);
          known = subst (λ (u : ℕ). u < length ts) (sym et) (typed.typed.known _ (build-term b shape.among));
          small = node.small;
          fits = node.variant;
          many = shape.slot.many ∙ arity;
          parts = λ p l. marking _ (part_need p l);
          falls = λ p l. falls k p h l c here;
          typed = λ p l. message-type _ (part_need p l) ∙ ap (term_type g) (part_class_lem p l) ∙ part_type p (omega (arith, l, shape.slot.many));
          value =
              node-message (table_of g) ls (term_type g) typed o (free_by limits sup g ok ls nd o Needs (plan_for leaf_state)) c b.variant (map (class_of S) b.parts) shape.is_node
              ∙ ap (λ (ms : List Message). made (term_type g c) b.variant (to_parts ms)) (sym part-values);
        }
      where
        shape : ShapeClass limits sup g ok total ls nd o s agree small k c
        shape = shape_class limits sup g ok total ls nd o s agree small k c h here

        b : Build
        b = shape.build

        node : NodeClass (table_of g) ls (term_type g) typed o c b.variant (map (class_of S) b.parts)
        node = node_class (table_of g) ls (term_type g) typed o c b.variant (map (class_of S) b.parts) shape.is_node

        et : term_type g c ≡ b.type
        et = type-at (table_of g) ls (term_type g) typed o _ (build-term b shape.among) c shape.class

        arity : length b.parts ≡ length (fields_of ts (term_type g c) b.variant)
        arity = shape.slot.arity ∙ ap (λ (u : ℕ). length (fields_of ts u b.variant)) (sym et)

        -- the class of part p is that of the build's part
        part_class_lem : (p : ℕ) → p < many_at (shapes_of g) k → part_class leaf_state val k p ≡ class_of S (get_or b.parts p 0)
        part_class_lem p l =
            let q : p < length b.parts = omega (arith, l, shape.slot.many) in
            ap (class_of s) (shape.slot.part p (omega (arith, q, shape.slot.few))) ∙ agree.class (get_or b.parts p 0) (all_get_d (part-terms b (built b shape.among)) p 0 q)

        part_need : (p : ℕ) → p < many_at (shapes_of g) k → Needs (part_class leaf_state val k p)
        part_need p l =
            subst Needs (sym (part_class_lem p l))
            (all_get_d (need_parts_lem limits sup g ok total ls nd.in_range s small agree b (built b shape.among) (subst Needs (sym shape.class) (needed c mark))) p 0 (omega (arith, l, shape.slot.many)))

        part_type : (p : ℕ) → p < length b.parts → term_type g (class_of S (get_or b.parts p 0)) ≡ get_or (fields_of ts (term_type g c) b.variant) p 0
        part_type p l =
            sym (map_at (λ q. term_type g (class_of S q)) b.parts p 0 0 l) ∙ ap (λ (xs : List ℕ). get_or xs p 0) (sym (map-map (term_type g) (class_of S) b.parts) ∙ node.part_types)

        part-values : map (λ p. val (part_class leaf_state val k p)) (from (many_at (shapes_of g) k) 0) ≡ map val (map (class_of S) b.parts)
        part-values =
            map_cong (λ p. val (part_class leaf_state val k p)) (λ p. val (class_of S (get_or b.parts p 0))) (from (many_at (shapes_of g) k) 0)
            (λ p m. ap val (part_class_lem p (omega (arith, (from_bounds (many_at (shapes_of g) k) 0 p m).1))))
            ∙ ap (λ (n : ℕ). map (λ p. val (class_of S (get_or b.parts p 0))) (from n 0)) shape.slot.many
            ∙ by_positions (λ q. val (class_of S q)) b.parts 0 ∙ sym (map-map val (class_of S) b.parts)

    -- ---- constants, one fieldless variant, plans

    constant-is : (c : ℕ) → Wanted leaf_state c → constant_of (constants_of g) s.classes c < 30 → ConstantIs leaf_state val c (constant_of (constants_of g) s.classes c)
    unfolding table_of
    constant-is c mark h =
        let found : ConstantClass limits sup g ok total ls nd o s agree small (constant_of (constants_of g) s.classes c) c = found-constant limits sup g ok total ls nd o s agree small c h in
        let z : ℤ = constant_value (row_table ts g.rows).values (constant_of (constants_of g) s.classes c) in
        let a : ConstClass (table_of g) ls (term_type g) typed o c z = const_class (table_of g) ls (term_type g) typed o c z found.is_const in
        record {
          type = term_type g c;
          sort = found.sort;
          known = subst (λ (u : ℕ). u < length ts) (sym a.is_type) (typed.typed.known _ (typed.typed.const_terms a.const a.mem));
          is_number = ap (is_number ts) a.is_type ∙ typed.typed.const_types a.const a.mem;
          value = const-message (table_of g) ls (term_type g) typed o (free_by limits sup g ok ls nd o Needs (plan_for leaf_state)) c z found.is_const;
        }

    single-is : (c : ℕ) → Wanted leaf_state c → single_of (sorts_of g) (fieldless_of g) s c < 78 → SingleIs leaf_state val c (single_of (sorts_of g) (fieldless_of g) s c)
    unfolding table_of
    single-is c mark h =
        let found : SingleClass limits sup g ok total ls nd o s agree small (single_of (sorts_of g) (fieldless_of g) s c) c = found-single limits sup g ok total ls nd o s agree small c h in
        let v : ℕ = lowest_in (label_of s (single_of (sorts_of g) (fieldless_of g) s c)) in
        let node : NodeClass (table_of g) ls (term_type g) typed o c v [] = node_class (table_of g) ls (term_type g) typed o c v [] found.is_node in
        record {
          type = term_type g c;
          sort = found.sort;
          known = subst (λ (u : ℕ). u < length ts) (sym (type-at (table_of g) ls (term_type g) typed o node.term node.mem c node.class)) (typed.typed.known node.term node.mem);
          small = found.variant;
          fits = node.variant;
          bare = sym node.part_types;
          value = node-message (table_of g) ls (term_type g) typed o (free_by limits sup g ok ls nd o Needs (plan_for leaf_state)) c v [] found.is_node;
        }

    module _ (frees : (c : ℕ) → c < 78 → is_free leaf_state c ≡ true → kind_at c ≡ free) (types : (c : ℕ) → c < 78 → is_free leaf_state c ≡ true → type_for leaf_state c ≡ term_type g c) where
      pub pictured : Pictured leaf_state val
      unfolding table_of
      pictured =
          record {
            shape = shape_is;
            constant = constant-is;
            single = single-is;
            free = λ c h f.
                free-message (table_of g) ls (term_type g) typed o (free_by limits sup g ok ls nd o Needs (plan_for leaf_state)) c (frees c h f)
                ∙ ap (λ (u : ℕ). planned_message ts u (plan_for leaf_state c)) (sym (types c h f));
          }
