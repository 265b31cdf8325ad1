-- What code that draws messages for an open node has to show, and what it gets. It chooses a plan for each free class that
-- it needs: the variant to start with, and either a number for the end or how often the growth goes round its cycle. It has
-- to show that each plan fits its class, that the variant is in the class's label, that the numbers are fresh, and that the
-- growths are long enough and far enough apart. It gets a message for each term, the same for equal terms and different
-- for others of one type, that make the guard hold. Assumes nothing.
use mathlib.Core.Path.{◌≡◌, refl, subst, ap}
use mathlib.Core.List.{List, [], Memᴰ, map}
use Prim.Native.Nat.{ℕ, ◌+◌, ◌≤◌, ◌<◌}
use lib.ListN.{length}
use mathlib.Core.Option.{some}
use lib.IntN.{ℤ, pos}
use Rattle.laws.specs.All.{All}
use Rattle.laws.specs.Lists.{from}
use Rattle.guard.specs.Closure.{LacksAt, SameAt, State, class_of, closure_of}
use Rattle.guard.specs.Guard.{Guard, Literal}
use Rattle.guard.specs.Limits.{Limits, Supported}
use Rattle.guard.specs.Meaning.{Belongs, Holds, IsVariant, values}
use Rattle.guard.specs.Message.{Message}
use Rattle.guard.specs.Rules.{BuiltAt}
use Rattle.guard.specs.Terms.{Build, Term, default_term, table_of}
use Rattle.guard.specs.Types.{Types, default_of}
use Rattle.guard.specs.WellFormed.{WellFormed}
use Rattle.growth.proofs.Growth.{TypesAccepted, chosen-inside, chosen_field, types-accepted}
use Rattle.growth.proofs.Injective.{Kind, Kind.const, Kind.free}
use Rattle.growth.proofs.Plans.{Plan, Plan.around, Plan.at_once, Plan.into, PlanFits, Planned, end_number, free-belongs, plan_variant, planned_apart, planned_message, root_by}
use Rattle.models.proofs.Classes.{NeededClass, kind_of}
use Rattle.models.proofs.Messages.{FreeMessages, class_message, const-message, free-message, node-message, solution}
use Rattle.models.proofs.Model.{default-value, model, row-values}
use Rattle.models.proofs.Nodes.{NodeOf, OpenNode, TypedNode, typed-node}
use Rattle.models.proofs.Picture.{Picture, picture}
use Rattle.models.proofs.TypedTable.{term_type}

module _ (limits : Limits) (sup : Supported limits) (g : Guard) (ok : WellFormed limits g) (ls : List Literal) (nd : NodeOf g ls) (o : OpenNode (table_of g) ls)
    (Need : ℕ → Type 0) (plan : ℕ → Plan) where
  abbrev ts : Types
  ts = g.types

  abbrev S : State
  S = closure_of (table_of g) ls

  abbrev node' : TypedNode (table_of g) ls (term_type g)
  node' = typed-node limits sup g ok ls nd

  -- what each class is: see `Classes`
  abbrev pub kind_at : ℕ → Kind
  kind_at = kind_of (table_of g) ls (term_type g) node' o

  -- a class that gets a message: one of a term of the guard, and needed
  abbrev pub Drawn : ℕ → Type 0
  Drawn = NeededClass (table_of g) ls (term_type g) node' o Need

  -- the message of a free class, by its plan
  abbrev pub free_by : ℕ → Message
  free_by c = planned_message g.types (term_type g c) (plan c)

  -- the message of a class, and of a term
  abbrev pub message_of : ℕ → Message
  message_of = class_message (table_of g) ls (term_type g) node' o free_by

  abbrev pub shown_by : ℕ → Message
  shown_by i = message_of (class_of (closure_of (table_of g) ls) i)

  -- `rank`, `most`: any ranks that fall from a class to its parts, and a bound on those of the classes drawn
  module _ (rank : ℕ → ℕ) (most : ℕ) where
    pub record Drawing : Type 0 where
      pub ranks : (b : Build) → BuiltAt (table_of g) (LacksAt S) b → All (λ p. rank (class_of S p) < rank (class_of S b.term)) b.parts
      pub low : (c : ℕ) → Drawn c → rank c ≤ most
      -- the classes of all rows are drawn, and of all parts of what is drawn
      pub rows : (i : ℕ) → i < length g.rows → Need (class_of S i)
      pub parts : (b : Build) → BuiltAt (table_of g) (LacksAt S) b → Need (class_of S b.term) → All (λ p. Need (class_of S p)) b.parts
      -- the plan fits, and its variant is in the label
      pub fits : (c : ℕ) → Drawn c → kind_at c ≡ free → PlanFits ts (term_type g c) (plan c)
      pub held : (c : ℕ) → Drawn c → kind_at c ≡ free → (v : ℕ) → plan_variant (plan c) ≡ some v → (x : Term) → Memᴰ x (table_of g).terms → class_of S x.term ≡ c → ¬ LacksAt S x.term v
      -- numbers at ends are fresh: no drawn constant, no other free class's, and not 0
      pub fresh : (u w : ℕ) (z : ℤ) → Drawn u → kind_at u ≡ free → end_number (plan u) ≡ some z → Drawn w → ¬ (kind_at w ≡ const z)
      pub own : (u w : ℕ) (z : ℤ) → Drawn u → kind_at u ≡ free → end_number (plan u) ≡ some z → Drawn w → kind_at w ≡ free → end_number (plan w) ≡ some z → w ≡ u
      pub nonzero : (u : ℕ) → Drawn u → kind_at u ≡ free → ¬ (end_number (plan u) ≡ some (pos 0))
      -- growths round a cycle: longer than any rank, and further apart than any rank where they share a root
      pub long : (u v n : ℕ) → Drawn u → kind_at u ≡ free → plan u ≡ around v n → most < n
      pub gap : (u w v x n k : ℕ) → Drawn u → kind_at u ≡ free → plan u ≡ around v (k + n) → Drawn w → kind_at w ≡ free → plan w ≡ around x n
          → root_by ts (term_type g u) v ≡ root_by ts (term_type g w) x → k ≤ most → w ≡ u

    module _ (d : Drawing) where
      accepted : TypesAccepted g.types
      accepted = types-accepted limits g ok

      planned : Planned ts Drawn (term_type g) kind_at message_of most plan
      planned =
          record {
            fits = d.fits;
            free-val = λ c i f. free-message (table_of g) ls (term_type g) node' o free_by c f;
            node-val = λ c v i e. node-message (table_of g) ls (term_type g) node' o free_by c v [] e;
            const-val = λ c z i e. const-message (table_of g) ls (term_type g) node' o free_by c z e;
            fresh = d.fresh;
            own = d.own;
            nonzero = d.nonzero;
            long = d.long;
            gap = d.gap;
          }

      free_messages : FreeMessages (table_of g) ls (term_type g) node' o free_by Need (chosen_field ts) most
      unfolding table_of
      free_messages =
          record {
            inside = chosen-inside ts accepted;
            need_parts = d.parts;
            belongs = λ c i f. subst (λ (m : Message). Belongs ts m (term_type g c)) (free-message (table_of g) ls (term_type g) node' o free_by c f) (free-belongs ts Drawn (term_type g) kind_at message_of most plan accepted planned c i f);
            held = λ x m need f v iv. variant-held x m need f v iv;
            apart = planned_apart ts Drawn (term_type g) kind_at message_of most plan accepted planned;
          }
        where
          variant-held : (x : Term) → Memᴰ x (table_of g).terms → Need (class_of S x.term) → kind_at (class_of S x.term) ≡ free → (v : ℕ) → IsVariant (free_by (class_of S x.term)) v → ¬ LacksAt S x.term v
          variant-held x m need f v iv =
              d.held (class_of S x.term) ((x, m, refl), need) f v (variant_of_lem (plan (class_of S x.term)) iv) x m refl
            where
              variant_of_lem : (p : Plan) → IsVariant (planned_message g.types (term_type g (class_of (closure_of (table_of g) ls) x.term)) p) v → plan_variant p ≡ some v
              variant_of_lem (at_once z) i = absurd i
              variant_of_lem (into w k z) i = ap some i
              variant_of_lem (around w k) i = ap some i

      pic : Picture (table_of g) S Need shown_by
      pic =
          picture (table_of g) ls (term_type g) node' o Need (chosen_field ts) message_of rank most
          (solution (table_of g) ls (term_type g) node' o free_by Need (chosen_field ts) rank most d.ranks d.low free_messages)

      -- the guard holds under an assignment that gives each row's number the message drawn for it
      pub drawn-holds : (ρ : ℕ → Message) → ((i : ℕ) → i < length g.rows → ρ i ≡ shown_by i) → Holds g ρ
      drawn-holds = model limits sup g ok ls nd o Need d.rows shown_by pic

      -- and the messages drawn are the values of the rows
      pub drawn-values : (ρ : ℕ → Message) → ((i : ℕ) → i < length g.rows → ρ i ≡ shown_by i) → values g ρ ≡ map ρ (from (length g.rows) 0)
      drawn-values = row-values limits sup g ok ls nd o Need d.rows shown_by pic

      pub drawn-belongs : (x : Term) → Memᴰ x (table_of g).terms → Need (class_of S x.term) → Belongs g.types (shown_by x.term) x.type
      unfolding table_of
      drawn-belongs = pic.belongs

      -- terms of one type whose messages are the same are equal terms
      pub drawn-apart : (x y : Term) → Memᴰ x (table_of g).terms → Memᴰ y (table_of g).terms → Need (class_of S x.term) → Need (class_of S y.term)
          → shown_by x.term ≡ shown_by y.term → SameAt S x.term y.term
      drawn-apart = pic.apart

      -- the message of a default is the default
      pub drawn-default : (t : ℕ) → t < length g.types → Need (class_of S (default_term t)) → shown_by (default_term t) ≡ default_of g.types t
      drawn-default = default-value limits sup g ok ls nd o Need d.rows shown_by pic shown_by (λ i h. refl)
