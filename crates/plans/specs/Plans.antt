-- The plan of each free class of an open node, as crate `growth` has it in closed form, with all choices made by the arrays
-- of the node: the types, the variants to start with, the numbers at ends, the order in which classes with one root are
-- counted, and the highest rank. Assumes nothing: definitions.
use Rattle.std.specs.Prelude.{Bool, not, ◌&&◌, List, ℕ, suc, ◌-◌, eqb, ltb, ℤ, pos, get_or, length}
use Rattle.laws.specs.Lists.{filter, from}
use Rattle.guard.specs.Closure.{State}
use Rattle.guard.specs.Guard.{Guard}
use Rattle.guard.specs.Types.{Types}
use Rattle.growth.proofs.ClosedPlans.{circles, closed_plan, root_for}
use Rattle.growth.proofs.Plans.{Plan}
use Rattle.tables.specs.Layout.{row_table}
use Rattle.classes.specs.Held.{state}
use Rattle.arrays.specs.Arrays.{constants_of, fieldless_of, shapes_of, sorts_of}
use Rattle.ranks.specs.Ranks.{ranking_of}
use Rattle.plans.specs.Chosen.{free_at, highest_of, is_marked, sort_in, variant_in}
use Rattle.plans.specs.Fresh.{fresh_after}

-- the arrays of an open node: the guard's types, the state, the problem's arrays and constants' values, marks and ranks
pub record OpenState : Type 0 where
  pub types : Types
  pub classes : List ℕ
  pub labels : List ℕ
  pub shapes : List ℕ
  pub sorts : List ℕ
  pub fieldless : List ℕ
  pub constants : List ℕ
  pub values : List ℤ
  pub marks : List ℕ
  pub ranks : List ℕ

-- those of a guard's node at a state: ranks are those that are found in rounds
abbrev pub open_of : Guard → State → List ℕ → OpenState
open_of g s marks =
    record {
      types = g.types;
      classes = s.classes;
      labels = s.labels;
      shapes = shapes_of g;
      sorts = sorts_of g;
      fieldless = fieldless_of g;
      constants = constants_of g;
      values = (row_table g.types g.rows).values;
      marks = marks;
      ranks = (ranking_of (shapes_of g) s).ranks;
    }

module _ (x : OpenState) where
  -- the state of the closure
  abbrev pub state_of : State
  state_of = state x.classes x.labels

  -- class c gets a message
  unfoldable pub marked : ℕ → Bool
  marked c = is_marked x.marks c

  -- the type of class c, plus one
  unfoldable pub sort_for : ℕ → ℕ
  sort_for c = sort_in x.classes x.sorts c

  -- its type
  unfoldable pub type_for : ℕ → ℕ
  type_for c = sort_for c - 1

  -- class c gets a message, and nothing fixes it
  unfoldable pub is_free : ℕ → Bool
  is_free c = free_at x.shapes x.sorts x.fieldless x.constants x.marks state_of c

  -- the free classes that get a message, in order
  unfoldable pub free_classes : List ℕ
  free_classes = filter is_free (from 78 0)

  -- the variant that the message of class c starts with: the lowest with fields in its label
  unfoldable pub variant_for : ℕ → ℕ
  variant_for c = variant_in x.types (get_or x.labels c 0) (type_for c)

  -- growth from class c goes round a cycle of types
  unfoldable pub circling : ℕ → Bool
  circling c = circles x.types type_for variant_for c

  -- the cycle's root
  unfoldable pub root_of_class : ℕ → ℕ
  root_of_class c = root_for x.types type_for variant_for c

  -- the free classes below c that end in a number
  unfoldable pub ends_before : ℕ → ℕ
  ends_before c = length (filter (λ y. ltb y c && not (circling y)) free_classes)

  -- the fresh number for class c
  unfoldable pub end_for : ℕ → ℤ
  end_for c = pos (fresh_after x.constants x.values (suc (ends_before c)))

  -- the free classes below c that go round the cycle of root r
  unfoldable pub circled_before : ℕ → ℕ → ℕ
  circled_before c r = length (filter (λ y. ltb y c && (circling y && eqb (root_of_class y) r)) free_classes)

  -- the highest rank of a class that gets a message
  unfoldable pub highest_rank : ℕ
  highest_rank = highest_of x.marks x.ranks

  -- the plan of class c, in closed form
  unfoldable pub plan_for : ℕ → Plan
  plan_for c = closed_plan x.types type_for variant_for free_classes highest_rank end_for c
