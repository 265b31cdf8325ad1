-- The nodes that code visits: the literals of each, the state that it begins with and the one that it leaves open.
-- Assumes nothing: definitions.
use Rattle.std.specs.Prelude.{◌≡◌, false, List, ◌∷◌, ℕ, ◌≤◌, ◌<◌, length}
use Rattle.std.proofs.Math.Option.{none}
use Rattle.laws.specs.All.{All}
use Rattle.guard.specs.Closure.{State, closure_of, given}
use Rattle.guard.specs.Guard.{Guard, Literal, Literal.is, Literal.isnt}
use Rattle.guard.specs.Limits.{Limits, Supported, total_variant_limit, variant_limit}
use Rattle.guard.specs.Node.{is_closed, split_of}
use Rattle.guard.specs.Search.{search}
use Rattle.guard.specs.Terms.{table_of, term_count}
use Rattle.guard.specs.WellFormed.{WellFormed}
use Rattle.guard.proofs.Agreement.{Agrees}
use Rattle.guard.proofs.AnyOrder.{Reached}
use Rattle.guard.proofs.ClosureState.{Says, Small}
use Rattle.tables.specs.Layout.{flat, literal_table, row_table}
use Rattle.classes.specs.Held.{Held}
use Rattle.arrays.specs.Arrays.{constants_of, fieldless_of, full_of, reads_of, shapes_of, sorts_of}
use Rattle.instance.specs.declared.Instance.{Instance}
use Rattle.tallies.specs.declared.Outcome.{Outcome}
use Rattle.tallies.specs.declared.Tally.{Tally}
use Rattle.tallies.specs.Outcome.{outcome}

-- a guard that a reader took
pub record Accepted (g : Guard) : Type 0 where
  pub limits : Limits
  pub supported : Supported limits
  pub well_formed : WellFormed limits g
  pub total : length (flat g.types) ≤ total_variant_limit

-- the literals of a node: those of the guard and the decisions above it
pub data NodeLiterals (g : Guard) : List Literal → Type 0 where
  at_root : NodeLiterals g g.literals
  at_is : {ls : List Literal} → NodeLiterals g ls → (i v : ℕ) → i < term_count → v < variant_limit → NodeLiterals g (is i v ∷ ls)
  at_isnt : {ls : List Literal} → NodeLiterals g ls → (i v : ℕ) → i < term_count → v < variant_limit → NodeLiterals g (isnt i v ∷ ls)

-- a state with all that is given at a node, and nothing but what follows
pub record Begun (g : Guard) (ls : List Literal) (s : State) : Type 0 where
  pub node : NodeLiterals g ls
  pub reached : Reached (table_of g) ls 96 s
  pub says : All (Says s) (given (table_of g) ls)

-- the closure of an open node
pub record OpenLeaf (g : Guard) (s : State) : Type 0 where
  pub literals : List Literal
  pub node : NodeLiterals g literals
  pub not_closed : is_closed (table_of g) literals (closure_of (table_of g) literals) ≡ false
  pub no_split : split_of (table_of g) (closure_of (table_of g) literals) ≡ none
  pub agrees : Agrees s (closure_of (table_of g) literals)

-- the arrays of a state are as they have to be
pub record StateFit (s : State) : Type 0 where
  pub held : Held s.classes
  pub long : length s.labels ≡ 96
  pub small : Small s

-- what is looked at is a guard's
pub record ArraysOf (g : Guard) (i : Instance) (reads : List ℕ) : Type 0 where
  pub is_shapes : i.shapes.slots ≡ shapes_of g
  pub is_reads : reads ≡ reads_of g
  pub is_sorts : i.sorts.sorts ≡ sorts_of g
  pub is_full : i.sorts.full ≡ full_of g
  pub is_fieldless : i.sorts.fieldless ≡ fieldless_of g
  pub is_constants : i.constants.sorts ≡ constants_of g
  pub is_values : i.constants.values ≡ (row_table g.types g.rows).values
  pub is_kinds : i.lines.kinds ≡ (literal_table g.literals).kinds
  pub is_terms : i.lines.terms ≡ (literal_table g.literals).terms
  pub is_others : i.lines.others ≡ (literal_table g.literals).others
  pub is_many : i.lines.many ≡ (literal_table g.literals).many

-- From a node that has begun: the outcome is that of the defined search, and an open node's closure is left.
unfoldable pub Searches : Instance → List ℕ → Tally → State → Outcome → State → Type 0
Searches i reads tally s r s' =
    (g : Guard) (ls : List Literal) → Accepted g → ArraysOf g i reads → Begun g ls s
    → (r ≡ outcome (search (table_of g) ls) tally) × ((t : Tally) → r ≡ Outcome.Open t → OpenLeaf g s')
