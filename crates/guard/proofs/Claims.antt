-- What is proved of the definitions, said of accepted files. Cases a to j are in specs/Cases. Assumes nothing.
use mathlib.Core.Path.{◌≡◌, ap, ◌∙◌}
use mathlib.Core.List.{List, []}
use Prim.Native.Nat.{ℕ, ◌≤◌, ◌<◌}
use native.Mathlib.Omega.{arith}
use lib.ListN.{length}
use Rattle.guard.specs.Closure.{LacksAt, SameAt, closure_of}
use Rattle.guard.specs.File.{file}
use Rattle.guard.specs.Guard.{Guard, Literal}
use Rattle.guard.specs.Limits.{Limits, Supported, base}
use Rattle.guard.specs.Number.{Parsed.accepted}
use Rattle.guard.specs.Rules.{LeastClosure}
use Rattle.guard.specs.Search.{label_total, node_count, search_of, search_to}
use Rattle.guard.specs.Terms.{table_of}
use Rattle.guard.specs.WellFormed.{WellFormed}
use Rattle.guard.proofs.Accepted.{accepted-ended, accepted-length, accepted_well_formed, longest_file}
use Rattle.guard.proofs.ClosureBelow.{InRange, LiteralsInRange}
use Rattle.guard.proofs.LeastClosure.{closure_least}
use Rattle.guard.proofs.SearchLaws.{depth_suffices, node-count_pos}
use Rattle.guard.proofs.TableLaws.{literals_in_range_lem, table_in_range}

-- the base's limits are among those for which everything is proved
pub base-supported : Supported base
base-supported = record { types = omega arith; terms = omega arith; lines = omega arith }

-- an accepted file, within limits for which everything is proved
pub record Accepts (limits : Limits) (bytes : List ℕ) (g : Guard) : Type 0 where
  pub supported : Supported limits
  pub accepts : file limits bytes ≡ accepted g []

-- what is accepted leaves no byte, so `accepted g []` says all
pub accepts-all : (limits : Limits) (bytes : List ℕ) (g : Guard) (rest : List ℕ) → Supported limits → file limits bytes ≡ accepted g rest → Accepts limits bytes g
accepts-all limits bytes g rest sup e =
    record { supported = sup; accepts = e ∙ ap (λ (r : List ℕ). accepted g r) (accepted-ended limits bytes g rest e) }

module _ (limits : Limits) (bytes : List ℕ) (g : Guard) (a : Accepts limits bytes g) where
  pub well_formed_lem : WellFormed limits g
  well_formed_lem = accepted_well_formed limits a.supported bytes g [] a.accepts

  pub in_range_lem : InRange (table_of g)
  in_range_lem = table_in_range limits a.supported g well_formed_lem

  pub literals-range : LiteralsInRange g.literals
  literals-range = literals_in_range_lem limits a.supported g well_formed_lem

  -- at every node, the closure that is computed is the least closure of the literals and the decisions above
  pub least_closure : (ls : List Literal) → LiteralsInRange ls → LeastClosure (table_of g) ls (SameAt (closure_of (table_of g) ls)) (LacksAt (closure_of (table_of g) ls))
  least_closure ls r = closure_least (table_of g) ls in_range_lem r

  -- the depth given to the search suffices: with any greater depth it visits the same nodes, and ends the same way
  pub deep_enough : (k : ℕ) → label_total (table_of g) (closure_of (table_of g) g.literals) < k → search_to k (table_of g) g.literals ≡ search_of g
  unfolding search_of
  deep_enough k h = depth_suffices (table_of g) in_range_lem k g.literals literals-range h

  -- the node count is at least 1
  pub count_pos : 0 < node_count g
  count_pos = node-count_pos g

  pub length_bound : length bytes ≤ longest_file limits
  length_bound = accepted-length limits a.supported bytes g [] a.accepts

-- "No accepted file is longer than 585 bytes."
pub at-most_585 : (bytes : List ℕ) (g : Guard) (rest : List ℕ) → file base bytes ≡ accepted g rest → length bytes ≤ 585
at-most_585 bytes g rest e = accepted-length base base-supported bytes g rest e
