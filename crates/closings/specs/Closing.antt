-- The closing of a node, as an entry of a record, and how it is found by the slots of the problem's arrays. proofs/ shows that it is the
-- defined one. Assumes nothing: definitions.
use Rattle.std.specs.Prelude.{List, ℕ, ℤ}
use Rattle.std.proofs.Math.Option as math
use Rattle.std.specs.declared.option.Option.{Option}
use Rattle.std.specs.declared.option.Option.TheVariants.{None, Some}
use Rattle.guard.specs.Closure.{State}
use Rattle.loops.specs.Lowest.{Finds}
use Rattle.reasons.specs.Reasons.{broken_at, empty_at, unlike_at}
use Rattle.cycles.specs.Cycles.{Inside, LowestOf}
use Rattle.refutations.specs.Record.{Entry, Entry.empty, Entry.inside, Entry.unequal_line, Entry.unlike}
use Rattle.closings.specs.declared.Closing.{Closing}
use Rattle.closings.specs.declared.Closing.TheVariants.{BrokenLine, EmptyLabel, InsideItself, UnlikeConstants}

-- the entry of a record that says it
abbrev pub entry_in : Closing → Entry
entry_in (EmptyLabel x) = empty x
entry_in (BrokenLine j) = unequal_line j
entry_in (UnlikeConstants x) = unlike x
entry_in (InsideItself x) = inside x

abbrev pub entry_of : Option Closing → math.Option Entry
entry_of None = math.none
entry_of (Some c) = math.some (entry_in c)

-- "Of 0 to 3 the lowest that applies is written, with its lowest term or line." Each reason is the first that is found; unlike
-- constants are found by the name of their class.
abbrev pub Names : List ℕ → List ℕ → List ℕ → List ℕ → List ℤ → List ℕ → List ℕ → List ℕ → ℕ → State → Option Closing → Type 0
Names shapes sorts full constants values kinds terms others many s (Some (EmptyLabel x)) = Finds (empty_at sorts full s) 78 (Some x)
Names shapes sorts full constants values kinds terms others many s (Some (BrokenLine j)) = Finds (empty_at sorts full s) 78 None × Finds (broken_at kinds terms others s.classes) many (Some j)
Names shapes sorts full constants values kinds terms others many s (Some (UnlikeConstants c)) =
    Finds (empty_at sorts full s) 78 None × Finds (broken_at kinds terms others s.classes) many None × Finds (unlike_at constants values s.classes 30) 96 (Some c)
Names shapes sorts full constants values kinds terms others many s (Some (InsideItself x)) =
    Finds (empty_at sorts full s) 78 None × Finds (broken_at kinds terms others s.classes) many None × Finds (unlike_at constants values s.classes 30) 96 None
    × LowestOf (Inside shapes sorts s) 78 (Some x)
Names shapes sorts full constants values kinds terms others many s None =
    Finds (empty_at sorts full s) 78 None × Finds (broken_at kinds terms others s.classes) many None × Finds (unlike_at constants values s.classes 30) 96 None
    × LowestOf (Inside shapes sorts s) 78 None
