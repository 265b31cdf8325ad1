-- When a node is closed, by the slots of the problem's arrays. proofs/ shows that document 01 closes it there. Assumes nothing: definitions.
use Rattle.std.specs.Prelude.{Bool, not, ◌||◌, List, ℕ, ltb, ℤ}
use Rattle.guard.specs.Closure.{State}
use Rattle.loops.specs.Lowest.{lowest}
use Rattle.reasons.specs.Reasons.{broken_at, empty_at, unlike_at}
use Rattle.ranks.specs.Ranks.{ranking_of}
use Rattle.instance.specs.declared.Instance.{Instance}

-- closed for one of the four reasons; the last one, "a class is a part of itself through built rows", by ranks
unfoldable pub closed_by : List ℕ → List ℕ → List ℕ → List ℕ → List ℤ → List ℕ → List ℕ → List ℕ → ℕ → State → Bool
closed_by shapes sorts full constants values kinds terms others many s =
    ltb (lowest (empty_at sorts full s) 78) 78
    || (ltb (lowest (broken_at kinds terms others s.classes) many) many || (ltb (lowest (unlike_at constants values s.classes 30) 96) 96 || not (ranking_of shapes s).falls))

-- the same of an instance
abbrev pub closed : Instance → State → Bool
closed i = closed_by i.shapes.slots i.sorts.sorts i.sorts.full i.constants.sorts i.constants.values i.lines.kinds i.lines.terms i.lines.others i.lines.many
