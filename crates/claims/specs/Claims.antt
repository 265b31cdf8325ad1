-- What an entry of a record claims of a node, by the slots of the problem's arrays. proofs/ shows that it is what the definitions of
-- request #101 say. Assumes nothing: definitions.
use Rattle.std.specs.Prelude.{◌≡◌, true, ◌&&◌, List, ℕ, ◌<◌, ltb, ℤ, get_or}
use Rattle.guard.specs.Closure.{State}
use Rattle.reasons.specs.Reasons.{broken_at, empty_at}
use Rattle.cycles.specs.Cycles.{Inside}
use Rattle.closings.specs.declared.Closing.{Closing}
use Rattle.closings.specs.declared.Closing.TheVariants as closing
use Rattle.closings.specs.declared.Closing.TheVariants.{EmptyLabel, InsideItself, UnlikeConstants}
use Rattle.unlikeconstants.specs.Unlike.{unlike_in}
use Rattle.splitclaims.specs.SplitClaims.{is_term}

abbrev pub EmptyTerm : List ℕ → List ℕ → State → ℕ → Type 0
EmptyTerm sorts full s x = (is_term sorts x && empty_at sorts full s x) ≡ true

abbrev pub BrokenLine : List ℕ → List ℕ → List ℕ → ℕ → List ℕ → ℕ → Type 0
BrokenLine kinds terms others many classes j = (ltb j many && broken_at kinds terms others classes j) ≡ true

abbrev pub UnlikeTerm : List ℕ → List ℕ → List ℤ → List ℕ → ℕ → Type 0
UnlikeTerm sorts constants values classes x = (is_term sorts x && unlike_in constants values classes (get_or classes x 0)) ≡ true

abbrev pub InsideTerm : List ℕ → List ℕ → State → ℕ → Type 0
InsideTerm shapes sorts s x = (x < 78) × Inside shapes sorts s x

-- as the entry says
abbrev pub ClosedBy : List ℕ → List ℕ → List ℕ → List ℕ → List ℤ → List ℕ → List ℕ → List ℕ → ℕ → State → Closing → Type 0
ClosedBy shapes sorts full constants values kinds terms others many s (EmptyLabel x) = EmptyTerm sorts full s x
ClosedBy shapes sorts full constants values kinds terms others many s (closing.BrokenLine j) = BrokenLine kinds terms others many s.classes j
ClosedBy shapes sorts full constants values kinds terms others many s (UnlikeConstants x) = UnlikeTerm sorts constants values s.classes x
ClosedBy shapes sorts full constants values kinds terms others many s (InsideItself x) = InsideTerm shapes sorts s x
