-- What a visit of the root gives is what the search of the guard finds. Assumes nothing.
use mathlib.Core.Path.{◌≡◌, sym, ◌∙◌, subst}
use Prim.Native.Nat.{ℕ}
use Rattle.guard.specs.Closure.{State}
use Rattle.guard.specs.Search.{search_of}
use Rattle.reader.specs.declared.Tables.{Tables}
use Rattle.tallies.specs.declared.Outcome.{Outcome}
use Rattle.tallies.specs.declared.Tally.{Tally}
use Rattle.tallies.specs.Outcome.{begin}
use Rattle.search.specs.Nodes.{OpenLeaf, Searches}
use Rattle.roots.specs.declared.Root.{Root}
use Rattle.roots.specs.Roots.{IsRoot}
use Rattle.rootsearch.specs.declared.Found as declared
use Rattle.rootsearch.specs.Finds.{Finds}

module _ (tables : Tables) (budget : ℕ) (root : Root) (is : IsRoot tables root) (s : State) (t : Tally) where
  abbrev Visited : Outcome → Type 0
  Visited o = Searches root.instance root.reads.slots (begin budget) root.state o s

  pub open_found : (o : Outcome) → o ≡ Outcome.Open t → Visited o → Finds tables budget (declared.Found.Open s t)
  unfolding Finds Searches search_of
  open_found o e v g ok q =
      let w = v g g.literals ok (is.arrays g ok q) (is.begun g ok q) in
      (sym e ∙ w.0, λ s' t' p. let z : s ≡ s' = cc in subst (OpenLeaf g) z (w.1 t e))

  pub closed_found : (o : Outcome) → o ≡ Outcome.Closed t → Visited o → Finds tables budget (declared.Found.Closed t)
  unfolding Finds Searches search_of
  closed_found o e v g ok q = let w = v g g.literals ok (is.arrays g ok q) (is.begun g ok q) in (sym e ∙ w.0, λ s' t' p. cc)

  pub spent_found : (o : Outcome) → o ≡ Outcome.Spent t → Visited o → Finds tables budget (declared.Found.Spent t)
  unfolding Finds Searches search_of
  spent_found o e v g ok q = let w = v g g.literals ok (is.arrays g ok q) (is.begun g ok q) in (sym e ∙ w.0, λ s' t' p. cc)
