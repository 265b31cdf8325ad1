-- What a visit of a node gives, case by case: no node left, a closed node, an open one, and a split with its children's
-- outcomes. Assumes nothing.
use mathlib.Core.Path.{◌≡◌, refl, ap, sym, ◌∙◌, subst, ap₂}
use mathlib.Core.Bool.{Bool, true, false}
use mathlib.Core.List.{List, ◌∷◌}
use mathlib.Core.Option.{Option, none, some}
use Prim.Native.Nat.{ℕ, ◌-◌, ◌^◌, ◌<◌}
use native.Mathlib.Omega.{arith}
use lib.Dec.{ltb}
use borrow.Author.Tests.{ltb-true}
use Rattle.laws.proofs.Bools.{by_test}
use Rattle.guard.specs.Closure.{Fact.within, State, add, closure_of, every_variant}
use Rattle.guard.specs.Guard.{Guard, Literal, Literal.is, Literal.isnt}
use Rattle.guard.specs.Node.{Kind, Split, is_closed, kind_of, split_of}
use Rattle.guard.specs.Search.{Visit.leaf, Visit.split, Visits, children, node, search}
use Rattle.guard.specs.Terms.{table_of}
use Rattle.guard.proofs.ClosureBelow.{LiteralsInRange}
use Rattle.guard.proofs.SearchLaws.{search_pos, search_step}
use Rattle.guard.proofs.TableLaws.{table_in_range}
use Rattle.classes.specs.Held.{Held}
use Rattle.loops.specs.Lowest.{lowest}
use Rattle.loops.proofs.Loops.{lowest-none}
use Rattle.passes.specs.Pass.{Saturated}
use Rattle.arrays.specs.Arrays.{fieldless_of, reads_of, shapes_of, sorts_of}
use Rattle.reasons.specs.Reasons.{empty_at}
use Rattle.saturation.specs.Due.{Settled, all_due}
use Rattle.saturation.proofs.Rounds.{saturated}
use Rattle.std.specs.declared.option.Option.TheVariants.{None, Some}
use Rattle.splits.specs.declared.Choice.{Choice}
use Rattle.splits.specs.Choice.{choice_of, first_by, split_by}
use Rattle.instance.specs.declared.Instance.{Instance}
use Rattle.nodes.specs.Closed.{closed}
use Rattle.nodes.proofs.Closed.{none-empty}
use Rattle.tallies.specs.declared.Outcome.{Outcome}
use Rattle.tallies.specs.declared.Tally.{Tally}
use Rattle.tallies.specs.Outcome.{after_one, is_closed_outcome, kind_by, outcome, tally_of}
use Rattle.search.specs.Nodes.{Accepted, ArraysOf, Begun, OpenLeaf, Searches}
use Rattle.search.proofs.ClosedState.{agreed, closes, closes_early, is_begun, isnt_begun, kinds-same, literals_in_lem, splits}
use Rattle.tallies.proofs.OutcomeLaws.{closed-leaf, first-tells, none_left, open_leaf_lem, second_goes_on}

-- ---- a choice as code returns it

pub no_choice : (b : Bool) (o : Option Split) → None ≡ choice_of b o → o ≡ none
no_choice b none e = refl
no_choice b (some d) e = cc

pub a_choice : (c : Choice) (b : Bool) (o : Option Split) → Some c ≡ choice_of b o → (d : Split) × (o ≡ some d) × (c.term ≡ d.term) × (c.variant ≡ d.variant) × (c.first ≡ b)
a_choice c b none e = cc
a_choice c b (some d) e =
    let q : c ≡ record { first = b; term = d.term; variant = d.variant } = cc in
    (d, refl, ap (λ (x : Choice). x.term) q, ap (λ (x : Choice). x.variant) q, ap (λ (x : Choice). x.first) q)

-- a node's search, by what it is
module _ (g : Guard) (ok : Accepted g) (ls : List Literal) (range : LiteralsInRange ls) where
  step : search (table_of g) ls ≡ node (is_closed (table_of g) ls (closure_of (table_of g) ls)) (kind_of (table_of g) (closure_of (table_of g) ls)) (split_of (table_of g) (closure_of (table_of g) ls)) (λ d. search (table_of g) (d ∷ ls))
  step = search_step (table_of g) (table_in_range ok.limits ok.supported g ok.well_formed) ls range

  abbrev kind : Kind
  kind = kind_of (table_of g) (closure_of (table_of g) ls)

  step_by : (b : Bool) (o : Option Split) → is_closed (table_of g) ls (closure_of (table_of g) ls) ≡ b → split_of (table_of g) (closure_of (table_of g) ls) ≡ o
      → search (table_of g) ls ≡ node b kind o (λ d. search (table_of g) (d ∷ ls))
  step_by b o eb eo = step ∙ ap₂ (λ (c : Bool) (p : Option Split). node c kind p (λ d. search (table_of g) (d ∷ ls))) eb eo

-- ---- visits

module _ (i : Instance) (reads : List ℕ) where
  abbrev shapes : List ℕ
  shapes = i.shapes.slots

  abbrev sorts : List ℕ
  sorts = i.sorts.sorts

  abbrev full : List ℕ
  full = i.sorts.full

  abbrev fieldless : List ℕ
  fieldless = i.sorts.fieldless

  abbrev Gives : Tally → State → Outcome → State → Type 0
  Gives = Searches i reads

  pub nothing_left : (s s' : State) (t : Tally) → t.left ≡ 0 → Gives t s (Outcome.Spent t) s'
  unfolding Searches
  nothing_left s s' t e g ls ok arrays begun =
      (sym (none_left (search (table_of g) ls) t (search_pos (table_of g) ls) e), λ u q. absurd (no_open u q))
    where
      no_open : (u : Tally) → Outcome.Spent t ≡ Outcome.Open u → ⊥
      no_open u q = let z : ◌≡◌ {A = ℕ} 0 1 = cc in absurd (omega arith)

  module _ (s s₁ : State) (t : Tally) (some_left : 0 < t.left) (settled : Settled shapes reads sorts full fieldless s s₁) (held : Held s₁.classes) where
    abbrev test : Bool
    test = closed i s₁

    abbrev choice : Option Split
    choice = split_by reads sorts fieldless s₁

    module _ (g : Guard) (ls : List Literal) (ok : Accepted g) (arrays : ArraysOf g i reads) (begun : Begun g ls s) where
      range : LiteralsInRange ls
      range = literals_in_lem g ok begun.node

      -- without an empty label the state is saturated
      module _ (full? : lowest (empty_at sorts full s₁) 78 ≡ 78) where
        here : Saturated (all_due (shapes_of g) (reads_of g) (sorts_of g) (fieldless_of g)) s s₁
        here = rw (sym arrays.is_shapes, sym arrays.is_reads, sym arrays.is_sorts, sym arrays.is_fieldless) (saturated settled full?)

        is_test : (b : Bool) → test ≡ b → is_closed (table_of g) ls (closure_of (table_of g) ls) ≡ b
        is_test b e = sym (closes g ok ls s begun s₁ here held) ∙ rw (sym arrays.is_shapes, sym arrays.is_sorts, sym arrays.is_full, sym arrays.is_constants, sym arrays.is_values, sym arrays.is_kinds, sym arrays.is_terms, sym arrays.is_others, sym arrays.is_many) e

        is_choice : (o : Option Split) → choice ≡ o → split_of (table_of g) (closure_of (table_of g) ls) ≡ o
        is_choice o e = sym (splits g ok ls s begun s₁ here) ∙ rw (sym arrays.is_reads, sym arrays.is_sorts, sym arrays.is_fieldless) e

        is-kind : (b : Bool) → first_by reads s₁ ≡ b → kind_of (table_of g) (closure_of (table_of g) ls) ≡ kind_by b
        is-kind b e =
            let f : first_by (reads_of g) s₁ ≡ b = rw (sym arrays.is_reads) e in
            sym (kinds-same g ok ls s begun s₁ here) ∙ ap kind_by f

      -- with one the node is closed, whatever else follows
      is_early : lowest (empty_at sorts full s₁) 78 < 78 → is_closed (table_of g) ls (closure_of (table_of g) ls) ≡ true
      is_early h =
          closes_early g ok ls s begun s₁ (rw (sym arrays.is_shapes, sym arrays.is_reads, sym arrays.is_sorts, sym arrays.is_fieldless) settled.steps)
          (rw (sym arrays.is_sorts, sym arrays.is_full) h)

      is-closed : test ≡ true → is_closed (table_of g) ls (closure_of (table_of g) ls) ≡ true
      is-closed e = by_test (ltb (lowest (empty_at sorts full s₁) 78) 78) (λ b. is_early (ltb-true _ 78 b)) (λ b. is_test (lowest-none (empty_at sorts full s₁) 78 b) true e)

    pub closed-node : test ≡ true → (u : Tally) → u ≡ after_one leaf t → Gives t s (Outcome.Closed u) s₁
    unfolding Searches
    closed-node e u is_u_lem g ls ok arrays begun =
        (sym (ap (λ (w : Visits). outcome w t) (step_by g ok ls (range g ls ok arrays begun) true _ (is-closed g ls ok arrays begun e) refl) ∙ closed-leaf t some_left ∙ ap Outcome.Closed (sym is_u_lem)), λ n q. absurd (no_open n q))
      where
        no_open : (n : Tally) → Outcome.Closed u ≡ Outcome.Open n → ⊥
        no_open n q = let z : ◌≡◌ {A = ℕ} 0 1 = cc in absurd (omega arith)

    module _ (live : test ≡ false) where
      full? : lowest (empty_at sorts full s₁) 78 ≡ 78
      full? = none-empty i s₁ live

      pub open_node : choice ≡ none → (u : Tally) → u ≡ after_one leaf t → Gives t s (Outcome.Open u) s₁
      unfolding Searches
      open_node e u is_u_lem g ls ok arrays begun =
          let closed? = is_test g ls ok arrays begun full? false live in
          let split? = is_choice g ls ok arrays begun full? none e in (
            sym (ap (λ (w : Visits). outcome w t) (step_by g ok ls (range g ls ok arrays begun) false none closed? split?) ∙ open_leaf_lem t some_left ∙ ap Outcome.Open (sym is_u_lem)),
            λ n q. record { literals = ls; node = begun.node; not_closed = closed?; no_split = split?; agrees = agreed g ok ls s begun s₁ (here g ls ok arrays begun full?) },
          )

      module _ (d : Split) (split? : choice ≡ some d) (b : Bool) (first? : first_by reads s₁ ≡ b) (u : Tally) (is_u_lem : u ≡ after_one (split (kind_by b)) t) (r : Outcome) (child s₂ : State) (first : Gives u child r s₂) (is_child : child ≡ add s₁ (within d.term (2 ^ d.variant))) where
        module _ (g : Guard) (ls : List Literal) (ok : Accepted g) (arrays : ArraysOf g i reads) (begun : Begun g ls s) where
          abbrev is_visits : Visits
          is_visits = search (table_of g) (is d.term d.variant ∷ ls)

          abbrev isnt_visits : Visits
          isnt_visits = search (table_of g) (isnt d.term d.variant ∷ ls)

          chosen : split_of (table_of g) (closure_of (table_of g) ls) ≡ some d
          chosen = is_choice g ls ok arrays begun full? (some d) split?

          by_first : (r ≡ outcome is_visits (after_one (split (kind_by b)) t)) × ((n : Tally) → r ≡ Outcome.Open n → OpenLeaf g s₂)
          unfolding Searches
          by_first =
              let (q, open_at) = first g (is d.term d.variant ∷ ls) ok arrays
              (subst (Begun g (is d.term d.variant ∷ ls)) (sym is_child) (is_begun g ok ls s begun s₁ (here g ls ok arrays begun full?) d chosen)) in
              (q ∙ ap (outcome is_visits) is_u_lem, open_at)

          whole : search (table_of g) ls ≡ children (kind_by b) is_visits (λ u. isnt_visits)
          whole =
              step_by g ok ls (range g ls ok arrays begun) false (some d) (is_test g ls ok arrays begun full? false live) chosen
              ∙ ap (λ (k : Kind). children k is_visits (λ u. isnt_visits)) (is-kind g ls ok arrays begun full? b first?)

        -- the first child is open, or the budget is spent
        pub first_ends : is_closed_outcome r ≡ false → Gives t s r s₂
        unfolding Searches
        first_ends e g ls ok arrays begun =
            let (q, open_at) = by_first g ls ok arrays begun in (
              q ∙ sym (ap (λ (w : Visits). outcome w t) (whole g ls ok arrays begun)
                  ∙ first-tells (kind_by b) (is_visits g ls ok arrays begun) (isnt_visits g ls ok arrays begun) t some_left (sym (ap is_closed_outcome q) ∙ e)),
              open_at,
            )

        -- the first child is closed, and the second decides
        pub second-ends : is_closed_outcome r ≡ true → (v : Tally) → v ≡ tally_of r → (r' : Outcome) (child' s₃ : State) → Gives v child' r' s₃
            → child' ≡ add s₁ (within d.term (every_variant - 2 ^ d.variant)) → Gives t s r' s₃
        unfolding Searches
        second-ends e v is-v r' child' s₃ second is-child' g ls ok arrays begun =
            let (q, open_at) = by_first g ls ok arrays begun in
            let (q', open-at') = second g (isnt d.term d.variant ∷ ls) ok arrays
            (subst (Begun g (isnt d.term d.variant ∷ ls)) (sym is-child') (isnt_begun g ok ls s begun s₁ (here g ls ok arrays begun full?) d (chosen g ls ok arrays begun))) in (
              q' ∙ ap (outcome (isnt_visits g ls ok arrays begun)) is-v ∙ ap (λ (o : Outcome). outcome (isnt_visits g ls ok arrays begun) (tally_of o)) q
                  ∙ sym (ap (λ (w : Visits). outcome w t) (whole g ls ok arrays begun)
                  ∙ second_goes_on (kind_by b) (is_visits g ls ok arrays begun) (isnt_visits g ls ok arrays begun) t some_left (sym (ap is_closed_outcome q) ∙ e)),
              open-at',
            )
