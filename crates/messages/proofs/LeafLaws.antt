-- The leaf made from the tables of an accepted guard is the guard's. Assumes nothing.
use mathlib.Core.Path.{◌≡◌, refl, ap, sym, ◌∙◌, subst}
use mathlib.Core.List.{List}
use Prim.Native.Nat.{ℕ, ◌≤◌, ◌<◌}
use native.Mathlib.Omega.{arith}
use lib.ListN.{length, get_or}
use Rattle.guard.specs.Closure.{State}
use Rattle.guard.specs.Guard.{Guard}
use Rattle.tables.specs.Layout.{row_table}
use Rattle.reader.specs.declared.Tables.{Tables}
use Rattle.reader.specs.Reader.{guard_tables}
use Rattle.problem.specs.declared.Problem.{Problem}
use Rattle.arrays.specs.Arrays.{shapes_of}
use Rattle.problem.specs.Problem.{problem_of}
use Rattle.problem.specs.Columns.{problem_by}
use Rattle.problem.proofs.ProblemLaws.{problem_is}
use Rattle.arrays.specs.Slots.{ShapesFit, SortsFit, kind_at}
use Rattle.arrays.proofs.GuardSlots.{shapes-fit, sorts-fit}
use Rattle.ranks.specs.Ranks.{ranking_of}
use Rattle.ranks.proofs.RankLaws.{ranks-small}
use Rattle.search.specs.Nodes.{Accepted}
use Rattle.needed.specs.Needed.{Marks}
use Rattle.leaf.specs.declared.Leaf.{Leaf}
use Rattle.messages.specs.Rows.{LeafOf}
use Rattle.messages.proofs.OpenLaws.{kinds-small}

module _ (tables : Tables) (r : Problem) (made : r ≡ problem_by tables) (g : Guard) (ok : Accepted g) (is : tables ≡ guard_tables g) where
  problem_read : r ≡ problem_of g
  problem_read = made ∙ ap problem_by is ∙ problem_is ok.limits ok.supported g ok.well_formed ok.total

  shapes-read : r.shapes ≡ shapes_of g
  unfolding problem_of
  shapes-read = ap (λ (p : Problem). p.shapes) problem_read

  terms-read : tables.rows.many ≡ length g.rows
  unfolding guard_tables row_table
  terms-read = ap (λ (t : Tables). t.rows.many) is

  pub terms-few : tables.rows.many ≤ 24
  terms-few = omega (arith, terms-read, ok.well_formed.term_count, ok.supported.terms)

  pub shapes-there : ShapesFit r.shapes
  shapes-there = subst ShapesFit (sym shapes-read) (shapes-fit ok.limits ok.supported g ok.well_formed ok.total)

  pub sorts-there : SortsFit r.sorts
  unfolding problem_of
  sorts-there = subst SortsFit (sym (ap (λ (p : Problem). p.sorts) problem_read)) (sorts-fit ok.limits ok.supported g ok.well_formed ok.total)

  pub kinds-there : (k : ℕ) → k < 30 → kind_at r.shapes k ≤ 256
  kinds-there = subst (λ (l : List ℕ). (k : ℕ) → k < 30 → kind_at l k ≤ 256) (sym shapes-read) (kinds-small g ok)

  pub ranks-there : (s : State) (ranks : List ℕ) → ranks ≡ (ranking_of r.shapes s).ranks → (c : ℕ) → get_or ranks c 0 ≤ 31
  ranks-there s ranks e = subst (λ (l : List ℕ). (c : ℕ) → get_or l c 0 ≤ 31) (sym e) (ranks-small r.shapes s)

  pub leaf-made : (leaf : Leaf) → leaf.shapes.slots ≡ r.shapes → leaf.sorts.sorts ≡ r.sorts → leaf.sorts.fieldless ≡ r.fieldless → leaf.constants.sorts ≡ r.constants → leaf.constants.values ≡ tables.rows.values
      → Marks r.shapes leaf.state tables.rows.many leaf.marks → leaf.ranks ≡ (ranking_of r.shapes leaf.state).ranks → LeafOf g leaf.state leaf
  unfolding problem_of guard_tables
  leaf-made leaf es et ef ec ev m k = record {
    state = refl;
    shapes = es ∙ shapes-read;
    sorts = et ∙ ap (λ (p : Problem). p.sorts) problem_read;
    fieldless = ef ∙ ap (λ (p : Problem). p.fieldless) problem_read;
    constants = ec ∙ ap (λ (p : Problem). p.constants) problem_read;
    values = ev ∙ ap (λ (t : Tables). t.rows.values) is;
    marks = subst (λ (l : List ℕ). Marks l leaf.state (length g.rows) leaf.marks) shapes-read (subst (λ (n : ℕ). Marks r.shapes leaf.state n leaf.marks) terms-read m);
    ranks = k ∙ ap (λ (l : List ℕ). (ranking_of l leaf.state).ranks) shapes-read;
  }
