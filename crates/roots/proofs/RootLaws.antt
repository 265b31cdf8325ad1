-- The root: what the search of an accepted guard looks at, and the state that it begins with.
-- Assumes nothing.
use mathlib.Core.Path.{◌≡◌, ap, sym, ◌∙◌, subst}
use mathlib.Core.List.{List, foldl}
use Prim.Native.Nat.{ℕ, ◌≤◌}
use Rattle.guard.specs.Closure.{Fact, State, add}
use Rattle.guard.specs.Guard.{Guard}
use Rattle.guard.proofs.ClosureEnds.{first}
use Rattle.reader.specs.declared.Tables.{Tables}
use Rattle.reader.specs.Reader.{guard_tables}
use Rattle.problem.specs.declared.Problem.{Problem}
use Rattle.problem.specs.Problem.{problem_of}
use Rattle.problem.specs.Columns.{problem_by}
use Rattle.problem.proofs.ProblemLaws.{problem_is}
use Rattle.arrays.specs.Slots.{ReadsFit, ShapesFit, SortsFit}
use Rattle.reasons.specs.Reasons.{LinesFit}
use Rattle.instance.specs.declared.Instance.{Instance}
use Rattle.tables.specs.declared.LiteralTable.{LiteralTable}
use Rattle.arrays.proofs.GuardSlots.{reads_fit_lem, shapes-fit, sorts-fit}
use Rattle.literalfacts.specs.Literals.{LiteralsFit}
use Rattle.literalfacts.proofs.LiteralLaws.{literals-fit}
use Rattle.given.specs.Given.{given_by}
use Rattle.given.proofs.GivenLaws.{begin-reached, begin-says, given_of}
use Rattle.nodes.proofs.NodeLaws.{few-lines, lines_fit_lem}
use Rattle.search.specs.Nodes.{Accepted, ArraysOf, Begun, NodeLiterals.at_root}

-- what is looked at, by tables and a problem
pub record LooksAt (tables : Tables) (p : Problem) (i : Instance) (reads : List ℕ) : Type 0 where
  pub shapes : i.shapes.slots ≡ p.shapes
  pub reads-kept : reads ≡ p.reads
  pub sorts : i.sorts.sorts ≡ p.sorts
  pub full : i.sorts.full ≡ p.full
  pub fieldless : i.sorts.fieldless ≡ p.fieldless
  pub constants : i.constants.sorts ≡ p.constants
  pub values : i.constants.values ≡ tables.rows.values
  pub lines : i.lines ≡ tables.literals

-- what is given, by what is looked at
abbrev pub given_in : Instance → List Fact
given_in i = given_by i.shapes.slots i.sorts.sorts i.sorts.full i.constants.sorts i.constants.values i.lines.kinds i.lines.terms i.lines.others i.lines.many

-- ---- the arrays of a guard

module _ (tables : Tables) (p : Problem) (ep : p ≡ problem_by tables) (g : Guard) (ok : Accepted g) (is : tables ≡ guard_tables g) where
  problem : p ≡ problem_of g
  problem = ep ∙ ap problem_by is ∙ problem_is ok.limits ok.supported g ok.well_formed ok.total

  pub shapes-fit-here : ShapesFit p.shapes
  unfolding problem_of
  shapes-fit-here = rw problem (shapes-fit ok.limits ok.supported g ok.well_formed ok.total)

  pub reads-fit-here : ReadsFit p.reads
  unfolding problem_of
  reads-fit-here = rw problem (reads_fit_lem ok.limits ok.supported g ok.well_formed ok.total)

  pub sorts-fit-here : SortsFit p.sorts
  unfolding problem_of
  sorts-fit-here = rw problem (sorts-fit ok.limits ok.supported g ok.well_formed ok.total)

  pub literals-fit-here : LiteralsFit tables.literals.kinds tables.literals.terms tables.literals.others tables.literals.many
  unfolding guard_tables
  literals-fit-here = rw is (literals-fit ok.limits ok.supported g ok.well_formed)

  pub lines-fit-here : LinesFit tables.literals.terms tables.literals.others
  unfolding guard_tables
  lines-fit-here = rw is (lines_fit_lem ok.limits ok.supported g ok.well_formed)

  pub few-lines-here : tables.literals.many ≤ 64
  unfolding guard_tables
  few-lines-here = rw is (few-lines ok.limits ok.supported g ok.well_formed)

  -- all of these
  pub arrays_fit : ShapesFit p.shapes × ReadsFit p.reads × SortsFit p.sorts × LinesFit tables.literals.terms tables.literals.others × (tables.literals.many ≤ 64)
  arrays_fit = (shapes-fit-here, reads-fit-here, sorts-fit-here, lines-fit-here, few-lines-here)

  module _ (i : Instance) (reads : List ℕ) (l : LooksAt tables p i reads) where
    pub arrays_of : ArraysOf g i reads
    unfolding problem_of guard_tables
    arrays_of =
        record {
          is_shapes = l.shapes ∙ ap (λ (q : Problem). q.shapes) problem;
          is_reads = l.reads-kept ∙ ap (λ (q : Problem). q.reads) problem;
          is_sorts = l.sorts ∙ ap (λ (q : Problem). q.sorts) problem;
          is_full = l.full ∙ ap (λ (q : Problem). q.full) problem;
          is_fieldless = l.fieldless ∙ ap (λ (q : Problem). q.fieldless) problem;
          is_constants = l.constants ∙ ap (λ (q : Problem). q.constants) problem;
          is_values = l.values ∙ ap (λ (q : Tables). q.rows.values) is;
          is_kinds = ap (λ (q : LiteralTable). q.kinds) l.lines ∙ ap (λ (q : Tables). q.literals.kinds) is;
          is_terms = ap (λ (q : LiteralTable). q.terms) l.lines ∙ ap (λ (q : Tables). q.literals.terms) is;
          is_others = ap (λ (q : LiteralTable). q.others) l.lines ∙ ap (λ (q : Tables). q.literals.others) is;
          is_many = ap (λ (q : LiteralTable). q.many) l.lines ∙ ap (λ (q : Tables). q.literals.many) is;
        }

    -- ---- the root begins

    pub root_begun : (s : State) → s ≡ foldl add (first 96) (given_in i) → Begun g g.literals s
    root_begun s e =
        let a : ArraysOf g i reads = arrays_of in
        let b : Begun g g.literals (foldl add (first 96) (given_of g)) = record {
          node = at_root;
          reached = begin-reached ok.limits ok.supported g ok.well_formed ok.total;
          says = begin-says ok.limits ok.supported g ok.well_formed ok.total;
        } in
        subst (Begun g g.literals) (sym e) (rw (a.is_shapes, a.is_sorts, a.is_full, a.is_constants, a.is_values, a.is_kinds, a.is_terms, a.is_others, a.is_many) b)
