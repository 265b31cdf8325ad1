-- What the literals of the table of a guard give is what document 01 gives for them; those of a well-formed guard are as the code
-- requires them. Assumes nothing.
use mathlib.Core.Path.{◌≡◌, refl, ap, ap₂, sym, ◌∙◌, subst}
use mathlib.Core.List.{List, [], ◌∷◌, ◌++◌, map}
use Prim.Native.Nat.{ℕ, suc, ◌+◌, ◌≤◌, ◌<◌}
use native.Mathlib.Nat.{add-zero, zero-add}
use native.Mathlib.Omega.{arith}
use lib.ListN.{get_or, length}
use Rattle.laws.specs.Lists.{concat_map, from}
use Rattle.laws.proofs.Lists.{all_get_d, all_of}
use Rattle.guard.specs.Closure.{Fact, of_literal}
use Rattle.guard.specs.Guard.{Guard, Literal, Literal.equal, Literal.is, Literal.isnt, Literal.unequal}
use Rattle.guard.specs.Limits.{Limits, Supported}
use Rattle.guard.specs.WellFormed.{WellFormed}
use Rattle.guard.proofs.ClosureBelow.{LiteralInRange}
use Rattle.guard.proofs.TableLaws.{literals_in_range_lem}
use Rattle.tables.specs.Layout.{literal_kind, literal_other, literal_table, literal_term}
use Rattle.tables.proofs.Columns.{pad_get}
use Rattle.tables.proofs.Lookups.{map_at}
use Rattle.literalfacts.specs.Literals.{LiteralsFit, fact_of, literal_at, literals_by}

-- a list of facts for each element, by its place
concat_places : {A : Type 0} (facts : ℕ → List Fact) (of : A → List Fact) (d : A) (xs : List A) (a : ℕ) → ((j : ℕ) → j < length xs → facts (a + j) ≡ of (get_or xs j d))
    → concat_map facts (from (length xs) a) ≡ concat_map of xs
concat_places facts of d [] a h = refl
concat_places facts of d (x ∷ xs) a h =
    ap₂ (λ (fs gs : List Fact). fs ++ gs) (ap facts (sym (add-zero a)) ∙ h 0 (omega arith))
    (concat_places facts of d xs (suc a) (λ j l. let e : suc a + j ≡ a + suc j = omega arith in ap facts e ∙ h (suc j) (omega arith)))

-- what a list of literals gives past its end; no slot in use looks there
abbrev no_literal : Literal
no_literal = equal 0 0

literal-fact : (l : Literal) → fact_of (literal_kind l) (literal_term l) (literal_other l) ≡ of_literal l
literal-fact (equal i j) = refl
literal-fact (unequal i j) = refl
literal-fact (is i v) = refl
literal-fact (isnt i v) = refl

module _ (ls : List Literal) where
  -- slot j of the table is literal j
  module _ (j : ℕ) (inside : j < length ls) where
    kind_at : get_or (literal_table ls).kinds j 0 ≡ literal_kind (get_or ls j no_literal)
    unfolding literal_table
    kind_at = pad_get 0 64 j (map literal_kind ls) ∙ map_at literal_kind ls j no_literal 0 inside

    term-at : get_or (literal_table ls).terms j 0 ≡ literal_term (get_or ls j no_literal)
    unfolding literal_table
    term-at = pad_get 0 64 j (map literal_term ls) ∙ map_at literal_term ls j no_literal 0 inside

    other_at : get_or (literal_table ls).others j 0 ≡ literal_other (get_or ls j no_literal)
    unfolding literal_table
    other_at = pad_get 0 64 j (map literal_other ls) ∙ map_at literal_other ls j no_literal 0 inside

    literal-at : literal_at (literal_table ls).kinds (literal_table ls).terms (literal_table ls).others j ≡ of_literal (get_or ls j no_literal)
    unfolding literal_at
    literal-at =
        ap₂ (λ (k i : ℕ). fact_of k i (get_or (literal_table ls).others j 0)) kind_at term-at ∙ ap (fact_of (literal_kind (get_or ls j no_literal)) (literal_term (get_or ls j no_literal))) other_at
        ∙ literal-fact (get_or ls j no_literal)

  pub literals-are : literals_by (literal_table ls).kinds (literal_table ls).terms (literal_table ls).others (literal_table ls).many ≡ concat_map of_literal ls
  unfolding literals_by literal_table
  literals-are =
      concat_places (literal_at (literal_table ls).kinds (literal_table ls).terms (literal_table ls).others) of_literal no_literal ls 0
      (λ j l. ap (literal_at (literal_table ls).kinds (literal_table ls).terms (literal_table ls).others) (zero-add j) ∙ literal-at j l)

-- the numbers of a literal in range
literal-fits : (l : Literal) → LiteralInRange l → (literal_term l < 96) × (literal_other l < 96) × (2 ≤ literal_kind l → literal_other l < 16)
literal-fits (equal i j) (a, b) = (omega arith, omega arith, λ h. absurd (omega arith))
literal-fits (unequal i j) (a, b) = (omega arith, omega arith, λ h. absurd (omega arith))
literal-fits (is i v) (a, b) = (omega arith, omega arith, λ h. b)
literal-fits (isnt i v) (a, b) = (omega arith, omega arith, λ h. b)

module _ (limits : Limits) (sup : Supported limits) (g : Guard) (ok : WellFormed limits g) where
  -- the literals are as the code requires them
  pub literals-fit : LiteralsFit (literal_table g.literals).kinds (literal_table g.literals).terms (literal_table g.literals).others (literal_table g.literals).many
  unfolding literal_table
  literals-fit =
      record {
        few = omega (arith, ok.line_count, sup.lines);
        term = λ j l. subst (λ (n : ℕ). n < 96) (sym (term-at g.literals j l)) (fits j l).0;
        other = λ j l. subst (λ (n : ℕ). n < 96) (sym (other_at g.literals j l)) (fits j l).1;
        variant = λ j l k. subst (λ (n : ℕ). n < 16) (sym (other_at g.literals j l)) ((fits j l).2 (subst (λ (n : ℕ). 2 ≤ n) (kind_at g.literals j l) k));
      }
    where
      literal : ℕ → Literal
      literal j = get_or g.literals j no_literal

      fits : (j : ℕ) → j < length g.literals → (literal_term (literal j) < 96) × (literal_other (literal j) < 96) × (2 ≤ literal_kind (literal j) → literal_other (literal j) < 16)
      fits j l = literal-fits (literal j) (all_get_d (all_of g.literals (literals_in_range_lem limits sup g ok)) j no_literal l)
