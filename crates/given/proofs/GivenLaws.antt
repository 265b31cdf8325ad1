-- What is given by the arrays of a well-formed guard is what document 01 gives for it, up to the order of two equal constants. So the
-- state that begins with it is reached, and says all that is given. Assumes nothing.
use mathlib.Core.Path.{◌≡◌, refl, ap, ap₂, sym, ◌∙◌, subst}
use mathlib.Core.Bool.{Bool, true, false}
use mathlib.Core.List.{List, [], ◌∷◌, ◌++◌, foldl, map}
use Prim.Native.Nat.{ℕ, ◌≤◌, max, min}
use native.Mathlib.Omega.{arith}
use lib.Bits.{and_comm, bit_and}
use lib.Dec.{eqb}
use lib.ListN.{get_or, length, set}
use borrow.Author.Tests.{eq-eqb, eqb-false, eqb-true, ne_eqb}
use Rattle.laws.specs.All.{All, All.more, All.none}
use Rattle.laws.specs.Lists.{concat_map}
use Rattle.laws.proofs.Bools.{by_test}
use Rattle.laws.proofs.Lists.{all_append, all_left, all_of, all_right}
use Rattle.guard.specs.Closure.{Fact, Fact.same, State, add, all_variants, class_of, constants, given, merge_unless, of_literal, one_variant, pairwise, rename}
use Rattle.guard.specs.Guard.{Guard}
use Rattle.guard.specs.Limits.{Limits, Supported, total_variant_limit}
use Rattle.guard.specs.Terms.{table_of}
use Rattle.guard.specs.WellFormed.{WellFormed}
use Rattle.guard.proofs.AnyOrder.{Reached, Reached.by-given, Reached.start}
use Rattle.guard.proofs.ClosureEnds.{first}
use Rattle.guard.proofs.ClosureState.{Says, adds_say}
use Rattle.tables.specs.Layout.{flat, literal_table, row_table}
use Rattle.arrays.specs.Arrays.{constants_of, full_of, shapes_of, sorts_of}
use Rattle.labelfacts.specs.Labels.{all_variants_by, one_variant_by}
use Rattle.constantfacts.specs.Equal.{constants_by}
use Rattle.literalfacts.specs.Literals.{literals_by}
use Rattle.labelfacts.proofs.LabelLaws.{builds-from, builds_to, terms-from, terms_to}
use Rattle.constantfacts.proofs.EqualLaws.{constants-from, constants_to}
use Rattle.literalfacts.proofs.LiteralLaws.{literals-are}
use Rattle.given.specs.Given.{given_by}

module _ (P : Fact → Type 0) where
  all_four : (a b c d : List Fact) → All P (a ++ b ++ c ++ d) → All P a × All P b × All P c × All P d
  all_four a b c d h =
      let abc = all_left (a ++ b ++ c) d h in
      let ab = all_left (a ++ b) c abc in
      (all_left a b ab, all_right a b ab, all_right (a ++ b) c abc, all_right (a ++ b ++ c) d h)

-- ---- two equal terms in either order

same_turned : (a b : ℕ) → eqb a b ≡ eqb b a
same_turned a b = by_test (eqb b a) (λ e. eq-eqb a b (sym (eqb-true b a e)) ∙ sym e) (λ e. ne_eqb a b (λ q. eqb-false b a e (sym q)) ∙ sym e)

add_turned : (s : State) (i j : ℕ) → add s (same i j) ≡ add s (same j i)
add_turned s i j = ap (λ (b : Bool). merge_unless b s c d) (same_turned c d) ∙ turned (eqb d c)
  where
    c : ℕ
    c = class_of s i

    d : ℕ
    d = class_of s j

    merged : ℕ → ℕ → ℕ → State
    merged low high label = record { classes = rename low high s.classes; labels = set s.labels low label }

    turned : (b : Bool) → merge_unless b s c d ≡ merge_unless b s d c
    turned true = refl
    turned false =
        let low : min c d ≡ min d c = omega arith in
        let high : max c d ≡ max d c = omega arith in
        ap₂ (λ (l h : ℕ). merged l h (bit_and (get_or s.labels c 0) (get_or s.labels d 0))) low high ∙ ap (merged (min d c) (max d c)) (and_comm (get_or s.labels c 0) (get_or s.labels d 0))

-- ---- a guard

-- what the arrays of a guard give
abbrev pub given_of : Guard → List Fact
given_of g =
    given_by (shapes_of g) (sorts_of g) (full_of g) (constants_of g) (row_table g.types g.rows).values
    (literal_table g.literals).kinds (literal_table g.literals).terms (literal_table g.literals).others (literal_table g.literals).many

module _ (limits : Limits) (sup : Supported limits) (g : Guard) (ok : WellFormed limits g) (total : length (flat g.types) ≤ total_variant_limit) where
  module _ (P : Fact → Type 0) (turn : (i j : ℕ) → P (same i j) → P (same j i)) where
    given_to : All P (given (table_of g) g.literals) → All P (given_of g)
    unfolding given_by table_of
    given_to h =
        let (a, b, c, d) = all_four P (map (all_variants g.types) (table_of g).terms) (map one_variant (table_of g).builds) (pairwise constants (table_of g).consts) (concat_map of_literal g.literals) h in
        all_append (all_append (all_append (terms_to limits sup g ok total P a) (builds_to limits sup g ok total P b)) (constants_to limits sup g ok total P turn c))
        (subst (All P) (sym (literals-are g.literals)) d)

    given-from : ((i : ℕ) → P (same i i)) → All P (given_of g) → All P (given (table_of g) g.literals)
    unfolding given_by table_of
    given-from itself h =
        let (a, b, c, d) = all_four P (all_variants_by (sorts_of g) (full_of g)) (one_variant_by (shapes_of g)) (constants_by (constants_of g) (row_table g.types g.rows).values)
        (literals_by (literal_table g.literals).kinds (literal_table g.literals).terms (literal_table g.literals).others (literal_table g.literals).many) h in
        all_append (all_append (all_append (terms-from limits sup g ok total P a) (builds-from limits sup g ok total P b)) (constants-from limits sup g ok total P turn itself c))
        (subst (All P) (literals-are g.literals) d)

  -- the state that begins is reached
  pub begin-reached : Reached (table_of g) g.literals 96 (foldl add (first 96) (given_of g))
  begin-reached = adds_reach (given_of g) (given_to Step turn (all_of (given (table_of g) g.literals) (λ f m s r. by-given r f m))) (first 96) start
    where
      -- a state with one fact more is reached too
      Step : Fact → Type 0
      Step f = (s : State) → Reached (table_of g) g.literals 96 s → Reached (table_of g) g.literals 96 (add s f)

      turn : (i j : ℕ) → Step (same i j) → Step (same j i)
      turn i j h s r = subst (Reached (table_of g) g.literals 96) (add_turned s i j) (h s r)

      adds_reach : (fs : List Fact) → All Step fs → (s : State) → Reached (table_of g) g.literals 96 s → Reached (table_of g) g.literals 96 (foldl add s fs)
      adds_reach [] none s r = r
      adds_reach (f ∷ fs) (more h hs) s r = adds_reach fs hs (add s f) (h s r)

  -- and says all that is given
  pub begin-says : All (Says (foldl add (first 96) (given_of g))) (given (table_of g) g.literals)
  unfolding Says
  begin-says = given-from (Says (foldl add (first 96) (given_of g))) (λ i j e. sym e) (λ i. refl) (adds_say (given_of g) (first 96))
