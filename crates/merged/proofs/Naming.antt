-- How the second guard's rows are named: each is a variable that is taken as one of the first's, and has its number and its type,
-- or it is written, and has the next number. Whatever holds of the first's variables and of the written rows at their numbers then
-- holds of all the second's rows at their names; and each written row is one of the second's, behind the names of those before it.
-- Assumes nothing.
use mathlib.Core.Path.{◌≡◌, ap, sym, subst, ◌∙◌}
use mathlib.Core.Bool.{true}
use mathlib.Core.List.{List, [], ◌∷◌}
use Prim.Native.Nat.{ℕ, zero, suc, ◌+◌, ◌≤◌, ◌<◌}
use native.Mathlib.Omega.{arith}
use native.Mathlib.Nat.{add-zero, zero-add}
use lib.Dec.{eqb, ltb}
use lib.ListN.{length, get_or-eq_default}
use lib.IntN.{pos}
use borrow.Author.Tests.{eqb-false, eqb-true, ltb-true, ltb-false}
use Rattle.laws.specs.All.{All, All.more, All.none}
use Rattle.laws.proofs.Bools.{and_left, and_right, by_test}
use Rattle.guard.specs.Guard.{Row, Row.built, Row.constant, Row.field, Row.variable, no_row, row_at, type_at, type_of}
use Rattle.guard.specs.Types.{Types}
use Rattle.merged.specs.Merge.{named, names_from, types_agree, variables, variables_from, written_of}

-- past the last row there is no variable
pub variable-row : (rs : List Row) (i t : ℕ) → row_at rs i ≡ variable t → i < length rs
variable-row rs i t e =
    by_test (ltb i (length rs)) (λ b. ltb-true i _ b)
    (λ b. let clash : constant 0 (pos 0) ≡ variable t = sym (get_or-eq_default rs no_row {n = i} (ltb-false i _ b)) ∙ e in
    let z : ◌≡◌ {A = ℕ} 0 1 = cc in absurd (omega arith))

-- a number is the name of a row, and higher than the names of the rows before it
pub record Names (ns : List ℕ) (rs : List Row) (q : ℕ) : Type 0 where
  pub row : ℕ
  pub inside : row < length rs
  pub name : named ns row ≡ q
  pub higher : (j : ℕ) → j < row → named ns j < q

later : {x q : ℕ} {r : Row} {ns : List ℕ} {rs : List Row} → x < q → Names ns rs q → Names (x ∷ ns) (r ∷ rs) q
later {x} {q} {r} {ns} l n = record { row = suc n.row; inside = omega (arith, n.inside); name = n.name; higher = go }
  where
    go : (j : ℕ) → j < suc n.row → named (x ∷ ns) j < q
    go zero h = l
    go (suc j) h = n.higher j (omega arith)

module _ (firsts : List Row) where
  -- rows, where the next one that is written gets the number given; their names; those that are written
  pub data Naming : ℕ → List Row → List ℕ → List Row → Type 0 where
    ends : {next : ℕ} → Naming next [] [] []
    takes : {next x t : ℕ} {rs ws : List Row} {ns : List ℕ} → row_at firsts x ≡ variable t → Naming next rs ns ws → Naming next (variable t ∷ rs) (x ∷ ns) ws
    writes : {next : ℕ} {r : Row} {rs ws : List Row} {ns : List ℕ} → Naming (suc next) rs ns ws → Naming next (r ∷ rs) (next ∷ ns) (r ∷ ws)

  -- no variable is left to take
  writes_all : (next : ℕ) (rs : List Row) → Naming next rs (names_from [] next rs) rs
  writes_all next [] = ends
  writes_all next (r ∷ rs) = writes (writes_all (suc next) rs)

  module _ (ts : Types) where
    -- a variable of the first's
    abbrev Taken : ℕ → Type 0
    Taken x = row_at firsts x ≡ variable (type_at ts firsts x)

    all-taken : (i : ℕ) (rs : List Row) → ((k : ℕ) → k < length rs → row_at firsts (i + k) ≡ row_at rs k) → All Taken (variables_from i rs)
    all-taken i [] at = none
    all-taken i (r ∷ rs) at =
        go r (ap (row_at firsts) (sym (add-zero i)) ∙ at 0 (omega arith))
        (all-taken (suc i) rs (λ k h. let e : suc i + k ≡ i + suc k = omega arith in ap (row_at firsts) e ∙ at (suc k) (omega arith)))
      where
        go : (r : Row) → row_at firsts i ≡ r → All Taken (variables_from (suc i) rs) → All Taken (variables_from i (r ∷ rs))
        go (variable t) e rest = more (e ∙ ap (λ (w : Row). variable (type_of ts w)) (sym e)) rest
        go (constant t z) e rest = rest
        go (built t v ps) e rest = rest
        go (field t a v p) e rest = rest

    naming_from : {vs : List ℕ} → All Taken vs → (next : ℕ) (rs : List Row) → types_agree ts firsts vs rs ≡ true → Naming next rs (names_from vs next rs) (written_of vs rs)
    naming_from all next [] e = ends
    naming_from none next (r ∷ rs) e = writes_all next (r ∷ rs)
    naming_from (more {x = x} {xs = vs} p ps) next (variable t ∷ rs) e =
        takes (p ∙ ap variable (eqb-true _ _ (and_left (eqb (type_at ts firsts x) t) (types_agree ts firsts vs rs) e)))
        (naming_from ps next rs (and_right (eqb (type_at ts firsts x) t) (types_agree ts firsts vs rs) e))
    naming_from (more p ps) next (constant t z ∷ rs) e = writes (naming_from (more p ps) (suc next) rs e)
    naming_from (more p ps) next (built t v qs ∷ rs) e = writes (naming_from (more p ps) (suc next) rs e)
    naming_from (more p ps) next (field t a v q ∷ rs) e = writes (naming_from (more p ps) (suc next) rs e)

    pub naming : (next : ℕ) (rs : List Row) → types_agree ts firsts (variables firsts) rs ≡ true → Naming next rs (names_from (variables firsts) next rs) (written_of (variables firsts) rs)
    naming = naming_from (all-taken 0 firsts (λ k h. ap (row_at firsts) (zero-add k)))

  -- what holds of the first's variables and of the written rows holds of each row at its name
  pub stands : (Stands : ℕ → Row → Type 0) → ((x t : ℕ) → row_at firsts x ≡ variable t → Stands x (variable t)) → {next : ℕ} {rs ws : List Row} {ns : List ℕ} → Naming next rs ns ws
      → ((k : ℕ) → k < length ws → Stands (next + k) (row_at ws k)) → (i : ℕ) → i < length rs → Stands (named ns i) (row_at rs i)
  stands S v ends w i h = absurd (omega arith)
  stands S v (takes {x = x} {t = t} e n) w zero h = v x t e
  stands S v (takes e n) w (suc i) h = stands S v n w i (omega arith)
  stands S v (writes {next = next} {r = r} n) w zero h = subst (λ (q : ℕ). S q r) (add-zero next) (w 0 (omega arith))
  stands S v (writes {next = next} {ws = ws} n) w (suc i) h =
      stands S v n (λ k l. let e : next + suc k ≡ suc next + k = omega arith in subst (λ (q : ℕ). S q (row_at ws k)) e (w (suc k) (omega arith))) i (omega arith)

  -- the number of a written row is the name of one of the rows
  pub written-named : {next : ℕ} {rs ws : List Row} {ns : List ℕ} → Naming next rs ns ws → length firsts ≤ next → (q : ℕ) → next ≤ q → q < next + length ws → Names ns rs q
  written-named ends l q low high = absurd (omega arith)
  written-named (takes {x = x} {t = t} e n) l q low high = later (omega (arith, variable-row firsts x t e)) (written-named n l q low high)
  written-named (writes {next = next} n) l q low high =
      by_test (eqb next q) (λ b. record { row = 0; inside = omega arith; name = eqb-true next q b; higher = λ j h. absurd (omega arith) })
      (λ b. let d : next < q = omega (arith, eqb-false next q b) in later d (written-named n (omega arith) q d (omega arith)))
