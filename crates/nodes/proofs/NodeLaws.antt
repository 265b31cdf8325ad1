-- A node by the arrays of a guard's problem: it is closed where document 01 closes it, and the tables of a guard meet
-- what the code requires of the literals. Assumes nothing.
use mathlib.Core.Path.{◌≡◌, refl, ap, ◌∙◌}
use mathlib.Core.Bool.{Bool, ◌||◌}
use mathlib.Core.List.{List, [], ◌∷◌, map, Memᴰ}
use Prim.Native.Nat.{ℕ, zero, suc, ◌≤◌, ◌<◌}
use native.Mathlib.Omega.{arith}
use lib.Dec.{ltb}
use lib.ListN.{length, get_or}
use Rattle.laws.proofs.Lists.{map_inv}
use Rattle.guard.specs.Closure.{State, class_of}
use Rattle.guard.specs.Guard.{Guard, Literal, Literal.equal, Literal.is, Literal.isnt, Literal.unequal, type_at}
use Rattle.guard.specs.Limits.{Limits, Supported, total_variant_limit}
use Rattle.guard.specs.Node.{is_closed}
use Rattle.guard.specs.Terms.{table_of, term_count}
use Rattle.guard.specs.WellFormed.{LiteralFits, WellFormed}
use Rattle.guard.proofs.ClosureState.{Small}
use Rattle.guard.proofs.TableLaws.{few-rows}
use Rattle.tables.specs.Layout.{flat, literal_other, literal_table, literal_term, pad, row_table}
use Rattle.tables.proofs.Columns.{pad_get}
use Rattle.classes.specs.Held.{Held}
use Rattle.loops.specs.Lowest.{lowest}
use Rattle.arrays.specs.Arrays.{constants_of, full_of, shapes_of, sorts_of}
use Rattle.reasons.specs.Reasons.{LinesFit, broken_at}
use Rattle.reasons.proofs.ReasonLaws.{broken-same, empty-same, unlike-same}
use Rattle.ranks.proofs.CycleLaws.{inside-same}
use Rattle.nodes.specs.Closed.{closed_by}

many_is : (ls : List Literal) → (literal_table ls).many ≡ length ls
unfolding literal_table
many_is ls = refl

module _ (limits : Limits) (supported : Supported limits) (g : Guard) (ok : WellFormed limits g) where
  -- ---- what the code requires

  pub few-lines : (literal_table g.literals).many ≤ 64
  few-lines = omega (arith, many_is g.literals, ok.line_count, supported.lines)

  column-small : (f : Literal → ℕ) → ((l : Literal) → Memᴰ l g.literals → f l < 96) → (j : ℕ) → get_or (pad 64 (map f g.literals)) j 0 < 96
  column-small f h j = rw (pad_get 0 64 j (map f g.literals)) (go (map f g.literals) (map_inv f (λ n. n < 96) g.literals h) j)
    where
      go : (ns : List ℕ) → ((n : ℕ) → Memᴰ n ns → n < 96) → (j : ℕ) → get_or ns j 0 < 96
      go [] h j = omega arith
      go (n ∷ ns) h zero = h n (Memᴰ.head refl)
      go (n ∷ ns) h (suc j) = go ns (λ m k. h m (Memᴰ.tail k)) j

  pub lines_fit_lem : LinesFit (literal_table g.literals).terms (literal_table g.literals).others
  unfolding literal_table
  lines_fit_lem = record { term = column-small literal_term (λ l m. term l (ok.literals l m)); other = column-small literal_other (λ l m. other l (ok.literals l m)) }
    where
      term : (l : Literal) → LiteralFits g.types g.rows l → literal_term l < 96
      term (equal i j) f = omega (arith, f.0, few-rows limits supported g ok)
      term (unequal i j) f = omega (arith, f.0, few-rows limits supported g ok)
      term (is i v) f = omega (arith, f.0, few-rows limits supported g ok)
      term (isnt i v) f = omega (arith, f.0, few-rows limits supported g ok)

      other : (l : Literal) → LiteralFits g.types g.rows l → literal_other l < 96
      other (equal i j) f = omega (arith, f.1, few-rows limits supported g ok)
      other (unequal i j) f = omega (arith, f.1, few-rows limits supported g ok)
      other (is i v) f = omega (arith, f.1, ok.variant_counts (type_at g.types g.rows i))
      other (isnt i v) f = omega (arith, f.1, ok.variant_counts (type_at g.types g.rows i))

  -- ---- a node is closed where document 01 closes it, whatever decisions it has besides the guard's literals

  module _ (total : length (flat g.types) ≤ total_variant_limit) (s : State) (small : Small s) (held : Held s.classes) (inside : (i : ℕ) → i < term_count → class_of s i < term_count)
      (ls : List Literal) (into : (i j : ℕ) → Memᴰ (unequal i j) ls → Memᴰ (unequal i j) g.literals) (back : (i j : ℕ) → Memᴰ (unequal i j) g.literals → Memᴰ (unequal i j) ls) where
    pub closed_same : closed_by (shapes_of g) (sorts_of g) (full_of g) (constants_of g) (row_table g.types g.rows).values (literal_table g.literals).kinds (literal_table g.literals).terms (literal_table g.literals).others (literal_table g.literals).many s
        ≡ is_closed (table_of g) ls s
    unfolding closed_by is_closed
    closed_same =
        or₄ (empty-same limits supported g ok total s) (ap (λ (n : ℕ). ltb (lowest broken_line n) n) (many_is g.literals) ∙ broken-same g.literals s ls into back) (unlike-same limits supported g ok total s held)
        (inside-same limits supported g ok total s small held inside)
      where
        broken_line : ℕ → Bool
        broken_line = broken_at (literal_table g.literals).kinds (literal_table g.literals).terms (literal_table g.literals).others s.classes

        or₄ : {a b c d a' b' c' d' : Bool} → a ≡ a' → b ≡ b' → c ≡ c' → d ≡ d' → (a || (b || (c || d))) ≡ (a' || (b' || (c' || d')))
        or₄ p q r e = cc
