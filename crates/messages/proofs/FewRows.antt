-- Rows that suffice for an open node, by the size of its guard. A free class is named by a row or a sibling field: the name of a
-- class is a term, and the class of a default has a shape or a constant. So at most three numbers for each row are free,
-- and each takes its growth, with ranks up to 30. Assumes nothing.
use mathlib.Core.Path.{◌≡◌, refl, ap, sym, ◌∙◌, subst}
use mathlib.Core.Bool.{true}
use mathlib.Core.List.{List, Memᴰ}
use mathlib.Core.Logic.{◌⊎◌, inl, inr}
use mathlib.Core.Option.{none, some}
use Prim.Native.Nat.{ℕ, ◌+◌, ◌*◌, ◌≤◌, ◌<◌}
use native.Mathlib.Nat.{mul-le-mul}
use native.Mathlib.Omega.{arith}
use lib.Dec.{leb, ltb}
use lib.ListN.{length, get_or}
use borrow.Author.Tests.{leb-true, ltb-false, ltb-true}
use Rattle.laws.proofs.Bools.{and_left, and_right, by_test}
use Rattle.laws.proofs.Lists.{from_bounds, mem_map}
use Rattle.laws.specs.Lists.{from}
use Rattle.guard.specs.Closure.{State, class_of, closure_of}
use Rattle.guard.specs.Guard.{Guard, Literal, Row.field}
use Rattle.guard.specs.Limits.{Limits, Supported}
use Rattle.guard.specs.Message.{Message, Message.made, Message.number}
use Rattle.guard.specs.Rules.{BuiltAt.row}
use Rattle.guard.specs.Terms.{Read, Term, default_term, sibling_term, siblings_of, table_of}
use Rattle.guard.specs.Types.{defaults, fields_of}
use Rattle.guard.specs.WellFormed.{RowFits, WellFormed}
use Rattle.guard.proofs.Agreement.{named_closure}
use Rattle.guard.proofs.ClosureState.{Small}
use Rattle.guard.proofs.TableLaws.{build-default, const-default, read_inv, row-fit, term-cases}
use Rattle.siblings.proofs.ReadLaws.{sibling_terms}
use Rattle.siblings.proofs.RowEntries.{read-few}
use Rattle.closings.proofs.TermClasses.{class_term}
use Rattle.classes.specs.Held.{Held}
use Rattle.arrays.specs.Arrays.{constants_of, shapes_of}
use Rattle.ranks.proofs.RankLaws.{ranks-low}
use Rattle.search.specs.Nodes.{Accepted, OpenLeaf}
use Rattle.kinds.specs.Found.{constant_of, shape_of}
use Rattle.kinds.proofs.KindLaws.{no-constant-found, no-shape-found}
use Rattle.drawnrows.specs.Drawing.{growth_rows}
use Rattle.plans.specs.Chosen.{free_at, is_marked}
use Rattle.plans.specs.Plans.{OpenState, highest_rank, is_free, open_of}
use Rattle.plans.proofs.ClassLaws.{need_class, type-small}
use Rattle.plans.proofs.PlanCases.{highest-small}
use Rattle.plans.proofs.PlanLaws.{falls}
use Rattle.leaf.specs.declared.Leaf.{Leaf}
use Rattle.leaf.specs.Sheet.{free_rows, rows_for}
use Rattle.leaf.proofs.RoomLaws.{all-rows-few}
use Rattle.messages.specs.Messages.{rows_enough}
use Rattle.messages.specs.Rows.{LeafOf}
use Rattle.messages.proofs.OpenLaws.{free_needed, nd, o}

-- ---- the numbers of terms

-- a row's number, or a sibling field's
abbrev Low : Guard → ℕ → Type 0
Low g c = (c < length g.rows) ⊎ ((24 ≤ c) × (c < 24 + 2 * length g.rows))

abbrev Default : Guard → ℕ → Type 0
Default g c = (t : ℕ) × (t < length g.types) × (c ≡ default_term t)

module _ (limits : Limits) (sup : Supported limits) (g : Guard) (ok : WellFormed limits g) where
  few : (r : Read) → Memᴰ r (table_of g).reads → (length (siblings_of g.types r) ≤ 2) × (r.row < length g.rows)
  few =
      read_inv g (λ r. (length (siblings_of g.types r) ≤ 2) × (r.row < length g.rows))
      (λ i t a v p h e. let f : RowFits g.types g.rows i (field t a v p) = row-fit limits sup g ok i (field t a v p) h e in
      (read-few i p (fields_of g.types t v) f.3 (ok.field_counts t v), h))

  sibling_low : (r : Read) → Memᴰ r (table_of g).reads → (x : Term) → Memᴰ x (siblings_of g.types r) → (24 ≤ x.term) × (x.term < 24 + 2 * length g.rows)
  sibling_low r m x n =
      let e = sibling_terms g r m in
      let k : Memᴰ x.term (from (length (siblings_of g.types r)) (sibling_term r.row)) = subst (λ (l : List ℕ). Memᴰ x.term l) e (mem_map (λ (y : Term). y.term) n) in
      let b = from_bounds (length (siblings_of g.types r)) (sibling_term r.row) x.term k in
      (omega (arith, b.0), omega (arith, b.1, few r m))

  term-low : (x : Term) → Memᴰ x (table_of g).terms → Low g x.term ⊎ Default g x.term
  term-low = term-cases g (λ x. Low g x.term ⊎ Default g x.term) (λ i h. inl (inl h)) (λ r m x n. inl (inr (sibling_low r m x n))) (λ t h. inr (t, h, refl))

module _ (g : Guard) (ok : Accepted g) (s : State) (open' : OpenLeaf g s) (held : Held s.classes) (small : Small s) (leaf : Leaf) (is : LeafOf g s leaf) where
  abbrev x : OpenState
  x = open_of g s leaf.marks

  abbrev ls : List Literal
  ls = open'.literals

  abbrev S : State
  S = closure_of (table_of g) ls

  -- the class of a default has a shape or a constant
  default_fixed : (t : ℕ) → t < length g.types → (c : ℕ) → class_of S (default_term t) ≡ c → ¬ (is_free (open_of g s leaf.marks) c ≡ true)
  unfolding is_free free_at
  default_fixed t h c e f = go (ok.well_formed.ready t h).0 (ok.well_formed.ready t h).1
    where
      fixed : (leb 30 (shape_of (shapes_of g) s c) ≡ true) × (leb 30 (constant_of (constants_of g) s.classes c) ≡ true)
      fixed =
          let a = and_right (is_marked leaf.marks c) _ f in
          (and_left (leb 30 (shape_of (shapes_of g) s c)) _ a, and_left (leb 30 (constant_of (constants_of g) s.classes c)) _ (and_right (leb 30 (shape_of (shapes_of g) s c)) _ a))

      go : (m : Message) → get_or (defaults g.types) t none ≡ some m → ⊥
      go (number u z) q =
          no-constant-found ok.limits ok.supported g ok.well_formed ok.total ls (nd g ok s open' held small leaf is) (o g ok s open' held small leaf is) s open'.agrees small c (leb-true _ _ fixed.1) _ (const-default g t u z h q) e
      go (made u v ms) q =
          no-shape-found ok.limits ok.supported g ok.well_formed ok.total ls (nd g ok s open' held small leaf is) (o g ok s open' held small leaf is) s open'.agrees small c (leb-true _ _ fixed.0) _ (row (build-default g t u v ms h q)) e

  free-low : (c : ℕ) → c < 78 → is_free (open_of g s leaf.marks) c ≡ true → Low g c
  free-low c h f =
      let need = free_needed g ok s open' held small leaf is c h f in
      let (y, m, e) = need_class ok.limits ok.supported g ok.well_formed ok.total ls (nd g ok s open' held small leaf is) (o g ok s open' held small leaf is) s open'.agrees small leaf.marks is.marks c need in
      let (z, n, q) = class_term ok.limits ok.supported g ok.well_formed ls (nd g ok s open' held small leaf is) y m in
      go z.term (q ∙ e) (sym (ap (class_of S) e) ∙ (named_closure (table_of g) ls).own y.term ∙ e) (term-low ok.limits ok.supported g ok.well_formed z n)
    where
      go : (d : ℕ) → d ≡ c → class_of S c ≡ c → Low g d ⊎ Default g d → Low g c
      go d e own (inl l) = subst (Low g) e l
      go d e own (inr (t, l, q)) = absurd (default_fixed t l c (ap (class_of S) (sym q ∙ e) ∙ own) f)

  highest : highest_rank (open_of g s leaf.marks) ≤ 30
  highest =
      highest-small x 30
      (ranks-low (shapes_of g) s (falls ok.limits ok.supported g ok.well_formed ok.total ls (nd g ok s open' held small leaf is) (o g ok s open' held small leaf is) s open'.agrees small leaf.marks is.marks held))

  -- the rows of the node
  pub node-rows : rows_for (open_of g s leaf.marks) ≤ rows_enough (length g.types) (length g.rows)
  node-rows =
      by_test (ltb 0 (length g.types))
      (λ b. let three : length g.rows + 2 * length g.rows ≡ 3 * length g.rows = omega arith in
      let all : free_rows x 78 ≤ (3 * length g.types + 29) * (length g.rows + 2 * length g.rows) =
      all-rows-few x (length g.rows) (2 * length g.rows) (3 * length g.types + 29) (omega (arith, highest, ltb-true 0 (length g.types) b)) free-low in
      let most : free_rows x 78 ≤ (3 * length g.types + 29) * (3 * length g.rows) = subst (λ (k : ℕ). free_rows x 78 ≤ (3 * length g.types + 29) * k) three all in
      omega (arith, most))
      (λ b. let none' : free_rows x 78 ≤ growth_rows g.types (highest_rank x) * (0 + 0) = all-rows-few x 0 0 (growth_rows g.types (highest_rank x)) (omega arith)
      (λ c h f. absurd (omega (arith, ltb-false 0 (length g.types) b, type-small ok.limits ok.supported g ok.well_formed ok.total ls (nd g ok s open' held small leaf is) (o g ok s open' held small leaf is) s open'.agrees small leaf.marks is.marks c (free_needed g ok s open' held small leaf is c h f)))) in
      let zero' : growth_rows g.types (highest_rank x) * (0 + 0) ≡ 0 = omega arith in
      omega (arith, none', zero'))

-- within 6 types and 24 terms, rows are numbers below 4,096
pub rows-small : (types terms : ℕ) → types ≤ 6 → terms ≤ 24 → rows_enough types terms ≤ 4096
rows-small types terms h k =
    let m : (3 * types + 29) * (3 * terms) ≤ 47 * 72 = mul-le-mul {n₁ = 3 * types + 29} {m₁ = 3 * terms} {n₂ = 47} {m₂ = 72} (omega arith) (omega arith) in
    omega (arith, m)
