-- What is needed at a state that agrees with a node's closure is what `Drawing` asks for: the classes of all rows, and of the
-- parts of each build whose own class is needed. Assumes nothing.
use mathlib.Core.Path.{◌≡◌, ap, sym, subst, ◌∙◌}
use mathlib.Core.List.{List, Memᴰ}
use Prim.Native.Nat.{ℕ, ◌≤◌, ◌<◌}
use native.Mathlib.Omega.{arith}
use lib.Dec.{eqb}
use lib.ListN.{length}
use borrow.Author.Tests.{eqb-true}
use Rattle.laws.specs.All.{All}
use Rattle.laws.proofs.Lists.{all_mem, all_of}
use Rattle.laws.proofs.Members.{member_of}
use Rattle.laws.proofs.Positions.{any_true_at}
use Rattle.guard.specs.Closure.{LacksAt, State, builds_at, class_of, closure_of}
use Rattle.guard.specs.Guard.{Guard, Literal}
use Rattle.guard.specs.Limits.{Limits, Supported, total_variant_limit}
use Rattle.guard.specs.Rules.{BuiltAt}
use Rattle.guard.specs.Terms.{Build, Table, table_of, term_count}
use Rattle.guard.specs.WellFormed.{WellFormed}
use Rattle.guard.proofs.Agreement.{Agrees, builds-agree}
use Rattle.guard.proofs.ClosureBelow.{InRange, LiteralsInRange, all-builds}
use Rattle.guard.proofs.ClosureState.{Small}
use Rattle.guard.proofs.TableLaws.{few-rows, table_in_range}
use Rattle.models.proofs.Nodes.{build_of_lem}
use Rattle.tables.specs.Layout.{flat}
use Rattle.arrays.specs.Arrays.{shapes_of}
use Rattle.arrays.proofs.GuardSlots.{shape_slots}
use Rattle.arrays.proofs.ActiveSlots.{ActiveSlot, build-active}
use Rattle.arrays.proofs.TableSlots.{ShapeSlots}
use Rattle.needed.specs.Needed.{Needed, Needed.of_part, Needed.of_row, own_class}

module _ (limits : Limits) (sup : Supported limits) (g : Guard) (ok : WellFormed limits g) (total : length (flat g.types) ≤ total_variant_limit) (ls : List Literal) (literals_in : LiteralsInRange ls)
    (s : State) (small : Small s) (agree : Agrees s (closure_of (table_of g) ls)) where
  abbrev t : Table
  t = table_of g

  abbrev S : State
  S = closure_of (table_of g) ls

  abbrev shapes : List ℕ
  shapes = shapes_of g

  -- a class is needed
  abbrev pub Need : ℕ → Type 0
  Need c = Needed (shapes_of g) s (length g.rows) c

  range : InRange (table_of g)
  range = table_in_range limits sup g ok

  slots : ShapeSlots (table_of g) (shapes_of g)
  slots = shape_slots limits sup g ok total

  pub need_rows : (i : ℕ) → i < length g.rows → Need (class_of (closure_of (table_of g) ls) i)
  need_rows i h = of_row i h (agree.class i (omega (arith, few-rows limits sup g ok)))

  -- the numbers of a build are those of terms
  abbrev Inside : Build → Type 0
  Inside b = (b.term < term_count) × All (λ p. p < term_count) b.parts

  builds-inside : (b : Build) → Memᴰ b (builds_at t S) → Inside b
  builds-inside = all_mem (all-builds {P = Inside} t S (λ b m. ((range.builds b m).0, (range.builds b m).2)) (λ r m e. ((range.reads r m).1, (range.reads r m).4)))

  pub need_parts_lem : (b : Build) → BuiltAt (table_of g) (LacksAt (closure_of (table_of g) ls)) b → Need (class_of (closure_of (table_of g) ls) b.term)
      → All (λ p. Need (class_of (closure_of (table_of g) ls) p)) b.parts
  need_parts_lem b built need =
      let m : Memᴰ b (builds_at t S) = build_of_lem t ls range literals_in b built in
      let (term, parts) = builds-inside b m in
      let a : ActiveSlot t shapes slots s small b = build-active t shapes slots s small b (subst (Memᴰ b) (sym (builds-agree t range s S agree)) m) in
      let own : class_of S b.term ≡ own_class shapes s a.place = sym (agree.class b.term term) ∙ ap (class_of s) (sym a.slot.owner) in
      all_of b.parts (λ p n.
      let (q, h, z) = any_true_at (eqb p) b.parts 0 (member_of p b.parts n) in
      of_part a.place q a.inside (omega (arith, h, a.slot.many)) a.is_active (subst Need own need)
      (ap (class_of s) (a.slot.part q (omega (arith, h, a.slot.few)) ∙ sym (eqb-true _ _ z)) ∙ agree.class p (all_mem parts p n)))
