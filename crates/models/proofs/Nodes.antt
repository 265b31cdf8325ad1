-- The nodes of a guard's search. The literals of a node are the guard's and decisions, so its equalities are the
-- guard's. A node is open if none of the four reasons closes it and no read and no term splits it. That is asked of
-- every read and every term, so it does not matter in what order splits are looked for. Assumes nothing.
use mathlib.Core.Path.{◌≡◌, refl, sym, ◌∙◌, subst}
use mathlib.Core.Bool.{Bool, true, false, not, false≢true, ◌&&◌}
use mathlib.Core.List.{List, ◌∷◌, Memᴰ}
use mathlib.Core.Logic.{◌⊎◌, inl, inr}
use Prim.Native.Nat.{ℕ, ◌<◌, ◌^◌}
use native.Mathlib.Omega.{arith}
use lib.Dec.{eqb}
use borrow.Author.Tests.{eqb-true, eqb-false, not-false}
use mathlib.Core.Option.{Option, none, some}
use Rattle.laws.specs.All.{All, All.none}
use Rattle.laws.specs.Bits.{bit}
use Rattle.laws.specs.Lists.{any, find}
use Rattle.laws.proofs.Bits.{bit_own, one_set}
use Rattle.laws.proofs.Bools.{and-false, or_false, or_left}
use Rattle.laws.proofs.Lists.{all_mem, all_weaken, any_none, find_none, none-some}
use Rattle.guard.specs.Closure.{LacksAt, SameAt, State, alone, builds_at, class_of, closure_of, eq_z, label_of, lacks, same_class}
use Rattle.guard.specs.Guard.{Guard, Literal, Literal.equal, Literal.is, Literal.isnt, Literal.unequal}
use Rattle.guard.specs.Limits.{Limits, Supported, variant_limit}
use Rattle.guard.specs.Node.{Split, broken, empty_label, first_kind, inside_itself, is_closed, on_read, on_term, second_kind, split_of, unlike_constants}
use Rattle.guard.specs.Rules.{Alone, BuiltAt, BuiltAt.read, BuiltAt.row, LeastClosure}
use Rattle.guard.specs.Terms.{Build, Const, Read, Table, Term, table_of, term_count}
use Rattle.guard.specs.Types.{is_number}
use Rattle.guard.specs.WellFormed.{WellFormed}
use Rattle.guard.proofs.ClosureBelow.{Fine, InRange, LiteralsInRange, Sound, alone_valid, closure_sound, eq_z_true, fine_all}
use Rattle.guard.proofs.ClosureState.{closure_masks, closure_small, holds-rules, says-given}
use Rattle.guard.proofs.LeastClosure.{alone_of, built_mem, closure_least}
use Rattle.guard.proofs.TableLaws.{table_in_range}
use Rattle.models.proofs.TypedTable.{TableTyped, equal-typed, table-typed, term_type}

-- ---- the literals of a node
pub record NodeOf (g : Guard) (ls : List Literal) : Type 0 where
  pub given : (l : Literal) → Memᴰ l g.literals → Memᴰ l ls
  pub in_range : LiteralsInRange ls
  pub equalities : (i j : ℕ) → Memᴰ (equal i j) ls → Memᴰ (equal i j) g.literals

module _ (g : Guard) where
  pub root-node : LiteralsInRange g.literals → NodeOf g g.literals
  root-node r = record { given = λ l m. m; in_range = r; equalities = λ i j m. m }

  decided : (d : Literal) → ((i j : ℕ) → ¬ (equal i j ≡ d)) → (ls : List Literal) → LiteralsInRange (d ∷ ls) → NodeOf g ls → NodeOf g (d ∷ ls)
  decided d ne ls r n = record { given = λ l m. Memᴰ.tail (n.given l m); in_range = r; equalities = guards }
    where
      guards : (i j : ℕ) → Memᴰ (equal i j) (d ∷ ls) → Memᴰ (equal i j) g.literals
      guards i j (Memᴰ.head e) = absurd (ne i j e)
      guards i j (Memᴰ.tail m) = n.equalities i j m

  -- the two children of a node
  pub is-node : (i v : ℕ) (ls : List Literal) → LiteralsInRange (is i v ∷ ls) → NodeOf g ls → NodeOf g (is i v ∷ ls)
  is-node i v = decided (is i v) (λ a b e. let z : ◌≡◌ {A = ℕ} 0 1 = cc in omega arith)

  pub isnt-node : (i v : ℕ) (ls : List Literal) → LiteralsInRange (isnt i v ∷ ls) → NodeOf g ls → NodeOf g (isnt i v ∷ ls)
  isnt-node i v = decided (isnt i v) (λ a b e. let z : ◌≡◌ {A = ℕ} 0 1 = cc in omega arith)

-- a table and literals in range, with the type of each term
pub record TypedNode (t : Table) (ls : List Literal) (type : ℕ → ℕ) : Type 0 where
  pub in_range : InRange t
  pub literals_in_range : LiteralsInRange ls
  pub typed : TableTyped t type
  pub equal_types : (i j : ℕ) → Memᴰ (equal i j) ls → type i ≡ type j

pub typed-node : (limits : Limits) → Supported limits → (g : Guard) → WellFormed limits g → (ls : List Literal) → NodeOf g ls → TypedNode (table_of g) ls (term_type g)
typed-node limits sup g ok ls n =
    record {
      in_range = table_in_range limits sup g ok;
      literals_in_range = n.in_range;
      typed = table-typed limits sup g ok;
      equal_types = λ i j m. equal-typed limits sup g ok i j (n.equalities i j m);
    }

-- ---- open nodes

pub record OpenNode (t : Table) (ls : List Literal) : Type 0 where
  pub not_closed : is_closed t ls (closure_of t ls) ≡ false
  pub no_read : (r : Read) → Memᴰ r t.reads → first_kind (closure_of t ls) r ≡ false
  pub no_term : (x : Term) → Memᴰ x t.terms → second_kind t (closure_of t ls) x ≡ false

-- with nothing to split, the node is open
pub open_node : (t : Table) (ls : List Literal) → is_closed t ls (closure_of t ls) ≡ false → split_of t (closure_of t ls) ≡ none → OpenNode t ls
unfolding split_of
open_node t ls c e = go (find (first_kind S) t.reads) (find (second_kind t S) t.terms) refl refl e
  where
    S : State
    S = closure_of t ls

    go : (o : Option Read) (p : Option Term) → find (first_kind S) t.reads ≡ o → find (second_kind t S) t.terms ≡ p
        → ◌≡◌ {A = Option Split} (elim o [ some r ↦ some (on_read r) | none ↦ elim p [ some x ↦ some (on_term t S x) | none ↦ none ] ]) none → OpenNode t ls
    go (some r) p q1 q2 e = absurd (none-some (on_read r) (sym e))
    go none (some x) q1 q2 e = absurd (none-some (on_term t S x) (sym e))
    go none none q1 q2 e = record { not_closed = c; no_read = find_none (first_kind S) t.reads q1; no_term = find_none (second_kind t S) t.terms q2 }

-- a node that is not closed is so for none of the four reasons
module _ (t : Table) (ls : List Literal) (s : State) (c : is_closed t ls s ≡ false) where
  reasons : (any (empty_label t s) t.terms ≡ false) × (any (broken s) ls ≡ false) × (any (unlike_constants t s) t.terms ≡ false) × (any (inside_itself s (builds_at t s)) t.terms ≡ false)
  unfolding is_closed
  reasons =
      let (a, x) = or_false (any (empty_label t s) t.terms) _ c in
      let (b, y) = or_false (any (broken s) ls) _ x in
      let (d, z) = or_false (any (unlike_constants t s) t.terms) _ y in
      (a, b, d, z)

  -- a label of variant type holds a variant
  pub label_held : (x : Term) → Memᴰ x t.terms → is_number t.types x.type ≡ false → ¬ (label_of s x.term ≡ 0)
  label_held x m e z = go (and-false (not (is_number t.types x.type)) (eqb (label_of s x.term) 0) (any_none (empty_label t s) t.terms reasons.0 x m))
    where
      go : (not (is_number t.types x.type) ≡ false) ⊎ (eqb (label_of s x.term) 0 ≡ false) → ⊥
      go (inl q) = false≢true (sym e ∙ not-false _ q)
      go (inr q) = eqb-false _ _ q z

  pub unequal-apart : (i j : ℕ) → Memᴰ (unequal i j) ls → ¬ SameAt s i j
  unequal-apart i j m = eqb-false _ _ (any_none (broken s) ls reasons.1 (unequal i j) m)

  -- constants of one class that is a term's have one value
  pub constants-agree : (x : Term) → Memᴰ x t.terms → (a b : Const) → Memᴰ a t.consts → Memᴰ b t.consts
      → SameAt s x.term a.term → SameAt s x.term b.term → a.value ≡ b.value
  constants-agree x m a b ma mb ea eb =
      pick (and-false (same_class s x.term a.term) _ (any_none (unlike a) t.consts (any_none (λ a. any (unlike a) t.consts) t.consts (any_none (unlike_constants t s) t.terms reasons.2 x m) a ma) b mb))
    where
      unlike : Const → Const → Bool
      unlike a b = same_class s x.term a.term && (same_class s x.term b.term && not (eq_z a.value b.value))

      pick2 : (same_class s x.term b.term ≡ false) ⊎ (not (eq_z a.value b.value) ≡ false) → a.value ≡ b.value
      pick2 (inl e) = absurd (eqb-false _ _ e eb)
      pick2 (inr e) = eq_z_true a.value b.value (not-false _ e)

      pick : (same_class s x.term a.term ≡ false) ⊎ ((same_class s x.term b.term && not (eq_z a.value b.value)) ≡ false) → a.value ≡ b.value
      pick (inl e) = absurd (eqb-false _ _ e ea)
      pick (inr e) = pick2 (and-false (same_class s x.term b.term) (not (eq_z a.value b.value)) e)

  pub not_inside : (x : Term) → Memᴰ x t.terms → inside_itself s (builds_at t s) x ≡ false
  not_inside = any_none (inside_itself s (builds_at t s)) t.terms reasons.3

-- ---- the closure at a node

module _ (t : Table) (ls : List Literal) (range : InRange t) (literals_in : LiteralsInRange ls) where
  abbrev S : State
  S = closure_of t ls

  abbrev Built : Build → Type 0
  Built = BuiltAt t (LacksAt (closure_of t ls))

  least : LeastClosure t ls (SameAt S) (LacksAt S)
  least = closure_least t ls range literals_in

  sound : Sound t ls range literals_in (SameAt S) (LacksAt S) least.rules least.literals S
  sound = closure_sound t ls range literals_in (SameAt S) (LacksAt S) least.rules least.literals

  pub class_small : (i : ℕ) → i < term_count → class_of S i < term_count
  class_small = sound.range

  -- a build of the state is one of the relations, and the other way round
  fine : (b : Build) → Memᴰ b (builds_at t S) → Fine t ls range literals_in (SameAt S) (LacksAt S) least.rules least.literals S sound b
  fine = all_mem (fine_all t ls range literals_in (SameAt S) (LacksAt S) least.rules least.literals S sound)

  pub built_of_lem : (b : Build) → Memᴰ b (builds_at t S) → Built b
  built_of_lem b m = (fine b m).at

  pub build_of_lem : (b : Build) → Built b → Memᴰ b (builds_at t S)
  build_of_lem = built_mem t ls range literals_in S (closure_masks t ls) (says-given t ls) (holds-rules t ls)

  pub parts-small : (b : Build) → Memᴰ b (builds_at t S) → All (λ p. class_of S p < term_count) b.parts
  parts-small b m = all_weaken (λ p h. class_small p h) (fine b m).parts

  pub built-term : (b : Build) → Built b → Memᴰ (record { term = b.term; type = b.type }) t.terms
  built-term b (row m) = range.build_terms b m
  built-term b (read r m f e) = subst (λ (b : Build). Memᴰ (record { term = b.term; type = b.type }) t.terms) (sym e) (range.read_terms r m)

  pub built-small : (b : Build) → Built b → b.variant < variant_limit
  built-small b (row m) = (range.builds b m).1
  built-small b (read r m f e) = subst (λ (b : Build). b.variant < variant_limit) (sym e) (range.reads r m).2

  pub built-alone : (b : Build) → Built b → Alone (LacksAt S) b.term b.variant
  built-alone b (row m) = least.rules.built b m
  built-alone b (read r m f e) = subst (λ (b : Build). Alone (LacksAt S) b.term b.variant) (sym e) f

  -- a variant alone, by its test
  pub test_alone : (i v : ℕ) → Alone (LacksAt S) i v → alone S i v ≡ true
  test_alone = alone_of S (closure_masks t ls)

  pub alone_test : (i v : ℕ) → i < term_count → v < variant_limit → alone S i v ≡ true → Alone (LacksAt S) i v
  alone_test = alone_valid t ls range literals_in (SameAt S) (LacksAt S) least.rules least.literals S sound

  -- a label that is one variant alone holds it, or is empty
  pub alone-held : (i v : ℕ) → v < variant_limit → ¬ (label_of S i ≡ 0) → Alone (LacksAt S) i v → ¬ LacksAt S i v
  alone-held i v h ne f l = go (one_set variant_limit v (label_of S i) (closure_small t ls i) f)
    where
      go : (label_of S i ≡ 0) ⊎ (label_of S i ≡ 2 ^ v) → ⊥
      go (inl q) = ne q
      go (inr q) = let z : bit (2 ^ v) v ≡ 0 = subst (λ (n : ℕ). bit n v ≡ 0) q l in omega (arith, bit_own v h)

  -- the label of a read term that splits nothing lacks the variant, or is it alone
  pub read-cases : (r : Read) → Memᴰ r t.reads → first_kind S r ≡ false → LacksAt S r.term r.variant ⊎ Alone (LacksAt S) r.term r.variant
  read-cases r m q = go (and-false (not (lacks S r.term r.variant)) (not (eqb (label_of S r.term) (2 ^ r.variant))) q)
    where
      go : (not (lacks S r.term r.variant) ≡ false) ⊎ (not (eqb (label_of S r.term) (2 ^ r.variant)) ≡ false) → LacksAt S r.term r.variant ⊎ Alone (LacksAt S) r.term r.variant
      go (inl e) = inl (eqb-true _ _ (not-false _ e))
      go (inr e) = inr (alone_test r.term r.variant (range.reads r m).1 (range.reads r m).2 (or_left (eqb (label_of S r.term) (2 ^ r.variant)) (eqb (label_of S r.term) 0) (not-false _ e)))
