-- "At a node, take the least closure of the lines and the decisions above it": the rules, one field for each sentence,
-- over any two relations: `Same i j`, terms i and j are equal; `Lacks i v`, the label of term i lacks variant v.
-- Assumes nothing.
use Rattle.std.specs.Prelude.{◌≡◌, ℕ, ◌≤◌, ◌<◌, length}
use mathlib.Core.List.{List, [], ◌∷◌, Memᴰ}
use Rattle.guard.specs.Limits.{variant_limit}
use Rattle.guard.specs.Types.{variants_of}
use Rattle.guard.specs.Guard.{Literal, Literal.equal, Literal.is, Literal.isnt}
use Rattle.guard.specs.Terms.{term_count, Term, Build, Read, Const, Table, as_build, fieldless}

abbrev pub Relation : Type 1
Relation = ℕ → ℕ → Type 0

-- equal parts, as far as both lists go: rows of one variant have as many
abbrev pub AllSame : Relation → List ℕ → List ℕ → Type 0
AllSame Same [] qs = Unit {0}
AllSame Same (p ∷ ps) [] = Unit {0}
AllSame Same (p ∷ ps) (q ∷ qs) = Same p q × AllSame Same ps qs

-- "In these rules an emptied label still counts as each one variant alone": no other variant is left
abbrev pub Alone : Relation → ℕ → ℕ → Type 0
Alone Lacks i v = (u : ℕ) → u < variant_limit → ¬ (u ≡ v) → Lacks i u

-- a built row or a default; or "if the label of a read term is the read variant alone, that term equals the variant
-- built from the read and its sisters, which counts as a built row without a number"
pub data BuiltAt (t : Table) (Lacks : Relation) (b : Build) : Type 0 where
  row : Memᴰ b t.builds → BuiltAt t Lacks b
  read : (r : Read) → Memᴰ r t.reads → Alone Lacks r.term r.variant → b ≡ as_build r → BuiltAt t Lacks b

pub record ObeysRules (t : Table) (Same Lacks : Relation) : Type 0 where
  -- "equal is an equivalence"
  pub itself : (i : ℕ) → Same i i
  pub back : {i j : ℕ} → Same i j → Same j i
  pub through : {i j k : ℕ} → Same i j → Same j k → Same i k
  -- "constants of one type and one value are equal"
  pub constants : (a b : Const) → Memᴰ a t.consts → Memᴰ b t.consts → a.type ≡ b.type → a.value ≡ b.value → Same a.term b.term
  -- "rows built by the same variant from equal parts are equal"
  pub congruent : (a b : Build) → BuiltAt t Lacks a → BuiltAt t Lacks b → a.type ≡ b.type → a.variant ≡ b.variant
      → AllSame Same a.parts b.parts → Same a.term b.term
  -- "equal rows of one variant have equal parts"
  pub parts : (a b : Build) → BuiltAt t Lacks a → BuiltAt t Lacks b → a.type ≡ b.type → a.variant ≡ b.variant
      → Same a.term b.term → AllSame Same a.parts b.parts
  -- "reads of the same field of equal terms are equal"
  pub reads : (a b : Read) → Memᴰ a t.reads → Memᴰ b t.reads → a.type ≡ b.type → a.variant ≡ b.variant → a.position ≡ b.position
      → Same a.term b.term → Same a.row b.row
  -- "each term of variant type has a label, a set of variants: at first all"
  pub beyond : (x : Term) (v : ℕ) → Memᴰ x t.terms → length (variants_of t.types x.type) ≤ v → Lacks x.term v
  -- "one alone for a built row or a default"
  pub built : (b : Build) → Memᴰ b t.builds → Alone Lacks b.term b.variant
  -- "shared by equal terms"
  pub shared : {i j v : ℕ} → Same i j → Lacks i v → Lacks j v
  -- "terms of a type whose labels are the same one fieldless variant are equal"
  pub single : (a b : Term) (v : ℕ) → Memᴰ a t.terms → Memᴰ b t.terms → a.type ≡ b.type → Memᴰ v (fieldless 0 (variants_of t.types a.type))
      → Alone Lacks a.term v → Alone Lacks b.term v → Same a.term b.term
  -- "if the label lacks that variant, the read equals the default"
  pub absent : (r : Read) → Memᴰ r t.reads → Lacks r.term r.variant → Same r.row r.absent

-- "the lines and the decisions above it"; "cut down by lines and decisions"
pub record ObeysLiterals (ls : List Literal) (Same Lacks : Relation) : Type 0 where
  pub equal_literal : (i j : ℕ) → Memᴰ (equal i j) ls → Same i j
  pub is_literal : (i v : ℕ) → Memᴰ (is i v) ls → Alone Lacks i v
  pub isnt_literal : (i v : ℕ) → Memᴰ (isnt i v) ls → Lacks i v

-- "the least closure": it obeys, and is inside all that obey, as far as there are terms and variants
pub record LeastClosure (t : Table) (ls : List Literal) (Same Lacks : Relation) : Type 1 where
  pub rules : ObeysRules t Same Lacks
  pub literals : ObeysLiterals ls Same Lacks
  pub least_same : (Same' Lacks' : Relation) → ObeysRules t Same' Lacks' → ObeysLiterals ls Same' Lacks'
      → (i j : ℕ) → i < term_count → j < term_count → Same i j → Same' i j
  pub least_lacks : (Same' Lacks' : Relation) → ObeysRules t Same' Lacks' → ObeysLiterals ls Same' Lacks'
      → (i v : ℕ) → i < term_count → v < variant_limit → Lacks i v → Lacks' i v
