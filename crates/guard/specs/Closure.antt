-- The closure computed: a state, and rounds that add what the rules give until nothing is new. That it is the least
-- closure of `Rules` is proved in proofs/LeastClosure. Assumes nothing.
use Rattle.std.specs.Prelude.{◌≡◌, Bool, true, false, not, ◌&&◌, ◌||◌, cond, ℕ, zero, suc, ◌+◌, ◌-◌, ◌^◌, min, max, eqb, ℤ, pos, negsuc, length, get_or, set, replicate}
use mathlib.Core.List.{List, [], ◌∷◌, ◌++◌, map, foldl}
use Rattle.std.specs.Int.Bits.{bit_and}
use Rattle.laws.specs.Lists.{any, when, filter, concat_map, from, sum}
use Rattle.laws.specs.Bits.{bit}
use Rattle.guard.specs.Limits.{variant_limit}
use Rattle.guard.specs.Types.{Types, variants_of}
use Rattle.guard.specs.Guard.{Literal, Literal.equal, Literal.unequal, Literal.is, Literal.isnt}
use Rattle.guard.specs.Terms.{term_count, Term, Build, Read, Const, Table, as_build, fieldless}

-- ---- the state of a node: the class of each term, named by its lowest member, and the label of each class as a mask

pub record State : Type 0 where
  pub classes : List ℕ
  pub labels : List ℕ

abbrev pub class_of : State → ℕ → ℕ
class_of s i = get_or s.classes i 0

abbrev pub label_of : State → ℕ → ℕ
label_of s i = get_or s.labels (class_of s i) 0

abbrev pub same_class : State → ℕ → ℕ → Bool
same_class s i j = eqb (class_of s i) (class_of s j)

abbrev pub lacks : State → ℕ → ℕ → Bool
lacks s i v = eqb (bit (label_of s i) v) 0

-- the two relations of a state
abbrev pub SameAt : State → ℕ → ℕ → Type 0
SameAt s i j = class_of s i ≡ class_of s j

abbrev pub LacksAt : State → ℕ → ℕ → Type 0
LacksAt s i v = bit (label_of s i) v ≡ 0

-- "the read variant alone"; "an emptied label still counts as each one variant alone"
abbrev pub alone : State → ℕ → ℕ → Bool
alone s i v = eqb (label_of s i) (2 ^ v) || eqb (label_of s i) 0

-- ---- facts, and a state with one fact more

pub data Fact : Type 0 where
  same : ℕ → ℕ → Fact
  -- the label of a term is inside a mask
  within : ℕ → ℕ → Fact

-- class `high` becomes `low`
abbrev pub rename : ℕ → ℕ → List ℕ → List ℕ
rename low high [] = []
rename low high (c ∷ cs) = cond (eqb c high) low c ∷ rename low high cs

abbrev pub merge : State → ℕ → ℕ → State
merge s c d =
    record {
      classes = rename (min c d) (max c d) s.classes;
      labels = set s.labels (min c d) (bit_and (get_or s.labels c 0) (get_or s.labels d 0));
    }

abbrev pub merge_unless : Bool → State → ℕ → ℕ → State
merge_unless true s c d = s
merge_unless false s c d = merge s c d

abbrev pub add : State → Fact → State
add s (same i j) = merge_unless (same_class s i j) s (class_of s i) (class_of s j)
add s (within i m) = record { classes = s.classes; labels = set s.labels (class_of s i) (bit_and (label_of s i) m) }

abbrev pub holds : State → Fact → Bool
holds s (same i j) = same_class s i j
holds s (within i m) = eqb (bit_and (label_of s i) m) (label_of s i)

-- ---- what holds before any rule

abbrev pub eq_z : ℤ → ℤ → Bool
eq_z (pos a) (pos b) = eqb a b
eq_z (pos a) (negsuc b) = false
eq_z (negsuc a) (pos b) = false
eq_z (negsuc a) (negsuc b) = eqb a b

module _ {A : Type 0} where
  -- the facts that a rule gives for each two elements of a list
  abbrev pub pairwise : (A → A → List Fact) → List A → List Fact
  pairwise f [] = []
  pairwise f (x ∷ xs) = concat_map (f x) xs ++ pairwise f xs

abbrev pub every_variant : ℕ
every_variant = 2 ^ variant_limit - 1

-- "each term of variant type has a label, a set of variants: at first all"; a number type's is empty and not looked at
abbrev pub all_variants : Types → Term → Fact
all_variants ts x = within x.term (2 ^ length (variants_of ts x.type) - 1)

-- "one alone for a built row or a default"
abbrev pub one_variant : Build → Fact
one_variant b = within b.term (2 ^ b.variant)

-- "constants of one type and one value are equal"
abbrev pub constants : Const → Const → List Fact
constants a b = when (eqb a.type b.type && eq_z a.value b.value) (same a.term b.term ∷ [])

-- "cut down by lines and decisions"
abbrev pub of_literal : Literal → List Fact
of_literal (equal i j) = same i j ∷ []
of_literal (unequal i j) = []
of_literal (is i v) = within i (2 ^ v) ∷ []
of_literal (isnt i v) = within i (every_variant - 2 ^ v) ∷ []

abbrev pub given : Table → List Literal → List Fact
given t ls = map (all_variants t.types) t.terms ++ map one_variant t.builds ++ pairwise constants t.consts ++ concat_map of_literal ls

-- ---- what the rules give at a state

abbrev pub same_classes : State → List ℕ → List ℕ → Bool
same_classes s [] qs = true
same_classes s (p ∷ ps) [] = true
same_classes s (p ∷ ps) (q ∷ qs) = same_class s p q && same_classes s ps qs

abbrev pub same_all : List ℕ → List ℕ → List Fact
same_all [] qs = []
same_all (p ∷ ps) [] = []
same_all (p ∷ ps) (q ∷ qs) = same p q ∷ same_all ps qs

-- "rows built by the same variant from equal parts are equal, and equal rows of one variant have equal parts"
abbrev pub built_rows : State → Build → Build → List Fact
built_rows s a b =
    when (eqb a.type b.type && eqb a.variant b.variant)
    (when (same_classes s a.parts b.parts) (same a.term b.term ∷ [])
    ++ when (same_class s a.term b.term) (same_all a.parts b.parts))

-- "reads of the same field of equal terms are equal"
abbrev pub reads : State → Read → Read → List Fact
reads s a b =
    when (eqb a.type b.type && (eqb a.variant b.variant && (eqb a.position b.position && same_class s a.term b.term)))
    (same a.row b.row ∷ [])

-- "terms of a type whose labels are the same one fieldless variant are equal"
abbrev pub single : Types → State → Term → Term → List Fact
single ts s a b =
    when (eqb a.type b.type && any (λ v. alone s a.term v && alone s b.term v) (fieldless 0 (variants_of ts a.type)))
    (same a.term b.term ∷ [])

-- "if the label of a read term is the read variant alone, that term equals the variant built from the read and its
-- sisters, which counts as a built row without a number"
abbrev pub read_build : State → Read → List Build
read_build s r = when (alone s r.term r.variant) (as_build r ∷ [])

-- rows, defaults, and built rows without a number
abbrev pub builds_at : Table → State → List Build
builds_at t s = t.builds ++ concat_map (read_build s) t.reads

-- "if the label lacks that variant, the read equals the default"
abbrev pub read_absent : State → Read → List Fact
read_absent s r = when (lacks s r.term r.variant) (same r.row r.absent ∷ [])

unfoldable pub consequences : Table → State → List Fact
consequences t s =
    pairwise (built_rows s) (builds_at t s) ++ pairwise (reads s) t.reads ++ pairwise (single t.types s) t.terms ++ concat_map (read_absent s) t.reads

-- ---- rounds

-- each term in a class of its own, its label not cut down yet
unfoldable pub initial : State
initial = record { classes = from term_count 0; labels = replicate term_count every_variant }

-- a number that falls with each new fact, so enough rounds
abbrev pub size : State → ℕ
size s = sum s.classes + sum s.labels

-- the consequences that do not hold yet
abbrev pub fresh : Table → State → List Fact
fresh t s = filter (λ f. not (holds s f)) (consequences t s)

abbrev pub next_round : State → List Fact → (State → State) → State
next_round s [] go = s
next_round s (f ∷ fs) go = go (foldl add s (f ∷ fs))

-- rounds until nothing is new, at most so many
unfoldable pub saturate : ℕ → Table → State → State
saturate zero t s = s
saturate (suc k) t s = next_round s (fresh t s) (saturate k t)

abbrev pub begin : Table → List Literal → State
begin t ls = foldl add initial (given t ls)

-- the closure of the literals and the decisions given
unfoldable pub closure_of : Table → List Literal → State
closure_of t ls = saturate (size (begin t ls)) t (begin t ls)
