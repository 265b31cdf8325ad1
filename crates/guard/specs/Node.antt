-- A node: the four reasons to close it, and its split. Assumes nothing.
use Rattle.std.specs.Prelude.{Bool, true, false, not, ◌&&◌, ◌||◌, cond, List, [], ◌∷◌, ◌++◌, map, ℕ, zero, suc, ◌^◌, leb, eqb, length, get_or}
use Rattle.std.proofs.Math.Option.{Option, none, some}
use Rattle.laws.specs.Lists.{all, any, when, filter, find, concat_map, from, member, union}
use Rattle.guard.specs.Types.{variants_of, is_number}
use Rattle.guard.specs.Guard.{Literal, Literal.equal, Literal.unequal, Literal.is, Literal.isnt}
use Rattle.guard.specs.Terms.{term_count, Term, Build, Read, Const, Table, fieldless}
use Rattle.guard.specs.Closure.{State, class_of, label_of, same_class, lacks, eq_z, builds_at}

-- ---- "The node is closed if ..", reason by reason, at a term or a literal

-- ".. a label is empty"
abbrev pub empty_label : Table → State → Term → Bool
empty_label t s x = not (is_number t.types x.type) && eqb (label_of s x.term) 0

-- ".. two terms of an unequal line are equal"
abbrev pub broken : State → Literal → Bool
broken s (equal i j) = false
broken s (unequal i j) = same_class s i j
broken s (is i v) = false
broken s (isnt i v) = false

-- ".. one class holds two constants of different value": the class of term x
abbrev pub unlike_constants : Table → State → Term → Bool
unlike_constants t s x =
    any (λ a. any (λ b. same_class s x.term a.term && (same_class s x.term b.term && not (eq_z a.value b.value))) t.consts) t.consts

-- the classes of the parts of class c
abbrev pub parts_of : State → List Build → ℕ → List ℕ
parts_of s bs c = concat_map (λ b. when (eqb (class_of s b.term) c) (map (class_of s) b.parts)) bs

-- the classes reached from some in at most so many steps to parts
abbrev pub reached : ℕ → State → List Build → List ℕ → List ℕ
reached zero s bs cs = cs
reached (suc k) s bs cs =
    let next = union (concat_map (parts_of s bs) cs) cs in
    let more = reached k s bs next in
    cond (eqb (length next) (length cs)) cs more

-- ".. a class is a part of itself through built rows": the class of term x
abbrev pub inside_itself : State → List Build → Term → Bool
inside_itself s bs x = member (class_of s x.term) (reached term_count s bs (union (parts_of s bs (class_of s x.term)) []))

unfoldable pub is_closed : Table → List Literal → State → Bool
is_closed t ls s =
    let bs = builds_at t s in
    any (empty_label t s) t.terms || (any (broken s) ls || (any (unlike_constants t s) t.terms || any (inside_itself s bs) t.terms))

-- ---- "If it isn't closed, it splits."

-- a decision on whether a term is a variant
pub record Split : Type 0 where
  pub term : ℕ
  pub variant : ℕ

-- the label holds the variant and another one
abbrev pub holds_another : State → ℕ → ℕ → Bool
holds_another s i v = not (lacks s i v) && not (eqb (label_of s i) (2 ^ v))

abbrev pub variants_left : Table → State → Term → List ℕ
variants_left t s x = filter (λ v. not (lacks s x.term v)) (from (length (variants_of t.types x.type)) 0)

-- "First kind: .. field row whose read term's label holds its variant and another one."
abbrev pub first_kind : State → Read → Bool
first_kind s r = holds_another s r.term r.variant

-- "second kind: .. term whose label holds two or more variants, all fieldless"
abbrev pub second_kind : Table → State → Term → Bool
second_kind t s x =
    let vs = variants_left t s x in
    leb 2 (length vs) && all (λ v. member v (fieldless 0 (variants_of t.types x.type))) vs

abbrev pub on_read : Read → Split
on_read r = record { term = r.term; variant = r.variant }

-- ".. on its lowest variant"
abbrev pub on_term : Table → State → Term → Split
on_term t s x = record { term = x.term; variant = get_or (variants_left t s x) 0 0 }

-- "First kind: the lowest field row ... Otherwise second kind: the lowest term .." The lists are in order of number.
unfoldable pub split_of : Table → State → Option Split
split_of t s =
    elim (find (first_kind s) t.reads)
    [ some r ↦ some (on_read r) | none ↦ elim (find (second_kind t s) t.terms) [ some x ↦ some (on_term t s x) | none ↦ none ] ]

-- "First kind: .." "Otherwise second kind: .."
pub data Kind : Type 0 where
  first : Kind
  second : Kind

-- the kind of the split, where there is one
unfoldable pub kind_of : Table → State → Kind
kind_of t s = cond (any (first_kind s) t.reads) first second
