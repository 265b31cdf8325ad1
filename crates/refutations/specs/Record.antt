-- The record of a closed search: an entry for each node, in the order of the search. Quoted sentences are document 02's, of
-- request #101. Assumes nothing.
use Rattle.std.specs.Prelude.{Bool, List, [], ◌∷◌, ◌++◌, map, ℕ, zero, suc, eqb, length, get_or}
use Rattle.std.proofs.Math.Option.{Option, none, some}
use Rattle.laws.specs.Lists.{any, concat_map, filter, find, from}
use Rattle.guard.specs.Closure.{State, builds_at, closure_of}
use Rattle.guard.specs.Guard.{Guard, Literal, Literal.equal, Literal.is, Literal.isnt}
use Rattle.guard.specs.Node.{Split, broken, empty_label, holds_another, inside_itself, split_of, unlike_constants}
use Rattle.guard.specs.Search.{label_total}
use Rattle.guard.specs.Terms.{Table, Term, table_of, term_count}
use Rattle.encoding.specs.Encoding.{encoded}

-- ---- entries

pub data Entry : Type 0 where
  -- of a term
  empty : ℕ → Entry
  -- of a line: its position among the guard's lines
  unequal_line : ℕ → Entry
  -- of a term each
  unlike : ℕ → Entry
  inside : ℕ → Entry
  split_on : Split → Entry

-- "0 and a term for an empty label, 1 and a line for a broken unequal line, 2 and a term for unlike constants in one class,
-- 3 and a term for a class inside itself, 4, the split term (first kind: the one read) and the variant"
abbrev pub numbers_of : Entry → List ℕ
numbers_of (empty i) = 0 ∷ i ∷ []
numbers_of (unequal_line j) = 1 ∷ j ∷ []
numbers_of (unlike i) = 2 ∷ i ∷ []
numbers_of (inside i) = 3 ∷ i ∷ []
numbers_of (split_on d) = 4 ∷ d.term ∷ d.variant ∷ []

-- "in seven-bit numbers"
abbrev pub bytes_of : Entry → List ℕ
bytes_of e = concat_map encoded (numbers_of e)

-- ---- what an entry claims of a node

-- the terms of this number: one, or none
abbrev pub named : Table → ℕ → List Term
named t i = filter (λ x. eqb x.term i) t.terms

-- past the last line there is one that is never broken
abbrev pub line_at : List Literal → ℕ → Literal
line_at lines j = get_or lines j (equal 0 0)

-- The claim of an entry at a node with this state; `lines` are the guard's own. "any split whose label holds the variant and
-- another": so its term is of variant type, since there are no variants in the label of one of number type.
abbrev pub claim : Table → List Literal → State → Entry → Bool
claim t lines s (empty i) = any (empty_label t s) (named t i)
claim t lines s (unequal_line j) = broken s (line_at lines j)
claim t lines s (unlike i) = any (unlike_constants t s) (named t i)
claim t lines s (inside i) = any (inside_itself s (builds_at t s)) (named t i)
claim t lines s (split_on d) = any (λ x. holds_another s x.term d.variant) (named t d.term)

-- ---- the record

-- the entries that close a node, in order, with so many lines
abbrev pub closings : ℕ → List Entry
closings many = map empty (from term_count 0) ++ (map unequal_line (from many 0) ++ (map unlike (from term_count 0) ++ map inside (from term_count 0)))

-- "Of 0 to 3 the lowest that applies is written, with its lowest term or line."
unfoldable pub closing : Table → List Literal → State → Option Entry
closing t lines s = find (claim t lines s) (closings (length lines))

-- the entries from a node on, from its closing, its split, and the entries from a child on: "node by node in walk order". An
-- open node has none; a search that ends closed meets no such node.
abbrev pub of_node : Option Entry → Option Split → (Literal → List Entry) → List Entry
of_node (some e) d child = e ∷ []
of_node none none child = []
of_node none (some d) child = split_on d ∷ (child (is d.term d.variant) ++ child (isnt d.term d.variant))

-- along the search `search_to`, at most as deep
unfoldable pub entries_to : ℕ → Table → List Literal → List Literal → List Entry
entries_to zero t lines ls = []
entries_to (suc k) t lines ls = let s = closure_of t ls in of_node (closing t lines s) (split_of t s) (λ d. entries_to k t lines (d ∷ ls))

unfoldable pub entries : Table → List Literal → List Literal → List Entry
entries t lines ls = entries_to (suc (label_total t (closure_of t ls))) t lines ls

unfoldable pub record_of : Guard → List Entry
record_of g = entries (table_of g) g.literals g.literals

-- "the written bytes"
abbrev pub record_bytes : Guard → List ℕ
record_bytes g = concat_map bytes_of (record_of g)
