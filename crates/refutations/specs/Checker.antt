-- The checker: reads a record against a guard. Quoted sentences are document 02's, of request #101. Assumes nothing.
use Rattle.std.specs.Prelude.{Bool, List, [], ◌∷◌, ℕ, zero, suc}
use Rattle.guard.specs.Closure.{closure_of}
use Rattle.guard.specs.File.{file}
use Rattle.guard.specs.Guard.{Guard, Literal, Literal.is, Literal.isnt}
use Rattle.guard.specs.Limits.{Limits}
use Rattle.guard.specs.Number.{Parsed, Parsed.accepted, Parsed.refused, Parser, ◌>>=◌, ◌>>◌, and_then, ask, return, unsigned}
use Rattle.guard.specs.Search.{label_total}
use Rattle.guard.specs.Terms.{Table, table_of}
use Rattle.refutations.specs.Record.{Entry, Entry.empty, Entry.inside, Entry.split_on, Entry.unequal_line, Entry.unlike, claim}

-- ---- one entry

-- an entry of this kind, after it
abbrev pub entry_of : ℕ → Parser Entry
entry_of zero = unsigned >>= λ i. return (empty i)
entry_of (suc zero) = unsigned >>= λ j. return (unequal_line j)
entry_of (suc (suc zero)) = unsigned >>= λ i. return (unlike i)
entry_of (suc (suc (suc zero))) = unsigned >>= λ i. return (inside i)
entry_of (suc (suc (suc (suc zero)))) = do
  i ← unsigned
  v ← unsigned
  return (split_on (record { term = i; variant = v }))
entry_of (suc (suc (suc (suc (suc k))))) = λ bs. refused 12

module _ {A : Type 0} where
  -- whatever the parser refuses is refused with this number
  abbrev pub refused_as : ℕ → Parsed A → Parsed A
  refused_as q (refused p) = refused q
  refused_as q (accepted a bs) = accepted a bs

-- "when it is cut short, isn't one of these in well-formed numbers"
abbrev pub entry : Parser Entry
entry bs = refused_as 12 ((unsigned >>= entry_of) bs)

-- ---- nodes

-- what follows an entry: nothing, or after a split the record of the "is" child and then of the "isn't" child
abbrev pub below : (Literal → Parser (Unit {0})) → Entry → Parser (Unit {0})
below child (empty i) = return tt
below child (unequal_line j) = return tt
below child (unlike i) = return tt
below child (inside i) = return tt
below child (split_on d) = child (is d.term d.variant) >> child (isnt d.term d.variant)

-- a node, from the test of its claims and the check of a child. "12, asked by the checker at each node, when it is cut short,
-- isn't one of these in well-formed numbers, or claims what doesn't hold; 13, asked after 12, when the record ends between
-- nodes before its last branch closes"
abbrev pub check_node : (Entry → Bool) → (Literal → Parser (Unit {0})) → Parser (Unit {0})
check_node holds child [] = refused 13
check_node holds child (b ∷ bs) = (entry >>= λ e. ask 12 (holds e) >> below child e) (b ∷ bs)

-- the check from a node with its literals and decisions, at most so deep
unfoldable pub check_to : ℕ → Table → List Literal → List Literal → Parser (Unit {0})
check_to zero t lines ls bs = refused 12
check_to (suc k) t lines ls bs = let s = closure_of t ls in check_node (claim t lines s) (λ d. check_to k t lines (d ∷ ls)) bs

-- the total of the label sizes falls at every split that "holds the variant and another", so it is depth enough
unfoldable pub check_from : Table → List Literal → List Literal → Parser (Unit {0})
check_from t lines ls bs = check_to (suc (label_total t (closure_of t ls))) t lines ls bs

-- ".. or runs on after it"
abbrev pub no_more : Parser (Unit {0})
no_more [] = accepted tt []
no_more (b ∷ bs) = refused 13

-- a record against a guard
unfoldable pub check : Guard → Parser (Unit {0})
check g = check_from (table_of g) g.literals g.literals >> no_more

-- "A checker asks 2 to 10 of the file, then reads the record against it"
unfoldable pub checked : Limits → List ℕ → List ℕ → Parsed (Unit {0})
checked limits bytes written = and_then (λ (g : Guard) (rest : List ℕ). check g written) (file limits bytes)
