-- A guard file as a list of signed numbers: the questions of document 01 asked of it, and 18 of its types. Assumes nothing.
-- Quoted sentences are document 02's, of request #102.
use Rattle.std.specs.Prelude.{List, [], ◌∷◌, map, ℕ, eqb, leb, ℤ, pos, negsuc, length}
use Rattle.laws.specs.Lists.{filter}
use Rattle.guard.specs.Guard.{Guard}
use Rattle.guard.specs.Grammar.{Source, count, file_of, types}
use Rattle.guard.specs.Limits.{Limits}
use Rattle.guard.specs.Number.{Parsed, Parsed.accepted, Parsed.refused, Parser, ◌>>=◌, ◌>>◌, ask, fold_signed, return, unfold_signed, value_width}
use Rattle.guard.specs.Types.{Types, all_defaults, infinite_fields}

-- The parsers read unsigned numbers, so a list is read folded.

-- "A list that stops early gets 2"
abbrev pub next : Parser ℕ
next [] = refused 2
next (w ∷ ws) = accepted w ws

-- A negative number is no count, names nothing and is no kind: it counts as one that is beyond every limit, 2 to the 64.
abbrev pub beyond : ℕ
beyond = 18446744073709551616

abbrev pub unsigned_by : ℤ → ℕ
unsigned_by (pos n) = n
unsigned_by (negsuc n) = beyond

-- "a constant beyond 32 bits gets 3"; document 02, #104: "Signed values now run over 64 bits". The writer's numbers have no more, so
-- its 3 "no longer occurs".
abbrev pub fits : ℕ → Parser ℕ
fits w = do
  ask 3 (leb w value_width.most)
  return w

abbrev pub number_list : Source
number_list = record { number = next >>= λ w. return (unsigned_by (unfold_signed w)); folded = next >>= fits }

-- ---- one number type, document 02, #112

-- how many types are number types
abbrev pub number_types : Types → ℕ
number_types ts = length (filter (λ vs. eqb (length vs) 0) ts)

-- T and the types, as `file_of` reads them, with the questions 8 and 9, and then "18, asked by the writer after 9, when more than
-- one type is a number type": whatever stands behind the types.
abbrev pub types_asked : Source → Limits → Parser (Unit {0})
types_asked src limits = do
  many ← count src limits.types
  ts ← types src many many 0
  ask 8 (all_defaults ts)
  ask 9 (infinite_fields ts)
  ask 18 (leb (number_types ts) 1)

-- the second answer, unless the first is a refusal
abbrev pub unless_refused : {A B : Type 0} → Parsed A → Parsed B → Parsed B
unless_refused (refused q) answer = refused q
unless_refused (accepted a rest) answer = answer

-- "It asks the base's questions 4 to 10 of the list.", and 18 among them
unfoldable pub list_file : Limits → List ℤ → Parsed Guard
list_file limits zs = unless_refused (types_asked number_list limits (map fold_signed zs)) (file_of number_list limits (map fold_signed zs))
