-- An answer as text, byte by byte: what `guarddesk` prints. Assumes nothing: definitions. Quoted sentences are document 01's.
use Rattle.std.specs.Prelude.{List, [], ◌++◌, ℕ, ℤ, length}
use Rattle.laws.specs.Lists.{concat_map, from}
use Rattle.guard.specs.Guard.{Guard}
use Rattle.guard.specs.Number.{Parsed, Parsed.accepted, Parsed.refused}
use Rattle.guard.specs.Types.{Types}
use Rattle.guard.specs.declared.Answer.{Answer}
use Rattle.guard.specs.declared.Answer.TheVariants.{Refused, Sat, Unsat, Spent}
use Rattle.rowtext.specs.Arity.{field_count}
use Rattle.rowtext.specs.Rows.{row_line}
use Rattle.writing.specs.Words.{ascii, decimal, named, number_text}

-- ---- lines

-- "Line one is the verdict and its node count, or REFUSED and its number."
unfoldable pub verdict_line : List ℕ → ℕ → List ℕ
verdict_line name n = name ++ decimal n ++ ascii "\n"

-- "then each term with its row"
unfoldable pub term_line : List ℤ → ℕ → List ℕ
term_line places i = named "term " i ++ ascii " row" ++ number_text places i ++ ascii "\n"

-- ---- answers

-- "After SAT, each row follows", "then each term with its row": of a guard with these types and so many terms
unfoldable pub shown_text : Types → ℕ → ℕ → List ℤ → List ℤ → List ℕ
shown_text ts terms many rows places = concat_map (row_line (field_count ts) rows) (from many 0) ++ concat_map (term_line places) (from terms 0)

-- the types and how many terms a file has, as it was read; one that is refused has none
abbrev pub types_in : Parsed Guard → Types
types_in (accepted g rest) = g.types
types_in (refused q) = []

abbrev pub terms_in : Parsed Guard → ℕ
terms_in (accepted g rest) = length g.rows
terms_in (refused q) = 0

-- the verdict, and after SAT what is shown; "After the others nothing follows."
unfoldable pub answer_text : Parsed Guard → Answer → List ℤ → List ℤ → List ℕ
answer_text p (Refused q) rows places = verdict_line (ascii "REFUSED ") q
answer_text p (Sat n f s r) rows places = verdict_line (ascii "SAT ") n ++ shown_text (types_in p) (terms_in p) r rows places
answer_text p (Unsat n f s) rows places = verdict_line (ascii "UNSAT ") n
answer_text p (Spent b f s) rows places = verdict_line (ascii "SPENT ") b
