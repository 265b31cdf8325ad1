-- What the checker's code gives, in terms of the checker of request #101. Assumes nothing: definitions.
use Rattle.std.specs.Prelude.{◌≡◌, List, [], ℕ, zero, suc, Result}
use Rattle.guard.specs.Guard.{Guard}
use Rattle.guard.specs.Number.{Parsed, Parsed.accepted, Parsed.refused}
use Rattle.guard.specs.declared.Question.{Question}
use Rattle.guard.specs.Terms.{table_of}
use Rattle.numbers.specs.Reader.{ReadsAll}
use Rattle.reader.specs.declared.Tables.{Tables}
use Rattle.reader.specs.Reader.{guard_tables}
use Rattle.search.specs.Nodes.{Accepted}
use Rattle.refutations.specs.Checker.{check, check_from}
use Rattle.nodechecker.specs.Nodes.{Passes}

-- what a number says: 0 that the record is accepted, any other the question that got the first no
abbrev pub answer : ℕ → Parsed (Unit {0})
answer zero = accepted tt []
answer (suc q) = refused (suc q)

-- From the root of a guard that a reader took: what the code finds is what the defined checker does.
unfoldable pub ChecksRoot : Tables → List ℕ → Result ℕ Question → Type 0
ChecksRoot tables bytes r =
    (g : Guard) → Accepted g → tables ≡ guard_tables g → Passes (check_from (table_of g) g.literals g.literals bytes) bytes r

-- the record against the tables of a guard that a reader took
unfoldable pub ChecksTables : Tables → List ℕ → Result (Unit {0}) Question → Type 0
ChecksTables tables bytes r = (g : Guard) → Accepted g → tables ≡ guard_tables g → ReadsAll (check g bytes) r
