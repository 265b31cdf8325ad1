-- Files stored and restored, and stored bytes that are refused. Assumes nothing.
use Rattle.std.specs.Prelude.{◌≡◌, refl, List, [], ◌∷◌, ◌++◌, map, ℕ, replicate}
use Rattle.guard.specs.Cases.{X, file_c, file_g, file_h, file_j}
use Rattle.guard.specs.File.{file}
use Rattle.guard.specs.Guard.{Guard}
use Rattle.guard.specs.Limits.{base}
use Rattle.guard.specs.Number.{Parsed, Parsed.accepted, Parsed.refused}
use Rattle.encoding.specs.Encoding.{encoded, encoded_value}
use Rattle.serialize.specs.ListCases.{bytes_for, question_of}
use Rattle.serialize.specs.Tokens.{bytes_of, guard_tokens}
use Rattle.merged.specs.Merge.{type_part}
use Rattle.columnfile.specs.Columns.{restored_file, restored_head, stored_bytes}

-- a file, and what is stored of it
pub record Case : Type 0 where
  pub original : List ℕ
  pub stored : List ℕ

abbrev stored_for : Parsed Guard → List ℕ
stored_for (refused q) = []
stored_for (accepted g rest) = stored_bytes g

-- nil, cons(3, nil), a variable and its head, and a constant at the end of the values: rows of every kind and length
abbrev mixed : List ℕ
mixed = X ++ (6 ∷ 2 ∷ 1 ∷ 0 ∷ 1 ∷ 0 ∷ 6 ∷ 2 ∷ 1 ∷ 1 ∷ 1 ∷ 0 ∷ 0 ∷ 1 ∷ 3 ∷ 3 ∷ 1 ∷ 0 ∷ 1 ∷ 0 ∷ replicate 9 0xFF ++ (1 ∷ 1 ∷ 0 ∷ 2 ∷ 3 ∷ []))

abbrev mixed_stored : List ℕ
mixed_stored =
    X
    -- N, and the kinds
    ++ (6 ∷ 2 ∷ 1 ∷ 2 ∷ 0 ∷ 3 ∷ 1
    -- all second numbers
    ∷ 1 ∷ 0 ∷ 1 ∷ 1 ∷ 3 ∷ 0
    -- the third: variants and values; a variable has none
    ∷ 0 ∷ 6 ∷ 1 ∷ 1 ∷ replicate 9 0xFF ++ (1
    -- the fourth of the built row with parts and of the field read, and the fifth
    ∷ 1 ∷ 0 ∷ 0
    -- the lines
    ∷ 1 ∷ 0 ∷ 2 ∷ 3 ∷ []))

-- a type whose one variant with fields has three, and a row built by it: "third to sixth"
abbrev six : List ℕ
six = 2 ∷ 0 ∷ 1 ∷ 3 ∷ 0 ∷ 0 ∷ 0 ∷ 3 ∷ 1 ∷ 0 ∷ 7 ∷ 0 ∷ 0 ∷ 2 ∷ 1 ∷ 0 ∷ 0 ∷ 1 ∷ 0 ∷ 0 ∷ []

abbrev pub cases : List Case
cases =
    record { original = 0 ∷ 0 ∷ 0 ∷ []; stored = 0 ∷ 0 ∷ 0 ∷ [] }
    ∷ record { original = file_c; stored = X ++ (2 ∷ 0 ∷ 3 ∷ 1 ∷ 0 ∷ 1 ∷ 1 ∷ 1 ∷ 0 ∷ 0 ∷ 1 ∷ []) }
    ∷ record { original = file_g; stored = X ++ (2 ∷ 0 ∷ 0 ∷ 1 ∷ 1 ∷ 3 ∷ 1 ∷ 0 ∷ 1 ∷ 3 ∷ 0 ∷ 1 ∷ 3 ∷ 1 ∷ 1 ∷ []) }
    -- three variables of one type are the same either way
    ∷ record { original = file_h; stored = file_h }
    ∷ record { original = file_j; stored = 1 ∷ 0 ∷ 2 ∷ 1 ∷ 1 ∷ 0 ∷ 0 ∷ 5 ∷ 8 ∷ 1 ∷ 0 ∷ 0 ∷ 1 ∷ [] }
    ∷ record { original = mixed; stored = mixed_stored }
    ∷ record { original = six; stored = 2 ∷ 0 ∷ 1 ∷ 3 ∷ 0 ∷ 0 ∷ 0 ∷ 3 ∷ 1 ∷ 0 ∷ 2 ∷ 0 ∷ 0 ∷ 1 ∷ 7 ∷ 0 ∷ 0 ∷ 1 ∷ 0 ∷ 0 ∷ [] }
    ∷ []

pub stored-right : map (λ c. stored_for (file base c.original)) cases ≡ map (λ c. c.stored) cases
unfolding file stored_bytes type_part encoded encoded_value
stored-right = refl

-- "The inverse gives the original bytes"
pub restored_right : map (λ c. bytes_for (restored_file base c.stored)) cases ≡ map (λ c. c.original) cases
unfolding file restored_file restored_head type_part encoded encoded_value guard_tokens bytes_of
restored_right = refl

-- ---- refusals on the way back

pub record Refusal : Type 0 where
  pub question : ℕ
  pub stored : List ℕ

abbrev refuses : ℕ → List ℕ → Refusal
refuses q bs = record { question = q; stored = bs }

abbrev pub refusals : List Refusal
refusals =
    -- "up to N the base's questions are asked"
    refuses 2 []
    ∷ refuses 4 (7 ∷ [])
    ∷ refuses 5 (1 ∷ 1 ∷ 1 ∷ 1 ∷ [])
    ∷ refuses 8 (1 ∷ 1 ∷ 1 ∷ 0 ∷ [])
    ∷ refuses 9 (2 ∷ 1 ∷ 0 ∷ 1 ∷ 1 ∷ 0 ∷ [])
    ∷ refuses 4 (X ++ (25 ∷ []))
    -- "each number is asked 2 and 3": in each column
    ∷ refuses 2 (X ++ (2 ∷ 0 ∷ []))
    ∷ refuses 3 (X ++ (2 ∷ 0 ∷ 0 ∷ 0x80 ∷ 0 ∷ []))
    ∷ refuses 2 (X ++ (1 ∷ 3 ∷ 0 ∷ []))
    ∷ refuses 3 (X ++ (1 ∷ 2 ∷ 1 ∷ 1 ∷ 0x81 ∷ 0 ∷ []))
    ∷ refuses 2 (X ++ (1 ∷ 2 ∷ 1 ∷ 1 ∷ 0 ∷ []))
    -- a constant's value has up to ten bytes, and a field read's variant five
    ∷ refuses 2 (1 ∷ 0 ∷ 1 ∷ 1 ∷ 0 ∷ replicate 9 0xFF)
    ∷ refuses 3 (1 ∷ 0 ∷ 1 ∷ 1 ∷ 0 ∷ replicate 9 0xFF ++ (2 ∷ []))
    ∷ refuses 3 (X ++ (1 ∷ 3 ∷ 0 ∷ replicate 5 0xFF))
    -- "each kind 6": before a second number that is there
    ∷ refuses 6 (X ++ (2 ∷ 0 ∷ 4 ∷ []))
    -- "a built row's type and variant 5 and 7"
    ∷ refuses 5 (X ++ (1 ∷ 2 ∷ 2 ∷ []))
    ∷ refuses 7 (X ++ (1 ∷ 2 ∷ 0 ∷ []))
    ∷ refuses 5 (X ++ (1 ∷ 2 ∷ 1 ∷ 2 ∷ []))
    -- "the rest are asked of the restored file": a variable's type, a constant's type, a part, in row order
    ∷ refuses 5 (X ++ (1 ∷ 0 ∷ 2 ∷ 0 ∷ []))
    ∷ refuses 7 (X ++ (1 ∷ 1 ∷ 1 ∷ 0 ∷ 0 ∷ []))
    ∷ refuses 7 (X ++ (2 ∷ 1 ∷ 0 ∷ 1 ∷ 9 ∷ 0 ∷ 0 ∷ []))
    ∷ refuses 5 (X ++ (1 ∷ 2 ∷ 1 ∷ 1 ∷ 0 ∷ 0 ∷ 0 ∷ []))
    -- a column that lacks a number takes one of the next, and what is left is too short
    ∷ refuses 2 (X ++ (1 ∷ 0 ∷ 1 ∷ []))
    ∷ refuses 10 (0 ∷ 0 ∷ 0 ∷ 0 ∷ [])
    ∷ []

pub refusals-right : map (λ r. question_of (restored_file base r.stored)) refusals ≡ map (λ r. r.question) refusals
unfolding file restored_file restored_head type_part encoded encoded_value
refusals-right = refl
