-- Lists for the cases of document 01, and lists that are refused. Assumes nothing.
use Rattle.std.specs.Prelude.{◌≡◌, refl, List, [], ◌∷◌, ◌++◌, map, ℕ, ℤ, pos, negsuc, replicate}
use Rattle.guard.specs.Cases.{file_c, file_h, file_j}
use Rattle.guard.specs.Guard.{Guard}
use Rattle.guard.specs.Limits.{base}
use Rattle.guard.specs.Number.{Parsed, Parsed.accepted, Parsed.refused}
use Rattle.encoding.specs.Encoding.{encoded, encoded_value}
use Rattle.serialize.specs.Tokens.{bytes_of, guard_tokens}
use Rattle.serialize.specs.NumberList.{list_file}

-- a list, the question that refuses it or 0, and its bytes
pub record Case : Type 0 where
  pub numbers : List ℤ
  pub question : ℕ
  pub bytes : List ℕ

abbrev pub question_of : Parsed Guard → ℕ
question_of (refused q) = q
question_of (accepted g rest) = 0

abbrev pub bytes_for : Parsed Guard → List ℕ
bytes_for (refused q) = []
bytes_for (accepted g rest) = bytes_of g

-- bytes without a constant, as a list
abbrev all_plain : List ℕ → List ℤ
all_plain bs = map pos bs

abbrev listed-bytes : List ℕ → Case
listed-bytes bs = record { numbers = all_plain bs; question = 0; bytes = bs }

abbrev refuses : ℕ → List ℤ → Case
refuses q zs = record { numbers = zs; question = q; bytes = [] }

-- a number type, and a constant of it; no lines
abbrev constant_of : ℤ → List ℤ
constant_of z = pos 1 ∷ pos 0 ∷ pos 1 ∷ pos 1 ∷ pos 0 ∷ z ∷ pos 0 ∷ []

abbrev pub cases : List Case
cases =
    listed-bytes (0 ∷ 0 ∷ 0 ∷ [])
    ∷ listed-bytes file_c
    ∷ listed-bytes file_h
    -- case j: "values −3 and 4"
    ∷ record { numbers = pos 1 ∷ pos 0 ∷ pos 2 ∷ pos 1 ∷ pos 0 ∷ negsuc 2 ∷ pos 1 ∷ pos 0 ∷ pos 4 ∷ pos 1 ∷ pos 0 ∷ pos 0 ∷ pos 1 ∷ []; question = 0; bytes = file_j }
    -- both ends of the values
    ∷ record { numbers = constant_of (pos 9223372036854775807); question = 0; bytes = 1 ∷ 0 ∷ 1 ∷ 1 ∷ 0 ∷ 0xFE ∷ replicate 8 0xFF ++ (0x01 ∷ 0 ∷ []) }
    ∷ record { numbers = constant_of (negsuc 9223372036854775807); question = 0; bytes = 1 ∷ 0 ∷ 1 ∷ 1 ∷ 0 ∷ replicate 9 0xFF ++ (0x01 ∷ 0 ∷ []) }
    -- beyond 64 bits, where no caller's numbers are
    ∷ refuses 3 (constant_of (pos 9223372036854775808))
    ∷ refuses 3 (constant_of (negsuc 9223372036854775808))
    -- "A list that stops early gets 2"
    ∷ refuses 2 []
    ∷ refuses 2 (pos 1 ∷ [])
    ∷ refuses 2 (pos 1 ∷ pos 0 ∷ pos 1 ∷ pos 1 ∷ pos 0 ∷ [])
    -- counts, names and kinds that are negative or large
    ∷ refuses 4 (pos 7 ∷ [])
    ∷ refuses 4 (negsuc 0 ∷ [])
    ∷ refuses 4 (pos 4294967296 ∷ [])
    ∷ refuses 5 (pos 1 ∷ pos 0 ∷ pos 1 ∷ pos 0 ∷ negsuc 0 ∷ [])
    ∷ refuses 5 (pos 1 ∷ pos 0 ∷ pos 1 ∷ pos 0 ∷ pos 9223372036854775807 ∷ [])
    ∷ refuses 6 (pos 1 ∷ pos 0 ∷ pos 1 ∷ negsuc 3 ∷ [])
    ∷ refuses 7 (pos 1 ∷ pos 0 ∷ pos 1 ∷ pos 2 ∷ pos 0 ∷ [])
    ∷ refuses 8 (pos 1 ∷ pos 1 ∷ pos 1 ∷ pos 0 ∷ [])
    ∷ refuses 9 (pos 2 ∷ pos 1 ∷ pos 0 ∷ pos 1 ∷ pos 1 ∷ pos 0 ∷ [])
    -- two number types, the list well-formed otherwise; and one that stops behind its types
    ∷ refuses 18 (all_plain (2 ∷ 0 ∷ 0 ∷ 0 ∷ 0 ∷ []))
    ∷ refuses 18 (all_plain (2 ∷ 0 ∷ 0 ∷ []))
    -- two of three types, with numbers behind them that are no rows
    ∷ refuses 18 (all_plain (3 ∷ 0 ∷ 1 ∷ 0 ∷ 0 ∷ 25 ∷ 4 ∷ []))
    -- two number types, and questions that are asked before 18
    ∷ refuses 2 (all_plain (3 ∷ 0 ∷ 0 ∷ []))
    ∷ refuses 8 (all_plain (3 ∷ 0 ∷ 0 ∷ 1 ∷ 1 ∷ 2 ∷ []))
    ∷ refuses 9 (all_plain (4 ∷ 0 ∷ 0 ∷ 1 ∷ 0 ∷ 1 ∷ 1 ∷ 2 ∷ []))
    -- one number type of three
    ∷ listed-bytes (3 ∷ 1 ∷ 0 ∷ 0 ∷ 1 ∷ 1 ∷ 1 ∷ 0 ∷ 0 ∷ [])
    -- "After the last line: has the file ended?"; numbers behind it are not asked
    ∷ refuses 10 (pos 0 ∷ pos 0 ∷ pos 0 ∷ negsuc 9223372036854775807 ∷ [])
    ∷ []

pub questions-right : map (λ c. question_of (list_file base c.numbers)) cases ≡ map (λ c. c.question) cases
unfolding list_file
questions-right = refl

pub bytes-right : map (λ c. bytes_for (list_file base c.numbers)) cases ≡ map (λ c. c.bytes) cases
unfolding list_file guard_tokens bytes_of encoded encoded_value
bytes-right = refl
