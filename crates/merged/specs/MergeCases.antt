-- Two files, and what the definitions make of them. Assumes nothing.
use Rattle.std.specs.Prelude.{◌≡◌, refl, List, [], ◌∷◌, ◌++◌, map, ℕ, replicate}
use Rattle.laws.specs.Lists.{concat_map}
use Rattle.guard.specs.Cases.{X, file_c, file_f, file_g, file_h}
use Rattle.guard.specs.File.{file}
use Rattle.guard.specs.Limits.{base}
use Rattle.encoding.specs.Encoding.{encoded, encoded_value}
use Rattle.serialize.specs.ListCases.{bytes_for, question_of}
use Rattle.serialize.specs.Tokens.{bytes_of, guard_tokens}
use Rattle.merged.specs.Merge.{asked, asked_of_same, has_room, merged, merged_file, names, same_variables, type_part, written}

-- two files, the question that gets a no or 0, and the bytes of the one that is written
pub record Case : Type 0 where
  pub first : List ℕ
  pub second : List ℕ
  pub question : ℕ
  pub bytes : List ℕ

abbrev merges : List ℕ → List ℕ → List ℕ → Case
merges first second bs = record { first = first; second = second; question = 0; bytes = bs }

abbrev refuses : ℕ → List ℕ → List ℕ → Case
refuses q first second = record { first = first; second = second; question = q; bytes = [] }

-- so many lists, and no lines
abbrev many_lists : ℕ → List ℕ
many_lists n = X ++ (n ∷ concat_map (λ t. 0 ∷ t ∷ []) (replicate n 1)) ++ (0 ∷ [])

-- a list that is nil, said so many times
abbrev many_lines : ℕ → List ℕ
many_lines n = X ++ (1 ∷ 0 ∷ 1 ∷ n ∷ concat_map (λ a. 2 ∷ a ∷ 0 ∷ []) (replicate n 0))

abbrev pub cases : List Case
cases =
    -- a list with its tail, and the tail once more: the second's read is written
    merges file_c file_c (X ++ (3 ∷ 0 ∷ 1 ∷ 3 ∷ 0 ∷ 1 ∷ 1 ∷ 3 ∷ 0 ∷ 1 ∷ 1 ∷ 2 ∷ 0 ∷ 0 ∷ 1 ∷ 0 ∷ 0 ∷ 2 ∷ []))
    -- one variable is shared, the second's other one is written
    ∷ merges file_c file_f (X ++ (3 ∷ 0 ∷ 1 ∷ 3 ∷ 0 ∷ 1 ∷ 1 ∷ 0 ∷ 1 ∷ 2 ∷ 0 ∷ 0 ∷ 1 ∷ 1 ∷ 0 ∷ 2 ∷ []))
    -- the first's other variable is no row of the second
    ∷ merges file_f file_c (X ++ (3 ∷ 0 ∷ 1 ∷ 0 ∷ 1 ∷ 3 ∷ 0 ∷ 1 ∷ 1 ∷ 2 ∷ 1 ∷ 0 ∷ 1 ∷ 0 ∷ 0 ∷ 2 ∷ []))
    -- all variables are shared, and nothing but lines is new
    ∷ merges file_f file_g (X ++ (2 ∷ 0 ∷ 1 ∷ 0 ∷ 1 ∷ 4 ∷ 1 ∷ 0 ∷ 1 ∷ 1 ∷ 0 ∷ 1 ∷ 3 ∷ 0 ∷ 1 ∷ 3 ∷ 1 ∷ 1 ∷ []))
    -- a variable behind other rows: nil, cons(3, nil), and then the shared one, equal to it
    ∷ merges (many_lists 1) (X ++ (4 ∷ 2 ∷ 1 ∷ 0 ∷ 1 ∷ 0 ∷ 6 ∷ 2 ∷ 1 ∷ 1 ∷ 1 ∷ 0 ∷ 0 ∷ 1 ∷ 1 ∷ 0 ∷ 2 ∷ 3 ∷ []))
    (X ++ (4 ∷ 0 ∷ 1 ∷ 2 ∷ 1 ∷ 0 ∷ 1 ∷ 0 ∷ 6 ∷ 2 ∷ 1 ∷ 1 ∷ 2 ∷ 1 ∷ 1 ∷ 0 ∷ 3 ∷ 0 ∷ []))
    -- as many rows and lines as there can be
    ∷ merges (many_lists 24) (many_lists 24) (many_lists 24)
    ∷ merges (many_lines 20) (many_lines 12) (many_lines 32)
    -- "The first file is asked before the second."
    ∷ refuses 2 [] (7 ∷ [])
    ∷ refuses 4 (7 ∷ []) []
    ∷ refuses 2 file_c []
    -- "the type parts differ in any byte"
    ∷ refuses 15 file_c file_h
    ∷ refuses 15 (0 ∷ 0 ∷ 0 ∷ []) (X ++ (0 ∷ 0 ∷ []))
    -- "two variables taken as one differ in type"
    ∷ refuses 16 (many_lists 24) (X ++ (2 ∷ 0 ∷ 0 ∷ 1 ∷ 0 ∷ 0 ∷ 0 ∷ []))
    -- "too many rows or lines is 4"
    ∷ refuses 4 (many_lists 24) (X ++ (1 ∷ 1 ∷ 0 ∷ 0 ∷ 0 ∷ []))
    ∷ refuses 4 (many_lines 20) (many_lines 13)
    ∷ []

pub questions-right : map (λ c. question_of (merged_file base c.first c.second)) cases ≡ map (λ c. c.question) cases
unfolding file merged_file asked asked_of_same merged names written same_variables type_part has_room encoded encoded_value
questions-right = refl

pub bytes-right : map (λ c. bytes_for (merged_file base c.first c.second)) cases ≡ map (λ c. c.bytes) cases
unfolding file merged_file asked asked_of_same merged names written same_variables type_part has_room guard_tokens bytes_of encoded encoded_value
bytes-right = refl
