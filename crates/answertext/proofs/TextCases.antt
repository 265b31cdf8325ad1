-- Document 01's own texts: file c as `guarddesk` prints it, and its two examples of a row; and values of 64 bits. Assumes nothing.
use mathlib.Core.Path.{◌≡◌, refl}
use mathlib.Core.List.{List, [], ◌∷◌}
use Prim.Native.Nat.{ℕ}
use lib.IntN.{ℤ, pos, negsuc}
use Rattle.laws.specs.Lists.{concat_map, from}
use Rattle.guard.specs.Cases.{file_c}
use Rattle.guard.specs.File.{file}
use Rattle.guard.specs.Limits.{base}
use Rattle.guard.specs.declared.Answer.TheVariants.{Sat}
use Rattle.guard.proofs.ShownCase.{places_c, rows_c}
use Rattle.writing.specs.Words.{ascii, decimal, number_text, signed}
use Rattle.rowtext.specs.Rows.{made_text, parts_text, row_by, row_line, row_text, value_text}
use Rattle.answertext.specs.Text.{answer_text, shown_text, term_line, verdict_line}

-- "For file c `guarddesk` prints exactly"
pub text_of_c : answer_text (file base file_c) (Sat 3 1 0 1) rows_c places_c ≡ ascii "SAT 3\nrow 0 type 1 variant 0\nterm 0 row 0\nterm 1 row 0\n"
unfolding answer_text decimal file made_text number_text parts_text row_by row_line row_text shown_text signed term_line value_text verdict_line
text_of_c = refl

-- "as `row 2 type 1 variant 1 parts 0 1`, without `parts` where it has none, or as `row 0 type 0 number -3`"
abbrev pub rows : List ℤ
rows = negsuc 0 ∷ negsuc 2 ∷ negsuc 0 ∷ pos 0 ∷ pos 16 ∷ pos 0 ∷ pos 0 ∷ pos 0 ∷ pos 17 ∷ pos 0 ∷ pos 1 ∷ pos 0 ∷ []

abbrev pub arity : ℕ → ℕ → ℕ
arity t v = 2

pub text_of_message : row_line arity rows 2 ≡ ascii "row 2 type 1 variant 1 parts 0 1\n"
unfolding decimal made_text number_text parts_text row_by row_line row_text signed value_text
text_of_message = refl

pub text_of_number : row_line arity rows 0 ≡ ascii "row 0 type 0 number -3\n"
unfolding decimal made_text number_text parts_text row_by row_line row_text signed value_text
text_of_number = refl

-- beyond 32 bits: the lowest value, the highest, and those next to 32 bits
abbrev pub numbers : List ℤ
numbers = negsuc 0 ∷ pos 0 ∷ negsuc 2147483647 ∷ pos 0 ∷ negsuc 0 ∷ negsuc 0 ∷ pos 2147483647 ∷ pos 0 ∷ negsuc 0 ∷ negsuc 2147483647 ∷ pos 0 ∷ pos 0 ∷ negsuc 0 ∷ pos 2147483647 ∷ negsuc 0 ∷ pos 0 ∷ []

pub text-of-values
    : concat_map (row_line arity numbers) (from 4 0)
    ≡ ascii "row 0 type 0 number -9223372036854775808\nrow 1 type 0 number 9223372036854775807\nrow 2 type 0 number 2147483648\nrow 3 type 0 number -2147483649\n"
unfolding decimal made_text number_text parts_text row_by row_line row_text signed value_text
text-of-values = refl
