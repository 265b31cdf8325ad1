-- `words_of` and `value_of` undo each other: said of what they give, by their contracts. Assumes nothing.
use mathlib.Core.Path.{◌≡◌, ap, ap₂, ◌∙◌}
use mathlib.Core.Bool.{true}
use lib.IntN.{ℤ, pos, negsuc}
use mir.Syntax.{w32}
use mir.Val.{SFits}
use borrow.Author.Tests.{lt-ltb}
use Rattle.guard.specs.Words.{high_of, is_word, low_of, value_of}
use Rattle.guard.proofs.WordLaws.{high_of_lem, low_of_lem, value_of_lem}
use Rattle.words.specs.declared.Words.{Words}

-- any number that the code has in 32 bits
word_of_code : (z : ℤ) → SFits w32 z → is_word z ≡ true
word_of_code (pos n) f = lt-ltb n 2147483648 f.sfits
word_of_code (negsuc n) f = lt-ltb n 2147483648 f.sfits

-- what `words_of` gives for a value, and `value_of` for what it gives
pub value_again : (value : ℤ) (r : Words) → r.low ≡ low_of value → r.high ≡ high_of value → (again : ℤ) → again ≡ value_of r.low r.high → again ≡ value
value_again value r low high again e = e ∙ ap₂ value_of low high ∙ value_of_lem value

-- what `value_of` gives for two numbers, and `words_of` for what it gives
pub words_again : (low high : ℤ) → SFits w32 low → (value : ℤ) → value ≡ value_of low high → (r : Words) → r.low ≡ low_of value → r.high ≡ high_of value → (r.low ≡ low) × (r.high ≡ high)
words_again low high f value e r l h =
    let word : is_word low ≡ true = word_of_code low f in
    (l ∙ ap low_of e ∙ low_of_lem low high word, h ∙ ap high_of e ∙ high_of_lem low high word)
