-- A value of 64 bits as two numbers of 32, as rows have it (document 02, #104). Assumes nothing.
use Rattle.std.specs.Prelude.{Bool, cond, ℕ, ◌+◌, ◌*◌, ◌-◌, ◌/◌, ◌%◌, ltb, ℤ, pos, negsuc}

-- "A number's row holds −1 − t, then the low 32 bits as a signed number, then the value divided by 4,294,967,296 rounded
-- down."

-- as many values as 32 bits have
abbrev pub word : ℕ
word = 4294967296

-- 32 bits as a signed number, and read as an unsigned one
abbrev pub signed_word : ℕ → ℤ
signed_word n = cond (ltb n 2147483648) (pos n) (negsuc (word - 1 - n))

abbrev pub unsigned_word : ℤ → ℕ
unsigned_word (pos n) = n
unsigned_word (negsuc n) = word - 1 - n

-- the two numbers of a value
abbrev pub low_of : ℤ → ℤ
low_of (pos n) = signed_word (n % word)
low_of (negsuc n) = signed_word (word - 1 - n % word)

abbrev pub high_of : ℤ → ℤ
high_of (pos n) = pos (n / word)
high_of (negsuc n) = negsuc (n / word)

-- and the value of two numbers
abbrev pub value_of : ℤ → ℤ → ℤ
value_of low (pos h) = pos (word * h + unsigned_word low)
value_of low (negsuc h) = negsuc (word * h + (word - 1 - unsigned_word low))

-- whether a number has 32 bits
abbrev pub is_word : ℤ → Bool
is_word (pos n) = ltb n 2147483648
is_word (negsuc n) = ltb n 2147483648
