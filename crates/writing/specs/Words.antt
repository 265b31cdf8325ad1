-- Words and numbers as text, byte by byte. Assumes nothing: definitions.
use Rattle.std.specs.Prelude.{Bool, true, false, List, [], ◌∷◌, ◌++◌, ℕ, zero, suc, ◌+◌, ◌/◌, ◌%◌, ltb, ℤ, pos, negsuc, get_or}
use Prim.Native.Char.{code}
use Prim.Native.String.{String, len, char_at}

abbrev bytes_from : ℕ → ℕ → String → List ℕ
bytes_from zero i s = []
bytes_from (suc k) i s = code (char_at s i) ∷ bytes_from k (suc i) s

-- the bytes of a text in ASCII
abbrev pub ascii : String → List ℕ
ascii s = bytes_from (len s) 0 s

abbrev pub digit : ℕ → List ℕ
digit d = (48 + d) ∷ []

-- a number in decimal, in at most so many digits, by whether it has one only: its last digit after all the others
abbrev pub decimal_in : ℕ → Bool → ℕ → List ℕ
decimal_in zero single n = []
decimal_in (suc k) true n = digit n
decimal_in (suc k) false n = decimal_in k (ltb (n / 10) 10) (n / 10) ++ digit (n % 10)

-- a number in decimal, with no zero in front; it has at most one digit more than its value
unfoldable pub decimal : ℕ → List ℕ
decimal n = decimal_in (suc n) (ltb n 10) n

-- −1 − n is written as the number n + 1 after a minus
unfoldable pub signed : ℤ → List ℕ
signed (pos n) = decimal n
signed (negsuc n) = ascii "-" ++ decimal (suc n)

-- a number after a word
abbrev pub named : String → ℕ → List ℕ
named word n = ascii word ++ decimal n

-- a number of a buffer, after a space
unfoldable pub number_text : List ℤ → ℕ → List ℕ
number_text numbers j = ascii " " ++ signed (get_or numbers j (pos 0))
