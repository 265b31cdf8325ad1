-- Reading bytes, one number after another: questions 2 and 3. Assumes nothing.
use Rattle.std.specs.Prelude.{Bool, true, false, not, ◌&&◌, ◌||◌, List, [], ◌∷◌, ℕ, zero, suc, ◌+◌, ◌*◌, ◌/◌, ◌%◌, leb, ltb, eqb, ℤ, pos, negsuc, length}
use Rattle.laws.specs.Lists.{last}

-- ---- parsers: from the bytes that are left to a refusal, or to a value and the bytes after it

pub data Parsed (A : Type 0) : Type 0 where
  refused : ℕ → Parsed A
  accepted : A → List ℕ → Parsed A

abbrev pub Parser : Type 0 → Type 0
Parser A = List ℕ → Parsed A

module _ {A B : Type 0} where
  abbrev pub and_then : (A → Parser B) → Parsed A → Parsed B
  and_then f (refused q) = refused q
  and_then f (accepted a bs) = f a bs

  -- "The first no ends the call."
  infixl 10 ◌>>=◌
  abbrev pub ◌>>=◌ : Parser A → (A → Parser B) → Parser B
  ◌>>=◌ p f bs = and_then f (p bs)

  infixl 10 ◌>>◌
  abbrev pub ◌>>◌ : Parser A → Parser B → Parser B
  ◌>>◌ p q bs = and_then (λ (a : A). q) (p bs)

module _ {A : Type 0} where
  abbrev pub return : A → Parser A
  return a bs = accepted a bs

module _ {A : Type 0} where
  -- the same parser so many times
  abbrev pub times : ℕ → Parser A → Parser (List A)
  times zero p = return []
  times (suc k) p = p >>= λ x. times k p >>= λ xs. return (x ∷ xs)

-- "The answer is then REFUSED with that number"
abbrev pub ask : ℕ → Bool → Parser (Unit {0})
ask q true bs = accepted tt bs
ask q false bs = refused q

-- ---- numbers

-- how long a number may be, and how large
pub record Width : Type 0 where
  pub bytes : ℕ
  pub most : ℕ

-- "It has one to five bytes, is at most 4,294,967,295"
abbrev pub width32 : Width
width32 = record { bytes = 5; most = 4294967295 }

-- document 02, #104: "with up to ten bytes and at most 18,446,744,073,709,551,615 as written"; "Counts and names keep
-- five."
abbrev pub width64 : Width
width64 = record { bytes = 10; most = 18446744073709551615 }

-- question 2: "Is the number's last byte in the file? A fifth byte with bit 80 set counts here as its end." Document 02,
-- #104: "a tenth byte with bit 80 counts as the end"
abbrev pub groups : ℕ → Parser (List ℕ)
groups zero bs = accepted [] bs
groups (suc k) [] = refused 2
groups (suc k) (b ∷ bs) =
    elim (ltb b 128) [ true ↦ accepted (b ∷ []) bs | false ↦ (groups k >>= λ gs. return (b ∷ gs)) bs ]

-- "A number is written in groups of seven bits, low group first"
abbrev pub value_of_groups : List ℕ → ℕ
value_of_groups [] = 0
value_of_groups (g ∷ gs) = g % 128 + 128 * value_of_groups gs

-- question 3: "Is it in the form above?" "bit 80 is set in every byte but the last"; "uses the fewest bytes, so a last
-- byte of 00 stands only alone"
abbrev pub well_formed : Width → List ℕ → Bool
well_formed w gs =
    ltb (last gs 0) 128 && (leb (value_of_groups gs) w.most && (leb (length gs) 1 || not (eqb (last gs 0) 0)))

abbrev pub unsigned_of : Width → Parser ℕ
unsigned_of w = do
  gs ← groups w.bytes
  ask 3 (well_formed w gs)
  return (value_of_groups gs)

abbrev pub unsigned : Parser ℕ
unsigned = unsigned_of width32

-- ---- signed values

-- document 02, #104: "Signed values now run over 64 bits"
abbrev pub value_width : Width
value_width = width64

-- "A signed value v [...] is written as 2 × v when v is 0 or more and as −2 × v − 1 when it is negative." `negsuc n` is
-- −1 − n.
abbrev pub fold_signed : ℤ → ℕ
fold_signed (pos n) = 2 * n
fold_signed (negsuc n) = 2 * n + 1

abbrev pub unfold_signed : ℕ → ℤ
unfold_signed n = elim (eqb (n % 2) 0) [ true ↦ pos (n / 2) | false ↦ negsuc (n / 2) ]
