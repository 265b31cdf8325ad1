-- A value of 64 bits and the two numbers of its row: each is made of the other. Assumes nothing.
use mathlib.Core.Path.{◌≡◌, refl, ap, ◌∙◌}
use mathlib.Core.Bool.{true}
use Prim.Native.Nat.{ℕ, ◌+◌, ◌*◌, ◌-◌, ◌/◌, ◌%◌, ◌<◌}
use native.Mathlib.Omega.{arith}
use lib.Dec.{ltb}
use lib.IntN.{ℤ, pos, negsuc}
use borrow.Author.Tests.{le-ltb, lt-ltb, ltb-false, ltb-true}
use Rattle.laws.proofs.Bools.{by_test}
use Rattle.guard.specs.Words.{high_of, is_word, low_of, signed_word, unsigned_word, value_of, word}

-- 32 bits, as a signed number and back
unsigned_signed : (n : ℕ) → n < word → unsigned_word (signed_word n) ≡ n
unsigned_signed n h = by_test (ltb n 2147483648) (λ e. rw (e) refl) (λ e. rw (e) (omega (arith, ltb-false n 2147483648 e)))

signed_word_lem : (n : ℕ) → n < word → is_word (signed_word n) ≡ true
signed_word_lem n h = by_test (ltb n 2147483648) (λ e. rw (e) (rw (e) refl)) (λ e. rw (e) (lt-ltb (word - 1 - n) 2147483648 (omega (arith, ltb-false n 2147483648 e))))

-- a value is that of its two numbers
pub value_of_lem : (z : ℤ) → value_of (low_of z) (high_of z) ≡ z
value_of_lem (pos n) = ap pos (ap (λ (k : ℕ). word * (n / word) + k) (unsigned_signed (n % word) (omega arith)) ∙ omega arith)
value_of_lem (negsuc n) = ap negsuc (ap (λ (k : ℕ). word * (n / word) + (word - 1 - k)) (unsigned_signed (word - 1 - n % word) (omega arith)) ∙ omega arith)

-- the low number has 32 bits
pub low_word : (z : ℤ) → is_word (low_of z) ≡ true
low_word (pos n) = signed_word_lem (n % word) (omega arith)
low_word (negsuc n) = signed_word_lem (word - 1 - n % word) (omega arith)

-- ---- the other way round: no other two numbers make the value

unsigned_small : (low : ℤ) → is_word low ≡ true → unsigned_word low < word
unsigned_small (pos n) e = omega (arith, ltb-true n 2147483648 e)
unsigned_small (negsuc n) e = omega arith

signed-unsigned : (low : ℤ) → is_word low ≡ true → signed_word (unsigned_word low) ≡ low
signed-unsigned (pos n) e = rw (e) refl
signed-unsigned (negsuc n) e =
    let small : n < 2147483648 = ltb-true n 2147483648 e in
    rw (le-ltb (word - 1 - n) 2147483648 (omega arith)) (let back : word - 1 - (word - 1 - n) ≡ n = omega arith in ap negsuc back)

pub low_of_lem : (low high : ℤ) → is_word low ≡ true → low_of (value_of low high) ≡ low
low_of_lem low (pos h) e =
    let small : unsigned_word low < word = unsigned_small low e in
    let rest : (word * h + unsigned_word low) % word ≡ unsigned_word low = omega arith in
    ap signed_word rest ∙ signed-unsigned low e
low_of_lem low (negsuc h) e =
    let small : unsigned_word low < word = unsigned_small low e in
    let rest : word - 1 - (word * h + (word - 1 - unsigned_word low)) % word ≡ unsigned_word low = omega arith in
    ap signed_word rest ∙ signed-unsigned low e

pub high_of_lem : (low high : ℤ) → is_word low ≡ true → high_of (value_of low high) ≡ high
high_of_lem low (pos h) e =
    let small : unsigned_word low < word = unsigned_small low e in
    let whole : (word * h + unsigned_word low) / word ≡ h = omega arith in
    ap pos whole
high_of_lem low (negsuc h) e =
    let small : unsigned_word low < word = unsigned_small low e in
    let whole : (word * h + (word - 1 - unsigned_word low)) / word ≡ h = omega arith in
    ap negsuc whole
