-- A small logic of parsers that take these bytes whole, and leave whatever follows them. Assumes nothing.
use mathlib.Core.Path.{◌≡◌, refl, ap, sym, subst, ◌∙◌}
use mathlib.Core.Bool.{Bool, true}
use mathlib.Core.List.{List, [], ◌∷◌, ◌++◌, append_assoc, append-nil}
use Prim.Native.Nat.{ℕ, ◌≤◌, ◌<◌}
use native.Mathlib.Omega.{arith}
use lib.Dec.{ltb}
use borrow.Author.Tests.{lt-ltb}
use Rattle.guard.specs.File.{kind, name}
use Rattle.guard.specs.Number.{Parsed, Parsed.accepted, Parser, ◌>>=◌, ◌>>◌, and_then, ask, return, unsigned, unsigned_of, value_width, width32}
use Rattle.encoding.specs.Encoding.{encoded, encoded_value}
use Rattle.encoding.proofs.ReadBack.{read_back, same-encoded, value-read-back}
use Rattle.columnfile.specs.Columns.{bytes_for}

-- whatever follows the bytes, the parser takes them as this value and leaves it
pub record Gives {A : Type 0} (p : Parser A) (bs : List ℕ) (a : A) : Type 0 where
  pub takes : (left : List ℕ) → p (bs ++ left) ≡ accepted a left

module _ {A B : Type 0} where
  pub gives_bind : (p : Parser A) (f : A → Parser B) {bs cs : List ℕ} {a : A} {b : B} → Gives p bs a → Gives (f a) cs b → Gives (p >>= f) (bs ++ cs) b
  gives_bind p f {bs} {cs} {a} {b} hp hf = record { takes = λ left. ap (λ (l : List ℕ). and_then f (p l)) (append_assoc bs cs left) ∙ ap (and_then f) (hp.takes (cs ++ left)) ∙ hf.takes left }

module _ {A : Type 0} where
  pub gives-return : (a : A) → Gives (return a) [] a
  gives-return a = record { takes = λ left. refl }

  -- a question that gets a yes
  pub gives-asked : (q : ℕ) (b : Bool) (p : Parser A) {bs : List ℕ} {a : A} → b ≡ true → Gives p bs a → Gives (ask q b >> p) bs a
  gives-asked q b p {bs} pass h = record { takes = λ left. ap (λ (x : Bool). and_then (λ (u : Unit {0}). p) (ask q x (bs ++ left))) pass ∙ h.takes left }

  pub gives_same : (p : Parser A) {bs cs : List ℕ} {a : A} → bs ≡ cs → Gives p bs a → Gives p cs a
  gives_same p {bs} {cs} {a} e h = subst (λ (l : List ℕ). Gives p l a) e h

-- ---- one number

-- a number's bytes, by themselves
pub one_number : (n : ℕ) → n ≤ width32.most → encoded n ≡ bytes_for (n ∷ [])
unfolding encoded_value
one_number n small = sym (same-encoded n small) ∙ sym (append-nil (encoded_value n))

pub gives-number : (n : ℕ) → n ≤ width32.most → Gives unsigned (bytes_for (n ∷ [])) n
gives-number n small = gives_same unsigned (one_number n small) (record { takes = λ left. read_back n left small })

pub gives-value : (n : ℕ) → n ≤ value_width.most → Gives (unsigned_of value_width) (bytes_for (n ∷ [])) n
gives-value n small = gives_same (unsigned_of value_width) (sym (append-nil (encoded_value n))) (record { takes = λ left. value-read-back n left small })

-- a number that passes a test
pub gives_tested : (q n : ℕ) (test : ℕ → Bool) → n ≤ width32.most → test n ≡ true → Gives (unsigned >>= λ i. ask q (test i) >> return i) (bytes_for (n ∷ [])) n
gives_tested q n test small pass =
    gives_same (unsigned >>= λ i. ask q (test i) >> return i) (append-nil (bytes_for (n ∷ [])))
    (gives_bind unsigned (λ i. ask q (test i) >> return i) (gives-number n small) (gives-asked q (test n) (return n) pass (gives-return n)))

pub gives-name : (many n : ℕ) → many ≤ width32.most → n < many → Gives (name many) (bytes_for (n ∷ [])) n
gives-name many n small h = gives_tested 5 n (λ i. ltb i many) (omega arith) (lt-ltb n many h)

pub gives-kind : (k : ℕ) → k < 4 → Gives kind (bytes_for (k ∷ [])) k
gives-kind k h = gives_tested 6 k (λ i. ltb i 4) (omega arith) (lt-ltb k 4 h)
