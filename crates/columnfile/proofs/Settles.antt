-- A small logic of parsers whose answer to these bytes doesn't depend on what follows: they refuse, or take the bytes whole. Assumes nothing.
use mathlib.Core.Path.{◌≡◌, refl, ap, sym, subst, ◌∙◌}
use mathlib.Core.Bool.{Bool, true, false}
use mathlib.Core.List.{List, [], ◌∷◌, ◌++◌, append_assoc, append-nil}
use Prim.Native.Nat.{ℕ, ◌≤◌}
use Rattle.laws.proofs.Bools.{by_test}
use Rattle.guard.specs.Number.{Parsed, Parsed.accepted, Parsed.refused, Parser, ◌>>=◌, ◌>>◌, and_then, ask, return, unsigned, width32}
use Rattle.encoding.specs.Encoding.{encoded_value}
use Rattle.columnfile.specs.Columns.{bytes_for}
use Rattle.columnfile.proofs.Gives.{Gives, gives-number, gives_tested}

pub data Settles {A : Type 0} (p : Parser A) (bs : List ℕ) : Type 0 where
  stops : (q : ℕ) → ((left : List ℕ) → p (bs ++ left) ≡ refused q) → Settles p bs
  takes : (a : A) → ((left : List ℕ) → p (bs ++ left) ≡ accepted a left) → Settles p bs

module _ {A : Type 0} where
  pub settles_return : (a : A) → Settles (return a) []
  settles_return a = takes a (λ left. refl)

  pub settles_same : (p : Parser A) {bs cs : List ℕ} → bs ≡ cs → Settles p bs → Settles p cs
  settles_same p e s = subst (λ (l : List ℕ). Settles p l) e s

  -- the same parser, in other words
  pub settles_as : (p p' : Parser A) {bs : List ℕ} → ((l : List ℕ) → p l ≡ p' l) → Settles p bs → Settles p' bs
  settles_as p p' {bs} same (stops q h) = stops q (λ left. sym (same (bs ++ left)) ∙ h left)
  settles_as p p' {bs} same (takes a h) = takes a (λ left. sym (same (bs ++ left)) ∙ h left)

  -- a question, whatever the answer
  pub settles_asked : (q : ℕ) (b : Bool) (p : Parser A) {bs : List ℕ} → (b ≡ true → Settles p bs) → Settles (ask q b >> p) bs
  settles_asked q true p s = as_asked (s refl)
    where
      as_asked : {bs : List ℕ} → Settles p bs → Settles (ask q true >> p) bs
      as_asked (stops r h) = stops r h
      as_asked (takes a h) = takes a h
  settles_asked q false p s = stops q (λ left. refl)

module _ {A B : Type 0} (p : Parser A) (f : A → Parser B) {bs cs : List ℕ} where
  -- after what is taken
  pub settles_after : {a : A} → Gives p bs a → Settles (f a) cs → Settles (p >>= f) (bs ++ cs)
  settles_after g (stops q h) = stops q (λ left. ap (λ (l : List ℕ). and_then f (p l)) (append_assoc bs cs left) ∙ ap (and_then f) (g.takes (cs ++ left)) ∙ h left)
  settles_after g (takes b h) = takes b (λ left. ap (λ (l : List ℕ). and_then f (p l)) (append_assoc bs cs left) ∙ ap (and_then f) (g.takes (cs ++ left)) ∙ h left)

  pub settles_bind : Settles p bs → ((a : A) → Settles (f a) cs) → Settles (p >>= f) (bs ++ cs)
  settles_bind (stops q h) k = stops q (λ left. ap (λ (l : List ℕ). and_then f (p l)) (append_assoc bs cs left) ∙ ap (and_then f) (h (cs ++ left)))
  settles_bind (takes a h) k = settles_after (record { takes = h }) (k a)

-- one parser after two is two parsers after one
pub regroup : {A B C : Type 0} (g : A → Parser B) (h : B → Parser C) (r : Parsed A) → and_then h (and_then g r) ≡ and_then (λ (x : A). g x >>= h) r
regroup g h (refused q) = refl
regroup g h (accepted a l) = refl

-- ---- a number first

-- a number and others behind it
first_of : (n : ℕ) (ns : List ℕ) → bytes_for (n ∷ []) ++ bytes_for ns ≡ bytes_for (n ∷ ns)
first_of n ns = ap (λ (l : List ℕ). l ++ bytes_for ns) (append-nil (encoded_value n))

module _ {B : Type 0} (q n : ℕ) (test : ℕ → Bool) (small : n ≤ width32.most) (f : ℕ → Parser B) (ns : List ℕ) where
  abbrev tested : Parser ℕ
  tested = unsigned >>= λ i. ask q (test i) >> return i

  -- that is asked
  pub settles_first : (test n ≡ true → Settles (f n) (bytes_for ns)) → Settles (tested >>= f) (bytes_for (n ∷ ns))
  settles_first s =
      settles_same (tested >>= f) (first_of n ns)
      (by_test (test n) (λ e. settles_after tested f (gives_tested q n test small e) (s e))
      (λ e. stops q (λ left.
      ap (λ (l : List ℕ). and_then f (and_then (λ i. ask q (test i) >> return i) (unsigned l))) (append_assoc (bytes_for (n ∷ [])) (bytes_for ns) left)
      ∙ ap (λ (r : Parsed ℕ). and_then f (and_then (λ i. ask q (test i) >> return i) r)) ((gives-number n small).takes (bytes_for ns ++ left))
      ∙ ap (λ (b : Bool). and_then f (and_then (λ (u : Unit {0}). return n) (ask q b (bytes_for ns ++ left)))) e)))

-- and behind its question another one
pub settles_second : {B : Type 0} (q n : ℕ) (b : Bool) (f : ℕ → Parser B) {bs : List ℕ} → (b ≡ true → Settles (f n) bs) → Settles ((ask q b >> return n) >>= f) bs
settles_second q n true f {bs} s = as_asked (s refl)
  where
    as_asked : Settles (f n) bs → Settles ((ask q true >> return n) >>= f) bs
    as_asked (stops r h) = stops r h
    as_asked (takes a h) = takes a h
settles_second q n false f s = stops q (λ left. refl)

-- any number, taken as it is
pub settles_given : {B : Type 0} (p : Parser ℕ) (n : ℕ) (f : ℕ → Parser B) (ns : List ℕ) → Gives p (bytes_for (n ∷ [])) n → Settles (f n) (bytes_for ns) → Settles (p >>= f) (bytes_for (n ∷ ns))
settles_given p n f ns g s = settles_same (p >>= f) (first_of n ns) (settles_after p f g s)
