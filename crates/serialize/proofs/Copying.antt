-- A small logic of two parsers: what one of them accepts, written again in another way, the other one accepts too, with the same value.
-- Assumes nothing.
use mathlib.Core.Path.{◌≡◌, refl, ap, ap₂, sym, subst, ◌∙◌}
use mathlib.Core.Bool.{Bool, true, false, false≢true}
use mathlib.Core.List.{List, [], ◌∷◌, ◌++◌, append_assoc, append-nil}
use Prim.Native.Nat.{ℕ, zero, suc, ◌≤◌}
use lib.ListN.{length}
use Rattle.laws.specs.All.{All, All.more, All.none}
use Rattle.laws.specs.Lists.{concat_map}
use Rattle.laws.proofs.Lists.{all_append}
use Rattle.guard.specs.Grammar.{Source}
use Rattle.guard.specs.Number.{Parsed.accepted, Parser, ◌>>=◌, ◌>>◌, and_then, ask, return, times, unfold_signed, value_width, width32}
use Rattle.guard.proofs.Reading.{fold_unfold}
use Rattle.encoding.proofs.Parsers.{ask_inv, bind_inv}
use Rattle.serialize.specs.Tokens.{Fits, Token, Token.plain, Token.value}

pub concat_map-append : {A B : Type 0} (f : A → List B) (xs ys : List A) → concat_map f (xs ++ ys) ≡ concat_map f xs ++ concat_map f ys
concat_map-append f [] ys = refl
concat_map-append f (x ∷ xs) ys = ap (λ (l : List _). f x ++ l) (concat_map-append f xs ys) ∙ sym (append_assoc (f x) (concat_map f xs) (concat_map f ys))

-- A source of numbers, and a way to write numbers for it: those that fit are read back, and from nothing else that has the property.
pub record Form : Type 1 where
  pub src : Source
  pub write : Token → List ℕ
  pub Good : ℕ → Type 0
  pub number_is : (bs : List ℕ) (n : ℕ) (rest : List ℕ) → All Good bs → src.number bs ≡ accepted n rest → n ≤ width32.most → (bs ≡ write (plain n) ++ rest) × All Good rest
  pub folded-is : (bs : List ℕ) (n : ℕ) (rest : List ℕ) → All Good bs → src.folded bs ≡ accepted n rest
      → (n ≤ value_width.most) × (bs ≡ write (value (unfold_signed n)) ++ rest) × All Good rest
  pub number-back : (n : ℕ) (more : List ℕ) → n ≤ width32.most → src.number (write (plain n) ++ more) ≡ accepted n more
  pub folded_back : (n : ℕ) (more : List ℕ) → n ≤ value_width.most → src.folded (write (value (unfold_signed n)) ++ more) ≡ accepted n more

-- two forms, and what may follow in the second
pub record Pair : Type 1 where
  pub one : Form
  pub other : Form
  pub Follows : List ℕ → Type 0

-- where anything may follow
abbrev pub free : Pair → Pair
free c = record { one = c.one; other = c.other; Follows = λ l. Unit {0} }

-- what p accepts are tokens of some kind, and p' accepts the same value from these, whatever follows of what may follow
unfoldable pub Copies : Pair → {A : Type 0} → Parser A → Parser A → (A → List Token → Type 0) → Type 0
Copies c {A} p p' Q = (bs : List ℕ) (a : A) (rest : List ℕ) → All c.one.Good bs → p bs ≡ accepted a rest
    → (ks : List Token) × Q a ks × All Fits ks × (bs ≡ concat_map c.one.write ks ++ rest) × All c.one.Good rest
    × ((more : List ℕ) → c.Follows more → p' (concat_map c.other.write ks ++ more) ≡ accepted a more)

module _ (c : Pair) where
  abbrev write : Token → List ℕ
  write = c.one.write

  abbrev write' : Token → List ℕ
  write' = c.other.write

  module _ {A B : Type 0} where
    pub copies_bind : (p p' : Parser A) (f f' : A → Parser B) (P : A → List Token → Type 0) (Q : B → List Token → Type 0)
        → Copies (free c) p p' P → ((a : A) (ks : List Token) → P a ks → Copies c (f a) (f' a) (λ b js. Q b (ks ++ js))) → Copies c (p >>= f) (p' >>= f') Q
    unfolding Copies
    copies_bind p p' f f' P Q hp hf bs b rest good e =
        let (a, mid, ep, ef) = bind_inv p f bs b rest e in
        let (ks, pk, fk, bk, goodk, backk) = hp bs a mid good ep in
        let (js, qj, fj, bj, goodj, backj) = hf a ks pk mid b rest goodk ef in (
          ks ++ js,
          qj,
          all_append fk fj,
          bk ∙ ap (λ (l : List ℕ). concat_map write ks ++ l) bj ∙ sym (append_assoc (concat_map write ks) (concat_map write js) rest) ∙ ap (λ (l : List ℕ). l ++ rest) (sym (concat_map-append write ks js)),
          goodj,
          λ more follows.
              ap (λ (l : List ℕ). and_then f' (p' l)) (ap (λ (l : List ℕ). l ++ more) (concat_map-append write' ks js) ∙ append_assoc (concat_map write' ks) (concat_map write' js) more)
              ∙ ap (and_then f') (backk (concat_map write' js ++ more) tt) ∙ backj more follows,
        )

  module _ {A : Type 0} where
    pub copies_return : (a : A) (P : A → List Token → Type 0) → P a [] → Copies c (return a) (return a) P
    unfolding Copies
    copies_return a P h bs b rest good e =
        let same : a ≡ b = cc in
        let left : bs ≡ rest = cc in
        ([], subst (λ x. P x []) same h, none, left, subst (All c.one.Good) left good, λ more follows. ap (λ x. accepted x more) same)

    pub copies_weaken : (p p' : Parser A) (P Q : A → List Token → Type 0) → Copies c p p' P → ((a : A) (ks : List Token) → P a ks → Q a ks) → Copies c p p' Q
    unfolding Copies
    copies_weaken p p' P Q h f bs a rest good e = let (ks, pk, fit, same, left, back) = h bs a rest good e in (ks, f a ks pk, fit, same, left, back)

    -- the same question before both
    pub copies_asked : (q : ℕ) (b : Bool) (p p' : Parser A) (Q : A → List Token → Type 0) → (b ≡ true → Copies c p p' Q) → Copies c (ask q b >> p) (ask q b >> p') Q
    unfolding Copies
    copies_asked q true p p' Q h bs a rest good e = h refl bs a rest good e
    copies_asked q false p p' Q h bs a rest good e = absurd (false≢true (ask_inv q false p bs a rest e).0)

    -- a number that has to pass a test
    pub copies_number : (q : ℕ) (test : ℕ → Bool) (f f' : ℕ → Parser A) (Q : A → List Token → Type 0) → ((n : ℕ) → test n ≡ true → n ≤ width32.most)
        → ((n : ℕ) → test n ≡ true → Copies c (f n) (f' n) (λ a ks. Q a (plain n ∷ ks))) → Copies c (c.one.src.number >>= λ n. ask q (test n) >> f n) (c.other.src.number >>= λ n. ask q (test n) >> f' n) Q
    unfolding Copies
    copies_number q test f f' Q small hf bs a rest good e =
        let (n, mid, en, ef) = bind_inv c.one.src.number (λ n. ask q (test n) >> f n) bs a rest e in
        let (pass, er) = ask_inv q (test n) (f n) mid a rest ef in
        let (same, left) = c.one.number_is bs n mid good en (small n pass) in
        let (ks, qk, fk, bk, goodk, backk) = hf n pass mid a rest left er in (
          plain n ∷ ks,
          qk,
          more {xs = ks} (small n pass) fk,
          same ∙ ap (λ (l : List ℕ). write (plain n) ++ l) bk ∙ sym (append_assoc (write (plain n)) (concat_map write ks) rest),
          goodk,
          λ more follows.
              ap (λ (l : List ℕ). and_then (λ (i : ℕ). ask q (test i) >> f' i) (c.other.src.number l)) (append_assoc (write' (plain n)) (concat_map write' ks) more)
              ∙ ap (and_then (λ (i : ℕ). ask q (test i) >> f' i)) (c.other.number-back n (concat_map write' ks ++ more) (small n pass))
              ∙ ap (λ (b : Bool). and_then (λ (u : Unit {0}). f' n) (ask q b (concat_map write' ks ++ more))) pass ∙ backk more follows,
        )

  -- a constant's value
  pub copies_folded : Copies c c.one.src.folded c.other.src.folded (λ n ks. ks ≡ value (unfold_signed n) ∷ [])
  unfolding Copies
  copies_folded bs n rest good e =
      let (small, same, left) = c.one.folded-is bs n rest good e in (
        value (unfold_signed n) ∷ [],
        refl,
        more (subst (λ (x : ℕ). x ≤ value_width.most) (sym (fold_unfold n)) small) none,
        same ∙ ap (λ (l : List ℕ). l ++ rest) (sym (append-nil (write (value (unfold_signed n))))),
        left,
        λ more follows. ap (λ (l : List ℕ). c.other.src.folded (l ++ more)) (append-nil (write' (value (unfold_signed n)))) ∙ c.other.folded_back n more small,
      )

-- the same parsers so many times, each value written as its tokens
pub copies_times : (c : Pair) {A : Type 0} (k : ℕ) (p p' : Parser A) (P : A → Type 0) (tokens : A → List Token) → Copies (free c) p p' (λ a ks. P a × (ks ≡ tokens a))
    → Copies (free c) (times k p) (times k p') (λ xs ks. (length xs ≡ k) × All P xs × (ks ≡ concat_map tokens xs))
copies_times c zero p p' P tokens h = copies_return (free c) [] (λ xs ks. (length xs ≡ 0) × All P xs × (ks ≡ concat_map tokens xs)) (refl, none, refl)
copies_times c (suc k) p p' P tokens h =
    copies_bind (free c) p p' _ _ (λ a ks. P a × (ks ≡ tokens a)) (λ xs ks. (length xs ≡ suc k) × All P xs × (ks ≡ concat_map tokens xs)) h
    (λ x ks hx. copies_bind (free c) (times k p) (times k p') _ _ (λ xs js. (length xs ≡ k) × All P xs × (js ≡ concat_map tokens xs)) (λ xs js. (length xs ≡ suc k) × All P xs × (ks ++ js ≡ concat_map tokens xs)) (copies_times c k p p' P tokens h)
    (λ xs js hxs. copies_return (free c) (x ∷ xs) (λ ys is. (length ys ≡ suc k) × All P ys × (ks ++ (js ++ is) ≡ concat_map tokens ys))
    (ap suc hxs.0, more hx.0 hxs.1, ap₂ (λ (a b : List Token). a ++ b) hx.1 (append-nil js ∙ hxs.2))))
