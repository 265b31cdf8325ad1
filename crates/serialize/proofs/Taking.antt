-- A small logic of parsers on what is written for them: tokens that a parser takes, whatever follows. Assumes nothing.
use mathlib.Core.Path.{◌≡◌, refl, ap, sym, ◌∙◌}
use mathlib.Core.Bool.{Bool, true}
use mathlib.Core.List.{List, [], ◌∷◌, ◌++◌, append_assoc}
use Prim.Native.Nat.{ℕ, ◌≤◌}
use lib.ListN.{length}
use Rattle.laws.specs.All.{All, All.more, All.none}
use Rattle.laws.specs.Lists.{concat_map}
use Rattle.guard.specs.Number.{Parsed, Parsed.accepted, Parsed.refused, Parser, ◌>>=◌, ◌>>◌, and_then, ask, return, times, unfold_signed, value_width, width32}
use Rattle.serialize.specs.Tokens.{Token, Token.plain, Token.value}
use Rattle.serialize.proofs.Copying.{Form, concat_map-append}

module _ (f : Form) where
  abbrev write : Token → List ℕ
  write = f.write

  -- from these tokens the parser takes this value, and leaves what follows, if that may follow
  unfoldable pub TakesBefore : (List ℕ → Type 0) → {A : Type 0} → Parser A → List Token → A → Type 0
  TakesBefore Follows p ks a = (left : List ℕ) → Follows left → p (concat_map write ks ++ left) ≡ accepted a left

  -- anything may follow
  abbrev pub Takes : {A : Type 0} → Parser A → List Token → A → Type 0
  Takes p ks a = TakesBefore (λ l. Unit {0}) p ks a

  module _ (Follows : List ℕ → Type 0) where
    module _ {A B : Type 0} where
      pub takes_bind : (p : Parser A) (g : A → Parser B) (ks js : List Token) (a : A) (b : B) → Takes p ks a → TakesBefore Follows (g a) js b → TakesBefore Follows (p >>= g) (ks ++ js) b
      unfolding TakesBefore
      takes_bind p g ks js a b hp hg left follows =
          ap (λ (l : List ℕ). and_then g (p l)) (ap (λ (l : List ℕ). l ++ left) (concat_map-append write ks js) ∙ append_assoc (concat_map write ks) (concat_map write js) left)
          ∙ ap (and_then g) (hp (concat_map write js ++ left) tt) ∙ hg left follows

    module _ {A : Type 0} where
      pub takes_return : (a : A) → TakesBefore Follows (return a) [] a
      unfolding TakesBefore
      takes_return a left follows = refl

      pub takes_asked : (q : ℕ) (b : Bool) (p : Parser A) (ks : List Token) (a : A) → b ≡ true → TakesBefore Follows p ks a → TakesBefore Follows (ask q b >> p) ks a
      unfolding TakesBefore
      takes_asked q b p ks a pass h left follows = ap (λ (x : Bool). and_then (λ (u : Unit {0}). p) (ask q x (concat_map write ks ++ left))) pass ∙ h left follows

      -- a number that has to pass a test
      pub takes_number : (q n : ℕ) (test : ℕ → Bool) (g : ℕ → Parser A) (ks : List Token) (a : A) → n ≤ width32.most → test n ≡ true → TakesBefore Follows (g n) ks a
          → TakesBefore Follows (f.src.number >>= λ n. ask q (test n) >> g n) (plain n ∷ ks) a
      unfolding TakesBefore
      takes_number q n test g ks a small pass h left follows =
          ap (λ (l : List ℕ). and_then (λ (i : ℕ). ask q (test i) >> g i) (f.src.number l)) (append_assoc (write (plain n)) (concat_map write ks) left)
          ∙ ap (and_then (λ (i : ℕ). ask q (test i) >> g i)) (f.number-back n (concat_map write ks ++ left) small)
          ∙ ap (λ (x : Bool). and_then (λ (u : Unit {0}). g n) (ask q x (concat_map write ks ++ left))) pass ∙ h left follows

      -- a constant's value
      pub takes_folded : (n : ℕ) (g : ℕ → Parser A) (ks : List Token) (a : A) → n ≤ value_width.most → TakesBefore Follows (g n) ks a
          → TakesBefore Follows (f.src.folded >>= g) (value (unfold_signed n) ∷ ks) a
      unfolding TakesBefore
      takes_folded n g ks a small h left follows =
          ap (λ (l : List ℕ). and_then g (f.src.folded l)) (append_assoc (write (value (unfold_signed n))) (concat_map write ks) left)
          ∙ ap (and_then g) (f.folded_back n (concat_map write ks ++ left) small) ∙ h left follows

  -- one parser after two is two parsers after one
  regroup : {A B C : Type 0} (g : A → Parser B) (h : B → Parser C) (p : Parsed A) → and_then h (and_then g p) ≡ and_then (λ (x : A). g x >>= h) p
  regroup g h (refused q) = refl
  regroup g h (accepted a l) = refl

  pub takes_regrouped : {A B C : Type 0} (Follows : List ℕ → Type 0) (p : Parser A) (g : A → Parser B) (h : B → Parser C) (ks : List Token) (c : C) → TakesBefore Follows ((p >>= g) >>= h) ks c → TakesBefore Follows (p >>= λ x. g x >>= h) ks c
  unfolding TakesBefore
  takes_regrouped Follows p g h ks c t left follows = sym (regroup g h (p (concat_map write ks ++ left))) ∙ t left follows

  -- a value made of what is taken
  pub takes_made : {A B : Type 0} (Follows : List ℕ → Type 0) (p : Parser A) (make : A → B) (ks : List Token) (a : A) → TakesBefore Follows p ks a → TakesBefore Follows (p >>= λ x. return (make x)) ks (make a)
  unfolding TakesBefore
  takes_made Follows p make ks a h left follows = ap (and_then (λ x. return (make x))) (h left follows)

  -- the same parser so many times, each value from its tokens
  pub takes_times : {A : Type 0} (p : Parser A) (tokens : A → List Token) (xs : List A) → All (λ x. Takes p (tokens x) x) xs → Takes (times (length xs) p) (concat_map tokens xs) xs
  takes_times p tokens [] none = takes_return (λ l. Unit {0}) []
  takes_times p tokens (x ∷ xs) (more h hs) =
      takes_bind (λ l. Unit {0}) p _ (tokens x) (concat_map tokens xs) x (x ∷ xs) h
      (takes_made (λ l. Unit {0}) (times (length xs) p) (λ zs. x ∷ zs) (concat_map tokens xs) xs (takes_times p tokens xs hs))
