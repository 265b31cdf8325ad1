-- Lists of bytes, compared; and codes that say themselves where they end. Assumes nothing.
use mathlib.Core.Path.{◌≡◌, refl, ap, ap₂, sym, ◌∙◌}
use mathlib.Core.Bool.{true, false≢true}
use mathlib.Core.List.{List, [], ◌∷◌, ◌++◌, append_assoc}
use Prim.Native.Nat.{ℕ, ◌≤◌}
use native.Mathlib.Omega.{arith}
use lib.Dec.{eqb}
use lib.ListN.{length}
use borrow.Author.Tests.{eq-eqb, eqb-true}
use Rattle.laws.specs.All.{All, All.more, All.none}
use Rattle.laws.specs.Lists.{concat_map}
use Rattle.laws.proofs.Bools.{and_both, and_left, and_right}
use Rattle.guard.specs.Number.{Parsed.accepted, unsigned}
use Rattle.encoding.specs.Encoding.{encoded}
use Rattle.encoding.proofs.ReadBack.{read_back}
use Rattle.merged.specs.Merge.{same_bytes}

pub same-bytes_refl : (xs : List ℕ) → same_bytes xs xs ≡ true
same-bytes_refl [] = refl
same-bytes_refl (x ∷ xs) = and_both (eqb x x) (same_bytes xs xs) (eq-eqb x x refl) (same-bytes_refl xs)

pub same-bytes-is : (xs ys : List ℕ) → same_bytes xs ys ≡ true → xs ≡ ys
same-bytes-is [] [] e = refl
same-bytes-is [] (y ∷ ys) e = absurd (false≢true e)
same-bytes-is (x ∷ xs) [] e = absurd (false≢true e)
same-bytes-is (x ∷ xs) (y ∷ ys) e = ap₂ (λ (z : ℕ) (zs : List ℕ). z ∷ zs) (eqb-true x y (and_left (eqb x y) (same_bytes xs ys) e)) (same-bytes-is xs ys (and_right (eqb x y) (same_bytes xs ys) e))

pub same-yes : {xs ys : List ℕ} → xs ≡ ys → true ≡ same_bytes xs ys
same-yes {xs} e = sym (same-bytes_refl xs) ∙ ap (same_bytes xs) e

-- ---- codes

module _ {A : Type 0} where
  -- what is coded, and what follows, can be told from the bytes
  abbrev pub Code : (A → Type 0) → (A → List ℕ) → Type 0
  Code P f = (x y : A) (ks js : List ℕ) → P x → P y → f x ++ ks ≡ f y ++ js → (x ≡ y) × (ks ≡ js)

  -- a list: how many, and each
  abbrev pub listed : (A → List ℕ) → List A → List ℕ
  listed f xs = encoded (length xs) ++ concat_map f xs

  -- of numbers that a file can hold
  abbrev pub AllFit : (A → Type 0) → List A → Type 0
  AllFit P xs = (length xs ≤ 4294967295) × All P xs

pub number-code : Code (λ n. n ≤ 4294967295) encoded
number-code n m ks js h k e =
    let p : accepted n ks ≡ accepted m js = sym (read_back n ks h) ∙ ap unsigned e ∙ read_back m js k in
    (cc, cc)

module _ {A : Type 0} (P : A → Type 0) (f : A → List ℕ) (code : Code P f) where
  each : (xs ys : List A) (ks js : List ℕ) → length xs ≡ length ys → All P xs → All P ys → concat_map f xs ++ ks ≡ concat_map f ys ++ js → (xs ≡ ys) × (ks ≡ js)
  each [] [] ks js l none none e = (refl, e)
  each [] (y ∷ ys) ks js l h k e = absurd (omega arith)
  each (x ∷ xs) [] ks js l h k e = absurd (omega arith)
  each (x ∷ xs) (y ∷ ys) ks js l (more h hs) (more k ks') e =
      let (here, rest) = code x y (concat_map f xs ++ ks) (concat_map f ys ++ js) h k (sym (append_assoc (f x) (concat_map f xs) ks) ∙ e ∙ append_assoc (f y) (concat_map f ys) js) in
      let (there, behind) = each xs ys ks js (omega arith) hs ks' rest in
      (ap₂ (λ (z : A) (zs : List A). z ∷ zs) here there, behind)

  pub list_code : Code (AllFit P) (listed f)
  list_code xs ys ks js (few, h) (few', k) e =
      let (same, rest) = number-code (length xs) (length ys) (concat_map f xs ++ ks) (concat_map f ys ++ js) few few'
      (sym (append_assoc (encoded (length xs)) (concat_map f xs) ks) ∙ e ∙ append_assoc (encoded (length ys)) (concat_map f ys) js) in
      each xs ys ks js same h k rest
