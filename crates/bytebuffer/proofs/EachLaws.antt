-- The bytes of each element of a list, put one element after the other. Assumes nothing.
use mathlib.Core.Path.{◌≡◌, refl, ap, sym, ◌∙◌}
use mathlib.Core.List.{List, [], ◌∷◌, ◌++◌, append_assoc, append-nil}
use Prim.Native.Nat.{ℕ, zero, suc, ◌+◌, ◌≤◌, ◌<◌}
use native.Mathlib.Numerals.{add-one}
use native.Mathlib.Omega.{arith}
use lib.ListN.{length, get_or, take, drop}
use lib.Seq.{take_all}
use Rattle.std.specs.Prelude.{Some, None}
use Rattle.laws.specs.Lists.{concat_map}
use Rattle.bytebuffer.specs.declared.Writer.{Writer}
use Rattle.bytebuffer.specs.Appends.{Appends}
use Rattle.bytebuffer.proofs.PutLaws.{and_then, same-bytes, still_full}

module _ {A : Type 0} (f : A → List ℕ) where
  one_more : (xs : List A) (i : ℕ) (d : A) → i < length xs → concat_map f (take i xs) ++ f (get_or xs i d) ≡ concat_map f (take (suc i) xs)
  one_more [] i d h = absurd (omega arith)
  one_more (x ∷ xs) zero d h = sym (append-nil (f x))
  one_more (x ∷ xs) (suc i) d h = append_assoc (f x) (concat_map f (take i xs)) (f (get_or xs i d)) ∙ ap (λ (l : List ℕ). f x ++ l) (one_more xs i d (omega arith))

  and_rest : (xs : List A) (i : ℕ) → concat_map f (take i xs) ++ concat_map f (drop i xs) ≡ concat_map f xs
  and_rest xs zero = refl
  and_rest [] (suc i) = refl
  and_rest (x ∷ xs) (suc i) = append_assoc (f x) (concat_map f (take i xs)) (concat_map f (drop i xs)) ∙ ap (λ (l : List ℕ). f x ++ l) (and_rest xs i)

  -- the bytes of the elements before i
  abbrev pub first_bytes : List A → ℕ → List ℕ
  first_bytes xs i = concat_map f (take i xs)

  module _ (xs : List A) {i : ℕ} {w w' : Writer} (p : Appends (first_bytes xs i) w (Some tt) w') where
    module _ (h : i < length xs) (d : A) where
      one : concat_map f (take i xs) ++ f (get_or xs i d) ≡ first_bytes xs (i + 1)
      one = one_more xs i d h ∙ ap (λ (k : ℕ). concat_map f (take k xs)) (sym (add-one i))

      pub each_next : {w'' : Writer} → Appends (f (get_or xs i d)) w' (Some tt) w'' → Appends (first_bytes xs (i + 1)) w (Some tt) w''
      each_next q = same-bytes one (and_then p q)

      pub each_full : {w'' : Writer} → Appends (f (get_or xs i d)) w' None w'' → Appends (concat_map f xs) w None w''
      each_full q = same-bytes (and_rest xs (i + 1)) (still_full (concat_map f (drop (i + 1) xs)) (same-bytes one (and_then p q)))

    pub each_all : length xs ≤ i → Appends (concat_map f xs) w (Some tt) w'
    each_all h = same-bytes (ap (concat_map f) (take_all i xs h)) p
