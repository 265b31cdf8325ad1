-- Zeros in place of a list, and a list whose end is replaced by as many zeros. Assumes nothing.
use mathlib.Core.Path.{◌≡◌, ap, sym, ◌∙◌}
use mathlib.Core.List.{List, [], ◌++◌, append-nil}
use Prim.Native.Nat.{ℕ, ◌-◌, ◌≤◌}
use native.Mathlib.Omega.{arith}
use lib.IntN.{ℤ, pos}
use lib.ListN.{length, take, drop, replicate, drop_of_length-le, length-append, length-drop, length-replicate}
use lib.Seq.{drop_at, length-take-le, take_at}

pub long_zero : (xs ys : List ℤ) → ys ≡ replicate (length xs) (pos 0) → length ys ≡ length xs
long_zero xs ys e = ap (λ (l : List ℤ). length l) e ∙ length-replicate (length xs) (pos 0)

-- ---- a part that was lent and came back as zeros

-- the numbers before n, and zeros from there on
abbrev pub zero_from : ℕ → List ℤ → List ℤ
zero_from n xs = take n xs ++ replicate (length xs - n) (pos 0)

pub part-cleared : (n : ℕ) (xs ys : List ℤ) → ys ≡ replicate (length (take (length xs - n) (drop n xs))) (pos 0) → take n xs ++ (ys ++ drop (length xs - n) (drop n xs)) ≡ zero_from n xs
part-cleared n xs ys e =
    let l : length (take (length xs - n) (drop n xs)) ≡ length xs - n = length-take-le (length xs - n) (drop n xs) (omega (arith, length-drop n xs)) in
    let d : drop (length xs - n) (drop n xs) ≡ [] = drop_of_length-le (drop n xs) {i = length xs - n} (omega (arith, length-drop n xs)) in
    let w : ys ++ drop (length xs - n) (drop n xs) ≡ replicate (length xs - n) (pos 0) = ap (λ (zs : List ℤ). ys ++ zs) d ∙ append-nil ys ∙ e ∙ ap (λ (k : ℕ). replicate k (pos 0)) l in
    ap (λ (zs : List ℤ). take n xs ++ zs) w

module _ (n : ℕ) (xs : List ℤ) (room : n ≤ length xs) where
  front : length (take n xs) ≡ n
  front = length-take-le n xs room

  pub zero_length : length (zero_from n xs) ≡ length xs
  zero_length = length-append (take n xs) _ ∙ omega (arith, front, length-replicate (length xs - n) (pos 0))

  -- what stands before is kept
  pub zero_front : take n (zero_from n xs) ≡ take n xs
  zero_front = take_at (take n xs) _ n front

  pub zero_back : drop n (zero_from n xs) ≡ replicate (length (zero_from n xs) - n) (pos 0)
  zero_back = drop_at (take n xs) _ n front ∙ ap (λ (k : ℕ). replicate (k - n) (pos 0)) (sym zero_length)
