-- A column that is filled from the front, and what stands in it: a number at a time, several at once, or none where the
-- next are 0. Assumes nothing.
use mathlib.Core.Path.{◌≡◌, refl, ap, sym, ◌∙◌}
use mathlib.Core.List.{List, [], ◌∷◌, ◌++◌, append_assoc, map}
use Prim.Native.Nat.{ℕ, zero, suc, ◌+◌, ◌-◌, ◌≤◌, ◌<◌}
use native.Mathlib.Nat.{add-zero, zero-add}
use native.Mathlib.Numerals.{add-one}
use native.Mathlib.Omega.{arith}
use lib.ListN.{length, get_or, set, length-append, replicate}
use Rattle.laws.specs.Lists.{from}
use Rattle.laws.proofs.Lists.{from_bounds, map_cong, map-from-at, map-from-length, map-from_out, map-from_snoc}
use Rattle.tables.specs.Layout.{pad}
use Rattle.tables.proofs.Columns.{pad_get, pad-nil, pad-set}
use Rattle.columns.specs.Entries.{filled, written}

-- where nothing stands there is a 0
pad_zero : (n : ℕ) (xs : List ℕ) → length xs < n → pad n xs ≡ pad n (xs ++ (0 ∷ []))
pad_zero n xs h =
    let m : n - length xs ≡ suc (n - suc (length xs)) = omega arith in
    let l : length (xs ++ (0 ∷ [])) ≡ suc (length xs) = omega (arith, length-append xs (0 ∷ [])) in
    ap (λ (k : ℕ). xs ++ replicate k 0) m ∙ sym (append_assoc xs (0 ∷ []) (replicate (n - suc (length xs)) 0))
    ∙ ap (λ (k : ℕ). (xs ++ (0 ∷ [])) ++ replicate (n - k) 0) (sym l)

module _ (n : ℕ) (f : ℕ → ℕ) where
  pub filled_none : replicate n 0 ≡ filled n f 0
  filled_none = sym (pad-nil 0 n)

  more : (i : ℕ) → map f (from i 0) ++ (f i ∷ []) ≡ map f (from (i + 1) 0)
  more i = ap (λ (k : ℕ). map f (from i 0) ++ (f k ∷ [])) (sym (zero-add i)) ∙ sym (map-from_snoc f i 0) ∙ ap (λ (k : ℕ). map f (from k 0)) (sym (add-one i))

  -- the next number is stored
  pub filled_next : (i : ℕ) (column : List ℕ) (x : ℕ) → i < n → column ≡ filled n f i → x ≡ f i → set column i x ≡ filled n f (i + 1)
  filled_next i column x h e q =
      let l : length (map f (from i 0)) ≡ i = map-from-length f i 0 in
      ap (λ (c : List ℕ). set c i x) e ∙ ap (set (filled n f i) i) q
      ∙ ap (λ (k : ℕ). set (pad n (map f (from i 0))) k (f i)) (sym l) ∙ pad-set 0 n (map f (from i 0)) (f i) (omega arith)
      ∙ ap (pad n) (more i)

  -- the next number is 0, as are all that don't stand there yet
  pub filled_skip : (i : ℕ) (column : List ℕ) → i < n → f i ≡ 0 → column ≡ filled n f i → column ≡ filled n f (i + 1)
  filled_skip i column h z e =
      let l : length (map f (from i 0)) ≡ i = map-from-length f i 0 in
      e ∙ pad_zero n (map f (from i 0)) (omega arith)
      ∙ ap (pad n) (ap (λ (k : ℕ). map f (from i 0) ++ (k ∷ [])) (sym z) ∙ more i)

  -- the next k numbers are 0
  pub filled_skips : (k i : ℕ) (column : List ℕ) → i + k ≤ n → ((j : ℕ) → j < k → f (i + j) ≡ 0) → column ≡ filled n f i → column ≡ filled n f (i + k)
  filled_skips zero i column h z e = e ∙ ap (filled n f) (sym (add-zero i))
  filled_skips (suc k) i column h z e =
      let q : i + k + 1 ≡ i + suc k = omega arith in
      filled_skip (i + k) column (omega arith) (z k (omega arith)) (filled_skips k i column (omega arith) (λ j l. z j (omega arith)) e)
      ∙ ap (filled n f) q

  -- the next k numbers are written
  pub filled-written : (k i : ℕ) (column : List ℕ) (g : ℕ → ℕ) → i + k ≤ n → ((j : ℕ) → j < k → g j ≡ f (i + j)) → column ≡ filled n f i
      → written k column i g ≡ filled n f (i + k)
  filled-written zero i column g h q e = e ∙ ap (filled n f) (sym (add-zero i))
  filled-written (suc k) i column g h q e =
      let s : i + k + 1 ≡ i + suc k = omega arith in
      filled_next (i + k) (written k column i g) (g k) (omega arith) (filled-written k i column g (omega arith) (λ j l. q j (omega arith)) e) (q k (omega arith))
      ∙ ap (filled n f) s

  pub filled_end : (i m : ℕ) (column : List ℕ) → i ≤ m → m ≤ i → column ≡ filled n f i → column ≡ filled n f m
  filled_end i m column h l e = let q : i ≡ m = omega arith in e ∙ ap (filled n f) q

pub filled_at : (n : ℕ) (f : ℕ → ℕ) (i k : ℕ) → k < i → get_or (filled n f i) k 0 ≡ f k
filled_at n f i k h = pad_get 0 n k (map f (from i 0)) ∙ map-from-at f i 0 k 0 h ∙ ap f (zero-add k)

pub filled-past : (n : ℕ) (f : ℕ → ℕ) (i k : ℕ) → i ≤ k → get_or (filled n f i) k 0 ≡ 0
filled-past n f i k h = pad_get 0 n k (map f (from i 0)) ∙ map-from_out f i 0 k 0 h

pub filled-same : (n : ℕ) (f g : ℕ → ℕ) (i : ℕ) → ((k : ℕ) → k < i → f k ≡ g k) → filled n f i ≡ filled n g i
filled-same n f g i h = ap (pad n) (map_cong f g (from i 0) (λ k m. h k (omega (arith, (from_bounds i 0 k m).1))))

pub written_same : (k at : ℕ) (column : List ℕ) (f g : ℕ → ℕ) → ((j : ℕ) → j < k → f j ≡ g j) → written k column at f ≡ written k column at g
written_same zero at column f g h = refl
written_same (suc k) at column f g h =
    ap (λ (c : List ℕ). set c (at + k) (f k)) (written_same k at column f g (λ j l. h j (omega arith)))
    ∙ ap (set (written k column at g) (at + k)) (h k (omega arith))
