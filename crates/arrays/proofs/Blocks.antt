-- Lists put together of blocks of one length, and columns of two parts: how long they are, and what stands where.
-- Assumes nothing.
use mathlib.Core.Path.{◌≡◌, refl, ap, sym, ◌∙◌}
use mathlib.Core.List.{List, [], ◌∷◌, ◌++◌}
use Prim.Native.Nat.{ℕ, zero, suc, ◌+◌, ◌*◌, ◌≤◌, ◌<◌}
use native.Mathlib.Nat.{add-zero, zero-add}
use native.Mathlib.Omega.{arith}
use lib.ListN.{length, get_or, length-append, get_or-append}
use lib.Seq.{get_or-append-add}
use Rattle.laws.specs.Lists.{concat_map, from}
use Rattle.guard.specs.Guard.{Row, row_at}
use Rattle.guard.specs.Terms.{from_rows}
use Rattle.tables.specs.Layout.{pad}
use Rattle.tables.proofs.Columns.{pad_get, pad-length}

-- ---- blocks

-- the same blocks, counted from a or from b
same_blocks : (f h : ℕ → List ℕ) (n a b : ℕ) → ((i : ℕ) → i < n → f (a + i) ≡ h (b + i)) → concat_map f (from n a) ≡ concat_map h (from n b)
same_blocks f h zero a b each = refl
same_blocks f h (suc n) a b each =
    let here : f a ≡ h b = ap f (sym (add-zero a)) ∙ each 0 (omega arith) ∙ ap h (add-zero b) in
    let rest : concat_map f (from n (suc a)) ≡ concat_map h (from n (suc b)) =
    same_blocks f h n (suc a) (suc b) (λ i l. let p : suc a + i ≡ a + suc i = omega arith in let q : suc b + i ≡ b + suc i = omega arith in ap f p ∙ each (suc i) (omega arith) ∙ ap h (sym q)) in
    cc

-- what rows give is a block for each
rows_blocks : (f : ℕ → Row → List ℕ) (k : ℕ) (rs : List Row) → from_rows f k rs ≡ concat_map (λ i. f (k + i) (row_at rs i)) (from (length rs) 0)
rows_blocks f k [] = refl
rows_blocks f k (r ∷ rs) =
    let here : f k r ≡ f (k + 0) r = ap (λ (n : ℕ). f n r) (sym (add-zero k)) in
    let rest : from_rows f (suc k) rs ≡ concat_map (λ i. f (k + i) (row_at (r ∷ rs) i)) (from (length rs) 1) =
    rows_blocks f (suc k) rs ∙ same_blocks (λ i. f (suc k + i) (row_at rs i)) (λ i. f (k + i) (row_at (r ∷ rs) i)) (length rs) 0 1 (λ i l. shifted i) in
    cc
  where
    shifted : (i : ℕ) → f (suc k + (0 + i)) (row_at rs (0 + i)) ≡ f (k + (1 + i)) (row_at (r ∷ rs) (1 + i))
    shifted i =
        let p : 0 + i ≡ i = omega arith in
        let q : 1 + i ≡ suc i = omega arith in
        let z : suc k + i ≡ k + suc i = omega arith in
        ap (λ (j : ℕ). f (suc k + j) (row_at rs j)) p ∙ ap (λ (n : ℕ). f n (row_at rs i)) z ∙ ap (λ (j : ℕ). f (k + j) (row_at (r ∷ rs) j)) (sym q)

module _ (d : ℕ) (f : ℕ → List ℕ) where
  blocks_length_from : (n a : ℕ) → ((i : ℕ) → i < n → length (f (a + i)) ≡ d) → length (concat_map f (from n a)) ≡ d * n
  blocks_length_from zero a each = omega arith
  blocks_length_from (suc n) a each =
      omega (
        arith,
        length-append (f a) (concat_map f (from n (suc a))),
        ap (λ (k : ℕ). length (f k)) (add-zero a),
        each 0 (omega arith),
        blocks_length_from n (suc a) (λ i l. let p : suc a + i ≡ a + suc i = omega arith in ap (λ (k : ℕ). length (f k)) p ∙ each (suc i) (omega arith)),
      )

  blocks_at_from : (n a : ℕ) → ((i : ℕ) → i < n → length (f (a + i)) ≡ d) → (i j : ℕ) → i < n → j < d → get_or (concat_map f (from n a)) (d * i + j) 0 ≡ get_or (f (a + i)) j 0
  blocks_at_from zero a each i j h l = absurd (omega arith)
  blocks_at_from (suc n) a each zero j h l =
      let e : d * 0 + j ≡ j = omega arith in
      let here : length (f a) ≡ d = ap (λ (k : ℕ). length (f k)) (sym (add-zero a)) ∙ each 0 (omega arith) in
      ap (λ (k : ℕ). get_or (f a ++ concat_map f (from n (suc a))) k 0) e ∙ get_or-append (f a) (concat_map f (from n (suc a))) 0 j (omega arith) ∙ ap (λ (k : ℕ). get_or (f k) j 0) (sym (add-zero a))
  blocks_at_from (suc n) a each (suc i) j h l =
      let here : length (f a) ≡ d = ap (λ (k : ℕ). length (f k)) (sym (add-zero a)) ∙ each 0 (omega arith) in
      let e : d * suc i + j ≡ length (f a) + (d * i + j) = omega arith in
      let q : suc a + i ≡ a + suc i = omega arith in
      ap (λ (k : ℕ). get_or (f a ++ concat_map f (from n (suc a))) k 0) e ∙ get_or-append-add (f a) (concat_map f (from n (suc a))) (d * i + j) 0
      ∙ blocks_at_from n (suc a) (λ i l. let p : suc a + i ≡ a + suc i = omega arith in ap (λ (k : ℕ). length (f k)) p ∙ each (suc i) (omega arith)) i j (omega arith) l ∙ ap (λ (k : ℕ). get_or (f k) j 0) q

  module _ (n : ℕ) (each : (i : ℕ) → i < n → length (f i) ≡ d) where
    each' : (i : ℕ) → i < n → length (f (0 + i)) ≡ d
    each' i l = ap (λ (k : ℕ). length (f k)) (zero-add i) ∙ each i l

    pub blocks_length : length (concat_map f (from n 0)) ≡ d * n
    blocks_length = blocks_length_from n 0 each'

    pub blocks_at : (i j : ℕ) → i < n → j < d → get_or (concat_map f (from n 0)) (d * i + j) 0 ≡ get_or (f i) j 0
    blocks_at i j h l = blocks_at_from n 0 each' i j h l ∙ ap (λ (k : ℕ). get_or (f k) j 0) (zero-add i)

module _ (d : ℕ) (f : ℕ → Row → List ℕ) (rs : List Row) (each : (i : ℕ) → i < length rs → length (f i (row_at rs i)) ≡ d) where
  row_blocks : from_rows f 0 rs ≡ concat_map (λ i. f i (row_at rs i)) (from (length rs) 0)
  row_blocks = rows_blocks f 0 rs ∙ same_blocks (λ i. f (0 + i) (row_at rs i)) (λ i. f i (row_at rs i)) (length rs) 0 0 (λ i l. ap (λ (k : ℕ). f k (row_at rs (0 + i))) (zero-add (0 + i)))

  pub rows-length : length (from_rows f 0 rs) ≡ d * length rs
  rows-length = ap length row_blocks ∙ blocks_length d (λ i. f i (row_at rs i)) (length rs) each

  pub rows-at : (i j : ℕ) → i < length rs → j < d → get_or (from_rows f 0 rs) (d * i + j) 0 ≡ get_or (f i (row_at rs i)) j 0
  rows-at i j h l = ap (λ (xs : List ℕ). get_or xs (d * i + j) 0) row_blocks ∙ blocks_at d (λ i. f i (row_at rs i)) (length rs) each i j h l

-- ---- columns of two parts, the first with m places

module _ (m : ℕ) (xs ys : List ℕ) (few : length xs ≤ m) where
  pub front_at : (k : ℕ) → k < m → get_or (pad m xs ++ ys) k 0 ≡ get_or xs k 0
  front_at k h = get_or-append (pad m xs) ys 0 k (omega (arith, pad-length 0 m xs few)) ∙ pad_get 0 m k xs

  pub back_at : (k : ℕ) → get_or (pad m xs ++ ys) (m + k) 0 ≡ get_or ys k 0
  back_at k = let e : m + k ≡ length (pad m xs) + k = omega (arith, pad-length 0 m xs few) in ap (λ (n : ℕ). get_or (pad m xs ++ ys) n 0) e ∙ get_or-append-add (pad m xs) ys k 0

  pub both-length : length (pad m xs ++ ys) ≡ m + length ys
  both-length = omega (arith, length-append (pad m xs) ys, pad-length 0 m xs few)
