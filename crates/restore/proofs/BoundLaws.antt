-- How large the numbers are that columns are read to. Assumes nothing.
use mathlib.Core.Path.{◌≡◌, refl, sym, subst}
use mathlib.Core.Bool.{Bool, true, false, cond, not}
use mathlib.Core.List.{List, [], ◌∷◌, ◌++◌}
use Prim.Native.Nat.{ℕ, zero, suc, ◌+◌, ◌≤◌, ◌<◌}
use native.Mathlib.Omega.{arith}
use lib.Dec.{eqb, ltb}
use lib.ListN.{get_or, length, length-append}
use lib.Seq.{get_or-append_seam}
use borrow.Author.Tests.{eqb-false, eqb-true, ltb-false, ltb-true}
use Rattle.laws.proofs.Bools.{by_test}
use Rattle.guard.specs.File.{name}
use Rattle.guard.specs.Number.{Parsed, Parsed.accepted, Parser, Width, ◌>>=◌, ◌>>◌, ask, return, unsigned, unsigned_of, value_width, width32}
use Rattle.guard.specs.Types.{Types, is_number}
use Rattle.guard.proofs.Reading.{Reads, reads-unsigned_of}
use Rattle.encoding.proofs.Parsers.{ask_inv, bind_inv}
use Rattle.columnfile.specs.Columns.{cell, column, column_from, columns, columns_from, number_in, second, third, width}
use Rattle.columnreader.proofs.ColumnLaws.{other-number}
use Rattle.restore.specs.Restoring.{Bounded}

-- ---- one number

below-most : (w : Width) (bs : List ℕ) (n : ℕ) (rest : List ℕ) → unsigned_of w bs ≡ accepted n rest → n ≤ w.most
unfolding Reads
below-most w bs n rest e = let (u, l, h) = reads-unsigned_of w bs n rest e in h.0

same-value : {a b : ℕ} {l r : List ℕ} → Path (Parsed ℕ) (accepted a l) (accepted b r) → a ≡ b
same-value e = cc

small-unsigned : (bs : List ℕ) (n : ℕ) (rest : List ℕ) → unsigned bs ≡ accepted n rest → n ≤ width32.most
small-unsigned bs n rest e = below-most width32 bs n rest e

small_tested : (q : ℕ) (test : ℕ → Bool) (bs : List ℕ) (n : ℕ) (rest : List ℕ) → (unsigned >>= λ i. ask q (test i) >> return i) bs ≡ accepted n rest → n ≤ width32.most
small_tested q test bs n rest e =
    let (i, mid, read, after) = bind_inv unsigned (λ i. ask q (test i) >> return i) bs n rest e in
    let (pass, r) = ask_inv q (test i) (return i) mid n rest after in
    subst (λ (k : ℕ). k ≤ width32.most) (same-value r) (small-unsigned bs i mid read)

small-none : (bs : List ℕ) (n : ℕ) (rest : List ℕ) → return 0 bs ≡ accepted n rest → n ≤ width32.most
small-none bs n rest e = subst (λ (k : ℕ). k ≤ width32.most) (same-value e) (omega arith)

small-second : (ts : Types) (k : ℕ) (bs : List ℕ) (n : ℕ) (rest : List ℕ) → second ts k bs ≡ accepted n rest → n ≤ width32.most
small-second ts zero bs n rest e = small-unsigned bs n rest e
small-second ts (suc zero) bs n rest e = small-unsigned bs n rest e
small-second ts (suc (suc zero)) bs n rest e =
    let (i, mid, read, after) = bind_inv (name (length ts)) _ bs n rest e in
    let (pass, r) = ask_inv 7 (not (is_number ts i)) (return i) mid n rest after in
    subst (λ (k : ℕ). k ≤ width32.most) (same-value r) (small_tested 5 (λ j. ltb j (length ts)) bs i mid read)
small-second ts (suc (suc (suc k))) bs n rest e = small-unsigned bs n rest e

small-third : (ts : Types) (k s : ℕ) → ¬ (k ≡ 1) → (bs : List ℕ) (n : ℕ) (rest : List ℕ) → third ts k s bs ≡ accepted n rest → n ≤ width32.most
small-third ts zero s m bs n rest e = small-none bs n rest e
small-third ts (suc zero) s m bs n rest e = absurd (m refl)
small-third ts (suc (suc zero)) s m bs n rest e = small_tested 5 (λ j. ltb j _) bs n rest e
small-third ts (suc (suc (suc k))) s m bs n rest e = small-unsigned bs n rest e

value-third : (ts : Types) (k s : ℕ) (bs : List ℕ) (n : ℕ) (rest : List ℕ) → third ts k s bs ≡ accepted n rest → n ≤ value_width.most
value-third ts zero s bs n rest e = omega (arith, small-none bs n rest e)
value-third ts (suc zero) s bs n rest e = below-most value_width bs n rest e
value-third ts (suc (suc zero)) s bs n rest e = omega (arith, small-third ts 2 s (λ q. omega (arith, q)) bs n rest e)
value-third ts (suc (suc (suc k))) s bs n rest e = omega (arith, small-unsigned bs n rest e)

small_later : (b : Bool) (bs : List ℕ) (n : ℕ) (rest : List ℕ) → cond b unsigned (return 0) bs ≡ accepted n rest → n ≤ width32.most
small_later true bs n rest e = small-unsigned bs n rest e
small_later false bs n rest e = small-none bs n rest e

-- ---- a column

module _ (p : ℕ → Parser ℕ) (P : ℕ → ℕ → Type 0) (reads : (i : ℕ) (bs : List ℕ) (x : ℕ) (rest : List ℕ) → p i bs ≡ accepted x rest → P i x) where
  one_more : (xs : List ℕ) (x : ℕ) → ((i : ℕ) → i < length xs → P i (get_or xs i 0)) → P (length xs) x → (i : ℕ) → i < length (xs ++ (x ∷ [])) → P i (get_or (xs ++ (x ∷ [])) i 0)
  one_more xs x h here i l =
      by_test (eqb i (length xs))
      (λ e. let is = eqb-true i (length xs) e in subst (λ (k : ℕ). P k (get_or (xs ++ (x ∷ [])) k 0)) (sym is) (subst (P (length xs)) (sym (get_or-append_seam xs x [] 0)) here))
      (λ e. let isnt = eqb-false i (length xs) e in
      subst (P i) (sym (other-number xs x i isnt)) (h i (inside isnt)))
    where
      inside : ¬ (i ≡ length xs) → i < length xs
      inside isnt = by_test (ltb i (length xs)) (λ e. ltb-true i (length xs) e) (λ e. absurd (isnt (omega (arith, l, length-append xs (x ∷ []), ltb-false i (length xs) e))))

  each_read : (left : ℕ) (xs bs ys rest : List ℕ) → column_from p left xs bs ≡ accepted ys rest → ((i : ℕ) → i < length xs → P i (get_or xs i 0)) → (i : ℕ) → i < length xs + left → P i (get_or ys i 0)
  each_read zero xs bs ys rest e h i l = let same : xs ≡ ys = cc in subst (λ (zs : List ℕ). P i (get_or zs i 0)) same (h i (omega (arith, l)))
  each_read (suc left) xs bs ys rest e h i l =
      let (x, mid, read, after) = bind_inv (p (length xs)) (λ y. column_from p left (xs ++ (y ∷ []))) bs ys rest e in
      each_read left (xs ++ (x ∷ [])) mid ys rest after (one_more xs x h (reads (length xs) bs x mid read)) i (omega (arith, l, length-append xs (x ∷ [])))

column_bound : (ts : Types) (j n : ℕ) (ks ss vs bs xs rest : List ℕ) (P : ℕ → ℕ → Type 0)
    → ((i : ℕ) (cs : List ℕ) (x : ℕ) (left : List ℕ) → cell ts j (get_or ks i 0) (get_or ss i 0) (get_or vs i 0) cs ≡ accepted x left → P i x)
    → column ts j n ks ss vs bs ≡ accepted xs rest → (i : ℕ) → i < n → P i (get_or xs i 0)
column_bound ts j n ks ss vs bs xs rest P reads e i l =
    each_read (λ i. cell ts j (get_or ks i 0) (get_or ss i 0) (get_or vs i 0)) P reads n [] bs xs rest e (λ k m. absurd (omega (arith, m))) i (omega (arith, l))

-- ---- all columns

module _ (ts : Types) (n : ℕ) where
  -- a column more
  next_inv : (left : ℕ) (ds : List (List ℕ)) (bs : List ℕ) (cs : List (List ℕ)) (rest : List ℕ) → columns_from ts n (suc left) ds bs ≡ accepted cs rest
      → (xs : List ℕ) × (mid : List ℕ) × (column ts (length ds) n (get_or ds 0 []) (get_or ds 1 []) (get_or ds 2 []) bs ≡ accepted xs mid) × (columns_from ts n left (ds ++ (xs ∷ [])) mid ≡ accepted cs rest)
  next_inv left ds bs cs rest e = bind_inv (column ts (length ds) n (get_or ds 0 []) (get_or ds 1 []) (get_or ds 2 [])) (λ xs. columns_from ts n left (ds ++ (xs ∷ []))) bs cs rest e

  record Six (cs : List (List ℕ)) : Type 0 where
    c₀ : List ℕ
    c₁ : List ℕ
    c₂ : List ℕ
    c₃ : List ℕ
    c₄ : List ℕ
    c₅ : List ℕ
    are : c₀ ∷ c₁ ∷ c₂ ∷ c₃ ∷ c₄ ∷ c₅ ∷ [] ≡ cs
    b₀ : (i : ℕ) → i < n → get_or c₀ i 0 ≤ width32.most
    b₁ : (i : ℕ) → i < n → get_or c₁ i 0 ≤ width32.most
    b₂ : (i : ℕ) → i < n → ¬ (get_or c₀ i 0 ≡ 1) → get_or c₂ i 0 ≤ width32.most
    v₂ : (i : ℕ) → i < n → get_or c₂ i 0 ≤ value_width.most
    b₃ : (i : ℕ) → i < n → get_or c₃ i 0 ≤ width32.most
    b₄ : (i : ℕ) → i < n → get_or c₄ i 0 ≤ width32.most
    b₅ : (i : ℕ) → i < n → get_or c₅ i 0 ≤ width32.most

  first_small : (bs xs rest : List ℕ) → column ts 0 n [] [] [] bs ≡ accepted xs rest → (i : ℕ) → i < n → get_or xs i 0 ≤ width32.most
  first_small bs xs rest r = column_bound ts 0 n [] [] [] bs xs rest (λ i x. x ≤ width32.most) (λ i ds x left q. small_tested 6 (λ j. ltb j 4) ds x left q) r

  second-small : (ks bs xs rest : List ℕ) → column ts 1 n ks [] [] bs ≡ accepted xs rest → (i : ℕ) → i < n → get_or xs i 0 ≤ width32.most
  second-small ks bs xs rest r = column_bound ts 1 n ks [] [] bs xs rest (λ i x. x ≤ width32.most) (λ i ds x left q. small-second ts (get_or ks i 0) ds x left q) r

  third-small : (ks ss bs xs rest : List ℕ) → column ts 2 n ks ss [] bs ≡ accepted xs rest → (i : ℕ) → i < n → ¬ (get_or ks i 0 ≡ 1) → get_or xs i 0 ≤ width32.most
  third-small ks ss bs xs rest r = column_bound ts 2 n ks ss [] bs xs rest (λ i x. ¬ (get_or ks i 0 ≡ 1) → x ≤ width32.most) (λ i ds x left q m. small-third ts (get_or ks i 0) (get_or ss i 0) m ds x left q) r

  third-value : (ks ss bs xs rest : List ℕ) → column ts 2 n ks ss [] bs ≡ accepted xs rest → (i : ℕ) → i < n → get_or xs i 0 ≤ value_width.most
  third-value ks ss bs xs rest r = column_bound ts 2 n ks ss [] bs xs rest (λ i x. x ≤ value_width.most) (λ i ds x left q. value-third ts (get_or ks i 0) (get_or ss i 0) ds x left q) r

  later_small : (j : ℕ) (ks ss vs bs xs rest : List ℕ) → column ts (suc (suc (suc j))) n ks ss vs bs ≡ accepted xs rest → (i : ℕ) → i < n → get_or xs i 0 ≤ width32.most
  later_small j ks ss vs bs xs rest r =
      column_bound ts (suc (suc (suc j))) n ks ss vs bs xs rest (λ i x. x ≤ width32.most)
      (λ i ds x left q. small_later (ltb (suc (suc (suc j))) (width ts (get_or ks i 0) (get_or ss i 0) (get_or vs i 0))) ds x left q) r

  same-columns : {ds es : List (List ℕ)} {l r : List ℕ} → Path (Parsed (List (List ℕ))) (accepted ds l) (accepted es r) → ds ≡ es
  same-columns e = cc

  last-three : (x y z : List ℕ) (bs : List ℕ) (cs : List (List ℕ)) (rest : List ℕ) → columns_from ts n 3 (x ∷ y ∷ z ∷ []) bs ≡ accepted cs rest
      → ((i : ℕ) → i < n → get_or x i 0 ≤ width32.most) → ((i : ℕ) → i < n → get_or y i 0 ≤ width32.most) → ((i : ℕ) → i < n → ¬ (get_or x i 0 ≡ 1) → get_or z i 0 ≤ width32.most) → ((i : ℕ) → i < n → get_or z i 0 ≤ value_width.most) → Six cs
  last-three x y z bs cs rest e h₀ h₁ h₂ w₂ =
      let (c₃, m₃, r₃, e₄) = next_inv 2 (x ∷ y ∷ z ∷ []) bs cs rest e in
      let (c₄, m₄, r₄, e₅) = next_inv 1 (x ∷ y ∷ z ∷ c₃ ∷ []) m₃ cs rest e₄ in
      let (c₅, m₅, r₅, e₆) = next_inv 0 (x ∷ y ∷ z ∷ c₃ ∷ c₄ ∷ []) m₄ cs rest e₅ in
      record {
        c₀ = x;
        c₁ = y;
        c₂ = z;
        c₃ = c₃;
        c₄ = c₄;
        c₅ = c₅;
        are = same-columns e₆;
        b₀ = h₀;
        b₁ = h₁;
        b₂ = h₂;
        v₂ = w₂;
        b₃ = later_small 0 x y z bs c₃ m₃ r₃;
        b₄ = later_small 1 x y z m₃ c₄ m₄ r₄;
        b₅ = later_small 2 x y z m₄ c₅ m₅ r₅;
      }

  all-six : (bs : List ℕ) (cs : List (List ℕ)) (rest : List ℕ) → columns_from ts n 6 [] bs ≡ accepted cs rest → Six cs
  all-six bs cs rest e =
      let (c₀, m₀, r₀, e₁) = next_inv 5 [] bs cs rest e in
      let (c₁, m₁, r₁, e₂) = next_inv 4 (c₀ ∷ []) m₀ cs rest e₁ in
      let (c₂, m₂, r₂, e₃) = next_inv 3 (c₀ ∷ c₁ ∷ []) m₁ cs rest e₂ in
      last-three c₀ c₁ c₂ m₂ cs rest e₃ (first_small bs c₀ m₀ r₀) (second-small c₀ m₀ c₁ m₁ r₁) (third-small c₀ c₁ m₁ c₂ m₂ r₂) (third-value c₀ c₁ m₁ c₂ m₂ r₂)

  by_place : {cs : List (List ℕ)} (s : Six cs) (j i : ℕ) → ¬ (j ≡ 2) → i < n → number_in (s.c₀ ∷ s.c₁ ∷ s.c₂ ∷ s.c₃ ∷ s.c₄ ∷ s.c₅ ∷ []) j i ≤ width32.most
  by_place s zero i m l = s.b₀ i l
  by_place s (suc zero) i m l = s.b₁ i l
  by_place s (suc (suc zero)) i m l = absurd (m refl)
  by_place s (suc (suc (suc zero))) i m l = s.b₃ i l
  by_place s (suc (suc (suc (suc zero)))) i m l = s.b₄ i l
  by_place s (suc (suc (suc (suc (suc zero))))) i m l = s.b₅ i l
  by_place s (suc (suc (suc (suc (suc (suc j)))))) i m l = omega arith

  pub columns-bounded : (bs : List ℕ) (cs : List (List ℕ)) (rest : List ℕ) → columns ts n bs ≡ accepted cs rest → Bounded n cs
  columns-bounded bs cs rest e = let s = all-six bs cs rest e in subst (Bounded n) s.are (record { small = by_place s; third = s.b₂; value = s.v₂ })
