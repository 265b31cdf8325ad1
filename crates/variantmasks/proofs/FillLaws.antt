-- The summary row by row, in place: the masks of the rows so far, and behind them what was there. Assumes nothing.
use mathlib.Core.Path.{◌≡◌, refl, ap, sym, ◌∙◌}
use mathlib.Core.Bool.{Bool, true, false, cond, not, ◌&&◌}
use mathlib.Core.List.{List, [], ◌∷◌, ◌++◌}
use Prim.Native.Nat.{ℕ, zero, suc, ◌+◌, ◌*◌, ◌≤◌}
use native.Mathlib.Numerals.{add-one}
use native.Mathlib.Omega.{arith}
use lib.Dec.{eqb}
use lib.ListN.{length, drop, get_or, set, take}
use lib.Seq.{drop-append-add, drop-drop, get_or-append-add, get_or-drop, sets-eq, take_at}
use Rattle.laws.specs.Bits.{bit}
use Rattle.laws.proofs.Bits.{bit_zero}
use Rattle.guard.specs.Guard.{Guard}
use Rattle.summaries.specs.Summary.{kept_or_walked, masks_below, possible_at, possible_by, settled_at, settled_by, summary_by, summary_length, summary_of, updated, variant_count, walked}
use Rattle.summaries.proofs.Masks.{mask_same}
use Rattle.summaries.proofs.Positions.{masks_length}
use Rattle.variantmasks.specs.Masks.{number_by}

-- equal numbers, equal masks
masks_same : (a b : ℕ → ℕ → ℕ) (counts : ℕ → ℕ) (n : ℕ) → ((i v : ℕ) → a i v ≡ b i v) → masks_below a counts n ≡ masks_below b counts n
masks_same a b counts zero e = refl
masks_same a b counts (suc n) e =
    let known : settled_by (a n) (counts n) ≡ settled_by (b n) (counts n) = mask_same _ _ (counts n) (λ v h. ap (λ (x : ℕ). not (eqb x 3)) (e n v)) in
    let there : possible_by (a n) (counts n) ≡ possible_by (b n) (counts n) = mask_same _ _ (counts n) (λ v h. ap (λ (x : ℕ). eqb x 1) (e n v)) in
    ap (λ (xs : List ℕ). xs ++ (settled_by (a n) (counts n) ∷ possible_by (a n) (counts n) ∷ [])) (masks_same a b counts n e)
    ∙ ap (λ (x : ℕ). masks_below b counts n ++ (x ∷ possible_by (a n) (counts n) ∷ [])) known ∙ ap (λ (x : ℕ). masks_below b counts n ++ (settled_by (b n) (counts n) ∷ x ∷ [])) there

module _ (budget : ℕ) (anew : Bool) (old : List ℕ) (g : Guard) where
  -- made anew nothing is kept
  abbrev pub numbers : ℕ → ℕ → ℕ
  numbers i v = number_by budget g (cond anew 0 (settled_at old i)) (possible_at old i) i v

  abbrev rows_so : ℕ → List ℕ
  rows_so i = masks_below numbers (variant_count g) i

  abbrev pub partly : ℕ → List ℕ
  partly i = rows_so i ++ drop (2 * i) old

  module _ (s : List ℕ) (i : ℕ) (e : s ≡ partly i) where
    there_yet : (k : ℕ) → get_or s (2 * i + k) 0 ≡ get_or old (2 * i + k) 0
    there_yet k =
        let n : 2 * i + k ≡ length (rows_so i) + k = omega (arith, masks_length numbers (variant_count g) i) in
        ap (λ (l : List ℕ). get_or l (2 * i + k) 0) e ∙ ap (λ (j : ℕ). get_or (partly i) j 0) n ∙ get_or-append-add (rows_so i) (drop (2 * i) old) k 0 ∙ get_or-drop (2 * i) old k 0

    -- the masks that row i had
    settled_yet : get_or s (2 * i) 0 ≡ settled_at old i
    settled_yet = let n : 2 * i ≡ 2 * i + 0 = omega arith in ap (λ (j : ℕ). get_or s j 0) n ∙ there_yet 0 ∙ ap (λ (j : ℕ). get_or old j 0) (sym n)

    possible_yet : get_or s (2 * i + 1) 0 ≡ possible_at old i
    possible_yet = there_yet 1

    -- the numbers that these masks make
    pub row-numbers : (F : (ℕ → ℕ) → ℕ) (x : ℕ) → x ≡ cond anew 0 (get_or s (2 * i) 0) → F (number_by budget g x (get_or s (2 * i + 1) 0) i) ≡ F (numbers i)
    row-numbers F x ex =
        ap (λ (u : ℕ). F (number_by budget g u (get_or s (2 * i + 1) 0) i)) (ex ∙ ap (cond anew 0) settled_yet) ∙ ap (λ (u : ℕ). F (number_by budget g (cond anew 0 (settled_at old i)) u i)) possible_yet

    pub row_next : (a b : ℕ) → 2 * i + 2 ≤ length s → a ≡ settled_by (numbers i) (variant_count g i) → b ≡ possible_by (numbers i) (variant_count g i) → set (set s (2 * i) a) (2 * i + 1) b ≡ partly (i + 1)
    row_next a b room ea eb =
        let n : ℕ = 2 * i in
        let front : take n s ≡ rows_so i = ap (take n) e ∙ take_at (rows_so i) (drop n old) n (masks_length numbers (variant_count g) i) in
        let at : n + 2 ≡ length (rows_so i) + 2 = omega (arith, masks_length numbers (variant_count g) i) in
        let back : drop (n + 2) s ≡ drop (n + 2) old = ap (drop (n + 2)) e ∙ ap (λ (k : ℕ). drop k (partly i)) at ∙ drop-append-add (rows_so i) (drop n old) 2 ∙ drop-drop 2 n old in
        let two : n + 2 ≡ 2 * suc i = omega arith in
        ap (λ (k : ℕ). set (set s n a) k b) (add-one n) ∙ sets-eq (a ∷ b ∷ []) s n room
        ∙ ap (λ (xs : List ℕ). xs ++ (a ∷ b ∷ []) ++ drop (n + 2) s) front ∙ ap (λ (ys : List ℕ). rows_so i ++ (a ∷ b ∷ []) ++ ys) back
        ∙ ap (λ (x : ℕ). rows_so i ++ (x ∷ b ∷ []) ++ drop (n + 2) old) ea
        ∙ ap (λ (x : ℕ). rows_so i ++ (settled_by (numbers i) (variant_count g i) ∷ x ∷ []) ++ drop (n + 2) old) eb
        ∙ ap (λ (k : ℕ). rows_so (suc i) ++ drop k old) two ∙ ap partly (sym (add-one i))

-- at the end
pub all-rows : (budget : ℕ) (anew : Bool) (old : List ℕ) (g : Guard) → partly budget anew old g 24 ≡ cond anew (summary_of budget g) (updated budget old g) ++ drop summary_length old
unfolding summary_of updated summary_by kept_or_walked
all-rows budget true old g = ap (λ (xs : List ℕ). xs ++ drop summary_length old) (masks_same _ _ (variant_count g) 24 (λ i v. ap (λ (x : ℕ). cond (not (eqb x 0) && eqb (bit (possible_at old i) v) 0) 2 (walked budget g i v)) (bit_zero v)))
all-rows budget false old g = refl
