-- Variants stored behind those that are there: the columns hold one more. Assumes nothing.
use mathlib.Core.Path.{◌≡◌, refl, ap, sym, ◌∙◌}
use mathlib.Core.List.{List, [], ◌∷◌, ◌++◌, append_assoc, append-nil, map, map-append}
use Prim.Native.Nat.{ℕ, ◌+◌, ◌*◌, ◌≤◌, ◌<◌}
use native.Mathlib.Omega.{arith}
use lib.ListN.{length, get_or, set, length-append, replicate}
use Rattle.laws.specs.All.{All.more, All.none}
use Rattle.laws.specs.Lists.{concat_map}
use Rattle.laws.proofs.Lists.{all_append, map-length}
use Rattle.guard.specs.Types.{Variant}
use Rattle.tables.specs.Layout.{pad}
use Rattle.variantreader.specs.VariantReader.{Holds, store_three}
use Rattle.tables.proofs.Columns.{pad-length, pad-nil, pad-set}
use Rattle.tables.proofs.Lookups.{triples_length}

-- ---- three numbers
-- a list of three is its elements
three-is : (l : List ℕ) → length l ≡ 3 → l ≡ get_or l 0 0 ∷ get_or l 1 0 ∷ get_or l 2 0 ∷ []
three-is [] h = absurd (omega arith)
three-is (a ∷ []) h = absurd (omega arith)
three-is (a ∷ b ∷ []) h = absurd (omega arith)
three-is (a ∷ b ∷ c ∷ []) h = refl
three-is (a ∷ b ∷ c ∷ d ∷ l) h = absurd (omega arith)

-- storing three behind a list appends them
pub store-three : (n i : ℕ) (xs three : List ℕ) → length three ≡ 3 → i ≡ length xs → length xs + 3 ≤ n → store_three (pad n xs) i three ≡ pad n (xs ++ three)
store-three n i xs three h e fit =
    ap (λ (k : ℕ). store_three (pad n xs) k three) e
    ∙ ap (λ (l : List ℕ). set (set l (length xs + 1) b) (length xs + 2) c) (pad-set 0 n xs a (omega arith))
    ∙ ap (λ (k : ℕ). set (set (pad n (xs ++ (a ∷ []))) k b) (length xs + 2) c) la
    ∙ ap (λ (l : List ℕ). set l (length xs + 2) c) (pad-set 0 n (xs ++ (a ∷ [])) b (omega (arith, la)))
    ∙ ap (λ (k : ℕ). set (pad n ((xs ++ (a ∷ [])) ++ (b ∷ []))) k c) lb
    ∙ pad-set 0 n ((xs ++ (a ∷ [])) ++ (b ∷ [])) c (omega (arith, lb))
    ∙ ap (pad n) joined
  where
    a : ℕ
    a = get_or three 0 0

    b : ℕ
    b = get_or three 1 0

    c : ℕ
    c = get_or three 2 0

    la : length xs + 1 ≡ length (xs ++ (a ∷ []))
    la = omega (arith, length-append xs (a ∷ []))

    lb : length xs + 2 ≡ length ((xs ++ (a ∷ [])) ++ (b ∷ []))
    lb = omega (arith, length-append (xs ++ (a ∷ [])) (b ∷ []), length-append xs (a ∷ []))

    joined : ((xs ++ (a ∷ [])) ++ (b ∷ [])) ++ (c ∷ []) ≡ xs ++ three
    joined =
        append_assoc (xs ++ (a ∷ [])) (b ∷ []) (c ∷ []) ∙ append_assoc xs (a ∷ []) (b ∷ c ∷ [])
        ∙ ap (λ (l : List ℕ). xs ++ l) (sym (three-is three h))

-- ---- variants

concat_map-append : {A B : Type 0} (f : A → List B) (xs ys : List A) → concat_map f (xs ++ ys) ≡ concat_map f xs ++ concat_map f ys
concat_map-append f [] ys = refl
concat_map-append f (x ∷ xs) ys = ap (λ l. f x ++ l) (concat_map-append f xs ys) ∙ sym (append_assoc (f x) (concat_map f xs) (concat_map f ys))

pub holds-none : Holds [] (replicate 48 0) (replicate 144 0)
holds-none = record { counts = sym (pad-nil 0 48); fields = sym (pad-nil 0 144); few = none }

module _ (ws : List Variant) (arities sorts : List ℕ) (h : Holds ws arities sorts) where
  -- one variant more
  pub holds_more : (w : ℕ) (fs : Variant) → w ≡ length ws → w < 48 → length fs ≤ 3 → Holds (ws ++ (fs ∷ [])) (set arities w (length fs)) (store_three sorts (3 * w) (pad 3 fs))
  holds_more w fs e fit short =
      let lc : length (map length ws) ≡ length ws = map-length length ws in
      let lf : length (concat_map (pad 3) ws) ≡ 3 * length ws = triples_length (λ fs. fs) ws h.few in
      record {
        counts =
            ap (λ (l : List ℕ). set l w (length fs)) h.counts ∙ ap (λ (k : ℕ). set (pad 48 (map length ws)) k (length fs)) (e ∙ sym lc)
            ∙ pad-set 0 48 (map length ws) (length fs) (omega (arith, lc)) ∙ ap (pad 48) (sym (map-append length ws (fs ∷ [])));
        fields =
            ap (λ (l : List ℕ). store_three l (3 * w) (pad 3 fs)) h.fields
            ∙ store-three 144 (3 * w) (concat_map (pad 3) ws) (pad 3 fs) (pad-length 0 3 fs short) (omega (arith, lf)) (omega (arith, lf))
            ∙ ap (pad 144) (sym (concat_map-append (pad 3) ws (fs ∷ []) ∙ ap (λ (l : List ℕ). concat_map (pad 3) ws ++ l) (append-nil (pad 3 fs))));
        few = all_append h.few (more short none);
      }
