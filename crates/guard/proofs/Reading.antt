-- A small logic of parsers: what a parser's value and the number of bytes that it used satisfy. Assumes nothing.
use mathlib.Core.Path.{◌≡◌, refl, ap, ◌∙◌, subst, sym}
use mathlib.Core.Bool.{Bool, true, false, not, false≢true}
use mathlib.Core.List.{List, [], ◌∷◌}
use Prim.Native.Nat.{ℕ, zero, suc, ◌+◌, ◌*◌, ◌≤◌, ◌<◌, ◌/◌, ◌%◌}
use native.Mathlib.Omega.{arith}
use native.Mathlib.Nat.{suc-mul}
use lib.Dec.{leb, ltb, eqb}
use lib.ListN.{length}
use borrow.Author.Tests.{ltb-true, leb-true, eqb-false, not-true, eqb-true, eq-eqb, ne_eqb}
use mathlib.Core.Logic.{◌⊎◌, inl, inr}
use lib.IntN.{ℤ, pos, negsuc}
use Rattle.laws.specs.All.{All, All.more, All.none}
use Rattle.laws.specs.Lists.{last}
use Rattle.laws.proofs.Bools.{and_left, and_right, or_cases}
use Rattle.guard.specs.Number.{Parsed, Parsed.accepted, Parsed.refused, Parser, Width, ◌>>=◌, ◌>>◌, and_then, ask, fold_signed, groups, return, times, unfold_signed, unsigned, unsigned_of, value_of_groups, well_formed, width32}

not_accepted : {A : Type 0} (q : ℕ) (a : A) (rest : List ℕ) → Path (Parsed A) (refused q) (accepted a rest) → ⊥
not_accepted q a rest e = let z : ◌≡◌ {A = ℕ} 0 1 = cc in omega arith

-- whatever the parser accepts has the property, with the number of bytes used
unfoldable pub Reads : {A : Type 0} → Parser A → (A → ℕ → Type 0) → Type 0
Reads {A} p P = (bs : List ℕ) (a : A) (rest : List ℕ) → p bs ≡ accepted a rest → (u : ℕ) × (length bs ≡ u + length rest) × P a u

module _ {A B : Type 0} where
  pub reads_bind : (p : Parser A) (f : A → Parser B) (P : A → ℕ → Type 0) (Q : B → ℕ → Type 0)
      → Reads p P → ((a : A) (u : ℕ) → P a u → Reads (f a) (λ b w. Q b (u + w))) → Reads (p >>= f) Q
  unfolding Reads
  reads_bind p f P Q hp hf bs b rest e = go (p bs) refl e
    where
      go : (r : Parsed A) → p bs ≡ r → and_then f r ≡ accepted b rest → (u : ℕ) × (length bs ≡ u + length rest) × Q b u
      go (refused q) h e' = absurd (not_accepted q b rest e')
      go (accepted a mid) h e' =
          let (u, lu, pu) = hp bs a mid h in
          let (w, lw, qw) = hf a u pu mid b rest e' in
          (u + w, omega arith, qw)

module _ {A B C : Type 0} where
  -- a parser after two, of which something is known together
  pub reads-after : (p : Parser A) (f : A → Parser B) (g : B → Parser C) (P : B → ℕ → Type 0) (Q : C → ℕ → Type 0)
      → Reads (p >>= f) P → ((b : B) (u : ℕ) → P b u → Reads (g b) (λ c w. Q c (u + w))) → Reads (p >>= λ a. f a >>= g) Q
  unfolding Reads
  reads-after p f g P Q hp hg bs c rest e = go (p bs) refl e
    where
      go : (r : Parsed A) → p bs ≡ r → and_then (λ a. f a >>= g) r ≡ accepted c rest → (u : ℕ) × (length bs ≡ u + length rest) × Q c u
      go (refused q) h e' = absurd (not_accepted q c rest e')
      go (accepted a mid) h e' = reads_bind (p >>= f) g P Q hp hg bs c rest (ap (λ (r : Parsed A). and_then g (and_then f r)) h ∙ e')

module _ {A : Type 0} where
  pub reads-return : (a : A) (P : A → ℕ → Type 0) → P a 0 → Reads (return a) P
  unfolding Reads
  reads-return a P h bs b rest e = let q : bs ≡ rest = cc in (0, ap length q ∙ omega arith, subst (λ x. P x 0) (cc) h)

  -- a weaker property
  pub reads_weaken : (p : Parser A) (P Q : A → ℕ → Type 0) → Reads p P → ((a : A) (u : ℕ) → P a u → Q a u) → Reads p Q
  unfolding Reads
  reads_weaken p P Q h f bs a rest e = let (u, l, q) = h bs a rest e in (u, l, f a u q)

  -- a question before a parser: it goes on where the answer is yes
  pub reads-asked : (q : ℕ) (b : Bool) (p : Parser A) (Q : A → ℕ → Type 0) → (b ≡ true → Reads p Q) → Reads (ask q b >> p) Q
  unfolding Reads
  reads-asked q true p Q h bs a rest e = h refl bs a rest e
  reads-asked q false p Q h bs a rest e = absurd (not_accepted q a rest e)

module _ {A : Type 0} where
  -- the same parser k times, each with at most so many bytes
  pub reads_times : (k most : ℕ) (p : Parser A) (P : A → Type 0) → Reads p (λ a u. P a × (u ≤ most))
      → Reads (times k p) (λ xs u. (length xs ≡ k) × All P xs × (u ≤ k * most))
  reads_times zero most p P h = reads-return [] (λ xs u. (length xs ≡ 0) × All P xs × (u ≤ 0 * most)) (refl, none, omega arith)
  reads_times (suc k) most p P h =
      reads_bind p _ (λ a u. P a × (u ≤ most)) (λ xs u. (length xs ≡ suc k) × All P xs × (u ≤ suc k * most)) h
      (λ x u px. reads_bind (times k p) _ (λ xs w. (length xs ≡ k) × All P xs × (w ≤ k * most)) (λ xs w. (length xs ≡ suc k) × All P xs × (u + w ≤ suc k * most)) (reads_times k most p P h)
      (λ xs w pxs. reads-return (x ∷ xs) (λ xs v. (length xs ≡ suc k) × All P xs × (u + (w + v) ≤ suc k * most))
      (ap suc pxs.0, more px.0 pxs.1, omega (arith, suc-mul k most, px.1, pxs.2))))

-- ---- parsers that leave no byte

unfoldable pub Ends : {A : Type 0} → Parser A → Type 0
Ends {A} p = (bs : List ℕ) (a : A) (rest : List ℕ) → p bs ≡ accepted a rest → rest ≡ []

module _ {A B : Type 0} where
  pub ends_bind : (p : Parser A) (f : A → Parser B) → ((a : A) → Ends (f a)) → Ends (p >>= f)
  unfolding Ends
  ends_bind p f h bs b rest e = go (p bs) e
    where
      go : (r : Parsed A) → and_then f r ≡ accepted b rest → rest ≡ []
      go (refused q) e' = absurd (not_accepted q b rest e')
      go (accepted a mid) e' = h a mid b rest e'

-- ---- signed values

-- folding and unfolding a signed value are inverse, "exact at zero and both ends"
pub fold_unfold : (n : ℕ) → fold_signed (unfold_signed n) ≡ n
fold_unfold n = go (eqb (n % 2) 0) refl
  where
    go : (b : Bool) → eqb (n % 2) 0 ≡ b → fold_signed (elim b [ true ↦ pos (n / 2) | false ↦ negsuc (n / 2) ]) ≡ n
    go true e = omega (arith, eqb-true (n % 2) 0 e)
    go false e = omega (arith, eqb-false (n % 2) 0 e)

pub unfold_fold : (z : ℤ) → unfold_signed (fold_signed z) ≡ z
unfold_fold (pos n) = go (eqb (2 * n % 2) 0) (eq-eqb (2 * n % 2) 0 (omega arith))
  where
    go : (b : Bool) → b ≡ true → ◌≡◌ {A = ℤ} (elim b [ true ↦ pos (2 * n / 2) | false ↦ negsuc (2 * n / 2) ]) (pos n)
    go true e = let half : 2 * n / 2 ≡ n = omega arith in ap pos half
    go false e = absurd (false≢true e)
unfold_fold (negsuc n) = go (eqb ((2 * n + 1) % 2) 0) (ne_eqb ((2 * n + 1) % 2) 0 (λ e. omega (arith, e)))
  where
    go : (b : Bool) → b ≡ false → ◌≡◌ {A = ℤ} (elim b [ true ↦ pos ((2 * n + 1) / 2) | false ↦ negsuc ((2 * n + 1) / 2) ]) (negsuc n)
    go true e = absurd (false≢true (sym e))
    go false e = let half : (2 * n + 1) / 2 ≡ n = omega arith in ap negsuc half

-- ---- numbers

-- a last byte that is not 0 makes the number positive
positive : (g : ℕ) (gs : List ℕ) → last gs g < 128 → ¬ (last gs g ≡ 0) → 1 ≤ value_of_groups (g ∷ gs)
positive g [] h n = omega arith
positive g (x ∷ gs) h n = omega (arith, positive x gs h n)

-- a number below 128 takes one byte: "uses the fewest bytes"
one_byte : (w : Width) (gs : List ℕ) → well_formed w gs ≡ true → value_of_groups gs < 128 → length gs ≤ 1
one_byte w [] e h = omega arith
one_byte w (g ∷ []) e h = omega arith
one_byte w (g ∷ x ∷ gs) e h = absurd (omega (arith, positive x gs (ltb-true _ _ (and_left (ltb z 128) _ e)) (eqb-false z 0 (not-true _ few)), h))
  where
    z : ℕ
    z = last gs x

    few : not (eqb (last gs x) 0) ≡ true
    few = pick (or_cases (leb (length (g ∷ x ∷ gs)) 1) (not (eqb (last gs x) 0)) (and_right (leb (value_of_groups (g ∷ x ∷ gs)) w.most) _ (and_right (ltb (last gs x) 128) _ e)))
      where
        pick : (leb (length (g ∷ x ∷ gs)) 1 ≡ true) ⊎ (not (eqb (last gs x) 0) ≡ true) → not (eqb (last gs x) 0) ≡ true
        pick (inl q) = absurd (omega (arith, leb-true (length (g ∷ x ∷ gs)) 1 q))
        pick (inr q) = q

reads-groups : (k : ℕ) → Reads (groups k) (λ gs u. (length gs ≡ u) × (u ≤ k))
unfolding Reads
reads-groups zero = reads-return [] (λ gs u. (length gs ≡ u) × (u ≤ 0)) (refl, omega arith)
reads-groups (suc k) = step (reads-groups k)
  where
    step : Reads (groups k) (λ gs u. (length gs ≡ u) × (u ≤ k)) → Reads (groups (suc k)) (λ gs u. (length gs ≡ u) × (u ≤ suc k))
    step ih [] gs rest e = absurd (not_accepted 2 gs rest e)
    step ih (b ∷ bs) gs rest e = pick (ltb b 128) e
      where
        longer : Reads (groups k >>= λ gs. return (b ∷ gs)) (λ gs u. (length gs ≡ suc u) × (u ≤ k))
        longer =
            reads_bind (groups k) _ (λ gs u. (length gs ≡ u) × (u ≤ k)) (λ gs u. (length gs ≡ suc u) × (u ≤ k)) ih
            (λ gs u h. reads-return (b ∷ gs) (λ gs w. (length gs ≡ suc (u + w)) × (u + w ≤ k)) (omega (arith, h.0), omega (arith, h.1)))

        pick : (x : Bool) → ◌≡◌ {A = Parsed (List ℕ)} (elim x [ true ↦ accepted (b ∷ []) bs | false ↦ (groups k >>= λ gs. return (b ∷ gs)) bs ]) (accepted gs rest)
            → (u : ℕ) × (length (b ∷ bs) ≡ u + length rest) × ((length gs ≡ u) × (u ≤ suc k))
        pick true q =
            let r : bs ≡ rest = cc in
            let g : b ∷ [] ≡ gs = cc in
            (1, omega (arith, ap length r), (omega (arith, ap length g), omega arith))
        pick false q = let (u, l, h) = longer bs gs rest q in (suc u, omega (arith, l), (h.0, omega (arith, h.1)))

pub reads-unsigned_of : (w : Width) → Reads (unsigned_of w) (λ n u. (n ≤ w.most) × (u ≤ w.bytes) × (n < 128 → u ≤ 1))
reads-unsigned_of w =
    reads_bind (groups w.bytes) _ (λ gs u. (length gs ≡ u) × (u ≤ w.bytes)) (λ n u. (n ≤ w.most) × (u ≤ w.bytes) × (n < 128 → u ≤ 1)) (reads-groups w.bytes)
    (λ gs u h. reads-asked 3 (well_formed w gs) _ (λ n v. (n ≤ w.most) × (u + v ≤ w.bytes) × (n < 128 → u + v ≤ 1))
    (λ e. reads-return (value_of_groups gs) (λ n v. (n ≤ w.most) × (u + v ≤ w.bytes) × (n < 128 → u + v ≤ 1))
    (leb-true _ _ (and_left (leb (value_of_groups gs) w.most) _ (and_right (ltb (last gs 0) 128) _ e)), omega (arith, h.1), λ l. omega (arith, one_byte w gs e l, h.0))))

pub reads-unsigned : Reads unsigned (λ n u. (n ≤ width32.most) × (u ≤ 5) × (n < 128 → u ≤ 1))
reads-unsigned = reads-unsigned_of width32
