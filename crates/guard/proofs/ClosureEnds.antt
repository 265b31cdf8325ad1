-- The rounds end: each new fact makes the state smaller, so at the closure no rule gives a new fact. Assumes nothing.
use mathlib.Core.Path.{◌≡◌, refl}
use mathlib.Core.Bool.{Bool, true, false, not, cond}
use mathlib.Core.List.{List, [], ◌∷◌, foldl}
use Prim.Native.Nat.{ℕ, zero, suc, ◌≤◌, ◌<◌, min, max}
use native.Mathlib.Omega.{arith}
use lib.Dec.{leb, eqb}
use lib.Bits.{bit_and, and_le_l, and_le_r}
use lib.ListN.{get_or, replicate}
use borrow.Author.Tests.{leb-true, leb-false, eqb-true, eqb-false, not-true}
use Rattle.laws.specs.Lists.{from, sum}
use Rattle.laws.proofs.Lists.{filter-head}
use Rattle.laws.proofs.Stores.{sum-set_le, sum-set_lt}
use Rattle.guard.specs.Closure.{Fact, Fact.same, Fact.within, State, add, begin, class_of, closure_of, consequences, every_variant, fresh, given, holds, initial, label_of, merge, merge_unless, next_round, rename, same_class, saturate, size}
use Rattle.guard.specs.Guard.{Literal}
use Rattle.guard.specs.Terms.{Table, term_count}
use Rattle.guard.proofs.Repeats.{room}

-- each term in a class of its own, with room for more terms than there are
unfoldable pub first : ℕ → State
first room = record { classes = from room 0; labels = replicate room every_variant }

-- one class, renamed
renamed_le : (low high c : ℕ) → low ≤ high → cond (eqb c high) low c ≤ c
renamed_le low high c h = go (eqb c high) refl
  where
    go : (b : Bool) → eqb c high ≡ b → cond b low c ≤ c
    go true e = omega (arith, eqb-true c high e)
    go false e = omega arith

renamed_lt : (low high c : ℕ) → low < high → c ≡ high → cond (eqb c high) low c < c
renamed_lt low high c h e = go (eqb c high) refl
  where
    go : (b : Bool) → eqb c high ≡ b → cond b low c < c
    go true q = omega arith
    go false q = absurd (eqb-false c high q e)

rename_le : (low high : ℕ) (l : List ℕ) → low ≤ high → sum (rename low high l) ≤ sum l
rename_le low high [] h = omega arith
rename_le low high (c ∷ cs) h = omega (arith, rename_le low high cs h, renamed_le low high c h)

rename_lt : (low high : ℕ) (l : List ℕ) (i : ℕ) → low < high → get_or l i 0 ≡ high → sum (rename low high l) < sum l
rename_lt low high [] i h e = omega arith
rename_lt low high (c ∷ cs) zero h e = omega (arith, rename_le low high cs (omega arith), renamed_lt low high c h e)
rename_lt low high (c ∷ cs) (suc i) h e = omega (arith, rename_lt low high cs i h e, renamed_le low high c (omega arith))

-- the common label is at most that of the lower class
common_le : (l : List ℕ) (c d : ℕ) → bit_and (get_or l c 0) (get_or l d 0) ≤ get_or l (min c d) 0
common_le l c d = go (leb c d) refl
  where
    go : (b : Bool) → leb c d ≡ b → bit_and (get_or l c 0) (get_or l d 0) ≤ get_or l (min c d) 0
    go true e = let m : min c d ≡ c = omega (arith, leb-true c d e) in rw m (and_le_l (get_or l c 0) (get_or l d 0))
    go false e = let m : min c d ≡ d = omega (arith, leb-false c d e) in rw m (and_le_r (get_or l c 0) (get_or l d 0))

classes_lt : (l : List ℕ) (i j : ℕ) → ¬ (get_or l i 0 ≡ get_or l j 0) → sum (rename (min (get_or l i 0) (get_or l j 0)) (max (get_or l i 0) (get_or l j 0)) l) < sum l
classes_lt l i j n = go (leb (get_or l i 0) (get_or l j 0)) refl
  where
    c : ℕ
    c = get_or l i 0

    d : ℕ
    d = get_or l j 0

    go : (b : Bool) → leb c d ≡ b → sum (rename (min c d) (max c d) l) < sum l
    go true e = rename_lt (min c d) (max c d) l j (omega (arith, n, leb-true c d e)) (omega (arith, leb-true c d e))
    go false e = rename_lt (min c d) (max c d) l i (omega (arith, leb-false c d e)) (omega (arith, leb-false c d e))

merge_lt : (s : State) (i j : ℕ) → same_class s i j ≡ false → size (merge s (class_of s i) (class_of s j)) < size s
merge_lt s i j e =
    omega (
      arith,
      classes_lt s.classes i j (eqb-false _ _ e),
      sum-set_le s.labels (min (class_of s i) (class_of s j)) _ (common_le s.labels (class_of s i) (class_of s j)),
    )

cut_le : (s : State) (i m : ℕ) → size (add s (within i m)) ≤ size s
cut_le s i m = omega (arith, sum-set_le s.labels (class_of s i) (bit_and (label_of s i) m) (and_le_l (label_of s i) m))

cut_lt : (s : State) (i m : ℕ) → holds s (within i m) ≡ false → size (add s (within i m)) < size s
cut_lt s i m e =
    omega (arith, sum-set_lt s.labels (class_of s i) (bit_and (label_of s i) m) (omega (arith, and_le_l (label_of s i) m, eqb-false (bit_and (label_of s i) m) (label_of s i) e)))

pub add_lt : (s : State) (f : Fact) → holds s f ≡ false → size (add s f) < size s
add_lt s (same i j) e = rw e (merge_lt s i j e)
add_lt s (within i m) e = cut_lt s i m e

pub add_le : (s : State) (f : Fact) → size (add s f) ≤ size s
add_le s (within i m) = cut_le s i m
add_le s (same i j) = go (same_class s i j) refl
  where
    go : (b : Bool) → same_class s i j ≡ b → size (merge_unless b s (class_of s i) (class_of s j)) ≤ size s
    go true e = omega arith
    go false e = omega (arith, merge_lt s i j e)

foldl_le : (fs : List Fact) (s : State) → size (foldl add s fs) ≤ size s
foldl_le [] s = omega arith
foldl_le (f ∷ fs) s = omega (arith, foldl_le fs (add s f), add_le s f)

fresh_not : (t : Table) (s : State) (f : Fact) (fs : List Fact) → fresh t s ≡ f ∷ fs → holds s f ≡ false
fresh_not t s f fs e = not-true (holds s f) (filter-head (λ g. not (holds s g)) (consequences t s) f fs e)

round_lt : (t : Table) (s : State) (f : Fact) (fs : List Fact) → fresh t s ≡ f ∷ fs → size (foldl add s (f ∷ fs)) < size s
round_lt t s f fs e = omega (arith, foldl_le fs (add s f), add_lt s f (fresh_not t s f fs e))

saturated : (k : ℕ) (t : Table) (s : State) → size s ≤ k → fresh t (saturate k t s) ≡ []
unfolding saturate
saturated zero t s h = go (fresh t s) refl
  where
    go : (new : List Fact) → fresh t s ≡ new → fresh t s ≡ []
    go [] e = e
    go (f ∷ fs) e = absurd (omega (arith, round_lt t s f fs e))
saturated (suc k) t s h = go (λ s' h'. saturated k t s' h') (fresh t s) refl
  where
    go : ((s' : State) → size s' ≤ k → fresh t (saturate k t s') ≡ []) → (new : List Fact) → fresh t s ≡ new → fresh t (next_round s new (saturate k t)) ≡ []
    go ih [] e = e
    go ih (f ∷ fs) e = ih (foldl add s (f ∷ fs)) (omega (arith, round_lt t s f fs e))

-- the closure is closed under the rules
pub closed-under : (t : Table) (ls : List Literal) → fresh t (closure_of t ls) ≡ []
unfolding closure_of
closed-under t ls = saturated (size (begin t ls)) t (begin t ls) (omega arith)

-- ---- induction along the rounds

-- what each fact keeps, a list of facts keeps
pub adds_ind : (P : State → Type 0) → ((s : State) (f : Fact) → P s → P (add s f)) → (fs : List Fact) (s : State) → P s → P (foldl add s fs)
adds_ind P h [] s p = p
adds_ind P h (f ∷ fs) s p = adds_ind P h fs (add s f) (h s f p)

-- what each round keeps, the saturation keeps
pub saturate_ind : (t : Table) (P : State → Type 0) → ((s : State) → P s → P (foldl add s (fresh t s))) → (k : ℕ) (s : State) → P s → P (saturate k t s)
unfolding saturate
saturate_ind t P h zero s p = p
saturate_ind t P h (suc k) s p = go (λ s'. saturate_ind t P h k s') (fresh t s) (h s p)
  where
    go : ((s' : State) → P s' → P (saturate k t s')) → (new : List Fact) → P (foldl add s new) → P (next_round s new (saturate k t))
    go ih [] q = p
    go ih (f ∷ fs) q = ih (foldl add s (f ∷ fs)) q

-- what holds of terms in classes of their own, and is kept by each fact, holds of the closure
pub closure_ind : (P : State → Type 0) → P (first term_count) → ((s : State) (f : Fact) → P s → P (add s f)) → (t : Table) (ls : List Literal) → P (closure_of t ls)
unfolding closure_of initial first
closure_ind P p h t ls = saturate_ind t P (λ s. adds_ind P h (fresh t s) s) (size (begin t ls)) (begin t ls) (adds_ind P h (given t ls) initial p)
