-- Adding facts to a state: what the state says stays said, what is added is said, and labels stay masks of 16 bits. So the
-- closure says all that is given and all that the rules give. Assumes nothing.
use mathlib.Core.Path.{◌≡◌, refl, ap, sym, ◌∙◌, subst}
use mathlib.Core.Bool.{Bool, true, false, not, cond}
use mathlib.Core.List.{List, [], ◌∷◌, foldl}
use mathlib.Core.Logic.{◌⊎◌, inl, inr}
use Prim.Native.Nat.{ℕ, ◌^◌, ◌<◌, min, max}
use native.Mathlib.Omega.{arith}
use lib.Dec.{leb, eqb}
use lib.Bits.{bit_and, and_le_l}
use lib.ListN.{get_or, set, replicate, get_or-replicate, length-replicate, get_or-eq_default}
use borrow.Author.Tests.{leb-true, leb-false, eqb-true, eqb-false, not-false}
use Rattle.laws.specs.All.{All, All.more, All.none}
use Rattle.laws.specs.Bits.{bit}
use Rattle.laws.proofs.Bits.{bit_and_lem, bit_zero}
use Rattle.laws.proofs.Bools.{cond_ind}
use Rattle.laws.proofs.Lists.{all_of, all_weaken, filter_none}
use Rattle.laws.proofs.Stores.{ends, set_ind, set_same}
use Rattle.guard.specs.Closure.{Fact, Fact.same, Fact.within, State, add, begin, class_of, closure_of, consequences, every_variant, fresh, given, holds, initial, label_of, merge, merge_unless, same_class, saturate, size}
use Rattle.guard.specs.Guard.{Literal}
use Rattle.guard.specs.Limits.{variant_limit}
use Rattle.guard.specs.Terms.{Table, term_count}
use Rattle.guard.proofs.ClosureBelow.{merge-at}
use Rattle.guard.proofs.ClosureEnds.{adds_ind, closed-under, closure_ind, first, saturate_ind}

-- `s'` says all that `s` says
pub record Keeps (s s' : State) : Type 0 where
  pub class : (i j : ℕ) → class_of s i ≡ class_of s j → class_of s' i ≡ class_of s' j
  pub label : (i v : ℕ) → bit (label_of s i) v ≡ 0 → bit (label_of s' i) v ≡ 0

pub keeps_refl : (s : State) → Keeps s s
keeps_refl s = record { class = λ i j e. e; label = λ i v e. e }

pub keeps_trans : {s s' s'' : State} → Keeps s s' → Keeps s' s'' → Keeps s s''
keeps_trans p q = record { class = λ i j e. q.class i j (p.class i j e); label = λ i v e. q.label i v (p.label i v e) }

cut_keeps : (s : State) (k m : ℕ) → Keeps s (add s (within k m))
cut_keeps s k m =
    record {
      class = λ i j e. e;
      label = λ i v e. set_ind (λ x. bit x v ≡ 0) s.labels (class_of s k) (bit_and (label_of s k) m) (class_of s i) (bit_zero v)
          (λ q. let z : bit (label_of s k) v ≡ 0 = subst (λ (x : ℕ). bit (get_or s.labels x 0) v ≡ 0) q e in omega (arith, bit_and_lem (label_of s k) m v))
          e;
    }

-- the lower or the higher of two numbers is one of them
in_two : (c d k : ℕ) → (k ≡ min c d) ⊎ (k ≡ max c d) → (k ≡ c) ⊎ (k ≡ d)
in_two c d k h = go (ends c d) h
  where
    go : ((min c d ≡ c) × (max c d ≡ d)) ⊎ ((min c d ≡ d) × (max c d ≡ c)) → (k ≡ min c d) ⊎ (k ≡ max c d) → (k ≡ c) ⊎ (k ≡ d)
    go (inl p) (inl e) = inl (e ∙ p.0)
    go (inl p) (inr e) = inr (e ∙ p.1)
    go (inr p) (inl e) = inr (e ∙ p.0)
    go (inr p) (inr e) = inl (e ∙ p.1)

merge_keeps : (s : State) (c d : ℕ) → Keeps s (merge s c d)
merge_keeps s c d =
    record {
      class = λ i j e. at i ∙ ap (λ (x : ℕ). cond (eqb x (max c d)) (min c d) x) e ∙ sym (at j);
      label = λ i v e. subst (λ (k : ℕ). bit (get_or L k 0) v ≡ 0) (sym (at i))
          (cond_ind (λ k. bit (get_or L k 0) v ≡ 0) (eqb (class_of s i) (max c d)) (min c d) (class_of s i)
          (λ q. low v (set_same s.labels (min c d) W) (common v (class_of s i) (in_two c d (class_of s i) (inr (eqb-true _ _ q))) e))
          (λ q. set_ind (λ x. bit x v ≡ 0) s.labels (min c d) W (class_of s i) (bit_zero v) (λ r. common v (class_of s i) (in_two c d (class_of s i) (inl r)) e) e));
    }
  where
    W : ℕ
    W = bit_and (get_or s.labels c 0) (get_or s.labels d 0)

    L : List ℕ
    L = set s.labels (min c d) W

    at : (k : ℕ) → class_of (merge s c d) k ≡ cond (eqb (class_of s k) (max c d)) (min c d) (class_of s k)
    at = merge-at s c d

    common : (v k : ℕ) → (k ≡ c) ⊎ (k ≡ d) → bit (get_or s.labels k 0) v ≡ 0 → bit W v ≡ 0
    common v k (inl q) e = let z : bit (get_or s.labels c 0) v ≡ 0 = rw q at e in omega (arith, bit_and_lem (get_or s.labels c 0) (get_or s.labels d 0) v)
    common v k (inr q) e = let z : bit (get_or s.labels d 0) v ≡ 0 = rw q at e in omega (arith, bit_and_lem (get_or s.labels c 0) (get_or s.labels d 0) v)

    low : (v : ℕ) → (get_or L (min c d) 0 ≡ W) ⊎ (get_or L (min c d) 0 ≡ 0) → bit W v ≡ 0 → bit (get_or L (min c d) 0) v ≡ 0
    low v (inl q) e = rw q e
    low v (inr q) e = rw q (bit_zero v)

unite_keeps : (b : Bool) (s : State) (c d : ℕ) → Keeps s (merge_unless b s c d)
unite_keeps true s c d = keeps_refl s
unite_keeps false s c d = merge_keeps s c d

pub add_keeps : (s : State) (f : Fact) → Keeps s (add s f)
add_keeps s (same i j) = unite_keeps (same_class s i j) s (class_of s i) (class_of s j)
add_keeps s (within k m) = cut_keeps s k m

adds_keeps : (fs : List Fact) (s : State) → Keeps s (foldl add s fs)
adds_keeps fs s = adds_ind (Keeps s) (λ s' f k. keeps_trans k (add_keeps s' f)) fs s (keeps_refl s)

saturate_keeps : (k : ℕ) (t : Table) (s : State) → Keeps s (saturate k t s)
saturate_keeps k t s = saturate_ind t (Keeps s) (λ s' q. keeps_trans q (adds_keeps (fresh t s') s')) k s (keeps_refl s)

-- ---- a fact that was added holds
unfoldable pub Says : State → Fact → Type 0
Says s (same i j) = class_of s i ≡ class_of s j
Says s (within i m) = (v : ℕ) → bit m v ≡ 0 → bit (label_of s i) v ≡ 0

pub says-kept : {s s' : State} → Keeps s s' → (f : Fact) → Says s f → Says s' f
unfolding Says
says-kept k (same i j) e = k.class i j e
says-kept k (within i m) e = λ v z. k.label i v (e v z)

merged : (s : State) (i j : ℕ) → class_of (merge s (class_of s i) (class_of s j)) i ≡ class_of (merge s (class_of s i) (class_of s j)) j
merged s i j = at i ∙ meet (ends (class_of s i) (class_of s j)) ∙ sym (at j)
  where
    c : ℕ
    c = class_of s i

    d : ℕ
    d = class_of s j

    at : (k : ℕ) → class_of (merge s c d) k ≡ cond (eqb (class_of s k) (max c d)) (min c d) (class_of s k)
    at = merge-at s c d

    to_low : (k : ℕ) → (k ≡ min c d) ⊎ (k ≡ max c d) → cond (eqb k (max c d)) (min c d) k ≡ min c d
    to_low k h = cond_ind (λ x. x ≡ min c d) (eqb k (max c d)) (min c d) k (λ q. refl) (λ q. go q h)
      where
        go : eqb k (max c d) ≡ false → (k ≡ min c d) ⊎ (k ≡ max c d) → k ≡ min c d
        go q (inl e) = e
        go q (inr e) = absurd (eqb-false k (max c d) q e)

    meet : ((min c d ≡ c) × (max c d ≡ d)) ⊎ ((min c d ≡ d) × (max c d ≡ c)) → cond (eqb c (max c d)) (min c d) c ≡ cond (eqb d (max c d)) (min c d) d
    meet (inl p) = to_low c (inl (sym p.0)) ∙ sym (to_low d (inr (sym p.1)))
    meet (inr p) = to_low c (inr (sym p.1)) ∙ sym (to_low d (inl (sym p.0)))

pub add-says : (s : State) (f : Fact) → Says (add s f) f
unfolding Says
add-says s (same i j) = go (same_class s i j) refl
  where
    go : (b : Bool) → same_class s i j ≡ b → class_of (merge_unless b s (class_of s i) (class_of s j)) i ≡ class_of (merge_unless b s (class_of s i) (class_of s j)) j
    go true e = eqb-true _ _ e
    go false e = merged s i j
add-says s (within i m) = λ v z. low v z (set_same s.labels (class_of s i) W)
  where
    W : ℕ
    W = bit_and (label_of s i) m

    low : (v : ℕ) → bit m v ≡ 0 → (get_or (set s.labels (class_of s i) W) (class_of s i) 0 ≡ W) ⊎ (get_or (set s.labels (class_of s i) W) (class_of s i) 0 ≡ 0) → bit (get_or (set s.labels (class_of s i) W) (class_of s i) 0) v ≡ 0
    low v z (inl q) = rw q (omega (arith, bit_and_lem (label_of s i) m v, z))
    low v z (inr q) = rw q (bit_zero v)

pub adds_say : (fs : List Fact) (s : State) → All (Says (foldl add s fs)) fs
adds_say [] s = none
adds_say (f ∷ fs) s = more (says-kept (adds_keeps fs (add s f)) f (add-says s f)) (adds_say fs (add s f))

-- the closure says what is given
pub says-given : (t : Table) (ls : List Literal) → All (Says (closure_of t ls)) (given t ls)
unfolding closure_of
says-given t ls = all_weaken (λ f e. says-kept (saturate_keeps (size (begin t ls)) t (begin t ls)) f e) (adds_say (given t ls) initial)

-- and what the rules give
pub holds-rules : (t : Table) (ls : List Literal) → All (λ f. holds (closure_of t ls) f ≡ true) (consequences t (closure_of t ls))
holds-rules t ls =
    all_of (consequences t (closure_of t ls))
    (λ f m. not-false (holds (closure_of t ls) f) (filter_none (λ f. not (holds (closure_of t ls) f)) (consequences t (closure_of t ls)) (closed-under t ls) f m))

-- ---- labels are masks of 16 bits
unfoldable pub Small : State → Type 0
Small s = (c : ℕ) → get_or s.labels c 0 < 2 ^ variant_limit

small-set : (l : List ℕ) → ((c : ℕ) → get_or l c 0 < 2 ^ variant_limit) → (i v : ℕ) → v < 2 ^ variant_limit → (c : ℕ) → get_or (set l i v) c 0 < 2 ^ variant_limit
small-set l h i v hv c = set_ind (λ x. x < 2 ^ variant_limit) l i v c (omega arith) (λ q. hv) (h c)

pub add_small : (s : State) → Small s → (f : Fact) → Small (add s f)
unfolding Small
add_small s h (within i m) = small-set s.labels h (class_of s i) (bit_and (label_of s i) m) (omega (arith, and_le_l (label_of s i) m, h (class_of s i)))
add_small s h (same i j) = go (same_class s i j)
  where
    c : ℕ
    c = class_of s i

    d : ℕ
    d = class_of s j

    go : (b : Bool) → (k : ℕ) → get_or (merge_unless b s c d).labels k 0 < 2 ^ variant_limit
    go true = h
    go false = small-set s.labels h (min c d) (bit_and (get_or s.labels c 0) (get_or s.labels d 0)) (omega (arith, and_le_l (get_or s.labels c 0) (get_or s.labels d 0), h c))

pub first_small : (room : ℕ) → Small (first room)
unfolding Small first
first_small room c = go (leb room c) refl
  where
    go : (b : Bool) → leb room c ≡ b → get_or (replicate room every_variant) c 0 < 2 ^ variant_limit
    go true e = rw (get_or-eq_default (replicate room every_variant) 0 {n = c} (omega (arith, length-replicate room every_variant, leb-true room c e))) (omega arith)
    go false e = rw (get_or-replicate room c every_variant 0 (leb-false room c e)) (omega arith)

pub closure_masks : (t : Table) (ls : List Literal) → Small (closure_of t ls)
closure_masks = closure_ind Small (first_small term_count) (λ s f h. add_small s h f)

pub closure_small : (t : Table) (ls : List Literal) (i : ℕ) → label_of (closure_of t ls) i < 2 ^ variant_limit
unfolding Small
closure_small t ls i = closure_masks t ls (class_of (closure_of t ls) i)
