-- A loop over a list that covers a test sees all that passes: the lowest number that passes is the first of the list that does, and
-- between two numbers of the list nothing passes. Assumes nothing.
use mathlib.Core.Path.{◌≡◌, ap, subst, sym, ◌∙◌}
use mathlib.Core.Bool.{Bool, true, false, false≢true}
use mathlib.Core.List.{List}
use Prim.Native.Nat.{ℕ, ◌+◌, ◌≤◌, ◌<◌}
use native.Mathlib.Omega.{arith}
use lib.Dec.{eqb, ltb}
use lib.ListN.{get_or-eq_default, get_or, length, take}
use borrow.Author.Count.{below_more, below_none}
use borrow.Author.Tests.{eq-eqb, eqb-false, eqb-true, ltb-false, ltb-true}
use Rattle.std.proofs.lemmas.List.{get_or-take, length-take-le}
use Rattle.laws.specs.Lists.{any, from}
use Rattle.laws.proofs.Bools.{by_test, or_left, or_right}
use Rattle.laws.proofs.Lists.{any_of, any_some, from_bounds, mem_from}
use Rattle.std.specs.declared.option.Option.{Option}
use Rattle.std.specs.declared.option.Option.TheVariants.{None, Some}
use Rattle.loops.specs.Lowest.{Finds, lowest}
use Rattle.loops.proofs.Loops.{NoneBelow, finds_here, finds_nowhere, lowest-here, lowest_nowhere}
use Rattle.labelled.specs.Covers.{Covers, FirstListed, Lists, has_label, has_mask}

-- where a number stands in a list, as a test of all places and as a place
module _ (list : List ℕ) (many x : ℕ) where
  pub somewhere : (i : ℕ) → i < many → get_or list i 0 ≡ x → any (λ j. eqb (get_or list j 0) x) (from many 0) ≡ true
  somewhere i h e = any_of (λ j. eqb (get_or list j 0) x) (from many 0) i (mem_from many 0 i (omega arith) (omega (arith, h))) (eq-eqb _ _ e)

  pub place : any (λ j. eqb (get_or list j 0) x) (from many 0) ≡ true → (i : ℕ) × (i < many) × (get_or list i 0 ≡ x)
  place e =
      let (i, m, q) = any_some (λ j. eqb (get_or list j 0) x) (from many 0) e in
      (i, omega (arith, from_bounds many 0 i m), eqb-true _ _ q)

-- a test that passes less is covered too
pub covers_less : {p : ℕ → Bool} (q : ℕ → Bool) {n : ℕ} {list : List ℕ} {many : ℕ} → ((x : ℕ) → q x ≡ true → p x ≡ true) → Covers p n list many → Covers q n list many
covers_less q less c = record { few = c.few; below = c.below; rising = c.rising; every = λ x h e. c.every x h (less x e) }

-- the terms that have a label are those with variants, and with fieldless ones
module _ (sorts full fieldless : List ℕ) {n : ℕ} {list : List ℕ} {many : ℕ} (l : Lists (has_label sorts full fieldless) n list many) where
  pub covers_full : Covers (has_mask sorts full) n list many
  unfolding has_label
  covers_full = covers_less (has_mask sorts full) (λ x e. or_left (has_mask sorts full x) (has_mask sorts fieldless x) e) l.covers

  pub covers_fieldless : Covers (has_mask sorts fieldless) n list many
  unfolding has_label
  covers_fieldless = covers_less (has_mask sorts fieldless) (λ x e. or_right (has_mask sorts full x) (has_mask sorts fieldless x) e) l.covers

-- the front part of a list, which holds all that is listed
module _ (p : ℕ → Bool) (n : ℕ) (list : List ℕ) (many : ℕ) (l : Lists p n list many) (room : many ≤ length list) where
  front-length : length (take many list) ≡ many
  front-length = length-take-le many list room

  front-at : (i : ℕ) → i < many → get_or (take many list) i 0 ≡ get_or list i 0
  front-at i h = get_or-take many list i 0 h

  pub front_lists : Lists p n (take many list) (length (take many list))
  front_lists =
      rw front-length
      (record {
        covers = record {
          few = l.covers.few;
          below = λ i h. rw (front-at i h) (l.covers.below i h);
          rising = λ i j o h. rw (front-at i (omega arith), front-at j h) (l.covers.rising i j o h);
          every = λ x h e.
              let (i, m, q) = place list many x (l.covers.every x h e) in
              somewhere (take many list) many x i m (front-at i m ∙ q);
        };
        passes = λ i h. ap p (front-at i h) ∙ l.passes i h;
        past = λ i h. get_or-eq_default (take many list) 0 {n = i} (omega (arith, front-length));
      })

-- ---- the first call that says true, of those for the numbers of a list

module _ (post : ℕ → Bool → Type 0) (p : ℕ → Bool) (n : ℕ) (list : List ℕ) (many : ℕ) (c : Covers p n list many) where
  pub first-listed : (i : ℕ) → i < many → ((j : ℕ) → j < i → post (get_or list j 0) false) → post (get_or list i 0) true → FirstListed post p n (Some (get_or list i 0))
  first-listed i h before t = (c.below i h, t, λ y l e. let (j, m, q) = place list many y (c.every y (omega (arith, c.below i h)) e) in subst (λ z. post z false) q (before j (before-here j y m q l)))
    where
      before-here : (j y : ℕ) → j < many → get_or list j 0 ≡ y → y < get_or list i 0 → j < i
      before-here j y m q l =
          by_test (ltb j i) (λ t. ltb-true j i t)
          (λ t. absurd (by_test (eqb i j) (λ e. omega (arith, q, l, ap (λ (k : ℕ). get_or list k 0) (eqb-true i j e))) (λ e. omega (arith, q, l, c.rising i j (omega (arith, ltb-false j i t, eqb-false i j e)) m))))

  pub none-first : (i : ℕ) → many ≤ i → ((j : ℕ) → j < i → post (get_or list j 0) false) → FirstListed post p n None
  none-first i h before = λ x l e. let (j, m, q) = place list many x (c.every x l e) in subst (λ z. post z false) q (before j (omega (arith, m)))

-- calls of a function that computes a test which only numbers of the list pass find what the test does
pub listed_finds : (post : ℕ → Bool → Type 0) (p q : ℕ → Bool) (n : ℕ) (r : Option ℕ) → ((x : ℕ) (b : Bool) → x < n → post x b → b ≡ p x) → ((x : ℕ) → p x ≡ true → q x ≡ true) → FirstListed post q n r → Finds p n r
listed_finds post p q n None same less f = finds_nowhere p n (λ x h. by_test (p x) (λ e. absurd (false≢true (same x false h (f x h (less x e)) ∙ e))) (λ e. e))
listed_finds post p q n (Some x) same less (l, t, f) =
    finds_here p n x l (λ y h. by_test (p y) (λ e. absurd (false≢true (same y false (omega (arith, h, l)) (f y h (less y e)) ∙ e))) (λ e. e)) (sym (same x true l t))

-- ---- how far a loop has come

-- nothing among the first i numbers of the list passes
module _ (p : ℕ → Bool) (list : List ℕ) where
  abbrev pub NoneListed : ℕ → Type 0
  NoneListed i = (j : ℕ) → j < i → p (get_or list j 0) ≡ false

  pub none-listed : NoneListed 0
  none-listed = below_none (λ j. p (get_or list j 0) ≡ false)

  pub none_further : (i : ℕ) → NoneListed i → p (get_or list i 0) ≡ false → NoneListed (i + 1)
  none_further i h e = below_more (λ j. p (get_or list j 0) ≡ false) i h e

-- x lies behind the first i numbers of the list, and not behind another
pub record Behind (list : List ℕ) (many i x : ℕ) : Type 0 where
  pub after : (j : ℕ) → j < i → get_or list j 0 < x
  pub before : (j : ℕ) → i ≤ j → j < many → x ≤ get_or list j 0

pub behind_none : (list : List ℕ) (many : ℕ) → Behind list many 0 0
behind_none list many = record { after = λ j h. absurd (omega arith); before = λ j o m. omega arith }

module _ (p : ℕ → Bool) (n : ℕ) (list : List ℕ) (many : ℕ) (c : Covers p n list many) where
  -- the numbers from place i on are not lower
  from-here : (i j : ℕ) → i ≤ j → j < many → get_or list i 0 ≤ get_or list j 0
  from-here i j o m =
      by_test (eqb i j) (λ t. omega (arith, ap (λ (k : ℕ). get_or list k 0) (eqb-true i j t))) (λ t. omega (arith, c.rising i j (omega (arith, eqb-false i j t)) m))

  -- ---- the lowest number that passes

  -- below a bound that the list reaches only from place i on
  none_below : (i x : ℕ) → x ≤ n → NoneListed p list i → ((j : ℕ) → i ≤ j → j < many → x ≤ get_or list j 0) → NoneBelow p x
  none_below i x b h reach y l =
      by_test (p y)
      (λ e.
      let (j, m, q) = place list many y (c.every y (omega arith) e) in
      absurd (by_test (ltb j i) (λ t. false≢true (sym (h j (ltb-true j i t)) ∙ ap p q ∙ e)) (λ t. omega (arith, l, q, reach j (ltb-false j i t) m))))
      (λ e. e)

  pub listed_here : (i : ℕ) → i < many → NoneListed p list i → p (get_or list i 0) ≡ true → get_or list i 0 ≡ lowest p n
  listed_here i l h e = lowest-here p n (get_or list i 0) (c.below i l) (none_below i (get_or list i 0) (omega (arith, c.below i l)) h (from-here i)) e

  pub listed_nowhere : (i : ℕ) → many ≤ i → NoneListed p list i → n ≡ lowest p n
  listed_nowhere i l h = lowest_nowhere p n n (omega arith) (none_below i n (omega arith) h (λ j o m. absurd (omega arith)))

  -- ---- between the numbers of the list

  pub behind_next : (i : ℕ) → i < many → Behind list many (i + 1) (get_or list i 0 + 1)
  behind_next i h =
      record {
        after = λ j l. omega (arith, from-here j i (omega arith) h);
        before = λ j o m. omega (arith, c.rising i j (omega arith) m);
      }

  -- up to the next number of the list nothing passes
  none_between : (i x y : ℕ) → Behind list many i x → x ≤ y → y < n → ((j : ℕ) → i ≤ j → j < many → y < get_or list j 0) → p y ≡ false
  none_between i x y b o l next =
      by_test (p y)
      (λ e.
      let (j, m, q) = place list many y (c.every y l e) in
      absurd (by_test (ltb j i) (λ t. omega (arith, q, o, b.after j (ltb-true j i t))) (λ t. omega (arith, q, next j (ltb-false j i t) m))))
      (λ e. e)

  pub none_to_next : (i x : ℕ) → i < many → Behind list many i x → (y : ℕ) → x ≤ y → y < get_or list i 0 → p y ≡ false
  none_to_next i x h b y o l = none_between i x y b o (omega (arith, c.below i h)) (λ j k m. omega (arith, from-here i j k m))

  pub none_to_end : (i x : ℕ) → many ≤ i → Behind list many i x → (y : ℕ) → x ≤ y → y < n → p y ≡ false
  none_to_end i x h b y o l = none_between i x y b o l (λ j k m. absurd (omega arith))
