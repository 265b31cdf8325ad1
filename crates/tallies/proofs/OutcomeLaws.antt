-- The outcome of a node with so many nodes to visit, from those of its children. Assumes nothing.
use mathlib.Core.Path.{◌≡◌, refl, ap, sym, ◌∙◌}
use mathlib.Core.Bool.{Bool, true, false, cond, false≢true}
use mathlib.Core.List.{List, [], ◌∷◌, ◌++◌}
use mathlib.Core.Logic.{◌⊎◌, inl, inr}
use Prim.Native.Nat.{ℕ, suc, ◌+◌, ◌-◌, ◌≤◌, ◌<◌}
use native.Mathlib.Omega.{arith}
use lib.Dec.{leb}
use lib.ListN.{length, take, length-append}
use lib.Seq.{take_all, take-append-add, take-append-le, take-nil}
use borrow.Author.Tests.{le-leb, leb-false, leb-true, lt-leb}
use Rattle.laws.proofs.Bools.{by_test}
use Rattle.guard.specs.Node.{Kind, Kind.first, Kind.second}
use Rattle.guard.specs.Search.{Visit, Visit.leaf, Visit.split, Visits, Visits.closed, Visits.opened, children, is_split, plus, splits_in, visited, visits}
use Rattle.guard.proofs.SearchLaws.{plus-visited, splits_append}
use Rattle.tallies.specs.declared.Outcome.{Outcome}
use Rattle.tallies.specs.declared.Tally.{Tally}
use Rattle.tallies.specs.Outcome.{after, after_one, ended, is_closed_outcome, outcome, tally_of, total}

-- a tally from its numbers
same_tally : (t : Tally) (l f s : ℕ) → l ≡ t.left → f ≡ t.first → s ≡ t.second → record { left = l; first = f; second = s } ≡ t
same_tally t l f s p q r = rw (p, q, r) refl

-- ---- enough nodes left, or not

pub either : (n left : ℕ) → (n ≤ left) ⊎ (left < n)
either n left = by_test (leb n left) (λ e. inl (leb-true n left e)) (λ e. inr (leb-false n left e))

module _ (w : Visits) (t : Tally) where
  pub enough-left : visits w ≤ t.left → outcome w t ≡ ended w (after (visited w) t)
  unfolding outcome
  enough-left h = ap (λ (b : Bool). cond b (ended w (after (visited w) t)) (Outcome.Spent (after (visited w) t))) (le-leb (visits w) t.left h)

  pub too_few_left : t.left < visits w → outcome w t ≡ Outcome.Spent (after (visited w) t)
  unfolding outcome
  too_few_left h = ap (λ (b : Bool). cond b (ended w (after (visited w) t)) (Outcome.Spent (after (visited w) t))) (lt-leb (visits w) t.left h)

-- ---- visits one after the other

-- a visit takes one of the nodes left
pub after_one_lem : (x : Visit) (xs : List Visit) (t : Tally) → 0 < t.left → after (x ∷ xs) t ≡ after xs (after_one x t)
after_one_lem x xs t h =
    let l : t.left ≡ suc (t.left - 1) = omega arith in
    let first_kind_lem : t.first + splits_in first (take t.left (x ∷ xs)) ≡ t.first + is_split first x + splits_in first (take (t.left - 1) xs) =
    ap (λ (k : ℕ). t.first + splits_in first (take k (x ∷ xs))) l ∙ omega arith in
    let second-kind : t.second + splits_in second (take t.left (x ∷ xs)) ≡ t.second + is_split second x + splits_in second (take (t.left - 1) xs) =
    ap (λ (k : ℕ). t.second + splits_in second (take k (x ∷ xs))) l ∙ omega arith in
    let rest : t.left - suc (length xs) ≡ t.left - 1 - length xs = omega arith in
    same_tally (after xs (after_one x t)) _ _ _ rest first_kind_lem second-kind

-- where the first visits can all be made
pub after_more : (xs ys : List Visit) (t : Tally) → length xs ≤ t.left → after (xs ++ ys) t ≡ after ys (after xs t)
after_more xs ys t h =
    let whole : t.left ≡ length xs + (t.left - length xs) = omega arith in
    let parts : take t.left (xs ++ ys) ≡ take t.left xs ++ take (t.left - length xs) ys =
    ap (λ (k : ℕ). take k (xs ++ ys)) whole ∙ take-append-add xs ys (t.left - length xs) ∙ ap (λ (l : List Visit). l ++ take (t.left - length xs) ys) (sym (take_all t.left xs h)) in
    same_tally (after ys (after xs t)) _ _ _ (omega (arith, length-append xs ys))
    (ap (λ (l : List Visit). t.first + splits_in first l) parts ∙ omega (arith, splits_append first (take t.left xs) (take (t.left - length xs) ys)))
    (ap (λ (l : List Visit). t.second + splits_in second l) parts ∙ omega (arith, splits_append second (take t.left xs) (take (t.left - length xs) ys)))

-- where they can't, the others are not begun
pub after_cut : (xs ys : List Visit) (t : Tally) → t.left < length xs → after (xs ++ ys) t ≡ after xs t
after_cut xs ys t h =
    let front : take t.left (xs ++ ys) ≡ take t.left xs = take-append-le t.left xs ys (omega arith) in
    same_tally (after xs t) _ _ _ (omega (arith, length-append xs ys)) (ap (λ (l : List Visit). t.first + splits_in first l) front) (ap (λ (l : List Visit). t.second + splits_in second l) front)

after_none : (t : Tally) → after [] t ≡ t
after_none t =
    let gone : take t.left [] ≡ [] = take-nil {A = Visit} t.left in
    same_tally t _ _ _ (omega arith) (ap (λ (l : List Visit). t.first + splits_in first l) gone ∙ omega arith) (ap (λ (l : List Visit). t.second + splits_in second l) gone ∙ omega arith)

-- with no node left nothing is visited
pub none_left : (w : Visits) (t : Tally) → 0 < visits w → t.left ≡ 0 → outcome w t ≡ Outcome.Spent t
none_left w t h z =
    too_few_left w t (omega arith)
    ∙ ap Outcome.Spent (same_tally t _ _ _ (omega arith) (ap (λ (k : ℕ). t.first + splits_in first (take k (visited w))) z ∙ omega arith)
    (ap (λ (k : ℕ). t.second + splits_in second (take k (visited w))) z ∙ omega arith))

-- a leaf
module _ (t : Tally) (some_left : 0 < t.left) where
  one-leaf : after (leaf ∷ []) t ≡ after_one leaf t
  one-leaf = after_one_lem leaf [] t some_left ∙ after_none (after_one leaf t)

  pub open_leaf_lem : outcome (opened (leaf ∷ [])) t ≡ Outcome.Open (after_one leaf t)
  open_leaf_lem = enough-left (opened (leaf ∷ [])) t some_left ∙ ap Outcome.Open one-leaf

  pub closed-leaf : outcome (closed (leaf ∷ [])) t ≡ Outcome.Closed (after_one leaf t)
  closed-leaf = enough-left (closed (leaf ∷ [])) t some_left ∙ ap Outcome.Closed one-leaf

-- ---- visits before others

plus-ended : (xs : List Visit) (w : Visits) (t : Tally) → ended (plus xs w) t ≡ ended w t
plus-ended xs (opened ys) t = refl
plus-ended xs (closed ys) t = refl

module _ (xs : List Visit) (w : Visits) (t : Tally) where
  plus-long : visits (plus xs w) ≡ length xs + visits w
  plus-long = ap length (plus-visited xs w) ∙ length-append xs (visited w)

  plus-after : length xs ≤ t.left → after (visited (plus xs w)) t ≡ after (visited w) (after xs t)
  plus-after h = ap (λ (l : List Visit). after l t) (plus-visited xs w) ∙ after_more xs (visited w) t h

  pub plus-left : length xs ≤ t.left → outcome (plus xs w) t ≡ outcome w (after xs t)
  plus-left h = go (either (visits w) (t.left - length xs))
    where
      go : (visits w ≤ t.left - length xs) ⊎ (t.left - length xs < visits w) → outcome (plus xs w) t ≡ outcome w (after xs t)
      go (inl l) =
          enough-left (plus xs w) t (omega (arith, plus-long)) ∙ plus-ended xs w (after (visited (plus xs w)) t) ∙ ap (ended w) (plus-after h)
          ∙ sym (enough-left w (after xs t) l)
      go (inr l) = too_few_left (plus xs w) t (omega (arith, plus-long)) ∙ ap Outcome.Spent (plus-after h) ∙ sym (too_few_left w (after xs t) l)

  plus-short : t.left < length xs → outcome (plus xs w) t ≡ Outcome.Spent (after xs t)
  plus-short h =
      too_few_left (plus xs w) t (omega (arith, plus-long))
      ∙ ap Outcome.Spent (ap (λ (l : List Visit). after l t) (plus-visited xs w) ∙ after_cut xs (visited w) t h)

-- ---- two children

module _ (k : Kind) (w w' : Visits) (t : Tally) (some_left : 0 < t.left) where
  -- what the first child begins with
  abbrev begun : Tally
  begun = after_one (split k) t

  -- the first child is not closed: its outcome is the node's
  pub first-tells : is_closed_outcome (outcome w begun) ≡ false → outcome (children k w (λ u. w')) t ≡ outcome w begun
  first-tells e = go w e
    where
      go : (x : Visits) → is_closed_outcome (outcome x begun) ≡ false → outcome (children k x (λ u. w')) t ≡ outcome x begun
      go (opened xs) e = at (either (length xs) (t.left - 1))
        where
          at : (length xs ≤ t.left - 1) ⊎ (t.left - 1 < length xs) → outcome (opened (split k ∷ xs)) t ≡ outcome (opened xs) begun
          at (inl l) =
              enough-left (opened (split k ∷ xs)) t (omega arith) ∙ ap Outcome.Open (after_one_lem (split k) xs t some_left) ∙ sym (enough-left (opened xs) begun l)
          at (inr l) =
              too_few_left (opened (split k ∷ xs)) t (omega arith) ∙ ap Outcome.Spent (after_one_lem (split k) xs t some_left) ∙ sym (too_few_left (opened xs) begun l)
      go (closed xs) e = at (either (length xs) (t.left - 1))
        where
          at : (length xs ≤ t.left - 1) ⊎ (t.left - 1 < length xs) → outcome (plus (split k ∷ xs) w') t ≡ outcome (closed xs) begun
          at (inl l) = absurd (false≢true (sym e ∙ ap is_closed_outcome (enough-left (closed xs) begun l)))
          at (inr l) =
              plus-short (split k ∷ xs) w' t (omega arith) ∙ ap Outcome.Spent (after_one_lem (split k) xs t some_left) ∙ sym (too_few_left (closed xs) begun l)

  -- the first child is closed: the second goes on with what is left
  pub second_goes_on : is_closed_outcome (outcome w begun) ≡ true → outcome (children k w (λ u. w')) t ≡ outcome w' (tally_of (outcome w begun))
  second_goes_on e = go w e
    where
      not_open : (xs : List Visit) → is_closed_outcome (outcome (opened xs) begun) ≡ false
      not_open xs = at (either (length xs) (t.left - 1))
        where
          at : (length xs ≤ t.left - 1) ⊎ (t.left - 1 < length xs) → is_closed_outcome (outcome (opened xs) begun) ≡ false
          at (inl l) = ap is_closed_outcome (enough-left (opened xs) begun l)
          at (inr l) = ap is_closed_outcome (too_few_left (opened xs) begun l)

      go : (x : Visits) → is_closed_outcome (outcome x begun) ≡ true → outcome (children k x (λ u. w')) t ≡ outcome w' (tally_of (outcome x begun))
      go (opened xs) e = absurd (false≢true (sym (not_open xs) ∙ e))
      go (closed xs) e = at (either (length xs) (t.left - 1))
        where
          at : (length xs ≤ t.left - 1) ⊎ (t.left - 1 < length xs) → outcome (plus (split k ∷ xs) w') t ≡ outcome w' (tally_of (outcome (closed xs) begun))
          at (inl l) =
              plus-left (split k ∷ xs) w' t (omega arith) ∙ ap (outcome w') (after_one_lem (split k) xs t some_left)
              ∙ sym (ap (λ (o : Outcome). outcome w' (tally_of o)) (enough-left (closed xs) begun l))
          at (inr l) = absurd (false≢true (sym (ap is_closed_outcome (too_few_left (closed xs) begun l)) ∙ e))

-- ---- the total of nodes left and splits made never grows

pub leaf-less : (t u : Tally) → 0 < t.left → u ≡ after_one leaf t → total u ≤ total t
leaf-less t u h e = let s : total u ≡ total (after_one leaf t) = ap total e in omega arith

pub split-less : (k : Kind) (t u : Tally) → 0 < t.left → u ≡ after_one (split k) t → total u ≤ total t
split-less k t u h e = let s : total u ≡ total (after_one (split k) t) = ap total e in omega (arith, one k)
  where
    one : (k : Kind) → is_split first (split k) + is_split second (split k) ≡ 1
    one first = refl
    one second = refl
