-- The pass over terms of one fieldless variant, step by step: a term that is not of the variant, the first one of it,
-- one that is made equal to the first. At the end all terms of one variant are equal if nothing changed. Assumes nothing.
use mathlib.Core.Path.{◌≡◌, refl, ap, sym, ◌∙◌, subst}
use mathlib.Core.Bool.{Bool, true, false, not, ◌&&◌, ◌||◌, false≢true}
use mathlib.Core.List.{List, [], ◌∷◌, Memᴰ}
use mathlib.Core.Logic.{◌⊎◌, inl, inr, ⊎_elim}
use Prim.Native.Nat.{ℕ, zero, suc, ◌+◌, ◌*◌, ◌/◌, ◌%◌, ◌≤◌, ◌<◌}
use native.Mathlib.Omega.{arith}
use lib.Dec.{eqb, ltb}
use lib.ListN.{length, get_or, length-replicate, length-set, replicate, set}
use lib.Seq.{get_or-set_other, get_or-set_same}
use borrow.Author.Tests.{eq-eqb, eqb-false, eqb-true, ltb-false, ltb-true}
use Rattle.laws.specs.All.{All.more, All.none}
use Rattle.laws.specs.Bits.{bit}
use Rattle.laws.specs.Lists.{from}
use Rattle.laws.proofs.Bits.{bit_zero}
use Rattle.laws.proofs.Bools.{and_both, and_left, and_right, by_test}
use Rattle.laws.proofs.Lists.{all-concat_map, all-when, from_bounds, mem_concat_map, mem_from}
use Rattle.guard.specs.Closure.{Fact.same, SameAt, State, add, alone, class_of, holds, merge_unless, same_class, size}
use Rattle.guard.specs.Limits.{variant_limit}
use Rattle.guard.proofs.ClosureEnds.{add_le, add_lt}
use Rattle.passes.specs.Pass.{Pass, Steps, Steps.done, Steps.then}
use Rattle.passes.proofs.PassLaws.{steps_le}
use Rattle.arrays.specs.Slots.{fieldless_at, only_is, sort_at}
use Rattle.arrays.proofs.DueLaws.{mem_when}
use Rattle.labelled.specs.Covers.{Covers, has_mask}
use Rattle.labelled.proofs.Covering.{Behind, behind_next, behind_none, none_to_end, none_to_next}
use Rattle.singles.specs.Due.{single_due, singles_due, singles_for, singles_of}
use Rattle.singles.specs.Entered.{Advance, AllSeen, Before, Entered, NeverAlone, SeenFit, place_of, seen_at, unseen}

-- ---- places

place-variant : (t v : ℕ) → v < 16 → (16 * t + v) % 16 ≡ v
place-variant t v h = omega arith

place-sort : (t v : ℕ) → v < 16 → (16 * t + v) / 16 ≡ t
place-sort t v h = omega arith

-- what was met before stays met
before-next : (x v y u : ℕ) → Before x v y u → Before x (v + 1) y u
before-next x v y u (inl h) = inl h
before-next x v y u (inr (e, h)) = inr (e, omega arith)

get_d_same_default : (n w : ℕ) → seen_at (replicate n unseen) w ≡ unseen
get_d_same_default zero w = refl
get_d_same_default (suc n) zero = refl
get_d_same_default (suc n) (suc w) = get_d_same_default n w

-- inside the table, the default of a lookup does not matter
pub looked_up : (seen : List ℕ) (w : ℕ) → w < length seen → get_or seen w 0 ≡ seen_at seen w
looked_up [] w h = absurd (omega arith)
looked_up (y ∷ seen) zero h = refl
looked_up (y ∷ seen) (suc w) h = looked_up seen w (omega arith)

-- the last one, or one before
before_last : (x v y u : ℕ) → Before x (v + 1) y u → Before x v y u ⊎ ((y ≡ x) × (u ≡ v))
before_last x v y u (inl h) = inl (inl h)
before_last x v y u (inr (e, h)) = by_test (eqb u v) (λ q. inr (e, eqb-true u v q)) (λ q. inl (inr (e, omega (arith, eqb-false u v q))))

-- nothing changed so far, and nothing now
quiet-both : (a b : Bool) → (a || b) ≡ false → (a ≡ false) × (b ≡ false)
quiet-both true b e = absurd (false≢true (sym e))
quiet-both false b e = (refl, e)

or_none_lem : (a : Bool) → (a || false) ≡ a
or_none_lem true = refl
or_none_lem false = refl

module _ (sorts fieldless : List ℕ) (s : State) (seen : List ℕ) (x v : ℕ) where
  -- ---- the table

  -- what stands at the place of a term's variant is an earlier term of the same type
  pub seen_earlier : v < 16 → SeenFit sorts seen x v → ¬ (seen_at seen (place_of sorts x v) ≡ unseen)
      → (seen_at seen (place_of sorts x v) < x) × (sort_at sorts (seen_at seen (place_of sorts x v)) ≡ sort_at sorts x)
  seen_earlier h f n =
      let (b, e) = f.at (place_of sorts x v) n in
      (⊎_elim (λ l. l) (λ p. absurd (omega (arith, p.1, place-variant (sort_at sorts x) v h))) b, e ∙ place-sort (sort_at sorts x) v h)

  module _ (h : v < 16) (long : place_of sorts x v < length seen) (small : x < unseen) (free : seen_at seen (place_of sorts x v) ≡ unseen) where
    put_here : seen_at (set seen (place_of sorts x v) x) (place_of sorts x v) ≡ x
    put_here = get_or-set_same seen (place_of sorts x v) x unseen long

    put_other : (w : ℕ) → ¬ (w ≡ place_of sorts x v) → seen_at (set seen (place_of sorts x v) x) w ≡ seen_at seen w
    put_other w n = get_or-set_other seen (place_of sorts x v) w x unseen n

    pub fit_put : SeenFit sorts seen x v → SeenFit sorts (set seen (place_of sorts x v) x) x (v + 1)
    fit_put f =
        record {
          long = length-set seen (place_of sorts x v) x ∙ f.long;
          at = λ w n. by_test (eqb w (place_of sorts x v)) (λ q. here w (eqb-true w (place_of sorts x v) q)) (λ q. there w n (eqb-false w (place_of sorts x v) q));
        }
      where
        here : (w : ℕ) → w ≡ place_of sorts x v → Before x (v + 1) (seen_at (set seen (place_of sorts x v) x) w) (w % 16) × (sort_at sorts (seen_at (set seen (place_of sorts x v) x) w) ≡ w / 16)
        here w e =
            let p : seen_at (set seen (place_of sorts x v) x) w ≡ x = ap (seen_at (set seen (place_of sorts x v) x)) e ∙ put_here in
            let i : w % 16 ≡ v = ap (λ (k : ℕ). k % 16) e ∙ place-variant (sort_at sorts x) v h in
            let j : w / 16 ≡ sort_at sorts x = ap (λ (k : ℕ). k / 16) e ∙ place-sort (sort_at sorts x) v h in
            (inr (p, omega arith), ap (sort_at sorts) p ∙ sym j)

        there : (w : ℕ) → ¬ (seen_at (set seen (place_of sorts x v) x) w ≡ unseen) → ¬ (w ≡ place_of sorts x v) → Before x (v + 1) (seen_at (set seen (place_of sorts x v) x) w) (w % 16) × (sort_at sorts (seen_at (set seen (place_of sorts x v) x) w) ≡ w / 16)
        there w n d =
            let e = put_other w d in
            let (b, q) = f.at w (λ z. n (e ∙ z)) in
            (subst (λ (y : ℕ). Before x (v + 1) y (w % 16)) (sym e) (before-next x v (seen_at seen w) (w % 16) b), ap (sort_at sorts) e ∙ q)

  -- ---- where nothing has changed

  -- a term that is not of the variant has nothing to do
  seen_skip : (f : State) → only_is sorts fieldless f x v ≡ false → AllSeen sorts fieldless f seen x v → AllSeen sorts fieldless f seen x (v + 1)
  seen_skip f isNot a =
      record {
        met = λ y u hu b o. ⊎_elim (λ p. a.met y u hu p o)
            (λ p. absurd (false≢true (sym isNot ∙ ap (λ (k : ℕ). only_is sorts fieldless f k v) (sym p.0) ∙ ap (only_is sorts fieldless f y) (sym p.1) ∙ o))) (before_last x v y u b);
        only = a.only;
      }

  -- a term that equals the one in the table
  seen_same : (f : State) → ¬ (seen_at seen (place_of sorts x v) ≡ unseen) → SameAt f (seen_at seen (place_of sorts x v)) x → AllSeen sorts fieldless f seen x v → AllSeen sorts fieldless f seen x (v + 1)
  seen_same f n e a =
      record {
        met = λ y u hu b o. ⊎_elim (λ p. a.met y u hu p o)
            (λ p. subst (λ (k : ℕ). ¬ (seen_at seen (place_of sorts k u) ≡ unseen) × SameAt f (seen_at seen (place_of sorts k u)) k) (sym p.0)
            (subst (λ (k : ℕ). ¬ (seen_at seen (place_of sorts x k) ≡ unseen) × SameAt f (seen_at seen (place_of sorts x k)) x) (sym p.1) (n, e)))
            (before_last x v y u b);
        only = a.only;
      }

  -- the first term of the variant
  seen_put : v < 16 → place_of sorts x v < length seen → x < unseen → seen_at seen (place_of sorts x v) ≡ unseen
      → (f : State) → only_is sorts fieldless f x v ≡ true → AllSeen sorts fieldless f seen x v → AllSeen sorts fieldless f (set seen (place_of sorts x v) x) x (v + 1)
  seen_put h long small free f is_only a = record { met = λ y u hu b o. ⊎_elim (λ p. old y u hu p o) (λ p. new y u p.0 p.1) (before_last x v y u b); only = only' }
    where
      seen' : List ℕ
      seen' = set seen (place_of sorts x v) x

      here : seen_at seen' (place_of sorts x v) ≡ x
      here = put_here h long small free

      old : (y u : ℕ) → u < variant_limit → Before x v y u → only_is sorts fieldless f y u ≡ true → ¬ (seen_at seen' (place_of sorts y u) ≡ unseen) × SameAt f (seen_at seen' (place_of sorts y u)) y
      old y u hu b o =
          let (n, e) = a.met y u hu b o in
          let q : seen_at seen' (place_of sorts y u) ≡ seen_at seen (place_of sorts y u) = put_other h long small free (place_of sorts y u) (λ z. n (ap (seen_at seen) z ∙ free)) in
          ((λ z. n (sym q ∙ z)), ap (class_of f) q ∙ e)

      new : (y u : ℕ) → y ≡ x → u ≡ v → ¬ (seen_at seen' (place_of sorts y u) ≡ unseen) × SameAt f (seen_at seen' (place_of sorts y u)) y
      new y u ey eu =
          let p : seen_at seen' (place_of sorts y u) ≡ x = ap (λ (k : ℕ). seen_at seen' (place_of sorts k u)) ey ∙ ap (λ (k : ℕ). seen_at seen' (place_of sorts x k)) eu ∙ here in
          ((λ z. omega (arith, p, z)), ap (class_of f) (p ∙ sym ey))

      only' : (w : ℕ) → ¬ (seen_at seen' w ≡ unseen) → only_is sorts fieldless f (seen_at seen' w) (w % 16) ≡ true
      only' w n = by_test (eqb w (place_of sorts x v)) (λ q. at (eqb-true w (place_of sorts x v) q)) (λ q. away (eqb-false w (place_of sorts x v) q))
        where
          at : w ≡ place_of sorts x v → only_is sorts fieldless f (seen_at seen' w) (w % 16) ≡ true
          at e =
              ap (λ (k : ℕ). only_is sorts fieldless f (seen_at seen' k) (k % 16)) e ∙ ap (λ (k : ℕ). only_is sorts fieldless f k (place_of sorts x v % 16)) here
              ∙ ap (only_is sorts fieldless f x) (place-variant (sort_at sorts x) v h) ∙ is_only

          away : ¬ (w ≡ place_of sorts x v) → only_is sorts fieldless f (seen_at seen' w) (w % 16) ≡ true
          away d =
              let q : seen_at seen' w ≡ seen_at seen w = put_other h long small free w d in
              ap (λ (k : ℕ). only_is sorts fieldless f k (w % 16)) q ∙ a.only w (λ z. n (q ∙ z))

  -- ---- the steps of the pass

  -- nothing is done
  idle : ((f : State) → s ≡ f → AllSeen sorts fieldless f seen x v → AllSeen sorts fieldless f seen x (v + 1)) → Advance sorts fieldless s seen x v s seen x (v + 1) false
  unfolding Advance
  idle g first changed e =
      let r : changed || false ≡ changed = or_none_lem changed in
      record {
        steps = e.steps;
        falls = λ c. e.falls (sym r ∙ c);
        quiet = λ c. let (q, a) = e.quiet (sym r ∙ c) in (q, g first q a);
      }

  pub not_of_it : only_is sorts fieldless s x v ≡ false → Advance sorts fieldless s seen x v s seen x (v + 1) false
  not_of_it isNot = idle (λ f q. seen_skip f (ap (λ (z : State). only_is sorts fieldless z x v) (sym q) ∙ isNot))

  pub first_of_it : v < 16 → place_of sorts x v < length seen → x < unseen → seen_at seen (place_of sorts x v) ≡ unseen → only_is sorts fieldless s x v ≡ true
      → Advance sorts fieldless s seen x v s (set seen (place_of sorts x v) x) x (v + 1) false
  unfolding Advance
  first_of_it h long small free is_only first changed e =
      let r : changed || false ≡ changed = or_none_lem changed in
      record {
        steps = e.steps;
        falls = λ c. e.falls (sym r ∙ c);
        quiet = λ c.
            let (q, a) = e.quiet (sym r ∙ c) in
            (q, seen_put h long small free first (ap (λ (z : State). only_is sorts fieldless z x v) (sym q) ∙ is_only) a);
      }

  -- what stands in the table is of the variant where nothing has changed
  pub no_longer : v < 16 → ¬ (seen_at seen (place_of sorts x v) ≡ unseen) → only_is sorts fieldless s (seen_at seen (place_of sorts x v)) v ≡ false
      → Advance sorts fieldless s seen x v s seen x (v + 1) false
  no_longer h n isNot =
      idle (λ f q a. absurd (false≢true (sym isNot ∙ ap (λ (z : State). only_is sorts fieldless z (seen_at seen (place_of sorts x v)) v) q
      ∙ ap (only_is sorts fieldless f (seen_at seen (place_of sorts x v))) (sym (place-variant (sort_at sorts x) v h)) ∙ a.only (place_of sorts x v) n)))

  module _ (hx : x < 78) (h : v < 16) (fit : SeenFit sorts seen x v) (n : ¬ (seen_at seen (place_of sorts x v) ≡ unseen)) (is_only : only_is sorts fieldless s x v ≡ true)
      (other : only_is sorts fieldless s (seen_at seen (place_of sorts x v)) v ≡ true) where
    abbrev pub earliest : ℕ
    earliest = seen_at seen (place_of sorts x v)

    is-due : Memᴰ (same earliest x) (singles_due sorts fieldless s)
    unfolding singles_due singles_of singles_for single_due
    is-due =
        let (l, e) = seen_earlier h fit n in
        mem_concat_map (singles_of sorts fieldless s) (from 78 0) (mem_from 78 0 x (omega arith) (omega arith))
        (mem_concat_map (singles_for sorts fieldless s x) (from variant_limit 0) (mem_from variant_limit 0 v (omega arith) (omega arith))
        (mem_concat_map (single_due sorts fieldless s x v) (from x 0) (mem_from x 0 earliest (omega arith) (omega arith))
        (mem_when _ _ (and_both (eqb (sort_at sorts earliest) (sort_at sorts x)) _ (eq-eqb _ _ e) (and_both (only_is sorts fieldless s x v) _ is_only other)) (Memᴰ.head refl))))

    pub made-equal : (s' : State) (r : Bool) → s' ≡ add s (same earliest x) → r ≡ not (holds s (same earliest x)) → Advance sorts fieldless s seen x v s' seen x (v + 1) r
    unfolding Advance
    made-equal s' r es er first changed e =
        record {
          steps = subst (Steps (singles_due sorts fieldless) first) (sym es) (then e.steps (same earliest x) is-due);
          falls = λ c. subst (λ (z : State). size z < size first) (sym es) (lower changed r c (λ q. e.falls q) er);
          quiet = λ c.
              let (qc, qr) = quiet-both changed r c in
              let (q, a) = e.quiet qc in
              let held : same_class s earliest x ≡ true = held_of r qr er in
              (es ∙ ap (λ (b : Bool). merge_unless b s (class_of s earliest) (class_of s x)) held ∙ q, seen_same first n (subst (λ (z : State). SameAt z earliest x) q (eqb-true _ _ held)) a);
        }
      where
        held_of : (b : Bool) → b ≡ false → b ≡ not (holds s (same earliest x)) → same_class s earliest x ≡ true
        held_of b f g = go (same_class s earliest x) (sym g ∙ f)
          where
            go : (d : Bool) → not d ≡ false → d ≡ true
            go true z = refl
            go false z = absurd (false≢true (sym z))

        new_of : (d : Bool) → true ≡ not d → d ≡ false
        new_of true z = absurd (false≢true (sym z))
        new_of false z = refl

        lower : (a b : Bool) → (a || b) ≡ true → (a ≡ true → size s < size first) → b ≡ not (holds s (same earliest x)) → size (add s (same earliest x)) < size first
        lower true b c g q = omega (arith, g refl, add_le s (same earliest x))
        lower false b c g q = omega (arith, steps_le e.steps, add_lt s (same earliest x) (new_of (same_class s earliest x) (sym c ∙ q)))

-- ---- with what code finds at the place

module _ (sorts fieldless : List ℕ) (s : State) (seen : List ℕ) (x v : ℕ) (hx : x < 78) (h : v < 16) (fit : SeenFit sorts seen x v) (sorted : sort_at sorts x < 7) (w : ℕ) (ew : w ≡ place_of sorts x v) where
  inside : place_of sorts x v < length seen
  inside = omega (arith, fit.long)

  found : get_or seen w 0 ≡ seen_at seen (place_of sorts x v)
  found = ap (λ (k : ℕ). get_or seen k 0) ew ∙ looked_up seen (place_of sorts x v) inside

  pub found_first : get_or seen w 0 ≡ unseen → only_is sorts fieldless s x v ≡ true
      → Advance sorts fieldless s seen x v s (set seen w x) x (v + 1) false × SeenFit sorts (set seen w x) x (v + 1)
  found_first e o =
      subst (λ (k : ℕ). Advance sorts fieldless s seen x v s (set seen k x) x (v + 1) false × SeenFit sorts (set seen k x) x (v + 1)) (sym ew)
      (first_of_it sorts fieldless s seen x v h inside (omega arith) (sym found ∙ e) o, fit_put sorts fieldless s seen x v h inside (omega arith) (sym found ∙ e) fit)

  module _ (n : ¬ (get_or seen w 0 ≡ unseen)) where
    pub found_earlier : get_or seen w 0 < x
    found_earlier = omega (arith, found, (seen_earlier sorts fieldless s seen x v h fit (λ e. n (found ∙ e))).0)

    pub found_stale : only_is sorts fieldless s (get_or seen w 0) v ≡ false → Advance sorts fieldless s seen x v s seen x (v + 1) false
    found_stale o = no_longer sorts fieldless s seen x v h (λ e. n (found ∙ e)) (ap (λ (y : ℕ). only_is sorts fieldless s y v) (sym found) ∙ o)

    pub found-equal : only_is sorts fieldless s x v ≡ true → only_is sorts fieldless s (get_or seen w 0) v ≡ true
        → (s' : State) (r : Bool) → s' ≡ add s (same (get_or seen w 0) x) → r ≡ not (holds s (same (get_or seen w 0) x)) → Advance sorts fieldless s seen x v s' seen x (v + 1) r
    found-equal o p s' r es er =
        made-equal sorts fieldless s seen x v hx h fit (λ e. n (found ∙ e)) o (ap (λ (y : ℕ). only_is sorts fieldless s y v) (sym found) ∙ p) s' r
        (es ∙ ap (λ (y : ℕ). add s (same y x)) found) (er ∙ ap (λ (y : ℕ). not (holds s (same y x))) found)

-- ---- a term at all its variants

or_regrouped : (a b c : Bool) → ((a || b) || c) ≡ (a || (b || c))
or_regrouped true b c = refl
or_regrouped false b c = refl

module _ (sorts fieldless : List ℕ) (s : State) (seen : List ℕ) (x : ℕ) where
  -- up to the first variant that may be its own
  pub begin-term : (v : ℕ) → ((u : ℕ) → u < v → only_is sorts fieldless s x u ≡ false) → Advance sorts fieldless s seen x 0 s seen x v false
  unfolding Advance
  begin-term v gone first changed e =
      let r : changed || false ≡ changed = or_none_lem changed in
      record {
        steps = e.steps;
        falls = λ c. e.falls (sym r ∙ c);
        quiet = λ c.
            let (q, a) = e.quiet (sym r ∙ c) in
            (q, record { met = λ y u hu b o. a.met y u hu (earlier q y u b o) o; only = a.only });
      }
    where
      earlier : s ≡ first → (y u : ℕ) → Before x v y u → only_is sorts fieldless first y u ≡ true → Before x 0 y u
      earlier q y u (inl h) o = inl h
      earlier q y u (inr (e, h)) o =
          absurd (false≢true (sym (gone u h) ∙ ap (λ (z : State). only_is sorts fieldless z x u) q ∙ ap (λ (k : ℕ). only_is sorts fieldless first k u) (sym e) ∙ o))

  -- one variant more
  pub next_variant : (v : ℕ) (s' s'' : State) (seen' seen'' : List ℕ) (a b : Bool) → Advance sorts fieldless s seen x 0 s' seen' x v a
      → Advance sorts fieldless s' seen' x v s'' seen'' x (v + 1) b → Advance sorts fieldless s seen x 0 s'' seen'' x (v + 1) (a || b)
  unfolding Advance
  next_variant v s' s'' seen' seen'' a b p q first changed e =
      subst (Entered sorts fieldless first s'' seen'' x (v + 1)) (or_regrouped changed a b) (q first (changed || a) (p first changed e))

  -- no further variant is its own
  pub end_term : (v : ℕ) (s' : State) (seen' : List ℕ) (r : Bool) → ((u : ℕ) → v ≤ u → u < variant_limit → only_is sorts fieldless s x u ≡ false)
      → Advance sorts fieldless s seen x 0 s' seen' x v r → Advance sorts fieldless s seen x 0 s' seen' (x + 1) 0 r
  unfolding Advance
  end_term v s' seen' r gone p first changed e =
      let e' = p first changed e in
      record {
        steps = e'.steps;
        falls = e'.falls;
        quiet = λ c.
            let (q, a) = e'.quiet c in
            (q, record { met = λ y u hu b o. a.met y u hu (earlier (e.quiet (quiet-both changed r c).0).0 y u hu b o) o; only = a.only });
      }
    where
      earlier : s ≡ first → (y u : ℕ) → u < variant_limit → Before (x + 1) 0 y u → only_is sorts fieldless first y u ≡ true → Before x v y u
      earlier q y u hu (inr (e, h)) o = absurd (omega (arith, h))
      earlier q y u hu (inl h) o = by_test (eqb y x) (λ t. at (eqb-true y x t)) (λ t. inl (omega (arith, eqb-false y x t)))
        where
          at : y ≡ x → Before x v y u
          at e = by_test (ltb u v) (λ t. inr (e, ltb-true u v t))
              (λ t. absurd (false≢true (sym (gone u (omega (arith, ltb-false u v t)) hu) ∙ ap (λ (z : State). only_is sorts fieldless z x u) q ∙ ap (λ (k : ℕ). only_is sorts fieldless first k u) (sym e) ∙ o)))

-- a term that is never of a variant alone has nothing to do
module _ (sorts fieldless : List ℕ) (s : State) (seen : List ℕ) (x : ℕ) where
  passed_over : NeverAlone sorts fieldless s x → Advance sorts fieldless s seen x 0 s seen (x + 1) 0 false
  passed_over n = end_term sorts fieldless s seen x 0 s seen false (λ u l h. n u h) (begin-term sorts fieldless s seen x 0 (λ u h. absurd (omega arith)))

-- ---- the whole pass

-- a term whose type has no fieldless variant
none-fieldless : (sorts fieldless : List ℕ) (s : State) (x v : ℕ) → has_mask sorts fieldless x ≡ false → only_is sorts fieldless s x v ≡ false
unfolding has_mask only_is
none-fieldless sorts fieldless s x v e =
    let z : fieldless_at sorts fieldless x ≡ 0 = eqb-true _ _ (not_none _ e) in
    ap (λ (m : ℕ). not (eqb (bit m v) 0) && alone s x v) z ∙ ap (λ (b : ℕ). not (eqb b 0) && alone s x v) (bit_zero v)
  where
    not_none : (b : Bool) → not b ≡ false → b ≡ true
    not_none true e = refl
    not_none false e = absurd (false≢true (sym e))

-- terms that are left out, since their types have no fieldless variant
module _ (sorts fieldless : List ℕ) (x x' : ℕ) (further : x ≤ x') where
  left_out : ((y : ℕ) → x ≤ y → y < x' → has_mask sorts fieldless y ≡ false) → (s s' : State) (seen : List ℕ) (changed : Bool)
      → Entered sorts fieldless s s' seen x 0 changed → Entered sorts fieldless s s' seen x' 0 changed
  left_out no_mask s s' seen changed e =
      record { steps = e.steps; falls = e.falls; quiet = λ c. let (q, a) = e.quiet c in (q, record { met = λ y u hu b o. a.met y u hu (earlier y u b o) o; only = a.only }) }
    where
      earlier : (y u : ℕ) → Before x' 0 y u → only_is sorts fieldless s y u ≡ true → Before x 0 y u
      earlier y u (inr (q, h)) o = absurd (omega (arith, h))
      earlier y u (inl h) o =
          by_test (ltb y x) (λ t. inl (ltb-true y x t)) (λ t. absurd (false≢true (sym (none-fieldless sorts fieldless s y u (no_mask y (ltb-false y x t) h)) ∙ o)))

module _ (sorts fieldless : List ℕ) (s : State) where
  none-met : Entered sorts fieldless s s (replicate 112 unseen) 0 0 false
  none-met =
      record {
        steps = done;
        falls = λ e. absurd (false≢true e);
        quiet = λ e. (refl, record { met = λ y u hu b o. absurd (nothing y u b); only = λ w n. absurd (n (free w)) });
      }
    where
      nothing : (y u : ℕ) → Before 0 0 y u → ⊥
      nothing y u (inl h) = omega (arith, h)
      nothing y u (inr (e, h)) = omega (arith, h)

      free : (w : ℕ) → seen_at (replicate 112 unseen) w ≡ unseen
      free w = get_d_same_default 112 w

  fit_none : SeenFit sorts (replicate 112 unseen) 0 0
  fit_none = record { long = length-replicate 112 unseen; at = λ w n. absurd (n (get_d_same_default 112 w)) }

  next-term : (x : ℕ) (s' s'' : State) (seen' seen'' : List ℕ) (a b : Bool) → Entered sorts fieldless s s' seen' x 0 a
      → Advance sorts fieldless s' seen' x 0 s'' seen'' (x + 1) 0 b → Entered sorts fieldless s s'' seen'' (x + 1) 0 (a || b)
  unfolding Advance
  next-term x s' s'' seen' seen'' a b e p = p s a e

  all-met : (x : ℕ) {s' : State} {seen : List ℕ} (r : Bool) → 78 ≤ x → Entered sorts fieldless s s' seen x 0 r → Pass (singles_due sorts fieldless) s s' r
  unfolding singles_due singles_of singles_for single_due
  all-met x {seen = seen} r h e =
      record {
        steps = e.steps;
        falls = e.falls;
        quiet = λ c. let (q, a) = e.quiet c in (
          q,
          all-concat_map (singles_of sorts fieldless s) (from 78 0) (λ k mk.
              all-concat_map (singles_for sorts fieldless s k) (from variant_limit 0) (λ v mv.
              all-concat_map (single_due sorts fieldless s k v) (from k 0) (λ y my.
              all-when _ _ (λ t. more (equal a k v y (from_bounds 78 0 k mk).1 (from_bounds variant_limit 0 v mv).1 (from_bounds k 0 y my).1 t) none)))),
        );
      }
    where
      equal : AllSeen sorts fieldless s seen x 0 → (k v y : ℕ) → k < 0 + 78 → v < 0 + variant_limit → y < 0 + k
          → (eqb (sort_at sorts y) (sort_at sorts k) && (only_is sorts fieldless s k v && only_is sorts fieldless s y v)) ≡ true → holds s (same y k) ≡ true
      equal a k v y hk hv hy t =
          let ts : sort_at sorts y ≡ sort_at sorts k = eqb-true _ _ (and_left (eqb (sort_at sorts y) (sort_at sorts k)) _ t) in
          let to = and_right (eqb (sort_at sorts y) (sort_at sorts k)) _ t in
          let ek = (a.met k v (omega arith) (inl (omega arith)) (and_left (only_is sorts fieldless s k v) _ to)).1 in
          let ey = (a.met y v (omega arith) (inl (omega arith)) (and_right (only_is sorts fieldless s k v) _ to)).1 in
          eq-eqb _ _ (sym ey ∙ ap (λ (z : ℕ). class_of s (seen_at seen (16 * z + v))) ts ∙ ek)

-- ---- along the terms of a list that leaves out none whose type has a fieldless variant

further : (sorts seen : List ℕ) (x x' : ℕ) → x ≤ x' → SeenFit sorts seen x 0 → SeenFit sorts seen x' 0
further sorts seen x x' h f = record { long = f.long; at = λ w n. let (b, e) = f.at w n in (inl (earlier (seen_at seen w) (w % 16) b), e) }
  where
    earlier : (y u : ℕ) → Before x 0 y u → y < x'
    earlier y u (inl l) = omega arith
    earlier y u (inr (e, l)) = absurd (omega (arith, l))

module _ (sorts fieldless list : List ℕ) (s : State) where
  -- up to one behind those of the list so far
  abbrev pub Listed : State → List ℕ → ℕ → Bool → Type 0
  Listed s' seen i changed = (x : ℕ) × (x ≤ 78) × Behind list (length list) i x × Entered sorts fieldless s s' seen x 0 changed × SeenFit sorts seen x 0

  pub listed_none : Listed s (replicate 112 unseen) 0 false
  listed_none = (0, omega arith, behind_none list (length list), none-met sorts fieldless s, fit_none sorts fieldless s)

  module _ (cover : Covers (has_mask sorts fieldless) 78 list (length list)) (s' : State) (seen : List ℕ) (i : ℕ) (changed : Bool) (l : Listed s' seen i changed) where
    module _ (h : i < length list) where
      here : Entered sorts fieldless s s' seen (get_or list i 0) 0 changed
      here = left_out sorts fieldless l.0 (get_or list i 0) (l.2.before i (omega arith) h) (none_to_next (has_mask sorts fieldless) 78 list (length list) cover i l.0 h l.2) s s' seen changed l.3

      pub listed_next : (s'' : State) (seen' : List ℕ) (r : Bool) → Advance sorts fieldless s' seen (get_or list i 0) 0 s'' seen' (get_or list i 0 + 1) 0 r → SeenFit sorts seen' (get_or list i 0 + 1) 0
          → Listed s'' seen' (i + 1) (changed || r)
      listed_next s'' seen' r p f =
          (get_or list i 0 + 1, omega (arith, cover.below i h), behind_next (has_mask sorts fieldless) 78 list (length list) cover i h, next-term sorts fieldless s (get_or list i 0) s' s'' seen seen' changed r here p, f)

      pub listed_over : NeverAlone sorts fieldless s' (get_or list i 0) → Listed s' seen (i + 1) changed
      listed_over n =
          subst (Listed s' seen (i + 1)) (or_none_lem changed)
          (listed_next s' seen false (passed_over sorts fieldless s' seen (get_or list i 0) n) (further sorts seen l.0 (get_or list i 0 + 1) (omega (arith, l.2.before i (omega arith) h)) l.4))

    pub listed_all : length list ≤ i → Pass (singles_due sorts fieldless) s s' changed
    listed_all h =
        all-met sorts fieldless s 78 changed (omega arith)
        (left_out sorts fieldless l.0 78 l.1 (none_to_end (has_mask sorts fieldless) 78 list (length list) cover i l.0 h l.2) s s' seen changed l.3)
