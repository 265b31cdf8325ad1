-- Marks laid step by step, and passes in a loop, from any class to start from. From the marks of the rows and no class: parts of what
-- is marked are needed, so only what is needed is marked; and where all parts of what is marked are, all that is needed is.
-- Assumes nothing.
use mathlib.Core.Path.{◌≡◌, refl, ap, sym, subst, ◌∙◌}
use mathlib.Core.Bool.{Bool, true, false, not, ◌||◌, false≢true}
use mathlib.Core.List.{List, [], ◌∷◌}
use mathlib.Core.Logic.{◌⊎◌, inl, inr}
use Prim.Native.Nat.{ℕ, zero, suc, ◌+◌, ◌≤◌, ◌<◌}
use native.Mathlib.Numerals.{add-one}
use native.Mathlib.Omega.{arith}
use lib.Dec.{eqb, ltb}
use lib.ListN.{get_or-eq_default, get_or, get_or-replicate, length, length-replicate, length-set, replicate, set}
use borrow.Author.Tests.{eqb-false, eqb-true, ltb-false, ltb-true, not-false, not-true}
use Rattle.std.specs.Option.{is_some}
use Rattle.std.specs.declared.option.Option.{Option}
use Rattle.std.specs.declared.option.Option.TheVariants.{None}
use Rattle.laws.specs.Lists.{sum}
use Rattle.laws.proofs.Bools.{by_test, either, or_cases, or_false}
use Rattle.laws.proofs.Stores.{set_cases, set_ind, set_same, sum-set_le, sum-set_lt}
use Rattle.guard.specs.Closure.{State, class_of}
use Rattle.arrays.specs.Slots.{active, many_at}
use Rattle.needed.specs.Needed.{AllFollowed, Followed, Leads, Marked, Marks, Needed, Needed.of_part, Needed.of_row, PartMarked, Pass, Steps, Steps.done, Steps.then, UpTo, no_marks, own_class, part_class, row_marks}

-- ---- one mark

mark_keeps : (l : List ℕ) (c d : ℕ) → Marked l d → Marked (set l c 0) d
mark_keeps l c d e = set_ind (λ x. x ≡ 0) l c 0 d refl (λ q. refl) e

marked-here : (l : List ℕ) (c : ℕ) → Marked (set l c 0) c
marked-here l c = either (λ e. e) (λ e. e) (set_same l c 0)

marked_already : (l : List ℕ) (c : ℕ) → Marked l c → set l c 0 ≡ l
marked_already [] c e = refl
marked_already (x ∷ xs) zero e = ap (λ (y : ℕ). y ∷ xs) (sym e)
marked_already (x ∷ xs) (suc c) e = ap (λ (ys : List ℕ). x ∷ ys) (marked_already xs c e)

-- ---- the rows

pub rows_none : (classes l : List ℕ) → l ≡ row_marks classes 0 l
unfolding row_marks
rows_none classes l = refl

pub rows_next : (classes l now next : List ℕ) (i : ℕ) → now ≡ row_marks classes i l → next ≡ set now (get_or classes i 0) 0 → next ≡ row_marks classes (i + 1) l
unfolding row_marks
rows_next classes l now next i e q = q ∙ ap (λ (m : List ℕ). set m (get_or classes i 0) 0) e ∙ ap (λ (k : ℕ). row_marks classes k l) (sym (add-one i))

module _ (shapes : List ℕ) (s : State) (start : Option ℕ) where
  -- ---- steps

  module _ {l : List ℕ} where
    pub no_steps : Steps shapes s start l l
    no_steps = done

    pub steps_on : {m n : List ℕ} → Steps shapes s start l m → Steps shapes s start m n → Steps shapes s start l n
    steps_on a done = a
    steps_on a (then b k p hk hp e q) = then (steps_on a b) k p hk hp e q

    steps_keep : {m : List ℕ} → Steps shapes s start l m → (c : ℕ) → Marked l c → Marked m c
    steps_keep done c e = e
    steps_keep (then {next = m} a k p hk hp q o) c e = mark_keeps m (part_class shapes s k p) c (steps_keep a c e)

    pub still_leads : {m : List ℕ} → Steps shapes s start l m → (c : ℕ) → Leads start l c → Leads start m c
    still_leads a c (inl e) = inl (steps_keep a c e)
    still_leads a c (inr e) = inr e

    steps_le : {m : List ℕ} → Steps shapes s start l m → sum m ≤ sum l
    steps_le done = omega arith
    steps_le (then {next = m} a k p hk hp q o) = omega (arith, steps_le a, sum-set_le m (part_class shapes s k p) 0 (omega arith))

  -- ---- passes

  -- nothing to do
  pub skipped : (Claim : List ℕ → Type 0) (l : List ℕ) → Claim l → Pass shapes s start Claim l l false
  skipped Claim l h = record { steps = done; falls = λ e. absurd (false≢true e); quiet = λ e. (refl, h) }

  -- a part is marked
  pub part_pass : (k p : ℕ) (l m : List ℕ) (r : Bool) → k < 30 → p < many_at shapes k → active shapes s k ≡ true → Leads start l (own_class shapes s k)
      → r ≡ not (eqb (get_or l (part_class shapes s k p) 0) 0) → m ≡ set l (part_class shapes s k p) 0 → Pass shapes s start (PartMarked shapes s k p) l m r
  part_pass k p l m r hk hp a o er em =
      rw em (record {
        steps = then done k p hk hp a o;
        falls = λ e. let n : ¬ (get_or l c 0 ≡ 0) = eqb-false (get_or l c 0) 0 (not-true _ (sym er ∙ e)) in sum-set_lt l c 0 (omega (arith, n));
        quiet = λ e. let z : get_or l c 0 ≡ 0 = eqb-true (get_or l c 0) 0 (not-false _ (sym er ∙ e)) in (marked_already l c z, z);
      })
    where
      c : ℕ
      c = part_class shapes s k p

  -- in a loop over numbers that remembers whether anything changed
  module _ (Claim : ℕ → List ℕ → Type 0) where
    pub none_yet : (l : List ℕ) → Pass shapes s start (UpTo Claim 0) l l false
    none_yet l = skipped (UpTo Claim 0) l (λ j h. absurd (omega arith))

    pub one_more : (n : ℕ) {l l' l'' : List ℕ} (a b : Bool) → Pass shapes s start (UpTo Claim n) l l' a → Pass shapes s start (Claim n) l' l'' b
        → Pass shapes s start (UpTo Claim (n + 1)) l l'' (a || b)
    one_more n {l = l} {l' = l'} {l'' = l''} a b p q = record {
      steps = steps_on p.steps q.steps;
      falls = λ e. either (λ x. omega (arith, p.falls x, steps_le q.steps)) (λ y. omega (arith, q.falls y, steps_le p.steps)) (or_cases a b e);
      quiet = λ e. let (x, y) = or_false a b e in
          let (same, before) = p.quiet x in
          let (still, here) = q.quiet y in (
            still ∙ same,
            λ j h. by_test (ltb j n) (λ t. before j (ltb-true _ _ t))
                (λ t. let z : n ≡ j = omega (arith, ltb-false j n t) in subst (λ (i : ℕ). Claim i l) z (subst (Claim n) same here)),
          );
    }

  -- a shape that is not there, or not marked, has nothing to say
  pub not_active : (k : ℕ) (l : List ℕ) → active shapes s k ≡ false → Pass shapes s start (Followed shapes s start k) l l false
  not_active k l e = skipped (Followed shapes s start k) l (λ a o. absurd (false≢true (sym e ∙ a)))

  -- nor has one whose class is not to be followed
  pub not_led : (k : ℕ) (l : List ℕ) → ¬ Leads start l (own_class shapes s k) → Pass shapes s start (Followed shapes s start k) l l false
  not_led k l n = skipped (Followed shapes s start k) l (λ a o. absurd (n o))

  pub followed : (k : ℕ) {l m : List ℕ} {r : Bool} → Pass shapes s start (UpTo (PartMarked shapes s k) (many_at shapes k)) l m r → Pass shapes s start (Followed shapes s start k) l m r
  followed k p = record { steps = p.steps; falls = p.falls; quiet = λ e. ((p.quiet e).0, λ a o. (p.quiet e).1) }

  -- the last round
  pub last_round : {l m n : List ℕ} (r : Bool) → r ≡ false → Steps shapes s start l m → Pass shapes s start (UpTo (Followed shapes s start) 30) m n r → AllFollowed shapes s start l n
  last_round {l = l} {m = m} r e a p = let (same, quiet) = p.quiet e in subst (AllFollowed shapes s start l) (sym same) (record { steps = a; all = quiet })

-- ---- what is marked is needed

module _ (shapes : List ℕ) (s : State) where
  module _ (rows : ℕ) where
    -- the first n rows are marked, and only what is needed
    record Sound (n : ℕ) (l : List ℕ) : Type 0 where
      long : length l ≡ 96
      only : (c : ℕ) → c < 96 → Marked l c → Needed shapes s rows c
      rows_marked : (i : ℕ) → i < n → Marked l (class_of s i)
      bits : (c : ℕ) → (get_or l c 0 ≡ 0) ⊎ (get_or l c 0 ≡ 1)

    mark_sound : (n c : ℕ) (l : List ℕ) → Needed shapes s rows c → Sound n l → Sound n (set l c 0)
    mark_sound n c l need w =
        record {
          long = length-set l c 0 ∙ w.long;
          only = λ d h e. either (λ q. w.only d h (sym q ∙ e)) (λ q. subst (Needed shapes s rows) (sym q.0) need) (set_cases l c 0 d);
          rows_marked = λ i h. mark_keeps l c (class_of s i) (w.rows_marked i h);
          bits = λ d. set_ind (λ x. (x ≡ 0) ⊎ (x ≡ 1)) l c 0 d (inl refl) (λ q. inl refl) (w.bits d);
        }

    none_sound : Sound 0 no_marks
    unfolding no_marks
    none_sound =
        record {
          long = length-replicate {A = ℕ} 96 1;
          only = λ c h e. absurd (omega (arith, e, get_or-replicate {A = ℕ} 96 c 1 0 h));
          rows_marked = λ i h. absurd (omega arith);
          bits = λ c. by_test (ltb c 96) (λ t. inr (get_or-replicate {A = ℕ} 96 c 1 0 (ltb-true _ _ t)))
              (λ t. inl (get_or-eq_default (replicate {A = ℕ} 96 1) 0 {n = c} (omega (arith, length-replicate {A = ℕ} 96 1, ltb-false c 96 t))));
        }

    rows_sound : (n : ℕ) → n ≤ rows → Sound n (row_marks s.classes n no_marks)
    unfolding row_marks
    rows_sound zero h = none_sound
    rows_sound (suc n) h = next (mark_sound n c l (of_row n (omega arith) refl) (rows_sound n (omega arith)))
      where
        c : ℕ
        c = class_of s n

        l : List ℕ
        l = row_marks s.classes n no_marks

        next : Sound n (set l c 0) → Sound (suc n) (set l c 0)
        next w =
            record {
              long = w.long;
              only = w.only;
              rows_marked = λ i h. by_test (ltb i n) (λ t. w.rows_marked i (ltb-true _ _ t))
                  (λ t. let z : n ≡ i = omega (arith, ltb-false i n t) in subst (λ (j : ℕ). Marked (set l c 0) (class_of s j)) z (marked-here l c));
              bits = w.bits;
            }

    module _ (inside : (x : ℕ) → class_of s x < 96) where
      -- no class to start from: what leads is marked
      led : (l : List ℕ) (c : ℕ) → Leads None l c → Marked l c
      led l c (inl e) = e
      led l c (inr e) = absurd (false≢true (ap is_some e))

      steps_sound : (n : ℕ) {l m : List ℕ} → Steps shapes s None l m → Sound n l → Sound n m
      steps_sound n done w = w
      steps_sound n (then {next = m} a k p hk hp e o) w =
          let v : Sound n m = steps_sound n a w in
          mark_sound n (part_class shapes s k p) m (of_part k p hk hp e (v.only (own_class shapes s k) (inside _) (led m (own_class shapes s k) o)) refl) v

      -- where nothing is left to mark, all that is needed is marked
      marks-done : (l : List ℕ) → AllFollowed shapes s None (row_marks s.classes rows no_marks) l → Marks shapes s rows l
      marks-done l f = record { long = w.long; only = w.only; each = λ c need. each need; bits = w.bits }
        where
          w : Sound rows l
          w = steps_sound rows f.steps (rows_sound rows (omega arith))

          each : {c : ℕ} → Needed shapes s rows c → Marked l c
          each (of_row i h q) = subst (Marked l) q (w.rows_marked i h)
          each (of_part k p hk hp e need q) = subst (Marked l) q (f.all k hk e (inl (each need)) p hp)

      pub needed_marks : {m n : List ℕ} → m ≡ row_marks s.classes rows (replicate 96 1) → AllFollowed shapes s None m n → Marks shapes s rows n
      unfolding no_marks
      needed_marks {n = n} e f = marks-done n (subst (λ (m : List ℕ). AllFollowed shapes s None m n) e f)
