-- Passes one after the other, over the entries of a list, and for a single fact. Assumes nothing.
use mathlib.Core.Path.{◌≡◌, refl, ap, sym, subst, ◌∙◌}
use mathlib.Core.Bool.{Bool, true, false, not, ◌||◌, false≢true}
use mathlib.Core.List.Memᴰ
use mathlib.Core.List.{List, [], ◌∷◌, ◌++◌, Memᴰ, append_assoc, append-nil}
use mathlib.Core.Logic.{◌⊎◌, inl, inr}
use Prim.Native.Nat.{ℕ, ◌+◌, ◌≤◌, ◌<◌}
use native.Mathlib.Nat.{zero-add}
use native.Mathlib.Numerals.{add-one}
use native.Mathlib.Omega.{arith}
use Rattle.laws.specs.All.{All, All.more, All.none}
use Rattle.laws.specs.Lists.{concat_map, from, when}
use Rattle.laws.proofs.Lists.{all_append, concat_map_cong, from_snoc}
use Rattle.guard.specs.Closure.{Fact, Fact.same, State, add, class_of, holds, merge_unless, same_class, size}
use Rattle.guard.specs.Guard.{Literal}
use Rattle.guard.specs.Terms.{Table}
use Rattle.guard.proofs.AnyOrder.{Follows, Reached, Reached.by-rules}
use Rattle.guard.proofs.ClosureEnds.{add_le, add_lt}
use Rattle.guard.proofs.ClosureState.{Keeps, add_keeps, keeps_refl, keeps_trans}
use Rattle.passes.specs.Pass.{Due, Pass, Steps, Steps.done, Steps.then}

-- ---- steps

module _ {s : State} where
  pub steps_on : {due : Due} {s' s'' : State} → Steps due s s' → Steps due s' s'' → Steps due s s''
  steps_on p done = p
  steps_on p (then q f m) = then (steps_on p q) f m

  pub steps-more : {due also : Due} → ((x : State) (f : Fact) → Memᴰ f (due x) → Memᴰ f (also x)) → {s' : State} → Steps due s s' → Steps also s s'
  steps-more g done = done
  steps-more g (then {s' = x} p f m) = then (steps-more g p) f (g x f m)

  -- what is due follows, so a state that is reached leads to one that is reached
  pub steps_reach : {due : Due} (t : Table) (ls : List Literal) (room : ℕ)
      → ((x : State) → Reached t ls room x → (f : Fact) → Memᴰ f (due x) → Follows t x f) → {s' : State} → Steps due s s' → Reached t ls room s → Reached t ls room s'
  steps_reach t ls room g done r = r
  steps_reach t ls room g (then {s' = x} p f m) r = let there = steps_reach t ls room g p r in by-rules there f (g x there f m)

  -- nothing that was said is taken back
  pub steps_keep : {due : Due} {s' : State} → Steps due s s' → Keeps s s'
  steps_keep done = keeps_refl s
  steps_keep (then {s' = x} p f m) = keeps_trans (steps_keep p) (add_keeps x f)

  pub steps_le : {due : Due} {s' : State} → Steps due s s' → size s' ≤ size s
  steps_le done = omega arith
  steps_le (then {s' = x} p f m) = omega (arith, steps_le p, add_le x f)

-- ---- passes

-- the same facts in other words
pub reworded : {due also : Due} {s s' : State} {b : Bool} → ((x : State) → due x ≡ also x) → Pass due s s' b → Pass also s s' b
reworded {s = s} e p =
    record {
      steps = steps-more (λ x f m. subst (λ (fs : List Fact). Memᴰ f fs) (e x) m) p.steps;
      falls = p.falls;
      quiet = λ h. ((p.quiet h).0, subst (All (λ f. holds s f ≡ true)) (e s) (p.quiet h).1);
    }

-- where all that is due holds, nothing has to be done
pub settled : (due : Due) (s : State) → All (λ f. holds s f ≡ true) (due s) → Pass due s s false
settled due s a = record { steps = done; falls = λ e. absurd (false≢true e); quiet = λ e. (refl, a) }

-- nothing is due here
pub skipped : (due : Due) (s : State) → due s ≡ [] → Pass due s s false
skipped due s e = record { steps = done; falls = λ h. absurd (false≢true h); quiet = λ h. (refl, subst (All (λ f. holds s f ≡ true)) (sym e) none) }

-- two terms are due here to be equal: they are made so, and whether that was new is told
pub made-same : (due : Due) (s : State) (i j : ℕ) → due s ≡ same i j ∷ [] → Pass due s (add s (same i j)) (not (holds s (same i j)))
made-same due s i j d =
    record {
      steps = then done (same i j) (subst (λ (fs : List Fact). Memᴰ (same i j) fs) (sym d) (Memᴰ.head refl));
      falls = λ e. add_lt s (same i j) (new (holds s (same i j)) e);
      quiet = λ e. still (same_class s i j) refl e;
    }
  where
    new : (b : Bool) → not b ≡ true → b ≡ false
    new true e = absurd (false≢true e)
    new false e = refl

    still : (b : Bool) → same_class s i j ≡ b → not b ≡ false → (merge_unless (same_class s i j) s (class_of s i) (class_of s j) ≡ s) × All (λ g. holds s g ≡ true) (due s)
    still true e n =
        (ap (λ (c : Bool). merge_unless c s (class_of s i) (class_of s j)) e, subst (All (λ g. holds s g ≡ true)) (sym d) (more e none))
    still false e n = absurd (false≢true (sym n))

-- two terms are due to be equal where a test says so
module _ (test : State → Bool) (i j : ℕ) (s : State) where
  pub not_due : test s ≡ false → Pass (λ x. when (test x) (same i j ∷ [])) s s false
  not_due e = skipped (λ x. when (test x) (same i j ∷ [])) s (ap (λ (b : Bool). when b (same i j ∷ [])) e)

  pub united : test s ≡ true → (s' : State) (r : Bool) → s' ≡ add s (same i j) → r ≡ not (holds s (same i j)) → Pass (λ x. when (test x) (same i j ∷ [])) s s' r
  united e s' r es er =
      let p : Pass (λ x. when (test x) (same i j ∷ [])) s (add s (same i j)) (not (holds s (same i j))) = made-same (λ x. when (test x) (same i j ∷ [])) s i j (ap (λ (b : Bool). when b (same i j ∷ [])) e) in
      rw (es, er) p

-- one pass and then another
module _ {due also : Due} {s s' s'' : State} (a b : Bool) (p : Pass due s s' a) (q : Pass also s' s'' b) where
  both_fall : (c d : Bool) → a ≡ c → b ≡ d → (c || d) ≡ true → size s'' < size s
  both_fall true d h k e = omega (arith, p.falls h, steps_le q.steps)
  both_fall false true h k e = omega (arith, steps_le p.steps, q.falls k)
  both_fall false false h k e = absurd (false≢true e)

  both-quiet : (c d : Bool) → a ≡ c → b ≡ d → (c || d) ≡ false → (s'' ≡ s) × All (λ f. holds s f ≡ true) (due s ++ also s)
  both-quiet true d h k e = absurd (false≢true (sym e))
  both-quiet false true h k e = absurd (false≢true (sym e))
  both-quiet false false h k e =
      let x = p.quiet h in
      let y = q.quiet k in
      (y.0 ∙ x.0, all_append x.1 (subst (λ (z : State). All (λ f. holds z f ≡ true) (also z)) x.0 y.1))

  pub both-passes : Pass (λ x. due x ++ also x) s s'' (a || b)
  both-passes =
      record {
        steps = steps_on (steps-more (λ x f m. Memᴰ.append_left (also x) m) p.steps) (steps-more (λ x f m. Memᴰ.append_right (due x) m) q.steps);
        falls = both_fall a b refl refl;
        quiet = both-quiet a b refl refl;
      }

  -- by the first alone where it changed something, by the second where it did not
  pub first_changed : a ≡ true → Pass (λ x. due x ++ also x) s s'' a
  first_changed e = subst (Pass (λ x. due x ++ also x) s s'') (ap (λ (c : Bool). c || b) e ∙ sym e) both-passes

  pub second-tells : a ≡ false → Pass (λ x. due x ++ also x) s s'' b
  second-tells e = subst (Pass (λ x. due x ++ also x) s s'') (ap (λ (c : Bool). c || b) e) both-passes

-- ---- over the entries of a list

module _ {E : Type 0} (due : E → Due) where
  -- what is due for all entries
  abbrev pub due_for : List E → Due
  due_for es x = concat_map (λ e. due e x) es

  due-last : (es : List E) (e : E) (x : State) → due_for es x ++ due e x ≡ due_for (es ++ (e ∷ [])) x
  due-last [] e x = sym (append-nil (due e x))
  due-last (d ∷ es) e x = append_assoc (due d x) (due_for es x) (due e x) ∙ ap (λ (fs : List Fact). due d x ++ fs) (due-last es e x)

  no-entries : (s : State) → Pass (due_for []) s s false
  no-entries s = skipped (due_for []) s refl

  -- nothing is due for any entry
  pub none-due : (es : List E) (s : State) → ((e : E) → Memᴰ e es → due e s ≡ []) → due_for es s ≡ []
  none-due es s h = concat_map_cong (λ e. due e s) (λ e. []) es h ∙ empty es
    where
      empty : (ds : List E) → ◌≡◌ {A = List Fact} (concat_map (λ (e : E). []) ds) []
      empty [] = refl
      empty (d ∷ ds) = empty ds

  next-entry : (es : List E) (e : E) {s s' s'' : State} (a b : Bool) → Pass (due_for es) s s' a → Pass (due e) s' s'' b → Pass (due_for (es ++ (e ∷ []))) s s'' (a || b)
  next-entry es e a b p q = reworded (due-last es e) (both-passes a b p q)

-- ---- in a loop over numbers that remembers whether anything changed

-- what is due for the first n numbers
abbrev pub up_to : (ℕ → Due) → ℕ → Due
up_to due n x = due_for due (from n 0) x

module _ (due : ℕ → Due) where
  pub none_yet : (s : State) → Pass (up_to due 0) s s false
  none_yet = no-entries due

  remembered : (a b c : Bool) → ((b ≡ true) × (c ≡ true)) ⊎ ((b ≡ false) × (c ≡ a)) → (a || b) ≡ c
  remembered true b c (inl (e, h)) = sym h
  remembered false b c (inl (e, h)) = e ∙ sym h
  remembered true b c (inr (e, h)) = sym h
  remembered false b c (inr (e, h)) = e ∙ sym h

  -- with `changed |= ..`
  pub one_more_or : (n : ℕ) {s s' s'' : State} (a b : Bool) → Pass (up_to due n) s s' a → Pass (due n) s' s'' b → Pass (up_to due (n + 1)) s s'' (a || b)
  one_more_or n a b p q =
      let e : from n 0 ++ (n ∷ []) ≡ from (n + 1) 0 = sym (ap (λ (k : ℕ). from k 0) (add-one n) ∙ from_snoc n 0 ∙ ap (λ (k : ℕ). from n 0 ++ (k ∷ [])) (zero-add n)) in
      reworded (λ x. ap (λ (es : List ℕ). due_for due es x) e) (next-entry due (from n 0) n a b p q)

  pub one_more : (n : ℕ) {s s' s'' : State} (a b c : Bool) → Pass (up_to due n) s s' a → Pass (due n) s' s'' b
      → ((b ≡ true) × (c ≡ true)) ⊎ ((b ≡ false) × (c ≡ a)) → Pass (up_to due (n + 1)) s s'' c
  one_more n {s = s} {s'' = s''} a b c p q w = subst (Pass (up_to due (n + 1)) s s'') (remembered a b c w) (one_more_or n a b p q)

  pub all_done : (n end : ℕ) {s s' : State} {b : Bool} → n ≤ end → end ≤ n → Pass (up_to due n) s s' b → Pass (up_to due end) s s' b
  all_done n end {s = s} {s' = s'} {b = b} l h p = let e : n ≡ end = omega arith in subst (λ (k : ℕ). Pass (up_to due k) s s' b) e p
