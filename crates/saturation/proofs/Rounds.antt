-- The families one after the other, until one changes something; and such rounds until none does. Assumes nothing.
use mathlib.Core.Path.{◌≡◌, refl, sym, ◌∙◌, subst}
use mathlib.Core.Bool.{Bool, true, false, false≢true}
use mathlib.Core.List.Memᴰ
use mathlib.Core.List.{List, ◌++◌}
use Prim.Native.Nat.{ℕ, ◌<◌}
use native.Mathlib.Omega.{arith}
use borrow.Author.Tests.{ltb-true}
use Rattle.std.specs.Borrow.{Bor}
use Rattle.guard.specs.Closure.{State}
use Rattle.passes.specs.Pass.{Due, Pass, Saturated, Steps}
use Rattle.passes.proofs.PassLaws.{second-tells, steps-more, steps_on}
use Rattle.congruence.specs.Due.{shapes_due}
use Rattle.reads.specs.Due.{defaults_due, reads_due}
use Rattle.singles.specs.Due.{StopsBy, singles_due}
use Rattle.loops.specs.Lowest.{lowest}
use Rattle.loops.proofs.Loops.{any_here, lowest-any}
use Rattle.reasons.specs.Reasons.{empty_at}
use Rattle.saturation.specs.Due.{Settled, all_due}

-- a pass that changed something will do, whatever else is due
changed_first : {due : Due} (also : Due) {s s' : State} {r : Bool} → r ≡ true → Pass due s s' r → Pass (λ x. due x ++ also x) s s' true
changed_first also e p =
    record { steps = steps-more (λ x f m. Memᴰ.append_left (also x) m) p.steps; falls = λ t. p.falls e; quiet = λ t. absurd (false≢true (sym t)) }

module _ (shapes reads sorts fieldless : List ℕ) where
  abbrev two : Due
  two x = defaults_due reads x ++ singles_due sorts fieldless x

  abbrev three : Due
  three x = two x ++ shapes_due shapes x

  pub by-defaults : {s s₁ : State} (a : Bool) → Pass (defaults_due reads) s s₁ a → a ≡ true → Pass (all_due shapes reads sorts fieldless) s s₁ true
  unfolding all_due
  by-defaults a p e = changed_first (reads_due reads) refl (changed_first (shapes_due shapes) refl (changed_first (singles_due sorts fieldless) e p))

  module _ {s s₁ s₂ : State} (a : Bool) (p : Pass (defaults_due reads) s s₁ a) (none : a ≡ false) where
    -- the terms of one variant, as far as the pass over them comes
    pub by_stop : Steps (singles_due sorts fieldless) s₁ s₂ → Steps (all_due shapes reads sorts fieldless) s s₂
    unfolding all_due
    by_stop q =
        steps-more (λ x f m. Memᴰ.append_left (reads_due reads x) (Memᴰ.append_left (shapes_due shapes x) (Memᴰ.append_right (defaults_due reads x) m)))
        (subst (λ (z : State). Steps (singles_due sorts fieldless) z s₂) (p.quiet none).0 q)

    module _ (b : Bool) (q : Pass (singles_due sorts fieldless) s₁ s₂ b) where
      pub by_singles : b ≡ true → Pass (all_due shapes reads sorts fieldless) s s₂ true
      unfolding all_due
      by_singles e = changed_first (reads_due reads) refl (changed_first (shapes_due shapes) e (second-tells a b p q none))

      module _ {s₃ : State} (c : Bool) (none' : b ≡ false) (t : Pass (shapes_due shapes) s₂ s₃ c) where
        all_three : Pass three s s₃ c
        all_three = second-tells b c (second-tells a b p q none) t none'

        pub by-shapes : c ≡ true → Pass (all_due shapes reads sorts fieldless) s s₃ true
        unfolding all_due
        by-shapes e = changed_first (reads_due reads) e all_three

        pub by_reads : {s₄ : State} (d : Bool) → c ≡ false → Pass (reads_due reads) s₃ s₄ d → Pass (all_due shapes reads sorts fieldless) s s₄ d
        unfolding all_due
        by_reads d none'' u = second-tells c d all_three u none''

-- ---- rounds

module _ {shapes reads sorts full fieldless : List ℕ} where
  -- without an empty label all that is due holds
  pub saturated : {s s' : State} → Settled shapes reads sorts full fieldless s s' → lowest (empty_at sorts full s') 78 ≡ 78 → Saturated (all_due shapes reads sorts fieldless) s s'
  saturated t e = record { steps = t.steps; quiet = t.quiet e }

  -- the last round came to a term at which a call says that it stops, as it does at empty labels
  pub settled_empty : {s s' s'' : State} (post : Bor State → ℕ → Bool → Type 0) (x : ℕ) → ((r : Bor State) (b : Bool) → x < 78 → post r x b → b ≡ empty_at sorts full r.now x)
      → Steps (all_due shapes reads sorts fieldless) s s' → Steps (all_due shapes reads sorts fieldless) s' s'' → x < 78 → StopsBy post s'' x → Settled shapes reads sorts full fieldless s s''
  settled_empty {s'' = s''} post x same p q h t = record { steps = steps_on p q; quiet = λ e. absurd (omega (arith, e, low)) }
    where
      empty : empty_at sorts full s'' x ≡ true
      empty = subst (λ (z : State). empty_at sorts full z x ≡ true) t.shows (sym (same t.shown true h t.says))

      low : lowest (empty_at sorts full s'') 78 < 78
      low = ltb-true _ 78 (lowest-any (empty_at sorts full s'') 78 ∙ sym (any_here (empty_at sorts full s'') 78 x h empty))
