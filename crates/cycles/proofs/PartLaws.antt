-- What is marked from a class on is what is a part of it; and the search for the lowest term. Assumes nothing.
use mathlib.Core.Path.{◌≡◌, ap, refl, sym, subst, ◌∙◌}
use mathlib.Core.Bool.{Bool, true, false}
use mathlib.Core.List.{List}
use mathlib.Core.Logic.{inl, inr}
use Prim.Native.Nat.{ℕ, ◌<◌}
use native.Mathlib.Omega.{arith}
use lib.Dec.{eqb}
use lib.ListN.{get_or, get_or-replicate, set}
use Rattle.std.specs.Option.{unwrap_or}
use Rattle.std.specs.declared.option.Option.{Option}
use Rattle.std.specs.declared.option.Option.TheVariants.{None, Some}
use borrow.Author.Tests.{eqb-false, eqb-true}
use Rattle.laws.proofs.Bools.{either}
use Rattle.laws.proofs.Stores.{set_cases}
use Rattle.guard.specs.Closure.{State, class_of}
use Rattle.loops.specs.Lowest.{FirstPassing}
use Rattle.arrays.specs.Slots.{owner_at, sort_at}
use Rattle.needed.specs.Needed.{AllFollowed, Leads, Marked, Steps, Steps.done, Steps.then, no_marks, own_class, part_class}
use Rattle.cycles.specs.Cycles.{Inside, LowestOf, PartOf, PartOf.its_part, PartOf.of_part, Tells}

module _ (shapes : List ℕ) (s : State) (c : ℕ) (inside : (x : ℕ) → class_of s x < 96) where
  -- what is marked is a part
  abbrev OnlyParts : List ℕ → Type 0
  OnlyParts marks = (d : ℕ) → d < 96 → Marked marks d → PartOf shapes s c d

  none-marked : OnlyParts no_marks
  unfolding no_marks
  none-marked d h e = absurd (omega (arith, e, get_or-replicate {A = ℕ} 96 d 1 0 h))

  steps-parts : {l m : List ℕ} → Steps shapes s (Some c) l m → OnlyParts l → OnlyParts m
  steps-parts done w = w
  steps-parts (then {next = m} a k p hk hp e o) w = next (steps-parts a w)
    where
      new : OnlyParts m → Leads (Some c) m (own_class shapes s k) → PartOf shapes s c (part_class shapes s k p)
      new v (inl q) = of_part k p hk hp e (v (own_class shapes s k) (inside (owner_at shapes k)) q) refl
      new v (inr q) = its_part k p hk hp e (ap (λ (d : Option ℕ). unwrap_or d 0) (sym q)) refl

      next : OnlyParts m → OnlyParts (set m (part_class shapes s k p) 0)
      next v d h q = either (λ z. v d h (sym z ∙ q)) (λ z. subst (PartOf shapes s c) (sym z.0) (new v o)) (set_cases m (part_class shapes s k p) 0 d)

  module _ {m : List ℕ} (f : AllFollowed shapes s (Some c) no_marks m) where
    marked-part : OnlyParts m
    marked-part = steps-parts f.steps none-marked

    -- a part is marked
    part-marked : {d : ℕ} → PartOf shapes s c d → Marked m d
    part-marked (its_part k p hk hp e o q) = subst (Marked m) q (f.all k hk e (inr (ap Some (sym o))) p hp)
    part-marked (of_part k p hk hp e o q) = subst (Marked m) q (f.all k hk e (inl (part-marked o)) p hp)

-- ---- the answer at a term

module _ (shapes sorts : List ℕ) (s : State) (x : ℕ) where
  module _ (inside : (x : ℕ) → class_of s x < 96) (there : ¬ (sort_at sorts x ≡ 0)) (c : ℕ) (class : c ≡ class_of s x) {m : List ℕ} (f : AllFollowed shapes s (Some c) no_marks m) where
    pub told : Tells (Inside shapes sorts s x) (eqb (get_or m c 0) 0)
    told =
        record {
          yes = λ q. (there, subst (λ (d : ℕ). PartOf shapes s d d) class (marked-part shapes s c inside f c (omega (arith, class, inside x)) (eqb-true _ _ q)));
          no = λ q w. eqb-false (get_or m c 0) 0 q (part-marked shapes s c inside f (subst (λ (d : ℕ). PartOf shapes s d d) (sym class) w.1));
        }

-- ---- the search

-- calls that tell of a claim find the lowest number of which it holds
pub lowest_told : (Claim : ℕ → Type 0) (post : ℕ → Bool → Type 0) (n : ℕ) (r : Option ℕ) → ((k : ℕ) (b : Bool) → k < n → post k b → Tells (Claim k) b) → FirstPassing post n r → LowestOf Claim n r
lowest_told Claim post n None tells f = λ x h. (tells x false h (f x h)).no refl
lowest_told Claim post n (Some k) tells (l, t, f) = (l, (tells k true l t).yes refl, λ x h. (tells x false (omega arith) (f x h)).no refl)
