-- The active slots of an array of shapes are those of the builds of a table at a state. The array and the table are any two with
-- `ShapeSlots`. Assumes nothing.
use mathlib.Core.Path.{◌≡◌, refl, ap₂, sym, ◌∙◌}
use mathlib.Core.Bool.{true, not}
use mathlib.Core.List.Memᴰ
use mathlib.Core.List.{List, [], ◌∷◌, Memᴰ}
use Prim.Native.Nat.{ℕ, ◌-◌, ◌^◌, ◌<◌}
use native.Mathlib.Omega.{arith}
use lib.Bits.{and_zero_r, bit_and}
use lib.Dec.{eqb}
use borrow.Author.Tests.{eq-eqb, eqb-true}
use Rattle.laws.specs.Lists.{concat_map}
use Rattle.laws.proofs.Bools.{and_both, and_left, and_right}
use Rattle.laws.proofs.Lists.{all_mem, mem_concat_map}
use Rattle.guard.specs.Closure.{State, alone, builds_at, every_variant, label_of, read_build}
use Rattle.guard.specs.Terms.{Build, Table, as_build}
use Rattle.guard.proofs.ClosureBelow.{all-builds}
use Rattle.guard.proofs.ClosureState.{Small}
use Rattle.arrays.specs.Slots.{active, kind_at, others_at, owner_at}
use Rattle.arrays.proofs.DueLaws.{is_nonzero, mem_when, nonzero_is}
use Rattle.arrays.proofs.MaskLaws.{gone_others, others_gone}
use Rattle.arrays.proofs.TableSlots.{ShapeSlot, ShapeSlots, Shaped, Shaped.of_build, Shaped.of_read}

module _ (t : Table) (array : List ℕ) (slots : ShapeSlots t array) (s : State) (small : Small s) where
  module _ (k : ℕ) where
    -- what the label of the slot's term still has of other variants
    left : ℕ
    left = bit_and (label_of s (owner_at array k)) (others_at array k)

    active-is : active array s k ≡ true → (¬ (kind_at array k ≡ 0)) × (left ≡ 0)
    unfolding active left
    active-is e =
        (nonzero_is (kind_at array k) (and_left (not (eqb (kind_at array k) 0)) _ e), eqb-true _ _ (and_right (not (eqb (kind_at array k) 0)) _ e))

    is-active : (b : Build) → ShapeSlot t array k b → left ≡ 0 → active array s k ≡ true
    unfolding active left
    is-active b y e = and_both _ _ (is_nonzero (kind_at array k) (λ z. omega (arith, z, y.kind))) (eq-eqb _ _ e)

    left_is : (a o : ℕ) → owner_at array k ≡ a → others_at array k ≡ o → left ≡ bit_and (label_of s a) o
    unfolding left
    left_is a o e q = ap₂ (λ (x m : ℕ). bit_and (label_of s x) m) e q

  -- slot k is of a build at the state
  pub record BuildSlot (k : ℕ) : Type 0 where
    pub build : Build
    pub among : Memᴰ build (builds_at t s)
    pub slot : ShapeSlot t array k build

  pub active-build : (k : ℕ) → k < 30 → active array s k ≡ true → BuildSlot k
  active-build k h e = let (n, q) = active-is k e in go q (slots.found k h n)
    where
      go : left k ≡ 0 → Shaped t array k → BuildSlot k
      go q (of_build b m y o) = record { build = b; among = Memᴰ.append_left (concat_map (read_build s) t.reads) m; slot = y }
      go q (of_read r m y o) =
          record {
            build = as_build r;
            among =
                Memᴰ.append_right t.builds (mem_concat_map (read_build s) t.reads m (mem_when (alone s r.term r.variant) (as_build r ∷ [])
                (others_gone s small r.term r.variant y.variant_fits (sym (left_is k r.term (every_variant - 2 ^ r.variant) y.owner o) ∙ q)) (Memᴰ.head refl)));
            slot = y;
          }

  -- the build has an active slot
  pub record ActiveSlot (b : Build) : Type 0 where
    pub place : ℕ
    pub inside : place < 30
    pub is_active : active array s place ≡ true
    pub slot : ShapeSlot t array place b

  pub build-active : (b : Build) → Memᴰ b (builds_at t s) → ActiveSlot b
  build-active = all_mem (all-builds t s
      (λ b m. let (k, h, y, o) = slots.slot_build b m in
      record { place = k; inside = h; is_active = is-active k b y (left_is k b.term 0 y.owner o ∙ and_zero_r (label_of s b.term)); slot = y })
      (λ r m e. let (k, h, y, o) = slots.slot_read r m in
      record {
        place = k;
        inside = h;
        is_active = is-active k (as_build r) y (left_is k r.term (every_variant - 2 ^ r.variant) y.owner o ∙ gone_others s small r.term r.variant y.variant_fits e);
        slot = y;
      }))
