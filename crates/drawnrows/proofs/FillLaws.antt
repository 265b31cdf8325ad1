-- A message at one position and defaults at the others: what stands at each position, and of which type. Assumes nothing.
use mathlib.Core.Path.{◌≡◌, refl, ap, sym, ◌∙◌, subst}
use mathlib.Core.List.{List, [], ◌∷◌, map}
use Prim.Native.Nat.{ℕ, zero, suc, ◌≤◌, ◌<◌}
use native.Mathlib.Omega.{arith}
use lib.Dec.{eqb}
use lib.ListN.{length, get_or}
use borrow.Author.Tests.{eqb-true, eqb-false}
use Rattle.laws.specs.Lists.{from}
use Rattle.laws.proofs.Bools.{by_test}
use Rattle.laws.proofs.Lists.{map-length}
use Rattle.guard.specs.Message.{Message, no_message}
use Rattle.guard.specs.Shown.{message_type}
use Rattle.guard.specs.Types.{Types, Variant, default_of}
use Rattle.guard.proofs.MessageLaws.{message_size}
use Rattle.rowstore.proofs.RowLaws.{belongs-type}
use Rattle.growth.proofs.Grow.{fill}
use Rattle.growth.proofs.Growth.{TypesAccepted, default_of-belongs}
use Rattle.drawnrows.specs.Drawing.{default_sizes}

module _ (def : ℕ → Message) where
  pub fill_length : (fs : List ℕ) (c : ℕ) (m : Message) → length (fill def fs c m) ≡ length fs
  fill_length [] c m = refl
  fill_length (f ∷ fs) zero m = ap suc (map-length def fs)
  fill_length (f ∷ fs) (suc c) m = ap suc (fill_length fs c m)

  -- no such field
  pub fill_past : (fs : List ℕ) (c : ℕ) (m : Message) → length fs ≤ c → fill def fs c m ≡ map def fs
  fill_past [] c m h = refl
  fill_past (f ∷ fs) zero m h = absurd (omega arith)
  fill_past (f ∷ fs) (suc c) m h = ap (λ (l : List Message). def f ∷ l) (fill_past fs c m (omega arith))

  pub fill_given : (fs : List ℕ) (c : ℕ) (m d : Message) → c < length fs → get_or (fill def fs c m) c d ≡ m
  fill_given [] c m d h = absurd (omega arith)
  fill_given (f ∷ fs) zero m d h = refl
  fill_given (f ∷ fs) (suc c) m d h = fill_given fs c m d (omega arith)

  map_other : (fs : List ℕ) (q : ℕ) (d : Message) → q < length fs → get_or (map def fs) q d ≡ def (get_or fs q 0)
  map_other [] q d h = absurd (omega arith)
  map_other (f ∷ fs) zero d h = refl
  map_other (f ∷ fs) (suc q) d h = map_other fs q d (omega arith)

  pub fill_other : (fs : List ℕ) (c q : ℕ) (m d : Message) → q < length fs → ¬ (q ≡ c) → get_or (fill def fs c m) q d ≡ def (get_or fs q 0)
  fill_other [] c q m d h n = absurd (omega arith)
  fill_other (f ∷ fs) zero zero m d h n = absurd (n refl)
  fill_other (f ∷ fs) zero (suc q) m d h n = map_other fs q d (omega arith)
  fill_other (f ∷ fs) (suc c) zero m d h n = refl
  fill_other (f ∷ fs) (suc c) (suc q) m d h n = fill_other fs c q m d (omega arith) (λ e. n (ap suc e))

-- each part is of its field's type
pub fill_typed : (ts : Types) → TypesAccepted ts → (fs : Variant) → ((q : ℕ) → q < length fs → get_or fs q 0 < length ts) → (c : ℕ) (m : Message) → (c < length fs → message_type m ≡ get_or fs c 0)
    → (q : ℕ) → q < length fs → message_type (get_or (fill (default_of ts) fs c m) q no_message) ≡ get_or fs q 0
fill_typed ts ok fs small c m given q h =
    by_test (eqb q c)
    (λ b. let e : q ≡ c = eqb-true q c b in
    subst (λ (k : ℕ). message_type (get_or (fill (default_of ts) fs c m) k no_message) ≡ get_or fs k 0) (sym e) (let l : c < length fs = omega arith in ap message_type (fill_given (default_of ts) fs c m no_message l) ∙ given l))
    (λ b. ap message_type (fill_other (default_of ts) fs c q m no_message h (eqb-false q c b)) ∙ belongs-type ts (default_of ts (get_or fs q 0)) (get_or fs q 0) (default_of-belongs ts ok (get_or fs q 0) (small q h)))

-- a default of a field is no larger than all together
pub default-size : (ts : Types) (fs : Variant) (q : ℕ) → q < length fs → message_size (default_of ts (get_or fs q 0)) ≤ default_sizes ts fs
default-size ts [] q h = absurd (omega arith)
default-size ts (f ∷ fs) zero h = omega arith
default-size ts (f ∷ fs) (suc q) h = omega (arith, default-size ts fs q (omega arith))
