-- The form of a number, tested on its last byte, its value and its count. Assumes nothing.
use mathlib.Core.Path.{◌≡◌, refl, sym, ap, ap₂, ◌∙◌}
use mathlib.Core.Bool.{Bool, not, ◌&&◌, ◌||◌}
use mathlib.Core.List.{List, [], ◌∷◌}
use Prim.Native.Nat.{ℕ, ◌-◌, ◌<◌}
use native.Mathlib.Omega.{arith}
use lib.Dec.{leb, ltb, eqb}
use lib.ListN.{length, get_or}
use Rattle.laws.specs.Lists.{last}
use Rattle.guard.specs.Number.{Width, value_of_groups, well_formed}

last-at : (b : ℕ) (bs : List ℕ) → last bs b ≡ get_or (b ∷ bs) (length bs) 0
last-at b [] = refl
last-at b (x ∷ bs) = last-at x bs

pub last_is : (l : List ℕ) → 0 < length l → last l 0 ≡ get_or l (length l - 1) 0
last_is [] h = refl
last_is (b ∷ bs) h = rw (last-at b bs) (grind arith)

-- the tests of the code, on the last byte, the value and the count
abbrev pub tested : Width → ℕ → ℕ → ℕ → Bool
tested w byte value count = ltb byte 128 && (leb value w.most && (leb count 1 || not (eqb byte 0)))

pub formed-is : (w : Width) (l : List ℕ) (value : ℕ) → 0 < length l → value ≡ value_of_groups l → tested w (get_or l (length l - 1) 0) value (length l) ≡ well_formed w l
formed-is w [] value h e = absurd (omega arith)
formed-is w (b ∷ bs) value h e =
    let n : length (b ∷ bs) - 1 ≡ length bs = omega arith in
    ap₂ (λ (x v : ℕ). tested w x v (length (b ∷ bs))) (ap (λ (i : ℕ). get_or (b ∷ bs) i 0) n ∙ sym (last-at b bs)) e
