-- Two tests, by what one of them says. Assumes nothing.
use mathlib.Core.Path.{◌≡◌, refl, ap, sym, ◌∙◌}
use mathlib.Core.Bool.{Bool, true, false, ◌&&◌}

-- a conjunction, by one of its sides
pub and_no : {b : Bool} (a : Bool) → b ≡ false → false ≡ (a && b)
and_no true e = sym e
and_no false e = refl

pub no_and : {a : Bool} (b : Bool) → a ≡ false → false ≡ (a && b)
no_and b e = ap (λ (a : Bool). a && b) (sym e)

pub and_yes : {b : Bool} (a : Bool) → b ≡ true → a ≡ (a && b)
and_yes true e = sym e
and_yes false e = refl

pub yes_and : {a : Bool} (b : Bool) → a ≡ true → b ≡ (a && b)
yes_and b e = ap (λ (a : Bool). a && b) (sym e)

-- the first test holds, so the second decides
pub second_decides : (a b c : Bool) → a ≡ true → b ≡ c → (a && b) ≡ c
second_decides a b c e h = ap (λ (d : Bool). d && b) e ∙ h
