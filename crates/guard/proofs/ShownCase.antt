-- What document 01 prints for file c meets the record of shown messages: one row, nil, for both terms. And rows of numbers
-- (document 02, #104). Assumes nothing.
use mathlib.Core.Path.{◌≡◌, refl, subst}
use mathlib.Core.Bool.{true, false}
use mathlib.Core.List.{List, [], ◌∷◌, map}
use Prim.Native.Nat.{ℕ, zero, suc, ◌<◌}
use native.Mathlib.Omega.{arith}
use lib.ListN.{get_or}
use lib.IntN.{ℤ, pos, negsuc}
use Rattle.guard.specs.Cases.{file_c}
use Rattle.guard.specs.File.{file}
use Rattle.guard.specs.Guard.{Guard, Literal.equal, Row.field, Row.variable, row_at}
use Rattle.guard.specs.Limits.{base}
use Rattle.guard.specs.Meaning.{Belongs}
use Rattle.guard.specs.Message.{Message.number}
use Rattle.guard.specs.Number.{Parsed.accepted}
use Rattle.guard.specs.Shown.{Reached, Reached.place, Shows, decode, decode_row, is_below, row_fits, row_numbers, shown}
use Rattle.guard.specs.Types.{Types}

abbrev pub guard_c : Guard
guard_c = record { types = [] ∷ ([] ∷ (0 ∷ 1 ∷ []) ∷ []) ∷ []; rows = variable 1 ∷ field 1 0 1 1 ∷ []; literals = equal 0 1 ∷ [] }

is-file_c : file base file_c ≡ accepted guard_c []
unfolding file
is-file_c = refl

abbrev pub rows_c : List ℤ
rows_c = pos 16 ∷ pos 0 ∷ pos 0 ∷ pos 0 ∷ pos 0 ∷ []

abbrev pub places_c : List ℤ
places_c = pos 0 ∷ pos 0 ∷ pos 0 ∷ []

pub shows_c : Shows base guard_c 1 rows_c places_c
shows_c =
    record {
      few = omega arith;
      fit = fits;
      apart = λ i j hi hj e. omega arith;
      reached = λ i h. let e : 0 ≡ i = omega arith in subst (Reached guard_c rows_c places_c) e (place 0 (omega arith));
      placed = places;
      valued = refl;
      holds = record { assigns = record { belongs = typed }; literals = (refl, tt) };
      rest_rows = refl;
      rest_places = refl;
    }
  where
    fits : (i : ℕ) → i < 1 → row_fits guard_c.types (decode guard_c.types rows_c i) i (row_numbers rows_c i) ≡ true
    fits zero h = refl
    fits (suc i) h = absurd (omega arith)

    places : (i : ℕ) → i < 2 → is_below 1 (get_or places_c i (pos 0)) ≡ true
    places zero h = refl
    places (suc zero) h = refl
    places (suc (suc i)) h = absurd (omega arith)

    typed : (i t : ℕ) → row_at guard_c.rows i ≡ variable t → Belongs guard_c.types (shown guard_c 1 rows_c places_c i) t
    typed zero t e = let z : 1 ≡ t = cc in subst (Belongs guard_c.types (shown guard_c 1 rows_c places_c 0)) z (refl, omega arith, tt)
    typed (suc zero) t e = let z : ◌≡◌ {A = ℕ} 0 1 = cc in absurd (omega arith)
    typed (suc (suc i)) t e = let z : ◌≡◌ {A = ℕ} 0 1 = cc in absurd (omega arith)

-- ---- rows of numbers

-- a row of a number of type 0, and its value
abbrev number_row : ℤ → ℤ → List ℤ
number_row low high = negsuc 0 ∷ low ∷ high ∷ pos 0 ∷ []

abbrev number_types : Types
number_types = [] ∷ []

pub number-rows
    : map (decode_row number_types []) (number_row (pos 4) (pos 0) ∷ number_row (negsuc 2) (negsuc 0) ∷ number_row (negsuc 0) (pos 0) ∷ number_row (negsuc 0) (pos 2147483647) ∷ number_row (pos 0) (negsuc 2147483647) ∷ [])
    ≡ map (number 0) (pos 4 ∷ negsuc 2 ∷ pos 4294967295 ∷ pos 9223372036854775807 ∷ negsuc 9223372036854775807 ∷ [])
number-rows = refl

-- a low number beyond 32 bits doesn't fit, and neither does a fourth number that is not 0
pub number-rows-fit
    : map (row_fits number_types [] 0) (number_row (negsuc 2) (negsuc 0) ∷ number_row (pos 2147483648) (pos 0) ∷ (negsuc 0 ∷ pos 4 ∷ pos 0 ∷ pos 1 ∷ []) ∷ []) ≡ true ∷ false ∷ false ∷ []
number-rows-fit = refl
