-- Each caller's limits are among those for which everything is proved, and its rows suffice. Assumes nothing.
use mathlib.Core.Path.{◌≡◌, refl, ap, sym, ◌∙◌}
use mathlib.Core.Bool.{Bool, true, false, ◌&&◌, cond}
use mathlib.Core.List.{List}
use Prim.Native.Nat.{ℕ, ◌+◌, ◌*◌, ◌≤◌, ◌<◌, min}
use native.Mathlib.Nat.{mul-le-mul}
use native.Mathlib.Omega.{arith}
use lib.Dec.{leb}
use borrow.Author.Tests.{le-leb, leb-true, lt-leb}
use Rattle.laws.proofs.Bools.{and_both, and_left, and_right, by_test}
use Rattle.guard.specs.File.{file}
use Rattle.guard.specs.Limits.{Supported, row_buffer}
use Rattle.reader.specs.Reader.{in_tables, limits_of}
use Rattle.messages.specs.Messages.{rows_enough}
use Rattle.messages.proofs.FewRows.{rows-small}
use Rattle.decidewithin.specs.CallerLimits.{limits_for, rows_sufficing}

-- a larger guard needs no fewer rows
pub rows_rise : (a b c d : ℕ) → a ≤ c → b ≤ d → rows_enough a b ≤ rows_enough c d
rows_rise a b c d h k =
    let m : (3 * a + 29) * (3 * b) ≤ (3 * c + 29) * (3 * d) = mul-le-mul {n₁ = 3 * a + 29} {m₁ = 3 * b} {n₂ = 3 * c + 29} {m₂ = 3 * d} (omega arith) (omega arith) in
    omega (arith, m)

-- limits for which rows suffice
pub rows_suffice : (types terms : ℕ) → types ≤ 6 → terms ≤ 24 → rows_enough types terms ≤ rows_sufficing types terms
rows_suffice types terms h k = go (leb types 3 && leb terms 8) refl
  where
    go : (b : Bool) → (leb types 3 && leb terms 8) ≡ b → rows_enough types terms ≤ cond b 1024 4096
    go true e =
        let m : rows_enough types terms ≤ rows_enough 3 8 = rows_rise types terms 3 8 (leb-true types 3 (and_left (leb types 3) _ e)) (leb-true terms 8 (and_right (leb types 3) _ e)) in
        omega (arith, m)
    go false e = rows-small types terms h k

module _ (types terms lines : ℕ) where
  pub caller_supported : Supported (limits_for types terms lines)
  caller_supported = record { types = omega arith; terms = omega arith; lines = omega arith }

  pub caller_rows : rows_enough (min types 6) (min terms 24) ≤ rows_sufficing (min types 6) (min terms 24)
  caller_rows = rows_suffice (min types 6) (min terms 24) (omega arith) (omega arith)

  -- what is read doesn't depend on the buffers
  pub caller_tables : (bytes : List ℕ) → in_tables (file (limits_for types terms lines)) bytes ≡ in_tables (file (limits_of types terms lines)) bytes
  unfolding file
  caller_tables bytes = refl

-- ---- the length of the row buffer

abbrev buffer : Bool → ℕ
buffer b = 4 * cond b 1024 4096

module _ (types terms : ℕ) where
  abbrev is_small : Bool
  is_small = leb (min types 6) 3 && leb (min terms 24) 8

  pub many-types : 3 < types → 16384 ≡ row_buffer (limits_for types terms 0)
  many-types h = ap (λ (b : Bool). buffer (b && leb (min terms 24) 8)) (sym (lt-leb (min types 6) 3 (omega arith)))

  pub many-terms : 8 < terms → 16384 ≡ row_buffer (limits_for types terms 0)
  many-terms h =
      by_test (leb (min types 6) 3)
      (λ e. ap buffer (sym (ap (λ (b : Bool). b && leb (min terms 24) 8) e ∙ lt-leb (min terms 24) 8 (omega arith))))
      (λ e. ap buffer (sym (ap (λ (b : Bool). b && leb (min terms 24) 8) e)))

  pub few_of_both : types ≤ 3 → terms ≤ 8 → 4096 ≡ row_buffer (limits_for types terms 0)
  few_of_both h k = ap buffer (sym (and_both (leb (min types 6) 3) (leb (min terms 24) 8) (le-leb (min types 6) 3 (omega arith)) (le-leb (min terms 24) 8 (omega arith))))
