-- The form of a number of 64 bits, by its last byte and its count. Assumes nothing.
use mathlib.Core.Path.{◌≡◌, refl, ap, sym, ◌∙◌}
use mathlib.Core.Bool.{Bool, true, false, not, ◌&&◌, ◌||◌, and-true, and-false}
use mathlib.Core.List.{List}
use Prim.Native.Nat.{ℕ, ◌-◌, ◌≤◌, ◌<◌}
use native.Mathlib.Omega.{arith}
use lib.Dec.{leb, eqb}
use lib.ListN.{length, get_or}
use borrow.Author.Tests.{eq-eqb, le-leb, le-ltb, lt-leb, lt-ltb, ne_eqb}
use Rattle.guard.specs.Number.{value_of_groups, well_formed, width64}
use Rattle.leb128.proofs.Form.{formed-is, tested}
use Rattle.values.proofs.Halves.{fits-short}

module _ (l : List ℕ) (some : 0 < length l) where
  abbrev byte : ℕ
  byte = get_or l (length l - 1) 0

  abbrev small : Bool
  small = leb (value_of_groups l) 18446744073709551615

  form : tested width64 byte (value_of_groups l) (length l) ≡ well_formed width64 l
  form = formed-is width64 l (value_of_groups l) some refl

  pub formed-more : 128 ≤ byte → false ≡ well_formed width64 l
  formed-more h = sym (ap (λ (t : Bool). t && (small && (leb (length l) 1 || not (eqb byte 0)))) (le-ltb byte 128 h)) ∙ form

  module _ (end : byte < 128) where
    -- the first test with a yes: the other two
    ended : (one zero : Bool) → leb (length l) 1 ≡ one → eqb byte 0 ≡ zero → (small && (one || not zero)) ≡ well_formed width64 l
    ended one zero e f =
        sym (ap (λ (t : Bool). t && (small && (leb (length l) 1 || not (eqb byte 0)))) (lt-ltb byte 128 end)
        ∙ ap (λ (t : Bool). small && (t || not (eqb byte 0))) e
        ∙ ap (λ (t : Bool). small && (one || not t)) f)
        ∙ form

    pub formed-one : length l ≤ 1 → true ≡ well_formed width64 l
    formed-one h = fits-short l (omega arith) ∙ sym (and-true small) ∙ ended true (eqb byte 0) (le-leb (length l) 1 h) refl

    module _ (long : 1 < length l) where
      pub formed_overlong : byte ≡ 0 → false ≡ well_formed width64 l
      formed_overlong z = sym (and-false small) ∙ ended false true (lt-leb (length l) 1 long) (eq-eqb byte 0 z)

      pub formed-fits : ¬ (byte ≡ 0) → small ≡ well_formed width64 l
      formed-fits n = sym (and-true small) ∙ ended false false (lt-leb (length l) 1 long) (ne_eqb byte 0 n)
