-- The parsers that know the rows before by their types are document 01's: a row is asked for its type alone. Assumes nothing.
use mathlib.Core.Path.{◌≡◌, refl, ap, sym, ◌∙◌}
use mathlib.Core.Bool.{not}
use mathlib.Core.List.{List, [], ◌∷◌, map}
use Prim.Native.Nat.{ℕ, zero, suc}
use lib.Dec.{eqb}
use lib.ListN.{length, get_or, get_or-map}
use Rattle.laws.proofs.Lists.{map-length}
use Rattle.guard.specs.File.{name, parts, row_of, variant_term}
use Rattle.guard.specs.Guard.{Row, Row.built, no_row, type_at, type_of}
use Rattle.guard.specs.Number.{Parsed, Parsed.accepted, Parsed.refused, Parser, ◌>>=◌, ◌>>◌, and_then, ask, return}
use Rattle.guard.specs.Types.{Types, Variant, fields_of, is_number, variants_of}
use Rattle.rowparts.specs.ByTypes.{built_of, field_of, parts_by, row_by, variant_term_by}

module _ {A B : Type 0} (f g : A → Parser B) (alike : (a : A) (bs : List ℕ) → f a bs ≡ g a bs) where
  then_same : (r : Parsed A) → and_then f r ≡ and_then g r
  then_same (refused q) = refl
  then_same (accepted a bs) = alike a bs

module _ (ts : Types) (rs : List Row) where
  -- the types of the rows
  abbrev us : List ℕ
  us = map (type_of ts) rs

  pub type-by : (p : ℕ) → type_at ts rs p ≡ get_or us p 0
  type-by p = sym (get_or-map (type_of ts) rs p no_row)

  name_by : (bs : List ℕ) → name (length rs) bs ≡ name (length us) bs
  name_by bs = ap (λ (n : ℕ). name n bs) (sym (map-length (type_of ts) rs))

  pub parts-by : (fs : Variant) (bs : List ℕ) → parts ts rs fs bs ≡ parts_by us fs bs
  parts-by [] bs = refl
  parts-by (f ∷ fs) bs =
      ap (and_then (λ p. ask 7 (eqb (type_at ts rs p) f) >> (parts ts rs fs >>= λ ps. return (p ∷ ps)))) (name_by bs)
      ∙ then_same (λ p. ask 7 (eqb (type_at ts rs p) f) >> (parts ts rs fs >>= λ ps. return (p ∷ ps)))
      (λ p. ask 7 (eqb (get_or us p 0) f) >> (parts_by us fs >>= λ ps. return (p ∷ ps))) (after-name (λ ds. parts-by fs ds)) (name (length us) bs)
    where
      after-name : ((ds : List ℕ) → parts ts rs fs ds ≡ parts_by us fs ds) → (p : ℕ) (cs : List ℕ) → (ask 7 (eqb (type_at ts rs p) f) >> (parts ts rs fs >>= λ ps. return (p ∷ ps))) cs
          ≡ (ask 7 (eqb (get_or us p 0) f) >> (parts_by us fs >>= λ ps. return (p ∷ ps))) cs
      after-name rest p cs =
          ap (λ (u : ℕ). (ask 7 (eqb u f) >> (parts ts rs fs >>= λ ps. return (p ∷ ps))) cs) (type-by p)
          ∙ then_same (λ (x : Unit {0}). parts ts rs fs >>= λ ps. return (p ∷ ps)) (λ (x : Unit {0}). parts_by us fs >>= λ ps. return (p ∷ ps))
          (λ x ds. ap (and_then (λ ps. return (p ∷ ps))) (rest ds)) (ask 7 (eqb (get_or us p 0) f) cs)

  pub variant-term-by : (bs : List ℕ) → variant_term ts rs bs ≡ variant_term_by ts us bs
  variant-term-by bs =
      ap (and_then (λ a. ask 7 (not (is_number ts (type_at ts rs a))) >> return a)) (name_by bs)
      ∙ then_same (λ a. ask 7 (not (is_number ts (type_at ts rs a))) >> return a) (λ a. ask 7 (not (is_number ts (get_or us a 0))) >> return a)
      (λ a cs. ap (λ (u : ℕ). (ask 7 (not (is_number ts u)) >> return a) cs) (type-by a)) (name (length us) bs)

  built-by : (t : ℕ) (bs : List ℕ) → (name (length (variants_of ts t)) >>= λ v. parts ts rs (fields_of ts t v) >>= λ ps. return (built t v ps)) bs ≡ built_of ts us t bs
  built-by t bs =
      then_same (λ v. parts ts rs (fields_of ts t v) >>= λ ps. return (built t v ps)) (λ v. parts_by us (fields_of ts t v) >>= λ ps. return (built t v ps))
      (λ v cs. ap (and_then (λ ps. return (built t v ps))) (parts-by (fields_of ts t v) cs)) (name (length (variants_of ts t)) bs)

  pub row-by : (k : ℕ) (bs : List ℕ) → row_of ts rs k bs ≡ row_by ts us k bs
  row-by zero bs = refl
  row-by (suc zero) bs = refl
  row-by (suc (suc zero)) bs =
      then_same (λ t. ask 7 (not (is_number ts t)) >> (name (length (variants_of ts t)) >>= λ v. parts ts rs (fields_of ts t v) >>= λ ps. return (built t v ps)))
      (λ t. ask 7 (not (is_number ts t)) >> built_of ts us t)
      (λ t cs. then_same (λ (x : Unit {0}). name (length (variants_of ts t)) >>= λ v. parts ts rs (fields_of ts t v) >>= λ ps. return (built t v ps))
      (λ (x : Unit {0}). built_of ts us t) (λ x ds. built-by t ds) (ask 7 (not (is_number ts t)) cs)) (name (length ts) bs)
  row-by (suc (suc (suc k))) bs =
      ap (and_then (λ a. field_of ts (type_at ts rs a) a)) (variant-term-by bs)
      ∙ then_same (λ a. field_of ts (type_at ts rs a) a) (λ a. field_of ts (get_or us a 0) a) (λ a cs. ap (λ (u : ℕ). field_of ts u a cs) (type-by a)) (variant_term_by ts us bs)
