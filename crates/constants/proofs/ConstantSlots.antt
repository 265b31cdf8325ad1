-- The constants of a well-formed guard: each slot in use is of a constant of the guard's table, and each constant has its slot.
-- Assumes nothing.
use mathlib.Core.Path.{◌≡◌, refl, ap, sym, ◌∙◌, subst}
use mathlib.Core.List.{List, [], ◌∷◌, Memᴰ}
use Prim.Native.Nat.{ℕ, suc, ◌+◌, ◌-◌, ◌≤◌, ◌<◌}
use native.Mathlib.Omega.{arith}
use lib.Dec.{ltb}
use lib.IntN.{ℤ}
use lib.ListN.{get_or, length}
use mathlib.Core.Option.{none, some}
use borrow.Author.Tests.{eqb-true, ltb-false, ltb-true}
use Rattle.laws.proofs.Bools.{by_test}
use Rattle.laws.proofs.Lists.{length-nil}
use Rattle.guard.specs.Guard.{Guard, Row, Row.built, Row.constant, Row.field, Row.variable, row_at}
use Rattle.guard.specs.Limits.{Limits, Supported, total_variant_limit}
use Rattle.guard.specs.Message.{Message, Message.made, Message.number}
use Rattle.guard.specs.Terms.{Const, Table, table_of}
use Rattle.guard.specs.Types.{Types, Variant, defaults, variants_of}
use Rattle.guard.specs.WellFormed.{WellFormed}
use Rattle.guard.proofs.DefaultLaws.{default-belongs}
use Rattle.guard.proofs.TableLaws.{const-default, const_inv, const-row, default_const_of, few-rows}
use Rattle.tables.specs.Layout.{flat, row_table, row_value}
use Rattle.tables.proofs.Lookups.{row-value-at}
use Rattle.arrays.specs.Arrays.{constants_of, default_constant, row_constant}
use Rattle.arrays.proofs.SlotLaws.{default-constant-at, no-default-constant, no-row-constant, row-constant-at}
use Rattle.constants.specs.Constants.{constant_term, constant_value}
use Rattle.constants.proofs.ConstantTests.{default-term, default-value, row-term, row-value}

-- slot k is of this constant
pub record ConstantSlot (constants : List ℕ) (values : List ℤ) (k : ℕ) (c : Const) : Type 0 where
  pub term : constant_term k ≡ c.term
  pub type : get_or constants k 0 ≡ suc c.type
  pub value : constant_value values k ≡ c.value

pub record ConstantSlots (t : Table) (constants : List ℕ) (values : List ℤ) : Type 0 where
  pub found : (k : ℕ) → k < 30 → ¬ (get_or constants k 0 ≡ 0) → (c : Const) × Memᴰ c t.consts × ConstantSlot constants values k c
  pub slot : (c : Const) → Memᴰ c t.consts → (k : ℕ) × (k < 30) × ConstantSlot constants values k c

-- a type with a variant has no constant as its default
no_number : (t : ℕ) (vs : List Variant) → 0 < length vs → default_constant t vs ≡ 0
no_number t [] h = absurd (omega arith)
no_number t (v ∷ vs) h = refl

module _ (limits : Limits) (sup : Supported limits) (g : Guard) (ok : WellFormed limits g) (total : length (flat g.types) ≤ total_variant_limit) where
  abbrev ts : Types
  ts = g.types

  abbrev rs : List Row
  rs = g.rows

  abbrev values : List ℤ
  values = (row_table g.types g.rows).values

  rows_few : length rs ≤ 24
  rows_few = few-rows limits sup g ok

  types-few : length ts ≤ 6
  types-few = omega (arith, ok.type_count, sup.types)

  row_slot : (i t : ℕ) (z : ℤ) → i < length rs → row_at rs i ≡ constant t z → ConstantSlot (constants_of g) values i (record { term = i; type = t; value = z })
  row_slot i t z h e =
      record {
        term = sym (row-term i (omega (arith, rows_few)));
        type = row-constant-at limits sup g ok total i h ∙ ap (λ (w : Row). get_or (row_constant i w) 0 0) e;
        value = sym (row-value values i (omega (arith, rows_few))) ∙ row-value-at ts rs i h ∙ ap row_value e;
      }

  default_slot : (t u : ℕ) (z : ℤ) → t < length ts → get_or (defaults ts) t none ≡ some (number u z) → ConstantSlot (constants_of g) values (24 + t) (default_const_of t)
  default_slot t u z h e =
      let bare : variants_of ts t ≡ [] = length-nil (variants_of ts t) (eqb-true _ _ (default-belongs ts t (number u z) e).1) in
      let place : (24 + t) + 48 ≡ 72 + t = omega arith in
      record {
        term = sym (default-term (24 + t) (omega arith)) ∙ place;
        type = default-constant-at limits sup g ok total t h ∙ ap (default_constant t) bare;
        value = sym (default-value values (24 + t) (omega arith));
      }

  abbrev Found : ℕ → Type 0
  Found k = (c : Const) × Memᴰ c (table_of g).consts × ConstantSlot (constants_of g) values k c

  row-found : (k : ℕ) → k < length rs → (w : Row) → row_at rs k ≡ w → ¬ (get_or (row_constant k w) 0 0 ≡ 0) → Found k
  row-found k h (variable t) e n = absurd (n refl)
  row-found k h (constant t z) e n = (record { term = k; type = t; value = z }, const-row g k t z h e, row_slot k t z h e)
  row-found k h (built t v ps) e n = absurd (n refl)
  row-found k h (field t a v p) e n = absurd (n refl)

  default-found : (t : ℕ) → t < length ts → (m : Message) → get_or (defaults ts) t none ≡ some m → ¬ (get_or (constants_of g) (24 + t) 0 ≡ 0) → Found (24 + t)
  default-found t h (number u z) e n = (default_const_of t, const-default g t u z h e, default_slot t u z h e)
  default-found t h (made u v ms) e n =
      absurd (n (default-constant-at limits sup g ok total t h ∙ no_number t (variants_of ts t) (omega (arith, (default-belongs ts t (made u v ms) e).1))))

  pub constant_slots : ConstantSlots (table_of g) (constants_of g) values
  constant_slots =
      record {
        found = λ k h n. by_test (ltb k 24) (λ b. row k (ltb-true k 24 b) n)
            (λ b. let e : 24 + (k - 24) ≡ k = omega (arith, ltb-false k 24 b) in
            subst Found e (default (k - 24) (subst (λ (i : ℕ). ¬ (get_or (constants_of g) i 0 ≡ 0)) (sym e) n)));
        slot =
            const_inv g (λ c. (k : ℕ) × (k < 30) × ConstantSlot (constants_of g) values k c) (λ i t z h e. (i, omega (arith, rows_few), row_slot i t z h e))
            (λ t u z h e. (24 + t, omega (arith, types-few), default_slot t u z h e));
      }
    where
      row : (k : ℕ) → k < 24 → ¬ (get_or (constants_of g) k 0 ≡ 0) → Found k
      row k l n =
          by_test (ltb k (length rs)) (λ b. let h : k < length rs = ltb-true _ _ b in row-found k h (row_at rs k) refl (λ q. n (row-constant-at limits sup g ok total k h ∙ q)))
          (λ b. absurd (n (no-row-constant limits sup g ok total k (ltb-false k (length rs) b) l)))

      default : (t : ℕ) → ¬ (get_or (constants_of g) (24 + t) 0 ≡ 0) → Found (24 + t)
      default t n =
          by_test (ltb t (length ts)) (λ b. let h : t < length ts = ltb-true _ _ b in let (m, e) = ok.ready t h in default-found t h m e n)
          (λ b. absurd (n (no-default-constant limits sup g ok total t (ltb-false t (length ts) b))))
