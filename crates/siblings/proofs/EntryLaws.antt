-- Entries of the columns, the columns filled from the front, and what they need of the tables. Assumes nothing.
use mathlib.Core.Path.{◌≡◌, refl, ap, sym, ◌∙◌}
use mathlib.Core.Bool.{Bool, cond}
use mathlib.Core.List.{List}
use Prim.Native.Nat.{ℕ, ◌+◌, ◌*◌, ◌/◌, ◌%◌, ◌<◌}
use native.Mathlib.Omega.{arith}
use lib.Dec.{ltb}
use lib.ListN.{get_or, replicate, set}
use borrow.Author.Tests.{ne_eqb}
use Rattle.tables.specs.Layout.{TypesInRange}
use Rattle.tables.specs.declared.TypeTable.{TypeTable}
use Rattle.columns.proofs.Filled.{filled_next, filled_none}
use Rattle.fieldterms.proofs.FieldTermLaws.{position-small}
use Rattle.fieldterms.specs.FieldTerms.{sibling_position}
use Rattle.siblings.specs.declared.Siblings.{Siblings}
use Rattle.siblings.specs.Siblings.{SortsInRange, entry, field_entries, field_entry, sort_entries, sort_entry}

-- ---- a row that reads no field

entry_other : (kind arity q n : ℕ) → ¬ (kind ≡ 3) → 0 ≡ entry kind arity q n
entry_other kind arity q n h = sym (ap (λ (b : Bool). cond b (cond (ltb q arity) n 0) 0) (ne_eqb kind 3 h))

module _ (kinds types variants parts first arities : List ℕ) (i : ℕ) where
  pub field-other : (q : ℕ) → ¬ (get_or kinds i 0 ≡ 3) → 0 ≡ field_entry kinds types variants parts first arities i q
  unfolding field_entry
  field-other q h = entry_other (get_or kinds i 0) _ q _ h

  pub sort-other : (sorts : List ℕ) (k : ℕ) → ¬ (get_or kinds i 0 ≡ 3) → 0 ≡ sort_entry kinds types variants parts first arities sorts i k
  unfolding sort_entry
  sort-other sorts k h = entry_other (get_or kinds i 0) _ (sibling_position (get_or parts (3 * i + 1) 0) k) _ h

pub ruleset position = (position-small)

-- ---- columns, filled from the front

module _ (kinds types variants parts first arities : List ℕ) where
  pub fields_none : field_entries kinds types variants parts first arities 0 ≡ replicate 72 0
  unfolding field_entries
  fields_none = sym (filled_none 72 (λ x. field_entry kinds types variants parts first arities (x / 3) (x % 3)))

  pub fields_next : (x n : ℕ) → x < 72 → n ≡ field_entry kinds types variants parts first arities (x / 3) (x % 3)
      → set (field_entries kinds types variants parts first arities x) x n ≡ field_entries kinds types variants parts first arities (x + 1)
  unfolding field_entries
  fields_next x n h e = filled_next 72 (λ x. field_entry kinds types variants parts first arities (x / 3) (x % 3)) x _ n h refl e

  module _ (sorts : List ℕ) where
    pub sorts_none : sort_entries kinds types variants parts first arities sorts 0 ≡ replicate 48 0
    unfolding sort_entries
    sorts_none = sym (filled_none 48 (λ x. sort_entry kinds types variants parts first arities sorts (x / 2) (x % 2)))

    pub sorts_next : (x n : ℕ) → x < 48 → n ≡ sort_entry kinds types variants parts first arities sorts (x / 2) (x % 2)
        → set (sort_entries kinds types variants parts first arities sorts x) x n ≡ sort_entries kinds types variants parts first arities sorts (x + 1)
    unfolding sort_entries
    sorts_next x n h e = filled_next 48 (λ x. sort_entry kinds types variants parts first arities sorts (x / 2) (x % 2)) x _ n h refl e

pub ruleset fields = (fields_none, fields_next)

pub ruleset sorts = (sorts_none, sorts_next)

pub sorts_in_range : (table : TypeTable) → TypesInRange table → SortsInRange table.arities table.sorts
sorts_in_range table r w j h = omega (arith, r.many, r.sorts w j h)

pub both-columns : (s : Siblings) (fields sorts : List ℕ) → fields ≡ s.fields → sorts ≡ s.sorts → ◌≡◌ {A = Siblings} (record { fields = fields; sorts = sorts }) s
both-columns s fields sorts e q = ap (columns sorts) e ∙ ap (λ (x : List ℕ). columns x s.fields) q
  where
    columns : List ℕ → List ℕ → Siblings
    columns ss fs = record { fields = fs; sorts = ss }
