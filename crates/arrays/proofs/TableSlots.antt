-- Arrays against the table of a guard: each slot in use is of a read, a build or a term of the table, and each of these has its slot.
-- Assumes nothing: definitions.
use mathlib.Core.Path.{◌≡◌}
use mathlib.Core.List.{List, Memᴰ}
use Prim.Native.Nat.{ℕ, ◌^◌, ◌<◌, suc, ◌-◌, ◌≤◌}
use Rattle.guard.specs.Closure.{every_variant}
use Rattle.guard.specs.Limits.{variant_limit}
use Rattle.guard.specs.Terms.{Build, Read, Table, Term, as_build, fieldless}
use Rattle.guard.specs.Types.{fields_of, variants_of}
use lib.ListN.{get_or, length}
use Rattle.arrays.specs.Arrays.{field_key, kind_number, mask_of}
use Rattle.arrays.specs.Slots.{kind_at, many_at, others_at, owner_at, part_at, read_bit, read_default, read_key, read_term, sort_at}

-- ---- field reads

-- slot k of the array is of this read
pub record ReadSlot (array : List ℕ) (k : ℕ) (r : Read) : Type 0 where
  pub row : k ≡ r.row
  pub term : read_term array k ≡ r.term
  pub key : read_key array k ≡ field_key r.type r.variant r.position
  pub bit : read_bit array k ≡ 2 ^ r.variant
  pub default : read_default array k ≡ r.absent
  pub variant_fits : r.variant < variant_limit
  pub position_fits : r.position < 4

-- each slot in use is of a read of the table, and each read has its slot
pub record ReadSlots (t : Table) (array : List ℕ) : Type 0 where
  pub found : (k : ℕ) → k < 24 → ¬ (read_key array k ≡ 0) → (r : Read) × Memᴰ r t.reads × ReadSlot array k r
  pub slot : (r : Read) → Memᴰ r t.reads → (r.row < 24) × ReadSlot array r.row r

-- ---- shapes

-- slot k of the array is of this build
pub record ShapeSlot (t : Table) (array : List ℕ) (k : ℕ) (b : Build) : Type 0 where
  pub owner : owner_at array k ≡ b.term
  pub kind : kind_at array k ≡ kind_number b.type b.variant
  pub many : many_at array k ≡ length b.parts
  pub few : length b.parts ≤ 3
  -- 0 past the parts
  pub part : (p : ℕ) → p < 4 → part_at array k p ≡ get_or b.parts p 0
  pub variant_fits : b.variant < variant_limit
  pub arity : length b.parts ≡ length (fields_of t.types b.type b.variant)

-- of a build of the table, or of a read as soon as its variant is alone
pub data Shaped (t : Table) (array : List ℕ) (k : ℕ) : Type 0 where
  of_build : (b : Build) → Memᴰ b t.builds → ShapeSlot t array k b → others_at array k ≡ 0 → Shaped t array k
  of_read : (r : Read) → Memᴰ r t.reads → ShapeSlot t array k (as_build r) → others_at array k ≡ every_variant - 2 ^ r.variant → Shaped t array k

-- each slot in use is of a build or a read of the table, and each of these has its slot
pub record ShapeSlots (t : Table) (array : List ℕ) : Type 0 where
  pub found : (k : ℕ) → k < 30 → ¬ (kind_at array k ≡ 0) → Shaped t array k
  pub slot_build : (b : Build) → Memᴰ b t.builds → (k : ℕ) × (k < 30) × ShapeSlot t array k b × (others_at array k ≡ 0)
  pub slot_read : (r : Read) → Memᴰ r t.reads → (k : ℕ) × (k < 30) × ShapeSlot t array k (as_build r) × (others_at array k ≡ every_variant - 2 ^ r.variant)

-- ---- terms

-- the sorts are those of the table's terms, and the masks those of the fieldless variants
pub record SortSlots (t : Table) (sorts masks : List ℕ) : Type 0 where
  pub found : (x u : ℕ) → x < 78 → sort_at sorts x ≡ suc u → Memᴰ (record { term = x; type = u }) t.terms
  pub slot : (a : Term) → Memᴰ a t.terms → (a.term < 78) × (sort_at sorts a.term ≡ suc a.type)
  pub no_mask : get_or masks 0 0 ≡ 0
  pub mask : (u : ℕ) → get_or masks (suc u) 0 ≡ mask_of (fieldless 0 (variants_of t.types u))
  pub few_variants : (u : ℕ) → length (variants_of t.types u) ≤ variant_limit
