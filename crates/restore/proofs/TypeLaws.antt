-- What types that were read are good for. Assumes nothing.
use mathlib.Core.List.{List}
use Prim.Native.Nat.{ℕ, zero, suc, ◌≤◌, ◌<◌}
use native.Mathlib.Omega.{arith}
use lib.ListN.{get_or, length}
use Rattle.laws.specs.All.{All, All.more, All.none}
use Rattle.laws.specs.Lists.{concat_map}
use Rattle.guard.specs.File.{count, types}
use Rattle.guard.specs.Limits.{field_limit, variant_limit}
use Rattle.guard.specs.Types.{Types, fields_of, variants_of}
use Rattle.tables.specs.declared.TypeTable.{TypeTable}
use Rattle.tables.proofs.Lookups.{flat-all}
use Rattle.serialize.specs.Tokens.{type_tokens}
use Rattle.serialize.proofs.TakenFile.{takes_types}
use Rattle.serialize.proofs.Theorems.{as_bytes}
use Rattle.heldparts.specs.Held.{HoldsTypes, VariantFits}
use Rattle.merged.specs.Merge.{type_part}
use Rattle.typereader.specs.TypeReader.{types_part}
use Rattle.columnfile.proofs.Gives.{Gives, gives_bind}
use Rattle.columnfile.proofs.Inverse.{count-back, from-tokens}
use Rattle.restore.specs.Restoring.{TypesTaken}

-- a property of the elements and of the default
all-default : {A : Type 0} {P : A → Type 0} {xs : List A} {d : A} → All P xs → (i : ℕ) → P d → P (get_or xs i d)
all-default none i h = h
all-default (more a bs) zero h = a
all-default (more a bs) (suc i) h = all-default bs i h

module _ {table : TypeTable} {ts : Types} (k : TypesTaken table ts) where
  pub variant_fits_lem : (t v : ℕ) → (length (fields_of ts t v) ≤ field_limit) × All (λ f. f < length ts) (fields_of ts t v)
  variant_fits_lem t v = all-default (all-default k.fit t (omega arith, none)).1 v (omega arith, none)

  pub few-variants : (t : ℕ) → length (variants_of ts t) ≤ variant_limit
  few-variants t = (all-default {P = λ vs. (length vs ≤ variant_limit) × All (λ fs. (length fs ≤ field_limit) × All (λ f. f < length ts) fs) vs} k.fit t (omega arith, none)).0

  pub holds : HoldsTypes table ts
  holds = record { are = k.are; many = k.many; variants = few-variants; total = k.total; fields = flat-all (VariantFits ts) ts variant_fits_lem }

  -- the type part is read back, whatever follows
  pub types-back : Gives (types_part 6) (type_part ts) ts
  unfolding type_part as_bytes
  types-back =
      gives_bind (count 6) (λ many. types many many 0) (count-back 6 (length ts) (omega (arith, k.many)) k.many)
      (from-tokens (types (length ts) (length ts) 0) (concat_map type_tokens ts) ts (takes_types as_bytes (length ts) 0 ts (omega (arith, k.many)) k.fit (omega (arith, k.total))))
