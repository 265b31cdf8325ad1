-- For callers: what the table that `read_types` answers says of the parser of the types part. The parser accepts types, the table
-- holds them, and its numbers are in range. Assumes nothing.
use mathlib.Core.Path.{◌≡◌, refl, ap, sym, subst, ◌∙◌}
use mathlib.Core.List.{List, [], ◌∷◌}
use Prim.Native.Nat.{ℕ, suc, ◌≤◌}
use native.Mathlib.Omega.{arith}
use lib.ListN.{length, drop}
use Rattle.laws.specs.All.{All, All.more, All.none}
use Rattle.laws.proofs.Lists.{all_append, all_weaken}
use Rattle.guard.specs.File.{count, types}
use Rattle.guard.specs.Limits.{total_variant_limit}
use Rattle.guard.specs.Number.{Parsed, Parsed.accepted, Parsed.refused, and_then}
use Rattle.guard.specs.Types.{Types}
use Rattle.guard.proofs.Accepted.{TypeFits, VariantFits, reads-types, types-at}
use Rattle.guard.proofs.Reading as parsers
use Rattle.tables.specs.Layout.{TypesInRange, flat, type_table, types_of}
use Rattle.tables.specs.declared.TypeTable.{TypeTable}
use Rattle.tables.proofs.TypesBack.{table_in_range, types-back}
use Rattle.numbers.specs.Reader.{Found}
use Rattle.typereader.specs.TypeReader.{table_by, types_part}
use Rattle.variantreader.proofs.Parsers.{below-small, count-is, mapped, mapped_stop, no_value}

-- ---- types that fit

fits-flat : (many : ℕ) (ts : Types) → All (TypeFits many) ts → All (VariantFits many) (flat ts)
fits-flat many [] none = none
fits-flat many (vs ∷ ts) (more a bs) = all_append a.1 (fits-flat many ts bs)

-- what the parser accepts
pub record TypesFit (limit : ℕ) (ts : Types) : Type 0 where
  pub few : length ts ≤ limit
  pub total : length (flat ts) ≤ total_variant_limit
  pub each : All (TypeFits (length ts)) ts

module _ (limit : ℕ) (bytes : List ℕ) (ts : Types) (rest : List ℕ) (small : limit ≤ 6) where
  pub types-fit : types_part limit bytes ≡ accepted ts rest → TypesFit limit ts
  unfolding parsers.Reads
  types-fit e = go (count limit bytes) refl e
    where
      go : (r : Parsed ℕ) → count limit bytes ≡ r → and_then (λ many. types many many 0) r ≡ accepted ts rest → TypesFit limit ts
      go (refused q) h f = no_value f
      go (accepted many mid) h f =
          let l : many ≤ limit = omega (arith, below-small (suc limit) 4 bytes many mid (sym (count-is limit bytes) ∙ h)) in
          let (u, w, fit) = reads-types many many 0 (omega arith) (omega arith) mid ts rest f in
          record { few = omega (arith, fit.0); total = omega (arith, fit.2); each = subst (λ (k : ℕ). All (TypeFits k) ts) (sym fit.0) fit.1 }

  pub types-range : types_part limit bytes ≡ accepted ts rest → TypesInRange (type_table ts)
  types-range e =
      let f = types-fit e in
      table_in_range ts (omega (arith, f.few)) (λ t. (types-at (length ts) ts f.each t).0) f.total (fits-flat (length ts) ts f.each)

-- ---- the answer

pub record TypesFound (bytes : List ℕ) (limit : ℕ) (table : TypeTable) (at : ℕ) : Type 0 where
  pub ts : Types
  pub parsed : types_part limit bytes ≡ accepted ts (drop at bytes)
  pub within : at ≤ length bytes
  pub is : table ≡ type_table ts
  pub fit : TypesFit limit ts
  pub range : TypesInRange table
  pub back : types_of table ≡ ts

module _ (bytes : List ℕ) (limit : ℕ) where
  pub types-found : limit ≤ 6 → (table : TypeTable) (at : ℕ) → Found (table_by limit bytes) bytes table at → TypesFound bytes limit table at
  types-found small table at f =
      let m = mapped type_table (types_part limit bytes) table (drop at bytes) f.accepts in
      let ts : Types = m.value in
      let fit = types-fit limit bytes ts (drop at bytes) small m.accepts in
      record {
        ts = ts;
        parsed = m.accepts;
        within = f.within;
        is = sym m.is;
        fit = fit;
        range = subst TypesInRange m.is (types-range limit bytes ts (drop at bytes) small m.accepts);
        back = ap types_of (sym m.is) ∙ types-back ts (all_weaken (λ fs p. p.0) (fits-flat (length ts) ts fit.each));
      }

  pub types-refused : (q : ℕ) → table_by limit bytes ≡ refused q → types_part limit bytes ≡ refused q
  types-refused q e = mapped_stop type_table (types_part limit bytes) q e
