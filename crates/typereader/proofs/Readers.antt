-- What each function that reads types goes by: from the answers of its callees to its own answer. Assumes nothing.
use mathlib.Core.Path.{◌≡◌, ap, sym, subst, ◌∙◌}
use mathlib.Core.List.{List, [], ◌∷◌, ◌++◌}
use Prim.Native.Nat.{ℕ, suc, ◌+◌, ◌≤◌, ◌<◌}
use native.Mathlib.Omega.{arith}
use lib.ListN.{length, drop, set, replicate}
use Rattle.guard.specs.File.{types, variant}
use Rattle.guard.specs.Number.{Parsed, Parsed.accepted, Parsed.refused, and_then, return, times}
use Rattle.guard.specs.Types.{Types, Variant}
use Rattle.guard.proofs.Repeats.{room}
use Rattle.tables.specs.Layout.{flat, type_table}
use Rattle.tables.specs.declared.TypeTable.{TypeTable}
use Rattle.numbers.specs.Reader.{Found, below}
use Rattle.variantreader.specs.VariantReader.{Stores, variants_by}
use Rattle.variantreader.proofs.Parsers.{Mapped, below-small, count-is, mapped, mapped_stop, times-length}
use Rattle.typereader.specs.TypeReader.{one_type, table_by, type_by}
use Rattle.typereader.proofs.Midway.{TypesMidway, counted, types_end, types_halt, types-start, types_turn}
use Rattle.typereader.proofs.Stored.{HoldsTypes, table_is, types_more, types-none}

-- ---- a type

module _ (bytes : List ℕ) (at many total k : ℕ) (limit : k ≡ room total) where
  in_room : (r : Parsed ℕ) → below k 4 (drop at bytes) ≡ r → below (room total) 4 (drop at bytes) ≡ r
  in_room r e = ap (λ (i : ℕ). below i 4 (drop at bytes)) (sym limit) ∙ e

  abbrev from_count : Parsed ℕ → Parsed (List Variant)
  from_count r = and_then (λ v. times v (variant many)) r

  module _ (n at' : ℕ) (found : Found (below k 4 (drop at bytes)) bytes n at') where
    pub type-inside : total ≤ 48 → total + n ≤ 48
    type-inside fit = omega (arith, below-small (room total) 4 (drop at bytes) n (drop at' bytes) (in_room _ found.accepts))

    from-variants : one_type many total (drop at bytes) ≡ times n (variant many) (drop at' bytes)
    from-variants = ap from_count (in_room _ found.accepts)

    pub type-done : (u : Unit {0}) (next : ℕ) → Found (variants_by n many (drop at' bytes)) bytes u next → Found (type_by many total (drop at bytes)) bytes n next
    type-done u next f =
        let m = mapped (λ vs. tt) (times n (variant many) (drop at' bytes)) u (drop next bytes) f.accepts in
        record {
          accepts =
              ap (and_then (λ vs. return (length vs))) (from-variants ∙ m.accepts)
              ∙ ap (λ (i : ℕ). accepted i (drop next bytes)) (times-length (variant many) n (drop at' bytes) m.value (drop next bytes) m.accepts);
          within = f.within;
        }

    pub type-stored : (arities sorts arities' sorts' : List ℕ) → Stores (times n (variant many)) (drop at' bytes) total arities sorts arities' sorts'
        → Stores (one_type many total) (drop at bytes) total arities sorts arities' sorts'
    type-stored arities sorts arities' sorts' s = record { stored = λ ws vs rest w h e. s.stored ws vs rest w h (sym from-variants ∙ e) }

-- ---- types

module _ (bytes : List ℕ) (at many : ℕ) where
  -- t of them are read, and the columns hold them
  pub record SomeTypes (t next total : ℕ) (variants first arities sorts : List ℕ) : Type 0 where
    pub ts : Types
    pub midway : TypesMidway many bytes at t next ts
    pub columns : HoldsTypes ts total variants first arities sorts

  pub types-begin : at ≤ length bytes → SomeTypes 0 at 0 (replicate 6 0) (replicate 6 0) (replicate 48 0) (replicate 144 0)
  types-begin h = record { ts = []; midway = types-start many bytes at h; columns = types-none }

  module _ (t next total : ℕ) (variants first arities sorts : List ℕ) (some : SomeTypes t next total variants first arities sorts) where
    pub types-room : total ≤ 48
    types-room = omega (arith, some.columns.all, some.midway.room)

    module _ (n next' : ℕ) (found : Found (type_by many total (drop next bytes)) bytes n next') where
      type-read : Mapped length (one_type many total (drop next bytes)) n (drop next' bytes)
      type-read = mapped length (one_type many total (drop next bytes)) n (drop next' bytes) found.accepts

      pub type-small : (n ≤ 16) × (total + n ≤ 48)
      type-small =
          let m = type-read in
          let c = counted many total (drop next bytes) m.value (drop next' bytes) m.accepts in
          let e : n ≡ c.v = sym m.is ∙ times-length (variant many) c.v c.mid m.value (drop next' bytes) c.variants in
          let l : c.v < room total = below-small (room total) 4 (drop next bytes) c.v c.mid c.count in
          let r : total ≤ 48 = types-room in
          (omega arith, omega arith)

      pub types-next_turn : t < many → many ≤ 6 → (arities' sorts' : List ℕ) → Stores (one_type many total) (drop next bytes) total arities sorts arities' sorts'
          → SomeTypes (t + 1) next' (total + n) (set variants t n) (set first t total) arities' sorts'
      types-next_turn h fit arities' sorts' s =
          let m = type-read in
          let ts : Types = some.ts in
          let vs : List Variant = m.value in
          let e : total ≡ length (flat ts) = some.columns.all in
          let l : length vs ≡ n = m.is in
          let small : total + n ≤ 48 = type-small.1 in
          let g : TypesMidway many bytes at (t + 1) next' (ts ++ (vs ∷ [])) =
          types_turn many bytes at t next ts some.midway h vs next' (ap (λ (k : ℕ). one_type many k (drop next bytes)) (sym e) ∙ m.accepts) found.within (omega arith) in
          record {
            ts = ts ++ (vs ∷ []);
            midway = g;
            columns =
                subst (λ (k : ℕ). HoldsTypes (ts ++ (vs ∷ [])) (total + k) (set variants t k) (set first t total) arities' sorts') l
                (types_more ts total variants first arities sorts arities' sorts' some.columns t vs (sym some.midway.count) (omega arith)
                (s.stored (flat ts) vs (drop next' bytes) e some.columns.below m.accepts));
          }

    pub types_stop_turn : t < many → (q : ℕ) → type_by many total (drop next bytes) ≡ refused q → types many many 0 (drop at bytes) ≡ refused q
    types_stop_turn h q e =
        types_halt many bytes at t next some.ts some.midway h q
        (ap (λ (k : ℕ). one_type many k (drop next bytes)) (sym some.columns.all) ∙ mapped_stop length (one_type many total (drop next bytes)) q e)

-- ---- the types part

module _ (bytes : List ℕ) (limit k : ℕ) (more : k ≡ suc limit) where
  pub part_stop : (q : ℕ) → below k 4 bytes ≡ refused q → table_by limit bytes ≡ refused q
  part_stop q e =
      ap (λ (r : Parsed ℕ). and_then (λ ts. return (type_table ts)) (and_then (λ m. types m m 0) r))
      (count-is limit bytes ∙ ap (λ (i : ℕ). below i 4 bytes) (sym more) ∙ e)

  module _ (n at : ℕ) (found : Found (below k 4 bytes) bytes n at) where
    pub part-few : n ≤ limit
    part-few = omega (arith, below-small k 4 bytes n (drop at bytes) found.accepts)

    from-types : table_by limit bytes ≡ and_then (λ ts. return (type_table ts)) (types n n 0 (drop at bytes))
    from-types =
        ap (λ (r : Parsed ℕ). and_then (λ ts. return (type_table ts)) (and_then (λ m. types m m 0) r))
        (count-is limit bytes ∙ ap (λ (i : ℕ). below i 4 bytes) (sym more) ∙ found.accepts)

    pub part_stop_types : (t next total : ℕ) (variants first arities sorts : List ℕ) → SomeTypes bytes at n t next total variants first arities sorts → t < n
        → (q : ℕ) → type_by n total (drop next bytes) ≡ refused q → table_by limit bytes ≡ refused q
    part_stop_types t next total variants first arities sorts some h q e =
        from-types ∙ ap (and_then (λ ts. return (type_table ts))) (types_stop_turn bytes at n t next total variants first arities sorts some h q e)

    pub part-done : (t next total : ℕ) (variants first arities sorts : List ℕ) → SomeTypes bytes at n t next total variants first arities sorts → t ≤ n → n ≤ t
        → Found (table_by limit bytes) bytes (record { many = n; variants = variants; first = first; arities = arities; sorts = sorts }) next
    part-done t next total variants first arities sorts some h g =
        record {
          accepts =
              from-types ∙ ap (and_then (λ ts. return (type_table ts))) (types_end n bytes at t next some.ts some.midway g)
              ∙ ap (λ (x : TypeTable). accepted x (drop next bytes)) (sym (table_is some.ts total n variants first arities sorts some.columns (omega (arith, some.midway.count))));
          within = some.midway.within;
        }
