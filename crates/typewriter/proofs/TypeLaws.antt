-- What a table of types holds, number by number, and the bytes of types as those of their parts. Assumes nothing.
use mathlib.Core.Path.{◌≡◌, refl, ap, sym, ◌∙◌}
use mathlib.Core.List.{List, [], ◌∷◌, ◌++◌, map}
use Prim.Native.Nat.{ℕ, ◌+◌, ◌*◌, ◌≤◌, ◌<◌}
use native.Mathlib.Omega.{arith}
use lib.ListN.{length, get_or}
use Rattle.laws.specs.Lists.{concat_map}
use Rattle.laws.proofs.Lists.{all_get_d, all_weaken}
use Rattle.guard.specs.Types.{Types, Variant, fields_of, variants_of}
use Rattle.tables.specs.Layout.{flat}
use Rattle.tables.specs.declared.TypeTable.{TypeTable}
use Rattle.tables.proofs.Lookups.{arity_of_lem, first-at, flat-at, offset_inside, offset_of, sort_of, variants_at_lem}
use Rattle.tables.proofs.TypesBack.{many_is}
use Rattle.heldparts.specs.Held.{HoldsTypes}
use Rattle.encoding.specs.Encoding.{encoded}
use Rattle.encoding.proofs.ReadBack.{one_byte}
use Rattle.serialize.specs.Tokens.{Token, Token.plain, token_bytes, type_tokens, variant_tokens}
use Rattle.serialize.proofs.Copying.{concat_map-append}
use Rattle.merged.specs.Merge.{type_part}
use Rattle.std.specs.Prelude.{Option, Some, None}
use Rattle.bytebuffer.specs.declared.Writer.{Writer}
use Rattle.bytebuffer.specs.Appends.{Appends}
use Rattle.bytebuffer.proofs.EachLaws.{each_all, each_full, each_next, first_bytes}
use Rattle.bytebuffer.proofs.PutLaws.{and_then, nothing, same-bytes, still_full}
use Rattle.typewriter.specs.TypeBytes.{HasType, HasVariant, PutsType, PutsTypes, PutsVariant, SomeTypes, type_bytes, variant_bytes}

-- ---- bytes

number_put : {b n : ℕ} → b ≡ n → n < 128 → {w w' : Writer} {r : Option (Unit {0})} → Appends (b ∷ []) w r w' → Appends (encoded n) w r w'
number_put {b} {n} e h p = same-bytes (ap (λ (k : ℕ). k ∷ []) e ∙ sym (one_byte n h)) p

each : {A : Type 0} (tokens : A → List Token) (xs : List A) → concat_map token_bytes (concat_map tokens xs) ≡ concat_map (λ x. concat_map token_bytes (tokens x)) xs
each tokens [] = refl
each tokens (x ∷ xs) = concat_map-append token_bytes (tokens x) (concat_map tokens xs) ∙ ap (λ (l : List ℕ). concat_map token_bytes (tokens x) ++ l) (each tokens xs)

numbers : (ns : List ℕ) → concat_map token_bytes (map plain ns) ≡ concat_map encoded ns
numbers [] = refl
numbers (n ∷ ns) = ap (λ (l : List ℕ). encoded n ++ l) (numbers ns)

pub variant-bytes : (fs : Variant) → encoded (length fs) ++ concat_map encoded fs ≡ variant_bytes fs
variant-bytes fs = ap (λ (l : List ℕ). encoded (length fs) ++ l) (sym (numbers fs))

pub type-bytes : (vs : List Variant) → encoded (length vs) ++ concat_map variant_bytes vs ≡ type_bytes vs
type-bytes vs = ap (λ (l : List ℕ). encoded (length vs) ++ l) (sym (each variant_tokens vs))

pub part-bytes : (ts : Types) → encoded (length ts) ++ concat_map type_bytes ts ≡ type_part ts
unfolding type_part
part-bytes ts = ap (λ (l : List ℕ). encoded (length ts) ++ l) (sym (each type_tokens ts))

-- ---- the table, and its numbers as bytes

module _ {table : TypeTable} {ts : Types} (h : HoldsTypes table ts) where
  pub many-held : table.many ≡ length ts
  many-held = ap (λ (x : TypeTable). x.many) h.are ∙ many_is ts

  pub variants-held : (t : ℕ) → get_or table.variants t 0 ≡ length (variants_of ts t)
  variants-held t = ap (λ (x : TypeTable). get_or x.variants t 0) h.are ∙ variants_at_lem ts t

  pub arity-held : (w : ℕ) → get_or table.arities w 0 ≡ length (get_or (flat ts) w [])
  arity-held w = ap (λ (x : TypeTable). get_or x.arities w 0) h.are ∙ arity_of_lem ts w

  -- the number of a variant among all
  module _ (t : ℕ) (inside : t < length ts) where
    first-held : get_or table.first t 0 ≡ offset_of ts t
    first-held = ap (λ (x : TypeTable). get_or x.first t 0) h.are ∙ first-at ts t inside

    module _ (v : ℕ) (hv : v < length (variants_of ts t)) where
      pub variant-inside : get_or table.first t 0 + v < length (flat ts)
      variant-inside = omega (arith, first-held, offset_inside ts t)

      pub variant-held : get_or (flat ts) (get_or table.first t 0 + v) [] ≡ fields_of ts t v
      variant-held = ap (λ (k : ℕ). get_or (flat ts) (k + v) []) first-held ∙ flat-at ts t v hv

  module _ (w : ℕ) (inside : w < length (flat ts)) where
    few-fields : length (get_or (flat ts) w []) ≤ 3
    few-fields = (all_get_d h.fields w [] inside).0

    pub arity-small : get_or table.arities w 0 ≤ 3
    arity-small = omega (arith, arity-held w, few-fields)

  module _ {w w' : Writer} {r : Option (Unit {0})} where
    pub many_put : Appends (table.many ∷ []) w r w' → Appends (encoded (length ts)) w r w'
    many_put = number_put many-held (omega (arith, h.many))

    pub variants_put : (t : ℕ) → Appends (get_or table.variants t 0 ∷ []) w r w' → Appends (encoded (length (variants_of ts t))) w r w'
    variants_put t = number_put (variants-held t) (omega (arith, h.variants t))

    module _ (n : ℕ) (inside : n < length (flat ts)) where
      pub arity_put : Appends (get_or table.arities n 0 ∷ []) w r w' → Appends (encoded (length (get_or (flat ts) n []))) w r w'
      arity_put = number_put (arity-held n) (omega (arith, few-fields n inside))

      pub sort_put : (j : ℕ) → j < length (get_or (flat ts) n []) → Appends (get_or table.sorts (3 * n + j) 0 ∷ []) w r w' → Appends (encoded (get_or (get_or (flat ts) n []) j 0)) w r w'
      sort_put j l = number_put held (omega (arith, all_get_d (all_get_d h.fields n [] inside).1 j 0 l, h.many))
        where
          held : get_or table.sorts (3 * n + j) 0 ≡ get_or (get_or (flat ts) n []) j 0
          held = ap (λ (x : TypeTable). get_or x.sorts (3 * n + j) 0) h.are ∙ sort_of ts n j (all_weaken (λ fs q. q.0) h.fields) inside (omega (arith, few-fields n inside))

-- ---- a variant: how many fields, and behind that the types of those before j, for all types that the table may hold

pub record VariantSoFar (table : TypeTable) (n : ℕ) (w : Writer) (j : ℕ) (w' : Writer) : Type 0 where
  pub so_far : (ts : Types) → HoldsTypes table ts → n < length (flat ts) → Appends (first_bytes encoded (get_or (flat ts) n []) j) w (Some tt) w'

module _ {table : TypeTable} {n : ℕ} where
  pub variant_begin : {w : Writer} → VariantSoFar table n w 0 w
  variant_begin {w} = record { so_far = λ ts h i. nothing w }

  pub variant_none : {w w' : Writer} → Appends (get_or table.arities n 0 ∷ []) w None w' → PutsVariant table n w None w'
  variant_none p = record { puts = λ ts h i. let fs = get_or (flat ts) n [] in same-bytes (variant-bytes fs) (still_full (concat_map encoded fs) (arity_put h n i p)) }

  module _ {w w' : Writer} {j : ℕ} (s : VariantSoFar table n w j w') where
    module _ (l : j < get_or table.arities n 0) where
      field_inside : {ts : Types} → HoldsTypes table ts → j < length (get_or (flat ts) n [])
      field_inside h = omega (arith, arity-held h n)

      pub variant_next : {w'' : Writer} → Appends (get_or table.sorts (3 * n + j) 0 ∷ []) w' (Some tt) w'' → VariantSoFar table n w (j + 1) w''
      variant_next q = record { so_far = λ ts h i. each_next encoded (get_or (flat ts) n []) (s.so_far ts h i) (field_inside h) 0 (sort_put h n i j (field_inside h) q) }

      pub variant_full : {before w'' : Writer} → Appends (get_or table.arities n 0 ∷ []) before (Some tt) w → Appends (get_or table.sorts (3 * n + j) 0 ∷ []) w' None w'' → PutsVariant table n before None w''
      variant_full p q = record {
        puts = λ ts h i. let fs = get_or (flat ts) n [] in
            same-bytes (variant-bytes fs) (and_then (arity_put h n i p) (each_full encoded fs (s.so_far ts h i) (field_inside h) 0 (sort_put h n i j (field_inside h) q)));
      }

    pub variant_all : get_or table.arities n 0 ≤ j → {before : Writer} → Appends (get_or table.arities n 0 ∷ []) before (Some tt) w → PutsVariant table n before (Some tt) w'
    variant_all l p = record {
      puts = λ ts h i. let fs = get_or (flat ts) n [] in
          same-bytes (variant-bytes fs) (and_then (arity_put h n i p) (each_all encoded fs (s.so_far ts h i) (omega (arith, arity-held h n))));
    }

pub ruleset variant_laws = (variant_begin, variant_none, variant_next, variant_full, variant_all)

-- ---- a type: how many variants, and behind that the bytes of those before v

pub record TypeSoFar (table : TypeTable) (t : ℕ) (w : Writer) (v : ℕ) (w' : Writer) : Type 0 where
  pub so_far : (ts : Types) → HoldsTypes table ts → t < length ts → Appends (first_bytes variant_bytes (variants_of ts t) v) w (Some tt) w'

module _ {table : TypeTable} {t : ℕ} where
  pub has_variant : HasType table t → {v : ℕ} → v < get_or table.variants t 0 → HasVariant table (get_or table.first t 0 + v)
  has_variant k {v} l = record { ts = k.ts; held = k.held; inside = variant-inside k.held t k.inside v (omega (arith, variants-held k.held t)) }

  pub type_begin : {w : Writer} → TypeSoFar table t w 0 w
  type_begin {w} = record { so_far = λ ts h i. nothing w }

  pub type_none : {w w' : Writer} → Appends (get_or table.variants t 0 ∷ []) w None w' → PutsType table t w None w'
  type_none p = record { puts = λ ts h i. let vs = variants_of ts t in same-bytes (type-bytes vs) (still_full (concat_map variant_bytes vs) (variants_put h t p)) }

  module _ {w w' : Writer} {v : ℕ} (s : TypeSoFar table t w v w') where
    module _ (l : v < get_or table.variants t 0) where
      variant_inside : {ts : Types} → HoldsTypes table ts → v < length (variants_of ts t)
      variant_inside h = omega (arith, variants-held h t)

      variant_put : {w'' : Writer} {r : Option (Unit {0})} → PutsVariant table (get_or table.first t 0 + v) w' r w'' → {ts : Types} → HoldsTypes table ts → t < length ts → Appends (variant_bytes (fields_of ts t v)) w' r w''
      variant_put q {ts} h i = same-bytes (ap variant_bytes (variant-held h t i v (variant_inside h))) (q.puts ts h (variant-inside h t i v (variant_inside h)))

      pub type_next : {w'' : Writer} → PutsVariant table (get_or table.first t 0 + v) w' (Some tt) w'' → TypeSoFar table t w (v + 1) w''
      type_next q = record { so_far = λ ts h i. each_next variant_bytes (variants_of ts t) (s.so_far ts h i) (variant_inside h) [] (variant_put q h i) }

      pub type_full : {before w'' : Writer} → Appends (get_or table.variants t 0 ∷ []) before (Some tt) w → PutsVariant table (get_or table.first t 0 + v) w' None w'' → PutsType table t before None w''
      type_full p q = record {
        puts = λ ts h i. let vs = variants_of ts t in
            same-bytes (type-bytes vs) (and_then (variants_put h t p) (each_full variant_bytes vs (s.so_far ts h i) (variant_inside h) [] (variant_put q h i)));
      }

    pub type_all : get_or table.variants t 0 ≤ v → {before : Writer} → Appends (get_or table.variants t 0 ∷ []) before (Some tt) w → PutsType table t before (Some tt) w'
    type_all l p = record {
      puts = λ ts h i. let vs = variants_of ts t in
          same-bytes (type-bytes vs) (and_then (variants_put h t p) (each_all variant_bytes vs (s.so_far ts h i) (omega (arith, variants-held h t))));
    }

pub ruleset type_laws = (has_variant, type_begin, type_none, type_next, type_full, type_all)

-- ---- the types: how many, and behind that the bytes of those before t

pub record TypesSoFar (table : TypeTable) (w : Writer) (t : ℕ) (w' : Writer) : Type 0 where
  pub so_far : (ts : Types) → HoldsTypes table ts → Appends (first_bytes type_bytes ts t) w (Some tt) w'

module _ {table : TypeTable} where
  pub has_type : SomeTypes table → {t : ℕ} → t < table.many → HasType table t
  has_type k l = record { ts = k.ts; held = k.held; inside = omega (arith, many-held k.held) }

  pub types_begin : {w : Writer} → TypesSoFar table w 0 w
  types_begin {w} = record { so_far = λ ts h. nothing w }

  pub types_none : {w w' : Writer} → Appends (table.many ∷ []) w None w' → PutsTypes table w None w'
  types_none p = record { puts = λ ts h. same-bytes (part-bytes ts) (still_full (concat_map type_bytes ts) (many_put h p)) }

  module _ {w w' : Writer} {t : ℕ} (s : TypesSoFar table w t w') where
    module _ (l : t < table.many) where
      type_inside : {ts : Types} → HoldsTypes table ts → t < length ts
      type_inside h = omega (arith, many-held h)

      pub types_next : {w'' : Writer} → PutsType table t w' (Some tt) w'' → TypesSoFar table w (t + 1) w''
      types_next q = record { so_far = λ ts h. each_next type_bytes ts (s.so_far ts h) (type_inside h) [] (q.puts ts h (type_inside h)) }

      pub types_full : {before w'' : Writer} → Appends (table.many ∷ []) before (Some tt) w → PutsType table t w' None w'' → PutsTypes table before None w''
      types_full p q = record { puts = λ ts h. same-bytes (part-bytes ts) (and_then (many_put h p) (each_full type_bytes ts (s.so_far ts h) (type_inside h) [] (q.puts ts h (type_inside h)))) }

    pub types_all : table.many ≤ t → {before : Writer} → Appends (table.many ∷ []) before (Some tt) w → PutsTypes table before (Some tt) w'
    types_all l p = record { puts = λ ts h. same-bytes (part-bytes ts) (and_then (many_put h p) (each_all type_bytes ts (s.so_far ts h) (omega (arith, many-held h)))) }

pub ruleset types_laws = (has_type, types_begin, types_none, types_next, types_full, types_all)
