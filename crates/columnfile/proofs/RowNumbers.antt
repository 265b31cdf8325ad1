-- The numbers of a row that fits: how many they are, and that they have the row's bytes. Assumes nothing.
use mathlib.Core.Path.{◌≡◌, refl, ap, ap₂, sym, ◌∙◌}
use mathlib.Core.List.{List, [], ◌∷◌, ◌++◌, map}
use Prim.Native.Nat.{ℕ, zero, suc, ◌+◌, ◌≤◌, ◌<◌}
use native.Mathlib.Omega.{arith}
use lib.ListN.{length, get_or, take, length-map}
use Rattle.laws.specs.All.{All, All.more, All.none}
use Rattle.laws.specs.Lists.{concat_map}
use Rattle.laws.proofs.Lists.{all_map, all_mem, all_get_d, all-map_inv}
use Rattle.guard.specs.Guard.{Row, Row.built, Row.constant, Row.field, Row.variable, type_at}
use Rattle.guard.specs.Limits.{field_limit, variant_limit}
use Rattle.guard.specs.Number.{fold_signed, width32}
use Rattle.guard.specs.Types.{Types, fields_of, variants_of}
use Rattle.guard.specs.WellFormed.{RowFits}
use Rattle.encoding.specs.Encoding.{encoded_value}
use Rattle.encoding.proofs.ReadBack.{same-encoded}
use Rattle.serialize.specs.Tokens.{Fits, Token, Token.plain, Token.value, row_tokens, token_bytes, unsigned_of}
use Rattle.columnfile.specs.Columns.{bytes_for, row_numbers, width}

-- number j of a row, 0 where it has none
abbrev pub at : ℕ → Row → ℕ
at j r = get_or (row_numbers r) j 0

-- tokens that fit have the same bytes either way
pub token-bytes : (ks : List Token) → All Fits ks → bytes_for (map unsigned_of ks) ≡ concat_map token_bytes ks
unfolding encoded_value
token-bytes [] none = refl
token-bytes (plain n ∷ ks) (more h hs) = ap₂ (λ (x y : List ℕ). x ++ y) (same-encoded n h) (token-bytes ks hs)
token-bytes (value z ∷ ks) (more h hs) = ap (λ (l : List ℕ). encoded_value (fold_signed z) ++ l) (token-bytes ks hs)

-- the sizes of types and rows that a file may have
pub record Sizes (ts : Types) : Type 0 where
  pub types : length ts ≤ 6
  pub variants : (t : ℕ) → length (variants_of ts t) ≤ variant_limit
  pub fields : (t v : ℕ) → length (fields_of ts t v) ≤ field_limit

module _ (ts : Types) (rs : List Row) (sizes : Sizes ts) (i : ℕ) (few : i ≤ 24) where
  -- as many parts as fields
  pub part_count : (t v : ℕ) (ps : List ℕ) → RowFits ts rs i (built t v ps) → length ps ≡ length (fields_of ts t v)
  part_count t v ps h = sym (length-map ps (type_at ts rs)) ∙ ap length h.3

  pub row-tokens-fit : (r : Row) → RowFits ts rs i r → All Fits (row_tokens r)
  row-tokens-fit (variable t) h = more {x = plain 0} (omega arith) (more {x = plain t} (omega (arith, sizes.types)) none)
  row-tokens-fit (constant t z) h = more {x = plain 1} (omega arith) (more {x = plain t} (omega (arith, sizes.types, h.0)) (more {x = value z} h.2 none))
  row-tokens-fit (built t v ps) h =
      more {x = plain 2} (omega arith)
      (more {x = plain t} (omega (arith, sizes.types, h.0)) (more {x = plain v} (omega (arith, sizes.variants t, h.1)) (all_map plain ps (λ p m. omega (arith, all_mem h.2 p m)))))
  row-tokens-fit (field t a v p) h =
      more {x = plain 3} (omega arith)
      (more {x = plain a} (omega (arith, h.0)) (more {x = plain v} (omega (arith, sizes.variants t, h.2)) (more {x = plain p} (omega (arith, sizes.fields t v, h.3)) none)))

  pub row-bytes : (r : Row) → RowFits ts rs i r → bytes_for (row_numbers r) ≡ concat_map token_bytes (row_tokens r)
  row-bytes r h = token-bytes (row_tokens r) (row-tokens-fit r h)

  pub width_is : (r : Row) → RowFits ts rs i r → width ts (at 0 r) (at 1 r) (at 2 r) ≡ length (row_numbers r)
  width_is (variable t) h = refl
  width_is (constant t z) h = refl
  width_is (built t v ps) h = let n : length (map unsigned_of (map plain ps)) ≡ length ps = length-map (map plain ps) unsigned_of ∙ length-map ps plain in omega (arith, n, part_count t v ps h)
  width_is (field t a v p) h = refl

  pub at-most-six : (r : Row) → RowFits ts rs i r → length (row_numbers r) ≤ 6
  at-most-six (variable t) h = omega arith
  at-most-six (constant t z) h = omega arith
  at-most-six (built t v ps) h =
      let n : length (map unsigned_of (map plain ps)) ≡ length ps = length-map (map plain ps) unsigned_of ∙ length-map ps plain in omega (arith, n, part_count t v ps h, sizes.fields t v)
  at-most-six (field t a v p) h = omega arith

-- a list of at most six numbers, place by place
pub six_places : (xs : List ℕ) → length xs ≤ 6 → take (length xs) (get_or xs 0 0 ∷ get_or xs 1 0 ∷ get_or xs 2 0 ∷ get_or xs 3 0 ∷ get_or xs 4 0 ∷ get_or xs 5 0 ∷ []) ≡ xs
six_places [] h = refl
six_places (a ∷ []) h = refl
six_places (a ∷ b ∷ []) h = refl
six_places (a ∷ b ∷ c ∷ []) h = refl
six_places (a ∷ b ∷ c ∷ d ∷ []) h = refl
six_places (a ∷ b ∷ c ∷ d ∷ e ∷ []) h = refl
six_places (a ∷ b ∷ c ∷ d ∷ e ∷ f ∷ []) h = refl
six_places (a ∷ b ∷ c ∷ d ∷ e ∷ f ∷ g ∷ xs) h = absurd (omega arith)
