-- Types stored behind those that are there: the columns hold one more. Assumes nothing.
use mathlib.Core.Path.{◌≡◌, refl, ap, sym, subst, ◌∙◌}
use mathlib.Core.List.{List, [], ◌∷◌, ◌++◌, map, map-append}
use Prim.Native.Nat.{ℕ, ◌+◌, ◌<◌}
use native.Mathlib.Omega.{arith}
use lib.ListN.{length, set, length-append, replicate}
use Rattle.laws.specs.Lists.{concat_map}
use Rattle.laws.proofs.Lists.{map-length}
use Rattle.tables.specs.declared.TypeTable.{TypeTable}
use Rattle.guard.specs.Types.{Types, Variant}
use Rattle.tables.specs.Layout.{flat, offsets, pad, type_table}
use Rattle.variantreader.specs.VariantReader.{Holds}
use Rattle.tables.proofs.Columns.{pad-nil, pad-set}
use Rattle.tables.proofs.Lookups.{offsets-length}
use Rattle.typereader.proofs.Midway.{flat-more}
use Rattle.variantreader.proofs.Stored.{holds-none}

-- the columns hold these types, with so many variants
pub record HoldsTypes (ts : Types) (total : ℕ) (variants first arities sorts : List ℕ) : Type 0 where
  pub all : total ≡ length (flat ts)
  pub counts : variants ≡ pad 6 (map length ts)
  pub firsts : first ≡ pad 6 (offsets 0 ts)
  pub below : Holds (flat ts) arities sorts

offsets-more : (k : ℕ) (ts : Types) (vs : List Variant) → offsets k (ts ++ (vs ∷ [])) ≡ offsets k ts ++ ((k + length (flat ts)) ∷ [])
offsets-more k [] vs = let e : k ≡ k + 0 = omega arith in ap (λ (n : ℕ). n ∷ []) e
offsets-more k (us ∷ ts) vs =
    let e : k + length us + length (flat ts) ≡ k + length (us ++ flat ts) = omega (arith, length-append us (flat ts)) in
    ap (λ (l : List ℕ). k ∷ l) (offsets-more (k + length us) ts vs ∙ ap (λ (n : ℕ). offsets (k + length us) ts ++ (n ∷ [])) e)

pub types-none : HoldsTypes [] 0 (replicate 6 0) (replicate 6 0) (replicate 48 0) (replicate 144 0)
types-none = record { all = refl; counts = sym (pad-nil 0 6); firsts = sym (pad-nil 0 6); below = holds-none }

-- one type more
pub types_more : (ts : Types) (total : ℕ) (variants first arities sorts arities' sorts' : List ℕ) → HoldsTypes ts total variants first arities sorts → (t : ℕ) (vs : List Variant)
    → t ≡ length ts → t < 6 → Holds (flat ts ++ vs) arities' sorts' → HoldsTypes (ts ++ (vs ∷ [])) (total + length vs) (set variants t (length vs)) (set first t total) arities' sorts'
types_more ts total variants first arities sorts arities' sorts' h t vs e fit held =
    let lc : length (map length ts) ≡ length ts = map-length length ts in
    let lo : length (offsets 0 ts) ≡ length ts = offsets-length 0 ts in
    let z : total ≡ 0 + length (flat ts) = omega (arith, h.all) in
    record {
      all = omega (arith, h.all, ap length (flat-more ts vs), length-append (flat ts) vs);
      counts =
          ap (λ (l : List ℕ). set l t (length vs)) h.counts ∙ ap (λ (k : ℕ). set (pad 6 (map length ts)) k (length vs)) (e ∙ sym lc)
          ∙ pad-set 0 6 (map length ts) (length vs) (omega (arith, lc)) ∙ ap (pad 6) (sym (map-append length ts (vs ∷ [])));
      firsts =
          ap (λ (l : List ℕ). set l t total) h.firsts ∙ ap (λ (k : ℕ). set (pad 6 (offsets 0 ts)) k total) (e ∙ sym lo)
          ∙ pad-set 0 6 (offsets 0 ts) total (omega (arith, lo)) ∙ ap (λ (n : ℕ). pad 6 (offsets 0 ts ++ (n ∷ []))) z ∙ ap (pad 6) (sym (offsets-more 0 ts vs));
      below = subst (λ (l : List Variant). Holds l arities' sorts') (sym (flat-more ts vs)) held;
    }

-- the table of them
pub table_is : (ts : Types) (total many : ℕ) (variants first arities sorts : List ℕ) → HoldsTypes ts total variants first arities sorts → length ts ≡ many
    → ◌≡◌ {A = TypeTable} (record { many = many; variants = variants; first = first; arities = arities; sorts = sorts }) (type_table ts)
unfolding type_table
table_is ts total many variants first arities sorts h e =
    let a : variants ≡ pad 6 (map length ts) = h.counts in
    let b : first ≡ pad 6 (offsets 0 ts) = h.firsts in
    let c : arities ≡ pad 48 (map length (flat ts)) = h.below.counts in
    let d : sorts ≡ pad 144 (concat_map (pad 3) (flat ts)) = h.below.fields in
    cc
