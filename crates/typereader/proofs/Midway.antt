-- The loop over types: after the types read so far, what is left to read is the whole. Laws for its start, its next turn, a
-- refusal and its end. Assumes nothing.
use mathlib.Core.Path.{◌≡◌, refl, ap, sym, ◌∙◌}
use mathlib.Core.List.{List, [], ◌∷◌, ◌++◌, append-nil, append_assoc}
use Prim.Native.Nat.{ℕ, suc, ◌+◌, ◌-◌, ◌≤◌, ◌<◌}
use native.Mathlib.Omega.{arith}
use native.Mathlib.Nat.{sub-zero}
use lib.ListN.{length, drop, length-append}
use Rattle.guard.specs.File.{types, variant}
use Rattle.guard.specs.Limits.{total_variant_limit}
use Rattle.guard.specs.Number.{Parsed, Parsed.accepted, Parsed.refused, and_then, times}
use Rattle.guard.specs.Types.{Types, Variant}
use Rattle.guard.proofs.Repeats.{after, after_none, types-next, types_stop_count, types_stop_variants, variant_count}
use Rattle.tables.specs.Layout.{flat}
use Rattle.typereader.specs.TypeReader.{one_type}
use Rattle.variantreader.proofs.Parsers.{no_value, times-length}

-- t of the types are read, the types ts
pub record TypesMidway (many : ℕ) (bytes : List ℕ) (at t next : ℕ) (ts : Types) : Type 0 where
  pub count : length ts ≡ t
  pub within : next ≤ length bytes
  pub room : length (flat ts) ≤ total_variant_limit
  pub whole : after ts (types (many - t) many (length (flat ts)) (drop next bytes)) ≡ types many many 0 (drop at bytes)

-- a type more
pub flat-more : (ts : Types) (vs : List Variant) → flat (ts ++ (vs ∷ [])) ≡ flat ts ++ vs
flat-more [] vs = append-nil vs
flat-more (us ∷ ts) vs = ap (λ (l : List Variant). us ++ l) (flat-more ts vs) ∙ sym (append_assoc us (flat ts) vs)

-- a type is its count of variants, and then they
module _ (many total : ℕ) (bs : List ℕ) where
  pub record Counted (vs : List Variant) (rest : List ℕ) : Type 0 where
    pub v : ℕ
    pub mid : List ℕ
    pub count : variant_count total bs ≡ accepted v mid
    pub variants : times v (variant many) mid ≡ accepted vs rest

  pub counted : (vs : List Variant) (rest : List ℕ) → one_type many total bs ≡ accepted vs rest → Counted vs rest
  counted vs rest e = go (variant_count total bs) refl e
    where
      go : (r : Parsed ℕ) → variant_count total bs ≡ r → and_then (λ v. times v (variant many)) r ≡ accepted vs rest → Counted vs rest
      go (refused q) h f = no_value f
      go (accepted v mid) h f = record { v = v; mid = mid; count = h; variants = f }

  -- types that begin with one that is refused
  pub type_stops : (left : ℕ) (ts : Types) (q : ℕ) → total ≤ total_variant_limit → one_type many total bs ≡ refused q → after ts (types (suc left) many total bs) ≡ refused q
  type_stops left ts q fit e = go (variant_count total bs) refl e
    where
      go : (r : Parsed ℕ) → variant_count total bs ≡ r → and_then (λ v. times v (variant many)) r ≡ refused q → after ts (types (suc left) many total bs) ≡ refused q
      go (refused q') h f = let z : q' ≡ q = cc in types_stop_count left many total fit ts bs q (h ∙ ap refused z)
      go (accepted v mid) h f = types_stop_variants left many total fit ts bs v mid h q f

  pub type-passes : (left : ℕ) (ts : Types) (vs : List Variant) (rest : List ℕ) → total ≤ total_variant_limit → one_type many total bs ≡ accepted vs rest
      → after ts (types (suc left) many total bs) ≡ after (ts ++ (vs ∷ [])) (types left many (total + length vs) rest)
  type-passes left ts vs rest fit e =
      let c = counted vs rest e in
      let l : length vs ≡ c.v = times-length (variant many) c.v c.mid vs rest c.variants in
      types-next left many total fit ts bs c.v c.mid c.count vs rest c.variants
      ∙ ap (λ (k : ℕ). after (ts ++ (vs ∷ [])) (types left many (total + k) rest)) (sym l)

module _ (many : ℕ) (bytes : List ℕ) (at : ℕ) where
  pub types-start : at ≤ length bytes → TypesMidway many bytes at 0 at []
  types-start h =
      record {
        count = refl;
        within = h;
        room = omega arith;
        whole = after_none (types (many - 0) many 0 (drop at bytes)) ∙ ap (λ (k : ℕ). types k many 0 (drop at bytes)) (sub-zero many);
      }

  module _ (t next : ℕ) (ts : Types) (m : TypesMidway many bytes at t next ts) where
    pub types_turn : t < many → (vs : List Variant) (next' : ℕ) → one_type many (length (flat ts)) (drop next bytes) ≡ accepted vs (drop next' bytes) → next' ≤ length bytes
        → length (flat ts) + length vs ≤ total_variant_limit → TypesMidway many bytes at (t + 1) next' (ts ++ (vs ∷ []))
    types_turn h vs next' e w fit =
        let k : many - t ≡ suc (many - (t + 1)) = omega arith in
        let l : length (flat (ts ++ (vs ∷ []))) ≡ length (flat ts) + length vs = ap length (flat-more ts vs) ∙ length-append (flat ts) vs in
        record {
          count = omega (arith, length-append ts (vs ∷ []), m.count);
          within = w;
          room = omega (arith, l, fit);
          whole =
              ap (λ (n : ℕ). after (ts ++ (vs ∷ [])) (types (many - (t + 1)) many n (drop next' bytes))) l
              ∙ sym (type-passes many (length (flat ts)) (drop next bytes) (many - (t + 1)) ts vs (drop next' bytes) m.room e)
              ∙ ap (λ (n : ℕ). after ts (types n many (length (flat ts)) (drop next bytes))) (sym k) ∙ m.whole;
        }

    pub types_halt : t < many → (q : ℕ) → one_type many (length (flat ts)) (drop next bytes) ≡ refused q → types many many 0 (drop at bytes) ≡ refused q
    types_halt h q e =
        let k : many - t ≡ suc (many - (t + 1)) = omega arith in
        sym m.whole ∙ ap (λ (n : ℕ). after ts (types n many (length (flat ts)) (drop next bytes))) k
        ∙ type_stops many (length (flat ts)) (drop next bytes) (many - (t + 1)) ts q m.room e

    pub types_end : many ≤ t → types many many 0 (drop at bytes) ≡ accepted ts (drop next bytes)
    types_end h =
        let k : many - t ≡ 0 = omega arith in
        sym m.whole ∙ ap (λ (n : ℕ). after ts (types n many (length (flat ts)) (drop next bytes))) k
        ∙ ap (λ (l : Types). accepted l (drop next bytes)) (append-nil ts)
