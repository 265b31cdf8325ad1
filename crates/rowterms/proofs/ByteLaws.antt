-- The bytes of a row, one behind the other. Assumes nothing.
use mathlib.Core.Path.{◌≡◌, refl, ap, ap₂, sym, ◌∙◌}
use mathlib.Core.List.{List, [], ◌∷◌, ◌++◌, append_assoc, map}
use Prim.Native.Nat.{ℕ, suc, ◌<◌}
use native.Mathlib.Omega.{arith}
use lib.ListN.{length, get_or}
use Rattle.laws.specs.Lists.{concat_map}
use Rattle.guard.specs.Guard.{Row.field}
use Rattle.serialize.specs.Tokens.{Token.plain, token_bytes}
use Rattle.encoding.specs.Encoding.{encoded}
use Rattle.encoding.proofs.ReadBack.{one_byte}
use Rattle.merged.specs.Merge.{named}
use Rattle.std.specs.Prelude.{Option, Some, None}
use Rattle.bytebuffer.specs.declared.Writer.{Writer}
use Rattle.bytebuffer.specs.Appends.{Appends}
use Rattle.bytebuffer.proofs.PutLaws.{and_then, same-bytes, still_full}
use Rattle.rowterms.specs.Rows.{row_bytes, up_to}
use Rattle.rowterms.proofs.LoopLaws.{from_front}

-- ---- small numbers have a byte each

pub two_bytes : (a b : ℕ) → a < 128 → b < 128 → (rest : List ℕ) → a ∷ b ∷ rest ≡ encoded a ++ (encoded b ++ rest)
two_bytes a b h i rest = sym (ap₂ (λ (x y : List ℕ). x ++ (y ++ rest)) (one_byte a h) (one_byte b i))

pub three-bytes : (a b c : ℕ) → a < 128 → b < 128 → c < 128 → (rest : List ℕ) → a ∷ b ∷ c ∷ rest ≡ encoded a ++ (encoded b ++ (encoded c ++ rest))
three-bytes a b c h i j rest = sym (ap (λ (x : List ℕ). x ++ (encoded b ++ (encoded c ++ rest))) (one_byte a h) ∙ ap (λ (l : List ℕ). a ∷ l) (sym (two_bytes b c i j rest)))

-- the parts of a built row, place by place
pub parts-bytes : (names : List ℕ) (f : ℕ → ℕ) (ps : List ℕ) → ((k : ℕ) → k < length ps → f k ≡ get_or ps k 0)
    → up_to (λ k. encoded (named names (f k))) (length ps) ≡ concat_map token_bytes (map plain (map (named names) ps))
parts-bytes names f [] h = refl
parts-bytes names f (p ∷ ps) h =
    from_front (λ k. encoded (named names (f k))) (length ps)
    ∙ ap₂ (λ (x : ℕ) (l : List ℕ). encoded (named names x) ++ l) (h 0 (omega arith)) (parts-bytes names (λ k. f (suc k)) ps (λ k l. h (suc k) (omega arith)))

-- ---- field reads

module _ (names : List ℕ) (a v p : ℕ) {w w' : Writer} where
  pub field_none : Appends (encoded 3) w None w' → Appends (row_bytes names (field 0 a v p)) w None w'
  field_none first = still_full (encoded (named names a) ++ (encoded v ++ (encoded p ++ []))) first

  module _ (first : Appends (encoded 3) w (Some tt) w') {w'' : Writer} where
    pub field_short : Appends (encoded (named names a)) w' None w'' → Appends (row_bytes names (field 0 a v p)) w None w''
    field_short second =
        same-bytes (append_assoc (encoded 3) (encoded (named names a)) (encoded v ++ (encoded p ++ []))) (still_full (encoded v ++ (encoded p ++ [])) (and_then first second))

    pub field_put : v < 128 → p < 128 → Appends (encoded (named names a)) w' (Some tt) w'' → {r : Option (Unit {0})} {last : Writer} → Appends (v ∷ p ∷ []) w'' r last
        → Appends (row_bytes names (field 0 a v p)) w r last
    field_put vs ps second q =
        same-bytes
        (append_assoc (encoded 3) (encoded (named names a)) (v ∷ p ∷ []) ∙ ap (λ (l : List ℕ). encoded 3 ++ (encoded (named names a) ++ l)) (two_bytes v p vs ps []))
        (and_then (and_then first second) q)
