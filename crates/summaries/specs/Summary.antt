-- The summary of a guard: for each term row, which variants it can have, as far as that is settled. Assumes nothing: definitions.
-- Quoted sentences are document 02's, of request #114.
use Rattle.std.specs.Prelude.{◌≡◌, Bool, cond, not, ◌&&◌, List, [], ◌∷◌, ◌++◌, ◌↔◌, ℕ, zero, suc, ◌+◌, ◌*◌, ◌^◌, ◌≤◌, ◌<◌, eqb, ltb, length, get_or}
use Rattle.laws.specs.Bits.{bit}
use Rattle.guard.specs.Guard.{Guard, Literal.is, type_at}
use Rattle.guard.specs.Limits.{base}
use Rattle.guard.specs.Search.{Visit, Visits.opened, search_of}
use Rattle.guard.specs.Types.{variants_of}
use Rattle.verdictcodes.specs.Codes.{code_for, with_more}

-- "the guard with the line "this term is that variant"": the term of row i, and v
abbrev pub with_variant : Guard → ℕ → ℕ → Guard
with_variant g i v = with_more g (is i v ∷ [])

-- how many variants are told of row i; "a missing row or one of number type has 0"
unfoldable pub variant_count : Guard → ℕ → ℕ
variant_count g i = cond (ltb i (length g.rows)) (length (variants_of g.types (type_at g.types g.rows i))) 0

-- ---- masks

-- "bit v for variant v": those of the first n variants that pass the test
abbrev pub mask_of : (ℕ → Bool) → ℕ → ℕ
mask_of p zero = 0
mask_of p (suc n) = mask_of p n + cond (p n) (2 ^ n) 0

-- "the variants settled and those of them that can occur", by the number of each: 1 SAT, 2 UNSAT, 3 SPENT
abbrev pub settled_by : (ℕ → ℕ) → ℕ → ℕ
settled_by codes n = mask_of (λ v. not (eqb (codes v) 3)) n

abbrev pub possible_by : (ℕ → ℕ) → ℕ → ℕ
possible_by codes n = mask_of (λ v. eqb (codes v) 1) n

-- "for each of 24 term rows, two 16-bit masks": row i in numbers 2 × i and 2 × i + 1
abbrev pub masks_below : (ℕ → ℕ → ℕ) → (ℕ → ℕ) → ℕ → List ℕ
masks_below codes counts zero = []
masks_below codes counts (suc i) = masks_below codes counts i ++ (settled_by (codes i) (counts i) ∷ possible_by (codes i) (counts i) ∷ [])

unfoldable pub summary_by : (ℕ → ℕ → ℕ) → (ℕ → ℕ) → List ℕ
summary_by codes counts = masks_below codes counts base.terms

abbrev pub summary_length : ℕ
summary_length = 2 * base.terms

abbrev pub settled_at : List ℕ → ℕ → ℕ
settled_at s i = get_or s (2 * i) 0

abbrev pub possible_at : List ℕ → ℕ → ℕ
possible_at s i = get_or s (2 * i + 1) 0

-- ---- made anew, and when a line is added

-- the walk of a variant: what the desk says of the guard with that line, within the budget
unfoldable pub walked : ℕ → Guard → ℕ → ℕ → ℕ
walked budget g i v = code_for budget (with_variant g i v)

-- "Made anew ..., every variant being walked"
unfoldable pub summary_of : ℕ → Guard → List ℕ
summary_of budget g = summary_by (walked budget g) (variant_count g)

-- "settled impossible": by these masks of its row
abbrev pub ruled_out : ℕ → ℕ → ℕ → Bool
ruled_out settled possible v = not (eqb (bit settled v) 0) && eqb (bit possible v) 0

-- "settled impossible variants are kept so without a walk, and every other one is walked afresh"
unfoldable pub kept_or_walked : ℕ → List ℕ → Guard → ℕ → ℕ → ℕ
kept_or_walked budget old g i v = cond (ruled_out (settled_at old i) (possible_at old i) v) 2 (walked budget g i v)

-- "When a line is added": the new summary, of the guard with that line
unfoldable pub updated : ℕ → List ℕ → Guard → List ℕ
updated budget old g = summary_by (kept_or_walked budget old g) (variant_count g)

-- ---- when it is true

-- document 01: "Open means SAT", the walk with no budget set
abbrev pub IsSat : Guard → Type 0
IsSat g = (xs : List Visit) × (search_of g ≡ opened xs)

-- "It is true of its guard when each settled variant can occur exactly if the guard with the line "this term is that variant" is SAT."
pub record TrueOf (g : Guard) (s : List ℕ) : Type 0 where
  pub tells : (i v : ℕ) → i < base.terms → v < variant_count g i → bit (settled_at s i) v ≡ 1 → (bit (possible_at s i) v ≡ 1) ↔ IsSat (with_variant g i v)

-- what else every summary has: "those of them", so none that isn't settled; no bit but for a variant; "a missing row or one of number type has 0"
pub record Shaped (g : Guard) (s : List ℕ) : Type 0 where
  pub long : length s ≡ summary_length
  pub of_them : (i v : ℕ) → bit (possible_at s i) v ≡ 1 → bit (settled_at s i) v ≡ 1
  pub past : (i v : ℕ) → variant_count g i ≤ v → bit (settled_at s i) v ≡ 0
  pub none : (i : ℕ) → variant_count g i ≡ 0 → (settled_at s i ≡ 0) × (possible_at s i ≡ 0)

-- "it agrees with one made anew wherever both are settled"
pub record Agree (g : Guard) (s u : List ℕ) : Type 0 where
  pub same : (i v : ℕ) → i < base.terms → v < variant_count g i → bit (settled_at s i) v ≡ 1 → bit (settled_at u i) v ≡ 1 → bit (possible_at s i) v ≡ bit (possible_at u i) v
