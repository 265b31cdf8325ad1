-- The rounds of defaults of the types that columns in range hold, one after the other, and question 8 of what they leave.
-- Assumes nothing.
use mathlib.Core.Path.{◌≡◌, refl, ap, sym, ◌∙◌}
use mathlib.Core.List.{List}
use Prim.Native.Nat.{ℕ, ◌+◌, ◌≤◌, ◌<◌}
use native.Mathlib.Numerals.{add-one}
use native.Mathlib.Omega.{arith}
use lib.ListN.{length}
use Rattle.laws.specs.All.{All}
use Rattle.guard.specs.Limits.{variant_limit}
use Rattle.guard.specs.Types.{Types, all_defaults, defaults, variants_of}
use Rattle.tables.proofs.Held.{held-many}
use Rattle.finite.specs.TypeColumns.{InRange, column, columns, types_in}
use Rattle.finite.proofs.FlatTypes.{few-variants, fields-inside, number_is}
use Rattle.defaults.specs.Settled.{all_settled, first_settled, next_settled, settled_after, settled_column}
use Rattle.defaults.proofs.SettledLaws.{rounds_column, settled-question}

module _ (variants : List ℕ) (ts : Types) where
  pub rounds_first : settled_after 0 variants ts ≡ column (first_settled variants) (length ts)
  unfolding settled_after
  rounds_first = refl

  pub rounds_next : (k : ℕ) → settled_after (k + 1) variants ts ≡ column (next_settled (settled_after k variants ts) ts) (length ts)
  unfolding settled_after
  rounds_next k = ap (λ (m : ℕ). settled_after m variants ts) (add-one k)

module _ (many : ℕ) (variants first arities sorts : List ℕ) where
  abbrev ts : Types
  ts = types_in many variants first arities sorts

  module _ (r : InRange many variants first arities sorts) where
    few : (t : ℕ) → t < length ts → length (variants_of ts t) ≤ variant_limit
    few t h = few-variants many variants first arities sorts r t (omega (arith, held-many (columns many variants first arities sorts)))

    inside : (t : ℕ) → t < length ts → All (All (λ f. f < length ts)) (variants_of ts t)
    inside t h = fields-inside many variants first arities sorts r t (omega (arith, held-many (columns many variants first arities sorts)))

    pub rounds_end : (k : ℕ) → k ≡ many → settled_after k variants ts ≡ settled_column (defaults ts)
    rounds_end k e =
        let q : k ≡ length ts = omega (arith, held-many (columns many variants first arities sorts)) in
        ap (λ (m : ℕ). settled_after m variants ts) q
        ∙ rounds_column ts few inside variants (λ t h. sym (number_is many variants first arities sorts t (omega (arith, held-many (columns many variants first arities sorts))))) (length ts)

    -- question 8 of what the rounds leave
    pub question_8 : (settled : List ℕ) → settled ≡ settled_column (defaults ts) → all_settled settled many ≡ all_defaults ts
    question_8 settled e =
        ap (λ (c : List ℕ). all_settled c many) e ∙ ap (all_settled (settled_column (defaults ts))) (sym (held-many (columns many variants first arities sorts))) ∙ settled-question ts few inside

pub ruleset rounds = (rounds_first, rounds_next, rounds_end, held-many)
