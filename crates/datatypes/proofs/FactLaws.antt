-- The outcome of the questions 8 and 9 for the types that columns in range hold. Assumes nothing.
use mathlib.Core.Path.{◌≡◌, refl, ap, sym, ◌∙◌}
use mathlib.Core.Bool.{Bool, true, false, cond}
use mathlib.Core.List.{List}
use Prim.Native.Nat.{ℕ}
use Rattle.std.proofs.Common.{Ok, Err}
use Rattle.guard.specs.Types.{Types, all_defaults, defaults, infinite_fields}
use Rattle.tables.specs.Layout.{default_column}
use Rattle.finite.specs.TypeColumns.{InRange, types_in}
use Rattle.finite.specs.Finite.{finite_column}
use Rattle.defaults.specs.Settled.{all_settled, settled_column}
use Rattle.defaults.proofs.SettledLaws.{settled-variants}
use Rattle.defaults.proofs.RoundLaws.{question_8}
use Rattle.guard.specs.declared.Question.TheVariants.{NoDefault, NoInfiniteField}
use Rattle.datatypes.specs.Facts.{all_growing, type_facts}
use Rattle.datatypes.proofs.QuestionLaws.{growing-question}

module _ (many : ℕ) (variants first arities sorts : List ℕ) (r : InRange many variants first arities sorts) where
  abbrev ts : Types
  ts = types_in many variants first arities sorts

  question_9 : (finite : List ℕ) → finite ≡ finite_column ts → all_growing finite ts ≡ infinite_fields ts
  question_9 finite e = ap (λ (c : List ℕ). all_growing c ts) e ∙ growing-question ts

  -- the outcome by the answers to both questions
  outcome : (a b : Bool) → all_defaults ts ≡ a → infinite_fields ts ≡ b → type_facts ts ≡ cond a (cond b (Ok (default_column (defaults ts))) (Err NoInfiniteField)) (Err NoDefault)
  unfolding type_facts
  outcome a b p q =
      ap (λ (x : Bool). cond x (cond (infinite_fields ts) (Ok (default_column (defaults ts))) (Err NoInfiniteField)) (Err NoDefault)) p
      ∙ ap (λ (x : Bool). cond a (cond x (Ok (default_column (defaults ts))) (Err NoInfiniteField)) (Err NoDefault)) q

  pub facts_8 : (settled : List ℕ) {answer : Bool} → settled ≡ settled_column (defaults ts) → answer ≡ all_settled settled many → answer ≡ false → Err NoDefault ≡ type_facts ts
  facts_8 settled e q n = sym (outcome false (infinite_fields ts) (sym (question_8 many variants first arities sorts r settled e) ∙ sym q ∙ n) refl)

  module _ (settled finite : List ℕ) {answer last : Bool} (e : settled ≡ settled_column (defaults ts)) (f : finite ≡ finite_column ts)
      (q : answer ≡ all_settled settled many) (y : answer ≡ true) (p : last ≡ all_growing finite ts) where
    pub facts_9 : last ≡ false → Err NoInfiniteField ≡ type_facts ts
    facts_9 n = sym (outcome true false (sym (question_8 many variants first arities sorts r settled e) ∙ sym q ∙ y) (sym (question_9 finite f) ∙ sym p ∙ n))

    pub facts_yes : last ≡ true → Ok settled ≡ type_facts ts
    facts_yes z =
        sym (outcome true true (sym (question_8 many variants first arities sorts r settled e) ∙ sym q ∙ y) (sym (question_9 finite f) ∙ sym p ∙ z)
        ∙ ap Ok (sym (e ∙ settled-variants (defaults ts) (sym (question_8 many variants first arities sorts r settled e) ∙ sym q ∙ y))))
