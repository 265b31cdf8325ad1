-- A file within limits is read the same way under larger ones: only the three questions about T, N and L look at the limits, and
-- each gets a yes from both. So the answer is the same, where each caller's buffers are long enough. Assumes nothing.
use mathlib.Core.Path.{◌≡◌, refl, ap, sym, ◌∙◌}
use mathlib.Core.Bool.{Bool, true, ◌&&◌}
use mathlib.Core.List.{List, []}
use Prim.Native.Nat.{ℕ, ◌≤◌}
use native.Mathlib.Omega.{arith}
use lib.Dec.{leb}
use borrow.Author.Tests.{le-leb, leb-true}
use Rattle.laws.proofs.Bools.{and_both, and_left, and_right}
use Rattle.guard.specs.Answer.{after_questions, outcome}
use Rattle.guard.specs.File.{file, literal, rows, types}
use Rattle.guard.specs.Grammar.{ended}
use Rattle.guard.specs.Guard.{Guard, Literal, Row}
use Rattle.guard.specs.Limits.{Limits, place_buffer, row_buffer}
use Rattle.guard.specs.Number.{Parsed, Parsed.accepted, Parsed.refused, Parser, ◌>>=◌, ◌>>◌, and_then, ask, return, times, unsigned}
use Rattle.guard.specs.Types.{Types, all_defaults, infinite_fields}
use Rattle.guard.proofs.AnswerLaws.{long_buffers}
use Rattle.withinlimits.specs.Within.{Smaller, as_far_as_read, lines_within, rows_within, within}

-- ---- two ways to go on that agree wherever the test holds

module _ {A B : Type 0} (f g : A → Parser B) (test : A → List ℕ → Bool) (same : (a : A) (bytes : List ℕ) → test a bytes ≡ true → f a bytes ≡ g a bytes) where
  same_after : (p : Parsed A) → as_far_as_read p test ≡ true → and_then f p ≡ and_then g p
  same_after (refused q) e = refl
  same_after (accepted a bytes) e = same a bytes e

-- a count that is read, and asked to be within a limit
abbrev counted : ℕ → Parsed ℕ → Parsed ℕ
counted most p = and_then (λ (n : ℕ). ask 4 (leb n most) >> return n) p

module _ {B : Type 0} (f g : ℕ → Parser B) (few many : ℕ) (fewer : few ≤ many) (test : ℕ → List ℕ → Bool) (same : (n : ℕ) (bytes : List ℕ) → test n bytes ≡ true → f n bytes ≡ g n bytes) where
  same_count : (p : Parsed ℕ) → as_far_as_read p (λ (n : ℕ) (bytes : List ℕ). leb n few && test n bytes) ≡ true → and_then f (counted few p) ≡ and_then g (counted many p)
  same_count (refused q) e = refl
  same_count (accepted n bytes) e =
      let small : leb n few ≡ true = and_left (leb n few) (test n bytes) e in
      let large : leb n many ≡ true = le-leb n many (omega (arith, leb-true n few small)) in
      ap (λ (b : Bool). and_then f (and_then (λ (u : Unit {0}). return n) (ask 4 b bytes))) small
      ∙ same n bytes (and_right (leb n few) (test n bytes) e)
      ∙ ap (λ (b : Bool). and_then g (and_then (λ (u : Unit {0}). return n) (ask 4 b bytes))) (sym large)

-- ---- the parts of a file, from the last to the first

module _ (limits : Limits) where
  lines-part : Types → List Row → ℕ → Parser Guard
  lines-part ts rs l = times l (literal ts rs) >>= λ (ls : List Literal). ended >> return (record { types = ts; rows = rs; literals = ls })

  abbrev after-rows : Types → List Row → Parser Guard
  after-rows ts rs bytes = and_then (lines-part ts rs) (counted limits.lines (unsigned bytes))

  abbrev rows-part : Types → ℕ → Parser Guard
  rows-part ts n = rows n ts [] >>= after-rows ts

  abbrev after-types : Types → Parser Guard
  after-types ts bytes = and_then (rows-part ts) (counted limits.terms (unsigned bytes))

  abbrev types-part : ℕ → Parser Guard
  types-part many = types many many 0 >>= λ (ts : Types). ask 8 (all_defaults ts) >> (ask 9 (infinite_fields ts) >> after-types ts)

  file-parts : (bytes : List ℕ) → file limits bytes ≡ and_then types-part (counted limits.types (unsigned bytes))
  unfolding file lines-part
  file-parts bytes = refl

module _ (small large : Limits) (s : Smaller small large) where
  same_lines : (ts : Types) (rs : List Row) (bytes : List ℕ) → as_far_as_read (unsigned bytes) (lines_within small) ≡ true → after-rows small ts rs bytes ≡ after-rows large ts rs bytes
  unfolding lines-part
  same_lines ts rs bytes e = go (unsigned bytes) e
    where
      go : (p : Parsed ℕ) → as_far_as_read p (lines_within small) ≡ true → and_then (lines-part small ts rs) (counted small.lines p) ≡ and_then (lines-part large ts rs) (counted large.lines p)
      go (refused q) h = refl
      go (accepted l left) h = same_count (lines-part small ts rs) (lines-part large ts rs) small.lines large.lines s.lines (λ n b. true) (λ n b q. refl) (accepted l left) (and_both (leb l small.lines) true h refl)

  same_rows : (ts : Types) (bytes : List ℕ) → as_far_as_read (unsigned bytes) (rows_within small ts) ≡ true → after-types small ts bytes ≡ after-types large ts bytes
  same_rows ts bytes e =
      same_count (rows-part small ts) (rows-part large ts) small.terms large.terms s.terms (λ (n : ℕ) (left : List ℕ). as_far_as_read (rows n ts [] left) (λ (rs : List Row) (more : List ℕ). as_far_as_read (unsigned more) (lines_within small)))
      (λ n left h. same_after (after-rows small ts) (after-rows large ts) (λ (rs : List Row) (more : List ℕ). as_far_as_read (unsigned more) (lines_within small)) (same_lines ts) (rows n ts [] left) h) (unsigned bytes) e

  abbrev after_nine : Types → Unit {0} → List ℕ → Bool
  after_nine ts u bytes = as_far_as_read (unsigned bytes) (rows_within small ts)

  abbrev after_eight : Types → Unit {0} → List ℕ → Bool
  after_eight ts u bytes = as_far_as_read (ask 9 (infinite_fields ts) bytes) (after_nine ts)

  abbrev after_types : Types → List ℕ → Bool
  after_types ts bytes = as_far_as_read (ask 8 (all_defaults ts) bytes) (after_eight ts)

  same-questions : (ts : Types) (bytes : List ℕ) → after_types ts bytes ≡ true
      → (ask 8 (all_defaults ts) >> (ask 9 (infinite_fields ts) >> after-types small ts)) bytes ≡ (ask 8 (all_defaults ts) >> (ask 9 (infinite_fields ts) >> after-types large ts)) bytes
  same-questions ts bytes e =
      same_after (λ (u : Unit {0}). ask 9 (infinite_fields ts) >> after-types small ts) (λ (u : Unit {0}). ask 9 (infinite_fields ts) >> after-types large ts) (after_eight ts)
      (λ u left h. same_after (λ (w : Unit {0}). after-types small ts) (λ (w : Unit {0}). after-types large ts) (after_nine ts) (λ w more k. same_rows ts more k) (ask 9 (infinite_fields ts) left) h)
      (ask 8 (all_defaults ts) bytes) e

  -- the file is read the same way
  pub same-file : (bytes : List ℕ) → within small bytes ≡ true → file small bytes ≡ file large bytes
  unfolding within
  same-file bytes e =
      file-parts small bytes
      ∙ same_count (types-part small) (types-part large) small.types large.types s.types (λ (many : ℕ) (left : List ℕ). as_far_as_read (types many many 0 left) after_types)
      (λ many left h. same_after
      (λ (ts : Types). ask 8 (all_defaults ts) >> (ask 9 (infinite_fields ts) >> after-types small ts)) (λ (ts : Types). ask 8 (all_defaults ts) >> (ask 9 (infinite_fields ts) >> after-types large ts)) after_types same-questions (types many many 0 left) h)
      (unsigned bytes) e
      ∙ sym (file-parts large bytes)

  -- Document 02, #110: "With the same budget, and buffers long enough for each, a file within the small limits gets the same refusal,
  -- or verdict, node and split counts, from both".
  pub same_answer : (bytes : List ℕ) → within small bytes ≡ true → (budget row_length place_length row_length₂ place_length₂ : ℕ) → row_buffer small ≤ row_length → place_buffer small ≤ place_length
      → row_buffer large ≤ row_length₂ → place_buffer large ≤ place_length₂ → outcome small bytes budget row_length place_length ≡ outcome large bytes budget row_length₂ place_length₂
  unfolding outcome
  same_answer bytes e budget row_length place_length row_length₂ place_length₂ r p r₂ p₂ =
      ap (after_questions budget) (long_buffers small bytes row_length place_length r p ∙ same-file bytes e ∙ sym (long_buffers large bytes row_length₂ place_length₂ r₂ p₂))
