-- What the contract of `explain` says of an accepted file: after UNSAT the checker accepts the record, and with three bytes of room for each
-- node the answer is the desk's. Each follows from the contract alone. Assumes nothing.
use mathlib.Core.Path.{◌≡◌, refl, ap, ap₂, sym, ◌∙◌}
use mathlib.Core.Bool.{Bool, true, false, cond}
use mathlib.Core.List.{List, []}
use Prim.Native.Nat.{ℕ, ◌*◌, ◌≤◌}
use native.Mathlib.Omega.{arith}
use lib.Dec.{leb}
use lib.IntN.{ℤ}
use lib.ListN.{length, take}
use lib.Seq.{take_at}
use borrow.Author.Tests.{le-leb}
use Rattle.guard.specs.Answer.{Outcome, Outcome.refusal, Outcome.sat, Outcome.spent, Outcome.unsat, after_questions, outcome, outcome_of, questions, with_budget}
use Rattle.guard.specs.Guard.{Guard}
use Rattle.guard.specs.Limits.{base}
use Rattle.guard.specs.Number.{Parsed, Parsed.accepted, Parsed.refused}
use Rattle.guard.specs.Search.{Counts, node_count, search_of}
use Rattle.guard.proofs.Claims.{accepts-all, base-supported}
use Rattle.refutations.specs.Checker.{checked}
use Rattle.refutations.specs.Record.{record_bytes}
use Rattle.refutations.proofs.Theorems.{at-most-three, record-checked}
use Rattle.decidewithin.proofs.Decided.{questions-file, unsat-closed}
use Rattle.explain.specs.declared.Explained.{Explained}
use Rattle.explain.specs.Explains.{Explains, ask_record, explained, explained_by, record_after, record_by, recorded}

-- after UNSAT the desk said so too, and the record is the guard's
unsat-asked : (room : ℕ) (g : Guard) (o : Outcome) (n : Counts) → ask_record room g o ≡ unsat n → (o ≡ unsat n) × (record_after g (ask_record room g o) ≡ record_bytes g)
unsat-asked room g (refusal q) n e = let z : ◌≡◌ {A = ℕ} 0 1 = cc in absurd (omega arith)
unsat-asked room g (sat m) n e = let z : ◌≡◌ {A = ℕ} 0 1 = cc in absurd (omega arith)
unsat-asked room g (unsat m) n e = go (leb (length (record_bytes g)) room) e
  where
    go : (b : Bool) → cond b (unsat m) (refusal 11) ≡ unsat n → (unsat m ≡ unsat n) × (record_after g (cond b (unsat m) (refusal 11)) ≡ record_bytes g)
    go true q = (q, refl)
    go false q = let z : ◌≡◌ {A = ℕ} 0 1 = cc in absurd (omega arith)
unsat-asked room g (spent b) n e = let z : ◌≡◌ {A = ℕ} 0 1 = cc in absurd (omega arith)

-- with room enough after UNSAT the answer is the desk's
room-enough : (room : ℕ) (g : Guard) (o : Outcome) → ((n : Counts) → o ≡ unsat n → leb (length (record_bytes g)) room ≡ true) → ask_record room g o ≡ o
room-enough room g (refusal q) h = refl
room-enough room g (sat m) h = refl
room-enough room g (unsat m) h = ap (λ (b : Bool). cond b (unsat m) (refusal 11)) (h m refl)
room-enough room g (spent b) h = refl

module _ {bytes : List ℕ} {budget : ℕ} {rows places : List ℤ} {lent : List ℕ} {r : Explained} {rows' places' : List ℤ} {lent' : List ℕ}
    (x : Explains base bytes budget rows places lent r rows' places' lent') where
  abbrev asks : Parsed Guard
  asks = questions base bytes (length rows) (length places)

  answers : outcome_of r.answer ≡ explained_by budget (length lent) asks
  unfolding explained
  answers = x.says

  -- the bytes that were written
  front : take r.bytes lent' ≡ record_by budget (length lent) asks
  unfolding recorded
  front = ap₂ (λ (k : ℕ) (bs : List ℕ). take k bs) x.many x.written ∙ take_at (record_by budget (length lent) asks) _ (length (record_by budget (length lent) asks)) refl

  -- "Every record that call writes is accepted"
  pub record-accepted : (n : Counts) → outcome_of r.answer ≡ unsat n → checked base bytes (take r.bytes lent') ≡ accepted tt []
  record-accepted n e = ap (checked base bytes) front ∙ go asks refl (sym answers ∙ e)
    where
      go : (p : Parsed Guard) → asks ≡ p → explained_by budget (length lent) p ≡ unsat n → checked base bytes (record_by budget (length lent) p) ≡ accepted tt []
      go (refused q) k u = let z : ◌≡◌ {A = ℕ} 0 1 = cc in absurd (omega arith)
      go (accepted g rest) k u =
          let (o, w) = unsat-asked (length lent) g (with_budget budget (search_of g)) n u in
          let ends = (unsat-closed budget (search_of g) n o).0 in
          let taken = questions-file base bytes (length rows) (length places) g rest k in
          ap (checked base bytes) w ∙ record-checked base bytes g (accepts-all base bytes g rest base-supported taken) ends.0 ends.1

  -- "for it the rules on files taken and on budgets suppose a record buffer long enough": three bytes for each node are
  pub as_the_desk : (g : Guard) (rest : List ℕ) → questions base bytes (length rows) (length places) ≡ accepted g rest → 3 * node_count g ≤ length lent
      → outcome_of r.answer ≡ outcome base bytes budget (length rows) (length places)
  unfolding outcome
  as_the_desk g rest k h =
      answers ∙ ap (explained_by budget (length lent)) k
      ∙ room-enough (length lent) g (with_budget budget (search_of g)) enough ∙ sym (ap (after_questions budget) k)
    where
      enough : (n : Counts) → with_budget budget (search_of g) ≡ unsat n → leb (length (record_bytes g)) (length lent) ≡ true
      enough n o =
          let taken = questions-file base bytes (length rows) (length places) g rest k in
          let ends = (unsat-closed budget (search_of g) n o).0 in
          le-leb (length (record_bytes g)) (length lent) (omega (arith, h, at-most-three base bytes g (accepts-all base bytes g rest base-supported taken) ends.0 ends.1))
