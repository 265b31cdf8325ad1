-- From the desk's answer and the record to what the second call gives. Assumes nothing.
use mathlib.Core.Path.{◌≡◌, refl, ap, sym, ◌∙◌}
use mathlib.Core.Bool.{Bool, true, false, cond, false≢true}
use mathlib.Core.List.{List, []}
use Rattle.std.proofs.Common.{Result, Ok, Err, IsOk}
use Rattle.std.specs.Prelude.{Option, Some, None}
use Prim.Native.Nat.{ℕ, ◌-◌}
use native.Mathlib.Omega.{arith}
use lib.Dec.{leb}
use lib.IntN.{ℤ}
use lib.ListN.{length, replicate}
use Rattle.guard.specs.Answer.{Outcome, Outcome.refusal, Outcome.sat, Outcome.spent, Outcome.unsat, after_questions, outcome, outcome_of, questions, with_budget}
use Rattle.guard.specs.File.{file}
use Rattle.guard.specs.Guard.{Guard}
use Rattle.guard.specs.Limits.{base}
use Rattle.guard.specs.Number.{Parsed, Parsed.accepted, Parsed.refused}
use Rattle.guard.specs.Search.{Counts, search_of}
use Rattle.guard.specs.declared.Answer.{Answer}
use Rattle.guard.specs.declared.Answer.TheVariants.{Refused, Sat, Unsat, Spent}
use Rattle.guard.proofs.Claims.{base-supported}
use Rattle.guard.specs.Question.{number_of}
use Rattle.guard.specs.declared.Question.{Question}
use Rattle.laws.proofs.Bools.{by_test}
use Rattle.numbers.specs.Reader.{ReadsAll}
use Rattle.reader.specs.declared.Tables.{Tables}
use Rattle.reader.specs.Reader.{in_tables}
use Rattle.reader.proofs.TablesRead.{refused-file}
use Rattle.roots.proofs.TablesRead.{guard-accepted, guard-tables}
use Rattle.refutations.specs.Record.{record_bytes}
use Rattle.bytebuffer.proofs.FillLaws.{filled_none, filled_with}
use Rattle.recordwriter.specs.Records.{Records, written_of}
use Rattle.recordwriter.proofs.RecordLaws.{written_none, written_with}
use Rattle.decidewithin.specs.Decides.{Decides}
use Rattle.decidewithin.proofs.Decided.{questions-file}
use Rattle.explain.specs.Explains.{Explains, RecordsFile, Taken, ask_record, explained, explained_by, is_unsat, padded, record_after, record_by, recorded}

-- ---- the record of an accepted file

-- it is read
pub file-read : (bytes : List ℕ) (r : Result Tables Question) → ReadsAll (in_tables (file base) bytes) r → Taken bytes → IsOk r
file-read bytes (Ok t) e k = refl
file-read bytes (Err q) e k = let f : accepted k.guard k.rest ≡ refused (number_of q) = sym k.is ∙ refused-file base bytes (number_of q) e in absurd cc

module _ {bytes : List ℕ} {t : Tables} (read : in_tables (file base) bytes ≡ accepted t []) where
  pub file-record : {w : Option ℕ} {lent lent' : List ℕ} → Records t w lent lent' → RecordsFile bytes w lent lent'
  file-record r =
      record {
        says = λ g rest e. r.says g (guard-accepted base base-supported bytes g rest e) (guard-tables base bytes t read g rest e);
        left = λ g rest e. r.left g (guard-accepted base base-supported bytes g rest e) (guard-tables base bytes t read g rest e);
      }

-- ---- answers other than UNSAT

abbrev closes : Outcome → Bool
closes (refusal q) = false
closes (sat n) = false
closes (unsat n) = true
closes (spent b) = false

same_test : (a : Answer) → closes (outcome_of a) ≡ is_unsat a
unfolding outcome_of
same_test (Refused q) = refl
same_test (Sat n f s r) = refl
same_test (Unsat n f s) = refl
same_test (Spent b f s) = refl

not_asked : (room : ℕ) (g : Guard) (o : Outcome) → closes o ≡ false → (ask_record room g o ≡ o) × (record_after g (ask_record room g o) ≡ [])
not_asked room g (refusal q) e = (refl, refl)
not_asked room g (sat n) e = (refl, refl)
not_asked room g (unsat n) e = absurd (false≢true (sym e))
not_asked room g (spent b) e = (refl, refl)

as_decided : (budget room : ℕ) (p : Parsed Guard) → closes (after_questions budget p) ≡ false → (explained_by budget room p ≡ after_questions budget p) × (record_by budget room p ≡ [])
as_decided budget room (refused q) e = (refl, refl)
as_decided budget room (accepted g rest) e = not_asked room g (with_budget budget (search_of g)) e

-- ---- UNSAT

-- the guard whose search ends closed
record Closed (budget : ℕ) (p : Parsed Guard) (o : Outcome) : Type 0 where
  guard : Guard
  rest : List ℕ
  counts : Counts
  is : p ≡ accepted guard rest
  ends : with_budget budget (search_of guard) ≡ unsat counts
  answer : o ≡ unsat counts

closed-guard : (budget : ℕ) (p : Parsed Guard) (o : Outcome) → o ≡ after_questions budget p → closes o ≡ true → Closed budget p o
closed-guard budget p (refusal q) e u = absurd (false≢true u)
closed-guard budget p (sat n) e u = absurd (false≢true u)
closed-guard budget p (spent b) e u = absurd (false≢true u)
closed-guard budget (refused q) (unsat n) e u = let z : ◌≡◌ {A = ℕ} 0 1 = cc in absurd (omega arith)
closed-guard budget (accepted g rest) (unsat n) e u = record { guard = g; rest = rest; counts = n; is = refl; ends = sym e; answer = refl }

-- the question of the record's length
module _ (budget room : ℕ) (p : Parsed Guard) (o : Outcome) (c : Closed budget p o) where
  asked : (b : Bool) → leb (length (record_bytes c.guard)) room ≡ b
      → (explained_by budget room p ≡ cond b o (refusal 11)) × (record_by budget room p ≡ cond b (record_bytes c.guard) [])
  asked b q =
      let e : ask_record room c.guard (with_budget budget (search_of c.guard)) ≡ cond b (unsat c.counts) (refusal 11) = ap (ask_record room c.guard) c.ends ∙ ap (λ (b : Bool). cond b (unsat c.counts) (refusal 11)) q in (
        ap (explained_by budget room) c.is ∙ e ∙ ap (λ (x : Outcome). cond b x (refusal 11)) (sym c.answer),
        ap (record_by budget room) c.is ∙ ap (record_after c.guard) e ∙ go b,
      )
    where
      go : (b : Bool) → record_after c.guard (cond b (unsat c.counts) (refusal 11)) ≡ cond b (record_bytes c.guard) []
      go true = refl
      go false = refl

-- the number of bytes tells that they fit, and none that they don't
module _ (bytes : List ℕ) (room : ℕ) where
  told_many : (many : ℕ) → Some many ≡ written_of bytes room → (leb (length bytes) room ≡ true) × (many ≡ length bytes)
  told_many many e =
      by_test (leb (length bytes) room) (λ q. let p : Some many ≡ Some (length bytes) = e ∙ written_with bytes room q in (q, cc))
      (λ q. let p : Some many ≡ None = e ∙ written_none bytes room q in let z : ◌≡◌ {A = ℕ} 0 1 = cc in absurd (omega arith))

  told_none : None ≡ written_of bytes room → leb (length bytes) room ≡ false
  told_none e = by_test (leb (length bytes) room) (λ q. let p : None ≡ Some (length bytes) = e ∙ written_with bytes room q in let z : ◌≡◌ {A = ℕ} 0 1 = cc in absurd (omega arith)) (λ q. q)

no_bytes : (room : ℕ) → replicate room 0 ≡ padded [] room
no_bytes room = let e : room ≡ room - 0 = omega arith in ap (λ (k : ℕ). replicate k 0) e

module _ {bytes : List ℕ} {budget : ℕ} {rows places : List ℤ} (lent : List ℕ) {answer : Answer} {rows' places' : List ℤ} (d : Decides base bytes budget rows places answer rows' places') where
  abbrev asks : Parsed Guard
  asks = questions base bytes (length rows) (length places)

  answers : outcome_of answer ≡ after_questions budget asks
  unfolding outcome
  answers = d.says

  pub other-answer : is_unsat answer ≡ false → {lent' : List ℕ} → lent' ≡ replicate (length lent) 0 → Explains base bytes budget rows places lent (record { answer = answer; bytes = 0 }) rows' places' lent'
  unfolding explained recorded
  other-answer u e =
      let (o, w) = as_decided budget (length lent) asks (ap closes (sym answers) ∙ same_test answer ∙ u) in
      record {
        says = answers ∙ sym o;
        many = sym (ap length w);
        written = e ∙ no_bytes (length lent) ∙ ap (λ (bs : List ℕ). padded bs (length lent)) (sym w);
        long_rows = d.long_rows;
        long_places = d.long_places;
        cleared = d.cleared;
        shown = d.shown;
        dead = d.dead;
      }

  module _ (u : is_unsat answer ≡ true) where
    closed : Closed budget asks (outcome_of answer)
    closed = closed-guard budget asks (outcome_of answer) answers (same_test answer ∙ u)

    in_file : file base bytes ≡ accepted closed.guard closed.rest
    in_file = questions-file base bytes (length rows) (length places) closed.guard closed.rest closed.is

    pub taken : Taken bytes
    taken = record { guard = closed.guard; rest = closed.rest; is = in_file }

    abbrev own : List ℕ
    own = record_bytes closed.guard

    module _ {lent' : List ℕ} where
      pub unsat-recorded : {many : ℕ} → RecordsFile bytes (Some many) lent lent' → Explains base bytes budget rows places lent (record { answer = answer; bytes = many }) rows' places' lent'
      unfolding explained recorded
      unsat-recorded {many} r =
          let (room, long) = told_many own (length lent) many (r.says closed.guard closed.rest in_file) in
          let (o, x) = asked budget (length lent) asks (outcome_of answer) closed true room in
          record {
            says = sym o;
            many = long ∙ sym (ap length x);
            written = r.left closed.guard closed.rest in_file ∙ filled_with own (length lent) room ∙ ap (λ (bs : List ℕ). padded bs (length lent)) (sym x);
            long_rows = d.long_rows;
            long_places = d.long_places;
            cleared = d.cleared;
            shown = d.shown;
            dead = d.dead;
          }

      pub outgrown : RecordsFile bytes None lent lent' → Explains base bytes budget rows places lent (record { answer = Refused 11; bytes = 0 }) rows' places' lent'
      unfolding explained recorded outcome_of
      outgrown r =
          let room = told_none own (length lent) (r.says closed.guard closed.rest in_file) in
          let (o, x) = asked budget (length lent) asks (outcome_of answer) closed false room in
          record {
            says = sym o;
            many = sym (ap length x);
            written = r.left closed.guard closed.rest in_file ∙ filled_none own (length lent) room ∙ no_bytes (length lent) ∙ ap (λ (bs : List ℕ). padded bs (length lent)) (sym x);
            long_rows = d.long_rows;
            long_places = d.long_places;
            cleared = λ f. d.cleared (λ n e. differ n closed.counts (sym e ∙ closed.answer));
            shown = λ g rest k n e. let z : ◌≡◌ {A = ℕ} 0 1 = cc in absurd (omega arith);
            dead = λ g rest k n e. let z : ◌≡◌ {A = ℕ} 0 1 = cc in absurd (omega arith);
          }
        where
          differ : (n m : Counts) → ¬ (sat n ≡ unsat m)
          differ n m e = let z : ◌≡◌ {A = ℕ} 0 1 = cc in omega arith
