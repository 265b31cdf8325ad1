-- The answer to a file, from the questions and the answer to its tables. Assumes nothing.
use mathlib.Core.Path.{◌≡◌, refl, ap, ap₂, sym, ◌∙◌}
use mathlib.Core.Bool.{Bool, true, false, ◌&&◌}
use mathlib.Core.List.{List, []}
use Prim.Native.Nat.{ℕ, ◌*◌, ◌≤◌, ◌<◌}
use native.Mathlib.Omega.{arith}
use lib.Dec.{leb}
use lib.IntN.{ℤ, pos}
use lib.ListN.{length, replicate}
use borrow.Author.Tests.{leb-false, leb-true, lt-leb}
use Rattle.laws.proofs.Bools.{by_test}
use Rattle.guard.specs.Answer.{Outcome, Outcome.refusal, Outcome.sat, Outcome.unsat, after_buffers, after_questions, cut_off, outcome, outcome_of, questions, verdict, with_budget}
use Rattle.guard.specs.File.{file}
use Rattle.guard.specs.Guard.{Guard}
use Rattle.guard.specs.Limits.{Limits, Supported, place_buffer, row_buffer}
use Rattle.guard.specs.Meaning.{Satisfiable}
use Rattle.guard.specs.Number.{Parsed.accepted, Parsed.refused}
use Rattle.guard.specs.Search.{Counts, Visit, Visits, Visits.closed, Visits.opened, counts_of, search_of, visits}
use Rattle.guard.specs.declared.Answer.{Answer}
use Rattle.guard.specs.declared.Answer.TheVariants.{Refused}
use Rattle.guard.proofs.AnswerLaws.{enough, long_buffers, too_few}
use Rattle.guard.proofs.Accepted.{accepted_well_formed}
use Rattle.guard.proofs.Claims.{accepts-all}
use Rattle.theory.proofs.Theorems.{closed_unsatisfiable}
use Rattle.reader.specs.Reader.{in_tables}
use Rattle.reader.specs.declared.Tables.{Tables}
use Rattle.decidewithin.specs.Decides.{Decides}
use Rattle.searchanswer.specs.Searched.{AnswersTables}
use Rattle.cleared.proofs.Cleared.{long_zero}
use Rattle.search.specs.Nodes.{Accepted}
use Rattle.messages.specs.Messages.{RoomFor, rows_enough}
use Rattle.messages.proofs.CallLaws.{many-terms, many-types}
use Rattle.reader.proofs.TablesRead.{Taken, refused-file, taken-file}
use Rattle.roots.proofs.TablesRead.{guard-accepted, guard-tables}
use Rattle.decidewithin.proofs.Buffers.{rows_rise}

-- ---- verdicts and visits

-- an answer that is not SPENT is the verdict, within the budget
not_spent : (budget : ℕ) (w : Visits) (want : Outcome) → ¬ (cut_off budget w ≡ want) → with_budget budget w ≡ want → (verdict w ≡ want) × (visits w ≤ budget)
not_spent budget w want n e =
    by_test (leb (visits w) budget) (λ b. let l : visits w ≤ budget = leb-true (visits w) budget b in (sym (enough budget w l) ∙ e, l))
    (λ b. absurd (n (sym (too_few budget w (leb-false (visits w) budget b)) ∙ e)))

-- a search that ended open, or closed, with these counts
abbrev pub Ended : (List Visit → Visits) → Visits → Counts → Type 0
Ended make w c = (xs : List Visit) × (w ≡ make xs) × (counts_of xs ≡ c)

pub sat-opened : (budget : ℕ) (w : Visits) (c : Counts) → with_budget budget w ≡ sat c → Ended opened w c × (visits w ≤ budget)
sat-opened budget w c e =
    let (v, l) = not_spent budget w (sat c) (λ s. let z : ◌≡◌ {A = ℕ} 0 1 = cc in omega arith) e in
    (go w v, l)
  where
    go : (w : Visits) → verdict w ≡ sat c → Ended opened w c
    go (opened xs) e = (xs, refl, cc)
    go (closed xs) e = let z : ◌≡◌ {A = ℕ} 0 1 = cc in absurd (omega arith)

pub unsat-closed : (budget : ℕ) (w : Visits) (c : Counts) → with_budget budget w ≡ unsat c → Ended closed w c × (visits w ≤ budget)
unsat-closed budget w c e =
    let (v, l) = not_spent budget w (unsat c) (λ s. let z : ◌≡◌ {A = ℕ} 0 1 = cc in omega arith) e in
    (go w v, l)
  where
    go : (w : Visits) → verdict w ≡ unsat c → Ended closed w c
    go (closed xs) e = (xs, refl, cc)
    go (opened xs) e = let z : ◌≡◌ {A = ℕ} 0 1 = cc in absurd (omega arith)

pub never_refused : (budget : ℕ) (w : Visits) (q : ℕ) → ¬ (with_budget budget w ≡ refusal q)
never_refused budget w q e = go w (not_spent budget w (refusal q) (λ s. let z : ◌≡◌ {A = ℕ} 0 1 = cc in omega arith) e).0
  where
    go : (w : Visits) → ¬ (verdict w ≡ refusal q)
    go (opened m) e = let z : ◌≡◌ {A = ℕ} 0 1 = cc in omega arith
    go (closed m) e = let z : ◌≡◌ {A = ℕ} 0 1 = cc in omega arith

-- a call gets past its questions only with a file that does
pub questions-file : (limits : Limits) (bytes : List ℕ) (row_length place_length : ℕ) (g : Guard) (rest : List ℕ) → questions limits bytes row_length place_length ≡ accepted g rest → file limits bytes ≡ accepted g rest
unfolding questions
questions-file limits bytes row_length place_length g rest = go (leb (row_buffer limits) row_length && leb (place_buffer limits) place_length)
  where
    go : (b : Bool) → after_buffers b limits bytes ≡ accepted g rest → file limits bytes ≡ accepted g rest
    go true e = e
    go false e = let z : ◌≡◌ {A = ℕ} 0 1 = cc in absurd (omega arith)

module _ (limits : Limits) (bytes : List ℕ) (budget : ℕ) (rows places rows' places' : List ℤ) where
  abbrev Answered : Answer → Type 0
  Answered r = Decides limits bytes budget rows places r rows' places'

  -- ---- refusals

  module _ (rows_zero : rows' ≡ replicate (length rows) (pos 0)) (places_zero : places' ≡ replicate (length places) (pos 0)) where
    refused_decides : (q : ℕ) → questions limits bytes (length rows) (length places) ≡ refused q → Answered (Refused q)
    unfolding outcome outcome_of
    refused_decides q e =
        record {
          says = sym (ap (after_questions budget) e);
          long_rows = long_zero rows rows' rows_zero;
          long_places = long_zero places places' places_zero;
          cleared = λ f. (rows_zero, places_zero);
          shown = λ g rest taken n h. let z : ◌≡◌ {A = ℕ} 0 1 = cc in absurd (omega arith);
          dead = λ g rest taken n h. let z : ◌≡◌ {A = ℕ} 0 1 = cc in absurd (omega arith);
        }

    -- question 1
    pub short-rows : length rows < row_buffer limits → Answered (Refused 1)
    unfolding questions
    short-rows h = refused_decides 1 (ap (λ (b : Bool). after_buffers (b && leb (place_buffer limits) (length places)) limits bytes) (lt-leb (row_buffer limits) (length rows) h))

    pub short_places : length places < place_buffer limits → Answered (Refused 1)
    unfolding questions
    short_places h =
        refused_decides 1
        (by_test (leb (row_buffer limits) (length rows))
        (λ e. ap (λ (b : Bool). after_buffers (b && leb (place_buffer limits) (length places)) limits bytes) e ∙ ap (λ (b : Bool). after_buffers b limits bytes) (lt-leb (place_buffer limits) (length places) h))
        (λ e. ap (λ (b : Bool). after_buffers (b && leb (place_buffer limits) (length places)) limits bytes) e))

    -- the questions of the file
    pub file-refused : row_buffer limits ≤ length rows → place_buffer limits ≤ length places → (q : ℕ) → in_tables (file limits) bytes ≡ refused q → Answered (Refused q)
    file-refused room_rows room_places q e = refused_decides q (long_buffers limits bytes (length rows) (length places) room_rows room_places ∙ refused-file limits bytes q e)

  -- ---- the others

  module _ (sup : Supported limits) (suffice : rows_enough limits.types limits.terms ≤ limits.rows) (room_rows : row_buffer limits ≤ length rows) (room_places : place_buffer limits ≤ length places)
      (t : Tables) (read : in_tables (file limits) bytes ≡ accepted t []) where
    taken : Taken limits bytes t
    taken = taken-file limits bytes t read

    same-questions : questions limits bytes (length rows) (length places) ≡ file limits bytes
    same-questions = long_buffers limits bytes (length rows) (length places) room_rows room_places

    -- a guard of the file needs no more rows than the limits have
    guard-rows : (g : Guard) (rest : List ℕ) → file limits bytes ≡ accepted g rest → rows_enough (length g.types) (length g.rows) ≤ limits.rows
    guard-rows g rest e =
        let ok = accepted_well_formed limits sup bytes g rest e in
        omega (arith, suffice, rows_rise (length g.types) (length g.rows) limits.types limits.terms ok.type_count ok.term_count)

    -- and the buffers have room for what is read
    pub read-room : RoomFor t rows places
    read-room =
        let k : Taken limits bytes t = taken in
        let g : Guard = k.guard in
        let ok : Accepted g = guard-accepted limits sup bytes g [] k.parsed in
        let size : rows_enough t.types.many t.rows.many ≡ rows_enough (length g.types) (length g.rows) = ap₂ (λ (a b : ℕ). rows_enough a b) (many-types t g ok k.is) (many-terms t g ok k.is) in
        (fits (rows_enough t.types.many t.rows.many) size (guard-rows g [] k.parsed), omega (arith, many-terms t g ok k.is, (accepted_well_formed limits sup bytes g [] k.parsed).term_count))
      where
        fits : (n : ℕ) {k : ℕ} → n ≡ k → k ≤ limits.rows → 4 * n ≤ length rows
        fits n e h = omega (arith, e, room_rows)

    module _ (r : Answer) (a : AnswersTables t budget rows places r rows' places') where
      answer_of : (g : Guard) (rest : List ℕ) → file limits bytes ≡ accepted g rest → outcome_of r ≡ with_budget budget (search_of g)
      answer_of g rest e = a.says g (guard-accepted limits sup bytes g rest e) (guard-tables limits bytes t read g rest e)

      answer-says : outcome_of r ≡ outcome limits bytes budget (length rows) (length places)
      unfolding outcome
      answer-says =
          let k : Taken limits bytes t = taken in
          answer_of k.guard [] k.parsed ∙ sym (ap (after_questions budget) (same-questions ∙ k.parsed))

      none_hold : (g : Guard) (rest : List ℕ) → file limits bytes ≡ accepted g rest → (c : Counts) → outcome_of r ≡ unsat c → ¬ Satisfiable g
      none_hold g rest e c h =
          let ((xs, w, _), _) = unsat-closed budget (search_of g) c (sym (answer_of g rest e) ∙ h) in
          closed_unsatisfiable limits bytes g (accepts-all limits bytes g rest sup e) xs w

      pub tables_decide : Answered r
      tables_decide =
          record {
            says = answer-says;
            long_rows = a.long_rows;
            long_places = a.long_places;
            cleared = a.cleared;
            shown = λ g rest q n h.
                let e : file limits bytes ≡ accepted g rest = sym same-questions ∙ q in
                a.shown g (guard-accepted limits sup bytes g rest e) (guard-tables limits bytes t read g rest e) n h limits (guard-rows g rest e);
            dead = λ g rest q n h. none_hold g rest (sym same-questions ∙ q) n h;
          }
