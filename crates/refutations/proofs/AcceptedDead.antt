-- What the checker accepts has no satisfying messages. Messages that made all lines hold would make the literals of the root
-- hold; each entry of the record then either contradicts them, or splits, and they hold in one child. Assumes nothing.
use mathlib.Core.Path.{◌≡◌}
use mathlib.Core.Bool.{Bool, true}
use mathlib.Core.List.{List, [], ◌∷◌}
use Prim.Native.Nat.{ℕ, zero, suc}
use Rattle.laws.proofs.Bools.{either}
use Rattle.guard.specs.Closure.{builds_at, closure_of}
use Rattle.guard.specs.Guard.{Guard, Literal, Literal.is, Literal.isnt}
use Rattle.guard.specs.Limits.{Limits, Supported}
use Rattle.guard.specs.Meaning.{Assigns, Satisfiable}
use Rattle.guard.specs.Message.{Message}
use Rattle.guard.specs.Node.{empty_label, inside_itself, unlike_constants}
use Rattle.guard.specs.Number.{Parsed.accepted, Parser, ◌>>◌, ask}
use Rattle.guard.specs.Search.{label_total}
use Rattle.guard.specs.Terms.{Table, table_of}
use Rattle.guard.specs.WellFormed.{WellFormed}
use Rattle.guard.proofs.ClosureBelow.{InRange, LiteralsInRange}
use Rattle.guard.proofs.NodeLaws.{is_in_range, isnt_in_range}
use Rattle.guard.proofs.TableLaws.{literals_in_range_lem, table_in_range}
use Rattle.soundness.proofs.ClosedDead.{AllHoldAt, broken-dead, child_holds, empty-dead, inside-dead, root-holds, split_keeps, unlike-dead}
use Rattle.soundness.proofs.TermValues.{term_value}
use Rattle.refutations.specs.Checker.{below, check, check_from, check_node, check_to, entry, no_more}
use Rattle.refutations.specs.Record.{Entry, Entry.empty, Entry.inside, Entry.split_on, Entry.unequal_line, Entry.unlike, claim, line_at}
use Rattle.refutations.proofs.ClaimLaws.{OverLines, is_over, isnt_over, line_of, root_over, split_claimed, term_of_lem}
use Rattle.encoding.proofs.Parsers.{ask_inv, bind_inv, not_accepted}

-- an accepted node has an entry, its claim holds, and what follows it is accepted
node_inv : (holds : Entry → Bool) (child : Literal → Parser (Unit {0})) (bs : List ℕ) (u : Unit {0}) (rest : List ℕ) → check_node holds child bs ≡ accepted u rest
    → (e : Entry) × (mid : List ℕ) × (holds e ≡ true) × (below child e mid ≡ accepted u rest)
node_inv holds child [] u rest q = absurd (not_accepted 13 u rest q)
node_inv holds child (b ∷ bs) u rest q =
    let (e, mid, p, r) = bind_inv entry (λ e. ask 12 (holds e) >> below child e) (b ∷ bs) u rest q in
    let (h, k) = ask_inv 12 (holds e) (below child e) mid u rest r in
    (e, mid, h, k)

module _ (limits : Limits) (sup : Supported limits) (g : Guard) (ok : WellFormed limits g) where
  abbrev t : Table
  t = table_of g

  range : InRange (table_of g)
  range = table_in_range limits sup g ok

  module _ (ρ : ℕ → Message) (assigns : Assigns g ρ) where
    -- a node whose literals hold, with an entry whose claim holds: it splits, and one child's literals hold
    node-dead : (ls : List Literal) → LiteralsInRange ls → OverLines g.literals ls → AllHoldAt (term_value g ρ) ls
        → (child : Literal → Parser (Unit {0}))
        → ((l : Literal) → LiteralsInRange (l ∷ ls) → OverLines g.literals (l ∷ ls) → AllHoldAt (term_value g ρ) (l ∷ ls) → (bs : List ℕ) (u : Unit {0}) (rest : List ℕ) → ¬ (child l bs ≡ accepted u rest))
        → (e : Entry) → claim t g.literals (closure_of (table_of g) ls) e ≡ true → (bs : List ℕ) (u : Unit {0}) (rest : List ℕ) → ¬ (below child e bs ≡ accepted u rest)
    node-dead ls r o h child ih (empty i) c bs u rest q =
        let (x, m, z, p) = term_of_lem t (empty_label t (closure_of (table_of g) ls)) i c in
        empty-dead limits sup g ok ρ assigns ls r h x m p
    node-dead ls r o h child ih (unequal_line j) c bs u rest q =
        broken-dead limits sup g ok ρ assigns ls r h (line_at g.literals j) (o.kept (line_at g.literals j) (line_of g.literals (closure_of (table_of g) ls) j c)) c
    node-dead ls r o h child ih (unlike i) c bs u rest q =
        let (x, m, z, p) = term_of_lem t (unlike_constants t (closure_of (table_of g) ls)) i c in
        unlike-dead limits sup g ok ρ assigns ls r h x m p
    node-dead ls r o h child ih (inside i) c bs u rest q =
        let (x, m, z, p) = term_of_lem t (inside_itself (closure_of (table_of g) ls) (builds_at t (closure_of (table_of g) ls))) i c in
        inside-dead limits sup g ok ρ assigns ls r h x p
    node-dead ls r o h child ih (split_on d) c bs u rest q =
        let sp = split_claimed t g.literals ls d c in
        let (v, mid, p, k) = bind_inv (child (is d.term d.variant)) (λ v. child (isnt d.term d.variant)) bs u rest q in
        either
        (λ y. ih (is d.term d.variant) (is_in_range t range ls r d sp) (is_over g.literals ls o d.term d.variant) (child_holds (term_value g ρ) ls (is d.term d.variant) h y) bs v mid p)
        (λ y. ih (isnt d.term d.variant) (isnt_in_range t range ls r d sp) (isnt_over g.literals ls o d.term d.variant) (child_holds (term_value g ρ) ls (isnt d.term d.variant) h y) mid u rest k)
        (split_keeps (term_value g ρ) d.term d.variant)

    dead-below : (k : ℕ) (ls : List Literal) → LiteralsInRange ls → OverLines g.literals ls → AllHoldAt (term_value g ρ) ls
        → (bs : List ℕ) (u : Unit {0}) (rest : List ℕ) → ¬ (check_to k (table_of g) g.literals ls bs ≡ accepted u rest)
    unfolding check_to
    dead-below zero ls r o h bs u rest q = not_accepted 12 u rest q
    dead-below (suc k) ls r o h bs u rest q =
        let child : Literal → Parser (Unit {0}) = λ l. check_to k (table_of g) g.literals (l ∷ ls) in
        let (e, mid, c, p) = node_inv (claim t g.literals (closure_of (table_of g) ls)) child bs u rest q in
        node-dead ls r o h child (λ l. dead-below k (l ∷ ls)) e c mid u rest p

  pub accepted-dead : (bs : List ℕ) (u : Unit {0}) (rest : List ℕ) → check g bs ≡ accepted u rest → ¬ Satisfiable g
  unfolding check check_from
  accepted-dead bs u rest q s =
      let (v, mid, p, k) = bind_inv (check_from (table_of g) g.literals g.literals) (λ v. no_more) bs u rest q in
      dead-below s.assignment s.holds.assigns (suc (label_total t (closure_of (table_of g) g.literals))) g.literals (literals_in_range_lem limits sup g ok) (root_over g.literals)
      (root-holds limits sup g ok s.assignment s.holds) bs v mid p
