-- The record of a search that ends closed: the checker accepts it, it has an entry for each node visited, and each entry takes
-- three bytes at most. Assumes nothing.
use mathlib.Core.Path.{◌≡◌, refl, ap, sym, ◌∙◌}
use mathlib.Core.Bool.{Bool, true, false, false≢true}
use mathlib.Core.List.{List, [], ◌∷◌, ◌++◌, append_assoc, append-nil}
use mathlib.Core.Option.{Option, none, some}
use Prim.Native.Nat.{ℕ, zero, suc, ◌+◌, ◌*◌, ◌≤◌, ◌<◌}
use native.Mathlib.Omega.{arith}
use lib.ListN.{length, length-append}
use Rattle.laws.specs.All.{All, All.more, All.none}
use Rattle.laws.specs.Lists.{concat_map}
use Rattle.laws.proofs.Counts.{concat_map-length, sum-map-most}
use Rattle.laws.proofs.Lists.{all_append, all_mem}
use Rattle.guard.specs.Closure.{closure_of}
use Rattle.guard.specs.Guard.{Guard, Literal, Literal.is, Literal.isnt}
use Rattle.guard.specs.Limits.{Limits, Supported}
use Rattle.guard.specs.Node.{Kind, Split, is_closed, kind_of, split_of}
use Rattle.guard.specs.Number.{Parsed.accepted, Parser, ◌>>◌, and_then, ask}
use Rattle.guard.specs.Search.{Visit, Visit.leaf, Visit.split, Visits, Visits.closed, Visits.opened, children, label_total, node, search, search_of, search_to}
use Rattle.guard.specs.Terms.{Table, table_of}
use Rattle.guard.specs.WellFormed.{WellFormed}
use Rattle.guard.proofs.ClosureBelow.{InRange}
use Rattle.guard.proofs.NodeLaws.{split-is}
use Rattle.guard.proofs.TableLaws.{table_in_range}
use Rattle.refutations.specs.Checker.{below, check, check_from, check_node, check_to, entry, no_more}
use Rattle.refutations.specs.Record.{Entry, Entry.split_on, bytes_of, claim, closing, closings, entries, entries_to, record_bytes, record_of}
use Rattle.refutations.proofs.ClaimLaws.{OverLines, closing-closed, closing-is, closing-none, closings-all, is_over, isnt_over, root_over, split_claims}
use Rattle.refutations.proofs.EntryBack.{Small, entry-back, few_bytes}
use Rattle.encoding.proofs.Parsers.{not_accepted}

-- ---- one node of the checker

-- from the entry at the front of the bytes
node-reads : (holds : Entry → Bool) (child : Literal → Parser (Unit {0})) (bs : List ℕ) (e : Entry) (rest : List ℕ) → entry bs ≡ accepted e rest
    → check_node holds child bs ≡ (ask 12 (holds e) >> below child e) rest
node-reads holds child [] e rest q = absurd (not_accepted 12 e rest q)
node-reads holds child (b ∷ bs) e rest q = ap (and_then (λ e. ask 12 (holds e) >> below child e)) q

-- an entry whose claim holds
node_goes : (holds : Entry → Bool) (child : Literal → Parser (Unit {0})) (e : Entry) (rest : List ℕ) → Small e → holds e ≡ true
    → check_node holds child (bytes_of e ++ rest) ≡ below child e rest
node_goes holds child e rest small h = node-reads holds child (bytes_of e ++ rest) e rest (entry-back e rest small) ∙ ap (λ (b : Bool). (ask 12 b >> below child e) rest) h

concat_map-append : {A B : Type 0} (f : A → List B) (xs ys : List A) → concat_map f (xs ++ ys) ≡ concat_map f xs ++ concat_map f ys
concat_map-append f [] ys = refl
concat_map-append {B = B} f (x ∷ xs) ys = ap (λ (zs : List B). f x ++ zs) (concat_map-append f xs ys) ∙ sym (append_assoc (f x) (concat_map f xs) (concat_map f ys))

-- a split, where both children accept their entries
split_goes : (holds : Entry → Bool) (child : Literal → Parser (Unit {0})) (d : Split) (ys ns : List Entry) (rest : List ℕ) → Small (split_on d) → holds (split_on d) ≡ true
    → ((r : List ℕ) → child (is d.term d.variant) (concat_map bytes_of ys ++ r) ≡ accepted tt r)
    → ((r : List ℕ) → child (isnt d.term d.variant) (concat_map bytes_of ns ++ r) ≡ accepted tt r)
    → check_node holds child (concat_map bytes_of (split_on d ∷ (ys ++ ns)) ++ rest) ≡ accepted tt rest
split_goes holds child d ys ns rest small h first second =
    ap (check_node holds child) (append_assoc (bytes_of (split_on d)) (concat_map bytes_of (ys ++ ns)) rest)
    ∙ node_goes holds child (split_on d) (concat_map bytes_of (ys ++ ns) ++ rest) small h
    ∙ ap (λ (bs : List ℕ). below child (split_on d) bs) (ap (λ (bs : List ℕ). bs ++ rest) (concat_map-append bytes_of ys ns) ∙ append_assoc (concat_map bytes_of ys) (concat_map bytes_of ns) rest)
    ∙ ap (and_then (λ (v : Unit {0}). child (isnt d.term d.variant))) (first (concat_map bytes_of ns ++ rest)) ∙ second rest

-- ---- the closed search

-- both children of a node whose search ends closed end closed
children_inv : (k : Kind) (a b : Visits) (n : List Visit) → children k a (λ u. b) ≡ closed n → (i : List Visit) × (j : List Visit) × (a ≡ closed i) × (b ≡ closed j) × ((split k ∷ i) ++ j ≡ n)
children_inv k (opened i) b n e = let z : ◌≡◌ {A = ℕ} 0 1 = cc in absurd (omega arith)
children_inv k (closed i) (opened j) n e = let z : ◌≡◌ {A = ℕ} 0 1 = cc in absurd (omega arith)
children_inv k (closed i) (closed j) n e = (i, j, refl, refl, cc)

module _ (t : Table) (range : InRange t) (lines : List Literal) (few : length lines ≤ 128) where
  -- the entries from a node on, where its search ends closed after the visits n
  record Recorded (k : ℕ) (ls : List Literal) (n : List Visit) : Type 0 where
    accepts : (rest : List ℕ) → check_to k t lines ls (concat_map bytes_of (entries_to k t lines ls) ++ rest) ≡ accepted tt rest
    count : length (entries_to k t lines ls) ≡ length n
    small : All Small (entries_to k t lines ls)

  small-closings : All Small (closings (length lines))
  small-closings =
      closings-all (length lines) (λ i h. two 0 i (omega arith) (omega arith)) (λ j h. two 1 j (omega arith) (omega arith)) (λ i h. two 2 i (omega arith) (omega arith))
      (λ i h. two 3 i (omega arith) (omega arith))
    where
      two : (k i : ℕ) → k < 128 → i < 128 → All (λ n. n < 128) (k ∷ i ∷ [])
      two k i p q = more p (more q none)

  recorded : (k : ℕ) (ls : List Literal) (n : List Visit) → OverLines lines ls → search_to k t ls ≡ closed n → Recorded k ls n
  unfolding search_to entries_to check_to
  recorded zero ls n o e = let z : ◌≡◌ {A = ℕ} 0 1 = cc in absurd (omega arith)
  recorded (suc k) ls n o e =
      go (λ l m over q. recorded k (l ∷ ls) m over q) (closing t lines (closure_of t ls)) refl (is_closed t ls (closure_of t ls)) refl (split_of t (closure_of t ls)) refl e
    where
      child : Literal → Parser (Unit {0})
      child l = check_to k t lines (l ∷ ls)

      go : ((l : Literal) (m : List Visit) → OverLines lines (l ∷ ls) → search_to k t (l ∷ ls) ≡ closed m → Recorded k (l ∷ ls) m)
          → (c : Option Entry) → closing t lines (closure_of t ls) ≡ c → (b : Bool) → is_closed t ls (closure_of t ls) ≡ b → (d : Option Split) → split_of t (closure_of t ls) ≡ d
          → node b (kind_of t (closure_of t ls)) d (λ l. search_to k t (l ∷ ls)) ≡ closed n → Recorded (suc k) ls n
      go ih (some x) qc true qb d qd e =
          let (m, h) = closing-is t range lines ls o (closure_of t ls) x qc in
          let sx : Small x = all_mem small-closings x m in
          record {
            accepts = λ rest. rw qc (ap (λ (bs : List ℕ). check_node (claim t lines (closure_of t ls)) child (bs ++ rest)) (append-nil (bytes_of x))
                ∙ node_goes (claim t lines (closure_of t ls)) child x rest sx h
                ∙ all_mem (closings-all {P = λ y. below child y rest ≡ accepted tt rest} (length lines) (λ i l. refl) (λ j l. refl) (λ i l. refl) (λ i l. refl)) x m);
            count = rw qc (let one : leaf ∷ [] ≡ n = cc in ap length one);
            small = rw qc (more sx none);
          }
      go ih (some x) qc false qb d qd e = absurd (false≢true (sym qb ∙ closing-closed t range lines ls o (closure_of t ls) x qc))
      go ih none qc true qb d qd e = absurd (false≢true (sym (closing-none t range lines ls o (closure_of t ls) qc) ∙ qb))
      go ih none qc false qb none qd e = let z : ◌≡◌ {A = ℕ} 0 1 = cc in absurd (omega arith)
      go ih none qc false qb (some d) qd e =
          let (i, j, p, q, z) = children_inv (kind_of t (closure_of t ls)) (search_to k t (is d.term d.variant ∷ ls)) (search_to k t (isnt d.term d.variant ∷ ls)) n e in
          let first : Recorded k (is d.term d.variant ∷ ls) i = ih (is d.term d.variant) i (is_over lines ls o d.term d.variant) p in
          let second : Recorded k (isnt d.term d.variant ∷ ls) j = ih (isnt d.term d.variant) j (isnt_over lines ls o d.term d.variant) q in
          let sp = split-is t range ls d qd in
          let small : Small (split_on d) = more {x = 4} (omega arith) (more {x = d.term} (omega (arith, (range.terms (record { term = d.term; type = sp.type }) sp.term).0)) (more {x = d.variant} (omega (arith, sp.variant)) none)) in
          record {
            accepts = λ rest. rw (qc, qd) (split_goes (claim t lines (closure_of t ls)) child d (entries_to k t lines (is d.term d.variant ∷ ls)) (entries_to k t lines (isnt d.term d.variant ∷ ls)) rest
                small (split_claims t lines ls d sp) first.accepts second.accepts);
            count = rw (qc, qd) (omega (arith, ap length z, length-append i j, first.count, second.count, length-append (entries_to k t lines (is d.term d.variant ∷ ls)) (entries_to k t lines (isnt d.term d.variant ∷ ls))));
            small = rw (qc, qd) (more small (all_append first.small second.small));
          }

module _ (limits : Limits) (sup : Supported limits) (g : Guard) (ok : WellFormed limits g) (n : List Visit) (e : search_of g ≡ closed n) where
  whole : Recorded (table_of g) (table_in_range limits sup g ok) g.literals (omega (arith, ok.line_count, sup.lines)) (suc (label_total (table_of g) (closure_of (table_of g) g.literals))) g.literals n
  unfolding search_of search
  whole =
      recorded (table_of g) (table_in_range limits sup g ok) g.literals (omega (arith, ok.line_count, sup.lines)) (suc (label_total (table_of g) (closure_of (table_of g) g.literals))) g.literals n
      (root_over g.literals) e

  -- "Every record that call writes is accepted"
  pub record-accepted : check g (record_bytes g) ≡ accepted tt []
  unfolding check check_from record_of entries
  record-accepted =
      ap (and_then (λ (v : Unit {0}). no_more)) (ap (check_from (table_of g) g.literals g.literals) (sym (append-nil (record_bytes g))) ∙ whole.accepts [])

  -- an entry for each node
  pub record-length : length (record_of g) ≡ length n
  unfolding record_of entries
  record-length = whole.count

  pub record-bytes : length (record_bytes g) ≤ 3 * length n
  unfolding record_of entries
  record-bytes =
      omega (arith, concat_map-length bytes_of (record_of g), sum-map-most (λ x. length (bytes_of x)) 3 (record_of g) (λ x m. few_bytes x (all_mem whole.small x m)), whole.count)
