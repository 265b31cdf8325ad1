-- Claims of entries: a claim names a term of the table; a node has a closing exactly if it is closed; a split that is claimed is
-- one. Assumes nothing.
use mathlib.Core.Path.{◌≡◌, refl, ap, sym, ◌∙◌, subst}
use mathlib.Core.Bool.{Bool, true, false, ◌&&◌, ◌||◌, false≢true}
use mathlib.Core.List.Memᴰ
use mathlib.Core.List.{List, [], ◌∷◌, map, Memᴰ}
use mathlib.Core.Option.{none, some}
use Prim.Native.Nat.{ℕ, ◌^◌, ◌≤◌, ◌<◌}
use native.Mathlib.Omega.{arith}
use lib.Dec.{eqb, ltb}
use lib.ListN.{length, get_or-eq_default}
use lib.Pow.{pow_mono}
use borrow.Author.Tests.{eq-eqb, eqb-true, ltb-false, ltb-true}
use Rattle.laws.specs.All.{All}
use Rattle.laws.specs.Lists.{any, cons_if, filter, from}
use Rattle.laws.proofs.Bits.{bit_le}
use Rattle.laws.proofs.Bools.{by_test, either, or_cases, or_left, or_right}
use Rattle.laws.proofs.Lists.{all_append, all_get_d, all_map, all_mem, all_of, any_of, any_some, filter-is, filter_mem, find_none, find-some, from_bounds, mem_from, mem_map}
use Rattle.laws.proofs.Positions.{any_true_at}
use Rattle.guard.specs.Closure.{State, builds_at, closure_of, label_of}
use Rattle.guard.specs.Guard.{Literal, Literal.equal, Literal.is, Literal.isnt, Literal.unequal}
use Rattle.guard.specs.Limits.{variant_limit}
use Rattle.guard.specs.Node.{Split, broken, empty_label, holds_another, inside_itself, is_closed, unlike_constants}
use Rattle.guard.specs.Terms.{Table, Term, term_count}
use Rattle.guard.specs.Types.{variants_of}
use Rattle.guard.proofs.ClosureBelow.{InRange, LiteralsInRange}
use Rattle.guard.proofs.ClosureState.{closure_small}
use Rattle.guard.proofs.LeastClosure.{closure_least}
use Rattle.guard.proofs.NodeLaws.{SplitsAt, holds_it}
use Rattle.refutations.specs.Record.{Entry, Entry.empty, Entry.inside, Entry.split_on, Entry.unequal_line, Entry.unlike, claim, closing, closings, line_at, named}

-- ---- the literals of a node: the guard's lines, and decisions

pub record OverLines (lines ls : List Literal) : Type 0 where
  pub kept : (l : Literal) → Memᴰ l lines → Memᴰ l ls
  pub unequals : (i j : ℕ) → Memᴰ (unequal i j) ls → Memᴰ (unequal i j) lines

pub root_over : (lines : List Literal) → OverLines lines lines
root_over lines = record { kept = λ l m. m; unequals = λ i j m. m }

module _ (lines ls : List Literal) (o : OverLines lines ls) where
  over_more : (d : Literal) → ((i j : ℕ) → ¬ (unequal i j ≡ d)) → OverLines lines (d ∷ ls)
  over_more d n = record { kept = λ l m. Memᴰ.tail (o.kept l m); unequals = back }
    where
      back : (i j : ℕ) → Memᴰ (unequal i j) (d ∷ ls) → Memᴰ (unequal i j) lines
      back i j (Memᴰ.head e) = absurd (n i j e)
      back i j (Memᴰ.tail m) = o.unequals i j m

  pub is_over : (i v : ℕ) → OverLines lines (is i v ∷ ls)
  is_over i v = over_more (is i v) (λ j k e. let z : ◌≡◌ {A = ℕ} 0 1 = cc in omega arith)

  pub isnt_over : (i v : ℕ) → OverLines lines (isnt i v ∷ ls)
  isnt_over i v = over_more (isnt i v) (λ j k e. let z : ◌≡◌ {A = ℕ} 0 1 = cc in omega arith)

-- ---- claims

module _ (t : Table) (p : Term → Bool) where
  -- the term that a claim is about
  pub term_of_lem : (i : ℕ) → any p (named t i) ≡ true → (x : Term) × Memᴰ x t.terms × (x.term ≡ i) × (p x ≡ true)
  term_of_lem i e =
      let (x, m, h) = any_some p (named t i) e in
      let (k, q) = filter-is (λ x. eqb x.term i) t.terms x m in
      (x, k, eqb-true x.term i q, h)

  pub of_term : (x : Term) → Memᴰ x t.terms → p x ≡ true → any p (named t x.term) ≡ true
  of_term x m h = any_of p (named t x.term) x (filter_mem (λ y. eqb y.term x.term) t.terms x m (eq-eqb x.term x.term refl)) h

  -- the same over all terms
  pub any-named : (i : ℕ) → any p (named t i) ≡ any (λ x. eqb x.term i && p x) t.terms
  any-named i = go t.terms
    where
      go : (xs : List Term) → any p (filter (λ x. eqb x.term i) xs) ≡ any (λ x. eqb x.term i && p x) xs
      go [] = refl
      go (x ∷ xs) = step (eqb x.term i) (go xs)
        where
          step : (b : Bool) → any p (filter (λ x. eqb x.term i) xs) ≡ any (λ x. eqb x.term i && p x) xs
              → any p (cons_if b x (filter (λ x. eqb x.term i) xs)) ≡ (b && p x || any (λ x. eqb x.term i && p x) xs)
          step true e = ap (λ (y : Bool). p x || y) e
          step false e = e

-- the line that a claim is about
pub line_of : (lines : List Literal) (s : State) (j : ℕ) → broken s (line_at lines j) ≡ true → Memᴰ (line_at lines j) lines
line_of lines s j e =
    by_test (ltb j (length lines)) (λ l. all_get_d (all_of lines (λ l m. m)) j (equal 0 0) (ltb-true _ _ l))
    (λ l. absurd (false≢true (sym (ap (broken s) (get_or-eq_default lines (equal 0 0) (ltb-false j (length lines) l))) ∙ e)))

-- ---- closings

-- what holds of the closings of each kind
pub closings-all : {P : Entry → Type 0} (many : ℕ) → ((i : ℕ) → i < term_count → P (empty i)) → ((j : ℕ) → j < many → P (unequal_line j))
    → ((i : ℕ) → i < term_count → P (unlike i)) → ((i : ℕ) → i < term_count → P (inside i)) → All P (closings many)
closings-all {P = P} many a b c d =
    all_append (below empty term_count a) (all_append (below unequal_line many b) (all_append (below unlike term_count c) (below inside term_count d)))
  where
    below : (make : ℕ → Entry) (n : ℕ) → ((i : ℕ) → i < n → P (make i)) → All P (map make (from n 0))
    below make n h = all_map make (from n 0) (λ i m. h i (omega (arith, (from_bounds n 0 i m).1)))

module _ (t : Table) (range : InRange t) (lines ls : List Literal) (o : OverLines lines ls) (s : State) where
  closings_close : All (λ e. claim t lines s e ≡ true → is_closed t ls s ≡ true) (closings (length lines))
  unfolding is_closed
  closings_close =
      closings-all (length lines) (λ i h e. let (x, m, q, p) = term_of_lem t (empty_label t s) i e in or_left _ _ (any_of (empty_label t s) t.terms x m p))
      (λ j h e. or_right (any (empty_label t s) t.terms) _ (or_left _ _ (any_of (broken s) ls (line_at lines j) (o.kept (line_at lines j) (line_of lines s j e)) e)))
      (λ i h e. let (x, m, q, p) = term_of_lem t (unlike_constants t s) i e in
      or_right (any (empty_label t s) t.terms) _ (or_right (any (broken s) ls) _ (or_left _ _ (any_of (unlike_constants t s) t.terms x m p))))
      (λ i h e. let (x, m, q, p) = term_of_lem t (inside_itself s (builds_at t s)) i e in
      or_right (any (empty_label t s) t.terms) _ (or_right (any (broken s) ls) _ (or_right (any (unlike_constants t s) t.terms) _ (any_of (inside_itself s (builds_at t s)) t.terms x m p))))

  -- a closed node has a claim among the closings
  closes : is_closed t ls s ≡ true → (e : Entry) × Memᴰ e (closings (length lines)) × (claim t lines s e ≡ true)
  unfolding is_closed
  closes c =
      either first (λ c1. either second (λ c2. either third fourth (or_cases (any (unlike_constants t s) t.terms) _ c2)) (or_cases (any (broken s) ls) _ c1)) (or_cases (any (empty_label t s) t.terms) _ c)
    where
      Claimed : Type 0
      Claimed = (e : Entry) × Memᴰ e (closings (length lines)) × (claim t lines s e ≡ true)

      number : (x : Term) → Memᴰ x t.terms → Memᴰ x.term (from term_count 0)
      number x m = mem_from term_count 0 x.term (omega arith) (omega (arith, (range.terms x m).0))

      first : any (empty_label t s) t.terms ≡ true → Claimed
      first e = let (x, m, h) = any_some (empty_label t s) t.terms e in (empty x.term, Memᴰ.append_left _ (mem_map empty (number x m)), of_term t (empty_label t s) x m h)

      line : (l : Literal) → Memᴰ l ls → broken s l ≡ true → Memᴰ l lines
      line (equal i j) m e = absurd (false≢true e)
      line (unequal i j) m e = o.unequals i j m
      line (is i v) m e = absurd (false≢true e)
      line (isnt i v) m e = absurd (false≢true e)

      second : any (broken s) ls ≡ true → Claimed
      second e =
          let (l, m, h) = any_some (broken s) ls e in
          let (j, k, q) = any_true_at (broken s) lines (equal 0 0) (any_of (broken s) lines l (line l m h) h) in
          (unequal_line j, Memᴰ.append_right (map empty (from term_count 0)) (Memᴰ.append_left _ (mem_map unequal_line (mem_from (length lines) 0 j (omega arith) (omega arith)))), q)

      third : any (unlike_constants t s) t.terms ≡ true → Claimed
      third e =
          let (x, m, h) = any_some (unlike_constants t s) t.terms e in
          (unlike x.term, Memᴰ.append_right (map empty (from term_count 0)) (Memᴰ.append_right (map unequal_line (from (length lines) 0)) (Memᴰ.append_left _ (mem_map unlike (number x m)))), of_term t (unlike_constants t s) x m h)

      fourth : any (inside_itself s (builds_at t s)) t.terms ≡ true → Claimed
      fourth e =
          let (x, m, h) = any_some (inside_itself s (builds_at t s)) t.terms e in
          (inside x.term, Memᴰ.append_right (map empty (from term_count 0)) (Memᴰ.append_right (map unequal_line (from (length lines) 0)) (Memᴰ.append_right (map unlike (from term_count 0)) (mem_map inside (number x m)))), of_term t (inside_itself s (builds_at t s)) x m h)

  -- a closing is one of the closings, and its claim holds
  pub closing-is : (e : Entry) → closing t lines s ≡ some e → Memᴰ e (closings (length lines)) × (claim t lines s e ≡ true)
  unfolding closing
  closing-is e q = find-some (claim t lines s) (closings (length lines)) e q

  -- there is one exactly if the node is closed
  pub closing-closed : (e : Entry) → closing t lines s ≡ some e → is_closed t ls s ≡ true
  closing-closed e q = let (m, h) = closing-is e q in all_mem closings_close e m h

  pub closing-none : closing t lines s ≡ none → is_closed t ls s ≡ false
  unfolding closing
  closing-none q = by_test (is_closed t ls s) (λ c. let (e, m, h) = closes c in absurd (false≢true (sym (find_none (claim t lines s) (closings (length lines)) q e m) ∙ h))) (λ c. c)

-- ---- splits

module _ (t : Table) (lines ls : List Literal) (d : Split) where
  pub split_claimed : claim t lines (closure_of t ls) (split_on d) ≡ true → SplitsAt t (closure_of t ls) d
  split_claimed e =
      let (x, m, q, h) = term_of_lem t (λ x. holds_another (closure_of t ls) x.term d.variant) d.term e in
      let another : holds_another (closure_of t ls) d.term d.variant ≡ true = subst (λ (i : ℕ). holds_another (closure_of t ls) i d.variant ≡ true) q h in
      let low : 2 ^ d.variant ≤ label_of (closure_of t ls) d.term = bit_le _ _ (holds_it (closure_of t ls) d.term d.variant another) in
      record {
        type = x.type;
        term = subst (λ (i : ℕ). Memᴰ (record { term = i; type = x.type }) t.terms) q m;
        variant = by_test (ltb d.variant variant_limit) (λ l. ltb-true _ _ l)
            (λ l. absurd (omega (arith, low, closure_small t ls d.term, pow_mono {i = variant_limit} {j = d.variant} (ltb-false d.variant variant_limit l))));
        another = another;
      }

  pub split_claims : SplitsAt t (closure_of t ls) d → claim t lines (closure_of t ls) (split_on d) ≡ true
  split_claims sp = of_term t (λ x. holds_another (closure_of t ls) x.term d.variant) (record { term = d.term; type = sp.type }) sp.term sp.another

  -- the variant is one of the term's type, which so is no number type
  pub split_in_type : InRange t → LiteralsInRange ls → (sp : SplitsAt t (closure_of t ls) d) → d.variant < length (variants_of t.types sp.type)
  split_in_type range r sp =
      by_test (ltb d.variant (length (variants_of t.types sp.type))) (λ l. ltb-true _ _ l)
      (λ l. absurd (holds_it (closure_of t ls) d.term d.variant sp.another
      ((closure_least t ls range r).rules.beyond (record { term = d.term; type = sp.type }) d.variant sp.term (ltb-false d.variant _ l))))
