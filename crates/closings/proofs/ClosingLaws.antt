-- What code names at the closure of a node of a guard is the defined closing: of each kind, the lowest number that it finds is the lowest
-- whose claim holds. Assumes nothing.
use mathlib.Core.Path.{◌≡◌, refl, ap, ap₂, sym, ◌∙◌}
use mathlib.Core.Bool.{Bool, true, false, not, ◌&&◌, cond}
use mathlib.Core.List.{List}
use mathlib.Core.Option as math
use Prim.Native.Nat.{ℕ, zero, suc, ◌-◌, ◌^◌, ◌≤◌, ◌<◌}
use native.Mathlib.Nat.{pow-suc}
use native.Mathlib.Omega.{arith}
use lib.Dec.{eqb, ltb}
use lib.ListN.{length, get_or}
use lib.Pow.{pow_pos}
use Rattle.std.specs.declared.option.Option.{Option}
use Rattle.std.specs.declared.option.Option.TheVariants.{None, Some}
use borrow.Author.Tests.{eq-eqb, le-ltb, lt-ltb, ne_eqb}
use Rattle.laws.specs.Lists.{any}
use Rattle.laws.proofs.Bools.{by_test}
use Rattle.laws.proofs.Positions.{least}
use Rattle.guard.specs.Closure.{State, builds_at, closure_of, label_of}
use Rattle.guard.specs.Guard.{Guard, Literal}
use Rattle.guard.specs.Limits.{Limits, Supported, total_variant_limit}
use Rattle.guard.specs.Node.{empty_label, inside_itself}
use Rattle.guard.specs.Terms.{Table, Term, table_of, term_count}
use Rattle.guard.specs.Types.{variants_of}
use Rattle.guard.specs.WellFormed.{WellFormed}
use Rattle.guard.proofs.Agreement.{Agrees, named_closure}
use Rattle.guard.proofs.ClosureBelow.{InRange}
use Rattle.guard.proofs.ClosureState.{Small}
use Rattle.guard.proofs.TableLaws.{literals_in_range_lem, table_in_range}
use Rattle.models.proofs.Nodes.{NodeOf}
use Rattle.tables.specs.Layout.{flat, literal_table, row_table}
use Rattle.classes.specs.Held.{Held}
use Rattle.loops.specs.Lowest.{Finds, lowest}
use Rattle.loops.proofs.Loops.{both}
use Rattle.loops.proofs.Tests.{no_and}
use Rattle.arrays.specs.Arrays.{constants_of, fieldless_of, full_of, shapes_of, sorts_of}
use Rattle.arrays.proofs.SlotLaws.{full_at, full_none}
use Rattle.arrays.specs.Slots.{sort_at}
use Rattle.arrays.proofs.GuardSlots.{sort_slots}
use Rattle.arrays.proofs.TableSlots.{SortSlots}
use Rattle.reasons.proofs.ReasonLaws.{broken-at}
use Rattle.reasons.specs.Reasons.{broken_at, empty_at, unlike_at}
use Rattle.cycles.specs.Cycles.{Inside, LowestOf, inside_term}
use Rattle.cycles.proofs.CycleLaws.{named}
use Rattle.refutations.specs.Record as records
use Rattle.refutations.specs.Record.{Entry, Entry.empty, Entry.inside, Entry.unequal_line, Entry.unlike, claim, closing}
use Rattle.refutations.proofs.ClaimLaws.{any-named, of_term, term_of_lem}
use Rattle.refutations.proofs.LowestClosing.{closing-lowest, lowest_or}
use Rattle.closings.specs.declared.Closing.{Closing}
use Rattle.closings.specs.declared.Closing.TheVariants.{BrokenLine, EmptyLabel, InsideItself, UnlikeConstants}
use Rattle.closings.specs.Closing.{Names, entry_of}
use Rattle.refutations.proofs.ClaimsAgree.{claim-agrees}
use Rattle.closings.proofs.UnlikeLaws.{unlike-found, unlike_nowhere}

-- ---- lowest numbers

least_same_lem : (p q : ℕ → Bool) (n : ℕ) → ((k : ℕ) → k < n → p k ≡ q k) → least p n ≡ least q n
least_same_lem p q zero h = refl
least_same_lem p q (suc n) h = ap₂ (λ (b : Bool) (k : ℕ). cond b 0 (suc k)) (h 0 (omega arith)) (least_same_lem (λ k. p (suc k)) (λ k. q (suc k)) n (λ k l. h (suc k) (omega arith)))

-- what is found is the entry's, and where nothing is it is left to the others
module _ (make : ℕ → Entry) (n l : ℕ) (other : math.Option Entry) where
  taken : (k : ℕ) → k < n → l ≡ k → cond (ltb l n) (math.some (make l)) other ≡ math.some (make k)
  taken k h is = ap (λ (b : Bool). cond b (math.some (make l)) other) (lt-ltb l n (omega (arith, is, h))) ∙ ap (λ (i : ℕ). math.some (make i)) is

  passed : l ≡ n → cond (ltb l n) (math.some (make l)) other ≡ other
  passed is = ap (λ (b : Bool). cond b (math.some (make l)) other) (le-ltb l n (omega (arith, is)))

-- ---- claims about the terms of one number

module _ (t : Table) (sorts masks : List ℕ) (slots : SortSlots t sorts masks) (p : Term → Bool) where
  at-term : (k u : ℕ) → k < 78 → sort_at sorts k ≡ suc u → any p (records.named t k) ≡ p (record { term = k; type = u })
  at-term k u h e =
      both (any p (records.named t k)) (p (record { term = k; type = u })) there (λ q. of_term t p (record { term = k; type = u }) (slots.found k u h e) q)
    where
      there : any p (records.named t k) ≡ true → p (record { term = k; type = u }) ≡ true
      there q =
          let (x, m, z, y) = term_of_lem t p k q in
          let w : x.type ≡ u = omega (arith, (slots.slot x m).1, ap (sort_at sorts) z, e) in
          sym (ap₂ (λ (i v : ℕ). p (record { term = i; type = v })) z w) ∙ y

  no-term : (k : ℕ) → sort_at sorts k ≡ 0 → any p (records.named t k) ≡ false
  no-term k e =
      by_test (any p (records.named t k)) (λ q. let (x, m, z, y) = term_of_lem t p k q in absurd (omega (arith, (slots.slot x m).1, ap (sort_at sorts) z, e))) (λ q. q)

-- ---- lines

module _ (lines : List Literal) where
  many_is : (literal_table lines).many ≡ length lines
  unfolding literal_table
  many_is = refl

module _ (limits : Limits) (sup : Supported limits) (g : Guard) (ok : WellFormed limits g) (total : length (flat g.types) ≤ total_variant_limit) (ls : List Literal) (nd : NodeOf g ls)
    (s : State) (small : Small s) (held : Held s.classes) (agree : Agrees s (closure_of (table_of g) ls)) where
  abbrev t : Table
  t = table_of g

  abbrev lines : List Literal
  lines = g.literals

  abbrev S : State
  S = closure_of (table_of g) ls

  range : InRange (table_of g)
  range = table_in_range limits sup g ok

  slots : SortSlots (table_of g) (sorts_of g) (fieldless_of g)
  slots = sort_slots limits sup g ok total

  same-claim : (e : Entry) → claim t lines s e ≡ claim t lines S e
  same-claim = claim-agrees t range s S agree lines (literals_in_range_lem limits sup g ok)

  -- ---- empty labels

  no-variants : (n : ℕ) → eqb n 0 ≡ eqb (2 ^ n - 1) 0
  no-variants zero = refl
  no-variants (suc n) = ne_eqb (suc n) 0 (λ e. omega arith) ∙ sym (ne_eqb (2 ^ suc n - 1) 0 (λ e. omega (arith, e, pow-suc 2 n, pow_pos n)))

  empty-at : (k : ℕ) → k < 78 → claim t lines s (empty k) ≡ empty_at (sorts_of g) (full_of g) s k
  unfolding empty_at table_of
  empty-at k h = go (sort_at (sorts_of g) k) refl
    where
      mask : (n : ℕ) → sort_at (sorts_of g) k ≡ n → get_or (full_of g) (sort_at (sorts_of g) k) 0 ≡ get_or (full_of g) n 0
      mask n q = ap (λ (i : ℕ). get_or (full_of g) i 0) q

      go : (n : ℕ) → sort_at (sorts_of g) k ≡ n → claim t lines s (empty k) ≡ empty_at (sorts_of g) (full_of g) s k
      go zero q = no-term t (sorts_of g) (fieldless_of g) slots (empty_label t s) k q ∙ no_and (eqb (label_of s k) 0) (ap not (eq-eqb _ _ (mask 0 q ∙ full_none limits sup g ok total)))
      go (suc u) q =
          at-term t (sorts_of g) (fieldless_of g) slots (empty_label t s) k u h q
          ∙ ap (λ (b : Bool). not b && eqb (label_of s k) 0) (no-variants (length (variants_of g.types u)) ∙ ap (λ (m : ℕ). eqb m 0) (sym (mask (suc u) q ∙ full_at limits sup g ok total u)))

  lowest-empty : least (λ i. claim t lines S (empty i)) term_count ≡ lowest (empty_at (sorts_of g) (full_of g) s) 78
  unfolding lowest
  lowest-empty = least_same_lem _ _ 78 (λ k h. sym (same-claim (empty k)) ∙ empty-at k h)

  -- ---- lines

  lowest-broken : least (λ j. claim t lines S (unequal_line j)) (length lines)
      ≡ lowest (broken_at (literal_table lines).kinds (literal_table lines).terms (literal_table lines).others s.classes) (literal_table lines).many
  unfolding lowest
  lowest-broken =
      least_same_lem _ _ (length lines)
      (λ j h. sym (same-claim (unequal_line j)) ∙ sym (broken-at lines s j h))
      ∙ ap (least (broken_at (literal_table lines).kinds (literal_table lines).terms (literal_table lines).others s.classes)) (sym (many_is lines))

  -- ---- classes

  unlikes_agree : least (λ i. claim t lines S (unlike i)) term_count ≡ least (λ i. claim t lines s (unlike i)) term_count
  unlikes_agree = least_same_lem _ _ term_count (λ k h. sym (same-claim (unlike k)))

  lowest-inside : least (λ i. claim t lines S (inside i)) term_count ≡ lowest (inside_term t s) 78
  unfolding lowest inside_term
  lowest-inside = least_same_lem _ _ 78 (λ k h. sym (same-claim (inside k)) ∙ any-named t (inside_itself s (builds_at t s)) k)

  inside-named : (r : Option ℕ) → LowestOf (Inside (shapes_of g) (sorts_of g) s) 78 r → Finds (inside_term t s) 78 r
  inside-named = named limits sup g ok total s small held (λ i h. omega (arith, agree.class i h, (named_closure t ls).low i))

  -- ---- the closing

  pub closing-named : (r : Option Closing) → Names (shapes_of g) (sorts_of g) (full_of g) (constants_of g) (row_table g.types g.rows).values (literal_table g.literals).kinds (literal_table g.literals).terms (literal_table g.literals).others (literal_table g.literals).many s r
      → closing (table_of g) g.literals (closure_of (table_of g) ls) ≡ entry_of r
  closing-named r w = closing-lowest t lines S ∙ go r w
    where
      fourth : math.Option Entry
      fourth = lowest_or (claim t lines S) inside term_count math.none

      third : math.Option Entry
      third = lowest_or (claim t lines S) unlike term_count fourth

      second : math.Option Entry
      second = lowest_or (claim t lines S) unequal_line (length lines) third

      first : math.Option Entry
      first = lowest_or (claim t lines S) empty term_count second

      not_empty : Finds (empty_at (sorts_of g) (full_of g) s) 78 None → first ≡ second
      not_empty e = passed empty term_count _ second (lowest-empty ∙ e)

      not_broken : Finds (broken_at (literal_table lines).kinds (literal_table lines).terms (literal_table lines).others s.classes) (literal_table lines).many None → second ≡ third
      not_broken e = passed unequal_line (length lines) _ third (lowest-broken ∙ e ∙ many_is lines)

      not_unlike : Finds (unlike_at (constants_of g) (row_table g.types g.rows).values s.classes 30) 96 None → third ≡ fourth
      not_unlike e = passed unlike term_count _ fourth (unlikes_agree ∙ unlike_nowhere limits sup g ok total ls nd s agree e)

      go : (r : Option Closing) → Names (shapes_of g) (sorts_of g) (full_of g) (constants_of g) (row_table g.types g.rows).values (literal_table g.literals).kinds (literal_table g.literals).terms (literal_table g.literals).others (literal_table g.literals).many s r
          → first ≡ entry_of r
      go (Some (EmptyLabel x)) (l, e) = taken empty term_count _ second x l (lowest-empty ∙ sym e)
      go (Some (BrokenLine j)) (x, (l, e)) = not_empty x ∙ taken unequal_line (length lines) _ third j (omega (arith, many_is lines, l)) (lowest-broken ∙ sym e)
      go (Some (UnlikeConstants c)) (x, j, e) = let (l, q) = unlike-found limits sup g ok total ls nd s agree c e.1 e.0 in not_empty x ∙ not_broken j ∙ taken unlike term_count _ fourth c l (unlikes_agree ∙ q)
      go (Some (InsideItself i)) (x, j, c, w) = let (l, e) = inside-named (Some i) w in not_empty x ∙ not_broken j ∙ not_unlike c ∙ taken inside term_count _ math.none i l (lowest-inside ∙ sym e)
      go None (x, j, c, w) = not_empty x ∙ not_broken j ∙ not_unlike c ∙ passed inside term_count _ math.none (lowest-inside ∙ inside-named None w)
