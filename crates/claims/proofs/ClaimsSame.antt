-- The tests by a guard's arrays are the claims of request #101. Assumes nothing.
use mathlib.Core.Path.{◌≡◌, refl, ap, subst, sym, ◌∙◌}
use mathlib.Core.Bool.{Bool, true, not, ◌&&◌}
use mathlib.Core.List.{List, Memᴰ}
use Prim.Native.Nat.{ℕ, zero, suc, ◌-◌, ◌^◌, ◌≤◌, ◌<◌}
use native.Mathlib.Nat.{pow-suc}
use native.Mathlib.Omega.{arith}
use lib.Dec.{eqb, ltb}
use lib.ListN.{length, get_or, get_or-eq_default}
use lib.Pow.{pow_mono, pow_pos}
use borrow.Author.Tests.{lt-ltb, ltb-false, ltb-true, ne_eqb}
use Rattle.laws.specs.Lists.{any}
use Rattle.laws.proofs.Bits.{bit_le}
use Rattle.laws.proofs.Bools.{and_both, and_left, and_right, by_test}
use Rattle.guard.specs.Closure.{State, builds_at, class_of, label_of}
use Rattle.guard.specs.Guard.{Guard, Literal, Literal.equal}
use Rattle.guard.specs.Limits.{Limits, Supported, total_variant_limit, variant_limit}
use Rattle.guard.specs.Node.{broken, empty_label, holds_another, inside_itself, unlike_constants}
use Rattle.guard.specs.Terms.{Table, Term, table_of, term_count}
use Rattle.guard.specs.Types.{variants_of}
use Rattle.guard.specs.WellFormed.{WellFormed}
use Rattle.guard.proofs.ClosureState.{Small}
use Rattle.guard.proofs.NodeLaws.{holds_it}
use Rattle.tables.specs.Layout.{flat, literal_table, row_table}
use Rattle.classes.specs.Held.{Held}
use Rattle.loops.proofs.Loops.{both}
use Rattle.loops.proofs.Tests.{yes_and}
use Rattle.arrays.specs.Arrays.{constants_of, fieldless_of, full_of, shapes_of, sorts_of}
use Rattle.arrays.proofs.SlotLaws.{full_at}
use Rattle.arrays.specs.Slots.{sort_at}
use Rattle.arrays.proofs.DueLaws.{is_nonzero, nonzero_is}
use Rattle.arrays.proofs.GuardSlots.{sort_slots}
use Rattle.arrays.proofs.TableSlots.{SortSlots}
use Rattle.reasons.specs.Reasons.{broken_at, empty_at}
use Rattle.reasons.proofs.ReasonLaws.{broken-at}
use Rattle.cycles.specs.Cycles.{Tells}
use Rattle.cycles.proofs.CycleLaws.{inside_is, is-inside}
use Rattle.refutations.specs.Record.{Entry.split_on, claim, line_at, named}
use Rattle.refutations.proofs.ClaimLaws.{of_term, term_of_lem}
use Rattle.unlikeconstants.specs.Unlike.{unlike_in}
use Rattle.splitclaims.specs.SplitClaims.{is_term, splits_by}
use Rattle.closings.specs.declared.Closing.{Closing}
use Rattle.closings.specs.declared.Closing.TheVariants.{BrokenLine, EmptyLabel, InsideItself, UnlikeConstants}
use Rattle.closings.specs.Closing.{entry_in}
use Rattle.claims.specs.Claims.{ClosedBy, InsideTerm}
use Rattle.unlikeconstants.proofs.UnlikeLaws.{unlike-same}

-- ---- lines

module _ (ls : List Literal) where
  broken-same : (s : State) (j : ℕ) → (ltb j (length ls) && broken_at (literal_table ls).kinds (literal_table ls).terms (literal_table ls).others s.classes j) ≡ broken s (line_at ls j)
  broken-same s j =
      by_test (ltb j (length ls)) (λ e. sym (yes_and _ e) ∙ broken-at ls s j (ltb-true _ _ e))
      (λ e. ap (λ (b : Bool). b && broken_at (literal_table ls).kinds (literal_table ls).terms (literal_table ls).others s.classes j) e ∙ sym (ap (broken s) (get_or-eq_default ls (equal 0 0) (ltb-false j (length ls) e))))

-- a full mask is 0 where there are no variants
full_none : (n : ℕ) → eqb (2 ^ n - 1) 0 ≡ eqb n 0
full_none zero = refl
full_none (suc n) = ne_eqb (2 ^ suc n - 1) 0 (λ e. omega (arith, e, pow-suc 2 n, pow_pos n)) ∙ sym (ne_eqb (suc n) 0 (λ e. omega (arith, e)))

module _ (limits : Limits) (sup : Supported limits) (g : Guard) (ok : WellFormed limits g) (total : length (flat g.types) ≤ total_variant_limit) where
  abbrev t : Table
  t = table_of g

  slots : SortSlots (table_of g) (sorts_of g) (fieldless_of g)
  slots = sort_slots limits sup g ok total

  -- the type of a term that is there
  type_of_lem : (x : ℕ) → ¬ (sort_at (sorts_of g) x ≡ 0) → (u : ℕ) × (sort_at (sorts_of g) x ≡ suc u)
  type_of_lem x n = go (sort_at (sorts_of g) x) refl
    where
      go : (k : ℕ) → sort_at (sorts_of g) x ≡ k → (u : ℕ) × (sort_at (sorts_of g) x ≡ suc u)
      go zero e = absurd (n e)
      go (suc u) e = (u, e)

  -- a test of the terms that are there, by number
  by_number : (p : Term → Bool) (q : ℕ → Bool) → ((a : Term) → Memᴰ a (table_of g).terms → q a.term ≡ p a) → (x : ℕ) → (is_term (sorts_of g) x && q x) ≡ any p (named (table_of g) x)
  unfolding is_term
  by_number p q h x = both (is_term (sorts_of g) x && q x) (any p (named t x)) there back
    where
      there : (is_term (sorts_of g) x && q x) ≡ true → any p (named t x) ≡ true
      there e =
          let k : is_term (sorts_of g) x ≡ true = and_left (is_term (sorts_of g) x) (q x) e in
          let (u, z) = type_of_lem x (nonzero_is _ (and_right (ltb x 78) _ k)) in
          let m : Memᴰ (record { term = x; type = u }) t.terms = slots.found x u (ltb-true x 78 (and_left (ltb x 78) _ k)) z in
          of_term t p (record { term = x; type = u }) m (sym (h (record { term = x; type = u }) m) ∙ and_right (is_term (sorts_of g) x) (q x) e)

      back : any p (named t x) ≡ true → (is_term (sorts_of g) x && q x) ≡ true
      back e =
          let (a, m, z, r) = term_of_lem t p x e in
          let (l, w) = slots.slot a m in
          subst (λ (i : ℕ). (is_term (sorts_of g) i && q i) ≡ true) z
          (and_both (is_term (sorts_of g) a.term) (q a.term) (and_both _ _ (lt-ltb a.term 78 l) (is_nonzero (sort_at (sorts_of g) a.term) (λ n. omega (arith, n, w)))) (h a m ∙ r))

  module _ (s : State) (small : Small s) where
    empty-at : (a : Term) → Memᴰ a (table_of g).terms → empty_at (sorts_of g) (full_of g) s a.term ≡ empty_label (table_of g) s a
    unfolding empty_at table_of
    empty-at a m =
        ap (λ (b : Bool). not b && eqb (label_of s a.term) 0)
        (ap (λ (k : ℕ). eqb (get_or (full_of g) k 0) 0) (slots.slot a m).1 ∙ ap (λ (k : ℕ). eqb k 0) (full_at limits sup g ok total a.type) ∙ full_none (length (variants_of g.types a.type)))

    -- past the variants there are none in a label
    splits_at : (x v : ℕ) → (ltb v variant_limit && holds_another s x v) ≡ holds_another s x v
    unfolding Small
    splits_at x v = both _ (holds_another s x v) (and_right (ltb v variant_limit) (holds_another s x v)) (λ e. and_both (ltb v variant_limit) (holds_another s x v) (inside e) e)
      where
        inside : holds_another s x v ≡ true → ltb v variant_limit ≡ true
        inside e =
            by_test (ltb v variant_limit) (λ l. l)
            (λ l. absurd (omega (arith, bit_le (label_of s x) v (holds_it s x v e), small (class_of s x), pow_mono {i = variant_limit} {j = v} (ltb-false v variant_limit l))))

    pub splits_same : (x v : ℕ) → splits_by (sorts_of g) s x v ≡ claim (table_of g) g.literals s (split_on (record { term = x; variant = v }))
    unfolding splits_by
    splits_same x v = by_number (λ a. holds_another s a.term v) (λ i. ltb v variant_limit && holds_another s i v) (λ a m. splits_at a.term v) x

    module _ (held : Held s.classes) (inside : (i : ℕ) → i < term_count → class_of s i < term_count) where
      inside-same : (x : ℕ) (r : Bool) → Tells (InsideTerm (shapes_of g) (sorts_of g) s x) r → r ≡ any (inside_itself s (builds_at (table_of g) s)) (named (table_of g) x)
      inside-same x r w = both r (any test (named t x)) (λ e. there (w.yes e)) (λ e. by_test r (λ y. y) (λ n. absurd (w.no n (back e))))
        where
          test : Term → Bool
          test = inside_itself s (builds_at (table_of g) s)

          there : InsideTerm (shapes_of g) (sorts_of g) s x → any test (named t x) ≡ true
          there (l, i) =
              let (u, z) = type_of_lem x i.0 in
              of_term t test (record { term = x; type = u }) (slots.found x u l z) (is-inside limits sup g ok total s small held inside (record { term = x; type = u }) i)

          back : any test (named t x) ≡ true → InsideTerm (shapes_of g) (sorts_of g) s x
          back e =
              let (a, m, z, p) = term_of_lem t test x e in
              subst (InsideTerm (shapes_of g) (sorts_of g) s) z ((slots.slot a m).0, inside_is limits sup g ok total s small held inside a m p)

      -- what is told of a test
      told : (r b : Bool) → Tells (b ≡ true) r → r ≡ b
      told r b w = both r b w.yes (λ e. by_test r (λ y. y) (λ n. absurd (w.no n e)))

      pub closes_same : (c : Closing) (r : Bool)
          → Tells (ClosedBy (shapes_of g) (sorts_of g) (full_of g) (constants_of g) (row_table g.types g.rows).values (literal_table g.literals).kinds (literal_table g.literals).terms (literal_table g.literals).others (length g.literals) s c) r
          → r ≡ claim (table_of g) g.literals s (entry_in c)
      closes_same (EmptyLabel x) r w = told r _ w ∙ by_number (empty_label t s) (empty_at (sorts_of g) (full_of g) s) empty-at x
      closes_same (BrokenLine j) r w = told r _ w ∙ broken-same g.literals s j
      closes_same (UnlikeConstants x) r w =
          told r _ w ∙ by_number (unlike_constants t s) (λ i. unlike_in (constants_of g) (row_table g.types g.rows).values s.classes (class_of s i)) (λ a m. unlike-same limits sup g ok total s a) x
      closes_same (InsideItself x) r w = inside-same x r w
