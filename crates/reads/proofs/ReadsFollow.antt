-- Field reads: what is due by the slots of an array of reads is what the rules give for the reads of a table, and where all that
-- is due holds, all that they give holds. The array and the table are any two with `ReadSlots`. Assumes nothing.
use mathlib.Core.Path.{◌≡◌, refl, ap₂, sym, ◌∙◌, subst}
use mathlib.Core.Bool.{Bool, true, not, ◌&&◌}
use mathlib.Core.List.{List, Memᴰ}
use Prim.Native.Nat.{ℕ, ◌^◌, ◌<◌}
use native.Mathlib.Omega.{arith}
use lib.Bits.{bit_and}
use lib.Dec.{eqb}
use borrow.Author.Tests.{eq-eqb, eqb-true}
use Rattle.laws.specs.All.{All}
use Rattle.laws.proofs.Bools.{and_both, and_left, and_right}
use Rattle.guard.specs.Closure.{Fact, Fact.same, SameAt, State, holds, label_of, lacks, read_absent, reads, same_class}
use Rattle.guard.specs.Terms.{Read, Table}
use Rattle.guard.proofs.AnyOrder.{Follows, Follows.by-absent, Follows.by-reads}
use Rattle.guard.proofs.ClosureState.{Small}
use Rattle.arrays.specs.Arrays.{field_key}
use Rattle.arrays.specs.Slots.{read_bit, read_default, read_key, read_term}
use Rattle.arrays.proofs.TableSlots.{ReadSlot, ReadSlots}
use Rattle.arrays.proofs.DueLaws.{either_order, is_nonzero, mem_one, nonzero_is, one-is, one-quiet, quiet_one, slots_are, slots_at}
use Rattle.arrays.proofs.MaskLaws.{bit_gone, gone_bit}
use Rattle.reads.specs.Due.{default_due, defaults_due, read_due, reads_due, reads_meet}

module _ (t : Table) (array : List ℕ) (slots : ReadSlots t array) (s : State) where
  -- ---- absent variants

  module _ (small : Small s) where
    -- what the label of slot k's term has of its variant
    abbrev left : ℕ → ℕ
    left k = bit_and (label_of s (read_term array k)) (read_bit array k)

    abbrev absent_test : ℕ → Bool
    absent_test k = not (eqb (read_key array k) 0) && eqb (left k) 0

    left_is : (k : ℕ) (r : Read) → ReadSlot array k r → left k ≡ bit_and (label_of s r.term) (2 ^ r.variant)
    left_is k r x = ap₂ (λ (i m : ℕ). bit_and (label_of s i) m) x.term x.bit

    pub absent_follow : (f : Fact) → Memᴰ f (defaults_due array s) → Follows t s f
    unfolding defaults_due default_due
    absent_follow = slots_are 24 (default_due array s) go
      where
        go : (k : ℕ) → k < 24 → (f : Fact) → Memᴰ f (default_due array s k) → Follows t s f
        go k h f m =
            let (e, q) = one-is (absent_test k) k (read_default array k) m in
            let (r, mr, x) = slots.found k h (nonzero_is (read_key array k) (and_left (not (eqb (read_key array k) 0)) _ e)) in
            let none : left k ≡ 0 = eqb-true _ _ (and_right (not (eqb (read_key array k) 0)) _ e) in
            by-absent r mr (mem_one (lacks s r.term r.variant) r.row r.absent
            (eq-eqb _ _ (bit_gone s small r.term r.variant x.variant_fits (sym (left_is k r x) ∙ none))) (q ∙ ap₂ same x.row x.default))

    pub absent-quiet : All (λ f. holds s f ≡ true) (defaults_due array s) → (r : Read) → Memᴰ r t.reads → All (λ f. holds s f ≡ true) (read_absent s r)
    unfolding defaults_due default_due
    absent-quiet h r mr =
        let (l, x) = slots.slot r mr in
        let k = r.row in
        quiet_one (lacks s r.term r.variant) k r.absent s
        (λ e. let none : left k ≡ 0 = left_is k r x ∙ gone_bit s small r.term r.variant x.variant_fits (eqb-true _ _ e) in
        subst (SameAt s k) x.default
        (one-quiet (absent_test k) k (read_default array k) s (slots_at 24 (default_due array s) h k l)
        (and_both _ _ (is_nonzero (read_key array k) (λ z. omega (arith, z, x.key))) (eq-eqb _ _ none))))

  -- ---- two reads

  -- two slots that meet: reads of one field, of equal terms
  record Meets (k i : ℕ) : Type 0 where
    there : ¬ (read_key array k ≡ 0)
    keys : read_key array k ≡ read_key array i
    terms : SameAt s (read_term array i) (read_term array k)

  meet_test : ℕ → ℕ → Bool
  meet_test k i = not (eqb (read_key array k) 0) && (eqb (read_key array k) (read_key array i) && same_class s (read_term array i) (read_term array k))

  meets_of : (k i : ℕ) → meet_test k i ≡ true → Meets k i
  unfolding meet_test
  meets_of k i e =
      let r = and_right (not (eqb (read_key array k) 0)) _ e in
      record {
        there = nonzero_is (read_key array k) (and_left (not (eqb (read_key array k) 0)) _ e);
        keys = eqb-true _ _ (and_left (eqb (read_key array k) (read_key array i)) _ r);
        terms = eqb-true _ _ (and_right (eqb (read_key array k) (read_key array i)) _ r);
      }

  of_meets : (k i : ℕ) → Meets k i → meet_test k i ≡ true
  unfolding meet_test
  of_meets k i m = and_both _ _ (is_nonzero (read_key array k) m.there) (and_both _ _ (eq-eqb _ _ m.keys) (eq-eqb _ _ m.terms))

  -- the rule's own test
  field_test_lem : Read → Read → Bool
  field_test_lem a b = eqb a.type b.type && (eqb a.variant b.variant && (eqb a.position b.position && same_class s a.term b.term))

  -- slots that meet are those of reads that pass it
  module _ (k i : ℕ) (a b : Read) (x : ReadSlot array i a) (y : ReadSlot array k b) where
    field_of : Meets k i → field_test_lem a b ≡ true
    unfolding field_test_lem
    field_of m =
        let z : field_key a.type a.variant a.position ≡ field_key b.type b.variant b.position = sym x.key ∙ sym m.keys ∙ y.key in
        and_both _ _ (eq-eqb a.type b.type (omega (arith, z, x, y)))
        (and_both _ _ (eq-eqb a.variant b.variant (omega (arith, z, x, y)))
        (and_both _ _ (eq-eqb a.position b.position (omega (arith, z, x, y)))
        (ap₂ (same_class s) (sym x.term) (sym y.term) ∙ eq-eqb _ _ m.terms)))

    of_field : field_test_lem a b ≡ true → Meets k i
    unfolding field_test_lem
    of_field e =
        let types : a.type ≡ b.type = eqb-true _ _ (and_left (eqb a.type b.type) _ e) in
        let r = and_right (eqb a.type b.type) _ e in
        let variants : a.variant ≡ b.variant = eqb-true _ _ (and_left (eqb a.variant b.variant) _ r) in
        let q = and_right (eqb a.variant b.variant) _ r in
        let positions : a.position ≡ b.position = eqb-true _ _ (and_left (eqb a.position b.position) _ q) in
        record {
          there = λ z. omega (arith, z, y.key);
          keys = omega (arith, x.key, y.key, types, variants, positions);
          terms = eqb-true _ _ (ap₂ (same_class s) x.term y.term ∙ and_right (eqb a.position b.position) _ q);
        }

  pub pairs_follow : (f : Fact) → Memᴰ f (reads_due array s) → Follows t s f
  unfolding reads_due read_due reads_meet meet_test field_test_lem
  pairs_follow = slots_are 24 (read_due array s) (λ k h. slots_are k (reads_meet array s k) (go k h))
    where
      go : (k : ℕ) → k < 24 → (i : ℕ) → i < k → (f : Fact) → Memᴰ f (reads_meet array s k i) → Follows t s f
      go k hk i hi f m =
          let (e, q) = one-is (meet_test k i) i k m in
          let w : Meets k i = meets_of k i e in
          let (b, mb, y) = slots.found k hk w.there in
          let (a, ma, x) = slots.found i (omega arith) (λ z. w.there (w.keys ∙ z)) in
          by-reads a b ma mb (mem_one (field_test_lem a b) a.row b.row (field_of k i a b x y w) (q ∙ ap₂ same x.row y.row))

  pub pairs-quiet : All (λ f. holds s f ≡ true) (reads_due array s) → (a b : Read) → Memᴰ a t.reads → Memᴰ b t.reads → All (λ f. holds s f ≡ true) (reads s a b)
  unfolding reads_due read_due reads_meet meet_test field_test_lem
  pairs-quiet h a b ma mb =
      let (ha, x) = slots.slot a ma in
      let (hb, y) = slots.slot b mb in
      quiet_one (field_test_lem a b) a.row b.row s (λ e. joined b.row a.row hb ha (of_field b.row a.row a b x y e))
    where
      joined : (k i : ℕ) → k < 24 → i < 24 → Meets k i → SameAt s i k
      joined =
          either_order 24 (λ k i. Meets k i → SameAt s i k)
          (λ k i hk hi j m. sym (j (record { there = λ z. m.there (m.keys ∙ z); keys = sym m.keys; terms = sym m.terms }))) (λ k m. refl)
          (λ k i hk hi m. one-quiet (meet_test k i) i k s (slots_at k (reads_meet array s k) (slots_at 24 (read_due array s) h k hk) i hi) (of_meets k i m))
