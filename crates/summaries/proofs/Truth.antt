-- A summary is true of its guard: made anew, since the number of each walk means what it says, and with a line more, since what no messages
-- make hold, none make hold with a line more. So two true summaries of one guard agree wherever both are settled. Assumes nothing.
use mathlib.Core.Path.{◌≡◌, refl, ap, sym, subst, ◌∙◌}
use mathlib.Core.Bool.{Bool, true, false, cond, not, ◌&&◌}
use mathlib.Core.List.{List, [], ◌∷◌, ◌++◌}
use mathlib.Core.Logic.{◌↔◌}
use Prim.Native.Nat.{ℕ, ◌+◌, ◌≤◌, ◌<◌}
use native.Mathlib.Omega.{arith}
use lib.Dec.{eqb, ltb}
use lib.ListN.{length, get_or, length-append}
use borrow.Author.Tests.{eq-eqb, eqb-false, eqb-true, ltb-false, ltb-true, ne_eqb, not-true}
use Rattle.laws.specs.All.{All, All.more, All.none}
use Rattle.laws.specs.Bits.{bit}
use Rattle.laws.proofs.Bits.{bit_zero}
use Rattle.laws.proofs.Bools.{and_left, and_right, by_test, cond_ind}
use Rattle.laws.proofs.Lists.{all_append, all_left, all_of, all_right}
use Rattle.guard.specs.Guard.{Guard, Literal, Literal.is, type_at}
use Rattle.guard.specs.Limits.{Supported, base, total_variant_limit}
use Rattle.guard.specs.Meaning.{LiteralHolds, Satisfiable, values}
use Rattle.guard.specs.Search.{node_count}
use Rattle.guard.specs.Types.{variants_of}
use Rattle.guard.specs.WellFormed.{LiteralFits, WellFormed}
use Rattle.guard.proofs.Accepted.{variants_in, with_literals}
use Rattle.serialize.specs.Tokens.{bytes_of}
use Rattle.serialize.proofs.Theorems.{well_formed-file}
use Rattle.merged.proofs.PartHolds.{all_hold, each_holds}
use Rattle.theory.proofs.Theorems.{open_exactly}
use Rattle.verdictcodes.specs.Codes.{code_for, with_more}
use Rattle.verdictcodes.proofs.Meaning.{sat-code, some-code, spent-code, unsat-code}
use Rattle.summaries.specs.InTables.{longer, wide}
use Rattle.summaries.specs.Summary.{Agree, IsSat, Shaped, TrueOf, kept_or_walked, possible_at, possible_by, ruled_out, settled_at, settled_by, summary_by, summary_of, updated, variant_count, walked, with_variant}
use Rattle.summaries.proofs.Masks.{one_if}
use Rattle.summaries.proofs.Positions.{masks_length, possible_at_lem, possible_bit, possible_none, possible_past, settled_at_lem, settled-bit, settled-none, settled-past}

-- ---- the guards that are walked

pub wide-supported : Supported wide
wide-supported = record { types = omega arith; terms = omega arith; lines = omega arith }

module _ (g : Guard) where
  -- a variant that is told of is there
  pub there : (i v : ℕ) → v < variant_count g i → LiteralFits g.types g.rows (is i v)
  unfolding variant_count
  there i v h = go (ltb i (length g.rows)) refl h
    where
      go : (b : Bool) → ltb i (length g.rows) ≡ b → v < cond b (length (variants_of g.types (type_at g.types g.rows i))) 0 → LiteralFits g.types g.rows (is i v)
      go true e l = (ltb-true i (length g.rows) e, l)
      go false e l = absurd (omega arith)

  pub walked-formed : WellFormed longer g → (i v : ℕ) → v < variant_count g i → WellFormed wide (with_variant g i v)
  walked-formed ok i v h =
      with_literals longer g ok 64 (g.literals ++ (is i v ∷ [])) (omega (arith, length-append g.literals (is i v ∷ []), ok.line_count))
      (all_append (all_of g.literals ok.literals) (more (there i v h) none))

-- document 01: SAT means that some messages make the guard hold
pub sat_exactly : (g : Guard) → WellFormed wide g → length (variants_in g.types) ≤ total_variant_limit → IsSat g ↔ Satisfiable g
sat_exactly g ok total = open_exactly wide (bytes_of g) g (record { supported = wide-supported; accepts = well_formed-file wide wide-supported g ok total })

-- ---- a summary by numbers that mean what they say

-- 1 that the guard is SAT, 2 that it isn't; there are no others but 3
pub record Means (g : Guard) (code : ℕ) : Type 0 where
  pub sat : code ≡ 1 → IsSat g
  pub unsat : code ≡ 2 → ¬ IsSat g
  pub least : 0 < code
  pub most : code < 4

module _ (g : Guard) (codes : ℕ → ℕ → ℕ) where
  abbrev made : List ℕ
  made = summary_by codes (variant_count g)

  module _ (i v : ℕ) (row : i < base.terms) (h : v < variant_count g i) where
    settled_is : bit (settled_at made i) v ≡ one_if (not (eqb (codes i v) 3))
    unfolding summary_by
    settled_is = settled-bit codes (variant_count g) 24 i v row h

    possible_is : bit (possible_at made i) v ≡ one_if (eqb (codes i v) 1)
    unfolding summary_by
    possible_is = possible_bit codes (variant_count g) 24 i v row h

    pub unsettled_by : (bit (settled_at made i) v ≡ 0) ↔ (codes i v ≡ 3)
    unsettled_by = (λ e. spent (eqb (codes i v) 3) refl (sym settled_is ∙ e), λ e. settled_is ∙ ap (λ (b : Bool). one_if (not b)) (eq-eqb (codes i v) 3 e))
      where
        spent : (b : Bool) → eqb (codes i v) 3 ≡ b → one_if (not b) ≡ 0 → codes i v ≡ 3
        spent true e z = eqb-true (codes i v) 3 e
        spent false e z = absurd (omega (arith, z))

  pub true_by : ((i v : ℕ) → i < base.terms → v < variant_count g i → Means (with_variant g i v) (codes i v)) → TrueOf g made
  true_by means = record { tells = λ i v row h settled. go i v row h (means i v row h) settled }
    where
      go : (i v : ℕ) → i < base.terms → v < variant_count g i → Means (with_variant g i v) (codes i v) → bit (settled_at made i) v ≡ 1 → (bit (possible_at made i) v ≡ 1) ↔ IsSat (with_variant g i v)
      go i v row h m settled = (λ e. m.sat (one (eqb (codes i v) 1) refl (sym (possible_is i v row h) ∙ e)), λ s. possible_is i v row h ∙ ap (λ (b : Bool). one_if b) (eq-eqb (codes i v) 1 (is_one_lem s)))
        where
          one : (b : Bool) → eqb (codes i v) 1 ≡ b → one_if b ≡ 1 → codes i v ≡ 1
          one true e z = eqb-true (codes i v) 1 e
          one false e z = absurd (omega (arith, z))

          is_one_lem : IsSat (with_variant g i v) → codes i v ≡ 1
          is_one_lem s =
              let n : ¬ (codes i v ≡ 3) = λ e. omega (arith, settled, (unsettled_by i v row h).1 e) in
              by_test (eqb (codes i v) 2) (λ e. absurd (m.unsat (eqb-true (codes i v) 2 e) s)) (λ e. omega (arith, n, eqb-false (codes i v) 2 e, m.least, m.most))

  -- whatever the numbers
  pub shaped : Shaped g made
  unfolding summary_by
  shaped = record { long = masks_length codes (variant_count g) 24; of_them = among; past = beyond; none = nothing }
    where
      -- the two bits of a number
      either_way : (c : ℕ) (b : Bool) → eqb c 1 ≡ b → one_if b ≡ 1 → one_if (not (eqb c 3)) ≡ 1
      either_way c true e z = ap (λ (b : Bool). one_if (not b)) (ne_eqb c 3 (λ q. omega (arith, q, eqb-true c 1 e)))
      either_way c false e z = absurd (omega (arith, z))

      among_rows : (i v : ℕ) → i < 24 → bit (possible_at made i) v ≡ 1 → bit (settled_at made i) v ≡ 1
      among_rows i v row e =
          by_test (ltb v (variant_count g i))
          (λ t. let h : v < variant_count g i = ltb-true v (variant_count g i) t in
          settled-bit codes (variant_count g) 24 i v row h ∙ either_way (codes i v) (eqb (codes i v) 1) refl (sym (possible_bit codes (variant_count g) 24 i v row h) ∙ e))
          (λ t. absurd (omega (arith, e, possible_none codes (variant_count g) 24 i v row (ltb-false v (variant_count g i) t))))

      among : (i v : ℕ) → bit (possible_at made i) v ≡ 1 → bit (settled_at made i) v ≡ 1
      among i v e =
          by_test (ltb i 24) (λ t. among_rows i v (ltb-true i 24 t) e)
          (λ t. absurd (omega (arith, e, ap (λ (m : ℕ). bit m v) (possible_past codes (variant_count g) 24 i (ltb-false i 24 t)), bit_zero v)))

      beyond : (i v : ℕ) → variant_count g i ≤ v → bit (settled_at made i) v ≡ 0
      beyond i v h =
          by_test (ltb i 24) (λ t. settled-none codes (variant_count g) 24 i v (ltb-true i 24 t) h)
          (λ t. ap (λ (m : ℕ). bit m v) (settled-past codes (variant_count g) 24 i (ltb-false i 24 t)) ∙ bit_zero v)

      nothing : (i : ℕ) → variant_count g i ≡ 0 → (settled_at made i ≡ 0) × (possible_at made i ≡ 0)
      nothing i e =
          by_test (ltb i 24) (λ t. (
            settled_at_lem codes (variant_count g) 24 i (ltb-true i 24 t) ∙ ap (settled_by (codes i)) e,
            possible_at_lem codes (variant_count g) 24 i (ltb-true i 24 t) ∙ ap (possible_by (codes i)) e,
          ))
          (λ t. (settled-past codes (variant_count g) 24 i (ltb-false i 24 t), possible_past codes (variant_count g) 24 i (ltb-false i 24 t)))

-- "so it agrees with one made anew wherever both are settled": two that are true of one guard
pub agree : (g : Guard) (s u : List ℕ) → TrueOf g s → TrueOf g u → Agree g s u
agree g s u true-s true-u = record { same = λ i v row h a b. one_truth (bit (possible_at s i) v) (bit (possible_at u i) v) (omega arith) (omega arith) (true-s.tells i v row h a) (true-u.tells i v row h b) }
  where
    one_truth : {S : Type 0} (x y : ℕ) → x < 2 → y < 2 → (x ≡ 1) ↔ S → (y ≡ 1) ↔ S → x ≡ y
    one_truth x y few few' p q =
        by_test (eqb x 1) (λ e. let z : y ≡ 1 = q.1 (p.0 (eqb-true x 1 e)) in omega (arith, eqb-true x 1 e))
        (λ e. let z : ¬ (y ≡ 1) = λ f. eqb-false x 1 e (p.1 (q.0 f)) in omega (arith, z, eqb-false x 1 e))

-- ---- made anew

module _ (g : Guard) (ok : WellFormed longer g) (total : length (variants_in g.types) ≤ total_variant_limit) (budget : ℕ) where
  walk_means : (i v : ℕ) → v < variant_count g i → Means (with_variant g i v) (walked budget g i v)
  unfolding walked
  walk_means i v h =
      let formed : WellFormed wide (with_variant g i v) = walked-formed g ok i v h in
      let exactly = sat_exactly (with_variant g i v) formed total in
      record {
        sat = λ e. exactly.1 (sat-code wide wide-supported (with_variant g i v) formed total budget e);
        unsat = λ e s. unsat-code wide wide-supported (with_variant g i v) formed total budget e (exactly.0 s);
        least = (some-code wide wide-supported (with_variant g i v) formed total budget).0;
        most = (some-code wide wide-supported (with_variant g i v) formed total budget).1;
      }

  -- "Made anew it is true"
  pub anew_true : TrueOf g (summary_of budget g)
  unfolding summary_of
  anew_true = true_by g (walked budget g) (λ i v row h. walk_means i v h)

  pub anew_shaped : Shaped g (summary_of budget g)
  unfolding summary_of
  anew_shaped = shaped g (walked budget g)

  -- "one walked is unsettled exactly if its walk was SPENT at the given budget": if the node count of the guard with its line is above that
  pub anew_unsettled : (i v : ℕ) → i < base.terms → v < variant_count g i → (bit (settled_at (summary_of budget g) i) v ≡ 0) ↔ (budget < node_count (with_variant g i v))
  unfolding summary_of walked
  anew_unsettled i v row h =
      let spent = spent-code wide wide-supported (with_variant g i v) (walked-formed g ok i v h) total budget in
      let unsettled = unsettled_by g (walked budget g) i v row h in
      (λ e. spent.0 (unsettled.0 e), λ e. unsettled.1 (spent.1 e))

-- ---- a line more

module _ (g : Guard) (l : Literal) (ok : WellFormed longer (with_more g (l ∷ []))) (total : length (variants_in g.types) ≤ total_variant_limit) where
  abbrev after : Guard
  after = with_more g (l ∷ [])

  same_count : (i : ℕ) → variant_count after i ≡ variant_count g i
  unfolding variant_count
  same_count i = refl

  before-formed : WellFormed longer g
  before-formed =
      with_literals longer after ok 33 g.literals (omega (arith, length-append g.literals (l ∷ []), ok.line_count))
      (all_left g.literals (l ∷ []) (all_of after.literals ok.literals))

  -- messages that make it hold with the line make it hold without
  fewer : (i v : ℕ) → Satisfiable (with_variant after i v) → Satisfiable (with_variant g i v)
  fewer i v s =
      let vals = values g s.assignment in
      let each : All (LiteralHolds vals) ((g.literals ++ (l ∷ [])) ++ (is i v ∷ [])) = each_holds vals ((g.literals ++ (l ∷ [])) ++ (is i v ∷ [])) s.holds.literals in
      let own = all_left g.literals (l ∷ []) (all_left (g.literals ++ (l ∷ [])) (is i v ∷ []) each) in
      let line = all_right (g.literals ++ (l ∷ [])) (is i v ∷ []) each in
      record { assignment = s.assignment; holds = record { assigns = record { belongs = s.holds.assigns.belongs }; literals = all_hold vals (all_append own line) } }

  module _ (budget : ℕ) (old : List ℕ) (before : TrueOf g old) where
    kept_means : (i v : ℕ) → i < base.terms → v < variant_count g i → ruled_out (settled_at old i) (possible_at old i) v ≡ true → Means (with_variant after i v) 2
    kept_means i v row h e =
        let set : ¬ (bit (settled_at old i) v ≡ 0) = eqb-false (bit (settled_at old i) v) 0 (not-true _ (and_left (not (eqb (bit (settled_at old i) v) 0)) (eqb (bit (possible_at old i) v) 0) e)) in
        let clear : bit (possible_at old i) v ≡ 0 = eqb-true _ _ (and_right (not (eqb (bit (settled_at old i) v) 0)) (eqb (bit (possible_at old i) v) 0) e) in
        let settled : bit (settled_at old i) v ≡ 1 = omega (arith, set) in
        let now = sat_exactly (with_variant after i v) (walked-formed after ok i v (omega (arith, h, same_count i))) total in
        let then = sat_exactly (with_variant g i v) (walked-formed g before-formed i v h) total in
        record { sat = λ z. absurd (omega (arith, z)); unsat = λ z s. omega (arith, clear, (before.tells i v row h settled).1 (then.1 (fewer i v (now.0 s)))); least = omega arith; most = omega arith }

    kept_or_walked_lem : (i v : ℕ) → i < base.terms → v < variant_count after i → Means (with_variant after i v) (kept_or_walked budget old after i v)
    unfolding kept_or_walked
    kept_or_walked_lem i v row h =
        cond_ind (Means (with_variant after i v)) (ruled_out (settled_at old i) (possible_at old i) v) 2 (walked budget after i v) (kept_means i v row (omega (arith, h, same_count i)))
        (λ e. walk_means after ok total budget i v h)

    -- "Where the old summary was true of the old guard, the new one is true of the new"
    pub updated_true : TrueOf after (updated budget old after)
    unfolding updated
    updated_true = true_by after (kept_or_walked budget old after) kept_or_walked_lem

    -- ".. so it agrees with one made anew wherever both are settled", at any budget
    pub updated-agrees : (other : ℕ) → Agree after (updated budget old after) (summary_of other after)
    updated-agrees other = agree after (updated budget old after) (summary_of other after) updated_true (anew_true after ok total other)

-- ---- any summary that is brought up to date, whatever was in it

module _ (g : Guard) (budget : ℕ) (old : List ℕ) where
  -- "a missing row or one of number type has 0"
  pub updated_shaped : Shaped g (updated budget old g)
  unfolding updated
  updated_shaped = shaped g (kept_or_walked budget old g)

  module _ (i v : ℕ) (row : i < base.terms) (h : v < variant_count g i) where
    -- "settled impossible variants are kept so"
    pub kept_so : ruled_out (settled_at old i) (possible_at old i) v ≡ true → (bit (settled_at (updated budget old g) i) v ≡ 1) × (bit (possible_at (updated budget old g) i) v ≡ 0)
    unfolding updated kept_or_walked
    kept_so e =
        let c : kept_or_walked budget old g i v ≡ 2 = ap (λ (b : Bool). cond b 2 (walked budget g i v)) e in (
          settled_is g (kept_or_walked budget old g) i v row h ∙ ap (λ (n : ℕ). one_if (not (eqb n 3))) c,
          possible_is g (kept_or_walked budget old g) i v row h ∙ ap (λ (n : ℕ). one_if (eqb n 1)) c,
        )

    -- "and every other one is walked afresh": it then has the bits of a summary made anew
    pub walked_afresh : ruled_out (settled_at old i) (possible_at old i) v ≡ false
        → (bit (settled_at (updated budget old g) i) v ≡ bit (settled_at (summary_of budget g) i) v) × (bit (possible_at (updated budget old g) i) v ≡ bit (possible_at (summary_of budget g) i) v)
    unfolding updated kept_or_walked summary_of
    walked_afresh e =
        let c : kept_or_walked budget old g i v ≡ walked budget g i v = ap (λ (b : Bool). cond b 2 (walked budget g i v)) e in (
          settled_is g (kept_or_walked budget old g) i v row h ∙ ap (λ (n : ℕ). one_if (not (eqb n 3))) c ∙ sym (settled_is g (walked budget g) i v row h),
          possible_is g (kept_or_walked budget old g) i v row h ∙ ap (λ (n : ℕ). one_if (eqb n 1)) c ∙ sym (possible_is g (walked budget g) i v row h),
        )
