-- A split that code finds is on a term whose label holds the variant and another one, whatever the arrays hold. So the
-- search ends. Assumes nothing.
use mathlib.Core.Path.{◌≡◌, refl, ap, sym, ◌∙◌, subst}
use mathlib.Core.Bool.{Bool, true, false, not, ◌&&◌, cond}
use mathlib.Core.List.{List, [], ◌∷◌, Memᴰ}
use mathlib.Core.Option.{none, some}
use Prim.Native.Nat.{ℕ, ◌*◌, ◌^◌, ◌≤◌, ◌<◌}
use native.Mathlib.Nat.{zero-mul}
use native.Mathlib.Omega.{arith}
use lib.Bits.{bit_and}
use lib.Dec.{eqb, leb, ltb}
use lib.ListN.{length, get_or}
use borrow.Author.Tests.{eqb-false, eqb-true, leb-true, ltb-true, ne_eqb, not-true}
use Rattle.laws.specs.Bits.{bit}
use Rattle.laws.specs.Lists.{filter, from}
use Rattle.laws.proofs.Bits.{and_one}
use Rattle.laws.proofs.Bools.{and_both, and_left, and_right}
use Rattle.laws.proofs.Lists.{any_some, filter-is, from_bounds, none-some}
use Rattle.laws.proofs.Positions.{least_passes}
use Rattle.guard.specs.Closure.{State, label_of, lacks}
use Rattle.guard.specs.Limits.{variant_limit}
use Rattle.guard.specs.Node.{Split, holds_another}
use Rattle.labels.specs.Label.{variants_in}
use Rattle.loops.specs.Lowest.{lowest}
use Rattle.arrays.specs.Slots.{ReadsFit, read_bit, read_key, read_term}
use Rattle.slots.proofs.OnlyOne.{one_left}
use Rattle.splits.specs.Choice.{lowest_in, on_read_at, on_term_at, read_splits, split_by, term_splits}

pub record Chosen (s : State) (d : Split) : Type 0 where
  pub term : d.term < 96
  pub variant : d.variant < variant_limit
  pub another : holds_another s d.term d.variant ≡ true

-- the label has the bit, and is more than that
holds-both : (s : State) (i v : ℕ) → ¬ (bit (label_of s i) v ≡ 0) → ¬ (label_of s i ≡ 2 ^ v) → holds_another s i v ≡ true
holds-both s i v a b = and_both (not (lacks s i v)) _ (ap not (ne_eqb _ _ a)) (ap not (ne_eqb _ _ b))

module _ (reads : List ℕ) (fit : ReadsFit reads) (s : State) where
  on_read_lem : (k : ℕ) → k < 24 → read_splits reads s k ≡ true → Chosen s (on_read_at reads k)
  unfolding read_splits
  on_read_lem k h e =
      let (v, m, b) = any_some (λ v. eqb (read_bit reads k) (2 ^ v)) (from variant_limit 0) (fit.bit k h key) in
      go (v, omega (arith, (from_bounds variant_limit 0 v m).1), eqb-true _ _ b)
    where
      label : ℕ
      label = label_of s (read_term reads k)

      key : ¬ (read_key reads k ≡ 0)
      key = eqb-false _ _ (not-true _ (and_left (not (eqb (read_key reads k) 0)) _ e))

      both : (not (eqb (bit_and label (read_bit reads k)) 0) && not (eqb label (read_bit reads k))) ≡ true
      both = and_right (not (eqb (read_key reads k) 0)) _ e

      has : ¬ (bit_and label (read_bit reads k) ≡ 0)
      has = eqb-false _ _ (not-true _ (and_left (not (eqb (bit_and label (read_bit reads k)) 0)) _ both))

      more : ¬ (label ≡ read_bit reads k)
      more = eqb-false _ _ (not-true _ (and_right (not (eqb (bit_and label (read_bit reads k)) 0)) _ both))

      go : (v : ℕ) × (v < variant_limit) × (read_bit reads k ≡ 2 ^ v) → Chosen s (on_read_at reads k)
      go (v, hv, b) =
          let low : lowest_in (read_bit reads k) ≡ v = ap lowest_in b ∙ (one_left v hv).1 in
          record {
            term = fit.term k h;
            variant = omega (arith, low, hv);
            another = subst (λ (u : ℕ). holds_another s (read_term reads k) u ≡ true) (sym low)
                (holds-both s (read_term reads k) v (λ z. has (ap (bit_and label) b ∙ and_one label v ∙ ap (λ (n : ℕ). n * 2 ^ v) z ∙ zero-mul (2 ^ v))) (λ z. more (z ∙ sym b)));
          }

  -- the lowest of two or more variants
  first : (x : ℕ) → 2 ≤ length (variants_in (label_of s x)) → (lowest_in (label_of s x) < variant_limit) × ¬ (bit (label_of s x) (lowest_in (label_of s x)) ≡ 0)
  unfolding variants_in
  first x l = go (filter (λ v. not (eqb (bit (label_of s x) v) 0)) (from variant_limit 0)) l (λ v m. filter-is (λ v. not (eqb (bit (label_of s x) v) 0)) (from variant_limit 0) v m)
    where
      go : (vs : List ℕ) → 2 ≤ length vs → ((v : ℕ) → Memᴰ v vs → Memᴰ v (from variant_limit 0) × (not (eqb (bit (label_of s x) v) 0) ≡ true))
          → (get_or vs 0 16 < variant_limit) × ¬ (bit (label_of s x) (get_or vs 0 16) ≡ 0)
      go [] l f = absurd (omega arith)
      go (v ∷ vs) l f = let (m, b) = f v (Memᴰ.head refl) in (omega (arith, (from_bounds variant_limit 0 v m).1), eqb-false _ _ (not-true _ b))

  on-term : (sorts fieldless : List ℕ) (x : ℕ) → x < 78 → term_splits sorts fieldless s x ≡ true → Chosen s (on_term_at s x)
  unfolding term_splits
  on-term sorts fieldless x h e =
      let two : 2 ≤ length (variants_in (label_of s x)) = leb-true 2 _ (and_left (leb 2 (length (variants_in (label_of s x)))) _ e) in
      let (hv, held) = first x two in
      record {
        term = omega arith;
        variant = hv;
        another = holds-both s x (lowest_in (label_of s x)) held (λ z. omega (arith, two, ap (λ (m : ℕ). length (variants_in m)) z ∙ (one_left (lowest_in (label_of s x)) hv).0));
      }

  pub chosen : (sorts fieldless : List ℕ) (d : Split) → split_by reads sorts fieldless s ≡ some d → Chosen s d
  unfolding split_by lowest
  chosen sorts fieldless d e = go (ltb k 24) (ltb x 78) refl refl e
    where
      k : ℕ
      k = lowest (read_splits reads s) 24

      x : ℕ
      x = lowest (term_splits sorts fieldless s) 78

      go : (a b : Bool) → ltb k 24 ≡ a → ltb x 78 ≡ b → cond a (some (on_read_at reads k)) (cond b (some (on_term_at s x)) none) ≡ some d → Chosen s d
      go true b ea eb q =
          let z : on_read_at reads k ≡ d = cc in
          let h : k < 24 = ltb-true k 24 ea in
          subst (Chosen s) z (on_read_lem k h (least_passes (read_splits reads s) 24 h))
      go false true ea eb q =
          let z : on_term_at s x ≡ d = cc in
          let h : x < 78 = ltb-true x 78 eb in
          subst (Chosen s) z (on-term sorts fieldless x h (least_passes (term_splits sorts fieldless s) 78 h))
      go false false ea eb q = absurd (none-some d q)
