-- Places set one after the other. Assumes nothing.
use mathlib.Core.Path.{◌≡◌, refl, ap, sym, ◌∙◌}
use mathlib.Core.List.{List}
use Prim.Native.Nat.{ℕ, ◌+◌, ◌-◌, ◌≤◌, ◌<◌}
use native.Mathlib.Omega.{arith}
use lib.Dec.{eqb}
use lib.IntN.{ℤ, pos}
use lib.ListN.{length, get_or, drop, set, length-set}
use lib.Seq.{drop-set-lt, get_or-set_other, get_or-set_same}
use borrow.Author.Tests.{eqb-false, eqb-true}
use Rattle.laws.proofs.Bools.{by_test}
use Rattle.messages.specs.Rows.{PlacesSet}

module _ (classes at : List ℕ) (entry : List ℤ) where
  -- the first i places are set; those from n on are as they were
  pub record Midway (n i : ℕ) (places : List ℤ) : Type 0 where
    pub set : (j : ℕ) → j < i → get_or places j (pos 0) ≡ pos (get_or at (get_or classes j 0) 0 - 1)
    pub kept : drop n places ≡ drop n entry
    pub long : length places ≡ length entry

  pub places_none : (n : ℕ) → Midway n 0 entry
  places_none n = record { set = λ i h. absurd (omega arith); kept = refl; long = refl }

  pub places_next : (n i : ℕ) (places : List ℤ) (z : ℤ) → i < n → n ≤ length entry → Midway n i places → z ≡ pos (get_or at (get_or classes i 0) 0 - 1) → Midway n (i + 1) (set places i z)
  places_next n i places z h l m e = record {
    set = λ j k. by_test (eqb j i)
        (λ b. let q : j ≡ i = eqb-true j i b in
        ap (λ (k : ℕ). get_or (set places i z) k (pos 0)) q ∙ get_or-set_same places i z (pos 0) (omega (arith, m.long)) ∙ e ∙ ap (λ (k : ℕ). pos (get_or at (get_or classes k 0) 0 - 1)) (sym q))
        (λ b. let q : ¬ (j ≡ i) = eqb-false j i b in get_or-set_other places i j z (pos 0) q ∙ m.set j (omega arith));
    kept = drop-set-lt n places i z h ∙ m.kept;
    long = length-set places i z ∙ m.long;
  }

  pub places_all : (n i : ℕ) (places : List ℤ) → n ≤ i → Midway n i places → PlacesSet classes at n entry places
  places_all n i places h m = record { set = λ j k. m.set j (omega arith); kept = m.kept; long = m.long }
