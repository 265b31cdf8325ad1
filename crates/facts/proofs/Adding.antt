-- Facts added one after the other: those of one list after those of another, of a loop over slots, and one fact where a test
-- says so. Assumes nothing.
use mathlib.Core.Path.{◌≡◌, refl, ap, sym, ◌∙◌, subst}
use mathlib.Core.Bool.{Bool, true, false}
use mathlib.Core.List.{List, [], ◌∷◌, ◌++◌, append_assoc, append-nil, foldl}
use Prim.Native.Nat.{ℕ, ◌+◌, ◌≤◌}
use native.Mathlib.Nat.{zero-add}
use native.Mathlib.Numerals.{add-one}
use native.Mathlib.Omega.{arith}
use Rattle.laws.specs.Lists.{concat_map, from, when}
use Rattle.laws.proofs.Lists.{from_snoc}
use Rattle.guard.specs.Closure.{Fact, State, add}

pub adds_append : (fs gs : List Fact) (s : State) → foldl add s (fs ++ gs) ≡ foldl add (foldl add s fs) gs
adds_append [] gs s = refl
adds_append (f ∷ fs) gs s = adds_append fs gs (add s f)

-- facts added to what others gave
pub adds_then : (fs gs : List Fact) (s s' s'' : State) → s' ≡ foldl add s fs → s'' ≡ foldl add s' gs → s'' ≡ foldl add s (fs ++ gs)
adds_then fs gs s s' s'' p q = q ∙ ap (λ (x : State). foldl add x gs) p ∙ sym (adds_append fs gs s)

-- four lists, one after the other
pub adds_all : (a b c d : List Fact) (t s0 s1 s2 s3 s4 : State) → s0 ≡ t → s1 ≡ foldl add s0 a → s2 ≡ foldl add s1 b → s3 ≡ foldl add s2 c → s4 ≡ foldl add s3 d
    → s4 ≡ foldl add t (a ++ b ++ c ++ d)
adds_all a b c d t s0 s1 s2 s3 s4 e ea eb ec ed =
    adds_then (a ++ b ++ c) d t s3 s4 (adds_then (a ++ b) c t s2 s3 (adds_then a b t s1 s2 (ea ∙ ap (λ (x : State). foldl add x a) e) eb) ec) ed

-- ---- the facts of slots, one after the other

module _ (facts : ℕ → List Fact) where
  -- the facts of the first n slots
  abbrev pub up_to : ℕ → List Fact
  up_to n = concat_map facts (from n 0)

  facts_last : (ks : List ℕ) (k : ℕ) → concat_map facts ks ++ facts k ≡ concat_map facts (ks ++ (k ∷ []))
  facts_last [] k = sym (append-nil (facts k))
  facts_last (j ∷ ks) k = append_assoc (facts j) (concat_map facts ks) (facts k) ∙ ap (λ (fs : List Fact). facts j ++ fs) (facts_last ks k)

  up_next : (n : ℕ) → up_to n ++ facts n ≡ up_to (n + 1)
  up_next n =
      facts_last (from n 0) n ∙ ap (λ (k : ℕ). concat_map facts (from n 0 ++ (k ∷ []))) (sym (zero-add n)) ∙ ap (concat_map facts) (sym (from_snoc n 0))
      ∙ ap up_to (sym (add-one n))

  pub next_slot : (n : ℕ) (s s' s'' : State) → s' ≡ foldl add s (up_to n) → s'' ≡ foldl add s' (facts n) → s'' ≡ foldl add s (up_to (n + 1))
  next_slot n s s' s'' p q = adds_then (up_to n) (facts n) s s' s'' p q ∙ ap (foldl add s) (up_next n)

  pub all_slots : (n end : ℕ) (s s' : State) → n ≤ end → end ≤ n → s' ≡ foldl add s (up_to n) → s' ≡ foldl add s (up_to end)
  all_slots n end s s' l h p = let e : n ≡ end = omega arith in subst (λ (k : ℕ). s' ≡ foldl add s (up_to k)) e p

-- ---- one fact where a test says so

module _ (test : Bool) (f : Fact) (s : State) where
  pub not_added : test ≡ false → s ≡ foldl add s (when test (f ∷ []))
  not_added e = sym (ap (λ (b : Bool). foldl add s (when b (f ∷ []))) e)

  pub one-added : test ≡ true → (s' : State) → s' ≡ add s f → s' ≡ foldl add s (when test (f ∷ []))
  one-added e s' q = q ∙ sym (ap (λ (b : Bool). foldl add s (when b (f ∷ []))) e)
