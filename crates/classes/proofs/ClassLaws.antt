-- Renaming a class maps the array in place; adding a fact is a merge or a cut label. Assumes nothing.
use mathlib.Core.Path.{◌≡◌, refl, ap, sym, ◌∙◌, subst}
use mathlib.Core.Logic.{◌≢◌}
use mathlib.Core.Bool.{Bool, true, false, cond, not}
use mathlib.Core.List.{List, [], ◌∷◌, map}
use Prim.Native.Nat.{ℕ, zero, suc, ◌+◌, ◌≤◌, ◌<◌, max, min}
use native.Mathlib.Omega.{arith}
use lib.Bits.{and_le_l, bit_and}
use lib.Dec.{eqb}
use lib.ListN.{length, get_or, set}
use borrow.Author.Tests.{eq-eqb, ne_eqb}
use native.Mathlib.Numerals.{add-one}
use Rattle.laws.proofs.Stores.{set_ind}
use Rattle.laws.proofs.InPlace.{front-all, front_at, front-next, map_front}
use Rattle.guard.specs.Closure.{Fact, Fact.same, Fact.within, State, add, class_of, holds, merge, merge_unless, rename}
use Rattle.classes.specs.Held.{Held, Kept}

module _ (low high : ℕ) where
  abbrev renamed : ℕ → ℕ
  renamed c = cond (eqb c high) low c

  rename-map : (cs : List ℕ) → map renamed cs ≡ rename low high cs
  rename-map [] = refl
  rename-map (c ∷ cs) = ap (λ (ds : List ℕ). renamed c ∷ ds) (rename-map cs)

  -- the first k classes are renamed
  abbrev pub renamed_front : ℕ → List ℕ → List ℕ
  renamed_front k cs = map_front renamed k cs

  -- the next class is the high one, or another
  pub next_renamed : (k : ℕ) (cs now : List ℕ) → now ≡ renamed_front k cs → k < length cs → get_or now k 0 ≡ high → set now k low ≡ renamed_front (k + 1) cs
  next_renamed k cs now e h q = rw (e, add-one) (front-next renamed k cs 0 low h (grind (arith, eq-eqb, front_at renamed k cs 0)))

  pub next_kept : (k : ℕ) (cs now : List ℕ) → now ≡ renamed_front k cs → k < length cs → get_or now k 0 ≢ high → set now k (get_or now k 0) ≡ renamed_front (k + 1) cs
  next_kept k cs now e h q =
      let v : get_or now k 0 ≡ renamed (get_or cs k 0) = grind (arith, ne_eqb, front_at renamed k cs 0) in
      rw (v, e, add-one) (front-next renamed k cs 0 _ h refl)

  pub rename_all : (k : ℕ) (cs : List ℕ) → length cs ≤ k → renamed_front k cs ≡ rename low high cs
  rename_all k cs h = front-all renamed k cs h ∙ rename-map cs

-- ---- a fact

module _ (s : State) (i j : ℕ) where
  pub same_already : class_of s i ≡ class_of s j → s ≡ add s (same i j)
  same_already e = sym (ap (λ (b : Bool). merge_unless b s (class_of s i) (class_of s j)) (eq-eqb _ _ e))

  pub same_holds : class_of s i ≡ class_of s j → false ≡ not (holds s (same i j))
  same_holds e = sym (ap not (eq-eqb _ _ e))

  pub same_new : ¬ (class_of s i ≡ class_of s j) → merge s (class_of s i) (class_of s j) ≡ add s (same i j)
  same_new n = sym (ap (λ (b : Bool). merge_unless b s (class_of s i) (class_of s j)) (ne_eqb _ _ n))

  pub same_fails : ¬ (class_of s i ≡ class_of s j) → true ≡ not (holds s (same i j))
  same_fails n = sym (ap not (ne_eqb _ _ n))

-- ---- the arrays stay as they have to be

pub class_there : (cs ls : List ℕ) (i : ℕ) → Kept cs ls → get_or cs i 0 < 96
class_there cs ls i k = k.held.there i

rename-there : (low high : ℕ) (cs : List ℕ) → low < 96 → ((i : ℕ) → get_or cs i 0 < 96) → (i : ℕ) → get_or (rename low high cs) i 0 < 96
rename-there low high [] small there i = omega arith
rename-there low high (c ∷ cs) small there zero = either (eqb c high)
  where
    either : (b : Bool) → cond b low c < 96
    either true = small
    either false = there 0
rename-there low high (c ∷ cs) small there (suc i) = rename-there low high cs small (λ k. there (suc k)) i

rename-long : (low high : ℕ) (cs : List ℕ) → length (rename low high cs) ≡ length cs
rename-long low high [] = refl
rename-long low high (c ∷ cs) = ap suc (rename-long low high cs)

pub held_after : (s : State) (f : Fact) → Held s.classes → Held (add s f).classes
held_after s (same i j) h = either (eqb (class_of s i) (class_of s j))
  where
    either : (b : Bool) → Held (merge_unless b s (class_of s i) (class_of s j)).classes
    either true = h
    either false =
        record {
          long = rename-long (min (class_of s i) (class_of s j)) (max (class_of s i) (class_of s j)) s.classes ∙ h.long;
          there = rename-there (min (class_of s i) (class_of s j)) (max (class_of s i) (class_of s j)) s.classes (omega (arith, h.there i, h.there j)) h.there;
        }
held_after s (within i m) h = h

-- ---- a state as code keeps it

small_cut : (ls : List ℕ) → ((c : ℕ) → get_or ls c 0 < 65536) → (i j m c : ℕ) → get_or (set ls i (bit_and (get_or ls j 0) m)) c 0 < 65536
small_cut ls h i j m c = set_ind (λ x. x < 65536) ls i (bit_and (get_or ls j 0) m) c (omega arith) (λ q. omega (arith, and_le_l (get_or ls j 0) m, h j)) (h c)

-- and so is a state after a merge, and after a label is cut down
pub merge_kept : (cs ls cs' ls' : List ℕ) (c d : ℕ) → Kept cs ls → c < 96 → d < 96 → cs' ≡ rename (min c d) (max c d) cs → ls' ≡ set ls (min c d) (bit_and (get_or ls c 0) (get_or ls d 0)) → Kept cs' ls'
merge_kept cs ls cs' ls' c d k small small' e f =
    record {
      held = subst Held (sym e)
          (record { long = rename-long (min c d) (max c d) cs ∙ k.held.long; there = rename-there (min c d) (max c d) cs (omega (arith, small, small')) k.held.there });
      small = λ x. subst (λ (l : List ℕ). get_or l x 0 < 65536) (sym f) (small_cut ls k.small (min c d) c (get_or ls d 0) x);
    }

pub cut_kept : (cs ls : List ℕ) (i j m : ℕ) → Kept cs ls → Kept cs (set ls i (bit_and (get_or ls j 0) m))
cut_kept cs ls i j m k = record { held = k.held; small = small_cut ls k.small i j m }
