-- The test of a type and the test of a variant, a turn at a time; and that as many times two rounds as there are types
-- find exactly the finite types: what is known is finite, and what is found in so many rounds is known. Assumes nothing.
use mathlib.Core.Path.{◌≡◌, refl, ap, sym, ◌∙◌, fun_ext}
use mathlib.Core.Bool.{Bool, true, false, not, ◌&&◌, ◌||◌, cond, false≢true}
use mathlib.Core.List.{List, map, []}
use Prim.Native.Nat.{ℕ, zero, suc, ◌+◌, ◌*◌, ◌-◌, ◌≤◌, ◌<◌}
use native.Mathlib.Nat.{zero-add}
use native.Mathlib.Numerals.{sub-one, add-one}
use native.Mathlib.Omega.{arith}
use lib.Dec.{eqb, ltb}
use lib.ListN.{length, get_or, replicate, set}
use borrow.Author.Tests.{eq-eqb, ne_eqb, ltb-true, ltb-false, not-true}
use Rattle.laws.specs.Lists.{all, from}
use Rattle.laws.proofs.Bools.{and_both, and_left, and_right, by_test, either, or_cases, or_right}
use Rattle.laws.proofs.Lists.{from_bounds, map_cong, map-from-at, map-from_out}
use Rattle.laws.proofs.Positions.{all_true_weaken}
use Rattle.guard.specs.Types.{Types, finite, finite_type, is_number, variants_of}
use Rattle.guard.proofs.FiniteTypes.{finite_exactly, finite_step, variant-type-inside}
use Rattle.finite.specs.TypeColumns.{column, fields_at, types_in}
use Rattle.finite.specs.Finite.{finite_column, finite_type_from, finite_variant_from, flagged, flags, known_after}
use Rattle.tables.specs.Layout.{pad}
use Rattle.tables.proofs.Columns.{pad_get}
use Rattle.tables.proofs.Held.{held-many}
use Rattle.finite.proofs.FlatTypes.{fields-all, fields-length, number_is, variants-are}
use Rattle.finite.proofs.Walks.{all_mapped, all_none, all_turn, column-next, column-none, from_start}

module _ (many : ℕ) (variants first arities sorts known : List ℕ) where
  abbrev ts : Types
  ts = types_in many variants first arities sorts

  -- the variants of a type, and the fields of a variant, in one round less
  abbrev pub variant_test : ℕ → ℕ → ℕ → Bool
  variant_test k t v = finite_variant_from known (k - 1) ts (fields_at arities sorts (get_or first t 0 + v))

  abbrev pub field_test : ℕ → ℕ → ℕ → Bool
  field_test k w j = finite_type_from known (k - 1) ts (get_or sorts (3 * w + j) 0)

  pub type-known : (k t : ℕ) → get_or known t 0 ≡ 1 → finite_type_from known k ts t ≡ true
  unfolding finite_type_from flagged
  type-known zero t e = eq-eqb _ _ e
  type-known (suc k) t e = rw (eq-eqb _ _ e) refl

  pub type-no_rounds : (k t : ℕ) → ¬ (get_or known t 0 ≡ 1) → k ≡ 0 → finite_type_from known k ts t ≡ false
  unfolding finite_type_from flagged
  type-no_rounds zero t n e = ne_eqb _ _ n
  type-no_rounds (suc k) t n e = absurd (omega arith)

  type_new : (k t : ℕ) → ¬ (get_or known t 0 ≡ 1) → ¬ (k ≡ 0) → finite_type_from known k ts t ≡ (not (is_number ts t) && all (λ fs. finite_variant_from known (k - 1) ts fs) (variants_of ts t))
  unfolding finite_type_from flagged
  type_new zero t n z = absurd (z refl)
  type_new (suc k) t n z = rw (sub-one, ne_eqb (get_or known t 0) 1 n) refl

  pub type-number : (k t : ℕ) → ¬ (get_or known t 0 ≡ 1) → ¬ (k ≡ 0) → t < many → get_or variants t 0 ≡ 0 → finite_type_from known k ts t ≡ false
  type-number k t n z h e =
      type_new k t n z ∙ ap (λ (b : Bool). not b && all (λ fs. finite_variant_from known (k - 1) ts fs) (variants_of ts t)) (number_is many variants first arities sorts t h ∙ eq-eqb _ _ e)

  pub type_step : (k t : ℕ) → ¬ (get_or known t 0 ≡ 1) → ¬ (k ≡ 0) → t < many → ¬ (get_or variants t 0 ≡ 0)
      → finite_type_from known k ts t ≡ all (variant_test k t) (from (get_or variants t 0 - 0) 0)
  type_step k t n z h e =
      type_new k t n z ∙ ap (λ (b : Bool). not b && all (λ fs. finite_variant_from known (k - 1) ts fs) (variants_of ts t)) (number_is many variants first arities sorts t h ∙ ne_eqb _ _ e)
      ∙ ap (all (λ fs. finite_variant_from known (k - 1) ts fs)) (variants-are many variants first arities sorts t h)
      ∙ all_mapped (λ fs. finite_variant_from known (k - 1) ts fs) (λ v. fields_at arities sorts (get_or first t 0 + v)) (from (get_or variants t 0) 0)
      ∙ ap (all (variant_test k t)) (sym (from_start (get_or variants t 0)))

  pub variant-no_rounds : (k w : ℕ) → k ≡ 0 → finite_variant_from known k ts (fields_at arities sorts w) ≡ eqb (get_or arities w 0) 0
  unfolding finite_variant_from
  variant-no_rounds zero w e = ap (λ (n : ℕ). eqb n 0) (fields-length arities sorts w)
  variant-no_rounds (suc k) w e = absurd (omega arith)

  pub variant_step : (k w : ℕ) → ¬ (k ≡ 0) → finite_variant_from known k ts (fields_at arities sorts w) ≡ all (field_test k w) (from (get_or arities w 0 - 0) 0)
  unfolding finite_variant_from
  variant_step zero w z = absurd (z refl)
  variant_step (suc k) w z =
      let e : k ≡ suc k - 1 = omega arith in
      fields-all arities sorts w (λ t. finite_type_from known k ts t) ∙ ap (λ (m : ℕ). all (λ j. finite_type_from known m ts (get_or sorts (3 * w + j) 0)) (from (get_or arities w 0) 0)) e ∙ ap (all (field_test (suc k) w)) (sym (from_start (get_or arities w 0)))

-- the tests of a type and of a variant: how they begin, each turn and the end
pub ruleset turns = (type-known, type-no_rounds, type-number, type_step, variant-no_rounds, variant_step, all_turn, all_none)

-- ---- the rounds

pub flags-none : (p : ℕ → Bool) → flags p 0 ≡ replicate 6 0
unfolding flags
flags-none p = column-none _

-- a turn: the next flag is stored
pub flags_turn : (p : ℕ → Bool) (i x : ℕ) → i < 6 → x ≡ cond (p i) 1 0 → set (flags p i) i x ≡ flags p (i + 1)
unfolding flags
flags_turn p i x h e = ap (set (flags p i) i) e ∙ column-next _ i h

pub ruleset flagging = (flags-none, flags_turn)

flagged-one : (p : ℕ → Bool) (n t : ℕ) → t < n → flagged (flags p n) t ≡ p t
unfolding flagged flags column
flagged-one p n t h =
    ap (λ (k : ℕ). eqb k 1) (pad_get 0 6 t (map (λ t. cond (p t) 1 0) (from n 0)) ∙ map-from-at (λ t. cond (p t) 1 0) n 0 t 0 h ∙ ap (λ (u : ℕ). cond (p u) 1 0) (zero-add t)) ∙ test (p t)
  where
    test : (b : Bool) → eqb (cond b 1 0) 1 ≡ b
    test true = refl
    test false = refl

flagged-past : (p : ℕ → Bool) (n t : ℕ) → n ≤ t → flagged (flags p n) t ≡ false
unfolding flagged flags column
flagged-past p n t h = ap (λ (k : ℕ). eqb k 1) (pad_get 0 6 t (map (λ t. cond (p t) 1 0) (from n 0)) ∙ map-from_out (λ t. cond (p t) 1 0) n 0 t 0 h)

-- a column tells of every type what its test does, if the test passes at types of the list only
pub flagged-is : (p : ℕ → Bool) (n : ℕ) → ((t : ℕ) → p t ≡ true → t < n) → (t : ℕ) → flagged (flags p n) t ≡ p t
flagged-is p n inside t =
    by_test (ltb t n) (λ e. flagged-one p n t (ltb-true _ _ e)) (λ e. flagged-past p n t (ltb-false t n e) ∙ sym (fails (p t) (λ q. omega (arith, inside t q, ltb-false t n e))))
  where
    fails : (b : Bool) → (b ≡ true → ⊥) → b ≡ false
    fails true f = absurd (f refl)
    fails false f = refl

flags-same : (p q : ℕ → Bool) (n : ℕ) → ((t : ℕ) → t < n → p t ≡ q t) → flags p n ≡ flags q n
unfolding flags column
flags-same p q n h =
    ap (pad 6) (map_cong (λ t. cond (p t) 1 0) (λ t. cond (q t) 1 0) (from n 0) (λ t m. ap (λ (b : Bool). cond b 1 0) (h t (omega (arith, (from_bounds n 0 t m).1)))))

module _ (ts : Types) where
  -- two rounds are a step from the known types
  two_rounds : (known : List ℕ) (t : ℕ) → finite_type_from known 2 ts t ≡ (flagged known t || finite_step ts (flagged known) t)
  unfolding finite_type_from finite_variant_from
  two_rounds known t = refl

  known_zero : (t : ℕ) → flagged (known_after 0 ts) t ≡ false
  unfolding known_after flagged
  known_zero t = ap (λ (k : ℕ). eqb k 1) (pad_get 0 6 t [])

  step_inside : (p : ℕ → Bool) (t : ℕ) → finite_step ts p t ≡ true → t < length ts
  step_inside p t e = variant-type-inside ts t (not-true _ (and_left (not (is_number ts t)) (all (all p) (variants_of ts t)) e))

  step_weaken : (p q : ℕ → Bool) → ((t : ℕ) → p t ≡ true → q t ≡ true) → (t : ℕ) → finite_step ts p t ≡ true → finite_step ts q t ≡ true
  step_weaken p q h t e =
      and_both (not (is_number ts t)) (all (all q) (variants_of ts t)) (and_left (not (is_number ts t)) (all (all p) (variants_of ts t)) e)
      (all_true_weaken (all p) (all q) (variants_of ts t) (λ fs. all_true_weaken p q fs h) (and_right (not (is_number ts t)) (all (all p) (variants_of ts t)) e))

  known_suc : (k : ℕ) → ((t : ℕ) → flagged (known_after k ts) t ≡ true → t < length ts) → (t : ℕ)
      → flagged (known_after (suc k) ts) t ≡ (flagged (known_after k ts) t || finite_step ts (flagged (known_after k ts)) t)
  unfolding known_after
  known_suc k inside t =
      flagged-is (finite_type_from (known_after k ts) 2 ts) (length ts)
      (λ u e. either (inside u) (step_inside (flagged (known_after k ts)) u) (or_cases _ _ (sym (two_rounds (known_after k ts) u) ∙ e))) t
      ∙ two_rounds (known_after k ts) t

  -- only types of the list are ever known
  known-inside : (k t : ℕ) → flagged (known_after k ts) t ≡ true → t < length ts
  known-inside zero t e = absurd (false≢true (sym (known_zero t) ∙ e))
  known-inside (suc k) t e = either (known-inside k t) (step_inside (flagged (known_after k ts)) t) (or_cases _ _ (sym (known_suc k (known-inside k) t) ∙ e))

  -- what is known is finite
  known-finite : (k t : ℕ) → flagged (known_after k ts) t ≡ true → finite ts t ≡ true
  known-finite zero t e = absurd (false≢true (sym (known_zero t) ∙ e))
  known-finite (suc k) t e =
      either (known-finite k t) (λ s. finite_exactly ts t ∙ step_weaken (flagged (known_after k ts)) (finite ts) (known-finite k) t s)
      (or_cases _ _ (sym (known_suc k (known-inside k) t) ∙ e))

  -- what the definition finds in so many rounds is known after half as many times
  found-known : (k t : ℕ) → finite_type (2 * k) ts t ≡ true → flagged (known_after k ts) t ≡ true
  found-known zero t e = absurd (false≢true e)
  found-known (suc k) t e =
      let q : 2 * suc k ≡ suc (suc (2 * k)) = omega arith in
      let s : finite_step ts (finite_type (2 * k) ts) t ≡ true = sym (ap (λ (n : ℕ). finite_type n ts t) q) ∙ e in
      known_suc k (known-inside k) t
      ∙ or_right (flagged (known_after k ts) t) (finite_step ts (flagged (known_after k ts)) t) (step_weaken (finite_type (2 * k) ts) (flagged (known_after k ts)) (found-known k) t s)

  known_is : (t : ℕ) → flagged (known_after (length ts) ts) t ≡ finite ts t
  known_is t = same (flagged (known_after (length ts) ts) t) (finite ts t) (known-finite (length ts) t) (found-known (length ts) t)
    where
      same : (a b : Bool) → (a ≡ true → b ≡ true) → (b ≡ true → a ≡ true) → a ≡ b
      same true b f g = sym (f refl)
      same false true f g = g refl
      same false false f g = refl

  finite-inside : (t : ℕ) → finite ts t ≡ true → t < length ts
  finite-inside t e = known-inside (length ts) t (known_is t ∙ e)

  -- the column of finite types tells exactly the finite types
  pub finite-flagged : flagged (finite_column ts) ≡ finite ts
  unfolding finite_column
  finite-flagged = fun_ext (flagged-is (finite ts) (length ts) finite-inside)

  pub known-none : known_after 0 ts ≡ replicate 6 0
  unfolding known_after
  known-none = refl

  pub known_next : (k : ℕ) → known_after (k + 1) ts ≡ flags (finite_type_from (known_after k ts) 2 ts) (length ts)
  unfolding known_after
  known_next k = ap (λ (m : ℕ). known_after m ts) (add-one k)

  -- after as many times two rounds as there are types, the known types are the finite ones
  pub known-all : known_after (length ts) ts ≡ finite_column ts
  unfolding finite_column known_after flags
  known-all = go (length ts) refl
    where
      go : (n : ℕ) → length ts ≡ n → known_after n ts ≡ flags (finite ts) (length ts)
      go zero e = sym (ap (flags (finite ts)) e ∙ column-none (λ t. cond (finite ts t) 1 0))
      go (suc k) e =
          flags-same (finite_type_from (known_after k ts) 2 ts) (finite ts) (length ts)
          (λ t h. sym (flagged-one (finite_type_from (known_after k ts) 2 ts) (length ts) t h) ∙ ap (λ (m : ℕ). flagged (known_after m ts) t) (sym e) ∙ known_is t)

  pub known_end : (k : ℕ) → k ≡ length ts → known_after k ts ≡ finite_column ts
  known_end k e = ap (λ (m : ℕ). known_after m ts) e ∙ known-all

-- each turn of the rounds, and the end
pub ruleset rounds = (known-none, known_next, known_end, held-many)
