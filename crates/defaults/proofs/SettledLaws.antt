-- Defaults as columns: the search for the lowest ready variant, a turn at a time; that the rounds on columns are the
-- rounds of document 01, where 255 stands for no default, since no type has that many variants; and question 8, asked of
-- the column of defaults. Assumes nothing.
use mathlib.Core.Path.{◌≡◌, ap, sym, ◌∙◌, refl, subst}
use mathlib.Core.Bool.{Bool, true, false, cond, not, false≢true, ◌&&◌}
use mathlib.Core.List.{List, ◌∷◌, map, []}
use Prim.Native.Nat.{ℕ, suc, ◌+◌, ◌-◌, ◌≤◌, ◌<◌, zero}
use native.Mathlib.Numerals.{add-one}
use lib.ListN.{get_or, length, take}
use native.Mathlib.Omega.{arith}
use lib.Dec.{eqb, ltb}
use borrow.Author.Tests.{eq-eqb, ne_eqb, ltb-true, ltb-false}
use mathlib.Core.Option.{Option, none, some}
use native.Mathlib.Nat.{zero-add}
use Rattle.std.specs.List.{list_any}
use Rattle.std.proofs.lemmas.Grind.{common_steps}
use Rattle.std.proofs.lemmas.List.{get_or-take}
use Rattle.laws.specs.All.{All, All.more, All.none}
use Rattle.laws.specs.Lists.{all, from}
use Rattle.laws.proofs.Bools.{by_test}
use Rattle.laws.proofs.Lists.{all_true_inv, from_bounds, map_cong, map-from-at, map-from-length, map-from_out, map-map}
use Rattle.guard.specs.Limits.{variant_limit}
use Rattle.guard.specs.Message.{Message, Message.made, Message.number, to_parts}
use Rattle.guard.specs.Types.{Defaults, Types, Variant, all_defaults, cons_both, default_rounds, defaults, defaults_of, first_default, is_number, is_some, lowest_ready, next_default, variants_of}
use Rattle.defaults.specs.Settled.{all_settled, first_settled, is_settled, lowest_settled, next_settled, settled, settled_after, settled_column}
use Rattle.finite.specs.TypeColumns.{column, fields_at, types_in}
use Rattle.tables.specs.Layout.{default_column, pad, variant_of}
use Rattle.tables.proofs.Columns.{pad_get}
use Rattle.finite.proofs.FlatTypes.{fields-all, fields_in_range, variants-are}
use Rattle.tables.proofs.Lookups.{map_at}
use Rattle.finite.proofs.Walks.{all_none, all_positions, all_same, all_turn, column-none, column-store, from_end, from_next, from_start}

-- ---- a look at one type, and at all

pub settled-yes : (settled : List ℕ) (t : ℕ) → ¬ (get_or settled t 0 ≡ 255) → is_settled settled t ≡ true
unfolding is_settled
settled-yes settled t n = ap not (ne_eqb _ _ n)

pub settled-no : (settled : List ℕ) (t : ℕ) → get_or settled t 0 ≡ 255 → is_settled settled t ≡ false
unfolding is_settled
settled-no settled t e = ap not (eq-eqb _ _ e)

-- the fields of a variant, a turn at a time
pub ruleset fields_settled = (settled-yes, settled-no, fields-all, all_turn, all_none)

none-is : (xs : List ℕ) → all (λ x. not (eqb x 255)) xs ≡ not (list_any (λ x. eqb x 255) xs)
none-is [] = refl
none-is (x ∷ xs) = grind (arith, common_steps, none-is xs)

pub settled_all : (settled : List ℕ) (n : ℕ) → n ≤ length settled → all_settled settled n ≡ not (list_any (λ x. eqb x 255) (take n settled))
unfolding all_settled is_settled
settled_all settled n h =
    let l : length (take n settled) ≡ n = grind (arith, common_steps) in
    all_same (is_settled settled) (λ i. not (eqb (get_or (take n settled) i 0) 255)) (from n 0)
    (λ i m. ap (λ (x : ℕ). not (eqb x 255)) (sym (get_or-take n settled i 0 (omega (arith, (from_bounds n 0 i m).1)))))
    ∙ ap (λ (k : ℕ). all (λ i. not (eqb (get_or (take n settled) i 0) 255)) (from k 0)) (sym l)
    ∙ sym (all_positions (λ x. not (eqb x 255)) (take n settled) 0) ∙ none-is (take n settled)

-- ---- the search for the lowest ready variant

module _ (many : ℕ) (variants first arities sorts ss : List ℕ) where
  abbrev ts : Types
  ts = types_in many variants first arities sorts

  pub next-kept : (t : ℕ) → ¬ (get_or ss t 0 ≡ 255) → next_settled ss ts t ≡ get_or ss t 0
  unfolding next_settled
  next-kept t n = ap (λ (b : Bool). cond b (get_or ss t 0) (lowest_settled ss 0 (variants_of ts t))) (settled-yes ss t n)

  pub next_start : (t : ℕ) → get_or ss t 0 ≡ 255 → t < many
      → next_settled ss ts t ≡ lowest_settled ss 0 (map (λ v. fields_at arities sorts (get_or first t 0 + v)) (from (get_or variants t 0 - 0) 0))
  unfolding next_settled
  next_start t e h =
      ap (λ (b : Bool). cond b (get_or ss t 0) (lowest_settled ss 0 (variants_of ts t))) (settled-no ss t e)
      ∙ ap (lowest_settled ss 0) (variants-are many variants first arities sorts t h ∙ ap (map (λ v. fields_at arities sorts (get_or first t 0 + v))) (sym (from_start (get_or variants t 0))))

-- a turn of the search, and its end
module _ (ss : List ℕ) (f : ℕ → Variant) (n v : ℕ) where
  pub lowest_turn : v < n → lowest_settled ss v (map f (from (n - v) v)) ≡ cond (all (is_settled ss) (f v)) v (lowest_settled ss (v + 1) (map f (from (n - (v + 1)) (v + 1))))
  unfolding lowest_settled
  lowest_turn h =
      ap (λ (l : List ℕ). lowest_settled ss v (map f l)) (from_next v n h)
      ∙ ap (λ (k : ℕ). cond (all (is_settled ss) (f v)) v (lowest_settled ss k (map f (from (n - (v + 1)) (v + 1))))) (sym (add-one v))

  pub lowest_none : n ≤ v → lowest_settled ss v (map f (from (n - v) v)) ≡ 255
  unfolding lowest_settled
  lowest_none h = ap (λ (l : List ℕ). lowest_settled ss v (map f l)) (from_end v n h)

pub ruleset turns = (next-kept, next_start, lowest_turn, lowest_none, fields_in_range)

-- ---- columns, filled from the front

pub first_is : (variants : List ℕ) (t : ℕ) → first_settled variants t ≡ cond (eqb (get_or variants t 0) 0) 0 255
unfolding first_settled
first_is variants t = refl

pub ruleset filling = (column-none, column-store, first_is)

-- ---- the rounds

-- the number of a default is not that of none
abbrev Low : Option Message → Type 0
Low o = is_some o ≡ true → settled o < 255

low_test : (o : Option Message) → Low o → not (eqb (settled o) 255) ≡ is_some o
low_test none l = refl
low_test (some (number t z)) l = refl
low_test (some (made t v ms)) l = ap not (ne_eqb v 255 (λ e. omega (arith, l refl)))

-- there are defaults of all the types given
abbrev ready : Option (List Message) → Bool
ready none = false
ready (some ms) = true

ready-both : (a : Option Message) (b : Option (List Message)) → (is_some a && ready b) ≡ ready (cons_both a b)
ready-both none b = refl
ready-both (some m) none = refl
ready-both (some m) (some ms) = refl

module _ (ds : Defaults) (low : (t : ℕ) → Low (get_or ds t none)) where
  column-at : (t : ℕ) → t < length ds → get_or (settled_column ds) t 0 ≡ settled (get_or ds t none)
  unfolding settled_column
  column-at t h = pad_get 0 6 t (map settled ds) ∙ map_at settled ds t none 0 h

  settled_at_lem : (t : ℕ) → t < length ds → is_settled (settled_column ds) t ≡ is_some (get_or ds t none)
  unfolding is_settled
  settled_at_lem t h = ap (λ (k : ℕ). not (eqb k 255)) (column-at t h) ∙ low_test (get_or ds t none) (low t)

  ready_at : {fs : List ℕ} → All (λ f. f < length ds) fs → all (is_settled (settled_column ds)) fs ≡ ready (defaults_of ds fs)
  ready_at none = refl
  ready_at (more {x = f} {xs = fs} h hs) =
      ap (λ (b : Bool). b && all (is_settled (settled_column ds)) fs) (settled_at_lem f h) ∙ ap (λ (b : Bool). is_some (get_or ds f none) && b) (ready_at hs)
      ∙ ready-both (get_or ds f none) (defaults_of ds fs)

  lowest-at : (t v : ℕ) {vs : List Variant} → All (All (λ f. f < length ds)) vs → lowest_settled (settled_column ds) v vs ≡ settled (lowest_ready ds t v vs)
  unfolding lowest_settled
  lowest-at t v none = refl
  lowest-at t v (more {x = fs} {xs = vs} h hs) =
      ap (λ (b : Bool). cond b v (lowest_settled (settled_column ds) (suc v) vs)) (ready_at h) ∙ go (defaults_of ds fs) (lowest-at t (suc v) hs)
    where
      go : (o : Option (List Message)) → lowest_settled (settled_column ds) (suc v) vs ≡ settled (lowest_ready ds t (suc v) vs)
          → cond (ready o) v (lowest_settled (settled_column ds) (suc v) vs) ≡ settled (elim o [ some ms ↦ some (made t v (to_parts ms)) | none ↦ lowest_ready ds t (suc v) vs ])
      go none ih = ih
      go (some ms) ih = refl

  next-at : (ts : Types) (t : ℕ) → t < length ds → All (All (λ f. f < length ds)) (variants_of ts t)
      → next_settled (settled_column ds) ts t ≡ settled (next_default ds t (variants_of ts t) (get_or ds t none))
  unfolding next_settled
  next-at ts t h inside =
      ap (λ (b : Bool). cond b (get_or (settled_column ds) t 0) (lowest_settled (settled_column ds) 0 (variants_of ts t))) (settled_at_lem t h)
      ∙ ap (λ (k : ℕ). cond (is_some (get_or ds t none)) k (lowest_settled (settled_column ds) 0 (variants_of ts t))) (column-at t h)
      ∙ ap (λ (k : ℕ). cond (is_some (get_or ds t none)) (settled (get_or ds t none)) k) (lowest-at t 0 inside) ∙ go (get_or ds t none)
    where
      go : (o : Option Message) → cond (is_some o) (settled o) (settled (lowest_ready ds t 0 (variants_of ts t))) ≡ settled (next_default ds t (variants_of ts t) o)
      go none = refl
      go (some m) = refl

low-ready : (ds : Defaults) (t v : ℕ) (vs : List Variant) → v + length vs ≤ 255 → Low (lowest_ready ds t v vs)
low-ready ds t v [] h = λ e. absurd (false≢true e)
low-ready ds t v (fs ∷ vs) h = go (defaults_of ds fs) (low-ready ds t (suc v) vs (omega arith))
  where
    go : (o : Option (List Message)) → Low (lowest_ready ds t (suc v) vs) → Low (elim o [ some ms ↦ some (made t v (to_parts ms)) | none ↦ lowest_ready ds t (suc v) vs ])
    go none ih = ih
    go (some ms) ih = λ e. omega arith

-- the column of a function of the types
column-same : (f : ℕ → ℕ) (g : ℕ → Option Message) (n : ℕ) → ((t : ℕ) → t < n → f t ≡ settled (g t)) → column f n ≡ settled_column (map g (from n 0))
unfolding column settled_column
column-same f g n h = ap (pad 6) (map_cong f (λ t. settled (g t)) (from n 0) (λ t m. h t (omega (arith, (from_bounds n 0 t m).1))) ∙ sym (map-map settled g (from n 0)))

module _ (ts : Types) (few : (t : ℕ) → t < length ts → length (variants_of ts t) ≤ variant_limit) (inside : (t : ℕ) → t < length ts → All (All (λ f. f < length ts)) (variants_of ts t)) where
  rounds_length : (k : ℕ) → length (default_rounds k ts) ≡ length ts
  rounds_length zero = map-from-length (λ t. first_default t (variants_of ts t)) (length ts) 0
  rounds_length (suc k) = map-from-length (λ t. next_default (default_rounds k ts) t (variants_of ts t) (get_or (default_rounds k ts) t none)) (length ts) 0

  low_first : (t : ℕ) (vs : List Variant) → Low (first_default t vs)
  low_first t [] e = omega arith
  low_first t (v ∷ vs) e = absurd (false≢true e)

  low-next : (ds : Defaults) (t : ℕ) (o : Option Message) → t < length ts → Low o → Low (next_default ds t (variants_of ts t) o)
  low-next ds t (some m) h l = l
  low-next ds t none h l = low-ready ds t 0 (variants_of ts t) (omega (arith, few t h))

  low-map : (g : ℕ → Option Message) → ((t : ℕ) → t < length ts → Low (g t)) → (t : ℕ) → Low (get_or (map g (from (length ts) 0)) t none)
  low-map g l t =
      by_test (ltb t (length ts)) (λ e. subst Low (sym (map-from-at g (length ts) 0 t none (ltb-true _ _ e) ∙ ap g (zero-add t))) (l t (ltb-true _ _ e)))
      (λ e. subst Low (sym (map-from_out g (length ts) 0 t none (ltb-false t (length ts) e))) (λ q. absurd (false≢true q)))

  low_rounds : (k t : ℕ) → Low (get_or (default_rounds k ts) t none)
  low_rounds zero = low-map (λ t. first_default t (variants_of ts t)) (λ t h. low_first t (variants_of ts t))
  low_rounds (suc k) =
      low-map (λ t. next_default (default_rounds k ts) t (variants_of ts t) (get_or (default_rounds k ts) t none))
      (λ t h. low-next (default_rounds k ts) t (get_or (default_rounds k ts) t none) h (low_rounds k t))

  -- the rounds on columns are the rounds of the definition
  pub rounds_column : (variants : List ℕ) → ((t : ℕ) → t < length ts → eqb (get_or variants t 0) 0 ≡ is_number ts t) → (k : ℕ) → settled_after k variants ts ≡ settled_column (default_rounds k ts)
  unfolding settled_after first_settled
  rounds_column variants numbers zero =
      column-same (first_settled variants) (λ t. first_default t (variants_of ts t)) (length ts) (λ t h. ap (λ (b : Bool). cond b 0 255) (numbers t h) ∙ first t (variants_of ts t))
    where
      first : (t : ℕ) (vs : List Variant) → cond (eqb (length vs) 0) 0 255 ≡ settled (first_default t vs)
      first t [] = refl
      first t (v ∷ vs) = ap (λ (b : Bool). cond b 0 255) (ne_eqb (suc (length vs)) 0 (λ e. omega arith))
  rounds_column variants numbers (suc k) =
      ap (λ (ss : List ℕ). column (next_settled ss ts) (length ts)) (rounds_column variants numbers k)
      ∙ column-same (next_settled (settled_column (default_rounds k ts)) ts) (λ t. next_default (default_rounds k ts) t (variants_of ts t) (get_or (default_rounds k ts) t none)) (length ts)
      (λ t h. next-at (default_rounds k ts) (low_rounds k) ts t (omega (arith, rounds_length k)) (subst (λ (n : ℕ). All (All (λ f. f < n)) (variants_of ts t)) (sym (rounds_length k)) (inside t h)))

  -- of the column of defaults it is document 01's question 8
  pub settled-question : all_settled (settled_column (defaults ts)) (length ts) ≡ all_defaults ts
  unfolding all_settled
  settled-question =
      all_same (is_settled (settled_column (defaults ts))) (λ i. is_some (get_or (defaults ts) i none)) (from (length ts) 0)
      (λ t m. settled_at_lem (defaults ts) (low_rounds (length ts)) t (omega (arith, rounds_length (length ts), (from_bounds (length ts) 0 t m).1)))
      ∙ ap (λ (n : ℕ). all (λ i. is_some (get_or (defaults ts) i none)) (from n 0)) (sym (rounds_length (length ts))) ∙ sym (all_positions is_some (defaults ts) none)

-- where every type has a default, the column has their variants
pub settled-variants : (ds : Defaults) → all is_some ds ≡ true → settled_column ds ≡ default_column ds
unfolding settled_column default_column
settled-variants ds e = ap (pad 6) (map_cong settled variant_of ds (λ d m. go d (all_true_inv is_some ds e d m)))
  where
    go : (o : Option Message) → is_some o ≡ true → settled o ≡ variant_of o
    go none q = absurd (false≢true q)
    go (some (number t z)) q = refl
    go (some (made t v ms)) q = refl
