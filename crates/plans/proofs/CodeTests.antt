-- The tests of the code, case by case, and its loops a turn at a time. Assumes nothing.
use mathlib.Core.Path.{◌≡◌, refl, ap, sym, ◌∙◌}
use mathlib.Core.Bool.{Bool, cond, not, ◌&&◌}
use mathlib.Core.List.{List}
use Prim.Native.Nat.{ℕ, ◌+◌, ◌≤◌, ◌<◌, max}
use native.Mathlib.Numerals.{add-one}
use native.Mathlib.Omega.{arith}
use lib.Dec.{eqb, leb, ltb}
use lib.IntN.{ℤ}
use lib.ListN.{get_or, length}
use borrow.Author.Tests.{eq-eqb, le-leb, lt-leb, ltb-false, ltb-true, ne_eqb}
use Rattle.laws.specs.Bits.{bit}
use Rattle.laws.proofs.Bools.{by_test}
use Rattle.laws.proofs.Positions.{least, least_first, least_most, least_passes}
use Rattle.guard.specs.Types.{fields_of}
use Rattle.tables.specs.Layout.{TypesInRange, types_of}
use Rattle.tables.specs.declared.TypeTable.{TypeTable}
use Rattle.tables.proofs.Held.{held-arity, held-variants, place_of}
use Rattle.std.specs.Option.{unwrap_or}
use Rattle.std.specs.Prelude.{is_none}
use Rattle.std.specs.declared.option.Option.{Option}
use Rattle.std.specs.declared.option.Option.TheVariants.{None, Some}
use Rattle.loops.specs.Lowest.{Finds, SomePassing, lowest}
use Rattle.loops.proofs.Loops.{lowest-here, lowest_nowhere, some_passes}
use Rattle.plans.specs.Chosen.{held_at, held_in, higher_at, highest_below, highest_of, is_marked, is_member, sort_in, term_in, variant_entry, variant_in}
use Rattle.plans.specs.Fresh.{next_fresh, taken, taken_at}

-- ---- ranks

module _ (marks ranks : List ℕ) (c most : ℕ) where
  pub not_marked : ¬ (get_or marks c 0 ≡ 0) → most ≡ higher_at marks ranks c most
  unfolding higher_at is_marked
  not_marked n = ap (λ (b : Bool). cond b (max most (get_or ranks c 0)) most) (sym (ne_eqb (get_or marks c 0) 0 n))

  pub marked-higher : get_or marks c 0 ≡ 0 → max most (get_or ranks c 0) ≡ higher_at marks ranks c most
  unfolding higher_at is_marked
  marked-higher e = ap (λ (b : Bool). cond b (max most (get_or ranks c 0)) most) (sym (eq-eqb (get_or marks c 0) 0 e))

module _ (marks ranks : List ℕ) where
  pub highest-none : 0 ≡ highest_below marks ranks 0
  unfolding highest_below
  highest-none = refl

  pub highest-next : (c most next : ℕ) → most ≡ highest_below marks ranks c → next ≡ higher_at marks ranks c most → next ≡ highest_below marks ranks (c + 1)
  unfolding highest_below
  highest-next c most next e q = q ∙ ap (higher_at marks ranks c) e ∙ ap (highest_below marks ranks) (sym (add-one c))

  pub highest-all : (c most : ℕ) → c ≡ 78 → most ≡ highest_below marks ranks c → most ≡ highest_of marks ranks
  unfolding highest_of
  highest-all c most h e = e ∙ ap (highest_below marks ranks) h

-- ---- what a search finds, as a number

module _ (p : ℕ → Bool) (n : ℕ) (r : Option ℕ) (found : Finds p n r) where
  pub finds_none : is_none r ≡ leb n (lowest p n)
  finds_none = none r found
    where
      none : (r : Option ℕ) → Finds p n r → is_none r ≡ leb n (lowest p n)
      none None e = sym (le-leb n (lowest p n) (omega (arith, e)))
      none (Some k) e = sym (lt-leb n (lowest p n) (omega (arith, e.0, e.1)))

  pub found_or : unwrap_or r n ≡ lowest p n
  found_or = found_at r found
    where
      found_at : (r : Option ℕ) → Finds p n r → unwrap_or r n ≡ lowest p n
      found_at None e = sym e
      found_at (Some k) e = e.1

-- ---- types

module _ (classes sorts : List ℕ) (c : ℕ) (r : Option ℕ) (found : Finds (is_member classes sorts c) 78 r) where
  pub member_low : unwrap_or r 78 < 96
  unfolding lowest
  member_low = omega (arith, found_or (is_member classes sorts c) 78 r found, least_most (is_member classes sorts c) 78)

  pub sort_there : get_or sorts (unwrap_or r 78) 0 ≡ sort_in classes sorts c
  unfolding sort_in term_in
  sort_there = ap (λ (k : ℕ). get_or sorts k 0) (found_or (is_member classes sorts c) 78 r found)

-- ---- variants

-- searches for what passes tests that agree below n
lowest-agree : (p q : ℕ → Bool) (n : ℕ) → ((k : ℕ) → k < n → p k ≡ q k) → lowest p n ≡ lowest q n
unfolding lowest
lowest-agree p q n e =
    by_test (ltb (least p n) n)
    (λ b. let h : least p n < n = ltb-true _ _ b in
    lowest-here q n (least p n) h (λ j l. sym (e j (omega arith)) ∙ least_first p n j l) (sym (e (least p n) h) ∙ least_passes p n h))
    (λ b. let z : least p n ≡ n = omega (arith, ltb-false (least p n) n b, least_most p n) in
    z ∙ lowest_nowhere q n n (omega arith) (λ j l. sym (e j l) ∙ least_first p n j (omega arith)))

-- the columns of a table give the variant for the types that it holds
pub variant-entry : (table : TypeTable) (label t : ℕ) → t < table.many → variant_entry table.variants table.first table.arities label t ≡ variant_in (types_of table) label t
unfolding variant_entry variant_in held_at held_in
variant-entry table label t h =
    lowest-agree (λ v. not (eqb (bit label v) 0) && ltb 0 (get_or table.arities (place_of table t v) 0)) (λ v. not (eqb (bit label v) 0) && ltb 0 (length (fields_of (types_of table) t v)))
    (get_or table.variants t 0) (λ v l. ap (λ (n : ℕ). not (eqb (bit label v) 0) && ltb 0 n) (sym (held-arity table t h v l)))
    ∙ ap (lowest (λ v. not (eqb (bit label v) 0) && ltb 0 (length (fields_of (types_of table) t v)))) (sym (held-variants table t h))

-- the variants of a type have places
module _ (table : TypeTable) (t v : ℕ) (range : TypesInRange table) (h : v < get_or table.variants t 0) where
  pub place_fits : get_or table.first t 0 + v < 48
  place_fits = omega (arith, range.first t, h)

  pub variant_fits : v < 16
  variant_fits = omega (arith, range.variants t, h)

-- what a search of the variants of a type finds, by the columns alone
module _ (variants first arities : List ℕ) (label t : ℕ) (r : Option ℕ) (found : Finds (held_at arities (get_or first t 0) label) (get_or variants t 0) r) where
  pub entry_small : get_or variants t 0 ≤ 16 → unwrap_or r (get_or variants t 0) ≤ 16
  unfolding lowest
  entry_small few = omega (arith, found_or (held_at arities (get_or first t 0) label) (get_or variants t 0) r found, least_most (held_at arities (get_or first t 0) label) (get_or variants t 0))

  pub entry_found : unwrap_or r (get_or variants t 0) ≡ variant_entry variants first arities label t
  unfolding variant_entry
  entry_found = found_or (held_at arities (get_or first t 0) label) (get_or variants t 0) r found

-- and by a table
module _ (table : TypeTable) (label t : ℕ) (h : t < table.many) (r : Option ℕ) (found : Finds (held_at table.arities (get_or table.first t 0) label) (get_or table.variants t 0) r) where
  pub variant_small : TypesInRange table → unwrap_or r (get_or table.variants t 0) ≤ 16
  variant_small range = entry_small table.variants table.first table.arities label t r found (range.variants t)

  pub variant_found : unwrap_or r (get_or table.variants t 0) ≡ variant_in (types_of table) label t
  variant_found = entry_found table.variants table.first table.arities label t r found ∙ variant-entry table label t h

-- ---- fresh numbers

module _ (constants : List ℕ) (values : List ℤ) where
  pub taken_passes : (z : ℕ) (post : ℕ → Bool → Type 0) (r : Bool) → ((k : ℕ) (b : Bool) → k < 30 → post k b → b ≡ taken_at constants values z k) → SomePassing post 30 r → r ≡ taken constants values z
  unfolding taken
  taken_passes z post r same e = some_passes (taken_at constants values z) post 30 r same e

  abbrev pub untaken : ℕ → ℕ → Bool
  untaken first k = not (taken constants values (first + k))

  module _ (last : ℕ) (r : Option ℕ) (found : Finds (untaken (last + 1)) 30 r) where
    pub fresh_few : unwrap_or r 30 ≤ 30
    unfolding lowest
    fresh_few = omega (arith, found_or (untaken (last + 1)) 30 r found, least_most (untaken (last + 1)) 30)

    pub fresh_found : last + 1 + unwrap_or r 30 ≡ next_fresh constants values last
    unfolding next_fresh
    fresh_found = ap (λ (j : ℕ). last + 1 + j) (found_or (untaken (last + 1)) 30 r found) ∙ ap (λ (f : ℕ). f + lowest (untaken f) 30) (add-one last)
