-- The walk over the second's rows, in the tables that hold the rows. Assumes nothing.
use mathlib.Core.Path.{◌≡◌, ap, sym, subst, ◌∙◌}
use mathlib.Core.Bool.{Bool, true, false, ◌&&◌}
use mathlib.Core.List.{List, [], ◌∷◌}
use Prim.Native.Nat.{ℕ, zero, suc, ◌+◌, ◌-◌, ◌≤◌, ◌<◌}
use native.Mathlib.Omega.{arith}
use lib.Dec.{eqb, ltb}
use lib.ListN.{drop, get_or, length, replicate, set}
use borrow.Author.Tests.{eqb-true, ltb-false, ltb-true}
use Rattle.laws.specs.All.{All, All.more, All.none}
use Rattle.laws.proofs.Bools.{and_left, and_right, by_test}
use Rattle.laws.proofs.Lists.{all_append}
use Rattle.guard.specs.Guard.{Row, row_at, type_at}
use Rattle.guard.specs.Types.{Types}
use Rattle.tables.specs.declared.RowTable.{RowTable}
use Rattle.tables.specs.Layout.{pad, row_kind, row_table}
use Rattle.tables.proofs.Columns.{pad-length}
use Rattle.tables.proofs.Lookups.{row-kind-at, row-type_anywhere}
use Rattle.heldparts.specs.Held.{HoldsRows}
use Rattle.merged.specs.Merge.{kept_rows, names_from, variables, variables_from}
use Rattle.renaming.specs.Names.{AreNames, KindsOf, NamesOf, NextVariable, TwoRows}
use Rattle.renaming.proofs.Variables.{variables-at, variables_end, variables-small}
use Rattle.renaming.proofs.Walk.{Midway, begin, few-rows, finished, kept_back, names-length, row-taken, row_written, skips, small-names, taken}

module _ {table : RowTable} {ts : Types} {rs : List Row} (holds : HoldsRows table ts rs) where
  pub many-are : table.many ≡ length rs
  unfolding row_table
  many-are = ap (λ (t : RowTable). t.many) holds.are

  pub kinds_of : KindsOf table.kinds table.many rs
  kinds_of = record { all = many-are; kind = λ k h. ap (λ (t : RowTable). get_or t.kinds k 0) holds.are ∙ row-kind-at ts rs k (omega (arith, many-are)) }

  type-is : (i : ℕ) → get_or table.types i 0 ≡ type_at ts rs i
  type-is i = ap (λ (t : RowTable). get_or t.types i 0) holds.are ∙ row-type_anywhere ts rs i

  -- the next variable decides whether a row is taken
  module _ (x : ℕ) (within : x ≤ table.many) (is : x < table.many → get_or table.kinds x 0 ≡ 0) where
    some_left : x < table.many → variables_from x (drop x rs) ≡ x ∷ variables_from (x + 1) (drop (x + 1) rs)
    some_left h = variables-at rs x (omega (arith, many-are)) (sym (kinds_of.kind x h) ∙ is h)

    taken_is : (r : Row) → taken (variables_from x (drop x rs)) r ≡ (ltb x table.many && eqb (row_kind r) 0)
    taken_is r =
        by_test (ltb x table.many) (λ e. ap (λ (vs : List ℕ). taken vs r) (some_left (ltb-true _ _ e)) ∙ ap (λ (b : Bool). b && eqb (row_kind r) 0) (sym e))
        (λ e. ap (λ (vs : List ℕ). taken vs r) (variables_end rs x (omega (arith, many-are, ltb-false x table.many e))) ∙ ap (λ (b : Bool). b && eqb (row_kind r) 0) (sym e))

-- ---- the walk

-- the second's rows before i are gone over, and x is the first's next variable
pub record Walking (first second : RowTable) (x next i : ℕ) (names skipped : List ℕ) (agree : Bool) : Type 0 where
  pub within : x ≤ first.many
  pub is : x < first.many → get_or first.kinds x 0 ≡ 0
  pub midway : (ts : Types) (rs ss : List Row) → HoldsRows first ts rs → HoldsRows second ts ss → Midway ts rs ss (variables_from x (drop x rs)) next i names skipped agree

module _ {first second : RowTable} where
  pub few-first : TwoRows first second → first.many ≤ 24
  few-first two = omega (arith, many-are two.holds, two.holds.many)

  pub few-second : TwoRows first second → second.many ≤ 24
  few-second two = omega (arith, many-are two.holds-others, two.holds-others.many)

  pub walk_begins : (x : ℕ) → NextVariable first.kinds first.many 0 x → Walking first second x first.many 0 (pad 24 []) (pad 24 []) true
  walk_begins x n =
      record {
        within = n.within;
        is = n.is;
        midway = λ ts rs ss hf hs. subst (λ (k : ℕ). Midway ts rs ss (variables_from x (drop x rs)) k 0 (pad 24 []) (pad 24 []) true) (sym (many-are hf))
            (subst (λ (vs : List ℕ). Midway ts rs ss vs (length rs) 0 (pad 24 []) (pad 24 []) true) (n.next rs (kinds_of hf)) (begin ts rs ss));
      }

  module _ {x next i : ℕ} {names skipped : List ℕ} {agree : Bool} (w : Walking first second x next i names skipped agree) where
    pub few-next : TwoRows first second → next ≤ 48
    few-next two =
        omega (arith, two.holds.many, two.holds-others.many, few-rows two.types two.rows two.others two.holds-others.many (w.midway two.types two.rows two.others two.holds two.holds-others))

    module _ (inside : i < second.many) where
      pub walk_writes : (ltb x first.many && eqb (get_or second.kinds i 0) 0) ≡ false → Walking first second x (next + 1) (i + 1) (set names i next) skipped agree
      walk_writes e =
          record {
            within = w.within;
            is = w.is;
            midway = λ ts rs ss hf hs. row_written ts rs ss hs.many (w.midway ts rs ss hf hs) (omega (arith, many-are hs))
                (taken_is hf x w.within w.is (row_at ss i) ∙ ap (λ (k : ℕ). ltb x first.many && eqb k 0) (sym ((kinds_of hs).kind i inside)) ∙ e);
          }

      pub walk_takes : (ltb x first.many && eqb (get_or second.kinds i 0) 0) ≡ true → (y : ℕ) → NextVariable first.kinds first.many (x + 1) y
          → Walking first second y next (i + 1) (set names i x) (set skipped i 1) (agree && eqb (get_or first.types x 0) (get_or second.types i 0))
      walk_takes e y n =
          record {
            within = n.within;
            is = n.is;
            midway = λ ts rs ss hf hs.
                let left = some_left hf x w.within w.is (ltb-true _ _ (and_left _ _ e)) in
                let m = subst (λ (vs : List ℕ). Midway ts rs ss vs next i names skipped agree) left (w.midway ts rs ss hf hs) in
                let k = sym ((kinds_of hs).kind i inside) ∙ eqb-true _ _ (and_right (ltb x first.many) _ e) in
                rw (type-is hf x, type-is hs i, ← n.next rs (kinds_of hf)) (row-taken ts rs ss hs.many m (omega (arith, many-are hs)) k);
          }

    -- the same by other names
    pub walk_as : {x' next' : ℕ} {names' skipped' : List ℕ} {agree' : Bool} → names' ≡ names → skipped' ≡ skipped → next' ≡ next → agree' ≡ agree → x' ≡ x → Walking first second x' next' i names' skipped' agree'
    walk_as en es er ea ex = rw (en, es, er, ea, ex) w

    pub walk_ends : second.many ≤ i → NamesOf first second (record { names = names; skipped = skipped; rows = next; agree = agree })
    walk_ends h = record { are = names-are }
      where
        names-are : (ts : Types) (rs ss : List Row) → HoldsRows first ts rs → HoldsRows second ts ss → AreNames ts rs ss (record { names = names; skipped = skipped; rows = next; agree = agree })
        names-are ts rs ss hf hs =
            let (en, es, er, ea) = finished ts rs ss hs.many (w.midway ts rs ss hf hs) (omega (arith, many-are hs)) in
            let few : length (names_from (variables rs) (length rs) ss) ≤ 24 = omega (arith, names-length (variables rs) (length rs) ss, hs.many) in
            record {
              names = en;
              small = rw en (all_append (small-names 48 (variables rs) (length rs) ss (variables-small 48 0 rs (omega (arith, hf.many))) (omega (arith, hf.many, hs.many))) (zeros_small (24 - length (names_from (variables rs) (length rs) ss))));
              long = ap length en ∙ pad-length 0 24 (names_from (variables rs) (length rs) ss) few;
              kept = ap (λ (l : List ℕ). kept_rows l ss) es ∙ kept_back (variables rs) ss (replicate (24 - length (skips (variables rs) ss)) 0);
              rows = er;
              agree = ea;
            }
          where
            zeros_small : (k : ℕ) → All (λ n. n < 48) (replicate k 0)
            zeros_small zero = none
            zeros_small (suc k) = more {x = 0} (omega arith) (zeros_small k)
