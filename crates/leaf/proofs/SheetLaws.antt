-- A sheet with one class more: the row of its message is noted, the rows before stay, and every new row lies under it.
-- Assumes nothing.
use mathlib.Core.Path.{◌≡◌, refl, ap, sym, ◌∙◌, subst}
use mathlib.Core.List.{List}
use Prim.Native.Nat.{ℕ, zero, suc, ◌+◌, ◌≤◌, ◌<◌}
use native.Mathlib.Omega.{arith}
use lib.Dec.{eqb, ltb}
use lib.IntN.{ℤ}
use lib.ListN.{length, get_or, set, length-set}
use lib.Seq.{get_or-set_same}
use borrow.Author.Tests.{eqb-true, eqb-false, ltb-true, ltb-false}
use Rattle.laws.proofs.Bools.{by_test}
use Rattle.laws.proofs.Stores.{set_other}
use Rattle.guard.specs.Message.{Message}
use Rattle.rowstore.specs.Store.{message_at}
use Rattle.drawnrows.specs.Drawing.{Drew, Under, unset}
use Rattle.defaultrows.proofs.DefaultRowLaws.{unset_set}
use Rattle.drawnrows.proofs.DrawnLaws.{drew-kept, drew-under}
use Rattle.plans.specs.Plans.{OpenState}
use Rattle.leaf.specs.Picture.{Wanted}
use Rattle.leaf.specs.Sheet.{Placed, Sheet, rows_for}

-- a class noted, and the others
module _ (at : List ℕ) (c r : ℕ) (inside : c < length at) where
  pub noted_there : Placed (set at c (suc r)) c r
  noted_there = get_or-set_same at c (suc r) 0 inside

  pub noted_other : (d : ℕ) → ¬ (d ≡ c) → get_or (set at c (suc r)) d 0 ≡ get_or at d 0
  noted_other d n = set_other at c (suc r) d n

  -- a class noted now or before
  pub noted_ind : (P : ℕ → ℕ → Type 0) → P c r → ((d q : ℕ) → Placed at d q → P d q) → (d q : ℕ) → Placed (set at c (suc r)) d q → P d q
  noted_ind P here before d q e =
      by_test (eqb d c)
      (λ b. let same : d ≡ c = eqb-true d c b in
      let row : q ≡ r = let z : suc q ≡ suc r = sym e ∙ ap (λ (k : ℕ). get_or (set at c (suc r)) k 0) same ∙ noted_there in omega arith in
      subst (λ (k : ℕ). P k q) (sym same) (subst (P c) (sym row) here))
      (λ b. before d q (sym (noted_other d (eqb-false d c b)) ∙ e))

  -- what was noted before is still
  pub noted_kept : get_or at c 0 ≡ 0 → (d q : ℕ) → Placed at d q → Placed (set at c (suc r)) d q
  noted_kept none d q e =
      by_test (eqb d c)
      (λ b. let z : suc q ≡ 0 = sym e ∙ ap (λ (k : ℕ). get_or at k 0) (eqb-true d c b) ∙ none in absurd (omega arith))
      (λ b. noted_other d (eqb-false d c b) ∙ e)

module _ (x : OpenState) (val : ℕ → Message) (rows : List ℤ) (many : ℕ) (drawn at : List ℕ) (sheet : Sheet x val rows many drawn at) where
  -- there is room for the row of a class that has none
  pub sheet-room : (c : ℕ) → c < 96 → get_or at c 0 ≡ 0 → many + unset drawn < rows_for x
  sheet-room c h e = omega (arith, unset_set at c 0 (subst (λ (n : ℕ). c < n) (sym sheet.long) h) e, sheet.room)

  -- rows are numbers below 4,096
  pub sheet-low : (c : ℕ) → get_or at c 0 ≤ 4096
  sheet-low c = by_test (ltb 0 (get_or at c 0))
      (λ b. let h : 0 < get_or at c 0 = ltb-true 0 _ b in
      let (r, e) = one_more (get_or at c 0) h in
      omega (arith, sheet.there c r e, sheet.room, sheet.enough.0))
      (λ b. omega (arith, ltb-false 0 (get_or at c 0) b))
    where
      one_more : (n : ℕ) → 0 < n → (r : ℕ) × (n ≡ suc r)
      one_more zero h = absurd (omega arith)
      one_more (suc r) h = (r, refl)

  module _ (cost c : ℕ) (wanted : Wanted x c) (none : get_or at c 0 ≡ 0) (rows' : List ℤ) (many' : ℕ) (drawn' : List ℕ) (r : ℕ) (drew : Drew x.types rows many drawn cost (val c) rows' many' drawn' r)
      (room : many + unset drawn + unset at + cost ≤ suc (rows_for x)) where
    inside : c < length at
    inside = subst (λ (n : ℕ). c < n) (sym sheet.long) (omega (arith, wanted.0))

    pub sheet_noted : Sheet x val rows' many' drawn' (set at c (suc r))
    sheet_noted = record {
      store = drew.store;
      long = length-set at c (suc r) ∙ sheet.long;
      enough = (sheet.enough.0, omega (arith, drew.grown.long, sheet.enough.1));
      room = omega (arith, unset_set at c r inside none, drew.cost, room);
      only = λ d p. noted_ind at c r inside (λ e q. Wanted x e) wanted (λ e q h. sheet.only e (q, h)) d p.0 p.1;
      there = noted_ind at c r inside (λ e q. q < many') drew.there (λ e q h. omega (arith, sheet.there e q h, drew.grown.more));
      shows = noted_ind at c r inside (λ e q. message_at x.types rows' many' q ≡ val e) drew.message (λ e q h. drew-kept drew q (sheet.there e q h) ∙ sheet.shows e q h);
      under = λ i l. by_test (ltb i many) (λ b. old i (ltb-true i many b)) (λ b. (c, r, noted_there at c r inside, drew.under i (ltb-false i many b) l));
    }
      where
        old : (i : ℕ) → i < many → (d : ℕ) × (q : ℕ) × Placed (set at c (suc r)) d q × Under x.types rows' q i
        old i l =
            let (d, q, e, u) = sheet.under i l in
            (d, q, noted_kept at c r inside none d q e, drew-under drew sheet.store.stored q i (sheet.there d q e) u)
