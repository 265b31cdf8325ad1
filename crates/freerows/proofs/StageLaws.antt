-- The free classes in order: nothing is drawn at first, a class that is not free changes nothing, a free class gets the row
-- of its message, and at the end the rows make a sheet. Assumes nothing.
use mathlib.Core.Path.{◌≡◌, refl, ap, sym, ◌∙◌, subst}
use mathlib.Core.Bool.{Bool, true, false, not, ◌&&◌, false≢true}
use mathlib.Core.List.{List, [], ◌∷◌}
use Prim.Native.Nat.{ℕ, zero, suc, ◌+◌, ◌≤◌, ◌<◌}
use native.Mathlib.Omega.{arith}
use lib.Dec.{eqb, ltb}
use lib.IntN.{ℤ}
use lib.ListN.{get_or-eq_default, get_or, get_or-replicate, length, length-replicate, length-set, replicate, set}
use borrow.Author.Tests.{eqb-false, eqb-true, ltb-false, ltb-true}
use Rattle.laws.proofs.Bools.{and_left, by_test}
use Rattle.laws.proofs.Members.{filter-most}
use Rattle.guard.specs.Types.{Types}
use Rattle.classes.specs.Held.{state}
use Rattle.rowstore.specs.Store.{Grown, message_at}
use Rattle.rowstore.proofs.StoreLaws.{grown-itself, nothing_stored}
use Rattle.drawnrows.specs.Drawing.{Under, growth_rows, unset}
use Rattle.defaultrows.proofs.DefaultRowLaws.{unset_set}
use Rattle.drawnrows.proofs.DrawnLaws.{drew-kept, drew-under}
use Rattle.plans.specs.Chosen.{free_at, is_marked}
use Rattle.plans.specs.Fresh.{fresh_after}
use Rattle.plans.specs.Plans.{OpenState, circling, highest_rank, is_free, marked}
use Rattle.plans.proofs.CountLaws.{circled_none, ends-none}
use Rattle.leaf.specs.Leaf.{open_state}
use Rattle.leaf.specs.Sheet.{Enough, Placed, free_rows, rows_for}
use Rattle.leaf.specs.declared.Leaf.{Leaf}
use Rattle.leaf.proofs.RoomLaws.{fixed_takes, free_takes, none-take, rows_rise}
use Rattle.leaf.proofs.SheetLaws.{noted_ind, noted_kept, noted_there}
use Rattle.freerows.specs.Free.{Blank, FreeDrawn, FreeFits, FreeNow, FreeSheet, FreeStage, free_message}
use Rattle.freerows.proofs.FreeLaws.{circled_same, ends_same, tops_kept}

-- zeros say of no class that it has a row
pub blank_zeros : Blank (replicate 96 0)
blank_zeros = (
  length-replicate {A = ℕ} 96 0,
  λ c. by_test (ltb c 96) (λ b. get_or-replicate {A = ℕ} 96 c 0 0 (ltb-true c 96 b))
      (λ b. get_or-eq_default {A = ℕ} (replicate 96 0) 0 {n = c} (omega (arith, ltb-false c 96 b, length-replicate {A = ℕ} 96 0))),
)

-- none of six zeros is a row
pub six_zeros : (t : ℕ) → ◌≡◌ {A = ℕ} (get_or (0 ∷ 0 ∷ 0 ∷ 0 ∷ 0 ∷ 0 ∷ []) t 0) 0
six_zeros zero = refl
six_zeros (suc zero) = refl
six_zeros (suc (suc zero)) = refl
six_zeros (suc (suc (suc zero))) = refl
six_zeros (suc (suc (suc (suc zero)))) = refl
six_zeros (suc (suc (suc (suc (suc zero))))) = refl
six_zeros (suc (suc (suc (suc (suc (suc t)))))) = refl

-- ---- what the code reads

module _ (ts : Types) (leaf : Leaf) (c : ℕ) where
  pub free-read : is_free (open_state ts leaf) c ≡ free_at leaf.shapes.slots leaf.sorts.sorts leaf.sorts.fieldless leaf.constants.sorts leaf.marks (state leaf.state.classes leaf.state.labels) c
  unfolding is_free
  free-read = refl

-- ---- the stages

module _ (x : OpenState) where
  free-marked : (c : ℕ) → is_free x c ≡ true → marked x c ≡ true
  unfolding is_free free_at marked
  free-marked c e = and_left (is_marked x.marks c) _ e

  -- nothing is drawn
  pub stage-start : (at : List ℕ) → Blank at → (rows : List ℤ) → Enough x rows → (zeros : List ℕ) → length zeros ≡ 6 → ((t : ℕ) → get_or zeros t 0 ≡ 0) → FreeStage x 0 at rows 0 zeros zeros 0
  unfolding fresh_after
  stage-start at (long, blank) rows enough zeros six none = record {
    store = record { stored = nothing_stored x.types rows; six = six; known = λ t y e. absurd (unnoted t y e) };
    long = long;
    enough = enough;
    room = omega (arith, none-take x, filter-most (λ k. eqb k 0) zeros, filter-most (λ k. eqb k 0) at);
    below = λ d r e. absurd (unplaced d r e);
    only = λ d r e. absurd (unplaced d r e);
    there = λ d r e. absurd (unplaced d r e);
    shows = λ d r e. absurd (unplaced d r e);
    under = λ i h. absurd (omega arith);
    all = λ d h. absurd (omega arith);
    chains = record { six = six; none = λ r e. circled_none x r; there = λ r row e. absurd (unnoted r row e); shows = λ r row e. absurd (unnoted r row e) };
    fresh = ap (fresh_after x.constants x.values) (sym (ends-none x));
  }
    where
      unnoted : (t y : ℕ) → get_or zeros t 0 ≡ suc y → ⊥
      unnoted t y e = omega (arith, none t, e)

      unplaced : (d r : ℕ) → Placed at d r → ⊥
      unplaced d r e = omega (arith, blank d, e)

  module _ (c : ℕ) (small : c < 78) (at : List ℕ) (rows : List ℤ) (many : ℕ) (drawn tops : List ℕ) (last : ℕ) (stage : FreeStage x c at rows many drawn tops last) where
    -- a class that is not free
    pub stage_skip : is_free x c ≡ false → FreeStage x (suc c) at rows many drawn tops last
    stage_skip unfree = record {
      store = stage.store;
      long = stage.long;
      enough = stage.enough;
      room = omega (arith, fixed_takes x c unfree, stage.room);
      below = λ d r e. omega (arith, stage.below d r e);
      only = stage.only;
      there = stage.there;
      shows = stage.shows;
      under = stage.under;
      all = λ d h f. by_test (eqb d c) (λ b. absurd (false≢true (sym unfree ∙ ap (is_free x) (sym (eqb-true d c b)) ∙ f)))
          (λ b. let other : ¬ (d ≡ c) = eqb-false d c b in stage.all d (omega arith) f);
      chains = tops_kept x c (suc c) (circled_same x c small (ap (λ (b : Bool). b && circling x c) unfree)) rows many tops stage.chains rows many (grown-itself rows many);
      fresh = stage.fresh ∙ ap (fresh_after x.constants x.values) (sym (ends_same x c small (ap (λ (b : Bool). b && not (circling x c)) unfree)));
    }

    module _ (free : is_free x c ≡ true) where
      -- its rows are among those that the buffer has room for
      within : many + unset drawn + growth_rows x.types (highest_rank x) ≤ rows_for x
      within = omega (arith, stage.room, free_takes x c free, rows_rise x 78 (suc c) (omega arith))

      pub stage_now : FreeFits x → (most : ℕ) → most ≡ highest_rank x → FreeNow x c rows many drawn tops most last
      stage_now fits most e = record {
        small = small;
        free = free;
        fits = fits c small free;
        store = stage.store;
        room = record { few = omega (arith, within, stage.enough.0); long = omega (arith, within, stage.enough.1) };
        chains = stage.chains;
        highest = e;
        fresh = stage.fresh;
      }

      -- a free class: its row is noted, and every new row lies under it
      module _ (rows' : List ℤ) (many' : ℕ) (drawn' tops' : List ℕ) (last' r : ℕ) (done : FreeDrawn x c rows many drawn rows' many' drawn' tops' last' r) where
        inside : c < length at
        inside = omega (arith, stage.long)

        none_yet : get_or at c 0 ≡ 0
        none_yet = go (get_or at c 0) refl
          where
            go : (n : ℕ) → get_or at c 0 ≡ n → n ≡ 0
            go zero e = refl
            go (suc q) e = absurd (omega (arith, stage.below c q e))

        pub stage-low : r < 4096
        stage-low = omega (arith, within, stage.enough.0, done.drew.there, done.drew.cost)

        pub stage-next : FreeStage x (suc c) (set at c (suc r)) rows' many' drawn' tops' last'
        stage-next = record {
          store = done.drew.store;
          long = length-set at c (suc r) ∙ stage.long;
          enough = (stage.enough.0, omega (arith, done.drew.grown.long, stage.enough.1));
          room = omega (arith, unset_set at c r inside none_yet, done.drew.cost, stage.room, free_takes x c free);
          below = noted_ind at c r inside (λ d q. d < suc c) (omega arith) (λ d q e. omega (arith, stage.below d q e));
          only = noted_ind at c r inside (λ d q. is_free x d ≡ true) free stage.only;
          there = noted_ind at c r inside (λ d q. q < many') done.drew.there (λ d q e. omega (arith, stage.there d q e, done.drew.grown.more));
          shows = noted_ind at c r inside (λ d q. message_at x.types rows' many' q ≡ free_message x d) done.drew.message
              (λ d q e. drew-kept done.drew q (stage.there d q e) ∙ stage.shows d q e);
          under = λ i l. by_test (ltb i many) (λ b. old i (ltb-true i many b)) (λ b. (c, r, noted_there at c r inside, done.drew.under i (ltb-false i many b) l));
          all = λ d h f. by_test (eqb d c) (λ b. (r, subst (λ (k : ℕ). Placed (set at c (suc r)) k r) (sym (eqb-true d c b)) (noted_there at c r inside)))
              (λ b. let other : ¬ (d ≡ c) = eqb-false d c b in
              let (q, e) = stage.all d (omega arith) f in
              (q, noted_kept at c r inside none_yet d q e));
          chains = done.chains;
          fresh = done.fresh;
        }
          where
            old : (i : ℕ) → i < many → (d : ℕ) × (q : ℕ) × Placed (set at c (suc r)) d q × Under x.types rows' q i
            old i l =
                let (d, q, e, u) = stage.under i l in
                (d, q, noted_kept at c r inside none_yet d q e, drew-under done.drew stage.store.stored q i (stage.there d q e) u)

-- the classes below c are passed, since the buffer was as at entry
abbrev pub Reached : OpenState → ℕ → List ℤ → List ℕ → List ℤ → ℕ → List ℕ → List ℕ → ℕ → Type 0
Reached x c entry at rows many drawn tops last = Grown entry 0 rows many × FreeStage x c at rows many drawn tops last

-- the same by other names
pub reached_as : (x : OpenState) (c : ℕ) (entry : List ℤ) (at at' : List ℕ) (rows rows' : List ℤ) (many many' : ℕ) (drawn drawn' tops tops' : List ℕ) (last last' : ℕ)
    → at' ≡ at → rows' ≡ rows → drawn' ≡ drawn → tops' ≡ tops → many' ≡ many → last' ≡ last → Reached x c entry at rows many drawn tops last → Reached x c entry at' rows' many' drawn' tops' last'
reached_as x c entry at at' rows rows' many many' drawn drawn' tops tops' last last' ea er ed et em el h =
    subst (λ (v : List ℕ). Reached x c entry v rows' many' drawn' tops' last') (sym ea)
    (subst (λ (v : List ℤ). Reached x c entry at v many' drawn' tops' last') (sym er)
    (subst (λ (v : List ℕ). Reached x c entry at rows many' v tops' last') (sym ed)
    (subst (λ (v : List ℕ). Reached x c entry at rows many' drawn v last') (sym et)
    (subst (λ (v : ℕ). Reached x c entry at rows v drawn tops last') (sym em) (subst (λ (v : ℕ). Reached x c entry at rows many drawn tops v) (sym el) h)))))

-- all classes are passed
pub stage_end : (ts : Types) (leaf : Leaf) (entry : List ℤ) (at : List ℕ) (rows : List ℤ) (many : ℕ) (drawn tops : List ℕ) (last c : ℕ) → c ≡ 78 → Grown entry 0 rows many
    → FreeStage (open_state ts leaf) c at rows many drawn tops last → FreeSheet ts leaf entry at rows many
stage_end ts leaf entry at rows many drawn tops last c all grown stage = record {
  drawn = drawn;
  grown = grown;
  sheet = λ val pictured. record {
    store = stage.store;
    long = stage.long;
    enough = stage.enough;
    room = omega (arith, stage.room, ap (free_rows (open_state ts leaf)) all);
    only = λ d p. (omega (arith, stage.below d p.0 p.1, all), free-marked (open_state ts leaf) d (stage.only d p.0 p.1));
    there = stage.there;
    shows = λ d r e. stage.shows d r e ∙ sym (pictured.free d (omega (arith, stage.below d r e, all)) (stage.only d r e));
    under = stage.under;
  };
  free = λ d h f. stage.all d (omega (arith, all)) f;
}
