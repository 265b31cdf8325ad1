-- One free class: which of the three plans it has, what that asks of the code, and that what is drawn is its message. A class
-- that ends in a number takes the next fresh number and leaves the chains; one that goes round a cycle takes one lap more
-- than the last class of its root, as its index says. Assumes nothing.
use mathlib.Core.Path.{◌≡◌, refl, ap, ap₂, sym, ◌∙◌, subst}
use mathlib.Core.Bool.{Bool, true, false, not, ◌&&◌, false≢true}
use mathlib.Core.List.{List}
use Prim.Native.Nat.{ℕ, zero, suc, ◌+◌, ◌*◌, ◌-◌, ◌≤◌, ◌<◌}
use native.Mathlib.Omega.{arith}
use lib.Dec.{eqb, ltb}
use lib.IntN.{ℤ, pos}
use lib.ListN.{length, get_or, length-set}
use lib.Seq.{get_or-set_same}
use mir.Syntax.{w64}
use mir.Val.{SFits, to_z}
use mir.Facts.{to_z_pos}
use borrow.Author.Tests.{eqb-false, eqb-true, eq-eqb, le-ltb, lt-ltb, ne_eqb}
use Rattle.laws.proofs.Bools.{by_test}
use Rattle.laws.proofs.Stores.{set_other}
use Rattle.guard.specs.Message.{Message, Message.number}
use Rattle.guard.specs.Shown.{message_type}
use Rattle.guard.specs.Types.{Types, default_of, fields_of, is_number, variants_of}
use Rattle.rowstore.specs.Store.{Grown, message_at}
use Rattle.rowstore.proofs.RowLaws.{belongs-type}
use Rattle.rowstore.proofs.StoreLaws.{grown-message}
use Rattle.growth.proofs.ClosedPlans.{closed_plan_ind, closed_steps, lap, laps_back}
use Rattle.growth.proofs.Grow.{grow-add}
use Rattle.growth.proofs.Growth.{chosen_field, chosen_type, default_of-belongs, distance_of, grow_from, growing_variant, next-less, next_type, root_of, steps_to_number, wrap_in}
use Rattle.growth.proofs.Orbit.{distance-root, iterate, root-less}
use Rattle.growth.proofs.Plans.{Plan.around, Plan.at_once, Plan.into, planned_message}
use Rattle.forms.specs.declared.Forms.{Forms}
use Rattle.forms.specs.Forms.{FormsFit, types_in}
use Rattle.drawnrows.specs.Drawing.{Drew, NumberDrawn, growth_rows}
use Rattle.forms.proofs.FormLaws.{number_read}
use Rattle.plans.specs.Chosen.{sort_in, variant_in}
use Rattle.plans.specs.Fresh.{fresh_after, next_fresh}
use Rattle.plans.specs.Plans.{OpenState, circled_before, circling, end_for, ends_before, free_classes, highest_rank, is_free, plan_for, root_of_class, sort_for, type_for, variant_for}
use Rattle.plans.proofs.Counting.{one}
use Rattle.plans.proofs.CountLaws.{circled_next, ends-few, ends_next, root_index_lem}
use Rattle.plans.proofs.FreshLaws.{fresh-few, next_near}
use Rattle.leaf.specs.Leaf.{open_state}
use Rattle.leaf.specs.declared.Leaf.{Leaf}
use Rattle.chains.specs.Chains.{LapNoted, Starts, TopsTyped, lap_message, top_from, top_message}
use Rattle.freerows.specs.Free.{ClassFits, FreeDrawn, FreeNow, Tops, chain_top, free_message, last_fresh}
use Rattle.chains.proofs.ChainLaws.{drew-more, grown-type, start-less, types-few}

-- a fresh number is an i64
pub fresh-fits : (constants : List ℕ) (values : List ℤ) (last n : ℕ) → last ≤ 4096 → n ≡ next_fresh constants values last → SFits w64 (pos n)
fresh-fits constants values last n h e = record { sfits = omega (arith, next_near constants values last) }

pub fresh-number : (constants : List ℕ) (values : List ℤ) (last n : ℕ) → last ≤ 4096 → n ≡ next_fresh constants values last → to_z w64 n ≡ pos n
fresh-number constants values last n h e = to_z_pos w64 {n = n} (omega (arith, next_near constants values last))

module _ (x : OpenState) (c : ℕ) where
  abbrev us : Types
  us = x.types

  -- ---- the type, as it is read

  pub sort-some : ClassFits x c → (n : ℕ) → n ≡ sort_in x.classes x.sorts c → 1 ≤ n
  unfolding sort_for
  sort-some fits n e = omega (arith, e ∙ fits.sort)

  pub type-read : (n : ℕ) → n ≡ sort_in x.classes x.sorts c → n - 1 ≡ type_for x c
  unfolding type_for sort_for
  type-read n e = ap (λ (k : ℕ). k - 1) e

  -- fresh numbers are small
  pub last-low : (last : ℕ) → c < 78 → last ≡ last_fresh x c → last ≤ 4096
  last-low last h e = omega (arith, fresh-few x.constants x.values (ends_before x c), ends-few x c)

  -- ---- the three plans

  pub plan_number : is_number us (type_for x c) ≡ true → plan_for x c ≡ at_once (end_for x c)
  unfolding plan_for
  plan_number n =
      closed_plan_ind us (type_for x) (variant_for x) (free_classes x) (highest_rank x) (end_for x) (λ p. p ≡ at_once (end_for x c)) c (λ e. refl) (λ e h. absurd (false≢true (sym e ∙ n)))
      (λ e h l. absurd (false≢true (sym e ∙ n)))

  abbrev from : ℕ
  from = chosen_type us (type_for x c) (variant_for x c)

  pub plan_into : is_number us (type_for x c) ≡ false → steps_to_number us from < length us → plan_for x c ≡ into (variant_for x c) (steps_to_number us from) (end_for x c)
  unfolding plan_for
  plan_into n h =
      closed_plan_ind us (type_for x) (variant_for x) (free_classes x) (highest_rank x) (end_for x) (λ p. p ≡ into (variant_for x c) (steps_to_number us from) (end_for x c)) c
      (λ e. absurd (false≢true (sym n ∙ e))) (λ e l. refl) (λ e q l. absurd (omega arith))

  pub plan_around : is_number us (type_for x c) ≡ false → length us ≤ steps_to_number us from
      → plan_for x c ≡ around (variant_for x c) (closed_steps us (type_for x) (variant_for x) (free_classes x) (highest_rank x) c)
  unfolding plan_for
  plan_around n h =
      closed_plan_ind us (type_for x) (variant_for x) (free_classes x) (highest_rank x) (end_for x)
      (λ p. p ≡ around (variant_for x c) (closed_steps us (type_for x) (variant_for x) (free_classes x) (highest_rank x) c)) c
      (λ e. absurd (false≢true (sym n ∙ e))) (λ e l. absurd (omega arith)) (λ e q l. refl)

  -- ---- which classes go round a cycle

  number-no_circle : is_number us (type_for x c) ≡ true → circling x c ≡ false
  unfolding circling
  number-no_circle n = ap (λ (b : Bool). not b && not (ltb (steps_to_number us from) (length us))) n

  into_no_circle : steps_to_number us from < length us → circling x c ≡ false
  unfolding circling
  into_no_circle h = ap (λ (b : Bool). not (is_number us (type_for x c)) && not b) (lt-ltb _ _ h) ∙ and_no (not (is_number us (type_for x c)))
    where
      and_no : (b : Bool) → (b && false) ≡ false
      and_no true = refl
      and_no false = refl

  around_circle : is_number us (type_for x c) ≡ false → length us ≤ steps_to_number us from → circling x c ≡ true
  unfolding circling
  around_circle n h = ap₂ (λ (a b : Bool). not a && not b) n (le-ltb _ _ h)

  root_is : root_of_class x c ≡ root_of us from
  unfolding root_of_class
  root_is = refl

  -- ---- counts, one class on

  module _ (small : c < 78) where
    pub ends_same : (is_free x c && not (circling x c)) ≡ false → ends_before x (suc c) ≡ ends_before x c
    ends_same e = omega (arith, ends_next x c small, ap one e)

    pub circled_same : (is_free x c && circling x c) ≡ false → (r : ℕ) → circled_before x (suc c) r ≡ circled_before x c r
    circled_same e r = omega (arith, circled_next x c r small, ap one (neither (is_free x c) (circling x c) (eqb (root_of_class x c) r) e))
      where
        neither : (a b d : Bool) → (a && b) ≡ false → (a && (b && d)) ≡ false
        neither false b d q = refl
        neither true false d q = refl
        neither true true d q = absurd (false≢true (sym q))

    module _ (free : is_free x c ≡ true) where
      -- a class that ends in a number
      pub ends_more : circling x c ≡ false → ends_before x (suc c) ≡ suc (ends_before x c)
      ends_more e = omega (arith, ends_next x c small, ap one (ap₂ (λ (a b : Bool). a && not b) free e))

      -- a class that goes round a cycle
      circled_more : circling x c ≡ true → (r : ℕ) → circled_before x (suc c) r ≡ circled_before x c r + one (eqb (root_of_class x c) r)
      circled_more e r = circled_next x c r small ∙ ap (λ (b : Bool). circled_before x c r + one b) (ap₂ (λ (a b : Bool). a && (b && eqb (root_of_class x c) r)) free e)

      circled_here : circling x c ≡ true → (r : ℕ) → root_of_class x c ≡ r → circled_before x (suc c) r ≡ suc (circled_before x c r)
      circled_here e r q = omega (arith, circled_more e r, ap one (eq-eqb (root_of_class x c) r q))

      circled_other : circling x c ≡ true → (r : ℕ) → ¬ (root_of_class x c ≡ r) → circled_before x (suc c) r ≡ circled_before x c r
      circled_other e r q = omega (arith, circled_more e r, ap one (ne_eqb (root_of_class x c) r q))

  -- the next fresh number
  module _ (last next : ℕ) (is_last : last ≡ last_fresh x c) (is_next : next ≡ next_fresh x.constants x.values last) where
    after_last : next ≡ fresh_after x.constants x.values (suc (ends_before x c))
    unfolding fresh_after
    after_last = is_next ∙ ap (next_fresh x.constants x.values) is_last

    end_is : pos next ≡ end_for x c
    unfolding end_for
    end_is = ap pos after_last

    next_last : c < 78 → is_free x c ≡ true → circling x c ≡ false → next ≡ last_fresh x (suc c)
    next_last small free e = after_last ∙ ap (fresh_after x.constants x.values) (sym (ends_more small free e))

  -- ---- chains

  pub tops_kept : (c' : ℕ) → ((r : ℕ) → circled_before x c' r ≡ circled_before x c r) → (rows : List ℤ) (many : ℕ) (tops : List ℕ) → Tops x c rows many tops
      → (rows' : List ℤ) (many' : ℕ) → Grown rows many rows' many' → Tops x c' rows' many' tops
  tops_kept c' same rows many tops t rows' many' g = record {
    six = t.six;
    none = λ r e. same r ∙ t.none r e;
    there = λ r row e. omega (arith, t.there r row e, g.more);
    shows = λ r row e. grown-message us rows many rows' many' g row (t.there r row e) ∙ t.shows r row e
        ∙ ap (λ (k : ℕ). grow_from us (k * lap us (highest_rank x) r) r (default_of us r)) (sym (same r));
  }

  -- the last message of a chain is its top
  module _ (rows : List ℤ) (many : ℕ) (tops : List ℕ) (t : Tops x c rows many tops) where
    top_from_lem : (r n : ℕ) → get_or tops r 0 ≡ n → top_from us rows many r n ≡ chain_top x c r
    top_from_lem r zero e =
        let none : circled_before x c r * lap us (highest_rank x) r ≡ 0 = ap (λ (k : ℕ). k * lap us (highest_rank x) r) (t.none r e) ∙ (let q : 0 * lap us (highest_rank x) r ≡ 0 = omega arith in q) in
        ap (λ (k : ℕ). grow_from us k r (default_of us r)) (sym none)
    top_from_lem r (suc row) e = t.shows r row e

    pub top_is : (r : ℕ) → top_message us rows many tops r ≡ chain_top x c r
    unfolding top_message
    top_is r = top_from_lem r (get_or tops r 0) refl

module _ (forms : Forms) (fit : FormsFit forms) (leaf : Leaf) (c : ℕ) where
  abbrev ts : Types
  ts = types_in forms

  abbrev x : OpenState
  x = open_state ts leaf

  pub tops_typed : (rows : List ℤ) (many : ℕ) (tops : List ℕ) → Tops x c rows many tops → TopsTyped ts rows many tops
  tops_typed rows many tops t = record {
    six = t.six;
    there = t.there;
    typed = λ r row h e. ap message_type (t.shows r row e)
        ∙ grown-type forms fit (circled_before x c r * lap ts (highest_rank x) r) r (default_of ts r) (belongs-type ts (default_of ts r) r (default_of-belongs ts fit.accepted r h));
  }

  -- ---- the class, as its type, variant and start are read
  module _ (fits : ClassFits x c) (t : ℕ) (is_t : t ≡ type_for x c) where
    pub type-known : t < length ts
    type-known = subst (λ (k : ℕ). k < length ts) (sym is_t) fits.known

    module _ (varied : is_number ts t ≡ false) (v : ℕ) (is_v : v ≡ variant_in ts (get_or leaf.state.labels c 0) t) where
      varied_class : is_number ts (type_for x c) ≡ false
      varied_class = ap (is_number ts) (sym is_t) ∙ varied

      variant_is : v ≡ variant_for x c
      unfolding variant_for
      variant_is = is_v ∙ ap (variant_in ts (get_or leaf.state.labels c 0)) is_t

      pub variant_fits_lem : v < length (variants_of ts t)
      variant_fits_lem = subst (λ (k : ℕ). k < length (variants_of ts t)) (sym variant_is) (subst (λ (k : ℕ). variant_for x c < length (variants_of ts k)) (sym is_t) (fits.fits varied_class))

      pub variant-wide : 0 < length (fields_of ts t v)
      variant-wide = subst (λ (k : ℕ). 0 < length (fields_of ts t k)) (sym variant_is) (subst (λ (k : ℕ). 0 < length (fields_of ts k (variant_for x c))) (sym is_t) (fits.wide varied_class))

      module _ (s : ℕ) (is_s : s ≡ chosen_type ts t v) where
        pub class_starts : Starts ts t v s
        class_starts = record { known = type-known; fits = variant_fits_lem; wide = variant-wide; start = is_s }

        start_is : s ≡ from x c
        start_is = is_s ∙ ap₂ (λ (a b : ℕ). chosen_type ts a b) is_t variant_is

        -- ---- what is drawn

        module _ (rows : List ℤ) (many : ℕ) (drawn tops : List ℕ) (most last : ℕ) (now : FreeNow x c rows many drawn tops most last) where
          pub ended-free : steps_to_number ts s < length ts → (next : ℕ) → next ≡ next_fresh leaf.constants.sorts leaf.constants.values last
              → (rows' : List ℤ) (many' : ℕ) (drawn' : List ℕ) (r : ℕ) → Drew ts rows many drawn (3 * length ts - 1) (planned_message ts t (into v (steps_to_number ts (chosen_type ts t v)) (pos next))) rows' many' drawn' r
              → FreeDrawn x c rows many drawn rows' many' drawn' tops next r
          ended-free ends next is_next rows' many' drawn' r d = record {
            drew = drew-more (3 * length ts - 1) (growth_rows ts (highest_rank x)) (omega arith) (subst (λ (m : Message). Drew ts rows many drawn (3 * length ts - 1) m rows' many' drawn' r) whole d);
            chains = tops_kept x c (suc c) (circled_same x c now.small (ap₂ (λ (a b : Bool). a && b) now.free none)) rows many tops now.chains rows' many' d.grown;
            fresh = next_last x c last next now.fresh is_next now.small now.free none;
          }
            where
              inside : steps_to_number ts (from x c) < length ts
              inside = subst (λ (k : ℕ). steps_to_number ts k < length ts) start_is ends

              none : circling x c ≡ false
              none = into_no_circle x c inside

              whole : planned_message ts t (into v (steps_to_number ts (chosen_type ts t v)) (pos next)) ≡ free_message x c
              whole =
                  ap₂ (λ (a b : ℕ). planned_message ts a (into b (steps_to_number ts (chosen_type ts a b)) (pos next))) is_t variant_is
                  ∙ ap (λ (z : ℤ). planned_message ts (type_for x c) (into (variant_for x c) (steps_to_number ts (from x c)) z)) (end_is x c last next now.fresh is_next)
                  ∙ ap (planned_message ts (type_for x c)) (sym (plan_into x c varied_class inside))

          module _ (never : length ts ≤ steps_to_number ts s) where
            outside : length ts ≤ steps_to_number ts (from x c)
            outside = subst (λ (k : ℕ). length ts ≤ steps_to_number ts k) start_is never

            round : circling x c ≡ true
            round = around_circle x c varied_class outside

            less : s < length ts
            less = start-less forms fit t v s class_starts

            abbrev root : ℕ
            root = root_of ts s

            root_class : root_of_class x c ≡ root
            root_class = root_is x c ∙ ap (root_of ts) (sym start_is)

            abbrev long : ℕ
            long = lap ts (highest_rank x) root

            lap_back : iterate (next_type ts) long root ≡ root
            lap_back =
                let one_lap : long ≡ 1 * long = omega arith in
                ap (λ (k : ℕ). iterate (next_type ts) k root) one_lap ∙ laps_back ts (highest_rank x) fit.accepted s 1 less

            -- one lap more is the top of the chain, one class on
            lap_top : lap_message ts most rows many tops root ≡ chain_top x (suc c) root
            lap_top =
                ap (λ (k : ℕ). grow_from ts (lap ts k root) root (top_message ts rows many tops root)) now.highest
                ∙ ap (grow_from ts long root) (top_is x c rows many tops now.chains root)
                ∙ ap (λ (k : ℕ). grow_from ts long root (grow_from ts (circled_before x c root * long) k (default_of ts root))) (sym lap_back)
                ∙ sym (grow-add (chosen_field ts) (fields_of ts) (default_of ts) (growing_variant ts) long (circled_before x c root * long) root (default_of ts root))
                ∙ ap (λ (k : ℕ). grow_from ts k root (default_of ts root)) (let q : long + circled_before x c root * long ≡ suc (circled_before x c root) * long = omega arith in q)
                ∙ ap (λ (k : ℕ). grow_from ts (k * long) root (default_of ts root)) (sym (circled_here x c now.small now.free round root root_class))

            module _ (rows' : List ℤ) (many' : ℕ) (tops' : List ℕ) (noted : LapNoted ts most rows many tops root rows' many' tops') (grown : Grown rows many rows' many') where
              inside : root < length tops
              inside = omega (arith, now.chains.six, types-few forms fit, root-less (next_type ts) (length ts) (next-less ts fit.accepted) s less)

              here : get_or tops' root 0 ≡ suc noted.row
              here = ap (λ (l : List ℕ). get_or l root 0) noted.is ∙ get_or-set_same tops root (suc noted.row) 0 inside

              other : (r : ℕ) → ¬ (r ≡ root) → get_or tops' r 0 ≡ get_or tops r 0
              other r n = ap (λ (l : List ℕ). get_or l r 0) noted.is ∙ set_other tops root (suc noted.row) r n

              before : Tops x c rows' many' tops
              before = tops_kept x c c (λ r. refl) rows many tops now.chains rows' many' grown

              count-other : (r : ℕ) → ¬ (r ≡ root) → circled_before x (suc c) r ≡ circled_before x c r
              count-other r n = circled_other x c now.small now.free round r (λ e. n (sym e ∙ root_class))

              row_here : (r row : ℕ) → r ≡ root → get_or tops' r 0 ≡ suc row → row ≡ noted.row
              row_here r row e q = let z : suc row ≡ suc noted.row = sym q ∙ ap (λ (k : ℕ). get_or tops' k 0) e ∙ here in omega arith

              pub lap_chains : Tops x (suc c) rows' many' tops'
              lap_chains = record {
                six = ap length noted.is ∙ length-set tops root (suc noted.row) ∙ now.chains.six;
                none = λ r e. by_test (eqb r root)
                    (λ b. let z : suc noted.row ≡ 0 = sym here ∙ ap (λ (k : ℕ). get_or tops' k 0) (sym (eqb-true r root b)) ∙ e in absurd (omega arith))
                    (λ b. count-other r (eqb-false r root b) ∙ before.none r (sym (other r (eqb-false r root b)) ∙ e));
                there = λ r row e. by_test (eqb r root)
                    (λ b. omega (arith, row_here r row (eqb-true r root b) e, noted.there))
                    (λ b. before.there r row (sym (other r (eqb-false r root b)) ∙ e));
                shows = λ r row e. by_test (eqb r root)
                    (λ b. ap (message_at ts rows' many') (row_here r row (eqb-true r root b) e) ∙ noted.shows ∙ lap_top ∙ ap (chain_top x (suc c)) (sym (eqb-true r root b)))
                    (λ b. before.shows r row (sym (other r (eqb-false r root b)) ∙ e)
                    ∙ ap (λ (k : ℕ). grow_from ts (k * lap ts (highest_rank x) r) r (default_of ts r)) (sym (count-other r (eqb-false r root b))));
              }

            circled_whole : wrap_in ts t v (grow_from ts (distance_of ts s) s (lap_message ts most rows many tops root)) ≡ free_message x c
            unfolding closed_steps
            circled_whole =
                let k : ℕ = suc (circled_before x c root) in
                ap (λ (m : Message). wrap_in ts t v (grow_from ts (distance_of ts s) s m)) (lap_top ∙ ap (λ (n : ℕ). grow_from ts (n * long) root (default_of ts root)) (circled_here x c now.small now.free round root root_class))
                ∙ ap (λ (q : ℕ). wrap_in ts t v (grow_from ts (distance_of ts s) s (grow_from ts (suc (circled_before x c root) * long) q (default_of ts root)))) (sym (distance-root (next_type ts) (length ts) (next-less ts fit.accepted) s less))
                ∙ ap (wrap_in ts t v) (sym (grow-add (chosen_field ts) (fields_of ts) (default_of ts) (growing_variant ts) (distance_of ts s) (suc (circled_before x c root) * long) s (default_of ts root)))
                ∙ ap (λ (y : ℕ). wrap_in ts t v (grow_from ts (distance_of ts y + suc (circled_before x c (root_of ts y)) * lap ts (highest_rank x) (root_of ts y)) y (default_of ts (root_of ts y)))) start_is
                ∙ ap₂ (λ (a b : ℕ). wrap_in ts a b (grow_from ts (distance_of ts (from x c) + suc (circled_before x c (root_of ts (from x c))) * lap ts (highest_rank x) (root_of ts (from x c))) (from x c) (default_of ts (root_of ts (from x c))))) is_t variant_is
                ∙ ap (λ (n : ℕ). wrap_in ts (type_for x c) (variant_for x c) (grow_from ts (distance_of ts (from x c) + n * lap ts (highest_rank x) (root_of ts (from x c))) (from x c) (default_of ts (root_of ts (from x c))))) (sym (root_index_lem x c ∙ ap (λ (r : ℕ). suc (circled_before x c r)) (root_is x c)))
                ∙ ap (planned_message ts (type_for x c)) (sym (plan_around x c varied_class outside))

            pub circled_free : (rows' : List ℤ) (many' : ℕ) (drawn' tops' : List ℕ) (r : ℕ)
                → Drew ts rows many drawn (growth_rows ts most) (wrap_in ts t v (grow_from ts (distance_of ts s) s (lap_message ts most rows many tops (root_of ts s)))) rows' many' drawn' r
                → LapNoted ts most rows many tops (root_of ts s) rows' many' tops' → FreeDrawn x c rows many drawn rows' many' drawn' tops' last r
            circled_free rows' many' drawn' tops' r d noted = record {
              drew = drew-more (growth_rows ts most) (growth_rows ts (highest_rank x)) (omega (arith, now.highest)) (subst (λ (m : Message). Drew ts rows many drawn (growth_rows ts most) m rows' many' drawn' r) circled_whole d);
              chains = lap_chains rows' many' tops' noted d.grown;
              fresh = now.fresh ∙ ap (fresh_after leaf.constants.sorts leaf.constants.values) (sym (ends_same x c now.small (ap₂ (λ (a b : Bool). a && not b) now.free round)));
            }

    -- a number type
    pub number-free : is_number ts t ≡ true → (rows : List ℤ) (many : ℕ) (drawn tops : List ℕ) (most last : ℕ) → FreeNow x c rows many drawn tops most last
        → (next : ℕ) → next ≡ next_fresh leaf.constants.sorts leaf.constants.values last → (rows' : List ℤ) (many' r : ℕ) → NumberDrawn rows many t (pos next) rows' many' r
        → FreeDrawn x c rows many drawn rows' many' drawn tops next r
    number-free n rows many drawn tops most last now next is_next rows' many' r number-drawn = record {
      drew = drew-more 1 (growth_rows ts (highest_rank x)) (omega (arith, type-known)) (subst (λ (m : Message). Drew ts rows many drawn 1 m rows' many' drawn r) whole d);
      chains = tops_kept x c (suc c) (circled_same x c now.small (ap₂ (λ (a b : Bool). a && b) now.free none)) rows many tops now.chains rows' many' d.grown;
      fresh = next_last x c last next now.fresh is_next now.small now.free none;
    }
      where
        n_class : is_number ts (type_for x c) ≡ true
        n_class = ap (is_number ts) (sym is_t) ∙ n

        none : circling x c ≡ false
        none = number-no_circle x c n_class

        d : Drew ts rows many drawn 1 (number t (pos next)) rows' many' drawn r
        d = number-drawn ts drawn type-known n now.store

        whole : number t (pos next) ≡ free_message x c
        whole = ap₂ number is_t (end_is x c last next now.fresh is_next) ∙ ap (planned_message ts (type_for x c)) (sym (plan_number x c n_class))

-- ---- number types, as the table has them

module _ (forms : Forms) (fit : FormsFit forms) (t : ℕ) (known : t < length (types_in forms)) where
  pub read_number : get_or forms.table.variants t 0 ≡ 0 → is_number (types_in forms) t ≡ true
  read_number e = eq-eqb (length (variants_of (types_in forms) t)) 0 (sym (number_read forms fit t known) ∙ e)

  pub read-variants : ¬ (get_or forms.table.variants t 0 ≡ 0) → is_number (types_in forms) t ≡ false
  read-variants n = ne_eqb (length (variants_of (types_in forms) t)) 0 (λ e. n (number_read forms fit t known ∙ e))
