-- Growth to a number, and round a cycle: what each function draws, and that its steps fit. Rounds of a lap lead from a root
-- back to it, and growth round a cycle meets no number type, so every step is by a variant with fields. Assumes nothing.
use mathlib.Core.Path.{◌≡◌, refl, ap, sym, ◌∙◌, subst}
use mathlib.Core.Bool.{true}
use mathlib.Core.List.{List}
use Prim.Native.Nat.{ℕ, zero, suc, ◌+◌, ◌*◌, ◌-◌, ◌/◌, ◌≤◌, ◌<◌}
use native.Mathlib.Nat.{div-add-mod', mul-le-mul}
use native.Mathlib.Omega.{arith}
use lib.IntN.{ℤ}
use lib.ListN.{length, get_or, set}
use Rattle.laws.proofs.Positions.{least_first, least_most, least_passes}
use Rattle.guard.specs.Message.{Message, Message.number}
use Rattle.guard.specs.Shown.{message_type}
use Rattle.guard.specs.Types.{Types, default_of, is_number}
use Rattle.rowstore.specs.Store.{message_at}
use Rattle.rowstore.proofs.RowLaws.{belongs-type}
use Rattle.rowstore.proofs.StoreLaws.{grown-message}
use Rattle.tables.proofs.Held.{held-many}
use Rattle.growth.proofs.ClosedPlans.{lap, lap_most_lem}
use Rattle.growth.proofs.Growth.{Cyclic, GrowsBy, Infinite, chosen-infinite, chosen_type, cyclic_growth, cyclic_of, cyclic_stays, default_of-belongs, distance_of, grow_from, growth-before, next-less, next_type, period_of, root_of, steps_to_number, wrap_in}
use Rattle.growth.proofs.Orbit.{distance-less, distance-root, iterate, iterate_less, period_positive, period-root, root-less}
use Rattle.growth.proofs.Plans.{Plan.into, planned_message}
use Rattle.growthtables.specs.Growth.{growth_by}
use Rattle.growthtables.specs.declared.Growth.{Growth}
use Rattle.columns.proofs.Filled.{filled_at}
use Rattle.forms.specs.declared.Forms.{Forms}
use Rattle.forms.specs.Forms.{FormsFit, types_in}
use Rattle.drawnrows.specs.Drawing.{Drew, NumberDrawn, Room, Store, Under, growth_rows}
use Rattle.drawnrows.proofs.DrawnLaws.{drew-after, drew_nothing, drew-room, drew-under, under_trans}
use Rattle.forms.proofs.FormLaws.{period-read}
use Rattle.growthrows.proofs.StepLaws.{Grew, grew_type}
use Rattle.chains.specs.Chains.{LapNoted, Starts, TopsTyped, lap_message, top_from, top_message}

-- ---- costs

-- a drawing may be said to cost more
pub drew-more : {ts : Types} {rows : List ℤ} {many : ℕ} {drawn : List ℕ} {m : Message} {rows' : List ℤ} {many' : ℕ} {drawn' : List ℕ} {r : ℕ} (k l : ℕ) → k ≤ l
    → Drew ts rows many drawn k m rows' many' drawn' r → Drew ts rows many drawn l m rows' many' drawn' r
drew-more k l h d = record { store = d.store; grown = d.grown; cost = omega (arith, d.cost); there = d.there; message = d.message; under = d.under }

pub room-less : (rows : List ℤ) (many : ℕ) (drawn : List ℕ) (k l : ℕ) → l ≤ k → Room rows many drawn k → Room rows many drawn l
room-less rows many drawn k l h room = record { few = omega (arith, room.few); long = omega (arith, room.long) }

-- where there is room for a row, it may be drawn
pub room-place : (rows : List ℤ) (many : ℕ) (drawn : List ℕ) (k : ℕ) → 0 < k → Room rows many drawn k → (many < 4096) × (4 * many + 4 ≤ length rows)
room-place rows many drawn k h room = (omega (arith, room.few), omega (arith, room.long))

-- ---- entries of the forms

module _ (forms : Forms) (fit : FormsFit forms) where
  abbrev ts : Types
  ts = types_in forms

  pub types-few : length ts ≤ 6
  types-few = omega (arith, held-many forms.table, fit.range.many)

  pub steps-read : (t : ℕ) → t < length ts → get_or forms.growth.steps t 0 ≡ steps_to_number ts t
  unfolding growth_by
  steps-read t h = ap (λ (g : Growth). get_or g.steps t 0) fit.growth ∙ filled_at 6 (steps_to_number ts) (length ts) t h

  pub steps-most : (t : ℕ) → steps_to_number ts t ≤ 6
  steps-most t = omega (arith, types-few, least_most (λ k. is_number ts (iterate (next_type ts) k t)) (length ts))

  pub root-read : (t : ℕ) → t < length ts → get_or forms.growth.root t 0 ≡ root_of ts t
  unfolding growth_by
  root-read t h = ap (λ (g : Growth). get_or g.root t 0) fit.growth ∙ filled_at 6 (root_of ts) (length ts) t h

  pub distance_read : (t : ℕ) → t < length ts → get_or forms.growth.distance t 0 ≡ distance_of ts t
  unfolding growth_by
  distance_read t h = ap (λ (g : Growth). get_or g.distance t 0) fit.growth ∙ filled_at 6 (distance_of ts) (length ts) t h

  module _ (r : ℕ) (h : r < length ts) where
    pub period-some : 0 < get_or forms.growth.period r 0
    period-some = omega (arith, period-read forms fit r h, period_positive (next_type ts) (length ts) r)

    -- a quotient is no larger than what is divided
    pub turns_small : (n : ℕ) → n / get_or forms.growth.period r 0 ≤ n
    turns_small n = go (get_or forms.growth.period r 0) period-some
      where
        go : (p : ℕ) → 0 < p → n / p ≤ n
        go p l =
            let m : n / p * 1 ≤ n / p * p = mul-le-mul {n₁ = n / p} {m₁ = 1} {n₂ = n / p} {m₂ = p} (omega arith) (omega arith) in
            omega (arith, div-add-mod' n p, m)

    -- the rounds of a lap
    pub turns_lap : (most : ℕ) → ((most + (forms.table.many - 1)) / get_or forms.growth.period r 0 + 1) * period_of ts r ≡ lap ts most r
    unfolding lap
    turns_lap most =
        ap (λ (n : ℕ). ((most + (n - 1)) / get_or forms.growth.period r 0 + 1) * period_of ts r) (sym (held-many forms.table))
        ∙ ap (λ (p : ℕ). ((most + (length ts - 1)) / p + 1) * period_of ts r) (period-read forms fit r h)
        ∙ ap (λ (n : ℕ). n * period_of ts r) (let e : (most + (length ts - 1)) / period_of ts r + 1 ≡ suc ((most + (length ts - 1)) / period_of ts r) = omega arith in e)

  -- ---- a variant over growth

  module _ (t v s : ℕ) (starts : Starts ts t v s) where
    start-infinite : Infinite ts s
    start-infinite = subst (Infinite ts) (sym starts.start) (chosen-infinite ts fit.accepted t v starts.wide)

    pub start-less : s < length ts
    start-less = start-infinite.0

    module _ (steps row : ℕ) (rows : List ℤ) (many : ℕ) (drawn : List ℕ) (room : Room rows many drawn (steps + 1)) (typed : message_type (message_at ts rows many row) ≡ iterate (next_type ts) steps s)
        (rows' : List ℤ) (many' : ℕ) (drawn' : List ℕ) (at : ℕ) (g : Grew ts rows many drawn row steps s rows' many' drawn' at) where
      pub over_room : Room rows' many' drawn' 1
      over_room = drew-room g.0 1 room

      pub over_type : message_type (message_at ts rows' many' at) ≡ chosen_type ts t v
      over_type =
          grew_type ts rows many drawn row steps s rows' many' drawn' at g (λ e. typed ∙ ap (λ (k : ℕ). iterate (next_type ts) k s) e) ∙ starts.start

      module _ (rows'' : List ℤ) (many'' : ℕ) (drawn'' : List ℕ) (r : ℕ) (d : Drew ts rows' many' drawn' 1 (wrap_in ts t v (message_at ts rows' many' at)) rows'' many'' drawn'' r) (u : Under ts rows'' r at) where
        pub over_drew : Drew ts rows many drawn (steps + 1) (wrap_in ts t v (grow_from ts steps s (message_at ts rows many row))) rows'' many'' drawn'' r
        over_drew =
            subst (λ (m : Message). Drew ts rows many drawn (steps + 1) (wrap_in ts t v m) rows'' many'' drawn'' r) g.0.message (drew-after g.0 d u)

        pub over_under : Under ts rows'' r row
        over_under = under_trans u (drew-under d g.0.store.stored at row g.0.there g.1)

    -- ---- down to a number

    module _ (ends : steps_to_number ts s < length ts) (n : ℕ) (is_n : n ≡ steps_to_number ts s) where
      abbrev number_at : ℕ → Type 0
      number_at k = is_number ts (iterate (next_type ts) k s) ≡ true

      pub end_grows : GrowsBy ts n s
      end_grows =
          subst (λ (k : ℕ). GrowsBy ts k s) (sym is_n)
          (growth-before ts fit.accepted (steps_to_number ts s) s start-infinite (λ j l. least_first (λ k. is_number ts (iterate (next_type ts) k s)) (length ts) j l))

      module _ (u : ℕ) (is_u : u ≡ iterate (next_type ts) n s) (rows : List ℤ) (many : ℕ) (drawn : List ℕ) (store : Store ts rows many drawn) (room : Room rows many drawn (3 * length ts - 1)) (z : ℤ)
          (rows' : List ℤ) (many' at : ℕ) (number-drawn : NumberDrawn rows many u z rows' many' at) where
        end_drew : Drew ts rows many drawn 1 (number u z) rows' many' drawn at
        end_drew =
            number-drawn ts drawn (subst (λ (k : ℕ). k < length ts) (sym is_u) (iterate_less (next_type ts) (length ts) (next-less ts fit.accepted) n s start-less))
            (ap (is_number ts) is_u ∙ subst number_at (sym is_n) (least_passes (λ k. is_number ts (iterate (next_type ts) k s)) (length ts) ends)) store

        end_cost : 1 + (n + 1) ≤ 3 * length ts - 1
        end_cost = omega (arith, ends, is_n)

        pub end_store : Store ts rows' many' drawn
        end_store = end_drew.store

        pub end_room : Room rows' many' drawn (n + 1)
        end_room = drew-room end_drew (n + 1) (room-less rows many drawn (3 * length ts - 1) (1 + (n + 1)) end_cost room)

        pub end_there : at < many'
        end_there = end_drew.there

        pub end_type : message_type (message_at ts rows' many' at) ≡ iterate (next_type ts) n s
        end_type = ap message_type end_drew.message ∙ is_u

        pub ended-drew : (rows'' : List ℤ) (many'' : ℕ) (drawn'' : List ℕ) (r : ℕ) → Drew ts rows' many' drawn (n + 1) (wrap_in ts t v (grow_from ts n s (message_at ts rows' many' at))) rows'' many'' drawn'' r → Under ts rows'' r at
            → Drew ts rows many drawn (3 * length ts - 1) (planned_message ts t (into v (steps_to_number ts (chosen_type ts t v)) z)) rows'' many'' drawn'' r
        ended-drew rows'' many'' drawn'' r d under =
            drew-more (1 + (n + 1)) (3 * length ts - 1) end_cost
            (subst (λ (m : Message). Drew ts rows many drawn (1 + (n + 1)) m rows'' many'' drawn'' r) whole (drew-after end_drew d under))
          where
            whole : wrap_in ts t v (grow_from ts n s (message_at ts rows' many' at)) ≡ planned_message ts t (into v (steps_to_number ts (chosen_type ts t v)) z)
            whole =
                ap (λ (m : Message). wrap_in ts t v (grow_from ts n s m)) (end_drew.message ∙ ap (λ (k : ℕ). number k z) is_u)
                ∙ ap (λ (k : ℕ). wrap_in ts t v (grow_from ts k s (number (iterate (next_type ts) k s) z))) is_n
                ∙ ap (λ (y : ℕ). wrap_in ts t v (grow_from ts (steps_to_number ts y) y (number (iterate (next_type ts) (steps_to_number ts y) y) z))) starts.start

  -- ---- the top of a chain

  -- grown messages are of the type
  pub grown-type : (k u : ℕ) (m : Message) → message_type m ≡ u → message_type (grow_from ts k u m) ≡ u
  grown-type zero u m e = e
  grown-type (suc k) u m e = refl

  pub top_low : (rows : List ℤ) (many : ℕ) (tops : List ℕ) → TopsTyped ts rows many tops → (r : ℕ) → get_or tops r 0 ≤ many
  top_low rows many tops typed r = go (get_or tops r 0) refl
    where
      go : (n : ℕ) → get_or tops r 0 ≡ n → n ≤ many
      go zero e = omega arith
      go (suc row) e = omega (arith, typed.there r row e)

  module _ (rows : List ℤ) (many : ℕ) (tops : List ℕ) (typed : TopsTyped ts rows many tops) (r : ℕ) (h : r < length ts) where
    top_type_from : (n : ℕ) → get_or tops r 0 ≡ n → message_type (top_from ts rows many r n) ≡ r
    top_type_from zero e = belongs-type ts (default_of ts r) r (default_of-belongs ts fit.accepted r h)
    top_type_from (suc row) e = typed.typed r row h e

    pub top_type : message_type (top_message ts rows many tops r) ≡ r
    unfolding top_message
    top_type = top_type_from (get_or tops r 0) refl

    module _ (drawn : List ℕ) (store : Store ts rows many drawn) where
      top_known_from : (n : ℕ) → get_or tops r 0 ≡ n → 0 < n → Drew ts rows many drawn 0 (top_from ts rows many r n) rows many drawn (n - 1)
      top_known_from zero e p = absurd (omega arith)
      top_known_from (suc row) e p =
          let same : suc row - 1 ≡ row = omega arith in
          subst (λ (k : ℕ). Drew ts rows many drawn 0 (message_at ts rows many row) rows many drawn k) (sym same)
          (drew_nothing ts rows many drawn row (message_at ts rows many row) store (typed.there r row e) refl)

      pub top_known : 0 < get_or tops r 0 → Drew ts rows many drawn 0 (top_message ts rows many tops r) rows many drawn (get_or tops r 0 - 1)
      unfolding top_message
      top_known = top_known_from (get_or tops r 0) refl

      pub top_default : get_or tops r 0 ≤ 0 → {rows' : List ℤ} {many' : ℕ} {drawn' : List ℕ} {at : ℕ} → Drew ts rows many drawn 0 (default_of ts r) rows' many' drawn' at
          → Drew ts rows many drawn 0 (top_message ts rows many tops r) rows' many' drawn' at
      unfolding top_message
      top_default none {rows' = rows'} {many' = many'} {drawn' = drawn'} {at = at} d =
          let e : get_or tops r 0 ≡ 0 = omega arith in
          subst (λ (n : ℕ). Drew ts rows many drawn 0 (top_from ts rows many r n) rows' many' drawn' at) (sym e) d

      -- ---- a lap more
      module _ (most : ℕ) (room : Room rows many drawn (lap ts most r)) (n : ℕ) (is_lap : n * period_of ts r ≡ lap ts most r)
          (rows' : List ℤ) (many' : ℕ) (drawn' : List ℕ) (at : ℕ) (d : Drew ts rows many drawn 0 (top_message ts rows many tops r) rows' many' drawn' at) where
        pub lap_room : Room rows' many' drawn' (n * period_of ts r)
        lap_room = drew-room d (n * period_of ts r) (room-less rows many drawn (lap ts most r) (0 + n * period_of ts r) (omega (arith, is_lap)) room)

        pub lap_start : message_type (message_at ts rows' many' at) ≡ r
        lap_start = ap message_type d.message ∙ top_type

        pub lap_drew : (rows'' : List ℤ) (many'' : ℕ) (drawn'' : List ℕ) (q : ℕ) → Drew ts rows' many' drawn' (n * period_of ts r) (grow_from ts (n * period_of ts r) r (message_at ts rows' many' at)) rows'' many'' drawn'' q
            → Under ts rows'' q at → Drew ts rows many drawn (lap ts most r) (lap_message ts most rows many tops r) rows'' many'' drawn'' q
        lap_drew rows'' many'' drawn'' q g u =
            let cost : 0 + n * period_of ts r ≡ lap ts most r = omega (arith, is_lap) in
            subst (λ (k : ℕ). Drew ts rows many drawn k (lap_message ts most rows many tops r) rows'' many'' drawn'' q) cost
            (subst (λ (m : Message). Drew ts rows many drawn (0 + n * period_of ts r) m rows'' many'' drawn'' q)
            (ap (grow_from ts (n * period_of ts r) r) d.message ∙ ap (λ (k : ℕ). grow_from ts k r (top_message ts rows many tops r)) is_lap) (drew-after d g u))

  -- ---- round a cycle

  cyclic_after : (k t : ℕ) → Cyclic ts t → Cyclic ts (iterate (next_type ts) k t)
  cyclic_after zero t c = c
  cyclic_after (suc k) t c = cyclic_after k (next_type ts t) (cyclic_stays ts fit.accepted t c)

  module _ (t v s : ℕ) (starts : Starts ts t v s) (never : length ts ≤ steps_to_number ts s) (r : ℕ) (is_r : r ≡ root_of ts s) (n : ℕ) (is_n : n ≡ distance_of ts s) where
    less : s < length ts
    less = start-less t v s starts

    start_cyclic : Cyclic ts s
    start_cyclic = cyclic_of ts fit.accepted s (start-infinite t v s starts) (λ j l. least_first (λ k. is_number ts (iterate (next_type ts) k s)) (length ts) j (omega arith))

    pub down_to_root : iterate (next_type ts) n s ≡ r
    down_to_root = ap (λ (k : ℕ). iterate (next_type ts) k s) is_n ∙ distance-root (next_type ts) (length ts) (next-less ts fit.accepted) s less ∙ sym is_r

    pub root-inside : r < length ts
    root-inside = subst (λ (k : ℕ). k < length ts) (sym is_r) (root-less (next_type ts) (length ts) (next-less ts fit.accepted) s less)

    pub root_cyclic : Cyclic ts r
    root_cyclic = subst (Cyclic ts) down_to_root (cyclic_after n s start_cyclic)

    pub root-back : iterate (next_type ts) (period_of ts r) r ≡ r
    root-back = subst (λ (k : ℕ). iterate (next_type ts) (period_of ts k) k ≡ k) (sym is_r) (period-root (next_type ts) (length ts) (next-less ts fit.accepted) s less)

    pub distance_grows : GrowsBy ts n s
    distance_grows = cyclic_growth ts fit.accepted n s start_cyclic

    module _ (most : ℕ) (rows : List ℤ) (many : ℕ) (drawn tops : List ℕ) (room : Room rows many drawn (growth_rows ts most)) (typed : TopsTyped ts rows many tops) where
      whole_cost : lap ts most r + (n + 1) ≤ growth_rows ts most
      whole_cost = omega (arith, lap_most_lem ts most r (omega (arith, less)), distance-less (next_type ts) (length ts) (next-less ts fit.accepted) s less)

      pub circle_room : Room rows many drawn (lap ts most r)
      circle_room = room-less rows many drawn (growth_rows ts most) (lap ts most r) (omega (arith, whole_cost)) room

      module _ (rows' : List ℤ) (many' : ℕ) (drawn' : List ℕ) (at : ℕ) (e : Drew ts rows many drawn (lap ts most r) (lap_message ts most rows many tops r) rows' many' drawn' at) where
        pub circled_room : Room rows' many' drawn' (n + 1)
        circled_room = drew-room e (n + 1) (room-less rows many drawn (growth_rows ts most) (lap ts most r + (n + 1)) whole_cost room)

        pub circled_type : message_type (message_at ts rows' many' at) ≡ iterate (next_type ts) n s
        circled_type = ap message_type e.message ∙ grown-type (lap ts most r) r (top_message ts rows many tops r) (top_type rows many tops typed r root-inside) ∙ sym down_to_root

        module _ (rows'' : List ℤ) (many'' : ℕ) (drawn'' : List ℕ) (q : ℕ) (d : Drew ts rows' many' drawn' (n + 1) (wrap_in ts t v (grow_from ts n s (message_at ts rows' many' at))) rows'' many'' drawn'' q) (u : Under ts rows'' q at) where
          pub circled_drew : Drew ts rows many drawn (growth_rows ts most) (wrap_in ts t v (grow_from ts (distance_of ts s) s (lap_message ts most rows many tops (root_of ts s)))) rows'' many'' drawn'' q
          circled_drew =
              drew-more (lap ts most r + (n + 1)) (growth_rows ts most) whole_cost
              (subst (λ (m : Message). Drew ts rows many drawn (lap ts most r + (n + 1)) m rows'' many'' drawn'' q)
              (ap (λ (m : Message). wrap_in ts t v (grow_from ts n s m)) e.message
              ∙ ap (λ (k : ℕ). wrap_in ts t v (grow_from ts k s (lap_message ts most rows many tops r))) is_n
              ∙ ap (λ (k : ℕ). wrap_in ts t v (grow_from ts (distance_of ts s) s (lap_message ts most rows many tops k))) is_r) (drew-after e d u))

          pub circled_noted : (tops' : List ℕ) → tops' ≡ set tops r (suc at) → LapNoted ts most rows many tops (root_of ts s) rows'' many'' tops'
          circled_noted tops' is = record {
            row = at;
            is = is ∙ ap (λ (k : ℕ). set tops k (suc at)) is_r;
            there = omega (arith, e.there, d.grown.more);
            shows = grown-message ts rows' many' rows'' many'' d.grown at e.there ∙ e.message ∙ ap (lap_message ts most rows many tops) is_r;
          }
