-- What the drawing of a default gives, by the forms: of a number, and of a variant over defaults. Assumes nothing.
use mathlib.Core.Path.{◌≡◌, refl, ap, sym, ◌∙◌, subst}
use mathlib.Core.Bool.{true, false}
use mathlib.Core.List.{List, map}
use Prim.Native.Nat.{ℕ, suc, ◌+◌, ◌*◌, ◌≤◌, ◌<◌}
use native.Mathlib.Omega.{arith}
use lib.Dec.{ltb}
use lib.IntN.{ℤ, pos}
use lib.ListN.{length, get_or, set}
use borrow.Author.Tests.{eq-eqb, ltb-true, ltb-false, ne_eqb}
use Rattle.laws.proofs.Bools.{by_test}
use Rattle.guard.specs.Message.{Message, Message.made, to_parts}
use Rattle.guard.specs.Types.{Types, Variant, default_of, fields_of, is_number, variants_of}
use Rattle.guard.proofs.MessageLaws.{message_size}
use Rattle.rowstore.specs.Store.{made_row, many_after, message_at, row_found, with_row}
use Rattle.forms.specs.declared.Forms.{Forms}
use Rattle.forms.specs.Forms.{FormsFit, types_in}
use Rattle.drawnrows.specs.Drawing.{Drew, Given, LowRows, NumberDrawn, Parted, Room, Sparing, Store, default_sizes, parts_over}
use Rattle.drawnrows.proofs.FillLaws.{fill_past, fill_typed}
use Rattle.forms.proofs.FormLaws.{by, default-made, default-number, fields-three, number_read, sort-inside, type-small, variant-small}
use Rattle.drawnrows.proofs.RowLaws.{drew-made}
use Rattle.defaultrows.proofs.PartLaws.{parted_room}
use Rattle.defaultrows.proofs.DefaultRowLaws.{default_noted, noted_sparing, room-unset}

-- rows of parts are low
pub parted_low : (ts : Types) (fs : Variant) (c row : ℕ) (rows : List ℤ) (many : ℕ) (drawn : List ℕ) (p : ℕ) (ps : List ℕ) (rows' : List ℤ) (many' : ℕ) (drawn' : List ℕ)
    → Parted ts fs c row rows many drawn p ps rows' many' drawn' → many' < 4096 → LowRows ps
parted_low ts fs c row rows many drawn p ps rows' many' drawn' parted few =
    (parted.three, λ q. by_test (ltb q p) (λ b. omega (arith, parted.low q (ltb-true _ _ b))) (λ b. omega (arith, parted.unused q (ltb-false q p b))))

-- ---- by the forms

module _ (forms : Forms) (fit : FormsFit forms) where
  abbrev ts : Types
  ts = types_in forms

  module _ (t : ℕ) (h : t < length ts) (rows : List ℤ) (many : ℕ) (drawn : List ℕ) (store : Store ts rows many drawn) (room : Room rows many drawn 0) where
    small : t < 6
    small = type-small forms fit t h

    pub is-number : get_or forms.table.variants t 0 ≡ 0 → is_number ts t ≡ true
    is-number e = eq-eqb (length (variants_of ts t)) 0 (sym (number_read forms fit t h) ∙ e)

    pub not_number : ¬ (get_or forms.table.variants t 0 ≡ 0) → is_number ts t ≡ false
    not_number n = ne_eqb (length (variants_of ts t)) 0 (λ e. n (number_read forms fit t h ∙ e))

    module _ (blank : get_or drawn t 0 ≡ 0) where
      pub room-here : (many < 4096) × (4 * many + 4 ≤ length rows)
      room-here = room-unset rows many drawn t (omega (arith, store.six, small)) blank room

      pub number-default : (r : ℕ) (rows' : List ℤ) (many' : ℕ) → is_number ts t ≡ true → NumberDrawn rows many t (pos 0) rows' many' r → Drew ts rows many drawn 0 (default_of ts t) rows' many' (set drawn t (r + 1)) r
      number-default r rows' many' n d =
          default_noted ts rows many drawn t h small rows' many' drawn r blank
          (subst (λ (m : Message). Drew ts rows many drawn 1 m rows' many' drawn r) (sym (default-number forms fit t h n)) (d ts drawn h n store))

      pub number-sparing : (r : ℕ) → Sparing ts drawn (message_size (default_of ts t)) (set drawn t (r + 1))
      number-sparing r = noted_sparing ts rows many drawn t h small rows many drawn r (λ u l. refl)

      module _ (n : is_number ts t ≡ false) where
        abbrev v : ℕ
        v = by forms fit t h

        abbrev fs : Variant
        fs = fields_of ts t v

        pub default-inside : v < length (variants_of ts t)
        default-inside = (default-made forms fit t h n).0

        -- no field is given
        pub default-given : Given ts rows many fs 3 0
        default-given l = absurd (omega (arith, l, fields-three forms fit t v))

        -- the parts are smaller
        size_is : message_size (default_of ts t) ≡ suc (default_sizes ts fs)
        size_is = ap message_size (default-made forms fit t h n).1

        pub parts_smaller : suc (2 * default_sizes ts fs) < 2 * message_size (default_of ts t)
        parts_smaller = omega (arith, size_is)

        module _ (ps : List ℕ) (rows' : List ℤ) (many' : ℕ) (drawn' : List ℕ) (parted : Parted ts fs 3 0 rows many drawn (length fs) ps rows' many' drawn') (sparing : Sparing ts drawn (default_sizes ts fs) drawn') where
          still : get_or drawn' t 0 ≡ 0
          still = sparing t (omega (arith, size_is)) ∙ blank

          left : Room rows' many' drawn' 0
          left = parted_room ts fs 3 0 rows many drawn (length fs) ps rows' many' drawn' parted 0 room

          pub made-room : (many' < 4096) × (4 * many' + 4 ≤ length rows')
          made-room = room-unset rows' many' drawn' t (omega (arith, parted.store.six, small)) still left

          module _ (r : ℕ) (rows'' : List ℤ) (many'' : ℕ) (found : r ≡ row_found rows' 0 many' (made_row t v (map pos ps))) (with_it : rows'' ≡ with_row rows' many' r (made_row t v (map pos ps))) (now : many'' ≡ many_after many' r) where
            pub made-default : Drew ts rows many drawn 0 (default_of ts t) rows'' many'' (set drawn' t (r + 1)) r
            made-default =
                let whole : made t v (to_parts (parts_over ts rows many fs 3 0)) ≡ default_of ts t =
                ap (λ (l : List Message). made t v (to_parts l)) (fill_past (default_of ts) fs 3 (message_at ts rows many 0) (fields-three forms fit t v)) ∙ sym (default-made forms fit t h n).1 in
                default_noted ts rows many drawn t h small rows'' many'' drawn' r still
                (subst (λ (m : Message). Drew ts rows many drawn 1 m rows'' many'' drawn' r) whole
                (drew-made ts t v 3 0 rows many drawn ps rows' many' drawn' parted (fields-three forms fit t v) (variant-small forms fit t v h default-inside) default-inside
                (fill_typed ts fit.accepted fs (sort-inside forms fit t v) 3 (message_at ts rows many 0) (λ l. absurd (omega (arith, fields-three forms fit t v)))) made-room.1 0 (λ i l. absurd (omega arith)) r rows'' many'' found with_it now))

            pub made-sparing : Sparing ts drawn (message_size (default_of ts t)) (set drawn' t (r + 1))
            made-sparing = noted_sparing ts rows many drawn t h small rows'' many'' drawn' r (λ u l. sparing u (omega (arith, size_is)))
