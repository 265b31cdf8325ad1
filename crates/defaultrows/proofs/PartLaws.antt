-- The rows of a message's parts, one after the other; and which defaults are drawn for them. Assumes nothing.
use mathlib.Core.Path.{◌≡◌, refl, ap, sym, ◌∙◌, subst}
use mathlib.Core.List.{List, [], ◌∷◌}
use Prim.Native.Nat.{ℕ, zero, suc, ◌+◌, ◌≤◌, ◌<◌}
use native.Mathlib.Omega.{arith}
use lib.Dec.{eqb, ltb}
use lib.IntN.{ℤ}
use lib.ListN.{length, get_or, set, length-set}
use lib.Seq.{get_or-set_other, get_or-set_same}
use borrow.Author.Tests.{eqb-true, eqb-false, ltb-true, ltb-false}
use Rattle.laws.proofs.Bools.{by_test}
use Rattle.guard.specs.Message.{Message, no_message}
use Rattle.guard.specs.Types.{Types, Variant, default_of}
use Rattle.guard.proofs.MessageLaws.{message_size}
use Rattle.rowstore.specs.Store.{message_at}
use Rattle.rowstore.proofs.StoreLaws.{grown-itself, grown-message, grown_twice}
use Rattle.drawnrows.specs.Drawing.{Drew, Given, Parted, Room, Sparing, Store, Under, default_sizes, parts_over}
use Rattle.drawnrows.proofs.DrawnLaws.{drew_nothing, under-kept}
use Rattle.drawnrows.proofs.FillLaws.{default-size, fill_given, fill_other}

module _ (ts : Types) (fs : Variant) (c row : ℕ) (rows : List ℤ) (many : ℕ) (drawn : List ℕ) where
  no-parts : (q : ℕ) → ◌≡◌ {A = ℕ} (get_or (0 ∷ 0 ∷ 0 ∷ []) q 0) 0
  no-parts zero = refl
  no-parts (suc zero) = refl
  no-parts (suc (suc zero)) = refl
  no-parts (suc (suc (suc q))) = refl

  pub parted_none : Store ts rows many drawn → Parted ts fs c row rows many drawn 0 (0 ∷ 0 ∷ 0 ∷ []) rows many drawn
  parted_none s =
      record {
        store = s;
        grown = grown-itself rows many;
        cost = omega arith;
        three = refl;
        low = λ q h. absurd (omega arith);
        shows = λ q h. absurd (omega arith);
        given = λ h. absurd (omega arith);
        unused = λ q h. no-parts q;
        under = λ i a b. absurd (omega arith);
      }

  module _ (p : ℕ) (ps : List ℕ) (rows' : List ℤ) (many' : ℕ) (drawn' : List ℕ) (parted : Parted ts fs c row rows many drawn p ps rows' many' drawn') where
    -- what room is left
    pub parted_room : (k : ℕ) → Room rows many drawn k → Room rows' many' drawn' k
    parted_room k room = record { few = omega (arith, parted.cost, room.few); long = omega (arith, parted.cost, parted.grown.long, room.long) }

    module _ (fits : p < 3) (r : ℕ) where
      here-is : get_or (set ps p r) p 0 ≡ r
      here-is = get_or-set_same ps p r 0 (omega (arith, parted.three))

      other-is : (q : ℕ) → ¬ (q ≡ p) → get_or (set ps p r) q 0 ≡ get_or ps q 0
      other-is q n = get_or-set_other ps p q r 0 n

      -- what holds of the parts before and of this one
      up_to : (P : ℕ → ℕ → Type 0) → ((q : ℕ) → q < p → P q (get_or ps q 0)) → P p r → (q : ℕ) → q < p + 1 → P q (get_or (set ps p r) q 0)
      up_to P before this q h =
          by_test (eqb q p) (λ b. subst (λ (k : ℕ). P k (get_or (set ps p r) k 0)) (sym (eqb-true q p b)) (subst (P p) (sym here-is) this))
          (λ b. subst (P q) (sym (other-is q (eqb-false q p b))) (before q (omega (arith, eqb-false q p b))))

      -- the next part
      parted_next : (rows'' : List ℤ) (many'' : ℕ) (drawn'' : List ℕ) → Drew ts rows' many' drawn' 0 (get_or (parts_over ts rows many fs c row) p no_message) rows'' many'' drawn'' r → (c ≡ p → r ≡ row)
          → Parted ts fs c row rows many drawn (p + 1) (set ps p r) rows'' many'' drawn''
      parted_next rows'' many'' drawn'' d given =
          record {
            store = d.store;
            grown = grown_twice rows many rows' many' rows'' many'' parted.grown d.grown;
            cost = omega (arith, parted.cost, d.cost);
            three = length-set ps p r ∙ parted.three;
            low = up_to (λ q x. x < many'') (λ q h. omega (arith, parted.low q h, d.grown.more)) d.there;
            shows = up_to (λ q x. message_at ts rows'' many'' x ≡ get_or (parts_over ts rows many fs c row) q no_message)
                (λ q h. grown-message ts rows' many' rows'' many'' d.grown (get_or ps q 0) (parted.low q h) ∙ parted.shows q h) d.message;
            given = λ h. up_to (λ q x. c ≡ q → x ≡ row) (λ q l e. subst (λ (k : ℕ). get_or ps k 0 ≡ row) e (parted.given (omega arith))) given c h refl;
            unused = λ q h. other-is q (λ e. omega arith) ∙ parted.unused q (omega arith);
            under = λ i a b. by_test (ltb i many')
                (λ e. let (q, l, u) = parted.under i a (ltb-true _ _ e) in (
                  q,
                  omega arith,
                  subst (λ (x : ℕ). Under ts rows'' x i) (sym (other-is q (λ k. omega arith)))
                      (under-kept ts rows' many' parted.store.stored rows'' many'' d.grown (get_or ps q 0) i (parted.low q l) u),
                ))
                (λ e. (p, omega arith, subst (λ (x : ℕ). Under ts rows'' x i) (sym here-is) (d.under i (ltb-false i many' e) b)));
          }

    -- the row given
    pub parted_given : p < 3 → p < length fs → p ≡ c → Given ts rows many fs c row → Parted ts fs c row rows many drawn (p + 1) (set ps p row) rows' many' drawn'
    parted_given fits h e given =
        let l : c < length fs = omega arith in
        let (in_rows, typed) = given l in
        parted_next fits row rows' many' drawn'
        (drew_nothing ts rows' many' drawn' row _ parted.store (omega (arith, parted.grown.more))
        (grown-message ts rows many rows' many' parted.grown row in_rows
        ∙ sym (ap (λ (k : ℕ). get_or (parts_over ts rows many fs c row) k no_message) e ∙ fill_given (default_of ts) fs c (message_at ts rows many row) no_message l)))
        (λ k. refl)

    -- a default
    pub parted_default : p < 3 → p < length fs → ¬ (p ≡ c) → (x : ℕ) → x ≡ get_or fs p 0 → (r : ℕ) (rows'' : List ℤ) (many'' : ℕ) (drawn'' : List ℕ) → Drew ts rows' many' drawn' 0 (default_of ts x) rows'' many'' drawn'' r
        → Parted ts fs c row rows many drawn (p + 1) (set ps p r) rows'' many'' drawn''
    parted_default fits h n x e r rows'' many'' drawn'' d =
        parted_next fits r rows'' many'' drawn''
        (subst (λ (m : Message). Drew ts rows' many' drawn' 0 m rows'' many'' drawn'' r) (ap (default_of ts) e ∙ sym (fill_other (default_of ts) fs c p (message_at ts rows many row) no_message h n)) d)
        (λ q. absurd (n (sym q)))

-- ---- defaults that are drawn for parts are smaller

module _ (ts : Types) (fs : Variant) (q : ℕ) (h : q < length fs) (x : ℕ) (e : x ≡ get_or fs q 0) where
  pub part_smaller : message_size (default_of ts x) ≤ default_sizes ts fs
  part_smaller = omega (arith, default-size ts fs q h, ap (λ (k : ℕ). message_size (default_of ts k)) e)

  pub sparing-next : (drawn drawn' drawn'' : List ℕ) → Sparing ts drawn (default_sizes ts fs) drawn' → Sparing ts drawn' (message_size (default_of ts x)) drawn'' → Sparing ts drawn (default_sizes ts fs) drawn''
  sparing-next drawn drawn' drawn'' a b u l = b u (omega (arith, part_smaller)) ∙ a u l
