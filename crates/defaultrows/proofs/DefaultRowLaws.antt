-- The row of a default: it is noted once drawn, which pays for the row; and defaults that are larger are not touched.
-- Assumes nothing.
use mathlib.Core.Path.{◌≡◌, ap, sym, ◌∙◌}
use mathlib.Core.Bool.{Bool, true, false}
use mathlib.Core.List.{List, [], ◌∷◌}
use Prim.Native.Nat.{ℕ, zero, suc, ◌+◌, ◌*◌, ◌≤◌, ◌<◌, ◌-◌}
use native.Mathlib.Numerals.{add-one}
use native.Mathlib.Omega.{arith}
use lib.Dec.{eqb}
use lib.IntN.{ℤ}
use lib.ListN.{length, get_or, set, length-set}
use lib.Seq.{get_or-set_other, get_or-set_same}
use borrow.Author.Tests.{eqb-true, eqb-false, eq-eqb, ne_eqb}
use Rattle.laws.specs.Lists.{cons_if, filter}
use Rattle.laws.proofs.Bools.{by_test}
use Rattle.guard.specs.Types.{Types, default_of}
use Rattle.guard.proofs.MessageLaws.{message_size}
use Rattle.rowstore.specs.Store.{message_at}
use Rattle.drawnrows.specs.Drawing.{Drew, Room, Sparing, Store, unset}
use Rattle.drawnrows.proofs.DrawnLaws.{drew_nothing}

-- an entry set is one less that is unset
pub unset_set : (drawn : List ℕ) (t x : ℕ) → t < length drawn → get_or drawn t 0 ≡ 0 → suc (unset (set drawn t (suc x))) ≡ unset drawn
unset_set [] t x h e = absurd (omega arith)
unset_set (y ∷ ys) zero x h e =
    ap (λ (b : Bool). suc (length (cons_if b (suc x) (filter (λ x. eqb x 0) ys)))) (ne_eqb (suc x) 0 (λ k. omega arith))
    ∙ sym (ap (λ (b : Bool). length (cons_if b y (filter (λ x. eqb x 0) ys))) (eq-eqb y 0 e))
unset_set (y ∷ ys) (suc t) x h e = go (eqb y 0) (unset_set ys t x (omega arith) e)
  where
    go : (b : Bool) → suc (unset (set ys t (suc x))) ≡ unset ys → suc (length (cons_if b y (filter (λ x. eqb x 0) (set ys t (suc x))))) ≡ length (cons_if b y (filter (λ x. eqb x 0) ys))
    go true q = ap suc q
    go false q = q

-- where an entry is unset, there is room for its row
pub room-unset : (rows : List ℤ) (many : ℕ) (drawn : List ℕ) (t : ℕ) → t < length drawn → get_or drawn t 0 ≡ 0 → Room rows many drawn 0 → (many < 4096) × (4 * many + 4 ≤ length rows)
room-unset rows many drawn t h e room = (omega (arith, unset_set drawn t 0 h e, room.few), omega (arith, unset_set drawn t 0 h e, room.long))

-- a default drawn before
pub default-known : (ts : Types) (rows : List ℤ) (many : ℕ) (drawn : List ℕ) (t : ℕ) → Store ts rows many drawn → 0 < get_or drawn t 0 → Drew ts rows many drawn 0 (default_of ts t) rows many drawn (get_or drawn t 0 - 1)
default-known ts rows many drawn t s h =
    let e : get_or drawn t 0 ≡ suc (get_or drawn t 0 - 1) = omega arith in
    let (_, l, m) = s.known t (get_or drawn t 0 - 1) e in
    drew_nothing ts rows many drawn (get_or drawn t 0 - 1) (default_of ts t) s l m

module _ (ts : Types) (rows : List ℤ) (many : ℕ) (drawn : List ℕ) (t : ℕ) (inside : t < length ts) (small : t < 6) (rows' : List ℤ) (many' : ℕ) (drawn' : List ℕ) (r : ℕ) where
  -- the new row is noted
  pub default_noted : get_or drawn' t 0 ≡ 0 → Drew ts rows many drawn 1 (default_of ts t) rows' many' drawn' r → Drew ts rows many drawn 0 (default_of ts t) rows' many' (set drawn' t (r + 1)) r
  default_noted e d =
      let long : t < length drawn' = omega (arith, d.store.six) in
      record {
        store = record { stored = d.store.stored; six = length-set drawn' t (r + 1) ∙ d.store.six; known = known long };
        grown = d.grown;
        cost = omega (arith, unset_set drawn' t r long e, d.cost, ap (λ (x : ℕ). unset (set drawn' t x)) (add-one r));
        there = d.there;
        message = d.message;
        under = d.under;
      }
    where
      known : t < length drawn' → (u x : ℕ) → get_or (set drawn' t (r + 1)) u 0 ≡ suc x → (u < length ts) × (x < many') × (message_at ts rows' many' x ≡ default_of ts u)
      known long u x q =
          by_test (eqb u t)
          (λ b. let at : u ≡ t = eqb-true u t b in
          let is : x ≡ r = omega (arith, sym (get_or-set_same drawn' t (r + 1) 0 long) ∙ ap (λ (k : ℕ). get_or (set drawn' t (r + 1)) k 0) (sym at) ∙ q) in
          (omega arith, omega (arith, d.there), ap (message_at ts rows' many') is ∙ d.message ∙ ap (default_of ts) (sym at)))
          (λ b. d.store.known u x (sym (get_or-set_other drawn' t u (r + 1) 0 (eqb-false u t b)) ∙ q))

  -- no larger default is touched
  pub noted_sparing : Sparing ts drawn (message_size (default_of ts t)) drawn' → Sparing ts drawn (message_size (default_of ts t)) (set drawn' t (r + 1))
  noted_sparing a u l = get_or-set_other drawn' t u (r + 1) 0 (λ e. omega (arith, ap (λ (k : ℕ). message_size (default_of ts k)) e)) ∙ a u l

-- an entry is at most the number of rows
pub known-most : (ts : Types) (rows : List ℤ) (many : ℕ) (drawn : List ℕ) (t : ℕ) → Store ts rows many drawn → get_or drawn t 0 ≤ many
known-most ts rows many drawn t s =
    by_test (eqb (get_or drawn t 0) 0) (λ b. omega (arith, eqb-true (get_or drawn t 0) 0 b))
    (λ b. let n : ¬ (get_or drawn t 0 ≡ 0) = eqb-false (get_or drawn t 0) 0 b in
    let e : get_or drawn t 0 ≡ suc (get_or drawn t 0 - 1) = omega arith in
    omega (arith, (s.known t (get_or drawn t 0 - 1) e).1))
