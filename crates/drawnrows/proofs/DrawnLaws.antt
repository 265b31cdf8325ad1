-- Rows under a row, and one drawing after the other: the costs add, and what was drawn first lies under what was drawn last
-- if its row does. Rows keep their parts while others come. Assumes nothing.
use mathlib.Core.Path.{◌≡◌, refl, sym, subst}
use mathlib.Core.Bool.{true, false≢true}
use mathlib.Core.List.{List, [], ◌∷◌}
use Prim.Native.Nat.{ℕ, zero, suc, ◌+◌, ◌<◌}
use native.Mathlib.Omega.{arith}
use lib.Dec.{ltb}
use lib.IntN.{ℤ, pos, negsuc}
use lib.ListN.{length, get_or, replicate, length-replicate}
use borrow.Author.Tests.{ltb-true, ltb-false}
use Rattle.laws.proofs.Bools.{and_right, by_test}
use Rattle.guard.specs.Message.{Message}
use Rattle.guard.specs.Shown.{decode, natural, part_count, parts_fit, row_fits, row_numbers}
use Rattle.guard.specs.Types.{Types, Variant}
use Rattle.rowstore.specs.Store.{Grown, Stored, message_at}
use Rattle.rowstore.proofs.RowLaws.{part_low}
use Rattle.rowstore.proofs.StoreLaws.{grown-itself, grown-message, grown_twice, has_variant, nothing_stored, part-fits, tag_fields}
use Rattle.drawnrows.specs.Drawing.{Drew, Room, Store, Under, Under.here, Under.part}

-- ---- parts lie lower

part-below : (ts : Types) (ms : List Message) (i : ℕ) (xs : List ℤ) (p : ℕ) → row_fits ts ms i xs ≡ true → p < part_count ts xs → natural (get_or xs (suc p) (pos 0)) < i
part-below ts ms i [] p f h = absurd (omega arith)
part-below ts ms i (negsuc t ∷ xs) p f h = absurd (omega arith)
part-below ts ms i (pos k ∷ xs) p f h = part_low ms i (tag_fields ts k) xs p h (and_right (has_variant ts k) _ f)

-- ---- rows under a row

-- a row under a row under r lies under r
pub under_trans : {ts : Types} {rows : List ℤ} {r j i : ℕ} → Under ts rows r j → Under ts rows j i → Under ts rows r i
under_trans a here = a
under_trans a (part k p b l) = part k p (under_trans a b) l

module _ (ts : Types) (rows : List ℤ) (many : ℕ) (stored : Stored ts rows many) where
  -- the rows under a row of the store are rows of the store
  pub under-inside : (r i : ℕ) → r < many → Under ts rows r i → i < many
  under-inside r i h here = h
  under-inside r i h (part k p b l) =
      let n : k < many = under-inside r k h b in
      omega (arith, part-below ts (decode ts rows k) k (row_numbers rows k) p (stored.fit k n) l)

  -- and stay under it while others come
  module _ (rows' : List ℤ) (many' : ℕ) (grown : Grown rows many rows' many') where
    pub under-kept : (r i : ℕ) → r < many → Under ts rows r i → Under ts rows' r i
    under-kept r i h here = here
    under-kept r i h (part k p b l) =
        let e : row_numbers rows k ≡ row_numbers rows' k = sym (grown.kept k (under-inside r k h b)) in
        subst (λ (xs : List ℤ). Under ts rows' r (natural (get_or xs (suc p) (pos 0)))) (sym e) (part k p (under-kept r k h b) (subst (λ (xs : List ℤ). p < part_count ts xs) e l))

-- ---- drawings

-- nothing is drawn yet
pub store_nothing : (ts : Types) (rows : List ℤ) → Store ts rows 0 (replicate 6 0)
store_nothing ts rows = record { stored = nothing_stored ts rows; six = length-replicate {A = ℕ} 6 0; known = λ t x e. absurd (omega (arith, zeros 6 t, e)) }
  where
    zeros : (n t : ℕ) → ◌≡◌ {A = ℕ} (get_or (replicate n 0) t 0) 0
    zeros zero t = refl
    zeros (suc n) zero = refl
    zeros (suc n) (suc t) = zeros n t

-- a row that is there already
pub drew_nothing : (ts : Types) (rows : List ℤ) (many : ℕ) (drawn : List ℕ) (r : ℕ) (m : Message) → Store ts rows many drawn → r < many → message_at ts rows many r ≡ m
    → Drew ts rows many drawn 0 m rows many drawn r
drew_nothing ts rows many drawn r m s h e =
    record { store = s; grown = grown-itself rows many; cost = omega arith; there = h; message = e; under = λ i a b. absurd (omega arith) }

module _ {ts : Types} {rows : List ℤ} {many : ℕ} {drawn : List ℕ} {k : ℕ} {m : Message} {rows' : List ℤ} {many' : ℕ} {drawn' : List ℕ} {r : ℕ}
    (first : Drew ts rows many drawn k m rows' many' drawn' r) where
  -- the messages before are as they were
  pub drew-kept : (i : ℕ) → i < many → message_at ts rows' many' i ≡ message_at ts rows many i
  drew-kept = grown-message ts rows many rows' many' first.grown

  -- the rows under a row before are as they were
  pub drew-under : Stored ts rows many → (s i : ℕ) → s < many → Under ts rows s i → Under ts rows' s i
  drew-under stored = under-kept ts rows many stored rows' many' first.grown

  -- what room is left
  pub drew-room : (l : ℕ) → Room rows many drawn (k + l) → Room rows' many' drawn' l
  drew-room l room = record { few = omega (arith, first.cost, room.few); long = omega (arith, first.cost, first.grown.long, room.long) }

  -- a drawing with a row that has the first under it
  pub drew-after : {l : ℕ} {m' : Message} {rows'' : List ℤ} {many'' : ℕ} {drawn'' : List ℕ} {r' : ℕ} → Drew ts rows' many' drawn' l m' rows'' many'' drawn'' r' → Under ts rows'' r' r
      → Drew ts rows many drawn (k + l) m' rows'' many'' drawn'' r'
  drew-after {l = l} {m' = m'} {rows'' = rows''} {many'' = many''} {drawn'' = drawn''} {r' = r'} second u =
      record {
        store = second.store;
        grown = grown_twice rows many rows' many' rows'' many'' first.grown second.grown;
        cost = omega (arith, first.cost, second.cost);
        there = second.there;
        message = second.message;
        under = λ i a b. by_test (ltb i many')
            (λ e. under_trans u (under-kept ts rows' many' first.store.stored rows'' many'' second.grown r i first.there (first.under i a (ltb-true _ _ e))))
            (λ e. second.under i (ltb-false i many' e) b);
      }
