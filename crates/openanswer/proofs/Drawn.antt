-- Rows drawn show the same messages when what lies past them is overwritten: what is reached from a place lies below n, so
-- nothing looks past the last row or the last place. Assumes nothing.
use mathlib.Core.Path.{◌≡◌, refl, ap, ap₂, sym, subst, ◌∙◌}
use mathlib.Core.Bool.{true, false≢true}
use mathlib.Core.List.{List, [], ◌∷◌, ◌++◌}
use Prim.Native.Nat.{ℕ, zero, suc, ◌+◌, ◌*◌, ◌-◌, ◌≤◌, ◌<◌}
use native.Mathlib.Omega.{arith}
use lib.Dec.{ltb}
use lib.IntN.{ℤ, pos, negsuc}
use lib.ListN.{length, get_or, take, drop, replicate, length-append, get_or-eq_default}
use lib.Seq.{get_or-take}
use borrow.Author.Tests.{ltb-false, ltb-true}
use Rattle.laws.specs.Lists.{from}
use Rattle.laws.proofs.Bools.{and_right, by_test}
use Rattle.laws.proofs.Lists.{from_bounds, map_cong}
use Rattle.guard.specs.Guard.{Guard, Row, Row.built, Row.constant, Row.field, Row.variable, no_row, row_at}
use Rattle.guard.specs.Limits.{Limits, row_width}
use Rattle.guard.specs.Meaning.{AllHold, Belongs, Holds, value_of, values, values_from}
use Rattle.guard.specs.Message.{Message, no_message}
use Rattle.guard.specs.Shown.{Reached, Reached.part, Reached.place, Shows, decode, is_below, natural, part_count, parts_fit, row_fits, row_numbers, shown}
use Rattle.guard.specs.Types.{Types, Variant}
use Rattle.rowstore.proofs.StoreLaws.{SameRows, below-is, decode-kept, fewer, has_variant, part-fits, row_kept, tag_fields}
use Rattle.messages.specs.Messages.{Draws, rows_enough}

-- ---- values look at the assignment where there are rows

module _ (ts : Types) (ρ σ : ℕ → Message) where
  value_same : (vals : List Message) (r : Row) → ρ (length vals) ≡ σ (length vals) → value_of ts ρ (length vals) vals r ≡ value_of ts σ (length vals) vals r
  value_same vals (variable t) e = e
  value_same vals (constant t z) e = refl
  value_same vals (built t v ps) e = refl
  value_same vals (field t a v p) e = refl

  values_same : (rs : List Row) (vals : List Message) → ((i : ℕ) → i < length vals + length rs → ρ i ≡ σ i) → values_from ts ρ vals rs ≡ values_from ts σ vals rs
  values_same [] vals h = refl
  values_same (r ∷ rs) vals h =
      let next = value_of ts σ (length vals) vals r ∷ [] in
      ap (λ (m : Message). values_from ts ρ (vals ++ (m ∷ [])) rs) (value_same vals r (h (length vals) (omega arith)))
      ∙ values_same rs (vals ++ next) (λ i l. h i (omega (arith, l, length-append vals next)))

module _ (g : Guard) (ρ σ : ℕ → Message) (same : (i : ℕ) → i < length g.rows → ρ i ≡ σ i) where
  pub same-values : values g ρ ≡ values g σ
  same-values = values_same g.types ρ σ g.rows [] (λ i h. same i (omega arith))

  -- past the last row there is no variable
  pub same-holds : Holds g ρ → Holds g σ
  same-holds h =
      record {
        assigns =
            record {
              belongs = λ i t e.
                  by_test (ltb i (length g.rows)) (λ b. subst (λ (m : Message). Belongs g.types m t) (same i (ltb-true i _ b)) (h.assigns.belongs i t e))
                  (λ b. let out : row_at g.rows i ≡ no_row = get_or-eq_default g.rows no_row {n = i} (ltb-false i _ b) in
                  let clash : constant 0 (pos 0) ≡ variable t = sym out ∙ e in
                  let z : ◌≡◌ {A = ℕ} 0 1 = cc in absurd (omega arith));
            };
        literals = subst (λ (vals : List Message). AllHold vals g.literals) same-values h.literals;
      }

-- ---- the parts of a row that fits lie below it

parts_below : (ms : List Message) (i : ℕ) (fs : Variant) (xs : List ℤ) (p : ℕ) → parts_fit ms i fs xs ≡ true → p < length fs → natural (get_or xs p (pos 0)) < i
parts_below ms i [] xs p e h = absurd (omega arith)
parts_below ms i (f ∷ fs) [] p e h = absurd (false≢true e)
parts_below ms i (f ∷ fs) (x ∷ xs) zero e h = (part-fits ms i f fs x xs e).1
parts_below ms i (f ∷ fs) (x ∷ xs) (suc p) e h = parts_below ms i fs xs p (part-fits ms i f fs x xs e).3 (omega arith)

part-below : (ts : Types) (ms : List Message) (i : ℕ) (xs : List ℤ) (p : ℕ) → row_fits ts ms i xs ≡ true → p < part_count ts xs → natural (get_or xs (suc p) (pos 0)) < i
part-below ts ms i [] p e h = absurd (omega arith)
part-below ts ms i (negsuc t ∷ xs) p e h = absurd (omega arith)
part-below ts ms i (pos k ∷ xs) p e h = parts_below ms i (tag_fields ts k) xs p (and_right (has_variant ts k) _ e) h

-- ---- two pairs of buffers that agree on the rows and the places

module _ (g : Guard) (n : ℕ) (rows₀ places₀ rows places rows' places' : List ℤ) (drawn : Draws g n rows₀ places₀ rows places)
    (same_rows : SameRows rows' rows n) (same_places : take (length g.rows) places' ≡ take (length g.rows) places) where
  abbrev ts : Types
  ts = g.types

  abbrev many : ℕ
  many = length g.rows

  place_kept : (i : ℕ) → i < many → get_or places' i (pos 0) ≡ get_or places i (pos 0)
  place_kept i h = sym (get_or-take many places' i (pos 0) h) ∙ ap (λ (l : List ℤ). get_or l i (pos 0)) same_places ∙ get_or-take many places i (pos 0) h

  message-kept : decode ts rows' n ≡ decode ts rows n
  message-kept = decode-kept rows' rows ts n same_rows

  shown-kept : (i : ℕ) → i < many → shown g n rows places i ≡ shown g n rows' places' i
  shown-kept i h = ap₂ (λ (ms : List Message) (x : ℤ). get_or ms (natural x) no_message) (sym message-kept) (sym (place_kept i h))

  -- what is reached lies below n, and is reached in the other buffers too
  reached-kept : (i : ℕ) → Reached g rows places i → (i < n) × Reached g rows' places' i
  reached-kept _ (place i h) = ((below-is n (get_or places i (pos 0)) (drawn.placed i h)).1, subst (λ (x : ℤ). Reached g rows' places' (natural x)) (place_kept i h) (place i h))
  reached-kept _ (part r p at h) =
      let (low, there) = reached-kept r at in
      let same : row_numbers rows' r ≡ row_numbers rows r = row_kept rows' rows r n low same_rows in (
        omega (arith, low, part-below ts (decode ts rows r) r (row_numbers rows r) p (drawn.fit r low) h),
        subst (λ (xs : List ℤ). Reached g rows' places' (natural (get_or xs (suc p) (pos 0)))) same (part r p there (subst (λ (xs : List ℤ). p < part_count ts xs) (sym same) h)),
      )

  -- with zeros past the last row and the last place, they show the messages
  pub drawn-shows : (limits : Limits) → rows_enough (length g.types) (length g.rows) ≤ limits.rows → drop (row_width * n) rows' ≡ replicate (length rows' - row_width * n) (pos 0) → drop many places' ≡ replicate (length places' - many) (pos 0) → Shows limits g n rows' places'
  drawn-shows limits most rest_rows rest_places =
      record {
        few = omega (arith, drawn.few);
        fit = λ i h. ap₂ (λ (ms : List Message) (xs : List ℤ). row_fits ts ms i xs) (decode-kept rows' rows ts i (fewer rows' rows i n (omega arith) same_rows)) (row_kept rows' rows i n h same_rows) ∙ drawn.fit i h;
        apart = λ i j h k e. drawn.apart i j h k (subst (λ (ms : List Message). get_or ms i no_message ≡ get_or ms j no_message) message-kept e);
        reached = λ i h. (reached-kept i (drawn.reached i h)).1;
        placed = λ i h. ap (is_below n) (place_kept i h) ∙ drawn.placed i h;
        valued =
            sym (same-values g (shown g n rows places) (shown g n rows' places') shown-kept) ∙ drawn.valued
            ∙ map_cong (shown g n rows places) (shown g n rows' places') (from many 0) (λ i m. shown-kept i (omega (arith, (from_bounds many 0 i m).1)));
        holds = same-holds g (shown g n rows places) (shown g n rows' places') shown-kept drawn.holds;
        rest_rows = rest_rows;
        rest_places = rest_places;
      }
