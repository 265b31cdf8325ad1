-- Bytes that fit and bytes that don't, and bytes put behind those that were put. Assumes nothing.
use mathlib.Core.Path.{◌≡◌, refl, ap, ap₂, ◌∙◌, sym, subst}
use mathlib.Core.List.{List, [], ◌∷◌, ◌++◌, append_assoc, append-nil}
use Prim.Native.Nat.{ℕ, zero, suc, ◌+◌}
use native.Mathlib.Omega.{arith}
use lib.ListN.{length, take, drop, length-append, length-drop}
use lib.Seq.{drop_at, drop-drop, length-take-le, take_at}
use Rattle.std.specs.Prelude.{Option, Some, None}
use Rattle.bytebuffer.specs.declared.Writer.{Writer}
use Rattle.bytebuffer.specs.Appends.{Appends}
use Rattle.bytebuffer.specs.Puts.{Outgrow, Stand}

module _ {bytes out out' : List ℕ} {at end : ℕ} (s : Stand bytes out at end out') where
  head : length (take at out ++ bytes) ≡ end
  head = length-append (take at out) bytes ∙ omega (arith, length-take-le at out (omega (arith, s.fit)), s.ends)

  pub long : length out' ≡ length out
  long = ap length s.is ∙ length-append (take at out ++ bytes) (drop (at + length bytes) out) ∙ omega (arith, head, length-drop (at + length bytes) out, s.fit, s.ends)

  front : take end out' ≡ take at out ++ bytes
  front = ap (take end) s.is ∙ take_at (take at out ++ bytes) _ end head

  back : drop end out' ≡ drop end out
  back = ap (drop end) s.is ∙ drop_at (take at out ++ bytes) _ end head ∙ ap (λ (k : ℕ). drop k out) (sym s.ends)

  module _ (more : List ℕ) where
    both : at + length (bytes ++ more) ≡ end + length more
    both = omega (arith, length-append bytes more, s.ends)

    rest : drop (end + length more) out' ≡ drop (at + length (bytes ++ more)) out
    rest = sym (drop-drop (length more) end out') ∙ ap (drop (length more)) back ∙ drop-drop (length more) end out ∙ ap (λ (k : ℕ). drop k out) (sym both)

  -- more bytes behind them
  pub stand-more : {more : List ℕ} {end' : ℕ} {out'' : List ℕ} → Stand more out' end end' out'' → Stand (bytes ++ more) out at end' out''
  stand-more {more} v =
      record {
        fit = omega (arith, both more, v.fit, long);
        ends = v.ends ∙ sym (both more);
        is = v.is ∙ ap₂ (λ (a b : List ℕ). a ++ more ++ b) front (rest more) ∙ ap (λ (l : List ℕ). l ++ drop (at + length (bytes ++ more)) out) (append_assoc (take at out) bytes more);
      }

  pub outgrow-more : {more : List ℕ} {out'' : List ℕ} → Outgrow more out' end out'' → Outgrow (bytes ++ more) out at out''
  outgrow-more {more} v = record { long = v.long ∙ long; over = omega (arith, both more, v.over, long) }

-- ---- what a writer appends

pub nothing : (w : Writer) → Appends [] w (Some tt) w
nothing w = let e : w.at ≡ w.at + 0 = omega arith in
    record {
      same = refl;
      behind = record { fit = omega (arith, w.at_in_bounds); ends = e; is = sym (whole w.at w.out.now) ∙ ap₂ (λ (l : List ℕ) (k : ℕ). l ++ drop k w.out.now) (sym (append-nil (take w.at w.out.now))) e };
    }
  where
    whole : (k : ℕ) (xs : List ℕ) → take k xs ++ drop k xs ≡ xs
    whole zero xs = refl
    whole (suc k) [] = refl
    whole (suc k) (x ∷ xs) = ap (λ (l : List ℕ). x ∷ l) (whole k xs)

module _ {bytes : List ℕ} {w w' : Writer} where
  pub same-bytes : {r : Option (Unit {0})} {other : List ℕ} → bytes ≡ other → Appends bytes w r w' → Appends other w r w'
  same-bytes {r} e p = subst (λ (bs : List ℕ). Appends bs w r w') e p

  -- more bytes behind them
  pub and_then : Appends bytes w (Some tt) w' → {more : List ℕ} {r : Option (Unit {0})} {w'' : Writer} → Appends more w' r w'' → Appends (bytes ++ more) w r w''
  and_then p {r = Some u} q = record { same = q.same ∙ p.same; behind = stand-more p.behind q.behind }
  and_then p {r = None} q = record { same = q.same ∙ p.same; behind = outgrow-more p.behind q.behind }

  -- what doesn't fit doesn't fit with more behind it
  pub still_full : (more : List ℕ) → Appends bytes w None w' → Appends (bytes ++ more) w None w'
  still_full more p = record { same = p.same; behind = record { long = p.behind.long; over = omega (arith, length-append bytes more, p.behind.over) } }

  -- from the start of a buffer
  pub from_start : {out : List ℕ} → w.out.now ≡ out → w.at ≡ 0 → Appends bytes w (Some tt) w' → Stand bytes out 0 w'.at w'.out.now
  from_start {out} e z p = subst (λ (k : ℕ). Stand bytes out k w'.at w'.out.now) z (subst (λ (o : List ℕ). Stand bytes o w.at w'.at w'.out.now) e p.behind)

  pub full_from_start : {out : List ℕ} → w.out.now ≡ out → w.at ≡ 0 → Appends bytes w None w' → Outgrow bytes out 0 w'.out.now
  full_from_start {out} e z p = subst (λ (k : ℕ). Outgrow bytes out k w'.out.now) z (subst (λ (o : List ℕ). Outgrow bytes o w.at w'.out.now) e p.behind)
