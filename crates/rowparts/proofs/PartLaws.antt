-- The parts of a built row, one at a time: what is left to read, behind the parts read so far, is the whole. Assumes nothing.
use mathlib.Core.Path.{◌≡◌, refl, ap, sym, ◌∙◌}
use mathlib.Core.Bool.{Bool}
use mathlib.Core.List.{List, [], ◌∷◌, ◌++◌, append_assoc, append-nil}
use Prim.Native.Nat.{ℕ, suc, ◌+◌, ◌*◌, ◌-◌, ◌≤◌, ◌<◌}
use native.Mathlib.Omega.{arith}
use lib.Dec.{eqb}
use lib.ListN.{length, drop, get_or, take, set, length-append}
use lib.Seq.{get_or-take, length-take-le}
use borrow.Author.Tests.{eq-eqb, ne_eqb}
use Rattle.guard.specs.Number.{Parsed, Parsed.accepted, Parsed.refused, Parser, ◌>>=◌, ◌>>◌, and_then, ask, return}
use Rattle.numbers.specs.Reader.{below}
use Rattle.rowparts.proofs.BelowLaws.{below-small}
use Rattle.rowparts.specs.ByTypes.{parts_by}
use Rattle.rowparts.specs.RowParts.{fields_from, padded_parts}
use Rattle.tables.specs.Layout.{pad}
use Rattle.tables.proofs.Columns.{pad-set}

-- parts read before those that a parser gives
abbrev behind : List ℕ → Parsed (List ℕ) → Parsed (List ℕ)
behind got r = and_then (λ ps. return (pad 3 (got ++ ps))) r

-- at the cursor `next`, before field j
pub record PartsSoFar (bytes : List ℕ) (at : ℕ) (us sorts : List ℕ) (w arity : ℕ) (parts : List ℕ) (next j : ℕ) : Type 0 where
  pub got : List ℕ
  pub many : length got ≡ j
  pub column : parts ≡ pad 3 got
  pub within : next ≤ length bytes
  pub left : padded_parts us (fields_from sorts w arity 0) (drop at bytes) ≡ behind got (parts_by us (fields_from sorts w (arity - j) j) (drop next bytes))

behind-cons : (xs : List ℕ) (x : ℕ) (r : Parsed (List ℕ)) → behind xs (and_then (λ ys. return (x ∷ ys)) r) ≡ behind (xs ++ (x ∷ [])) r
behind-cons xs x (refused q) = refl
behind-cons xs x (accepted ys rest) = ap (λ (l : List ℕ). accepted (pad 3 l) rest) (sym (append_assoc xs (x ∷ []) ys))

module _ (bytes : List ℕ) (at rows : ℕ) (types sorts : List ℕ) (w arity : ℕ) where
  abbrev us : List ℕ
  us = take rows types

  abbrev whole : Parsed (List ℕ)
  whole = padded_parts us (fields_from sorts w arity 0) (drop at bytes)

  abbrev SoFar : List ℕ → ℕ → ℕ → Type 0
  SoFar parts next j = PartsSoFar bytes at us sorts w arity parts next j

  pub parts-start : at ≤ length bytes → SoFar (0 ∷ 0 ∷ 0 ∷ []) at 0
  parts-start h =
      let z : arity ≡ arity - 0 = omega arith in
      record {
        got = [];
        many = refl;
        column = refl;
        within = h;
        left = ap (λ (k : ℕ). behind [] (parts_by us (fields_from sorts w k 0) (drop at bytes))) z;
      }

  module _ (parts : List ℕ) (next j : ℕ) (s : SoFar parts next j) where
    pub parts-done : arity ≤ j → whole ≡ accepted parts (drop next bytes)
    parts-done h =
        let z : arity - j ≡ 0 = omega arith in
        s.left ∙ ap (λ (k : ℕ). behind s.got (parts_by us (fields_from sorts w k j) (drop next bytes))) z
        ∙ ap (λ (l : List ℕ). accepted (pad 3 l) (drop next bytes)) (append-nil s.got)
        ∙ ap (λ (l : List ℕ). accepted l (drop next bytes)) (sym s.column)

    module _ (few : rows ≤ 24) (long : length types ≡ 24) (more : j < arity) where
      -- from the next part on
      abbrev part_after : ℕ → Parser (List ℕ)
      part_after p = ask 7 (eqb (get_or us p 0) (get_or sorts (3 * w + j) 0)) >> (parts_by us (fields_from sorts w (arity - suc j) (suc j)) >>= λ ps. return (p ∷ ps))

      one_more : whole ≡ behind s.got ((below rows 5 >>= part_after) (drop next bytes))
      one_more =
          let z : arity - j ≡ suc (arity - suc j) = omega arith in
          s.left ∙ ap (λ (k : ℕ). behind s.got (parts_by us (fields_from sorts w k j) (drop next bytes))) z
          ∙ ap (λ (k : ℕ). behind s.got ((below k 5 >>= part_after) (drop next bytes))) (length-take-le rows types (omega arith))

      pub part_stops : (q : ℕ) → below rows 5 (drop next bytes) ≡ refused q → whole ≡ refused q
      part_stops q e = one_more ∙ ap (λ r. behind s.got (and_then part_after r)) e

      module _ (p to : ℕ) (read : below rows 5 (drop next bytes) ≡ accepted p (drop to bytes)) where
        on-part : whole ≡ behind s.got (part_after p (drop to bytes))
        on-part = one_more ∙ ap (λ r. behind s.got (and_then part_after r)) read

        -- the type of the part
        typed : get_or us p 0 ≡ get_or types p 0
        typed = get_or-take rows types p 0 (below-small rows 5 p (drop next bytes) (drop to bytes) read)

        abbrev asked : Bool → Parsed (List ℕ)
        asked b = behind s.got ((ask 7 b >> (parts_by us (fields_from sorts w (arity - suc j) (suc j)) >>= λ ps. return (p ∷ ps))) (drop to bytes))

        pub part_unlike : ¬ (get_or types p 0 ≡ get_or sorts (3 * w + j) 0) → whole ≡ refused 7
        part_unlike h = on-part ∙ ap asked (ne_eqb (get_or us p 0) (get_or sorts (3 * w + j) 0) (λ e. h (sym typed ∙ e)))

        pub part-next : get_or types p 0 ≡ get_or sorts (3 * w + j) 0 → arity ≤ 3 → to ≤ length bytes → SoFar (set parts j p) to (j + 1)
        part-next h fits within =
            let o : suc j ≡ j + 1 = omega arith in
            record {
              got = s.got ++ (p ∷ []);
              many = omega (arith, length-append s.got (p ∷ []), s.many);
              column =
                  ap (λ (c : List ℕ). set c j p) s.column ∙ ap (λ (k : ℕ). set (pad 3 s.got) k p) (sym s.many)
                  ∙ pad-set 0 3 s.got p (omega (arith, s.many));
              within = within;
              left =
                  on-part ∙ ap asked (eq-eqb (get_or us p 0) (get_or sorts (3 * w + j) 0) (typed ∙ h))
                  ∙ behind-cons s.got p (parts_by us (fields_from sorts w (arity - suc j) (suc j)) (drop to bytes))
                  ∙ ap (λ (k : ℕ). behind (s.got ++ (p ∷ [])) (parts_by us (fields_from sorts w (arity - k) k) (drop to bytes))) o;
            }
