-- Parsers that repeat, an element at a time: what is left to read after the elements read so far. Code that reads in a loop
-- keeps "what is left, after what is read, is the whole" as its invariant. Assumes nothing.
use mathlib.Core.Path.{◌≡◌, refl, ap, sym, ◌∙◌}
use mathlib.Core.Bool.{Bool, true, false, ◌&&◌}
use mathlib.Core.List.{List, [], ◌∷◌, ◌++◌, append_assoc, append-nil}
use Prim.Native.Nat.{ℕ, suc, ◌+◌, ◌≤◌, min, ◌-◌}
use native.Mathlib.Omega.{arith}
use lib.Dec.{leb, ltb}
use borrow.Author.Tests.{leb-true, leb-false, lt-ltb, le-ltb}
use Rattle.guard.specs.File.{kind, row_of, rows, types, variant}
use Rattle.guard.specs.Guard.{Row}
use Rattle.guard.specs.Limits.{total_variant_limit, variant_limit}
use Rattle.guard.specs.Number.{Parsed, Parsed.accepted, Parsed.refused, Parser, ◌>>=◌, ◌>>◌, and_then, ask, return, times, unsigned}
use Rattle.guard.specs.Types.{Types, Variant}

module _ {A : Type 0} where
  -- elements read before those that a parser gives
  abbrev pub after : List A → Parsed (List A) → Parsed (List A)
  after xs (refused q) = refused q
  after xs (accepted ys rest) = accepted (xs ++ ys) rest

  pub after_none : (r : Parsed (List A)) → after [] r ≡ r
  after_none (refused q) = refl
  after_none (accepted ys rest) = refl

  after_cons : (xs : List A) (x : A) (r : Parsed (List A)) → after xs (and_then (λ ys. return (x ∷ ys)) r) ≡ after (xs ++ (x ∷ [])) r
  after_cons xs x (refused q) = refl
  after_cons xs x (accepted ys rest) = ap (λ (l : List A). accepted l rest) (sym (append_assoc xs (x ∷ []) ys))

  module _ (p : Parser A) (xs : List A) (k : ℕ) (bs : List ℕ) where
    pub times-done : after xs (times 0 p bs) ≡ accepted xs bs
    times-done = ap (λ (l : List A). accepted l bs) (append-nil xs)

    pub times_stop : (q : ℕ) → p bs ≡ refused q → after xs (times (suc k) p bs) ≡ refused q
    times_stop q e = ap (λ (r : Parsed A). after xs (and_then (λ x. times k p >>= λ ys. return (x ∷ ys)) r)) e

    pub times-next : (x : A) (mid : List ℕ) → p bs ≡ accepted x mid → after xs (times (suc k) p bs) ≡ after (xs ++ (x ∷ [])) (times k p mid)
    times-next x mid e = ap (λ (r : Parsed A). after xs (and_then (λ x. times k p >>= λ ys. return (x ∷ ys)) r)) e ∙ after_cons xs x (times k p mid)

-- ---- types

-- how many variants a type may still have, and one more
abbrev pub room : ℕ → ℕ
room total = suc (min variant_limit (total_variant_limit - total))

-- "for each type V (0 to 16)"; "at most 48": one test
room_test : (total v : ℕ) → total ≤ total_variant_limit → (leb v variant_limit && leb (total + v) total_variant_limit) ≡ ltb v (room total)
room_test total v h = go (leb v variant_limit) (leb (total + v) total_variant_limit) refl refl
  where
    go : (a b : Bool) → leb v variant_limit ≡ a → leb (total + v) total_variant_limit ≡ b → (a && b) ≡ ltb v (room total)
    go true true p q = sym (lt-ltb v (room total) (omega (arith, leb-true v variant_limit p, leb-true (total + v) total_variant_limit q)))
    go true false p q = sym (le-ltb v (room total) (omega (arith, leb-true v variant_limit p, leb-false (total + v) total_variant_limit q)))
    go false b p q = sym (le-ltb v (room total) (omega (arith, leb-false v variant_limit p)))

-- a count of variants, by one limit
abbrev pub variant_count : ℕ → Parser ℕ
variant_count total = unsigned >>= λ v. ask 4 (ltb v (room total)) >> return v

module _ (left many total : ℕ) (fits : total ≤ total_variant_limit) (ts : Types) (bs : List ℕ) where
  -- the types left, from the count of variants on
  abbrev from_count : Parsed ℕ → Parsed Types
  from_count r = and_then (λ v. times v (variant many) >>= λ vs. types left many (total + v) >>= λ us. return (vs ∷ us)) r

  by_count : types (suc left) many total bs ≡ from_count (variant_count total bs)
  by_count = go (unsigned bs)
    where
      go : (r : Parsed ℕ)
          → and_then (λ v. ask 4 (leb v variant_limit && leb (total + v) total_variant_limit) >> (times v (variant many) >>= λ vs. types left many (total + v) >>= λ us. return (vs ∷ us))) r
          ≡ from_count (and_then (λ v. ask 4 (ltb v (room total)) >> return v) r)
      go (refused q) = refl
      go (accepted v mid) =
          ap (λ (b : Bool). and_then (λ (u : Unit {0}). times v (variant many) >>= λ vs. types left many (total + v) >>= λ us. return (vs ∷ us)) (ask 4 b mid)) (room_test total v fits)
          ∙ asked (ltb v (room total))
        where
          asked : (b : Bool) → and_then (λ (u : Unit {0}). times v (variant many) >>= λ vs. types left many (total + v) >>= λ us. return (vs ∷ us)) (ask 4 b mid)
              ≡ from_count (and_then (λ (u : Unit {0}). return v) (ask 4 b mid))
          asked true = refl
          asked false = refl

  pub types_stop_count : (q : ℕ) → variant_count total bs ≡ refused q → after ts (types (suc left) many total bs) ≡ refused q
  types_stop_count q e = ap (after ts) (by_count ∙ ap from_count e)

  module _ (v : ℕ) (mid : List ℕ) (counted : variant_count total bs ≡ accepted v mid) where
    abbrev from_variants : Parsed (List Variant) → Parsed Types
    from_variants r = and_then (λ vs. types left many (total + v) >>= λ us. return (vs ∷ us)) r

    pub types_stop_variants : (q : ℕ) → times v (variant many) mid ≡ refused q → after ts (types (suc left) many total bs) ≡ refused q
    types_stop_variants q e = ap (after ts) (by_count ∙ ap from_count counted ∙ ap from_variants e)

    pub types-next : (vs : List Variant) (rest : List ℕ) → times v (variant many) mid ≡ accepted vs rest
        → after ts (types (suc left) many total bs) ≡ after (ts ++ (vs ∷ [])) (types left many (total + v) rest)
    types-next vs rest e = ap (after ts) (by_count ∙ ap from_count counted ∙ ap from_variants e) ∙ after_cons ts vs (types left many (total + v) rest)

-- ---- rows

module _ (left : ℕ) (ts : Types) (rs : List Row) (bs : List ℕ) where
  pub rows_stop_kind : (q : ℕ) → kind bs ≡ refused q → rows (suc left) ts rs bs ≡ refused q
  rows_stop_kind q e = ap (and_then (λ k. row_of ts rs k >>= λ r. rows left ts (rs ++ (r ∷ [])))) e

  module _ (k : ℕ) (mid : List ℕ) (kinded : kind bs ≡ accepted k mid) where
    pub rows_stop_row : (q : ℕ) → row_of ts rs k mid ≡ refused q → rows (suc left) ts rs bs ≡ refused q
    rows_stop_row q e = ap (and_then (λ k. row_of ts rs k >>= λ r. rows left ts (rs ++ (r ∷ [])))) kinded ∙ ap (and_then (λ r. rows left ts (rs ++ (r ∷ [])))) e

    pub rows_next : (r : Row) (rest : List ℕ) → row_of ts rs k mid ≡ accepted r rest → rows (suc left) ts rs bs ≡ rows left ts (rs ++ (r ∷ [])) rest
    rows_next r rest e = ap (and_then (λ k. row_of ts rs k >>= λ r. rows left ts (rs ++ (r ∷ [])))) kinded ∙ ap (and_then (λ r. rows left ts (rs ++ (r ∷ [])))) e
