-- A number that is read has the bytes that it is written in: there is one way to write it. Assumes nothing.
use mathlib.Core.Path.{◌≡◌, refl, ap, ap₂, sym, subst, ◌∙◌}
use mathlib.Core.Bool.{Bool, true, false, not}
use mathlib.Core.List.{List, [], ◌∷◌, ◌++◌}
use Prim.Native.Nat.{ℕ, zero, suc, ◌+◌, ◌/◌, ◌%◌, ◌≤◌, ◌<◌}
use native.Mathlib.Omega.{arith}
use lib.Dec.{eqb, leb, ltb}
use lib.ListN.{length}
use borrow.Author.Tests.{eqb-false, le-ltb, leb-true, lt-ltb, ltb-false, ltb-true, not-true}
use Rattle.laws.specs.All.{All, All.more}
use Rattle.laws.specs.Lists.{last}
use Rattle.laws.proofs.Bools.{and_left, and_right, either, or_cases}
use Rattle.guard.specs.Number.{Parsed, Parsed.accepted, Width, ◌>>=◌, ◌>>◌, ask, groups, return, unsigned, unsigned_of, value_of_groups, value_width, well_formed, width32}
use Rattle.encoding.specs.Encoding.{encoded, encoded_of, encoded_value, groups_of}
use Rattle.encoding.proofs.Parsers.{ask_inv, bind_inv, not_accepted}

-- at most k groups as they are found: bit 80 in each but the last
data Groups : ℕ → List ℕ → Type 0 where
  full : Groups zero []
  final : {k b : ℕ} → b < 128 → Groups (suc k) (b ∷ [])
  further : {k b : ℕ} {gs : List ℕ} → 128 ≤ b → b < 256 → Groups k gs → Groups (suc k) (b ∷ gs)

groups-found : (k : ℕ) (bs gs rest : List ℕ) → All (λ b. b < 256) bs → groups k bs ≡ accepted gs rest → Groups k gs × (bs ≡ gs ++ rest)
groups-found zero bs gs rest h e = let z : [] ≡ gs = cc in let y : bs ≡ rest = cc in (rw (sym z) full, rw (sym z) y)
groups-found (suc k) [] gs rest h e = absurd (not_accepted 2 gs rest e)
groups-found (suc k) (b ∷ bs) gs rest (more small h) e = go (λ hs r q. groups-found k bs hs r h q) (ltb b 128) refl e
  where
    go : ((hs r : List ℕ) → groups k bs ≡ accepted hs r → Groups k hs × (bs ≡ hs ++ r)) → (y : Bool) → ltb b 128 ≡ y
        → Path (Parsed (List ℕ)) (elim y [ true ↦ accepted (b ∷ []) bs | false ↦ (groups k >>= λ gs. return (b ∷ gs)) bs ]) (accepted gs rest) → Groups (suc k) gs × (b ∷ bs ≡ gs ++ rest)
    go ih true q e = let z : b ∷ [] ≡ gs = cc in let y : bs ≡ rest = cc in (rw (sym z) (final (ltb-true b 128 q)), rw (sym z) (ap (λ (r : List ℕ). b ∷ r) y))
    go ih false q e =
        let (hs, r, p, w) = bind_inv (groups k) (λ gs. return (b ∷ gs)) bs gs rest e in
        let (found, split) = ih hs r p in
        let z : b ∷ hs ≡ gs = cc in
        let y : r ≡ rest = cc in
        (rw (sym z) (further (ltb-false b 128 q) small found), rw (sym z) (ap (λ (r : List ℕ). b ∷ r) (split ∙ ap (λ (r : List ℕ). hs ++ r) y)))

one_group : (k b : ℕ) → b < 128 → groups_of (suc k) (value_of_groups (b ∷ [])) ≡ b ∷ []
one_group k b h = let e : value_of_groups (b ∷ []) ≡ b = omega arith in rw e (rw (lt-ltb b 128 h) refl)

-- groups whose last one is not 0 are those that their value is written in
more-groups : {k : ℕ} {gs : List ℕ} → Groups k gs → last gs 128 < 128 → ¬ (last gs 128 ≡ 0) → (1 ≤ value_of_groups gs) × (groups_of k (value_of_groups gs) ≡ gs)
more-groups full l n = absurd (omega arith)
more-groups (final {k = k} {b = b} h) l n = (omega arith, one_group k b h)
more-groups (further {gs = []} h s found) l n = absurd (omega arith)
more-groups (further {k = k} {b = b} {gs = g ∷ gs} h s found) l n =
    let (some, same) = more-groups found l n in
    let low : 128 + value_of_groups (b ∷ g ∷ gs) % 128 ≡ b = omega arith in
    let high : value_of_groups (b ∷ g ∷ gs) / 128 ≡ value_of_groups (g ∷ gs) = omega arith in
    (omega arith, rw (le-ltb (value_of_groups (b ∷ g ∷ gs)) 128 (omega arith)) (ap₂ (λ (x : ℕ) (xs : List ℕ). x ∷ xs) low (ap (groups_of k) high ∙ same)))

well_formed-groups : {k : ℕ} {gs : List ℕ} (w : Width) → Groups (suc k) gs → well_formed w gs ≡ true → groups_of (suc k) (value_of_groups gs) ≡ gs
well_formed-groups w (final {k = k} {b = b} h) e = one_group k b h
well_formed-groups w (further {b = b} {gs = []} h s found) e = absurd (omega (arith, ltb-true b 128 (and_left (ltb b 128) _ e)))
well_formed-groups w (further {b = b} {gs = g ∷ gs} h s found) e =
    (more-groups (further h s found) (ltb-true _ _ (and_left (ltb (last gs g) 128) _ e))
    (either (λ q. absurd (omega (arith, leb-true (length (b ∷ g ∷ gs)) 1 q))) (λ q. eqb-false (last gs g) 0 (not-true _ q))
    (or_cases (leb (length (b ∷ g ∷ gs)) 1) (not (eqb (last gs g) 0)) (and_right (leb (value_of_groups (b ∷ g ∷ gs)) w.most) _ (and_right (ltb (last gs g) 128) _ e))))).1

-- for a width of at least one byte
pub written-back_of : (w : Width) (k : ℕ) → w.bytes ≡ suc k → (bs : List ℕ) (n : ℕ) (rest : List ℕ) → All (λ b. b < 256) bs → unsigned_of w bs ≡ accepted n rest → bs ≡ encoded_of w n ++ rest
written-back_of w k e bs n rest h a =
    let (gs, mid, p, q) = bind_inv (groups w.bytes) (λ gs. ask 3 (well_formed w gs) >> return (value_of_groups gs)) bs n rest a in
    let (good, r) = ask_inv 3 (well_formed w gs) (return (value_of_groups gs)) mid n rest q in
    let (found, split) = groups-found w.bytes bs gs mid h p in
    let value : value_of_groups gs ≡ n = cc in
    let left : mid ≡ rest = cc in
    let groups-are : groups_of w.bytes (value_of_groups gs) ≡ gs = ap (λ (j : ℕ). groups_of j (value_of_groups gs)) e ∙ well_formed-groups w (subst (λ (j : ℕ). Groups j gs) e found) good in
    split ∙ ap₂ (λ (xs ys : List ℕ). xs ++ ys) (sym groups-are ∙ ap (groups_of w.bytes) value) left

pub written_back : (bs : List ℕ) (n : ℕ) (rest : List ℕ) → All (λ b. b < 256) bs → unsigned bs ≡ accepted n rest → bs ≡ encoded n ++ rest
unfolding encoded
written_back bs n rest h e = written-back_of width32 4 refl bs n rest h e

pub value-written-back : (bs : List ℕ) (n : ℕ) (rest : List ℕ) → All (λ b. b < 256) bs → unsigned_of value_width bs ≡ accepted n rest → bs ≡ encoded_value n ++ rest
unfolding encoded_value
value-written-back bs n rest h e = written-back_of value_width 9 refl bs n rest h e
