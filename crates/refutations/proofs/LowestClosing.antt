-- The closing of a node as loops find it: of each kind in order the lowest number whose claim holds. Assumes nothing.
use mathlib.Core.Path.{◌≡◌, refl, ap, sym, ◌∙◌}
use mathlib.Core.Bool.{Bool, true, false, cond}
use mathlib.Core.List.{List, [], ◌++◌, append-nil, map}
use mathlib.Core.Option.{Option, none, some}
use Prim.Native.Nat.{ℕ, zero, suc}
use native.Mathlib.Omega.{arith}
use lib.Dec.{ltb}
use lib.ListN.{length}
use borrow.Author.Tests.{le-ltb, lt-ltb, ltb-false, ltb-true}
use Rattle.laws.specs.Lists.{find, from}
use Rattle.laws.proofs.Bools.{by_test}
use Rattle.laws.proofs.Lists.{map-from_suc}
use Rattle.laws.proofs.Positions.{least}
use Rattle.guard.specs.Closure.{State}
use Rattle.guard.specs.Guard.{Literal}
use Rattle.guard.specs.Terms.{Table, term_count}
use Rattle.refutations.specs.Record.{Entry, Entry.empty, Entry.inside, Entry.unequal_line, Entry.unlike, claim, closing}

-- the entry of the lowest number below n whose claim holds, or else the other
abbrev pub lowest_or : (Entry → Bool) → (ℕ → Entry) → ℕ → Option Entry → Option Entry
lowest_or holds make n other = cond (ltb (least (λ i. holds (make i)) n) n) (some (make (least (λ i. holds (make i)) n))) other

find-made : (holds : Entry → Bool) (make : ℕ → Entry) (n : ℕ) (es : List Entry) → find holds (map make (from n 0) ++ es) ≡ lowest_or holds make n (find holds es)
find-made holds make zero es = refl
find-made holds make (suc n) es = go (holds (make 0)) (ap (λ (xs : List Entry). find holds (xs ++ es)) (map-from_suc make n 0) ∙ find-made holds (λ i. make (suc i)) n es)
  where
    low : ℕ
    low = least (λ i. holds (make (suc i))) n

    ltb_suc : ltb low n ≡ ltb (suc low) (suc n)
    ltb_suc = by_test (ltb low n) (λ q. q ∙ sym (lt-ltb (suc low) (suc n) (omega (arith, ltb-true low n q)))) (λ q. q ∙ sym (le-ltb (suc low) (suc n) (omega (arith, ltb-false low n q))))

    go : (b : Bool) → find holds (map make (from n 1) ++ es) ≡ cond (ltb low n) (some (make (suc low))) (find holds es)
        → cond b (some (make 0)) (find holds (map make (from n 1) ++ es)) ≡ cond (ltb (cond b 0 (suc low)) (suc n)) (some (make (cond b 0 (suc low)))) (find holds es)
    go true e = ap (λ (b : Bool). cond b (some (make 0)) (find holds es)) (sym (lt-ltb 0 (suc n) (omega arith)))
    go false e = e ∙ ap (λ (b : Bool). cond b (some (make (suc low))) (find holds es)) ltb_suc

pub closing-lowest : (t : Table) (lines : List Literal) (s : State)
    → closing t lines s ≡ lowest_or (claim t lines s) empty term_count (lowest_or (claim t lines s) unequal_line (length lines) (lowest_or (claim t lines s) unlike term_count (lowest_or (claim t lines s) inside term_count none)))
unfolding closing
closing-lowest t lines s =
    find-made h empty term_count (map unequal_line (from (length lines) 0) ++ (map unlike (from term_count 0) ++ map inside (from term_count 0)))
    ∙ ap (lowest_or h empty term_count)
    (find-made h unequal_line (length lines) (map unlike (from term_count 0) ++ map inside (from term_count 0))
    ∙ ap (lowest_or h unequal_line (length lines))
    (find-made h unlike term_count (map inside (from term_count 0))
    ∙ ap (lowest_or h unlike term_count) (ap (find h) (sym (append-nil (map inside (from term_count 0)))) ∙ find-made h inside term_count [])))
  where
    h : Entry → Bool
    h = claim t lines s
