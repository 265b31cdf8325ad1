-- The numbers of all pairs, put by lower branch: there are at most 28. Assumes nothing.
use mathlib.Core.Path.{◌≡◌, refl, ap, sym, ◌∙◌}
use mathlib.Core.List.{List, [], ◌++◌, map, map-append}
use Prim.Native.Nat.{ℕ, suc, ◌+◌, ◌-◌, ◌≤◌, ◌<◌}
use native.Mathlib.Omega.{arith}
use lib.ListN.{length, drop, get_or, length-append, length-drop, length-map}
use lib.Seq.{drop-cons}
use Rattle.laws.proofs.Lists.{length-nil}
use Rattle.guard.specs.Guard.{Literal}
use Rattle.tables.specs.declared.LiteralTable.{LiteralTable}
use Rattle.writing.specs.Written.{Written}
use Rattle.writing.proofs.Partly.{Partly, partly_all, partly_next, partly_none, partly_room}
use Rattle.verdictcodes.specs.Codes.{code_for}
use Rattle.branches.specs.Procedure.{Procedure, guard_with}
use Rattle.branches.specs.Verdicts.{pairs}
use Rattle.branches.proofs.PairCount.{few-pairs}
use Rattle.branchreader.specs.declared.Procedure as tables
use Rattle.branchverdicts.specs.Judging.{Holds, HoldsLines, PutsPairs, PutsWith, Taken, codes_of}
use Rattle.branchverdicts.proofs.Asking.{count_held}
use Rattle.branchverdicts.proofs.Putting.{codes_from}

pub codes-length : (budget : ℕ) (p : Procedure) (lss : List (List Literal)) → length (codes_of budget p lss) ≡ length lss
codes-length budget p lss = length-map lss (λ ls. code_for budget (guard_with p ls))

-- ---- put by lower branch

-- the numbers of the pairs from a lower branch on
abbrev pair_codes : ℕ → Procedure → ℕ → List ℕ
pair_codes budget p i = codes_of budget p (pairs (drop i p.branches))

-- those of the pairs with branch i below, then the others
pairs_next : (budget : ℕ) (p : Procedure) (i : ℕ) → i < length p.branches
    → pair_codes budget p i ≡ codes_from budget p (get_or p.branches i []) (suc i) ++ pair_codes budget p (suc i)
pairs_next budget p i h =
    ap (λ (l : List (List Literal)). codes_of budget p (pairs l)) (drop-cons p.branches i [] h)
    ∙ map-append (λ ls. code_for budget (guard_with p ls)) (map (λ ms. get_or p.branches i [] ++ ms) (drop (suc i) p.branches)) (pairs (drop (suc i) p.branches))

-- the loop, before branch i
pub record PutPairs (t : tables.Procedure) (budget : ℕ) (out : List ℕ) (at : ℕ) (out' : List ℕ) (end i : ℕ) : Type 0 where
  pub long : length out' ≡ length out
  pub puts : (p : Procedure) → Holds t p → Partly 28 (pair_codes budget p 0) (pair_codes budget p i) out at out' end

module _ (t : tables.Procedure) (budget : ℕ) (out : List ℕ) (at : ℕ) where
  pub pairs-none : at ≤ length out → PutPairs t budget out at out at 0
  pairs-none room = record { long = refl; puts = λ p h. partly_room 28 (omega arith) (partly_none (pair_codes budget p 0) room) }

  module _ (out' : List ℕ) (end i : ℕ) (s : PutPairs t budget out at out' end i) where
    -- so many are put and left in all
    counts : (p : Procedure) (h : Holds t p) → length (s.puts p h).text + length (pairs (drop i p.branches)) ≤ 28
    counts p h =
        omega (arith, length-append (s.puts p h).text (pair_codes budget p i), ap length (s.puts p h).whole, codes-length budget p (pairs (drop i p.branches)), codes-length budget p (pairs p.branches), few-pairs p.branches h.fits.few)

    module _ (more : i < t.many) where
      left_over : (p : Procedure) (h : Holds t p) → length (pairs (drop i p.branches)) ≡ (t.many - suc i) + length (pairs (drop (suc i) p.branches))
      left_over p h =
          let ls : List Literal = get_or p.branches i [] in
          let rest : List (List Literal) = drop (suc i) p.branches in
          ap (λ (l : List (List Literal)). length (pairs l)) (drop-cons p.branches i [] (omega (arith, count_held t p h)))
          ∙ length-append (map (λ ms. ls ++ ms) rest) (pairs rest)
          ∙ ap (λ (k : ℕ). k + length (pairs rest)) (length-map rest (λ ms. ls ++ ms) ∙ length-drop (suc i) p.branches ∙ ap (λ (k : ℕ). k - suc i) (sym (count_held t p h)))

      -- the next ones find room
      pub room_for : Taken t → at + 28 ≤ length out → end + (t.many - (i + 1)) ≤ length out'
      room_for k room =
          omega (arith, s.long, (s.puts k.procedure k.holds).written.ends, counts k.procedure k.holds, left_over k.procedure k.holds)

      pub pairs-more : {first : LiteralTable} {out'' : List ℕ} {end' : ℕ} → Taken t → ((p : Procedure) → Holds t p → HoldsLines p first (get_or p.branches i []))
          → PutsWith t first (i + 1) budget out' end end' out'' → PutPairs t budget out at out'' end' (i + 1)
      pairs-more {first} {out''} {end'} k held w =
          record {
            long = (w.puts k.procedure (get_or k.procedure.branches i []) k.holds (held k.procedure k.holds)).long ∙ s.long;
            puts = λ p h. next p h;
          }
        where
          next : (p : Procedure) → Holds t p → Partly 28 (pair_codes budget p 0) (pair_codes budget p (i + 1)) out at out'' end'
          next p h =
              let e : i + 1 ≡ suc i = omega arith in
              let ls : List Literal = get_or p.branches i [] in
              let left : pair_codes budget p i ≡ codes_from budget p ls (i + 1) ++ pair_codes budget p (i + 1) =
              pairs_next budget p i (omega (arith, count_held t p h)) ∙ ap (λ (k : ℕ). codes_from budget p ls k ++ pair_codes budget p k) (sym e) in
              exact (partly_next (codes_from budget p ls (i + 1)) (pair_codes budget p (i + 1)) (s.puts p h) (w.puts p ls h (held p h)) left)
            where
              exact : {most : ℕ} → Partly most (pair_codes budget p 0) (pair_codes budget p (i + 1)) out at out'' end' → Partly 28 (pair_codes budget p 0) (pair_codes budget p (i + 1)) out at out'' end'
              exact x =
                  record {
                    text = x.text;
                    written = record {
                      long = x.written.long;
                      few = omega (arith, length-append x.text (pair_codes budget p (i + 1)), ap length x.whole, codes-length budget p (pairs p.branches), few-pairs p.branches h.fits.few);
                      ends = x.written.ends;
                      front = x.written.front;
                      rest = x.written.rest;
                    };
                    whole = x.whole;
                  }

    pub pairs-all : i ≡ t.many → PutsPairs t budget out at end out'
    pairs-all done = record { puts = λ p h. all p h }
      where
        all : (p : Procedure) → Holds t p → Written 28 out at (pair_codes budget p 0) out' end
        all p h =
            let none : drop i p.branches ≡ [] = length-nil (drop i p.branches) (omega (arith, length-drop i p.branches, count_held t p h)) in
            partly_all (s.puts p h) (ap (λ (l : List (List Literal)). codes_of budget p (pairs l)) none)
