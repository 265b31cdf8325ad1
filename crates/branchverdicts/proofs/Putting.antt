-- The numbers for lines with those of each branch behind them, put one after the other: what is put, and what is left to put. Assumes
-- nothing.
use mathlib.Core.Path.{◌≡◌, refl, ap, sym, ◌∙◌}
use mathlib.Core.List.{List, [], ◌∷◌, ◌++◌, map}
use Prim.Native.Nat.{ℕ, suc, ◌+◌, ◌-◌, ◌≤◌, ◌<◌}
use native.Mathlib.Omega.{arith}
use lib.ListN.{length, drop, get_or, set, length-drop}
use lib.Seq.{drop-cons}
use Rattle.laws.proofs.Lists.{length-nil}
use Rattle.guard.specs.Guard.{Guard, Literal}
use Rattle.tables.specs.declared.LiteralTable.{LiteralTable}
use Rattle.writing.specs.Written.{Written}
use Rattle.writing.proofs.Partly.{Partly, one_byte, partly_all, partly_next, partly_none, partly_room}
use Rattle.writing.proofs.Writing.{more_room}
use Rattle.verdictcodes.specs.Codes.{code_for, with_more}
use Rattle.branches.specs.Procedure.{Procedure, guard_with}
use Rattle.branchreader.specs.declared.Procedure as tables
use Rattle.verdicts.specs.VerdictOn.{AskedOf}
use Rattle.branchverdicts.specs.Judging.{Holds, HoldsLines, PutsWith, codes_of}
use Rattle.branchverdicts.proofs.Asking.{asked, count_held}

-- the numbers for these lines with those of the branches from one on behind them
abbrev pub codes_from : ℕ → Procedure → List Literal → ℕ → List ℕ
codes_from budget p ls j = codes_of budget p (map (λ ms. ls ++ ms) (drop j p.branches))

-- the loop, before branch j
pub record Put (t : tables.Procedure) (first : LiteralTable) (from budget : ℕ) (out : List ℕ) (at : ℕ) (out' : List ℕ) (end j : ℕ) : Type 0 where
  pub since : from ≤ j
  pub place : end ≡ at + (j - from)
  pub long : length out' ≡ length out
  pub puts : (p : Procedure) (ls : List Literal) → Holds t p → HoldsLines p first ls → Partly (j - from) (codes_from budget p ls from) (codes_from budget p ls j) out at out' end

module _ (t : tables.Procedure) (first : LiteralTable) (from budget : ℕ) (out : List ℕ) (at : ℕ) where
  pub put_none : at ≤ length out → Put t first from budget out at out at from
  put_none room =
      record {
        since = omega arith;
        place = omega arith;
        long = refl;
        puts = λ p ls a b. partly_room (from - from) (omega arith) (partly_none (codes_from budget p ls from) room);
      }

  module _ (out' : List ℕ) (end j : ℕ) (s : Put t first from budget out at out' end j) where
    pub put_next : j < t.many → end < length out' → (second : LiteralTable) (v : ℕ)
        → ((p : Procedure) → Holds t p → HoldsLines p second (get_or p.branches j [])) → ((g : Guard) (more : List Literal) → AskedOf t.types t.rows first second g more → v ≡ code_for budget (with_more g more))
        → Put t first from budget out at (set out' end v) (end + 1) (j + 1)
    put_next more room second v held on =
        record {
          since = omega (arith, s.since);
          place = omega (arith, s.place, s.since);
          long = (one_byte out' end v room).long ∙ s.long;
          puts = λ p ls a b. next p ls a b;
        }
      where
        next : (p : Procedure) (ls : List Literal) → Holds t p → HoldsLines p first ls
            → Partly ((j + 1) - from) (codes_from budget p ls from) (codes_from budget p ls (j + 1)) out at (set out' end v) (end + 1)
        next p ls a b =
            let e : j + 1 ≡ suc j = omega arith in
            let ms : List Literal = get_or p.branches j [] in
            let is : v ≡ code_for budget (guard_with p (ls ++ ms)) = on (guard_with p ls) ms (asked t p a first second ls ms b (held p a)) in
            let cut : drop j p.branches ≡ ms ∷ drop (suc j) p.branches = drop-cons p.branches j [] (omega (arith, count_held t p a)) in
            let left : codes_from budget p ls j ≡ (v ∷ []) ++ codes_from budget p ls (j + 1) =
            ap (λ (l : List (List Literal)). codes_of budget p (map (λ ms. ls ++ ms) l)) cut
            ∙ ap (λ (k : ℕ). code_for budget (guard_with p (ls ++ ms)) ∷ codes_from budget p ls k) (sym e)
            ∙ ap (λ (c : ℕ). c ∷ codes_from budget p ls (j + 1)) (sym is) in
            partly_room ((j + 1) - from) (omega (arith, s.since)) (partly_next (v ∷ []) (codes_from budget p ls (j + 1)) (s.puts p ls a b) (one_byte out' end v room) left)

    pub put_all : j ≡ t.many → PutsWith t first from budget out at end out'
    put_all done = record { puts = λ p ls a b. all p ls a b }
      where
        all : (p : Procedure) (ls : List Literal) → Holds t p → HoldsLines p first ls → Written (t.many - from) out at (codes_from budget p ls from) out' end
        all p ls a b =
            let none : drop j p.branches ≡ [] = length-nil (drop j p.branches) (omega (arith, length-drop j p.branches, count_held t p a)) in
            more_room (t.many - from) (omega arith)
            (partly_all (s.puts p ls a b) (ap (λ (l : List (List Literal)). codes_of budget p (map (λ ms. ls ++ ms) l)) none))
