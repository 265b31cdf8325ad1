-- All numbers in a buffer of zeros: those of the branches, those of the pairs, and zeros behind them. Assumes nothing.
use mathlib.Core.Path.{◌≡◌, ap, sym, ◌∙◌}
use mathlib.Core.List.{List, [], ◌++◌, map-append, map-id}
use Prim.Native.Nat.{ℕ, zero, suc, ◌+◌, ◌-◌, ◌≤◌}
use native.Mathlib.Omega.{arith}
use lib.ListN.{length, drop, replicate, take-append-drop}
use Rattle.laws.specs.All.{All.none}
use Rattle.tables.specs.Layout.{literal_table, pad}
use Rattle.tables.specs.declared.LiteralTable.{LiteralTable}
use Rattle.writing.specs.Written.{Written}
use Rattle.writing.proofs.Writing.{and_then, same_text}
use Rattle.verdictcodes.specs.Codes.{code_for}
use Rattle.branches.specs.Procedure.{Procedure, guard_with}
use Rattle.branches.specs.Verdicts.{codes, pairs}
use Rattle.branchreader.specs.declared.Procedure as tables
use Rattle.branchverdicts.specs.Judging.{Fills, Holds, HoldsLines, PutsPairs, PutsWith, Taken, codes_of}
use Rattle.branchverdicts.proofs.Asking.{few}

-- no lines fit everywhere
pub none-held : (p : Procedure) (table : LiteralTable) → table ≡ literal_table [] → HoldsLines p table []
none-held p table e = record { table = e; lines = (omega arith, none) }

drop_zeros : (k n : ℕ) → drop {A = ℕ} k (replicate n 0) ≡ replicate (n - k) 0
drop_zeros zero n = let e : n ≡ n - 0 = omega arith in ap (λ (m : ℕ). replicate m 0) e
drop_zeros (suc k) zero = let e : ◌≡◌ {A = ℕ} 0 (0 - suc k) = omega arith in ap (λ (m : ℕ). replicate m 0) e
drop_zeros (suc k) (suc n) = let e : n - k ≡ suc n - suc k = omega arith in drop_zeros k n ∙ ap (λ (m : ℕ). replicate m 0) e

-- a text in front of a buffer of zeros
padded : {most : ℕ} (out text out' : List ℕ) (end : ℕ) → out ≡ replicate (length out) 0 → Written most out 0 text out' end → out' ≡ pad (length out) text
padded out text out' end zeros w =
    let e : end ≡ length text = omega (arith, w.ends) in
    sym (take-append-drop end out') ∙ ap (λ (l : List ℕ). l ++ drop end out') w.front ∙ ap (λ (l : List ℕ). text ++ l) (w.rest ∙ ap (drop end) zeros ∙ drop_zeros end (length out))
    ∙ ap (λ (k : ℕ). text ++ replicate (length out - k) 0) e

module _ (t : tables.Procedure) (budget : ℕ) (empty : LiteralTable) (is_empty : empty ≡ literal_table []) {out out' : List ℕ} {at : ℕ} (w : PutsWith t empty 0 budget out 0 at out') where
  alone : (p : Procedure) → Holds t p → Written (t.many - 0) out 0 (codes_of budget p p.branches) out' at
  alone p h = same_text (ap (codes_of budget p) (map-id p.branches)) (w.puts p [] h (none-held p empty is_empty))

  -- the pairs find room
  pub room_behind : Taken t → 36 ≤ length out → at + 28 ≤ length out'
  room_behind k long =
      let a = alone k.procedure k.holds in
      omega (arith, a.ends, a.few, a.long, few t k.procedure k.holds)

  pub filled : {out'' : List ℕ} {end : ℕ} → PutsPairs t budget out' at end out'' → out ≡ replicate (length out) 0 → Fills t budget out out''
  unfolding codes
  filled {out''} {end} v zeros = record { fills = λ p h. fill p h }
    where
      fill : (p : Procedure) → Holds t p → out'' ≡ pad (length out) (codes budget p)
      fill p h =
          padded out (codes budget p) out'' end zeros (same_text (sym (map-append (λ ls. code_for budget (guard_with p ls)) p.branches (pairs p.branches))) (and_then (alone p h) (v.puts p h)))
