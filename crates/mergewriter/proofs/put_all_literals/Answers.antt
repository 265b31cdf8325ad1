-- `put_all_literals`: L, the first's lines, and the second's. Assumes nothing.
use mathlib.Core.Path.{◌≡◌, ap, ◌∙◌}
use mathlib.Core.List.{List, [], ◌∷◌, map}
use Prim.Native.Nat.{ℕ, ◌+◌}
use native.Mathlib.Omega.{arith}
use Rattle.laws.specs.Lists.{from}
use Rattle.laws.proofs.Lists.{all_get_d}
use Rattle.guard.specs.Guard.{Guard}
use Rattle.reader.specs.declared.Tables.{Tables}
use Rattle.std.specs.Prelude.{Option}
use Rattle.bytebuffer.specs.declared.Writer.{Writer}
use Rattle.bytebuffer.specs.Appends.{Appends}
use Rattle.bytebuffer.proofs.PutLaws.{same-bytes}
use Rattle.literalwriter.specs.LiteralBytes.{PutsLiterals, SmallNames}
use Rattle.merged.specs.Merge.{merged, renamed_literal}
use Rattle.renaming.specs.declared.Names.{Names}
use Rattle.mergewriter.specs.Merging.{BothOf, Merging, all_literals}
use Rattle.mergewriter.proofs.Held.{literals-held, names-are, some-literals}
use Rattle.mergewriter.proofs.MergedBytes.{added-lines, all-literals, lines-sum, literals_bytes, own_lines}
use Rattle.mergewriter.proofs.ThreePuts.{Parts, all_put, first_full, second_full}
use Rattle.mergewriter.proofs.put_all_literals.Goals as goal

-- ---- what a guard and its names give

module _ {first second : Tables} {n : Names} (m : Merging first second n) where
  names-small : SmallNames n.names
  names-small =
      let are = names-are m.guards.both m.names in
      record { small = λ i h. omega (arith, all_get_d are.small i 0 (omega (arith, h, are.long))) }

  parts : {g h : Guard} (b : BothOf first second g h)
      → Parts ((first.literals.many + second.literals.many) ∷ []) (literals_bytes g.literals) (literals_bytes (added-lines b (names-are b m.names))) (all_literals (merged g h))
  parts b = all-literals b (names-are b m.names) (first.literals.many + second.literals.many) (lines-sum b) m.lines

-- the first's lines under their own numbers
own-put : {first second : Tables} {g h : Guard} (b : BothOf first second g h) {own : List ℕ} {w w' : Writer} {r : Option (Unit {0})} → own ≡ from 24 0
    → PutsLiterals first.literals own w r w' → Appends (literals_bytes g.literals) w r w'
own-put {g = g} b e p =
    same-bytes (ap (λ (own : List ℕ). literals_bytes (map (renamed_literal own) g.literals)) e ∙ own_lines b) (p.puts g.types g.rows g.literals (literals-held b.one))

-- ---- the parts that are put

pub returns-in_err-put : goal.returns-in_err-put
returns-in_err-put c = rw c.from_residual.ensures (record { puts = λ g h b. first_full (parts c.requires b) c.in_err-put.ensures })

pub put_literals-requires-clause-some_literals : goal.put_literals-requires-clause-some_literals
put_literals-requires-clause-some_literals c = some-literals c.requires.guards.both.one

pub returns-in_err-put_literals : goal.returns-in_err-put_literals
returns-in_err-put_literals c =
    rw c.from_residual-in_err-put_literals.ensures (record { puts = λ g h b. second_full (parts c.requires b) c.in_ok-put.ensures (own-put b c.own_names.ensures c.in_err-put_literals.ensures) })

pub put_literals-requires-2 : goal.put_literals-requires-2
put_literals-requires-2 c = let m = c.requires in record { some_literals = some-literals m.guards.both.other; small_names = names-small m }

pub returns : goal.returns
returns c = record {
  puts = λ g h b. all_put (parts c.requires b) c.in_ok-put.ensures (own-put b c.own_names.ensures c.in_ok-put_literals.ensures) (c.put_literals-2.ensures.puts h.types h.rows h.literals (literals-held b.other));
}
