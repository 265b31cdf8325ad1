-- `third_of`: by the row's kind. Assumes nothing.
use Rattle.std.proofs.Common.{rules}
use mathlib.Core.Path.{ap, ◌∙◌}
use lib.IntN.{pos}
use lib.ListN.{get_or}
use mir.Syntax.{w64}
use mir.Val.{SFits}
use mir.Facts.{to_z-of_z}
use Rattle.guard.specs.Number.{fold_signed}
use Rattle.columnwriter.proofs.EntryLaws.{place, value-is}
use Rattle.columnwriter.proofs.third_of.Goals as goal

pub bounds-rows-r : goal.bounds-rows-r
bounds-rows-r c = place c.requires

pub returns-in-1 : goal.returns-in-1
returns-in-1 c = let fits : SFits w64 (get_or c.args.rows.now.values c.args.r (pos 0)) = search rules in
    value-is c.requires c.in-1.is c.fold.result (c.fold.ensures ∙ ap fold_signed (to_z-of_z fits))
