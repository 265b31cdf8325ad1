-- `number_of` meets its contract. Assumes nothing.
use mathlib.Core.Path.{◌∙◌}
use mathlib.Core.List.{[], ◌∷◌}
use native.Mathlib.Omega.{arith}
use Rattle.guard.specs.Guard.{Literal.is}
use Rattle.variantmasks.proofs.RowLaws.{asked_afresh, asked_of, few-variants, kept}
use Rattle.variantmasks.proofs.number_of.Goals as goal

pub ruled_out-requires : goal.ruled_out-requires
ruled_out-requires c = omega (arith, c.requires.there, few-variants c.requires.guard c.requires.held c.args.i)

pub returns-then-ruled_out : goal.returns-then-ruled_out
returns-then-ruled_out c = let s = c.args in
    record { is = λ g held h. kept s.budget s.settled s.possible g s.i s.v c.ruled_out.result c.ruled_out.ensures c.if-ruled_out.true }

pub verdict_on-requires : goal.verdict_on-requires
verdict_on-requires c = record { guard = c.requires.guard; more = is c.args.i c.args.v ∷ []; asked = asked_of c.requires.guard c.requires.held c.args.i c.args.v c.requires.there c.is_line.ensures }

pub returns : goal.returns
returns c = let s = c.args in
    let out = c.ruled_out in
    record { is = λ g held h. asked_afresh s.budget s.settled s.possible g s.i s.v out.result out.ensures c.code.result c.if-ruled_out.false (c.code.ensures ∙ c.verdict_on.ensures.on g (is s.i s.v ∷ []) (asked_of g held s.i s.v h c.is_line.ensures)) }
