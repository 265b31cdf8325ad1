-- `listreader::plain_bytes`: what is written are the plain bytes of the numbers so far. Assumes nothing.
use Rattle.std.proofs.Common.{refl, ap, arith, rules, get_or, pos, ℤ, ◌≡◌, ◌∙◌, w64}
use mir.Val.{SFits}
use mir.Facts.{to_z-of_z}
use Rattle.laws.specs.All.{All.none}
use Rattle.guard.specs.Number.{fold_signed}
use Rattle.listreader.specs.Plain.{plain_byte}
use Rattle.listreader.proofs.PlainLaws.{all-written, fold_narrow, front-next}
use Rattle.listreader.proofs.plain_bytes.Goals as goal

pub loop-i-init : goal.loop-i-init
loop-i-init c = record { long = c.requires; bytes = refl; narrow = none }

pub loop-i-preserved : goal.loop-i-preserved
loop-i-preserved c = let l = c.loop-i in
    let x = get_or c.args.list.now l.i (pos 0) in
    let fits : SFits w64 x = search rules in
    let byte : c.plain_byte.result ≡ plain_byte (fold_signed x) = c.plain_byte.ensures ∙ ap (λ (z : ℤ). plain_byte (fold_signed z)) (to_z-of_z fits) in
    front-next c.args.list.now l.out l.i l.invariant c.plain_byte.result (omega arith) (omega arith) byte (fold_narrow x fits)

pub returns : goal.returns
returns c = let l = c.loop-i in
    let all : l.i ≡ c.min-many.result = omega arith in
    rw (← all) (all-written c.args.list.now l.out l.i l.invariant (all ∙ c.min-many.ensures))
