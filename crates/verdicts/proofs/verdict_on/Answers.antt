-- `verdict_on`: the file of the guard is put, and the desk asked about it. Assumes nothing.
use mathlib.Core.Path.{◌≡◌, ◌∙◌, ap, sym}
use mathlib.Core.List.{List}
use Prim.Native.Nat.{ℕ}
use lib.ListN.{length-replicate}
use Rattle.guard.specs.Answer.{outcome}
use Rattle.guard.specs.Guard.{Guard, Literal}
use Rattle.verdictcodes.specs.Codes.{code_for, code_of, with_more}
use Rattle.guardwriter.specs.GuardBytes.{AskedOf, wide}
use Rattle.verdicts.specs.VerdictOn.{code_or_none}
use Rattle.verdicts.proofs.AskedFile.{all_fit, answered, some_verdict, the_bytes}
use Rattle.verdicts.proofs.verdict_on.Goals as goal
use Rattle.verdicts.proofs.verdict_on.Goals.{After-ask}

-- the desk's verdict on the guard
told : (c : After-ask) (g : Guard) (more : List Literal) → AskedOf c.args.types.now c.args.rows.now c.args.first.now c.args.second.now g more → code_or_none c.ask.result ≡ code_for c.args.budget (with_more g more)
told c g more b =
    c.ask.ensures
    ∙ ap (λ (bs : List ℕ). code_of (outcome wide bs c.args.budget 16384 24)) (the_bytes b _ _ (length-replicate {A = ℕ} 681 0) c.unwrap-end.ensures (c.put_guard.ensures.puts g more b))
    ∙ answered b c.args.budget

pub unwrap-end-requires : goal.unwrap-end-requires
unwrap-end-requires c = let k = c.requires in
    all_fit k.asked _ _ (length-replicate {A = ℕ} 681 0) c.put_guard.result (c.put_guard.ensures.puts k.guard k.more k.asked)

pub unwrap-requires : goal.unwrap-requires
unwrap-requires c = let k = c.requires in
    some_verdict c.args.budget (with_more k.guard k.more) c.ask.result (told c k.guard k.more k.asked)

pub returns : goal.returns
returns c = record { on = λ g more b. sym (ap code_or_none c.unwrap.ensures) ∙ told c.before g more b }
