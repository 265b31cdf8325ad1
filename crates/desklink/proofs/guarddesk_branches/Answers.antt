-- `guarddesk_branches` meets its contract. Assumes nothing.
use Rattle.std.proofs.Common.{◌∙◌, ◌≤◌, length, arith}
use Rattle.std.proofs.lemmas.Result.{IfOk-weaker}
use mir.Syntax.{w64}
use mir.Val.{SFits}
use mir.Facts.{to_z-of_z}
use Rattle.branchverdicts.proofs.Corollaries.{few-told}
use Rattle.desklink.proofs.Codes.{code-judged}
use Rattle.desklink.proofs.guarddesk_branches.Goals as goal

pub answer_code-requires : goal.answer_code-requires
answer_code-requires c = let r = c.judge_branches-j.result in
    IfOk-weaker r (λ n. n ≤ 8) (λ n. n ≤ 4294967295) (λ n h. omega (arith, h)) (few-told c.args.procedure.now (length c.args.out.now) r c.judge_branches-j.ensures.value)

pub returns : goal.returns
returns c = let code = c.answer_code in
    let fits : SFits w64 code.result = record { sfits = code.type_inv } in
    record {
      value = to_z-of_z fits ∙ code.ensures ∙ code-judged _ c.judge_branches-j.result c.judge_branches-j.ensures.value;
      out_after = c.judge_branches-j.ensures.out_after;
    }
