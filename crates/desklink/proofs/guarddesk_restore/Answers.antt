-- `guarddesk_restore` meets its contract. Assumes nothing.
use Rattle.std.proofs.Common.{◌∙◌, length}
use mir.Syntax.{w64}
use mir.Val.{SFits}
use mir.Facts.{to_z-of_z}
use Rattle.restore.proofs.Corollaries.{few_restored}
use Rattle.desklink.proofs.Codes.{code-written, few-written}
use Rattle.desklink.proofs.guarddesk_restore.Goals as goal

pub answer_code-requires : goal.answer_code-requires
answer_code-requires c = few-written _ (few_restored c.args.stored.now (length c.args.out.now)) c.restore-w.result c.restore-w.ensures.value

pub returns : goal.returns
returns c = let code = c.answer_code in
    let fits : SFits w64 code.result = record { sfits = code.type_inv } in
    record {
      value = to_z-of_z fits ∙ code.ensures ∙ code-written _ c.restore-w.result c.restore-w.ensures.value;
      out_after = c.restore-w.ensures.out_after;
    }
