-- `guarddesk_merge` meets its contract. Assumes nothing.
use Rattle.std.proofs.Common.{◌∙◌, length}
use mir.Syntax.{w64}
use mir.Val.{SFits}
use mir.Facts.{to_z-of_z}
use Rattle.merge.proofs.Corollaries.{few-merged}
use Rattle.desklink.proofs.Codes.{code-written, few-written}
use Rattle.desklink.proofs.guarddesk_merge.Goals as goal

pub answer_code-requires : goal.answer_code-requires
answer_code-requires c = few-written _ (few-merged c.args.first.now c.args.second.now (length c.args.out.now)) c.merge-w.result c.merge-w.ensures.value

pub returns : goal.returns
returns c = let code = c.answer_code in
    let fits : SFits w64 code.result = record { sfits = code.type_inv } in
    record {
      value = to_z-of_z fits ∙ code.ensures ∙ code-written _ c.merge-w.result c.merge-w.ensures.value;
      out_after = c.merge-w.ensures.out_after;
    }
