-- `guarddesk_store` meets its contract. Assumes nothing.
use Rattle.std.proofs.Common.{◌∙◌, length}
use mir.Syntax.{w64}
use mir.Val.{SFits}
use mir.Facts.{to_z-of_z}
use Rattle.store.proofs.Corollaries.{few-stored}
use Rattle.desklink.proofs.Codes.{code-written, few-written}
use Rattle.desklink.proofs.guarddesk_store.Goals as goal

pub answer_code-requires : goal.answer_code-requires
answer_code-requires c = few-written _ (few-stored c.args.bytes.now (length c.args.out.now)) c.store-w.result c.store-w.ensures.value

pub returns : goal.returns
returns c = let code = c.answer_code in
    let fits : SFits w64 code.result = record { sfits = code.type_inv } in
    record {
      value = to_z-of_z fits ∙ code.ensures ∙ code-written _ c.store-w.result c.store-w.ensures.value;
      out_after = c.store-w.ensures.out_after;
    }
