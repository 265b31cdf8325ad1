-- `guarddesk_write` meets its contract. Assumes nothing.
use Rattle.std.proofs.Common.{◌≡◌, ◌∙◌, sym, length, arith}
use Rattle.std.proofs.lemmas.Result.{IfErr-at_err}
use mir.Syntax.{w64}
use mir.Val.{SFits}
use mir.Facts.{to_z-of_z}
use Rattle.guard.specs.Question.{number_of}
use Rattle.filewriter.proofs.Corollaries.{few_bytes}
use Rattle.returncodes.proofs.CodeLaws.{answer-tells}
use Rattle.desklink.proofs.Codes.{code-written, few-written}
use Rattle.desklink.proofs.guarddesk_write.Goals as goal

pub answer_code-requires : goal.answer_code-requires
answer_code-requires c = few-written _ (few_bytes c.args.list.now (length c.args.out.now)) c.write-w.result c.write-w.ensures.value

pub returns : goal.returns
returns c = let code = c.answer_code in
    let fits : SFits w64 code.result = record { sfits = code.type_inv } in
    record {
      value = to_z-of_z fits ∙ code.ensures ∙ code-written _ c.write-w.result c.write-w.ensures.value;
      not_result = λ e. let (q, is, same) = answer-tells c.write-w.result 3 (omega arith) (sym (to_z-of_z fits ∙ code.ensures) ∙ e) in IfErr-at_err (λ q. ¬ (number_of q ≡ 3)) is c.write-w.ensures.not_malformed same;
      out_after = c.write-w.ensures.out_after;
    }
