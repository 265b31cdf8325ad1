-- `guarddesk_check` meets its contract. Assumes nothing.
use Rattle.std.proofs.Common.{◌∙◌, ap}
use Rattle.recordchecker.specs.Checks.{answer}
use Rattle.desklink.proofs.Codes.{answer-checked}
use Rattle.desklink.proofs.guarddesk_check.Goals as goal

pub returns : goal.returns
returns c = ap answer c.question_of.ensures ∙ answer-checked _ c.check.result c.check.ensures
