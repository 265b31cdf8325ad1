-- `guarddesk_add_line` meets its contract. Assumes nothing.
use Rattle.std.proofs.Common.{◌∙◌}
use Rattle.desklink.proofs.Codes.{number-passed}
use Rattle.desklink.proofs.guarddesk_add_line.Goals as goal

pub returns-clause-value : goal.returns-clause-value
returns-clause-value c = c.question_of.ensures ∙ number-passed _ c.add_line.result c.add_line.ensures.value
