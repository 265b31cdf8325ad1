-- `guarddesk_summarize` meets its contract. Assumes nothing.
use Rattle.std.proofs.Common.{◌∙◌}
use Rattle.desklink.proofs.Codes.{number-passed}
use Rattle.desklink.proofs.guarddesk_summarize.Goals as goal

pub returns-clause-value : goal.returns-clause-value
returns-clause-value c = c.question_of.ensures ∙ number-passed _ c.summarize.result c.summarize.ensures.value
