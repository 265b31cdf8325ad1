-- `put_literals`: the table has a literal at i. Assumes nothing.
use Rattle.literalwriter.proofs.LiteralLaws.{has_literal}
use Rattle.literalwriter.proofs.put_literals.Goals as goal

pub put_literal-requires-clause-has_literal : goal.put_literal-requires-clause-has_literal
put_literal-requires-clause-has_literal c = has_literal c.requires.some_literals c.loop-i-test.true
