-- `pass_keyed` meets its contract. Assumes nothing.
use Rattle.keys.proofs.KeyLaws.{quiet_pass}
use Rattle.keys.proofs.pass_keyed.Goals as goal

pub returns-then-not-differs : goal.returns-then-not-differs
returns-then-not-differs c =
    let r = c.requires in
    quiet_pass _ c.args.shapes.now.fit _ c.held.ensures.held.there _ _ r.keyed _ r.k_bound (c.differs.ensures c.if-not-differs.true)
