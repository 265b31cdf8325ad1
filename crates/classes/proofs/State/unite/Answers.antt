-- The classes after a merge are terms. Assumes nothing.
use Rattle.classes.proofs.ClassLaws.{merge_kept}
use Rattle.classes.proofs.State.unite.Goals as goal

pub invariant_of-self : goal.invariant_of-self
invariant_of-self c = merge_kept _ _ _ _ _ _ c.self.invariant (c.self.invariant.held.there _) (c.self.invariant.held.there _) c.merge.ensures.classes_after c.merge.ensures.labels_after
