-- `meet_shapes` meets its contract. Assumes nothing.
use mathlib.Core.Path.{◌∙◌, sym}
use Rattle.congruence.proofs.Joins.{nothing_equal, owners_equal, parts-equal, unlike_pass}
use Rattle.congruence.proofs.meet_shapes.Goals as goal

pub returns-then-not-alike : goal.returns-then-not-alike
returns-then-not-alike c = let r = c.requires in unlike_pass _ c.args.shapes.now.fit _ _ r.0 r.1 _ (sym c.alike.ensures ∙ c.if-not-alike.true)

pub returns-then-same_class : goal.returns-then-same_class
returns-then-same_class c = let r = c.requires in owners_equal _ c.args.shapes.now.fit _ _ r.0 r.1 _ (sym c.alike.ensures ∙ c.if-not-alike.false) (cc) _ c.join_parts.ensures

pub returns-then-not-same_parts : goal.returns-then-not-same_parts
returns-then-not-same_parts c =
    let r = c.requires in
    nothing_equal _ c.args.shapes.now.fit _ _ r.0 r.1 _ (sym c.alike.ensures ∙ c.if-not-alike.false) (cc) (sym c.same_parts.ensures ∙ c.if-not-same_parts.true)

pub returns : goal.returns
returns c =
    let r = c.requires in
    let u = c.unite.ensures in
    parts-equal _ c.args.shapes.now.fit _ _ r.0 r.1 _ (sym c.alike.ensures ∙ c.if-not-alike.false) (sym c.same_parts.ensures ∙ c.if-not-same_parts.false) _ _ _ _ c.owner-3.ensures c.owner-4.ensures u.after u.value
