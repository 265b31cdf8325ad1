-- `growth_of` meets its contract. Assumes nothing.
use mathlib.Core.Path.{◌≡◌}
use native.Mathlib.Omega.{arith}
use Rattle.growthtables.specs.Growth.{growth_by}
use Rattle.growthtables.proofs.TableLaws.{all-columns, chosen-column, distance-column, growing-column, next-column, period-column, root-column, steps-column}
use Rattle.growthtables.proofs.growth_of.Goals as goal

pub steps_entries-steps-requires : goal.steps_entries-steps-requires
steps_entries-steps-requires c = omega (arith, c.requires.many)

pub cycle_entries-cycles-requires : goal.cycle_entries-cycles-requires
cycle_entries-cycles-requires c = omega (arith, c.requires.many)

pub returns : goal.returns
returns c = let t = c.args.table in
    let finite = c.finite_types-finite in
    let chosen = c.chosen_entries-chosen in
    let growing = c.growing_entries-growing in
    let next = c.next_entries-next in
    let steps = c.steps_entries-steps in
    let cycles = c.cycle_entries-cycles in
    let isChosen : chosen.result ≡ (growth_by t).chosen = chosen-column t c.requires finite.result chosen.result finite.ensures chosen.ensures in
    let isGrowing : growing.result ≡ (growth_by t).growing = growing-column t c.requires growing.result growing.ensures in
    let is_next : next.result ≡ (growth_by t).next = next-column t c.requires chosen.result growing.result next.result isChosen isGrowing next.ensures in
    all-columns (growth_by t) chosen.result growing.result next.result steps.result cycles.result.root cycles.result.distance cycles.result.period isChosen isGrowing is_next
    (steps-column t c.requires next.result is_next steps.result steps.ensures)
    (root-column t c.requires next.result is_next cycles.result.root cycles.ensures.root_value)
    (distance-column t c.requires next.result is_next cycles.result.distance cycles.ensures.distance_value)
    (period-column t c.requires next.result is_next cycles.result.period cycles.ensures.period_value)
