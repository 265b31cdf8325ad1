-- The terms so far are in classes of their own. Assumes nothing.
use Rattle.std.proofs.Common.{◌≡◌, ℕ, ◌<◌, get_or, length}
use Rattle.classes.proofs.State.first.Given as goal

abbrev pub invariant-loop-x : goal.invariant-loop-x
invariant-loop-x l = record { long : length l.classes ≡ 96; own : (k : ℕ) → k < l.x → get_or l.classes k 0 ≡ k }
