-- What is due by the arrays of a well-formed guard's problem follows by the rules for the guard, and where all that is due holds,
-- nothing that the rules give is new: each family of rules, and all together. Assumes nothing.
use mathlib.Core.Path.{◌≡◌}
use mathlib.Core.Bool.{true}
use mathlib.Core.List.Memᴰ
use mathlib.Core.List.{List, ◌++◌, Memᴰ}
use Prim.Native.Nat.{◌≤◌}
use lib.ListN.{length}
use Rattle.laws.specs.All.{All}
use Rattle.laws.proofs.Bools.{either}
use Rattle.laws.proofs.Lists.{all_left, all_right}
use Rattle.guard.specs.Closure.{Fact, State, builds_at, built_rows, consequences, holds, read_absent, reads, single}
use Rattle.guard.specs.Guard.{Guard}
use Rattle.guard.specs.Limits.{Limits, Supported, total_variant_limit}
use Rattle.guard.specs.Terms.{Build, Read, Term, table_of}
use Rattle.guard.specs.WellFormed.{WellFormed}
use Rattle.guard.proofs.AnyOrder.{Follows}
use Rattle.guard.proofs.ClosureBelow.{all-consequences}
use Rattle.guard.proofs.ClosureState.{Small}
use Rattle.tables.specs.Layout.{flat}
use Rattle.arrays.specs.Arrays.{fieldless_of, reads_of, shapes_of, sorts_of}
use Rattle.arrays.proofs.GuardSlots.{read_slots, shape_slots, sort_slots}
use Rattle.congruence.specs.Due.{shapes_due}
use Rattle.congruence.proofs.ShapesFollow.{builds_follow, builds-quiet}
use Rattle.reads.specs.Due.{defaults_due, reads_due}
use Rattle.reads.proofs.ReadsFollow.{absent_follow, absent-quiet, pairs_follow, pairs-quiet}
use Rattle.singles.specs.Due.{singles_due}
use Rattle.singles.proofs.SinglesFollow.{terms_follow, terms-quiet}
use Rattle.saturation.specs.Due.{all_due}

module _ (limits : Limits) (sup : Supported limits) (g : Guard) (ok : WellFormed limits g) (total : length (flat g.types) ≤ total_variant_limit) where
  -- ---- each family

  module _ (s : State) (small : Small s) where
    pub defaults_follow : (f : Fact) → Memᴰ f (defaults_due (reads_of g) s) → Follows (table_of g) s f
    defaults_follow = absent_follow (table_of g) (reads_of g) (read_slots limits sup g ok total) s small

    pub defaults-quiet : All (λ f. holds s f ≡ true) (defaults_due (reads_of g) s) → (r : Read) → Memᴰ r (table_of g).reads → All (λ f. holds s f ≡ true) (read_absent s r)
    defaults-quiet = absent-quiet (table_of g) (reads_of g) (read_slots limits sup g ok total) s small

    pub reads_follow : (f : Fact) → Memᴰ f (reads_due (reads_of g) s) → Follows (table_of g) s f
    reads_follow = pairs_follow (table_of g) (reads_of g) (read_slots limits sup g ok total) s

    pub reads-quiet : All (λ f. holds s f ≡ true) (reads_due (reads_of g) s) → (a b : Read) → Memᴰ a (table_of g).reads → Memᴰ b (table_of g).reads
        → All (λ f. holds s f ≡ true) (reads s a b)
    reads-quiet = pairs-quiet (table_of g) (reads_of g) (read_slots limits sup g ok total) s

    pub shapes_follow : (f : Fact) → Memᴰ f (shapes_due (shapes_of g) s) → Follows (table_of g) s f
    shapes_follow = builds_follow (table_of g) (shapes_of g) (shape_slots limits sup g ok total) s small

    pub shapes-quiet : All (λ f. holds s f ≡ true) (shapes_due (shapes_of g) s) → (a b : Build) → Memᴰ a (builds_at (table_of g) s) → Memᴰ b (builds_at (table_of g) s)
        → All (λ f. holds s f ≡ true) (built_rows s a b)
    shapes-quiet = builds-quiet (table_of g) (shapes_of g) (shape_slots limits sup g ok total) s small

    pub singles_follow : (f : Fact) → Memᴰ f (singles_due (sorts_of g) (fieldless_of g) s) → Follows (table_of g) s f
    singles_follow = terms_follow (table_of g) (sorts_of g) (fieldless_of g) (sort_slots limits sup g ok total) s

    pub singles_quiet : All (λ f. holds s f ≡ true) (singles_due (sorts_of g) (fieldless_of g) s) → (a b : Term) → Memᴰ a (table_of g).terms → Memᴰ b (table_of g).terms
        → All (λ f. holds s f ≡ true) (single (table_of g).types s a b)
    singles_quiet = terms-quiet (table_of g) (sorts_of g) (fieldless_of g) (sort_slots limits sup g ok total) s

    -- ---- all together

    abbrev absents : List Fact
    absents = defaults_due (reads_of g) s

    abbrev singles : List Fact
    singles = singles_due (sorts_of g) (fieldless_of g) s

    abbrev shapes : List Fact
    shapes = shapes_due (shapes_of g) s

    abbrev pairs : List Fact
    pairs = reads_due (reads_of g) s

    pub all_follow : (f : Fact) → Memᴰ f (all_due (shapes_of g) (reads_of g) (sorts_of g) (fieldless_of g) s) → Follows (table_of g) s f
    unfolding all_due
    all_follow f m =
        either (λ a. either (λ b. either (defaults_follow f) (singles_follow f) (Memᴰ.append_cases absents b)) (shapes_follow f) (Memᴰ.append_cases (absents ++ singles) a)) (reads_follow f)
        (Memᴰ.append_cases (absents ++ singles ++ shapes) m)

    pub nothing_new : All (λ f. holds s f ≡ true) (all_due (shapes_of g) (reads_of g) (sorts_of g) (fieldless_of g) s) → All (λ f. holds s f ≡ true) (consequences (table_of g) s)
    unfolding all_due
    nothing_new h =
        let front = all_left (absents ++ singles ++ shapes) pairs h in
        let start = all_left (absents ++ singles) shapes front in
        all-consequences (table_of g) s (shapes-quiet (all_right (absents ++ singles) shapes front)) (reads-quiet (all_right (absents ++ singles ++ shapes) pairs h))
        (singles_quiet (all_right absents singles start)) (defaults-quiet (all_left absents singles start))
