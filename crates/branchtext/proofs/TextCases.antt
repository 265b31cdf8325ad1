-- The request's own lines, and whole texts: three branches with a budget that suffices, one that doesn't, and none; a refusal. Assumes
-- nothing.
use mathlib.Core.Path.{◌≡◌, refl}
use mathlib.Core.List.{[], ◌∷◌}
use lib.ListN.{replicate}
use Rattle.std.specs.Prelude.{Ok, Err}
use Rattle.guard.specs.Question.{number_of}
use Rattle.guard.specs.declared.Question.TheVariants.{BranchCount}
use Rattle.branches.specs.Verdicts.{lists_of}
use Rattle.writing.specs.Words.{ascii, decimal}
use Rattle.branchtext.specs.BranchText.{branch_text, line, lists_text, pair_line}

-- "as `dead 2`, `pair 0 1`, `spent 2` and `spent 0 1`"
pub lines_as_asked : branch_text (Ok 3) (1 ∷ 1 ∷ 2 ∷ 1 ∷ 2 ∷ 2 ∷ []) ≡ ascii "dead 2\npair 0 1\n"
unfolding decimal line lists_of lists_text pair_line
lines_as_asked = refl

pub spent_as_asked : branch_text (Ok 3) (1 ∷ 1 ∷ 3 ∷ 3 ∷ 2 ∷ 2 ∷ []) ≡ ascii "spent 2\nspent 0 1\n"
unfolding decimal line lists_of lists_text pair_line
spent_as_asked = refl

-- "these lists in turn", "branches before pairs", "each in rising order"
pub all-spent : branch_text (Ok 3) (replicate 36 3) ≡ ascii "spent 0\nspent 1\nspent 2\nspent 0 1\nspent 0 2\nspent 1 2\n"
unfolding decimal line lists_of lists_text pair_line
all-spent = refl

pub in_turn : branch_text (Ok 3) (2 ∷ 3 ∷ 1 ∷ 2 ∷ 1 ∷ 3 ∷ []) ≡ ascii "dead 0\npair 0 2\nspent 1\nspent 1 2\n"
unfolding decimal line lists_of lists_text pair_line
in_turn = refl

-- "or REFUSED and its number"
pub refused_text : branch_text (Err 19) (replicate 36 0) ≡ ascii "REFUSED 19\n"
unfolding decimal line lists_of lists_text pair_line
refused_text = refl

-- the same of the question
pub refused_question : branch_text (Err (number_of BranchCount)) (replicate 36 0) ≡ ascii "REFUSED 19\n"
refused_question = refused_text
