-- What fixes a class of an open node, by the slots of the problem's arrays: a shape, a constant, one fieldless variant; a
-- class with none of these is free. proofs/ shows that this is the kind that crate `models` gives. Assumes nothing: definitions.
use Rattle.std.specs.Prelude.{Bool, ◌&&◌, List, ℕ, eqb, ltb}
use Rattle.guard.specs.Closure.{State, class_of, label_of}
use Rattle.guard.specs.Limits.{variant_limit}
use Rattle.loops.specs.Lowest.{lowest}
use Rattle.arrays.specs.Slots.{active, only_is, owner_at}
use Rattle.splits.specs.Choice.{lowest_in}
use Rattle.unlikeconstants.specs.Unlike.{is_constant_of}

-- slot k has a shape of class c; the lowest such slot, 30 where there is none
unfoldable pub is_shape : List ℕ → State → ℕ → ℕ → Bool
is_shape shapes s c k = active shapes s k && eqb (class_of s (owner_at shapes k)) c

unfoldable pub shape_of : List ℕ → State → ℕ → ℕ
shape_of shapes s c = lowest (is_shape shapes s c) 30

-- the lowest slot with a constant of class c, 30 where there is none
unfoldable pub constant_of : List ℕ → List ℕ → ℕ → ℕ
constant_of constants classes c = lowest (is_constant_of constants classes c) 30

-- term x of class c is of one fieldless variant alone, the lowest of its label; the lowest such term, 78 where there is none
unfoldable pub is_single : List ℕ → List ℕ → State → ℕ → ℕ → Bool
is_single sorts fieldless s c x = eqb (class_of s x) c && (ltb (lowest_in (label_of s x)) variant_limit && only_is sorts fieldless s x (lowest_in (label_of s x)))

unfoldable pub single_of : List ℕ → List ℕ → State → ℕ → ℕ
single_of sorts fieldless s c = lowest (is_single sorts fieldless s c) 78
