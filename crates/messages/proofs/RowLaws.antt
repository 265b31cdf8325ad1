-- All rows: first those of the free classes, then the others in order of rank, up to the highest of a class that gets a
-- message. Assumes nothing.
use mathlib.Core.Path.{◌≡◌}
use mathlib.Core.List.{List}
use Prim.Native.Nat.{ℕ, suc, ◌≤◌}
use native.Mathlib.Omega.{arith}
use lib.IntN.{ℤ}
use lib.ListN.{get_or}
use borrow.Author.Tests.{eqb-true}
use Rattle.guard.specs.Message.{Message}
use Rattle.guard.specs.Types.{Types}
use Rattle.rowstore.proofs.StoreLaws.{grown_twice}
use Rattle.plans.specs.Chosen.{highest_of, is_marked}
use Rattle.plans.specs.Plans.{OpenState, highest_rank, marked}
use Rattle.plans.proofs.PlanCases.{highest-small}
use Rattle.plans.proofs.PlanLaws.{highest-at}
use Rattle.leaf.specs.declared.Leaf.{Leaf}
use Rattle.leaf.specs.Leaf.{open_state}
use Rattle.leaf.specs.Picture.{Pictured, Wanted}
use Rattle.freerows.specs.Free.{FreeSheet}
use Rattle.fixedrows.specs.Stage.{Advances, Stage, Staged}
use Rattle.messages.specs.Rows.{Drawable, RowsDrawn}

module _ (ts : Types) (leaf : Leaf) where
  abbrev x : OpenState
  x = open_state ts leaf

  pub most-is : (most : ℕ) → most ≡ highest_of leaf.marks leaf.ranks → most ≡ highest_rank (open_state ts leaf)
  unfolding highest_rank
  most-is most e = e

  pub most-small : (most : ℕ) → most ≡ highest_of leaf.marks leaf.ranks → most ≤ 31
  most-small most e = omega (arith, most-is most e, highest-small x 31 leaf.ranks_low)

  rank-low : (c : ℕ) → Wanted x c → get_or leaf.ranks c 0 ≤ highest_rank x
  unfolding highest_rank highest_of marked is_marked
  rank-low c (h, m) = highest-at leaf.marks leaf.ranks 78 c h (eqb-true _ _ m)

  module _ (entry : List ℤ) (at : List ℕ) (rows : List ℤ) (many : ℕ) (free : FreeSheet ts leaf entry at rows many) where
    -- all free classes are drawn, and no other
    first-stage : (val : ℕ → Message) → Pictured (open_state ts leaf) val → Stage (open_state ts leaf) val rows many free.drawn at 0 0
    first-stage val pic = record {
      sheet = free.sheet val pic;
      free = free.free;
      lower = λ d w l. absurd (omega arith);
      same = λ d w e l. absurd (omega arith);
    }

    pub free-staged : Drawable ts leaf → Staged leaf at rows many 0 0
    free-staged d = record { types = ts; val = d.val; drawn = free.drawn; pictured = d.pictured; stage = first-stage d.val d.pictured }

    module _ (drawable : Drawable ts leaf) (most : ℕ) (is_most : most ≡ highest_of leaf.marks leaf.ranks) (at' : List ℕ) (rows' : List ℤ) (many' : ℕ) (rest : Advances leaf at rows many 0 0 at' rows' many' (suc most) 0) where
      last-stage : (val : ℕ → Message) → Pictured (open_state ts leaf) val → Stage (open_state ts leaf) val rows' many' free.drawn at' (suc most) 0
      last-stage val pic = (rest ts val free.drawn pic (first-stage val pic)).1

      pub rows-drawn : RowsDrawn ts leaf entry at' rows' many'
      rows-drawn = record {
        drawn = free.drawn;
        grown = grown_twice entry 0 rows many rows' many' free.grown (rest ts drawable.val free.drawn drawable.pictured (first-stage drawable.val drawable.pictured)).0;
        sheet = λ val pic. (last-stage val pic).sheet;
        all = λ c w. (last-stage drawable.val drawable.pictured).lower c w (omega (arith, most-is most is_most, rank-low c w));
      }
