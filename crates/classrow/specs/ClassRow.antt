-- A class that something fixes is drawn, where all classes of lower rank are. Assumes nothing: definitions.
use Rattle.std.specs.Prelude.{◌≡◌, false, cond, List, ℕ, ◌-◌, ◌≤◌, ◌<◌, ltb, ℤ, get_or}
use Rattle.guard.specs.Message.{Message}
use Rattle.guard.specs.Types.{Types}
use Rattle.arrays.specs.Slots.{many_at, part_at}
use Rattle.drawnrows.specs.Drawing.{Drew, Store}
use Rattle.plans.specs.Plans.{OpenState, is_free}
use Rattle.leaf.specs.declared.Leaf.{Leaf}
use Rattle.leaf.specs.Leaf.{open_state}
use Rattle.leaf.specs.Picture.{ConstantIs, Pictured, ShapeIs, SingleIs, Wanted}
use Rattle.leaf.specs.Sheet.{HasRow, Sheet}

-- the classes of ranks below n have rows
abbrev pub LowerDrawn : OpenState → List ℕ → ℕ → Type 0
LowerDrawn x at n = (d : ℕ) → Wanted x d → get_or x.ranks d 0 < n → HasRow at d

-- the row of part p of shape k; 0 where there is no such part
unfoldable pub part_row : List ℕ → List ℕ → List ℕ → ℕ → ℕ → ℕ
part_row shapes classes at k p = cond (ltb p (many_at shapes k)) (get_or at (get_or classes (part_at shapes k p) 0) 0 - 1) 0

-- rows are numbers below 4,096
abbrev pub AtLow : List ℕ → Type 0
AtLow at = (c : ℕ) → get_or at c 0 ≤ 4096

-- shape k is drawn, if all classes of lower rank are
abbrev pub ShapeDrawn : Leaf → List ℕ → List ℤ → ℕ → ℕ → List ℤ → ℕ → ℕ → Type 0
ShapeDrawn leaf at rows many k rows' many' r =
    (ts : Types) (val : ℕ → Message) (drawn : List ℕ) (c : ℕ) → ShapeIs (open_state ts leaf) val c k → Sheet (open_state ts leaf) val rows many drawn at
    → LowerDrawn (open_state ts leaf) at (get_or leaf.ranks c 0) → Drew ts rows many drawn 1 (val c) rows' many' drawn r

abbrev pub ConstantDrawn : Leaf → List ℤ → ℕ → ℕ → List ℤ → ℕ → ℕ → Type 0
ConstantDrawn leaf rows many k rows' many' r =
    (ts : Types) (val : ℕ → Message) (drawn : List ℕ) (c : ℕ) → ConstantIs (open_state ts leaf) val c k → Store ts rows many drawn → Drew ts rows many drawn 1 (val c) rows' many' drawn r

abbrev pub SingleDrawn : Leaf → List ℤ → ℕ → ℕ → List ℤ → ℕ → ℕ → Type 0
SingleDrawn leaf rows many y rows' many' r =
    (ts : Types) (val : ℕ → Message) (drawn : List ℕ) (c : ℕ) → SingleIs (open_state ts leaf) val c y → Store ts rows many drawn → Drew ts rows many drawn 1 (val c) rows' many' drawn r

-- a class that something fixes is drawn, if all classes of lower rank are
abbrev pub FixedDrawn : Leaf → List ℕ → List ℤ → ℕ → ℕ → List ℤ → ℕ → ℕ → Type 0
FixedDrawn leaf at rows many c rows' many' r =
    (ts : Types) (val : ℕ → Message) (drawn : List ℕ) → Pictured (open_state ts leaf) val → Sheet (open_state ts leaf) val rows many drawn at
    → Wanted (open_state ts leaf) c → is_free (open_state ts leaf) c ≡ false → LowerDrawn (open_state ts leaf) at (get_or leaf.ranks c 0)
    → Drew ts rows many drawn 1 (val c) rows' many' drawn r
