-- Classes drawn in order of rank, where the free ones are drawn already. Assumes nothing: definitions.
use Rattle.std.specs.Prelude.{◌≡◌, Bool, true, ◌&&◌, List, ℕ, suc, ◌<◌, eqb, ℤ, get_or, set}
use Rattle.guard.specs.Message.{Message}
use Rattle.guard.specs.Types.{Types}
use Rattle.rowstore.specs.Store.{Grown}
use Rattle.plans.specs.Plans.{OpenState, is_free}
use Rattle.leaf.specs.declared.Leaf.{Leaf}
use Rattle.leaf.specs.Leaf.{open_state}
use Rattle.leaf.specs.Picture.{Pictured, Wanted}
use Rattle.leaf.specs.Sheet.{HasRow, Sheet}
use Rattle.classrow.specs.ClassRow.{FixedDrawn, LowerDrawn}

-- the classes of rank n below class c have rows
abbrev pub RankDrawn : OpenState → List ℕ → ℕ → ℕ → Type 0
RankDrawn x at n c = (d : ℕ) → Wanted x d → get_or x.ranks d 0 ≡ n → d < c → HasRow at d

-- the free classes have rows
abbrev pub FreeDrawn : OpenState → List ℕ → Type 0
FreeDrawn x at = (d : ℕ) → d < 78 → is_free x d ≡ true → HasRow at d

-- all free classes are drawn, and in order of rank all others before class c of rank n
pub record Stage (x : OpenState) (val : ℕ → Message) (rows : List ℤ) (many : ℕ) (drawn at : List ℕ) (n c : ℕ) : Type 0 where
  pub sheet : Sheet x val rows many drawn at
  pub free : FreeDrawn x at
  pub lower : LowerDrawn x at n
  pub same : RankDrawn x at n c

-- there are messages that the leaf says, and they are drawn up to class c of rank n
pub record Staged (leaf : Leaf) (at : List ℕ) (rows : List ℤ) (many n c : ℕ) : Type 0 where
  pub types : Types
  pub val : ℕ → Message
  pub drawn : List ℕ
  pub pictured : Pictured (open_state types leaf) val
  pub stage : Stage (open_state types leaf) val rows many drawn at n c

-- drawing goes on from class c of rank n to class c' of rank n', whatever the messages, and the rows before stay
abbrev pub Advances : Leaf → List ℕ → List ℤ → ℕ → ℕ → ℕ → List ℕ → List ℤ → ℕ → ℕ → ℕ → Type 0
Advances leaf at rows many n c at' rows' many' n' c' =
    (ts : Types) (val : ℕ → Message) (drawn : List ℕ) → Pictured (open_state ts leaf) val → Stage (open_state ts leaf) val rows many drawn at n c
    → Grown rows many rows' many' × Stage (open_state ts leaf) val rows' many' drawn at' n' c'

-- a class that something fixes is drawn and its row noted
pub record Noted (leaf : Leaf) (at : List ℕ) (rows : List ℤ) (many c : ℕ) (at' : List ℕ) (rows' : List ℤ) (many' : ℕ) : Type 0 where
  pub row : ℕ
  pub is : at' ≡ set at c (suc row)
  pub drew : FixedDrawn leaf at rows many c rows' many' row

-- class c gets a message, has no row, and is of rank n
unfoldable pub is_due : List ℕ → List ℕ → List ℕ → ℕ → ℕ → Bool
is_due marks ranks at n c = eqb (get_or marks c 0) 0 && (eqb (get_or at c 0) 0 && eqb (get_or ranks c 0) n)

-- class c is due in a stage of drawing
pub record DueNow (leaf : Leaf) (at : List ℕ) (rows : List ℤ) (many c : ℕ) : Type 0 where
  pub rank : ℕ
  pub staged : Staged leaf at rows many rank c
  pub due : is_due leaf.marks leaf.ranks at rank c ≡ true
