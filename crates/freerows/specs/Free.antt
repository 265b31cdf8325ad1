-- Rows for the free classes of an open node: what is asked of the node, how far the drawing has come at class c, and the
-- sheet at the end. Assumes nothing: definitions.
use Rattle.std.specs.Prelude.{◌≡◌, true, false, List, ℕ, suc, ◌+◌, ◌*◌, ◌≤◌, ◌<◌, ℤ, length, get_or}
use Rattle.guard.specs.Message.{Message}
use Rattle.guard.specs.Types.{Types, default_of, fields_of, is_number, variants_of}
use Rattle.rowstore.specs.Store.{Grown, message_at}
use Rattle.growth.proofs.ClosedPlans.{lap}
use Rattle.growth.proofs.Growth.{grow_from}
use Rattle.growth.proofs.Plans.{planned_message}
use Rattle.drawnrows.specs.Drawing.{Drew, Room, Store, Under, growth_rows, unset}
use Rattle.plans.specs.Fresh.{fresh_after}
use Rattle.plans.specs.Plans.{OpenState, circled_before, ends_before, highest_rank, is_free, plan_for, sort_for, type_for, variant_for}
use Rattle.leaf.specs.Leaf.{open_state}
use Rattle.leaf.specs.Picture.{Pictured}
use Rattle.leaf.specs.Sheet.{Enough, HasRow, Placed, Sheet, free_rows}
use Rattle.leaf.specs.declared.Leaf.{Leaf}

-- no class has a row
abbrev pub Blank : List ℕ → Type 0
Blank at = (length at ≡ 96) × ((c : ℕ) → get_or at c 0 ≡ 0)

-- class c has a type, and if that is a variant type, a variant with fields
pub record ClassFits (x : OpenState) (c : ℕ) : Type 0 where
  pub sort : sort_for x c ≡ suc (type_for x c)
  pub known : type_for x c < length x.types
  pub fits : is_number x.types (type_for x c) ≡ false → variant_for x c < length (variants_of x.types (type_for x c))
  pub wide : is_number x.types (type_for x c) ≡ false → 0 < length (fields_of x.types (type_for x c) (variant_for x c))

-- each free class does
abbrev pub FreeFits : OpenState → Type 0
FreeFits x = (c : ℕ) → c < 78 → is_free x c ≡ true → ClassFits x c

-- the message that class c gets by its plan
abbrev pub free_message : OpenState → ℕ → Message
free_message x c = planned_message x.types (type_for x c) (plan_for x c)

-- the last fresh number used for the classes below c
abbrev pub last_fresh : OpenState → ℕ → ℕ
last_fresh x c = fresh_after x.constants x.values (ends_before x c)

-- the message at the top of root r's chain: a lap for each class below c that goes round the cycle
abbrev pub chain_top : OpenState → ℕ → ℕ → Message
chain_top x c r = grow_from x.types (circled_before x c r * lap x.types (highest_rank x) r) r (default_of x.types r)

-- the chains of the classes below c
pub record Tops (x : OpenState) (c : ℕ) (rows : List ℤ) (many : ℕ) (tops : List ℕ) : Type 0 where
  pub six : length tops ≡ 6
  pub none : (r : ℕ) → get_or tops r 0 ≡ 0 → circled_before x c r ≡ 0
  pub there : (r row : ℕ) → get_or tops r 0 ≡ suc row → row < many
  pub shows : (r row : ℕ) → get_or tops r 0 ≡ suc row → message_at x.types rows many row ≡ chain_top x c r

-- free class c is to be drawn, and those below it are
pub record FreeNow (x : OpenState) (c : ℕ) (rows : List ℤ) (many : ℕ) (drawn tops : List ℕ) (most last : ℕ) : Type 0 where
  pub small : c < 78
  pub free : is_free x c ≡ true
  pub fits : ClassFits x c
  pub store : Store x.types rows many drawn
  pub room : Room rows many drawn (growth_rows x.types most)
  pub chains : Tops x c rows many tops
  pub highest : most ≡ highest_rank x
  pub fresh : last ≡ last_fresh x c

-- free class c is drawn
pub record FreeDrawn (x : OpenState) (c : ℕ) (rows : List ℤ) (many : ℕ) (drawn : List ℕ) (rows' : List ℤ) (many' : ℕ) (drawn' tops' : List ℕ) (last' row : ℕ) : Type 0 where
  pub drew : Drew x.types rows many drawn (growth_rows x.types (highest_rank x)) (free_message x c) rows' many' drawn' row
  pub chains : Tops x (suc c) rows' many' tops'
  pub fresh : last' ≡ last_fresh x (suc c)

-- the free classes below c are drawn, and nothing else
pub record FreeStage (x : OpenState) (c : ℕ) (at : List ℕ) (rows : List ℤ) (many : ℕ) (drawn tops : List ℕ) (last : ℕ) : Type 0 where
  pub store : Store x.types rows many drawn
  pub long : length at ≡ 96
  pub enough : Enough x rows
  -- the defaults, a row for each other class, and what the free classes passed take
  pub room : many + unset drawn + unset at ≤ 102 + free_rows x c
  pub below : (d r : ℕ) → Placed at d r → d < c
  pub only : (d r : ℕ) → Placed at d r → is_free x d ≡ true
  pub there : (d r : ℕ) → Placed at d r → r < many
  pub shows : (d r : ℕ) → Placed at d r → message_at x.types rows many r ≡ free_message x d
  pub under : (i : ℕ) → i < many → (d : ℕ) × (r : ℕ) × Placed at d r × Under x.types rows r i
  pub all : (d : ℕ) → d < c → is_free x d ≡ true → HasRow at d
  pub chains : Tops x c rows many tops
  pub fresh : last ≡ last_fresh x c

-- every free class has a row and nothing else is drawn: a sheet, whatever the messages of the other classes. Of the buffer
-- only these rows are written.
pub record FreeSheet (ts : Types) (leaf : Leaf) (entry : List ℤ) (at : List ℕ) (rows : List ℤ) (many : ℕ) : Type 0 where
  pub drawn : List ℕ
  pub grown : Grown entry 0 rows many
  pub sheet : (val : ℕ → Message) → Pictured (open_state ts leaf) val → Sheet (open_state ts leaf) val rows many drawn at
  pub free : (d : ℕ) → d < 78 → is_free (open_state ts leaf) d ≡ true → HasRow at d
