-- Messages for the classes of an open node, by the slots of its arrays: what the message of each class is made of.
-- Assumes nothing: definitions.
use Rattle.std.specs.Prelude.{◌≡◌, true, [], map, ℕ, suc, ◌<◌, length, get_or}
use Rattle.laws.specs.Lists.{from}
use Rattle.guard.specs.Closure.{class_of, label_of}
use Rattle.guard.specs.Limits.{variant_limit}
use Rattle.guard.specs.Message.{Message, Message.made, Message.number, Parts.nil, to_parts}
use Rattle.guard.specs.Shown.{message_type}
use Rattle.guard.specs.Types.{fields_of, is_number, variants_of}
use Rattle.growth.proofs.Plans.{planned_message}
use Rattle.arrays.specs.Arrays.{kind_number}
use Rattle.arrays.specs.Slots.{kind_at, many_at, part_at, sort_at}
use Rattle.constants.specs.Constants.{constant_value}
use Rattle.splits.specs.Choice.{lowest_in}
use Rattle.kinds.specs.Found.{constant_of, is_shape, single_of}
use Rattle.plans.specs.Plans.{OpenState, is_free, marked, plan_for, state_of, type_for}

-- class c gets a message; classes are numbers of terms, so below 78
abbrev pub Wanted : OpenState → ℕ → Type 0
Wanted x c = (c < 78) × (marked x c ≡ true)

module _ (x : OpenState) (val : ℕ → Message) where
  -- the class of part p of shape k
  abbrev pub part_class : ℕ → ℕ → ℕ
  part_class k p = class_of (state_of x) (part_at x.shapes k p)

  abbrev pub rank_at : ℕ → ℕ
  rank_at c = get_or x.ranks c 0

  -- class c has shape k: a variant over the messages of the parts' classes, which get messages and have lower ranks
  pub record ShapeIs (c k : ℕ) : Type 0 where
    pub type : ℕ
    pub variant : ℕ
    pub kind : kind_at x.shapes k ≡ kind_number type variant
    pub known : type < length x.types
    pub small : variant < variant_limit
    pub fits : variant < length (variants_of x.types type)
    pub many : many_at x.shapes k ≡ length (fields_of x.types type variant)
    pub parts : (p : ℕ) → p < many_at x.shapes k → Wanted x (part_class k p)
    pub falls : (p : ℕ) → p < many_at x.shapes k → rank_at (part_class k p) < rank_at c
    pub typed : (p : ℕ) → p < many_at x.shapes k → message_type (val (part_class k p)) ≡ get_or (fields_of x.types type variant) p 0
    pub value : val c ≡ made type variant (to_parts (map (λ p. val (part_class k p)) (from (many_at x.shapes k) 0)))

  -- class c has the constant in slot k
  pub record ConstantIs (c k : ℕ) : Type 0 where
    pub type : ℕ
    pub sort : get_or x.constants k 0 ≡ suc type
    pub known : type < length x.types
    pub is_number : is_number x.types type ≡ true
    pub value : val c ≡ number type (constant_value x.values k)

  -- class c has term y, of one fieldless variant alone
  pub record SingleIs (c y : ℕ) : Type 0 where
    pub type : ℕ
    pub sort : sort_at x.sorts y ≡ suc type
    pub known : type < length x.types
    pub small : lowest_in (label_of (state_of x) y) < variant_limit
    pub fits : lowest_in (label_of (state_of x) y) < length (variants_of x.types type)
    pub bare : fields_of x.types type (lowest_in (label_of (state_of x) y)) ≡ []
    pub value : val c ≡ made type (lowest_in (label_of (state_of x) y)) nil

  -- each class that gets a message has the one that its shape, its constant, its one variant or its plan says
  pub record Pictured : Type 0 where
    pub shape : (c k : ℕ) → Wanted x c → k < 30 → is_shape x.shapes (state_of x) c k ≡ true → ShapeIs c k
    pub constant : (c : ℕ) → Wanted x c → constant_of x.constants x.classes c < 30 → ConstantIs c (constant_of x.constants x.classes c)
    pub single : (c : ℕ) → Wanted x c → single_of x.sorts x.fieldless (state_of x) c < 78 → SingleIs c (single_of x.sorts x.fieldless (state_of x) c)
    pub free : (c : ℕ) → c < 78 → is_free x c ≡ true → val c ≡ planned_message x.types (type_for x c) (plan_for x c)
