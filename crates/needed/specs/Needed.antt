-- The classes that get a message at a state: those of rows, and of the parts of what gets one. And what a pass that marks
-- parts of marked classes has to show. Assumes nothing: definitions.
use Rattle.std.specs.Prelude.{◌≡◌, Bool, true, false, List, ◌⊎◌, ℕ, zero, suc, ◌<◌, get_or, length, replicate, set}
use Rattle.std.specs.declared.option.Option.{Option}
use Rattle.std.specs.declared.option.Option.TheVariants.{Some}
use Rattle.laws.specs.Lists.{sum}
use Rattle.guard.specs.Closure.{State, class_of}
use Rattle.arrays.specs.Slots.{active, many_at, owner_at, part_at}

-- the class of a shape's term, and of its part p
abbrev pub own_class : List ℕ → State → ℕ → ℕ
own_class shapes s k = class_of s (owner_at shapes k)

abbrev pub part_class : List ℕ → State → ℕ → ℕ → ℕ
part_class shapes s k p = class_of s (part_at shapes k p)

pub data Needed (shapes : List ℕ) (s : State) (rows : ℕ) : ℕ → Type 0 where
  of_row : {c : ℕ} (i : ℕ) → i < rows → class_of s i ≡ c → Needed shapes s rows c
  of_part : {c : ℕ} (k p : ℕ) → k < 30 → p < many_at shapes k → active shapes s k ≡ true → Needed shapes s rows (own_class shapes s k) → part_class shapes s k p ≡ c
      → Needed shapes s rows c

-- ---- marks: 0 at a class that is needed, 1 elsewhere, so that their sum falls with each new mark

abbrev pub Marked : List ℕ → ℕ → Type 0
Marked marks c = get_or marks c 0 ≡ 0

pub record Marks (shapes : List ℕ) (s : State) (rows : ℕ) (marks : List ℕ) : Type 0 where
  pub long : length marks ≡ 96
  pub only : (c : ℕ) → c < 96 → Marked marks c → Needed shapes s rows c
  pub each : (c : ℕ) → Needed shapes s rows c → Marked marks c
  pub bits : (c : ℕ) → (get_or marks c 0 ≡ 0) ⊎ (get_or marks c 0 ≡ 1)

unfoldable pub no_marks : List ℕ
no_marks = replicate 96 1

-- the classes of the first so many rows are marked
unfoldable pub row_marks : List ℕ → ℕ → List ℕ → List ℕ
row_marks classes zero marks = marks
row_marks classes (suc i) marks = set (row_marks classes i marks) (get_or classes i 0) 0

-- the parts of class c are to be marked: it is marked, or is the one to start from if there is one
abbrev pub Leads : Option ℕ → List ℕ → ℕ → Type 0
Leads start marks c = Marked marks c ⊎ (start ≡ Some c)

-- a claim about marks, for the first n numbers
abbrev pub UpTo : (ℕ → List ℕ → Type 0) → ℕ → List ℕ → Type 0
UpTo Claim n marks = (j : ℕ) → j < n → Claim j marks

-- part p of shape k is marked
abbrev pub PartMarked : List ℕ → State → ℕ → ℕ → List ℕ → Type 0
PartMarked shapes s k p marks = Marked marks (part_class shapes s k p)

module _ (shapes : List ℕ) (s : State) (start : Option ℕ) where
  -- steps that mark, one by one, parts of what is marked or of the class to start from
  pub data Steps (marks : List ℕ) : List ℕ → Type 0 where
    done : Steps marks marks
    then : {next : List ℕ} → Steps marks next → (k p : ℕ) → k < 30 → p < many_at shapes k → active shapes s k ≡ true → Leads start next (own_class shapes s k)
        → Steps marks (set next (part_class shapes s k p) 0)

  -- all parts of shape k are marked, if they are to be
  abbrev pub Followed : ℕ → List ℕ → Type 0
  Followed k marks = active shapes s k ≡ true → Leads start marks (own_class shapes s k) → UpTo (PartMarked shapes s k) (many_at shapes k) marks

  -- only such parts are marked; the sum falls if anything changed; if nothing changed, the claim holds
  pub record Pass (Claim : List ℕ → Type 0) (marks next : List ℕ) (changed : Bool) : Type 0 where
    pub steps : Steps marks next
    pub falls : changed ≡ true → sum next < sum marks
    pub quiet : changed ≡ false → (next ≡ marks) × Claim marks

  -- such parts are marked, and no others
  pub record AllFollowed (marks next : List ℕ) : Type 0 where
    pub steps : Steps marks next
    pub all : UpTo Followed 30 next
