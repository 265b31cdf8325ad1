-- What a guard means: values of rows under an assignment, and when the guard holds. Assumes nothing.
use Rattle.std.specs.Prelude.{◌≡◌, Bool, true, false, cond, List, [], ◌∷◌, ◌++◌, map, ℕ, ◌<◌, eqb, length, get_or}
use Rattle.guard.specs.Message.{Message, Message.number, Message.made, Parts, Parts.nil, Parts.part, to_parts, part_at, no_message}
use Rattle.guard.specs.Types.{Types, Variant, variants_of, fields_of, is_number, absent_field}
use Rattle.guard.specs.Guard.{Row, Row.variable, Row.constant, Row.built, Row.field, Literal, Literal.equal, Literal.unequal, Literal.is, Literal.isnt, Guard, row_at}

-- "V = 0 is a number type, whose messages are all the whole numbers."
-- "A message of a variant type is a variant with one message for each field"
abbrev mutual
  pub Belongs : Types → Message → ℕ → Type 0
  Belongs ts (number u z) t = (u ≡ t) × (is_number ts t ≡ true)
  Belongs ts (made u v ms) t = (u ≡ t) × (v < length (variants_of ts t)) × BelongAll ts ms (fields_of ts t v)

  pub BelongAll : Types → Parts → Variant → Type 0
  BelongAll ts nil [] = Unit {0}
  BelongAll ts nil (f ∷ fs) = ⊥
  BelongAll ts (part m ms) [] = ⊥
  BelongAll ts (part m ms) (f ∷ fs) = Belongs ts m f × BelongAll ts ms fs

-- "A field read from a message of another variant gives the default of the field's type."
abbrev pub read_field : Types → ℕ → ℕ → ℕ → Message → Message
read_field ts t v p (number u z) = no_message
read_field ts t v p (made u w ms) = cond (eqb v w) (part_at ms p no_message) (absent_field ts t v p)

-- the value of row i; `vals` are the values of the rows before it
abbrev pub value_of : Types → (ℕ → Message) → ℕ → List Message → Row → Message
value_of ts ρ i vals (variable t) = ρ i
value_of ts ρ i vals (constant t z) = number t z
value_of ts ρ i vals (built t v ps) = made t v (to_parts (map (λ p. get_or vals p no_message) ps))
value_of ts ρ i vals (field t a v p) = read_field ts t v p (get_or vals a no_message)

abbrev pub values_from : Types → (ℕ → Message) → List Message → List Row → List Message
values_from ts ρ vals [] = vals
values_from ts ρ vals (r ∷ rs) = values_from ts ρ (vals ++ (value_of ts ρ (length vals) vals r ∷ [])) rs

-- the values of a guard's rows under an assignment of messages to its variables
abbrev pub values : Guard → (ℕ → Message) → List Message
values g ρ = values_from g.types ρ [] g.rows

abbrev pub IsVariant : Message → ℕ → Type 0
IsVariant (number t z) v = ⊥
IsVariant (made t w ms) v = w ≡ v

-- "equal, two terms"; "unequal, two terms"; "is, a term, a variant"; "isn't, a term, a variant"
abbrev pub LiteralHolds : List Message → Literal → Type 0
LiteralHolds vals (equal i j) = get_or vals i no_message ≡ get_or vals j no_message
LiteralHolds vals (unequal i j) = ¬ (get_or vals i no_message ≡ get_or vals j no_message)
LiteralHolds vals (is i v) = IsVariant (get_or vals i no_message) v
LiteralHolds vals (isnt i v) = ¬ IsVariant (get_or vals i no_message) v

abbrev pub AllHold : List Message → List Literal → Type 0
AllHold vals [] = Unit {0}
AllHold vals (l ∷ ls) = LiteralHolds vals l × AllHold vals ls

-- an assignment gives each variable a message of its type
pub record Assigns (g : Guard) (ρ : ℕ → Message) : Type 0 where
  pub belongs : (i t : ℕ) → row_at g.rows i ≡ variable t → Belongs g.types (ρ i) t

-- "A guard holds under an assignment of messages to its variables when all its lines do."
pub record Holds (g : Guard) (ρ : ℕ → Message) : Type 0 where
  pub assigns : Assigns g ρ
  pub literals : AllHold (values g ρ) g.literals

pub record Satisfiable (g : Guard) : Type 0 where
  pub assignment : ℕ → Message
  pub holds : Holds g assignment
