-- Messages: finite trees. Assumes nothing.
use Rattle.std.specs.Prelude.{List, [], ◌∷◌, ℕ, zero, suc, ℤ, pos}

-- "A message of a variant type is a variant with one message for each field, finitely deep."
-- `number t z` is the number z of type t; `made t v parts` is variant v of type t over its parts.
mutual
  pub data Message : Type 0 where
    number : ℕ → ℤ → Message
    made : ℕ → ℕ → Parts → Message

  pub data Parts : Type 0 where
    nil : Parts
    part : Message → Parts → Parts

abbrev pub to_parts : List Message → Parts
to_parts [] = nil
to_parts (m ∷ ms) = part m (to_parts ms)

-- the part at a position, or the message given where there is none
abbrev pub part_at : Parts → ℕ → Message → Message
part_at nil p d = d
part_at (part m ms) zero d = m
part_at (part m ms) (suc p) d = part_at ms p d

-- what a list gives past its end; no accepted guard looks there
abbrev pub no_message : Message
no_message = number 0 (pos 0)
