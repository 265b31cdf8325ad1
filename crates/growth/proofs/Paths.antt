-- The path of a message: from each variant to the part at a position chosen for the variant, until there is none.
-- Assumes nothing.
use mathlib.Core.Path.{◌≡◌, refl, ◌∙◌}
use Prim.Native.Nat.{ℕ, zero, suc}
use Rattle.guard.specs.Message.{Message, Message.made, Message.number, Parts, Parts.nil, Parts.part, part_at}

-- ---- the path of a message: from each variant to the part at the position chosen for it; the end stays
module _ (at : ℕ → ℕ → ℕ) where
  abbrev pub next : Message → Message
  next (number t z) = number t z
  next (made t v ms) = part_at ms (at t v) (made t v ms)

  abbrev pub down : ℕ → Message → Message
  down zero m = m
  down (suc k) m = down k (next m)

  abbrev mutual
    pub end : Message → Message
    end (number t z) = number t z
    end (made t v ms) = end_at ms (at t v) (made t v ms)

    pub end_at : Parts → ℕ → Message → Message
    end_at nil p d = d
    end_at (part m ms) zero d = end m
    end_at (part m ms) (suc p) d = end_at ms p d

  end_part : (ms : Parts) (p : ℕ) (d e : Message) → end_at ms p d ≡ e → end d ≡ e → end (part_at ms p d) ≡ e
  end_part nil p d e h k = k
  end_part (part m ms) zero d e h k = h
  end_part (part m ms) (suc p) d e h k = end_part ms p d e h k

  pub end_next : (m : Message) → end (next m) ≡ end m
  end_next (number t z) = refl
  end_next (made t v ms) = end_part ms (at t v) (made t v ms) (end (made t v ms)) refl refl

  pub end_down : (k : ℕ) (m : Message) → end (down k m) ≡ end m
  end_down zero m = refl
  end_down (suc k) m = end_down k (next m) ∙ end_next m
