-- Bytes put behind those that a writer has written, if they fit. Assumes nothing: definitions.
use Rattle.std.specs.Prelude.{◌≡◌, Option, Some, None, List, ℕ}
use Rattle.bytebuffer.specs.declared.Writer.{Writer}
use Rattle.bytebuffer.specs.Puts.{Outgrow, Stand}

abbrev pub Behind : List ℕ → Writer → Option (Unit {0}) → Writer → Type 0
Behind bytes w (Some u) w' = Stand bytes w.out.now w.at w'.at w'.out.now
Behind bytes w None w' = Outgrow bytes w.out.now w.at w'.out.now

-- the writer still has the same buffer
pub record Appends (bytes : List ℕ) (w : Writer) (r : Option (Unit {0})) (w' : Writer) : Type 0 where
  pub same : w'.out.ghost_name ≡ w.out.ghost_name
  pub behind : Behind bytes w r w'
