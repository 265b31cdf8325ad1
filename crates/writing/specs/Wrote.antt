-- Text behind what a writer has written. Assumes nothing: definitions.
use Rattle.std.specs.Prelude.{◌≡◌, List, ◌++◌, ℕ, ◌+◌, ◌≤◌, length, take, drop}
use Rattle.bytebuffer.specs.declared.Writer.{Writer}

-- there is room for so many bytes more
abbrev pub HasRoom : ℕ → Writer → Type 0
HasRoom most w = w.at + most ≤ length w.out.now

-- a text of at most so many bytes is put, as `Written` says it of a buffer and a place; the writer still has the same buffer
pub record Wrote (most : ℕ) (text : List ℕ) (w w' : Writer) : Type 0 where
  pub same : w'.out.ghost_name ≡ w.out.ghost_name
  pub long : length w'.out.now ≡ length w.out.now
  pub few : length text ≤ most
  pub ends : w'.at ≡ w.at + length text
  pub front : take w'.at w'.out.now ≡ take w.at w.out.now ++ text
  pub rest : drop w'.at w'.out.now ≡ drop w'.at w.out.now
