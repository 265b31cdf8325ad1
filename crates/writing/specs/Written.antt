-- Text behind the first `at` bytes of a buffer. Assumes nothing: definitions.
use Rattle.std.specs.Prelude.{◌≡◌, List, ◌++◌, ℕ, ◌+◌, ◌≤◌, length, take, drop}

-- a text of at most so many bytes is put behind the first `at`, `end` is the place after it, and the bytes from there on stay
pub record Written (most : ℕ) (out : List ℕ) (at : ℕ) (text : List ℕ) (out' : List ℕ) (end : ℕ) : Type 0 where
  pub long : length out' ≡ length out
  pub few : length text ≤ most
  pub ends : end ≡ at + length text
  pub front : take end out' ≡ take at out ++ text
  pub rest : drop end out' ≡ drop end out
