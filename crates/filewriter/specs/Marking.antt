-- The numbers of a list, and which of them are values: what the parts of the writer say of each other. Assumes nothing: definitions.
use Rattle.std.specs.Prelude.{◌≡◌, Option, List, map, ℕ, ◌≤◌, ℤ, length}
use Rattle.laws.specs.All.{All}
use Rattle.laws.specs.Lists.{concat_map}
use Rattle.tables.specs.Layout.{pad}
use Rattle.serialize.specs.Tokens.{Fits, Token, listed, token_bytes, unsigned_of}
use Rattle.bytebuffer.specs.Puts.{Puts}
use Rattle.valuemarks.specs.Marks.{mark_of, room}

-- a number and its mark are those of a token
pub record NumberMarked (x : ℤ) (mark : ℕ) : Type 0 where
  pub token : Token
  pub is : x ≡ listed token
  pub marked : mark ≡ mark_of token
  pub fits : Fits token

pub record WrittenAs (x : ℤ) (mark : ℕ) (n : ℕ) : Type 0 where
  pub is : (k : Token) → x ≡ listed k → mark ≡ mark_of k → n ≡ unsigned_of k

-- a list and its marks are those of these tokens
pub record Marked (list : List ℤ) (marks : List ℕ) (ks : List Token) : Type 0 where
  pub are : list ≡ map listed ks
  pub marked : marks ≡ pad room (map mark_of ks)
  pub fit : All Fits ks
  pub short : length ks ≤ room

pub record HasTokens (list : List ℤ) (marks : List ℕ) : Type 0 where
  pub tokens : List Token
  pub marked : Marked list marks tokens

-- the bytes of the tokens, from the start of the buffer on
pub record PutsTokens (list : List ℤ) (marks out : List ℕ) (r : Option ℕ) (out' : List ℕ) : Type 0 where
  pub puts : (ks : List Token) → Marked list marks ks → Puts (concat_map token_bytes ks) out 0 r out'
