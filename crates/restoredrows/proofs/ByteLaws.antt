-- Bytes put one after the other, as they stand. Assumes nothing.
use mathlib.Core.Path.{◌≡◌, refl, ap}
use mathlib.Core.List.{List, [], ◌∷◌}
use Prim.Native.Nat.{ℕ, ◌+◌, ◌≤◌, ◌<◌}
use lib.ListN.{length, get_or}
use Rattle.std.specs.Prelude.{Some, None}
use Rattle.laws.specs.Lists.{concat_map}
use Rattle.bytebuffer.specs.declared.Writer.{Writer}
use Rattle.bytebuffer.specs.Appends.{Appends}
use Rattle.bytebuffer.proofs.EachLaws.{each_all, each_full, each_next, first_bytes}
use Rattle.bytebuffer.proofs.PutLaws.{nothing, same-bytes}

abbrev one_byte : ℕ → List ℕ
one_byte b = b ∷ []

as_they_stand : (bytes : List ℕ) → concat_map one_byte bytes ≡ bytes
as_they_stand [] = refl
as_they_stand (b ∷ bytes) = ap (λ (bs : List ℕ). b ∷ bs) (as_they_stand bytes)

-- the bytes before i are put
pub record BytesSoFar (bytes : List ℕ) (w : Writer) (i : ℕ) (w' : Writer) : Type 0 where
  pub puts : Appends (first_bytes one_byte bytes i) w (Some tt) w'

module _ (bytes : List ℕ) where
  pub none_put : (w : Writer) → BytesSoFar bytes w 0 w
  none_put w = record { puts = nothing w }

  module _ {w w' : Writer} {i : ℕ} (f : BytesSoFar bytes w i w') where
    pub next_put : i < length bytes → {w'' : Writer} → Appends (get_or bytes i 0 ∷ []) w' (Some tt) w'' → BytesSoFar bytes w (i + 1) w''
    next_put h q = record { puts = each_next one_byte bytes f.puts h 0 q }

    pub next_outgrows : i < length bytes → {w'' : Writer} → Appends (get_or bytes i 0 ∷ []) w' None w'' → Appends bytes w None w''
    next_outgrows h q = same-bytes (as_they_stand bytes) (each_full one_byte bytes f.puts h 0 q)

    pub all_put : length bytes ≤ i → Appends bytes w (Some tt) w'
    all_put h = same-bytes (as_they_stand bytes) (each_all one_byte bytes f.puts h)

pub ruleset byte_laws = (none_put, next_put, next_outgrows)
