-- Bytes at the start of an array, and bytes of a lent slice. Assumes nothing.
use mathlib.Core.Path.{◌≡◌, ap, ◌∙◌}
use mathlib.Core.List.{List, [], ◌∷◌}
use Prim.Native.Nat.{ℕ, zero, suc, ◌+◌, ◌-◌, ◌<◌}
use native.Mathlib.Omega.{arith}
use lib.ListN.{drop, get_or, length, length-drop, take}
use lib.Seq.{take_all, take_at}
use Rattle.laws.specs.All.{All, All.more, All.none}
use Rattle.bytebuffer.specs.Puts.{Stand}

pub front-is : {bytes out out' : List ℕ} {end : ℕ} → Stand bytes out 0 end out' → take end out' ≡ bytes
front-is {bytes} {out} {end = end} s = ap (take end) s.is ∙ take_at bytes (drop (0 + length bytes) out) end (omega (arith, s.ends))

all-at : (bs : List ℕ) → ((i : ℕ) → get_or bs i 0 < 256) → All (λ b. b < 256) bs
all-at [] h = none
all-at (b ∷ bs) h = more (h 0) (all-at bs (λ i. h (suc i)))

pub bytes-from : (bs : List ℕ) → ((i : ℕ) → get_or bs i 0 < 256) → (at : ℕ) → All (λ b. b < 256) (drop at bs)
bytes-from bs h zero = all-at bs h
bytes-from [] h (suc at) = none
bytes-from (b ∷ bs) h (suc at) = bytes-from bs (λ i. h (suc i)) at

-- a part up to the end
pub to_the_end : (bs : List ℕ) (at : ℕ) → take (length bs - at) (drop at bs) ≡ drop at bs
to_the_end bs at = take_all (length bs - at) (drop at bs) (omega (arith, length-drop at bs))
