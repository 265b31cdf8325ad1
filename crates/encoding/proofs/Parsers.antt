-- What an accepting parser's parts accepted. Assumes nothing.
use mathlib.Core.Path.{◌≡◌, refl}
use mathlib.Core.Bool.{Bool, true, false}
use mathlib.Core.List.{List}
use Prim.Native.Nat.{ℕ}
use native.Mathlib.Omega.{arith}
use Rattle.guard.specs.Number.{Parsed, Parsed.accepted, Parsed.refused, Parser, ◌>>=◌, ◌>>◌, and_then, ask}

pub not_accepted : {A : Type 0} (q : ℕ) (a : A) (rest : List ℕ) → Path (Parsed A) (refused q) (accepted a rest) → ⊥
not_accepted q a rest e = let z : ◌≡◌ {A = ℕ} 0 1 = cc in omega arith

module _ {A B : Type 0} where
  -- two parsers, one after the other
  pub bind_inv : (p : Parser A) (f : A → Parser B) (bs : List ℕ) (b : B) (rest : List ℕ) → (p >>= f) bs ≡ accepted b rest
      → (a : A) × (mid : List ℕ) × (p bs ≡ accepted a mid) × (f a mid ≡ accepted b rest)
  bind_inv p f bs b rest e = go (p bs) refl e
    where
      go : (r : Parsed A) → p bs ≡ r → and_then f r ≡ accepted b rest → (a : A) × (mid : List ℕ) × (p bs ≡ accepted a mid) × (f a mid ≡ accepted b rest)
      go (refused q) h r = absurd (not_accepted q b rest r)
      go (accepted a mid) h r = (a, mid, h, r)

-- a question, and a parser after it
pub ask_inv : {A : Type 0} (q : ℕ) (yes : Bool) (p : Parser A) (bs : List ℕ) (a : A) (rest : List ℕ) → (ask q yes >> p) bs ≡ accepted a rest → (yes ≡ true) × (p bs ≡ accepted a rest)
ask_inv q true p bs a rest e = (refl, e)
ask_inv q false p bs a rest e = absurd (not_accepted q a rest e)
