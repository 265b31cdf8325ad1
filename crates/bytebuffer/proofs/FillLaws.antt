-- Bytes from the start of a buffer of zeros: it is filled with them and zeros, or they outgrow it. Assumes nothing.
use mathlib.Core.Path.{◌≡◌, ap, ap₂, sym, ◌∙◌}
use mathlib.Core.Bool.{Bool, true, false, cond}
use mathlib.Core.List.{List, ◌++◌}
use Prim.Native.Nat.{ℕ, zero, suc, ◌+◌, ◌-◌}
use native.Mathlib.Omega.{arith}
use lib.Dec.{leb}
use lib.ListN.{length, drop, replicate, length-replicate}
use borrow.Author.Tests.{le-leb, lt-leb}
use Rattle.bytebuffer.specs.Puts.{Outgrow, Stand, filled}

zeros_left : (k n : ℕ) → drop {A = ℕ} k (replicate n 0) ≡ replicate (n - k) 0
zeros_left zero n = let whole : n ≡ n - 0 = omega arith in ap (λ (m : ℕ). replicate m 0) whole
zeros_left (suc k) zero = let none : 0 ≡ 0 - suc k = omega arith in ap (λ (m : ℕ). replicate m 0) none
zeros_left (suc k) (suc n) = let less : n - k ≡ suc n - suc k = omega arith in zeros_left k n ∙ ap (λ (m : ℕ). replicate m 0) less

-- by whether the bytes fit
module _ (bytes : List ℕ) (n : ℕ) where
  pub filled_with : leb (length bytes) n ≡ true → filled bytes n ≡ bytes ++ replicate (n - length bytes) 0
  filled_with q = ap (λ (b : Bool). cond b (bytes ++ replicate (n - length bytes) 0) (replicate n 0)) q

  pub filled_none : leb (length bytes) n ≡ false → filled bytes n ≡ replicate n 0
  filled_none q = ap (λ (b : Bool). cond b (bytes ++ replicate (n - length bytes) 0) (replicate n 0)) q

module _ (out : List ℕ) {blank : List ℕ} (clear : blank ≡ replicate (length out) 0) where
  long : length blank ≡ length out
  long = ap length clear ∙ length-replicate (length out) 0

  module _ {bytes : List ℕ} {end : ℕ} {out' : List ℕ} (s : Stand bytes blank 0 end out') where
    from_start : 0 + length bytes ≡ length bytes
    from_start = omega arith

    pub fits-room : leb (length bytes) (length out) ≡ true
    fits-room = le-leb (length bytes) (length out) (omega (arith, s.fit, long))

    pub ends_there : end ≡ length bytes
    ends_there = s.ends ∙ from_start

    pub fills : out' ≡ filled bytes (length out)
    fills =
        s.is ∙ ap (λ (zs : List ℕ). bytes ++ zs) (ap₂ (λ (k : ℕ) (zs : List ℕ). drop k zs) from_start clear ∙ zeros_left (length bytes) (length out))
        ∙ sym (filled_with bytes (length out) fits-room)

  module _ {bytes out' : List ℕ} (s : Outgrow bytes blank 0 out') where
    pub no_room : leb (length bytes) (length out) ≡ false
    no_room = lt-leb (length bytes) (length out) (omega (arith, s.over, long))

    -- the buffer is cleared again
    pub outgrows : {last : List ℕ} → last ≡ replicate (length out') 0 → last ≡ filled bytes (length out)
    outgrows e = e ∙ ap (λ (k : ℕ). replicate k 0) (s.long ∙ long) ∙ sym (filled_none bytes (length out) no_room)
