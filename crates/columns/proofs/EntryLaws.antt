-- Masks as the code makes them, by shifting, and numbers of types. Assumes nothing.
use mathlib.Core.Path.{◌≡◌, ap, ◌∙◌}
use mathlib.Core.Bool.{Bool, cond}
use Prim.Native.Nat.{ℕ, ◌+◌, ◌*◌, ◌-◌, ◌%◌, ◌^◌, ◌≤◌, ◌<◌}
use native.Mathlib.Nat.{one-mul}
use native.Mathlib.Omega.{arith}
use lib.Dec.{lit<}
use lib.Pow.{pow_pos, shl_exact}
use borrow.Author.Tests.{lt-ltb, le-ltb}
use Rattle.guard.specs.Closure.{every_variant}
use Rattle.columns.specs.Entries.{bit_of, ones_of, plus_one}

pub shifted_one : (v : ℕ) → v < 16 → (1 * 2 ^ v) % 2 ^ 16 ≡ 2 ^ v
shifted_one v h = shl_exact 1 v 16 (lit< tt) (omega arith) ∙ one-mul (2 ^ v)

-- and that there is something to subtract from
pub ruleset ones = (shifted_one, pow_pos)

pub bit_is : (v : ℕ) → v < 16 → bit_of v ≡ 2 ^ v
unfolding bit_of
bit_is v h = ap (λ (b : Bool). cond b (2 ^ v) 0) (lt-ltb v 16 h)

pub ones_are : (n : ℕ) → n < 16 → ones_of n ≡ 2 ^ n - 1
unfolding ones_of
ones_are n h = ap (λ (b : Bool). cond b (2 ^ n - 1) every_variant) (lt-ltb n 16 h)

pub ones_all : (n : ℕ) → 16 ≤ n → ones_of n ≡ every_variant
unfolding ones_of
ones_all n h = ap (λ (b : Bool). cond b (2 ^ n - 1) every_variant) (le-ltb n 16 h)

pub one_more : (t : ℕ) → t < 6 → plus_one t ≡ t + 1
unfolding plus_one
one_more t h = ap (λ (b : Bool). cond b (t + 1) 0) (lt-ltb t 6 h)

pub no-type : (t : ℕ) → 6 ≤ t → plus_one t ≡ 0
unfolding plus_one
no-type t h = ap (λ (b : Bool). cond b (t + 1) 0) (le-ltb t 6 h)
