-- A number half written: groups that are put, and the number that the others make. Assumes nothing.
use mathlib.Core.Path.{◌≡◌, refl, ap, sym, ◌∙◌}
use mathlib.Core.List.{List, [], ◌∷◌, ◌++◌, append_assoc}
use Prim.Native.Nat.{ℕ, zero, suc, ◌+◌, ◌/◌, ◌%◌, ◌^◌, ◌≤◌, ◌<◌}
use native.Mathlib.Omega.{arith}
use native.Mathlib.Nat.{pow-suc}
use borrow.Author.Tests.{le-ltb, lt-ltb}
use Rattle.std.specs.Prelude.{Option, Some, None}
use Rattle.guard.specs.Number.{width64}
use Rattle.encoding.specs.Encoding.{encoded_of, groups_of}
use Rattle.bytebuffer.specs.declared.Writer.{Writer}
use Rattle.bytebuffer.specs.Appends.{Appends}
use Rattle.bytebuffer.proofs.PutLaws.{and_then, nothing, same-bytes, still_full}

-- some groups of n are put; the others are those of `rest`
pub record Midway (n : ℕ) (w : Writer) (rest : ℕ) (w' : Writer) : Type 0 where
  pub done : List ℕ
  pub left : ℕ
  pub split : encoded_of width64 n ≡ done ++ groups_of (suc left) rest
  pub enough : rest < 128 ^ suc left
  pub puts : Appends done w (Some tt) w'

pub begin : (n : ℕ) (w : Writer) → n ≤ width64.most → Midway n w n w
begin n w small = record { done = []; left = 9; split = refl; enough = omega arith; puts = nothing w }

module _ {n : ℕ} {w : Writer} {rest : ℕ} {w' : Writer} (m : Midway n w rest w') where
  abbrev group : List ℕ
  group = (128 + rest % 128) ∷ []

  -- a group that others follow
  record More : Type 0 where
    left : ℕ
    split : encoded_of width64 n ≡ m.done ++ group ++ groups_of (suc left) (rest / 128)
    enough : rest / 128 < 128 ^ suc left

  more : 128 ≤ rest → More
  more l = go m.left m.split m.enough
    where
      go : (k : ℕ) → encoded_of width64 n ≡ m.done ++ groups_of (suc k) rest → rest < 128 ^ suc k → More
      go zero e s = absurd (omega arith)
      go (suc k) e s =
          record {
            left = k;
            split = e ∙ ap (λ (gs : List ℕ). m.done ++ gs) (rw (le-ltb rest 128 l) refl) ∙ sym (append_assoc m.done group (groups_of (suc k) (rest / 128)));
            enough = omega (arith, pow-suc 128 (suc k));
          }

  pub further : 128 ≤ rest → {w'' : Writer} → Appends group w' (Some tt) w'' → Midway n w (rest / 128) w''
  further l p = let x = more l in record { done = m.done ++ group; left = x.left; split = x.split; enough = x.enough; puts = and_then m.puts p }

  pub too_long : 128 ≤ rest → {w'' : Writer} → Appends group w' None w'' → Appends (encoded_of width64 n) w None w''
  too_long l p = let x = more l in same-bytes (sym x.split) (still_full (groups_of (suc x.left) (rest / 128)) (and_then m.puts p))

  -- the last group
  pub whole : rest < 128 → {r : Option (Unit {0})} {w'' : Writer} → Appends (rest ∷ []) w' r w'' → Appends (encoded_of width64 n) w r w''
  whole l p = same-bytes (sym (m.split ∙ ap (λ (gs : List ℕ). m.done ++ gs) (rw (lt-ltb rest 128 l) refl))) (and_then m.puts p)
