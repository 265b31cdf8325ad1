-- Three parts put one behind the other are the whole. Assumes nothing.
use mathlib.Core.Path.{◌≡◌}
use mathlib.Core.List.{List, ◌++◌}
use Prim.Native.Nat.{ℕ}
use Rattle.std.specs.Prelude.{Option, Some, None}
use Rattle.bytebuffer.specs.declared.Writer.{Writer}
use Rattle.bytebuffer.specs.Appends.{Appends}
use Rattle.bytebuffer.proofs.PutLaws.{and_then, same-bytes, still_full}

-- three parts of a whole
pub record Parts (one two three whole : List ℕ) : Type 0 where
  pub are : one ++ (two ++ three) ≡ whole

module _ {one two three whole : List ℕ} (parts : Parts one two three whole) {w w₁ : Writer} where
  pub first_full : Appends one w None w₁ → Appends whole w None w₁
  first_full first = same-bytes parts.are (still_full (two ++ three) first)

  module _ (first : Appends one w (Some tt) w₁) {w₂ : Writer} where
    pub second_full : Appends two w₁ None w₂ → Appends whole w None w₂
    second_full second = same-bytes parts.are (and_then first (still_full three second))

    pub all_put : Appends two w₁ (Some tt) w₂ → {r : Option (Unit {0})} {w₃ : Writer} → Appends three w₂ r w₃ → Appends whole w r w₃
    all_put second third = same-bytes parts.are (and_then first (and_then second third))
