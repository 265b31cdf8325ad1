-- What is matched is the answer, so the text of the variant that was matched is the answer's. Assumes nothing.
use mathlib.Core.Path.{◌≡◌, sym, subst}
use mathlib.Core.List.{List}
use Prim.Native.Nat.{ℕ, ◌+◌, ◌*◌, ◌≤◌}
use lib.IntN.{ℤ}
use Rattle.guard.specs.Answer.{rows_of}
use Rattle.guard.specs.Guard.{Guard}
use Rattle.guard.specs.Number.{Parsed}
use Rattle.guard.specs.declared.Answer.{Answer}
use Rattle.bytebuffer.specs.declared.Writer.{Writer}
use Rattle.answertext.specs.Text.{answer_text}
use Rattle.writing.specs.Wrote.{Wrote}
use Rattle.writing.proofs.Wrote.{more_room}

pub of_known : (p : Parsed Guard) (rows places : List ℤ) (answer known : Answer) {most : ℕ} {w w' : Writer} → answer ≡ known
    → most ≤ 96 * rows_of known + 2400 → Wrote most (answer_text p known rows places) w w'
    → Wrote (96 * rows_of answer + 2400) (answer_text p answer rows places) w w'
of_known p rows places answer known {w = w} {w' = w'} e h p' =
    subst (λ (a : Answer). Wrote (96 * rows_of a + 2400) (answer_text p a rows places) w w') (sym e) (more_room _ h p')
