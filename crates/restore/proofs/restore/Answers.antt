-- `restore`: the head, the columns, and then the file that is restored from them. Assumes nothing.
use mathlib.Core.Path.{◌≡◌, ap, ap₂, sym, subst, ◌∙◌}
use Prim.Native.Nat.{ℕ}
use native.Mathlib.Omega.{arith}
use lib.ListN.{length, length-replicate}
use Rattle.std.specs.Prelude.{Result}
use Rattle.std.proofs.lemmas.Result.{err_from_is_err_and}
use Rattle.guard.specs.Question.{number_of}
use Rattle.guard.specs.declared.Question.{Question}
use Rattle.serialize.specs.Tokens.{bytes_of}
use Rattle.filewriter.specs.Writer.{Answered, answer_to, left_by}
use Rattle.filewriter.proofs.Answers.{answers-refused}
use Rattle.restore.proofs.CallLaws.{columns_stop, head_stop, restored-is, restored_as, zero_cells}
use Rattle.restore.proofs.ScratchLaws.{bytes-from}
use Rattle.restore.proofs.restore.Goals as goal

pub returns-in_err-h : goal.returns-in_err-h
returns-in_err-h c = let p = err_from_is_err_and c.from_residual.result c.from_residual.ensures.1 in
    let q : Question = c.in_err-h.field-0.0 in
    let a = answers-refused bytes_of q (head_stop c.args.stored.now (number_of q) c.in_err-h.ensures) (length c.args.out.now) c.clear.ensures in
    rw (p.1, p.2) (record { value = a.0; out_after = a.1 })

pub read_columns-requires-clause-holds : goal.read_columns-requires-clause-holds
read_columns-requires-clause-holds c = zero_cells

pub returns-in_err-next : goal.returns-in_err-next
returns-in_err-next c = let p = err_from_is_err_and c.from_residual-in_err-next.result c.from_residual-in_err-next.ensures.1 in
    let q : Question = c.in_err-next.field-0.0 in
    let a = answers-refused bytes_of q (columns_stop c.args.stored.now c.in_ok-h.h c.in_ok-h.ensures (number_of q) c.in_err-next.ensures) (length c.args.out.now) c.clear.ensures in
    rw (p.1, p.2) (record { value = a.0; out_after = a.1 })

pub restore_rows-requires-clause-restorable : goal.restore_rows-requires-clause-restorable
restore_rows-requires-clause-restorable c = record { ts = _; cs = _; is = restored_as c.args.stored.now c.in_ok-h.h c.in_ok-h.ensures _ c.in_ok-next.ensures }

pub returns : goal.returns
returns c = let k = c.in_ok-h.ensures in
    let e = restored-is c.args.stored.now c.in_ok-h.h k _ c.in_ok-next.ensures in
    let long : length c.clear.new.out ≡ length c.args.out.now = ap length c.clear.ensures ∙ length-replicate (length c.args.out.now) 0 in
    let a =
    c.restore_rows.ensures.answers _ _ (restored_as c.args.stored.now c.in_ok-h.h k _ c.in_ok-next.ensures) (bytes-from c.args.stored.now (λ i. omega (arith, c.type_inv.stored i)) c.in_ok-next.next) in
    record {
      value = subst (λ (t : Result ℕ ℕ). Answered t c.restore_rows.result) (ap₂ answer_to (sym e) long) a.0;
      out_after = a.1 ∙ ap₂ left_by (sym e) long;
    }
