-- `merge`: both files are read, their types compared, and the guards merged. Assumes nothing.
use mathlib.Core.Path.{◌≡◌, ap, sym, subst, ◌∙◌}
use mathlib.Core.Bool.{Bool, true}
use mathlib.Core.List.{List}
use Prim.Native.Nat.{ℕ}
use lib.ListN.{length, length-replicate}
use Rattle.std.proofs.lemmas.Result.{err_from_is_err_and}
use Rattle.guard.specs.Guard.{Guard}
use Rattle.guard.specs.Limits.{base}
use Rattle.guard.specs.Number.{Parsed}
use Rattle.guard.specs.Question.{number_of}
use Rattle.guard.specs.declared.Question.TheVariants.{TypesDiffer}
use Rattle.serialize.specs.Tokens.{bytes_of}
use Rattle.filewriter.proofs.Answers.{Answers, answers-refused}
use Rattle.merged.specs.Merge.{asked_of_same, same_bytes, type_part}
use Rattle.reader.specs.declared.Tables.{Tables}
use Rattle.sametypes.specs.Same.{SameTypes}
use Rattle.sametypes.proofs.SamePart.{same-held}
use Rattle.mergewriter.specs.Merging.{BothOf}
use Rattle.mergewriter.proofs.Held.{Opened, opened, types-held}
use Rattle.merge.proofs.Questions.{first-refused, second-refused, types_differ, types_same}
use Rattle.merge.proofs.merge.Goals as goal

-- two files that are taken, and whether their types are the same
module _ {first second : List ℕ} {a b : Tables} (one : Opened first a) (other : Opened second b) {r : Bool} (is : SameTypes a.types b.types r) where
  compared : r ≡ same_bytes (type_part one.guard.types) (type_part other.guard.types)
  compared = is.is _ _ (types-held one.tables) (types-held other.tables)

  same : r ≡ true → same_bytes (type_part one.guard.types) (type_part other.guard.types) ≡ true
  same e = sym compared ∙ e

  both : r ≡ true → BothOf a b one.guard other.guard
  both e = record { one = one.tables; other = other.tables; types = same-held (types-held one.tables) (types-held other.tables) (same e) }

pub returns-in_err-a : goal.returns-in_err-a
returns-in_err-a c = let q = c.in_err-a.field-0.0 in
    let a = answers-refused bytes_of q (first-refused c.args.first.now c.args.second.now (number_of q) c.in_err-a.ensures) (length c.args.out.now) c.clear.ensures in
    let p = err_from_is_err_and c.from_residual.result c.from_residual.ensures.1 in
    rw (p.1, p.2) (record { value = a.0; out_after = a.1 })

pub returns-in_err-b : goal.returns-in_err-b
returns-in_err-b c = let q = c.in_err-b.field-0.0 in
    let one = opened c.args.first.now c.in_ok-a.a c.in_ok-a.ensures in
    let a = answers-refused bytes_of q (second-refused c.args.first.now c.args.second.now one.is (number_of q) c.in_err-b.ensures) (length c.args.out.now) c.clear.ensures in
    let p = err_from_is_err_and c.from_residual-in_err-b.result c.from_residual-in_err-b.ensures.1 in
    rw (p.1, p.2) (record { value = a.0; out_after = a.1 })

pub returns-then-not-same_types : goal.returns-then-not-same_types
returns-then-not-same_types c = let one = opened c.args.first.now c.in_ok-a.a c.in_ok-a.ensures in
    let other = opened c.args.second.now c.in_ok-b.b c.in_ok-b.ensures in
    let differ = sym (compared one other c.same_types.ensures) ∙ c.if-not-same_types.true in
    let a = answers-refused bytes_of TypesDiffer (types_differ c.args.first.now c.args.second.now one.is other.is differ) (length c.args.out.now) c.clear.ensures in
    record { value = a.0; out_after = a.1 }

pub merge_guards-requires-clause-two_guards : goal.merge_guards-requires-clause-two_guards
merge_guards-requires-clause-two_guards c = let one = opened c.args.first.now c.in_ok-a.a c.in_ok-a.ensures in
    let other = opened c.args.second.now c.in_ok-b.b c.in_ok-b.ensures in
    record { one = _; other = _; both = both one other c.same_types.ensures c.if-not-same_types.false }

pub returns : goal.returns
returns c = let one = opened c.args.first.now c.in_ok-a.a c.in_ok-a.ensures in
    let other = opened c.args.second.now c.in_ok-b.b c.in_ok-b.ensures in
    let long : length c.clear.new.out ≡ length c.args.out.now = ap length c.clear.ensures ∙ length-replicate (length c.args.out.now) 0 in
    let is = types_same c.args.first.now c.args.second.now one.is other.is (same one other c.same_types.ensures c.if-not-same_types.false) in
    let a = c.merge_guards.ensures.answers _ _ (both one other c.same_types.ensures c.if-not-same_types.false) in
    let w = subst (λ (n : ℕ). Answers bytes_of (asked_of_same base one.guard other.guard) n c.merge_guards.result c.merge_guards.new.out) long a in
    let v = subst (λ (p : Parsed Guard). Answers bytes_of p (length c.args.out.now) c.merge_guards.result c.merge_guards.new.out) (sym is) w in
    record { value = v.0; out_after = v.1 }
