-- `restore_rows`: the rows in row order, what is asked of the restored file, and its bytes. Assumes nothing.
use mathlib.Core.Path.{◌≡◌, refl, ap, ap₂, sym, subst, ◌∙◌}
use mathlib.Core.List.{List, ◌++◌}
use Prim.Native.Nat.{ℕ, ◌-◌, ◌<◌}
use native.Mathlib.Omega.{arith}
use lib.ListN.{drop, length, length-replicate, replicate, take}
use Rattle.std.specs.Prelude.{Option, Some, None}
use Rattle.std.specs.Option.{IsSome}
use Rattle.laws.specs.All.{All}
use Rattle.std.proofs.lemmas.Result.{err_from_is_err_and}
use Rattle.guard.specs.File.{file}
use Rattle.guard.specs.Limits.{base}
use Rattle.guard.specs.declared.Question.{Question}
use Rattle.guard.specs.Types.{Types}
use Rattle.serialize.specs.Tokens.{bytes_of}
use Rattle.merged.specs.Merge.{type_part}
use Rattle.tables.specs.Layout.{types_of}
use Rattle.tables.specs.declared.TypeTable.{TypeTable}
use Rattle.bytebuffer.specs.Puts.{Outgrow, Puts, Stand}
use Rattle.filewriter.proofs.Answers.{answers-refused, answers-short, answers-written}
use Rattle.columnfile.specs.Columns.{restored_rows}
use Rattle.restoredrows.specs.Restored.{PutsRows}
use Rattle.restore.specs.Restoring.{GuardRead, Restored, asked_of, head_of}
use Rattle.restore.proofs.FileLaws.{file-asked, file-bytes, rows-room}
use Rattle.restore.proofs.ScratchLaws.{front-is, to_the_end}
use Rattle.restore.proofs.restore_rows.Goals as goal

abbrev blank : List ℕ
blank = replicate 1536 0

-- the array has room for the rows
all_fit : {table : TypeTable} {n : ℕ} {cells : List ℕ} {ts : Types} {cs : List (List ℕ)} → Restored table n cells ts cs → (r : Option ℕ) {array : List ℕ} → PutsRows (types_of table) cells n blank r array → IsSome r
all_fit k (Some many) p = refl
all_fit {table} {n} {cs = cs} k None p = absurd (omega (arith, (p.puts cs k.holds k.many).over, ap (λ (us : Types). length (restored_rows us n cs)) k.taken.back, rows-room k, length-replicate {A = ℕ} 1536 0))

-- the rows that are put into the array
module _ {table : TypeTable} {n many : ℕ} {cells array : List ℕ} {r : Option ℕ} (p : PutsRows (types_of table) cells n blank r array) (some : r ≡ Some many) {ts : Types} {cs : List (List ℕ)} (k : Restored table n cells ts cs) where
  put : Stand (restored_rows ts n cs) blank 0 many array
  put =
      let q : Puts (restored_rows (types_of table) n cs) blank 0 (Some many) array = subst (λ (o : Option ℕ). Puts (restored_rows (types_of table) n cs) blank 0 o array) some (p.puts cs k.holds k.many) in
      subst (λ (us : Types). Stand (restored_rows us n cs) blank 0 many array) k.taken.back q

  -- they stand in the front of the array
  front : take many array ≡ restored_rows ts n cs
  front = front-is put

  -- what is asked of the rows in the array is asked of the file
  module _ (stored : List ℕ) (at : ℕ) where
    asked-file : file base (head_of ts n cs ++ drop at stored) ≡ asked_of ts (take many array) (drop at stored)
    asked-file = file-asked k (drop at stored) ∙ ap (λ (l : List ℕ). asked_of ts l (drop at stored)) (sym front)

    -- the bytes of a file that is taken
    bytes-are : (g : GuardRead ts (take many array) (drop at stored)) → All (λ b. b < 256) (drop at stored) → type_part ts ++ (take many array ++ take (length stored - at) (drop at stored)) ≡ bytes_of g.guard
    bytes-are g small =
        ap₂ (λ (l r : List ℕ). type_part ts ++ (l ++ r)) front (to_the_end stored at)
        ∙ file-bytes k (drop at stored) small g.guard g.left (ap (λ (l : List ℕ). asked_of ts l (drop at stored)) (sym front) ∙ g.parsed)

pub unwrap-many-requires : goal.unwrap-many-requires
unwrap-many-requires c = all_fit c.requires.restorable.is c.put_rows.result c.put_rows.ensures

pub returns-in_err-asked : goal.returns-in_err-asked
returns-in_err-asked c = let p = err_from_is_err_and c.from_residual.result c.from_residual.ensures.1 in
    let q : Question = c.in_err-asked.field-0.0 in
    rw (p.1, p.2)
    (record {
      answers = λ ts cs k small.
          answers-refused bytes_of q (asked-file c.put_rows.ensures c.unwrap-many.ensures k c.args.stored.now c.args.at ∙ c.in_err-asked.ensures ts k.taken) (length c.args.out.now) c.requires.out_value;
    })

pub returns-in_default : goal.returns-in_default
returns-in_default c =
    record {
      answers = λ ts cs k small. let g = c.in_ok-asked.ensures ts k.taken in
          answers-short bytes_of (asked-file c.put_rows.ensures c.unwrap-many.ensures k c.args.stored.now c.args.at ∙ g.parsed) c.args.out.now c.requires.out_value
          (subst (λ (bs : List ℕ). Outgrow bs c.args.out.now 0 c.put_restored.new.out) (bytes-are c.put_rows.ensures c.unwrap-many.ensures k c.args.stored.now c.args.at g small) (c.in_default.ensures.puts ts k.taken))
          c.clear.ensures;
    }

pub returns : goal.returns
returns c =
    record {
      answers = λ ts cs k small. let g = c.in_ok-asked.ensures ts k.taken in
          answers-written bytes_of (asked-file c.put_rows.ensures c.unwrap-many.ensures k c.args.stored.now c.args.at ∙ g.parsed) c.args.out.now c.requires.out_value
          (subst (λ (bs : List ℕ). Stand bs c.args.out.now 0 c.in-Some.end c.put_restored.new.out) (bytes-are c.put_rows.ensures c.unwrap-many.ensures k c.args.stored.now c.args.at g small) (c.in-Some.ensures.puts ts k.taken));
    }
