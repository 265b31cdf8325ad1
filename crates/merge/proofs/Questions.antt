-- The questions asked of two guards, and of two files. Assumes nothing.
use mathlib.Core.Path.{◌≡◌, refl, ap, ap₂, sym, ◌∙◌}
use mathlib.Core.Bool.{Bool, true, false, cond, ◌&&◌}
use mathlib.Core.List.{List, []}
use Prim.Native.Nat.{ℕ, ◌+◌, ◌≤◌, ◌<◌}
use lib.Dec.{leb}
use borrow.Author.Tests.{le-leb, lt-leb}
use Rattle.guard.specs.File.{file}
use Rattle.guard.specs.Guard.{Guard}
use Rattle.guard.specs.Limits.{base}
use Rattle.guard.specs.Number.{Parsed, Parsed.accepted, Parsed.refused}
use Rattle.reader.specs.declared.Tables.{Tables}
use Rattle.reader.specs.Reader.{in_tables}
use Rattle.reader.proofs.TablesRead.{refused-file}
use Rattle.merged.specs.Merge.{asked, asked_of_same, has_room, merged, merged_by, merged_file, same_bytes, same_variables, type_part}
use Rattle.renaming.specs.declared.Names.{Names}
use Rattle.renaming.specs.Names.{NamesOf}
use Rattle.mergewriter.specs.Merging.{BothOf}
use Rattle.mergewriter.proofs.Held.{names-are}
use Rattle.mergewriter.proofs.MergedBytes.{lines-sum, row_count}

-- ---- two guards with the same types

module _ (g h : Guard) where
  by_tests : (a b : Bool) → same_variables g h ≡ a → has_room base (merged g h) ≡ b → asked_of_same base g h ≡ cond a (cond b (accepted (merged g h) []) (refused 4)) (refused 16)
  unfolding asked_of_same
  by_tests a b ea eb = ap₂ (λ (x y : Bool). cond x (cond y (accepted (merged g h) []) (refused 4)) (refused 16)) ea eb

module _ {first second : Tables} {g h : Guard} (b : BothOf first second g h) {n : Names} (are : NamesOf first.rows second.rows n) where
  variables-are : n.agree ≡ same_variables g h
  unfolding same_variables
  variables-are = (names-are b are).agree

  abbrev lines : ℕ
  lines = first.literals.many + second.literals.many

  room-is : has_room base (merged g h) ≡ (leb n.rows 24 && leb lines 32)
  unfolding has_room
  room-is = ap₂ (λ (r l : ℕ). leb r 24 && leb l 32) (sym (row_count b (names-are b are))) (sym (lines-sum b))

  asked_is : (a r l : Bool) → n.agree ≡ a → leb n.rows 24 ≡ r → leb lines 32 ≡ l → asked_of_same base g h ≡ cond a (cond (r && l) (accepted (merged g h) []) (refused 4)) (refused 16)
  asked_is a r l ea er el = by_tests g h a (r && l) (sym variables-are ∙ ea) (room-is ∙ ap₂ (λ (x y : Bool). x && y) er el)

  pub other-types : n.agree ≡ false → asked_of_same base g h ≡ refused 16
  other-types e = asked_is false (leb n.rows 24) (leb lines 32) e refl refl

  module _ (e : n.agree ≡ true) where
    pub many-rows : 24 < n.rows → asked_of_same base g h ≡ refused 4
    many-rows r = asked_is true false (leb lines 32) e (lt-leb n.rows 24 r) refl

    module _ (few : n.rows ≤ 24) where
      pub many-lines : 32 < lines → asked_of_same base g h ≡ refused 4
      many-lines l = asked_is true true false e (le-leb n.rows 24 few) (lt-leb lines 32 l)

      pub no-question : lines ≤ 32 → asked_of_same base g h ≡ accepted (merged g h) []
      no-question l = asked_is true true true e (le-leb n.rows 24 few) (le-leb lines 32 l)

-- ---- two files

module _ (first second : List ℕ) where
  by_files : (p r : Parsed Guard) → file base first ≡ p → file base second ≡ r → merged_file base first second ≡ merged_by base p r
  unfolding merged_file
  by_files p r ep er = ap₂ (merged_by base) ep er

  pub first-refused : (q : ℕ) → in_tables (file base) first ≡ refused q → merged_file base first second ≡ refused q
  first-refused q e = by_files (refused q) (file base second) (refused-file base first q e) refl

  module _ {g : Guard} {rest : List ℕ} (e : file base first ≡ accepted g rest) where
    pub second-refused : (q : ℕ) → in_tables (file base) second ≡ refused q → merged_file base first second ≡ refused q
    second-refused q e' = by_files (accepted g rest) (refused q) e (refused-file base second q e')

    module _ {h : Guard} {rest' : List ℕ} (e' : file base second ≡ accepted h rest') where
      by-types : (b : Bool) → same_bytes (type_part g.types) (type_part h.types) ≡ b → merged_file base first second ≡ cond b (asked_of_same base g h) (refused 15)
      unfolding asked
      by-types b eb = by_files (accepted g rest) (accepted h rest') e e' ∙ ap (λ (x : Bool). cond x (asked_of_same base g h) (refused 15)) eb

      pub types_differ : same_bytes (type_part g.types) (type_part h.types) ≡ false → merged_file base first second ≡ refused 15
      types_differ = by-types false

      pub types_same : same_bytes (type_part g.types) (type_part h.types) ≡ true → merged_file base first second ≡ asked_of_same base g h
      types_same = by-types true
