-- Two well-formed guards as one are well formed, if there is room: types and their counts are the first's, and rows and literals
-- fit, renumbered. Assumes nothing.
use mathlib.Core.Path.{◌≡◌, sym, subst}
use mathlib.Core.Bool.{true}
use mathlib.Core.List.Memᴰ
use mathlib.Core.List.{List, map, Memᴰ}
use Prim.Native.Nat.{ℕ}
use lib.Dec.{leb}
use lib.ListN.{length}
use borrow.Author.Tests.{leb-true}
use Rattle.laws.proofs.Bools.{and_left, and_right, either}
use Rattle.laws.proofs.Lists.{map_inv}
use Rattle.guard.specs.Guard.{Guard, Literal}
use Rattle.guard.specs.Limits.{Limits}
use Rattle.guard.specs.WellFormed.{LiteralFits, WellFormed}
use Rattle.merged.specs.Merge.{has_room, merged, names, renamed_literal, same_variables}
use Rattle.merged.proofs.MergedRows.{first_among, merged-rows-fit, own, own_literals, over, over_formed, second_among}
use Rattle.merged.proofs.Renumbered.{Among, literal-fits}

module _ (limits : Limits) (g h : Guard) where
  literals-fit : (names : List ℕ) (k : Guard) → WellFormed limits k → Among (merged g h).rows names k.rows
      → (l : Literal) → Memᴰ l (map (renamed_literal names) k.literals) → LiteralFits k.types (merged g h).rows l
  literals-fit names k wk among = map_inv (renamed_literal names) (LiteralFits k.types (merged g h).rows) k.literals (λ l m. literal-fits k.types (merged g h).rows names k.rows among l (wk.literals l m))

  all_fit : WellFormed limits g → WellFormed limits (over g.types h) → same_variables g h ≡ true → (l : Literal) → Memᴰ l (merged g h).literals → LiteralFits g.types (merged g h).rows l
  unfolding merged
  all_fit wg wh agree l m =
      either (λ n. literals-fit (own g) g wg (first_among g h limits wg) l (subst (Memᴰ l) (sym (own_literals limits g wg)) n))
      (literals-fit (names g h) (over g.types h) wh (second_among g h agree) l) (Memᴰ.append_cases g.literals m)

  pub merged_well_formed : WellFormed limits g → WellFormed limits h → g.types ≡ h.types → same_variables g h ≡ true → has_room limits (merged g h) ≡ true → WellFormed limits (merged g h)
  unfolding merged has_room
  merged_well_formed wg wh same agree room =
      let w : WellFormed limits (over g.types h) = over_formed limits g.types h same wh in
      record {
        type_count = wg.type_count;
        variant_counts = wg.variant_counts;
        field_counts = wg.field_counts;
        field_types = wg.field_types;
        ready = wg.ready;
        infinite = wg.infinite;
        term_count = leb-true _ _ (and_left (leb (length (merged g h).rows) limits.terms) (leb (length (merged g h).literals) limits.lines) room);
        rows = merged-rows-fit g h agree limits wg w;
        line_count = leb-true _ _ (and_right (leb (length (merged g h).rows) limits.terms) (leb (length (merged g h).literals) limits.lines) room);
        literals = all_fit wg w agree;
      }
