-- An assignment satisfies two guards as one exactly if its parts satisfy the two: these are the rows and the literals of both, and no
-- others. Assumes nothing.
use mathlib.Core.Path.{◌≡◌, refl, ap, sym, subst}
use mathlib.Core.Bool.{true}
use mathlib.Core.List.{List, map, ◌++◌}
use Prim.Native.Nat.{ℕ}
use lib.ListN.{length}
use Rattle.laws.specs.All.{All}
use Rattle.laws.proofs.Bools.{either}
use Rattle.laws.proofs.Lists.{all_append, all_left, all_right}
use Rattle.guard.specs.Guard.{Guard, Literal}
use Rattle.guard.specs.Limits.{Limits}
use Rattle.guard.specs.Meaning.{Holds, LiteralHolds, values}
use Rattle.guard.specs.Message.{Message}
use Rattle.guard.specs.WellFormed.{WellFormed}
use Rattle.guard.proofs.Accepted.{RowsFit}
use Rattle.merged.specs.Merge.{merged, names, renamed_literal, same_variables}
use Rattle.merged.specs.PartsOf.{second_part}
use Rattle.merged.proofs.MergedRows.{first_among, merged-rows-fit, own, own_literals, over, over_formed, over_own, row_of, second_among}
use Rattle.merged.proofs.Naming.{variable-row}
use Rattle.merged.proofs.PartHolds.{Part, all_hold, belongs-at, each_holds, literals_hold, part-holds}
use Rattle.merged.proofs.Renumbered.{own_named}

module _ (limits : Limits) (g h : Guard) (wg : WellFormed limits g) (wh : WellFormed limits h) (same : g.types ≡ h.types) (agree : same_variables g h ≡ true) (ρ : ℕ → Message) where
  second-formed : WellFormed limits (over g.types h)
  second-formed = over_formed limits g.types h same wh

  fit : RowsFit g.types (merged g h).rows
  fit = merged-rows-fit g h agree limits wg second-formed

  first_part : Part limits (merged g h).rows ρ g (own g) ρ
  first_part = record { all_fit = fit; formed = wg; among = first_among g h limits wg; same = λ i l. ap ρ (own_named (length g.rows) i l) }

  second-part : Part limits (merged g h).rows ρ (over g.types h) (names g h) (second_part g h ρ)
  second-part = record { all_fit = fit; formed = second-formed; among = second_among g h agree; same = λ i l. refl }

  -- the literals of both, renumbered
  abbrev firsts : List Literal
  firsts = map (renamed_literal (own g)) g.literals

  abbrev seconds : List Literal
  seconds = map (renamed_literal (names g h)) h.literals

  both-literals : firsts ++ seconds ≡ (merged g h).literals
  unfolding merged
  both-literals = ap (λ (ls : List Literal). ls ++ seconds) (own_literals limits g wg)

  abbrev Each : List Literal → Type 0
  Each = All (LiteralHolds (values (merged g h) ρ))

  pub holds-both : Holds (merged g h) ρ → Holds g ρ × Holds h (second_part g h ρ)
  unfolding merged
  holds-both w =
      let each : Each (firsts ++ seconds) = subst Each (sym both-literals) (each_holds (values (merged g h) ρ) (merged g h).literals w.literals) in
      let second : Holds (over g.types h) (second_part g h ρ) = part-holds second-part w.assigns.belongs (all_right firsts seconds each) in
      (part-holds first_part w.assigns.belongs (all_left firsts seconds each), subst (λ (k : Guard). Holds k (second_part g h ρ)) (over_own g.types h same) second)

  pub both_hold : Holds g ρ → Holds h (second_part g h ρ) → Holds (merged g h) ρ
  unfolding merged
  both_hold v w =
      let second : Holds (over g.types h) (second_part g h ρ) = subst (λ (k : Guard). Holds k (second_part g h ρ)) (sym (over_own g.types h same)) w in
      record {
        assigns =
            record {
              belongs = λ q t e.
                  either (belongs-at first_part v q t e) (belongs-at second-part second q t e) (row_of g h agree q (variable-row (merged g h).rows q t e));
            };
        literals = all_hold (values (merged g h) ρ) (subst Each both-literals (all_append (literals_hold first_part v) (literals_hold second-part second)));
      }
