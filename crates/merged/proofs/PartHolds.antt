-- A guard whose rows stand renumbered among others holds under its part of an assignment exactly if the messages of its variables
-- belong and its literals hold among them, renumbered. Assumes nothing.
use mathlib.Core.Path.{◌≡◌, ap, ap₂, sym, subst, ◌∙◌}
use mathlib.Core.List.{List, [], ◌∷◌, map}
use Prim.Native.Nat.{ℕ, ◌<◌}
use lib.ListN.{length, get_or}
use Rattle.laws.specs.All.{All, All.more, All.none}
use Rattle.laws.proofs.Lists.{all_map, all-map_inv, all_mem, all_of}
use Rattle.guard.specs.Guard.{Guard, Literal, Literal.equal, Literal.is, Literal.isnt, Literal.unequal, Row, Row.variable, row_at}
use Rattle.guard.specs.Limits.{Limits}
use Rattle.guard.specs.Meaning.{AllHold, Belongs, Holds, IsVariant, LiteralHolds, values, values_from}
use Rattle.guard.specs.Message.{Message, no_message}
use Rattle.guard.specs.WellFormed.{LiteralFits, WellFormed}
use Rattle.guard.proofs.Accepted.{RowsFit}
use Rattle.merged.specs.Merge.{named, renamed_literal, renamed_row}
use Rattle.merged.proofs.Naming.{Names, variable-row}
use Rattle.merged.proofs.Renumbered.{Among, renamed_variable}
use Rattle.merged.proofs.RowValues.{same-values}

module _ (vals : List Message) where
  pub each_holds : (ls : List Literal) → AllHold vals ls → All (LiteralHolds vals) ls
  each_holds [] h = none
  each_holds (l ∷ ls) h = more h.0 (each_holds ls h.1)

  pub all_hold : {ls : List Literal} → All (LiteralHolds vals) ls → AllHold vals ls
  all_hold none = tt
  all_hold (more p ps) = (p, all_hold ps)

-- rows with an assignment, and a guard with its part of both: its rows' names among them, and its own assignment
pub record Part (limits : Limits) (all : List Row) (ρ : ℕ → Message) (k : Guard) (names : List ℕ) (σ : ℕ → Message) : Type 0 where
  pub all_fit : RowsFit k.types all
  pub formed : WellFormed limits k
  pub among : Among all names k.rows
  pub same : (i : ℕ) → i < length k.rows → ρ (named names i) ≡ σ i

module _ {limits : Limits} {all : List Row} {ρ : ℕ → Message} {k : Guard} {names : List ℕ} {σ : ℕ → Message} (part : Part limits all ρ k names σ) where
  abbrev vals : List Message
  vals = values_from k.types ρ [] all

  value : (i : ℕ) → i < length k.rows → get_or vals (named names i) no_message ≡ get_or (values k σ) i no_message
  value = same-values k.types all names k.rows part.among part.all_fit part.formed.rows ρ σ part.same

  literal-same : (l : Literal) → LiteralFits k.types k.rows l → LiteralHolds vals (renamed_literal names l) ≡ LiteralHolds (values k σ) l
  literal-same (equal i j) f = ap₂ (λ (x y : Message). x ≡ y) (value i f.0) (value j f.1)
  literal-same (unequal i j) f = ap₂ (λ (x y : Message). ¬ (x ≡ y)) (value i f.0) (value j f.1)
  literal-same (is i v) f = ap (λ (x : Message). IsVariant x v) (value i f.0)
  literal-same (isnt i v) f = ap (λ (x : Message). ¬ IsVariant x v) (value i f.0)

  pub part-holds : ((q t : ℕ) → row_at all q ≡ variable t → Belongs k.types (ρ q) t) → All (LiteralHolds vals) (map (renamed_literal names) k.literals) → Holds k σ
  part-holds belongs hold =
      record {
        assigns =
            record {
              belongs = λ i t e.
                  let h : i < length k.rows = variable-row k.rows i t e in
                  subst (λ (x : Message). Belongs k.types x t) (part.same i h) (belongs (named names i) t ((part.among i h).1 ∙ ap (renamed_row names) e));
            };
        literals =
            all_hold (values k σ)
            (all_of k.literals (λ l m. subst (λ (A : Type 0). A) (literal-same l (part.formed.literals l m)) (all-map_inv (renamed_literal names) k.literals hold l m)));
      }

  module _ (holds : Holds k σ) where
    pub literals_hold : All (LiteralHolds vals) (map (renamed_literal names) k.literals)
    literals_hold =
        all_map (renamed_literal names) k.literals
        (λ l m. subst (λ (A : Type 0). A) (sym (literal-same l (part.formed.literals l m))) (all_mem (each_holds (values k σ) k.literals holds.literals) l m))

    pub belongs-at : (q t : ℕ) → row_at all q ≡ variable t → Names names k.rows q → Belongs k.types (ρ q) t
    belongs-at q t e n =
        let i = n.row in
        subst (λ (x : Message). Belongs k.types x t) (sym (part.same i n.inside) ∙ ap ρ n.name)
        (holds.assigns.belongs i t (renamed_variable names (row_at k.rows i) t (sym (part.among i n.inside).1 ∙ ap (row_at all) n.name ∙ e)))
