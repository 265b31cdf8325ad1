-- An accepted file's guard, and one with an accepted line behind its own, are well formed within the limits that a summary supposes. The added
-- line is read as the one line behind a count of 1. Assumes nothing.
use mathlib.Core.Path.{◌≡◌, refl, ap, sym, subst, ◌∙◌}
use mathlib.Core.Bool.{Bool, true, false}
use mathlib.Core.List.{List, [], ◌∷◌, ◌++◌}
use Prim.Native.Nat.{ℕ, ◌≤◌, ◌<◌}
use native.Mathlib.Omega.{arith}
use lib.Dec.{ltb}
use lib.ListN.{length, length-append}
use borrow.Author.Tests.{ltb-true}
use Rattle.laws.specs.All.{All, All.more, All.none}
use Rattle.laws.proofs.Lists.{all_append, all_mem, all_of}
use Rattle.guard.specs.File.{count, file, literal}
use Rattle.guard.specs.Grammar.{ended}
use Rattle.guard.specs.Guard.{Guard, Literal}
use Rattle.guard.specs.Limits.{Supported, base, total_variant_limit}
use Rattle.guard.specs.Number.{Parsed, Parsed.accepted, Parsed.refused, Parser, ◌>>=◌, ◌>>◌, and_then, ask, return, times}
use Rattle.guard.specs.WellFormed.{LiteralFits, WellFormed}
use Rattle.guard.proofs.Accepted.{accepted-total, accepted_well_formed, head_guard, reads_lines, variants_in, with_literals}
use Rattle.guard.proofs.Reading.{Reads}
use Rattle.verdictcodes.specs.Codes.{with_more}
use Rattle.summaries.specs.AddedLine.{added_line}
use Rattle.summaries.specs.InTables.{longer}

pub base-supported : Supported base
base-supported = record { types = omega arith; terms = omega arith; lines = omega arith }

-- a guard within the base's limits is within longer ones
pub lengthened : (g : Guard) → WellFormed base g → WellFormed longer g
lengthened g ok = with_literals base g ok 33 g.literals (omega (arith, ok.line_count)) (all_of g.literals ok.literals)

pub file-formed : (bytes : List ℕ) (g : Guard) (rest : List ℕ) → file base bytes ≡ accepted g rest → WellFormed base g × (length (variants_in g.types) ≤ total_variant_limit)
file-formed bytes g rest e = (accepted_well_formed base base-supported bytes g rest e, accepted-total base base-supported bytes g rest e)

module _ (g : Guard) (ok : WellFormed base g) where
  -- a line alone, behind a count of 1
  one_line : (line : List ℕ) → (count 32 >>= λ n. times n (literal g.types g.rows)) (1 ∷ line) ≡ and_then (λ l. return (l ∷ [])) (literal g.types g.rows line)
  one_line line = refl

  line-fits : (line : List ℕ) (l : Literal) (rest : List ℕ) → literal g.types g.rows line ≡ accepted l rest → LiteralFits g.types g.rows l
  unfolding Reads
  line-fits line l rest e =
      let head : WellFormed base (head_guard g.types g.rows) = with_literals base g ok 32 [] (omega arith) none in
      let (u, w, h) = reads_lines base base-supported g.types g.rows head (1 ∷ line) (l ∷ []) rest (one_line line ∙ ap (and_then (λ l. return (l ∷ []))) e) in
      only h.1
    where
      only : {l : Literal} → All (LiteralFits g.types g.rows) (l ∷ []) → LiteralFits g.types g.rows l
      only (more p none) = p

  -- what an accepted line gives
  pub record Lengthened (line : List ℕ) (h : Guard) : Type 0 where
    pub line_of : Literal
    pub is : h ≡ with_more g (line_of ∷ [])
    pub formed : WellFormed longer (with_more g (line_of ∷ []))

  pub line-formed : (line : List ℕ) (h : Guard) (rest : List ℕ) → added_line g line ≡ accepted h rest → Lengthened line h
  line-formed line h rest e = asked (ltb (length g.literals) 32) refl e
    where
      last : (l : Literal) → length g.literals < 32 → LiteralFits g.types g.rows l → (bs : List ℕ) → (ended >> return (with_more g (l ∷ []))) bs ≡ accepted h rest → Lengthened line h
      last l room fits [] e =
          record {
            line_of = l;
            is = let q : with_more g (l ∷ []) ≡ h = cc in sym q;
            formed = with_literals base g ok 33 (g.literals ++ (l ∷ [])) (omega (arith, length-append g.literals (l ∷ []))) (all_append (all_of g.literals ok.literals) (more fits none));
          }
      last l room fits (b ∷ bs) e = let z : ◌≡◌ {A = ℕ} 0 1 = cc in absurd (omega arith)

      read : (r : Parsed Literal) → literal g.types g.rows line ≡ r → length g.literals < 32 → and_then (λ l. ended >> return (with_more g (l ∷ []))) r ≡ accepted h rest → Lengthened line h
      read (refused q) t room e = let z : ◌≡◌ {A = ℕ} 0 1 = cc in absurd (omega arith)
      read (accepted l bs) t room e = last l room (line-fits line l bs t) bs e

      asked : (b : Bool) → ltb (length g.literals) 32 ≡ b → (ask 4 b >> (literal g.types g.rows >>= λ l. ended >> return (with_more g (l ∷ [])))) line ≡ accepted h rest → Lengthened line h
      asked true t e = read (literal g.types g.rows line) refl (ltb-true (length g.literals) 32 t) e
      asked false t e = let z : ◌≡◌ {A = ℕ} 0 1 = cc in absurd (omega arith)
