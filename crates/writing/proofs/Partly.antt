-- A text put piece by piece: what is put of it, and what is left. A loop keeps this as its invariant. Assumes nothing.
use mathlib.Core.Path.{◌≡◌, refl, ap, sym, subst, ◌∙◌}
use mathlib.Core.List.{List, [], ◌∷◌, ◌++◌, append_assoc, append-nil}
use Prim.Native.Nat.{ℕ, ◌+◌, ◌≤◌, ◌<◌}
use native.Mathlib.Omega.{arith}
use lib.ListN.{length, set}
use lib.Seq.{paste, paste-suc, paste-zero}
use Rattle.writing.specs.Written.{Written}
use Rattle.writing.proofs.Writing.{and_then, more_room, nothing, pasted, same_text}

-- a part of a text is put, and what is left is the rest of it
pub record Partly (most : ℕ) (all left : List ℕ) (out : List ℕ) (at : ℕ) (out' : List ℕ) (end : ℕ) : Type 0 where
  pub text : List ℕ
  pub written : Written most out at text out' end
  pub whole : text ++ left ≡ all

pub partly_none : {out : List ℕ} {at : ℕ} (all : List ℕ) → at ≤ length out → Partly 0 all all out at out at
partly_none all room = record { text = []; written = nothing room; whole = refl }

module _ {most : ℕ} {all left : List ℕ} {out : List ℕ} {at : ℕ} {out' : List ℕ} {end : ℕ} where
  pub partly_next : {more : ℕ} {out'' : List ℕ} {end' : ℕ} (text left' : List ℕ) → Partly most all left out at out' end → Written more out' end text out'' end' → left ≡ text ++ left'
      → Partly (most + more) all left' out at out'' end'
  partly_next text left' s w e =
      record { text = s.text ++ text; written = and_then s.written w; whole = append_assoc s.text text left' ∙ ap (λ (l : List ℕ). s.text ++ l) (sym e) ∙ s.whole }

  pub partly_room : (more : ℕ) → most ≤ more → Partly most all left out at out' end → Partly more all left out at out' end
  partly_room more h s = record { text = s.text; written = more_room more h s.written; whole = s.whole }

  pub partly_all : Partly most all left out at out' end → left ≡ [] → Written most out at all out' end
  partly_all s e = same_text (sym (append-nil s.text) ∙ ap (λ (l : List ℕ). s.text ++ l) (sym e) ∙ s.whole) s.written

-- one byte
pub one_byte : (out : List ℕ) (at v : ℕ) → at < length out → Written 1 out at (v ∷ []) (set out at v) (at + 1)
one_byte out at v h = subst (λ (o : List ℕ). Written 1 out at (v ∷ []) o (at + 1)) (sym is) (pasted out at (v ∷ []) (omega arith))
  where
    is : set out at v ≡ paste out at (v ∷ []) 1
    is =
        let e : at ≡ at + 0 = omega arith in
        ap (λ (o : List ℕ). set o at v) (paste-zero out at (v ∷ [])) ∙ ap (λ (k : ℕ). set (paste out at (v ∷ []) 0) k v) e ∙ paste-suc out at (v ∷ []) 0 0 (omega arith) (omega arith)
