-- What a call that writes answers and leaves: for a refusal, and for something whose bytes were put into a cleared buffer. Assumes nothing.
use mathlib.Core.Path.{◌≡◌, refl, ap, ap₂, sym, ◌∙◌}
use mathlib.Core.Bool.{Bool, true, false, cond}
use mathlib.Core.List.{List}
use Prim.Native.Nat.{ℕ, ◌-◌, ◌≤◌}
use lib.Dec.{leb}
use lib.ListN.{length, replicate, take}
use lib.Seq.{take_at}
use borrow.Author.Tests.{le-leb}
use Rattle.std.specs.Prelude.{Result, Ok, Err}
use Rattle.laws.proofs.Bools.{by_test}
use Rattle.guard.specs.Number.{Parsed, Parsed.accepted, Parsed.refused}
use Rattle.guard.specs.Question.{number_of}
use Rattle.guard.specs.declared.Question.{Question}
use Rattle.guard.specs.declared.Question.TheVariants.{FileTooLong}
use Rattle.bytebuffer.specs.Puts.{Outgrow, Stand}
use Rattle.bytebuffer.proofs.FillLaws.{ends_there, filled_with, fills, fits-room, no_room, outgrows}
use Rattle.filewriter.specs.Writer.{Answered, answer_by, left_with}

module _ {A : Type 0} (bytes : A → List ℕ) where
  -- what is answered and left
  abbrev pub Answers : Parsed A → ℕ → Result ℕ Question → List ℕ → Type 0
  Answers p n r out = Answered (answer_by bytes p n) r × (out ≡ left_with bytes p n)

  pub answers-refused : {p : Parsed A} (q : Question) → p ≡ refused (number_of q) → (n : ℕ) {out : List ℕ} → out ≡ replicate n 0 → Answers p n (Err q) out
  answers-refused q e n o = (ap (λ (p : Parsed A). answer_by bytes p n) e, o ∙ ap (λ (p : Parsed A). left_with bytes p n) (sym e))

  -- by whether the bytes fit
  pub by_length : {p : Parsed A} {g : A} {rest : List ℕ} → p ≡ accepted g rest → (n : ℕ) (b : Bool) → leb (length (bytes g)) n ≡ b → answer_by bytes p n ≡ cond b (Ok (length (bytes g))) (Err 14)
  by_length {g = g} is n b q = ap (λ (x : Parsed A). answer_by bytes x n) is ∙ ap (λ (x : Bool). cond x (Ok (length (bytes g))) (Err 14)) q

  module _ {p : Parsed A} {g : A} {rest : List ℕ} (is : p ≡ accepted g rest) (out : List ℕ) {blank : List ℕ} (clear : blank ≡ replicate (length out) 0) {out' : List ℕ} where
    -- the bytes fit
    pub answers-written : {end : ℕ} → Stand (bytes g) blank 0 end out' → Answers p (length out) (Ok end) out'
    answers-written s = (
      by_length is (length out) true (fits-room out clear s) ∙ ap Ok (sym (ends_there out clear s)),
      fills out clear s ∙ ap (λ (x : Parsed A). left_with bytes x (length out)) (sym is),
    )

    -- they don't, and the buffer is cleared again
    pub answers-short : Outgrow (bytes g) blank 0 out' → {last : List ℕ} → last ≡ replicate (length out') 0 → Answers p (length out) (Err FileTooLong) last
    answers-short s e = (
      by_length is (length out) false (no_room out clear s),
      outgrows out clear s e ∙ ap (λ (x : Parsed A). left_with bytes x (length out)) (sym is),
    )

  -- ---- what an answer tells

  -- a buffer with room for the bytes isn't too short
  pub room-told : {p : Parsed A} {g : A} {rest : List ℕ} → p ≡ accepted g rest → (n : ℕ) → length (bytes g) ≤ n → answer_by bytes p n ≡ Ok (length (bytes g))
  room-told {g = g} is n h = by_length is n true (le-leb (length (bytes g)) n h)

  module _ (p : Parsed A) (n k : ℕ) (told : answer_by bytes p n ≡ Ok k) where
    -- something whose bytes are written
    pub record Wrote : Type 0 where
      pub value : A
      pub rest : List ℕ
      pub is : p ≡ accepted value rest
      pub many : k ≡ length (bytes value)
      pub stand : take k (left_with bytes p n) ≡ bytes value

    pub wrote : Wrote
    wrote = go p refl
      where
        go : (r : Parsed A) → p ≡ r → Wrote
        go (refused q) e = let f : Path (Result ℕ ℕ) (Err q) (Ok k) = sym (ap (λ (x : Parsed A). answer_by bytes x n) e) ∙ told in absurd cc
        go (accepted g rest) e =
            by_test (leb (length (bytes g)) n)
            (λ q.
            let f : Path (Result ℕ ℕ) (Ok (length (bytes g))) (Ok k) = sym (by_length e n true q) ∙ told in
            let many : length (bytes g) ≡ k = cc in
            record {
              value = g;
              rest = rest;
              is = e;
              many = sym many;
              stand = ap₂ (λ (i : ℕ) (l : List ℕ). take i l) (sym many) (ap (λ (x : Parsed A). left_with bytes x n) e ∙ filled_with (bytes g) n q) ∙ take_at (bytes g) (replicate (n - length (bytes g)) 0) (length (bytes g)) refl;
            })
            (λ q. let f : Path (Result ℕ ℕ) (Err 14) (Ok k) = sym (by_length e n false q) ∙ told in absurd cc)
