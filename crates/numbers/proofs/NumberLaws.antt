-- What a number of the guard file leaves, and that it is refused by a question, never by 0. Assumes nothing.
use mathlib.Core.Path.{◌≡◌, sym, ap, ◌∙◌}
use mathlib.Core.Bool.{Bool, true, false}
use mathlib.Core.List.{List}
use Prim.Native.Nat.{ℕ, ◌+◌, ◌-◌, ◌≤◌, ◌<◌}
use native.Mathlib.Omega.{arith}
use lib.Dec.{eqb}
use lib.ListN.{length, drop, take, length-drop}
use lib.Seq.{drop-drop}
use borrow.Author.Tests.{eqb-false, eqb-true}
use Rattle.laws.proofs.Bools.{by_test}
use Rattle.guard.specs.Number.{Parsed, Parsed.accepted, Parsed.refused, Width, ◌>>◌, ask, return, unsigned, unsigned_of, value_of_groups, well_formed, width32}
use Rattle.guard.proofs.Reading.{Reads, reads-unsigned_of}
use Rattle.leb128.specs.Count.{Counted}
use Rattle.leb128.proofs.Count.{counts, unsigned-counted, unsigned-short}

-- ---- one number of the definition

other : {A B : Type 0} {q : ℕ} {v : A} {rest : List ℕ} → Path (Parsed A) (refused q) (accepted v rest) → B
other e = let z : ◌≡◌ {A = ℕ} 0 1 = cc in absurd (omega arith)

-- a parser leaves so many bytes of those it had, and has read at least one
record Suffix (bs rest : List ℕ) : Type 0 where
  used : ℕ
  some : 0 < used
  there : used ≤ length bs
  is : rest ≡ drop used bs

module _ (w : Width) (any : 0 < w.bytes) where
  suffix : (bs : List ℕ) (v : ℕ) (rest : List ℕ) → unsigned_of w bs ≡ accepted v rest → Suffix bs rest
  suffix bs v rest e = let (n, c) = counts w.bytes bs any in by_test (eqb n 0) (λ z. none n c (eqb-true n 0 z)) (λ z. some n c (eqb-false n 0 z))
    where
      none : (n : ℕ) → Counted w.bytes bs n → n ≡ 0 → Suffix bs rest
      none n c z = other (sym (unsigned-short w bs n c z) ∙ e)

      left : (gs mid : List ℕ) (t : Bool) → (ask 3 t >> return (value_of_groups gs)) mid ≡ accepted v rest → rest ≡ mid
      left gs mid true h = cc
      left gs mid false h = other h

      some : (n : ℕ) → Counted w.bytes bs n → ¬ (n ≡ 0) → Suffix bs rest
      some n c z =
          record {
            used = n;
            some = omega (arith, z);
            there = c.within;
            is = left (take n bs) (drop n bs) (well_formed w (take n bs)) (sym (unsigned-counted w bs n c z) ∙ e);
          }

  -- a number is refused by a question, never by 0
  pub question_of_lem : (bs : List ℕ) (q : ℕ) → unsigned_of w bs ≡ refused q → 0 < q
  question_of_lem bs q e = let (n, c) = counts w.bytes bs any in by_test (eqb n 0) (λ z. none n c (eqb-true n 0 z)) (λ z. some n c (eqb-false n 0 z))
    where
      none : (n : ℕ) → Counted w.bytes bs n → n ≡ 0 → 0 < q
      none n c z = let two : ◌≡◌ {A = Parsed ℕ} (refused 2) (refused q) = sym (unsigned-short w bs n c z) ∙ e in let is : 2 ≡ q = cc in omega arith

      asked : (gs mid : List ℕ) (t : Bool) → (ask 3 t >> return (value_of_groups gs)) mid ≡ refused q → 0 < q
      asked gs mid true h = other (sym h)
      asked gs mid false h = let is : 3 ≡ q = cc in omega arith

      some : (n : ℕ) → Counted w.bytes bs n → ¬ (n ≡ 0) → 0 < q
      some n c z = asked (take n bs) (drop n bs) (well_formed w (take n bs)) (sym (unsigned-counted w bs n c z) ∙ e)

pub unsigned-question : (bs : List ℕ) (q : ℕ) → unsigned bs ≡ refused q → 0 < q
unsigned-question = question_of_lem width32 (omega arith)

-- *Cursor law.* A number at `at` leaves the bytes from the next cursor on, past `at` and in the bytes.
pub record Passed (most : ℕ) (bytes : List ℕ) (at next value : ℕ) (rest : List ℕ) : Type 0 where
  pub left : rest ≡ drop next bytes
  pub forward : at < next
  pub within : next ≤ length bytes
  pub fits : value ≤ most

pub cursor_of : (w : Width) → 0 < w.bytes → (bytes : List ℕ) (at v : ℕ) (rest : List ℕ) → unsigned_of w (drop at bytes) ≡ accepted v rest
    → Passed w.most bytes at (length bytes - length rest) v rest
unfolding Reads
cursor_of w any bytes at v rest e =
    let s = suffix w any (drop at bytes) v rest e in
    let r : rest ≡ drop (at + s.used) bytes = s.is ∙ drop-drop s.used at bytes in
    let l : length rest ≡ length bytes - (at + s.used) = ap length r ∙ length-drop (at + s.used) bytes in
    let d : length (drop at bytes) ≡ length bytes - at = length-drop at bytes in
    let u : 0 < s.used = s.some in
    let t : s.used ≤ length (drop at bytes) = s.there in
    let n : length bytes - length rest ≡ at + s.used = omega arith in
    record {
      left = r ∙ ap (λ (k : ℕ). drop k bytes) (sym n);
      forward = omega arith;
      within = omega arith;
      fits = (reads-unsigned_of w (drop at bytes) v rest e).2.0;
    }

pub cursor : (bytes : List ℕ) (at v : ℕ) (rest : List ℕ) → unsigned (drop at bytes) ≡ accepted v rest → Passed 4294967295 bytes at (length bytes - length rest) v rest
cursor = cursor_of width32 (omega arith)
