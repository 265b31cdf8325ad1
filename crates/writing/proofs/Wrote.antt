-- What a writer has written, one text behind the other, by what is said of its buffer and its place. Assumes nothing.
use mathlib.Core.Path.{◌≡◌, refl, ap, sym, subst, ◌∙◌}
use mathlib.Core.List.{List, [], ◌++◌}
use Prim.Native.Nat.{ℕ, ◌+◌, ◌*◌, ◌≤◌}
use native.Mathlib.Omega.{arith}
use lib.ListN.{length, take, drop, length-append}
use lib.Seq.{drop_at, length-take-le, take_at}
use Rattle.std.specs.Prelude.{Option, Some, None}
use Rattle.std.specs.Option.{IsSome}
use Rattle.laws.specs.Lists.{concat_map, from}
use Rattle.bytebuffer.specs.declared.Writer.{Writer}
use Rattle.bytebuffer.specs.Appends.{Appends}
use Rattle.bytebuffer.specs.Puts.{Stand}
use Rattle.bytebuffer.proofs.PutLaws as put
use Rattle.writing.specs.Written.{Written}
use Rattle.writing.specs.Wrote.{HasRoom, Wrote}
use Rattle.writing.proofs.Writing as buffer

-- ---- as it is said of a buffer and a place

pub as_written : {most : ℕ} {text : List ℕ} {w w' : Writer} → Wrote most text w w' → Written most w.out.now w.at text w'.out.now w'.at
as_written p = record { long = p.long; few = p.few; ends = p.ends; front = p.front; rest = p.rest }

pub by_written : {most : ℕ} {text : List ℕ} {w w' : Writer} → w'.out.ghost_name ≡ w.out.ghost_name → Written most w.out.now w.at text w'.out.now w'.at → Wrote most text w w'
by_written s p = record { same = s; long = p.long; few = p.few; ends = p.ends; front = p.front; rest = p.rest }

-- from the start of a buffer
pub from_start : {most : ℕ} {text out : List ℕ} {w w' : Writer} → w.out.now ≡ out → w.at ≡ 0 → Wrote most text w w' → Written most out 0 text w'.out.now w'.at
from_start {most} {text} {out} {w} {w'} e z p =
    subst (λ (k : ℕ). Written most out k text w'.out.now w'.at) z (subst (λ (o : List ℕ). Written most o w.at text w'.out.now w'.at) e (as_written p))

-- ---- bytes that are put

stood : {text out out' : List ℕ} {at end : ℕ} → Stand text out at end out' → Written (length text) out at text out' end
stood {text} {out} {out'} {at} {end} s =
    record {
      long = put.long s;
      few = omega arith;
      ends = s.ends;
      front = ap (take end) s.is ∙ take_at (take at out ++ text) _ end head;
      rest = ap (drop end) s.is ∙ drop_at (take at out ++ text) _ end head ∙ ap (λ (k : ℕ). drop k out) (sym s.ends);
    }
  where
    head : length (take at out ++ text) ≡ end
    head = length-append (take at out) text ∙ omega (arith, length-take-le at out (omega (arith, s.fit)), s.ends)

module _ {text : List ℕ} {w w' : Writer} where
  pub fits : {r : Option (Unit {0})} → Appends text w r w' → HasRoom (length text) w → IsSome r
  fits {r = Some u} p h = refl
  fits {r = None} p h = absurd (omega (arith, h, p.behind.over))

  pub put_all : {r : Option (Unit {0})} → Appends text w r w' → HasRoom (length text) w → Wrote (length text) text w w'
  put_all {r = Some u} p h = by_written p.same (stood p.behind)
  put_all {r = None} p h = absurd (omega (arith, h, p.behind.over))

pub ruleset byte_laws = (fits, put_all)

-- ---- texts one after the other

pub nothing : (w : Writer) → Wrote 0 [] w w
nothing w = by_written refl (buffer.nothing (omega (arith, w.at_in_bounds)))

module _ {most : ℕ} {text : List ℕ} {w w' : Writer} where
  pub more_room : (more : ℕ) → most ≤ more → Wrote most text w w' → Wrote more text w w'
  more_room more h p = by_written p.same (buffer.more_room more h (as_written p))

  pub same_text : {text' : List ℕ} → text ≡ text' → Wrote most text w w' → Wrote most text' w w'
  same_text e p = by_written p.same (buffer.same_text e (as_written p))

  pub and_then : {more : ℕ} {text' : List ℕ} {w'' : Writer} → Wrote most text w w' → Wrote more text' w' w'' → Wrote (most + more) (text ++ text') w w''
  and_then p q = by_written (q.same ∙ p.same) (buffer.and_then (as_written p) (as_written q))

-- the text of one more number, where none takes more than `most` bytes
pub next_turn : (f : ℕ → List ℕ) (a n most : ℕ) {w w' w'' : Writer} → Wrote (most * n) (concat_map f (from n a)) w w' → Wrote most (f (a + n)) w' w''
    → Wrote (most * (n + 1)) (concat_map f (from (n + 1) a)) w w''
next_turn f a n most p q = by_written (q.same ∙ p.same) (buffer.next_turn f a n most (as_written p) (as_written q))
