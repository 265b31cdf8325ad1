-- Texts one after the other: what is put behind a text that was put is put behind both. A loop puts the texts of the numbers
-- from one on, so one law says what its next turn adds. Assumes nothing.
use mathlib.Core.Path.{◌≡◌, refl, ap, sym, ◌∙◌, subst}
use mathlib.Core.List.{List, [], ◌∷◌, ◌++◌, append_assoc, append-nil}
use Prim.Native.Nat.{ℕ, zero, suc, ◌+◌, ◌-◌, ◌*◌, ◌≤◌}
use native.Mathlib.Omega.{arith}
use lib.ListN.{length, take, drop, length-append, length-drop}
use lib.Seq.{drop_at, drop-nil, length_paste_head, paste, take_all, take_at}
use Rattle.laws.specs.Lists.{concat_map, from}
use Rattle.writing.specs.Written.{Written}

drop-on : (i k : ℕ) (xs : List ℕ) → drop (i + k) xs ≡ drop k (drop i xs)
drop-on zero k xs = let e : 0 + k ≡ k = omega arith in ap (λ (n : ℕ). drop n xs) e
drop-on (suc i) k [] = drop-nil (suc i + k) ∙ sym (drop-nil k)
drop-on (suc i) k (x ∷ xs) = let e : suc i + k ≡ suc (i + k) = omega arith in ap (λ (n : ℕ). drop n (x ∷ xs)) e ∙ drop-on i k xs

-- buffers that are the same from one place on are so from a later one on
same_later : (i j : ℕ) (xs ys : List ℕ) → i ≤ j → drop i xs ≡ drop i ys → drop j xs ≡ drop j ys
same_later i j xs ys h e =
    let k : j ≡ i + (j - i) = omega arith in
    ap (λ (n : ℕ). drop n xs) k ∙ drop-on i (j - i) xs ∙ ap (drop (j - i)) e ∙ sym (drop-on i (j - i) ys) ∙ sym (ap (λ (n : ℕ). drop n ys) k)

module _ {out : List ℕ} {at : ℕ} where
  pub nothing : at ≤ length out → Written 0 out at [] out at
  nothing h = record { long = refl; few = omega arith; ends = omega arith; front = sym (append-nil (take at out)); rest = refl }

  module _ {most : ℕ} {text out' : List ℕ} {end : ℕ} where
    pub more_room : (more : ℕ) → most ≤ more → Written most out at text out' end → Written more out at text out' end
    more_room more h w = record { long = w.long; few = omega (arith, w.few); ends = w.ends; front = w.front; rest = w.rest }

    pub same_text : {text' : List ℕ} → text ≡ text' → Written most out at text out' end → Written most out at text' out' end
    same_text e w = subst (λ (t : List ℕ). Written most out at t out' end) e w

    pub and_then : {more end' : ℕ} {text' out'' : List ℕ} → Written most out at text out' end → Written more out' end text' out'' end'
        → Written (most + more) out at (text ++ text') out'' end'
    and_then {more} {end'} {text'} {out''} w v =
        record {
          long = v.long ∙ w.long;
          few = omega (arith, w.few, v.few, length-append text text');
          ends = omega (arith, w.ends, v.ends, length-append text text');
          front = v.front ∙ ap (λ (l : List ℕ). l ++ text') w.front ∙ append_assoc (take at out) text text';
          rest = v.rest ∙ same_later end end' out' out (omega (arith, v.ends)) w.rest;
        }

-- a copy
pub pasted : (out : List ℕ) (at : ℕ) (text : List ℕ) → at + length text ≤ length out
    → Written (length text) out at text (paste out at text (length text)) (at + length text)
pasted out at text h =
    record {
      long = omega (arith, length-append head rest, head_length, length-drop (at + length text) out);
      few = omega arith;
      ends = refl;
      front = take_at head rest (at + length text) head_length ∙ ap (λ (l : List ℕ). take at out ++ l) (take_all (length text) text (omega arith));
      rest = drop_at head rest (at + length text) head_length;
    }
  where
    head : List ℕ
    head = take at out ++ take (length text) text

    rest : List ℕ
    rest = drop (at + length text) out

    head_length : length head ≡ at + length text
    head_length = length_paste_head out at text (length text) (omega arith) (omega arith)

-- the next turn of a loop
pub one_more : (f : ℕ → List ℕ) (n a : ℕ) → concat_map f (from (suc n) a) ≡ concat_map f (from n a) ++ f (a + n)
one_more f zero a = append-nil (f a) ∙ ap f (omega arith)
one_more f (suc n) a = ap (λ (l : List ℕ). f a ++ l) (one_more f n (suc a) ∙ ap (λ (k : ℕ). concat_map f (from n (suc a)) ++ f k) (omega arith)) ∙ sym (append_assoc (f a) (concat_map f (from n (suc a))) (f (a + suc n)))

-- the text of one more number, where none takes more than `most` bytes
pub next_turn : (f : ℕ → List ℕ) (a n most : ℕ) {out : List ℕ} {at : ℕ} {out' : List ℕ} {end : ℕ} {out'' : List ℕ} {end' : ℕ}
    → Written (most * n) out at (concat_map f (from n a)) out' end → Written most out' end (f (a + n)) out'' end'
    → Written (most * (n + 1)) out at (concat_map f (from (n + 1) a)) out'' end'
next_turn f a n most w v =
    let e : suc n ≡ n + 1 = omega arith in
    let room : most * n + most ≤ most * (n + 1) = omega arith in
    same_text (sym (one_more f n a) ∙ ap (λ (k : ℕ). concat_map f (from k a)) e) (more_room (most * (n + 1)) room (and_then w v))

pub from_zero : (n : ℕ) → n ≡ 0 + n
from_zero n = omega arith
