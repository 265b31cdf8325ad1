-- Document 02, #112, of the definitions: a list is taken exactly if its numbers are a file's and its guard has at most one number type.
-- Assumes nothing.
use mathlib.Core.Path.{◌≡◌, refl, ap, sym, ◌∙◌}
use mathlib.Core.Bool.{Bool, true, false}
use mathlib.Core.List.{List, [], map}
use Prim.Native.Nat.{ℕ, ◌≤◌, ◌<◌}
use lib.Dec.{leb}
use lib.IntN.{ℤ}
use borrow.Author.Tests.{le-leb, leb-true, lt-leb}
use Rattle.guard.specs.Grammar.{Source, count, ended, file_of, literal, rows, types}
use Rattle.guard.specs.Guard.{Guard}
use Rattle.guard.specs.Limits.{Limits}
use Rattle.guard.specs.Number.{Parsed, Parsed.accepted, Parsed.refused, Parser, ◌>>=◌, ◌>>◌, and_then, ask, fold_signed, return, times}
use Rattle.guard.specs.Types.{Types, all_defaults, infinite_fields}
use Rattle.encoding.proofs.Parsers.{not_accepted}
use Rattle.serialize.specs.NumberList.{list_file, number_list, number_types, types_asked, unless_refused}

-- ---- the types of an accepted guard are those that were read

-- a parser of guards with these types
abbrev Keeps : Types → Parser Guard → Type 0
Keeps ts p = (ws : List ℕ) (g : Guard) (rest : List ℕ) → p ws ≡ accepted g rest → g.types ≡ ts

keeps_bind : {A : Type 0} (ts : Types) (p : Parser A) (f : A → Parser Guard) → ((a : A) → Keeps ts (f a)) → Keeps ts (p >>= f)
keeps_bind {A} ts p f h ws g rest = go (p ws)
  where
    go : (r : Parsed A) → and_then f r ≡ accepted g rest → g.types ≡ ts
    go (refused q) e = absurd (not_accepted q g rest e)
    go (accepted a mid) e = h a mid g rest e

keeps_return : (ts : Types) (g : Guard) → g.types ≡ ts → Keeps ts (return g)
keeps_return ts g h ws g' rest e = let same : g ≡ g' = cc in ap (λ (x : Guard). x.types) (sym same) ∙ h

-- ---- what is asked of the types

abbrev ask_one : Types → Parser (Unit {0})
ask_one ts = ask 18 (leb (number_types ts) 1)

-- where the first parser accepts a guard, the second asks 18 of the guard's types
abbrev Asks18 : Parser Guard → Parser (Unit {0}) → Type 0
Asks18 p o = (ws : List ℕ) (g : Guard) (rest : List ℕ) → p ws ≡ accepted g rest → (mid : List ℕ) × (o ws ≡ ask_one g.types mid)

asks18_bind : {A : Type 0} (p : Parser A) (f : A → Parser Guard) (o : A → Parser (Unit {0})) → ((a : A) → Asks18 (f a) (o a)) → Asks18 (p >>= f) (p >>= o)
asks18_bind {A} p f o h ws g rest = go (p ws)
  where
    go : (r : Parsed A) → and_then f r ≡ accepted g rest → (mid : List ℕ) × (and_then o r ≡ ask_one g.types mid)
    go (refused q) e = absurd (not_accepted q g rest e)
    go (accepted a mid) e = h a mid g rest e

asks18_asked : (q : ℕ) (b : Bool) (p : Parser Guard) (o : Parser (Unit {0})) → Asks18 p o → Asks18 (ask q b >> p) (ask q b >> o)
asks18_asked q true p o h ws g rest e = h ws g rest e
asks18_asked q false p o h ws g rest e = absurd (not_accepted q g rest e)

asks18_last : (ts : Types) (p : Parser Guard) → Keeps ts p → Asks18 p (ask_one ts)
asks18_last ts p h ws g rest e = (ws, ap (λ (x : Types). ask_one x ws) (sym (h ws g rest e)))

file_asks18 : (src : Source) (limits : Limits) → Asks18 (file_of src limits) (types_asked src limits)
file_asks18 src limits =
    asks18_bind (count src limits.types) _ _ (λ many. asks18_bind (types src many many 0) _ _ (λ ts.
    asks18_asked 8 (all_defaults ts) _ _ (asks18_asked 9 (infinite_fields ts) _ _ (asks18_last ts _
    (keeps_bind ts (count src limits.terms) _ (λ n. keeps_bind ts (rows src n ts []) _ (λ rs.
    keeps_bind ts (count src limits.lines) _ (λ l. keeps_bind ts (times l (literal src ts rs)) _ (λ ls.
    keeps_bind ts ended _ (λ u. keeps_return ts (record { types = ts; rows = rs; literals = ls }) refl))))))))))

-- ---- the list

module _ (limits : Limits) (zs : List ℤ) (g : Guard) (rest : List ℕ) where
  abbrev numbers : List ℕ
  numbers = map fold_signed zs

  -- the numbers of a list that is taken are a file's, and at most one type is a number type
  pub taken-numbers : list_file limits zs ≡ accepted g rest → (file_of number_list limits numbers ≡ accepted g rest) × (number_types g.types ≤ 1)
  unfolding list_file
  taken-numbers = go (types_asked number_list limits numbers) refl
    where
      few : (b : Bool) (mid left : List ℕ) → Path (Parsed (Unit {0})) (ask 18 b mid) (accepted tt left) → b ≡ true
      few true mid left e = refl
      few false mid left e = absurd (not_accepted 18 tt left e)

      go : (r : Parsed (Unit {0})) → types_asked number_list limits numbers ≡ r → unless_refused r (file_of number_list limits numbers) ≡ accepted g rest
          → (file_of number_list limits numbers ≡ accepted g rest) × (number_types g.types ≤ 1)
      go (refused q) i e = absurd (not_accepted q g rest e)
      go (accepted tt left) i e =
          let (mid, asked) = file_asks18 number_list limits numbers g rest e in
          (e, leb-true (number_types g.types) 1 (few (leb (number_types g.types) 1) mid left (sym asked ∙ i)))

  -- the answer to such a list, by the answer to 18
  asked_by : file_of number_list limits numbers ≡ accepted g rest → (b : Bool) → leb (number_types g.types) 1 ≡ b
      → (mid : List ℕ) × (list_file limits zs ≡ unless_refused (ask 18 b mid) (file_of number_list limits numbers))
  unfolding list_file
  asked_by e b is =
      let (mid, asked) = file_asks18 number_list limits numbers g rest e in
      (mid, ap (λ (r : Parsed (Unit {0})). unless_refused r (file_of number_list limits numbers)) (asked ∙ ap (λ (x : Bool). ask 18 x mid) is))

  -- and such a list is taken
  pub numbers-taken : file_of number_list limits numbers ≡ accepted g rest → number_types g.types ≤ 1 → list_file limits zs ≡ accepted g rest
  numbers-taken e one = let (mid, is) = asked_by e true (le-leb (number_types g.types) 1 one) in is ∙ e

  -- with two number types or more it is not
  pub numbers-refused : file_of number_list limits numbers ≡ accepted g rest → 1 < number_types g.types → list_file limits zs ≡ refused 18
  numbers-refused e several = let (mid, is) = asked_by e false (lt-leb (number_types g.types) 1 several) in is
