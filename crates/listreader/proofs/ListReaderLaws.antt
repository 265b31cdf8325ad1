-- What the tables of the plain bytes say of the list: they are its own. Assumes nothing.
use mathlib.Core.Path.{◌≡◌, refl, ap, sym, ◌∙◌}
use mathlib.Core.List.{List, [], map}
use Prim.Native.Nat.{ℕ}
use native.Mathlib.Omega.{arith}
use lib.IntN.{ℤ}
use lib.ListN.{take}
use Rattle.std.specs.Prelude.{Result, Ok, Err, IfErr}
use Rattle.guard.specs.File.{bytes, file}
use Rattle.guard.specs.Grammar.{file_of}
use Rattle.guard.specs.Guard.{Guard}
use Rattle.guard.specs.Limits.{base}
use Rattle.guard.specs.Number.{Parsed, Parsed.accepted, Parsed.refused, fold_signed}
use Rattle.guard.specs.Question.{number_of}
use Rattle.guard.specs.declared.Question.{Question}
use Rattle.guard.proofs.Claims.{base-supported}
use Rattle.serialize.specs.NumberList.{list_file, number_list, types_asked, unless_refused}
use Rattle.numbertypes.specs.Asked.{Passed}
use Rattle.numbers.specs.Reader.{ReadsAll}
use Rattle.reader.specs.Reader.{guard_tables, in_tables, limits_of}
use Rattle.reader.specs.declared.Tables.{Tables}
use Rattle.reader.proofs.TablesRead.{refused-file, taken-file}
use Rattle.listreader.specs.ListReader.{ReadsList, Taken}
use Rattle.listreader.specs.Plain.{plain_of, room}
use Rattle.listreader.specs.Written.{Written}
use Rattle.listreader.proofs.Simulated.{Answers, simulated, simulated_types}
use Rattle.listreader.proofs.Simulation.{Agree, Any, Same}

-- the list is refused with this question, which isn't 3
pub record Refuses (p : Parsed Guard) (q : ℕ) : Type 0 where
  pub refuses : p ≡ refused q
  pub not_malformed : ¬ (q ≡ 3)

module _ (list : List ℤ) (out : List ℕ) (many : ℕ) (written : Written list out many) where
  abbrev numbers : List ℕ
  numbers = map fold_signed list

  asked : Agree 0 (Same Any) (types_asked number_list base numbers) (types_asked bytes base (plain_of room numbers))
  asked = simulated_types base base-supported numbers room written.narrow (omega arith)

  answers : Answers (file_of number_list base numbers) (file base (plain_of room numbers))
  answers = simulated base base-supported numbers room written.narrow (omega arith)

  -- a question about the types
  pub types-refused : (q : ℕ) → types_asked bytes base (take many out) ≡ refused q → Refuses (list_file base list) q
  unfolding list_file
  types-refused q is = go (types_asked number_list base numbers) (types_asked bytes base (plain_of room numbers)) asked (ap (types_asked bytes base) (sym written.bytes) ∙ is)
    where
      go : (r r' : Parsed (Unit {0})) → Agree 0 (Same Any) r r' → r' ≡ refused q → Refuses (unless_refused r (file_of number_list base numbers)) q
      go (refused i) (refused j) a e = let same : i ≡ q = let s : i ≡ j = a.0 in cc in record { refuses = ap refused same; not_malformed = λ three. a.1 (same ∙ three) }
      go (refused i) (accepted u rest) a e = absurd a
      go (accepted u rest) (refused j) a e = absurd a
      go (accepted u rest) (accepted v rest') a e = absurd cc

  -- none
  module _ (passed : Passed (types_asked bytes base (take many out))) where
    -- what is asked of the list is asked of the file
    types-taken : list_file base list ≡ file_of number_list base numbers
    unfolding list_file
    types-taken = go (types_asked number_list base numbers) (types_asked bytes base (plain_of room numbers)) asked (ap (types_asked bytes base) (sym written.bytes) ∙ passed.accepts)
      where
        go : (r r' : Parsed (Unit {0})) → Agree 0 (Same Any) r r' → r' ≡ accepted tt passed.rest → unless_refused r (file_of number_list base numbers) ≡ file_of number_list base numbers
        go (refused i) (refused j) a e = absurd cc
        go (refused i) (accepted u rest) a e = absurd a
        go (accepted u rest) (refused j) a e = absurd a
        go (accepted u rest) (accepted v rest') a e = refl

    file-refused : (q : ℕ) → in_tables (file (limits_of 6 24 32)) (take many out) ≡ refused q → Refuses (list_file base list) q
    file-refused q is = go (file_of number_list base numbers) (file base (plain_of room numbers)) types-taken answers (ap (file base) (sym written.bytes) ∙ refused-file base (take many out) q is)
      where
        go : (r r' : Parsed Guard) → list_file base list ≡ r → Answers r r' → r' ≡ refused q → Refuses (list_file base list) q
        go (refused i) (refused j) l a e = let same : i ≡ q = let s : i ≡ j = a.0 in cc in record { refuses = l ∙ ap refused same; not_malformed = λ three. a.1 (same ∙ three) }
        go (refused i) (accepted h rest) l a e = absurd a
        go (accepted g rest) (refused j) l a e = absurd a
        go (accepted g rest) (accepted h rest') l a e = absurd cc

    file-taken : (t : Tables) → in_tables (file (limits_of 6 24 32)) (take many out) ≡ accepted t [] → Taken (list_file base list) t
    file-taken t is =
        let k = taken-file base (take many out) t is in
        go k.guard k.is (file_of number_list base numbers) (file base (plain_of room numbers)) types-taken answers (ap (file base) (sym written.bytes) ∙ k.parsed)
      where
        go : (s : Guard) → t ≡ guard_tables s → (r r' : Parsed Guard) → list_file base list ≡ r → Answers r r' → r' ≡ accepted s [] → Taken (list_file base list) t
        go s w (refused i) (refused j) l a e = absurd cc
        go s w (refused i) (accepted h rest) l a e = absurd a
        go s w (accepted g rest) (refused j) l a e = absurd a
        go s w (accepted g rest) (accepted h rest') l a e =
            let shown : h ≡ s = cc in
            record { guard = g; rest = rest; is = l; shown = h; tables = w ∙ ap guard_tables (sym shown); same = a }

    pub answered : (r : Result Tables Question) → ReadsAll (in_tables (file (limits_of 6 24 32)) (take many out)) r → ReadsList (list_file base list) r × IfErr r (λ q. ¬ (number_of q ≡ 3))
    answered (Ok t) is = (file-taken t is, tt)
    answered (Err q) is = let k = file-refused (number_of q) is in (k.refuses, k.not_malformed)
