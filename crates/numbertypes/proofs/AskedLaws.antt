-- The questions about the types part, by what `read_types` and `type_facts` say; and number types by the table's counts of variants.
-- Assumes nothing.
use mathlib.Core.Path.{◌≡◌, refl, ap, sym, ◌∙◌}
use mathlib.Core.Bool.{Bool, true, false, cond}
use mathlib.Core.List.{List, [], ◌∷◌, ◌++◌, map}
use Prim.Native.Nat.{ℕ, zero, suc, ◌+◌, ◌≤◌, ◌<◌}
use native.Mathlib.Numerals.{add-one}
use native.Mathlib.Omega.{arith}
use lib.Dec.{eqb, leb}
use lib.ListN.{length, get_or, drop, take}
use Rattle.std.specs.List.{count_by}
use Rattle.std.specs.Prelude.{Ok, Err}
use Rattle.std.proofs.lemmas.Grind.{common_steps}
use borrow.Author.Tests.{ne_eqb}
use Rattle.laws.specs.Lists.{cons_if, filter}
use Rattle.guard.specs.File.{bytes, count, types}
use Rattle.guard.specs.Limits.{base}
use Rattle.guard.specs.Number.{Parsed, Parsed.accepted, Parsed.refused, Parser, ◌>>◌, and_then, ask}
use Rattle.guard.specs.Types.{Types, all_defaults, defaults, infinite_fields}
use Rattle.guard.specs.Question.{number_of}
use Rattle.guard.specs.declared.Question.{Question}
use Rattle.guard.specs.declared.Question.TheVariants.{NoDefault, NoInfiniteField}
use Rattle.tables.specs.Layout.{TypesInRange, default_column, type_table, types_of}
use Rattle.tables.specs.declared.TypeTable.{TypeTable}
use Rattle.numbers.specs.Reader.{Found}
use Rattle.serialize.specs.NumberList.{number_types, types_asked}
use Rattle.typereader.specs.TypeReader.{table_by, types_part}
use Rattle.typereader.proofs.TypeReaderLaws.{TypesFound, types-found, types-refused}
use Rattle.datatypes.specs.Facts.{type_facts}
use Rattle.numbertypes.specs.Asked.{Passed, zeroes}

-- ---- number types in a table

-- 1 for 0, and 0 for other numbers
abbrev one : ℕ → ℕ
one x = cond (eqb x 0) 1 0

-- a number more
counted : (xs : List ℕ) (n : ℕ) → n < length xs → count_by (λ x. eqb x 0) (take (n + 1) xs) ≡ count_by (λ x. eqb x 0) (take n xs) + cond (eqb (get_or xs n 0) 0) 1 0
counted xs n h = grind (arith, common_steps)

pub zeroes_count : (xs : List ℕ) (n : ℕ) → n ≤ length xs → zeroes xs n ≡ count_by (λ x. eqb x 0) (take n xs)
zeroes_count xs zero h = refl
zeroes_count xs (suc n) h =
    ap (λ (k : ℕ). k + cond (eqb (get_or xs n 0) 0) 1 0) (zeroes_count xs n (omega arith)) ∙ sym (counted xs n (omega arith))
    ∙ ap (λ (k : ℕ). count_by (λ x. eqb x 0) (take k xs)) (add-one n)

zeroes-front : (x : ℕ) (xs : List ℕ) (n : ℕ) → zeroes (x ∷ xs) (suc n) ≡ one x + zeroes xs n
zeroes-front x xs zero = omega arith
zeroes-front x xs (suc n) = omega (arith, zeroes-front x xs n)

one-plus : (n : ℕ) → 1 + n ≡ suc n
one-plus n = omega arith

none-plus : (n : ℕ) → 0 + n ≡ n
none-plus n = omega arith

zeroes-types : (ts : Types) (ys : List ℕ) → zeroes (map length ts ++ ys) (length ts) ≡ number_types ts
zeroes-types [] ys = refl
zeroes-types ([] ∷ ts) ys = zeroes-front 0 (map length ts ++ ys) (length ts) ∙ one-plus _ ∙ ap suc (zeroes-types ts ys)
zeroes-types ((v ∷ vs) ∷ ts) ys =
    let none : eqb (suc (length vs)) 0 ≡ false = ne_eqb (suc (length vs)) 0 (λ e. omega (arith, e)) in
    zeroes-front (suc (length vs)) (map length ts ++ ys) (length ts)
    ∙ ap (λ (b : Bool). cond b 1 0 + zeroes (map length ts ++ ys) (length ts)) none ∙ none-plus _ ∙ zeroes-types ts ys ∙ ap (λ (b : Bool). length (cons_if b (v ∷ vs) (filter (λ ws. eqb (length ws) 0) ts))) (sym none)

-- ---- the questions

-- 8, 9 and 18, by their answers
abbrev asked : Bool → Bool → Bool → Parser (Unit {0})
asked a b c = ask 8 a >> (ask 9 b >> ask 18 c)

abbrev asked_of : Types → Parser (Unit {0})
asked_of ts = asked (all_defaults ts) (infinite_fields ts) (leb (number_types ts) 1)

asked-parts : (file : List ℕ) → types_asked bytes base file ≡ and_then asked_of (types_part 6 file)
asked-parts file = go (count 6 file)
  where
    go : (r : Parsed ℕ) → and_then (λ many bs. and_then asked_of (types many many 0 bs)) r ≡ and_then asked_of (and_then (λ many. types many many 0) r)
    go (refused q) = refl
    go (accepted many rest) = refl

-- 2 to 5
pub part_stops : (file : List ℕ) (q : ℕ) → table_by 6 file ≡ refused q → types_asked bytes base file ≡ refused q
part_stops file q e = asked-parts file ∙ ap (and_then asked_of) (types-refused file 6 q e)

module _ (file : List ℕ) (table : TypeTable) (at : ℕ) (f : Found (table_by 6 file) file table at) where
  found : TypesFound file 6 table at
  found = types-found file 6 (omega arith) table at f

  abbrev ts : Types
  ts = found.ts

  pub table-range : TypesInRange table
  table-range = found.range

  number-types : zeroes table.variants table.many ≡ number_types ts
  unfolding type_table
  number-types = ap (λ (x : TypeTable). zeroes x.variants x.many) found.is ∙ zeroes-types ts _

  asked_by : (a b c : Bool) → all_defaults ts ≡ a → infinite_fields ts ≡ b → leb (number_types ts) 1 ≡ c → types_asked bytes base file ≡ asked a b c (drop at file)
  asked_by a b c p q r = asked-parts file ∙ ap (and_then asked_of) found.parsed ∙ rw (p, q, r) refl

  facts_by : (a b : Bool) → all_defaults ts ≡ a → infinite_fields ts ≡ b → type_facts (types_of table) ≡ cond a (cond b (Ok (default_column (defaults ts))) (Err NoInfiniteField)) (Err NoDefault)
  unfolding type_facts
  facts_by a b p q = ap type_facts found.back ∙ rw (p, q) refl

  -- 8 and 9
  pub facts_stop : (q : Question) → type_facts (types_of table) ≡ Err q → types_asked bytes base file ≡ refused (number_of q)
  facts_stop q is = go (all_defaults ts) (infinite_fields ts) refl refl
    where
      go : (a b : Bool) → all_defaults ts ≡ a → infinite_fields ts ≡ b → types_asked bytes base file ≡ refused (number_of q)
      go false b p r = let e = sym is ∙ facts_by false b p r in let z : NoDefault ≡ q = cc in asked_by false b _ p r refl ∙ ap (λ (x : Question). refused (number_of x)) z
      go true false p r = let e = sym is ∙ facts_by true false p r in let z : NoInfiniteField ≡ q = cc in asked_by true false _ p r refl ∙ ap (λ (x : Question). refused (number_of x)) z
      go true true p r = let e = sym is ∙ facts_by true true p r in absurd cc

  -- 18, by its answer
  module _ (ds : List ℕ) (is : type_facts (types_of table) ≡ Ok ds) (b : Bool) (is_b : b ≡ leb (zeroes table.variants table.many) 1) where
    asked-last : (c : Bool) → b ≡ c → types_asked bytes base file ≡ ask 18 c (drop at file)
    asked-last c e = go (all_defaults ts) (infinite_fields ts) refl refl
      where
        go : (x y : Bool) → all_defaults ts ≡ x → infinite_fields ts ≡ y → types_asked bytes base file ≡ ask 18 c (drop at file)
        go false y p q = let e = sym is ∙ facts_by false y p q in absurd cc
        go true false p q = let e = sym is ∙ facts_by true false p q in absurd cc
        go true true p q = asked_by true true c p q (ap (λ (k : ℕ). leb k 1) (sym number-types) ∙ sym is_b ∙ e)

    pub several : b ≡ false → types_asked bytes base file ≡ refused 18
    several = asked-last false

    pub at_most_one : b ≡ true → Passed (types_asked bytes base file)
    at_most_one e = record { rest = _; accepts = asked-last true e }
