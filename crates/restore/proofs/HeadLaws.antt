-- What the reads of the types part, their facts and N say of the head of a stored file. Assumes nothing.
use mathlib.Core.Path.{◌≡◌, refl, ap, sym, ◌∙◌}
use mathlib.Core.Bool.{Bool, true, false, cond}
use mathlib.Core.List.{List}
use Prim.Native.Nat.{ℕ}
use native.Mathlib.Omega.{arith}
use lib.ListN.{drop}
use Rattle.std.specs.Prelude.{Ok, Err}
use Rattle.guard.specs.File.{count, types}
use Rattle.guard.specs.Limits.{base}
use Rattle.guard.specs.Number.{Parsed, Parsed.accepted, Parsed.refused, Parser, ◌>>=◌, ◌>>◌, and_then, ask, return}
use Rattle.guard.specs.Question.{number_of}
use Rattle.guard.specs.Types.{Types, all_defaults, defaults, infinite_fields}
use Rattle.guard.specs.declared.Question.{Question}
use Rattle.guard.specs.declared.Question.TheVariants.{NoDefault, NoInfiniteField}
use Rattle.tables.specs.Layout.{default_column, types_of}
use Rattle.tables.specs.declared.TypeTable.{TypeTable}
use Rattle.datatypes.specs.Facts.{type_facts}
use Rattle.numbers.specs.Reader.{Found, below}
use Rattle.numbers.proofs.CountLaws.{below_is, count-is}
use Rattle.typereader.specs.TypeReader.{table_by, types_part}
use Rattle.typereader.proofs.TypeReaderLaws.{TypesFound, types-found, types-refused}
use Rattle.columnfile.specs.Columns.{columns, restored_head}
use Rattle.restore.specs.Restoring.{HeadTaken, TypesTaken, head_of}

abbrev after_count : Types → ℕ → Parser (List ℕ)
after_count ts n = columns ts n >>= λ cs. return (head_of ts n cs)

abbrev asked : Types → Bool → Bool → Parser (List ℕ)
asked ts a b = ask 8 a >> (ask 9 b >> (count 24 >>= after_count ts))

head-parts : (bytes : List ℕ) → restored_head base bytes ≡ and_then (λ ts. asked ts (all_defaults ts) (infinite_fields ts)) (types_part 6 bytes)
unfolding restored_head
head-parts bytes = go (count 6 bytes)
  where
    go : (r : Parsed ℕ) → and_then (λ many. types many many 0 >>= λ ts. asked ts (all_defaults ts) (infinite_fields ts)) r ≡ and_then (λ ts. asked ts (all_defaults ts) (infinite_fields ts)) (and_then (λ many. types many many 0) r)
    go (refused q) = refl
    go (accepted many rest) = refl

-- 2 to 5
pub types_stop : (bytes : List ℕ) (q : ℕ) → table_by 6 bytes ≡ refused q → restored_head base bytes ≡ refused q
types_stop bytes q e = head-parts bytes ∙ ap (and_then (λ ts. asked ts (all_defaults ts) (infinite_fields ts))) (types-refused bytes 6 q e)

module _ (bytes : List ℕ) (table : TypeTable) (at : ℕ) (read : Found (table_by 6 bytes) bytes table at) where
  pub found : TypesFound bytes 6 table at
  found = types-found bytes 6 (omega arith) table at read

  abbrev ts : Types
  ts = found.ts

  asked_by : (a b : Bool) → all_defaults ts ≡ a → infinite_fields ts ≡ b → restored_head base bytes ≡ asked ts a b (drop at bytes)
  asked_by a b p q = head-parts bytes ∙ ap (and_then (λ us. asked us (all_defaults us) (infinite_fields us))) found.parsed ∙ rw (p, q) refl

  facts_by : (a b : Bool) → all_defaults ts ≡ a → infinite_fields ts ≡ b → type_facts (types_of table) ≡ cond a (cond b (Ok (default_column (defaults ts))) (Err NoInfiniteField)) (Err NoDefault)
  unfolding type_facts
  facts_by a b p q = ap type_facts found.back ∙ rw (p, q) refl

  -- 8 and 9
  pub facts_stop : (q : Question) → type_facts (types_of table) ≡ Err q → restored_head base bytes ≡ refused (number_of q)
  facts_stop q is = go (all_defaults ts) (infinite_fields ts) refl refl
    where
      go : (a b : Bool) → all_defaults ts ≡ a → infinite_fields ts ≡ b → restored_head base bytes ≡ refused (number_of q)
      go false b p r = let e = sym is ∙ facts_by false b p r in let z : NoDefault ≡ q = cc in asked_by false b p r ∙ ap (λ (x : Question). refused (number_of x)) z
      go true false p r = let e = sym is ∙ facts_by true false p r in let z : NoInfiniteField ≡ q = cc in asked_by true false p r ∙ ap (λ (x : Question). refused (number_of x)) z
      go true true p r = let e = sym is ∙ facts_by true true p r in absurd cc

  module _ (ds : List ℕ) (is : type_facts (types_of table) ≡ Ok ds) where
    pass : (all_defaults ts ≡ true) × (infinite_fields ts ≡ true)
    pass = go (all_defaults ts) (infinite_fields ts) refl refl
      where
        go : (a b : Bool) → all_defaults ts ≡ a → infinite_fields ts ≡ b → (all_defaults ts ≡ true) × (infinite_fields ts ≡ true)
        go false b p q = let e = sym is ∙ facts_by false b p q in absurd cc
        go true false p q = let e = sym is ∙ facts_by true false p q in absurd cc
        go true true p q = (p, q)

    taken : TypesTaken table ts
    taken =
        record {
          are = found.is;
          many = found.fit.few;
          total = found.fit.total;
          fit = found.fit.each;
          range = found.range;
          back = found.back;
          ready = pass.0;
          infinite = pass.1;
        }

    -- N
    counted : restored_head base bytes ≡ and_then (after_count ts) (below 25 4 (drop at bytes))
    counted = asked_by true true pass.0 pass.1 ∙ ap (and_then (after_count ts)) (count-is 24 (drop at bytes))

    pub count_stop : (q : ℕ) → below 25 4 (drop at bytes) ≡ refused q → restored_head base bytes ≡ refused q
    count_stop q e = counted ∙ ap (and_then (after_count ts)) e

    pub head-taken : (n next : ℕ) → Found (below 25 4 (drop at bytes)) bytes n next → HeadTaken bytes (record { at = next; rows = n; table = table })
    head-taken n next f =
        record {
          ts = ts;
          taken = taken;
          few = omega (arith, below_is 25 4 (drop at bytes) n (drop next bytes) f.accepts);
          within = f.within;
          rest = counted ∙ ap (and_then (after_count ts)) f.accepts;
        }
