-- A file that begins with types and rows: these are read, and then the rest. Assumes nothing.
use mathlib.Core.Path.{◌≡◌, refl}
use mathlib.Core.Bool.{Bool, true, false}
use mathlib.Core.List.{List, []}
use Prim.Native.Nat.{ℕ}
use Rattle.guard.specs.File.{bytes, count, rows, types}
use Rattle.guard.specs.Grammar.{with_head}
use Rattle.guard.specs.Guard.{Row}
use Rattle.guard.specs.Limits.{Limits}
use Rattle.guard.specs.Number.{Parsed, Parsed.accepted, Parsed.refused, Parser, ◌>>=◌, ◌>>◌, and_then, ask}
use Rattle.guard.specs.Types.{Types, all_defaults, infinite_fields}
use Rattle.headreader.specs.Head.{Head, head_part, rows_behind}

module _ {A : Type 0} (limits : Limits) (next : Types → List Row → Parser A) where
  -- what follows the head
  abbrev pub behind : Head → Parser A
  behind h = next h.types h.rows

  abbrev rest_facts : Types → Parser A
  rest_facts ts = count limits.terms >>= λ n. rows n ts [] >>= next ts

  abbrev rest_types : Types → Parser A
  rest_types ts = ask 8 (all_defaults ts) >> (ask 9 (infinite_fields ts) >> rest_facts ts)

  rows-first : (ts : Types) (bs : List ℕ) → rest_facts ts bs ≡ and_then behind (rows_behind limits.terms ts bs)
  rows-first ts bs = go (count limits.terms bs)
    where
      read : (r : Parsed (List Row)) → and_then (next ts) r ≡ and_then behind (and_then (λ rs. λ rest. accepted (record { types = ts; rows = rs }) rest) r)
      read (refused q) = refl
      read (accepted rs rest) = refl

      go : (r : Parsed ℕ) → and_then (λ n. rows n ts [] >>= next ts) r ≡ and_then behind (and_then (λ rs. λ rest. accepted (record { types = ts; rows = rs }) rest) (and_then (λ n. rows n ts []) r))
      go (refused q) = refl
      go (accepted n rest) = read (rows n ts [] rest)

  questions-first : (ts : Types) (bs : List ℕ) → rest_types ts bs ≡ and_then behind ((ask 8 (all_defaults ts) >> (ask 9 (infinite_fields ts) >> rows_behind limits.terms ts)) bs)
  questions-first ts bs = go (all_defaults ts) (infinite_fields ts)
    where
      go : (a b : Bool) → (ask 8 a >> (ask 9 b >> rest_facts ts)) bs ≡ and_then behind ((ask 8 a >> (ask 9 b >> rows_behind limits.terms ts)) bs)
      go false b = refl
      go true false = refl
      go true true = rows-first ts bs

  pub with_head_lem : (bs : List ℕ) → with_head bytes limits next bs ≡ and_then behind (head_part limits.types limits.terms bs)
  with_head_lem bs = go (count limits.types bs)
    where
      head_from : Types → Parser Head
      head_from ts = ask 8 (all_defaults ts) >> (ask 9 (infinite_fields ts) >> rows_behind limits.terms ts)

      read : (r : Parsed Types) → and_then rest_types r ≡ and_then behind (and_then (λ ts. ask 8 (all_defaults ts) >> (ask 9 (infinite_fields ts) >> rows_behind limits.terms ts)) r)
      read (refused q) = refl
      read (accepted ts rest) = questions-first ts rest

      go : (r : Parsed ℕ) → and_then (λ many. types many many 0 >>= rest_types) r
          ≡ and_then behind (and_then (λ ts. ask 8 (all_defaults ts) >> (ask 9 (infinite_fields ts) >> rows_behind limits.terms ts)) (and_then (λ many. types many many 0) r))
      go (refused q) = refl
      go (accepted many rest) = read (types many many 0 rest)
