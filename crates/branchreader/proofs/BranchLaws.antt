-- Branches one after the other into their tables. Assumes nothing.
use Rattle.std.proofs.Common.{◌≡◌, ◌∙◌, refl, ap, sym, arith, ℕ, suc, ◌+◌, ◌-◌, ◌≤◌, ◌<◌, List, [], ◌∷◌, ◌++◌, length, drop, length-append}
use lib.ListN.{set}
use Rattle.guard.specs.Grammar.{ended}
use Rattle.guard.specs.Guard.{Literal}
use Rattle.guard.specs.Number.{Parsed, Parsed.accepted, Parsed.refused, Parser, ◌>>=◌, ◌>>◌, and_then, return, times}
use Rattle.guard.proofs.Repeats.{after, after_none, times-done, times-next}
use Rattle.tables.specs.Layout.{literal_table}
use Rattle.tables.specs.declared.LiteralTable.{LiteralTable}
use Rattle.tables.proofs.Columns.{column-set}
use Rattle.numbers.specs.Reader.{Found}
use Rattle.numbers.proofs.Mapped.{mapped}
use Rattle.literalreader.specs.LiteralReader.{in_table}
use Rattle.branches.specs.Procedure.{branch_count, branch_limit}
use Rattle.branchreader.specs.BranchReader.{as_branches, branch_tables, branches_by, in_branches}

-- So many branches are read from `start` on and stand in the tables; what is left to read comes after them.
pub record SoFar (p : Parser (List Literal)) (bytes : List ℕ) (many start : ℕ) (lines : List LiteralTable) (at i : ℕ) : Type 0 where
  pub branches : List (List Literal)
  pub long : length branches ≡ i
  pub within : at ≤ length bytes
  pub tables : lines ≡ branch_tables branches
  pub left : after branches (times (many - i) p (drop at bytes)) ≡ times many p (drop start bytes)

module _ (p : Parser (List Literal)) (bytes : List ℕ) (many start : ℕ) where
  pub none_yet : start ≤ length bytes → (lines : List LiteralTable) → lines ≡ branch_tables [] → SoFar p bytes many start lines start 0
  none_yet h lines e =
      record {
        branches = [];
        long = refl;
        within = h;
        tables = e;
        left = let d : many - 0 ≡ many = omega arith in after_none (times (many - 0) p (drop start bytes)) ∙ ap (λ (k : ℕ). times k p (drop start bytes)) d;
      }

  module _ (lines : List LiteralTable) (at i : ℕ) (read : SoFar p bytes many start lines at i) where
    module _ (more : i < many) where
      left-next : after read.branches (times (suc (many - suc i)) p (drop at bytes)) ≡ times many p (drop start bytes)
      left-next = let e : suc (many - suc i) ≡ many - i = omega arith in ap (λ (k : ℕ). after read.branches (times k p (drop at bytes))) e ∙ read.left

      pub one_more : many ≤ branch_limit → (table : LiteralTable) (next : ℕ) → Found (in_table p (drop at bytes)) bytes table next
          → SoFar p bytes many start (set lines i table) next (i + 1)
      one_more room table next found =
          let (ls, parsed, is) = mapped literal_table (p (drop at bytes)) table (drop next bytes) found.accepts in
          let e : i + 1 ≡ suc i = omega arith in
          rw e
          (record {
            branches = read.branches ++ (ls ∷ []);
            long = omega (arith, length-append read.branches (ls ∷ []), read.long);
            within = found.within;
            tables = column-set (literal_table []) literal_table branch_limit lines read.branches ls i table read.tables read.long (omega arith) (sym is);
            left = sym (times-next p read.branches (many - suc i) (drop at bytes) ls (drop next bytes) parsed) ∙ left-next;
          })

    module _ (done : many ≡ i) where
      pub all_read : times many p (drop start bytes) ≡ accepted read.branches (drop at bytes)
      all_read =
          let e : many - i ≡ 0 = omega arith in
          sym read.left ∙ ap (λ (k : ℕ). after read.branches (times k p (drop at bytes))) e ∙ times-done p read.branches 0 (drop at bytes)

      pub tables_read : as_branches read.branches ≡ record { many = many; lines = lines }
      unfolding as_branches
      tables_read =
          let n : many ≡ length read.branches = omega (arith, read.long) in
          let t : lines ≡ branch_tables read.branches = read.tables in
          cc

-- ---- from the count on

module _ (p : Parser (List Literal)) (bs : List ℕ) where
  -- asked of the bytes that are left: has the file ended?
  abbrev behind : List (List Literal) → Parser (List (List Literal))
  behind xs = ended >> return xs

  module _ (n : ℕ) (rest : List ℕ) (counted : branch_count bs ≡ accepted n rest) where
    then_behind : (r : Parsed (List (List Literal))) → times n p rest ≡ r → in_branches (branches_by p) bs ≡ and_then (λ xs. return (as_branches xs)) (and_then behind r)
    then_behind r e =
        ap (λ (r : Parsed ℕ). and_then (λ xs. return (as_branches xs)) (and_then (λ b. times b p >>= behind) r)) counted
        ∙ ap (λ (r : Parsed (List (List Literal))). and_then (λ xs. return (as_branches xs)) (and_then behind r)) e

    module _ (xs : List (List Literal)) (left : List ℕ) (read : times n p rest ≡ accepted xs left) where
      pub not_ended : 0 < length left → in_branches (branches_by p) bs ≡ refused 10
      not_ended h = then_behind (accepted xs left) read ∙ go left h
        where
          go : (l : List ℕ) → 0 < length l → and_then (λ xs. return (as_branches xs)) (behind xs l) ≡ refused 10
          go [] h = absurd (omega arith)
          go (b ∷ l) h = refl

      pub at_the_end : length left ≡ 0 → in_branches (branches_by p) bs ≡ accepted (as_branches xs) []
      at_the_end z = then_behind (accepted xs left) read ∙ go left z
        where
          go : (l : List ℕ) → length l ≡ 0 → and_then (λ xs. return (as_branches xs)) (behind xs l) ≡ accepted (as_branches xs) []
          go [] z = refl
          go (b ∷ l) z = absurd (omega arith)
