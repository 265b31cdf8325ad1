-- An accepted procedure has one to eight branches, and every guard that is asked about is well formed, with up to 64 lines for a pair.
-- Assumes nothing.
use mathlib.Core.Path.{◌≡◌, ap, ◌∙◌}
use mathlib.Core.Bool.{◌&&◌}
use mathlib.Core.List.{List, [], ◌∷◌, ◌++◌, map, Memᴰ}
use Prim.Native.Nat.{ℕ, ◌+◌, ◌*◌, ◌≤◌, ◌<◌}
use native.Mathlib.Omega.{arith}
use native.Mathlib.Nat.{mul-le-mul_right}
use lib.Dec.{leb}
use lib.ListN.{length, length-append}
use borrow.Author.Tests.{leb-true}
use Rattle.laws.specs.All.{All, All.more, All.none}
use Rattle.laws.proofs.Bools.{and_left, and_right}
use Rattle.laws.proofs.Lists.{all_append, all_mem}
use Rattle.guard.specs.File.{literal}
use Rattle.guard.specs.Grammar.{ended}
use Rattle.guard.specs.Guard.{Guard, Literal, Row}
use Rattle.guard.specs.Limits.{Limits, Supported, total_variant_limit}
use Rattle.guard.specs.Number.{Parsed.accepted, return, times, unsigned, width32}
use Rattle.guard.specs.Types.{Types}
use Rattle.guard.specs.WellFormed.{LiteralFits, WellFormed}
use Rattle.guard.proofs.Accepted.{head_guard, longest_head, reads-ended, reads-head, reads_lines, variants_in, with_literals, with_lines}
use Rattle.guard.proofs.Reading.{Reads, reads-asked, reads_bind, reads-return, reads_times, reads-unsigned, reads_weaken}
use Rattle.branches.specs.Procedure.{Procedure, branch, branch_count, branch_limit, branches_of, guard_with, procedure}
use Rattle.branches.specs.Verdicts.{asked, pairs}

-- lines that fit under types and rows, at most so many
abbrev pub LinesIn : ℕ → Types → List Row → List Literal → Type 0
LinesIn most ts rs ls = (length ls ≤ most) × All (LiteralFits ts rs) ls

pub record ProcedureFits (limits : Limits) (p : Procedure) : Type 0 where
  pub head : WellFormed limits (head_guard p.types p.rows)
  pub total : length (variants_in p.types) ≤ total_variant_limit
  pub some : 1 ≤ length p.branches
  pub few : length p.branches ≤ branch_limit
  pub lines : All (LinesIn limits.lines p.types p.rows) p.branches

-- ---- an accepted procedure

reads-count : Reads branch_count (λ b u. ((1 ≤ b) × (b ≤ branch_limit)) × (u ≤ 1))
reads-count =
    reads_bind unsigned _ (λ n u. (n ≤ width32.most) × (u ≤ 5) × (n < 128 → u ≤ 1)) (λ b u. ((1 ≤ b) × (b ≤ branch_limit)) × (u ≤ 1)) reads-unsigned
    (λ n u h. reads-asked 19 (leb 1 n && leb n branch_limit) (return n) (λ b w. ((1 ≤ b) × (b ≤ branch_limit)) × (u + w ≤ 1))
    (λ e. let few : n ≤ branch_limit = leb-true n branch_limit (and_right (leb 1 n) (leb n branch_limit) e) in
    reads-return n (λ b w. ((1 ≤ b) × (b ≤ branch_limit)) × (u + w ≤ 1)) ((leb-true 1 n (and_left (leb 1 n) (leb n branch_limit) e), few), omega (arith, h.2 (omega arith)))))

module _ (limits : Limits) (sup : Supported limits) where
  -- the bytes of a branch at most
  abbrev longest_branch : ℕ
  longest_branch = 1 + 3 * limits.lines

  module _ (ts : Types) (rs : List Row) (ok : WellFormed limits (head_guard ts rs)) (total : length (variants_in ts) ≤ total_variant_limit) where
    reads-branch : Reads (branch limits ts rs) (λ ls u. LinesIn limits.lines ts rs ls × (u ≤ longest_branch))
    reads-branch = reads_weaken (branch limits ts rs) _ (λ ls u. LinesIn limits.lines ts rs ls × (u ≤ longest_branch)) (reads_lines limits sup ts rs ok) (λ ls u h. ((h.0, h.1), h.2))

    abbrev Good : (ℕ → ℕ) → Procedure → ℕ → Type 0
    Good bytes p z = ProcedureFits limits p × (bytes z ≤ 1 + branch_limit * longest_branch)

    reads-branches : Reads (branches_of limits ts rs) (Good (λ z. z))
    reads-branches =
        reads_bind branch_count _ (λ b u. ((1 ≤ b) × (b ≤ branch_limit)) × (u ≤ 1)) (Good (λ z. z)) reads-count
        (λ b u hb. reads_bind (times b (branch limits ts rs)) _ (λ bs w. (length bs ≡ b) × All (LinesIn limits.lines ts rs) bs × (w ≤ b * longest_branch)) (Good (λ z. u + z))
        (reads_times b longest_branch (branch limits ts rs) (LinesIn limits.lines ts rs) reads-branch)
        (λ bs w hbs. reads_bind ended _ (λ x v. v ≡ 0) (Good (λ z. u + (w + z))) reads-ended
        (λ x v hx. reads-return (record { types = ts; rows = rs; branches = bs }) (Good (λ z. u + (w + (v + z)))) (
          record { head = ok; total = total; some = omega (arith, hbs.0, hb.0.0); few = omega (arith, hbs.0, hb.0.1); lines = hbs.1 },
          bytes-few b u w v hb hbs.2 hx,
        ))))
      where
        bytes-few : (b u w v : ℕ) → ((1 ≤ b) × (b ≤ branch_limit)) × (u ≤ 1) → w ≤ b * longest_branch → v ≡ 0 → u + (w + (v + 0)) ≤ 1 + branch_limit * longest_branch
        bytes-few b u w v hb hw hv = omega (arith, hb.1, hv, hw, mul-le-mul_right longest_branch hb.0.1)

  reads-procedure : Reads (procedure limits) (λ p u. ProcedureFits limits p × (u ≤ longest_head limits + (1 + branch_limit * longest_branch)))
  unfolding procedure
  reads-procedure = reads-head Procedure limits sup (branches_of limits) (ProcedureFits limits) (1 + branch_limit * longest_branch) reads-branches

  pub accepted-fits : (bs : List ℕ) (p : Procedure) (rest : List ℕ) → procedure limits bs ≡ accepted p rest → ProcedureFits limits p
  unfolding Reads
  accepted-fits bs p rest e = let (u, l, h) = reads-procedure bs p rest e in h.0

-- ---- the guards that are asked about

module _ {limits : Limits} {p : Procedure} (f : ProcedureFits limits p) where
  abbrev Lines : ℕ → List Literal → Type 0
  Lines most = LinesIn most p.types p.rows

  wider : {ls : List Literal} → Lines limits.lines ls → Lines (2 * limits.lines) ls
  wider h = (omega (arith, h.0), h.1)

  one_with : (ls : List Literal) → Lines limits.lines ls → (rest : List (List Literal)) → All (Lines limits.lines) rest → All (Lines (2 * limits.lines)) (map (λ ms. ls ++ ms) rest)
  one_with ls h [] none = none
  one_with ls h (ms ∷ rest) (more k ks) =
      let few : length (ls ++ ms) ≤ 2 * limits.lines = omega (arith, h.0, k.0, length-append ls ms) in
      more (few, all_append h.1 k.1) (one_with ls h rest ks)

  pairs-fit : (bs : List (List Literal)) → All (Lines limits.lines) bs → All (Lines (2 * limits.lines)) (pairs bs)
  pairs-fit [] none = none
  pairs-fit (ls ∷ rest) (more h hs) = all_append (one_with ls h rest hs) (pairs-fit rest hs)

  all_wider : (bs : List (List Literal)) → All (Lines limits.lines) bs → All (Lines (2 * limits.lines)) bs
  all_wider [] none = none
  all_wider (ls ∷ rest) (more h hs) = more (wider h) (all_wider rest hs)

  pub asked-fit : All (Lines (2 * limits.lines)) (asked p)
  asked-fit = all_append (all_wider p.branches f.lines) (pairs-fit p.branches f.lines)

  -- "under a line limit of 64"
  pub asked_well_formed : (ls : List Literal) → Memᴰ ls (asked p) → WellFormed (with_lines limits (2 * limits.lines)) (guard_with p ls)
  asked_well_formed ls m = let h = all_mem asked-fit ls m in with_literals limits (head_guard p.types p.rows) f.head (2 * limits.lines) ls h.0 h.1
