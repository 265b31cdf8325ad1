-- What `branchdesk` prints, byte by byte. Assumes nothing: definitions. Quoted sentences are document 02's, of request #113.
use Rattle.std.specs.Prelude.{List, ◌++◌, map, ℕ, suc, drop, Result, Ok, Err}
use Rattle.laws.specs.Lists.{concat_map, from}
use Rattle.writing.specs.Words.{ascii, decimal}
use Rattle.branches.specs.Verdicts.{Lists, Pair, having_code, lists_of, pairs_from}

-- "`dead 2`"
unfoldable pub line : List ℕ → ℕ → List ℕ
line name n = (name ++ decimal n) ++ ascii "\n"

-- "`pair 0 1`"
unfoldable pub pair_line : List ℕ → Pair → List ℕ
pair_line word p = line ((word ++ decimal p.lower) ++ ascii " ") p.higher

-- "prints these lists in turn, as `dead 2`, `pair 0 1`, `spent 2` and `spent 0 1`, branches before pairs"
unfoldable pub lists_text : Lists → List ℕ
lists_text l =
    ((concat_map (line (ascii "dead ")) l.dead ++ concat_map (pair_line (ascii "pair ")) l.together) ++ concat_map (line (ascii "spent ")) l.spent_branches)
    ++ concat_map (pair_line (ascii "spent ")) l.spent_pairs

-- "or REFUSED and its number"
abbrev pub branch_text : Result ℕ ℕ → List ℕ → List ℕ
branch_text (Ok many) codes = lists_text (lists_of many codes)
branch_text (Err q) codes = line (ascii "REFUSED ") q

-- ---- the lines of a list, from codes that stand from a place on

-- of n branches from a first one on
unfoldable pub lines : List ℕ → ℕ → ℕ → ℕ → ℕ → List ℕ → List ℕ
lines name code n first place cs = concat_map (line name) (having_code code (from n first) (drop place cs))

-- what the lines of the pairs of branch i begin with
abbrev pub name_of : List ℕ → ℕ → List ℕ
name_of word i = (word ++ decimal i) ++ ascii " "

-- of the pairs of branch i with the n behind it
unfoldable pub pairs_of : List ℕ → ℕ → ℕ → ℕ → ℕ → List ℕ → List ℕ
pairs_of word code n i place cs = concat_map (pair_line word) (having_code code (map (λ j. record { lower = i; higher = j }) (from n (suc i))) (drop place cs))

-- of the pairs of n branches from branch i on
unfoldable pub lines_of_pairs : List ℕ → ℕ → ℕ → ℕ → ℕ → List ℕ → List ℕ
lines_of_pairs word code n i place cs = concat_map (pair_line word) (having_code code (pairs_from n i) (drop place cs))
