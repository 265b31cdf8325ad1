-- Files of branches, and what the definitions make of them. Assumes nothing.
use Rattle.std.specs.Prelude.{◌≡◌, refl, List, [], ◌∷◌, ◌++◌, map, ℕ, replicate}
use Rattle.std.specs.Int.Count.{ones, ones_in}
use Rattle.laws.specs.Lists.{concat_map}
use Rattle.guard.specs.Cases.{X}
use Rattle.guard.specs.Closure.{closure_of, consequences, initial, saturate}
use Rattle.guard.specs.Node.{is_closed, kind_of, split_of}
use Rattle.guard.specs.Number.{Parsed, Parsed.accepted, Parsed.refused}
use Rattle.guard.specs.Search.{search, search_of, search_to}
use Rattle.guard.specs.Terms.{table_of}
use Rattle.branches.specs.Procedure.{Procedure, procedure}
use Rattle.verdictcodes.specs.Codes.{code_for}
use Rattle.branches.specs.Verdicts.{Pair, asks_of, codes, lists_of}

-- a file, a budget and the length of the buffer; the question that gets a no or 0, and the numbers in front of the zeros
pub record Case : Type 0 where
  pub bytes : List ℕ
  pub budget : ℕ
  pub long : ℕ
  pub question : ℕ
  pub numbers : List ℕ

-- a list and its tail
abbrev list_and_tail : List ℕ
list_and_tail = X ++ (2 ∷ 0 ∷ 1 ∷ 3 ∷ 0 ∷ 1 ∷ 1 ∷ [])

-- three branches: it is its own tail; it is its own tail and a cons; it isn't a cons
abbrev three : List ℕ
three = list_and_tail ++ (3 ∷ 1 ∷ 0 ∷ 0 ∷ 1 ∷ 2 ∷ 0 ∷ 0 ∷ 1 ∷ 2 ∷ 0 ∷ 1 ∷ 1 ∷ 3 ∷ 0 ∷ 1 ∷ [])

-- so many branches without a line
abbrev free : ℕ → List ℕ
free b = list_and_tail ++ (b ∷ replicate b 0)

-- that the list is nil, said so many times in each of two branches
abbrev often : ℕ → List ℕ
often l = let lines = l ∷ concat_map (λ a. 2 ∷ a ∷ 0 ∷ []) (replicate l 0) in list_and_tail ++ (2 ∷ lines ++ lines)

abbrev tells : List ℕ → ℕ → List ℕ → Case
tells bs budget ns = record { bytes = bs; budget = budget; long = 36; question = 0; numbers = ns }

abbrev refuses : ℕ → List ℕ → ℕ → Case
refuses q bs long = record { bytes = bs; budget = 9; long = long; question = q; numbers = [] }

abbrev pub cases : List Case
cases =
    -- branches, then the pairs 0 1, 0 2 and 1 2
    tells three 9 (1 ∷ 2 ∷ 1 ∷ 2 ∷ 1 ∷ 2 ∷ [])
    ∷ tells three 2 (3 ∷ 2 ∷ 1 ∷ 2 ∷ 1 ∷ 2 ∷ [])
    ∷ tells three 0 (replicate 6 3)
    -- one branch has no pair, eight have 28
    ∷ tells (free 1) 9 (1 ∷ [])
    ∷ tells (free 8) 9 (replicate 36 1)
    -- "under a line limit of 64; a branch keeps 32"
    ∷ tells (often 32) 9 (1 ∷ 1 ∷ 1 ∷ [])
    ∷ refuses 4 (often 33) 36
    -- "A shorter one is 1", before anything of the file
    ∷ refuses 1 (free 1) 35
    ∷ refuses 1 [] 0
    -- "19, asked at B after 3, when B is out of its limits"
    ∷ refuses 19 (free 0) 36
    ∷ refuses 19 (free 9) 36
    ∷ refuses 3 (list_and_tail ++ (0x88 ∷ 0x00 ∷ [])) 36
    ∷ refuses 2 list_and_tail 36
    -- "The questions of the file apply to each branch, 10 only after the last."
    ∷ refuses 2 [] 36
    ∷ refuses 8 (1 ∷ 1 ∷ 1 ∷ 0 ∷ []) 36
    ∷ refuses 7 (X ++ (2 ∷ 0 ∷ 0 ∷ 0 ∷ 1 ∷ 2 ∷ 0 ∷ 1 ∷ 0 ∷ 0 ∷ 1 ∷ [])) 36
    ∷ refuses 5 (list_and_tail ++ (2 ∷ 0 ∷ 1 ∷ 0 ∷ 0 ∷ 2 ∷ [])) 36
    ∷ refuses 2 (list_and_tail ++ (2 ∷ 0 ∷ [])) 36
    ∷ refuses 10 (free 2 ++ (0 ∷ [])) 36
    ∷ []

abbrev told : ℕ → Parsed Procedure → List ℕ
told budget (refused q) = []
told budget (accepted p rest) = codes budget p

abbrev question_in : Parsed Procedure → ℕ
question_in (refused q) = q
question_in (accepted p rest) = 0

pub right-questions : map (λ c. question_in (asks_of c.bytes c.long)) cases ≡ map (λ c. c.question) cases
unfolding asks_of procedure
right-questions = refl

pub right-numbers : map (λ c. told c.budget (asks_of c.bytes c.long)) cases ≡ map (λ c. c.numbers) cases
unfolding asks_of procedure codes code_for search_of search search_to table_of closure_of initial saturate consequences is_closed split_of kind_of ones ones_in
right-numbers = refl

abbrev pair : ℕ → ℕ → Pair
pair i j = record { lower = i; higher = j }

-- the lists of `three`, with a budget of 9 and of 2 nodes, and of eight branches of which nothing was decided
pub right-lists : map (λ cs. lists_of 3 cs) ((1 ∷ 2 ∷ 1 ∷ 2 ∷ 1 ∷ 2 ∷ []) ∷ (3 ∷ 2 ∷ 1 ∷ 2 ∷ 1 ∷ 2 ∷ []) ∷ replicate 6 3 ∷ [])
    ≡ record { dead = 1 ∷ []; together = pair 0 2 ∷ []; spent_branches = []; spent_pairs = [] }
    ∷ record { dead = 1 ∷ []; together = pair 0 2 ∷ []; spent_branches = 0 ∷ []; spent_pairs = [] }
    ∷ record { dead = []; together = []; spent_branches = 0 ∷ 1 ∷ 2 ∷ []; spent_pairs = pair 0 1 ∷ pair 0 2 ∷ pair 1 2 ∷ [] }
    ∷ []
unfolding lists_of
right-lists = refl
