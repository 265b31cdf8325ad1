-- Guards and their summaries, made anew and with a line more, and what the definitions make of them. Assumes nothing.
use Rattle.std.specs.Prelude.{◌≡◌, refl, List, [], ◌∷◌, ◌++◌, map, ℕ, replicate}
use Rattle.std.specs.Int.Count.{ones, ones_in}
use Rattle.laws.specs.Lists.{concat_map}
use Rattle.guard.specs.Cases.{X}
use Rattle.guard.specs.Closure.{closure_of, consequences, initial, saturate}
use Rattle.guard.specs.File.{file}
use Rattle.guard.specs.Node.{is_closed, kind_of, split_of}
use Rattle.guard.specs.Search.{search, search_of, search_to}
use Rattle.guard.specs.Terms.{table_of}
use Rattle.tables.specs.Layout.{pad}
use Rattle.verdictcodes.specs.Codes.{code_for}
use Rattle.summaries.specs.AddedLine.{asks_file, asks_line, brought, made_anew, question_in}
use Rattle.summaries.specs.Summary.{kept_or_walked, summary_by, summary_of, updated, variant_count, walked}

-- a list, its tail and the number in it: two rows of variant type, one of number type
abbrev rows : List ℕ
rows = X ++ (3 ∷ 0 ∷ 1 ∷ 3 ∷ 0 ∷ 1 ∷ 1 ∷ 3 ∷ 0 ∷ 1 ∷ 0 ∷ [])

abbrev free : List ℕ
free = rows ++ (0 ∷ [])

-- that the tail is nil, so many times
abbrev often : ℕ → List ℕ
often l = rows ++ (l ∷ concat_map (λ a. 2 ∷ a ∷ 0 ∷ []) (replicate l 1))

-- the lines "the list is its tail" and "the list isn't nil"
abbrev its_tail : List ℕ
its_tail = 0 ∷ 0 ∷ 1 ∷ []

abbrev not_nil : List ℕ
not_nil = 3 ∷ 0 ∷ 0 ∷ []

-- ---- made anew

-- a file, a budget, the length of the buffer; the question or 0, and the numbers in front of those that are 0
pub record Anew : Type 0 where
  pub bytes : List ℕ
  pub budget : ℕ
  pub long : ℕ
  pub question : ℕ
  pub numbers : List ℕ

abbrev tells : List ℕ → ℕ → List ℕ → Anew
tells bs budget ns = record { bytes = bs; budget = budget; long = 50; question = 0; numbers = ns }

abbrev refuses : ℕ → List ℕ → ℕ → Anew
refuses q bs long = record { bytes = bs; budget = 9; long = long; question = q; numbers = [] }

abbrev pub anew : List Anew
anew =
    -- nothing is ruled out: variants 0 and 1 of rows 0 and 1; row 2 is of number type, and there is no row 3
    tells free 9 (3 ∷ 3 ∷ 3 ∷ 3 ∷ [])
    -- it is its own tail, so both are nil
    ∷ tells (rows ++ (1 ∷ its_tail)) 9 (3 ∷ 1 ∷ 3 ∷ 1 ∷ [])
    -- the tail is nil, and each walk has one node: whether it is nil isn't settled, since that walk splits
    ∷ tells (often 1) 1 (3 ∷ 3 ∷ 2 ∷ 0 ∷ [])
    -- "unsettled exactly if its walk was SPENT"
    ∷ tells free 0 []
    -- no messages make it hold, so nothing can occur
    ∷ tells (rows ++ (2 ∷ its_tail ++ not_nil)) 9 (3 ∷ 0 ∷ 3 ∷ 0 ∷ [])
    -- "The extra line doesn't count against 32."
    ∷ tells (often 32) 9 (3 ∷ 3 ∷ 3 ∷ 1 ∷ [])
    ∷ refuses 4 (often 33) 48
    ∷ refuses 1 free 47
    ∷ refuses 1 [] 0
    ∷ refuses 2 [] 48
    ∷ refuses 10 (free ++ (0 ∷ [])) 48
    ∷ []

-- ---- with a line more

pub record Added : Type 0 where
  pub bytes : List ℕ
  pub line : List ℕ
  pub budget : ℕ
  pub old : List ℕ
  pub question : ℕ
  pub numbers : List ℕ

abbrev gives : List ℕ → List ℕ → ℕ → List ℕ → List ℕ → Added
gives bs l budget old ns = record { bytes = bs; line = l; budget = budget; old = pad 48 old; question = 0; numbers = ns }

-- a refusal leaves it as it was
abbrev stays : ℕ → List ℕ → List ℕ → Added
stays q bs l = record { bytes = bs; line = l; budget = 9; old = pad 48 (3 ∷ 1 ∷ []); question = q; numbers = 3 ∷ 1 ∷ [] }

abbrev pub added : List Added
added =
    gives free its_tail 9 (3 ∷ 3 ∷ 3 ∷ 3 ∷ []) (3 ∷ 1 ∷ 3 ∷ 1 ∷ [])
    ∷ gives (rows ++ (1 ∷ its_tail)) not_nil 9 (3 ∷ 1 ∷ 3 ∷ 1 ∷ []) (3 ∷ 0 ∷ 3 ∷ 0 ∷ [])
    -- "settled impossible variants are kept so without a walk": with no budget at all they are all that is settled
    ∷ gives (rows ++ (1 ∷ its_tail)) not_nil 0 (3 ∷ 1 ∷ 2 ∷ 2 ∷ []) (2 ∷ 0 ∷ [])
    -- .. whether that is true or not
    ∷ gives free its_tail 9 (1 ∷ 0 ∷ []) (3 ∷ 0 ∷ 3 ∷ 1 ∷ [])
    -- "a missing row or one of number type has 0", whatever was there
    ∷ gives free its_tail 9 (12 ∷ 8 ∷ 0 ∷ 3 ∷ 65535 ∷ 1 ∷ 65535 ∷ 0 ∷ []) (3 ∷ 1 ∷ 3 ∷ 1 ∷ [])
    -- "a thirty-third line gets 4", before anything of the line
    ∷ gives (often 31) (2 ∷ 1 ∷ 0 ∷ []) 9 [] (3 ∷ 3 ∷ 3 ∷ 1 ∷ [])
    ∷ stays 4 (often 32) its_tail
    ∷ stays 4 (often 32) []
    -- "then the base's are asked of the added line's bytes, 10 included"
    ∷ stays 2 free []
    ∷ stays 3 free (0x80 ∷ 0 ∷ [])
    ∷ stays 5 free (0 ∷ 0 ∷ 3 ∷ [])
    ∷ stays 6 free (4 ∷ [])
    ∷ stays 7 free (0 ∷ 0 ∷ 2 ∷ [])
    ∷ stays 7 free (2 ∷ 2 ∷ 0 ∷ [])
    ∷ stays 10 free (its_tail ++ its_tail)
    -- "After the file's questions"
    ∷ stays 10 (free ++ (0 ∷ [])) (4 ∷ [])
    ∷ []

-- ---- the definitions give these

pub anew-asked : map (λ c. question_in (asks_file c.bytes c.long)) anew ≡ map (λ c. c.question) anew
unfolding asks_file file
anew-asked = refl

pub anew-left : map (λ c. made_anew c.budget (replicate c.long 0) (asks_file c.bytes c.long)) anew ≡ map (λ c. pad c.long c.numbers) anew
unfolding asks_file file summary_of summary_by walked variant_count code_for search_of search search_to table_of closure_of initial saturate consequences is_closed split_of kind_of ones ones_in
anew-left = refl

pub added-asked : map (λ c. question_in (asks_line c.bytes c.line 48)) added ≡ map (λ c. c.question) added
unfolding asks_line asks_file file
added-asked = refl

pub added-left : map (λ c. brought c.budget c.old (asks_line c.bytes c.line 48)) added ≡ map (λ c. pad 48 c.numbers) added
unfolding asks_line asks_file file updated summary_by kept_or_walked walked variant_count code_for search_of search search_to table_of closure_of initial saturate consequences is_closed split_of kind_of ones ones_in
added-left = refl
