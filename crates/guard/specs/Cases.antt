-- "Cases a to j stand in a list of ten, and a single proved claim covers the list". Assumes nothing.
use Rattle.std.specs.Prelude.{◌≡◌, refl, List, [], ◌∷◌, ◌++◌, map, ℕ}
use Rattle.std.specs.Int.Count.{ones, ones_in}
use Rattle.guard.specs.Limits.{base, row_buffer, place_buffer}
use Rattle.guard.specs.File.{file}
use Rattle.guard.specs.Terms.{table_of}
use Rattle.guard.specs.Closure.{closure_of, initial, saturate, consequences}
use Rattle.guard.specs.Node.{is_closed, kind_of, split_of}
use Rattle.guard.specs.Search.{Counts, search_to, search, search_of}
use Rattle.guard.specs.Answer.{Outcome, Outcome.sat, Outcome.unsat, Outcome.spent, outcome, questions}

pub record Case : Type 0 where
  pub bytes : List ℕ
  pub budget : ℕ
  pub expected : Outcome

-- "X stands for 02 00 02 00 02 00 01: type 0 a number type, type 1 nil or cons(type 0, type 1)."
abbrev pub X : List ℕ
X = 0x02 ∷ 0x00 ∷ 0x02 ∷ 0x00 ∷ 0x02 ∷ 0x00 ∷ 0x01 ∷ []

abbrev pub file_a : List ℕ
file_a = 0x00 ∷ 0x00 ∷ 0x00 ∷ []

abbrev pub file_c : List ℕ
file_c = X ++ (0x02 ∷ 0x00 ∷ 0x01 ∷ 0x03 ∷ 0x00 ∷ 0x01 ∷ 0x01 ∷ 0x01 ∷ 0x00 ∷ 0x00 ∷ 0x01 ∷ [])

abbrev pub file_e : List ℕ
file_e = X ++ (0x02 ∷ 0x00 ∷ 0x01 ∷ 0x03 ∷ 0x00 ∷ 0x01 ∷ 0x01 ∷ 0x02 ∷ 0x00 ∷ 0x00 ∷ 0x01 ∷ 0x02 ∷ 0x00 ∷ 0x01 ∷ [])

abbrev pub file_f : List ℕ
file_f = X ++ (0x02 ∷ 0x00 ∷ 0x01 ∷ 0x00 ∷ 0x01 ∷ 0x01 ∷ 0x01 ∷ 0x00 ∷ 0x01 ∷ [])

abbrev pub file_g : List ℕ
file_g = X ++ (0x02 ∷ 0x00 ∷ 0x01 ∷ 0x00 ∷ 0x01 ∷ 0x03 ∷ 0x01 ∷ 0x00 ∷ 0x01 ∷ 0x03 ∷ 0x00 ∷ 0x01 ∷ 0x03 ∷ 0x01 ∷ 0x01 ∷ [])

abbrev pub file_h : List ℕ
file_h =
    0x01 ∷ 0x02 ∷ 0x00 ∷ 0x00 ∷ 0x03 ∷ 0x00 ∷ 0x00 ∷ 0x00 ∷ 0x00 ∷ 0x00 ∷ 0x00 ∷ 0x03 ∷ 0x01 ∷ 0x00 ∷ 0x01 ∷ 0x01 ∷ 0x00 ∷ 0x02 ∷ 0x01 ∷ 0x01 ∷ 0x02 ∷ []

abbrev pub file_j : List ℕ
file_j = 0x01 ∷ 0x00 ∷ 0x02 ∷ 0x01 ∷ 0x00 ∷ 0x05 ∷ 0x01 ∷ 0x00 ∷ 0x08 ∷ 0x01 ∷ 0x00 ∷ 0x00 ∷ 0x01 ∷ []

-- nodes, and splits of the first and of the second kind, as document 02 adds them (#105)
abbrev pub counts : ℕ → ℕ → ℕ → Counts
counts nodes one two = record { nodes = nodes; first = one; second = two }

-- cases a to j, in order
abbrev pub cases : List Case
cases =
    record { bytes = file_a; budget = 1; expected = sat (counts 1 0 0) }
    ∷ record { bytes = file_a; budget = 0; expected = spent (counts 0 0 0) }
    ∷ record { bytes = file_c; budget = 3; expected = sat (counts 3 1 0) }
    ∷ record { bytes = file_c; budget = 2; expected = spent (counts 2 1 0) }
    ∷ record { bytes = file_e; budget = 1; expected = unsat (counts 1 0 0) }
    ∷ record { bytes = file_f; budget = 1; expected = sat (counts 1 0 0) }
    ∷ record { bytes = file_g; budget = 1; expected = unsat (counts 1 0 0) }
    ∷ record { bytes = file_h; budget = 11; expected = unsat (counts 11 0 5) }
    ∷ record { bytes = file_h; budget = 10; expected = spent (counts 10 0 5) }
    ∷ record { bytes = file_j; budget = 1; expected = unsat (counts 1 0 0) }
    ∷ []

-- with buffers just long enough, each case gets the answer that the document gives
pub right : map (λ c. outcome base c.bytes c.budget (row_buffer base) (place_buffer base)) cases ≡ map (λ c. c.expected) cases
unfolding outcome questions file search_of search search_to table_of closure_of initial saturate consequences is_closed split_of kind_of ones ones_in
right = refl
