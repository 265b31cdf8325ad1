-- Records of the closed cases of document 01, and what the checker says of these and of others. Assumes nothing.
use Rattle.std.specs.Prelude.{◌≡◌, refl, List, [], ◌∷◌, ◌++◌, map, ℕ}
use Rattle.std.specs.Int.Count.{ones, ones_in}
use Rattle.guard.specs.Cases.{X, file_e, file_g, file_h, file_j}
use Rattle.guard.specs.Closure.{closure_of, consequences, initial, saturate}
use Rattle.guard.specs.File.{file}
use Rattle.guard.specs.Guard.{Guard}
use Rattle.guard.specs.Limits.{base}
use Rattle.guard.specs.Node.{split_of}
use Rattle.guard.specs.Number.{Parsed, Parsed.accepted, Parsed.refused}
use Rattle.guard.specs.Terms.{table_of}
use Rattle.encoding.specs.Encoding.{encoded}
use Rattle.refutations.specs.Record.{closing, entries, entries_to, record_bytes, record_of}
use Rattle.refutations.specs.Checker.{check, check_from, check_to, checked}

-- a file, a record of it, and what the checker says
pub record Case : Type 0 where
  pub bytes : List ℕ
  pub written : List ℕ
  pub answer : Parsed (Unit {0})

abbrev yes : Parsed (Unit {0})
yes = accepted tt []

-- a list that is nil and is cons
abbrev pub file_both : List ℕ
file_both = X ++ (0x01 ∷ 0x00 ∷ 0x01 ∷ 0x02 ∷ 0x02 ∷ 0x00 ∷ 0x00 ∷ 0x02 ∷ 0x00 ∷ 0x01 ∷ [])

-- cases e, g, h and j with their records, and one for an empty label
abbrev pub recorded : List Case
recorded =
    record { bytes = file_e; written = 0x03 ∷ 0x00 ∷ []; answer = yes }
    ∷ record { bytes = file_g; written = 0x01 ∷ 0x00 ∷ []; answer = yes }
    ∷ record { bytes = file_h; written = 0x04 ∷ 0x00 ∷ 0x00 ∷ 0x04 ∷ 0x01 ∷ 0x00 ∷ 0x01 ∷ 0x00 ∷ 0x04 ∷ 0x02 ∷ 0x00 ∷ 0x01 ∷ 0x01 ∷ 0x01 ∷ 0x02 ∷ 0x04 ∷ 0x01 ∷ 0x00 ∷ 0x04 ∷ 0x02 ∷ 0x00 ∷ 0x01 ∷ 0x02 ∷ 0x01 ∷ 0x01 ∷ 0x01 ∷ 0x00 ∷ []; answer = yes }
    ∷ record { bytes = file_j; written = 0x02 ∷ 0x00 ∷ []; answer = yes }
    ∷ record { bytes = file_both; written = 0x00 ∷ 0x00 ∷ []; answer = yes }
    ∷ []

abbrev pub record_for : Parsed Guard → List ℕ
record_for (refused q) = []
record_for (accepted g rest) = record_bytes g

pub records_right : map (λ c. record_for (file base c.bytes)) recorded ≡ map (λ c. c.written) recorded
unfolding file table_of closure_of initial saturate consequences split_of ones ones_in encoded closing entries_to entries record_of
records_right = refl

-- other records of these files
abbrev pub others : List Case
others =
    -- another term of the same class
    record { bytes = file_e; written = 0x03 ∷ 0x01 ∷ []; answer = yes }
    -- splits in another order
    ∷ record { bytes = file_h; written = 0x04 ∷ 0x01 ∷ 0x01 ∷ 0x04 ∷ 0x00 ∷ 0x00 ∷ 0x04 ∷ 0x02 ∷ 0x00 ∷ 0x01 ∷ 0x01 ∷ 0x01 ∷ 0x02 ∷ 0x01 ∷ 0x00 ∷ 0x04 ∷ 0x00 ∷ 0x00 ∷ 0x01 ∷ 0x00 ∷ 0x04 ∷ 0x02 ∷ 0x00 ∷ 0x01 ∷ 0x02 ∷ 0x01 ∷ 0x01 ∷ []; answer = yes }
    -- the split of a closed node
    ∷ record { bytes = file_h; written = 0x04 ∷ 0x00 ∷ 0x00 ∷ 0x04 ∷ 0x01 ∷ 0x00 ∷ 0x04 ∷ 0x02 ∷ 0x00 ∷ 0x01 ∷ 0x00 ∷ 0x01 ∷ 0x00 ∷ 0x04 ∷ 0x02 ∷ 0x00 ∷ 0x01 ∷ 0x01 ∷ 0x01 ∷ 0x02 ∷ 0x04 ∷ 0x01 ∷ 0x00 ∷ 0x04 ∷ 0x02 ∷ 0x00 ∷ 0x01 ∷ 0x02 ∷ 0x01 ∷ 0x01 ∷ 0x01 ∷ 0x00 ∷ []; answer = yes }
    -- a refused file
    ∷ record { bytes = []; written = 0x03 ∷ 0x00 ∷ []; answer = refused 2 }
    -- cut short
    ∷ record { bytes = file_e; written = 0x03 ∷ []; answer = refused 12 }
    ∷ record { bytes = file_e; written = 0x03 ∷ 0x80 ∷ []; answer = refused 12 }
    ∷ record { bytes = file_h; written = 0x04 ∷ 0x00 ∷ 0x00 ∷ 0x04 ∷ []; answer = refused 12 }
    -- not in the fewest bytes
    ∷ record { bytes = file_e; written = 0x83 ∷ 0x00 ∷ []; answer = refused 12 }
    -- an unlisted kind
    ∷ record { bytes = file_e; written = 0x05 ∷ 0x00 ∷ []; answer = refused 12 }
    -- claims that do not hold
    ∷ record { bytes = file_e; written = 0x00 ∷ 0x00 ∷ []; answer = refused 12 }
    ∷ record { bytes = file_g; written = 0x01 ∷ 0x01 ∷ []; answer = refused 12 }
    ∷ record { bytes = file_e; written = 0x02 ∷ 0x00 ∷ []; answer = refused 12 }
    ∷ record { bytes = file_g; written = 0x03 ∷ 0x00 ∷ []; answer = refused 12 }
    ∷ record { bytes = file_h; written = 0x04 ∷ 0x00 ∷ 0x02 ∷ []; answer = refused 12 }
    -- a default of number type has no label
    ∷ record { bytes = file_both; written = 0x00 ∷ 0x48 ∷ []; answer = refused 12 }
    -- a term, a line that is not there
    ∷ record { bytes = file_e; written = 0x03 ∷ 0x02 ∷ []; answer = refused 12 }
    ∷ record { bytes = file_g; written = 0x01 ∷ 0x03 ∷ []; answer = refused 12 }
    -- ends between nodes
    ∷ record { bytes = file_e; written = []; answer = refused 13 }
    ∷ record { bytes = file_h; written = 0x04 ∷ 0x00 ∷ 0x00 ∷ []; answer = refused 13 }
    -- runs on
    ∷ record { bytes = file_e; written = 0x03 ∷ 0x00 ∷ 0x03 ∷ []; answer = refused 13 }
    ∷ []

pub answers-right : map (λ c. checked base c.bytes c.written) (recorded ++ others) ≡ map (λ c. c.answer) (recorded ++ others)
unfolding file table_of closure_of initial saturate consequences ones ones_in check_to check_from check checked
answers-right = refl
