-- The loader's answers to a few files, by computation: case c of document 01, buffers one number too short, and each count one beyond its
-- limit. Assumes nothing.
use Rattle.std.specs.Prelude.{◌≡◌, refl, List, [], ◌∷◌, map, ℕ}
use Rattle.std.specs.Int.Count.{ones, ones_in}
use Rattle.guard.specs.Answer.{Outcome, Outcome.refusal, Outcome.sat, Outcome.spent, outcome, questions}
use Rattle.guard.specs.Cases.{counts, file_a, file_c}
use Rattle.guard.specs.Closure.{closure_of, consequences, initial, saturate}
use Rattle.guard.specs.File.{file}
use Rattle.guard.specs.Limits.{base}
use Rattle.guard.specs.Node.{is_closed, kind_of, split_of}
use Rattle.guard.specs.Search.{search, search_of, search_to}
use Rattle.guard.specs.Terms.{table_of}
use Rattle.decidewithin.specs.CallerLimits.{limits_for, loader}

-- the limits of both callers
pub desk_limits : limits_for 6 24 32 ≡ base
desk_limits = refl

pub loader-limits : limits_for 3 8 8 ≡ loader
loader-limits = refl

pub record Load : Type 0 where
  pub bytes : List ℕ
  pub budget : ℕ
  pub row_length : ℕ
  pub place_length : ℕ

abbrev answer_to : Load → Outcome
answer_to l = outcome loader l.bytes l.budget l.row_length l.place_length

-- a number type, nine variables of it, no line
abbrev nine_terms : List ℕ
nine_terms = 1 ∷ 0 ∷ 9 ∷ 0 ∷ 0 ∷ 0 ∷ 0 ∷ 0 ∷ 0 ∷ 0 ∷ 0 ∷ 0 ∷ 0 ∷ 0 ∷ 0 ∷ 0 ∷ 0 ∷ 0 ∷ 0 ∷ 0 ∷ 0 ∷ 0 ∷ []

abbrev loads : List Load
loads =
    record { bytes = file_c; budget = 3; row_length = 4096; place_length = 8 }
    ∷ record { bytes = file_c; budget = 2; row_length = 4096; place_length = 8 }
    ∷ record { bytes = file_c; budget = 3; row_length = 4095; place_length = 8 }
    ∷ record { bytes = file_c; budget = 3; row_length = 4096; place_length = 7 }
    ∷ record { bytes = file_a; budget = 1; row_length = 4096; place_length = 8 }
    ∷ record { bytes = 4 ∷ []; budget = 1; row_length = 4096; place_length = 8 }
    ∷ record { bytes = nine_terms; budget = 1; row_length = 4096; place_length = 8 }
    ∷ record { bytes = 0 ∷ 0 ∷ 9 ∷ []; budget = 1; row_length = 4096; place_length = 8 }
    ∷ []

pub loads-right : map answer_to loads
    ≡ sat (counts 3 1 0) ∷ spent (counts 2 1 0) ∷ refusal 1 ∷ refusal 1 ∷ sat (counts 1 0 0) ∷ refusal 4 ∷ refusal 4 ∷ refusal 4 ∷ []
unfolding outcome questions file table_of closure_of initial saturate consequences is_closed kind_of split_of search_to search search_of ones ones_in
loads-right = refl
