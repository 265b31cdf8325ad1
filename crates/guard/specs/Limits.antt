-- The limits of a caller, and the sizes that no caller changes. Assumes nothing.
-- Quoted sentences are document 01's, here and in every module of this folder.
use Rattle.std.specs.Prelude.{ℕ, ◌*◌, ◌≤◌}

-- "T (0 to 6)"; "N (0 to 24)"; "L (0 to 32)"; "Within these limits 4,096 rows always suffice"
pub record Limits : Type 0 where
  pub types : ℕ
  pub terms : ℕ
  pub lines : ℕ
  pub rows : ℕ

abbrev pub base : Limits
base = record { types = 6; terms = 24; lines = 32; rows = 4096 }

-- limits within which everything here is proved: those that later requests need too
pub record Supported (limits : Limits) : Type 0 where
  pub types : limits.types ≤ 6
  pub terms : limits.terms ≤ 24
  pub lines : limits.lines ≤ 64

-- "Row i lies in numbers 4 × i to 4 × i + 3 of the row buffer."
abbrev pub row_width : ℕ
row_width = 4

-- "the row buffer (at least 16,384 numbers) and the place buffer (at least 24)"
abbrev pub row_buffer : Limits → ℕ
row_buffer limits = row_width * limits.rows

abbrev pub place_buffer : Limits → ℕ
place_buffer limits = limits.terms

-- "for each type V (0 to 16)"
abbrev pub variant_limit : ℕ
variant_limit = 16

-- "each as F (0 to 3) and F type numbers"
abbrev pub field_limit : ℕ
field_limit = 3

-- "All types together have at most 48 variants."
abbrev pub total_variant_limit : ℕ
total_variant_limit = 48
