-- What is written of a guard: its whole record. Assumes nothing: definitions.
-- Quoted sentences are document 02's, of request #101.
use Rattle.std.specs.Prelude.{◌≡◌, cond, Option, Some, None, List, [], ℕ, leb, length}
use Rattle.guard.specs.Guard.{Guard}
use Rattle.reader.specs.declared.Tables.{Tables}
use Rattle.reader.specs.Reader.{guard_tables}
use Rattle.search.specs.Nodes.{Accepted}
use Rattle.refutations.specs.Record.{record_bytes}
use Rattle.bytebuffer.specs.Puts.{filled}

-- how many they are, or none where they outgrow so much room
abbrev pub written_of : List ℕ → ℕ → Option ℕ
written_of bytes room = cond (leb (length bytes) room) (Some (length bytes)) None

-- "writes an UNSAT walk into a lent byte buffer", "the rest is 0": of the answer r, and the buffer as it was and as it is left
pub record Records (tables : Tables) (r : Option ℕ) (out out' : List ℕ) : Type 0 where
  pub says : (g : Guard) → Accepted g → tables ≡ guard_tables g → r ≡ written_of (record_bytes g) (length out)
  pub left : (g : Guard) → Accepted g → tables ≡ guard_tables g → out' ≡ filled (record_bytes g) (length out)

-- "The written bytes are handed back as the filled front part of that buffer": the record, or nothing where it outgrows so much room
pub record IsRecord (tables : Tables) (room : ℕ) (part : List ℕ) : Type 0 where
  pub is : (g : Guard) → Accepted g → tables ≡ guard_tables g → part ≡ cond (leb (length (record_bytes g)) room) (record_bytes g) []
