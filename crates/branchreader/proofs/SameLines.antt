-- Lines by columns are the lines of the guard file, where the columns are those of types and rows. Assumes nothing.
use mathlib.Core.Path.{◌≡◌, refl}
use mathlib.Core.List.{List}
use Prim.Native.Nat.{ℕ}
use lib.ListN.{length, get_or}
use Rattle.guard.specs.Types.{Types, variants_of}
use Rattle.guard.specs.Guard.{Literal, Row, type_at}
use Rattle.guard.specs.File.{count, literal}
use Rattle.guard.specs.Number.{Parsed, Parsed.accepted, Parsed.refused, Parser, and_then, times}
use Rattle.literalkinds.specs.OneLiteral.{literal_by}
use Rattle.literalreader.specs.LiteralReader.{lines_by}
use Rattle.literalreader.proofs.LiteralReaderLaws.{literal-is, times-same}

lines_same : (limit : ℕ) (p q : Parser Literal) → ((bs : List ℕ) → p bs ≡ q bs) → (bs : List ℕ) → lines_by limit p bs ≡ lines_by limit q bs
lines_same limit p q same bs = go (count limit bs)
  where
    go : (r : Parsed ℕ) → and_then (λ l. times l p) r ≡ and_then (λ l. times l q) r
    go (refused z) = refl
    go (accepted l rest) = times-same p q same l rest

module _ (ts : Types) (rs : List Row) (counts us : List ℕ)
    (is_count : (t : ℕ) → get_or counts t 0 ≡ length (variants_of ts t)) (is_type : (i : ℕ) → get_or us i 0 ≡ type_at ts rs i) where
  pub lines_are : (limit : ℕ) (bs : List ℕ) → lines_by limit (literal_by counts (length rs) us) bs ≡ lines_by limit (literal ts rs) bs
  lines_are limit bs = lines_same limit (literal_by counts (length rs) us) (literal ts rs) (literal-is ts rs counts us is_count is_type) bs
