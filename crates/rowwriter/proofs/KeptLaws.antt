-- Rows that are skipped and rows that aren't, one after the other. Assumes nothing.
use mathlib.Core.Path.{◌≡◌, refl, ap, sym, ◌∙◌}
use mathlib.Core.List.{List, [], ◌∷◌, ◌++◌, map}
use Prim.Native.Nat.{ℕ, zero, suc}
use lib.ListN.{length, get_or}
use Rattle.laws.specs.Lists.{concat_map}
use Rattle.guard.specs.Guard.{Row, row_at}
use Rattle.serialize.specs.Tokens.{row_tokens, token_bytes}
use Rattle.serialize.proofs.Copying.{concat_map-append}
use Rattle.merged.specs.Merge.{kept_rows, renamed_row}
use Rattle.rowterms.specs.Rows.{row_bytes, up_to}
use Rattle.rowterms.proofs.LoopLaws.{from_front}

-- nothing where the entry isn't 0
abbrev unless : ℕ → List ℕ → List ℕ
unless zero bytes = bytes
unless (suc s) bytes = []

-- the bytes that row i gets
abbrev pub bytes_at : List ℕ → List ℕ → List Row → ℕ → List ℕ
bytes_at names skipped rs i = unless (get_or skipped i 0) (row_bytes names (row_at rs i))

module _ (names skipped : List ℕ) (rs : List Row) (i : ℕ) where
  pub put_at : get_or skipped i 0 ≡ 0 → row_bytes names (row_at rs i) ≡ bytes_at names skipped rs i
  put_at e = ap (λ (s : ℕ). unless s (row_bytes names (row_at rs i))) (sym e)

  pub skipped_at : ¬ (get_or skipped i 0 ≡ 0) → bytes_at names skipped rs i ≡ []
  skipped_at h = go (get_or skipped i 0) h
    where
      go : (s : ℕ) → ¬ (s ≡ 0) → unless s (row_bytes names (row_at rs i)) ≡ []
      go zero h = absurd (h refl)
      go (suc s) h = refl

-- all of them
pub kept-bytes : (names skipped : List ℕ) (rs : List Row) → up_to (bytes_at names skipped rs) (length rs) ≡ concat_map token_bytes (concat_map row_tokens (map (renamed_row names) (kept_rows skipped rs)))
kept-bytes names [] [] = refl
kept-bytes names (s ∷ ss) [] = refl
kept-bytes names [] (r ∷ rs) =
    from_front (bytes_at names [] (r ∷ rs)) (length rs) ∙ ap (λ (l : List ℕ). row_bytes names r ++ l) (kept-bytes names [] rs)
    ∙ sym (concat_map-append token_bytes (row_tokens (renamed_row names r)) (concat_map row_tokens (map (renamed_row names) rs)))
kept-bytes names (zero ∷ ss) (r ∷ rs) =
    from_front (bytes_at names (zero ∷ ss) (r ∷ rs)) (length rs) ∙ ap (λ (l : List ℕ). row_bytes names r ++ l) (kept-bytes names ss rs)
    ∙ sym (concat_map-append token_bytes (row_tokens (renamed_row names r)) (concat_map row_tokens (map (renamed_row names) (kept_rows ss rs))))
kept-bytes names (suc s ∷ ss) (r ∷ rs) = from_front (bytes_at names (suc s ∷ ss) (r ∷ rs)) (length rs) ∙ kept-bytes names ss rs
