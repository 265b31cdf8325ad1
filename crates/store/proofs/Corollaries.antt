-- Request #111, of what `store` answers and leaves: as many bytes as the file has, so 585 suffice. Assumes nothing.
use mathlib.Core.Path.{◌≡◌, refl, ap, ap₂, sym, ◌∙◌}
use mathlib.Core.List.{List, [], ◌∷◌, ◌++◌, append-nil}
use Prim.Native.Nat.{ℕ, suc, ◌+◌, ◌≤◌, ◌<◌}
use native.Mathlib.Omega.{arith}
use lib.ListN.{drop, length, length-append, take}
use Rattle.std.specs.Prelude.{Ok}
use Rattle.laws.specs.Lists.{concat_map, from}
use Rattle.guard.specs.File.{file}
use Rattle.guard.specs.Guard.{Guard, Row, row_at}
use Rattle.guard.specs.Limits.{base}
use Rattle.guard.specs.Number.{Parsed.accepted}
use Rattle.guard.specs.WellFormed.{WellFormed}
use Rattle.guard.proofs.Accepted.{accepted-total, accepted_well_formed}
use Rattle.guard.proofs.Claims.{at-most_585, base-supported}
use Rattle.encoding.specs.Encoding.{encoded}
use Rattle.serialize.specs.Tokens.{bytes_of, row_tokens, token_bytes}
use Rattle.serialize.proofs.Copying.{concat_map-append}
use Rattle.serialize.proofs.Theorems.{well_formed-file}
use Rattle.merged.specs.Merge.{type_part}
use Rattle.filewriter.specs.Writer.{answer_by}
use Rattle.filewriter.proofs.Answers.{room-told, wrote}
use Rattle.columnfile.specs.Columns.{bytes_for, columns_bytes, entry, line_part, row_numbers, stored_bytes}
use Rattle.columnfile.proofs.Inverse.{in_parts}
use Rattle.columnfile.proofs.RowNumbers.{Sizes, at-most-six, row-bytes}

-- ---- lengths

each_of_each : {A B : Type 0} (f : A → List ℕ) (g : B → List A) (xs : List B) → concat_map (λ x. concat_map f (g x)) xs ≡ concat_map f (concat_map g xs)
each_of_each f g [] = refl
each_of_each f g (x ∷ xs) = ap (λ (l : List ℕ). concat_map f (g x) ++ l) (each_of_each f g xs) ∙ sym (concat_map-append f (g x) (concat_map g xs))

both : {A : Type 0} (f g : A → List ℕ) (xs : List A) → length (concat_map (λ x. f x ++ g x) xs) ≡ length (concat_map f xs) + length (concat_map g xs)
both f g [] = refl
both f g (x ∷ xs) =
    length-append (f x ++ g x) (concat_map (λ y. f y ++ g y) xs)
    ∙ omega (arith, length-append (f x) (g x), length-append (f x) (concat_map f xs), length-append (g x) (concat_map g xs), both f g xs)

nothing : {A : Type 0} (xs : List A) → length {A = ℕ} (concat_map (λ (x : A). []) xs) ≡ 0
nothing [] = refl
nothing (x ∷ xs) = nothing xs

-- by columns or by rows
turned : {A B : Type 0} (f : A → B → List ℕ) (js : List A) (rs : List B) → length (concat_map (λ j. concat_map (f j) rs) js) ≡ length (concat_map (λ r. concat_map (λ j. f j r) js) rs)
turned f js [] = nothing js
turned f js (r ∷ rs) =
    both (λ j. f j r) (λ j. concat_map (f j) rs) js ∙ ap (λ (k : ℕ). length (concat_map (λ j. f j r) js) + k) (turned f js rs)
    ∙ sym (length-append (concat_map (λ j. f j r) js) (concat_map (λ x. concat_map (λ j. f j x) js) rs))

-- a row's numbers, one by one
one_by_one : (xs : List ℕ) → length xs ≤ 6 → concat_map (λ j. bytes_for (take 1 (drop j xs))) (from 6 0) ≡ bytes_for xs
one_by_one [] h = refl
one_by_one (a ∷ []) h = simp append-nil
one_by_one (a ∷ b ∷ []) h = simp append-nil
one_by_one (a ∷ b ∷ c ∷ []) h = simp append-nil
one_by_one (a ∷ b ∷ c ∷ d ∷ []) h = simp append-nil
one_by_one (a ∷ b ∷ c ∷ d ∷ e ∷ []) h = simp append-nil
one_by_one (a ∷ b ∷ c ∷ d ∷ e ∷ f ∷ []) h = simp append-nil
one_by_one (a ∷ b ∷ c ∷ d ∷ e ∷ f ∷ g ∷ xs) h = absurd (omega arith)

each_row : (f g : Row → List ℕ) (rs : List Row) → ((i : ℕ) → i < length rs → f (row_at rs i) ≡ g (row_at rs i)) → concat_map f rs ≡ concat_map g rs
each_row f g [] h = refl
each_row f g (r ∷ rs) h = ap₂ (λ (x y : List ℕ). x ++ y) (h 0 (omega arith)) (each_row f g rs (λ i l. h (suc i) (omega (arith, l))))

module _ (g : Guard) (w : WellFormed base g) where
  sizes : Sizes g.types
  sizes = record { types = omega (arith, w.type_count); variants = w.variant_counts; fields = w.field_counts }

  few : (i : ℕ) → i < length g.rows → i ≤ 24
  few i h = omega (arith, w.term_count)

  by_rows : concat_map (λ r. concat_map (λ j. bytes_for (entry j r)) (from 6 0)) g.rows ≡ concat_map token_bytes (concat_map row_tokens g.rows)
  by_rows =
      each_row (λ r. concat_map (λ j. bytes_for (entry j r)) (from 6 0)) (λ r. concat_map token_bytes (row_tokens r)) g.rows
      (λ i h. one_by_one (row_numbers (row_at g.rows i)) (at-most-six g.types g.rows sizes i (few i h) (row_at g.rows i) (w.rows i h)) ∙ row-bytes g.types g.rows sizes i (few i h) (row_at g.rows i) (w.rows i h))
      ∙ each_of_each token_bytes row_tokens g.rows

  -- storing moves bytes, and drops none
  pub same_length : length (stored_bytes g) ≡ length (bytes_of g)
  unfolding stored_bytes
  same_length =
      let columns : length (columns_bytes g.rows) ≡ length (concat_map token_bytes (concat_map row_tokens g.rows)) = turned (λ j r. bytes_for (entry j r)) (from 6 0) g.rows ∙ ap length by_rows in
      let stored : length (stored_bytes g) ≡ length (type_part g.types) + (length (encoded (length g.rows)) + (length (columns_bytes g.rows) + length (line_part g))) =
      lengths (type_part g.types) (encoded (length g.rows)) (columns_bytes g.rows) (line_part g) in
      let whole : length (bytes_of g) ≡ length (type_part g.types) + (length (encoded (length g.rows)) + (length (concat_map token_bytes (concat_map row_tokens g.rows)) + length (line_part g))) =
      ap length (in_parts g) ∙ lengths (type_part g.types) (encoded (length g.rows)) (concat_map token_bytes (concat_map row_tokens g.rows)) (line_part g) in
      omega (arith, columns, stored, whole)
    where
      lengths : (a b c d : List ℕ) → length (a ++ (b ++ (c ++ d))) ≡ length a + (length b + (length c + length d))
      lengths a b c d = omega (arith, length-append a (b ++ (c ++ d)), length-append b (c ++ d), length-append c d)

module _ (bytes : List ℕ) where
  stored-short : (g : Guard) (rest : List ℕ) → file base bytes ≡ accepted g rest → length (stored_bytes g) ≤ 585
  stored-short g rest e =
      let w = accepted_well_formed base base-supported bytes g rest e in
      omega (arith, same_length g w, at-most_585 (bytes_of g) g [] (well_formed-file base base-supported g w (accepted-total base base-supported bytes g rest e)))

  pub few-stored : (n k : ℕ) → answer_by stored_bytes (file base bytes) n ≡ Ok k → k ≤ 585
  few-stored n k told = let w = wrote stored_bytes (file base bytes) n k told in omega (arith, w.many, stored-short w.value w.rest w.is)

  pub never_short : (n : ℕ) (g : Guard) (rest : List ℕ) → file base bytes ≡ accepted g rest → 585 ≤ n → answer_by stored_bytes (file base bytes) n ≡ Ok (length (stored_bytes g))
  never_short n g rest e h = room-told stored_bytes e n (omega (arith, stored-short g rest e))
