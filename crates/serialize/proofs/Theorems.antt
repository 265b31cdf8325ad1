-- Request #102: a list that is taken is read back from its bytes, and a file that is taken, with at most one number type, has the bytes
-- of its list. And every well-formed guard has a file, for whatever writes guards. Assumes nothing.
use mathlib.Core.Path.{◌≡◌, refl, ap, sym, subst, ◌∙◌}
use mathlib.Core.List.{List, [], ◌∷◌, ◌++◌, append-nil, map}
use Prim.Native.Nat.{ℕ, ◌≤◌, ◌<◌}
use native.Mathlib.Omega.{arith}
use lib.Dec.{leb}
use lib.IntN.{ℤ, pos, negsuc}
use lib.ListN.{length}
use borrow.Author.Tests.{le-leb, leb-true}
use Rattle.laws.specs.All.{All, All.more, All.none}
use Rattle.laws.specs.Lists.{concat_map}
use Rattle.laws.proofs.Lists.{all_right}
use Rattle.guard.specs.File.{bytes, file}
use Rattle.guard.specs.Grammar.{file_of}
use Rattle.guard.specs.Guard.{Guard}
use Rattle.guard.specs.Limits.{Limits, Supported, total_variant_limit}
use Rattle.guard.specs.Number.{Parsed.accepted, Parsed.refused, fold_signed, return, unfold_signed, unsigned_of, value_width, width32}
use Rattle.guard.specs.Types.{Variant}
use Rattle.guard.specs.WellFormed.{WellFormed}
use Rattle.guard.proofs.Accepted.{source-ended}
use Rattle.guard.proofs.Reading.{Ends, Reads, fold_unfold, reads-unsigned_of, unfold_fold}
use Rattle.encoding.specs.Encoding.{encoded, encoded_value}
use Rattle.encoding.proofs.Parsers.{ask_inv, not_accepted}
use Rattle.encoding.proofs.ReadBack.{read_back, value-read-back}
use Rattle.encoding.proofs.WrittenBack.{value-written-back, written_back}
use Rattle.serialize.specs.NumberList.{fits, list_file, number_list, number_types, unsigned_by}
use Rattle.serialize.specs.Tokens.{Fits, Token, bytes_of, guard_tokens, listed, numbers_of, token_bytes}
use Rattle.serialize.proofs.Copying.{Copies, Form}
use Rattle.serialize.proofs.CopiedFile.{copies_file}
use Rattle.serialize.proofs.OneNumber.{numbers-refused, numbers-taken, taken-numbers}
use Rattle.serialize.proofs.Taking.{TakesBefore}
use Rattle.serialize.proofs.TakenFile.{takes_file}

-- ---- bytes

pub at_most : (bs : List ℕ) (n : ℕ) (rest : List ℕ) → unsigned_of value_width bs ≡ accepted n rest → n ≤ value_width.most
unfolding Reads
at_most bs n rest e = let (u, l, h) = reads-unsigned_of value_width bs n rest e in h.0

unfoldable pub as_bytes : Form
as_bytes =
    record {
      src = bytes;
      write = token_bytes;
      Good = λ b. b < 256;
      number_is = λ bs n rest good e small. let same : bs ≡ encoded n ++ rest = written_back bs n rest good e in (same, all_right (encoded n) rest (subst (All (λ b. b < 256)) same good));
      folded-is = λ bs n rest good e.
          let same : bs ≡ encoded_value n ++ rest = value-written-back bs n rest good e in
          (at_most bs n rest e, same ∙ ap (λ (i : ℕ). encoded_value i ++ rest) (sym (fold_unfold n)), all_right (encoded_value n) rest (subst (All (λ b. b < 256)) same good));
      number-back = λ n l small. read_back n l small;
      folded_back = λ n l small. ap (λ (i : ℕ). unsigned_of value_width (encoded_value i ++ l)) (fold_unfold n) ∙ value-read-back n l small;
    }

-- ---- lists

abbrev one_number : Token → List ℕ
one_number k = fold_signed (listed k) ∷ []

abbrev Anything : ℕ → Type 0
Anything w = Unit {0}

unsigned_pos : (z : ℤ) (n : ℕ) → unsigned_by z ≡ n → n ≤ width32.most → z ≡ pos n
unsigned_pos (pos m) n e small = ap pos e
unsigned_pos (negsuc m) n e small = absurd (omega (arith, e))

list_number : (bs : List ℕ) (n : ℕ) (rest : List ℕ) → All Anything bs → number_list.number bs ≡ accepted n rest → n ≤ width32.most → (bs ≡ fold_signed (pos n) ∷ rest) × All Anything rest
list_number [] n rest good e small = absurd (not_accepted 2 n rest e)
list_number (w ∷ ws) n rest (more g good) e small =
    let same : unsigned_by (unfold_signed w) ≡ n = cc in
    let left : ws ≡ rest = cc in
    let is : unfold_signed w ≡ pos n = unsigned_pos (unfold_signed w) n same small in
    let folded : w ≡ fold_signed (pos n) = sym (fold_unfold w) ∙ ap fold_signed is in
    (ap (λ (x : ℕ). x ∷ ws) folded ∙ ap (λ (l : List ℕ). fold_signed (pos n) ∷ l) left, subst (All Anything) left good)

list_folded : (bs : List ℕ) (n : ℕ) (rest : List ℕ) → All Anything bs → number_list.folded bs ≡ accepted n rest
    → (n ≤ value_width.most) × (bs ≡ fold_signed (unfold_signed n) ∷ rest) × All Anything rest
list_folded [] n rest good e = absurd (not_accepted 2 n rest e)
list_folded (w ∷ ws) n rest (more g good) e =
    let (small, r) = ask_inv 3 (leb w value_width.most) (return w) ws n rest e in
    let same : w ≡ n = cc in
    let left : ws ≡ rest = cc in (
      subst (λ (x : ℕ). x ≤ value_width.most) same (leb-true w value_width.most small),
      ap (λ (x : ℕ). x ∷ ws) (same ∙ sym (fold_unfold n)) ∙ ap (λ (l : List ℕ). fold_signed (unfold_signed n) ∷ l) left,
      subst (All Anything) left good,
    )

as_list : Form
as_list =
    record {
      src = number_list;
      write = one_number;
      Good = Anything;
      number_is = list_number;
      folded-is = list_folded;
      number-back = λ n l small. ap (λ (z : ℤ). accepted (unsigned_by z) l) (unfold_fold (pos n));
      folded_back = λ n l small. ap (λ (i : ℕ). fits i l) (fold_unfold n) ∙ rw (le-leb n value_width.most small) refl;
    }

-- ---- both ways

one_each : (ks : List Token) → concat_map one_number ks ≡ map fold_signed (map listed ks)
one_each [] = refl
one_each (k ∷ ks) = ap (λ (l : List ℕ). fold_signed (listed k) ∷ l) (one_each ks)

all_anything : (ws : List ℕ) → All Anything ws
all_anything [] = none
all_anything (w ∷ ws) = more tt (all_anything ws)

unfold_all : (zs : List ℤ) → map unfold_signed (map fold_signed zs) ≡ zs
unfold_all [] = refl
unfold_all (z ∷ zs) = ap (λ (x : ℤ). x ∷ map unfold_signed (map fold_signed zs)) (unfold_fold z) ∙ ap (λ (l : List ℤ). z ∷ l) (unfold_all zs)

module _ (limits : Limits) (sup : Supported limits) where
  -- "The desk reads the bytes back as that list"
  pub read_as_list : (zs : List ℤ) (g : Guard) (rest : List ℕ) → list_file limits zs ≡ accepted g rest → (file limits (bytes_of g) ≡ accepted g []) × (numbers_of g ≡ zs)
  unfolding file bytes_of numbers_of Copies Ends as_bytes as_list
  read_as_list zs g rest taken =
      let e = (taken-numbers limits zs g rest taken).0 in
      let (ks, is, fit, same, good, back) = copies_file as_list as_bytes limits sup (map fold_signed zs) g rest (all_anything (map fold_signed zs)) e in
      let nothing : rest ≡ [] = source-ended number_list limits (map fold_signed zs) g rest e in
      let folded : map fold_signed zs ≡ map fold_signed (map listed (guard_tokens g)) = same ∙ ap (λ (l : List ℕ). concat_map one_number ks ++ l) nothing ∙ append-nil (concat_map one_number ks) ∙ one_each ks ∙ ap (λ (l : List Token). map fold_signed (map listed l)) is in (
        ap (λ (l : List Token). file_of bytes limits (concat_map token_bytes l)) (sym is) ∙ ap (file_of bytes limits) (sym (append-nil (concat_map token_bytes ks))) ∙ back [] refl,
        sym (unfold_all (map listed (guard_tokens g))) ∙ ap (map unfold_signed) (sym folded) ∙ unfold_all zs,
      )

  -- every number of a list that is taken fits into a file
  pub tokens-fit : (zs : List ℤ) (g : Guard) (rest : List ℕ) → list_file limits zs ≡ accepted g rest → All Fits (guard_tokens g)
  unfolding Copies as_bytes as_list
  tokens-fit zs g rest taken =
      let e = (taken-numbers limits zs g rest taken).0 in
      let (ks, is, fit, same, good, back) = copies_file as_list as_bytes limits sup (map fold_signed zs) g rest (all_anything (map fold_signed zs)) e in subst (All Fits) is fit

  -- the numbers of a file are taken as a file's, and have its bytes
  pub file-numbers : (bs : List ℕ) (g : Guard) (rest : List ℕ) → All (λ b. b < 256) bs → file limits bs ≡ accepted g rest → (file_of number_list limits (map fold_signed (numbers_of g)) ≡ accepted g []) × (bytes_of g ≡ bs)
  unfolding file bytes_of numbers_of Copies Ends as_bytes as_list
  file-numbers bs g rest small e =
      let (ks, is, fit, same, good, back) = copies_file as_bytes as_list limits sup bs g rest small e in
      let nothing : rest ≡ [] = source-ended bytes limits bs g rest e in (
        ap (λ (l : List Token). file_of number_list limits (map fold_signed (map listed l))) (sym is) ∙ ap (file_of number_list limits) (sym (one_each ks) ∙ sym (append-nil (concat_map one_number ks))) ∙ back [] refl,
        ap (concat_map token_bytes) (sym is) ∙ sym (append-nil (concat_map token_bytes ks)) ∙ ap (λ (l : List ℕ). concat_map token_bytes ks ++ l) (sym nothing) ∙ sym same,
      )

  -- "an accepted file, read and written, has the same bytes"; document 02, #112: "no longer produces files with two or more, and its
  -- round trip now speaks of the others"
  pub same_bytes_lem : (bs : List ℕ) (g : Guard) (rest : List ℕ) → All (λ b. b < 256) bs → file limits bs ≡ accepted g rest → number_types g.types ≤ 1 → (list_file limits (numbers_of g) ≡ accepted g []) × (bytes_of g ≡ bs)
  same_bytes_lem bs g rest small e one = let (taken, same) = file-numbers bs g rest small e in (numbers-taken limits (numbers_of g) g [] taken one, same)

  -- the numbers of the other files get 18
  pub several_refused : (bs : List ℕ) (g : Guard) (rest : List ℕ) → All (λ b. b < 256) bs → file limits bs ≡ accepted g rest → 1 < number_types g.types → list_file limits (numbers_of g) ≡ refused 18
  several_refused bs g rest small e several = numbers-refused limits (numbers_of g) g [] (file-numbers bs g rest small e).0 several

  -- the bytes of a well-formed guard are a file of it
  pub well_formed-file : (g : Guard) → WellFormed limits g → length (concat_map (λ (vs : List Variant). vs) g.types) ≤ total_variant_limit → file limits (bytes_of g) ≡ accepted g []
  unfolding file bytes_of TakesBefore as_bytes
  well_formed-file g w total = ap (file_of bytes limits) (sym (append-nil (concat_map token_bytes (guard_tokens g)))) ∙ takes_file as_bytes limits sup g w total [] refl
