-- Requests #102 and #112, of what `write` answers and leaves. Assumes nothing.
use mathlib.Core.Path.{◌≡◌, ap, sym, subst, ◌∙◌}
use mathlib.Core.Bool.{true}
use mathlib.Core.List.{List, [], ◌++◌}
use Prim.Native.Nat.{ℕ, ◌-◌, ◌≤◌, ◌<◌}
use native.Mathlib.Omega.{arith}
use lib.Dec.{leb}
use lib.IntN.{ℤ}
use lib.ListN.{length, take, replicate}
use borrow.Author.Tests.{le-leb}
use Rattle.std.specs.Prelude.{Ok, Err}
use Rattle.laws.specs.All.{All}
use Rattle.guard.specs.File.{file}
use Rattle.guard.specs.Guard.{Guard}
use Rattle.guard.specs.Limits.{base}
use Rattle.guard.specs.Number.{Parsed, Parsed.accepted}
use Rattle.guard.proofs.Claims.{at-most_585, base-supported}
use Rattle.serialize.specs.NumberList.{list_file, number_types}
use Rattle.serialize.specs.Tokens.{bytes_of, numbers_of}
use Rattle.serialize.proofs.OneNumber.{taken-numbers}
use Rattle.serialize.proofs.Theorems.{read_as_list, same_bytes_lem, several_refused}
use Rattle.bytebuffer.proofs.FillLaws.{filled_with}
use Rattle.filewriter.specs.Writer.{answer_to, left_by}
use Rattle.filewriter.proofs.Answers.{Wrote, room-told, wrote}

module _ (zs : List ℤ) (n k : ℕ) (told : answer_to (list_file base zs) n ≡ Ok k) where
  w : Wrote bytes_of (list_file base zs) n k told
  w = wrote bytes_of (list_file base zs) n k told

  abbrev produced : List ℕ
  produced = take k (left_by (list_file base zs) n)

  back : file base produced ≡ accepted w.value []
  back = ap (file base) w.stand ∙ (read_as_list base base-supported zs w.value w.rest w.is).0

  -- "The desk reads the bytes back as that list": the bytes that stand in the buffer are a file of a guard whose numbers are the list
  pub written_read : (g : Guard) × (file base produced ≡ accepted g []) × (numbers_of g ≡ zs)
  written_read = (w.value, back, (read_as_list base base-supported zs w.value w.rest w.is).1)

  -- #112: "The writer of #102 no longer produces files with two or more"
  pub written_one : (g : Guard) (rest : List ℕ) → file base produced ≡ accepted g rest → number_types g.types ≤ 1
  written_one g rest e =
      let is : w.value ≡ g = taken-same (sym back ∙ e) in
      subst (λ (x : Guard). number_types x.types ≤ 1) is (taken-numbers base zs w.value w.rest w.is).1
    where
      taken-same : {h g : Guard} {rest : List ℕ} → Path (Parsed Guard) (accepted h []) (accepted g rest) → h ≡ g
      taken-same e = cc

-- "an accepted file, read and written, has the same bytes", where they fit; #112: "its round trip now speaks of the others"
pub read-written : (bs : List ℕ) (g : Guard) (rest : List ℕ) (n : ℕ) → All (λ b. b < 256) bs → file base bs ≡ accepted g rest → number_types g.types ≤ 1 → length bs ≤ n
    → (answer_to (list_file base (numbers_of g)) n ≡ Ok (length bs)) × (left_by (list_file base (numbers_of g)) n ≡ bs ++ replicate (n - length bs) 0)
read-written bs g rest n small e one fits =
    let (taken, same) = same_bytes_lem base base-supported bs g rest small e one in
    let room : leb (length (bytes_of g)) n ≡ true = ap (λ (l : List ℕ). leb (length l) n) same ∙ le-leb (length bs) n fits in (
      room-told bytes_of taken n (omega (arith, ap length same, fits)) ∙ ap (λ (l : List ℕ). Ok (length l)) same,
      ap (λ (p : Parsed Guard). left_by p n) taken ∙ filled_with (bytes_of g) n room ∙ ap (λ (l : List ℕ). l ++ replicate (n - length l) 0) same,
    )

-- the numbers of the other files get 18
pub several_read : (bs : List ℕ) (g : Guard) (rest : List ℕ) (n : ℕ) → All (λ b. b < 256) bs → file base bs ≡ accepted g rest → 1 < number_types g.types
    → answer_to (list_file base (numbers_of g)) n ≡ Err 18
several_read bs g rest n small e several = ap (λ (p : Parsed Guard). answer_to p n) (several_refused base base-supported bs g rest small e several)

-- no file has more than 585 bytes, so a buffer of 585 is never too short
written-bytes : (zs : List ℤ) (g : Guard) (rest : List ℕ) → list_file base zs ≡ accepted g rest → length (bytes_of g) ≤ 585
written-bytes zs g rest e = at-most_585 (bytes_of g) g [] (read_as_list base base-supported zs g rest e).0

pub few_bytes : (zs : List ℤ) (n k : ℕ) → answer_to (list_file base zs) n ≡ Ok k → k ≤ 585
few_bytes zs n k told = let w = wrote bytes_of (list_file base zs) n k told in omega (arith, w.many, written-bytes zs w.value w.rest w.is)

pub never_short : (zs : List ℤ) (g : Guard) (rest : List ℕ) (n : ℕ) → list_file base zs ≡ accepted g rest → 585 ≤ n → answer_to (list_file base zs) n ≡ Ok (length (bytes_of g))
never_short zs g rest n e h = room-told bytes_of e n (omega (arith, written-bytes zs g rest e))
