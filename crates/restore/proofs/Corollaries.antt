-- Request #111, of what `restore` answers and leaves: what it gives back is an accepted file, and of the bytes that `store` left, the original.
-- Assumes nothing.
use mathlib.Core.Path.{◌≡◌, ap, ◌∙◌}
use mathlib.Core.Bool.{true}
use mathlib.Core.List.{List, [], ◌++◌}
use Prim.Native.Nat.{ℕ, ◌-◌, ◌≤◌, ◌<◌}
use native.Mathlib.Omega.{arith}
use lib.Dec.{leb}
use lib.ListN.{length, replicate, take}
use borrow.Author.Tests.{le-leb}
use Rattle.std.specs.Prelude.{Ok}
use Rattle.laws.specs.All.{All}
use Rattle.guard.specs.File.{file}
use Rattle.guard.specs.Guard.{Guard}
use Rattle.guard.specs.Limits.{base}
use Rattle.guard.specs.Number.{Parsed, Parsed.accepted, Parsed.refused, and_then}
use Rattle.guard.proofs.Accepted.{accepted-total, accepted_well_formed}
use Rattle.guard.proofs.Claims.{at-most_585, base-supported}
use Rattle.encoding.proofs.Parsers.{not_accepted}
use Rattle.serialize.specs.Tokens.{bytes_of}
use Rattle.serialize.proofs.Theorems.{well_formed-file}
use Rattle.bytebuffer.proofs.FillLaws.{filled_with}
use Rattle.filewriter.specs.Writer.{answer_by, answer_to, left_by, left_with}
use Rattle.filewriter.proofs.Answers.{room-told, wrote}
use Rattle.columnfile.specs.Columns.{restored_file, restored_head, stored_bytes}
use Rattle.columnfile.proofs.Inverse.{inverse}

module _ (stored : List ℕ) where
  -- what is given back is an accepted file
  pub restored_accepted : (g : Guard) (rest : List ℕ) → restored_file base stored ≡ accepted g rest → file base (bytes_of g) ≡ accepted g []
  unfolding restored_file
  restored_accepted g rest e = go (restored_head base stored) e
    where
      go : (r : Parsed (List ℕ)) → and_then (λ head left. file base (head ++ left)) r ≡ accepted g rest → file base (bytes_of g) ≡ accepted g []
      go (refused q) h = absurd (not_accepted q g rest h)
      go (accepted head left) h = well_formed-file base base-supported g (accepted_well_formed base base-supported (head ++ left) g rest h) (accepted-total base base-supported (head ++ left) g rest h)

  restored_bytes : (g : Guard) (rest : List ℕ) → restored_file base stored ≡ accepted g rest → length (bytes_of g) ≤ 585
  restored_bytes g rest e = at-most_585 (bytes_of g) g [] (restored_accepted g rest e)

  pub few_restored : (n k : ℕ) → answer_to (restored_file base stored) n ≡ Ok k → k ≤ 585
  few_restored n k told = let w = wrote bytes_of (restored_file base stored) n k told in omega (arith, w.many, restored_bytes w.value w.rest w.is)

  pub never_short : (n : ℕ) (g : Guard) (rest : List ℕ) → restored_file base stored ≡ accepted g rest → 585 ≤ n → answer_to (restored_file base stored) n ≡ Ok (length (bytes_of g))
  never_short n g rest e h = room-told bytes_of e n (omega (arith, restored_bytes g rest e))

-- "The inverse gives the original bytes, for every accepted file.": of the bytes that `store` leaves in a buffer of n bytes, `restore` makes
-- the file again, in a buffer of m bytes
pub given_back : (bytes : List ℕ) → All (λ b. b < 256) bytes → (n m k : ℕ) → answer_by stored_bytes (file base bytes) n ≡ Ok k → length bytes ≤ m
    → let left = take k (left_with stored_bytes (file base bytes) n) in
    (answer_to (restored_file base left) m ≡ Ok (length bytes)) × (left_by (restored_file base left) m ≡ bytes ++ replicate (m - length bytes) 0)
given_back bytes small n m k told room =
    let w = wrote stored_bytes (file base bytes) n k told in
    let (back, same) = inverse base base-supported bytes w.value w.rest small w.is in
    let is : restored_file base (take k (left_with stored_bytes (file base bytes) n)) ≡ accepted w.value [] = ap (restored_file base) w.stand ∙ back in
    let fits : leb (length (bytes_of w.value)) m ≡ true = ap (λ (l : List ℕ). leb (length l) m) same ∙ le-leb (length bytes) m room in (
      room-told bytes_of is m (omega (arith, ap length same, room)) ∙ ap (λ (l : List ℕ). Ok (length l)) same,
      ap (λ (p : Parsed Guard). left_by p m) is ∙ filled_with (bytes_of w.value) m fits ∙ ap (λ (l : List ℕ). l ++ replicate (m - length l) 0) same,
    )
