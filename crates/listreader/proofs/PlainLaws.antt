-- Signed numbers of the list as the code tests them, and the plain bytes as it writes them. Assumes nothing.
use mathlib.Core.Path.{◌≡◌, refl, ap, ap₂, sym, subst, ◌∙◌}
use mathlib.Core.Bool.{true, false, false≢true}
use mathlib.Core.List.{List, [], ◌∷◌, ◌++◌, map, map-append}
use Prim.Native.Nat.{ℕ, ◌+◌, ◌≤◌, ◌<◌, min}
use native.Mathlib.Numerals.{add-one}
use native.Mathlib.Omega.{arith}
use lib.IntN.{ℤ, pos, negsuc}
use lib.ListN.{length, get_or, set, take, length-map, length-set, get_or-map}
use lib.Seq.{take-suc, take-suc-set}
use lib.Signed.{lt_z}
use mir.Syntax.{w64}
use mir.Val.{SFits}
use borrow.Author.Tests.{ltb-false, ltb-true}
use Rattle.std.proofs.lemmas.List.{take_min}
use Rattle.laws.specs.All.{All, All.more, All.none}
use Rattle.laws.proofs.Lists.{all_append}
use Rattle.guard.specs.Number.{fold_signed}
use Rattle.guard.proofs.Reading.{unfold_fold}
use Rattle.serialize.specs.NumberList.{unsigned_by}
use Rattle.listreader.specs.Plain.{largest, plain_byte, plain_of, room}
use Rattle.listreader.specs.Written.{Narrow, Written}

-- ---- a plain byte

byte_of : (x : ℤ) → plain_byte (fold_signed x) ≡ min (unsigned_by x) largest
byte_of x = ap (λ (z : ℤ). min (unsigned_by z) largest) (unfold_fold x)

pub negative_byte : (x : ℤ) → lt_z x (pos 0) ≡ true → 127 ≡ plain_byte (fold_signed x)
negative_byte (pos n) e = absurd (omega (arith, ltb-true n 0 e))
negative_byte (negsuc n) e = sym (byte_of (negsuc n))

pub large_byte : (x : ℤ) → lt_z (pos 127) x ≡ true → 127 ≡ plain_byte (fold_signed x)
large_byte (pos n) e = omega (arith, ltb-true 127 n e, byte_of (pos n))
large_byte (negsuc n) e = absurd (false≢true e)

-- a number that is its own byte
pub record Small (x : ℤ) : Type 0 where
  pub n : ℕ
  pub is : x ≡ pos n
  pub small : n ≤ 127
  pub byte : n ≡ plain_byte (fold_signed x)

pub small_byte : (x : ℤ) → lt_z x (pos 0) ≡ false → lt_z (pos 127) x ≡ false → Small x
small_byte (pos n) e f = let l : n ≤ 127 = ltb-false 127 n f in record { n = n; is = refl; small = l; byte = omega (arith, byte_of (pos n)) }
small_byte (negsuc n) e f = absurd (false≢true (sym e))

-- ---- all plain bytes

-- a number of 64 bits can be a constant's value
pub fold_narrow : (x : ℤ) → SFits w64 x → Narrow (fold_signed x)
fold_narrow (pos n) f = omega (arith, f.sfits)
fold_narrow (negsuc n) f = omega (arith, f.sfits)

-- so many numbers of the list, folded
abbrev folded : ℕ → List ℤ → List ℕ
folded i list = take i (map fold_signed list)

-- the first i bytes are written, and the numbers before are values
pub record Front (list : List ℤ) (out : List ℕ) (i : ℕ) : Type 0 where
  pub long : length out ≡ room
  pub bytes : take i out ≡ plain_of i (map fold_signed list)
  pub narrow : All Narrow (folded i list)

module _ (list : List ℤ) (out : List ℕ) (i : ℕ) (front : Front list out i) where
  -- nothing is left, or no room
  pub all-written : i ≡ min (length list) room → Written list out i
  all-written e =
      let all : folded i list ≡ folded room list = let k : i ≡ min room (length (map fold_signed list)) = omega (arith, length-map list fold_signed) in rw k (take_min room (map fold_signed list)) in
      record {
        few = omega arith;
        long = front.long;
        bytes = front.bytes ∙ ap (map plain_byte) all;
        narrow = subst (All Narrow) all front.narrow;
      }

  -- a number more
  module _ (b : ℕ) (fits : i < room) (there : i < length list) (byte : b ≡ plain_byte (fold_signed (get_or list i (pos 0)))) (narrow : Narrow (fold_signed (get_or list i (pos 0)))) where
    abbrev w : ℕ
    w = fold_signed (get_or list i (pos 0))

    one_more : folded (i + 1) list ≡ folded i list ++ (w ∷ [])
    one_more =
        rw add-one (take-suc (map fold_signed list) i 0 (omega (arith, length-map list fold_signed)) ∙ ap (λ (w : ℕ). folded i list ++ (w ∷ [])) (get_or-map fold_signed list i (pos 0)))

    pub front-next : Front list (set out i b) (i + 1)
    front-next =
        let stored : take (i + 1) (set out i b) ≡ take i out ++ (b ∷ []) = rw add-one (take-suc-set out i b (omega (arith, front.long))) in
        record {
          long = length-set out i b ∙ front.long;
          bytes =
              stored ∙ ap₂ (λ (bs : List ℕ) (c : ℕ). bs ++ (c ∷ [])) front.bytes byte ∙ sym (map-append plain_byte (folded i list) (w ∷ []))
              ∙ ap (map plain_byte) (sym one_more);
          narrow = subst (All Narrow) (sym one_more) (all_append front.narrow (more narrow none));
        }
