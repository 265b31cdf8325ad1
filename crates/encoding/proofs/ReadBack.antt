-- A number that is written is read back, whatever follows it: its groups are found, they make its value, and the last one
-- is not 0 unless it stands alone. Assumes nothing.
use mathlib.Core.Path.{◌≡◌, refl, ap}
use mathlib.Core.Bool.{Bool, true, false, not, cond}
use mathlib.Core.List.{List, [], ◌∷◌, ◌++◌}
use Prim.Native.Nat.{ℕ, zero, suc, ◌+◌, ◌/◌, ◌%◌, ◌^◌, ◌≤◌, ◌<◌}
use native.Mathlib.Omega.{arith}
use native.Mathlib.Nat.{pow-suc}
use lib.Dec.{leb, ltb}
use lib.ListN.{length}
use borrow.Author.Tests.{le-leb, le-ltb, lt-ltb, ltb-false, ltb-true, ne_eqb}
use Rattle.laws.specs.Lists.{last}
use Rattle.laws.proofs.Bools.{and_both, or_right}
use Rattle.guard.specs.Number.{Parsed.accepted, Width, and_then, groups, return, unsigned, unsigned_of, value_of_groups, value_width, well_formed, width32, width64}
use Rattle.encoding.specs.Encoding.{encoded, encoded_of, encoded_value, groups_of}

-- a claim about the groups of a number, by its size
by_size : (P : List ℕ → Type 0) (k n : ℕ) → (n < 128 → P (n ∷ [])) → (128 ≤ n → P ((128 + n % 128) ∷ groups_of k (n / 128))) → P (groups_of (suc k) n)
by_size P k n one more = go (ltb n 128) refl
  where
    go : (b : Bool) → ltb n 128 ≡ b → P (cond b (n ∷ []) ((128 + n % 128) ∷ groups_of k (n / 128)))
    go true e = one (ltb-true n 128 e)
    go false e = more (ltb-false n 128 e)

-- the other groups hold the rest
rest-fits : (k n : ℕ) → n < 128 ^ suc k → n / 128 < 128 ^ k
rest-fits k n h = omega (arith, pow-suc 128 k)

groups-back : (k n : ℕ) (bs : List ℕ) → n < 128 ^ k → groups k (groups_of k n ++ bs) ≡ accepted (groups_of k n) bs
groups-back zero n bs h = refl
groups-back (suc k) n bs h =
    by_size (λ gs. groups (suc k) (gs ++ bs) ≡ accepted gs bs) k n (λ l. rw (lt-ltb n 128 l, groups) refl)
    (λ l. rw (le-ltb (128 + n % 128) 128 (omega arith), groups) (ap (and_then (λ gs. return ((128 + n % 128) ∷ gs))) (groups-back k (n / 128) bs (rest-fits k n h))))

value-back : (k n : ℕ) → n < 128 ^ k → value_of_groups (groups_of k n) ≡ n
value-back zero n h = omega arith
value-back (suc k) n h = by_size (λ gs. value_of_groups gs ≡ n) k n (λ l. omega arith) (λ l. omega (arith, value-back k (n / 128) (rest-fits k n h)))

-- the last group of a number that is not 0
last-back : (k n d : ℕ) → 0 < n → n < 128 ^ k → (last (groups_of k n) d < 128) × (¬ (last (groups_of k n) d ≡ 0))
last-back zero n d p h = absurd (omega arith)
last-back (suc k) n d p h =
    by_size (λ gs. (last gs d < 128) × (¬ (last gs d ≡ 0))) k n (λ l. (l, λ e. omega arith)) (λ l. last-back k (n / 128) (128 + n % 128) (omega arith) (rest-fits k n h))

groups-length : (k n : ℕ) → length (groups_of k n) ≤ k
groups-length zero n = omega arith
groups-length (suc k) n = by_size (λ gs. length gs ≤ suc k) k n (λ l. omega arith) (λ l. omega (arith, groups-length k (n / 128)))

pub some_group : (k n : ℕ) → 1 ≤ length (groups_of (suc k) n)
some_group k n = by_size (λ gs. 1 ≤ length gs) k n (λ l. omega arith) (λ l. omega arith)

-- more bytes allowed are no more bytes, where fewer suffice
same-groups : (k m n : ℕ) → k ≤ m → n < 128 ^ suc k → groups_of (suc m) n ≡ groups_of (suc k) n
same-groups zero m n l h = rw (lt-ltb n 128 (omega arith)) refl
same-groups (suc k) zero n l h = absurd (omega arith)
same-groups (suc k) (suc m) n l h =
    ap (λ (gs : List ℕ). cond (ltb n 128) (n ∷ []) ((128 + n % 128) ∷ gs)) (same-groups k m (n / 128) (omega arith) (rest-fits (suc k) n h))

-- numbers up to the most that a width allows, where its bytes suffice for them
module _ (w : Width) (fits : w.most < 128 ^ w.bytes) where
  well_formed_lem : (n : ℕ) → n ≤ w.most → well_formed w (encoded_of w n) ≡ true
  well_formed_lem zero h = go w.bytes
    where
      go : (k : ℕ) → well_formed w (groups_of k 0) ≡ true
      go zero = and_both _ _ (le-leb 0 w.most (omega arith)) refl
      go (suc k) = and_both _ _ (le-leb 0 w.most (omega arith)) refl
  well_formed_lem (suc n) h =
      let (small, some) = last-back w.bytes (suc n) 0 (omega arith) (omega arith) in
      and_both _ _ (lt-ltb _ _ small)
      (and_both _ _ (le-leb (value_of_groups (encoded_of w (suc n))) w.most (omega (arith, value-back w.bytes (suc n) (omega arith)))) (or_right (leb (length (encoded_of w (suc n))) 1) _ (ap not (ne_eqb _ _ some))))

  pub read-back_of : (n : ℕ) (bs : List ℕ) → n ≤ w.most → unsigned_of w (encoded_of w n ++ bs) ≡ accepted n bs
  read-back_of n bs h =
      rw (groups-back w.bytes n bs (omega arith)) (rw (well_formed_lem n h) (ap (λ (v : ℕ). accepted v bs) (value-back w.bytes n (omega arith))))

-- "is at most 4,294,967,295"
pub read_back : (n : ℕ) (bs : List ℕ) → n ≤ 4294967295 → unsigned (encoded n ++ bs) ≡ accepted n bs
unfolding encoded
read_back n bs h = read-back_of width32 (omega arith) n bs h

-- "It has one to five bytes"; a number below 128 has one
pub one-at_least : (n : ℕ) → 1 ≤ length (encoded n)
unfolding encoded
one-at_least n = some_group 4 n

pub at-most_five : (n : ℕ) → length (encoded n) ≤ 5
unfolding encoded
at-most_five n = groups-length 5 n

pub one_byte : (n : ℕ) → n < 128 → encoded n ≡ n ∷ []
unfolding encoded
one_byte n h = rw (lt-ltb n 128 h) refl

-- a number of 32 bits is written in 64 bits as it is in 32
pub same-encoded : (n : ℕ) → n ≤ 4294967295 → encoded_of width64 n ≡ encoded n
unfolding encoded
same-encoded n h = same-groups 4 9 n (omega arith) (omega arith)

-- ---- values

pub value-read-back : (n : ℕ) (bs : List ℕ) → n ≤ value_width.most → unsigned_of value_width (encoded_value n ++ bs) ≡ accepted n bs
unfolding encoded_value
value-read-back n bs h = read-back_of value_width (omega arith) n bs h

pub value-one-at_least : (n : ℕ) → 1 ≤ length (encoded_value n)
unfolding encoded_value
value-one-at_least n = some_group 9 n
