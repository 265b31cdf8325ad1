-- The bytes of a number, counted one at a time, and what the definition does with them. Assumes nothing.
use mathlib.Core.Path.{◌≡◌, refl, sym, ap, ◌∙◌}
use mathlib.Core.Bool.{Bool, true, false, ◌&&◌}
use mathlib.Core.List.{List, [], ◌∷◌, ◌++◌, append-nil}
use Prim.Native.Nat.{ℕ, zero, suc, ◌+◌, ◌-◌, ◌*◌, ◌≤◌, ◌<◌, ◌%◌}
use native.Mathlib.Omega.{arith}
use native.Mathlib.Numerals.{add-one}
use lib.Dec.{leb, ltb}
use lib.ListN.{length, get_or, drop, take, drop_of_length-le, length-drop}
use lib.Seq.{append_snoc, drop-cons, get_or-drop, take-suc}
use borrow.Author.Tests.{le-leb, le-ltb, leb-false, leb-true, lt-ltb, ltb-false, ltb-true}
use Rattle.laws.proofs.Bools.{and_both, by_test}
use Rattle.guard.specs.Number.{Parsed, Parsed.accepted, Parsed.refused, Parser, Width, ◌>>=◌, ◌>>◌, and_then, ask, groups, return, unsigned, unsigned_of, value_of_groups, well_formed, width32}
use Rattle.leb128.specs.Count.{Counted}

-- ---- groups that follow others

abbrev behind : List ℕ → Parsed (List ℕ) → Parsed (List ℕ)
behind front r = and_then (λ gs. return (front ++ gs)) r

module _ (k b : ℕ) (front bs : List ℕ) where
  step : Bool → Parsed (List ℕ)
  step t = behind front (elim t [ true ↦ accepted (b ∷ []) bs | false ↦ (groups k >>= λ gs. return (b ∷ gs)) bs ])

  one_last : b < 128 → behind front (groups (suc k) (b ∷ bs)) ≡ accepted (front ++ (b ∷ [])) bs
  unfolding step
  one_last h = ap step (lt-ltb b 128 h)

  one_more : 128 ≤ b → behind front (groups (suc k) (b ∷ bs)) ≡ behind (front ++ (b ∷ [])) (groups k bs)
  unfolding step
  one_more h = ap step (le-ltb b 128 h) ∙ shift (groups k bs)
    where
      shift : (r : Parsed (List ℕ)) → behind front (and_then (λ gs. return (b ∷ gs)) r) ≡ behind (front ++ (b ∷ [])) r
      shift (refused q) = refl
      shift (accepted gs rest) = ap (λ (l : List ℕ). accepted l rest) (sym (append_snoc front b gs))

-- ---- the count

-- the first `count` bytes have bit 80: the groups from there on, behind these, are the definition's
pub record Counting (most : ℕ) (bs : List ℕ) (count : ℕ) : Type 0 where
  pub few : count ≤ most
  pub within : count ≤ length bs
  pub so_far : groups most bs ≡ behind (take count bs) (groups (most - count) (drop count bs))

module _ (most : ℕ) (bs : List ℕ) where
  pub counting_none : Counting most bs 0
  counting_none = record { few = omega arith; within = omega arith; so_far = whole (groups most bs) ∙ ap (λ (k : ℕ). behind [] (groups k bs)) all }
    where
      all : most ≡ most - 0
      all = omega arith

      whole : (r : Parsed (List ℕ)) → r ≡ behind [] r
      whole (refused q) = refl
      whole (accepted gs rest) = refl

  module _ (count : ℕ) (c : Counting most bs count) where
    -- as many bytes as there may be, all with bit 80, count too: the last of them is the end
    pub counted-most : 0 < most → most ≤ count → Counted most bs count
    counted-most some h =
        record {
          few = c.few;
          within = c.within;
          ends = λ z. absurd (omega arith);
          counted =
              λ n. c.so_far ∙ ap (λ (k : ℕ). behind (take count bs) (groups k (drop count bs))) none
              ∙ ap (λ (l : List ℕ). accepted l (drop count bs)) (append-nil (take count bs));
        }
      where
        none : most - count ≡ 0
        none = omega arith

    -- one byte more, if it is there
    module _ (some : count < most) where
      left : most - count ≡ suc (most - suc count)
      left = omega arith

      pub counted_end : length bs ≤ count → Counted most bs 0
      counted_end h =
          record {
            few = omega arith;
            within = omega arith;
            ends =
                λ z. c.so_far ∙ ap (λ (k : ℕ). behind (take count bs) (groups k (drop count bs))) left
                ∙ ap (λ (l : List ℕ). behind (take count bs) (groups (suc (most - suc count)) l)) (drop_of_length-le bs h);
            counted = λ n. absurd (n refl);
          }

      module _ (there : count < length bs) where
        next : groups most bs ≡ behind (take count bs) (groups (suc (most - suc count)) (get_or bs count 0 ∷ drop (suc count) bs))
        next =
            c.so_far ∙ ap (λ (k : ℕ). behind (take count bs) (groups k (drop count bs))) left
            ∙ ap (λ (l : List ℕ). behind (take count bs) (groups (suc (most - suc count)) l)) (drop-cons bs count 0 there)

        pub counted-last : get_or bs count 0 < 128 → Counted most bs (count + 1)
        counted-last h =
            record {
              few = omega arith;
              within = omega arith;
              ends = λ z. absurd (omega arith);
              counted =
                  λ n. next ∙ one_last (most - suc count) (get_or bs count 0) (take count bs) (drop (suc count) bs) h
                  ∙ ap (λ (l : List ℕ). accepted l (drop (suc count) bs)) (sym (take-suc bs count 0 there))
                  ∙ ap (λ (k : ℕ). accepted (take k bs) (drop k bs)) (sym (add-one count));
            }

        pub counting_more : 128 ≤ get_or bs count 0 → Counting most bs (count + 1)
        counting_more h =
            record {
              few = omega arith;
              within = omega arith;
              so_far =
                  next ∙ one_more (most - suc count) (get_or bs count 0) (take count bs) (drop (suc count) bs) h
                  ∙ ap (λ (l : List ℕ). behind l (groups (most - suc count) (drop (suc count) bs))) (sym (take-suc bs count 0 there))
                  ∙ ap (λ (k : ℕ). behind (take k bs) (groups (most - k) (drop k bs))) (sym (add-one count));
            }

-- the steps of the loop, with the byte read at the cursor
pub ruleset counting_steps = (counted_end, counted-last, counting_more, length-drop, get_or-drop)

-- there is always a count
pub counts : (most : ℕ) (bs : List ℕ) → 0 < most → (n : ℕ) × Counted most bs n
counts most bs some = go most 0 (omega arith) (counting_none most bs)
  where
    go : (k count : ℕ) → count + k ≡ most → Counting most bs count → (n : ℕ) × Counted most bs n
    go zero count e c = (count, counted-most most bs count c some (omega arith))
    go (suc k) count e c =
        by_test (leb (length bs) count)
        (λ t. (0, counted_end most bs count c (omega arith) (leb-true _ _ t)))
        (λ t. let there : count < length bs = leb-false (length bs) count t in
        by_test (ltb (get_or bs count 0) 128)
        (λ u. (count + 1, counted-last most bs count c (omega arith) there (ltb-true _ _ u)))
        (λ u. go k (count + 1) (omega arith) (counting_more most bs count c (omega arith) there (ltb-false _ _ u))))

-- ---- the number, from the count

-- the question at groups that are read
abbrev pub formed : Width → List ℕ → Parser ℕ
formed w gs = ask 3 (well_formed w gs) >> return (value_of_groups gs)

module _ (w : Width) (bs : List ℕ) (count : ℕ) (c : Counted w.bytes bs count) where
  pub unsigned-short : count ≡ 0 → unsigned_of w bs ≡ refused 2
  unsigned-short z = ap (and_then (formed w)) (c.ends z)

  pub unsigned-counted : ¬ (count ≡ 0) → unsigned_of w bs ≡ formed w (take count bs) (drop count bs)
  unsigned-counted n = ap (and_then (formed w)) (c.counted n)

  module _ (some : ¬ (count ≡ 0)) where
    asked : Bool → Parsed ℕ
    asked t = (ask 3 t >> return (value_of_groups (take count bs))) (drop count bs)

    pub unsigned_malformed : well_formed w (take count bs) ≡ false → unsigned_of w bs ≡ refused 3
    unfolding asked
    unsigned_malformed e = unsigned-counted some ∙ ap asked e

    pub unsigned-formed : well_formed w (take count bs) ≡ true → unsigned_of w bs ≡ accepted (value_of_groups (take count bs)) (drop count bs)
    unfolding asked
    unsigned-formed e = unsigned-counted some ∙ ap asked e

-- the bytes counted, as a part of the slice
pub part-counted : (bytes : List ℕ) (at count : ℕ) → take (at + count - at) (drop at bytes) ≡ take count (drop at bytes)
part-counted bytes at count = let n : at + count - at ≡ count = omega arith in ap (λ (k : ℕ). take k (drop at bytes)) n

-- the cursor after a number at `at`, from the bytes that it leaves
pub cursor-after : (most : ℕ) (bytes : List ℕ) (at count : ℕ) → Counted most (drop at bytes) count → ¬ (count ≡ 0)
    → length bytes - length (drop count (drop at bytes)) ≡ at + count
cursor-after most bytes at count c some = omega (arith, length-drop count (drop at bytes), length-drop at bytes, c.within, some)

-- a number of one byte is that byte
pub unsigned-one : (b : ℕ) (bs : List ℕ) → b < 128 → unsigned (b ∷ bs) ≡ accepted b bs
unsigned-one b bs h =
    ap (λ (t : Bool). and_then (formed width32) (elim t [ true ↦ accepted (b ∷ []) bs | false ↦ (groups 4 >>= λ gs. return (b ∷ gs)) bs ])) (lt-ltb b 128 h)
    ∙ ap (λ (v : ℕ). (ask 3 (ltb b 128 && (leb v 4294967295 && true)) >> return v) bs) value
    ∙ ap (λ (t : Bool). (ask 3 t >> return b) bs) (and_both _ _ (lt-ltb b 128 h) (and_both _ _ (le-leb b 4294967295 (omega arith)) refl))
  where
    value : b % 128 + 128 * 0 ≡ b
    value = omega arith
