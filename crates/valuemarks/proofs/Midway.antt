-- Marks half made: from some row on the values are marked, and nothing before it. Assumes nothing.
use mathlib.Core.Path.{◌≡◌, refl, ap, ap₂, sym, ◌∙◌}
use mathlib.Core.List.{List, [], ◌∷◌, ◌++◌, append_assoc, append-nil, map, map-append}
use Prim.Native.Nat.{ℕ, zero, suc, ◌+◌, ◌-◌, ◌≤◌, ◌<◌}
use native.Mathlib.Omega.{arith}
use lib.ListN.{length, drop, take, replicate, set, drop_of_length-le, length-append, length-map}
use lib.Seq.{take_all}
use Rattle.laws.specs.Lists.{concat_map}
use Rattle.guard.specs.Guard.{Guard, Literal, Literal.equal, Literal.is, Literal.isnt, Literal.unequal, Row, Row.built, Row.constant, Row.field, Row.variable, row_at}
use Rattle.guard.specs.Types.{Variant}
use Rattle.tables.specs.Layout.{row_kind}
use Rattle.serialize.specs.Tokens.{Token, Token.plain, guard_tokens, literal_tokens, row_tokens, type_tokens, variant_tokens}
use Rattle.serialize.proofs.Copying.{concat_map-append}
use Rattle.valuemarks.specs.Marks.{mark_of, marks_of, room, until_lines, until_rows}

-- ---- rows up to one, and from it on

take_row : (rs : List Row) (r : ℕ) → r < length rs → take (suc r) rs ≡ take r rs ++ (row_at rs r ∷ [])
take_row [] r h = absurd (omega arith)
take_row (x ∷ rs) zero h = refl
take_row (x ∷ rs) (suc r) h = ap (λ (l : List Row). x ∷ l) (take_row rs r (omega arith))

drop-row : (rs : List Row) (r : ℕ) → r < length rs → drop r rs ≡ row_at rs r ∷ drop (suc r) rs
drop-row [] r h = absurd (omega arith)
drop-row (x ∷ rs) zero h = refl
drop-row (x ∷ rs) (suc r) h = drop-row rs r (omega arith)

-- ---- zeros

zeros_more : (k n : ℕ) → replicate {A = ℕ} (k + n) 0 ≡ replicate k 0 ++ replicate n 0
zeros_more zero n = let none : 0 + n ≡ n = omega arith in ap (λ (m : ℕ). replicate m 0) none
zeros_more (suc k) n = let one : suc k + n ≡ suc (k + n) = omega arith in ap (λ (m : ℕ). replicate m 0) one ∙ ap (λ (l : List ℕ). 0 ∷ l) (zeros_more k n)

-- the last of three zeros becomes 1
mark_third : (k : ℕ) (xs : List ℕ) → set (replicate (suc (suc (suc k))) 0 ++ xs) (suc (suc k)) 1 ≡ replicate k 0 ++ ((0 ∷ 0 ∷ 1 ∷ []) ++ xs)
mark_third zero xs = refl
mark_third (suc k) xs = ap (λ (l : List ℕ). 0 ∷ l) (mark_third k xs)

plain-marks : (ns : List ℕ) → map mark_of (map plain ns) ≡ replicate (length (map plain ns)) 0
plain-marks [] = refl
plain-marks (n ∷ ns) = ap (λ (l : List ℕ). 0 ∷ l) (plain-marks ns)

row_unmarked : (r : Row) → ¬ (row_kind r ≡ 1) → map mark_of (row_tokens r) ≡ replicate (length (row_tokens r)) 0
row_unmarked (variable t) h = refl
row_unmarked (constant t z) h = absurd (h refl)
row_unmarked (built t v ps) h = ap (λ (l : List ℕ). 0 ∷ 0 ∷ 0 ∷ l) (plain-marks ps)
row_unmarked (field t a v p) h = refl

constant-marks : (r : Row) → row_kind r ≡ 1 → map mark_of (row_tokens r) ≡ 0 ∷ 0 ∷ 1 ∷ []
constant-marks (constant t z) e = refl
constant-marks (variable t) e = absurd (omega (arith, e))
constant-marks (built t v ps) e = absurd (omega (arith, e))
constant-marks (field t a v p) e = absurd (omega (arith, e))

constant-three : (r : Row) → row_kind r ≡ 1 → length (row_tokens r) ≡ 3
constant-three r e = sym (length-map (row_tokens r) mark_of) ∙ ap length (constant-marks r e)

-- ---- from the last row on

-- the rows from r on are marked, and begin at `at`
pub record Midway (g : Guard) (at r : ℕ) (marks : List ℕ) : Type 0 where
  pub begins : at ≡ length (until_rows g ++ concat_map row_tokens (take r g.rows))
  pub are : marks ≡ replicate at 0 ++ (map mark_of (concat_map row_tokens (drop r g.rows)) ++ replicate (room - length (until_lines g)) 0)

module _ (g : Guard) (at r : ℕ) (marks : List ℕ) (inside : r < length g.rows) (m : Midway g at (suc r) marks) (n : ℕ) (numbers : n ≡ length (row_tokens (row_at g.rows r))) where
  abbrev row : Row
  row = row_at g.rows r

  abbrev rest : List ℕ
  rest = map mark_of (concat_map row_tokens (drop (suc r) g.rows)) ++ replicate (room - length (until_lines g)) 0

  -- the row's own numbers stand before `at`
  pub back : at ≡ length (until_rows g ++ concat_map row_tokens (take r g.rows)) + n
  back =
      m.begins ∙ ap (λ (l : List Row). length (until_rows g ++ concat_map row_tokens l)) (take_row g.rows r inside)
      ∙ ap (λ (l : List Token). length (until_rows g ++ l)) (concat_map-append row_tokens (take r g.rows) (row ∷ []) ∙ ap (λ (l : List Token). concat_map row_tokens (take r g.rows) ++ l) (append-nil (row_tokens row)))
      ∙ omega (arith, numbers, length-append (until_rows g) (concat_map row_tokens (take r g.rows) ++ row_tokens row), length-append (concat_map row_tokens (take r g.rows)) (row_tokens row), length-append (until_rows g) (concat_map row_tokens (take r g.rows)))

  abbrev before : ℕ
  before = length (until_rows g ++ concat_map row_tokens (take r g.rows))

  -- its marks in front of those behind it
  in_front : map mark_of (row_tokens row) ++ rest ≡ map mark_of (concat_map row_tokens (drop r g.rows)) ++ replicate (room - length (until_lines g)) 0
  in_front =
      sym (append_assoc (map mark_of (row_tokens row)) (map mark_of (concat_map row_tokens (drop (suc r) g.rows))) (replicate (room - length (until_lines g)) 0))
      ∙ ap (λ (l : List ℕ). l ++ replicate (room - length (until_lines g)) 0)
      (sym (map-append mark_of (row_tokens row) (concat_map row_tokens (drop (suc r) g.rows))) ∙ ap (λ (l : List Row). map mark_of (concat_map row_tokens l)) (sym (drop-row g.rows r inside)))

  pub next-plain : ¬ (row_kind (row_at g.rows r) ≡ 1) → Midway g (at - n) r marks
  next-plain h =
      record {
        begins = omega (arith, back);
        are = m.are ∙ ap (λ (k : ℕ). replicate k 0 ++ rest) back ∙ ap (λ (l : List ℕ). l ++ rest) (zeros_more before n)
            ∙ append_assoc (replicate before 0) (replicate n 0) rest
            ∙ ap₂ (λ (k : ℕ) (l : List ℕ). replicate k 0 ++ l) (let e : before ≡ at - n = omega (arith, back) in e)
            (ap (λ (l : List ℕ). l ++ rest) (ap (λ (k : ℕ). replicate k 0) numbers ∙ sym (row_unmarked row h)) ∙ in_front);
      }

  pub next-value : row_kind (row_at g.rows r) ≡ 1 → Midway g (at - n) r (set marks (at - 1) 1)
  next-value e =
      let three : n ≡ 3 = numbers ∙ constant-three row e in
      let here : at ≡ suc (suc (suc before)) = omega (arith, back, three) in
      let last : at - 1 ≡ suc (suc before) = omega (arith, here) in
      let same : before ≡ at - n = omega (arith, back) in
      record {
        begins = omega (arith, back);
        are = ap₂ (λ (l : List ℕ) (k : ℕ). set l k 1) (m.are ∙ ap (λ (k : ℕ). replicate k 0 ++ rest) here) last ∙ mark_third before rest
            ∙ ap₂ (λ (k : ℕ) (l : List ℕ). replicate k 0 ++ l) same (ap (λ (l : List ℕ). l ++ rest) (sym (constant-marks row e)) ∙ in_front);
      }

-- ---- before the rows, and behind them

concat_unmarked : {A : Type 0} (tokens : A → List Token) → ((x : A) → map mark_of (tokens x) ≡ replicate (length (tokens x)) 0) → (xs : List A) → map mark_of (concat_map tokens xs) ≡ replicate (length (concat_map tokens xs)) 0
concat_unmarked tokens h [] = refl
concat_unmarked tokens h (x ∷ xs) =
    map-append mark_of (tokens x) (concat_map tokens xs) ∙ ap₂ (λ (a b : List ℕ). a ++ b) (h x) (concat_unmarked tokens h xs)
    ∙ sym (zeros_more (length (tokens x)) (length (concat_map tokens xs))) ∙ ap (λ (k : ℕ). replicate k 0) (sym (length-append (tokens x) (concat_map tokens xs)))

variant_unmarked : (fs : Variant) → map mark_of (variant_tokens fs) ≡ replicate (length (variant_tokens fs)) 0
variant_unmarked fs = ap (λ (l : List ℕ). 0 ∷ l) (plain-marks fs)

type_unmarked : (vs : List Variant) → map mark_of (type_tokens vs) ≡ replicate (length (type_tokens vs)) 0
type_unmarked vs = ap (λ (l : List ℕ). 0 ∷ l) (concat_unmarked variant_tokens variant_unmarked vs)

literal_unmarked : (l : Literal) → map mark_of (literal_tokens l) ≡ replicate (length (literal_tokens l)) 0
literal_unmarked (equal i j) = refl
literal_unmarked (unequal i j) = refl
literal_unmarked (is i v) = refl
literal_unmarked (isnt i v) = refl

module _ (g : Guard) where
  abbrev pub lines : List Token
  lines = plain (length g.literals) ∷ concat_map literal_tokens g.literals

  abbrev rows : List Token
  rows = concat_map row_tokens g.rows

  pub in_parts : guard_tokens g ≡ until_rows g ++ (concat_map row_tokens g.rows ++ (plain (length g.literals) ∷ concat_map literal_tokens g.literals))
  unfolding guard_tokens
  in_parts = ap (λ (l : List Token). plain (length g.types) ∷ l) (sym (append_assoc (concat_map type_tokens g.types) (plain (length g.rows) ∷ []) (rows ++ lines)))

  until_length : length (until_lines g) ≡ length (until_rows g) + length rows
  until_length = length-append (until_rows g) rows

  pub all-length : length (guard_tokens g) ≡ length (until_lines g) + length lines
  all-length = ap length in_parts ∙ omega (arith, length-append (until_rows g) (rows ++ lines), length-append rows lines, until_length)

  front_unmarked : map mark_of (until_rows g) ≡ replicate (length (until_rows g)) 0
  front_unmarked =
      ap (λ (l : List ℕ). 0 ∷ l) (map-append mark_of (concat_map type_tokens g.types) (plain (length g.rows) ∷ [])
      ∙ ap (λ (l : List ℕ). l ++ (0 ∷ [])) (concat_unmarked type_tokens type_unmarked g.types) ∙ sym (zeros_more (length (concat_map type_tokens g.types)) 1)
      ∙ ap (λ (k : ℕ). replicate k 0) (sym (length-append (concat_map type_tokens g.types) (plain (length g.rows) ∷ []))))

  lines_unmarked : map mark_of lines ≡ replicate (length lines) 0
  lines_unmarked = ap (λ (l : List ℕ). 0 ∷ l) (concat_unmarked literal_tokens literal_unmarked g.literals)

  module _ (short : length (guard_tokens g) ≤ room) where
    -- no row is looked at yet
    pub begin : (at : ℕ) (marks : List ℕ) → at ≡ length (until_lines g) → marks ≡ replicate room 0 → Midway g at (length g.rows) marks
    begin at marks e b =
        let whole : room ≡ at + (room - length (until_lines g)) = omega (arith, e, short, all-length) in
        record {
          begins = e ∙ ap (λ (l : List Row). length (until_rows g ++ concat_map row_tokens l)) (sym (take_all (length g.rows) g.rows (omega arith)));
          are = b ∙ ap (λ (k : ℕ). replicate k 0) whole ∙ zeros_more at (room - length (until_lines g))
              ∙ ap (λ (l : List Row). replicate at 0 ++ (map mark_of (concat_map row_tokens l) ++ replicate (room - length (until_lines g)) 0)) (sym (drop_of_length-le g.rows {i = length g.rows} (omega arith)));
        }

    -- all rows are
    pub finish : (at : ℕ) (marks : List ℕ) → Midway g at 0 marks → marks ≡ marks_of g
    unfolding marks_of
    finish at marks m =
        m.are ∙ ap (λ (k : ℕ). replicate k 0 ++ (map mark_of rows ++ replicate left 0)) (m.begins ∙ ap length (append-nil (until_rows g)))
        ∙ ap₂ (λ (a b : List ℕ). a ++ (map mark_of rows ++ b)) (sym front_unmarked) behind
        ∙ ap (λ (l : List ℕ). map mark_of (until_rows g) ++ l) (sym (append_assoc (map mark_of rows) (map mark_of lines) (replicate (room - length (map mark_of (guard_tokens g))) 0)))
        ∙ sym (append_assoc (map mark_of (until_rows g)) (map mark_of rows ++ map mark_of lines) (replicate (room - length (map mark_of (guard_tokens g))) 0))
        ∙ ap (λ (l : List ℕ). l ++ replicate (room - length (map mark_of (guard_tokens g))) 0)
        (ap (λ (l : List ℕ). map mark_of (until_rows g) ++ l) (sym (map-append mark_of rows lines)) ∙ sym (map-append mark_of (until_rows g) (rows ++ lines)) ∙ ap (map mark_of) (sym in_parts))
      where
        left : ℕ
        left = room - length (until_lines g)

        behind : replicate left 0 ≡ map mark_of lines ++ replicate (room - length (map mark_of (guard_tokens g))) 0
        behind =
            let both : left ≡ length lines + (room - length (map mark_of (guard_tokens g))) = omega (arith, short, all-length, length-map (guard_tokens g) mark_of) in
            ap (λ (k : ℕ). replicate k 0) both ∙ zeros_more (length lines) (room - length (map mark_of (guard_tokens g))) ∙ ap (λ (l : List ℕ). l ++ replicate (room - length (map mark_of (guard_tokens g))) 0) (sym lines_unmarked)
