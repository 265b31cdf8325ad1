-- Literals one after the other into their columns. Assumes nothing.
use mathlib.Core.Path.{◌≡◌, refl, ap, sym, ◌∙◌}
use mathlib.Core.List.{List, [], ◌∷◌, ◌++◌, map}
use Prim.Native.Nat.{ℕ, zero, suc, ◌+◌, ◌-◌, ◌≤◌, ◌<◌}
use native.Mathlib.Omega.{arith}
use lib.ListN.{length, drop, set, length-append}
use Rattle.guard.specs.Guard.{Literal}
use Rattle.guard.specs.File.{count}
use Rattle.guard.specs.Grammar.{ended}
use Rattle.guard.specs.Number.{Parsed, Parsed.accepted, Parsed.refused, Parser, ◌>>=◌, ◌>>◌, and_then, return, times}
use Rattle.guard.proofs.Repeats.{after, after_none, times-done, times-next, times_stop}
use Rattle.tables.specs.declared.LiteralTable.{LiteralTable}
use Rattle.tables.specs.Layout.{literal_kind, literal_other, literal_table, literal_term, pad}
use Rattle.tables.proofs.Columns.{column-set}
use Rattle.numbers.specs.Reader.{Found, below}
use Rattle.numbers.proofs.CountLaws.{count-is}
use Rattle.literalkinds.specs.declared.Literal as row
use Rattle.literalkinds.specs.OneLiteral.{literal_in}
use Rattle.literalreader.specs.LiteralReader.{in_table, lines_by, literals_by}

-- ---- the numbers of a literal

module _ (l : row.Literal) where
  kind_lem : (k t o : ℕ) → k < 4 → literal_kind (literal_in (record { kind = k; term = t; other = o })) ≡ k
  kind_lem zero t o h = refl
  kind_lem (suc zero) t o h = refl
  kind_lem (suc (suc zero)) t o h = refl
  kind_lem (suc (suc (suc zero))) t o h = refl
  kind_lem (suc (suc (suc (suc k)))) t o h = absurd (omega arith)

  pub kind-in : l.kind < 4 → l.kind ≡ literal_kind (literal_in l)
  kind-in h = sym (kind_lem l.kind l.term l.other h)

  term_lem : (k t o : ℕ) → literal_term (literal_in (record { kind = k; term = t; other = o })) ≡ t
  term_lem zero t o = refl
  term_lem (suc zero) t o = refl
  term_lem (suc (suc zero)) t o = refl
  term_lem (suc (suc (suc k))) t o = refl

  pub term-in : l.term ≡ literal_term (literal_in l)
  term-in = sym (term_lem l.kind l.term l.other)

  other_lem : (k t o : ℕ) → literal_other (literal_in (record { kind = k; term = t; other = o })) ≡ o
  other_lem zero t o = refl
  other_lem (suc zero) t o = refl
  other_lem (suc (suc zero)) t o = refl
  other_lem (suc (suc (suc k))) t o = refl

  pub other-in : l.other ≡ literal_other (literal_in l)
  other-in = sym (other_lem l.kind l.term l.other)

-- ---- the literals

-- So many literals are read from `start` on and stand in the columns; what is left to read comes after them.
pub record SoFar (p : Parser Literal) (bytes : List ℕ) (many start : ℕ) (kinds terms others : List ℕ) (at i : ℕ) : Type 0 where
  pub literals : List Literal
  pub long : length literals ≡ i
  pub within : at ≤ length bytes
  pub kind_column : kinds ≡ pad 64 (map literal_kind literals)
  pub term_column : terms ≡ pad 64 (map literal_term literals)
  pub other_column : others ≡ pad 64 (map literal_other literals)
  pub left : after literals (times (many - i) p (drop at bytes)) ≡ times many p (drop start bytes)

module _ (p : Parser Literal) (bytes : List ℕ) (many start : ℕ) where
  pub none_yet : start ≤ length bytes → SoFar p bytes many start (pad 64 []) (pad 64 []) (pad 64 []) start 0
  none_yet h =
      record { literals = []; long = refl; within = h; kind_column = refl; term_column = refl; other_column = refl; left = let e : many - 0 ≡ many = omega arith in after_none (times (many - 0) p (drop start bytes)) ∙ ap (λ (k : ℕ). times k p (drop start bytes)) e }

  module _ (kinds terms others : List ℕ) (at i : ℕ) (read : SoFar p bytes many start kinds terms others at i) where
    left-next : i < many → after read.literals (times (suc (many - suc i)) p (drop at bytes)) ≡ times many p (drop start bytes)
    left-next more = let e : suc (many - suc i) ≡ many - i = omega arith in ap (λ (k : ℕ). after read.literals (times k p (drop at bytes))) e ∙ read.left

    pub stops_here : i < many → (q : ℕ) → p (drop at bytes) ≡ refused q → times many p (drop start bytes) ≡ refused q
    stops_here more q e = sym (left-next more) ∙ times_stop p read.literals (many - suc i) (drop at bytes) q e

    pub one_more : i < many → many ≤ 64 → (l : row.Literal) (next : ℕ) → Found (p (drop at bytes)) bytes (literal_in l) next → l.kind < 4
        → SoFar p bytes many start (set kinds i l.kind) (set terms i l.term) (set others i l.other) next (i + 1)
    one_more more room l next found small =
        let x : Literal = literal_in l in
        let e : i + 1 ≡ suc i = omega arith in
        rw e
        (record {
          literals = read.literals ++ (x ∷ []);
          long = omega (arith, length-append read.literals (x ∷ []), read.long);
          within = found.within;
          kind_column = column-set 0 literal_kind 64 kinds read.literals x i l.kind read.kind_column read.long (omega arith) (kind-in l small);
          term_column = column-set 0 literal_term 64 terms read.literals x i l.term read.term_column read.long (omega arith) (term-in l);
          other_column = column-set 0 literal_other 64 others read.literals x i l.other read.other_column read.long (omega arith) (other-in l);
          left = sym (times-next p read.literals (many - suc i) (drop at bytes) x (drop next bytes) found.accepts) ∙ left-next more;
        })

    pub all_read : many ≡ i → times many p (drop start bytes) ≡ accepted read.literals (drop at bytes)
    all_read h =
        let e : many - i ≡ 0 = omega arith in
        sym read.left ∙ ap (λ (k : ℕ). after read.literals (times k p (drop at bytes))) e ∙ times-done p read.literals 0 (drop at bytes)

    pub table_read : many ≡ i → record { many = many; kinds = kinds; terms = terms; others = others } ≡ literal_table read.literals
    unfolding literal_table
    table_read h =
        let n : many ≡ length read.literals = omega (arith, read.long) in
        let k = read.kind_column in
        let t = read.term_column in
        let o = read.other_column in
        cc

-- ---- the count before them, and the end behind them

module _ (limit : ℕ) (p : Parser Literal) (bs : List ℕ) where
  counted_lem : count limit bs ≡ below (limit + 1) 4 bs
  counted_lem = let e : limit + 1 ≡ suc limit = omega arith in count-is limit bs ∙ ap (λ (k : ℕ). below k 4 bs) (sym e)

  pub count_refuses : (q : ℕ) → below (limit + 1) 4 bs ≡ refused q → in_table (lines_by limit p) bs ≡ refused q
  count_refuses q e = ap (λ (r : Parsed ℕ). and_then (λ ls. return (literal_table ls)) (and_then (λ l. times l p) r)) (counted_lem ∙ e)

  pub counted : (n : ℕ) (rest : List ℕ) → below (limit + 1) 4 bs ≡ accepted n rest → in_table (lines_by limit p) bs ≡ and_then (λ ls. return (literal_table ls)) (times n p rest)
  counted n rest e = ap (λ (r : Parsed ℕ). and_then (λ ls. return (literal_table ls)) (and_then (λ l. times l p) r)) (counted_lem ∙ e)

  -- asked of the bytes that are left: has the file ended?
  abbrev last : List Literal → Parser LiteralTable
  last ls rest = and_then (λ xs. return (literal_table xs)) ((ended >> return ls) rest)

  at_last : in_table (literals_by limit p) bs ≡ and_then last (lines_by limit p bs)
  at_last = go (count limit bs)
    where
      line : (r : Parsed (List Literal)) → and_then (λ xs. return (literal_table xs)) (and_then (λ ls. ended >> return ls) r) ≡ and_then last r
      line (refused q) = refl
      line (accepted ls rest) = refl

      go : (r : Parsed ℕ) → and_then (λ xs. return (literal_table xs)) (and_then (λ l. times l p >>= λ ls. ended >> return ls) r) ≡ and_then last (and_then (λ l. times l p) r)
      go (refused q) = refl
      go (accepted l rest) = line (times l p rest)

  pub lines_refuse : (q : ℕ) → in_table (lines_by limit p) bs ≡ refused q → in_table (literals_by limit p) bs ≡ refused q
  lines_refuse q e = at_last ∙ go (lines_by limit p bs) e
    where
      go : (r : Parsed (List Literal)) → and_then (λ ls. return (literal_table ls)) r ≡ refused q → and_then last r ≡ refused q
      go (refused z) e = (let h : z ≡ q = cc in ap refused h)
      go (accepted ls rest) e = cc

  pub not_ended : (t : LiteralTable) (rest : List ℕ) → in_table (lines_by limit p) bs ≡ accepted t rest → 0 < length rest → in_table (literals_by limit p) bs ≡ refused 10
  not_ended t rest e h = at_last ∙ go (lines_by limit p bs) e
    where
      more : (ls : List Literal) (mid : List ℕ) → mid ≡ rest → last ls mid ≡ refused 10
      more ls [] d = absurd (omega (arith, ap length d))
      more ls (b ∷ mid) d = refl

      go : (r : Parsed (List Literal)) → and_then (λ ls. return (literal_table ls)) r ≡ accepted t rest → and_then last r ≡ refused 10
      go (refused z) e = cc
      go (accepted ls mid) e = let d : mid ≡ rest = cc in more ls mid d

  pub at_the_end : (t : LiteralTable) (rest : List ℕ) → in_table (lines_by limit p) bs ≡ accepted t rest → length rest ≡ 0 → in_table (literals_by limit p) bs ≡ accepted t []
  at_the_end t rest e h = at_last ∙ go (lines_by limit p bs) e
    where
      none : (ls : List Literal) (mid : List ℕ) → mid ≡ rest → literal_table ls ≡ t → last ls mid ≡ accepted t []
      none ls [] d f = ap (λ (x : LiteralTable). accepted x []) f
      none ls (b ∷ mid) d f = absurd (omega (arith, ap length d))

      go : (r : Parsed (List Literal)) → and_then (λ ls. return (literal_table ls)) r ≡ accepted t rest → and_then last r ≡ accepted t []
      go (refused z) e = cc
      go (accepted ls mid) e = let d : mid ≡ rest = cc in let f : literal_table ls ≡ t = cc in none ls mid d f
