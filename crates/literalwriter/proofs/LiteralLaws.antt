-- What a table of literals holds, number by number, and the three bytes of a literal. Assumes nothing.
use mathlib.Core.Path.{◌≡◌, refl, ap, sym, ◌∙◌}
use mathlib.Core.List.{List, [], ◌∷◌, ◌++◌, map}
use Prim.Native.Nat.{ℕ, ◌+◌, ◌≤◌, ◌<◌}
use native.Mathlib.Omega.{arith}
use lib.ListN.{length, get_or}
use Rattle.laws.specs.Lists.{concat_map}
use Rattle.laws.proofs.Lists.{all_get_d}
use Rattle.guard.specs.Guard.{Literal, Literal.equal, Literal.is, Literal.isnt, Literal.unequal, Row, type_at}
use Rattle.guard.specs.Types.{Types, variants_of}
use Rattle.guard.specs.WellFormed.{LiteralFits}
use Rattle.tables.specs.Layout.{literal_kind, literal_other, literal_table, literal_term}
use Rattle.tables.specs.declared.LiteralTable.{LiteralTable}
use Rattle.tables.proofs.Columns.{pad_get}
use Rattle.tables.proofs.Lookups.{map_at}
use Rattle.heldparts.specs.Held.{HoldsLiterals}
use Rattle.encoding.specs.Encoding.{encoded}
use Rattle.encoding.proofs.ReadBack.{one_byte}
use Rattle.serialize.specs.Tokens.{literal_tokens, token_bytes}
use Rattle.serialize.proofs.Copying.{concat_map-append}
use Rattle.merged.specs.Merge.{named, renamed_literal}
use Rattle.std.specs.Prelude.{Option, Some, None}
use Rattle.bytebuffer.specs.declared.Writer.{Writer}
use Rattle.bytebuffer.specs.Appends.{Appends}
use Rattle.bytebuffer.proofs.EachLaws.{each_all, each_full, each_next, first_bytes}
use Rattle.bytebuffer.proofs.PutLaws.{nothing, same-bytes}
use Rattle.literalwriter.specs.LiteralBytes.{HasLiteral, PutsLiteral, PutsLiterals, SmallNames, SomeLiterals, literal_bytes, no_literal}

-- ---- bytes

pub lines-bytes : (names : List ℕ) (ls : List Literal) → concat_map (literal_bytes names) ls ≡ concat_map token_bytes (concat_map literal_tokens (map (renamed_literal names) ls))
lines-bytes names [] = refl
lines-bytes names (l ∷ ls) =
    ap (λ (bs : List ℕ). literal_bytes names l ++ bs) (lines-bytes names ls)
    ∙ sym (concat_map-append token_bytes (literal_tokens (renamed_literal names l)) (concat_map literal_tokens (map (renamed_literal names) ls)))

three : (a b c : ℕ) → a < 128 → b < 128 → c < 128 → a ∷ b ∷ c ∷ [] ≡ encoded a ++ (encoded b ++ (encoded c ++ []))
three a b c p q s = rw (one_byte a p, one_byte b q, one_byte c s)

module _ (names : List ℕ) where
  two-terms : (l : Literal) → literal_kind l < 2 → named names (literal_term l) < 128 → named names (literal_other l) < 128
      → literal_kind l ∷ named names (literal_term l) ∷ named names (literal_other l) ∷ [] ≡ literal_bytes names l
  two-terms (equal i j) h p q = three 0 _ _ (omega arith) p q
  two-terms (unequal i j) h p q = three 1 _ _ (omega arith) p q
  two-terms (is i v) h p q = absurd (omega arith)
  two-terms (isnt i v) h p q = absurd (omega arith)

  with-variant : (l : Literal) → 2 ≤ literal_kind l → named names (literal_term l) < 128 → literal_other l < 128
      → literal_kind l ∷ named names (literal_term l) ∷ literal_other l ∷ [] ≡ literal_bytes names l
  with-variant (equal i j) h p q = absurd (omega arith)
  with-variant (unequal i j) h p q = absurd (omega arith)
  with-variant (is i v) h p q = three 2 _ _ (omega arith) p q
  with-variant (isnt i v) h p q = three 3 _ _ (omega arith) p q

-- ---- the range of its numbers

module _ (ts : Types) (rs : List Row) where
  term-below : (l : Literal) → LiteralFits ts rs l → literal_term l < length rs
  term-below (equal i j) f = f.0
  term-below (unequal i j) f = f.0
  term-below (is i v) f = f.0
  term-below (isnt i v) f = f.0

  other-below : (l : Literal) → LiteralFits ts rs l → literal_kind l < 2 → literal_other l < length rs
  other-below (equal i j) f h = f.1
  other-below (unequal i j) f h = f.1
  other-below (is i v) f h = absurd (omega arith)
  other-below (isnt i v) f h = absurd (omega arith)

  variant-below : (l : Literal) → LiteralFits ts rs l → 2 ≤ literal_kind l → literal_other l < length (variants_of ts (type_at ts rs (literal_term l)))
  variant-below (equal i j) f h = absurd (omega arith)
  variant-below (unequal i j) f h = absurd (omega arith)
  variant-below (is i v) f h = f.1
  variant-below (isnt i v) f h = f.1

-- ---- the table

module _ {table : LiteralTable} {ts : Types} {rs : List Row} {ls : List Literal} (h : HoldsLiterals table ts rs ls) where
  pub many-held : table.many ≡ length ls
  unfolding literal_table
  many-held = ap (λ (x : LiteralTable). x.many) h.are

  module _ (i : ℕ) (inside : i < length ls) where
    kind-held : get_or table.kinds i 0 ≡ literal_kind (get_or ls i no_literal)
    unfolding literal_table
    kind-held = ap (λ (x : LiteralTable). get_or x.kinds i 0) h.are ∙ pad_get 0 64 i (map literal_kind ls) ∙ map_at literal_kind ls i no_literal 0 inside

    term-held : get_or table.terms i 0 ≡ literal_term (get_or ls i no_literal)
    unfolding literal_table
    term-held = ap (λ (x : LiteralTable). get_or x.terms i 0) h.are ∙ pad_get 0 64 i (map literal_term ls) ∙ map_at literal_term ls i no_literal 0 inside

    other-held : get_or table.others i 0 ≡ literal_other (get_or ls i no_literal)
    unfolding literal_table
    other-held = ap (λ (x : LiteralTable). get_or x.others i 0) h.are ∙ pad_get 0 64 i (map literal_other ls) ∙ map_at literal_other ls i no_literal 0 inside

    equal-bytes : (names : List ℕ) → get_or table.kinds i 0 < 2 → named names (get_or table.terms i 0) < 128 → named names (get_or table.others i 0) < 128
        → get_or table.kinds i 0 ∷ named names (get_or table.terms i 0) ∷ named names (get_or table.others i 0) ∷ [] ≡ literal_bytes names (get_or ls i no_literal)
    equal-bytes names = rw (kind-held, term-held, other-held) (two-terms names (get_or ls i no_literal))

    variant-bytes : (names : List ℕ) → 2 ≤ get_or table.kinds i 0 → named names (get_or table.terms i 0) < 128 → get_or table.others i 0 < 128
        → get_or table.kinds i 0 ∷ named names (get_or table.terms i 0) ∷ get_or table.others i 0 ∷ [] ≡ literal_bytes names (get_or ls i no_literal)
    variant-bytes names = rw (kind-held, term-held, other-held) (with-variant names (get_or ls i no_literal))

-- ---- the range of its entries, and their bytes

module _ {table : LiteralTable} {i : ℕ} (has : HasLiteral table i) where
  abbrev l : Literal
  l = get_or has.some.ls i no_literal

  fits : LiteralFits has.some.ts has.some.rs l
  fits = all_get_d has.some.held.fit i no_literal has.inside

  pub term-small : get_or table.terms i 0 < 24
  term-small = omega (arith, term-held has.some.held i has.inside, term-below _ _ l fits, has.some.rows)

  pub other-small : get_or table.kinds i 0 < 2 → get_or table.others i 0 < 24
  other-small k = omega (arith, other-held has.some.held i has.inside, other-below _ _ l fits (omega (arith, kind-held has.some.held i has.inside)), has.some.rows)

  variant-small : 2 ≤ get_or table.kinds i 0 → get_or table.others i 0 < 128
  variant-small k =
      omega (arith, other-held has.some.held i has.inside, variant-below _ _ l fits (omega (arith, kind-held has.some.held i has.inside)), has.some.variants (type_at has.some.ts has.some.rs (literal_term l)))

  module _ {names : List ℕ} (n : SmallNames names) {w w' : Writer} {r : Option (Unit {0})} where
    pub equal_put : get_or table.kinds i 0 < 2 → Appends (get_or table.kinds i 0 ∷ named names (get_or table.terms i 0) ∷ named names (get_or table.others i 0) ∷ []) w r w' → PutsLiteral table i names w r w'
    equal_put k p = record { puts = λ ts rs ls h inside. same-bytes (equal-bytes h i inside names k (n.small _ term-small) (n.small _ (other-small k))) p }

    pub variant_put : 2 ≤ get_or table.kinds i 0 → Appends (get_or table.kinds i 0 ∷ named names (get_or table.terms i 0) ∷ get_or table.others i 0 ∷ []) w r w' → PutsLiteral table i names w r w'
    variant_put k p = record { puts = λ ts rs ls h inside. same-bytes (variant-bytes h i inside names k (n.small _ term-small) (variant-small k)) p }

pub ruleset literal_laws = (term-small, other-small, equal_put, variant_put)

-- ---- the literals before i

pub record LiteralsSoFar (table : LiteralTable) (names : List ℕ) (w : Writer) (i : ℕ) (w' : Writer) : Type 0 where
  pub so_far : (ts : Types) (rs : List Row) (ls : List Literal) → HoldsLiterals table ts rs ls → Appends (first_bytes (literal_bytes names) ls i) w (Some tt) w'

module _ {table : LiteralTable} where
  pub has_literal : SomeLiterals table → {i : ℕ} → i < table.many → HasLiteral table i
  has_literal h l = record { some = h; inside = omega (arith, many-held h.held) }

  module _ {names : List ℕ} where
    pub literals_begin : {w : Writer} → LiteralsSoFar table names w 0 w
    literals_begin {w} = record { so_far = λ ts rs ls h. nothing w }

    module _ {w w' : Writer} {i : ℕ} (s : LiteralsSoFar table names w i w') where
      module _ (l : i < table.many) where
        inside : {ts : Types} {rs : List Row} {ls : List Literal} → HoldsLiterals table ts rs ls → i < length ls
        inside h = omega (arith, many-held h)

        pub literals_next : {w'' : Writer} → PutsLiteral table i names w' (Some tt) w'' → LiteralsSoFar table names w (i + 1) w''
        literals_next q = record { so_far = λ ts rs ls h. each_next (literal_bytes names) ls (s.so_far ts rs ls h) (inside h) no_literal (q.puts ts rs ls h (inside h)) }

        pub literals_full : {w'' : Writer} → PutsLiteral table i names w' None w'' → PutsLiterals table names w None w''
        literals_full q = record { puts = λ ts rs ls h. same-bytes (lines-bytes names ls) (each_full (literal_bytes names) ls (s.so_far ts rs ls h) (inside h) no_literal (q.puts ts rs ls h (inside h))) }

      pub literals_all : table.many ≤ i → PutsLiterals table names w (Some tt) w'
      literals_all l = record { puts = λ ts rs ls h. same-bytes (lines-bytes names ls) (each_all (literal_bytes names) ls (s.so_far ts rs ls h) (omega (arith, many-held h))) }

pub ruleset literals_laws = (literals_begin, literals_next, literals_full, literals_all)
