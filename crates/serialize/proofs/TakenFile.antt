-- A well-formed guard has a file: its tokens, written for any source, are taken as that guard, part by part along the grammar. Assumes
-- nothing.
use mathlib.Core.Path.{◌≡◌, refl, ap, ap₂, sym, subst, ◌∙◌}
use mathlib.Core.Bool.{Bool, true, false, not, ◌&&◌}
use mathlib.Core.List.{List, [], ◌∷◌, ◌++◌, append_assoc, append-nil, map}
use mathlib.Core.Option.{Option, none, some}
use Prim.Native.Nat.{ℕ, zero, suc, ◌+◌, ◌≤◌, ◌<◌}
use native.Mathlib.Omega.{arith}
use lib.Dec.{leb, ltb, eqb}
use lib.IntN.{ℤ}
use lib.ListN.{length, get_or, length-append, get_or-append}
use lib.Seq.{get_or-append_seam}
use borrow.Author.Tests.{eq-eqb, le-leb, lt-ltb, ne_eqb}
use Rattle.laws.specs.All.{All, All.more}
use Rattle.laws.specs.All as all-of-list
use Rattle.laws.specs.Lists.{all, concat_map}
use Rattle.laws.proofs.Lists.{all_mem, all_of, map_cong}
use Rattle.guard.specs.Grammar.{Source, count, ended, file_of, kind, literal, literal_of, name, parts, row_of, rows, term_and_variant, two_terms, types, variant, variant_term}
use Rattle.guard.specs.Guard.{Guard, Literal, Literal.equal, Literal.is, Literal.isnt, Literal.unequal, Row, Row.built, Row.constant, Row.field, Row.variable, no_row, row_at, type_at, type_of}
use Rattle.guard.specs.Limits.{Limits, Supported, field_limit, total_variant_limit, variant_limit}
use Rattle.guard.specs.Message.{Message}
use Rattle.guard.specs.Number.{Parsed.accepted, Parser, ◌>>=◌, ◌>>◌, fold_signed, return, times, unfold_signed, width32}
use Rattle.guard.specs.Types.{Types, Variant, all_defaults, defaults, fields_of, infinite_fields, is_number, is_some, variants_of}
use Rattle.guard.specs.WellFormed.{LiteralFits, RowFits, WellFormed}
use Rattle.guard.proofs.Accepted.{RowsFit, TypeFits, VariantFits, defaults-length}
use Rattle.guard.proofs.Reading.{unfold_fold}
use Rattle.serialize.specs.Tokens.{Token, Token.plain, Token.value, guard_tokens, literal_tokens, row_tokens, type_tokens, variant_tokens}
use Rattle.serialize.proofs.Copying.{Form}
use Rattle.serialize.proofs.Taking.{Takes, TakesBefore, takes_asked, takes_bind, takes_folded, takes_made, takes_number, takes_regrouped, takes_return, takes_times}

-- a type with a variant is no number type
has_variant_lem : (ts : Types) (t v : ℕ) → v < length (variants_of ts t) → not (is_number ts t) ≡ true
has_variant_lem ts t v h = ap not (ne_eqb (length (variants_of ts t)) 0 (λ e. omega (arith, e)))

and-true : (a b : Bool) → a ≡ true → b ≡ true → (a && b) ≡ true
and-true true b e h = h
and-true false b e h = e

-- what holds at every position holds of every element
all-at : {A : Type 0} {P : A → Type 0} (xs : List A) (d : A) → ((i : ℕ) → P (get_or xs i d)) → All P xs
all-at [] d h = all-of-list.All.none
all-at (x ∷ xs) d h = more (h 0) (all-at xs d (λ i. h (suc i)))

all-some : (xs : List (Option Message)) → ((i : ℕ) → i < length xs → (m : Message) × (get_or xs i none ≡ some m)) → all is_some xs ≡ true
all-some [] h = refl
all-some (x ∷ xs) h = and-true (is_some x) (all is_some xs) (ap is_some (h 0 (omega arith)).1) (all-some xs (λ i l. h (suc i) (omega (arith, l))))

-- the types of a well-formed guard fit, and have their defaults
module _ {limits : Limits} {g : Guard} (w : WellFormed limits g) where
  pub types-fit : All (TypeFits (length g.types)) g.types
  types-fit = all-at g.types [] (λ t. (w.variant_counts t, all-at (variants_of g.types t) [] (λ v. (w.field_counts t v, w.field_types t v))))

  pub all-ready : all_defaults g.types ≡ true
  all-ready = all-some (defaults g.types) (λ t h. w.ready t (omega (arith, h, defaults-length (length g.types) g.types)))

module _ (f : Form) where
  abbrev s : Source
  s = f.src

  abbrev Anything : List ℕ → Type 0
  Anything l = Unit {0}

  -- ---- counts, names and kinds

  pub takes_count : (most n : ℕ) → n ≤ width32.most → n ≤ most → Takes f (count s most) (plain n ∷ []) n
  takes_count most n small h = takes_number f Anything 4 n (λ i. leb i most) (λ i. return i) [] n small (le-leb n most h) (takes_return f Anything n)

  takes_name : (many n : ℕ) → many ≤ width32.most → n < many → Takes f (name s many) (plain n ∷ []) n
  takes_name many n small h = takes_number f Anything 5 n (λ i. ltb i many) (λ i. return i) [] n (omega arith) (lt-ltb n many h) (takes_return f Anything n)

  takes_kind : (k : ℕ) → k < 4 → Takes f (kind s) (plain k ∷ []) k
  takes_kind k h = takes_number f Anything 6 k (λ i. ltb i 4) (λ i. return i) [] k (omega arith) (lt-ltb k 4 h) (takes_return f Anything k)

  -- ---- types

  each-plain : (xs : List ℕ) → concat_map (λ n. plain n ∷ []) xs ≡ map plain xs
  each-plain [] = refl
  each-plain (x ∷ xs) = ap (λ (l : List Token). plain x ∷ l) (each-plain xs)

  takes_variant : (many : ℕ) → many ≤ width32.most → (fs : Variant) → VariantFits many fs → Takes f (variant s many) (variant_tokens fs) fs
  takes_variant many small fs h =
      takes_bind f Anything (count s field_limit) (λ n. times n (name s many)) (plain (length fs) ∷ []) (map plain fs) (length fs) fs (takes_count field_limit (length fs) (omega (arith, h.0)) h.0)
      (subst (λ (ks : List Token). Takes f (times (length fs) (name s many)) ks fs) (each-plain fs)
      (takes_times f (name s many) (λ n. plain n ∷ []) fs (all_of fs (λ n m. takes_name many n small (all_mem h.1 n m)))))

  pub takes_types : (many total : ℕ) (ts : Types) → many ≤ width32.most → All (TypeFits many) ts → total + length (concat_map (λ (vs : List Variant). vs) ts) ≤ total_variant_limit
      → Takes f (types s (length ts) many total) (concat_map type_tokens ts) ts
  takes_types many total [] small fit few = takes_return f Anything []
  takes_types many total (vs ∷ ts) small (more h hs) few =
      takes_number f Anything 4 (length vs) (λ v. leb v variant_limit && leb (total + v) total_variant_limit) _ (concat_map variant_tokens vs ++ concat_map type_tokens ts) (vs ∷ ts) (omega (arith, h.0))
      (and-true _ _ (le-leb (length vs) variant_limit h.0) (le-leb (total + length vs) total_variant_limit (omega (arith, few, length-append vs (concat_map (λ (ws : List Variant). ws) ts)))))
      (takes_bind f Anything (times (length vs) (variant s many)) _ (concat_map variant_tokens vs) (concat_map type_tokens ts) vs (vs ∷ ts)
      (takes_times f (variant s many) variant_tokens vs (all_of vs (λ fs m. takes_variant many small fs (all_mem h.1 fs m))))
      (takes_made f Anything (types s (length ts) many (total + length vs)) (λ us. vs ∷ us) (concat_map type_tokens ts) ts
      (takes_types many (total + length vs) ts small hs (omega (arith, few, length-append vs (concat_map (λ (ws : List Variant). ws) ts))))))

  -- ---- term rows

  module _ (ts : Types) (rs : List Row) (few : length rs ≤ 24) (names : length ts ≤ 6) (variants : (t : ℕ) → length (variants_of ts t) ≤ variant_limit) (fields : (t v : ℕ) → length (fields_of ts t v) ≤ field_limit) where
    takes_parts : (fs : Variant) (ps : List ℕ) → All (λ p. p < length rs) ps → map (type_at ts rs) ps ≡ fs → Takes f (parts s ts rs fs) (map plain ps) ps
    takes_parts [] [] h e = takes_return f Anything []
    takes_parts [] (p ∷ ps) h e = let z : ◌≡◌ {A = ℕ} 0 1 = cc in absurd (omega arith)
    takes_parts (x ∷ fs) [] h e = let z : ◌≡◌ {A = ℕ} 0 1 = cc in absurd (omega arith)
    takes_parts (x ∷ fs) (p ∷ ps) (more h hs) e =
        let same : type_at ts rs p ≡ x = cc in
        let rest : map (type_at ts rs) ps ≡ fs = cc in
        takes_bind f Anything (name s (length rs)) _ (plain p ∷ []) (map plain ps) p (p ∷ ps) (takes_name (length rs) p (omega arith) h)
        (takes_asked f Anything 7 (eqb (type_at ts rs p) x) _ (map plain ps) (p ∷ ps) (eq-eqb (type_at ts rs p) x same)
        (takes_made f Anything (parts s ts rs fs) (λ qs. p ∷ qs) (map plain ps) ps (takes_parts fs ps hs rest)))

    takes_term : (a : ℕ) → a < length rs → not (is_number ts (type_at ts rs a)) ≡ true → Takes f (variant_term s ts rs) (plain a ∷ []) a
    takes_term a h e =
        takes_bind f Anything (name s (length rs)) _ (plain a ∷ []) [] a a (takes_name (length rs) a (omega arith) h)
        (takes_asked f Anything 7 (not (is_number ts (type_at ts rs a))) _ [] a e (takes_return f Anything a))

    -- a variant of a term's type
    takes_variant_of : (a v : ℕ) → v < length (variants_of ts (type_at ts rs a)) → Takes f (name s (length (variants_of ts (type_at ts rs a)))) (plain v ∷ []) v
    takes_variant_of a v h = takes_name (length (variants_of ts (type_at ts rs a))) v (omega (arith, variants (type_at ts rs a))) h

    -- a row with its kind
    takes_row : (r : Row) → RowFits ts rs (length rs) r → Takes f (kind s >>= row_of s ts rs) (row_tokens r) r
    takes_row (variable t) h =
        takes_bind f Anything (kind s) (row_of s ts rs) (plain 0 ∷ []) (plain t ∷ []) 0 (variable t) (takes_kind 0 (omega arith))
        (takes_made f Anything (name s (length ts)) variable (plain t ∷ []) t (takes_name (length ts) t (omega arith) h))
    takes_row (constant t z) h =
        takes_bind f Anything (kind s) (row_of s ts rs) (plain 1 ∷ []) (plain t ∷ value z ∷ []) 1 (constant t z) (takes_kind 1 (omega arith))
        (takes_bind f Anything (name s (length ts)) _ (plain t ∷ []) (value z ∷ []) t (constant t z) (takes_name (length ts) t (omega arith) h.0)
        (takes_asked f Anything 7 (is_number ts t) _ (value z ∷ []) (constant t z) h.1
        (subst (λ (y : ℤ). Takes f (s.folded >>= λ n. return (constant t (unfold_signed n))) (value y ∷ []) (constant t y)) (unfold_fold z)
        (takes_folded f Anything (fold_signed z) (λ n. return (constant t (unfold_signed n))) [] (constant t (unfold_signed (fold_signed z))) h.2 (takes_return f Anything (constant t (unfold_signed (fold_signed z))))))))
    takes_row (built t v ps) h =
        takes_bind f Anything (kind s) (row_of s ts rs) (plain 2 ∷ []) (plain t ∷ plain v ∷ map plain ps) 2 (built t v ps) (takes_kind 2 (omega arith))
        (takes_bind f Anything (name s (length ts)) _ (plain t ∷ []) (plain v ∷ map plain ps) t (built t v ps) (takes_name (length ts) t (omega arith) h.0)
        (takes_asked f Anything 7 (not (is_number ts t)) _ (plain v ∷ map plain ps) (built t v ps) (has_variant_lem ts t v h.1)
        (takes_bind f Anything (name s (length (variants_of ts t))) _ (plain v ∷ []) (map plain ps) v (built t v ps) (takes_name (length (variants_of ts t)) v (omega (arith, variants t)) h.1)
        (takes_made f Anything (parts s ts rs (fields_of ts t v)) (λ qs. built t v qs) (map plain ps) ps (takes_parts (fields_of ts t v) ps h.2 h.3)))))
    takes_row (field t a v p) h =
        subst (λ (u : ℕ). Takes f (kind s >>= row_of s ts rs) (row_tokens (field u a v p)) (field u a v p)) h.1
        (takes_bind f Anything (kind s) (row_of s ts rs) (plain 3 ∷ []) (plain a ∷ plain v ∷ plain p ∷ []) 3 _ (takes_kind 3 (omega arith))
        (takes_bind f Anything (variant_term s ts rs) _ (plain a ∷ []) (plain v ∷ plain p ∷ []) a _ (takes_term a h.0 (has_variant_lem ts _ v there))
        (takes_bind f Anything (name s (length (variants_of ts (type_at ts rs a)))) _ (plain v ∷ []) (plain p ∷ []) v _ (takes_variant_of a v there)
        (takes_made f Anything (name s (length (fields_of ts (type_at ts rs a) v))) (λ q. field (type_at ts rs a) a v q) (plain p ∷ []) p
        (takes_name (length (fields_of ts (type_at ts rs a) v)) p (omega (arith, fields (type_at ts rs a) v)) (subst (λ (u : ℕ). p < length (fields_of ts u v)) (sym h.1) h.3))))))
      where
        there : v < length (variants_of ts (type_at ts rs a))
        there = subst (λ (u : ℕ). v < length (variants_of ts u)) (sym h.1) h.2

    -- ---- literals

    takes_pair : (make : ℕ → ℕ → Literal) (i j : ℕ) → (i < length rs) × (j < length rs) × (type_at ts rs i ≡ type_at ts rs j) → Takes f (two_terms s ts rs make) (plain i ∷ plain j ∷ []) (make i j)
    takes_pair make i j h =
        takes_bind f Anything (name s (length rs)) _ (plain i ∷ []) (plain j ∷ []) i (make i j) (takes_name (length rs) i (omega arith) h.0)
        (takes_bind f Anything (name s (length rs)) _ (plain j ∷ []) [] j (make i j) (takes_name (length rs) j (omega arith) h.1)
        (takes_asked f Anything 7 (eqb (type_at ts rs i) (type_at ts rs j)) _ [] (make i j) (eq-eqb _ _ h.2) (takes_return f Anything (make i j))))

    takes_tested : (make : ℕ → ℕ → Literal) (i v : ℕ) → (i < length rs) × (v < length (variants_of ts (type_at ts rs i))) → Takes f (term_and_variant s ts rs make) (plain i ∷ plain v ∷ []) (make i v)
    takes_tested make i v h =
        takes_bind f Anything (variant_term s ts rs) _ (plain i ∷ []) (plain v ∷ []) i (make i v) (takes_term i h.0 (has_variant_lem ts _ v h.1))
        (takes_made f Anything (name s (length (variants_of ts (type_at ts rs i)))) (make i) (plain v ∷ []) v (takes_variant_of i v h.1))

    takes_behind : (k : ℕ) (l : Literal) (ks : List Token) → k < 4 → Takes f (literal_of s ts rs k) ks l → Takes f (literal s ts rs) (plain k ∷ ks) l
    takes_behind k l ks h t = takes_bind f Anything (kind s) (literal_of s ts rs) (plain k ∷ []) ks k l (takes_kind k h) t

    takes_literal : (l : Literal) → LiteralFits ts rs l → Takes f (literal s ts rs) (literal_tokens l) l
    takes_literal (equal i j) h = takes_behind 0 (equal i j) (plain i ∷ plain j ∷ []) (omega arith) (takes_pair equal i j h)
    takes_literal (unequal i j) h = takes_behind 1 (unequal i j) (plain i ∷ plain j ∷ []) (omega arith) (takes_pair unequal i j h)
    takes_literal (is i v) h = takes_behind 2 (is i v) (plain i ∷ plain v ∷ []) (omega arith) (takes_tested is i v h)
    takes_literal (isnt i v) h = takes_behind 3 (isnt i v) (plain i ∷ plain v ∷ []) (omega arith) (takes_tested isnt i v h)

  -- ---- rows after rows

  -- rows that fit, each after those before it
  abbrev FitAfter : Types → List Row → List Row → Type 0
  FitAfter ts rs [] = Unit {0}
  FitAfter ts rs (x ∷ xs) = RowFits ts rs (length rs) x × FitAfter ts (rs ++ (x ∷ [])) xs

  module _ (ts : Types) (names : length ts ≤ 6) (variants : (t : ℕ) → length (variants_of ts t) ≤ variant_limit) (fields : (t v : ℕ) → length (fields_of ts t v) ≤ field_limit) where
    takes_rows : (rs xs : List Row) → length rs + length xs ≤ 24 → FitAfter ts rs xs → Takes f (rows s (length xs) ts rs) (concat_map row_tokens xs) (rs ++ xs)
    takes_rows rs [] small h = subst (λ (ys : List Row). Takes f (rows s 0 ts rs) [] ys) (sym (append-nil rs)) (takes_return f Anything rs)
    takes_rows rs (x ∷ xs) small (h, hs) =
        takes_regrouped f Anything (kind s) (row_of s ts rs) (λ r. rows s (length xs) ts (rs ++ (r ∷ []))) (concat_map row_tokens (x ∷ xs)) (rs ++ (x ∷ xs))
        (takes_bind f Anything (kind s >>= row_of s ts rs) _ (row_tokens x) (concat_map row_tokens xs) x (rs ++ (x ∷ xs)) (takes_row ts rs (omega arith) names variants fields x h)
        (subst (λ (ys : List Row). Takes f (rows s (length xs) ts (rs ++ (x ∷ []))) (concat_map row_tokens xs) ys) (append_assoc rs (x ∷ []) xs)
        (takes_rows (rs ++ (x ∷ [])) xs (omega (arith, small, length-append rs (x ∷ []))) hs)))

  module _ (ts : Types) (rs xs : List Row) where
    -- what a row after `rs` names is there already
    fits-before : (r : Row) → RowFits ts (rs ++ xs) (length rs) r → RowFits ts rs (length rs) r
    fits-before (variable t) h = h
    fits-before (constant t z) h = h
    fits-before (built t v ps) h =
        (h.0, h.1, h.2, map_cong (type_at ts rs) (type_at ts (rs ++ xs)) ps (λ p m. ap (type_of ts) (sym (get_or-append rs xs no_row p (all_mem h.2 p m)))) ∙ h.3)
    fits-before (field t a v p) h = (h.0, ap (type_of ts) (sym (get_or-append rs xs no_row a h.0)) ∙ h.1, h.2, h.3)

  fit-after : (ts : Types) (rs xs : List Row) → RowsFit ts (rs ++ xs) → FitAfter ts rs xs
  fit-after ts rs [] h = tt
  fit-after ts rs (x ∷ xs) h = (
    fits-before ts rs (x ∷ xs) x (subst (RowFits ts (rs ++ (x ∷ xs)) (length rs)) (get_or-append_seam rs x xs no_row) (h (length rs) (omega (arith, length-append rs (x ∷ xs))))),
    fit-after ts (rs ++ (x ∷ [])) xs (subst (RowsFit ts) (sym (append_assoc rs (x ∷ []) xs)) h),
  )

  -- ---- the file

  takes_ended : (g : Guard) → TakesBefore f (λ l. l ≡ []) (ended >> return g) [] g
  unfolding TakesBefore
  takes_ended g left e = ap (λ (l : List ℕ). (ended >> return g) l) e ∙ ap (accepted g) (sym e)

  pub takes_file : (limits : Limits) → Supported limits → (g : Guard) → WellFormed limits g → length (concat_map (λ (vs : List Variant). vs) g.types) ≤ total_variant_limit
      → TakesBefore f (λ l. l ≡ []) (file_of s limits) (guard_tokens g) g
  unfolding guard_tokens
  takes_file limits sup g w total =
      takes_bind f Ends (count s limits.types) _ (plain (length ts) ∷ []) _ (length ts) g (takes_count limits.types (length ts) (omega (arith, w.type_count, sup.types)) w.type_count)
      (takes_bind f Ends (types s (length ts) (length ts) 0) _ (concat_map type_tokens ts) _ ts g (takes_types (length ts) 0 ts (omega (arith, w.type_count, sup.types)) (types-fit w) (omega (arith, total)))
      (takes_asked f Ends 8 (all_defaults ts) _ _ g (all-ready w)
      (takes_asked f Ends 9 (infinite_fields ts) _ _ g w.infinite
      (takes_bind f Ends (count s limits.terms) _ (plain (length rs) ∷ []) _ (length rs) g (takes_count limits.terms (length rs) (omega (arith, w.term_count, sup.terms)) w.term_count)
      (takes_bind f Ends (rows s (length rs) ts []) _ (concat_map row_tokens rs) _ rs g (takes_rows ts few w.variant_counts w.field_counts [] rs (omega (arith, w.term_count, sup.terms)) (fit-after ts [] rs w.rows))
      (takes_bind f Ends (count s limits.lines) _ (plain (length ls) ∷ []) _ (length ls) g (takes_count limits.lines (length ls) (omega (arith, w.line_count, sup.lines)) w.line_count)
      (subst (λ (ks : List Token). TakesBefore f Ends (times (length ls) (literal s ts rs) >>= λ xs. ended >> return (record { types = ts; rows = rs; literals = xs })) ks g) (append-nil (concat_map literal_tokens ls))
      (takes_bind f Ends (times (length ls) (literal s ts rs)) _ (concat_map literal_tokens ls) [] ls g
      (takes_times f (literal s ts rs) literal_tokens ls (all_of ls (λ l m. takes_literal ts rs (omega (arith, w.term_count, sup.terms)) few w.variant_counts w.field_counts l (w.literals l m)))) (takes_ended g)))))))))
    where
      Ends : List ℕ → Type 0
      Ends l = l ≡ []

      ts : Types
      ts = g.types

      rs : List Row
      rs = g.rows

      ls : List Literal
      ls = g.literals

      few : length ts ≤ 6
      few = omega (arith, w.type_count, sup.types)
