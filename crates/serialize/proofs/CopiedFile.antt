-- A file that one source gives is given by any other too: part by part, along the grammar. Assumes nothing.
use mathlib.Core.Path.{◌≡◌, refl, ap, ap₂, sym, subst, ◌∙◌}
use mathlib.Core.Bool.{◌&&◌, not}
use mathlib.Core.List.{List, [], ◌∷◌, ◌++◌, append_assoc, append-nil, map}
use Prim.Native.Nat.{ℕ, zero, suc, ◌+◌, ◌≤◌, ◌<◌}
use native.Mathlib.Omega.{arith}
use lib.Dec.{leb, ltb, eqb}
use lib.ListN.{length, length-append}
use borrow.Author.Tests.{leb-true, ltb-true}
use Rattle.laws.specs.All.{All, All.more, All.none}
use Rattle.laws.specs.Lists.{concat_map}
use Rattle.laws.proofs.Bools.{and_left}
use Rattle.guard.specs.Grammar.{Source, count, ended, file_of, kind, literal, literal_of, name, parts, row_of, rows, term_and_variant, two_terms, types, variant, variant_term}
use Rattle.guard.specs.Guard.{Guard, Literal, Literal.equal, Literal.is, Literal.isnt, Literal.unequal, Row, Row.built, Row.constant, Row.field, Row.variable, type_at}
use Rattle.guard.specs.Limits.{Limits, Supported, field_limit, total_variant_limit, variant_limit}
use Rattle.guard.specs.Number.{Parsed.accepted, Parser, ◌>>◌, return, times, unfold_signed, width32}
use Rattle.guard.specs.Types.{Types, Variant, all_defaults, fields_of, infinite_fields, is_number, variants_of}
use Rattle.guard.proofs.Accepted.{TypeFits, VariantFits, types-at, variants_at_lem}
use Rattle.serialize.specs.Tokens.{Token, Token.plain, Token.value, guard_tokens, literal_tokens, row_tokens, type_tokens, variant_tokens}
use Rattle.serialize.proofs.Copying.{Copies, Form, Pair, concat_map-append, copies_asked, copies_bind, copies_folded, copies_number, copies_return, copies_times, copies_weaken}

module _ (one other : Form) where
  abbrev s : Source
  s = one.src

  abbrev s' : Source
  s' = other.src

  -- within a file anything may follow, at its end nothing
  abbrev within : Pair
  within = record { one = one; other = other; Follows = λ l. Unit {0} }

  abbrev whole : Pair
  whole = record { one = one; other = other; Follows = λ l. l ≡ [] }

  abbrev Copied : {A : Type 0} → Parser A → Parser A → (A → List Token → Type 0) → Type 0
  Copied p p' Q = Copies within p p' Q

  -- ---- counts, names and kinds

  abbrev Plain : (ℕ → Type 0) → ℕ → List Token → Type 0
  Plain P n ks = P n × (ks ≡ plain n ∷ [])

  copies_count : (most : ℕ) → most ≤ width32.most → Copied (count s most) (count s' most) (Plain (λ n. n ≤ most))
  copies_count most small =
      copies_number within 4 (λ n. leb n most) (λ n. return n) (λ n. return n) (Plain (λ n. n ≤ most)) (λ n e. omega (arith, leb-true n most e))
      (λ n e. copies_return within n (λ a ks. (a ≤ most) × (plain n ∷ ks ≡ plain a ∷ [])) (leb-true n most e, refl))

  copies_name : (many : ℕ) → many ≤ width32.most → Copied (name s many) (name s' many) (Plain (λ n. n < many))
  copies_name many small =
      copies_number within 5 (λ n. ltb n many) (λ n. return n) (λ n. return n) (Plain (λ n. n < many)) (λ n e. omega (arith, ltb-true n many e))
      (λ n e. copies_return within n (λ a ks. (a < many) × (plain n ∷ ks ≡ plain a ∷ [])) (ltb-true n many e, refl))

  copies_kind : Copied (kind s) (kind s') (Plain (λ n. n < 4))
  copies_kind =
      copies_number within 6 (λ n. ltb n 4) (λ n. return n) (λ n. return n) (Plain (λ n. n < 4)) (λ n e. omega (arith, ltb-true n 4 e))
      (λ n e. copies_return within n (λ a ks. (a < 4) × (plain n ∷ ks ≡ plain a ∷ [])) (ltb-true n 4 e, refl))

  -- ---- types

  each-plain : (xs : List ℕ) → concat_map (λ n. plain n ∷ []) xs ≡ map plain xs
  each-plain [] = refl
  each-plain (x ∷ xs) = ap (λ (l : List Token). plain x ∷ l) (each-plain xs)

  copies_variant : (many : ℕ) → many ≤ width32.most → Copied (variant s many) (variant s' many) (λ fs ks. VariantFits many fs × (ks ≡ variant_tokens fs))
  copies_variant many small =
      copies_bind within (count s field_limit) (count s' field_limit) _ _ (Plain (λ n. n ≤ field_limit)) (λ fs ks. VariantFits many fs × (ks ≡ variant_tokens fs)) (copies_count field_limit (omega arith))
      (λ f ks h. copies_weaken within (times f (name s many)) (times f (name s' many)) (λ xs js. (length xs ≡ f) × All (λ i. i < many) xs × (js ≡ concat_map (λ n. plain n ∷ []) xs)) (λ fs js. VariantFits many fs × (ks ++ js ≡ variant_tokens fs))
      (copies_times within f (name s many) (name s' many) (λ i. i < many) (λ n. plain n ∷ []) (copies_name many small))
      (λ xs js hx. ((omega (arith, hx.0, h.0), hx.1), ap₂ (λ (a b : List Token). a ++ b) h.1 (hx.2 ∙ each-plain xs) ∙ ap (λ (n : ℕ). plain n ∷ map plain xs) (sym hx.0))))

  copies_types : (left many total : ℕ) → many ≤ width32.most
      → Copied (types s left many total) (types s' left many total) (λ ts ks. (length ts ≡ left) × All (TypeFits many) ts × (ks ≡ concat_map type_tokens ts))
  copies_types zero many total small = copies_return within [] (λ ts ks. (length ts ≡ 0) × All (TypeFits many) ts × (ks ≡ concat_map type_tokens ts)) (refl, none, refl)
  copies_types (suc left) many total small =
      copies_number within 4 (λ v. leb v variant_limit && leb (total + v) total_variant_limit) _ _ (λ ts ks. (length ts ≡ suc left) × All (TypeFits many) ts × (ks ≡ concat_map type_tokens ts))
      (λ v e. omega (arith, leb-true v variant_limit (and_left (leb v variant_limit) (leb (total + v) total_variant_limit) e)))
      (λ v e.
      let few : v ≤ variant_limit = leb-true v variant_limit (and_left (leb v variant_limit) (leb (total + v) total_variant_limit) e) in
      copies_bind within (times v (variant s many)) (times v (variant s' many)) _ _ (λ vs ks. (length vs ≡ v) × All (VariantFits many) vs × (ks ≡ concat_map variant_tokens vs)) (Good (λ ks. plain v ∷ ks))
      (copies_times within v (variant s many) (variant s' many) (VariantFits many) variant_tokens (copies_variant many small))
      (λ vs ks hv. copies_bind within (types s left many (total + v)) (types s' left many (total + v)) _ _ (λ ts js. (length ts ≡ left) × All (TypeFits many) ts × (js ≡ concat_map type_tokens ts)) (Good (λ js. plain v ∷ (ks ++ js)))
      (copies_types left many (total + v) small)
      (λ ts js ht. copies_return within (vs ∷ ts) (Good (λ is. plain v ∷ (ks ++ (js ++ is)))) (
        ap suc ht.0,
        more (omega (arith, hv.0), hv.1) ht.1,
        ap₂ (λ (n : ℕ) (l : List Token). plain n ∷ l) (sym hv.0) (ap₂ (λ (a b : List Token). a ++ b) hv.2 (append-nil js ∙ ht.2)),
      ))))
    where
      Good : (List Token → List Token) → Types → List Token → Type 0
      Good tokens ts ks = (length ts ≡ suc left) × All (TypeFits many) ts × (tokens ks ≡ concat_map type_tokens ts)

  -- ---- term rows

  module _ (ts : Types) (rs : List Row) (few : length rs ≤ 24) (names : length ts ≤ 6) (variants : (t : ℕ) → length (variants_of ts t) ≤ variant_limit) (fields : (t v : ℕ) → length (fields_of ts t v) ≤ field_limit) where
    copies_parts : (fs : Variant) → Copied (parts s ts rs fs) (parts s' ts rs fs) (λ ps ks. ks ≡ map plain ps)
    copies_parts [] = copies_return within [] (λ ps ks. ks ≡ map plain ps) refl
    copies_parts (f ∷ fs) =
        copies_bind within (name s (length rs)) (name s' (length rs)) _ _ (Plain (λ n. n < length rs)) (λ ps ks. ks ≡ map plain ps) (copies_name (length rs) (omega arith))
        (λ p ks hp. copies_asked within 7 (eqb (type_at ts rs p) f) _ _ (λ ps js. ks ++ js ≡ map plain ps)
        (λ e. copies_bind within (parts s ts rs fs) (parts s' ts rs fs) _ _ (λ ps js. js ≡ map plain ps) (λ ps js. ks ++ js ≡ map plain ps) (copies_parts fs)
        (λ ps js hs. copies_return within (p ∷ ps) (λ xs is. ks ++ (js ++ is) ≡ map plain xs) (ap₂ (λ (a b : List Token). a ++ b) hp.1 (append-nil js ∙ hs)))))

    copies_term : Copied (variant_term s ts rs) (variant_term s' ts rs) (λ a ks. ks ≡ plain a ∷ [])
    copies_term =
        copies_bind within (name s (length rs)) (name s' (length rs)) _ _ (Plain (λ n. n < length rs)) (λ a ks. ks ≡ plain a ∷ []) (copies_name (length rs) (omega arith))
        (λ a ks h. copies_asked within 7 (not (is_number ts (type_at ts rs a))) _ _ (λ b js. ks ++ js ≡ plain b ∷ [])
        (λ e. copies_return within a (λ b js. ks ++ js ≡ plain b ∷ []) (append-nil ks ∙ h.1)))

    -- a row behind its kind
    copies_row : (k : ℕ) → Copied (row_of s ts rs k) (row_of s' ts rs k) (λ r ks. k < 4 → plain k ∷ ks ≡ row_tokens r)
    copies_row zero =
        copies_bind within (name s (length ts)) (name s' (length ts)) _ _ (Plain (λ n. n < length ts)) (λ r ks. 0 < 4 → plain 0 ∷ ks ≡ row_tokens r) (copies_name (length ts) (omega arith))
        (λ t ks h. copies_return within (variable t) (λ r js. 0 < 4 → plain 0 ∷ (ks ++ js) ≡ row_tokens r) (λ l. ap (λ (x : List Token). plain 0 ∷ (x ++ [])) h.1))
    copies_row (suc zero) =
        copies_bind within (name s (length ts)) (name s' (length ts)) _ _ (Plain (λ n. n < length ts)) (λ r ks. 1 < 4 → plain 1 ∷ ks ≡ row_tokens r) (copies_name (length ts) (omega arith))
        (λ t ks h. copies_asked within 7 (is_number ts t) _ _ (λ r js. 1 < 4 → plain 1 ∷ (ks ++ js) ≡ row_tokens r)
        (λ e. copies_bind within s.folded s'.folded _ _ (λ n js. js ≡ value (unfold_signed n) ∷ []) (λ r js. 1 < 4 → plain 1 ∷ (ks ++ js) ≡ row_tokens r) (copies_folded within)
        (λ n js hn. copies_return within (constant t (unfold_signed n)) (λ r is. 1 < 4 → plain 1 ∷ (ks ++ (js ++ is)) ≡ row_tokens r)
        (λ l. ap₂ (λ (x y : List Token). plain 1 ∷ (x ++ (y ++ []))) h.1 hn))))
    copies_row (suc (suc zero)) =
        copies_bind within (name s (length ts)) (name s' (length ts)) _ _ (Plain (λ n. n < length ts)) (λ r ks. 2 < 4 → plain 2 ∷ ks ≡ row_tokens r) (copies_name (length ts) (omega arith))
        (λ t ks h. copies_asked within 7 (not (is_number ts t)) _ _ (λ r js. 2 < 4 → plain 2 ∷ (ks ++ js) ≡ row_tokens r)
        (λ e. copies_bind within (name s (length (variants_of ts t))) (name s' (length (variants_of ts t))) _ _ (Plain (λ n. n < length (variants_of ts t))) (λ r js. 2 < 4 → plain 2 ∷ (ks ++ js) ≡ row_tokens r)
        (copies_name (length (variants_of ts t)) (omega (arith, variants t)))
        (λ v js hv. copies_bind within (parts s ts rs (fields_of ts t v)) (parts s' ts rs (fields_of ts t v)) _ _ (λ ps is. is ≡ map plain ps) (λ r is. 2 < 4 → plain 2 ∷ (ks ++ (js ++ is)) ≡ row_tokens r)
        (copies_parts (fields_of ts t v))
        (λ ps is hp. copies_return within (built t v ps) (λ r os. 2 < 4 → plain 2 ∷ (ks ++ (js ++ (is ++ os))) ≡ row_tokens r)
        (λ l. ap₂ (λ (x y : List Token). plain 2 ∷ (x ++ (y ++ (is ++ [])))) h.1 hv.1 ∙ ap (λ (x : List Token). plain 2 ∷ plain t ∷ plain v ∷ x) (append-nil is ∙ hp))))))
    copies_row (suc (suc (suc k))) =
        copies_bind within (variant_term s ts rs) (variant_term s' ts rs) _ _ (λ a ks. ks ≡ plain a ∷ []) (λ r ks. suc (suc (suc k)) < 4 → plain (suc (suc (suc k))) ∷ ks ≡ row_tokens r) copies_term
        (λ a ks h. copies_bind within (name s (length (variants_of ts (type_at ts rs a)))) (name s' (length (variants_of ts (type_at ts rs a)))) _ _ (Plain (λ n. n < length (variants_of ts (type_at ts rs a))))
        (λ r js. suc (suc (suc k)) < 4 → plain (suc (suc (suc k))) ∷ (ks ++ js) ≡ row_tokens r)
        (copies_name (length (variants_of ts (type_at ts rs a))) (omega (arith, variants (type_at ts rs a))))
        (λ v js hv. copies_bind within (name s (length (fields_of ts (type_at ts rs a) v))) (name s' (length (fields_of ts (type_at ts rs a) v))) _ _ (Plain (λ n. n < length (fields_of ts (type_at ts rs a) v)))
        (λ r is. suc (suc (suc k)) < 4 → plain (suc (suc (suc k))) ∷ (ks ++ (js ++ is)) ≡ row_tokens r)
        (copies_name (length (fields_of ts (type_at ts rs a) v)) (omega (arith, fields (type_at ts rs a) v)))
        (λ p is hp. copies_return within (field (type_at ts rs a) a v p) (λ r os. suc (suc (suc k)) < 4 → plain (suc (suc (suc k))) ∷ (ks ++ (js ++ (is ++ os))) ≡ row_tokens r)
        (λ l. ap (λ (n : ℕ). plain n ∷ (ks ++ (js ++ (is ++ [])))) (let q : suc (suc (suc k)) ≡ 3 = omega arith in q)
        ∙ ap₂ (λ (x y : List Token). plain 3 ∷ (x ++ (y ++ (is ++ [])))) h hv.1 ∙ ap (λ (x : List Token). plain 3 ∷ plain a ∷ plain v ∷ (x ++ [])) hp.1))))

    -- ---- literals

    copies_pair : (make : ℕ → ℕ → Literal) → Copied (two_terms s ts rs make) (two_terms s' ts rs make) (λ l ks. (i : ℕ) × (j : ℕ) × (l ≡ make i j) × (ks ≡ plain i ∷ plain j ∷ []))
    copies_pair make =
        copies_bind within (name s (length rs)) (name s' (length rs)) _ _ (Plain (λ n. n < length rs)) Q (copies_name (length rs) (omega arith))
        (λ i ks hi. copies_bind within (name s (length rs)) (name s' (length rs)) _ _ (Plain (λ n. n < length rs)) (λ l js. Q l (ks ++ js)) (copies_name (length rs) (omega arith))
        (λ j js hj. copies_asked within 7 (eqb (type_at ts rs i) (type_at ts rs j)) _ _ (λ l is. Q l (ks ++ (js ++ is)))
        (λ e. copies_return within (make i j) (λ l is. Q l (ks ++ (js ++ is))) (i, j, refl, ap₂ (λ (x y : List Token). x ++ (y ++ [])) hi.1 hj.1))))
      where
        Q : Literal → List Token → Type 0
        Q l ks = (i : ℕ) × (j : ℕ) × (l ≡ make i j) × (ks ≡ plain i ∷ plain j ∷ [])

    copies_tested : (make : ℕ → ℕ → Literal) → Copied (term_and_variant s ts rs make) (term_and_variant s' ts rs make) (λ l ks. (i : ℕ) × (j : ℕ) × (l ≡ make i j) × (ks ≡ plain i ∷ plain j ∷ []))
    copies_tested make =
        copies_bind within (variant_term s ts rs) (variant_term s' ts rs) _ _ (λ a ks. ks ≡ plain a ∷ []) Q copies_term
        (λ a ks ha. copies_bind within (name s (length (variants_of ts (type_at ts rs a)))) (name s' (length (variants_of ts (type_at ts rs a)))) _ _ (Plain (λ n. n < length (variants_of ts (type_at ts rs a)))) (λ l js. Q l (ks ++ js))
        (copies_name (length (variants_of ts (type_at ts rs a))) (omega (arith, variants (type_at ts rs a))))
        (λ v js hv. copies_return within (make a v) (λ l is. Q l (ks ++ (js ++ is))) (a, v, refl, ap₂ (λ (x y : List Token). x ++ (y ++ [])) ha hv.1)))
      where
        Q : Literal → List Token → Type 0
        Q l ks = (i : ℕ) × (j : ℕ) × (l ≡ make i j) × (ks ≡ plain i ∷ plain j ∷ [])

    copies_literal_of : (k : ℕ) → Copied (literal_of s ts rs k) (literal_of s' ts rs k) (λ l ks. k < 4 → plain k ∷ ks ≡ literal_tokens l)
    copies_literal_of zero =
        copies_weaken within (two_terms s ts rs equal) (two_terms s' ts rs equal) _ (λ l ks. 0 < 4 → plain 0 ∷ ks ≡ literal_tokens l) (copies_pair equal)
        (λ l ks h u. ap (λ (x : List Token). plain 0 ∷ x) h.3 ∙ ap literal_tokens (sym h.2))
    copies_literal_of (suc zero) =
        copies_weaken within (two_terms s ts rs unequal) (two_terms s' ts rs unequal) _ (λ l ks. 1 < 4 → plain 1 ∷ ks ≡ literal_tokens l) (copies_pair unequal)
        (λ l ks h u. ap (λ (x : List Token). plain 1 ∷ x) h.3 ∙ ap literal_tokens (sym h.2))
    copies_literal_of (suc (suc zero)) =
        copies_weaken within (term_and_variant s ts rs is) (term_and_variant s' ts rs is) _ (λ l ks. 2 < 4 → plain 2 ∷ ks ≡ literal_tokens l) (copies_tested is)
        (λ l ks h u. ap (λ (x : List Token). plain 2 ∷ x) h.3 ∙ ap literal_tokens (sym h.2))
    copies_literal_of (suc (suc (suc k))) =
        copies_weaken within (term_and_variant s ts rs isnt) (term_and_variant s' ts rs isnt) _ (λ l ks. suc (suc (suc k)) < 4 → plain (suc (suc (suc k))) ∷ ks ≡ literal_tokens l) (copies_tested isnt)
        (λ l ks h u. ap₂ (λ (n : ℕ) (x : List Token). plain n ∷ x) (let q : suc (suc (suc k)) ≡ 3 = omega arith in q) h.3 ∙ ap literal_tokens (sym h.2))

    copies_literal : Copied (literal s ts rs) (literal s' ts rs) (λ l ks. Unit {0} × (ks ≡ literal_tokens l))
    copies_literal =
        copies_bind within (kind s) (kind s') _ _ (Plain (λ n. n < 4)) (λ l ks. Unit {0} × (ks ≡ literal_tokens l)) copies_kind
        (λ k ks h. copies_weaken within (literal_of s ts rs k) (literal_of s' ts rs k) (λ l js. k < 4 → plain k ∷ js ≡ literal_tokens l) (λ l js. Unit {0} × (ks ++ js ≡ literal_tokens l)) (copies_literal_of k)
        (λ l js hl. (tt, ap (λ (x : List Token). x ++ js) h.1 ∙ hl h.0)))

  -- ---- rows after rows

  module _ (ts : Types) (names : length ts ≤ 6) (variants : (t : ℕ) → length (variants_of ts t) ≤ variant_limit) (fields : (t v : ℕ) → length (fields_of ts t v) ≤ field_limit) where
    copies_rows : (left : ℕ) (rs : List Row) → left + length rs ≤ 24
        → Copied (rows s left ts rs) (rows s' left ts rs) (λ xs ks. (length xs ≡ left + length rs) × (concat_map row_tokens rs ++ ks ≡ concat_map row_tokens xs))
    copies_rows zero rs small = copies_return within rs (λ xs ks. (length xs ≡ 0 + length rs) × (concat_map row_tokens rs ++ ks ≡ concat_map row_tokens xs)) (omega arith, append-nil (concat_map row_tokens rs))
    copies_rows (suc left) rs small =
        copies_bind within (kind s) (kind s') _ _ (Plain (λ n. n < 4)) (Good (λ ks. ks)) copies_kind
        (λ k ks hk. copies_bind within (row_of s ts rs k) (row_of s' ts rs k) _ _ (λ r js. k < 4 → plain k ∷ js ≡ row_tokens r) (Good (λ js. ks ++ js)) (copies_row ts rs (omega arith) names variants fields k)
        (λ r js hr. copies_weaken within (rows s left ts (rs ++ (r ∷ []))) (rows s' left ts (rs ++ (r ∷ []))) (λ xs is. (length xs ≡ left + length (rs ++ (r ∷ []))) × (concat_map row_tokens (rs ++ (r ∷ [])) ++ is ≡ concat_map row_tokens xs))
        (Good (λ is. ks ++ (js ++ is))) (copies_rows left (rs ++ (r ∷ [])) (omega (arith, length-append rs (r ∷ []))))
        (λ xs is h. (
          omega (arith, h.0, length-append rs (r ∷ [])),
          ap (λ (x : List Token). concat_map row_tokens rs ++ x) (sym (append_assoc ks js is) ∙ ap (λ (x : List Token). x ++ is) (ap (λ (x : List Token). x ++ js) hk.1 ∙ hr hk.0))
              ∙ sym (append_assoc (concat_map row_tokens rs) (row_tokens r) is) ∙ ap (λ (x : List Token). x ++ is) (sym (row_last rs r)) ∙ h.1,
        ))))
      where
        Good : (List Token → List Token) → List Row → List Token → Type 0
        Good tokens xs ks = (length xs ≡ suc left + length rs) × (concat_map row_tokens rs ++ tokens ks ≡ concat_map row_tokens xs)

        row_last : (rs : List Row) (r : Row) → concat_map row_tokens (rs ++ (r ∷ [])) ≡ concat_map row_tokens rs ++ row_tokens r
        row_last rs r = concat_map-append row_tokens rs (r ∷ []) ∙ ap (λ (x : List Token). concat_map row_tokens rs ++ x) (append-nil (row_tokens r))

  -- ---- the file

  copies_ended : (g : Guard) (P : Guard → List Token → Type 0) → P g [] → Copies whole (ended >> return g) (ended >> return g) P
  unfolding Copies
  copies_ended g P h [] a rest good e =
      let same : g ≡ a = cc in
      let left : [] ≡ rest = cc in
      ([], subst (λ x. P x []) same h, none, left, subst (All one.Good) left good, λ l none. ap (λ (x : List ℕ). (ended >> return g) x) none ∙ ap₂ (λ (x : Guard) (y : List ℕ). accepted x y) same (sym none))
  copies_ended g P h (b ∷ bs) a rest good e = let z : ◌≡◌ {A = ℕ} 0 1 = cc in absurd (omega arith)

  pub copies_file : (limits : Limits) → Supported limits → Copies whole (file_of s limits) (file_of s' limits) (λ g ks. ks ≡ guard_tokens g)
  unfolding guard_tokens
  copies_file limits sup =
      copies_bind whole (count s limits.types) (count s' limits.types) _ _ (Plain (λ n. n ≤ limits.types)) (Good (λ ks. ks)) (copies_count limits.types (omega (arith, sup.types)))
      (λ many k1 hm. copies_bind whole (types s many many 0) (types s' many many 0) _ _ (λ ts ks. (length ts ≡ many) × All (TypeFits many) ts × (ks ≡ concat_map type_tokens ts)) (Good (λ ks. k1 ++ ks)) (copies_types many many 0 (omega (arith, hm.0, sup.types)))
      (λ ts k2 ht. copies_asked whole 8 (all_defaults ts) _ _ (Good (λ ks. k1 ++ (k2 ++ ks))) (λ e8. copies_asked whole 9 (infinite_fields ts) _ _ (Good (λ ks. k1 ++ (k2 ++ ks))) (λ e9.
      let tf : (t : ℕ) → TypeFits many (variants_of ts t) = types-at many ts ht.1 in
      let vf : (t v : ℕ) → VariantFits many (fields_of ts t v) = λ t v. variants_at_lem many (variants_of ts t) (tf t).1 v in
      let few : length ts ≤ 6 = omega (arith, ht.0, hm.0, sup.types) in
      copies_bind whole (count s limits.terms) (count s' limits.terms) _ _ (Plain (λ n. n ≤ limits.terms)) (Good (λ ks. k1 ++ (k2 ++ ks))) (copies_count limits.terms (omega (arith, sup.terms)))
      (λ n k3 hn. copies_bind whole (rows s n ts []) (rows s' n ts []) _ _ (λ xs ks. (length xs ≡ n + 0) × (ks ≡ concat_map row_tokens xs)) (Good (λ ks. k1 ++ (k2 ++ (k3 ++ ks))))
      (copies_rows ts few (λ t. (tf t).0) (λ t v. (vf t v).0) n [] (omega (arith, hn.0, sup.terms)))
      (λ rs k4 hr. copies_bind whole (count s limits.lines) (count s' limits.lines) _ _ (Plain (λ n. n ≤ limits.lines)) (Good (λ ks. k1 ++ (k2 ++ (k3 ++ (k4 ++ ks))))) (copies_count limits.lines (omega (arith, sup.lines)))
      (λ l k5 hl. copies_bind whole (times l (literal s ts rs)) (times l (literal s' ts rs)) _ _ (λ ls ks. (length ls ≡ l) × All (λ x. Unit {0}) ls × (ks ≡ concat_map literal_tokens ls)) (Good (λ ks. k1 ++ (k2 ++ (k3 ++ (k4 ++ (k5 ++ ks))))))
      (copies_times within l (literal s ts rs) (literal s' ts rs) (λ x. Unit {0}) literal_tokens (copies_literal ts rs (omega (arith, hr.0, hn.0, sup.terms)) few (λ t. (tf t).0) (λ t v. (vf t v).0)))
      (λ ls k6 hls. copies_ended (record { types = ts; rows = rs; literals = ls }) (Good (λ ks. k1 ++ (k2 ++ (k3 ++ (k4 ++ (k5 ++ (k6 ++ ks)))))))
      (in_order many n l ts rs ls k1 k2 k3 k4 k5 k6 hm.1 ht.0 ht.2 hn.1 hr.0 hr.1 hl.1 hls.0 hls.2)))))))))
    where
      Good : (List Token → List Token) → Guard → List Token → Type 0
      Good tokens g ks = tokens ks ≡ guard_tokens g

      in_order : (many n l : ℕ) (ts : Types) (rs : List Row) (ls : List Literal) (k1 k2 k3 k4 k5 k6 : List Token)
          → k1 ≡ plain many ∷ [] → length ts ≡ many → k2 ≡ concat_map type_tokens ts → k3 ≡ plain n ∷ [] → length rs ≡ n + 0 → k4 ≡ concat_map row_tokens rs
          → k5 ≡ plain l ∷ [] → length ls ≡ l → k6 ≡ concat_map literal_tokens ls
          → k1 ++ (k2 ++ (k3 ++ (k4 ++ (k5 ++ (k6 ++ []))))) ≡ guard_tokens (record { types = ts; rows = rs; literals = ls })
      in_order many n l ts rs ls k1 k2 k3 k4 k5 k6 e1 a e2 e3 b e4 e5 c e6 =
          ap₂ (λ (x y : List Token). x ++ (y ++ (k3 ++ (k4 ++ (k5 ++ (k6 ++ [])))))) (e1 ∙ ap (λ (i : ℕ). plain i ∷ []) (sym a)) e2
          ∙ ap₂ (λ (x y : List Token). plain (length ts) ∷ (concat_map type_tokens ts ++ (x ++ (y ++ (k5 ++ (k6 ++ [])))))) (e3 ∙ ap (λ (i : ℕ). plain i ∷ []) (let q : n ≡ length rs = omega (arith, b) in q)) e4
          ∙ ap₂ (λ (x y : List Token). plain (length ts) ∷ (concat_map type_tokens ts ++ (plain (length rs) ∷ (concat_map row_tokens rs ++ (x ++ y))))) (e5 ∙ ap (λ (i : ℕ). plain i ∷ []) (sym c)) (append-nil k6 ∙ e6)
