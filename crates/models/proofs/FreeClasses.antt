-- A free class of variant type holds a variant with fields. Otherwise its label would be empty, and the node closed; or
-- one fieldless variant alone, and the class a node without parts; or two or more variants, all fieldless, and the node
-- would split. So the message of such a class can start with a variant that has fields. Assumes nothing.
use mathlib.Core.Path.{◌≡◌, refl, ap, sym, ◌∙◌, subst}
use mathlib.Core.Bool.{Bool, true, false, not, false≢true, ◌&&◌}
use mathlib.Core.List.Memᴰ
use mathlib.Core.List.{List, [], ◌∷◌, Memᴰ}
use mathlib.Core.Logic.{◌⊎◌, inl, inr}
use Prim.Native.Nat.{ℕ, ◌<◌}
use native.Mathlib.Omega.{arith}
use lib.Dec.{eqb, leb, ltb}
use lib.ListN.{length, get_or}
use borrow.Author.Tests.{eqb-true, eqb-false, ltb-true, ltb-false, leb-false, not-true, not-false}
use mathlib.Core.Option.{Option, none, some}
use native.Mathlib.Nat.{zero-add}
use Rattle.laws.specs.Bits.{bit}
use Rattle.laws.specs.Lists.{find, from, member}
use Rattle.laws.proofs.Bools.{and_both, and-false, and_left, and_right, by_test}
use Rattle.laws.proofs.Lists.{all_true, filter-is, filter_mem, find_none, find-some, from_bounds, length-nil, mem_from}
use Rattle.laws.proofs.Members.{member_of}
use Rattle.guard.specs.Closure.{LacksAt, State, class_of, closure_of, label_of, lacks}
use Rattle.guard.specs.Guard.{Literal}
use Rattle.guard.specs.Node.{variants_left}
use Rattle.guard.specs.Terms.{Table, Term, fieldless}
use Rattle.guard.specs.Types.{fields_of, is_number, variants_of}
use Rattle.guard.proofs.LeastClosure.{closure_least}
use Rattle.guard.proofs.TableLaws.{fieldless_has}
use Rattle.growth.proofs.Injective.{Kind, Kind.free}
use Rattle.models.proofs.Classes.{IsClass, Reason, Reason.built, Reason.constant, Reason.nullary, Reason.unfixed, const≢free, kind_of, node≢free, reason, term_type_lem, type-at}
use Rattle.models.proofs.Nodes.{OpenNode, TypedNode, alone-held, label_held}

module _ (t : Table) (ls : List Literal) (type : ℕ → ℕ) (n : TypedNode t ls type) (o : OpenNode t ls) where
  abbrev S : State
  S = closure_of t ls

  abbrev cls : ℕ → ℕ
  cls i = class_of (closure_of t ls) i

  abbrev kind : ℕ → Kind
  kind = kind_of t ls type n o

  -- variant v of class c has fields, and is in the label
  pub record HeldVariant (c v : ℕ) : Type 0 where
    pub variant : v < length (variants_of t.types (type c))
    pub fields : 0 < length (fields_of t.types (type c) v)
    pub held : (x : Term) → Memᴰ x t.terms → cls x.term ≡ c → ¬ LacksAt S x.term v

  -- a label of type u holds variant v, which has fields
  abbrev with_fields : ℕ → ℕ → ℕ → Bool
  with_fields label u v = not (eqb (bit label v) 0) && not (eqb (length (fields_of t.types u v)) 0)

  abbrev or_zero : Option ℕ → ℕ
  or_zero none = 0
  or_zero (some v) = v

  abbrev lowest_of : ℕ → ℕ → ℕ
  lowest_of label u = or_zero (find (with_fields label u) (from (length (variants_of t.types u)) 0))

  -- the lowest variant with fields in the label of a class
  pub lowest_held : ℕ → ℕ
  lowest_held c = lowest_of (get_or S.labels c 0) (type c)

  module _ (x : Term) (m : Memᴰ x t.terms) where
    abbrev many : ℕ
    many = length (variants_of t.types x.type)

    abbrev left : List ℕ
    left = variants_left t S x

    -- the fieldless variants of its type
    abbrev bare : List ℕ
    bare = fieldless 0 (variants_of t.types x.type)

    -- what is not left is lacking
    not_left : (u : ℕ) → (Memᴰ u left → ⊥) → LacksAt S x.term u
    not_left u k =
        by_test (ltb u many) (λ r. by_test (lacks S x.term u) (λ e. eqb-true _ _ e)
        (λ e. absurd (k (filter_mem (λ v. not (lacks S x.term v)) (from many 0) u (mem_from many 0 u (omega arith) (omega (arith, ltb-true u many r))) (ap not e)))))
        (λ r. (closure_least t ls n.in_range n.literals_in_range).rules.beyond x u m (ltb-false u many r))

    -- no variant left, or one alone that is fieldless: neither can be
    not_few : is_number t.types x.type ≡ false → kind (cls x.term) ≡ free → (us : List ℕ) → left ≡ us → length us < 2 → ((v : ℕ) → Memᴰ v us → Memᴰ v bare) → ⊥
    not_few e q [] r h f =
        alone-held t ls n.in_range n.literals_in_range x.term 0 (omega arith) (label_held t ls S o.not_closed x m e) (λ u hu ne. all_lack u) (all_lack 0)
      where
        all_lack : (u : ℕ) → LacksAt S x.term u
        all_lack u = not_left u (λ k. Memᴰ.not-nil (subst (Memᴰ u) r k))
    not_few e q (v ∷ []) r h f = go (reason t ls type n o (cls x.term))
      where
        one : (u : ℕ) → Memᴰ u (v ∷ []) → u ≡ v
        one u (Memᴰ.tail x9) = elim x9 [ ]
        one u (Memᴰ.head d) = d

        go : Reason t ls type n o (cls x.term) (kind (cls x.term)) → ⊥
        go (built b mb qb k) = node≢free (sym k ∙ q)
        go (nullary y w my qy fy a k) = node≢free (sym k ∙ q)
        go (constant a ma qa k) = const≢free (sym k ∙ q)
        go (unfixed g g' j k) = j x v m refl (f v (Memᴰ.head refl)) (λ u hu ne. not_left u (λ i. ne (one u (subst (Memᴰ u) r i))))
    not_few e q (v ∷ w ∷ us) r h f = omega arith

    none_with_fields : is_number t.types x.type ≡ false → kind (cls x.term) ≡ free → ((v : ℕ) → Memᴰ v (from many 0) → with_fields (label_of S x.term) x.type v ≡ false) → ⊥
    none_with_fields e q f = not_few e q left refl (by_test (leb 2 (length left)) many-left (leb-false 2 (length left))) plain
      where
        plain : (v : ℕ) → Memᴰ v left → Memᴰ v bare
        plain v k = go (and-false (not (eqb (bit (label_of S x.term) v) 0)) (not (eqb (length (fields_of t.types x.type v)) 0)) (f v (filter-is (λ v. not (lacks S x.term v)) (from many 0) v k).0))
          where
            go : (not (eqb (bit (label_of S x.term) v) 0) ≡ false) ⊎ (not (eqb (length (fields_of t.types x.type v)) 0) ≡ false) → Memᴰ v bare
            go (inl r) = absurd (false≢true (sym r ∙ (filter-is (λ v. not (lacks S x.term v)) (from many 0) v k).1))
            go (inr r) =
                let (i, s) = filter-is (λ v. not (lacks S x.term v)) (from many 0) v k in
                subst (λ (w : ℕ). Memᴰ w bare) (zero-add v) (fieldless_has 0 v (variants_of t.types x.type) (omega (arith, (from_bounds many 0 v i).1)) (length-nil _ (eqb-true _ _ (not-false _ r))))

        many-left : leb 2 (length left) ≡ true → length left < 2
        many-left r =
            absurd (false≢true (sym (o.no_term x m) ∙ and_both (leb 2 (length left)) _ r
            (all_true (λ v. member v bare) left (λ v k. member_of v bare (plain v k)))))

    held_at : is_number t.types x.type ≡ false → kind (cls x.term) ≡ free → HeldVariant (cls x.term) (lowest_held (cls x.term))
    unfolding lowest_held
    held_at e q = subst (λ (u : ℕ). HeldVariant (cls x.term) (lowest_of (label_of S x.term) u)) (sym (term_type_lem t ls type n o x m)) (go (find (with_fields (label_of S x.term) x.type) (from many 0)) refl)
      where
        held : (v : ℕ) → v < many → with_fields (label_of S x.term) x.type v ≡ true → HeldVariant (cls x.term) v
        held v h r =
            let ne : ¬ (length (fields_of t.types x.type v) ≡ 0) = eqb-false _ _ (not-true _ (and_right (not (eqb (bit (label_of S x.term) v) 0)) _ r)) in
            let some-field : 0 < length (fields_of t.types x.type v) = omega arith in
            record {
              variant = subst (λ (u : ℕ). v < length (variants_of t.types u)) (sym (term_type_lem t ls type n o x m)) h;
              fields = subst (λ (u : ℕ). 0 < length (fields_of t.types u v)) (sym (term_type_lem t ls type n o x m)) some-field;
              held = λ y my ey l. eqb-false _ _ (not-true _ (and_left (not (eqb (bit (label_of S x.term) v) 0)) _ r)) ((closure_least t ls n.in_range n.literals_in_range).rules.shared ey l);
            }

        go : (p : Option ℕ) → find (with_fields (label_of S x.term) x.type) (from many 0) ≡ p → HeldVariant (cls x.term) (or_zero p)
        go (some v) r = let (i, s) = find-some (with_fields (label_of S x.term) x.type) (from many 0) v r in held v (omega (arith, (from_bounds many 0 v i).1)) s
        go none r = absurd (none_with_fields e q (find_none (with_fields (label_of S x.term) x.type) (from many 0) r))

  pub lowest-held : (c : ℕ) → IsClass t ls type n o c → kind c ≡ free → is_number t.types (type c) ≡ false → HeldVariant c (lowest_held c)
  lowest-held c (x, m, e) q r =
      subst (λ (d : ℕ). HeldVariant d (lowest_held d)) e (held_at x m (ap (is_number t.types) (sym (type-at t ls type n o x m c e)) ∙ r) (ap kind e ∙ q))
