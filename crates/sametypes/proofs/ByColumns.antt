-- Two tables of types, compared column by column. Assumes nothing.
use mathlib.Core.Path.{◌≡◌, refl, ap, sym, ◌∙◌}
use mathlib.Core.Bool.{Bool, true, false, ◌&&◌, false≢true}
use mathlib.Core.List.{List, [], ◌∷◌}
use Prim.Native.Nat.{ℕ}
use lib.Dec.{eqb}
use lib.Pointwise.{pointwise}
use borrow.Author.Tests.{eq-eqb, eqb-true}
use Rattle.std.specs.Cmp.Lexicographic.{same_text}
use Rattle.laws.proofs.Bools.{and_both, and_left, and_right}
use Rattle.tables.specs.declared.TypeTable.{TypeTable}
use Rattle.sametypes.specs.Same.{SameTypes}
use Rattle.sametypes.proofs.SamePart.{tables_differ, tables-same}

pointwise-refl : (xs : List ℕ) → pointwise eqb xs xs ≡ true
pointwise-refl [] = refl
pointwise-refl (x ∷ xs) = and_both (eqb x x) (pointwise eqb xs xs) (eq-eqb x x refl) (pointwise-refl xs)

-- the tests of the code
abbrev pub alike : TypeTable → TypeTable → Bool
alike a b =
    eqb a.many b.many && (pointwise eqb a.variants b.variants && (pointwise eqb a.first b.first && (pointwise eqb a.arities b.arities && pointwise eqb a.sorts b.sorts)))

alike-refl : (t : TypeTable) → alike t t ≡ true
alike-refl t =
    and_both _ _ (eq-eqb _ _ refl) (and_both _ _ (pointwise-refl t.variants) (and_both _ _ (pointwise-refl t.first) (and_both _ _ (pointwise-refl t.arities) (pointwise-refl t.sorts))))

alike-same : (a b : TypeTable) → alike a b ≡ true → a ≡ b
alike-same a b e =
    let after-many = and_right (eqb a.many b.many) _ e in
    let after-variants = and_right (pointwise eqb a.variants b.variants) _ after-many in
    let after-first = and_right (pointwise eqb a.first b.first) _ after-variants in
    let m : a.many ≡ b.many = eqb-true _ _ (and_left _ _ e) in
    let v : a.variants ≡ b.variants = same_text _ _ (sym (and_left _ _ after-many)) in
    let f : a.first ≡ b.first = same_text _ _ (sym (and_left _ _ after-variants)) in
    let r : a.arities ≡ b.arities = same_text _ _ (sym (and_left _ _ after-first)) in
    let s : a.sorts ≡ b.sorts = same_text _ _ (sym (and_right (pointwise eqb a.arities b.arities) _ after-first)) in
    let same : ◌≡◌ {A = TypeTable} (record { many = a.many; variants = a.variants; first = a.first; arities = a.arities; sorts = a.sorts }) (record { many = b.many; variants = b.variants; first = b.first; arities = b.arities; sorts = b.sorts }) = cc in
    same

pub same_is : (a b : TypeTable) (r : Bool) → r ≡ alike a b → SameTypes a b r
same_is a b true e = record { is = λ ts us h k. tables-same h k (alike-same a b (sym e)) }
same_is a b false e = record { is = λ ts us h k. tables_differ h k (λ q. false≢true (e ∙ ap (alike a) (sym q) ∙ alike-refl a)) }
