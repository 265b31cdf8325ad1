-- No list is refused with 0: a refusal is by a question. Assumes nothing.
use mathlib.Core.Path.{◌≡◌, refl, ap, ◌∙◌}
use mathlib.Core.Bool.{Bool, true, false}
use mathlib.Core.List.{List, [], ◌∷◌, map}
use Prim.Native.Nat.{ℕ, ◌<◌}
use native.Mathlib.Omega.{arith}
use lib.Dec.{leb}
use lib.IntN.{ℤ}
use Rattle.guard.specs.Grammar.{Source, count, file_of, types}
use Rattle.guard.specs.Limits.{Limits}
use Rattle.guard.specs.Number.{Parsed, Parsed.accepted, Parsed.refused, ask, fold_signed, unfold_signed, value_width}
use Rattle.guard.specs.Types.{all_defaults, infinite_fields}
use Rattle.guard.proofs.Refusals.{Asks, asks_asked, asks_bind, asks_count, asks_file_lem, asks_return, asks_types, taken}
use Rattle.serialize.specs.NumberList.{list_file, next, number_list, number_types, types_asked, unless_refused, unsigned_by}

asks_last : (b : Bool) → Asks (ask 18 b)
asks_last true bs q e = taken e
asks_last false bs q e = let z : 18 ≡ q = cc in omega arith

asks_types_part : (src : Source) → Asks src.number → Asks src.folded → (limits : Limits) → Asks (types_asked src limits)
asks_types_part src numbers values limits =
    asks_bind (count src limits.types) _ (asks_count src numbers values limits.types)
    (λ many. asks_bind (types src many many 0) _ (asks_types src numbers values many many 0)
    (λ ts. asks_asked 8 (all_defaults ts) _ (omega arith) (asks_asked 9 (infinite_fields ts) _ (omega arith) (asks_last (leb (number_types ts) 1)))))

asks_next : Asks next
asks_next [] q e = let z : 2 ≡ q = cc in omega arith
asks_next (w ∷ ws) q e = taken e

asks_numbers : Asks number_list.number
asks_numbers = asks_bind next _ asks_next (λ w. asks_return (unsigned_by (unfold_signed w)))

asks_values : Asks number_list.folded
asks_values = asks_bind next _ asks_next (λ w. asks_asked 3 (leb w value_width.most) _ (omega arith) (asks_return w))

pub list_question : (limits : Limits) (zs : List ℤ) (q : ℕ) → list_file limits zs ≡ refused q → 0 < q
unfolding list_file
list_question limits zs q = go (types_asked number_list limits numbers) refl
  where
    numbers : List ℕ
    numbers = map fold_signed zs

    go : (r : Parsed (Unit {0})) → types_asked number_list limits numbers ≡ r → unless_refused r (file_of number_list limits numbers) ≡ refused q → 0 < q
    go (refused q') i e = let z : q' ≡ q = cc in asks_types_part number_list asks_numbers asks_values limits numbers q (i ∙ ap refused z)
    go (accepted u rest) i e = asks_file_lem number_list asks_numbers asks_values limits numbers q e
