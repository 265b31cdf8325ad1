-- The parts of a row: a row that shows a variant over messages names rows that show them. Assumes nothing.
use mathlib.Core.Path.{◌≡◌, refl, ap, sym, ◌∙◌, subst}
use mathlib.Core.Bool.{true, false≢true}
use mathlib.Core.List.{List, [], ◌∷◌}
use Prim.Native.Nat.{ℕ, zero, suc, ◌<◌}
use native.Mathlib.Omega.{arith}
use lib.IntN.{ℤ, pos, negsuc}
use lib.ListN.{length, get_or}
use Rattle.laws.proofs.Bools.{and_right}
use Rattle.guard.specs.Message.{Message, Message.made, no_message, to_parts}
use Rattle.guard.specs.Shown.{decode, decode_row, natural, part_count, part_messages, parts_fit, row_fits, row_numbers}
use Rattle.guard.specs.Types.{Types, Variant}
use Rattle.guard.proofs.MessageLaws.{parts_eq}
use Rattle.rowstore.specs.Store.{Stored, message_at}
use Rattle.rowstore.proofs.StoreLaws.{decode-at, decode-longer, has_variant, part-fits, tag_fields}

part_of : (ms : List Message) (i : ℕ) (fs : Variant) (xs : List ℤ) → parts_fit ms i fs xs ≡ true → (p : ℕ) → p < length (part_messages ms fs xs)
    → (p < length fs) × (natural (get_or xs p (pos 0)) < i) × (get_or (part_messages ms fs xs) p no_message ≡ get_or ms (natural (get_or xs p (pos 0))) no_message)
part_of ms i [] xs f p h = absurd (omega arith)
part_of ms i (t ∷ fs) [] f p h = absurd (false≢true f)
part_of ms i (t ∷ fs) (x ∷ xs) f zero h = (omega arith, (part-fits ms i t fs x xs f).1, refl)
part_of ms i (t ∷ fs) (x ∷ xs) f (suc p) h =
    let (a, b, c) = part_of ms i fs xs (part-fits ms i t fs x xs f).3 p (omega arith) in
    (omega arith, b, c)

-- part p of the message that row r shows
pub record PartOf (ts : Types) (rows : List ℤ) (many r p : ℕ) (m : Message) : Type 0 where
  pub counted : p < part_count ts (row_numbers rows r)
  pub below : natural (get_or (row_numbers rows r) (suc p) (pos 0)) < many
  pub shows : message_at ts rows many (natural (get_or (row_numbers rows r) (suc p) (pos 0))) ≡ m

module _ (ts : Types) (rows : List ℤ) (many : ℕ) (stored : Stored ts rows many) where
  pub row-part : (r : ℕ) → r < many → (t v : ℕ) (ms : List Message) → message_at ts rows many r ≡ made t v (to_parts ms) → (p : ℕ) → p < length ms → PartOf ts rows many r p (get_or ms p no_message)
  row-part r h t v ms e p l = go (row_numbers rows r) refl (sym (decode-at ts rows r many h) ∙ e) (stored.fit r h)
    where
      go : (xs : List ℤ) → row_numbers rows r ≡ xs → decode_row ts (decode ts rows r) (row_numbers rows r) ≡ made t v (to_parts ms) → row_fits ts (decode ts rows r) r (row_numbers rows r) ≡ true → PartOf ts rows many r p (get_or ms p no_message)
      go [] q d f = absurd (false≢true (sym (ap (row_fits ts (decode ts rows r) r) q) ∙ f))
      go (negsuc u ∷ xs) q d f =
          let z = sym (ap (decode_row ts (decode ts rows r)) q) ∙ d in
          let y : ◌≡◌ {A = ℕ} 0 1 = cc in absurd (omega arith)
      go (pos k ∷ xs) q d f =
          let z = sym (ap (decode_row ts (decode ts rows r)) q) ∙ d in
          let same : to_parts (part_messages (decode ts rows r) (tag_fields ts k) xs) ≡ to_parts ms = cc in
          let parts : part_messages (decode ts rows r) (tag_fields ts k) xs ≡ ms = parts_eq _ _ same in
          let fit : parts_fit (decode ts rows r) r (tag_fields ts k) xs ≡ true = and_right (has_variant ts k) _ (sym (ap (row_fits ts (decode ts rows r) r) q) ∙ f) in
          let (a, b, c) = part_of (decode ts rows r) r (tag_fields ts k) xs fit p (subst (λ (n : List Message). p < length n) (sym parts) l) in
          let j : ℕ = natural (get_or xs p (pos 0)) in
          let at : natural (get_or (row_numbers rows r) (suc p) (pos 0)) ≡ j = ap (λ (ys : List ℤ). natural (get_or ys (suc p) (pos 0))) q in
          record {
            counted = subst (λ (ys : List ℤ). p < part_count ts ys) (sym q) a;
            below = omega (arith, at, b);
            shows = ap (message_at ts rows many) at ∙ sym (decode-longer ts rows j r many b (omega arith)) ∙ sym c ∙ ap (λ (n : List Message). get_or n p no_message) parts;
          }
