-- The whole record: the buffer holds it and zeros, or zeros alone. Assumes nothing.
use mathlib.Core.Path.{◌≡◌, refl, ap, ap₂, sym, ◌∙◌}
use mathlib.Core.Bool.{Bool, true, false, cond}
use mathlib.Core.List.{List, []}
use Prim.Native.Nat.{ℕ}
use lib.Dec.{leb}
use lib.ListN.{length, take, replicate}
use lib.Seq.{take_at}
use Rattle.std.specs.Prelude.{Option, Some, None}
use Rattle.laws.proofs.Bools.{by_test}
use Rattle.guard.specs.Guard.{Guard}
use Rattle.reader.specs.declared.Tables.{Tables}
use Rattle.reader.specs.Reader.{guard_tables}
use Rattle.search.specs.Nodes.{Accepted}
use Rattle.roots.specs.Guards.{GuardsTables}
use Rattle.refutations.specs.Record.{record_bytes}
use Rattle.bytebuffer.proofs.FillLaws.{ends_there, filled_with, fills, fits-room, no_room, outgrows}
use Rattle.rootwriter.specs.RootRecord.{RootPuts}
use Rattle.recordwriter.specs.Records.{IsRecord, Records, written_of}

-- ---- the buffer

-- by whether the bytes fit
module _ (bytes : List ℕ) (n : ℕ) where
  pub written_with : leb (length bytes) n ≡ true → written_of bytes n ≡ Some (length bytes)
  written_with q = ap (λ (b : Bool). cond b (Some (length bytes)) None) q

  pub written_none : leb (length bytes) n ≡ false → written_of bytes n ≡ None
  written_none q = ap (λ (b : Bool). cond b (Some (length bytes)) None) q

module _ {tables : Tables} (out : List ℕ) {blank : List ℕ} (clear : blank ≡ replicate (length out) 0) {out' : List ℕ} where
  pub record_fits : {many : ℕ} → RootPuts tables blank (Some many) out' → Records tables (Some many) out out'
  record_fits w =
      record {
        says = λ g ok is.
            ap (λ (k : ℕ). Some k) (ends_there out clear (w.puts g ok is))
            ∙ sym (written_with (record_bytes g) (length out) (fits-room out clear (w.puts g ok is)));
        left = λ g ok is. fills out clear (w.puts g ok is);
      }

  pub record_outgrows : RootPuts tables blank None out' → {last : List ℕ} → last ≡ replicate (length out') 0 → Records tables None out last
  record_outgrows w e =
      record {
        says = λ g ok is. sym (written_none (record_bytes g) (length out) (no_room out clear (w.puts g ok is)));
        left = λ g ok is. outgrows out clear (w.puts g ok is) e;
      }

-- ---- the front part

-- none are no bytes
abbrev pub count_of : Option ℕ → ℕ
count_of (Some many) = many
count_of None = 0

module _ {tables : Tables} {out : List ℕ} {r : Option ℕ} {out' : List ℕ} (w : Records tables r out out') where
  many_with : (g : Guard) → Accepted g → tables ≡ guard_tables g → leb (length (record_bytes g)) (length out) ≡ true → count_of r ≡ length (record_bytes g)
  many_with g ok is q = ap count_of (w.says g ok is ∙ written_with (record_bytes g) (length out) q)

  many-none : (g : Guard) → Accepted g → tables ≡ guard_tables g → leb (length (record_bytes g)) (length out) ≡ false → count_of r ≡ 0
  many-none g ok is q = ap count_of (w.says g ok is ∙ written_none (record_bytes g) (length out) q)

  pub front_part : IsRecord tables (length out) (take (count_of r) out')
  front_part = record { is = part }
    where
      part : (g : Guard) → Accepted g → tables ≡ guard_tables g → take (count_of r) out' ≡ cond (leb (length (record_bytes g)) (length out)) (record_bytes g) []
      part g ok is =
          by_test (leb (length (record_bytes g)) (length out))
          (λ q. ap₂ (λ (k : ℕ) (xs : List ℕ). take k xs) (many_with g ok is q) (w.left g ok is ∙ filled_with (record_bytes g) (length out) q) ∙ take_at (record_bytes g) _ (length (record_bytes g)) refl
          ∙ sym (ap (λ (b : Bool). cond b (record_bytes g) []) q))
          (λ q. ap (λ (k : ℕ). take k out') (many-none g ok is q) ∙ sym (ap (λ (b : Bool). cond b (record_bytes g) []) q))

  pub part_length : GuardsTables tables → count_of r ≡ length (take (count_of r) out')
  part_length gt =
      by_test (leb (length (record_bytes gt.guard)) (length out)) (λ q. many_with gt.guard gt.accepted gt.is q ∙ sym (ap length (part true q)))
      (λ q. many-none gt.guard gt.accepted gt.is q ∙ sym (ap length (part false q)))
    where
      part : (b : Bool) → leb (length (record_bytes gt.guard)) (length out) ≡ b → take (count_of r) out' ≡ cond b (record_bytes gt.guard) []
      part b q = front_part.is gt.guard gt.accepted gt.is ∙ ap (λ (b : Bool). cond b (record_bytes gt.guard) []) q
