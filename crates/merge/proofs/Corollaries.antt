-- Request #107, of what `merge` answers and leaves. Assumes nothing.
use mathlib.Core.Path.{◌≡◌, refl, ap, sym, subst, ◌∙◌}
use mathlib.Core.Bool.{Bool, true, false, cond}
use mathlib.Core.List.{List, []}
use mathlib.Core.Logic.{◌↔◌}
use Prim.Native.Nat.{ℕ, ◌≤◌}
use native.Mathlib.Omega.{arith}
use lib.ListN.{length, take}
use Rattle.std.specs.Prelude.{Ok}
use Rattle.laws.proofs.Bools.{by_test}
use Rattle.guard.specs.File.{file}
use Rattle.guard.specs.Guard.{Guard}
use Rattle.guard.specs.Limits.{base, total_variant_limit}
use Rattle.guard.specs.Meaning.{Holds}
use Rattle.guard.specs.Message.{Message}
use Rattle.guard.specs.Number.{Parsed, Parsed.accepted, Parsed.refused}
use Rattle.guard.specs.WellFormed.{WellFormed}
use Rattle.guard.proofs.Accepted.{accepted-ended, accepted-total, accepted_well_formed}
use Rattle.guard.proofs.Claims.{at-most_585, base-supported}
use Rattle.tables.specs.Layout.{flat}
use Rattle.reader.proofs.TablesRead.{file-question}
use Rattle.encoding.proofs.Parsers.{not_accepted}
use Rattle.serialize.specs.Tokens.{bytes_of}
use Rattle.serialize.proofs.Theorems.{well_formed-file}
use Rattle.heldparts.proofs.FromGuard.{holds-types}
use Rattle.filewriter.specs.Writer.{answer_to, left_by}
use Rattle.filewriter.proofs.Answers.{room-told, wrote}
use Rattle.sametypes.proofs.SamePart.{same-held}
use Rattle.merged.specs.Merge.{asked, asked_of_same, has_room, merged, merged_by, merged_file, same_bytes, same_variables, type_part}
use Rattle.merged.specs.PartsOf.{second_part}
use Rattle.merged.proofs.MergedFits.{merged_well_formed}
use Rattle.merged.proofs.Satisfied.{both_hold, holds-both}

-- two files that are taken, and the guard that is made of theirs
pub record Merges (first second : List ℕ) (m : Guard) : Type 0 where
  pub one : Guard
  pub other : Guard
  pub first-is : file base first ≡ accepted one []
  pub second_is : file base second ≡ accepted other []
  pub is : m ≡ merged one other
  pub types : one.types ≡ other.types
  pub variables : same_variables one other ≡ true
  pub room : has_room base (merged one other) ≡ true

-- what is asked of two guards, by the tests
tests : (g h : Guard) (t v w : Bool) → same_bytes (type_part g.types) (type_part h.types) ≡ t → same_variables g h ≡ v → has_room base (merged g h) ≡ w
    → asked base g h ≡ cond t (cond v (cond w (accepted (merged g h) []) (refused 4)) (refused 16)) (refused 15)
unfolding asked asked_of_same
tests g h t v w et ev ew = rw et (rw ev (rw ew refl))

module _ (first second : List ℕ) where
  -- files that are merged
  pub merges : (m : Guard) (rest : List ℕ) → merged_file base first second ≡ accepted m rest → Merges first second m
  unfolding merged_file
  merges m rest e = go (file base first) (file base second) refl refl e
    where
      ended : (bytes : List ℕ) (g : Guard) (l : List ℕ) → file base bytes ≡ accepted g l → file base bytes ≡ accepted g []
      ended bytes g l e = e ∙ ap (accepted g) (accepted-ended base bytes g l e)

      same-guard : {g h : Guard} {l k : List ℕ} → Path (Parsed Guard) (accepted g l) (accepted h k) → h ≡ g
      same-guard e = cc

      go : (p r : Parsed Guard) → file base first ≡ p → file base second ≡ r → merged_by base p r ≡ accepted m rest → Merges first second m
      go (refused q) r ep er e = absurd (not_accepted q m rest e)
      go (accepted g l) (refused q) ep er e = absurd (not_accepted q m rest e)
      go (accepted g l) (accepted h k) ep er e =
          by_test (same_bytes (type_part g.types) (type_part h.types))
          (λ t. by_test (same_variables g h)
          (λ v. by_test (has_room base (merged g h))
          (λ w.
          let formed = accepted_well_formed base base-supported in
          record {
            one = g;
            other = h;
            first-is = ended first g l ep;
            second_is = ended second h k er;
            is = same-guard (sym (tests g h true true true t v w) ∙ e);
            types = same-held (holds-types base base-supported g (formed first g l ep) (accepted-total base base-supported first g l ep)) (holds-types base base-supported h (formed second h k er) (accepted-total base base-supported second h k er)) t;
            variables = v;
            room = w;
          })
          (λ w. absurd (not_accepted 4 m rest (sym (tests g h true true false t v w) ∙ e))))
          (λ v. absurd (not_accepted 16 m rest (sym (tests g h true false (has_room base (merged g h)) t v refl) ∙ e))))
          (λ t. absurd (not_accepted 15 m rest (sym (tests g h false (same_variables g h) (has_room base (merged g h)) t refl refl) ∙ e)))

  -- a question has its number
  pub merge-question : (q : ℕ) → merged_file base first second ≡ refused q → ¬ (q ≡ 0)
  unfolding merged_file
  merge-question q e z = go (file base first) (file base second) refl refl e
    where
      same-question : {k : ℕ} → Path (Parsed Guard) (refused k) (refused q) → k ≡ q
      same-question e = cc

      go : (p r : Parsed Guard) → file base first ≡ p → file base second ≡ r → merged_by base p r ≡ refused q → ⊥
      go (refused k) r ep er e = file-question base first k ep (same-question e ∙ z)
      go (accepted g l) (refused k) ep er e = file-question base second k er (same-question e ∙ z)
      go (accepted g l) (accepted h k) ep er e =
          by_test (same_bytes (type_part g.types) (type_part h.types))
          (λ t. by_test (same_variables g h)
          (λ v. by_test (has_room base (merged g h)) (λ w. not_accepted q (merged g h) [] (sym e ∙ tests g h true true true t v w)) (λ w. omega (arith, z, same-question (sym (tests g h true true false t v w) ∙ e))))
          (λ v. omega (arith, z, same-question (sym (tests g h true false (has_room base (merged g h)) t v refl) ∙ e))))
          (λ t. omega (arith, z, same-question (sym (tests g h false (same_variables g h) (has_room base (merged g h)) t refl refl) ∙ e)))

module _ {first second : List ℕ} {m : Guard} (k : Merges first second m) where
  formed-one : WellFormed base k.one
  formed-one = accepted_well_formed base base-supported first k.one [] k.first-is

  formed-other : WellFormed base k.other
  formed-other = accepted_well_formed base base-supported second k.other [] k.second_is

  formed : WellFormed base (merged k.one k.other)
  formed = merged_well_formed base k.one k.other formed-one formed-other k.types k.variables k.room

  total : length (flat (merged k.one k.other).types) ≤ total_variant_limit
  unfolding merged
  total = accepted-total base base-supported first k.one [] k.first-is

  -- "takes two accepted files and writes one": what is written is a file of the merged guard
  pub merged-accepted : file base (bytes_of m) ≡ accepted m []
  merged-accepted = subst (λ (x : Guard). file base (bytes_of x) ≡ accepted x []) (sym k.is) (well_formed-file base base-supported (merged k.one k.other) formed total)

  -- "An assignment satisfies the merged guard exactly if its parts satisfy the two."
  pub merged-holds : (ρ : ℕ → Message) → Holds m ρ ↔ (Holds k.one ρ × Holds k.other (second_part k.one k.other ρ))
  merged-holds ρ = (
    (λ h. holds-both base k.one k.other formed-one formed-other k.types k.variables ρ (subst (λ (x : Guard). Holds x ρ) k.is h)),
    (λ h. subst (λ (x : Guard). Holds x ρ) (sym k.is) (both_hold base k.one k.other formed-one formed-other k.types k.variables ρ h.0 h.1)),
  )

module _ (first second : List ℕ) (n : ℕ) where
  -- the bytes that stand in the buffer are a file of the merged guard
  pub merged-read : (k : ℕ) → answer_to (merged_file base first second) n ≡ Ok k
      → (m : Guard) × Merges first second m × (file base (take k (left_by (merged_file base first second) n)) ≡ accepted m [])
  merged-read k told =
      let w = wrote bytes_of (merged_file base first second) n k told in
      let m = merges first second w.value w.rest w.is in
      (w.value, m, ap (file base) w.stand ∙ merged-accepted m)

  -- no file has more than 585 bytes, so a buffer of 585 is never too short
  merged-bytes : (m : Guard) (rest : List ℕ) → merged_file base first second ≡ accepted m rest → length (bytes_of m) ≤ 585
  merged-bytes m rest e = at-most_585 (bytes_of m) m [] (merged-accepted (merges first second m rest e))

  pub few-merged : (k : ℕ) → answer_to (merged_file base first second) n ≡ Ok k → k ≤ 585
  few-merged k told = let w = wrote bytes_of (merged_file base first second) n k told in omega (arith, w.many, merged-bytes w.value w.rest w.is)

  pub never_short : (m : Guard) (rest : List ℕ) → merged_file base first second ≡ accepted m rest → 585 ≤ n → answer_to (merged_file base first second) n ≡ Ok (length (bytes_of m))
  never_short m rest e h = room-told bytes_of e n (omega (arith, merged-bytes m rest e))
