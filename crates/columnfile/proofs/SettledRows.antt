-- Rows restored from columns have as many numbers as the parser of rows reads, so its answer doesn't depend on what follows them. Assumes nothing.
use mathlib.Core.Path.{◌≡◌, refl, ap, sym, subst, ◌∙◌}
use mathlib.Core.Bool.{Bool, true, not}
use mathlib.Core.List.{List, [], ◌∷◌, ◌++◌, append-nil}
use Prim.Native.Nat.{ℕ, zero, suc, ◌+◌, ◌≤◌, ◌<◌}
use native.Mathlib.Omega.{arith}
use lib.Dec.{eqb, ltb}
use lib.ListN.{length, take, length-take}
use Rattle.laws.specs.All.{All, All.more, All.none}
use Rattle.laws.specs.Lists.{concat_map}
use Rattle.guard.specs.File.{kind, name, parts, row_of, rows, variant_term}
use Rattle.guard.specs.Guard.{Row, Row.built, Row.constant, Row.field, Row.variable, type_at}
use Rattle.guard.specs.Number.{Parser, ◌>>=◌, ◌>>◌, ask, return, unfold_signed, unsigned_of, value_width, width32}
use Rattle.guard.specs.Types.{Types, Variant, fields_of, is_number, variants_of}
use Rattle.columnfile.specs.Columns.{bytes_for, width}
use Rattle.columnfile.proofs.Gives.{gives-value}
use Rattle.columnfile.proofs.Settles.{Settles, regroup, settles_as, settles_asked, settles_bind, settles_first, settles_given, settles_return, settles_second}

-- numbers of a row: all have 32 bits but a constant's value
pub record Sized (k s v : ℕ) (ps : List ℕ) : Type 0 where
  pub kind : k ≤ width32.most
  pub second : s ≤ width32.most
  pub third : ¬ (k ≡ 1) → v ≤ width32.most
  pub value : v ≤ value_width.most
  pub many : length ps ≡ 3
  pub parts : All (λ p. p ≤ width32.most) ps

-- the numbers of a row with these
abbrev pub numbers : Types → ℕ → ℕ → ℕ → List ℕ → List ℕ
numbers ts k s v ps = take (width ts k s v) (k ∷ s ∷ v ∷ ps)

all_take : {P : ℕ → Type 0} (n : ℕ) {xs : List ℕ} → All P xs → All P (take n xs)
all_take zero h = none
all_take (suc n) none = none
all_take (suc n) (more p h) = more p (all_take n h)

module _ (ts : Types) (rs : List Row) where
  settles_parts : (fs : Variant) (ps : List ℕ) → length ps ≡ length fs → All (λ p. p ≤ width32.most) ps → Settles (parts ts rs fs) (bytes_for ps)
  settles_parts [] [] e h = settles_return []
  settles_parts [] (p ∷ ps) e h = absurd (omega (arith, e))
  settles_parts (f ∷ fs) [] e h = absurd (omega (arith, e))
  settles_parts (f ∷ fs) (p ∷ ps) e (more small h) =
      settles_first 5 p (λ i. ltb i (length rs)) small _ ps
      (λ l. settles_asked 7 (eqb (type_at ts rs p) f) _
      (λ t. subst (λ (bs : List ℕ). Settles (parts ts rs fs >>= λ qs. return (p ∷ qs)) bs) (append-nil (bytes_for ps))
      (settles_bind (parts ts rs fs) _ (settles_parts fs ps (omega (arith, e)) h) (λ qs. settles_return (p ∷ qs)))))

  -- after the kind
  settles_row : (fits : (t v : ℕ) → length (fields_of ts t v) ≤ 3) (k s v : ℕ) (ps : List ℕ) → Sized k s v ps → (ns : List ℕ) → numbers ts k s v ps ≡ k ∷ ns → Settles (row_of ts rs k) (bytes_for ns)
  settles_row fits zero s v ps z ns e =
      let is : ns ≡ s ∷ [] = cc in
      subst (λ (l : List ℕ). Settles (row_of ts rs 0) (bytes_for l)) (sym is) (settles_first 5 s (λ i. ltb i (length ts)) z.second _ [] (λ l. settles_return (variable s)))
  settles_row fits (suc zero) s v ps z ns e =
      let is : ns ≡ s ∷ v ∷ [] = cc in
      subst (λ (l : List ℕ). Settles (row_of ts rs 1) (bytes_for l)) (sym is)
      (settles_first 5 s (λ i. ltb i (length ts)) z.second _ (v ∷ [])
      (λ l. settles_asked 7 (is_number ts s) _ (λ t. settles_given (unsigned_of value_width) v _ [] (gives-value v z.value) (settles_return (constant s (unfold_signed v))))))
  settles_row fits (suc (suc zero)) s v ps z ns e =
      let w : 3 + length (fields_of ts s v) ≡ suc (suc (suc (length (fields_of ts s v)))) = omega arith in
      let whole : take (suc (suc (suc (length (fields_of ts s v))))) (2 ∷ s ∷ v ∷ ps) ≡ 2 ∷ ns = ap (λ (k : ℕ). take k (2 ∷ s ∷ v ∷ ps)) (sym w) ∙ e in
      let is : ns ≡ s ∷ v ∷ take (length (fields_of ts s v)) ps = cc in
      let many : length (take (length (fields_of ts s v)) ps) ≡ length (fields_of ts s v) = omega (arith, length-take (length (fields_of ts s v)) ps, z.many, fits s v) in
      subst (λ (l : List ℕ). Settles (row_of ts rs 2) (bytes_for l)) (sym is)
      (settles_first 5 s (λ i. ltb i (length ts)) z.second _ (v ∷ take (length (fields_of ts s v)) ps)
      (λ l. settles_asked 7 (not (is_number ts s)) _
      (λ t. settles_first 5 v (λ i. ltb i (length (variants_of ts s))) (z.third (λ q. omega (arith, q))) _ (take (length (fields_of ts s v)) ps)
      (λ m. subst (λ (bs : List ℕ). Settles (parts ts rs (fields_of ts s v) >>= λ qs. return (built s v qs)) bs) (append-nil (bytes_for (take (length (fields_of ts s v)) ps)))
      (settles_bind (parts ts rs (fields_of ts s v)) _ (settles_parts (fields_of ts s v) (take (length (fields_of ts s v)) ps) many (all_take (length (fields_of ts s v)) z.parts)) (λ qs. settles_return (built s v qs)))))))
  settles_row fits (suc (suc (suc k))) s v [] z ns e = absurd (omega (arith, z.many))
  settles_row fits (suc (suc (suc k))) s v (p ∷ ps) z ns e =
      let is : ns ≡ s ∷ v ∷ p ∷ [] = cc in
      subst (λ (l : List ℕ). Settles (row_of ts rs (suc (suc (suc k)))) (bytes_for l)) (sym is)
      (settles_as (name (length rs) >>= λ a. (ask 7 (not (is_number ts (type_at ts rs a))) >> return a) >>= after) (row_of ts rs (suc (suc (suc k)))) (λ l. sym (regroup (λ a. ask 7 (not (is_number ts (type_at ts rs a))) >> return a) after (name (length rs) l)))
      (settles_first 5 s (λ i. ltb i (length rs)) z.second _ (v ∷ p ∷ [])
      (λ l. settles_second 7 s (not (is_number ts (type_at ts rs s))) after
      (λ t. settles_first 5 v (λ i. ltb i (length (variants_of ts (type_at ts rs s)))) (z.third (λ q. omega (arith, q))) _ (p ∷ [])
      (λ m. settles_first 5 p (λ i. ltb i (length (fields_of ts (type_at ts rs s) v))) (first_small z.parts) _ [] (λ o. settles_return (field (type_at ts rs s) s v p)))))))
    where
      after : ℕ → Parser Row
      after a = name (length (variants_of ts (type_at ts rs a))) >>= λ v. name (length (fields_of ts (type_at ts rs a) v)) >>= λ p. return (field (type_at ts rs a) a v p)

      first_small : {q : ℕ} {qs : List ℕ} → All (λ p. p ≤ width32.most) (q ∷ qs) → q ≤ width32.most
      first_small (more h hs) = h

-- ---- rows after rows

-- a row's numbers begin with its kind
with_kind : (ts : Types) (k s v : ℕ) (ps : List ℕ) → (ns : List ℕ) × (numbers ts k s v ps ≡ k ∷ ns)
with_kind ts zero s v ps = (_, refl)
with_kind ts (suc zero) s v ps = (_, refl)
with_kind ts (suc (suc zero)) s v ps = let w : 3 + length (fields_of ts s v) ≡ suc (suc (suc (length (fields_of ts s v)))) = omega arith in (_, ap (λ (k : ℕ). take k (2 ∷ s ∷ v ∷ ps)) w)
with_kind ts (suc (suc (suc k))) s v ps = (_, refl)

-- a row as its numbers
pub data Shaped (ts : Types) : List ℕ → Type 0 where
  shaped : (k s v : ℕ) (ps : List ℕ) → Sized k s v ps → Shaped ts (numbers ts k s v ps)

module _ (ts : Types) (fits : (t v : ℕ) → length (fields_of ts t v) ≤ 3) where
  pub settles_rows : (xss : List (List ℕ)) (rs : List Row) → All (Shaped ts) xss → Settles (rows (length xss) ts rs) (concat_map bytes_for xss)
  settles_rows [] rs none = settles_return rs
  settles_rows (xs ∷ xss) rs (more (shaped k s v ps z) h) =
      let (ns, e) = with_kind ts k s v ps in
      settles_as ((kind >>= row_of ts rs) >>= λ r. rows (length xss) ts (rs ++ (r ∷ []))) (rows (suc (length xss)) ts rs) (λ l. regroup (row_of ts rs) (λ r. rows (length xss) ts (rs ++ (r ∷ []))) (kind l))
      (settles_bind (kind >>= row_of ts rs) (λ r. rows (length xss) ts (rs ++ (r ∷ [])))
      (subst (λ (l : List ℕ). Settles (kind >>= row_of ts rs) (bytes_for l)) (sym e) (settles_first 6 k (λ i. ltb i 4) z.kind (row_of ts rs) ns (λ l. settles_row ts rs fits k s v ps z ns e)))
      (λ r. settles_rows xss (rs ++ (r ∷ [])) h))
