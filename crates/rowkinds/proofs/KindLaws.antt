-- What is known of the row that a parser of a kind accepts: its kind, and what its type and parts are good for. Assumes nothing.
use Rattle.std.proofs.Common.{◌≡◌, refl, ap, subst, not, List, [], ◌∷◌, ℕ, zero, suc, ◌<◌, eqb, length, get_or, arith}
use Rattle.guard.specs.File.{name}
use Rattle.guard.specs.Guard.{Row, Row.built, Row.constant, Row.field, Row.variable}
use Rattle.guard.specs.Number.{Parsed, Parsed.accepted, Parsed.refused, Parser, and_then, ask, unsigned_of, value_width}
use Rattle.guard.specs.Types.{Types, Variant, fields_of, is_number, variants_of}
use Rattle.rowparts.specs.ByTypes.{parts_by, row_by, variant_term_by}
use Rattle.rowparts.proofs.BelowLaws.{below-small}
use Rattle.tables.specs.Layout.{row_kind}

-- what is accepted has the property
abbrev Each : {A : Type 0} → (A → Type 0) → Parsed A → Type 0
Each P (refused q) = Unit {0}
Each P (accepted a rest) = P a

then : {A B : Type 0} (Q : B → Type 0) (r : Parsed A) (f : A → Parser B) → ((a : A) (bs : List ℕ) → r ≡ accepted a bs → Each Q (f a bs)) → Each Q (and_then f r)
then Q (refused q) f h = tt
then Q (accepted a bs) f h = h a bs refl

parts-many : (us : List ℕ) (fs : Variant) (bs : List ℕ) → Each (λ ps. length ps ≡ length fs) (parts_by us fs bs)
parts-many us [] bs = refl
parts-many us (f ∷ fs) bs =
    then _ (name (length us) bs) _ (λ p bs e. then _ (ask 7 (eqb (get_or us p 0) f) bs) _ (λ u bs e.
    then _ (parts_by us fs bs) _ (λ ps rest e. ap suc (subst (Each (λ ps. length ps ≡ length fs)) e (parts-many us fs bs)))))

-- the type is there, or the field, and a built row has a part for each field
abbrev pub RowShape : Types → Row → Type 0
RowShape ts (variable t) = t < length ts
RowShape ts (constant t z) = t < length ts
RowShape ts (built t v ps) = (t < length ts) × (length ps ≡ length (fields_of ts t v))
RowShape ts (field t a v p) = p < length (fields_of ts t v)

abbrev OfKind : Types → ℕ → Row → Type 0
OfKind ts k r = (row_kind r ≡ k) × RowShape ts r

of-kind : (ts : Types) (us : List ℕ) (k : ℕ) (bs : List ℕ) → k < 4 → Each (OfKind ts k) (row_by ts us k bs)
of-kind ts us zero bs h = then (OfKind ts 0) (name (length ts) bs) _ (λ t rest e. (refl, below-small (length ts) 5 t bs rest e))
of-kind ts us (suc zero) bs h =
    then (OfKind ts 1) (name (length ts) bs) _ (λ t cs e. then (OfKind ts 1) (ask 7 (is_number ts t) cs) _ (λ u ds a.
    then (OfKind ts 1) (unsigned_of value_width ds) _ (λ n rest v. (refl, below-small (length ts) 5 t bs cs e))))
of-kind ts us (suc (suc zero)) bs h =
    then (OfKind ts 2) (name (length ts) bs) _ (λ t cs e. then (OfKind ts 2) (ask 7 (not (is_number ts t)) cs) _ (λ u ds a.
    then (OfKind ts 2) (name (length (variants_of ts t)) ds) _ (λ v es b. then (OfKind ts 2) (parts_by us (fields_of ts t v) es) _ (λ ps rest d.
    (refl, (below-small (length ts) 5 t bs cs e, subst (Each (λ ps. length ps ≡ length (fields_of ts t v))) d (parts-many us (fields_of ts t v) es)))))))
of-kind ts us (suc (suc (suc k))) bs h =
    let three : 3 ≡ suc (suc (suc k)) = omega arith in
    then (OfKind ts (suc (suc (suc k)))) (variant_term_by ts us bs) _ (λ a cs e. then (OfKind ts (suc (suc (suc k)))) (name (length (variants_of ts (get_or us a 0))) cs) _ (λ v ds b.
    then (OfKind ts (suc (suc (suc k)))) (name (length (fields_of ts (get_or us a 0) v)) ds) _ (λ p rest d. (three, below-small (length (fields_of ts (get_or us a 0) v)) 5 p ds rest d))))

module _ (ts : Types) (us : List ℕ) (k : ℕ) (bs : List ℕ) (r : Row) (rest : List ℕ) (small : k < 4) (read : row_by ts us k bs ≡ accepted r rest) where
  read-is : OfKind ts k r
  read-is = subst (Each (OfKind ts k)) read (of-kind ts us k bs small)

  pub kind-is : row_kind r ≡ k
  kind-is = read-is.0

  pub row-shape : RowShape ts r
  row-shape = read-is.1
