-- Rows that stand renumbered among other rows: their types stay; a row or a literal that fits them fits the others, renumbered;
-- and a row has the value that it had, if the rows that it names have. Rows that keep their numbers are a case of this.
-- Assumes nothing.
use mathlib.Core.Path.{◌≡◌, refl, ap, ap₂, sym, subst, ◌∙◌}
use mathlib.Core.List.{List, map-id}
use Prim.Native.Nat.{ℕ, ◌≤◌, ◌<◌}
use native.Mathlib.Omega.{arith}
use native.Mathlib.Nat.{zero-add}
use lib.ListN.{length, get_or}
use Rattle.laws.specs.Lists.{from}
use Rattle.laws.proofs.Lists.{all_map, all_mem, from_at, map_cong, map-map}
use Rattle.guard.specs.Guard.{Literal, Literal.equal, Literal.is, Literal.isnt, Literal.unequal, Row, Row.built, Row.constant, Row.field, Row.variable, row_at, type_at, type_of}
use Rattle.guard.specs.Meaning.{read_field, value_of}
use Rattle.guard.specs.Message.{Message, Message.made, no_message, to_parts}
use Rattle.guard.specs.Types.{Types, variants_of}
use Rattle.guard.specs.WellFormed.{LiteralFits, RowFits}
use Rattle.guard.proofs.Accepted.{RowsFit}
use Rattle.merged.specs.Merge.{named, renamed_literal, renamed_row}
use Rattle.merged.proofs.Naming.{Names}

-- the row at a number is the one given, renumbered
abbrev pub StandsAt : List Row → List ℕ → ℕ → Row → Type 0
StandsAt all names q r = (q < length all) × (row_at all q ≡ renamed_row names r)

-- each of the rows stands at its name
abbrev pub Among : List Row → List ℕ → List Row → Type 0
Among all names rs = (i : ℕ) → i < length rs → StandsAt all names (named names i) (row_at rs i)

-- a variable comes from a variable
pub renamed_variable : (names : List ℕ) (r : Row) (t : ℕ) → renamed_row names r ≡ variable t → r ≡ variable t
renamed_variable names (variable u) t e = e
renamed_variable names (constant u z) t e = e
renamed_variable names (built u v ps) t e = cc
renamed_variable names (field u a v p) t e = cc

module _ (ts : Types) where
  renamed_type : (names : List ℕ) (r : Row) → type_of ts (renamed_row names r) ≡ type_of ts r
  renamed_type names (variable t) = refl
  renamed_type names (constant t z) = refl
  renamed_type names (built t v ps) = refl
  renamed_type names (field t a v p) = refl

  module _ (rs : List Row) (i : ℕ) (names : List ℕ) where
    renamed_fits : (all : List Row) (q : ℕ) (r : Row) → RowFits ts rs i r → ((p : ℕ) → p < i → (named names p < q) × (type_at ts all (named names p) ≡ type_at ts rs p))
        → RowFits ts all q (renamed_row names r)
    renamed_fits all q (variable t) f at = f
    renamed_fits all q (constant t z) f at = f
    renamed_fits all q (built t v ps) f at = (
      f.0,
      f.1,
      all_map (named names) ps (λ p m. (at p (all_mem f.2 p m)).0),
      map-map (type_at ts all) (named names) ps ∙ map_cong (λ p. type_at ts all (named names p)) (type_at ts rs) ps (λ p m. (at p (all_mem f.2 p m)).1) ∙ f.3,
    )
    renamed_fits all q (field t a v p) f at = ((at a f.0).0, (at a f.0).1 ∙ f.1, f.2, f.3)

    pub renamed_value : (ρ σ : ℕ → Message) (q : ℕ) (xs ys : List Message) (r : Row) → RowFits ts rs i r → ρ q ≡ σ i
        → ((p : ℕ) → p < i → get_or xs (named names p) no_message ≡ get_or ys p no_message) → value_of ts ρ q xs (renamed_row names r) ≡ value_of ts σ i ys r
    renamed_value ρ σ q xs ys (variable t) f e at = e
    renamed_value ρ σ q xs ys (constant t z) f e at = refl
    renamed_value ρ σ q xs ys (built t v ps) f e at =
        ap (λ (ms : List Message). made t v (to_parts ms))
        (map-map (λ p. get_or xs p no_message) (named names) ps
        ∙ map_cong (λ p. get_or xs (named names p) no_message) (λ p. get_or ys p no_message) ps (λ p m. at p (all_mem f.2 p m)))
    renamed_value ρ σ q xs ys (field t a v p) f e at = ap (read_field ts t v p) (at a f.0)

  module _ (all : List Row) (names : List ℕ) (rs : List Row) (among : Among all names rs) where
    type-kept : (i : ℕ) → i < length rs → type_at ts all (named names i) ≡ type_at ts rs i
    type-kept i h = ap (type_of ts) (among i h).1 ∙ renamed_type names (row_at rs i)

    -- a row fits that is higher than the rows that it names
    pub row_fits_lem : RowsFit ts rs → (q : ℕ) → Names names rs q → RowFits ts all q (row_at all q)
    row_fits_lem fit q n =
        let i = n.row in
        subst (λ (w : Row). RowFits ts all q w) (sym (among i n.inside).1 ∙ ap (row_at all) n.name)
        (renamed_fits rs i names all q (row_at rs i) (fit i n.inside) (λ p h. (n.higher p h, type-kept p (omega (arith, n.inside)))))

    two : (i j : ℕ) → LiteralFits ts rs (equal i j) → LiteralFits ts all (equal (named names i) (named names j))
    two i j f = ((among i f.0).0, (among j f.1).0, type-kept i f.0 ∙ f.2 ∙ sym (type-kept j f.1))

    one : (i v : ℕ) → LiteralFits ts rs (is i v) → LiteralFits ts all (is (named names i) v)
    one i v f = ((among i f.0).0, subst (λ (t : ℕ). v < length (variants_of ts t)) (sym (type-kept i f.0)) f.1)

    pub literal-fits : (l : Literal) → LiteralFits ts rs l → LiteralFits ts all (renamed_literal names l)
    literal-fits (equal i j) f = two i j f
    literal-fits (unequal i j) f = two i j f
    literal-fits (is i v) f = one i v f
    literal-fits (isnt i v) f = one i v f

-- ---- rows that keep their numbers

pub own_named : (n i : ℕ) → i < n → named (from n 0) i ≡ i
own_named n i h = from_at n 0 i 0 h ∙ zero-add i

module _ (ts : Types) (rs : List Row) where
  pub own_row : (n i : ℕ) (r : Row) → i ≤ n → RowFits ts rs i r → renamed_row (from n 0) r ≡ r
  own_row n i (variable t) l f = refl
  own_row n i (constant t z) l f = refl
  own_row n i (built t v ps) l f =
      ap (built t v) (map_cong (named (from n 0)) (λ p. p) ps (λ p m. own_named n p (omega (arith, all_mem f.2 p m))) ∙ map-id ps)
  own_row n i (field t a v p) l f = ap (λ (b : ℕ). field t b v p) (own_named n a (omega (arith, f.0)))

  pub own_literal : (n : ℕ) (l : Literal) → length rs ≤ n → LiteralFits ts rs l → renamed_literal (from n 0) l ≡ l
  own_literal n (equal i j) l f = ap₂ equal (own_named n i (omega (arith, f.0))) (own_named n j (omega (arith, f.1)))
  own_literal n (unequal i j) l f = ap₂ unequal (own_named n i (omega (arith, f.0))) (own_named n j (omega (arith, f.1)))
  own_literal n (is i v) l f = ap (λ (k : ℕ). is k v) (own_named n i (omega (arith, f.0)))
  own_literal n (isnt i v) l f = ap (λ (k : ℕ). isnt k v) (own_named n i (omega (arith, f.0)))
