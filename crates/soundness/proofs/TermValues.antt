-- The value of every term under an assignment. A row has the value that `Meaning` gives it; a sibling field has the field
-- of the term read, at its own position, as a field row would; the term of a default has the default. Every value is then
-- a message of its term's type: by induction over rows, since a row names only rows before it. Assumes nothing.
use mathlib.Core.Path.{◌≡◌, refl, ap, sym, ◌∙◌, subst}
use mathlib.Core.Bool.{Bool, true, false, cond, false≢true}
use mathlib.Core.List.{List, [], ◌∷◌, ◌++◌, map, Memᴰ}
use mathlib.Core.Logic.{◌⊎◌, inl, inr}
use Prim.Native.Nat.{ℕ, zero, suc, ◌+◌, ◌≤◌, ◌<◌, ◌-◌, ◌/◌, ◌%◌}
use native.Mathlib.Omega.{arith}
use lib.Dec.{eqb, ltb}
use lib.ListN.{length, get_or, length-append, get_or-append}
use borrow.Author.Tests.{eqb-true, eqb-false, lt-ltb, le-ltb}
use lib.Seq.{get_or-append_seam}
use native.Mathlib.Nat.{add-zero, zero-add}
use Rattle.laws.specs.All.{All, All.more, All.none}
use Rattle.laws.specs.Lists.{from}
use Rattle.laws.proofs.Bools.{cond_ind}
use Rattle.laws.proofs.Lists.{all_get_d, all_mem, map_cong, map-from-at, map-from-length}
use Rattle.guard.specs.Guard.{Guard, Row, Row.built, Row.constant, Row.field, Row.variable, row_at, type_at, type_of}
use Rattle.guard.specs.Limits.{Limits, Supported}
use Rattle.guard.specs.Meaning.{Assigns, BelongAll, Belongs, read_field, value_of, values, values_from}
use Rattle.guard.specs.Message.{Message, Message.made, Message.number, no_message, part_at, to_parts}
use Rattle.guard.specs.Terms.{Term, default_term, field_terms, pair_terms, sibling_term, table_of}
use Rattle.guard.specs.Types.{Types, Variant, absent_field, default_of, field_type, fields_of, variants_of}
use Rattle.guard.specs.WellFormed.{RowFits, WellFormed}
use Rattle.guard.proofs.DefaultLaws.{default-belongs, default-is}
use Rattle.guard.proofs.MessageLaws.{belong_all, part-belongs, variant-type}
use Rattle.guard.proofs.TableLaws.{few-rows, read_inv, row-fit, term_inv}

-- the position of sibling k of a read at position p: the siblings are the other positions, in order
abbrev pub sibling_position : ℕ → ℕ → ℕ
sibling_position p k = cond (ltb k p) k (suc k)

-- the value of sibling k of a row, which is a field row where it has siblings
abbrev pub sibling_value : Types → (ℕ → Message) → Row → ℕ → Message
sibling_value ts val (variable t) k = no_message
sibling_value ts val (constant t z) k = no_message
sibling_value ts val (built t v ps) k = no_message
sibling_value ts val (field t a v p) k = read_field ts t v (sibling_position p k) (val a)

-- the value of a row
abbrev pub row_value : Guard → (ℕ → Message) → ℕ → Message
row_value g ρ i = get_or (values g ρ) i no_message

-- row, sibling field or default, by the number of the term
pub term_value : Guard → (ℕ → Message) → ℕ → Message
term_value g ρ i =
    cond (ltb i (sibling_term 0)) (row_value g ρ i)
    (cond (ltb i (default_term 0)) (sibling_value g.types (row_value g ρ) (row_at g.rows ((i - sibling_term 0) / 2)) ((i - sibling_term 0) % 2))
    (default_of g.types (i - default_term 0)))

-- what a row says of the values of terms
abbrev pub RowEquation : Types → (ℕ → Message) → (ℕ → Message) → ℕ → Row → Type 0
RowEquation ts ρ val i (variable t) = val i ≡ ρ i
RowEquation ts ρ val i (constant t z) = val i ≡ number t z
RowEquation ts ρ val i (built t v ps) = val i ≡ made t v (to_parts (map val ps))
RowEquation ts ρ val i (field t a v p) = val i ≡ read_field ts t v p (val a)

-- ---- the values of a list of rows

module _ (ts : Types) (ρ : ℕ → Message) where
  -- the value of the row after those whose values are given
  abbrev pub next : List Message → Row → List Message
  next vals r = value_of ts ρ (length vals) vals r ∷ []

  -- later rows change no value
  pub kept : (rs : List Row) (vals : List Message) (i : ℕ) → i < length vals → get_or (values_from ts ρ vals rs) i no_message ≡ get_or vals i no_message
  kept [] vals i h = refl
  kept (r ∷ rs) vals i h =
      kept rs (vals ++ next vals r) i (omega (arith, length-append vals (next vals r)))
      ∙ get_or-append vals (next vals r) no_message i h

  -- row k comes from values that agree with the final ones on all rows before it
  comes_from : (rs : List Row) (vals : List Message) (k : ℕ) → k < length rs
      → (before : List Message) × ((j : ℕ) → j < length vals + k → get_or before j no_message ≡ get_or (values_from ts ρ vals rs) j no_message)
      × (get_or (values_from ts ρ vals rs) (length vals + k) no_message ≡ value_of ts ρ (length vals + k) before (row_at rs k))
  comes_from [] vals k h = absurd (omega arith)
  comes_from (r ∷ rs) vals zero h =
      rw add-zero (
        vals,
        (λ j hj. sym (kept (r ∷ rs) vals j hj)),
        kept rs (vals ++ next vals r) (length vals) (omega (arith, length-append vals (next vals r)))
            ∙ get_or-append_seam vals (value_of ts ρ (length vals) vals r) [] no_message,
      )
  comes_from (r ∷ rs) vals (suc k) h =
      let e : length (vals ++ next vals r) + k ≡ length vals + suc k = omega (arith, length-append vals (next vals r)) in
      rw (← e) (comes_from rs (vals ++ next vals r) k (omega arith))

  -- a row's value depends only on those of the rows before it
  depends : (rs : List Row) (i : ℕ) (w : Row) → RowFits ts rs i w → (xs ys : List Message) → ((j : ℕ) → j < i → get_or xs j no_message ≡ get_or ys j no_message) → value_of ts ρ i xs w ≡ value_of ts ρ i ys w
  depends rs i (variable t) f xs ys h = refl
  depends rs i (constant t z) f xs ys h = refl
  depends rs i (built t v ps) f xs ys h =
      ap (λ (ms : List Message). made t v (to_parts ms)) (map_cong (λ p. get_or xs p no_message) (λ p. get_or ys p no_message) ps (λ p m. h p (all_mem f.2 p m)))
  depends rs i (field t a v p) f xs ys h = ap (read_field ts t v p) (h a f.0)

-- ---- the terms of a read's fields, by position

module _ {A : Type 0} (f at : ℕ → A) (r p s n : ℕ) (own : f r ≡ at p) (lower : (k : ℕ) → k < p → f (s + k) ≡ at k) (higher : (k : ℕ) → p ≤ k → suc k < n → f (s + k) ≡ at (suc k)) where
  -- from position q on; `sib` is the next sibling: q of them are passed, or one less after the row itself
  fields-from : (fs : Variant) (q sib : ℕ) → q + length fs ≤ n → ((q ≤ p) × (sib ≡ s + q)) ⊎ ((p < q) × (suc sib ≡ s + q)) → map f (field_terms r p q sib fs) ≡ map at (from (length fs) q)
  fields-from [] q sib l h = refl
  fields-from (x ∷ fs) q sib l h = go (fields-from fs (suc q)) (eqb p q) refl h
    where
      go : ((sib : ℕ) → suc q + length fs ≤ n → ((suc q ≤ p) × (sib ≡ s + suc q)) ⊎ ((p < suc q) × (suc sib ≡ s + suc q)) → map f (field_terms r p (suc q) sib fs) ≡ map at (from (length fs) (suc q)))
          → (b : Bool) → eqb p q ≡ b → ((q ≤ p) × (sib ≡ s + q)) ⊎ ((p < q) × (suc sib ≡ s + q))
          → map {B = A} f (elim b [ true ↦ r ∷ field_terms r p (suc q) sib fs | false ↦ sib ∷ field_terms r p (suc q) (suc sib) fs ]) ≡ at q ∷ map at (from (length fs) (suc q))
      go ih true e (inl (b, z)) =
          let d : p ≡ q = eqb-true p q e in
          let x : f r ≡ at q = own ∙ ap at d in
          let y : map f (field_terms r p (suc q) sib fs) ≡ map at (from (length fs) (suc q)) = ih sib (omega arith) (inr (omega arith, omega arith)) in
          cc
      go ih true e (inr (b, z)) = let d : p ≡ q = eqb-true p q e in absurd (omega arith)
      go ih false e (inl (b, z)) =
          let d : ¬ (p ≡ q) = eqb-false p q e in
          let x : f sib ≡ at q = ap f z ∙ lower q (omega arith) in
          let y : map f (field_terms r p (suc q) (suc sib) fs) ≡ map at (from (length fs) (suc q)) = ih (suc sib) (omega arith) (inl (omega arith, omega arith)) in
          cc
      go ih false e (inr (b, z)) =
          let z1 : sib ≡ s + (q - 1) = omega arith in
          let z2 : suc (q - 1) ≡ q = omega arith in
          let x : f sib ≡ at q = ap f z1 ∙ higher (q - 1) (omega arith) (omega arith) ∙ ap at z2 in
          let y : map f (field_terms r p (suc q) (suc sib) fs) ≡ map at (from (length fs) (suc q)) = ih (suc sib) (omega arith) (inr (omega arith, omega arith)) in
          cc

module _ (g : Guard) (ρ : ℕ → Message) where
  -- ---- the three kinds of terms

  pub value_row : (i : ℕ) → i < sibling_term 0 → term_value g ρ i ≡ get_or (values g ρ) i no_message
  unfolding term_value
  value_row i h = rw (lt-ltb i (sibling_term 0) h) refl

  pub value-default : (t : ℕ) → term_value g ρ (default_term t) ≡ default_of g.types t
  unfolding term_value
  value-default t =
      let z : default_term t - default_term 0 ≡ t = omega arith in
      rw (le-ltb (default_term t) (sibling_term 0) (omega arith), le-ltb (default_term t) (default_term 0) (omega arith), z) refl

  pub value_sibling : (r k : ℕ) → r < 24 → k < 2 → term_value g ρ (sibling_term r + k) ≡ sibling_value g.types (row_value g ρ) (row_at g.rows r) k
  unfolding term_value
  value_sibling r k hr hk =
      let a : (sibling_term r + k - sibling_term 0) / 2 ≡ r = omega arith in
      let b : (sibling_term r + k - sibling_term 0) % 2 ≡ k = omega arith in
      rw (le-ltb (sibling_term r + k) (sibling_term 0) (omega arith), lt-ltb (sibling_term r + k) (default_term 0) (omega arith), a, b) refl

module _ (limits : Limits) (sup : Supported limits) (g : Guard) (ok : WellFormed limits g) (ρ : ℕ → Message) where
  abbrev ts : Types
  ts = g.types

  abbrev val : ℕ → Message
  val = term_value g ρ

  -- ---- the values satisfy the rows

  -- the values of a guard's rows are those of its rows over themselves
  pub values_fixed : (i : ℕ) → i < length g.rows → get_or (values g ρ) i no_message ≡ value_of ts ρ i (values g ρ) (row_at g.rows i)
  values_fixed i h =
      let (before, agrees, q) = comes_from ts ρ g.rows [] i h in
      (rw zero-add at q) ∙ depends ts ρ g.rows i (row_at g.rows i) (ok.rows i h) before (values g ρ) (λ j hj. agrees j (omega arith))

  row_small : (i : ℕ) → i < length g.rows → i < sibling_term 0
  row_small i h = omega (arith, few-rows limits sup g ok)

  pub row_equation : (i : ℕ) (w : Row) → i < length g.rows → row_at g.rows i ≡ w → RowEquation ts ρ val i w
  row_equation i w h e = go w (row-fit limits sup g ok i w h e) (value_row g ρ i (row_small i h) ∙ values_fixed i h ∙ ap (value_of ts ρ i (values g ρ)) e)
    where
      earlier : (j : ℕ) → j < i → get_or (values g ρ) j no_message ≡ val j
      earlier j hj = sym (value_row g ρ j (omega (arith, row_small i h)))

      go : (w : Row) → RowFits ts g.rows i w → val i ≡ value_of ts ρ i (values g ρ) w → RowEquation ts ρ val i w
      go (variable t) f q = q
      go (constant t z) f q = q
      go (built t v ps) f q = q ∙ ap (λ (ms : List Message). made t v (to_parts ms)) (map_cong (λ p. get_or (values g ρ) p no_message) val ps (λ p m. earlier p (all_mem f.2 p m)))
      go (field t a v p) f q = q ∙ ap (read_field ts t v p) (earlier a f.0)

  -- the row itself and its siblings have the reads of all fields of the variant
  pub read-fields : (i t a v p : ℕ) → i < length g.rows → row_at g.rows i ≡ field t a v p
      → map val (field_terms i p 0 (sibling_term i) (fields_of ts t v)) ≡ map (λ q. read_field ts t v q (val a)) (from (length (fields_of ts t v)) 0)
  read-fields i t a v p h e =
      fields-from val at i p (sibling_term i) (length (fields_of ts t v)) (row_equation i (field t a v p) h e)
      (λ k hk. sibling k (omega (arith, f.3, ok.field_counts t v)) ∙ ap at (ap (λ (b : Bool). cond b k (suc k)) (lt-ltb k p hk)))
      (λ k hk hn. sibling k (omega (arith, ok.field_counts t v)) ∙ ap at (ap (λ (b : Bool). cond b k (suc k)) (le-ltb k p hk)))
      (fields_of ts t v) 0 (sibling_term i) (omega arith) (inl (omega arith, omega arith))
    where
      f : RowFits ts g.rows i (field t a v p)
      f = row-fit limits sup g ok i (field t a v p) h e

      at : ℕ → Message
      at q = read_field ts t v q (val a)

      sibling : (k : ℕ) → k < 2 → val (sibling_term i + k) ≡ read_field ts t v (sibling_position p k) (val a)
      sibling k hk =
          value_sibling g ρ i k (row_small i h) hk ∙ ap (λ (w : Row). sibling_value ts (row_value g ρ) w k) e
          ∙ ap (read_field ts t v (sibling_position p k)) (sym (value_row g ρ a (omega (arith, row_small i h, f.0))))

  -- ---- every value is a message of its term's type

  pub default_of_belongs : (t : ℕ) → t < length ts → Belongs ts (default_of ts t) t
  default_of_belongs t h =
      let (m, e) = ok.ready t h in
      subst (λ (n : Message). Belongs ts n t) (sym (default-is ts t m e)) (default-belongs ts t m e)

  read-belongs : (m : Message) (t v p : ℕ) → v < length (variants_of ts t) → p < length (fields_of ts t v) → Belongs ts m t
      → Belongs ts (read_field ts t v p m) (field_type ts t v p)
  read-belongs (number u z) t v p hv hp b = absurd (false≢true (sym (variant-type ts t v hv) ∙ b.1))
  read-belongs (made u w ms) t v p hv hp b =
      cond_ind (λ m. Belongs ts m (field_type ts t v p)) (eqb v w) (part_at ms p no_message) (absent_field ts t v p)
      (λ e. part-belongs ts ms (fields_of ts t v) p hp (subst (λ (x : ℕ). BelongAll ts ms (fields_of ts t x)) (sym (eqb-true v w e)) b.2))
      (λ e. default_of_belongs (field_type ts t v p) (all_get_d (ok.field_types t v) p 0 hp))

  module _ (assigns : Assigns g ρ) where
    rows-below : (n i : ℕ) → i < n → i < length g.rows → Belongs ts (val i) (type_at ts g.rows i)
    rows-below zero i h l = absurd (omega arith)
    rows-below (suc n) i h l = go (rows-below n) (row_at g.rows i) refl
      where
        parts : ((j : ℕ) → j < n → j < length g.rows → Belongs ts (val j) (type_at ts g.rows j))
            → (ps : List ℕ) → All (λ p. p < i) ps → BelongAll ts (to_parts (map val ps)) (map (type_at ts g.rows) ps)
        parts ih [] none = tt
        parts ih (p ∷ ps) (more b bs) = (ih p (omega arith) (omega arith), parts ih ps bs)

        go : ((j : ℕ) → j < n → j < length g.rows → Belongs ts (val j) (type_at ts g.rows j))
            → (w : Row) → row_at g.rows i ≡ w → Belongs ts (val i) (type_of ts w)
        go ih (variable t) e = rw (row_equation i (variable t) l e) (assigns.belongs i t e)
        go ih (constant t z) e = rw (row_equation i (constant t z) l e) (refl, (row-fit limits sup g ok i (constant t z) l e).1)
        go ih (built t v ps) e =
            let f : RowFits ts g.rows i (built t v ps) = row-fit limits sup g ok i (built t v ps) l e in
            rw (row_equation i (built t v ps) l e) (refl, f.1, subst (BelongAll ts (to_parts (map val ps))) f.3 (parts ih ps f.2))
        go ih (field t a v p) e =
            let f : RowFits ts g.rows i (field t a v p) = row-fit limits sup g ok i (field t a v p) l e in
            rw (row_equation i (field t a v p) l e)
            (read-belongs (val a) t v p f.2 f.3 (subst (Belongs ts (val a)) f.1 (ih a (omega (arith, f.0)) (omega (arith, f.0)))))

    pub row-belongs : (i : ℕ) → i < length g.rows → Belongs ts (val i) (type_at ts g.rows i)
    row-belongs i h = rows-below (suc i) i (omega arith) h

    -- the term that a field row reads
    pub read-term-belongs : (i t a v p : ℕ) → i < length g.rows → row_at g.rows i ≡ field t a v p → Belongs ts (val a) t
    read-term-belongs i t a v p h e =
        let f : RowFits ts g.rows i (field t a v p) = row-fit limits sup g ok i (field t a v p) h e in
        subst (Belongs ts (val a)) f.1 (row-belongs a (omega (arith, f.0)))

    pair-belongs : (ps fs : List ℕ) → BelongAll ts (to_parts (map val ps)) fs → (x : Term) → Memᴰ x (pair_terms ps fs) → Belongs ts (val x.term) x.type
    pair-belongs [] fs b x x4 = elim x4 [ ]
    pair-belongs (p ∷ ps) [] b x _ = elim b [ ]
    pair-belongs (p ∷ ps) (f ∷ fs) b x (Memᴰ.head e) = subst (λ (y : Term). Belongs ts (val y.term) y.type) (sym e) b.0
    pair-belongs (p ∷ ps) (f ∷ fs) b x (Memᴰ.tail m) = pair-belongs ps fs b.1 x m

    sibling_belongs : (i t a v p : ℕ) → i < length g.rows → row_at g.rows i ≡ field t a v p
        → (x : Term) → Memᴰ x (pair_terms (field_terms i p 0 (sibling_term i) (fields_of ts t v)) (fields_of ts t v)) → Belongs ts (val x.term) x.type
    sibling_belongs i t a v p h e =
        pair-belongs (field_terms i p 0 (sibling_term i) (fields_of ts t v)) (fields_of ts t v)
        (rw (read-fields i t a v p h e)
        (belong_all ts (map at (from (length (fields_of ts t v)) 0)) (fields_of ts t v) (map-from-length at (length (fields_of ts t v)) 0)
        (λ k hk. rw (map-from-at at (length (fields_of ts t v)) 0 k no_message hk, zero-add k)
        (read-belongs (val a) t v k (row-fit limits sup g ok i (field t a v p) h e).2 hk (read-term-belongs i t a v p h e)))))
      where
        at : ℕ → Message
        at q = read_field ts t v q (val a)

    pub term-belongs : (x : Term) → Memᴰ x (table_of g).terms → Belongs ts (val x.term) x.type
    term-belongs =
        term_inv g (λ x. Belongs ts (val x.term) x.type) row-belongs
        (read_inv g (λ r. (x : Term) → Memᴰ x (pair_terms r.fields (fields_of ts r.type r.variant)) → Belongs ts (val x.term) x.type) sibling_belongs)
        (λ t h. rw (value-default g ρ t) (default_of_belongs t h))
