-- A picture of an open node is a model of the guard: each row's value is its term's message, and every literal holds.
-- Row by row: a variable is given its message, a constant and a built row have theirs by the picture. For a field read,
-- the label of the term read is the variant alone, and the term is the variant built from the row and its siblings, or
-- it lacks the variant, and the row is in the default's class, whose message is the default by induction over how
-- defaults arise. An equality joins its terms in one class, and an inequality parts two of one type. Assumes nothing.
use mathlib.Core.Path.{◌≡◌, refl, ap, sym, ◌∙◌, subst}
use mathlib.Core.Bool.{Bool, true, false, cond}
use mathlib.Core.List.{List, [], ◌∷◌, Memᴰ, ◌++◌, map}
use mathlib.Core.Logic.{◌⊎◌, inl, inr}
use Prim.Native.Nat.{ℕ, zero, suc, ◌+◌, ◌<◌}
use native.Mathlib.Omega.{arith}
use lib.Dec.{eqb, ltb}
use lib.ListN.{length, get_or, get_or-eq_default}
use borrow.Author.Tests.{eqb-true, eqb-false, eq-eqb, ne_eqb, ltb-true, ltb-false}
use mathlib.Core.Option.{none, some}
use lib.IntN.{pos}
use native.Mathlib.Nat.{add-zero, zero-add}
use Rattle.laws.specs.All.{All, All.more, All.none}
use Rattle.laws.specs.Lists.{from}
use Rattle.laws.proofs.Bools.{by_test}
use Rattle.laws.proofs.Lists.{all_get_d, all_mem, map_cong, map-from-at, map-from-length, map-from_snoc}
use Rattle.guard.specs.Closure.{LacksAt, SameAt, State, class_of, closure_of}
use Rattle.guard.specs.Guard.{Guard, Literal, Literal.equal, Literal.is, Literal.isnt, Literal.unequal, Row, Row.built, Row.constant, Row.field, Row.variable, no_row, row_at, type_at, type_of}
use Rattle.guard.specs.Limits.{Limits, Supported, variant_limit}
use Rattle.guard.specs.Meaning.{AllHold, Belongs, Holds, IsVariant, LiteralHolds, read_field, value_of, values, values_from}
use Rattle.guard.specs.Message.{Message, Message.made, no_message, part_at, to_parts}
use Rattle.guard.specs.Rules.{Alone, BuiltAt, BuiltAt.read, BuiltAt.row, LeastClosure}
use Rattle.guard.specs.Terms.{as_build, default_term, field_terms, read_at, sibling_term, table_of}
use Rattle.guard.specs.Types.{Types, Variant, absent_field, default_of, defaults, field_type, fields_of, is_number, or_none, variants_of}
use Rattle.guard.specs.WellFormed.{LiteralFits, RowFits, WellFormed}
use Rattle.guard.proofs.ClosureBelow.{InRange}
use Rattle.guard.proofs.DefaultLaws.{Each, Each.each_cons, Each.each_nil, default_ind}
use Rattle.guard.proofs.LeastClosure.{closure_least}
use Rattle.guard.proofs.MessageLaws.{has_variant_lem, part-map, read-other}
use Rattle.guard.proofs.TableLaws.{build-default, build-row, const-default, const-row, default_build_of, default_const_of, read-row, table_in_range, term-row}
use Rattle.models.proofs.Nodes.{NodeOf, OpenNode, read-cases, unequal-apart}
use Rattle.models.proofs.Picture.{Picture}

-- ---- the fields of a read
-- the row itself stands at its position among the fields
field_at : (r p : ℕ) (fs : Variant) (q s k : ℕ) → p ≡ q + k → k < length fs → get_or (field_terms r p q s fs) k 0 ≡ r
field_at r p [] q s k e h = absurd (omega arith)
field_at r p (f ∷ fs) q s k e h = go (λ j. field_at r p fs (suc q) (suc s) j) (eqb p q) refl k e h
  where
    go : ((j : ℕ) → p ≡ suc q + j → j < length fs → get_or (field_terms r p (suc q) (suc s) fs) j 0 ≡ r) → (b : Bool) → eqb p q ≡ b → (k : ℕ) → p ≡ q + k → k < length (f ∷ fs)
        → get_or (elim b [ true ↦ r ∷ field_terms r p (suc q) s fs | false ↦ s ∷ field_terms r p (suc q) (suc s) fs ]) k 0 ≡ r
    go ih true b zero e h = refl
    go ih true b (suc k) e h = absurd (omega (arith, eqb-true p q b))
    go ih false b zero e h = absurd (eqb-false p q b (omega arith))
    go ih false b (suc k) e h = ih k (omega arith) (omega arith)

field-length : (r p : ℕ) (fs : Variant) (q s : ℕ) → length (field_terms r p q s fs) ≡ length fs
field-length r p [] q s = refl
field-length r p (f ∷ fs) q s = go (field-length r p fs (suc q)) (eqb p q)
  where
    go : ((s' : ℕ) → length (field_terms r p (suc q) s' fs) ≡ length fs) → (b : Bool) → length {A = ℕ} (elim b [ true ↦ r ∷ field_terms r p (suc q) s fs | false ↦ s ∷ field_terms r p (suc q) (suc s) fs ]) ≡ suc (length fs)
    go ih true = ap suc (ih s)
    go ih false = ap suc (ih (suc s))

-- `Need`: the classes that get messages, among them those of all rows. The assignment gives each row's number the row's message.
module _ (limits : Limits) (sup : Supported limits) (g : Guard) (ok : WellFormed limits g) (ls : List Literal) (nd : NodeOf g ls) (o : OpenNode (table_of g) ls)
    (Need : ℕ → Type 0) (needed : (i : ℕ) → i < length g.rows → Need (class_of (closure_of (table_of g) ls) i))
    (val : ℕ → Message) (pic : Picture (table_of g) (closure_of (table_of g) ls) Need val)
    (ρ : ℕ → Message) (agrees : (i : ℕ) → i < length g.rows → ρ i ≡ val i) where
  abbrev S : State
  S = closure_of (table_of g) ls

  abbrev ts : Types
  ts = g.types

  range : InRange (table_of g)
  range = table_in_range limits sup g ok

  least : LeastClosure (table_of g) ls (SameAt S) (LacksAt S)
  least = closure_least (table_of g) ls range nd.in_range

  -- ---- the message of a default is the default

  default-message : (t : ℕ) (m : Message) → get_or (defaults ts) t none ≡ some m → Need (class_of S (default_term t)) → val (default_term t) ≡ m
  default-message =
      default_ind ts (λ t m. Need (class_of S (default_term t)) → val (default_term t) ≡ m) (λ t h e q k. pic.consts (default_const_of t) (const-default g t t (pos 0) h q) k)
      (λ t v ms h hv q ps k. let b : BuiltAt (table_of g) (LacksAt S) (default_build_of ts t v) = row (build-default g t t v (to_parts ms) h q) in
      pic.builds (default_build_of ts t v) b k ∙ ap (λ (l : List Message). made t v (to_parts l)) (fields ps (pic.need_parts (default_build_of ts t v) b k)))
    where
      fields : {fs : List ℕ} {ms : List Message} → Each (λ t m. Need (class_of S (default_term t)) → val (default_term t) ≡ m) fs ms → All (λ p. Need (class_of S p)) (map default_term fs) → map val (map default_term fs) ≡ ms
      fields each_nil none = refl
      fields (each_cons {f = f} {m = m} {fs = fs} {ms = ms} p ps) (more k ks) =
          let a : val (default_term f) ≡ m = p k in
          let b : map val (map default_term fs) ≡ ms = fields ps ks in
          cc

  pub default-value : (t : ℕ) → t < length ts → Need (class_of S (default_term t)) → val (default_term t) ≡ default_of ts t
  default-value t h k = let (m, e) = ok.ready t h in default-message t m e k ∙ ap or_none (sym e)

  -- ---- the value of each row is its message

  -- the variant of a row's message, if it is of variant type
  variant_of_lem : (i : ℕ) → i < length g.rows → is_number ts (type_at ts g.rows i) ≡ false → (v : ℕ) × (v < variant_limit) × IsVariant (val i) v × (¬ LacksAt S i v)
  unfolding table_of
  variant_of_lem i h e =
      let (v, hv, iv) = has_variant_lem ts (val i) (type_at ts g.rows i) (pic.belongs _ (term-row g i h) (needed i h)) e in
      (v, omega (arith, ok.variant_counts (type_at ts g.rows i)), iv, pic.labels _ (term-row g i h) (needed i h) v iv)

  row-value : (i : ℕ) → i < length g.rows → (vals : List Message) → ((j : ℕ) → j < i → get_or vals j no_message ≡ val j) → value_of ts ρ i vals (row_at g.rows i) ≡ val i
  row-value i h vals before = go (row_at g.rows i) refl (ok.rows i h)
    where
      go : (w : Row) → row_at g.rows i ≡ w → RowFits ts g.rows i w → value_of ts ρ i vals w ≡ val i
      go (variable t) e f = agrees i h
      go (constant t z) e f = sym (pic.consts (record { term = i; type = t; value = z }) (const-row g i t z h e) (needed i h))
      go (built t v ps) e f =
          ap (λ (ms : List Message). made t v (to_parts ms)) (map_cong (λ p. get_or vals p no_message) val ps (λ p m. before p (all_mem f.2 p m)))
          ∙ sym (pic.builds (record { term = i; type = t; variant = v; parts = ps }) (row (build-row g i t v ps h e)) (needed i h))
      go (field t a v p) e f = ap (read_field ts t v p) (before a f.0) ∙ cases (read-cases (table_of g) ls range nd.in_range (read_at ts i t a v p) m (o.no_read (read_at ts i t a v p) m))
        where
          m : Memᴰ (read_at ts i t a v p) (table_of g).reads
          m = read-row g i t a v p h e

          number_not : is_number ts (type_at ts g.rows a) ≡ false
          number_not = ap (is_number ts) f.1 ∙ ne_eqb (length (variants_of ts t)) 0 (λ q. omega (arith, f.2, q))

          cases : LacksAt S a v ⊎ Alone (LacksAt S) a v → read_field ts t v p (val a) ≡ val i
          cases (inl k) =
              let (w, hw, iw, nw) = variant_of_lem a (omega (arith, f.0)) number_not in
              let e : SameAt S i (default_term (field_type ts t v p)) = least.rules.absent (read_at ts i t a v p) m k in
              read-other ts t v p (val a) w iw (λ q. nw (subst (LacksAt S a) (sym q) k))
              ∙ sym (default-value (field_type ts t v p) (all_get_d (ok.field_types t v) p 0 f.3) (subst Need e (needed i h))) ∙ pic.same (default_term (field_type ts t v p)) i (sym e)
          cases (inr k) =
              ap (read_field ts t v p) (pic.builds (as_build (read_at ts i t a v p)) (read (read_at ts i t a v p) m k refl) (needed a (omega (arith, f.0))))
              ∙ ap (λ (b : Bool). cond b (part_at (to_parts (map val (read_at ts i t a v p).fields)) p no_message) (absent_field ts t v p)) (eq-eqb v v refl)
              ∙ part-map val (read_at ts i t a v p).fields p no_message (omega (arith, f.3, field-length i p (fields_of ts t v) 0 (sibling_term i)))
              ∙ ap val (field_at i p (fields_of ts t v) 0 (sibling_term i) p (omega arith) f.3)

  values-from : (rs : List Row) (k : ℕ) → ((j : ℕ) → j < length rs → row_at rs j ≡ row_at g.rows (k + j)) → k + length rs ≡ length g.rows
      → values_from ts ρ (map ρ (from k 0)) rs ≡ map ρ (from (length g.rows) 0)
  values-from [] k at l = let e : k ≡ length g.rows = omega arith in ap (λ (j : ℕ). map ρ (from j 0)) e
  values-from (r ∷ rs) k at l =
      ap (λ (m : Message). values_from ts ρ (vals ++ (m ∷ [])) rs) value
      ∙ ap (λ (ms : List Message). values_from ts ρ ms rs) (sym (map-from_snoc ρ k 0 ∙ ap (λ (j : ℕ). map ρ (from k 0) ++ (ρ j ∷ [])) (zero-add k)))
      ∙ values-from rs (suc k) (λ j h. let e : k + suc j ≡ suc k + j = omega arith in at (suc j) (omega arith) ∙ ap (row_at g.rows) e) (omega arith)
    where
      vals : List Message
      vals = map ρ (from k 0)

      before : (j : ℕ) → j < k → get_or (map ρ (from k 0)) j no_message ≡ val j
      before j h = map-from-at ρ k 0 j no_message h ∙ ap ρ (zero-add j) ∙ agrees j (omega arith)

      value : value_of ts ρ (length (map ρ (from k 0))) (map ρ (from k 0)) r ≡ ρ k
      value =
          ap (λ (j : ℕ). value_of ts ρ j (map ρ (from k 0)) r) (map-from-length ρ k 0)
          ∙ ap (value_of ts ρ k (map ρ (from k 0))) (at 0 (omega arith) ∙ ap (row_at g.rows) (add-zero k)) ∙ row-value k (omega arith) (map ρ (from k 0)) before ∙ sym (agrees k (omega arith))

  pub row-values : values g ρ ≡ map ρ (from (length g.rows) 0)
  row-values = values-from g.rows 0 (λ j h. ap (row_at g.rows) (sym (zero-add j))) (zero-add (length g.rows))

  value-at : (i : ℕ) → i < length g.rows → get_or (values g ρ) i no_message ≡ val i
  value-at i h = ap (λ (l : List Message). get_or l i no_message) row-values ∙ map-from-at ρ (length g.rows) 0 i no_message h ∙ ap ρ (zero-add i) ∙ agrees i h

  -- ---- the guard holds

  literal-holds : (l : Literal) → Memᴰ l g.literals → LiteralHolds (values g ρ) l
  literal-holds (equal i j) m =
      let f : LiteralFits ts g.rows (equal i j) = ok.literals (equal i j) m in
      value-at i f.0 ∙ pic.same i j (least.literals.equal_literal i j (nd.given (equal i j) m)) ∙ sym (value-at j f.1)
  literal-holds (unequal i j) m = λ e.
      let f : LiteralFits ts g.rows (unequal i j) = ok.literals (unequal i j) m in
      unequal-apart (table_of g) ls S o.not_closed i j (nd.given (unequal i j) m)
      (pic.apart _ _ (term-row g i f.0) (term-row g j f.1) (needed i f.0) (needed j f.1) (sym (value-at i f.0) ∙ e ∙ value-at j f.1))
  literal-holds (is i v) m =
      let f : LiteralFits ts g.rows (is i v) = ok.literals (is i v) m in
      let (w, hw, iw, nw) = variant_of_lem i f.0 (ne_eqb (length (variants_of ts (type_at ts g.rows i))) 0 (λ q. omega (arith, f.1, q))) in
      subst (λ (x : Message). IsVariant x v) (sym (value-at i f.0))
      (by_test (eqb w v) (λ q. subst (IsVariant (val i)) (eqb-true w v q) iw) (λ q. absurd (nw (least.literals.is_literal i v (nd.given (is i v) m) w hw (eqb-false w v q)))))
  literal-holds (isnt i v) m = λ e.
      let f : LiteralFits ts g.rows (isnt i v) = ok.literals (isnt i v) m in
      pic.labels _ (term-row g i f.0) (needed i f.0) v (subst (λ (x : Message). IsVariant x v) (value-at i f.0) e) (least.literals.isnt_literal i v (nd.given (isnt i v) m))

  literals_hold : (ks : List Literal) → ((l : Literal) → Memᴰ l ks → Memᴰ l g.literals) → AllHold (values g ρ) ks
  literals_hold [] h = tt
  literals_hold (l ∷ ks) h = (literal-holds l (h l (Memᴰ.head refl)), literals_hold ks (λ k m. h k (Memᴰ.tail m)))

  row_inside : (i t : ℕ) → row_at g.rows i ≡ variable t → i < length g.rows
  row_inside i t e = by_test (ltb i (length g.rows)) (ltb-true _ _) (λ q. absurd (outside (sym (get_or-eq_default g.rows no_row (ltb-false i (length g.rows) q)) ∙ e)))
    where
      outside : no_row ≡ variable t → ⊥
      outside x = let z : ◌≡◌ {A = ℕ} 0 1 = cc in omega arith

  variable-belongs : (i t : ℕ) → row_at g.rows i ≡ variable t → Belongs ts (ρ i) t
  unfolding table_of
  variable-belongs i t e =
      let h : i < length g.rows = row_inside i t e in
      subst (Belongs ts (ρ i)) (ap (type_of ts) e) (subst (λ (m : Message). Belongs ts m (type_at ts g.rows i)) (sym (agrees i h)) (pic.belongs _ (term-row g i h) (needed i h)))

  pub model : Holds g ρ
  model = record { assigns = record { belongs = variable-belongs }; literals = literals_hold g.literals (λ l m. m) }
