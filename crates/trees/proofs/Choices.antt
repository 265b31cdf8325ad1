-- What a permitted split is on: a variable, a field row or a sibling field whose label holds the variant and another
-- one. A built row or a default has one variant at most, and a term of number type has none. Assumes nothing.
use mathlib.Core.Path.{◌≡◌, refl, ap, sym, ◌∙◌, subst}
use mathlib.Core.Bool.{Bool, true, false, not, ◌&&◌}
use mathlib.Core.List.Memᴰ
use mathlib.Core.List.{List, ◌∷◌, Memᴰ}
use mathlib.Core.Logic.{◌⊎◌, inl, inr}
use Prim.Native.Nat.{ℕ, ◌≤◌, ◌<◌, ◌^◌}
use native.Mathlib.Omega.{arith}
use lib.Dec.{eqb, ltb}
use lib.ListN.{length, get_or}
use borrow.Author.Tests.{eqb-true, eqb-false, ltb-true, ltb-false, not-true, not-false}
use mathlib.Core.Option.{none, some}
use Rattle.laws.specs.Bits.{bit}
use Rattle.laws.specs.Lists.{any, concat_map, from}
use Rattle.laws.proofs.Bits.{bit_zero, one_set}
use Rattle.laws.proofs.Bools.{and-false, and_left, and_right, by_test}
use Rattle.laws.proofs.Lists.{any_none, any_some, filter-is, from_bounds, mem_concat_map, mem_concat_map_inv, mem_from}
use Rattle.guard.specs.Closure.{LacksAt, SameAt, State, label_of, lacks}
use Rattle.guard.specs.Guard.{Guard, Literal, Literal.is, Literal.isnt, Row, Row.built, Row.constant, Row.field, Row.variable, row_at, type_at, type_of}
use Rattle.guard.specs.Limits.{Limits, Supported, variant_limit}
use Rattle.guard.specs.Message.{Message, Message.made, Message.number}
use Rattle.guard.specs.Node.{Split, holds_another, on_term, second_kind}
use Rattle.guard.specs.Rules.{LeastClosure}
use Rattle.guard.specs.Search.{choices, label_total, own_choice}
use Rattle.guard.specs.Terms.{Build, Table, Term, default_term, from_rows, pair_terms, siblings_of, table_of, term_count}
use Rattle.guard.specs.Types.{Types, defaults, fields_of, is_number, variants_of}
use Rattle.guard.specs.WellFormed.{RowFits, WellFormed}
use Rattle.guard.proofs.ClosureBelow.{InRange, LiteralInRange, LiteralsInRange}
use Rattle.guard.proofs.ClosureState.{closure_small}
use Rattle.guard.proofs.DefaultLaws.{default-belongs}
use Rattle.guard.proofs.LeastClosure.{closure_least}
use Rattle.guard.proofs.NodeLaws.{SplitsAt, cons_in_range, decision_in_range, holds_it, is-falls, isnt-falls, lowest-left, not_alone, split-term}
use Rattle.guard.proofs.TableLaws.{build-default, build-row, default_build_of, literals_in_range_lem, mem_rows, rows_inv, table_in_range, term-cases, term-default, term-row, term_sibling, types_of}
use Rattle.trees.specs.Tree.{Permitted, Permitted.on_choice, Permitted.on_field, literals_at, state_at}

-- a label that holds a variant and another one: the other one
another_variant : (s : State) (i v : ℕ) → label_of s i < 2 ^ variant_limit → holds_another s i v ≡ true → (w : ℕ) × (w < variant_limit) × (¬ (w ≡ v)) × (¬ LacksAt s i w)
another_variant s i v small e = go (any other (from variant_limit 0)) refl
  where
    other : ℕ → Bool
    other w = not (eqb w v) && not (lacks s i w)

    go : (b : Bool) → any other (from variant_limit 0) ≡ b → (w : ℕ) × (w < variant_limit) × (¬ (w ≡ v)) × (¬ LacksAt s i w)
    go true q =
        let (w, m, h) = any_some other (from variant_limit 0) q in
        (w, omega (arith, (from_bounds variant_limit 0 w m).1), eqb-false w v (not-true _ (and_left (not (eqb w v)) _ h)), eqb-false (bit (label_of s i) w) 0 (not-true _ (and_right (not (eqb w v)) _ h)))
    go false q = absurd (pick (one_set variant_limit v (label_of s i) small alone))
      where
        alone : (u : ℕ) → u < variant_limit → ¬ (u ≡ v) → bit (label_of s i) u ≡ 0
        alone u hu ne = lacked (and-false (not (eqb u v)) (not (lacks s i u)) (any_none other (from variant_limit 0) q u (mem_from variant_limit 0 u (omega arith) (omega arith))))
          where
            lacked : (not (eqb u v) ≡ false) ⊎ (not (lacks s i u) ≡ false) → bit (label_of s i) u ≡ 0
            lacked (inl x) = absurd (ne (eqb-true u v (not-false _ x)))
            lacked (inr x) = eqb-true (bit (label_of s i) u) 0 (not-false _ x)

        pick : (label_of s i ≡ 0) ⊎ (label_of s i ≡ 2 ^ v) → ⊥
        pick (inl z) = holds_it s i v e (ap (λ (m : ℕ). bit m v) z ∙ bit_zero v)
        pick (inr z) = not_alone s i v e z

module _ (limits : Limits) (sup : Supported limits) (g : Guard) (ok : WellFormed limits g) where
  abbrev t : Table
  t = table_of g

  pub range : InRange (table_of g)
  range = table_in_range limits sup g ok

  -- a choice is a term of the table
  pub choice_term : (x : Term) → Memᴰ x (choices g) → Memᴰ x (table_of g).terms
  unfolding choices
  choice_term x m = go (Memᴰ.append_cases (from_rows (own_choice g.types) 0 g.rows) m)
    where
      row : (i : ℕ) → i < length g.rows → (y : Row) → row_at g.rows i ≡ y → (x : Term) → Memᴰ x (own_choice g.types i y) → Memᴰ x (table_of g).terms
      row i h (variable u) e x (Memᴰ.tail x9) = elim x9 [ ]
      row i h (constant _ _) e x x8 = elim x8 [ ]
      row i h (built _ _ _) e x x10 = elim x10 [ ]
      row i h (field u a v p) e x (Memᴰ.tail x12) = elim x12 [ ]
      row i h (variable u) e x (Memᴰ.head q) = subst (λ (z : Term). Memᴰ z (table_of g).terms) (ap (λ (y : Row). record { term = i; type = type_of g.types y }) e ∙ sym q) (term-row g i h)
      row i h (field u a v p) e x (Memᴰ.head q) = subst (λ (z : Term). Memᴰ z (table_of g).terms) (ap (λ (y : Row). record { term = i; type = type_of g.types y }) e ∙ sym q) (term-row g i h)

      go : Memᴰ x (from_rows (own_choice g.types) 0 g.rows) ⊎ Memᴰ x (concat_map (siblings_of g.types) (table_of g).reads) → Memᴰ x (table_of g).terms
      go (inl k) = rows_inv (own_choice g.types) (λ x. Memᴰ x (table_of g).terms) g.rows row x k
      go (inr k) =
          mem_concat_map_inv (siblings_of g.types) (λ x. Memᴰ x (table_of g).terms) (table_of g).reads
          (λ q j y n. let (a, b) = filter-is (λ x. not (eqb x.term q.row)) (pair_terms q.fields (fields_of g.types q.type q.variant)) y n in
          term_sibling g q j y a (eqb-false y.term q.row (not-true _ b))) x k

  pub node_in_range : (ds : List Literal) → LiteralsInRange ds → LiteralsInRange (literals_at g ds)
  node_in_range ds r l m = go (Memᴰ.append_cases ds m)
    where
      go : Memᴰ l ds ⊎ Memᴰ l g.literals → LiteralInRange l
      go (inl k) = r l k
      go (inr k) = literals_in_range_lem limits sup g ok l k

  -- the closure at a node
  pub node_least : (ds : List Literal) → LiteralsInRange ds → LeastClosure (table_of g) (literals_at g ds) (SameAt (state_at g ds)) (LacksAt (state_at g ds))
  node_least ds r = closure_least (table_of g) (literals_at g ds) range (node_in_range ds r)

  -- a permitted split is on a term of the table whose label holds the variant and another one
  pub permitted_splits : (ds : List Literal) (d : Split) → Permitted g ds d → SplitsAt (table_of g) (state_at g ds) d
  permitted_splits ds d (on_field q m k e) = subst (SplitsAt (table_of g) (state_at g ds)) (sym e) (record { type = q.type; term = range.read_terms q m; variant = (range.reads q m).2; another = k })
  permitted_splits ds d (on_choice x v m k mv e) = subst (SplitsAt (table_of g) (state_at g ds)) (sym e) (split-term (table_of g) range (literals_at g ds) x v (choice_term x m) k mv)

  -- a child of a node that is split: its decisions are in range, and the total of the label sizes is smaller
  pub record Child (ds : List Literal) (l : Literal) : Type 0 where
    pub in_range : LiteralsInRange (l ∷ ds)
    pub falls : label_total (table_of g) (state_at g (l ∷ ds)) < label_total (table_of g) (state_at g ds)

  module _ (ds : List Literal) (r : LiteralsInRange ds) (d : Split) (sp : SplitsAt (table_of g) (state_at g ds) d) where
    small : (d.term < term_count) × (d.variant < variant_limit)
    small = decision_in_range (table_of g) range (literals_at g ds) (node_in_range ds r) d sp

    pub is_child : Child ds (is d.term d.variant)
    is_child = record { in_range = cons_in_range (is d.term d.variant) ds small r; falls = is-falls (table_of g) range (literals_at g ds) (node_in_range ds r) d sp }

    pub isnt_child : Child ds (isnt d.term d.variant)
    isnt_child = record { in_range = cons_in_range (isnt d.term d.variant) ds small r; falls = isnt-falls (table_of g) range (literals_at g ds) (node_in_range ds r) d sp }

  -- what a split is on
  pub record OnChoice (ds : List Literal) (d : Split) : Type 0 where
    pub type : ℕ
    pub choice : Memᴰ (record { term = d.term; type = type }) (choices g)
    pub in_table : Memᴰ (record { term = d.term; type = type }) (table_of g).terms
    pub variant : d.variant < length (variants_of g.types type)
    pub holds : ¬ LacksAt (state_at g ds) d.term d.variant
    pub other : ℕ
    pub other_variant : other < length (variants_of g.types type)
    pub other_differs : ¬ (other ≡ d.variant)
    pub other_holds : ¬ LacksAt (state_at g ds) d.term other

  module _ (ds : List Literal) (r : LiteralsInRange ds) where
    abbrev s : State
    s = state_at g ds

    -- a variant that the label of a term holds is one of its type
    pub label_variant : (x : Term) (v : ℕ) → Memᴰ x (table_of g).terms → ¬ LacksAt (state_at g ds) x.term v → v < length (variants_of g.types x.type)
    label_variant x v m h =
        by_test (ltb v (length (variants_of g.types x.type))) (λ e. ltb-true _ _ e)
        (λ e. absurd (h ((node_least ds r).rules.beyond x v m (subst (λ (ts : Types). length (variants_of ts x.type) ≤ v) (sym (types_of g)) (ltb-false v _ e)))))

    -- a term whose label holds two variants is a choice
    two_choice : (x : Term) → Memᴰ x (table_of g).terms → (v w : ℕ) → ¬ (w ≡ v) → ¬ LacksAt (state_at g ds) x.term v → ¬ LacksAt (state_at g ds) x.term w → v < variant_limit → w < variant_limit
        → Memᴰ x (choices g)
    unfolding choices
    two_choice =
        term-cases g (λ x. (v w : ℕ) → ¬ (w ≡ v) → ¬ LacksAt (state_at g ds) x.term v → ¬ LacksAt (state_at g ds) x.term w → v < variant_limit → w < variant_limit → Memᴰ x (choices g))
        (λ i h. row i h (row_at g.rows i) refl)
        (λ q m x k v w ne hv hw lv lw. Memᴰ.append_right (from_rows (own_choice g.types) 0 g.rows) (mem_concat_map (siblings_of g.types) (table_of g).reads m k))
        (λ u h v w ne hv hw lv lw. absurd (default u h v w ne hv hw lv lw))
      where
        built-two : (b : Build) → Memᴰ b (table_of g).builds → (v w : ℕ) → ¬ (w ≡ v) → ¬ LacksAt (state_at g ds) b.term v → ¬ LacksAt (state_at g ds) b.term w → v < variant_limit → w < variant_limit → ⊥
        built-two b m v w ne hv hw lv lw =
            by_test (eqb v b.variant) (λ e. hw ((node_least ds r).rules.built b m w lw (λ q. ne (q ∙ sym (eqb-true v b.variant e)))))
            (λ e. hv ((node_least ds r).rules.built b m v lv (eqb-false v b.variant e)))

        number-none : (x : Term) → Memᴰ x (table_of g).terms → is_number g.types x.type ≡ true → (v : ℕ) → ¬ LacksAt (state_at g ds) x.term v → ⊥
        number-none x m e v h = omega (arith, label_variant x v m h, eqb-true (length (variants_of g.types x.type)) 0 e)

        row : (i : ℕ) → i < length g.rows → (y : Row) → row_at g.rows i ≡ y → (v w : ℕ) → ¬ (w ≡ v) → ¬ LacksAt (state_at g ds) i v → ¬ LacksAt (state_at g ds) i w → v < variant_limit → w < variant_limit
            → Memᴰ (record { term = i; type = type_at g.types g.rows i }) (choices g)
        row i h (variable u) e v w ne hv hw lv lw =
            Memᴰ.append_left (concat_map (siblings_of g.types) (table_of g).reads)
            (mem_rows (own_choice g.types) i g.rows _ h (subst (λ (y : Row). Memᴰ (record { term = i; type = type_of g.types y }) (own_choice g.types i y)) (sym e) (Memᴰ.head refl)))
        row i h (field u a x p) e v w ne hv hw lv lw =
            Memᴰ.append_left (concat_map (siblings_of g.types) (table_of g).reads)
            (mem_rows (own_choice g.types) i g.rows _ h (subst (λ (y : Row). Memᴰ (record { term = i; type = type_of g.types y }) (own_choice g.types i y)) (sym e) (Memᴰ.head refl)))
        row i h (built u x ps) e v w ne hv hw lv lw = absurd (built-two (record { term = i; type = u; variant = x; parts = ps }) (build-row g i u x ps h e) v w ne hv hw lv lw)
        row i h (constant u z) e v w ne hv hw lv lw =
            absurd (number-none (record { term = i; type = type_at g.types g.rows i }) (term-row g i h)
            (ap (λ (y : Row). is_number g.types (type_of g.types y)) e ∙ (subst (RowFits g.types g.rows i) e (ok.rows i h)).1) v hv)

        default : (u : ℕ) → u < length g.types → (v w : ℕ) → ¬ (w ≡ v) → ¬ LacksAt (state_at g ds) (default_term u) v → ¬ LacksAt (state_at g ds) (default_term u) w → v < variant_limit → w < variant_limit → ⊥
        default u h v w ne hv hw lv lw = let (m, e) = ok.ready u h in go m e
          where
            go : (m : Message) → get_or (defaults g.types) u none ≡ some m → ⊥
            go (number x z) e = number-none (record { term = default_term u; type = u }) (term-default g u h) (default-belongs g.types u (number x z) e).1 v hv
            go (made x y ms) e = built-two (default_build_of g.types u y) (build-default g u x y ms h e) v w ne hv hw lv lw

    -- a term of the table whose label holds a variant and another one
    on-term : (x : Term) (v : ℕ) → Memᴰ x (table_of g).terms → v < variant_limit → holds_another (state_at g ds) x.term v ≡ true → OnChoice ds (record { term = x.term; variant = v })
    on-term x v m hv e =
        let (w, hw, ne, lw) = another_variant (state_at g ds) x.term v (closure_small (table_of g) (literals_at g ds) x.term) e in
        let lv : ¬ LacksAt (state_at g ds) x.term v = holds_it (state_at g ds) x.term v e in
        record {
          type = x.type;
          choice = two_choice x m v w ne lv lw hv hw;
          in_table = m;
          variant = label_variant x v m lv;
          holds = lv;
          other = w;
          other_variant = label_variant x w m lw;
          other_differs = ne;
          other_holds = lw;
        }

    -- a permitted split is on a choice
    pub permitted_on_choice : (d : Split) → Permitted g ds d → OnChoice ds d
    permitted_on_choice d p = let sp = permitted_splits ds d p in on-term (record { term = d.term; type = sp.type }) d.variant sp.term sp.variant sp.another

    -- a term of the second kind is a choice
    pub second_choice : (x : Term) → Memᴰ x (table_of g).terms → second_kind (table_of g) (state_at g ds) x ≡ true → Memᴰ x (choices g)
    second_choice x m k =
        let v = (on_term (table_of g) (state_at g ds) x).variant in
        let sp = split-term (table_of g) range (literals_at g ds) x v m k (lowest-left (table_of g) range (literals_at g ds) x k) in
        let (w, hw, ne, lw) = another_variant (state_at g ds) x.term v (closure_small (table_of g) (literals_at g ds) x.term) sp.another in
        two_choice x m v w ne (holds_it (state_at g ds) x.term v sp.another) lw sp.variant hw

    -- the decision of a permitted split is in range
    pub split_in_range : (d : Split) → Permitted g ds d → (d.term < term_count) × (d.variant < variant_limit)
    split_in_range d p = small ds r d (permitted_splits ds d p)
