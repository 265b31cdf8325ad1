-- What code finds of a class is its kind in crate `models`: a shape or one fieldless variant makes it a node, a constant
-- makes it a constant, and a class with none of these is free. Assumes nothing.
use mathlib.Core.Path.{◌≡◌, refl, ap, sym, ◌∙◌, subst}
use mathlib.Core.Bool.{Bool, true, false, not, ◌&&◌, ◌||◌, false≢true}
use mathlib.Core.Logic.{⊎_elim}
use mathlib.Core.List.{List, [], Memᴰ, map}
use Prim.Native.Nat.{ℕ, zero, suc, ◌^◌, ◌≤◌, ◌<◌}
use native.Mathlib.Omega.{arith}
use lib.Dec.{eqb, ltb}
use lib.IntN.{ℤ}
use lib.ListN.{length, get_or}
use borrow.Author.Tests.{eq-eqb, eqb-false, eqb-true, lt-ltb, ltb-true, ne_eqb, not-true}
use Rattle.laws.specs.Bits.{bit}
use Rattle.laws.proofs.Bits.{bit_zero}
use Rattle.laws.proofs.Bools.{and_both, and_left, and_right, or_cases}
use Rattle.laws.proofs.Positions.{least_first, least_passes}
use Rattle.guard.specs.Closure.{LacksAt, State, alone, builds_at, class_of, closure_of, label_of}
use Rattle.guard.specs.Guard.{Guard, Literal}
use Rattle.guard.specs.Limits.{Limits, Supported, total_variant_limit, variant_limit}
use Rattle.guard.specs.Rules.{Alone, BuiltAt}
use Rattle.guard.specs.Terms.{Build, Const, Term, fieldless, table_of, term_count}
use Rattle.guard.specs.Types.{is_number, variants_of}
use Rattle.guard.specs.WellFormed.{WellFormed}
use Rattle.guard.proofs.Agreement.{Agrees, builds-agree}
use Rattle.guard.proofs.ClosureState.{Small}
use Rattle.guard.proofs.TableLaws.{fieldless-is}
use Rattle.growth.proofs.Injective.{Kind, Kind.const, Kind.free, Kind.node}
use Rattle.models.proofs.Classes.{Reason, Reason.nullary, Reason.unfixed, build-kind, const-kind, kind_once, kind_of, reason, type-at}
use Rattle.models.proofs.Nodes.{NodeOf, OpenNode, TypedNode, alone_test, build_of_lem, built_of_lem, built-term, label_held, test_alone, typed-node}
use Rattle.models.proofs.TypedTable.{term_type}
use Rattle.tables.specs.Layout.{flat, row_table}
use Rattle.loops.specs.Lowest.{lowest}
use Rattle.arrays.specs.Arrays.{constants_of, fieldless_of, shapes_of, sorts_of}
use Rattle.arrays.specs.Slots.{active, fieldless_at, only_is, sort_at}
use Rattle.arrays.proofs.GuardSlots.{shape_slots, sort_slots}
use Rattle.arrays.proofs.MaskLaws.{bit-fieldless, fieldless-bit}
use Rattle.slots.proofs.OnlyOne.{one_left}
use Rattle.arrays.proofs.TableSlots.{ShapeSlot, SortSlots}
use Rattle.arrays.proofs.ActiveSlots.{active-build, build-active}
use Rattle.constants.specs.Constants.{constant_value, is_constant}
use Rattle.constants.proofs.ConstantSlots.{ConstantSlot, ConstantSlots, constant_slots}
use Rattle.splits.specs.Choice.{lowest_in}
use Rattle.unlikeconstants.specs.Unlike.{is_constant_of}
use Rattle.kinds.specs.Found.{constant_of, is_shape, is_single, shape_of, single_of}

-- nothing is found where the search went to the end
none_found : (p : ℕ → Bool) (n : ℕ) → n ≤ lowest p n → (k : ℕ) → k < n → p k ≡ false
unfolding lowest
none_found p n h k l = least_first p n k (omega arith)

found-passes : (p : ℕ → Bool) (n : ℕ) → lowest p n < n → p (lowest p n) ≡ true
unfolding lowest
found-passes p n h = least_passes p n h

module _ (limits : Limits) (sup : Supported limits) (g : Guard) (ok : WellFormed limits g) (total : length (flat g.types) ≤ total_variant_limit)
    (ls : List Literal) (nd : NodeOf g ls) (o : OpenNode (table_of g) ls) (s : State) (agree : Agrees s (closure_of (table_of g) ls)) (small : Small s) where
  abbrev S : State
  S = closure_of (table_of g) ls

  abbrev typed : TypedNode (table_of g) ls (term_type g)
  typed = typed-node limits sup g ok ls nd

  abbrev pub kind : ℕ → Kind
  kind = kind_of (table_of g) ls (term_type g) typed o

  why : (c : ℕ) → Reason (table_of g) ls (term_type g) typed o c (kind c)
  why = reason (table_of g) ls (term_type g) typed o

  -- ---- shapes

  -- the shape in slot k is of class c
  pub record ShapeClass (k c : ℕ) : Type 0 where
    pub build : Build
    pub among : Memᴰ build (builds_at (table_of g) S)
    pub slot : ShapeSlot (table_of g) (shapes_of g) k build
    pub class : class_of S build.term ≡ c
    pub is_node : kind c ≡ node build.variant (map (class_of S) build.parts)

  build_in : (b : Build) → Memᴰ b (builds_at (table_of g) S) → BuiltAt (table_of g) (LacksAt S) b
  build_in = built_of_lem (table_of g) ls typed.in_range typed.literals_in_range

  pub shape_class : (k c : ℕ) → k < 30 → is_shape (shapes_of g) s c k ≡ true → ShapeClass k c
  unfolding is_shape
  shape_class k c h e =
      let b = active-build (table_of g) (shapes_of g) (shape_slots limits sup g ok total) s small k h (and_left (active (shapes_of g) s k) _ e) in
      let m : Memᴰ b.build (builds_at (table_of g) S) = subst (Memᴰ b.build) (builds-agree (table_of g) typed.in_range s S agree) b.among in
      let term : b.build.term < term_count = build-small b.build m in
      let q : class_of S b.build.term ≡ c = sym (agree.class b.build.term term) ∙ ap (class_of s) (sym b.slot.owner) ∙ eqb-true _ _ (and_right (active (shapes_of g) s k) _ e) in
      record {
        build = b.build;
        among = m;
        slot = b.slot;
        class = q;
        is_node = build-kind (table_of g) ls (term_type g) typed o b.build (build_in b.build m) (kind c) (subst (λ (d : ℕ). Reason (table_of g) ls (term_type g) typed o d (kind c)) (sym q) (why c));
      }
    where
      build-small : (b : Build) → Memᴰ b (builds_at (table_of g) S) → b.term < term_count
      build-small b m = (typed.in_range.terms (record { term = b.term; type = b.type }) (built-term (table_of g) ls typed.in_range typed.literals_in_range b (build_in b m))).0

  pub found-shape : (c : ℕ) → shape_of (shapes_of g) s c < 30 → ShapeClass (shape_of (shapes_of g) s c) c
  unfolding shape_of
  found-shape c h = shape_class (lowest (is_shape (shapes_of g) s c) 30) c h (found-passes (is_shape (shapes_of g) s c) 30 h)

  -- a class without a shape has no build
  pub no-shape-found : (c : ℕ) → 30 ≤ shape_of (shapes_of g) s c → (b : Build) → BuiltAt (table_of g) (LacksAt S) b → ¬ (class_of S b.term ≡ c)
  unfolding shape_of is_shape
  no-shape-found c h b m e =
      let m' : Memᴰ b (builds_at (table_of g) s) = subst (Memᴰ b) (sym (builds-agree (table_of g) typed.in_range s S agree)) (build_of_lem (table_of g) ls typed.in_range typed.literals_in_range b m) in
      let a = build-active (table_of g) (shapes_of g) (shape_slots limits sup g ok total) s small b m' in
      let term : b.term < term_count = (typed.in_range.terms (record { term = b.term; type = b.type }) (built-term (table_of g) ls typed.in_range typed.literals_in_range b m)).0 in
      false≢true (sym (none_found (is_shape (shapes_of g) s c) 30 h a.place a.inside)
      ∙ and_both (active (shapes_of g) s a.place) _ a.is_active (eq-eqb _ _ (ap (class_of s) a.slot.owner ∙ agree.class b.term term ∙ e)))

  -- ---- one fieldless variant

  sorts_have : SortSlots (table_of g) (sorts_of g) (fieldless_of g)
  sorts_have = sort_slots limits sup g ok total

  -- term x, of class c, is of its lowest variant alone
  pub record SingleClass (x c : ℕ) : Type 0 where
    pub sort : sort_at (sorts_of g) x ≡ suc (term_type g c)
    pub variant : lowest_in (label_of s x) < variant_limit
    pub is_node : kind c ≡ node (lowest_in (label_of s x)) []

  same-alone : (x v : ℕ) → x < term_count → alone s x v ≡ alone S x v
  same-alone x v h = ap (λ (l : ℕ). eqb l (2 ^ v) || eqb l 0) (agree.label x h)

  single_class : (x c : ℕ) → x < 78 → is_single (sorts_of g) (fieldless_of g) s c x ≡ true → SingleClass x c
  unfolding is_single only_is
  single_class x c h e = go (sort_at (sorts_of g) x) refl
    where
      v : ℕ
      v = lowest_in (label_of s x)

      both : (ltb v variant_limit && (not (eqb (bit (fieldless_at (sorts_of g) (fieldless_of g) x) v) 0) && alone s x v)) ≡ true
      both = and_right (eqb (class_of s x) c) _ e

      fits : v < variant_limit
      fits = ltb-true v variant_limit (and_left (ltb v variant_limit) _ both)

      only : (not (eqb (bit (fieldless_at (sorts_of g) (fieldless_of g) x) v) 0) && alone s x v) ≡ true
      only = and_right (ltb v variant_limit) _ both

      has : ¬ (bit (fieldless_at (sorts_of g) (fieldless_of g) x) v ≡ 0)
      has = eqb-false _ _ (not-true _ (and_left (not (eqb (bit (fieldless_at (sorts_of g) (fieldless_of g) x) v) 0)) _ only))

      at : class_of S x ≡ c
      at = sym (agree.class x h) ∙ eqb-true _ _ (and_left (eqb (class_of s x) c) _ e)

      go : (n : ℕ) → sort_at (sorts_of g) x ≡ n → SingleClass x c
      go zero q = absurd (has (ap (λ (k : ℕ). bit (get_or (fieldless_of g) k 0) v) q ∙ ap (λ (k : ℕ). bit k v) sorts_have.no_mask ∙ bit_zero v))
      go (suc u) q =
          let m : Memᴰ (record { term = x; type = u }) (table_of g).terms = sorts_have.found x u h q in
          let f : Memᴰ v (fieldless 0 (variants_of (table_of g).types u)) = bit-fieldless (variants_of (table_of g).types u) v (λ z. has (ap (λ (k : ℕ). bit (get_or (fieldless_of g) k 0) v) q ∙ ap (λ (k : ℕ). bit k v) (sorts_have.mask u) ∙ z)) in
          let alone-there : alone S x v ≡ true = sym (same-alone x v h) ∙ and_right (not (eqb (bit (fieldless_at (sorts_of g) (fieldless_of g) x) v) 0)) _ only in
          record {
            sort = q ∙ ap suc (sym (type-at (table_of g) ls (term_type g) typed o (record { term = x; type = u }) m c at));
            variant = fits;
            is_node = kind_once (table_of g) ls (term_type g) typed o c (kind c) (node v []) (why c)
                (nullary (record { term = x; type = u }) v m at f (alone_test (table_of g) ls typed.in_range typed.literals_in_range x v h fits alone-there) refl);
          }

  pub found-single : (c : ℕ) → single_of (sorts_of g) (fieldless_of g) s c < 78 → SingleClass (single_of (sorts_of g) (fieldless_of g) s c) c
  unfolding single_of
  found-single c h = single_class (lowest (is_single (sorts_of g) (fieldless_of g) s c) 78) c h (found-passes (is_single (sorts_of g) (fieldless_of g) s c) 78 h)

  -- a class without such a term has no fieldless variant alone
  pub no-single-found : (c : ℕ) → 78 ≤ single_of (sorts_of g) (fieldless_of g) s c → (x : Term) (v : ℕ) → Memᴰ x (table_of g).terms → class_of S x.term ≡ c
      → Memᴰ v (fieldless 0 (variants_of (table_of g).types x.type)) → ¬ Alone (LacksAt S) x.term v
  unfolding single_of is_single only_is
  no-single-found c h x v m q f only =
      let (inside, sort) = sorts_have.slot x m in
      let fits : v < variant_limit = typed.in_range.fieldlesses x v m f in
      let there : alone s x.term v ≡ true = same-alone x.term v inside ∙ test_alone (table_of g) ls typed.in_range typed.literals_in_range x.term v only in
      let label : label_of s x.term ≡ 2 ^ v = lone there in
      let low : lowest_in (label_of s x.term) ≡ v = ap lowest_in label ∙ (one_left v fits).1 in
      let has : bit (fieldless_at (sorts_of g) (fieldless_of g) x.term) v ≡ 1 = ap (λ (k : ℕ). bit (get_or (fieldless_of g) k 0) v) sort ∙ ap (λ (k : ℕ). bit k v) (sorts_have.mask x.type) ∙ fieldless-bit (variants_of (table_of g).types x.type) v f in
      let test : (not (eqb (bit (fieldless_at (sorts_of g) (fieldless_of g) x.term) v) 0) && alone s x.term v) ≡ true = and_both _ _ (ap not (ne_eqb (bit (fieldless_at (sorts_of g) (fieldless_of g) x.term) v) 0 (λ z. omega (arith, z, has)))) there in
      false≢true (sym (none_found (is_single (sorts_of g) (fieldless_of g) s c) 78 h x.term inside)
      ∙ and_both (eqb (class_of s x.term) c) _ (eq-eqb _ _ (agree.class x.term inside ∙ q))
      (and_both (ltb (lowest_in (label_of s x.term)) variant_limit) _ (lt-ltb (lowest_in (label_of s x.term)) variant_limit (omega (arith, low, fits)))
      (subst (λ (w : ℕ). (not (eqb (bit (fieldless_at (sorts_of g) (fieldless_of g) x.term) w) 0) && alone s x.term w) ≡ true) (sym low) test)))
    where
      -- an open node has no empty label
      held : is_number (table_of g).types x.type ≡ false → ¬ (label_of S x.term ≡ 0)
      held = label_held (table_of g) ls S o.not_closed x m

      variant-type : is_number (table_of g).types x.type ≡ false
      variant-type = let (k, e, l, z) = fieldless-is 0 v (variants_of (table_of g).types x.type) f in ne_eqb (length (variants_of (table_of g).types x.type)) 0 (λ n. omega (arith, l, n))

      lone : alone s x.term v ≡ true → label_of s x.term ≡ 2 ^ v
      lone e = ⊎_elim (λ a. eqb-true _ _ a) (λ a. absurd (held variant-type (sym (agree.label x.term (sorts_have.slot x m).0) ∙ eqb-true _ _ a))) (or_cases (eqb (label_of s x.term) (2 ^ v)) (eqb (label_of s x.term) 0) e)

  -- ---- constants

  abbrev values : List ℤ
  values = (row_table g.types g.rows).values

  constants_have : ConstantSlots (table_of g) (constants_of g) values
  constants_have = constant_slots limits sup g ok total

  -- the constant in slot k is of class c
  pub record ConstantClass (k c : ℕ) : Type 0 where
    pub sort : get_or (constants_of g) k 0 ≡ suc (term_type g c)
    pub is_const : kind c ≡ const (constant_value values k)

  constant_class_lem : (k c : ℕ) → k < 30 → is_constant_of (constants_of g) s.classes c k ≡ true → ConstantClass k c
  unfolding is_constant_of
  constant_class_lem k c h e = go (constants_have.found k h (eqb-false _ _ (not-true _ (and_left (is_constant (constants_of g) k) _ e))))
    where
      go : (a : Const) × Memᴰ a (table_of g).consts × ConstantSlot (constants_of g) values k a → ConstantClass k c
      go (a, m, slot) =
          let q : class_of S a.term ≡ c = sym (agree.class a.term (typed.in_range.consts a m)) ∙ ap (class_of s) (sym slot.term) ∙ eqb-true _ _ (and_right (is_constant (constants_of g) k) _ e) in
          record {
            sort = slot.type ∙ ap suc (sym (type-at (table_of g) ls (term_type g) typed o (record { term = a.term; type = a.type }) (typed.typed.const_terms a m) c q));
            is_const = const-kind (table_of g) ls (term_type g) typed o a m (kind c) (subst (λ (d : ℕ). Reason (table_of g) ls (term_type g) typed o d (kind c)) (sym q) (why c)) ∙ ap const (sym slot.value);
          }

  pub found-constant : (c : ℕ) → constant_of (constants_of g) s.classes c < 30 → ConstantClass (constant_of (constants_of g) s.classes c) c
  unfolding constant_of
  found-constant c h = constant_class_lem (lowest (is_constant_of (constants_of g) s.classes c) 30) c h (found-passes (is_constant_of (constants_of g) s.classes c) 30 h)

  pub no-constant-found : (c : ℕ) → 30 ≤ constant_of (constants_of g) s.classes c → (a : Const) → Memᴰ a (table_of g).consts → ¬ (class_of S a.term ≡ c)
  unfolding constant_of is_constant_of
  no-constant-found c h a m e =
      let (k, l, slot) = constants_have.slot a m in
      false≢true (sym (none_found (is_constant_of (constants_of g) s.classes c) 30 h k l)
      ∙ and_both (is_constant (constants_of g) k) _ (ap not (ne_eqb (get_or (constants_of g) k 0) 0 (λ z. omega (arith, z, slot.type)))) (eq-eqb _ _ (ap (class_of s) slot.term ∙ agree.class a.term (typed.in_range.consts a m) ∙ e)))

  -- ---- nothing fixes the class

  pub none-is-free : (c : ℕ) → 30 ≤ shape_of (shapes_of g) s c → 30 ≤ constant_of (constants_of g) s.classes c → 78 ≤ single_of (sorts_of g) (fieldless_of g) s c → kind c ≡ free
  none-is-free c a b d =
      kind_once (table_of g) ls (term_type g) typed o c (kind c) free (why c) (unfixed (no-shape-found c a) (no-constant-found c b) (no-single-found c d) refl)
