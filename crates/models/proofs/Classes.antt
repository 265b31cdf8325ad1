-- What each class of an open node is, with the reason for it. A class with a build is a node: the label and the rule on
-- parts make the variant and the classes of the parts unique. A class whose label is one fieldless variant alone is a
-- node without parts, a class with a constant is that constant, and any other class is free. The rules keep to types,
-- so terms of one class have one type; hence the reasons exclude each other, and nodes and constants of one type that
-- look alike are one class. Assumes nothing.
use mathlib.Core.Path.{◌≡◌, refl, ap, sym, ◌∙◌, subst}
use mathlib.Core.Bool.{Bool, true, false, false≢true, ◌&&◌}
use mathlib.Core.List.{List, [], ◌∷◌, Memᴰ, nil≢cons, map}
use mathlib.Core.Logic.{◌⊎◌, inl, inr}
use Prim.Native.Nat.{ℕ, ◌<◌}
use native.Mathlib.Omega.{arith}
use lib.Dec.{eqb}
use lib.ListN.{length}
use borrow.Author.Tests.{eqb-true, eqb-false, eq-eqb, ne_eqb}
use lib.IntN.{ℤ}
use native.Mathlib.Nat.{zero-add}
use borrow.Fn.PlainCycle.{falls}
use Rattle.laws.specs.All.{All, All.none}
use Rattle.laws.specs.Lists.{any}
use Rattle.laws.proofs.Bools.{and_both, and_left, and_right, by_test}
use Rattle.laws.proofs.Lists.{all_map, all_mem, any_of, any_some, length-nil, map_cong, map-length, map-map}
use Rattle.laws.proofs.Members.{find_cases}
use Rattle.guard.specs.Closure.{LacksAt, SameAt, State, alone, builds_at, class_of, closure_of}
use Rattle.guard.specs.Guard.{Literal}
use Rattle.guard.specs.Limits.{variant_limit}
use Rattle.guard.specs.Rules.{AllSame, Alone, BuiltAt, BuiltAt.read, BuiltAt.row, ObeysLiterals, ObeysRules, Relation}
use Rattle.guard.specs.Terms.{Build, Const, Table, Term, fieldless}
use Rattle.guard.specs.Types.{field_type, fields_of, is_number, variants_of}
use Rattle.guard.proofs.ClosureBelow.{closure_sound}
use Rattle.guard.proofs.LeastClosure.{closure_least}
use Rattle.guard.proofs.TableLaws.{fieldless_has, fieldless-is}
use Rattle.growth.proofs.Injective.{Kind, Kind.const, Kind.free, Kind.node}
use Rattle.models.proofs.Nodes.{OpenNode, TypedNode, alone-held, alone_test, build_of_lem, built-alone, built_of_lem, built-small, built-term, constants-agree, label_held, test_alone}
use Rattle.models.proofs.Ranks.{rank}
use Rattle.models.proofs.TypedTable.{BuildTyped, TableTyped}

-- the three kinds differ
pub node≢const : {v : ℕ} {ps : List ℕ} {z : ℤ} → node v ps ≡ const z → ⊥
node≢const e = let y : ◌≡◌ {A = ℕ} 0 1 = cc in omega arith

pub node≢free : {v : ℕ} {ps : List ℕ} → node v ps ≡ free → ⊥
node≢free e = let y : ◌≡◌ {A = ℕ} 0 1 = cc in omega arith

pub const≢free : {z : ℤ} → const z ≡ free → ⊥
const≢free e = let y : ◌≡◌ {A = ℕ} 0 1 = cc in omega arith

module _ (t : Table) (ls : List Literal) (type : ℕ → ℕ) (n : TypedNode t ls type) (o : OpenNode t ls) where
  abbrev S : State
  S = closure_of t ls

  abbrev cls : ℕ → ℕ
  cls i = class_of (closure_of t ls) i

  abbrev BuiltHere : Build → Type 0
  BuiltHere = BuiltAt t (LacksAt (closure_of t ls))

  abbrev Only : ℕ → ℕ → Type 0
  Only = Alone (LacksAt (closure_of t ls))

  abbrev IsTerm : Term → Type 0
  IsTerm x = Memᴰ x t.terms

  abbrev Fieldless : ℕ → ℕ → Type 0
  Fieldless u v = Memᴰ v (fieldless 0 (variants_of t.types u))

  rules : ObeysRules t (SameAt S) (LacksAt S)
  rules = (closure_least t ls n.in_range n.literals_in_range).rules

  typed : TableTyped t type
  typed = n.typed

  -- ---- equal terms have one type

  same-types : (ps qs fs : List ℕ) → map type ps ≡ fs → map type qs ≡ fs → AllSame (λ i j. type i ≡ type j) ps qs
  same-types [] qs fs p q = tt
  same-types (x ∷ ps) [] fs p q = tt
  same-types (x ∷ ps) (y ∷ qs) [] p q = absurd (nil≢cons (sym p))
  same-types (x ∷ ps) (y ∷ qs) (f ∷ fs) p q =
      let a : type x ≡ f = cc in
      let b : type y ≡ f = cc in
      let c : map type ps ≡ fs = cc in
      let d : map type qs ≡ fs = cc in
      (a ∙ sym b, same-types ps qs fs c d)

  built-typed : (Lacks : Relation) (b : Build) → BuiltAt t Lacks b → BuildTyped t type b
  built-typed Lacks b (row m) = typed.builds b m
  built-typed Lacks b (read r m f e) = subst (BuildTyped t type) (sym e) (typed.reads r m)

  build-type : (Lacks : Relation) (b : Build) → BuiltAt t Lacks b → type b.term ≡ b.type
  build-type Lacks b (row m) = typed.terms (record { term = b.term; type = b.type }) (n.in_range.build_terms b m)
  build-type Lacks b (read r m f e) =
      subst (λ (b : Build). type b.term ≡ b.type) (sym e) (typed.terms (record { term = r.term; type = r.type }) (n.in_range.read_terms r m))

  const-type : (a : Const) → Memᴰ a t.consts → type a.term ≡ a.type
  const-type a m = typed.terms (record { term = a.term; type = a.type }) (typed.const_terms a m)

  type-rules : ObeysRules t (λ i j. type i ≡ type j) (λ i v. Unit {0})
  type-rules =
      record {
        itself = λ i. refl;
        back = λ e. sym e;
        through = λ e f. e ∙ f;
        constants = λ a b ma mb et ev. const-type a ma ∙ et ∙ sym (const-type b mb);
        congruent = λ a b ba bb et ev ps. build-type _ a ba ∙ et ∙ sym (build-type _ b bb);
        parts = λ a b ba bb et ev e. same-types a.parts b.parts (fields_of t.types a.type a.variant) (built-typed _ a ba).parts
            ((built-typed _ b bb).parts ∙ ap (λ (u : ℕ). fields_of t.types u b.variant) (sym et) ∙ ap (fields_of t.types a.type) (sym ev));
        reads = λ a b ma mb et ev ep e. typed.rows a ma ∙ ap (λ (u : ℕ). field_type t.types u a.variant a.position) et
            ∙ ap (λ (v : ℕ). field_type t.types b.type v a.position) ev ∙ ap (field_type t.types b.type b.variant) ep ∙ sym (typed.rows b mb);
        beyond = λ x v m h. tt;
        built = λ b m u hu n. tt;
        shared = λ e h. tt;
        single = λ a b v ma mb et m fa fb. typed.terms a ma ∙ et ∙ sym (typed.terms b mb);
        absent = λ r m h. sym (typed.absents r m);
      }

  type-literals : ObeysLiterals ls (λ i j. type i ≡ type j) (λ i v. Unit {0})
  type-literals = record { equal_literal = n.equal_types; is_literal = λ i v m u hu n. tt; isnt_literal = λ i v m. tt }

  -- the type of a class is that of its terms
  pub term_type_lem : (x : Term) → IsTerm x → type (cls x.term) ≡ x.type
  term_type_lem x m =
      sym ((closure_sound t ls n.in_range n.literals_in_range (λ i j. type i ≡ type j) (λ i v. Unit {0}) type-rules type-literals).class x.term (n.in_range.terms x m).0) ∙ typed.terms x m

  pub type-at : (x : Term) → IsTerm x → (c : ℕ) → cls x.term ≡ c → type c ≡ x.type
  type-at x m c e = ap type (sym e) ∙ term_type_lem x m

  -- ---- builds and constants

  abbrev term_of : Build → Term
  term_of b = record { term = b.term; type = b.type }

  build-term : (b : Build) → BuiltHere b → IsTerm (term_of b)
  build-term = built-term t ls n.in_range n.literals_in_range

  build_class : (b : Build) → BuiltHere b → (c : ℕ) → cls b.term ≡ c → type c ≡ b.type
  build_class b m = type-at (term_of b) (build-term b m)

  build-small : (b : Build) → BuiltHere b → b.variant < variant_limit
  build-small = built-small t ls n.in_range n.literals_in_range

  build-only : (b : Build) → BuiltHere b → Only b.term b.variant
  build-only = built-alone t ls n.in_range n.literals_in_range

  has_variant_lem : (u v : ℕ) → v < length (variants_of t.types u) → is_number t.types u ≡ false
  has_variant_lem u v h = ne_eqb (length (variants_of t.types u)) 0 (λ e. omega arith)

  build-number : (b : Build) → BuiltHere b → is_number t.types b.type ≡ false
  build-number b m = has_variant_lem b.type b.variant (built-typed _ b m).variant

  fieldless-number : (u v : ℕ) → Fieldless u v → is_number t.types u ≡ false
  fieldless-number u v f = let (k, e, h, q) = fieldless-is 0 v (variants_of t.types u) f in has_variant_lem u k h

  -- ---- labels

  at_class : (i j v : ℕ) → cls i ≡ cls j → LacksAt S i v → LacksAt S j v
  at_class i j v e = rules.shared e

  -- a label that is one variant alone holds it
  only-held : (x : Term) (v : ℕ) → IsTerm x → is_number t.types x.type ≡ false → v < variant_limit → Only x.term v → ¬ LacksAt S x.term v
  only-held x v m e h = alone-held t ls n.in_range n.literals_in_range x.term v h (label_held t ls S o.not_closed x m e)

  -- the one variant alone of a class
  one_only : (x y : Term) (u v : ℕ) → IsTerm x → is_number t.types x.type ≡ false → cls x.term ≡ cls y.term → u < variant_limit → Only x.term u → Only y.term v → u ≡ v
  one_only x y u v m e q h fx fy = by_test (eqb u v) (eqb-true u v) (λ r. absurd (only-held x u m e h fx (at_class y.term x.term u (sym q) (fy u h (eqb-false u v r)))))

  -- ---- the kind of a class

  pub data Reason (c : ℕ) (k : Kind) : Type 0 where
    built : (b : Build) → BuiltHere b → cls b.term ≡ c → k ≡ node b.variant (map cls b.parts) → Reason c k
    nullary : (x : Term) (v : ℕ) → IsTerm x → cls x.term ≡ c → Fieldless x.type v → Only x.term v → k ≡ node v [] → Reason c k
    constant : (a : Const) → Memᴰ a t.consts → cls a.term ≡ c → k ≡ const a.value → Reason c k
    unfixed : ((b : Build) → BuiltHere b → ¬ (cls b.term ≡ c)) → ((a : Const) → Memᴰ a t.consts → ¬ (cls a.term ≡ c))
        → ((x : Term) (v : ℕ) → IsTerm x → cls x.term ≡ c → Fieldless x.type v → ¬ Only x.term v) → k ≡ free → Reason c k

  same_map : (ps qs : List ℕ) → length ps ≡ length qs → AllSame (SameAt S) ps qs → map cls ps ≡ map cls qs
  same_map [] [] l h = refl
  same_map [] (q ∷ qs) l h = absurd (omega arith)
  same_map (p ∷ ps) [] l h = absurd (omega arith)
  same_map (p ∷ ps) (q ∷ qs) l h = let e : cls p ≡ cls q = h.0 in let r : map cls ps ≡ map cls qs = same_map ps qs (omega arith) h.1 in cc

  parts-length : (b : Build) → BuiltHere b → (u v : ℕ) → b.type ≡ u → b.variant ≡ v → length b.parts ≡ length (fields_of t.types u v)
  parts-length b m u v et ev =
      sym (map-length type b.parts) ∙ ap length (built-typed _ b m).parts ∙ ap (λ (w : ℕ). length (fields_of t.types w b.variant)) et ∙ ap (λ (w : ℕ). length (fields_of t.types u w)) ev

  -- a class with a build is a node
  pub build-kind : (b : Build) → BuiltHere b → (k : Kind) → Reason (cls b.term) k → k ≡ node b.variant (map cls b.parts)
  build-kind b m k (built a ma q e) =
      let ev : b.variant ≡ a.variant =
      one_only (term_of b) (term_of a) b.variant a.variant (build-term b m) (build-number b m) (sym q) (build-small b m) (build-only b m) (build-only a ma) in
      let et : b.type ≡ a.type = sym (build_class b m (cls b.term) refl) ∙ build_class a ma (cls b.term) q in
      let l : length b.parts ≡ length a.parts = parts-length b m a.type a.variant et ev ∙ sym (parts-length a ma a.type a.variant refl refl) in
      let ep : map cls b.parts ≡ map cls a.parts = same_map b.parts a.parts l (rules.parts b a m ma et ev (sym q)) in
      e ∙ ap (λ (v : ℕ). node v (map cls a.parts)) (sym ev) ∙ ap (node b.variant) (sym ep)
  build-kind b m k (nullary x v mx q f only e) =
      let ev : b.variant ≡ v = one_only (term_of b) x b.variant v (build-term b m) (build-number b m) (sym q) (build-small b m) (build-only b m) only in
      let et : b.type ≡ x.type = sym (build_class b m (cls b.term) refl) ∙ type-at x mx (cls b.term) q in
      let (j, ej, hj, fj) = fieldless-is 0 v (variants_of t.types x.type) f in
      let vj : b.variant ≡ j = omega (arith, ev, ej) in
      let l : length b.parts ≡ 0 = parts-length b m x.type j et vj ∙ ap length fj in
      e ∙ ap (λ (v : ℕ). node v []) (sym ev) ∙ ap (λ (ps : List ℕ). node b.variant (map cls ps)) (sym (length-nil b.parts l))
  build-kind b m k (constant a ma q e) =
      absurd (false≢true (sym (build-number b m) ∙ ap (is_number t.types) (sym (build_class b m (cls b.term) refl) ∙ ap type (sym q) ∙ term_type_lem _ (typed.const_terms a ma)) ∙ typed.const_types a ma))
  build-kind b m k (unfixed f g h e) = absurd (f b m refl)

  -- a class with a constant is that constant
  pub const-kind : (a : Const) → Memᴰ a t.consts → (k : Kind) → Reason (cls a.term) k → k ≡ const a.value
  const-kind a m k r = go r
    where
      number-here : (u : ℕ) → type (cls a.term) ≡ u → is_number t.types u ≡ true
      number-here u e = ap (is_number t.types) (sym e ∙ term_type_lem _ (typed.const_terms a m)) ∙ typed.const_types a m

      go : Reason (cls a.term) k → k ≡ const a.value
      go (built b mb q e) = absurd (false≢true (sym (build-number b mb) ∙ number-here b.type (build_class b mb (cls a.term) q)))
      go (nullary x v mx q f only e) = absurd (false≢true (sym (fieldless-number x.type v f) ∙ number-here x.type (type-at x mx (cls a.term) q)))
      go (constant b mb q e) = e ∙ ap const (constants-agree t ls S o.not_closed _ (typed.const_terms a m) b a mb m (sym q) refl)
      go (unfixed f g h e) = absurd (g a m refl)

  -- a class has one kind
  pub kind_once : (c : ℕ) (k l : Kind) → Reason c k → Reason c l → k ≡ l
  kind_once c k l (built b m q e) r = e ∙ sym (build-kind b m l (subst (λ (d : ℕ). Reason d l) (sym q) r))
  kind_once c k l (constant a m q e) r = e ∙ sym (const-kind a m l (subst (λ (d : ℕ). Reason d l) (sym q) r))
  kind_once c k l (nullary x v m q f only e) (built b mb qb eb) = sym (eb ∙ sym (build-kind b mb k (nullary x v m (q ∙ sym qb) f only e)))
  kind_once c k l (nullary x v m q f only e) (constant a ma qa ea) = sym (ea ∙ sym (const-kind a ma k (nullary x v m (q ∙ sym qa) f only e)))
  kind_once c k l (nullary x v m q f only e) (nullary y w my qy fy only2 ey) =
      e ∙ ap (λ (v : ℕ). node v []) (one_only x y v w m (fieldless-number x.type v f) (q ∙ sym qy) (n.in_range.fieldlesses x v m f) only only2) ∙ sym ey
  kind_once c k l (nullary x v m q f only e) (unfixed g h j el) = absurd (j x v m q f only)
  kind_once c k l (unfixed g h j e) (built b m q eb) = absurd (g b m q)
  kind_once c k l (unfixed g h j e) (nullary x v m q f only ex) = absurd (j x v m q f only)
  kind_once c k l (unfixed g h j e) (constant a m q ea) = absurd (h a m q)
  kind_once c k l (unfixed g h j e) (unfixed g2 h2 j2 e2) = e ∙ sym e2

  decide : (c : ℕ) → (k : Kind) × Reason c k
  decide c = by-build (find_cases (λ b. eqb (cls b.term) c) (builds_at t S))
    where
      single : Term → Bool
      single x = eqb (cls x.term) c && any (alone S x.term) (fieldless 0 (variants_of t.types x.type))

      by-term : ((b : Build) → Memᴰ b (builds_at t S) → eqb (cls b.term) c ≡ false) → ((a : Const) → Memᴰ a t.consts → eqb (cls a.term) c ≡ false)
          → ((x : Term) × IsTerm x × (single x ≡ true)) ⊎ ((x : Term) → IsTerm x → single x ≡ false) → (k : Kind) × Reason c k
      by-term nb na (inl (x, m, e)) =
          let (v, f, q) = any_some (alone S x.term) (fieldless 0 (variants_of t.types x.type)) (and_right (eqb (cls x.term) c) _ e) in (
            node v [],
            nullary x v m (eqb-true _ _ (and_left (eqb (cls x.term) c) _ e)) f
                (alone_test t ls n.in_range n.literals_in_range x.term v (n.in_range.terms x m).0 (n.in_range.fieldlesses x v m f) q) refl,
          )
      by-term nb na (inr ns) = (
        free,
        unfixed (λ b m e. eqb-false _ _ (nb b (build_of_lem t ls n.in_range n.literals_in_range b m)) e) (λ a m e. eqb-false _ _ (na a m) e)
            (λ x v m e f h. false≢true (sym (ns x m) ∙ and_both (eqb (cls x.term) c) _ (eq-eqb _ _ e)
            (any_of (alone S x.term) (fieldless 0 (variants_of t.types x.type)) v f (test_alone t ls n.in_range n.literals_in_range x.term v h)))) refl,
      )

      by-const : ((b : Build) → Memᴰ b (builds_at t S) → eqb (cls b.term) c ≡ false)
          → ((a : Const) × Memᴰ a t.consts × (eqb (cls a.term) c ≡ true)) ⊎ ((a : Const) → Memᴰ a t.consts → eqb (cls a.term) c ≡ false) → (k : Kind) × Reason c k
      by-const nb (inl (a, m, e)) = (const a.value, constant a m (eqb-true _ _ e) refl)
      by-const nb (inr na) = by-term nb na (find_cases single t.terms)

      by-build : ((b : Build) × Memᴰ b (builds_at t S) × (eqb (cls b.term) c ≡ true)) ⊎ ((b : Build) → Memᴰ b (builds_at t S) → eqb (cls b.term) c ≡ false) → (k : Kind) × Reason c k
      by-build (inl (b, m, e)) = (node b.variant (map cls b.parts), built b (built_of_lem t ls n.in_range n.literals_in_range b m) (eqb-true _ _ e) refl)
      by-build (inr nb) = by-const nb (find_cases (λ a. eqb (cls a.term) c) t.consts)

  pub kind_of : ℕ → Kind
  kind_of c = (decide c).0

  pub reason : (c : ℕ) → Reason c (kind_of c)
  unfolding kind_of
  reason c = (decide c).1

  -- ---- classes of each kind

  -- a class of the node: that of a term
  abbrev pub IsClass : ℕ → Type 0
  IsClass c = (x : Term) × Memᴰ x t.terms × (class_of (closure_of t ls) x.term ≡ c)

  -- a class that is to get a message
  abbrev pub NeededClass : (ℕ → Type 0) → ℕ → Type 0
  NeededClass Need c = IsClass c × Need c

  -- a node has a build, or no parts
  pub record BuiltClass (c v : ℕ) (ps : List ℕ) : Type 0 where
    pub build : Build
    pub here : BuiltHere build
    pub class : cls build.term ≡ c
    pub variant : v ≡ build.variant
    pub parts : ps ≡ map cls build.parts

  pub record NodeClass (c v : ℕ) (ps : List ℕ) : Type 0 where
    pub part_classes : All IsClass ps
    pub part_types : map type ps ≡ fields_of t.types (type c) v
    pub variant : v < length (variants_of t.types (type c))
    pub small : v < variant_limit
    -- a term of the class, with its label
    pub term : Term
    pub mem : IsTerm term
    pub class : cls term.term ≡ c
    pub only : Only term.term v
    pub from : BuiltClass c v ps ⊎ (ps ≡ [])

  pub record ConstClass (c : ℕ) (z : ℤ) : Type 0 where
    pub const : Const
    pub mem : Memᴰ const t.consts
    pub class : cls const.term ≡ c
    pub value : z ≡ const.value
    pub is_type : type c ≡ const.type

  part-classes : (b : Build) → BuiltHere b → All IsClass (map cls b.parts)
  part-classes b m = all_map cls b.parts (λ p k. (record { term = p; type = type p }, all_mem (built-typed _ b m).part_terms p k, refl))

  part-types : (b : Build) → BuiltHere b → map type (map cls b.parts) ≡ fields_of t.types b.type b.variant
  part-types b m = map-map type cls b.parts ∙ map_cong (λ p. type (cls p)) type b.parts (λ p k. term_type_lem _ (all_mem (built-typed _ b m).part_terms p k)) ∙ (built-typed _ b m).parts

  pub node_class : (c v : ℕ) (ps : List ℕ) → kind_of c ≡ node v ps → NodeClass c v ps
  node_class c v ps e = go (reason c)
    where
      go : Reason c (kind_of c) → NodeClass c v ps
      go (built b m q k) =
          let x : node v ps ≡ node b.variant (map cls b.parts) = sym e ∙ k in
          let e1 : v ≡ b.variant = cc in
          let e2 : ps ≡ map cls b.parts = cc in
          let et : type c ≡ b.type = build_class b m c q in
          record {
            part_classes = subst (All IsClass) (sym e2) (part-classes b m);
            part_types = ap (map type) e2 ∙ part-types b m ∙ ap (λ (u : ℕ). fields_of t.types u b.variant) (sym et) ∙ ap (fields_of t.types (type c)) (sym e1);
            variant = subst (λ (u : ℕ). v < length (variants_of t.types u)) (sym et) (subst (λ (w : ℕ). w < length (variants_of t.types b.type)) (sym e1) (built-typed _ b m).variant);
            small = subst (λ (w : ℕ). w < variant_limit) (sym e1) (build-small b m);
            term = term_of b;
            mem = build-term b m;
            class = q;
            only = subst (Only b.term) (sym e1) (build-only b m);
            from = inl (record { build = b; here = m; class = q; variant = e1; parts = e2 });
          }
      go (nullary x w m q f a k) =
          let y : node v ps ≡ node w [] = sym e ∙ k in
          let e1 : v ≡ w = cc in
          let e2 : ps ≡ [] = cc in
          let et : type c ≡ x.type = type-at x m c q in
          let (j, ej, hj, fj) = fieldless-is 0 w (variants_of t.types x.type) f in
          let vj : v ≡ j = omega (arith, e1, ej) in
          record {
            part_classes = subst (All IsClass) (sym e2) none;
            part_types = ap (map type) e2 ∙ sym fj ∙ ap (fields_of t.types x.type) (sym vj) ∙ ap (λ (u : ℕ). fields_of t.types u v) (sym et);
            variant = subst (λ (u : ℕ). v < length (variants_of t.types u)) (sym et) (omega (arith, hj));
            small = omega (arith, n.in_range.fieldlesses x w m f);
            term = x;
            mem = m;
            class = q;
            only = subst (Only x.term) (sym e1) a;
            from = inr e2;
          }
      go (constant a m q k) = absurd (node≢const (sym e ∙ k))
      go (unfixed f h j k) = absurd (node≢free (sym e ∙ k))

  pub const_class : (c : ℕ) (z : ℤ) → kind_of c ≡ const z → ConstClass c z
  const_class c z e = go (reason c)
    where
      go : Reason c (kind_of c) → ConstClass c z
      go (built b m q k) = absurd (node≢const (sym k ∙ e))
      go (nullary x w m q f a k) = absurd (node≢const (sym k ∙ e))
      go (constant a m q k) =
          let y : const z ≡ const a.value = sym e ∙ k in
          record { const = a; mem = m; class = q; value = (cc); is_type = type-at _ (typed.const_terms a m) c q }
      go (unfixed f h j k) = absurd (const≢free (sym e ∙ k))

  -- the label of a node holds its variant
  pub node-held : (x : Term) → IsTerm x → (v : ℕ) (ps : List ℕ) → kind_of (cls x.term) ≡ node v ps → ¬ LacksAt (closure_of t ls) x.term v
  node-held x m v ps e l =
      let a : NodeClass (cls x.term) v ps = node_class (cls x.term) v ps e in
      only-held a.term v a.mem (has_variant_lem a.term.type v (subst (λ (u : ℕ). v < length (variants_of t.types u)) (type-at a.term a.mem (cls x.term) a.class) a.variant)) a.small a.only
      (at_class x.term a.term.term v (sym a.class) l)

  -- nodes of one type that look alike are one class
  pub node_once : (c d v : ℕ) (ps : List ℕ) → type c ≡ type d → kind_of c ≡ node v ps → kind_of d ≡ node v ps → c ≡ d
  node_once c d v ps et ec ed = go nc.from nd.from
    where
      nc : NodeClass c v ps
      nc = node_class c v ps ec

      nd : NodeClass d v ps
      nd = node_class d v ps ed

      -- without parts, both have the one fieldless variant alone
      bare : ps ≡ [] → c ≡ d
      bare q =
          let tc : type c ≡ nc.term.type = type-at nc.term nc.mem c nc.class in
          let td : type d ≡ nd.term.type = type-at nd.term nd.mem d nd.class in
          let z : fields_of t.types (type c) v ≡ [] = sym nc.part_types ∙ ap (map type) q in
          let f : Fieldless nc.term.type v = subst (λ (u : ℕ). Fieldless u v) tc (subst (Fieldless (type c)) (zero-add v) (fieldless_has 0 v (variants_of t.types (type c)) nc.variant z)) in
          sym nc.class ∙ rules.single nc.term nd.term v nc.mem nd.mem (sym tc ∙ et ∙ td) f nc.only nd.only ∙ nd.class

      map_same : (ps qs : List ℕ) → map cls ps ≡ map cls qs → AllSame (SameAt S) ps qs
      map_same [] qs e = tt
      map_same (p ∷ ps) [] e = tt
      map_same (p ∷ ps) (q ∷ qs) e = ((cc), map_same ps qs (cc))

      go : BuiltClass c v ps ⊎ (ps ≡ []) → BuiltClass d v ps ⊎ (ps ≡ []) → c ≡ d
      go (inr q) k = bare q
      go (inl k) (inr q) = bare q
      go (inl a) (inl b) =
          sym a.class
          ∙ rules.congruent a.build b.build a.here b.here (sym (build_class a.build a.here c a.class) ∙ et ∙ build_class b.build b.here d b.class) (sym a.variant ∙ b.variant)
          (map_same a.build.parts b.build.parts (sym a.parts ∙ b.parts)) ∙ b.class

  pub const_once : (c d : ℕ) (z : ℤ) → type c ≡ type d → kind_of c ≡ const z → kind_of d ≡ const z → c ≡ d
  const_once c d z et ec ed =
      let a : ConstClass c z = const_class c z ec in
      let b : ConstClass d z = const_class d z ed in
      sym a.class ∙ rules.constants a.const b.const a.mem b.mem (sym a.is_type ∙ et ∙ b.is_type) (sym a.value ∙ b.value) ∙ b.class

  -- ranks that fall from each build to its parts fall from each node to its parts
  pub node-falls : (rank : ℕ → ℕ) → ((b : Build) → BuiltHere b → All (λ p. rank (cls p) < rank (cls b.term)) b.parts) → (c v : ℕ) (ps : List ℕ) → kind_of c ≡ node v ps → All (λ p. rank p < rank c) ps
  node-falls rank falls c v ps e = go (node_class c v ps e).from
    where
      go : BuiltClass c v ps ⊎ (ps ≡ []) → All (λ p. rank p < rank c) ps
      go (inr q) = subst (All (λ p. rank p < rank c)) (sym q) none
      go (inl a) =
          subst (All (λ p. rank p < rank c)) (sym a.parts) (subst (λ (x : ℕ). All (λ p. rank p < rank x) (map cls a.build.parts)) a.class
          (all_map cls a.build.parts (λ p m. all_mem (falls a.build a.here) p m)))
