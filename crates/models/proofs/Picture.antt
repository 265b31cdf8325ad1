-- Messages for the classes of an open node that meet the local equations are a picture of the node: equal terms have
-- one message, unequal terms of one type have two, builds, constants and labels are as the node says, and every message
-- belongs to its type. Local means: a node is its variant over its parts' messages, a constant is its number, and a free
-- class has a message of its type, by a variant of its label, that lies apart from those of the other leaves. Messages
-- belong to their types by induction on ranks; that they differ is `injective` of growth. Assumes nothing.
use mathlib.Core.Path.{◌≡◌, refl, ap, sym, ◌∙◌, subst}
use mathlib.Core.List.{List, [], ◌∷◌, Memᴰ, map}
use mathlib.Core.Logic.{◌⊎◌, inl, inr}
use Prim.Native.Nat.{ℕ, zero, suc, ◌≤◌, ◌<◌}
use native.Mathlib.Omega.{arith}
use lib.ListN.{length}
use lib.IntN.{ℤ}
use Rattle.laws.specs.All.{All, All.more, All.none}
use Rattle.laws.proofs.Lists.{all_map, all_mem, all_of, map-map}
use Rattle.guard.specs.Closure.{LacksAt, SameAt, State, class_of, closure_of}
use Rattle.guard.specs.Guard.{Literal}
use Rattle.guard.specs.Meaning.{BelongAll, Belongs, IsVariant}
use Rattle.guard.specs.Message.{Message, Message.made, Message.number, to_parts}
use Rattle.guard.specs.Rules.{BuiltAt}
use Rattle.guard.specs.Shown.{message_type}
use Rattle.guard.specs.Terms.{Build, Const, Table, Term}
use Rattle.guard.specs.Types.{Types, fields_of, is_number}
use Rattle.growth.proofs.Injective.{Kind, Kind.const, Kind.free, Kind.node, Leaf, Open, injective}
use Rattle.growth.proofs.Paths.{down}
use Rattle.models.proofs.Classes.{BuiltClass, ConstClass, NeededClass, NodeClass, build-kind, const_class, const-kind, const_once, kind_of, node_class, node-falls, node-held, node_once, reason, term_type_lem}
use Rattle.models.proofs.Nodes.{OpenNode, TypedNode, built-term}
use Rattle.models.proofs.TypedTable.{TableTyped}

-- a message for each needed term of a state, as classes and labels say
pub record Picture (t : Table) (s : State) (Need : ℕ → Type 0) (val : ℕ → Message) : Type 0 where
  -- what a needed class is built of is needed
  pub need_parts : (b : Build) → BuiltAt t (LacksAt s) b → Need (class_of s b.term) → All (λ p. Need (class_of s p)) b.parts
  pub same : (i j : ℕ) → SameAt s i j → val i ≡ val j
  pub builds : (b : Build) → BuiltAt t (LacksAt s) b → Need (class_of s b.term) → val b.term ≡ made b.type b.variant (to_parts (map val b.parts))
  pub consts : (c : Const) → Memᴰ c t.consts → Need (class_of s c.term) → val c.term ≡ number c.type c.value
  pub labels : (x : Term) → Memᴰ x t.terms → Need (class_of s x.term) → (v : ℕ) → IsVariant (val x.term) v → ¬ LacksAt s x.term v
  pub belongs : (x : Term) → Memᴰ x t.terms → Need (class_of s x.term) → Belongs t.types (val x.term) x.type
  pub apart : (x y : Term) → Memᴰ x t.terms → Memᴰ y t.terms → Need (class_of s x.term) → Need (class_of s y.term)
      → val x.term ≡ val y.term → SameAt s x.term y.term

belongs-type : (ts : Types) (m : Message) (u : ℕ) → Belongs ts m u → message_type m ≡ u
belongs-type ts (number t z) u b = b.0
belongs-type ts (made t v ms) u b = b.0

-- `Need`: the classes that get messages. `at`: the position of the field that a path follows. `rank`, `most`: any ranks that fall.
module _ (t : Table) (ls : List Literal) (type : ℕ → ℕ) (n : TypedNode t ls type) (o : OpenNode t ls)
    (Need : ℕ → Type 0) (at : ℕ → ℕ → ℕ) (val : ℕ → Message) (rank : ℕ → ℕ) (most : ℕ) where
  abbrev S : State
  S = closure_of t ls

  abbrev cls : ℕ → ℕ
  cls i = class_of (closure_of t ls) i

  abbrev kind : ℕ → Kind
  kind = kind_of t ls type n o

  abbrev In : ℕ → Type 0
  In = NeededClass t ls type n o Need

  -- the local equations, and what is asked of the messages of free classes
  pub record Solution : Type 0 where
    pub inside : (u v : ℕ) → 0 < length (fields_of t.types u v) → at u v < length (fields_of t.types u v)
    pub need_parts : (b : Build) → BuiltAt t (LacksAt S) b → Need (cls b.term) → All (λ p. Need (cls p)) b.parts
    pub rank_falls : (b : Build) → BuiltAt t (LacksAt S) b → All (λ p. rank (cls p) < rank (cls b.term)) b.parts
    pub rank_low : (c : ℕ) → In c → rank c ≤ most
    pub node_val : (c v : ℕ) (ps : List ℕ) → In c → kind c ≡ node v ps → val c ≡ made (type c) v (to_parts (map val ps))
    pub const_val : (c : ℕ) (z : ℤ) → In c → kind c ≡ const z → val c ≡ number (type c) z
    pub free_belongs : (c : ℕ) → In c → kind c ≡ free → Belongs t.types (val c) (type c)
    pub free_held : (x : Term) → Memᴰ x t.terms → Need (cls x.term) → kind (cls x.term) ≡ free → (v : ℕ) → IsVariant (val (cls x.term)) v → ¬ LacksAt S x.term v
    pub apart : (w u k : ℕ) → In w → In u → Leaf (kind w) → kind u ≡ free → k ≤ most → down at k (val u) ≡ val w → w ≡ u

  module _ (sol : Solution) where
    typed : TableTyped t type
    typed = n.typed

    falls : (c v : ℕ) (ps : List ℕ) → kind c ≡ node v ps → All (λ p. rank p < rank c) ps
    falls = node-falls t ls type n o rank sol.rank_falls

    -- the parts of a needed node are needed
    node_in : (c v : ℕ) (ps : List ℕ) → In c → kind c ≡ node v ps → All In ps
    node_in c v ps i e = all_of ps (λ p m. (all_mem a.part_classes p m, all_mem (needed a.from) p m))
      where
        a : NodeClass t ls type n o c v ps
        a = node_class t ls type n o c v ps e

        needed : BuiltClass t ls type n o c v ps ⊎ (ps ≡ []) → All Need ps
        needed (inr q) = subst (All Need) (sym q) none
        needed (inl b) = subst (All Need) (sym b.parts) (all_map cls b.build.parts (λ p m. all_mem (sol.need_parts b.build b.here (subst Need (sym b.class) i.1)) p m))

    open_structure : Open at (fields_of t.types) In type kind val rank most
    open_structure =
        record {
          inside = sol.inside;
          node_in = node_in;
          node-typed = λ c v ps i e. (node_class t ls type n o c v ps e).part_types;
          node-falls = λ c v ps i e. falls c v ps e;
          low = sol.rank_low;
          node_once = λ c d v ps ic id et ec ed. node_once t ls type n o c d v ps et ec ed;
          const_once = λ c d z ic id et ec ed. const_once t ls type n o c d z et ec ed;
          node-val = sol.node_val;
          const-val = sol.const_val;
          apart = sol.apart;
        }

    -- every message belongs to its class's type
    class_belongs : (k c : ℕ) → rank c < k → In c → Belongs t.types (val c) (type c)
    class_belongs zero c h i = absurd (omega arith)
    class_belongs (suc k) c h i = go (class_belongs k) (kind c) refl
      where
        each : ((d : ℕ) → rank d < k → In d → Belongs t.types (val d) (type d)) → (ps : List ℕ) → All In ps → All (λ p. rank p < rank c) ps → BelongAll t.types (to_parts (map val ps)) (map type ps)
        each ih [] none none = tt
        each ih (p ∷ ps) (more j js) (more l ks) = (ih p (omega arith) j, each ih ps js ks)

        go : ((d : ℕ) → rank d < k → In d → Belongs t.types (val d) (type d)) → (x : Kind) → kind c ≡ x → Belongs t.types (val c) (type c)
        go ih free e = sol.free_belongs c i e
        go ih (const z) e =
            let a : ConstClass t ls type n o c z = const_class t ls type n o c z e in
            subst (λ (m : Message). Belongs t.types m (type c)) (sym (sol.const_val c z i e)) (refl, ap (is_number t.types) a.is_type ∙ typed.const_types a.const a.mem)
        go ih (node v ps) e =
            let a : NodeClass t ls type n o c v ps = node_class t ls type n o c v ps e in
            subst (λ (m : Message). Belongs t.types m (type c)) (sym (sol.node_val c v ps i e))
            (refl, a.variant, subst (BelongAll t.types (to_parts (map val ps))) a.part_types (each ih ps (node_in c v ps i e) (falls c v ps e)))

    belongs_in : (c : ℕ) → In c → Belongs t.types (val c) (type c)
    belongs_in c i = class_belongs (suc (rank c)) c (omega arith) i

    in_term : (x : Term) → Memᴰ x t.terms → Need (cls x.term) → In (cls x.term)
    in_term x m nd = ((x, m, refl), nd)

    terms-apart : (x y : Term) → Memᴰ x t.terms → Memᴰ y t.terms → Need (cls x.term) → Need (cls y.term) → val (cls x.term) ≡ val (cls y.term) → cls x.term ≡ cls y.term
    terms-apart x y mx my nx ny e =
        injective at (fields_of t.types) In type kind val rank most open_structure (cls x.term) (cls y.term) (in_term x mx nx) (in_term y my ny)
        (sym (belongs-type t.types (val (cls x.term)) (type (cls x.term)) (belongs_in (cls x.term) (in_term x mx nx)))
        ∙ ap message_type e ∙ belongs-type t.types (val (cls y.term)) (type (cls y.term)) (belongs_in (cls y.term) (in_term y my ny))) e

    labels_hold : (x : Term) → Memᴰ x t.terms → Need (cls x.term) → (v : ℕ) → IsVariant (val (cls x.term)) v → ¬ LacksAt S x.term v
    labels_hold x m nd v h = go (kind (cls x.term)) refl
      where
        go : (k : Kind) → kind (cls x.term) ≡ k → ¬ LacksAt S x.term v
        go free q = sol.free_held x m nd q v h
        go (const z) q = absurd (subst (λ (w : Message). IsVariant w v) (sol.const_val (cls x.term) z (in_term x m nd) q) h)
        go (node u ps) q =
            let e : u ≡ v = subst (λ (w : Message). IsVariant w v) (sol.node_val (cls x.term) u ps (in_term x m nd) q) h in
            subst (λ (w : ℕ). ¬ LacksAt S x.term w) e (node-held t ls type n o x m u ps q)

    build-term : (b : Build) → BuiltAt t (LacksAt S) b → Memᴰ (record { term = b.term; type = b.type }) t.terms
    build-term = built-term t ls n.in_range n.literals_in_range

    pub picture : Picture t (closure_of t ls) Need (λ i. val (class_of (closure_of t ls) i))
    picture =
        record {
          need_parts = sol.need_parts;
          same = λ i j e. ap val e;
          builds = λ b m nd. sol.node_val (cls b.term) b.variant (map cls b.parts) (in_term _ (build-term b m) nd) (build-kind t ls type n o b m _ (reason t ls type n o (cls b.term)))
              ∙ ap (λ (u : ℕ). made u b.variant (to_parts (map val (map cls b.parts)))) (term_type_lem t ls type n o _ (build-term b m))
              ∙ ap (λ (ms : List Message). made b.type b.variant (to_parts ms)) (map-map val cls b.parts);
          consts = λ a m nd. sol.const_val (cls a.term) a.value (in_term _ (typed.const_terms a m) nd) (const-kind t ls type n o a m _ (reason t ls type n o (cls a.term)))
              ∙ ap (λ (u : ℕ). number u a.value) (term_type_lem t ls type n o _ (typed.const_terms a m));
          labels = labels_hold;
          belongs = λ x m nd. subst (Belongs t.types (val (cls x.term))) (term_type_lem t ls type n o x m) (belongs_in (cls x.term) (in_term x m nd));
          apart = terms-apart;
        }
