-- The messages of all classes of an open node from those of its free classes. Ranks fall from a node to its parts, so
-- recursion as deep as the highest rank reaches all parts, and going deeper changes nothing; hence the messages meet the
-- local equations of `Solution`. Assumes nothing.
use mathlib.Core.Path.{◌≡◌, refl, ap, sym, ◌∙◌, subst}
use mathlib.Core.List.{List, Memᴰ, map}
use Prim.Native.Nat.{ℕ, zero, suc, ◌≤◌, ◌<◌}
use native.Mathlib.Omega.{arith}
use lib.ListN.{length}
use lib.IntN.{ℤ}
use Rattle.laws.specs.All.{All}
use Rattle.laws.proofs.Bits.{below}
use Rattle.laws.proofs.Lists.{all_mem, map_cong}
use Rattle.guard.specs.Closure.{LacksAt, State, builds_at, class_of, closure_of}
use Rattle.guard.specs.Guard.{Literal}
use Rattle.guard.specs.Meaning.{Belongs, IsVariant}
use Rattle.guard.specs.Message.{Message, Message.made, Message.number, no_message, to_parts}
use Rattle.guard.specs.Rules.{BuiltAt}
use Rattle.guard.specs.Terms.{Build, Table, Term}
use Rattle.guard.specs.Types.{fields_of}
use Rattle.growth.proofs.Injective.{Kind, Kind.const, Kind.free, Kind.node, Leaf}
use Rattle.growth.proofs.Paths.{down}
use Rattle.models.proofs.Classes.{NeededClass, kind_of, node-falls}
use Rattle.models.proofs.Nodes.{OpenNode, TypedNode, not_inside}
use Rattle.models.proofs.Picture.{Solution}
use Rattle.models.proofs.Ranks.{rank, rank_falls_lem, rank-low}

module _ (t : Table) (ls : List Literal) (type : ℕ → ℕ) (n : TypedNode t ls type) (o : OpenNode t ls) where
  abbrev S : State
  S = closure_of t ls

  abbrev cls : ℕ → ℕ
  cls i = class_of (closure_of t ls) i

  abbrev kind : ℕ → Kind
  kind = kind_of t ls type n o

  abbrev pub class_rank : ℕ → ℕ
  class_rank = rank t ls n.in_range n.literals_in_range (not_inside t ls (closure_of t ls) o.not_closed)

  -- no rank is higher
  abbrev pub highest : ℕ
  highest = length (builds_at t (closure_of t ls))

  low : (c : ℕ) → class_rank c ≤ highest
  low = rank-low t ls n.in_range n.literals_in_range (not_inside t ls S o.not_closed)

  falls : (c v : ℕ) (ps : List ℕ) → kind c ≡ node v ps → All (λ p. class_rank p < class_rank c) ps
  falls = node-falls t ls type n o class_rank (rank_falls_lem t ls n.in_range n.literals_in_range (not_inside t ls S o.not_closed))

  module _ (free_message : ℕ → Message) where
    -- a message by the kind of its class; `below` gives those of the parts
    abbrev by_kind : ℕ → (ℕ → Message) → Kind → Message
    by_kind c below (node v ps) = made (type c) v (to_parts (map below ps))
    by_kind c below (const z) = number (type c) z
    by_kind c below free = free_message c

    abbrev message_to : ℕ → ℕ → Message
    message_to zero c = no_message
    message_to (suc k) c = by_kind c (message_to k) (kind c)

    -- depth enough is enough
    stable : (k l c : ℕ) → class_rank c < k → class_rank c < l → message_to k c ≡ message_to l c
    stable zero l c hk hl = absurd (omega arith)
    stable (suc k) zero c hk hl = absurd (omega arith)
    stable (suc k) (suc l) c hk hl = go (stable k l) (kind c) refl
      where
        go : ((p : ℕ) → class_rank p < k → class_rank p < l → message_to k p ≡ message_to l p) → (x : Kind) → kind c ≡ x → by_kind c (message_to k) x ≡ by_kind c (message_to l) x
        go ih (node v ps) e =
            ap (λ (ms : List Message). made (type c) v (to_parts ms))
            (map_cong (message_to k) (message_to l) ps (λ p m. let r : class_rank p < class_rank c = all_mem (falls c v ps e) p m in ih p (omega arith) (omega arith)))
        go ih (const z) e = refl
        go ih free e = refl

    pub class_message : ℕ → Message
    class_message c = message_to (suc highest) c

    pub node-message : (c v : ℕ) (ps : List ℕ) → kind_of t ls type n o c ≡ node v ps → class_message c ≡ made (type c) v (to_parts (map class_message ps))
    unfolding class_message
    node-message c v ps e =
        ap (by_kind c (message_to highest)) e ∙ ap (λ (ms : List Message). made (type c) v (to_parts ms))
        (map_cong (message_to highest) (message_to (suc highest)) ps (λ p m. stable highest (suc highest) p (omega (arith, all_mem (falls c v ps e) p m, low c)) (omega (arith, low p))))

    pub const-message : (c : ℕ) (z : ℤ) → kind_of t ls type n o c ≡ const z → class_message c ≡ number (type c) z
    unfolding class_message
    const-message c z e = ap (by_kind c (message_to highest)) e

    pub free-message : (c : ℕ) → kind_of t ls type n o c ≡ free → class_message c ≡ free_message c
    unfolding class_message
    free-message c e = ap (by_kind c (message_to highest)) e

    -- what is asked of the messages of free classes: each belongs to its type, its variant is in the label, and no other
    -- leaf's message is met on the first stretch of its path
    pub record FreeMessages (Need : ℕ → Type 0) (at : ℕ → ℕ → ℕ) (most : ℕ) : Type 0 where
      pub inside : (u v : ℕ) → 0 < length (fields_of t.types u v) → at u v < length (fields_of t.types u v)
      pub need_parts : (b : Build) → BuiltAt t (LacksAt S) b → Need (cls b.term) → All (λ p. Need (cls p)) b.parts
      pub belongs : (c : ℕ) → NeededClass t ls type n o Need c → kind c ≡ free → Belongs t.types (free_message c) (type c)
      pub held : (x : Term) → Memᴰ x t.terms → Need (cls x.term) → kind (cls x.term) ≡ free → (v : ℕ) → IsVariant (free_message (cls x.term)) v → ¬ LacksAt S x.term v
      pub apart : (w u k : ℕ) → NeededClass t ls type n o Need w → NeededClass t ls type n o Need u → Leaf (kind w) → kind u ≡ free → k ≤ most
          → down at k (class_message u) ≡ class_message w → w ≡ u

    -- `rank`, `most`: any ranks that fall, and a bound on those of the classes that get messages
    pub solution : (Need : ℕ → Type 0) (at : ℕ → ℕ → ℕ) (rank : ℕ → ℕ) (most : ℕ)
        → ((b : Build) → BuiltAt t (LacksAt (closure_of t ls)) b → All (λ p. rank (class_of (closure_of t ls) p) < rank (class_of (closure_of t ls) b.term)) b.parts)
        → ((c : ℕ) → NeededClass t ls type n o Need c → rank c ≤ most) → FreeMessages Need at most → Solution t ls type n o Need at class_message rank most
    solution Need at rank most rank_falls rank_low f =
        record {
          inside = f.inside;
          need_parts = f.need_parts;
          rank_falls = rank_falls;
          rank_low = rank_low;
          node_val = λ c v ps i e. node-message c v ps e;
          const_val = λ c z i e. const-message c z e;
          free_belongs = λ c i e. subst (λ (m : Message). Belongs t.types m (type c)) (sym (free-message c e)) (f.belongs c i e);
          free_held = λ x m nd e v h. f.held x m nd e v (subst (λ (w : Message). IsVariant w v) (free-message (cls x.term) e) h);
          apart = f.apart;
        }
