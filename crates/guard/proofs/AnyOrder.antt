-- The least closure in any order: whoever adds what is given and what the rules give, one fact after the other and in whatever
-- order, until nothing is new, has the least closure. Code that saturates is free to choose the order, and to go on from a
-- state that it has. Assumes nothing.
use mathlib.Core.Path.{◌≡◌}
use mathlib.Core.Bool.{true}
use mathlib.Core.List.{List, Memᴰ}
use Prim.Native.Nat.{ℕ, ◌≤◌, ◌<◌}
use Rattle.laws.specs.All.{All}
use Rattle.laws.proofs.Lists.{all_mem, all_of}
use Rattle.guard.specs.Closure.{Fact, LacksAt, SameAt, State, add, builds_at, built_rows, closure_of, consequences, given, holds, read_absent, reads, single}
use Rattle.guard.specs.Guard.{Literal}
use Rattle.guard.specs.Limits.{variant_limit}
use Rattle.guard.specs.Rules.{LeastClosure, ObeysLiterals, ObeysRules, Relation}
use Rattle.guard.specs.Terms.{Build, Read, Table, Term, term_count}
use Rattle.guard.proofs.ClosureBelow.{Fine, InRange, LiteralsInRange, Sound, Valid, absent_valid, add_sound, all-consequences, built_valid, fine_all, first_sound, given_valid, lacks_valid, reads_valid, same_valid_at, single_valid}
use Rattle.guard.proofs.ClosureEnds.{first}
use Rattle.guard.proofs.ClosureState.{Says, Small, add_small, first_small}
use Rattle.guard.proofs.LeastClosure.{closure_least, obeys_literals, obeys_rules}

-- ---- what follows at a state: what the rules give for any two elements, in either order. `consequences` has each two in one order
-- only
pub data Follows (t : Table) (s : State) (f : Fact) : Type 0 where
  by-built : (a b : Build) → Memᴰ a (builds_at t s) → Memᴰ b (builds_at t s) → Memᴰ f (built_rows s a b) → Follows t s f
  by-reads : (a b : Read) → Memᴰ a t.reads → Memᴰ b t.reads → Memᴰ f (reads s a b) → Follows t s f
  by-single : (a b : Term) → Memᴰ a t.terms → Memᴰ b t.terms → Memᴰ f (single t.types s a b) → Follows t s f
  by-absent : (r : Read) → Memᴰ r t.reads → Memᴰ f (read_absent s r) → Follows t s f

-- where all that follows holds already, all consequences do
pub all_quiet : (t : Table) (s : State) → ((f : Fact) → Follows t s f → holds s f ≡ true) → All (λ f. holds s f ≡ true) (consequences t s)
all_quiet t s h =
    all-consequences t s (λ a b ma mb. all_of (built_rows s a b) (λ f m. h f (by-built a b ma mb m)))
    (λ a b ma mb. all_of (reads s a b) (λ f m. h f (by-reads a b ma mb m)))
    (λ a b ma mb. all_of (single t.types s a b) (λ f m. h f (by-single a b ma mb m)))
    (λ r mr. all_of (read_absent s r) (λ f m. h f (by-absent r mr m)))

-- ---- states that are reached
pub data Reached (t : Table) (ls : List Literal) (room : ℕ) : State → Type 0 where
  start : Reached t ls room (first room)
  by-given : {s : State} → Reached t ls room s → (f : Fact) → Memᴰ f (given t ls) → Reached t ls room (add s f)
  by-rules : {s : State} → Reached t ls room s → (f : Fact) → Follows t s f → Reached t ls room (add s f)

-- what holds at the start and is kept by each fact
pub reached_ind : {t : Table} {ls : List Literal} {room : ℕ} (P : State → Type 0) → P (first room) → ((s : State) (f : Fact) → P s → P (add s f))
    → {s : State} → Reached t ls room s → P s
reached_ind P p h start = p
reached_ind P p h (by-given {s = s} r f m) = h s f (reached_ind P p h r)
reached_ind P p h (by-rules {s = s} r f m) = h s f (reached_ind P p h r)

-- labels stay masks
pub reached-small : {t : Table} {ls : List Literal} {room : ℕ} {s : State} → Reached t ls room s → Small s
reached-small {room = room} r = reached_ind Small (first_small room) (λ s f h. add_small s h f) r

-- ---- nothing is said that relations which obey the rules deny

module _ (t : Table) (ls : List Literal) (ranged : InRange t) (literals_in : LiteralsInRange ls) (room : ℕ) (enough : term_count ≤ room) where
  module _ (Same Lacks : Relation) (o : ObeysRules t Same Lacks) (asserted : ObeysLiterals ls Same Lacks) where
    follows_valid : (s : State) → Sound t ls ranged literals_in Same Lacks o asserted s → (f : Fact) → Follows t s f → Valid t ls ranged literals_in Same Lacks o asserted f
    follows_valid s ok f (by-built a b ma mb m) = all_mem (built_valid t ls ranged literals_in Same Lacks o asserted s ok a b (fine a ma) (fine b mb)) f m
      where
        fine : (c : Build) → Memᴰ c (builds_at t s) → Fine t ls ranged literals_in Same Lacks o asserted s ok c
        fine = all_mem (fine_all t ls ranged literals_in Same Lacks o asserted s ok)
    follows_valid s ok f (by-reads a b ma mb m) = all_mem (reads_valid t ls ranged literals_in Same Lacks o asserted s ok a b ma mb) f m
    follows_valid s ok f (by-single a b ma mb m) = all_mem (single_valid t ls ranged literals_in Same Lacks o asserted s ok a b ma mb) f m
    follows_valid s ok f (by-absent r mr m) = all_mem (absent_valid t ls ranged literals_in Same Lacks o asserted s ok r mr) f m

    reached_sound : {s : State} → Reached t ls room s → Sound t ls ranged literals_in Same Lacks o asserted s
    reached_sound start = first_sound t ls ranged literals_in Same Lacks o asserted room enough
    reached_sound (by-given {s = s} r f m) =
        add_sound t ls ranged literals_in Same Lacks o asserted s (reached_sound r) f (all_mem (given_valid t ls ranged literals_in Same Lacks o asserted) f m)
    reached_sound (by-rules {s = s} r f m) =
        add_sound t ls ranged literals_in Same Lacks o asserted s (reached_sound r) f (follows_valid s (reached_sound r) f m)

  -- ---- what a state says that is reached, the computed closure says

  module _ (s : State) (reached : Reached t ls room s) where
    pub same-there : (i j : ℕ) → i < term_count → j < term_count → SameAt s i j → SameAt (closure_of t ls) i j
    same-there i j hi hj e =
        let c = closure_least t ls ranged literals_in in
        same_valid_at t ls ranged literals_in (SameAt (closure_of t ls)) (LacksAt (closure_of t ls)) c.rules c.literals s
        (reached_sound (SameAt (closure_of t ls)) (LacksAt (closure_of t ls)) c.rules c.literals reached) i j hi hj e

    pub lacks-there : (i v : ℕ) → i < term_count → v < variant_limit → LacksAt s i v → LacksAt (closure_of t ls) i v
    lacks-there i v hi hv e =
        let c = closure_least t ls ranged literals_in in
        lacks_valid t ls ranged literals_in (SameAt (closure_of t ls)) (LacksAt (closure_of t ls)) c.rules c.literals s
        (reached_sound (SameAt (closure_of t ls)) (LacksAt (closure_of t ls)) c.rules c.literals reached) i v hi hv e

  -- ---- so a state that is reached, and where nothing is new, is the least closure

  module _ (s : State) (reached : Reached t ls room s) (says : All (Says s) (given t ls)) (quiet : All (λ f. holds s f ≡ true) (consequences t s)) where
    pub any_order : LeastClosure t ls (SameAt s) (LacksAt s)
    any_order =
        record {
          rules = obeys_rules t ls ranged literals_in s (reached-small reached) says quiet;
          literals = obeys_literals t ls ranged literals_in s (reached-small reached) says quiet;
          least_same = λ Same Lacks o a i j hi hj e. same_valid_at t ls ranged literals_in Same Lacks o a s (reached_sound Same Lacks o a reached) i j hi hj e;
          least_lacks = λ Same Lacks o a i v hi hv e. lacks_valid t ls ranged literals_in Same Lacks o a s (reached_sound Same Lacks o a reached) i v hi hv e;
        }

    -- and the computed closure says no more
    pub same_here : (i j : ℕ) → i < term_count → j < term_count → SameAt (closure_of t ls) i j → SameAt s i j
    same_here i j hi hj e = (closure_least t ls ranged literals_in).least_same (SameAt s) (LacksAt s) any_order.rules any_order.literals i j hi hj e

    pub lacks-here : (i v : ℕ) → i < term_count → v < variant_limit → LacksAt (closure_of t ls) i v → LacksAt s i v
    lacks-here i v hi hv e = (closure_least t ls ranged literals_in).least_lacks (SameAt s) (LacksAt s) any_order.rules any_order.literals i v hi hv e
