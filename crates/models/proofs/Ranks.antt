-- Where no class is a part of itself, ranks fall from each class to its parts. The rank of a class is the number of
-- builds whose classes are reached from it. What a part reaches, its class reaches too; and a build of the class itself
-- is reached from the class but not from the part, since otherwise the class would be a part of itself. So ranks are at
-- most the number of builds, and a guard has at most as many as rows and types. Assumes nothing.
use mathlib.Core.Path.{◌≡◌, refl, sym, ◌∙◌, subst}
use mathlib.Core.Bool.{Bool, true, false, cond, not, false≢true}
use mathlib.Core.List.{List, [], ◌∷◌, Memᴰ, ◌++◌, map}
use Prim.Native.Nat.{ℕ, zero, suc, ◌+◌, ◌≤◌, ◌<◌}
use native.Mathlib.Omega.{arith}
use lib.Dec.{eqb}
use lib.ListN.{length, get_or, length-append}
use borrow.Author.Tests.{eqb-true, eqb-false, eq-eqb}
use mathlib.Core.Option.{Option, none, some}
use Rattle.laws.specs.All.{All, All.none}
use Rattle.laws.specs.Lists.{concat_map, filter, from, member, union, when}
use Rattle.laws.proofs.Lists.{all_map, all_mem, all_of, all-when, from-length, mem_concat_map, mem_concat_map_inv, mem_map}
use Rattle.laws.proofs.Members.{filter_lt, filter-most, member_of, missing, missing_falls, missing_none, of_member, union_inv, union_left, union_new, union_right, union-same}
use Rattle.guard.specs.Closure.{LacksAt, State, alone, builds_at, class_of, closure_of, read_build}
use Rattle.guard.specs.Guard.{Guard, Literal, Row, Row.built, Row.constant, Row.field, Row.variable}
use Rattle.guard.specs.Message.{Message, Message.made, Message.number}
use Rattle.guard.specs.Node.{inside_itself, parts_of, reached}
use Rattle.guard.specs.Rules.{BuiltAt}
use Rattle.guard.specs.Terms.{Build, Read, Table, Term, as_build, build_of, default_build, from_rows, read_of, table_of, term_count}
use Rattle.guard.specs.Types.{Types, defaults}
use Rattle.guard.proofs.ClosureBelow.{InRange, LiteralsInRange}
use Rattle.models.proofs.Nodes.{build_of_lem, built-term, parts-small}

-- ---- what is reached
module _ (s : State) (bs : List Build) (small : (b : Build) → Memᴰ b bs → All (λ p. class_of s p < term_count) b.parts) where
  -- a list that holds the parts of all its classes
  abbrev pub Complete : List ℕ → Type 0
  Complete cs = (d : ℕ) → Memᴰ d cs → (e : ℕ) → Memᴰ e (parts_of s bs d) → Memᴰ e cs

  part_small : (d e : ℕ) → Memᴰ e (parts_of s bs d) → e < term_count
  part_small d =
      mem_concat_map_inv (λ b. when (eqb (class_of s b.term) d) (map (class_of s) b.parts)) (λ x. x < term_count) bs
      (λ b k. all_mem (all-when (eqb (class_of s b.term) d) (map (class_of s) b.parts) (λ q. all_map (class_of s) b.parts (λ p m. all_mem (small b k) p m))))

  -- the classes with their parts
  abbrev following : List ℕ → List ℕ
  following cs = union (concat_map (parts_of s bs) cs) cs

  following_falls : (cs : List ℕ) → ¬ (length (following cs) ≡ length cs) → missing term_count (following cs) < missing term_count cs
  following_falls cs n =
      let (x, m, e) = union_new (concat_map (parts_of s bs) cs) cs n in
      missing_falls term_count cs (following cs) (union_right (concat_map (parts_of s bs) cs) cs) x (mem_concat_map_inv (parts_of s bs) (λ z. z < term_count) cs (λ d k. part_small d) x m)
      (union_left (concat_map (parts_of s bs) cs) cs x m) e

  reached_complete : (k : ℕ) (cs : List ℕ) → missing term_count cs ≤ k → Complete (reached k s bs cs)
  reached_complete zero cs h = λ d m e n. missing_none term_count cs (omega arith) e (part_small d e n)
  reached_complete (suc k) cs h = go (reached_complete k (following cs)) (eqb (length (following cs)) (length cs)) refl
    where
      go : (missing term_count (following cs) ≤ k → Complete (reached k s bs (following cs))) → (b : Bool) → eqb (length (following cs)) (length cs) ≡ b → Complete (cond b cs (reached k s bs (following cs)))
      go ih true q = λ d m e n. union-same (concat_map (parts_of s bs) cs) cs (eqb-true _ _ q) e (mem_concat_map (parts_of s bs) cs m n)
      go ih false q = ih (omega (arith, following_falls cs (eqb-false _ _ q)))

  pub complete : (cs : List ℕ) → Complete (reached term_count s bs cs)
  complete cs = reached_complete term_count cs (omega (arith, filter-most (λ k. not (member k cs)) (from term_count 0)))

  pub reached_keeps : (k : ℕ) (cs : List ℕ) (x : ℕ) → Memᴰ x cs → Memᴰ x (reached k s bs cs)
  reached_keeps zero cs x m = m
  reached_keeps (suc k) cs x m = go (eqb (length (following cs)) (length cs)) (reached_keeps k (following cs) x (union_right (concat_map (parts_of s bs) cs) cs x m))
    where
      go : (b : Bool) → Memᴰ x (reached k s bs (following cs)) → Memᴰ x (cond b cs (reached k s bs (following cs)))
      go true n = m
      go false n = n

  -- nothing is reached that a complete list does not hold
  reached_least : (k : ℕ) (cs xs : List ℕ) → Complete xs → ((x : ℕ) → Memᴰ x cs → Memᴰ x xs) → (x : ℕ) → Memᴰ x (reached k s bs cs) → Memᴰ x xs
  reached_least zero cs xs c h x m = h x m
  reached_least (suc k) cs xs c h x m =
      go (eqb (length (following cs)) (length cs)) m
      (reached_least k (following cs) xs c (union_inv (λ y. Memᴰ y xs) (concat_map (parts_of s bs) cs) cs (mem_concat_map_inv (parts_of s bs) (λ y. Memᴰ y xs) cs (λ d n. c d (h d n))) h) x)
    where
      go : (b : Bool) → Memᴰ x (cond b cs (reached k s bs (following cs))) → (Memᴰ x (reached k s bs (following cs)) → Memᴰ x xs) → Memᴰ x xs
      go true n f = h x n
      go false n f = f n

  -- ---- ranks

  abbrev pub from_class : ℕ → List ℕ
  from_class c = reached term_count s bs (c ∷ [])

  -- the rank of a class: the builds whose classes are reached from it
  abbrev pub rank_of : ℕ → ℕ
  rank_of c = length (filter (λ b. member (class_of s b.term) (from_class c)) bs)

  pub is-part : (b : Build) → Memᴰ b bs → (p : ℕ) → Memᴰ p b.parts → Memᴰ (class_of s p) (parts_of s bs (class_of s b.term))
  is-part b m p n =
      mem_concat_map (λ a. when (eqb (class_of s a.term) (class_of s b.term)) (map (class_of s) a.parts)) bs m
      (go (eqb (class_of s b.term) (class_of s b.term)) (eq-eqb (class_of s b.term) (class_of s b.term) refl))
    where
      go : (c : Bool) → c ≡ true → Memᴰ (class_of s p) (when c (map (class_of s) b.parts))
      go true e = mem_map (class_of s) n
      go false e = absurd (false≢true e)

  -- what a class reaches that a complete list holds, the list holds
  within : (c : ℕ) (xs : List ℕ) → Complete xs → Memᴰ c xs → (x : ℕ) → Memᴰ x (from_class c) → Memᴰ x xs
  within c xs k m = reached_least term_count (c ∷ []) xs k first
    where
      first : (x : ℕ) → Memᴰ x (c ∷ []) → Memᴰ x xs
      first x (mathlib.Core.List.Memᴰ.tail x5) = elim x5 [ ]
      first x (Memᴰ.head q) = subst (λ (z : ℕ). Memᴰ z xs) (sym q) m

  pub rank-part : (b : Build) → Memᴰ b bs → member (class_of s b.term) (reached term_count s bs (union (parts_of s bs (class_of s b.term)) [])) ≡ false
      → (p : ℕ) → Memᴰ p b.parts → rank_of (class_of s p) < rank_of (class_of s b.term)
  rank-part b m e p n =
      filter_lt (λ a. member (class_of s a.term) (from_class d)) (λ a. member (class_of s a.term) (from_class c)) bs
      (λ a k q. member_of (class_of s a.term) (from_class c) (within d (from_class c) (complete (c ∷ [])) (complete (c ∷ []) c own d part_of) (class_of s a.term) (of_member (class_of s a.term) (from_class d) q)))
      b m (outside (member c (from_class d)) refl) (member_of c (from_class c) own)
    where
      c : ℕ
      c = class_of s b.term

      d : ℕ
      d = class_of s p

      part_of : Memᴰ (class_of s p) (parts_of s bs (class_of s b.term))
      part_of = is-part b m p n

      own : Memᴰ (class_of s b.term) (from_class (class_of s b.term))
      own = reached_keeps term_count (class_of s b.term ∷ []) (class_of s b.term) (Memᴰ.head refl)

      inner : List ℕ
      inner = reached term_count s bs (union (parts_of s bs (class_of s b.term)) [])

      outside : (x : Bool) → member (class_of s b.term) (from_class (class_of s p)) ≡ x → x ≡ false
      outside false q = refl
      outside true q =
          absurd (false≢true (sym e ∙ member_of (class_of s b.term) inner
          (within (class_of s p) inner (complete (union (parts_of s bs (class_of s b.term)) []))
          (reached_keeps term_count (union (parts_of s bs (class_of s b.term)) []) (class_of s p) (union_left (parts_of s bs (class_of s b.term)) [] (class_of s p) part_of))
          (class_of s b.term) (of_member (class_of s b.term) (from_class (class_of s p)) q))))

-- ---- the ranks of a node

module _ (t : Table) (ls : List Literal) (range : InRange t) (literals_in : LiteralsInRange ls)
    (acyclic : (x : Term) → Memᴰ x t.terms → inside_itself (closure_of t ls) (builds_at t (closure_of t ls)) x ≡ false) where
  abbrev S : State
  S = closure_of t ls

  pub rank : ℕ → ℕ
  rank = rank_of S (builds_at t S) (parts-small t ls range literals_in)

  pub rank_falls_lem : (b : Build) → BuiltAt t (LacksAt (closure_of t ls)) b → All (λ p. rank (class_of (closure_of t ls) p) < rank (class_of (closure_of t ls) b.term)) b.parts
  unfolding rank
  rank_falls_lem b m =
      all_of b.parts (rank-part S (builds_at t S) (parts-small t ls range literals_in) b (build_of_lem t ls range literals_in b m)
      (acyclic (record { term = b.term; type = b.type }) (built-term t ls range literals_in b m)))

  pub rank-low : (c : ℕ) → rank c ≤ length (builds_at t (closure_of t ls))
  unfolding rank
  rank-low c = filter-most (λ b. member (class_of S b.term) (from_class S (builds_at t S) (parts-small t ls range literals_in) c)) (builds_at t S)

-- ---- a guard has at most so many builds

concat_map-most : {A B : Type 0} (f : B → List A) (ys : List B) → ((y : B) → length (f y) ≤ 1) → length (concat_map f ys) ≤ length ys
concat_map-most f [] h = omega arith
concat_map-most f (y ∷ ys) h = omega (arith, h y, concat_map-most f ys h, length-append (f y) (concat_map f ys))

-- a row is built or read or neither
row-builds : (ts : Types) (i : ℕ) (rs : List Row) → length (from_rows build_of i rs) + length (from_rows (read_of ts) i rs) ≤ length rs
row-builds ts i [] = omega arith
row-builds ts i (r ∷ rs) =
    omega (arith, row-builds ts (suc i) rs, one r, length-append (build_of i r) (from_rows build_of (suc i) rs), length-append (read_of ts i r) (from_rows (read_of ts) (suc i) rs))
  where
    one : (r : Row) → length (build_of i r) + length (read_of ts i r) ≤ 1
    one (variable t) = omega arith
    one (constant t z) = omega arith
    one (built t v ps) = omega arith
    one (field t a v p) = omega arith

pub few-builds : (g : Guard) (s : State) → length (builds_at (table_of g) s) ≤ length g.rows + length g.types
unfolding table_of
few-builds g s =
    omega (
      arith,
      row-builds g.types 0 g.rows,
      length-append (rows ++ default_builds) (concat_map (read_build s) reads),
      length-append rows default_builds,
      concat_map-most (λ t. default_build g.types t (get_or (defaults g.types) t none)) (from (length g.types) 0) (λ t. default-one t (get_or (defaults g.types) t none)),
      concat_map-most (read_build s) reads (λ r. read_one r (alone s r.term r.variant)),
      from-length (length g.types) 0,
    )
  where
    rows : List Build
    rows = from_rows build_of 0 g.rows

    reads : List Read
    reads = from_rows (read_of g.types) 0 g.rows

    default_builds : List Build
    default_builds = concat_map (λ t. default_build g.types t (get_or (defaults g.types) t none)) (from (length g.types) 0)

    default-one : (t : ℕ) (o : Option Message) → length (default_build g.types t o) ≤ 1
    default-one t none = omega arith
    default-one t (some (number u z)) = omega arith
    default-one t (some (made u v ms)) = omega arith

    read_one : (r : Read) (b : Bool) → length (when b (as_build r ∷ [])) ≤ 1
    read_one r true = omega arith
    read_one r false = omega arith
