-- States that agree: each term has the same class and the same label. At such states a node is closed alike, splits alike, and
-- has the same total of label sizes. A state that is reached in any order, and where nothing is new, agrees with the computed
-- closure, since both name a class by its lowest member. Assumes nothing.
use mathlib.Core.Path.{◌≡◌, refl, ap, ap₂, sym, ◌∙◌, subst}
use mathlib.Core.Bool.{Bool, true, false, not, ◌&&◌, ◌||◌, cond}
use mathlib.Core.List.{List, [], ◌∷◌, ◌++◌, Memᴰ}
use mathlib.Core.Logic.{◌⊎◌, inl, inr}
use mathlib.Core.Option.{Option, none, some}
use Prim.Native.Nat.{ℕ, zero, suc, ◌^◌, ◌≤◌, ◌<◌, min, max}
use native.Mathlib.Omega.{arith}
use lib.Count.{ones}
use lib.Dec.{leb, eqb}
use lib.ListN.{length, get_or, get_or-eq_default}
use borrow.Author.Tests.{eq-eqb, leb-true, leb-false, eqb-true, eqb-false}
use Rattle.laws.specs.All.{All}
use Rattle.laws.specs.Bits.{bit}
use Rattle.laws.specs.Lists.{all, any, concat_map, filter, find, from, member, sum, union, when}
use Rattle.laws.proofs.Bits.{sub_le}
use Rattle.laws.proofs.Bools.{and_both, and_left, and_right, by_test, cond_ind, either, or_left}
use Rattle.laws.proofs.Lists.{all_mem, any_cong, any_of, any_some, concat_map_cong, find_cong, find-some, from_at, from-length, map_cong}
use Rattle.laws.proofs.Stores.{ends}
use Rattle.guard.specs.Closure.{Fact, Fact.same, Fact.within, SameAt, State, add, builds_at, class_of, closure_of, consequences, eq_z, given, holds, label_of, merge, merge_unless, read_build, same_class}
use Rattle.guard.specs.Guard.{Literal, Literal.equal, Literal.is, Literal.isnt, Literal.unequal}
use Rattle.guard.specs.Limits.{variant_limit}
use Rattle.guard.specs.Node.{Kind, Split, broken, empty_label, first_kind, inside_itself, is_closed, kind_of, on_read, on_term, parts_of, reached, second_kind, split_of, unlike_constants, variants_left}
use Rattle.guard.specs.Search.{label_total}
use Rattle.guard.specs.Terms.{Build, Read, Table, Term, as_build, fieldless, term_count}
use Rattle.guard.specs.Types.{is_number, variants_of}
use Rattle.guard.proofs.AnyOrder.{Reached, lacks-here, lacks-there, reached_ind, reached-small, same_here, same-there}
use Rattle.guard.proofs.ClosureBelow.{InRange, LiteralInRange, LiteralsInRange, all-builds, merge-at}
use Rattle.guard.proofs.ClosureEnds.{closure_ind, first}
use Rattle.guard.proofs.ClosureState.{Says, Small, closure_small}

-- ---- each class is named by its lowest member
pub record Named (s : State) : Type 0 where
  pub low : (i : ℕ) → class_of s i ≤ i
  pub own : (i : ℕ) → class_of s (class_of s i) ≡ class_of s i

pub named-first : (room : ℕ) → Named (first room)
unfolding first
named-first room = record { low = low; own = λ i. either (λ e. ap (λ (k : ℕ). get_or (from room 0) k 0) e) (zeroth i) (at i) }
  where
    -- past the end all terms are in class 0
    at : (i : ℕ) → (get_or (from room 0) i 0 ≡ i) ⊎ (get_or (from room 0) i 0 ≡ 0)
    at i =
        by_test (leb room i) (λ e. inr (get_or-eq_default (from room 0) 0 {n = i} (omega (arith, from-length room 0, leb-true room i e))))
        (λ e. inl (omega (arith, from_at room 0 i 0 (leb-false room i e))))

    low : (i : ℕ) → get_or (from room 0) i 0 ≤ i
    low i = either (λ e. omega (arith, e)) (λ e. omega (arith, e)) (at i)

    zeroth : (i : ℕ) → get_or (from room 0) i 0 ≡ 0 → get_or (from room 0) (get_or (from room 0) i 0) 0 ≡ get_or (from room 0) i 0
    zeroth i e = rw e (omega (arith, low 0))

merge-named : (s : State) → Named s → (i j : ℕ) → Named (merge s (class_of s i) (class_of s j))
merge-named s n i j =
    record {
      low = λ k. subst (λ (x : ℕ). x ≤ k) (sym (at k))
          (cond_ind (λ x. x ≤ k) (eqb (class_of s k) (max c d)) (min c d) (class_of s k) (λ q. omega (arith, eqb-true (class_of s k) (max c d) q, n.low k)) (λ q. n.low k));
      own = λ k. subst (λ (x : ℕ). class_of (merge s c d) x ≡ x) (sym (at k))
          (cond_ind (λ x. class_of (merge s c d) x ≡ x) (eqb (class_of s k) (max c d)) (min c d) (class_of s k) (λ q. lower) (λ q. kept k (eqb-false (class_of s k) (max c d) q)));
    }
  where
    c : ℕ
    c = class_of s i

    d : ℕ
    d = class_of s j

    at : (k : ℕ) → class_of (merge s c d) k ≡ cond (eqb (class_of s k) (max c d)) (min c d) (class_of s k)
    at = merge-at s c d

    lower_own : class_of s (min c d) ≡ min c d
    lower_own = either (λ p. rw p.0 (n.own i)) (λ p. rw p.0 (n.own j)) (ends c d)

    lower : class_of (merge s c d) (min c d) ≡ min c d
    lower = at (min c d) ∙ cond_ind (λ x. x ≡ min c d) (eqb (class_of s (min c d)) (max c d)) (min c d) (class_of s (min c d)) (λ q. refl) (λ q. lower_own)

    -- a class other than the higher one
    kept : (k : ℕ) → ¬ (class_of s k ≡ max c d) → class_of (merge s c d) (class_of s k) ≡ class_of s k
    kept k ne = at (class_of s k) ∙ cond_ind (λ x. x ≡ class_of s k) (eqb (class_of s (class_of s k)) (max c d)) (min c d) (class_of s (class_of s k))
        (λ q. absurd (ne (sym (n.own k) ∙ eqb-true _ _ q))) (λ q. n.own k)

pub named-add : (s : State) (f : Fact) → Named s → Named (add s f)
named-add s (within i m) n = record { low = n.low; own = n.own }
named-add s (same i j) n = go (same_class s i j)
  where
    go : (b : Bool) → Named (merge_unless b s (class_of s i) (class_of s j))
    go true = n
    go false = merge-named s n i j

pub named-reached : {t : Table} {ls : List Literal} {room : ℕ} {s : State} → Reached t ls room s → Named s
named-reached {room = room} r = reached_ind Named (named-first room) named-add r

pub named_closure : (t : Table) (ls : List Literal) → Named (closure_of t ls)
named_closure = closure_ind Named (named-first term_count) named-add

-- ---- agreement
pub record Agrees (s s' : State) : Type 0 where
  pub class : (i : ℕ) → i < term_count → class_of s i ≡ class_of s' i
  pub label : (i : ℕ) → i < term_count → label_of s i ≡ label_of s' i

-- a state that says more has lower classes
class_le : (s s' : State) → Named s → Named s' → ((i j : ℕ) → i < term_count → j < term_count → SameAt s i j → SameAt s' i j)
    → (i : ℕ) → i < term_count → class_of s' i ≤ class_of s i
class_le s s' n n' more i hi = omega (arith, more (class_of s i) i (omega (arith, n.low i)) hi (n.own i), n'.low (class_of s i))

module _ (t : Table) (ls : List Literal) (ranged : InRange t) (literals_in : LiteralsInRange ls) (room : ℕ) (enough : term_count ≤ room) (s : State) (there : Reached t ls room s) where
  -- the closure's labels are no larger than those on the way to it
  pub reached_label : (i : ℕ) → i < term_count → label_of (closure_of t ls) i ≤ label_of s i
  unfolding Small
  reached_label i hi = sub_le variant_limit (label_of s i) (label_of (closure_of t ls) i) (closure_small t ls i) (λ v hv e. lacks-there t ls ranged literals_in room enough s there i v hi hv e)

  -- so a label that is empty on the way closes the node
  pub reached-empty : any (empty_label t s) t.terms ≡ true → is_closed t ls (closure_of t ls) ≡ true
  unfolding is_closed
  reached-empty e =
      let (x, m, h) = any_some (empty_label t s) t.terms e in
      let has_variants : Bool = not (is_number t.types x.type) in
      let z : label_of s x.term ≡ 0 = eqb-true _ _ (and_right has_variants _ h) in
      let none : label_of (closure_of t ls) x.term ≡ 0 = omega (arith, z, reached_label x.term (ranged.terms x m).0) in
      or_left _ _ (any_of (empty_label t (closure_of t ls)) t.terms x m (and_both has_variants _ (and_left has_variants _ h) (eq-eqb _ _ none)))

  module _ (says : All (Says s) (given t ls)) (quiet : All (λ f. holds s f ≡ true) (consequences t s)) where
    -- in whatever order facts are added, the end is one
    pub reached-agrees : Agrees s (closure_of t ls)
    unfolding Small
    reached-agrees =
        record {
          class = λ i hi. omega (
            arith,
            class_le s S (named-reached there) (named_closure t ls) (same-there t ls ranged literals_in room enough s there) i hi,
            class_le S s (named_closure t ls) (named-reached there) (same_here t ls ranged literals_in room enough s there says quiet) i hi,
          );
          label = λ i hi. omega (
            arith,
            reached_label i hi,
            sub_le variant_limit (label_of S i) (label_of s i) (reached-small there (class_of s i)) (λ v hv e. lacks-here t ls ranged literals_in room enough s there says quiet i v hi hv e),
          );
        }
      where
        S : State
        S = closure_of t ls

-- ---- what is the same at states that agree

-- the numbers of a build are those of terms
abbrev BuildInRange : Build → Type 0
BuildInRange b = (b.term < term_count) × All (λ p. p < term_count) b.parts

builds_in_range : (t : Table) → InRange t → (s : State) → All BuildInRange (builds_at t s)
builds_in_range t ranged s = all-builds t s (λ b m. ((ranged.builds b m).0, (ranged.builds b m).2)) (λ r m e. ((ranged.reads r m).1, (ranged.reads r m).4))

module _ (t : Table) (ranged : InRange t) (s s' : State) (agree : Agrees s s') where
  pub builds-agree : builds_at t s ≡ builds_at t s'
  builds-agree =
      ap (λ (bs : List Build). t.builds ++ bs)
      (concat_map_cong (read_build s) (read_build s') t.reads
      (λ r m. ap (λ (l : ℕ). when (eqb l (2 ^ r.variant) || eqb l 0) (as_build r ∷ [])) (agree.label r.term (ranged.reads r m).1)))

  pub total-agrees : label_total t s ≡ label_total t s'
  total-agrees =
      ap sum (map_cong (λ x. ones (label_of s x.term)) (λ x. ones (label_of s' x.term)) t.terms (λ x m. ap ones (agree.label x.term (ranged.terms x m).0)))

  -- ---- the split
  left-agrees : (x : Term) → Memᴰ x t.terms → variants_left t s x ≡ variants_left t s' x
  left-agrees x m =
      ap (λ (l : ℕ). filter (λ v. not (eqb (bit l v) 0)) (from (length (variants_of t.types x.type)) 0)) (agree.label x.term (ranged.terms x m).0)

  first-at : (r : Read) → Memᴰ r t.reads → first_kind s r ≡ first_kind s' r
  first-at r m = ap (λ (l : ℕ). not (eqb (bit l r.variant) 0) && not (eqb l (2 ^ r.variant))) (agree.label r.term (ranged.reads r m).1)

  first-agrees : find (first_kind s) t.reads ≡ find (first_kind s') t.reads
  first-agrees = find_cong (first_kind s) (first_kind s') t.reads first-at

  second-agrees : find (second_kind t s) t.terms ≡ find (second_kind t s') t.terms
  second-agrees =
      find_cong (second_kind t s) (second_kind t s') t.terms
      (λ x m. ap (λ (vs : List ℕ). leb 2 (length vs) && all (λ v. member v (fieldless 0 (variants_of t.types x.type))) vs) (left-agrees x m))

  pub split-agrees : split_of t s ≡ split_of t s'
  unfolding split_of
  split-agrees =
      ap₂ (λ (o : Option Read) (p : Option Term). elim o [ some r ↦ some (on_read r) | none ↦ elim p [ some x ↦ some (on_term t s x) | none ↦ none ] ]) first-agrees second-agrees
      ∙ go (find (first_kind s') t.reads) (find (second_kind t s') t.terms) refl
    where
      go : (o : Option Read) (p : Option Term) → find (second_kind t s') t.terms ≡ p
          → ◌≡◌ {A = Option Split} (elim o [ some r ↦ some (on_read r) | none ↦ elim p [ some x ↦ some (on_term t s x) | none ↦ none ] ])
          (elim o [ some r ↦ some (on_read r) | none ↦ elim p [ some x ↦ some (on_term t s' x) | none ↦ none ] ])
      go (some r) p e = refl
      go none (some x) e =
          ap (λ (vs : List ℕ). some (record { term = x.term; variant = get_or vs 0 0 })) (left-agrees x (find-some (second_kind t s') t.terms x e).0)
      go none none e = refl

  pub kind-agrees : kind_of t s ≡ kind_of t s'
  unfolding kind_of
  kind-agrees = ap (λ (b : Bool). cond b Kind.first Kind.second) (any_cong (first_kind s) (first_kind s') t.reads first-at)

  -- ---- the reasons to close
  same-agrees : (i j : ℕ) → i < term_count → j < term_count → same_class s i j ≡ same_class s' i j
  same-agrees i j hi hj = ap₂ eqb (agree.class i hi) (agree.class j hj)

  pub empty-agrees : (x : Term) → Memᴰ x t.terms → empty_label t s x ≡ empty_label t s' x
  empty-agrees x m = ap (λ (l : ℕ). not (is_number t.types x.type) && eqb l 0) (agree.label x.term (ranged.terms x m).0)

  pub broken-agrees : (l : Literal) → LiteralInRange l → broken s l ≡ broken s' l
  broken-agrees (equal i j) h = refl
  broken-agrees (unequal i j) h = same-agrees i j h.0 h.1
  broken-agrees (is i v) h = refl
  broken-agrees (isnt i v) h = refl

  pub unlike-agrees : (x : Term) → Memᴰ x t.terms → unlike_constants t s x ≡ unlike_constants t s' x
  unlike-agrees x m =
      any_cong _ _ t.consts (λ a ma. any_cong _ _ t.consts (λ b mb.
      ap₂ (λ (p q : Bool). p && (q && not (eq_z a.value b.value))) (same-agrees x.term a.term (ranged.terms x m).0 (ranged.consts a ma))
      (same-agrees x.term b.term (ranged.terms x m).0 (ranged.consts b mb))))

  module _ (bs : List Build) (in_range : All BuildInRange bs) where
    parts-agree : (c : ℕ) → parts_of s bs c ≡ parts_of s' bs c
    parts-agree c =
        concat_map_cong _ _ bs (λ b m. let (term, parts) = all_mem in_range b m in
        ap₂ (λ (k : ℕ) (ps : List ℕ). when (eqb k c) ps) (agree.class b.term term) (map_cong (class_of s) (class_of s') b.parts (λ p n. agree.class p (all_mem parts p n))))

    reached-agree : (k : ℕ) (cs : List ℕ) → reached k s bs cs ≡ reached k s' bs cs
    reached-agree zero cs = refl
    reached-agree (suc k) cs =
        ap (λ (next : List ℕ). cond (eqb (length next) (length cs)) cs (reached k s bs next))
        (ap (λ (ps : List ℕ). union ps cs) (concat_map_cong (parts_of s bs) (parts_of s' bs) cs (λ c m. parts-agree c)))
        ∙ ap (λ (more : List ℕ). cond (eqb (length next') (length cs)) cs more) (reached-agree k next')
      where
        next' : List ℕ
        next' = union (concat_map (parts_of s' bs) cs) cs

    -- `inside_itself`, with any number of steps
    inside-agrees : (k : ℕ) (x : Term) → Memᴰ x t.terms
        → member (class_of s x.term) (reached k s bs (union (parts_of s bs (class_of s x.term)) []))
        ≡ member (class_of s' x.term) (reached k s' bs (union (parts_of s' bs (class_of s' x.term)) []))
    inside-agrees k x m =
        let e = agree.class x.term (ranged.terms x m).0 in
        ap₂ member e (reached-agree k _ ∙ ap (λ (ps : List ℕ). reached k s' bs (union ps [])) (parts-agree (class_of s x.term) ∙ ap (parts_of s' bs) e))

-- a class inside itself, at either state's own builds
pub inside-itself-agrees : (t : Table) → InRange t → (s s' : State) → Agrees s s' → (x : Term) → Memᴰ x t.terms → inside_itself s (builds_at t s) x ≡ inside_itself s' (builds_at t s') x
inside-itself-agrees t ranged s s' agree x m =
    inside-agrees t ranged s s' agree (builds_at t s) (builds_in_range t ranged s) term_count x m ∙ ap (λ (bs : List Build). inside_itself s' bs x) (builds-agree t ranged s s' agree)

pub closed-agrees : (t : Table) (ls : List Literal) → InRange t → LiteralsInRange ls → (s s' : State) → Agrees s s' → is_closed t ls s ≡ is_closed t ls s'
unfolding is_closed
closed-agrees t ls ranged literals_in s s' agree =
    ap₂ ◌||◌ (any_cong (empty_label t s) (empty_label t s') t.terms (empty-agrees t ranged s s' agree))
    (ap₂ ◌||◌ (any_cong (broken s) (broken s') ls (λ l m. broken-agrees t ranged s s' agree l (literals_in l m)))
    (ap₂ ◌||◌ (any_cong (unlike_constants t s) (unlike_constants t s') t.terms (unlike-agrees t ranged s s' agree))
    (any_cong (inside_itself s (builds_at t s)) (inside_itself s' (builds_at t s')) t.terms (inside-itself-agrees t ranged s s' agree))))
