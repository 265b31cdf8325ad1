-- The closure is inside every pair of relations that obeys the rules. A state is true of such a pair (`Sound`) if equal
-- classes are `Same` and missing bits are `Lacks`. The initial state is; what is given and what the rules give is true
-- too (`Valid`), so each fact that is added keeps the state true. Assumes nothing.
use mathlib.Core.Path.{◌≡◌, refl, ap, sym, subst}
use mathlib.Core.Bool.{Bool, true, false, not, ◌&&◌, cond, false≢true}
use mathlib.Core.List.{List, [], ◌∷◌, foldl, Memᴰ}
use mathlib.Core.Logic.{◌⊎◌, inl, inr}
use Prim.Native.Nat.{ℕ, zero, suc, ◌^◌, ◌≤◌, ◌<◌, min, max}
use native.Mathlib.Omega.{arith}
use lib.Dec.{eqb}
use lib.Bits.{bit_and}
use lib.IntN.{ℤ, pos, negsuc}
use lib.ListN.{length, get_or, set, get_or-replicate}
use borrow.Author.Tests.{eqb-true}
use Rattle.laws.specs.All.{All, All.more, All.none}
use Rattle.laws.specs.Bits.{bit}
use Rattle.laws.specs.Lists.{any}
use Rattle.laws.proofs.Bits.{and_missing, bit_but, bit_ones, bit_own, bit_pow, bit_zero}
use Rattle.laws.proofs.Bools.{and_left, and_right, cond_ind, or_cases}
use Rattle.laws.proofs.Lists.{all_append, all-concat_map, all_filter, all_map, all_mem, all_of, all-when, any_some, from_at}
use Rattle.laws.proofs.Stores.{ends, set_cases}
use Rattle.guard.specs.Closure.{Fact, Fact.same, Fact.within, LacksAt, SameAt, State, add, all_variants, alone, begin, builds_at, built_rows, class_of, closure_of, consequences, constants, eq_z, every_variant, fresh, given, holds, initial, label_of, lacks, merge, merge_unless, of_literal, one_variant, pairwise, read_absent, read_build, reads, rename, same_all, same_class, same_classes, saturate, single, size}
use Rattle.guard.specs.Guard.{Literal, Literal.equal, Literal.is, Literal.isnt, Literal.unequal}
use Rattle.guard.specs.Limits.{variant_limit}
use Rattle.guard.specs.Rules.{AllSame, Alone, BuiltAt, BuiltAt.read, BuiltAt.row, ObeysLiterals, ObeysRules, Relation}
use Rattle.guard.specs.Terms.{Build, Const, Read, Table, Term, as_build, fieldless, term_count}
use Rattle.guard.specs.Types.{variants_of}
use Rattle.guard.proofs.AnswerLaws.{enough}
use Rattle.guard.proofs.ClosureEnds.{first, saturate_ind}
use Rattle.guard.proofs.Repeats.{room}

pub all-pairwise : {B : Type 0} {P : Fact → Type 0} (f : B → B → List Fact) (ys : List B) → ((x y : B) → Memᴰ x ys → Memᴰ y ys → All P (f x y)) → All P (pairwise f ys)
all-pairwise f [] h = none
all-pairwise f (y ∷ ys) h =
    all_append (all-concat_map (f y) ys (λ z m. h y z (Memᴰ.head refl) (Memᴰ.tail m)))
    (all-pairwise f ys (λ x z m n. h x z (Memᴰ.tail m) (Memᴰ.tail n)))

-- what holds of the built rows, and of the reads whose variant is alone, holds of all builds at a state
pub all-builds : {P : Build → Type 0} (t : Table) (s : State) → ((b : Build) → Memᴰ b t.builds → P b)
    → ((r : Read) → Memᴰ r t.reads → alone s r.term r.variant ≡ true → P (as_build r)) → All P (builds_at t s)
all-builds t s rows alones =
    all_append (all_of t.builds rows) (all-concat_map (read_build s) t.reads (λ r m. all-when (alone s r.term r.variant) (as_build r ∷ []) (λ e. more (alones r m e) none)))

-- what holds of the consequences for any two elements, family by family, holds of all consequences
pub all-consequences : {P : Fact → Type 0} (t : Table) (s : State)
    → ((a b : Build) → Memᴰ a (builds_at t s) → Memᴰ b (builds_at t s) → All P (built_rows s a b))
    → ((a b : Read) → Memᴰ a t.reads → Memᴰ b t.reads → All P (reads s a b))
    → ((a b : Term) → Memᴰ a t.terms → Memᴰ b t.terms → All P (single t.types s a b))
    → ((r : Read) → Memᴰ r t.reads → All P (read_absent s r)) → All P (consequences t s)
unfolding consequences
all-consequences t s builts readings singles absents = all_append (all_append (all_append
    (all-pairwise (built_rows s) (builds_at t s) builts)
    (all-pairwise (reads s) t.reads readings))
    (all-pairwise (single t.types s) t.terms singles))
    (all-concat_map (read_absent s) t.reads absents)

pub eq_z_true : (a b : ℤ) → eq_z a b ≡ true → a ≡ b
eq_z_true (pos a) (pos b) e = ap pos (eqb-true a b e)
eq_z_true (pos a) (negsuc b) e = absurd (false≢true e)
eq_z_true (negsuc a) (pos b) e = absurd (false≢true e)
eq_z_true (negsuc a) (negsuc b) e = ap negsuc (eqb-true a b e)

rename-at : (low high : ℕ) (l : List ℕ) (i : ℕ) → low ≤ high → get_or (rename low high l) i 0 ≡ cond (eqb (get_or l i 0) high) low (get_or l i 0)
rename-at low high [] i h = go (eqb 0 high) refl
  where
    go : (b : Bool) → eqb 0 high ≡ b → 0 ≡ cond b low 0
    go true e = omega (arith, eqb-true 0 high e)
    go false e = refl
rename-at low high (c ∷ cs) zero h = refl
rename-at low high (c ∷ cs) (suc i) h = rename-at low high cs i h

-- the class of a term after two classes are merged
pub merge-at : (s : State) (c d k : ℕ) → class_of (merge s c d) k ≡ cond (eqb (class_of s k) (max c d)) (min c d) (class_of s k)
merge-at s c d k = rename-at (min c d) (max c d) s.classes k (omega arith)

-- every number of the table is that of a term or of a variant
pub record InRange (t : Table) : Type 0 where
  pub terms : (x : Term) → Memᴰ x t.terms → (x.term < term_count) × (length (variants_of t.types x.type) ≤ variant_limit)
  pub builds : (b : Build) → Memᴰ b t.builds → (b.term < term_count) × (b.variant < variant_limit) × All (λ p. p < term_count) b.parts
  pub reads : (r : Read) → Memᴰ r t.reads
      → (r.row < term_count) × (r.term < term_count) × (r.variant < variant_limit) × (r.absent < term_count) × All (λ p. p < term_count) r.fields
  pub consts : (c : Const) → Memᴰ c t.consts → c.term < term_count
  pub fieldlesses : (x : Term) (v : ℕ) → Memᴰ x t.terms → Memᴰ v (fieldless 0 (variants_of t.types x.type)) → v < variant_limit
  -- a term that is built or read is a term of the table
  pub build_terms : (b : Build) → Memᴰ b t.builds → Memᴰ (record { term = b.term; type = b.type }) t.terms
  pub read_terms : (r : Read) → Memᴰ r t.reads → Memᴰ (record { term = r.term; type = r.type }) t.terms

-- the same of a literal or a decision
abbrev pub LiteralInRange : Literal → Type 0
LiteralInRange (equal i j) = (i < term_count) × (j < term_count)
LiteralInRange (unequal i j) = (i < term_count) × (j < term_count)
LiteralInRange (is i v) = (i < term_count) × (v < variant_limit)
LiteralInRange (isnt i v) = (i < term_count) × (v < variant_limit)

abbrev pub LiteralsInRange : List Literal → Type 0
LiteralsInRange ls = (l : Literal) → Memᴰ l ls → LiteralInRange l

module _ (t : Table) (ls : List Literal) (ranged : InRange t) (literals_in : LiteralsInRange ls) (Same Lacks : Relation) (o : ObeysRules t Same Lacks) (asserted : ObeysLiterals ls Same Lacks) where
  -- what the state says holds of the relations
  pub record Sound (s : State) : Type 0 where
    pub range : (i : ℕ) → i < term_count → class_of s i < term_count
    pub class : (i : ℕ) → i < term_count → Same i (class_of s i)
    pub label : (c v : ℕ) → c < term_count → v < variant_limit → bit (get_or s.labels c 0) v ≡ 0 → Lacks c v

  pub data Valid : Fact → Type 0 where
    same_valid : {i j : ℕ} → i < term_count → j < term_count → Same i j → Valid (same i j)
    within_valid : {i m : ℕ} → i < term_count → ((v : ℕ) → v < variant_limit → bit m v ≡ 0 → Lacks i v) → Valid (within i m)

  module _ (s : State) (ok : Sound s) where
    pub same_valid_at : (i j : ℕ) → i < term_count → j < term_count → SameAt s i j → Same i j
    same_valid_at i j hi hj e =
        o.through (ok.class i hi) (subst (λ (c : ℕ). Same c j) (sym e) (o.back (ok.class j hj)))

    class_same : (i j : ℕ) → i < term_count → j < term_count → same_class s i j ≡ true → Same i j
    class_same i j hi hj e = same_valid_at i j hi hj (eqb-true _ _ e)

    pub lacks_valid : (i v : ℕ) → i < term_count → v < variant_limit → bit (label_of s i) v ≡ 0 → Lacks i v
    lacks_valid i v hi hv e = o.shared (o.back (ok.class i hi)) (ok.label (class_of s i) v (ok.range i hi) hv e)

    cut_sound : (i m : ℕ) → Valid (within i m) → Sound (add s (within i m))
    cut_sound i m (within_valid hi f) =
        record { range = ok.range; class = ok.class; label = λ c v hc hv e. go c v hc hv (set_cases s.labels (class_of s i) (bit_and (label_of s i) m) c) e }
      where
        L : List ℕ
        L = set s.labels (class_of s i) (bit_and (label_of s i) m)

        cut_either : (v : ℕ) → v < variant_limit → (bit (label_of s i) v ≡ 0) ⊎ (bit m v ≡ 0) → Lacks (class_of s i) v
        cut_either v hv (inl e) = ok.label (class_of s i) v (ok.range i hi) hv e
        cut_either v hv (inr e) = o.shared (ok.class i hi) (f v hv e)

        go : (c v : ℕ) → c < term_count → v < variant_limit → (get_or L c 0 ≡ get_or s.labels c 0) ⊎ ((c ≡ class_of s i) × (get_or L c 0 ≡ bit_and (label_of s i) m)) → bit (get_or L c 0) v ≡ 0 → Lacks c v
        go c v hc hv (inl q) e = ok.label c v hc hv (rw q at e)
        go c v hc hv (inr q) e = subst (λ (x : ℕ). Lacks x v) (sym q.0) (cut_either v hv (and_missing (label_of s i) m v (rw q.1 at e)))

    -- the two classes, as the lower and the higher
    low_high : (c d : ℕ) → Same c d → Same (min c d) (max c d)
    low_high c d e = go (ends c d)
      where
        go : ((min c d ≡ c) × (max c d ≡ d)) ⊎ ((min c d ≡ d) × (max c d ≡ c)) → Same (min c d) (max c d)
        go (inl p) = rw (p.0, p.1) e
        go (inr p) = rw (p.0, p.1) (o.back e)

    merge_sound : (i j : ℕ) → i < term_count → j < term_count → Same i j → Sound (merge s (class_of s i) (class_of s j))
    merge_sound i j hi hj e =
        record {
          range = λ k hk. subst (λ (x : ℕ). x < term_count) (sym (at k)) (cond_ind (λ x. x < term_count) (eqb (class_of s k) high) low (class_of s k) (λ q. low_in) (λ q. ok.range k hk));
          class = λ k hk. subst (λ (x : ℕ). Same k x) (sym (at k)) (cond_ind (λ x. Same k x) (eqb (class_of s k) high) low (class_of s k) (λ q. moved k hk (eqb-true _ _ q)) (λ q. ok.class k hk));
          label = λ k v hk hv q. labels k v hk hv (set_cases s.labels low (bit_and (get_or s.labels c 0) (get_or s.labels d 0)) k) q;
        }
      where
        c : ℕ
        c = class_of s i

        d : ℕ
        d = class_of s j

        low : ℕ
        low = min c d

        high : ℕ
        high = max c d

        c_d : Same c d
        c_d = o.through (o.back (ok.class i hi)) (o.through e (ok.class j hj))

        c_low : Same c low
        c_low = go (ends c d)
          where
            go : ((min c d ≡ c) × (max c d ≡ d)) ⊎ ((min c d ≡ d) × (max c d ≡ c)) → Same c (min c d)
            go (inl p) = rw p.0 (o.itself c)
            go (inr p) = rw p.0 c_d

        low_in : low < term_count
        low_in = omega (arith, ok.range i hi, ok.range j hj)

        at : (k : ℕ) → class_of (merge s c d) k ≡ cond (eqb (class_of s k) high) low (class_of s k)
        at = merge-at s c d

        moved : (k : ℕ) → k < term_count → get_or s.classes k 0 ≡ high → Same k low
        moved k hk q = o.through (subst (λ (x : ℕ). Same k x) q (ok.class k hk)) (o.back (low_high c d c_d))

        cut_either : (v : ℕ) → v < variant_limit → (bit (get_or s.labels c 0) v ≡ 0) ⊎ (bit (get_or s.labels d 0) v ≡ 0) → Lacks low v
        cut_either v hv (inl q) = o.shared c_low (ok.label c v (ok.range i hi) hv q)
        cut_either v hv (inr q) = o.shared c_low (o.shared (o.back c_d) (ok.label d v (ok.range j hj) hv q))

        L : List ℕ
        L = set s.labels low (bit_and (get_or s.labels c 0) (get_or s.labels d 0))

        labels : (k v : ℕ) → k < term_count → v < variant_limit → (get_or L k 0 ≡ get_or s.labels k 0) ⊎ ((k ≡ low) × (get_or L k 0 ≡ bit_and (get_or s.labels c 0) (get_or s.labels d 0))) → bit (get_or L k 0) v ≡ 0 → Lacks k v
        labels k v hk hv (inl q) z = ok.label k v hk hv (rw q at z)
        labels k v hk hv (inr q) z = subst (λ (x : ℕ). Lacks x v) (sym q.0) (cut_either v hv (and_missing (get_or s.labels c 0) (get_or s.labels d 0) v (rw q.1 at z)))

    unite_sound : (i j : ℕ) → i < term_count → j < term_count → Same i j → (b : Bool) → Sound (merge_unless b s (class_of s i) (class_of s j))
    unite_sound i j hi hj e true = ok
    unite_sound i j hi hj e false = merge_sound i j hi hj e

  pub add_sound : (s : State) → Sound s → (f : Fact) → Valid f → Sound (add s f)
  add_sound s ok (same i j) (same_valid hi hj e) = unite_sound s ok i j hi hj e (same_class s i j)
  add_sound s ok (within i m) v = cut_sound s ok i m v

  adds_sound : (s : State) → Sound s → (fs : List Fact) → All Valid fs → Sound (foldl add s fs)
  adds_sound s ok [] none = ok
  adds_sound s ok (f ∷ fs) (more v vs) = adds_sound (add s f) (add_sound s ok f v) fs vs

  -- ---- what the rules give is valid
  module _ (s : State) (ok : Sound s) where
    abbrev In : ℕ → Type 0
    In p = p < term_count

    pub alone_valid : (i v : ℕ) → i < term_count → v < variant_limit → alone s i v ≡ true → Alone Lacks i v
    alone_valid i v hi hv e u hu n = lacks_valid s ok i u hi hu (go (or_cases (eqb (label_of s i) (2 ^ v)) (eqb (label_of s i) 0) e))
      where
        go : (eqb (label_of s i) (2 ^ v) ≡ true) ⊎ (eqb (label_of s i) 0 ≡ true) → bit (label_of s i) u ≡ 0
        go (inl q) = rw (eqb-true (label_of s i) (2 ^ v) q) (bit_pow v u hv hu n)
        go (inr q) = rw (eqb-true (label_of s i) 0 q) (bit_zero u)

    classes-same : (ps qs : List ℕ) → All In ps → All In qs → same_classes s ps qs ≡ true → AllSame Same ps qs
    classes-same [] qs hp hq e = tt
    classes-same (p ∷ ps) [] hp hq e = tt
    classes-same (p ∷ ps) (q ∷ qs) (more hp hps) (more hq hqs) e =
        (class_same s ok p q hp hq (and_left (same_class s p q) (same_classes s ps qs) e), classes-same ps qs hps hqs (and_right (same_class s p q) (same_classes s ps qs) e))

    all_same : (ps qs : List ℕ) → All In ps → All In qs → AllSame Same ps qs → All Valid (same_all ps qs)
    all_same [] qs hp hq e = none
    all_same (p ∷ ps) [] hp hq e = none
    all_same (p ∷ ps) (q ∷ qs) (more hp hps) (more hq hqs) e = more (same_valid hp hq e.0) (all_same ps qs hps hqs e.1)

    one : (i j : ℕ) → i < term_count → j < term_count → Same i j → All Valid (same i j ∷ [])
    one i j hi hj e = more (same_valid hi hj e) none

    -- a build at the state is one at the relations, with its numbers in range
    pub record Fine (b : Build) : Type 0 where
      pub at : BuiltAt t Lacks b
      pub term : b.term < term_count
      pub parts : All In b.parts

    pub fine_all : All Fine (builds_at t s)
    fine_all =
        all-builds t s (λ b m. record { at = row m; term = (ranged.builds b m).0; parts = (ranged.builds b m).2 })
        (λ r m e. record { at = read r m (alone_valid r.term r.variant (ranged.reads r m).1 (ranged.reads r m).2 e) refl; term = (ranged.reads r m).1; parts = (ranged.reads r m).4 })

    pub built_valid : (a b : Build) → Fine a → Fine b → All Valid (built_rows s a b)
    built_valid a b fa fb =
        all-when (eqb a.type b.type && eqb a.variant b.variant) _ (λ e.
        let et : a.type ≡ b.type = eqb-true _ _ (and_left (eqb a.type b.type) (eqb a.variant b.variant) e) in
        let ev : a.variant ≡ b.variant = eqb-true _ _ (and_right (eqb a.type b.type) (eqb a.variant b.variant) e) in
        all_append
        (all-when (same_classes s a.parts b.parts) (same a.term b.term ∷ [])
        (λ q. one a.term b.term fa.term fb.term (o.congruent a b fa.at fb.at et ev (classes-same a.parts b.parts fa.parts fb.parts q))))
        (all-when (same_class s a.term b.term) (same_all a.parts b.parts)
        (λ q. all_same a.parts b.parts fa.parts fb.parts (o.parts a b fa.at fb.at et ev (class_same s ok a.term b.term fa.term fb.term q)))))

    pub reads_valid : (a b : Read) → Memᴰ a t.reads → Memᴰ b t.reads → All Valid (reads s a b)
    reads_valid a b ma mb =
        all-when (e1 && (e2 && (e3 && e4))) (same a.row b.row ∷ []) (λ e.
        one a.row b.row (ranged.reads a ma).0 (ranged.reads b mb).0
        (o.reads a b ma mb (eqb-true _ _ (and_left e1 _ e)) (eqb-true _ _ (and_left e2 (e3 && e4) (and_right e1 (e2 && (e3 && e4)) e)))
        (eqb-true _ _ (and_left e3 e4 (and_right e2 (e3 && e4) (and_right e1 (e2 && (e3 && e4)) e))))
        (class_same s ok a.term b.term (ranged.reads a ma).1 (ranged.reads b mb).1 (and_right e3 e4 (and_right e2 (e3 && e4) (and_right e1 (e2 && (e3 && e4)) e))))))
      where
        e1 : Bool
        e1 = eqb a.type b.type

        e2 : Bool
        e2 = eqb a.variant b.variant

        e3 : Bool
        e3 = eqb a.position b.position

        e4 : Bool
        e4 = same_class s a.term b.term

    pub single_valid : (a b : Term) → Memᴰ a t.terms → Memᴰ b t.terms → All Valid (single t.types s a b)
    single_valid a b ma mb =
        all-when (eqb a.type b.type && any (λ v. alone s a.term v && alone s b.term v) (fieldless 0 (variants_of t.types a.type))) (same a.term b.term ∷ []) (λ e.
        let (v, m, q) = any_some (λ v. alone s a.term v && alone s b.term v) (fieldless 0 (variants_of t.types a.type)) (and_right (eqb a.type b.type) _ e) in
        one a.term b.term (ranged.terms a ma).0 (ranged.terms b mb).0
        (o.single a b v ma mb (eqb-true _ _ (and_left (eqb a.type b.type) _ e)) m
        (alone_valid a.term v (ranged.terms a ma).0 (ranged.fieldlesses a v ma m) (and_left (alone s a.term v) (alone s b.term v) q))
        (alone_valid b.term v (ranged.terms b mb).0 (ranged.fieldlesses a v ma m) (and_right (alone s a.term v) (alone s b.term v) q))))

    pub absent_valid : (r : Read) → Memᴰ r t.reads → All Valid (read_absent s r)
    absent_valid r m =
        all-when (lacks s r.term r.variant) (same r.row r.absent ∷ []) (λ e.
        one r.row r.absent (ranged.reads r m).0 (ranged.reads r m).3
        (o.absent r m (lacks_valid s ok r.term r.variant (ranged.reads r m).1 (ranged.reads r m).2 (eqb-true _ _ e))))

    rules_valid : All Valid (consequences t s)
    rules_valid = all-consequences t s (λ a b ma mb. built_valid a b (all_mem fine_all a ma) (all_mem fine_all b mb)) reads_valid single_valid absent_valid

  saturate_sound : (k : ℕ) (s : State) → Sound s → Sound (saturate k t s)
  saturate_sound = saturate_ind t Sound (λ s ok. adds_sound s ok (fresh t s) (all_filter (λ f. not (holds s f)) (rules_valid s ok)))

  -- ---- before the first round
  const_valid : (a b : Const) → Memᴰ a t.consts → Memᴰ b t.consts → All Valid (constants a b)
  const_valid a b ma mb =
      all-when (eqb a.type b.type && eq_z a.value b.value) (same a.term b.term ∷ []) (λ e.
      more (same_valid (ranged.consts a ma) (ranged.consts b mb)
      (o.constants a b ma mb (eqb-true _ _ (and_left (eqb a.type b.type) _ e)) (eq_z_true a.value b.value (and_right (eqb a.type b.type) _ e)))) none)

  -- a label cut to one variant
  only : (i v : ℕ) → i < term_count → v < variant_limit → Alone Lacks i v → Valid (within i (2 ^ v))
  only i v hi hv f =
      within_valid hi (λ u hu e. f u hu (λ q. let z : bit (2 ^ v) v ≡ 0 = subst (λ (x : ℕ). bit (2 ^ v) x ≡ 0) q e in absurd (omega (arith, bit_own v hv))))

  literal_valid : (l : Literal) → Memᴰ l ls → All Valid (of_literal l)
  literal_valid (equal i j) m = more (same_valid (literals_in (equal i j) m).0 (literals_in (equal i j) m).1 (asserted.equal_literal i j m)) none
  literal_valid (unequal i j) m = none
  literal_valid (is i v) m = more (only i v (literals_in (is i v) m).0 (literals_in (is i v) m).1 (asserted.is_literal i v m)) none
  literal_valid (isnt i v) m =
      more (within_valid (literals_in (isnt i v) m).0
      (λ u hu e. subst (λ (x : ℕ). Lacks i x) (sym (bit_but v u (literals_in (isnt i v) m).1 hu e)) (asserted.isnt_literal i v m))) none

  pub given_valid : All Valid (given t ls)
  given_valid =
      all_append (all_append (all_append
      (all_map (all_variants t.types) t.terms (λ x m. within_valid (ranged.terms x m).0 (λ v hv e. o.beyond x v m (bit_ones (length (variants_of t.types x.type)) v (omega (arith, (ranged.terms x m).1)) hv e))))
      (all_map one_variant t.builds (λ b m. only b.term b.variant (ranged.builds b m).0 (ranged.builds b m).1 (o.built b m))))
      (all-pairwise constants t.consts const_valid)) (all-concat_map of_literal ls literal_valid)

  pub first_sound : (room : ℕ) → term_count ≤ room → Sound (first room)
  unfolding first
  first_sound room enough =
      record {
        range = λ i hi. omega (arith, from_at room 0 i 0 (omega arith));
        class = λ i hi. let e : i ≡ class_of (first room) i = omega (arith, from_at room 0 i 0 (omega arith)) in subst (λ (x : ℕ). Same i x) e (o.itself i);
        label = λ c v hc hv e. absurd (omega (arith, bit_ones variant_limit v (omega arith) hv (rw (get_or-replicate room c every_variant 0 (omega arith)) at e)));
      }

  initial_sound : Sound initial
  unfolding initial first
  initial_sound = first_sound term_count (omega arith)

  begin_sound : Sound (begin t ls)
  begin_sound = adds_sound initial initial_sound (given t ls) given_valid

  pub closure_sound : Sound (closure_of t ls)
  unfolding closure_of
  closure_sound = saturate_sound (size (begin t ls)) (begin t ls) begin_sound

  -- what the closure says is true of the relations
  pub below-same : (i j : ℕ) → i < term_count → j < term_count → SameAt (closure_of t ls) i j → Same i j
  below-same i j hi hj e = same_valid_at (closure_of t ls) closure_sound i j hi hj e

  pub below-lacks : (i v : ℕ) → i < term_count → v < variant_limit → LacksAt (closure_of t ls) i v → Lacks i v
  below-lacks i v hi hv e = lacks_valid (closure_of t ls) closure_sound i v hi hv e
