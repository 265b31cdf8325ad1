-- The closure obeys the rules: whatever they give at the closure holds there already. With ClosureBelow it is the least
-- closure. Assumes nothing.
use mathlib.Core.Path.{◌≡◌, refl, ap, sym, ◌∙◌, subst}
use mathlib.Core.Bool.{Bool, true, false, ◌&&◌, false≢true}
use mathlib.Core.List.Memᴰ
use mathlib.Core.List.{List, [], ◌∷◌, ◌++◌, map, Memᴰ}
use mathlib.Core.Logic.{◌⊎◌, inl, inr}
use Prim.Native.Nat.{ℕ, ◌-◌, ◌^◌, ◌<◌}
use lib.Dec.{eqb}
use lib.IntN.{ℤ, pos, negsuc}
use lib.ListN.{get_or}
use borrow.Author.Tests.{eqb-true, eq-eqb}
use Rattle.laws.specs.All.{All, All.more}
use Rattle.laws.specs.Bits.{bit}
use Rattle.laws.specs.Lists.{concat_map, when}
use Rattle.laws.proofs.Bits.{bit_pow, but_own, one_set, ones_past}
use Rattle.laws.proofs.Bools.{and_both, or_left, or_right}
use Rattle.laws.proofs.Lists.{all_left, all-map_inv, all_right, any_of, concat_map_inv, mem_concat_map, when_inv}
use Rattle.guard.specs.Closure.{Fact, Fact.same, Fact.within, LacksAt, SameAt, State, all_variants, alone, builds_at, built_rows, class_of, closure_of, consequences, constants, eq_z, every_variant, given, holds, label_of, lacks, of_literal, one_variant, pairwise, read_absent, read_build, reads, same_all, same_class, same_classes, single}
use Rattle.guard.specs.Guard.{Literal, Literal.is, Literal.isnt}
use Rattle.guard.specs.Limits.{variant_limit}
use Rattle.guard.specs.Rules.{AllSame, Alone, BuiltAt, BuiltAt.read, BuiltAt.row, LeastClosure, ObeysLiterals, ObeysRules}
use Rattle.guard.specs.Terms.{Build, Const, Read, Table, Term, as_build, fieldless}
use Rattle.guard.specs.Types.{variants_of}
use Rattle.guard.proofs.ClosureBelow.{InRange, LiteralsInRange, below-lacks, below-same}
use Rattle.guard.proofs.ClosureState.{Says, Small, closure_masks, holds-rules, says-given}

pub eq_z_of : (a b : ℤ) → a ≡ b → eq_z a b ≡ true
eq_z_of a b e = subst (λ (z : ℤ). eq_z a z ≡ true) e (go a)
  where
    go : (z : ℤ) → eq_z z z ≡ true
    go (pos n) = eq-eqb n n refl
    go (negsuc n) = eq-eqb n n refl

-- the converse of the test `alone`
pub alone_of : (s : State) → Small s → (i v : ℕ) → ((u : ℕ) → u < variant_limit → ¬ (u ≡ v) → bit (label_of s i) u ≡ 0) → alone s i v ≡ true
unfolding Small
alone_of s h i v f = go (one_set variant_limit v (label_of s i) (h (class_of s i)) f)
  where
    go : (label_of s i ≡ 0) ⊎ (label_of s i ≡ 2 ^ v) → alone s i v ≡ true
    go (inl e) = or_right (eqb (label_of s i) (2 ^ v)) (eqb (label_of s i) 0) (eq-eqb _ _ e)
    go (inr e) = or_left (eqb (label_of s i) (2 ^ v)) (eqb (label_of s i) 0) (eq-eqb _ _ e)

-- ---- inversions

pub data Either {B : Type 0} (P : Fact → Type 0) (f : B → B → List Fact) (x y : B) : Type 0 where
  before : All P (f x y) → Either P f x y
  after : All P (f y x) → Either P f x y
  identical : x ≡ y → Either P f x y

pub pairwise_inv : {B : Type 0} (P : Fact → Type 0) (f : B → B → List Fact) (ys : List B) → All P (pairwise f ys) → (x y : B) → Memᴰ x ys → Memᴰ y ys → Either P f x y
pairwise_inv {B = B} P f [] h x y x5 _ = elim x5 [ ]
pairwise_inv P f (z ∷ ys) h x y (Memᴰ.head e) (Memᴰ.head e') = identical (e ∙ sym e')
pairwise_inv P f (z ∷ ys) h x y (Memᴰ.head e) (Memᴰ.tail m) = before (subst (λ w. All P (f w y)) (sym e) (concat_map_inv (f z) ys (all_left (concat_map (f z) ys) (pairwise f ys) h) y m))
pairwise_inv P f (z ∷ ys) h x y (Memᴰ.tail m) (Memᴰ.head e) = after (subst (λ w. All P (f w x)) (sym e) (concat_map_inv (f z) ys (all_left (concat_map (f z) ys) (pairwise f ys) h) x m))
pairwise_inv P f (z ∷ ys) h x y (Memᴰ.tail m) (Memᴰ.tail n) = pairwise_inv P f ys (all_right (concat_map (f z) ys) (pairwise f ys) h) x y m n

-- ---- the closure obeys the rules
classes-equal : (s : State) (ps qs : List ℕ) → AllSame (SameAt s) ps qs → same_classes s ps qs ≡ true
classes-equal s [] qs h = refl
classes-equal s (p ∷ ps) [] h = refl
classes-equal s (p ∷ ps) (q ∷ qs) h = rw (eq-eqb _ _ h.0) (classes-equal s ps qs h.1)

all-same_of : (s : State) (ps qs : List ℕ) → All (λ f. holds s f ≡ true) (same_all ps qs) → AllSame (SameAt s) ps qs
all-same_of s [] qs h = tt
all-same_of s (p ∷ ps) [] h = tt
all-same_of s (p ∷ ps) (q ∷ qs) (more e es) = (eqb-true _ _ e, all-same_of s ps qs es)

all-same_refl : (s : State) (ps : List ℕ) → AllSame (SameAt s) ps ps
all-same_refl s [] = tt
all-same_refl s (p ∷ ps) = (refl, all-same_refl s ps)

all-same_sym : (s : State) (ps qs : List ℕ) → AllSame (SameAt s) ps qs → AllSame (SameAt s) qs ps
all-same_sym s [] [] h = tt
all-same_sym s [] (q ∷ qs) h = tt
all-same_sym s (p ∷ ps) [] h = tt
all-same_sym s (p ∷ ps) (q ∷ qs) h = (sym h.0, all-same_sym s ps qs h.1)

first_of : (s : State) (i j : ℕ) → All (λ f. holds s f ≡ true) (same i j ∷ []) → SameAt s i j
first_of s i j (more e es) = eqb-true _ _ e

module _ (t : Table) (ls : List Literal) (ranged : InRange t) (literals_in : LiteralsInRange ls) (S : State) (small : Small S)
    (says : All (Says S) (given t ls)) (rules : All (λ f. holds S f ≡ true) (consequences t S)) where
  abbrev H : Fact → Type 0
  H f = holds S f ≡ true

  -- the four parts of what is given, and of what the rules give
  abbrev G1 : List Fact
  G1 = map (all_variants t.types) t.terms

  abbrev G2 : List Fact
  G2 = map one_variant t.builds

  abbrev G3 : List Fact
  G3 = pairwise constants t.consts

  abbrev C1 : List Fact
  C1 = pairwise (built_rows S) (builds_at t S)

  abbrev C2 : List Fact
  C2 = pairwise (reads S) t.reads

  abbrev C3 : List Fact
  C3 = pairwise (single t.types S) t.terms

  abbrev C4 : List Fact
  C4 = concat_map (read_absent S) t.reads

  c1 : All H C1
  unfolding consequences
  c1 = all_left C1 C2 (all_left (C1 ++ C2) C3 (all_left (C1 ++ C2 ++ C3) C4 rules))

  c2 : All H C2
  unfolding consequences
  c2 = all_right C1 C2 (all_left (C1 ++ C2) C3 (all_left (C1 ++ C2 ++ C3) C4 rules))

  c3 : All H C3
  unfolding consequences
  c3 = all_right (C1 ++ C2) C3 (all_left (C1 ++ C2 ++ C3) C4 rules)

  c4 : All H C4
  unfolding consequences
  c4 = all_right (C1 ++ C2 ++ C3) C4 rules

  literals_say : (l : Literal) → Memᴰ l ls → All (Says S) (of_literal l)
  literals_say l m = concat_map_inv of_literal ls (all_right (G1 ++ G2 ++ G3) (concat_map of_literal ls) says) l m

  equal-literal : (i j : ℕ) → Memᴰ (Literal.equal i j) ls → SameAt S i j
  equal-literal i j m = go (literals_say (Literal.equal i j) m)
    where
      go : All (Says S) (same i j ∷ []) → SameAt S i j
      go (more e es) = unfold Says in e

  pub built_mem : (b : Build) → BuiltAt t (LacksAt S) b → Memᴰ b (builds_at t S)
  built_mem b (row m) = Memᴰ.append_left (concat_map (read_build S) t.reads) m
  built_mem b (read r m f e) =
      Memᴰ.append_right t.builds (mem_concat_map (read_build S) t.reads m (go (alone S r.term r.variant) (alone_of S small r.term r.variant f)))
    where
      go : (x : Bool) → x ≡ true → Memᴰ b (when x (as_build r ∷ []))
      go true q = Memᴰ.head e
      go false q = absurd (false≢true q)

  pair : (a b : Build) → a.type ≡ b.type → a.variant ≡ b.variant → All H (built_rows S a b)
      → All H (when (same_classes S a.parts b.parts) (same a.term b.term ∷ []) ++ when (same_class S a.term b.term) (same_all a.parts b.parts))
  pair a b et ev h = when_inv (eqb a.type b.type && eqb a.variant b.variant) _ h (and_both _ _ (eq-eqb _ _ et) (eq-eqb _ _ ev))

  congr : (a b : Build) → a.type ≡ b.type → a.variant ≡ b.variant → All H (built_rows S a b) → AllSame (SameAt S) a.parts b.parts → SameAt S a.term b.term
  congr a b et ev h ps = first_of S a.term b.term
      (when_inv (same_classes S a.parts b.parts) (same a.term b.term ∷ [])
      (all_left (when (same_classes S a.parts b.parts) (same a.term b.term ∷ [])) (when (same_class S a.term b.term) (same_all a.parts b.parts)) (pair a b et ev h))
      (classes-equal S a.parts b.parts ps))

  inj : (a b : Build) → a.type ≡ b.type → a.variant ≡ b.variant → All H (built_rows S a b) → SameAt S a.term b.term → AllSame (SameAt S) a.parts b.parts
  inj a b et ev h e = all-same_of S a.parts b.parts
      (when_inv (same_class S a.term b.term) (same_all a.parts b.parts)
      (all_right (when (same_classes S a.parts b.parts) (same a.term b.term ∷ [])) (when (same_class S a.term b.term) (same_all a.parts b.parts)) (pair a b et ev h))
      (eq-eqb _ _ e))

  congruent' : (a b : Build) → BuiltAt t (LacksAt S) a → BuiltAt t (LacksAt S) b → a.type ≡ b.type → a.variant ≡ b.variant → AllSame (SameAt S) a.parts b.parts → SameAt S a.term b.term
  congruent' a b ba bb et ev ps = go (pairwise_inv H (built_rows S) (builds_at t S) c1 a b (built_mem a ba) (built_mem b bb))
    where
      go : Either H (built_rows S) a b → SameAt S a.term b.term
      go (before h) = congr a b et ev h ps
      go (after h) = sym (congr b a (sym et) (sym ev) h (all-same_sym S a.parts b.parts ps))
      go (identical e) = ap (λ (x : Build). class_of S x.term) e

  parts' : (a b : Build) → BuiltAt t (LacksAt S) a → BuiltAt t (LacksAt S) b → a.type ≡ b.type → a.variant ≡ b.variant → SameAt S a.term b.term → AllSame (SameAt S) a.parts b.parts
  parts' a b ba bb et ev q = go (pairwise_inv H (built_rows S) (builds_at t S) c1 a b (built_mem a ba) (built_mem b bb))
    where
      go : Either H (built_rows S) a b → AllSame (SameAt S) a.parts b.parts
      go (before h) = inj a b et ev h q
      go (after h) = all-same_sym S b.parts a.parts (inj b a (sym et) (sym ev) h (sym q))
      go (identical e) = subst (λ (x : Build). AllSame (SameAt S) a.parts x.parts) e (all-same_refl S a.parts)

  absent' : (r : Read) → Memᴰ r t.reads → LacksAt S r.term r.variant → SameAt S r.row r.absent
  absent' r m e = first_of S r.row r.absent
      (when_inv (lacks S r.term r.variant) (same r.row r.absent ∷ []) (concat_map_inv (read_absent S) t.reads c4 r m) (eq-eqb _ _ e))

  -- a rule on two elements of a list: it may have been asked the other way round, or of one element
  module _ {B : Type 0} (f : B → B → List Fact) (term : B → ℕ) (ys : List B) (h : All H (pairwise f ys)) where
    two : (x y : B) → Memᴰ x ys → Memᴰ y ys → (All H (f x y) → SameAt S (term x) (term y)) → (All H (f y x) → SameAt S (term y) (term x)) → SameAt S (term x) (term y)
    two x y m n p q = go (pairwise_inv H f ys h x y m n)
      where
        go : Either H f x y → SameAt S (term x) (term y)
        go (before r) = p r
        go (after r) = sym (q r)
        go (identical e) = ap (λ (z : B). class_of S (term z)) e

  read-pair : (a b : Read) → a.type ≡ b.type → a.variant ≡ b.variant → a.position ≡ b.position → SameAt S a.term b.term → All H (reads S a b) → SameAt S a.row b.row
  read-pair a b et ev ep e h = first_of S a.row b.row
      (when_inv _ (same a.row b.row ∷ []) h (and_both _ _ (eq-eqb _ _ et) (and_both _ _ (eq-eqb _ _ ev) (and_both _ _ (eq-eqb _ _ ep) (eq-eqb _ _ e)))))

  reads' : (a b : Read) → Memᴰ a t.reads → Memᴰ b t.reads → a.type ≡ b.type → a.variant ≡ b.variant → a.position ≡ b.position → SameAt S a.term b.term → SameAt S a.row b.row
  reads' a b ma mb et ev ep e =
      two (reads S) (λ r. r.row) t.reads c2 a b ma mb (read-pair a b et ev ep e) (read-pair b a (sym et) (sym ev) (sym ep) (sym e))

  single-pair : (a b : Term) (v : ℕ) → a.type ≡ b.type → Memᴰ v (fieldless 0 (variants_of t.types a.type)) → Alone (LacksAt S) a.term v → Alone (LacksAt S) b.term v
      → All H (single t.types S a b) → SameAt S a.term b.term
  single-pair a b v et m fa fb h = first_of S a.term b.term
      (when_inv _ (same a.term b.term ∷ []) h
      (and_both _ _ (eq-eqb _ _ et) (any_of (λ w. alone S a.term w && alone S b.term w) (fieldless 0 (variants_of t.types a.type)) v m
      (and_both (alone S a.term v) (alone S b.term v) (alone_of S small a.term v fa) (alone_of S small b.term v fb)))))

  single' : (a b : Term) (v : ℕ) → Memᴰ a t.terms → Memᴰ b t.terms → a.type ≡ b.type → Memᴰ v (fieldless 0 (variants_of t.types a.type))
      → Alone (LacksAt S) a.term v → Alone (LacksAt S) b.term v → SameAt S a.term b.term
  single' a b v ma mb et m fa fb =
      two (single t.types S) (λ x. x.term) t.terms c3 a b ma mb (single-pair a b v et m fa fb)
      (single-pair b a v (sym et) (subst (λ (w : ℕ). Memᴰ v (fieldless 0 (variants_of t.types w))) et m) fb fa)

  cut : (i m : ℕ) → Says S (within i m) → (v : ℕ) → bit m v ≡ 0 → LacksAt S i v
  unfolding Says
  cut i m e v z = e v z

  constants' : (a b : Const) → Memᴰ a t.consts → Memᴰ b t.consts → a.type ≡ b.type → a.value ≡ b.value → SameAt S a.term b.term
  constants' a b ma mb et ev = go (pairwise_inv (Says S) constants t.consts (all_right (G1 ++ G2) G3 (all_left (G1 ++ G2 ++ G3) (concat_map of_literal ls) says)) a b ma mb)
    where
      one : (x y : Const) → x.type ≡ y.type → x.value ≡ y.value → All (Says S) (constants x y) → SameAt S x.term y.term
      one x y p q h = head (when_inv (eqb x.type y.type && eq_z x.value y.value) (same x.term y.term ∷ []) h (and_both _ _ (eq-eqb _ _ p) (eq_z_of x.value y.value q)))
        where
          head : All (Says S) (same x.term y.term ∷ []) → SameAt S x.term y.term
          head (more e es) = unfold Says in e

      go : Either (Says S) constants a b → SameAt S a.term b.term
      go (before h) = one a b et ev h
      go (after h) = sym (one b a (sym et) (sym ev) h)
      go (identical e) = ap (λ (z : Const). class_of S z.term) e

  only_say : (i v : ℕ) → v < variant_limit → Says S (within i (2 ^ v)) → Alone (LacksAt S) i v
  only_say i v hv e u hu n = cut i (2 ^ v) e u (bit_pow v u hv hu n)

  is-literal : (i v : ℕ) → Memᴰ (Literal.is i v) ls → Alone (LacksAt S) i v
  is-literal i v m = go (literals_say (Literal.is i v) m)
    where
      go : All (Says S) (within i (2 ^ v) ∷ []) → Alone (LacksAt S) i v
      go (more e es) = only_say i v (literals_in (is i v) m).1 e

  isnt-literal : (i v : ℕ) → Memᴰ (Literal.isnt i v) ls → LacksAt S i v
  isnt-literal i v m = go (literals_say (Literal.isnt i v) m)
    where
      go : All (Says S) (within i (every_variant - 2 ^ v) ∷ []) → LacksAt S i v
      go (more e es) = cut i (every_variant - 2 ^ v) e v (but_own v (literals_in (isnt i v) m).1)

  pub obeys_rules : ObeysRules t (SameAt S) (LacksAt S)
  obeys_rules =
      record {
        itself = λ i. refl;
        back = λ e. sym e;
        through = λ e f. e ∙ f;
        constants = constants';
        congruent = congruent';
        parts = parts';
        reads = reads';
        beyond = λ x v m h. cut x.term _ (all-map_inv (all_variants t.types) t.terms (all_left G1 G2 (all_left (G1 ++ G2) G3 (all_left (G1 ++ G2 ++ G3) (concat_map of_literal ls) says))) x m) v (ones_past _ v h);
        built = λ b m. only_say b.term b.variant (ranged.builds b m).1 (all-map_inv one_variant t.builds (all_right G1 G2 (all_left (G1 ++ G2) G3 (all_left (G1 ++ G2 ++ G3) (concat_map of_literal ls) says))) b m);
        shared = λ {i} {j} {v} e h. subst (λ (c : ℕ). bit (get_or S.labels c 0) v ≡ 0) e h;
        single = single';
        absent = absent';
      }

  pub obeys_literals : ObeysLiterals ls (SameAt S) (LacksAt S)
  obeys_literals = record { equal_literal = equal-literal; is_literal = is-literal; isnt_literal = isnt-literal }

-- the closure is the least one, as far as its numbers are those of terms and variants
pub closure_least : (t : Table) (ls : List Literal) → InRange t → LiteralsInRange ls → LeastClosure t ls (SameAt (closure_of t ls)) (LacksAt (closure_of t ls))
closure_least t ls r l =
    record {
      rules = obeys_rules t ls r l (closure_of t ls) (closure_masks t ls) (says-given t ls) (holds-rules t ls);
      literals = obeys_literals t ls r l (closure_of t ls) (closure_masks t ls) (says-given t ls) (holds-rules t ls);
      least_same = λ Same Lacks o a i j hi hj e. below-same t ls r l Same Lacks o a i j hi hj e;
      least_lacks = λ Same Lacks o a i v hi hv e. below-lacks t ls r l Same Lacks o a i v hi hv e;
    }
