-- A closed node has no model, and every split keeps a model in one child. Where an assignment makes all literals of a
-- node hold, the values of the terms obey the rules and the literals, so the node's closure, the least one, is true of the
-- values: equal terms have equal values, and no value is a variant that its label lacks. Each reason to close the node
-- then contradicts the values: the value of a term is a variant of its type, an unequal literal holds, two constants have
-- their own values, and a part of a message is smaller than the message. Assumes nothing.
use mathlib.Core.Path.{◌≡◌, ap, sym, ◌∙◌, subst}
use mathlib.Core.Bool.{Bool, true, not, false≢true, ◌&&◌, ◌||◌}
use mathlib.Core.List.{List, [], ◌∷◌, Memᴰ, map}
use mathlib.Core.Logic.{◌⊎◌, inl, inr}
use Prim.Native.Nat.{ℕ, zero, suc, ◌<◌}
use native.Mathlib.Omega.{arith}
use lib.Dec.{eqb}
use lib.ListN.{length, get_or}
use borrow.Author.Tests.{eqb-true, not-true}
use Rattle.laws.specs.All.{All, All.none}
use Rattle.laws.specs.Bits.{bit}
use Rattle.laws.specs.Lists.{any, concat_map, union, when}
use Rattle.laws.proofs.Bits.{bit_zero}
use Rattle.laws.proofs.Bools.{and_left, and_right, cond_ind, or_cases}
use Rattle.laws.proofs.Lists.{all-concat_map, all_map, all_mem, all-union, all_weaken, all-when, any_some, mem_map}
use Rattle.guard.specs.Closure.{LacksAt, SameAt, State, builds_at, class_of, closure_of, eq_z, label_of, same_class}
use Rattle.guard.specs.Guard.{Guard, Literal, Literal.equal, Literal.is, Literal.isnt, Literal.unequal}
use Rattle.guard.specs.Limits.{Limits, Supported, variant_limit}
use Rattle.guard.specs.Meaning.{AllHold, Assigns, Holds, IsVariant, LiteralHolds, values}
use Rattle.guard.specs.Message.{Message, Message.number, no_message, to_parts}
use Rattle.guard.specs.Node.{broken, empty_label, inside_itself, is_closed, parts_of, reached, unlike_constants}
use Rattle.guard.specs.Rules.{ObeysLiterals, ObeysRules}
use Rattle.guard.specs.Terms.{Build, Const, Table, Term, table_of, term_count}
use Rattle.guard.specs.Types.{is_number}
use Rattle.guard.specs.WellFormed.{LiteralFits, WellFormed}
use Rattle.guard.proofs.ClosureBelow.{Fine, InRange, LiteralsInRange, Sound, below-lacks, below-same, closure_sound, fine_all}
use Rattle.guard.proofs.LeastClosure.{eq_z_of}
use Rattle.guard.proofs.MessageLaws.{message_size, one-variant, part_sizes, size_mem, variant_or_not}
use Rattle.guard.proofs.TableLaws.{few-rows, table_in_range}
use Rattle.soundness.proofs.TermValues.{term_value, value_row}
use Rattle.soundness.proofs.ValuesObey.{NotVariant, SameValue, build-value, const-value, term-variant, values_obey}

-- a literal holds of the values of terms
abbrev pub HoldsAt : (ℕ → Message) → Literal → Type 0
HoldsAt val (equal i j) = val i ≡ val j
HoldsAt val (unequal i j) = ¬ (val i ≡ val j)
HoldsAt val (is i v) = IsVariant (val i) v
HoldsAt val (isnt i v) = ¬ IsVariant (val i) v

-- all literals and decisions of a node do
abbrev pub AllHoldAt : (ℕ → Message) → List Literal → Type 0
AllHoldAt val ls = (l : Literal) → Memᴰ l ls → HoldsAt val l

-- ---- from the root to a child

-- the literals of a guard that holds
pub root-holds : (limits : Limits) → Supported limits → (g : Guard) → WellFormed limits g → (ρ : ℕ → Message) → Holds g ρ → AllHoldAt (term_value g ρ) g.literals
root-holds limits sup g ok ρ h l m = literal l (ok.literals l m) (each g.literals h.literals l m)
  where
    each : (ls : List Literal) → AllHold (values g ρ) ls → (l : Literal) → Memᴰ l ls → LiteralHolds (values g ρ) l
    each [] h l x'' = elim x'' [ ]
    each (k ∷ ls) h l (Memᴰ.head e) = subst (LiteralHolds (values g ρ)) (sym e) h.0
    each (k ∷ ls) h l (Memᴰ.tail m) = each ls h.1 l m

    at : (i : ℕ) → i < length g.rows → term_value g ρ i ≡ get_or (values g ρ) i no_message
    at i hi = value_row g ρ i (omega (arith, few-rows limits sup g ok))

    literal : (l : Literal) → LiteralFits g.types g.rows l → LiteralHolds (values g ρ) l → HoldsAt (term_value g ρ) l
    literal (equal i j) f h = at i f.0 ∙ h ∙ sym (at j f.1)
    literal (unequal i j) f h = λ e. h (sym (at i f.0) ∙ e ∙ at j f.1)
    literal (is i v) f h = rw (at i f.0) h
    literal (isnt i v) f h = rw (at i f.0) h

pub child_holds : (val : ℕ → Message) (ls : List Literal) (d : Literal) → AllHoldAt val ls → HoldsAt val d → AllHoldAt val (d ∷ ls)
child_holds val ls d h k l (Memᴰ.head e) = subst (HoldsAt val) (sym e) k
child_holds val ls d h k l (Memᴰ.tail m) = h l m

-- one of the two decisions of a split holds
pub split_keeps : (val : ℕ → Message) (i v : ℕ) → HoldsAt val (is i v) ⊎ HoldsAt val (isnt i v)
split_keeps val i v = variant_or_not (val i) v

-- ---- classes reached through parts

-- what passes from a class to its parts holds of all that is reached
pub reached-all : (s : State) (bs : List Build) (P : ℕ → Type 0) → ((c : ℕ) → P c → All P (parts_of s bs c)) → (k : ℕ) (cs : List ℕ) → All P cs → All P (reached k s bs cs)
reached-all s bs P step zero cs h = h
reached-all s bs P step (suc k) cs h =
    cond_ind (All P) (eqb (length (union (concat_map (parts_of s bs) cs) cs)) (length cs)) cs (reached k s bs (union (concat_map (parts_of s bs) cs) cs)) (λ e. h)
    (λ e. reached-all s bs P step k (union (concat_map (parts_of s bs) cs) cs)
    (all-union (concat_map (parts_of s bs) cs) cs (all-concat_map (parts_of s bs) cs (λ c m. step c (all_mem h c m))) h))

-- ---- a closed node

module _ (limits : Limits) (sup : Supported limits) (g : Guard) (ok : WellFormed limits g) (ρ : ℕ → Message) (assigns : Assigns g ρ)
    (ls : List Literal) (range : LiteralsInRange ls) (hold : AllHoldAt (term_value g ρ) ls) where
  abbrev t : Table
  t = table_of g

  abbrev S : State
  S = closure_of (table_of g) ls

  abbrev val : ℕ → Message
  val = term_value g ρ

  in_range_lem : InRange (table_of g)
  in_range_lem = table_in_range limits sup g ok

  obey_rules : ObeysRules (table_of g) (SameValue val) (NotVariant val)
  obey_rules = values_obey limits sup g ok ρ assigns

  obey_literals : ObeysLiterals ls (SameValue val) (NotVariant val)
  obey_literals =
      record {
        equal_literal = λ i j m. hold (equal i j) m;
        is_literal = λ i v m u hu n k. n (one-variant (val i) u v k (hold (is i v) m));
        isnt_literal = λ i v m. hold (isnt i v) m;
      }

  -- the closure is true of the values
  pub same-value : (i j : ℕ) → i < term_count → j < term_count → SameAt S i j → val i ≡ val j
  same-value = below-same t ls in_range_lem range (SameValue val) (NotVariant val) obey_rules obey_literals

  pub lacks-value : (i v : ℕ) → i < term_count → v < variant_limit → LacksAt S i v → ¬ IsVariant (val i) v
  lacks-value = below-lacks t ls in_range_lem range (SameValue val) (NotVariant val) obey_rules obey_literals

  -- "a label is empty"
  pub empty-dead : (x : Term) → Memᴰ x t.terms → empty_label t S x ≡ true → ⊥
  unfolding table_of
  empty-dead x m e =
      let (v, h, i) = term-variant limits sup g ok ρ assigns x m (not-true _ (and_left (not (is_number g.types x.type)) _ e)) in
      let z : label_of S x.term ≡ 0 = eqb-true _ _ (and_right (not (is_number g.types x.type)) _ e) in
      lacks-value x.term v (in_range_lem.terms x m).0 h (ap (λ (l : ℕ). bit l v) z ∙ bit_zero v) i

  -- "two terms of an unequal line are equal"
  pub broken-dead : (l : Literal) → Memᴰ l ls → broken S l ≡ true → ⊥
  broken-dead (equal i j) m e = false≢true e
  broken-dead (unequal i j) m e = hold (unequal i j) m (same-value i j (range (unequal i j) m).0 (range (unequal i j) m).1 (eqb-true _ _ e))
  broken-dead (is i v) m e = false≢true e
  broken-dead (isnt i v) m e = false≢true e

  -- "one class holds two constants of different value"
  abbrev unlike : Term → Const → Const → Bool
  unlike x a b = same_class S x.term a.term && (same_class S x.term b.term && not (eq_z a.value b.value))

  pub unlike-dead : (x : Term) → Memᴰ x t.terms → unlike_constants t S x ≡ true → ⊥
  unlike-dead x m e =
      let (a, ma, ea) = any_some (λ a. any (unlike x a) t.consts) t.consts e in
      let (b, mb, eb) = any_some (unlike x a) t.consts ea in
      two a b ma mb (and_left (same_class S x.term a.term) _ eb) (and_right (same_class S x.term a.term) _ eb)
    where
      valued : (c : Const) → Memᴰ c t.consts → same_class S x.term c.term ≡ true → val x.term ≡ number c.type c.value
      valued c k q = same-value x.term c.term (in_range_lem.terms x m).0 (in_range_lem.consts c k) (eqb-true _ _ q) ∙ const-value limits sup g ok ρ assigns c k

      two : (a b : Const) → Memᴰ a t.consts → Memᴰ b t.consts → same_class S x.term a.term ≡ true
          → (same_class S x.term b.term && not (eq_z a.value b.value)) ≡ true → ⊥
      two a b ma mb p q =
          let xa : val x.term ≡ number a.type a.value = valued a ma p in
          let xb : val x.term ≡ number b.type b.value = valued b mb (and_left (same_class S x.term b.term) _ q) in
          let z : a.value ≡ b.value = cc in
          false≢true (sym (not-true _ (and_right (same_class S x.term b.term) _ q)) ∙ eq_z_of a.value b.value z)

  -- the classes of the parts of a class have smaller values
  parts_smaller : (c : ℕ) → All (λ d. message_size (val d) < message_size (val c)) (parts_of S (builds_at t S) c)
  parts_smaller c =
      all-concat_map (λ b. when (eqb (class_of S b.term) c) (map (class_of S) b.parts)) (builds_at t S)
      (λ b m. all-when (eqb (class_of S b.term) c) (map (class_of S) b.parts) (λ e. all_map (class_of S) b.parts (λ p k. smaller b (all_mem fine b m) (eqb-true _ _ e) p k)))
    where
      sound : Sound t ls in_range_lem range (SameValue val) (NotVariant val) obey_rules obey_literals S
      sound = closure_sound t ls in_range_lem range (SameValue val) (NotVariant val) obey_rules obey_literals

      fine : All (Fine t ls in_range_lem range (SameValue val) (NotVariant val) obey_rules obey_literals S sound) (builds_at t S)
      fine = fine_all t ls in_range_lem range (SameValue val) (NotVariant val) obey_rules obey_literals S sound

      smaller : (b : Build) → Fine t ls in_range_lem range (SameValue val) (NotVariant val) obey_rules obey_literals S sound b → class_of S b.term ≡ c
          → (p : ℕ) → Memᴰ p b.parts → message_size (val (class_of S p)) < message_size (val c)
      smaller b f e p k =
          let low : message_size (val p) ≡ message_size (val (class_of S p)) = ap message_size (sound.class p (all_mem f.parts p k)) in
          let high : message_size (val b.term) ≡ message_size (val c) = ap message_size (sound.class b.term f.term ∙ ap val e) in
          let whole : message_size (val b.term) ≡ suc (part_sizes (to_parts (map val b.parts))) = ap message_size (build-value limits sup g ok ρ assigns b f.at) in
          omega (arith, size_mem (map val b.parts) (val p) (mem_map val k))

  -- "a class is a part of itself through built rows"
  pub inside-dead : (x : Term) → inside_itself S (builds_at t S) x ≡ true → ⊥
  inside-dead x e =
      let (d, k, q) = any_some (eqb c) (reached term_count S (builds_at t S) (union (parts_of S (builds_at t S) c) [])) e in
      let less : message_size (val d) < message_size (val c) = all_mem smaller d k in
      let z : message_size (val c) ≡ message_size (val d) = ap (λ (y : ℕ). message_size (val y)) (eqb-true c d q) in
      omega arith
    where
      c : ℕ
      c = class_of S x.term

      smaller : All (λ d. message_size (val d) < message_size (val c)) (reached term_count S (builds_at t S) (union (parts_of S (builds_at t S) c) []))
      smaller =
          reached-all S (builds_at t S) (λ d. message_size (val d) < message_size (val c)) (λ d h. all_weaken (λ y l. omega arith) (parts_smaller d)) term_count (union (parts_of S (builds_at t S) c) [])
          (all-union (parts_of S (builds_at t S) c) [] (parts_smaller c) none)

  -- "The node is closed if .."
  pub closed-dead : is_closed (table_of g) ls (closure_of (table_of g) ls) ≡ true → ⊥
  unfolding is_closed
  closed-dead e = first (or_cases (any (empty_label t S) t.terms) _ e)
    where
      third : (any (unlike_constants t S) t.terms ≡ true) ⊎ (any (inside_itself S (builds_at t S)) t.terms ≡ true) → ⊥
      third (inl q) = let (x, m, r) = any_some (unlike_constants t S) t.terms q in unlike-dead x m r
      third (inr q) = let (x, m, r) = any_some (inside_itself S (builds_at t S)) t.terms q in inside-dead x r

      second : (any (broken S) ls ≡ true) ⊎ ((any (unlike_constants t S) t.terms || any (inside_itself S (builds_at t S)) t.terms) ≡ true) → ⊥
      second (inl q) = let (l, m, r) = any_some (broken S) ls q in broken-dead l m r
      second (inr q) = third (or_cases (any (unlike_constants t S) t.terms) (any (inside_itself S (builds_at t S)) t.terms) q)

      first : (any (empty_label t S) t.terms ≡ true) ⊎ ((any (broken S) ls || (any (unlike_constants t S) t.terms || any (inside_itself S (builds_at t S)) t.terms)) ≡ true) → ⊥
      first (inl q) = let (x, m, r) = any_some (empty_label t S) t.terms q in empty-dead x m r
      first (inr q) = second (or_cases (any (broken S) ls) (any (unlike_constants t S) t.terms || any (inside_itself S (builds_at t S)) t.terms) q)
