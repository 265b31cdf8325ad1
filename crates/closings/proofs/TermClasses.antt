-- The name of a term's class is a term of the table: the rules make only terms equal. Assumes nothing.
use mathlib.Core.Path.{◌≡◌, refl, sym, subst}
use mathlib.Core.List.{List, [], ◌∷◌, Memᴰ}
use Prim.Native.Nat.{ℕ}
use native.Mathlib.Omega.{arith}
use Rattle.laws.specs.All.{All, All.more}
use Rattle.laws.proofs.Lists.{all_get_d}
use Rattle.guard.specs.Closure.{class_of, closure_of}
use Rattle.guard.specs.Guard.{Guard, Literal, Literal.equal, Row.field}
use Rattle.guard.specs.Limits.{Limits, Supported}
use Rattle.guard.specs.Rules.{AllSame, BuiltAt, BuiltAt.read, BuiltAt.row, ObeysLiterals, ObeysRules, Relation}
use Rattle.guard.specs.Terms.{Build, Read, Table, Term, table_of}
use Rattle.guard.specs.WellFormed.{LiteralFits, WellFormed}
use Rattle.guard.proofs.Agreement.{named_closure}
use Rattle.guard.proofs.ClosureBelow.{InRange}
use Rattle.guard.proofs.LeastClosure.{closure_least}
use Rattle.guard.proofs.TableLaws.{read_inv, row-fit, table_in_range, term-default, term-row}
use Rattle.models.proofs.Nodes.{NodeOf}
use Rattle.models.proofs.TypedTable.{BuildTyped, TableTyped, table-typed, term_type}

module _ (limits : Limits) (sup : Supported limits) (g : Guard) (ok : WellFormed limits g) where
  abbrev t : Table
  t = table_of g

  abbrev IsTerm : ℕ → Type 0
  IsTerm i = Memᴰ (record { term = i; type = term_type g i }) (table_of g).terms

  typed : TableTyped (table_of g) (term_type g)
  typed = table-typed limits sup g ok

  range : InRange (table_of g)
  range = table_in_range limits sup g ok

  number : (x : Term) → Memᴰ x (table_of g).terms → IsTerm x.term
  number x m = subst (λ (u : ℕ). Memᴰ (record { term = x.term; type = u }) (table_of g).terms) (sym (typed.terms x m)) m

  -- both are terms or neither is
  abbrev Both : Relation
  Both i j = (IsTerm i → IsTerm j) × (IsTerm j → IsTerm i)

  two : (i j : ℕ) → IsTerm i → IsTerm j → Both i j
  two i j p q = (λ _. q, λ _. p)

  each : (ps qs : List ℕ) → All IsTerm ps → All IsTerm qs → AllSame Both ps qs
  each [] qs a b = tt
  each (p ∷ ps) [] a b = tt
  each (p ∷ ps) (q ∷ qs) (more h hs) (more k ks) = (two p q h k, each ps qs hs ks)

  built-term : (Lacks : Relation) (b : Build) → BuiltAt t Lacks b → IsTerm b.term
  built-term Lacks b (row m) = number (record { term = b.term; type = b.type }) (range.build_terms b m)
  built-term Lacks b (read r m f e) = subst (λ (b : Build). IsTerm b.term) (sym e) (number (record { term = r.term; type = r.type }) (range.read_terms r m))

  built-typed : (Lacks : Relation) (b : Build) → BuiltAt t Lacks b → BuildTyped (table_of g) (term_type g) b
  built-typed Lacks b (row m) = typed.builds b m
  built-typed Lacks b (read r m f e) = subst (BuildTyped (table_of g) (term_type g)) (sym e) (typed.reads r m)

  read-row : (r : Read) → Memᴰ r (table_of g).reads → IsTerm r.row
  read-row = read_inv g (λ r. IsTerm r.row) (λ i u a v p h e. number _ (term-row g i h))

  read-absent : (r : Read) → Memᴰ r (table_of g).reads → IsTerm r.absent
  read-absent =
      read_inv g (λ r. IsTerm r.absent) (λ i u a v p h e. number _ (term-default g _ (all_get_d (ok.field_types u v) p 0 (row-fit limits sup g ok i (field u a v p) h e).3)))

  rules : ObeysRules (table_of g) Both (λ i v. Unit {0})
  rules =
      record {
        itself = λ i. (λ p. p, λ p. p);
        back = λ e. (e.1, e.0);
        through = λ e f. (λ p. f.0 (e.0 p), λ p. e.1 (f.1 p));
        constants = λ a b ma mb et ev. two _ _ (number _ (typed.const_terms a ma)) (number _ (typed.const_terms b mb));
        congruent = λ a b ba bb et ev ps. two _ _ (built-term _ a ba) (built-term _ b bb);
        parts = λ a b ba bb et ev e. each a.parts b.parts (built-typed _ a ba).part_terms (built-typed _ b bb).part_terms;
        reads = λ a b ma mb et ev ep e. two _ _ (read-row a ma) (read-row b mb);
        beyond = λ x v m h. tt;
        built = λ b m u hu n. tt;
        shared = λ e h. tt;
        single = λ a b v ma mb et m fa fb. two _ _ (number a ma) (number b mb);
        absent = λ r m h. two _ _ (read-row r m) (read-absent r m);
      }

  module _ (ls : List Literal) (nd : NodeOf g ls) where
    literals : ObeysLiterals ls Both (λ i v. Unit {0})
    literals =
        record {
          equal_literal = λ i j m. let f : LiteralFits g.types g.rows (equal i j) = ok.literals (equal i j) (nd.equalities i j m) in
              two i j (number _ (term-row g i f.0)) (number _ (term-row g j f.1));
          is_literal = λ i v m u hu n. tt;
          isnt_literal = λ i v m. tt;
        }

    pub class_term : (x : Term) → Memᴰ x (table_of g).terms → (y : Term) × Memᴰ y (table_of g).terms × (y.term ≡ class_of (closure_of (table_of g) ls) x.term)
    class_term x m =
        let c = class_of (closure_of t ls) x.term in
        let low = (named_closure t ls).low x.term in
        let inside = (range.terms x m).0 in
        let same = (closure_least t ls range nd.in_range).least_same Both (λ i v. Unit {0}) rules literals x.term c inside (omega (arith, low, inside)) (sym ((named_closure t ls).own x.term)) in
        (record { term = c; type = term_type g c }, same.0 (number x m), refl)
