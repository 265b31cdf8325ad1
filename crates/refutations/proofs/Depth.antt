-- The depth given to the record and to the checker always suffices, since the total of the label sizes falls at each split. So
-- what a node gives follows from what its children give, whatever the depth. Assumes nothing.
use mathlib.Core.Path.{◌≡◌, refl, ap, ap₂, sym, ◌∙◌, fun_ext}
use mathlib.Core.Bool.{Bool, true, false}
use mathlib.Core.List.{List, [], ◌∷◌, ◌++◌}
use mathlib.Core.Option.{Option, none, some}
use Prim.Native.Nat.{ℕ, zero, suc, ◌<◌}
use native.Mathlib.Omega.{arith}
use lib.Dec.{ltb}
use borrow.Author.Tests.{ltb-false, ltb-true}
use Rattle.laws.proofs.Bools.{by_test}
use Rattle.guard.specs.Closure.{closure_of}
use Rattle.guard.specs.Guard.{Literal, Literal.is, Literal.isnt}
use Rattle.guard.specs.Node.{Split, split_of}
use Rattle.guard.specs.Number.{Parsed, Parsed.accepted, Parsed.refused, Parser, ◌>>◌, and_then, ask}
use Rattle.guard.specs.Search.{label_total}
use Rattle.guard.specs.Terms.{Table}
use Rattle.guard.proofs.ClosureBelow.{InRange, LiteralsInRange}
use Rattle.guard.proofs.NodeLaws.{SplitsAt, is-falls, is_in_range, isnt-falls, isnt_in_range, split-is}
use Rattle.refutations.specs.Checker.{below, check_from, check_node, check_to, entry}
use Rattle.refutations.specs.Record.{Entry, Entry.empty, Entry.inside, Entry.split_on, Entry.unequal_line, Entry.unlike, claim, closing, entries, entries_to, of_node}
use Rattle.refutations.proofs.ClaimLaws.{split_claimed}

-- what one step deeper leaves as it is, any depth does
deep_enough : {A : Type 0} (f : ℕ → A) (d : ℕ) → ((k : ℕ) → d < k → f k ≡ f (suc k)) → (k : ℕ) → d < k → f k ≡ f (suc d)
deep_enough f d step zero h = absurd (omega arith)
deep_enough f d step (suc k) h = by_test (ltb d k) (λ l. sym (step k (ltb-true d k l)) ∙ deep_enough f d step k (ltb-true d k l)) (λ l. let e : suc k ≡ suc d = omega (arith, ltb-false d k l) in ap f e)

-- two ways to go on that agree on both children of each split
Agree : {A : Type 0} → (Literal → A) → (Literal → A) → Split → Type 0
Agree c c' d = (c (is d.term d.variant) ≡ c' (is d.term d.variant)) × (c (isnt d.term d.variant) ≡ c' (isnt d.term d.variant))

of_node-same : (e : Option Entry) (d : Option Split) (c c' : Literal → List Entry) → ((s : Split) → d ≡ some s → Agree c c' s) → of_node e d c ≡ of_node e d c'
unfolding Agree
of_node-same (some e) d c c' h = refl
of_node-same none none c c' h = refl
of_node-same none (some s) c c' h = ap₂ (λ (xs ys : List Entry). split_on s ∷ (xs ++ ys)) (h s refl).0 (h s refl).1

node-same : (holds : Entry → Bool) (c c' : Literal → Parser (Unit {0})) → ((d : Split) → holds (split_on d) ≡ true → Agree c c' d) → (bs : List ℕ) → check_node holds c bs ≡ check_node holds c' bs
unfolding Agree
node-same holds c c' h [] = refl
node-same holds c c' h (b ∷ bs) = read (entry (b ∷ bs))
  where
    follow : (e : Entry) → holds e ≡ true → below c e ≡ below c' e
    follow (empty i) q = refl
    follow (unequal_line j) q = refl
    follow (unlike i) q = refl
    follow (inside i) q = refl
    follow (split_on d) q = ap₂ (λ (x y : Parser (Unit {0})). x >> y) (h d q).0 (h d q).1

    asked : (e : Entry) (y : Bool) → holds e ≡ y → (rest : List ℕ) → (ask 12 y >> below c e) rest ≡ (ask 12 y >> below c' e) rest
    asked e true q rest = ap (λ (p : Parser (Unit {0})). p rest) (follow e q)
    asked e false q rest = refl

    read : (p : Parsed Entry) → and_then (λ e. ask 12 (holds e) >> below c e) p ≡ and_then (λ e. ask 12 (holds e) >> below c' e) p
    read (refused q) = refl
    read (accepted e rest) = asked e (holds e) refl rest

module _ (t : Table) (range : InRange t) (lines : List Literal) where
  total : List Literal → ℕ
  total ls = label_total t (closure_of t ls)

  -- what agrees on all children with a lower total agrees on those of a split
  Lower : {A : Type 0} → List Literal → (Literal → A) → (Literal → A) → Type 0
  Lower ls c c' = (l : Literal) → LiteralsInRange (l ∷ ls) → total (l ∷ ls) < total ls → c l ≡ c' l

  agree : {A : Type 0} (ls : List Literal) → LiteralsInRange ls → (c c' : Literal → A) → Lower ls c c' → (d : Split) → SplitsAt t (closure_of t ls) d → Agree c c' d
  unfolding Agree Lower total
  agree ls r c c' h d sp = (
    h (is d.term d.variant) (is_in_range t range ls r d sp) (is-falls t range ls r d sp),
    h (isnt d.term d.variant) (isnt_in_range t range ls r d sp) (isnt-falls t range ls r d sp),
  )

  -- ---- the record

  entries-same : (ls : List Literal) → LiteralsInRange ls → (c c' : Literal → List Entry) → Lower ls c c'
      → of_node (closing t lines (closure_of t ls)) (split_of t (closure_of t ls)) c ≡ of_node (closing t lines (closure_of t ls)) (split_of t (closure_of t ls)) c'
  entries-same ls r c c' h = of_node-same (closing t lines (closure_of t ls)) (split_of t (closure_of t ls)) c c' (λ d q. agree ls r c c' h d (split-is t range ls d q))

  entries_deeper : (k : ℕ) (ls : List Literal) → LiteralsInRange ls → total ls < k → entries_to k t lines ls ≡ entries_to (suc k) t lines ls
  unfolding entries_to Lower
  entries_deeper zero ls r h = absurd (omega arith)
  entries_deeper (suc k) ls r h = entries-same ls r (λ l. entries_to k t lines (l ∷ ls)) (λ l. entries_to (suc k) t lines (l ∷ ls)) (λ l rl f. entries_deeper k (l ∷ ls) rl (omega arith))

  pub entries_suffice : (k : ℕ) (ls : List Literal) → LiteralsInRange ls → label_total t (closure_of t ls) < k → entries_to k t lines ls ≡ entries t lines ls
  unfolding entries total
  entries_suffice k ls r h = deep_enough (λ j. entries_to j t lines ls) (total ls) (λ j l. entries_deeper j ls r l) k h

  -- a node's entries, from its children's
  pub entries_step : (ls : List Literal) → LiteralsInRange ls → entries t lines ls ≡ of_node (closing t lines (closure_of t ls)) (split_of t (closure_of t ls)) (λ l. entries t lines (l ∷ ls))
  unfolding entries entries_to total Lower
  entries_step ls r = entries-same ls r (λ l. entries_to (total ls) t lines (l ∷ ls)) (λ l. entries t lines (l ∷ ls)) (λ l rl f. entries_suffice (total ls) (l ∷ ls) rl f)

  -- ---- the checker

  check-same : (ls : List Literal) → LiteralsInRange ls → (c c' : Literal → Parser (Unit {0})) → Lower ls c c'
      → (bs : List ℕ) → check_node (claim t lines (closure_of t ls)) c bs ≡ check_node (claim t lines (closure_of t ls)) c' bs
  check-same ls r c c' h = node-same (claim t lines (closure_of t ls)) c c' (λ d q. agree ls r c c' h d (split_claimed t lines ls d q))

  check_deeper : (k : ℕ) (ls : List Literal) → LiteralsInRange ls → total ls < k → check_to k t lines ls ≡ check_to (suc k) t lines ls
  unfolding check_to Lower
  check_deeper zero ls r h = absurd (omega arith)
  check_deeper (suc k) ls r h = fun_ext (check-same ls r (λ l. check_to k t lines (l ∷ ls)) (λ l. check_to (suc k) t lines (l ∷ ls)) (λ l rl f. check_deeper k (l ∷ ls) rl (omega arith)))

  pub check_suffices : (k : ℕ) (ls : List Literal) → LiteralsInRange ls → label_total t (closure_of t ls) < k → check_to k t lines ls ≡ check_from t lines ls
  unfolding check_from total
  check_suffices k ls r h = deep_enough (λ j. check_to j t lines ls) (total ls) (λ j l. check_deeper j ls r l) k h

  -- a node's check, from its children's
  pub check_step : (ls : List Literal) → LiteralsInRange ls → (bs : List ℕ) → check_from t lines ls bs ≡ check_node (claim t lines (closure_of t ls)) (λ l. check_from t lines (l ∷ ls)) bs
  unfolding check_from check_to total Lower
  check_step ls r = check-same ls r (λ l. check_to (total ls) t lines (l ∷ ls)) (λ l. check_from t lines (l ∷ ls)) (λ l rl f. check_suffices (total ls) (l ∷ ls) rl f)
