-- A node of a guard: its literals, and the state after saturation, which agrees with the defined closure. So code closes
-- and splits where the definitions do. Assumes nothing.
use mathlib.Core.Path.{◌≡◌, refl, sym, ◌∙◌, subst}
use mathlib.Core.List.Memᴰ
use mathlib.Core.List.{List, [], ◌∷◌, ◌++◌, map, Memᴰ}
use mathlib.Core.Bool.{Bool, true, false, cond}
use mathlib.Core.Logic.{◌⊎◌, inl, inr, ⊎_elim}
use mathlib.Core.Option.{some}
use Prim.Native.Nat.{ℕ, ◌-◌, ◌^◌, ◌≤◌, ◌<◌}
use native.Mathlib.Omega.{arith}
use lib.ListN.{length}
use Rattle.laws.specs.All.{All}
use Rattle.laws.specs.Lists.{concat_map}
use Rattle.laws.proofs.Lists.{all_mem, all_of}
use Rattle.guard.specs.Closure.{Fact, Fact.within, LacksAt, State, add, all_variants, closure_of, consequences, constants, every_variant, given, holds, of_literal, one_variant, pairwise}
use Rattle.guard.specs.Guard.{Guard, Literal, Literal.is, Literal.isnt, Literal.unequal}
use Rattle.guard.specs.Limits.{variant_limit}
use Rattle.guard.specs.Node.{Kind, Split, is_closed, kind_of, split_of}
use Rattle.guard.specs.Terms.{Table, Term, table_of, term_count}
use Rattle.guard.specs.Types.{variants_of}
use borrow.Author.Tests.{lt-ltb}
use Rattle.guard.proofs.Agreement.{Agrees, closed-agrees, kind-agrees, named-reached, reached-agrees, reached-empty, split-agrees}
use Rattle.guard.proofs.AnyOrder.{Reached, Reached.by-given, Reached.by-rules, Reached.start, any_order, reached-small}
use Rattle.guard.proofs.ClosureBelow.{InRange, LiteralsInRange}
use Rattle.guard.proofs.ClosureState.{Says, Small, add_keeps, add-says, says-kept}
use Rattle.guard.proofs.NodeLaws.{SplitsAt, cons_in_range, split-is}
use Rattle.guard.proofs.TableLaws.{literals_in_range_lem, table_in_range}
use Rattle.tables.specs.Layout.{literal_table, row_table}
use Rattle.classes.specs.Held.{Held}
use Rattle.passes.specs.Pass.{Saturated, Steps}
use Rattle.passes.proofs.PassLaws.{steps_keep, steps_reach}
use Rattle.arrays.specs.Arrays.{constants_of, fieldless_of, full_of, reads_of, shapes_of, sorts_of}
use Rattle.saturation.specs.Due.{all_due}
use Rattle.saturation.proofs.Follows.{all_follow, nothing_new}
use Rattle.splits.specs.Choice.{first_by, split_by}
use Rattle.splits.proofs.SplitLaws.{first-same, split-same}
use Rattle.loops.specs.Lowest.{lowest}
use Rattle.reasons.specs.Reasons.{empty_at}
use Rattle.reasons.proofs.ReasonLaws.{empty-same}
use Rattle.nodes.specs.Closed.{closed_by}
use Rattle.nodes.proofs.NodeLaws.{closed_same}
use Rattle.tallies.specs.Outcome.{kind_by}
use Rattle.search.specs.Nodes.{Accepted, Begun, NodeLiterals, NodeLiterals.at_is, NodeLiterals.at_isnt, NodeLiterals.at_root}

-- ---- the literals of a node

module _ (g : Guard) (ok : Accepted g) where
  pub literals_in_lem : {ls : List Literal} → NodeLiterals g ls → LiteralsInRange ls
  literals_in_lem at_root = literals_in_range_lem ok.limits ok.supported g ok.well_formed
  literals_in_lem (at_is {ls = ls} n i v hi hv) = cons_in_range (is i v) ls (hi, hv) (literals_in_lem n)
  literals_in_lem (at_isnt {ls = ls} n i v hi hv) = cons_in_range (isnt i v) ls (hi, hv) (literals_in_lem n)

  in_range_lem : InRange (table_of g)
  in_range_lem = table_in_range ok.limits ok.supported g ok.well_formed

-- decisions are not unequal lines
not_is : {i v j k : ℕ} → unequal j k ≡ is i v → ⊥
not_is e = let z : ◌≡◌ {A = ℕ} 0 1 = cc in absurd (omega arith)

not_isnt : {i v j k : ℕ} → unequal j k ≡ isnt i v → ⊥
not_isnt e = let z : ◌≡◌ {A = ℕ} 0 1 = cc in absurd (omega arith)

pub unequal-given : {g : Guard} {ls : List Literal} → NodeLiterals g ls → (i j : ℕ) → Memᴰ (unequal i j) ls → Memᴰ (unequal i j) g.literals
unequal-given at_root i j m = m
unequal-given (at_is n k v hi hv) i j (Memᴰ.head e) = absurd (not_is e)
unequal-given (at_is n k v hi hv) i j (Memᴰ.tail m) = unequal-given n i j m
unequal-given (at_isnt n k v hi hv) i j (Memᴰ.head e) = absurd (not_isnt e)
unequal-given (at_isnt n k v hi hv) i j (Memᴰ.tail m) = unequal-given n i j m

pub unequal-kept : {g : Guard} {ls : List Literal} → NodeLiterals g ls → (i j : ℕ) → Memᴰ (unequal i j) g.literals → Memᴰ (unequal i j) ls
unequal-kept at_root i j m = m
unequal-kept (at_is n k v hi hv) i j m = Memᴰ.tail (unequal-kept n i j m)
unequal-kept (at_isnt n k v hi hv) i j m = Memᴰ.tail (unequal-kept n i j m)

-- ---- one literal more

-- what is given by the table alone
abbrev front : Table → List Fact
front t = map (all_variants t.types) t.terms ++ map one_variant t.builds ++ pairwise constants t.consts

module _ (t : Table) (ls : List Literal) (l : Literal) where
  more_given : (f : Fact) → Memᴰ f (given t ls) → Memᴰ f (given t (l ∷ ls))
  more_given f m = ⊎_elim (λ p. Memᴰ.append_left (concat_map of_literal (l ∷ ls)) p) (λ p. Memᴰ.append_right (front t) (Memᴰ.append_right (of_literal l) p)) (Memᴰ.append_cases (front t) m)

  now_given : (f : Fact) → Memᴰ f (of_literal l) → Memᴰ f (given t (l ∷ ls))
  now_given f m = Memᴰ.append_right (front t) (Memᴰ.append_left (concat_map of_literal ls) m)

  fewer_given : (f : Fact) → Memᴰ f (given t (l ∷ ls)) → Memᴰ f (given t ls) ⊎ Memᴰ f (of_literal l)
  fewer_given f m =
      ⊎_elim (λ p. inl (Memᴰ.append_left (concat_map of_literal ls) p))
      (λ p. ⊎_elim (λ q. inr q) (λ q. inl (Memᴰ.append_right (front t) q)) (Memᴰ.append_cases (of_literal l) p)) (Memᴰ.append_cases (front t) m)

  reached-more : {room : ℕ} {s : State} → Reached t ls room s → Reached t (l ∷ ls) room s
  reached-more start = start
  reached-more (by-given r f m) = by-given (reached-more r) f (more_given f m)
  reached-more (by-rules r f m) = by-rules (reached-more r) f m

  -- the state with the literal's own fact, where it is one
  says-more : (s : State) (f : Fact) → of_literal l ≡ f ∷ [] → All (Says s) (given t ls) → All (Says (add s f)) (given t (l ∷ ls))
  says-more s f e a =
      all_of (given t (l ∷ ls)) (λ h m. ⊎_elim (λ p. says-kept (add_keeps s f) h (all_mem a h p)) (λ p. one h (subst (Memᴰ h) e p)) (fewer_given h m))
    where
      one : (h : Fact) → Memᴰ h (f ∷ []) → Says (add s f) h
      one h (Memᴰ.tail x4) = elim x4 [ ]
      one h (Memᴰ.head q) = subst (Says (add s f)) (sym q) (add-says s f)

  reached-next : {room : ℕ} {s : State} (f : Fact) → of_literal l ≡ f ∷ [] → Reached t ls room s → Reached t (l ∷ ls) room (add s f)
  reached-next f e r = by-given (reached-more r) f (now_given f (subst (Memᴰ f) (sym e) (Memᴰ.head refl)))

-- ---- on the way of saturation

module _ (g : Guard) (ok : Accepted g) (ls : List Literal) (s : State) (begun : Begun g ls s) (s' : State)
    (steps : Steps (all_due (shapes_of g) (reads_of g) (sorts_of g) (fieldless_of g)) s s') where
  pub arrived : Reached (table_of g) ls 96 s'
  arrived =
      steps_reach (table_of g) ls 96 (λ x r f m. all_follow ok.limits ok.supported g ok.well_formed ok.total x (reached-small r) f m) steps begun.reached

  range : LiteralsInRange ls
  range = literals_in_lem g ok begun.node

  still_says : All (Says s') (given (table_of g) ls)
  still_says = all_of (given (table_of g) ls) (λ f m. says-kept (steps_keep steps) f (all_mem begun.says f m))

  -- an empty label closes the node
  pub closes_early : lowest (empty_at (sorts_of g) (full_of g) s') 78 < 78 → is_closed (table_of g) ls (closure_of (table_of g) ls) ≡ true
  closes_early h =
      reached-empty (table_of g) ls (in_range_lem g ok) range 96 (omega arith) s' arrived
      (sym (empty-same ok.limits ok.supported g ok.well_formed ok.total s') ∙ lt-ltb _ 78 h)

  -- a child begins with one decision more
  begins : (l : Literal) (f : Fact) → of_literal l ≡ f ∷ [] → NodeLiterals g (l ∷ ls) → Begun g (l ∷ ls) (add s' f)
  begins l f e node = record { node = node; reached = reached-next (table_of g) ls l f e arrived; says = says-more (table_of g) ls l s' f e still_says }

  module _ (i v : ℕ) (hi : i < term_count) (hv : v < variant_limit) where
    pub is_begins : Begun g (is i v ∷ ls) (add s' (within i (2 ^ v)))
    is_begins = begins (is i v) (within i (2 ^ v)) refl (at_is begun.node i v hi hv)

    pub isnt_begins : Begun g (isnt i v ∷ ls) (add s' (within i (every_variant - 2 ^ v)))
    isnt_begins = begins (isnt i v) (within i (every_variant - 2 ^ v)) refl (at_isnt begun.node i v hi hv)

-- ---- after saturation

module _ (g : Guard) (ok : Accepted g) (ls : List Literal) (s : State) (begun : Begun g ls s) (s' : State)
    (sat : Saturated (all_due (shapes_of g) (reads_of g) (sorts_of g) (fieldless_of g)) s s') where
  here : Reached (table_of g) ls 96 s'
  here = arrived g ok ls s begun s' sat.steps

  small : Small s'
  small = reached-small here

  says : All (Says s') (given (table_of g) ls)
  says = still_says g ok ls s begun s' sat.steps

  quiet : All (λ f. holds s' f ≡ true) (consequences (table_of g) s')
  quiet = nothing_new ok.limits ok.supported g ok.well_formed ok.total s' small sat.quiet

  in_range-here : LiteralsInRange ls
  in_range-here = literals_in_lem g ok begun.node

  pub agreed : Agrees s' (closure_of (table_of g) ls)
  agreed = reached-agrees (table_of g) ls (in_range_lem g ok) in_range-here 96 (omega arith) s' here says quiet

  beyond : (x : Term) → Memᴰ x (table_of g).terms → (v : ℕ) → length (variants_of (table_of g).types x.type) ≤ v → LacksAt s' x.term v
  beyond x m v h = (any_order (table_of g) ls (in_range_lem g ok) in_range-here 96 (omega arith) s' here says quiet).rules.beyond x v m h

  pub closes : Held s'.classes → closed_by (shapes_of g) (sorts_of g) (full_of g) (constants_of g) (row_table g.types g.rows).values (literal_table g.literals).kinds (literal_table g.literals).terms (literal_table g.literals).others (literal_table g.literals).many s'
      ≡ is_closed (table_of g) ls (closure_of (table_of g) ls)
  closes held =
      closed_same ok.limits ok.supported g ok.well_formed ok.total s' small held (λ i h. omega (arith, (named-reached here).low i)) ls (unequal-given begun.node) (unequal-kept begun.node)
      ∙ closed-agrees (table_of g) ls (in_range_lem g ok) in_range-here s' (closure_of (table_of g) ls) agreed

  pub splits : split_by (reads_of g) (sorts_of g) (fieldless_of g) s' ≡ split_of (table_of g) (closure_of (table_of g) ls)
  splits =
      split-same ok.limits ok.supported g ok.well_formed ok.total s' small beyond
      ∙ split-agrees (table_of g) (in_range_lem g ok) s' (closure_of (table_of g) ls) agreed

  pub kinds-same : kind_by (first_by (reads_of g) s') ≡ kind_of (table_of g) (closure_of (table_of g) ls)
  kinds-same =
      by_cond (first_by (reads_of g) s') ∙ first-same ok.limits ok.supported g ok.well_formed ok.total s' small beyond
      ∙ kind-agrees (table_of g) (in_range_lem g ok) s' (closure_of (table_of g) ls) agreed
    where
      by_cond : (b : Bool) → kind_by b ≡ cond b Kind.first Kind.second
      by_cond true = refl
      by_cond false = refl

  -- ---- the children begin with one decision more

  module _ (d : Split) (e : split_of (table_of g) (closure_of (table_of g) ls) ≡ some d) where
    at : SplitsAt (table_of g) (closure_of (table_of g) ls) d
    at = split-is (table_of g) (in_range_lem g ok) ls d e

    inside : d.term < term_count
    inside = ((in_range_lem g ok).terms (record { term = d.term; type = at.type }) at.term).0

    pub is_begun : Begun g (is d.term d.variant ∷ ls) (add s' (within d.term (2 ^ d.variant)))
    is_begun = is_begins g ok ls s begun s' sat.steps d.term d.variant inside at.variant

    pub isnt_begun : Begun g (isnt d.term d.variant ∷ ls) (add s' (within d.term (every_variant - 2 ^ d.variant)))
    isnt_begun = isnt_begins g ok ls s begun s' sat.steps d.term d.variant inside at.variant
