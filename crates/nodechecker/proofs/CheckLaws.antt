-- What the check of a node gives, case by case: no byte left, no entry, a claim that holds or does not, and a split with its
-- children. Assumes nothing.
use mathlib.Core.Path.{◌≡◌, refl, ap, sym, ◌∙◌, subst}
use mathlib.Core.Bool.{Bool, true, false}
use mathlib.Core.List.{List, [], ◌∷◌}
use Prim.Native.Nat.{ℕ, ◌-◌, ◌^◌, ◌≤◌, ◌<◌}
use native.Mathlib.Omega.{arith}
use Rattle.std.proofs.Common.{Result, Ok, Err}
use lib.ListN.{length, drop, length-drop}
use Rattle.laws.proofs.Lists.{length-nil}
use Rattle.guard.specs.Closure.{Fact.within, State, add, closure_of}
use Rattle.guard.specs.Guard.{Guard, Literal, Literal.is, Literal.isnt}
use Rattle.guard.specs.Number.{Parsed, Parsed.accepted, Parsed.refused, Parser, ◌>>◌, and_then, ask}
use Rattle.guard.specs.Question.{number_of}
use Rattle.guard.specs.declared.Question.{Question}
use Rattle.guard.specs.declared.Question.TheVariants.{FalseEntry, RecordEnd}
use Rattle.guard.specs.Terms.{Table, table_of, term_count}
use Rattle.guard.proofs.Agreement.{named-reached}
use Rattle.guard.proofs.AnyOrder.{Reached, reached-small}
use Rattle.guard.proofs.ClosureBelow.{InRange}
use Rattle.guard.proofs.TableLaws.{literals_in_range_lem, table_in_range}
use Rattle.tables.specs.Layout.{literal_table}
use Rattle.numbers.specs.Reader.{Found}
use Rattle.classes.specs.Held.{Held}
use Rattle.passes.specs.Pass.{Saturated}
use Rattle.arrays.specs.Arrays.{fieldless_of, reads_of, shapes_of, sorts_of}
use Rattle.saturation.specs.Due.{all_due}
use Rattle.cycles.specs.Cycles.{Tells}
use Rattle.search.specs.Nodes.{Accepted, ArraysOf, Begun}
use Rattle.search.proofs.ClosedState.{agreed, arrived, is_begins, isnt_begins, literals_in_lem}
use Rattle.refutations.specs.Checker.{below, check_from, check_node, entry}
use Rattle.refutations.specs.Record.{Entry, Entry.split_on, claim}
use Rattle.refutations.proofs.Depth.{check_step}
use Rattle.splitclaims.specs.SplitClaims.{splits_by}
use Rattle.closings.specs.declared.Closing.{Closing}
use Rattle.closings.specs.declared.Closing.TheVariants.{BrokenLine, EmptyLabel, InsideItself, UnlikeConstants}
use Rattle.closings.specs.Closing.{entry_in}
use Rattle.instance.specs.declared.Instance.{Instance}
use Rattle.claims.specs.Claims.{ClosedBy}
use Rattle.refutations.proofs.ClaimsAgree.{claim-agrees}
use Rattle.claims.proofs.ClaimsSame.{closes_same, splits_same}
use Rattle.nodechecker.specs.Nodes.{Checks, Passes}
use Rattle.nodechecker.proofs.Children.{split-term, split-variant}

-- a node with a byte left begins with an entry
node-reads : (holds : Entry → Bool) (child : Literal → Parser (Unit {0})) (bs : List ℕ) → 0 < length bs → check_node holds child bs ≡ and_then (λ e. ask 12 (holds e) >> below child e) (entry bs)
node-reads holds child [] h = absurd (omega (arith, h))
node-reads holds child (b ∷ bs) h = refl

-- nothing follows a reason to close
nothing_below : (child : Literal → Parser (Unit {0})) (c : Closing) (bs : List ℕ) → below child (entry_in c) bs ≡ accepted tt bs
nothing_below child (EmptyLabel x) bs = refl
nothing_below child (BrokenLine j) bs = refl
nothing_below child (UnlikeConstants x) bs = refl
nothing_below child (InsideItself x) bs = refl

module _ (i : Instance) (reads bytes : List ℕ) where
  abbrev shapes : List ℕ
  shapes = i.shapes.slots

  abbrev sorts : List ℕ
  sorts = i.sorts.sorts

  abbrev fieldless : List ℕ
  fieldless = i.sorts.fieldless

  abbrev Gives : ℕ → State → Result ℕ Question → Type 0
  Gives = Checks i reads bytes

  abbrev Arrays : Guard → Type 0
  Arrays g = ArraysOf g i reads

  module _ (at : ℕ) (s : State) where
    module _ (g : Guard) (ls : List Literal) (ok : Accepted g) (arrays : Arrays g) (begun : Begun g ls s) where
      abbrev t : Table
      t = table_of g

      in_range_lem : InRange (table_of g)
      in_range_lem = table_in_range ok.limits ok.supported g ok.well_formed

      -- what the definitions claim, and how they go on
      abbrev holds : Entry → Bool
      holds = claim (table_of g) g.literals (closure_of (table_of g) ls)

      abbrev child : Literal → Parser (Unit {0})
      child l = check_from (table_of g) g.literals (l ∷ ls)

      abbrev whole : Parsed (Unit {0})
      whole = check_from (table_of g) g.literals ls (drop at bytes)

      step : whole ≡ check_node holds child (drop at bytes)
      step = check_step (table_of g) in_range_lem g.literals ls (literals_in_lem g ok begun.node) (drop at bytes)

    -- the record ends between nodes
    pub record-ends : length bytes ≤ at → Gives at s (Err RecordEnd)
    unfolding Checks
    record-ends h g ls ok arrays begun =
        step g ls ok arrays begun ∙ ap (check_node (holds g ls ok arrays begun) (child g ls ok arrays begun)) (length-nil (drop at bytes) (omega (arith, length-drop at bytes)))

    module _ (inside : at < length bytes) where
      module _ (g : Guard) (ls : List Literal) (ok : Accepted g) (arrays : Arrays g) (begun : Begun g ls s) where
        abbrev follow : Entry → Parser (Unit {0})
        follow x = ask 12 (holds g ls ok arrays begun x) >> below (child g ls ok arrays begun) x

        entered : whole g ls ok arrays begun ≡ and_then follow (entry (drop at bytes))
        entered = step g ls ok arrays begun ∙ node-reads (holds g ls ok arrays begun) (child g ls ok arrays begun) (drop at bytes) (omega (arith, length-drop at bytes))

      pub no-entry : (q : Question) → entry (drop at bytes) ≡ refused (number_of q) → Gives at s (Err q)
      unfolding Checks
      no-entry q e g ls ok arrays begun = entered g ls ok arrays begun ∙ ap (and_then (follow g ls ok arrays begun)) e

      module _ (s₁ : State) (sat : Saturated (all_due shapes reads sorts fieldless) s s₁) (held : Held s₁.classes) where
        module _ (g : Guard) (ls : List Literal) (ok : Accepted g) (arrays : Arrays g) (begun : Begun g ls s) where
          here : Saturated (all_due (shapes_of g) (reads_of g) (sorts_of g) (fieldless_of g)) s s₁
          here = rw (sym arrays.is_shapes, sym arrays.is_reads, sym arrays.is_sorts, sym arrays.is_fieldless) sat

          there : Reached (table_of g) ls 96 s₁
          there = arrived g ok ls s begun s₁ here.steps

          -- by what the claim is at the state that the code has
          asked : (found : Entry) (next : ℕ) → Found (entry (drop at bytes)) bytes found next → (b : Bool) → claim (table_of g) g.literals s₁ found ≡ b
              → whole g ls ok arrays begun ≡ (ask 12 b >> below (child g ls ok arrays begun) found) (drop next bytes)
          asked found next read b q =
              entered g ls ok arrays begun ∙ ap (and_then (follow g ls ok arrays begun)) read.accepts
              ∙ ap (λ (c : Bool). (ask 12 c >> below (child g ls ok arrays begun) found) (drop next bytes))
              (sym (claim-agrees (table_of g) (in_range_lem g ls ok arrays begun) s₁ (closure_of (table_of g) ls) (agreed g ok ls s begun s₁ here) g.literals (literals_in_range_lem ok.limits ok.supported g ok.well_formed) found) ∙ q)

        -- ---- reasons to close

        module _ (closing : Closing) (next : ℕ) (read : Found (entry (drop at bytes)) bytes (entry_in closing) next) (b : Bool)
            (tells : Tells (ClosedBy i.shapes.slots i.sorts.sorts i.sorts.full i.constants.sorts i.constants.values i.lines.kinds i.lines.terms i.lines.others i.lines.many s₁ closing) b) where
          claimed : (g : Guard) (ls : List Literal) (ok : Accepted g) (arrays : Arrays g) (begun : Begun g ls s) → b ≡ claim (table_of g) g.literals s₁ (entry_in closing)
          unfolding literal_table
          claimed g ls ok arrays begun =
              closes_same ok.limits ok.supported g ok.well_formed ok.total s₁ (reached-small (there g ls ok arrays begun)) held
              (λ i h. omega (arith, (named-reached (there g ls ok arrays begun)).low i)) closing b
              (rw (sym arrays.is_shapes, sym arrays.is_sorts, sym arrays.is_full, sym arrays.is_constants, sym arrays.is_values, sym arrays.is_kinds, sym arrays.is_terms, sym arrays.is_others, sym arrays.is_many) tells)

          pub closed : b ≡ true → Gives at s (Ok next)
          unfolding Checks
          closed q g ls ok arrays begun =
              record {
                accepts = asked g ls ok arrays begun (entry_in closing) next read true (sym (claimed g ls ok arrays begun) ∙ q) ∙ nothing_below (child g ls ok arrays begun) closing (drop next bytes);
                within = read.within;
              }

          pub not_closed : b ≡ false → Gives at s (Err FalseEntry)
          unfolding Checks
          not_closed q g ls ok arrays begun = asked g ls ok arrays begun (entry_in closing) next read false (sym (claimed g ls ok arrays begun) ∙ q)

        -- ---- splits

        module _ (x v next : ℕ) (read : Found (entry (drop at bytes)) bytes (split_on (record { term = x; variant = v })) next) where
          claimed_split : (g : Guard) (ls : List Literal) (ok : Accepted g) (arrays : Arrays g) (begun : Begun g ls s)
              → splits_by sorts s₁ x v ≡ claim (table_of g) g.literals s₁ (split_on (record { term = x; variant = v }))
          claimed_split g ls ok arrays begun =
              ap (λ (xs : List ℕ). splits_by xs s₁ x v) arrays.is_sorts
              ∙ splits_same ok.limits ok.supported g ok.well_formed ok.total s₁ (reached-small (there g ls ok arrays begun)) x v

          pub no-split : splits_by sorts s₁ x v ≡ false → Gives at s (Err FalseEntry)
          unfolding Checks
          no-split q g ls ok arrays begun = asked g ls ok arrays begun (split_on (record { term = x; variant = v })) next read false (sym (claimed_split g ls ok arrays begun) ∙ q)

          module _ (y : splits_by sorts s₁ x v ≡ true) (bit : ℕ) (b : bit ≡ 2 ^ v) (c₁ : State) (is_child : c₁ ≡ add s₁ (within x bit)) where
            module _ (g : Guard) (ls : List Literal) (ok : Accepted g) (arrays : Arrays g) (begun : Begun g ls s) where
              abbrev is_parser : Parser (Unit {0})
              is_parser = child g ls ok arrays begun (is x v)

              abbrev isnt_parser : Parser (Unit {0})
              isnt_parser = child g ls ok arrays begun (isnt x v)

              term : x < term_count
              term = split-term sorts s₁ x v y

              by_first : (r : Result ℕ Question) → Gives next c₁ r → Passes (is_parser (drop next bytes)) bytes r
              unfolding Checks
              by_first r first =
                  first g (is x v ∷ ls) ok arrays (subst (Begun g (is x v ∷ ls)) (sym (is_child ∙ ap (λ (m : ℕ). add s₁ (within x m)) b))
                  (is_begins g ok ls s begun s₁ (here g ls ok arrays begun).steps x v term (split-variant sorts s₁ x v y)))

              both : whole g ls ok arrays begun ≡ and_then (λ (u : Unit {0}). isnt_parser) (is_parser (drop next bytes))
              both = asked g ls ok arrays begun (split_on (record { term = x; variant = v })) next read true (sym (claimed_split g ls ok arrays begun) ∙ y)

            pub first-refused : (q : Question) → Gives next c₁ (Err q) → Gives at s (Err q)
            unfolding Checks
            first-refused q first g ls ok arrays begun =
                both g ls ok arrays begun ∙ ap (and_then (λ (u : Unit {0}). isnt_parser g ls ok arrays begun)) (by_first g ls ok arrays begun (Err q) first)

            pub second-tells : (at₁ : ℕ) → Gives next c₁ (Ok at₁) → (r₂ : Result ℕ Question) (c₂ : State) → Gives at₁ c₂ r₂ → c₂ ≡ add s₁ (within x (65535 - bit)) → Gives at s r₂
            unfolding Checks
            second-tells at₁ first r₂ c₂ second isnt_child g ls ok arrays begun =
                subst (λ (p : Parsed (Unit {0})). Passes p bytes r₂)
                (sym (both g ls ok arrays begun ∙ ap (and_then (λ (u : Unit {0}). isnt_parser g ls ok arrays begun)) (by_first g ls ok arrays begun (Ok at₁) first).accepts))
                (second g (isnt x v ∷ ls) ok arrays (subst (Begun g (isnt x v ∷ ls)) (sym (isnt_child ∙ ap (λ (m : ℕ). add s₁ (within x (65535 - m))) b))
                (isnt_begins g ok ls s begun s₁ (here g ls ok arrays begun).steps x v (term g ls ok arrays begun) (split-variant sorts s₁ x v y))))
