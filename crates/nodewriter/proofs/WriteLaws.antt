-- What is written of a node, case by case: a closed one, an open one, and a split with what its children write. Assumes nothing.
use mathlib.Core.Path.{◌≡◌, refl, ap, ap₂, sym, ◌∙◌, subst}
use mathlib.Core.List.{List, [], ◌∷◌, ◌++◌, append-nil}
use mathlib.Core.Option as math
use Prim.Native.Nat.{ℕ, ◌-◌, ◌^◌}
use native.Mathlib.Omega.{arith}
use Rattle.std.specs.Prelude.{Option, Some, None}
use Rattle.laws.specs.Lists.{concat_map}
use Rattle.guard.specs.Closure.{Fact.within, State, add, closure_of, every_variant}
use Rattle.guard.specs.Guard.{Guard, Literal, Literal.is, Literal.isnt}
use Rattle.guard.specs.Node.{Split, split_of}
use Rattle.guard.specs.Terms.{Table, table_of}
use Rattle.guard.proofs.ClosureBelow.{InRange}
use Rattle.guard.proofs.NodeLaws.{split-is}
use Rattle.guard.proofs.TableLaws.{table_in_range}
use Rattle.models.proofs.Nodes.{NodeOf, is-node, isnt-node, root-node}
use Rattle.passes.specs.Pass.{Saturated}
use Rattle.arrays.specs.Arrays.{fieldless_of, reads_of, shapes_of, sorts_of}
use Rattle.saturation.specs.Due.{all_due}
use Rattle.splits.specs.Choice.{split_by}
use Rattle.instance.specs.declared.Instance.{Instance}
use Rattle.search.specs.Nodes.{Accepted, ArraysOf, Begun, NodeLiterals, NodeLiterals.at_is, NodeLiterals.at_isnt, NodeLiterals.at_root, StateFit}
use Rattle.search.proofs.ClosedState.{agreed, is_begun, isnt_begun, literals_in_lem, splits}
use Rattle.refutations.specs.Record.{Entry, bytes_of, closing, entries, of_node}
use Rattle.refutations.proofs.Depth.{entries_step}
use Rattle.closings.specs.declared.Closing.{Closing}
use Rattle.closings.specs.Closing.{entry_in, entry_of}
use Rattle.closings.proofs.ClosingLaws.{closing-named}
use Rattle.bytebuffer.specs.declared.Writer.{Writer}
use Rattle.bytebuffer.specs.Appends.{Appends}
use Rattle.bytebuffer.proofs.PutLaws.{and_then, nothing, same-bytes, still_full}
use Rattle.nodewriter.specs.Writes.{Writes}
use Rattle.nodewriter.proofs.EntryBytes.{Named, bytes-append, split-bytes}

module _ (g : Guard) (ok : Accepted g) where
  node_of : {ls : List Literal} → NodeLiterals g ls → NodeOf g ls
  node_of at_root = root-node g (literals_in_lem g ok at_root)
  node_of (at_is {ls = ls} n i v hi hv) = is-node g i v ls (literals_in_lem g ok (at_is n i v hi hv)) (node_of n)
  node_of (at_isnt {ls = ls} n i v hi hv) = isnt-node g i v ls (literals_in_lem g ok (at_isnt n i v hi hv)) (node_of n)

-- a node's closure, and what code names there
pub record Looked (i : Instance) (reads : List ℕ) (s s₁ : State) (c : Option Closing) : Type 0 where
  pub saturated : Saturated (all_due i.shapes.slots reads i.sorts.sorts i.sorts.fieldless) s s₁
  pub ready : StateFit s₁
  pub names : Named i s₁ c

module _ {i : Instance} {reads : List ℕ} {s s₁ : State} {c : Option Closing} (n : Looked i reads s s₁ c) where
  abbrev Gives : State → Writer → Option (Unit {0}) → Writer → Type 0
  Gives = Writes i reads

  module _ (g : Guard) (ls : List Literal) (ok : Accepted g) (arrays : ArraysOf g i reads) (begun : Begun g ls s) where
    abbrev t : Table
    t = table_of g

    abbrev lines : List Literal
    lines = g.literals

    abbrev S : State
    S = closure_of (table_of g) ls

    abbrev child : Literal → List Entry
    child l = entries (table_of g) g.literals (l ∷ ls)

    here : Saturated (all_due (shapes_of g) (reads_of g) (sorts_of g) (fieldless_of g)) s s₁
    here = rw (sym arrays.is_shapes, sym arrays.is_reads, sym arrays.is_sorts, sym arrays.is_fieldless) n.saturated

    range : InRange (table_of g)
    range = table_in_range ok.limits ok.supported g ok.well_formed

    is-closing : closing (table_of g) g.literals (closure_of (table_of g) ls) ≡ entry_of c
    is-closing =
        closing-named ok.limits ok.supported g ok.well_formed ok.total ls (node_of g ok begun.node) s₁ n.ready.small n.ready.held (agreed g ok ls s begun s₁ here) c
        (rw (sym arrays.is_shapes, sym arrays.is_sorts, sym arrays.is_full, sym arrays.is_constants, sym arrays.is_values, sym arrays.is_kinds, sym arrays.is_terms, sym arrays.is_others, sym arrays.is_many) n.names)

    step : (o : math.Option Entry) (d : math.Option Split) → closing t lines S ≡ o → split_of t S ≡ d → entries t lines ls ≡ of_node o d child
    step o d p q = entries_step t range lines ls (literals_in_lem g ok begun.node) ∙ ap₂ (λ (x : math.Option Entry) (y : math.Option Split). of_node x y child) p q

    is_choice : (o : math.Option Split) → split_by reads i.sorts.sorts i.sorts.fieldless s₁ ≡ o → split_of t S ≡ o
    is_choice o e = sym (splits g ok ls s begun s₁ here) ∙ rw (sym arrays.is_reads, sym arrays.is_sorts, sym arrays.is_fieldless) e

    closed-bytes : (k : Closing) → c ≡ Some k → bytes_of (entry_in k) ≡ concat_map bytes_of (entries (table_of g) g.literals ls)
    closed-bytes k e = sym (ap (concat_map bytes_of) (step (math.some (entry_in k)) (split_of t S) (is-closing ∙ ap entry_of e) refl) ∙ append-nil (bytes_of (entry_in k)))

    module _ (live : c ≡ None) where
      none_closes : closing t lines S ≡ math.none
      none_closes = is-closing ∙ ap entry_of live

      open_bytes : split_by reads i.sorts.sorts i.sorts.fieldless s₁ ≡ math.none → [] ≡ concat_map bytes_of (entries (table_of g) g.literals ls)
      open_bytes e = sym (ap (concat_map bytes_of) (step math.none math.none none_closes (is_choice math.none e)))

      split-node-bytes : (d : Split) → split_of t S ≡ math.some d
          → (4 ∷ d.term ∷ d.variant ∷ []) ++ (concat_map bytes_of (child (is d.term d.variant)) ++ concat_map bytes_of (child (isnt d.term d.variant))) ≡ concat_map bytes_of (entries (table_of g) g.literals ls)
      split-node-bytes d split? =
          let sp = split-is t range ls d split? in
          let inside = (range.terms (record { term = d.term; type = sp.type }) sp.term).0 in
          ap₂ (λ (xs ys : List ℕ). xs ++ ys) (sym (split-bytes d (omega (arith, inside)) (omega (arith, sp.variant)))) (sym (bytes-append (child (is d.term d.variant)) (child (isnt d.term d.variant))))
          ∙ sym (ap (concat_map bytes_of) (step math.none (math.some d) none_closes split?))

  module _ {w w₁ : Writer} where
    pub closed-node : (k : Closing) → c ≡ Some k → {bytes : List ℕ} → bytes_of (entry_in k) ≡ bytes → {r : Option (Unit {0})} → Appends bytes w r w₁ → Gives s w r w₁
    closed-node k e b p = record { puts = λ g ls ok arrays begun. same-bytes (sym b ∙ closed-bytes g ls ok arrays begun k e) p }

  module _ (live : c ≡ None) where
    pub open_node : split_by reads i.sorts.sorts i.sorts.fieldless s₁ ≡ math.none → (w : Writer) → Gives s w (Some tt) w
    open_node e w = record { puts = λ g ls ok arrays begun. same-bytes (open_bytes g ls ok arrays begun live e) (nothing w) }

    -- a split, by the numbers that code has for it
    module _ (d : Split) (chosen : split_by reads i.sorts.sorts i.sorts.fieldless s₁ ≡ math.some d) {term variant : ℕ} (is_term : term ≡ d.term) (is_variant : variant ≡ d.variant) where
      module _ (g : Guard) (ls : List Literal) (ok : Accepted g) (arrays : ArraysOf g i reads) (begun : Begun g ls s) where
        abbrev is_bytes : List ℕ
        is_bytes = concat_map bytes_of (entries (table_of g) g.literals (is d.term d.variant ∷ ls))

        abbrev isnt_bytes : List ℕ
        isnt_bytes = concat_map bytes_of (entries (table_of g) g.literals (isnt d.term d.variant ∷ ls))

        split? : split_of (table_of g) (closure_of (table_of g) ls) ≡ math.some d
        split? = is_choice g ls ok arrays begun (math.some d) chosen

        whole : (4 ∷ term ∷ variant ∷ []) ++ (is_bytes ++ isnt_bytes) ≡ concat_map bytes_of (entries (table_of g) g.literals ls)
        whole = ap₂ (λ (x y : ℕ). (4 ∷ x ∷ y ∷ []) ++ (is_bytes ++ isnt_bytes)) is_term is_variant ∙ split-node-bytes g ls ok arrays begun live d split?

      module _ {w w₁ : Writer} where
        pub entry_full : Appends (4 ∷ term ∷ variant ∷ []) w None w₁ → Gives s w None w₁
        entry_full entry =
            record { puts = λ g ls ok arrays begun. same-bytes (whole g ls ok arrays begun) (still_full (is_bytes g ls ok arrays begun ++ isnt_bytes g ls ok arrays begun) entry) }

        module _ (entry : Appends (4 ∷ term ∷ variant ∷ []) w (Some tt) w₁) {next : State} (is-next : next ≡ add s₁ (within d.term (2 ^ d.variant))) {w₂ : Writer} where
          first-puts : {r : Option (Unit {0})} → Gives next w₁ r w₂ → (g : Guard) (ls : List Literal) (ok : Accepted g) (arrays : ArraysOf g i reads) (begun : Begun g ls s) → Appends (is_bytes g ls ok arrays begun) w₁ r w₂
          first-puts first g ls ok arrays begun =
              first.puts g (is d.term d.variant ∷ ls) ok arrays (subst (Begun g (is d.term d.variant ∷ ls)) (sym is-next) (is_begun g ok ls s begun s₁ (here g ls ok arrays begun) d (split? g ls ok arrays begun)))

          pub first_full : Gives next w₁ None w₂ → Gives s w None w₂
          first_full first =
              record { puts = λ g ls ok arrays begun. same-bytes (whole g ls ok arrays begun) (and_then entry (still_full (isnt_bytes g ls ok arrays begun) (first-puts first g ls ok arrays begun))) }

          pub both_put : Gives next w₁ (Some tt) w₂ → {last : State} → last ≡ add s₁ (within d.term (every_variant - 2 ^ d.variant)) → {r : Option (Unit {0})} {w₃ : Writer} → Gives last w₂ r w₃ → Gives s w r w₃
          both_put first is_last second =
              record {
                puts = λ g ls ok arrays begun. same-bytes (whole g ls ok arrays begun) (and_then entry (and_then (first-puts first g ls ok arrays begun)
                    (second.puts g (isnt d.term d.variant ∷ ls) ok arrays (subst (Begun g (isnt d.term d.variant ∷ ls)) (sym is_last) (isnt_begun g ok ls s begun s₁ (here g ls ok arrays begun) d (split? g ls ok arrays begun))))));
              }
