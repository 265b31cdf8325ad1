-- `row_masks` meets its contract. Invariant: the bits of the variants so far stand in both masks. Assumes nothing.
use mathlib.Core.Path.{◌≡◌, refl, ap, ◌∙◌}
use mathlib.Core.Bool.{cond, not}
use Prim.Native.Nat.{ℕ, ◌^◌, ◌<◌}
use lib.Dec.{eqb}
use native.Mathlib.Omega.{arith}
use Rattle.guard.specs.Guard.{Guard}
use Rattle.summaries.specs.InTables.{InTables, longer}
use Rattle.summaries.specs.Summary.{possible_by, settled_by, variant_count}
use Rattle.variantmasks.specs.Masks.{number_by}
use Rattle.variantmasks.proofs.RowLaws.{few-variants, mask_fits, mask_next}
use Rattle.variantmasks.proofs.row_masks.Goals as goal
use Rattle.variantmasks.proofs.row_masks.Goals.{After-bit_if-known, After-bit_if-there, In-loop-v}

pub loop-v-init : goal.loop-v-init
loop-v-init c = λ g held. (refl, refl)

-- a variant that the loop comes to is there, whatever guard the tables hold
below : (c : In-loop-v) (g : Guard) → let s = c.args in InTables longer s.types s.rows s.lines g → c.loop-v.v < variant_count g s.i
below c g held = omega (arith, c.variants_of-many.ensures.are longer c.args.lines g held)

small : (c : In-loop-v) → c.loop-v.v < 16
small c =
    omega (arith, below c c.requires.guard c.requires.held, few-variants c.requires.guard c.requires.held c.args.i)

pub number_of-n-requires : goal.number_of-n-requires
number_of-n-requires c = record { guard = c.requires.guard; held = c.requires.held; there = below c c.requires.guard c.requires.held }

pub bit_if-known-requires : goal.bit_if-known-requires
bit_if-known-requires c = small c.before

-- the bits of its number
known-bit : (c : After-bit_if-known) (g : Guard) → let s = c.args in InTables longer s.types s.rows s.lines g
    → c.bit_if-known.result ≡ cond (not (eqb (number_by s.budget g s.settled s.possible s.i c.loop-v.v) 3)) (2 ^ c.loop-v.v) 0
known-bit c g held =
    c.bit_if-known.ensures ∙ ap (λ (n : ℕ). cond (not (eqb n 3)) (2 ^ c.loop-v.v) 0) (c.number_of-n.ensures.is g held (below c.before.before g held))

there-bit : (c : After-bit_if-there) (g : Guard) → let s = c.args in InTables longer s.types s.rows s.lines g
    → c.bit_if-there.result ≡ cond (eqb (number_by s.budget g s.settled s.possible s.i c.loop-v.v) 1) (2 ^ c.loop-v.v) 0
there-bit c g held =
    c.bit_if-there.ensures ∙ ap (λ (n : ℕ). cond (eqb n 1) (2 ^ c.loop-v.v) 0) (c.number_of-n.ensures.is g held (below c.before.before.before g held))

pub overflow_add-known : goal.overflow_add-known
overflow_add-known c = let l = c.loop-v in
    let g = c.requires.guard in
    let held = c.requires.held in
    omega (arith, mask_fits (λ u. not (eqb (number_by c.args.budget g c.args.settled c.args.possible c.args.i u) 3)) l.known l.v c.bit_if-known.result (l.invariant g held).0 (small c.before.before) (known-bit c g held))

pub bit_if-there-requires : goal.bit_if-there-requires
bit_if-there-requires c = small c.before.before

pub overflow_add-there : goal.overflow_add-there
overflow_add-there c = let l = c.loop-v in
    let g = c.requires.guard in
    let held = c.requires.held in
    omega (arith, mask_fits (λ u. eqb (number_by c.args.budget g c.args.settled c.args.possible c.args.i u) 1) l.there l.v c.bit_if-there.result (l.invariant g held).1 (small c.before.before.before) (there-bit c g held))

pub loop-v-preserved : goal.loop-v-preserved
loop-v-preserved c = let l = c.loop-v in
    let s = c.args in
    let near = small c.before.before.before in
    λ g held. (
      mask_next (λ u. not (eqb (number_by s.budget g s.settled s.possible s.i u) 3)) l.known l.v c.bit_if-known.result (l.invariant g held).0 near (known-bit c.before g held),
      mask_next (λ u. eqb (number_by s.budget g s.settled s.possible s.i u) 1) l.there l.v c.bit_if-there.result (l.invariant g held).1 near (there-bit c g held),
    )

pub returns : goal.returns
returns c = let s = c.args in
    let l = c.loop-v in
    record {
      are = λ g held.
          let last : l.v ≡ variant_count g s.i = omega (arith, c.variants_of-many.ensures.are longer s.lines g held) in
          ((l.invariant g held).0 ∙ ap (settled_by (number_by s.budget g s.settled s.possible s.i)) last, (l.invariant g held).1 ∙ ap (possible_by (number_by s.budget g s.settled s.possible s.i)) last);
    }
