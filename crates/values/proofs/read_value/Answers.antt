-- `read_value` meets its contract: the value read is a signed number of 64 bits, and stays what it is. Assumes nothing.
use Rattle.std.proofs.Common.{◌≡◌, ◌∙◌, ap, sym, ℕ, ◌-◌, ◌+◌, List, Bool, take, drop, arith, to_z, of_z, w64, ℤ}
use lib.Seq.{drop-drop}
use lib.ListN.{length-drop}
use mir.Facts.{to_z-of_z}
use Rattle.guard.specs.Number.{Parsed.accepted, and_then, return, unfold_signed, value_of_groups, well_formed, width64}
use Rattle.leb128.proofs.Count.{part-counted, unsigned-formed}
use Rattle.values.proofs.read_value.Goals as goal

-- the bytes counted, as a part of the slice
verdict : (bytes : List ℕ) (at count : ℕ) (b : Bool) → b ≡ well_formed width64 (take (at + count - at) (drop at bytes)) → well_formed width64 (take count (drop at bytes)) ≡ b
verdict bytes at count b e = ap (well_formed width64) (sym (part-counted bytes at count)) ∙ sym e

pub returns : goal.returns
returns c =
    let a = c.args in
    let n = c.byte_count-count in
    let e : to_z w64 (of_z w64 c.«unfold».result) ≡ c.«unfold».result = to_z-of_z {w = w64} (record { sfits = c.«unfold».type_inv }) in
    let v : c.«unfold».result ≡ unfold_signed (value_of_groups (take n.result (drop a.at a.bytes.now))) =
    c.«unfold».ensures ∙ ap unfold_signed (c.value_of.ensures ∙ ap value_of_groups (part-counted a.bytes.now a.at n.result)) in
    let formed = verdict a.bytes.now a.at n.result _ c.well_formed-2.ensures ∙ c.if-not-well_formed.false in
    let some : ¬ (n.result ≡ 0) = c.if-count-eq0.false in
    record {
      accepts =
          ap (and_then (λ m. return (unfold_signed m))) (unsigned-formed width64 (drop a.at a.bytes.now) n.result n.ensures some formed)
          ∙ ap (λ (z : ℤ). accepted z (drop n.result (drop a.at a.bytes.now))) (sym (e ∙ v))
          ∙ ap (accepted (to_z w64 (of_z w64 c.«unfold».result))) (drop-drop n.result a.at a.bytes.now);
      within = omega (arith, n.ensures.within, length-drop a.at a.bytes.now, some);
    }
