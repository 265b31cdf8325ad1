-- Type after type: what is left to read, after those that are read, is the whole, and the columns hold them. Assumes nothing.
use Prim.Native.Nat.{◌≤◌}
use Rattle.typereader.proofs.Readers.{SomeTypes}
use Rattle.typereader.proofs.read_types.Given as goal

abbrev pub invariant-loop-t : goal.invariant-loop-t
invariant-loop-t l = record {
  few : l.n.value ≤ 6;
  room : l.total ≤ 48;
  some : SomeTypes l.bytes l.n.at l.n.value l.t l.at l.total l.variants l.first l.arities l.sorts;
}
