-- `drawn_at` meets its contract. Assumes nothing.
use mathlib.Core.Path.{refl, sym, ◌∙◌}
use native.Mathlib.Numerals.{add-one}
use Rattle.rowstore.proofs.Numbers.{many-found, many_new}
use Rattle.drawnrows.proofs.drawn_at.Goals as goal

pub returns-then-r-many : goal.returns-then-r-many
returns-then-r-many c = record {
  row_value = refl;
  many_value = sym (many-found c.args.many c.args.r c.if-r-many.true);
}

pub returns : goal.returns
returns c = record {
  row_value = refl;
  many_value = add-one c.args.many ∙ sym (many_new c.args.many c.args.r c.if-r-many.false);
}
