-- `draw_rows` meets its contract. Assumes nothing.
use Rattle.forms.specs.Forms.{types_in}
use Rattle.messages.proofs.RowLaws.{free-staged, most-is, most-small, rows-drawn}
use Rattle.messages.proofs.draw_rows.Goals as goal

pub free_rows-many-requires : goal.free_rows-many-requires
free_rows-many-requires c = let a = c.args in
    record {
      forms_fit = c.requires.forms_fit;
      free_fits = c.requires.free_fits;
      blank = c.requires.blank;
      most_value = most-is (types_in a.forms.now) a.leaf.now c.highest_rank-most.result c.highest_rank-most.ensures;
      enough = c.requires.enough;
    }

pub fixed_rows-requires : goal.fixed_rows-requires
fixed_rows-requires c = let a = c.args in
    let f = c.free_rows-many in
    let m = c.highest_rank-most in
    record {
      most_bound = most-small (types_in a.forms.now) a.leaf.now m.result m.ensures;
      staged = free-staged (types_in a.forms.now) a.leaf.now a.rows.now f.new.at f.new.rows f.result f.ensures c.requires.drawable;
    }

pub returns : goal.returns
returns c = let a = c.args in
    let f = c.free_rows-many in
    let m = c.highest_rank-most in
    let d = c.fixed_rows in
    rows-drawn (types_in a.forms.now) a.leaf.now a.rows.now f.new.at f.new.rows f.result f.ensures c.requires.drawable m.result m.ensures d.new.at d.new.rows d.result d.ensures
