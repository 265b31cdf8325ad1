-- `answer_open`: what is drawn shows messages once the rest is cleared. Assumes nothing.
use Rattle.openanswer.proofs.OpenAnswer.{open_answered}
use Rattle.openanswer.proofs.answer_open.Goals as goal

pub returns : goal.returns
returns c = let a = c.args in
    let drawn = c.draw-n in
    open_answered a.tables.now a.state.now a.rows.now a.places.now drawn.result drawn.new.rows drawn.new.places drawn.ensures c.requires.open_tables c.requires.room_for (record { nodes = a.nodes; first = a.first; second = a.second })
    c.clear.new.numbers c.clear-2.new.numbers c.clear.ensures c.clear-2.ensures
