-- `answer_search`: what the search finds is the answer; an open node has its messages drawn, else the buffers are cleared. Assumes nothing.
use Rattle.searchanswer.proofs.SearchAnswer.{answered_closed, answered_open, answered_spent, closed-within, open_tables, open_within}
use Rattle.searchanswer.proofs.answer_search.Goals as goal

pub overflow_sub-budget : goal.overflow_sub-budget
overflow_sub-budget c = let found = c.search_guard in open_within c.args.tables.now c.args.budget found.result found.ensures c.requires.guards_tables c.in-Open.state c.in-Open.t c.in-Open.is

pub answer_open-requires : goal.answer_open-requires
answer_open-requires c = let found = c.search_guard in
    record {
      open_tables = open_tables c.args.tables.now c.args.budget found.result found.ensures c.requires.guards_tables c.in-Open.state c.in-Open.t c.in-Open.is;
      problem_value = c.problem_of-problem.ensures;
      room_for = c.requires.room_for;
    }

pub overflow_sub-nodes : goal.overflow_sub-nodes
overflow_sub-nodes c = let found = c.search_guard in closed-within c.args.tables.now c.args.budget found.result found.ensures c.requires.guards_tables c.in-Closed.t c.in-Closed.is

pub returns-in-Open : goal.returns-in-Open
returns-in-Open c = let found = c.search_guard in
    let shown = c.answer_open in
    answered_open c.args.tables.now c.args.budget found.result found.ensures c.args.rows.now c.args.places.now shown.new.rows shown.new.places c.in-Open.t c.in-Open.state c.in-Open.is shown.result shown.ensures

pub returns-in-Closed : goal.returns-in-Closed
returns-in-Closed c = let found = c.search_guard in
    let clear = c.clear_both in
    answered_closed c.args.tables.now c.args.budget found.result found.ensures c.args.rows.now c.args.places.now clear.new.rows clear.new.places c.in-Closed.t clear.ensures.rows_after clear.ensures.places_after c.in-Closed.is

pub returns-in-Spent : goal.returns-in-Spent
returns-in-Spent c = let found = c.search_guard in
    let clear = c.clear_both-in-Spent in
    answered_spent c.args.tables.now c.args.budget found.result found.ensures c.args.rows.now c.args.places.now clear.new.rows clear.new.places c.in-Spent.t clear.ensures.rows_after clear.ensures.places_after c.in-Spent.is
