-- `search_guard` meets its contract. Assumes nothing.
use Rattle.rootsearch.proofs.Finding.{closed_found, open_found, spent_found}
use Rattle.rootsearch.proofs.search_guard.Goals as goal

pub returns-in-Open : goal.returns-in-Open
returns-in-Open c = open_found c.args.tables.now c.args.budget c.root_of-root.result c.root_of-root.ensures c.visit.new.state c.in-Open.t c.visit.result c.in-Open.is c.visit.ensures.searches

pub returns-in-Closed : goal.returns-in-Closed
returns-in-Closed c = closed_found c.args.tables.now c.args.budget c.root_of-root.result c.root_of-root.ensures c.visit.new.state c.in-Closed.t c.visit.result c.in-Closed.is c.visit.ensures.searches

pub returns-in-Spent : goal.returns-in-Spent
returns-in-Spent c = spent_found c.args.tables.now c.args.budget c.root_of-root.result c.root_of-root.ensures c.visit.new.state c.in-Spent.t c.visit.result c.in-Spent.is c.visit.ensures.searches
