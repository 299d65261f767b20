use Rattle.proc_tab.proofs.SearchLemmas.{told_is, tells_by}
use Rattle.proc_tab.proofs.rows.Rows.child.Goals as goal

pub returns-clause-child : goal.returns-clause-child
returns-clause-child c =
    told_is c.args.self.now c.self.inside.slots c.self.inside.last_pid c.args.pid c.lowest_child.result c.lowest_dead_child.result c.told_by.result
    c.self.view_is c.lowest_child.ensures c.lowest_dead_child.ensures c.told_by.ensures

pub returns-clause-words : goal.returns-clause-words
returns-clause-words c =
    tells_by c.args.self.now.slots c.args.pid c.told_by.result (
    told_is c.args.self.now c.self.inside.slots c.self.inside.last_pid c.args.pid c.lowest_child.result c.lowest_dead_child.result c.told_by.result
    c.self.view_is c.lowest_child.ensures c.lowest_dead_child.ensures c.told_by.ensures)
