use Rattle.std.proofs.Common.{◌∙◌, Some, None, refl, sym, ap, rules}
use Rattle.abstract_unix.specs.Turn.{Settled}
use Rattle.unix_core.proofs.BoardLemmas.{settled_quiet, settled_as_chosen}
use Rattle.unix_core.proofs.settling.settle.Goals as goal

pub returns-then-not-gives_up-clause-board : goal.returns-then-not-gives_up-clause-board
returns-then-not-gives_up-clause-board g c k = sym (ap (λ (s : Settled). s.board) (settled_quiet c.args.table.now k (c.gives_up.ensures c.args.table.now refl refl ∙ c.if-not-gives_up.true)))

pub returns-then-not-gives_up-clause-items : goal.returns-then-not-gives_up-clause-items
returns-then-not-gives_up-clause-items g c k =
    rw (settled_quiet c.args.table.now k (c.gives_up.ensures c.args.table.now refl refl ∙ c.if-not-gives_up.true)) (search rules)

pub returns-in-Some-clause-board : goal.returns-in-Some-clause-board
returns-in-Some-clause-board g c k = sym (ap (λ (s : Settled). s.board)
    (settled_as_chosen c.args.table.now c.pick.new.self k (Some c.in-Some.s) (c.gives_up.ensures c.args.table.now refl refl ∙ c.if-not-gives_up.false) (sym c.in-Some.is ∙ c.pick.ensures.value) c.pick.ensures.table))

pub returns-in-Some-clause-items : goal.returns-in-Some-clause-items
returns-in-Some-clause-items g c k =
    rw (settled_as_chosen c.args.table.now c.pick.new.self k (Some c.in-Some.s) (c.gives_up.ensures c.args.table.now refl refl ∙ c.if-not-gives_up.false) (sym c.in-Some.is ∙ c.pick.ensures.value) c.pick.ensures.table)
    c.entry.ensures.took

pub returns-in-None-clause-board : goal.returns-in-None-clause-board
returns-in-None-clause-board g c k = sym (ap (λ (s : Settled). s.board)
    (settled_as_chosen c.args.table.now c.pick.new.self k None (c.gives_up.ensures c.args.table.now refl refl ∙ c.if-not-gives_up.false) (sym c.in-None.is ∙ c.pick.ensures.value) c.pick.ensures.table))

pub returns-in-None-clause-items : goal.returns-in-None-clause-items
returns-in-None-clause-items g c k =
    rw (settled_as_chosen c.args.table.now c.pick.new.self k None (c.gives_up.ensures c.args.table.now refl refl ∙ c.if-not-gives_up.false) (sym c.in-None.is ∙ c.pick.ensures.value) c.pick.ensures.table)
    c.entry-in-None.ensures.took
