use Rattle.std.proofs.Common.{◌≡◌, ℕ, IsSome, Result, Ok, sym, ap, ◌∙◌, subst, rules}
use Rattle.v6_base.specs.declared.errno.Errno.{Errno}
use Rattle.fs_nodes.specs.Keys.{Stores, node_numbered}
use Rattle.fs_tree.specs.Finding.{inodes_of, find_in}
use Rattle.fs_tree.specs.Path.{found}
use Rattle.fs_tree.proofs.AloneLemmas.{find_alone}
use Rattle.fs_tree.proofs.MountLemmas.{crosses_of}
use Rattle.fs_tree.proofs.PathLemmas.{way_used, found_used}
use Rattle.fs_tree.proofs.tree.Tree.find.Goals as goal

pub take-requires-clause-node : goal.take-requires-clause-node
take-requires-clause-node g c =
    let fs = c.args.self.now.nodes in
    let w = way_used fs.store c.args.self.now.mounts (crosses_of fs.store c.args.self.now.mounts c.requires.mounts c.see_start.ensures.second) c.args.who c.args.dir c.args.name c.in_ok-way.way c.in_ok-way.ensures.result (c.see_start.ensures.start c.args.name) in
    let P : Stores → Type 0 = λ s. IsSome (node_numbered s c.in_ok-ino.ino) in
    subst P (sym (c.found.ensures.same.store ∙ c.walk.ensures.same.store))
    (found_used fs.store c.args.self.now.mounts (crosses_of fs.store c.args.self.now.mounts c.requires.mounts c.see_start.ensures.second) c.in_ok-way.way c.in_ok-ino.ino w (c.in_ok-ino.ensures.result ∙ ap (λ (s : Stores). found s c.args.self.now.mounts c.in_ok-way.way) c.walk.ensures.same.store))

pub returns-in_err-way-clause-alone : goal.returns-in_err-way-clause-alone
returns-in_err-way-clause-alone g c = λ on.
    let is : c.from_residual.result ≡ (find_in (inodes_of c.args.self.now.nodes) c.args.self.now.mounts c.args.who c.args.dir c.args.name).answer = search rules in
    is ∙ find_alone (inodes_of c.args.self.now.nodes) c.args.self.now.mounts c.requires.mounts c.args.who c.args.dir c.args.name on

pub returns-in_err-ino-clause-alone : goal.returns-in_err-ino-clause-alone
returns-in_err-ino-clause-alone g c = λ on.
    let is : c.from_residual-in_err-ino.result ≡ (find_in (inodes_of c.args.self.now.nodes) c.args.self.now.mounts c.args.who c.args.dir c.args.name).answer = search rules in
    is ∙ find_alone (inodes_of c.args.self.now.nodes) c.args.self.now.mounts c.requires.mounts c.args.who c.args.dir c.args.name on

pub returns-in_err-take-clause-alone : goal.returns-in_err-take-clause-alone
returns-in_err-take-clause-alone g c = λ on.
    let is : c.from_residual-in_err-take.result ≡ (find_in (inodes_of c.args.self.now.nodes) c.args.self.now.mounts c.args.who c.args.dir c.args.name).answer = search rules in
    is ∙ find_alone (inodes_of c.args.self.now.nodes) c.args.self.now.mounts c.requires.mounts c.args.who c.args.dir c.args.name on

pub returns-clause-alone : goal.returns-clause-alone
returns-clause-alone g c = λ on.
    let is : ◌≡◌ {A = Result ℕ Errno} (Ok c.in_ok-ino.ino) (find_in (inodes_of c.args.self.now.nodes) c.args.self.now.mounts c.args.who c.args.dir c.args.name).answer = search rules in
    is ∙ find_alone (inodes_of c.args.self.now.nodes) c.args.self.now.mounts c.requires.mounts c.args.who c.args.dir c.args.name on
