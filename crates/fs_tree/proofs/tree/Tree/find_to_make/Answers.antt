use Rattle.std.proofs.Common.{◌≡◌, IsSome, Result, Ok, sym, ap, ◌∙◌, subst, rules}
use Rattle.v6_base.specs.declared.errno.Errno.{Errno}
use Rattle.fs_nodes.specs.Keys.{Stores, node_numbered}
use Rattle.fs_tree.specs.Path.{to_make}
use Rattle.fs_tree.specs.declared.made.Made.{Made}
use Rattle.fs_tree.specs.Finding.{inodes_of, named_by_made, make_in}
use Rattle.fs_tree.proofs.AloneLemmas.{make_alone}
use Rattle.fs_tree.proofs.MountLemmas.{crosses_of}
use Rattle.fs_tree.proofs.PathLemmas.{way_used, made_used}
use Rattle.fs_tree.proofs.tree.Tree.find_to_make.Goals as goal

pub take-requires-clause-node : goal.take-requires-clause-node
take-requires-clause-node g c =
    let fs = c.args.self.now.nodes in
    let w = way_used fs.store c.args.self.now.mounts (crosses_of fs.store c.args.self.now.mounts c.requires.mounts c.see_start.ensures.second) c.args.who c.args.dir c.args.name c.in_ok-way.way c.in_ok-way.ensures.result (c.see_start.ensures.start c.args.name) in
    let P : Stores → Type 0 = λ s. IsSome (node_numbered s c.number.result) in
    let Q : Stores → Type 0 = λ s. IsSome (node_numbered s (named_by_made c.in_ok-made.made)) in
    let used = made_used fs.store c.args.self.now.mounts (crosses_of fs.store c.args.self.now.mounts c.requires.mounts c.see_start.ensures.second) c.args.self.now.marks c.in_ok-way.way c.in_ok-made.made w (c.in_ok-made.ensures.result ∙ ap (λ (s : Stores). to_make s c.args.self.now.mounts c.args.self.now.marks c.in_ok-way.way) c.walk.ensures.same.store) in
    subst (λ n. IsSome (node_numbered c.to_make.new.nodes.store n)) (sym c.number.ensures)
    (subst Q (sym (c.to_make.ensures.same.store ∙ c.walk.ensures.same.store)) used)

pub returns-in_err-way-clause-alone : goal.returns-in_err-way-clause-alone
returns-in_err-way-clause-alone g c = λ on.
    let is : c.from_residual.result ≡ (make_in (inodes_of c.args.self.now.nodes) c.args.self.now.mounts c.args.self.now.marks c.args.who c.args.dir c.args.name).answer = search rules in
    is ∙ make_alone (inodes_of c.args.self.now.nodes) c.args.self.now.mounts c.requires.mounts c.args.who c.args.dir c.args.name on c.args.self.now.marks

pub returns-in_err-made-clause-alone : goal.returns-in_err-made-clause-alone
returns-in_err-made-clause-alone g c = λ on.
    let is : c.from_residual-in_err-made.result ≡ (make_in (inodes_of c.args.self.now.nodes) c.args.self.now.mounts c.args.self.now.marks c.args.who c.args.dir c.args.name).answer = search rules in
    is ∙ make_alone (inodes_of c.args.self.now.nodes) c.args.self.now.mounts c.requires.mounts c.args.who c.args.dir c.args.name on c.args.self.now.marks

pub returns-in_err-take-clause-alone : goal.returns-in_err-take-clause-alone
returns-in_err-take-clause-alone g c = λ on.
    let is : c.from_residual-in_err-take.result ≡ (make_in (inodes_of c.args.self.now.nodes) c.args.self.now.mounts c.args.self.now.marks c.args.who c.args.dir c.args.name).answer = search rules in
    is ∙ make_alone (inodes_of c.args.self.now.nodes) c.args.self.now.mounts c.requires.mounts c.args.who c.args.dir c.args.name on c.args.self.now.marks

pub returns-clause-alone : goal.returns-clause-alone
returns-clause-alone g c = λ on.
    let is : ◌≡◌ {A = Result Made Errno} (Ok c.in_ok-made.made) (make_in (inodes_of c.args.self.now.nodes) c.args.self.now.mounts c.args.self.now.marks c.args.who c.args.dir c.args.name).answer = search rules in
    is ∙ make_alone (inodes_of c.args.self.now.nodes) c.args.self.now.mounts c.requires.mounts c.args.who c.args.dir c.args.name on c.args.self.now.marks
