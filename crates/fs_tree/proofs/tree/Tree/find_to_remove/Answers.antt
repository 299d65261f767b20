use Rattle.std.proofs.Common.{◌≡◌, ℕ, IsSome, Result, Ok, sym, ap, ◌∙◌, subst, rules}
use Rattle.v6_base.specs.Access.{then_do}
use Rattle.v6_base.specs.declared.errno.Errno.{Errno}
use Rattle.fs_nodes.specs.Keys.{Stores, node_numbered}
use Rattle.fs_tree.specs.declared.walk.Way.{Way}
use Rattle.fs_tree.specs.Finding.{Inodes, inodes_of, referring_both, removing, remove_in}
use Rattle.fs_tree.specs.Path.{way, to_remove}
use Rattle.fs_tree.proofs.AloneLemmas.{remove_alone}
use Rattle.fs_tree.proofs.MountLemmas.{crosses_of}
use Rattle.fs_tree.proofs.OtherDisk.{removing_apart}
use Rattle.fs_tree.proofs.PathLemmas.{way_used, removed_used}
use Rattle.fs_tree.proofs.tree.Tree.find_to_remove.Goals as goal

pub take_both-requires-clause-dir : goal.take_both-requires-clause-dir
take_both-requires-clause-dir g c =
    let fs = c.args.self.now.nodes in
    let w = way_used fs.store c.args.self.now.mounts (crosses_of fs.store c.args.self.now.mounts c.requires.mounts c.see_start.ensures.second) c.args.who c.args.dir c.args.name c.in_ok-way.way c.in_ok-way.ensures.result (c.see_start.ensures.start c.args.name) in
    let P : Stores → Type 0 = λ s. IsSome (node_numbered s c.in_ok-entry.entry.0) in
    subst P (sym (c.to_remove.ensures.same.store ∙ c.walk.ensures.same.store))
    (removed_used fs.store c.args.self.now.mounts c.args.self.now.marks c.in_ok-way.way c.in_ok-entry.entry w (c.in_ok-entry.ensures.result ∙ ap (λ (s : Stores). to_remove s c.args.self.now.mounts c.args.self.now.marks c.in_ok-way.way) c.walk.ensures.same.store)).0

pub take_both-requires-clause-node : goal.take_both-requires-clause-node
take_both-requires-clause-node g c =
    let fs = c.args.self.now.nodes in
    let w = way_used fs.store c.args.self.now.mounts (crosses_of fs.store c.args.self.now.mounts c.requires.mounts c.see_start.ensures.second) c.args.who c.args.dir c.args.name c.in_ok-way.way c.in_ok-way.ensures.result (c.see_start.ensures.start c.args.name) in
    let P : Stores → Type 0 = λ s. IsSome (node_numbered s c.in_ok-entry.entry.2) in
    subst P (sym (c.to_remove.ensures.same.store ∙ c.walk.ensures.same.store))
    (removed_used fs.store c.args.self.now.mounts c.args.self.now.marks c.in_ok-way.way c.in_ok-entry.entry w (c.in_ok-entry.ensures.result ∙ ap (λ (s : Stores). to_remove s c.args.self.now.mounts c.args.self.now.marks c.in_ok-way.way) c.walk.ensures.same.store)).1

pub returns-clause-other : goal.returns-clause-other
returns-clause-other g c =
    let fs = c.args.self.now.nodes in
    let mounts = c.args.self.now.mounts in
    let sought : Result (ℕ × ℕ × ℕ) Errno = then_do (way fs.store mounts c.args.who c.args.dir c.args.name) (to_remove fs.store mounts c.args.self.now.marks) in
    let is : sought ≡ Ok c.in_ok-entry.entry =
    ap (λ (w : Result Way Errno). then_do w (to_remove fs.store mounts c.args.self.now.marks)) (sym c.in_ok-way.ensures.result)
    ∙ sym (c.in_ok-entry.ensures.result ∙ ap (λ (s : Stores). to_remove s mounts c.args.self.now.marks c.in_ok-way.way) c.walk.ensures.same.store) in
    let store : c.to_remove.new.nodes.store ≡ fs.store = c.to_remove.ensures.same.store ∙ c.walk.ensures.same.store in
    let references : c.to_remove.new.nodes.references ≡ fs.references = c.to_remove.ensures.same.references ∙ c.walk.ensures.same.references in
    let same : inodes_of c.to_remove.new.nodes ≡ inodes_of fs = λ i. record { store = store i; references = references i } in
    removing_apart (inodes_of fs) (inodes_of c.take_both.new.nodes) sought
    (c.take_both.ensures.inodes ∙ ap (λ (n : Inodes). (referring_both n c.in_ok-entry.entry).inodes) same
    ∙ sym (ap (λ (r : Result (ℕ × ℕ × ℕ) Errno). (removing (inodes_of fs) r).inodes) is))

pub returns-in_err-way-clause-alone : goal.returns-in_err-way-clause-alone
returns-in_err-way-clause-alone g c = λ on.
    let is : c.from_residual.result ≡ (remove_in (inodes_of c.args.self.now.nodes) c.args.self.now.mounts c.args.self.now.marks c.args.who c.args.dir c.args.name).answer = search rules in
    is ∙ remove_alone (inodes_of c.args.self.now.nodes) c.args.self.now.mounts c.requires.mounts c.args.who c.args.dir c.args.name on c.args.self.now.marks

pub returns-in_err-entry-clause-alone : goal.returns-in_err-entry-clause-alone
returns-in_err-entry-clause-alone g c = λ on.
    let is : c.from_residual-in_err-entry.result ≡ (remove_in (inodes_of c.args.self.now.nodes) c.args.self.now.mounts c.args.self.now.marks c.args.who c.args.dir c.args.name).answer = search rules in
    is ∙ remove_alone (inodes_of c.args.self.now.nodes) c.args.self.now.mounts c.requires.mounts c.args.who c.args.dir c.args.name on c.args.self.now.marks

pub returns-clause-alone : goal.returns-clause-alone
returns-clause-alone g c = λ on.
    let is : c.take_both.result ≡ (remove_in (inodes_of c.args.self.now.nodes) c.args.self.now.mounts c.args.self.now.marks c.args.who c.args.dir c.args.name).answer = search rules in
    is ∙ remove_alone (inodes_of c.args.self.now.nodes) c.args.self.now.mounts c.requires.mounts c.args.who c.args.dir c.args.name on c.args.self.now.marks
