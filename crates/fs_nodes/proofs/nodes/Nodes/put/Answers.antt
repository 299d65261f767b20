use Rattle.std.proofs.Common.{◌≡◌, ◌≤◌, ◌⊎◌, ◌-◌, slice_set, Option, None, inl, inr, sym, ap, ◌∙◌, subst, arith}
use Rattle.fs_nodes.specs.one_disk.FileSystem as disk
use Rattle.fs_nodes.specs.Disks.{OfSecond}
use Rattle.fs_nodes.specs.FileSystem.{AreDisks}
use Rattle.fs_nodes.specs.declared.nodes.Nodes.TheInside.{Inside}
use Rattle.fs_nodes.proofs.SideLemmas.{Side, with_root, with_second, root_here, second_here, root_kept, second_kept, node_is, put_done, put_lessens}
use Rattle.fs_nodes.proofs.nodes.Nodes.put.Goals as goal
use Rattle.fs_nodes.proofs.nodes.Nodes.put.Goals.{in_default-via-in-Some+else-ino-self, in_default-via-in_default}

second_form : (c : goal.After-put) → disk.IsFileSystem c.in-Some.second
second_form c = let P : Option disk.FileSystem → Type 0 = OfSecond disk.IsFileSystem in subst P c.in-Some.is c.see.ensures.second

second_is : (c : goal.After-put) → Side c.args.self.now c.args.ino c.in-Some.second (c.args.ino - c.self.inside.first) (with_second c.self.inside.root)
second_is c =
    let i = c.self.inside in
    second_here i.root c.in-Some.second i.second i.first c.args.ino c.args.self.now c.self.invariant c.see.ensures.root c.in-Some.is c.if-ino-self.true c.self.view_is

pub invariant_of-self : goal.invariant_of-self
invariant_of-self c =
    let i = c.self.inside in
    let side = second_is c in
    let s = side.refs in
    let some = c.requires.referenced in
    let l = put_lessens c.in-Some.second c.put.new.self (c.args.ino - i.first) (second_form c) (omega (arith, s, some)) c.put.ensures.references c.put.ensures.store in
    second_kept i.root c.in-Some.second c.put.new.self i.second i.first c.self.invariant c.in-Some.is l.count l.few

pub returns-in-Some-clause-references : goal.returns-in-Some-clause-references
returns-in-Some-clause-references c =
    let side = second_is c in
    side.set c.put.new.self _ (c.put.ensures.references ∙ ap (λ n. slice_set c.in-Some.second.references (c.args.ino - c.self.inside.first) (n - 1)) (sym side.refs))

pub returns-in-Some-clause-store : goal.returns-in-Some-clause-store
returns-in-Some-clause-store c = put_done (second_is c) c.put.new.self c.put.ensures.store

same : (c : goal.After-put-in_default) → c.in_default.self-inside ≡ c.self.inside
same c = elim c.in_default.branch [
  | in_default-via-in-Some+else-ino-self w ↦ w.self-inside-is ∙ (λ j. record { root = c.self.inside.root; second = sym w.in-Some.is j; first = c.self.inside.first })
  | in_default-via-in_default w ↦ w.self-inside-is
]

low : (c : goal.After-put-in_default) → (c.self.inside.second ≡ None) ⊎ (c.args.ino ≤ c.self.inside.first)
low c = elim c.in_default.branch [
  | in_default-via-in-Some+else-ino-self w ↦ inr w.if-ino-self.false
  | in_default-via-in_default w ↦ inl w.in_default.is
]

root_is : (c : goal.After-put-in_default) → Side c.args.self.now c.args.ino c.in_default.self-inside.root c.args.ino (with_root c.in_default.self-inside.second)
root_is c =
    let i = c.self.inside in
    let s = same c in
    subst (λ (x : Inside). Side c.args.self.now c.args.ino x.root c.args.ino (with_root x.second)) (sym s)
    (root_here i.root i.second i.first c.args.ino c.args.self.now c.self.invariant c.see.ensures.root (low c) c.self.view_is)

pub invariant_of-self-in_default : goal.invariant_of-self-in_default
invariant_of-self-in_default c =
    let s = same c in
    let P : Inside → Type 0 = λ x. AreDisks x.root x.second x.first in
    let Q : Inside → Type 0 = λ x. disk.IsFileSystem x.root in
    let side = root_is c in
    let r = side.refs in
    let some = c.requires.referenced in
    let l = put_lessens c.in_default.self-inside.root c.put-in_default.new.self c.args.ino (subst Q (sym s) c.see.ensures.root) (omega (arith, r, some)) c.put-in_default.ensures.references c.put-in_default.ensures.store in
    root_kept c.in_default.self-inside.root c.put-in_default.new.self c.in_default.self-inside.second c.in_default.self-inside.first (subst P (sym s) c.self.invariant) l.count l.few

pub returns-in_default-clause-references : goal.returns-in_default-clause-references
returns-in_default-clause-references c =
    let side = root_is c in
    side.set c.put-in_default.new.self _ (c.put-in_default.ensures.references ∙ ap (λ n. slice_set c.in_default.self-inside.root.references c.args.ino (n - 1)) (sym side.refs))

pub returns-in_default-clause-store : goal.returns-in_default-clause-store
returns-in_default-clause-store c = put_done (root_is c) c.put-in_default.new.self c.put-in_default.ensures.store

pub returns-in-Some-clause-stored : goal.returns-in-Some-clause-stored
returns-in-Some-clause-stored c = λ node is some.
    (second_is c).late c.put.new.self (c.put.ensures.stored node (sym (node_is (second_is c)) ∙ is) some)

pub returns-in_default-clause-stored : goal.returns-in_default-clause-stored
returns-in_default-clause-stored c = λ node is some.
    (root_is c).late c.put-in_default.new.self (c.put-in_default.ensures.stored node (sym (node_is (root_is c)) ∙ is) some)
