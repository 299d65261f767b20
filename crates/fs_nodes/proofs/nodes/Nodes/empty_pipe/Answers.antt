use Rattle.std.proofs.Common.{◌≡◌, ◌<◌, ◌≤◌, ◌+◌, ◌-◌, ◌⊎◌, Option, None, slice_index, inl, inr, sym, ap, ◌∙◌, subst, arith}
use Rattle.fs_codec.specs.Store.{Node, Store}
use Rattle.fs_nodes.specs.one_disk.FileSystem as disk
use Rattle.fs_nodes.specs.Disks.{OfSecond}
use Rattle.fs_nodes.specs.FileSystem.{AreDisks, together}
use Rattle.fs_nodes.specs.declared.nodes.Nodes.TheInside.{Inside}
use Rattle.fs_nodes.proofs.SideLemmas.{Side, with_root, root_here, second_here, root_kept, second_kept, node_lessens, set_done, same_root, same_second}
use Rattle.fs_nodes.proofs.nodes.Nodes.empty_pipe.Goals as goal
use Rattle.fs_nodes.proofs.nodes.Nodes.empty_pipe.Goals.{in_default-via-in-Some+else-ino-self, in_default-via-in_default}

pub invariant_of-self : goal.invariant_of-self
invariant_of-self c =
    let i = c.self.inside in
    let side = second_here i.root c.in-Some.second i.second i.first c.args.ino c.args.self.now c.self.invariant c.see.ensures.root c.in-Some.is c.if-ino-self.true c.self.view_is in
    let P : Option disk.FileSystem → Type 0 = OfSecond disk.IsFileSystem in
    let r = side.refs in
    let some = c.requires.referenced in
    let l = node_lessens c.in-Some.second c.empty_pipe.new.self (c.args.ino - i.first) (subst P c.in-Some.is c.see.ensures.second) (omega (arith, r, some)) c.empty_pipe.ensures.references
    (λ node found. ap (λ (x : Store). x.count) (c.empty_pipe.ensures.store node found)) in
    second_kept i.root c.in-Some.second c.empty_pipe.new.self i.second i.first c.self.invariant c.in-Some.is l.count l.few

pub returns-in-Some-clause-store : goal.returns-in-Some-clause-store
returns-in-Some-clause-store c =
    let i = c.self.inside in
    let side = second_here i.root c.in-Some.second i.second i.first c.args.ino c.args.self.now c.self.invariant c.see.ensures.root c.in-Some.is c.if-ino-self.true c.self.view_is in
    set_done side c.empty_pipe.new.self (λ (node : Node). record node { size = 0 }) c.empty_pipe.ensures.store

pub returns-in-Some-clause-references : goal.returns-in-Some-clause-references
returns-in-Some-clause-references c =
    let i = c.self.inside in
    let side = second_here i.root c.in-Some.second i.second i.first c.args.ino c.args.self.now c.self.invariant c.see.ensures.root c.in-Some.is c.if-ino-self.true c.self.view_is in
    side.same c.empty_pipe.new.self c.empty_pipe.ensures.references

pub invariant_of-self-in_default : goal.invariant_of-self-in_default
invariant_of-self-in_default c =
    let i = c.self.inside in
    let same : c.in_default.self-inside ≡ i = elim c.in_default.branch [
      | in_default-via-in-Some+else-ino-self w ↦ w.self-inside-is ∙ (λ j. record { root = c.self.inside.root; second = sym w.in-Some.is j; first = c.self.inside.first })
      | in_default-via-in_default w ↦ w.self-inside-is
    ] in
    let low : (i.second ≡ None) ⊎ (c.args.ino ≤ i.first) = elim c.in_default.branch [
      | in_default-via-in-Some+else-ino-self w ↦ inr w.if-ino-self.false
      | in_default-via-in_default w ↦ inl w.in_default.is
    ] in
    let P : Inside → Type 0 = λ x. AreDisks x.root x.second x.first in
    let Q : Inside → Type 0 = λ x. disk.IsFileSystem x.root in
    let R : Inside → Type 0 = λ x. 0 < slice_index x.root.references c.args.ino in
    let side = root_here i.root i.second i.first c.args.ino c.args.self.now c.self.invariant c.see.ensures.root low c.self.view_is in
    let r = side.refs in
    let some = c.requires.referenced in
    let l = node_lessens c.in_default.self-inside.root c.empty_pipe-in_default.new.self c.args.ino (subst Q (sym same) c.see.ensures.root) (subst R (sym same) (omega (arith, r, some))) c.empty_pipe-in_default.ensures.references
    (λ node found. ap (λ (x : Store). x.count) (c.empty_pipe-in_default.ensures.store node found)) in
    root_kept c.in_default.self-inside.root c.empty_pipe-in_default.new.self c.in_default.self-inside.second c.in_default.self-inside.first (subst P (sym same) c.self.invariant) l.count l.few

pub returns-in_default-clause-store : goal.returns-in_default-clause-store
returns-in_default-clause-store c =
    let i = c.self.inside in
    let same : c.in_default.self-inside ≡ i = elim c.in_default.branch [
      | in_default-via-in-Some+else-ino-self w ↦ w.self-inside-is ∙ (λ j. record { root = c.self.inside.root; second = sym w.in-Some.is j; first = c.self.inside.first })
      | in_default-via-in_default w ↦ w.self-inside-is
    ] in
    let low : (i.second ≡ None) ⊎ (c.args.ino ≤ i.first) = elim c.in_default.branch [
      | in_default-via-in-Some+else-ino-self w ↦ inr w.if-ino-self.false
      | in_default-via-in_default w ↦ inl w.in_default.is
    ] in
    let side = subst (λ (x : Inside). Side c.args.self.now c.args.ino x.root c.args.ino (with_root x.second)) (sym same)
    (root_here i.root i.second i.first c.args.ino c.args.self.now c.self.invariant c.see.ensures.root low c.self.view_is) in
    set_done side c.empty_pipe-in_default.new.self (λ (node : Node). record node { size = 0 }) c.empty_pipe-in_default.ensures.store

pub returns-in_default-clause-references : goal.returns-in_default-clause-references
returns-in_default-clause-references c =
    let i = c.self.inside in
    let same : c.in_default.self-inside ≡ i = elim c.in_default.branch [
      | in_default-via-in-Some+else-ino-self w ↦ w.self-inside-is ∙ (λ j. record { root = c.self.inside.root; second = sym w.in-Some.is j; first = c.self.inside.first })
      | in_default-via-in_default w ↦ w.self-inside-is
    ] in
    let low : (i.second ≡ None) ⊎ (c.args.ino ≤ i.first) = elim c.in_default.branch [
      | in_default-via-in-Some+else-ino-self w ↦ inr w.if-ino-self.false
      | in_default-via-in_default w ↦ inl w.in_default.is
    ] in
    let side = subst (λ (x : Inside). Side c.args.self.now c.args.ino x.root c.args.ino (with_root x.second)) (sym same)
    (root_here i.root i.second i.first c.args.ino c.args.self.now c.self.invariant c.see.ensures.root low c.self.view_is) in
    side.same c.empty_pipe-in_default.new.self c.empty_pipe-in_default.ensures.references

pub returns-in-Some-clause-blocks : goal.returns-in-Some-clause-blocks
returns-in-Some-clause-blocks c =
    (same_second c.self.inside.root c.in-Some.second c.empty_pipe.new.self c.self.inside.second c.args.self.now c.in-Some.is c.self.view_is c.empty_pipe.ensures.blocks c.empty_pipe.ensures.stored).0

pub returns-in-Some-clause-stored : goal.returns-in-Some-clause-stored
returns-in-Some-clause-stored c =
    (same_second c.self.inside.root c.in-Some.second c.empty_pipe.new.self c.self.inside.second c.args.self.now c.in-Some.is c.self.view_is c.empty_pipe.ensures.blocks c.empty_pipe.ensures.stored).1

pub returns-in_default-clause-blocks : goal.returns-in_default-clause-blocks
returns-in_default-clause-blocks c =
    let view : together (record { root = c.in_default.self-inside.root; second = c.in_default.self-inside.second }) ≡ c.args.self.now = elim c.in_default.branch [
      | in_default-via-in-Some+else-ino-self w ↦ ap (λ (x : Inside). together (record { root = x.root; second = x.second })) (w.self-inside-is ∙ (λ j. record { root = c.self.inside.root; second = sym w.in-Some.is j; first = c.self.inside.first })) ∙ c.self.view_is
      | in_default-via-in_default w ↦ ap (λ (x : Inside). together (record { root = x.root; second = x.second })) w.self-inside-is ∙ c.self.view_is
    ] in
    (same_root c.in_default.self-inside.root c.empty_pipe-in_default.new.self c.in_default.self-inside.second c.args.self.now view c.empty_pipe-in_default.ensures.blocks c.empty_pipe-in_default.ensures.stored).0

pub returns-in_default-clause-stored : goal.returns-in_default-clause-stored
returns-in_default-clause-stored c =
    let view : together (record { root = c.in_default.self-inside.root; second = c.in_default.self-inside.second }) ≡ c.args.self.now = elim c.in_default.branch [
      | in_default-via-in-Some+else-ino-self w ↦ ap (λ (x : Inside). together (record { root = x.root; second = x.second })) (w.self-inside-is ∙ (λ j. record { root = c.self.inside.root; second = sym w.in-Some.is j; first = c.self.inside.first })) ∙ c.self.view_is
      | in_default-via-in_default w ↦ ap (λ (x : Inside). together (record { root = x.root; second = x.second })) w.self-inside-is ∙ c.self.view_is
    ] in
    (same_root c.in_default.self-inside.root c.empty_pipe-in_default.new.self c.in_default.self-inside.second c.args.self.now view c.empty_pipe-in_default.ensures.blocks c.empty_pipe-in_default.ensures.stored).1
