use Rattle.std.proofs.Common.{◌≡◌, ◌+◌, ◌-◌, ℕ, nat_lt, Option, Result, MatchResult, sym, ap, ◌∙◌, subst, arith}
use Rattle.v6_base.specs.declared.errno.Errno.{Errno}
use Rattle.fs_nodes.specs.one_disk.FileSystem as disk
use Rattle.fs_nodes.specs.one_disk.FileSystem.{referenced}
use Rattle.fs_nodes.specs.Disks.{OfSecond}
use Rattle.fs_nodes.specs.FileSystem.{AreDisks, held_on_second, together}
use Rattle.fs_nodes.specs.Numbers.{MakesNode, MakesNone}
use Rattle.fs_nodes.specs.declared.nodes.Nodes.TheInside.{Inside}
use Rattle.fs_nodes.proofs.SideLemmas.{with_second, root_changed, second_changed, late_root, late_second}
use Rattle.fs_nodes.proofs.NewLemmas.{room_is, dev_zero, root_outcome, seen_second, second_outcome, key_fits, made_kept}
use Rattle.fs_nodes.proofs.nodes.Nodes.new_node.Goals as goal
use Rattle.fs_nodes.proofs.nodes.Nodes.new_node.Goals.{in_default-via-in-Some+else-dev-ne0, in_default-via-in_default}

pub returns-in_default-clause-outcome : goal.returns-in_default-clause-outcome
returns-in_default-clause-outcome c =
    let i = c.self.inside in
    let x = c.in_default.self-inside in
    let same : x ≡ i = elim c.in_default.branch [
      | in_default-via-in-Some+else-dev-ne0 w ↦ w.self-inside-is ∙ (λ j. record { root = c.self.inside.root; second = sym w.in-Some.is j; first = c.self.inside.first })
      | in_default-via-in_default w ↦ w.self-inside-is
    ] in
    let F : Inside → Type 0 = λ y. disk.IsFileSystem y.root in
    let G : Inside → Type 0 = λ y. OfSecond disk.IsFileSystem y.second in
    let A : Inside → Type 0 = λ y. AreDisks y.root y.second y.first in
    let are = subst A (sym same) c.self.invariant in
    let form = subst F (sym same) c.see.ensures.root in
    let form' = subst G (sym same) c.see.ensures.second in
    let room = room_is c.held.result c.held_on.result (referenced x.root.references) (held_on_second x.second)
    (c.held.ensures.count ∙ ap (λ (y : Inside). referenced y.root.references) (sym same)) (c.held_on.ensures ∙ ap (λ (y : Inside). held_on_second y.second) (sym same)) are.few in
    let view : together (record { root = x.root; second = x.second }) ≡ c.args.self.now =
    ap (λ (y : Inside). together (record { root = y.root; second = y.second })) same ∙ c.self.view_is in
    let zero : c.args.dev ≡ 0 = elim c.in_default.branch [
      | in_default-via-in-Some+else-dev-ne0 w ↦ w.if-dev-ne0.false
      | in_default-via-in_default w ↦ dev_zero c.args.dev i.root i.second c.args.self.now w.in_default.is c.self.view_is c.requires.there
    ] in
    root_outcome x.root c.make_on.new.nodes x.second c.args.self.now c.args.dev c.args.mode c.args.uid c.args.gid c.args.time (nat_lt (c.held.result + c.held_on.result) 100) c.make_on.result
    form form' room view zero c.make_on.ensures.outcome

pub invariant_of-self-in_default : goal.invariant_of-self-in_default
invariant_of-self-in_default c =
    let i = c.self.inside in
    let x = c.in_default.self-inside in
    let same : x ≡ i = elim c.in_default.branch [
      | in_default-via-in-Some+else-dev-ne0 w ↦ w.self-inside-is ∙ (λ j. record { root = c.self.inside.root; second = sym w.in-Some.is j; first = c.self.inside.first })
      | in_default-via-in_default w ↦ w.self-inside-is
    ] in
    let F : Inside → Type 0 = λ y. disk.IsFileSystem y.root in
    let G : Inside → Type 0 = λ y. OfSecond disk.IsFileSystem y.second in
    let A : Inside → Type 0 = λ y. AreDisks y.root y.second y.first in
    let are = subst A (sym same) c.self.invariant in
    let form = subst F (sym same) c.see.ensures.root in
    let form' = subst G (sym same) c.see.ensures.second in
    let room = room_is c.held.result c.held_on.result (referenced x.root.references) (held_on_second x.second)
    (c.held.ensures.count ∙ ap (λ (y : Inside). referenced y.root.references) (sym same)) (c.held_on.ensures ∙ ap (λ (y : Inside). held_on_second y.second) (sym same)) are.few in
    let k = made_kept x.root c.make_on.new.nodes c.args.mode c.args.uid c.args.gid c.args.time (nat_lt (c.held.result + c.held_on.result) 100) (held_on_second x.second) c.make_on.result form room.some are.few c.make_on.ensures.outcome in
    root_changed x.root c.make_on.new.nodes x.second x.first are k.0 k.1

pub returns-in-Some-clause-outcome : goal.returns-in-Some-clause-outcome
returns-in-Some-clause-outcome c =
    let i = c.self.inside in
    let P : Option disk.FileSystem → Type 0 = OfSecond disk.IsFileSystem in
    let form' = subst P c.in-Some.is c.see.ensures.second in
    let A : Option disk.FileSystem → Type 0 = λ y. AreDisks i.root y i.first in
    let are = subst A c.in-Some.is c.self.invariant in
    let seen = seen_second i.root c.in-Some.second i.second i.first c.args.dev c.args.self.now c.self.invariant c.in-Some.is c.requires.device c.if-dev-ne0.true c.self.view_is in
    let room = room_is c.held.result c.held_on.result (referenced i.root.references) (referenced c.in-Some.second.references)
    c.held.ensures.count (c.held_on.ensures ∙ ap held_on_second c.in-Some.is) are.few in
    subst (λ (r : Result ℕ Errno). MatchResult r (λ k. MakesNode c.args.self.now c.args.dev c.args.mode c.args.uid c.args.gid c.args.time k (with_second i.root c.make_on-made.new.nodes)) (λ e. MakesNone c.args.self.now c.args.dev e (with_second i.root c.make_on-made.new.nodes))) (sym c.known_after.ensures)
    (second_outcome i.root c.in-Some.second c.make_on-made.new.nodes i.second i.first c.args.dev c.args.self.now c.args.mode c.args.uid c.args.gid c.args.time (nat_lt (c.held.result + c.held_on.result) 100) c.make_on-made.result
    seen c.see.ensures.root form' room c.make_on-made.ensures.outcome)

pub known_after-requires : goal.known_after-requires
known_after-requires c =
    let i = c.self.inside in
    let A : Option disk.FileSystem → Type 0 = λ y. AreDisks i.root y i.first in
    let are = subst A c.in-Some.is c.self.invariant in
    key_fits c.in-Some.second c.make_on-made.new.nodes i.first i.root.store.count c.args.mode c.args.uid c.args.gid c.args.time (nat_lt (c.held.result + c.held_on.result) 100) c.make_on-made.result are.keys.0 are.keys.1 c.make_on-made.ensures.outcome

pub invariant_of-self : goal.invariant_of-self
invariant_of-self c =
    let i = c.self.inside in
    let P : Option disk.FileSystem → Type 0 = OfSecond disk.IsFileSystem in
    let form' = subst P c.in-Some.is c.see.ensures.second in
    let A : Option disk.FileSystem → Type 0 = λ y. AreDisks i.root y i.first in
    let are = subst A c.in-Some.is c.self.invariant in
    let seen = seen_second i.root c.in-Some.second i.second i.first c.args.dev c.args.self.now c.self.invariant c.in-Some.is c.requires.device c.if-dev-ne0.true c.self.view_is in
    let room = room_is c.held.result c.held_on.result (referenced i.root.references) (referenced c.in-Some.second.references)
    c.held.ensures.count (c.held_on.ensures ∙ ap held_on_second c.in-Some.is) are.few in
    let k = made_kept c.in-Some.second c.make_on-made.new.nodes c.args.mode c.args.uid c.args.gid c.args.time (nat_lt (c.held.result + c.held_on.result) 100) (referenced i.root.references) c.make_on-made.result form'
    (λ t. (let f = room.some t in omega (arith, f))) (let f = are.few in omega (arith, f)) c.make_on-made.ensures.outcome in
    second_changed i.root c.in-Some.second c.make_on-made.new.nodes i.second i.first c.self.invariant c.in-Some.is k.0 (let f = k.1 in omega (arith, f))

pub returns-in-Some-clause-stored : goal.returns-in-Some-clause-stored
returns-in-Some-clause-stored c =
    late_second c.self.inside.root c.in-Some.second c.make_on-made.new.nodes c.self.inside.second c.args.self.now c.in-Some.is c.self.view_is c.make_on-made.ensures.stored

pub returns-in_default-clause-stored : goal.returns-in_default-clause-stored
returns-in_default-clause-stored c =
    let view : together (record { root = c.in_default.self-inside.root; second = c.in_default.self-inside.second }) ≡ c.args.self.now = elim c.in_default.branch [
      | in_default-via-in-Some+else-dev-ne0 w ↦ ap (λ (x : Inside). together (record { root = x.root; second = x.second })) (w.self-inside-is ∙ (λ j. record { root = c.self.inside.root; second = sym w.in-Some.is j; first = c.self.inside.first })) ∙ c.self.view_is
      | in_default-via-in_default w ↦ ap (λ (x : Inside). together (record { root = x.root; second = x.second })) w.self-inside-is ∙ c.self.view_is
    ] in
    late_root c.in_default.self-inside.root c.make_on.new.nodes c.in_default.self-inside.second c.args.self.now view c.make_on.ensures.stored
