use Rattle.std.proofs.Common.{◌||◌, not, sym, ap, ◌∙◌}
use Rattle.fs_nodes.specs.Keys.{Stores, node_numbered}
use Rattle.fs_tree.specs.declared.user.Want.TheVariants.{Write, Execute}
use Rattle.fs_tree.specs.Name.{components, is_whole}
use Rattle.fs_tree.specs.Path.{in_directory, is_last}
use Rattle.fs_tree.proofs.NameLemmas.{read_some, read_none, last_begins}
use Rattle.fs_tree.proofs.PathLemmas.{dir_shown, may_shown, in_unread, in_searched, same_names, none_read, some_read}
use Rattle.fs_tree.proofs.walk.look_in.Goals as goal

pub returns-then-is_none-clause-result : goal.returns-then-is_none-clause-result
returns-then-is_none-clause-result g c = λ component later is.
    let s = c.in-Some.ensures.found in
    let d = dir_shown s.0 c.in-Some.node c.is_directory.result s.2 c.is_directory.ensures ∙ c.if-not-is_directory.false in
    let m = may_shown s.0 c.in-Some.node c.args.user Execute c.may.result s.2 c.may.ensures ∙ c.if-not-may.false in
    let n = none_read c.peek-2.result c.is_none.result c.is_none.ensures c.if-is_none.true ∙ c.peek-2.ensures in
    let same = same_names (components c.args.name.now) component c.component-component.result later (components c.component-component.new.self) is c.component-component.ensures.component in
    in_unread c.args.nodes.now.store c.args.user c.args.dir c.component-component.result (not (is_last (components c.component-component.new.self)) || is_whole c.component-component.new.self)
    s.0 s.1 d m (read_none c.component-component.new.self n)
    ∙ (λ i. in_directory c.args.nodes.now.store c.args.user c.args.dir (same.name i) (not (is_last (same.later i)) || c.component-component.ensures.whole i))

pub returns-clause-result : goal.returns-clause-result
returns-clause-result g c = λ component later is.
    let s = c.in-Some.ensures.found in
    let d = dir_shown s.0 c.in-Some.node c.is_directory.result s.2 c.is_directory.ensures ∙ c.if-not-is_directory.false in
    let m = may_shown s.0 c.in-Some.node c.args.user Execute c.may.result s.2 c.may.ensures ∙ c.if-not-may.false in
    let w = may_shown s.0 c.in-Some.node c.args.user Write c.may-2.result s.2 c.may-2.ensures in
    let r = some_read c.peek-2.result c.is_none.result c.is_none.ensures c.if-is_none.false in
    let same = same_names (components c.args.name.now) component c.component-component.result later (components c.component-component.new.self) is c.component-component.ensures.component in
    in_searched c.args.nodes.now.store c.args.user c.args.dir c.component-component.result (not (is_last (components c.component-component.new.self)) || is_whole c.component-component.new.self)
    s.0 c.may-2.result c.look_up.result s.1 d m (read_some c.component-component.new.self r.0 (sym r.1 ∙ c.peek-2.ensures) c.component-component.ensures.none) w
    (c.look_up.ensures.looked s.0 (ap (λ (s : Stores). node_numbered s c.args.dir) c.peek.ensures.same.store ∙ s.1) (sym s.2.size))
    ∙ (λ i. in_directory c.args.nodes.now.store c.args.user c.args.dir (same.name i) (not (is_last (same.later i)) || c.component-component.ensures.whole i))

pub returns-clause-read : goal.returns-clause-read
returns-clause-read g c = last_begins c.component-component.new.self c.component-component.ensures.none
