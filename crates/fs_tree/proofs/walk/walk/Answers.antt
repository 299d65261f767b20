use Rattle.std.proofs.Common.{◌≡◌, not, false, true, Ok, Err, sym, ap, ◌∙◌, rules, arith}
use Rattle.std.proofs.lemmas.Grind.{common_steps}
use Rattle.fs_nodes.specs.Keys.{Stores}
use Rattle.fs_tree.specs.declared.walk.Way.TheVariants.{Start}
use Rattle.fs_tree.specs.Name.{split, cut, components, is_whole, begins}
use Rattle.fs_tree.specs.Path.{walk, way, is_last, reached}
use Rattle.mount_tab.specs.Mounted.{crossed}
use Rattle.fs_tree.proofs.NameLemmas.{component_first, reads_on, whole_none, last_begins}
use Rattle.fs_tree.proofs.PathLemmas.{way_unread, way_start, way_walks, stops, ends, misses, goes, begins_on}
use Rattle.fs_tree.proofs.FindingLemmas.{same_refl, same_then}
use Rattle.fs_tree.proofs.walk.walk.Goals as goal

pub returns-in-Some-clause-result : goal.returns-in-Some-clause-result
returns-in-Some-clause-result g c =
    let name = c.pass_slashes.new.self in
    let slashes = c.pass_slashes.ensures in
    let b : begins name ≡ false = sym c.begins.ensures ∙ c.if-not-begins.true in
    ap (λ at. Ok (Start at)) (c.cross-at.ensures ∙ ap (crossed c.args.mounts.now) c.start.ensures)
    ∙ way_start c.args.nodes.now.store c.args.mounts.now c.args.user c.args.dir c.args.name.now
    (ap is_last (sym slashes.components) ∙ last_begins name slashes.none ∙ ap not b) (sym slashes.whole ∙ reads_on name c.in-Some.field-0 c.in-Some.ensures slashes.none b)

pub returns-in-None-clause-result : goal.returns-in-None-clause-result
returns-in-None-clause-result g c =
    let name = c.pass_slashes.new.self in
    let slashes = c.pass_slashes.ensures in
    let b : begins name ≡ false = sym c.begins.ensures ∙ c.if-not-begins.true in
    way_unread c.args.nodes.now.store c.args.mounts.now c.args.user c.args.dir c.args.name.now
    (ap is_last (sym slashes.components) ∙ last_begins name slashes.none ∙ ap not b) (sym slashes.whole ∙ whole_none name c.in-None.ensures)

pub loop-last-init : goal.loop-last-init
loop-last-init g c =
    let name = c.pass_slashes.new.self in
    let slashes = c.pass_slashes.ensures in
    let b : begins name ≡ true = sym c.begins.ensures ∙ c.if-not-begins.false in
    record {
      begins = b;
      same = same_refl _;
      walk = way_walks c.args.nodes.now.store c.args.mounts.now c.args.user c.args.dir c.args.name.now (ap is_last (sym slashes.components) ∙ last_begins name slashes.none ∙ ap not b)
          ∙ (λ i. walk c.args.nodes.now.store c.args.mounts.now c.args.user (sym slashes.whole i) (sym (c.cross-at.ensures ∙ ap (crossed c.args.mounts.now) c.start.ensures) i) (sym slashes.components i));
    }

pub returns-in_err-last-clause-result : goal.returns-in_err-last-clause-result
returns-in_err-last-clause-result g c =
    let i = c.loop-last.invariant in
    let first = component_first c.loop-last.name i.begins in
    let refused : Err c.in_err-last.field-0.0 ≡ way c.args.nodes.now.store c.args.mounts.now c.args.user c.args.dir c.args.name.now =
    sym (i.walk ∙ stops c.args.nodes.now.store c.args.mounts.now c.args.user (is_whole c.loop-last.name) c.loop-last.at (components c.loop-last.name) (cut 14 (split c.loop-last.name).first) (split c.loop-last.name).later first
    c.in_err-last.field-0.0 (sym (c.in_err-last.ensures.result (cut 14 (split c.loop-last.name).first) (split c.loop-last.name).later first ∙ ap (λ (s : Stores). begins_on s c.args.user c.loop-last.at (cut 14 (split c.loop-last.name).first) (split c.loop-last.name).later (is_whole c.loop-last.name)) i.same.store))) in
    first_of (search rules, grind (arith, common_steps))

pub returns-then-not-begins-2-clause-result : goal.returns-then-not-begins-2-clause-result
returns-then-not-begins-2-clause-result g c =
    let i = c.loop-last.invariant in
    let e = c.in_ok-last.ensures in
    sym (i.walk ∙ ends c.args.nodes.now.store c.args.mounts.now c.args.user (is_whole c.loop-last.name) c.loop-last.at (components c.loop-last.name) c.in_ok-last.last.name (components c.look_in.new.name) e.rest
    c.in_ok-last.last (sym (e.result c.in_ok-last.last.name (components c.look_in.new.name) e.rest ∙ ap (λ (s : Stores). begins_on s c.args.user c.loop-last.at c.in_ok-last.last.name (components c.look_in.new.name) (is_whole c.loop-last.name)) i.same.store))
    (e.read ∙ ap not (sym c.begins-in-loop-last.ensures ∙ c.if-not-begins-2.true)))

pub returns-in_err-at-clause-result : goal.returns-in_err-at-clause-result
returns-in_err-at-clause-result g c =
    let i = c.loop-last.invariant in
    let e = c.in_ok-last.ensures in
    let refused : Err c.in_err-at.field-0.0 ≡ way c.args.nodes.now.store c.args.mounts.now c.args.user c.args.dir c.args.name.now =
    sym (i.walk ∙ misses c.args.nodes.now.store c.args.mounts.now c.args.user (is_whole c.loop-last.name) c.loop-last.at (components c.loop-last.name) c.in_ok-last.last.name (components c.look_in.new.name) e.rest
    c.in_ok-last.last c.in_err-at.field-0.0 (sym (e.result c.in_ok-last.last.name (components c.look_in.new.name) e.rest ∙ ap (λ (s : Stores). begins_on s c.args.user c.loop-last.at c.in_ok-last.last.name (components c.look_in.new.name) (is_whole c.loop-last.name)) i.same.store))
    (e.read ∙ ap not (sym c.begins-in-loop-last.ensures ∙ c.if-not-begins-2.false))
    (sym (c.in_err-at.ensures.result ∙ ap (λ (s : Stores). reached s c.args.mounts.now c.in_ok-last.last.dir c.in_ok-last.last.looked) (c.look_in.ensures.same.store ∙ i.same.store)))) in
    first_of (search rules, grind (arith, common_steps))

pub loop-last-preserved : goal.loop-last-preserved
loop-last-preserved g c =
    let i = c.loop-last.invariant in
    let e = c.in_ok-last.ensures in
    record {
      begins = sym c.begins-in-loop-last.ensures ∙ c.if-not-begins-2.false;
      same = same_then _ _ _ i.same (same_then _ _ _ c.look_in.ensures.same c.reached.ensures.same);
      walk = i.walk ∙ goes c.args.nodes.now.store c.args.mounts.now c.args.user (is_whole c.loop-last.name) c.loop-last.at (components c.loop-last.name) c.in_ok-last.last.name (components c.look_in.new.name) e.rest
          c.in_ok-last.last c.in_ok-at.at (sym (e.result c.in_ok-last.last.name (components c.look_in.new.name) e.rest ∙ ap (λ (s : Stores). begins_on s c.args.user c.loop-last.at c.in_ok-last.last.name (components c.look_in.new.name) (is_whole c.loop-last.name)) i.same.store))
          (e.read ∙ ap not (sym c.begins-in-loop-last.ensures ∙ c.if-not-begins-2.false))
          (sym (c.in_ok-at.ensures.result ∙ ap (λ (s : Stores). reached s c.args.mounts.now c.in_ok-last.last.dir c.in_ok-last.last.looked) (c.look_in.ensures.same.store ∙ i.same.store)))
          ∙ ap (λ t. walk c.args.nodes.now.store c.args.mounts.now c.args.user t c.in_ok-at.at (components c.look_in.new.name)) (sym e.whole);
    }
