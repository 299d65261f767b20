use Rattle.std.proofs.Common.{subst, sym, arith, ◌∙◌}
use Rattle.make_image.specs.Adding.{Holds}
use Rattle.make_image.specs.Files.{fixed_nodes, plain_file}
use Rattle.make_image.proofs.FilesLemmas.{holds_file, range_more, whole_blocks}
use Rattle.make_image.proofs.tree.files.Goals as goal

pub loop-k-preserved : goal.loop-k-preserved
loop-k-preserved c =
    let added = c.in_ok-add_file.ensures in
    let more = holds_file _ _ _ c.loop-k.invariant.nodes (c.deref.ensures.value ∙ c.in_ok-plain_file.ensures.items) added in
    record {
      nodes = subst (λ l. Holds l c.add_file.new.self) (sym (range_more (fixed_nodes c.args.n) (plain_file c.args.n) c.loop-k.k)) more;
      few = omega (arith, added.one);
      small = omega (arith, added.small);
    }

pub returns-clause-whole : goal.returns-clause-whole
returns-clause-whole c = whole_blocks _ c.loop-k.files c.loop-k.invariant.nodes
