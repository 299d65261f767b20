use Rattle.std.proofs.Common.{◌+◌, ◌==◌, if◌then◌else◌, slice_index, IsSome, ap, ◌∙◌, rules}
use Rattle.fs_nodes.specs.Keys.{node_numbered}
use Rattle.sys_files.proofs.OwingLemmas.{once_more}
use Rattle.file_rows.proofs.system_calls.shared.refer.Goals as goal

pub returns-in-Ok : goal.returns-in-Ok
returns-in-Ok c = record {
  references = λ is i.
      let fs = c.peek.new.self in
      let some : IsSome (node_numbered fs.store c.args.ino) = search rules in
      ap (λ l. slice_index l i) c.in-Ok.ensures.outcome.1.references
      ∙ once_more fs.references c.args.ino i (c.see.ensures.low c.args.ino some)
      ∙ ap (λ l. slice_index l i + (if c.args.ino == i then 1 else 0)) c.peek.ensures.same.references;
  store = c.in-Ok.ensures.outcome.1.store ∙ c.peek.ensures.same.store;
}
