use Rattle.std.proofs.Common.{◌≡◌, Err, rules, refl, subst}
use Rattle.fs_nodes.specs.FileSystem.{FileSystem}
use Rattle.fs_tree.specs.Entries.{written, WritesEntry}
use Rattle.sys_files.specs.Handed.{node_in}
use Rattle.sys_files.proofs.WritingLemmas.{first_refused, second_written, entry_is}
use Rattle.sys_files.proofs.core_file.write_bytes.Goals as goal

pub returns-in_err-write_part-clause-written : goal.returns-in_err-write_part-clause-written
returns-in_err-write_part-clause-written g c = λ bytes loaded.
    let old : FileSystem = c.args.nodes.now in
    let new : FileSystem = c.write_part.new.nodes in
    let is : Err c.in_err-write_part.field-0.0 ≡ c.from_residual.result = search rules in
    let w = first_refused old.store new.store new.store c.args.ino
    (g.S.Space.image c.args.space.now) c.args.at _ c.args.offset c.args.count c.min-first.result c.args.now bytes
    loaded c.min-first.ensures refl c.write_part.ensures.there c.in_err-write_part.field-0.0
    (c.in_err-write_part.ensures.written _ c.write_part.ensures.there) in
    entry_is old new c.args.ino c.args.offset bytes c.args.now c.from_residual.result
    (subst (λ r. WritesEntry old.store c.args.ino
    (written old.store c.args.ino (node_in old.store c.args.ino) c.args.offset bytes c.args.now) new.store r) is w)
    c.write_part.ensures.references

pub returns-clause-written : goal.returns-clause-written
returns-clause-written g c = λ bytes loaded.
    let old : FileSystem = c.args.nodes.now in
    let middle : FileSystem = c.write_part.new.nodes in
    let new : FileSystem = c.write_part-2.new.nodes in
    let references : new.references ≡ old.references = search rules in
    entry_is old new c.args.ino c.args.offset bytes c.args.now c.write_part-2.result
    (second_written old.store middle.store new.store c.args.ino
    (g.S.Space.image c.args.space.now) c.args.at _ c.args.offset c.args.count c.min-first.result c.args.now bytes
    loaded c.min-first.ensures refl c.write_part.ensures.there c.in_ok-write_part.field-0 c.write_part-2.result
    (c.in_ok-write_part.ensures.written _ c.write_part.ensures.there) (c.write_part-2.ensures.written))
    references
