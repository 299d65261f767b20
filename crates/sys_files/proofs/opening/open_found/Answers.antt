use Rattle.std.proofs.Common.{sym, ap, ◌∙◌}
use Rattle.fs_tree.specs.Finding.{inodes_of, with_reference}
use Rattle.sys_files.specs.Handed.{Handed, handed, node_in, line_of}
use Rattle.sys_files.specs.Did.{Did}
use Rattle.sys_files.specs.Opening.{with_tty, lines_opened}
use Rattle.sys_files.proofs.opening.open_found.Goals as goal

pub returns-in-Ok-clause-state : goal.returns-in-Ok-clause-state
returns-in-Ok-clause-state c = λ image.
    let h : Handed = handed c.args.f.now c.args.u.now c.args.row.now image in
    let a = c.in-Ok.ensures.outcome in
    let tree = c.add_number.ensures.tree in
    let row = c.take_terminal.ensures h (sym c.add_number.ensures.lines) ∙ (λ i. with_tty c.args.row.now (line_of h (node_in (tree i).nodes.store c.args.ino))) in
    let lines = c.open_line.ensures h (sym c.add_number.ensures.lines)
    ∙ (λ i. lines_opened h (line_of h (node_in (tree i).nodes.store c.args.ino))) in
    let inodes = c.refer_again.ensures.inodes in
    (λ i. record (handed c.add_number.new.f c.add_number.new.u c.args.row.now image) { inodes = inodes i; row = row i; lines = lines i })
    ∙ (λ i. record h {
      inodes = with_reference (inodes_of (tree i).nodes) c.args.ino;
      mounts = (tree i).mounts;
      marks = (tree i).marks;
      files = a.1 i;
      pipes = c.add_number.ensures.pipes i;
      u = a.2 i;
      row = with_tty c.args.row.now (line_of h (node_in c.args.f.now.tree.nodes.store c.args.ino));
      lines = lines_opened h (line_of h (node_in c.args.f.now.tree.nodes.store c.args.ino));
    })
    ∙ ap (λ (d : Did). d.state) (sym (a.3 c.args.row.now image))
