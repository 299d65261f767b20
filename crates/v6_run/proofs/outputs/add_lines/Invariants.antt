use Rattle.std.proofs.Common.{◌≡◌, ◌-◌, ◌++◌, map}
use Rattle.std.specs.List.{range_with_len}
use Rattle.v6_run.specs.Opened.{line_output}
use Rattle.v6_run.specs.Opening.{output_value}
use Rattle.v6_run.proofs.outputs.add_lines.Given as goal

abbrev pub invariant-numbers : goal.invariant-numbers
invariant-numbers l = record {
  so_far : map output_value l.outputs.items
      ≡ map output_value l.initial.outputs.items ++ map (line_output l.files.term.now) (range_with_len 1 (l.line - 1));
}
