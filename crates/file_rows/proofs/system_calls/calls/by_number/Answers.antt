use Rattle.v6_base.specs.Whole.{whole_image}
use Rattle.file_rows.proofs.system_calls.calls.by_number.Goals as goal

pub returns-in_default : goal.returns-in_default
returns-in_default c = c.close_all.ensures.kept c.args.row.now (whole_image c.args.s.now)
