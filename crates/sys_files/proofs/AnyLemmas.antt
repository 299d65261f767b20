-- A row and an image, for what is so with each of them.
use Rattle.std.proofs.Common.{[]}
use Rattle.v6_base.specs.Image.{Image}
use Rattle.proc_tab.specs.declared.row.Row.{Row}

pub any_row : Row
any_row = record { pid = 0; ppid = 0; uid = 0; sig = 0; tty = 0 }

pub any_image : Image
any_image = record { text = []; «data» = []; stack = [] }
