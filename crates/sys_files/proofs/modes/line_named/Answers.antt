use Rattle.std.proofs.Common.{rules, ◌≡◌, ℕ, Result, Err, refl, ap, ◌∙◌}
use Rattle.v6_base.specs.declared.errno.Errno.{Errno}
use Rattle.sys_files.specs.Handed.{Handed, handed}
use Rattle.sys_files.specs.Did.{check}
use Rattle.sys_files.proofs.AnyLemmas.{any_row, any_image}
use Rattle.sys_files.proofs.OffsetLemmas.{referred_there}
use Rattle.sys_files.proofs.ModesLemmas.{terminal_is, terminal_refused}
use Rattle.sys_files.proofs.modes.line_named.Goals as goal

pub returns-in_err-entry-clause-line : goal.returns-in_err-entry-clause-line
returns-in_err-entry-clause-line c = λ row image does.
    let h : Handed = handed c.args.f.now c.args.u.now row image in
    let is : Err c.in_err-entry.field-0.0 ≡ c.from_residual.result = search rules in
    terminal_refused h does c.in_err-entry.field-0.0 (c.in_err-entry.ensures.entry row image)
    ∙ ap (λ (r : Result ℕ Errno). check h r does) is

pub file_of-file-requires : goal.file_of-file-requires
file_of-file-requires c = record { used = c.in_ok-entry.ensures.used (c.requires.sound any_row any_image).is_open }

pub terminal_line-requires : goal.terminal_line-requires
terminal_line-requires c =
    let h : Handed = handed c.args.f.now c.args.u.now any_row any_image in
    record {
      referenced = referred_there h c.in_ok-entry.entry c.file_of-file.result (c.requires.sound any_row any_image)
          (c.in_ok-entry.ensures.used (c.requires.sound any_row any_image).is_open) (c.file_of-file.ensures c.args.u.now any_row any_image);
    }

pub returns-clause-line : goal.returns-clause-line
returns-clause-line c = λ row image does.
    terminal_is (handed c.args.f.now c.args.u.now row image) does c.in_ok-entry.entry c.file_of-file.result _
    (c.in_ok-entry.ensures.entry row image) (c.file_of-file.ensures c.args.u.now row image)
    (c.terminal_line.ensures.line (handed c.args.f.now c.args.u.now row image) refl)
