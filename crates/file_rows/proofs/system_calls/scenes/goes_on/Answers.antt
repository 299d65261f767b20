use Rattle.fs_nodes.specs.Keys.{counts}
use Rattle.sys_files.specs.Handed.{Handed}
use Rattle.sys_files.specs.Sound.{IsKept}
use Rattle.file_rows.specs.Ready.{IsReady}
use Rattle.file_rows.proofs.ReadyLemmas.{kept_ready}
use Rattle.file_rows.proofs.system_calls.scenes.goes_on.Goals as goal

ready_after : {old new : Handed} → IsKept old new
    → IsReady old.files old.pipes old.u.files old.u.dir old.mounts old.inodes.references (counts old.inodes.store)
    → IsReady new.files new.pipes new.u.files new.u.dir new.mounts new.inodes.references (counts new.inodes.store)
ready_after {old} {new} kept ready = kept_ready old new ready kept

pub returns : goal.returns
returns c = ready_after c.resume_file-answer.ensures.does.kept c.requires
