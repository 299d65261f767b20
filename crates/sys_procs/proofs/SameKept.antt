-- Parts that are the same but for the bytes of core and of the swap area: what is handed to a call, the board, and what agrees
-- don't tell of those.
use Rattle.std.proofs.Common.{◌≡◌, ℕ, None, refl, sym, subst}
use Rattle.std.specs.Prelude.{slice_index_or}
use Rattle.std.specs.Option.{unwrap_or}
use Rattle.pick_rules.specs.declared.table.Table.{Table}
use Rattle.proc_tab.specs.Processes.{Processes}
use Rattle.image_keep.specs.Kept.{Kept, HasImage}
use Rattle.image_keep.specs.State.{ImagesState}
use Rattle.fs_nodes.specs.FileSystem.{FileSystem}
use Rattle.fs_tree.specs.Finding.{inodes_of}
use Rattle.sys_procs.specs.declared.procs.Procs.{Procs}
use Rattle.sys_procs.specs.Process.{no_process}
use Rattle.sys_procs.specs.World.{processes_in, world_in}
use Rattle.sys_procs.specs.Agree.{Agree, AgreeBare, board_of}
use Rattle.sys_procs.specs.Handed.{AreProcs, IsAlive, handed, board, process_here}
use Rattle.sys_procs.specs.inside.Handed.{IsBare}

pub record SameKept (q p : Procs) : Type 0 where
  pub rows : q.rows ≡ p.rows
  pub table : q.table ≡ p.table
  pub kept : q.images.kept ≡ p.images.kept
  pub switches : q.switches ≡ p.switches

-- other images that keep the same
pub same_images : {p : Procs} {i : ImagesState} → i.kept ≡ p.images.kept → SameKept (record p { images = i }) p
same_images {p} {i} e = record { rows = refl; table = refl; kept = e; switches = refl }

pub same_handed : {q p : Procs} → SameKept q p → (fs : FileSystem) → handed q fs ≡ handed p fs
same_handed {q} {p} e fs = λ i. world_in (e.rows i) (e.table i) (e.kept i) (e.switches i) (inodes_of fs)

pub same_board : {q p : Procs} → SameKept q p → board q ≡ board p
same_board {q} {p} e = λ i. board_of (e.table i) (e.kept i)

pub same_here : {q p : Procs} → SameKept q p → (s : ℕ) → process_here q s ≡ process_here p s
same_here {q} {p} e s = λ i. unwrap_or (slice_index_or (processes_in (e.rows i).slots (e.kept i)) s None) no_process

pub same_agree : {q p : Procs} → SameKept q p → AreProcs p → AreProcs q
same_agree {q} {p} e a =
    subst (λ (v : Processes). Agree v q.table q.images.kept) (sym e.rows)
    (subst (λ (t : Table). Agree p.rows t q.images.kept) (sym e.table)
    (subst (λ (k : Kept). Agree p.rows p.table k) (sym e.kept) a))

pub same_alive : {q p : Procs} {s : ℕ} → SameKept q p → IsAlive p s → IsAlive q s
same_alive {q} {p} {s} e a = record {
  agree = same_agree e a.agree;
  above = a.above;
  below = a.below;
  image = subst (λ (k : Kept). HasImage k s) (sym e.kept) a.image;
}

pub same_bare : {q p : Procs} {s : ℕ} → SameKept q p → IsBare p s → IsBare q s
same_bare {q} {p} {s} e a = record {
  agree = subst (λ (v : Processes). AgreeBare v q.table q.images.kept s) (sym e.rows)
      (subst (λ (t : Table). AgreeBare p.rows t q.images.kept s) (sym e.table)
      (subst (λ (k : Kept). AgreeBare p.rows p.table k s) (sym e.kept) a.agree));
  above = a.above;
  below = a.below;
}
