-- How the table of processes, the table of slots and what is kept of images belong together.
use Rattle.std.specs.Prelude.{◌≡◌, ◌≢◌, ℕ, ◌+◌, ◌<◌, ◌≤◌, ◌==◌, Bool, true, false, if◌then◌else◌, List, length, count_by, Option, Some, None, Result, Ok, Err}
use Rattle.v6_base.specs.declared.entry.PanicKind.{PanicKind}
use Rattle.v6_base.specs.declared.answer.Answer.{Answer}
use Rattle.pick_rules.specs.declared.row.Stat.{Stat}
use Rattle.pick_rules.specs.declared.row.Stat.TheVariants.{Empty, Sleeping, Waiting, Ready, Zombie}
use Rattle.pick_rules.specs.declared.row.TableRow.{TableRow}
use Rattle.pick_rules.specs.declared.table.Table.{Table}
use Rattle.pick_rules.specs.Table.{row_at, IsTable}
use Rattle.pick_rules.specs.Logged.{Stop}
use Rattle.proc_tab.specs.declared.member.Member.{Member}
use Rattle.proc_tab.specs.Processes.{Processes, member_at}
use Rattle.image_keep.specs.Kept.{Held, Keeping, Nothing, Alive, Grave, Kept, text_of, area_of, HasImage, keeping, place_in, clicks_of}
use Rattle.sys_procs.specs.TextTable.{is_text_of, marks_of}
use Rattle.sys_procs.specs.World.{World, texts_in}
-- The board of the log.
pub use Rattle.swap_sched.specs.Match.{text_place, board_of}

-- whether a slot is free, has a process, or one that has ended
pub data Kind : Type 0 where
  Free : Kind
  Lives : Kind
  Died : Kind

abbrev pub kind_by : Bool → Kind
kind_by true = Died
kind_by false = Lives

abbrev pub kind_of_member : Option Member → Kind
kind_of_member None = Free
kind_of_member (Some m) = kind_by m.is_dead

abbrev pub kind_of_stat : Stat → Kind
kind_of_stat Empty = Free
kind_of_stat Sleeping = Lives
kind_of_stat Waiting = Lives
kind_of_stat Ready = Lives
kind_of_stat Zombie = Died

abbrev pub kind_of_keeping : Keeping → Kind
kind_of_keeping Nothing = Free
kind_of_keeping (Alive held) = Lives
kind_of_keeping (Grave u block) = Died

-- one slot: who has no image shares no text
pub record Agrees (m : Option Member) (row : TableRow) (x : Keeping) : Type 0 where
  pub stat : kind_of_stat row.stat ≡ kind_of_member m
  pub image : kind_of_keeping x ≡ kind_of_member m
  pub place : row.place ≡ place_in x
  pub size : (held : Held) → x ≡ Alive held → row.size ≡ clicks_of held.u
  pub quiet : kind_of_member m ≢ Lives → row.channel ≡ None
  pub textless : kind_of_member m ≢ Lives → row.text ≡ None

pub record Agree (v : Processes) (t : Table) (k : Kept) : Type 0 where
  pub table : IsTable t
  pub rows : length t.rows ≡ 50
  pub kernel : (row_at t 0).place ≡ None
  pub images : keeping k 0 ≡ Nothing
  pub each : (s : ℕ) → 0 < s → s < 50 → Agrees (member_at v.slots s) (row_at t s) (keeping k s)
  pub text : (s : ℕ) → 0 < s → s < 50 → (row_at t s).text ≡ text_of k s
  pub textless : text_of k 0 ≡ None

-- The same where the process of a slot has stopped between its old image and its new one: it lives, and it has neither an image
-- nor a place.
pub record AgreesBare (m : Option Member) (row : TableRow) (x : Keeping) : Type 0 where
  pub lives : kind_of_member m ≡ Lives
  pub stat : kind_of_stat row.stat ≡ Lives
  pub place : row.place ≡ None
  pub image : x ≡ Nothing

pub record AgreeBare (v : Processes) (t : Table) (k : Kept) (s : ℕ) : Type 0 where
  pub table : IsTable t
  pub rows : length t.rows ≡ 50
  pub kernel : (row_at t 0).place ≡ None
  pub images : keeping k 0 ≡ Nothing
  pub bare : AgreesBare (member_at v.slots s) (row_at t s) (keeping k s)
  pub others : (r : ℕ) → 0 < r → r < 50 → r ≢ s → Agrees (member_at v.slots r) (row_at t r) (keeping k r)
  pub text : (r : ℕ) → 0 < r → r < 50 → (row_at t r).text ≡ text_of k r
  pub textless : text_of k 0 ≡ None

-- Whether the marks of inodes are those of the texts that are kept.
abbrev pub AreMarks : List Bool → Kept → Type 0
AreMarks marks k = marks ≡ marks_of (texts_in k)

-- how often a process, which is in its directory, and the texts refer to an inode
abbrev pub refers : Kept → ℕ → ℕ → ℕ
refers k s ino = (if (area_of k s).dir == ino then 1 else 0) + count_by (is_text_of ino) (texts_in k)

-- A process calls: it runs, and it has an image. Its directory and all texts are referred to.
pub record IsCalling (v : Processes) (t : Table) (k : Kept) (references : ℕ → ℕ) (s : ℕ) : Type 0 where
  pub agree : Agree v t k
  pub runs : t.running ≡ Some s
  pub user : 0 < s
  pub image : HasImage k s
  pub referred : (ino : ℕ) → refers k s ino ≤ references ino
  pub few : (ino : ℕ) → references ino ≤ 65500

-- what a call answers by its row, unless an effect of it stops
abbrev pub answered : Option (Stop World) → Answer → Result Answer PanicKind
answered None answer = Ok answer
answered (Some stop) answer = Err stop.why

-- the same of the end of a process, which has no answer
abbrev pub ended_by : Option (Stop World) → Result (Unit {0}) PanicKind
ended_by None = Ok tt
ended_by (Some stop) = Err stop.why
