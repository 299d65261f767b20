-- A call on files that doesn't sleep leaves the u area of its process as it was, where it opens and closes no file and enters
-- no directory.
use Rattle.std.proofs.Common.{◌≡◌, ◌≢◌, ℕ, false, List, refl, sym, ap, ◌∙◌, subst}
use Rattle.std.specs.Prelude.{⊤, ℤ}
use Rattle.std.proofs.lemmas.Bool.{false≢true}
use Rattle.v6_base.specs.declared.answer.Answer.{Answer}
use Rattle.v6_base.specs.declared.answer.Answer.TheVariants.{Ret, Fail, Sleep}
use Rattle.v6_base.specs.declared.entry.Chan.{Chan}
use Rattle.u_area.specs.declared.area.UArea.{UArea}
use Rattle.image_keep.specs.Kept.{Kept, area_of, with_area}
use Rattle.image_keep.proofs.Frames.{area_back}
use Rattle.sys_files.specs.Handed.{Handed}
use Rattle.sys_files.specs.Did.{Did}
use Rattle.abstract_unix.specs.declared.calls.FileCall.{FileCall}
use Rattle.abstract_unix.specs.declared.calls.FileCall.TheVariants as file
use Rattle.abstract_unix.specs.Calls.{file_row}
use Rattle.sys_files.proofs.Walks.{Walks, owns_all}
use Rattle.abstract_unix.proofs.FileRows.{moves_area, walk_row}

-- The area is what it was, unless the call sleeps.
abbrev Same : UArea → UArea → Answer → Type 0
Same u v (Sleep pri chan) = ⊤
Same u v (Ret a b) = v ≡ u
Same u v (Fail e) = v ≡ u

abbrev Still : UArea → Did → Type 0
Still u did = Same u did.state.u did.answer

-- Each row of a call that moves no numbers and no directory leaves it so.
still_walks : (u : UArea) (slot : ℕ) → Walks (λ h. h.u ≡ u) (Still u) (λ count. Unit {0}) (λ ino. Unit {0}) (λ line. Unit {0}) (λ key. Unit {0}) ⊥ (Unit {0}) slot
still_walks u slot = record {
  refused = λ h e same. same;
  done = λ h a b same. same;
  lets_go = λ ino d still. still tt;
  named = λ ino d still. still tt;
  waits = λ h l entry at count calling line same. tt;
  waits_for_room = λ h l entry at count done calling line same. tt;
  waits_in_pipe = λ h chan pending entry at count left which of awaits same. tt;
  tells = λ entries d few all none still. still;
  lets_out = λ h l front back d few first second same none still. still;
  showing = λ l line bytes count d long few still. still;
  inodes = λ h inodes count touches same. same;
  made = λ h dir mode user now here same. same;
  opened = λ h ino kind fd entry plain number free here moves same. absurd moves;
  ends = λ h ino fd entry next_fd next_entry above within number free next_number next_free here moves same. absurd moves;
  given = λ h fd free named number moves same. absurd moves;
  offset = λ h entry offset same. same;
  dropped = λ h fd named moves same. absurd moves;
  marked = λ h pipe same. same;
  gone = λ h ino none same. same;
  known = λ h entry is same. (tt, tt);
  numbered = λ h l other there same. tt;
  typewriter = λ h l t kept same. same;
  covered = λ h covered same. same;
  enters = λ h dir here moves same. absurd moves;
  terminal = λ h tty same. same;
  signalled = λ h same. same;
  stored = λ h m lengths same. same;
}

pub row_is_still : (call : FileCall) (answer : Answer) → moves_area call ≡ false → ((pri : ℤ) (chan : Chan) → answer ≢ Sleep pri chan)
    → (h : Handed) (slot : ℕ) (args : List ℕ) (now : ℕ) → (file_row call h slot args now).answer ≡ answer
    → (file_row call h slot args now).state.u ≡ h.u
row_is_still call answer is awake h slot args now same =
    by answer awake (subst (Same h.u (file_row call h slot args now).state.u) same
    (walk_row (still_walks h.u slot) call h args now tt (λ moves. false≢true (sym is ∙ moves)) (λ both. tt) (owns_all h) refl))
  where
    by : (a : Answer) → ((pri : ℤ) (chan : Chan) → a ≢ Sleep pri chan) → Same h.u (file_row call h slot args now).state.u a
        → (file_row call h slot args now).state.u ≡ h.u
    by (Ret x y) is same = same
    by (Fail e) is same = same
    by (Sleep pri chan) is same = absurd (is pri chan refl)

-- a call that is none of these
pub stays_put : (call : FileCall) → call ≢ file.Open → call ≢ file.Close → call ≢ file.Creat → call ≢ file.Chdir → call ≢ file.Dup → call ≢ file.Pipe
    → moves_area call ≡ false
stays_put file.Open a b c d e f = absurd (a refl)
stays_put file.Close a b c d e f = absurd (b refl)
stays_put file.Creat a b c d e f = absurd (c refl)
stays_put file.Chdir a b c d e f = absurd (d refl)
stays_put file.Dup a b c d e f = absurd (e refl)
stays_put file.Pipe a b c d e f = absurd (f refl)
stays_put call a b c d e f = refl

-- A u area that is what it was need not be put back.
pub still_put : (k : Kept) (s : ℕ) (u : UArea) → u ≡ area_of k s → k ≡ with_area k s u
still_put k s u is = sym (ap (with_area k s) is ∙ area_back k s)
