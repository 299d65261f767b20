-- Who waits in a call on an open file can go on: what changes of processes and of open files keep that.
use Rattle.std.proofs.Common.{◌≡◌, ◌≢◌, ◌<◌, ◌≤◌, ◌+◌, ◌∙◌, ℕ, true, false, List, length, get_or, set, Option, Some, None, slice_index, refl, sym, ap, subst, inl, inr, arith, ◌⊎◌}
use Rattle.std.proofs.lemmas.Bool.{cases_eq}
use Rattle.std.proofs.lemmas.List.{get_or-set_same, get_or-set_other, length-set}
use Rattle.std.proofs.lemmas.List.Sums.{get_or-le-sum_by}
use Rattle.v6_base.specs.declared.answer.Answer.{Answer}
use Rattle.v6_base.specs.declared.answer.Answer.TheVariants.{Ret, Fail, Sleep}
use Rattle.open_files.specs.declared.file.OpenFile.{OpenFile}
use Rattle.open_files.specs.declared.file.FileKind.{FileKind}
use Rattle.open_files.specs.Files.{file_at, times, changed, with_more, shared}
use Rattle.u_area.specs.declared.layout.TheConstants.{NOTHING_PENDING, DISK_WAIT}
use Rattle.u_area.specs.Pending.{is_on_files, IsPipeCall, IsFileCall}
use Rattle.u_area.proofs.PendingLemmas.{on_files_cases}
use Rattle.sys_files.specs.Handed.{Handed}
use Rattle.sys_files.specs.Sound.{numbers_of, StaysOpen, IsKept}
use Rattle.sys_files.specs.Sound as sound
use Rattle.sys_procs.specs.Process.{Process}
use Rattle.sys_procs.specs.World.{World}
use Rattle.abstract_unix.specs.Unix.{Unix, process_at, process_of, with_process}
use Rattle.abstract_unix.specs.Calls.{handed_of, with_handed, with_world, shares}
use Rattle.abstract_unix.specs.Whole.{Told, told_of, told_in, names, all_names, Owed, CanGoOn}
use Rattle.abstract_unix.proofs.Owing.{told_at, some_within, names_set}
use Rattle.abstract_unix.proofs.Sharing.{shared_at}
use Rattle.abstract_unix.proofs.PendingRows.{never_in_call, HasFile, IsAtFile, Pends}

-- Who lives in a slot and waits in a call on an open file has a number for it.
abbrev pub HoldsFile : List (Option OpenFile) → Option Process → Type 0
HoldsFile files o = (p : Process) → o ≡ Some p → p.is_zombie ≡ false → IsFileCall p.u.pending → IsAtFile files p.u

pub file_held : (u : Unix) (s : ℕ) → CanGoOn u → HoldsFile u.files (process_at u s)
file_held u s can p is lives waits =
    let own = can.waits s p is lives waits in
    record { end = record { file = own.file; there = own.there; pipe = own.pipe; named = own.named }; left = own.left }

pub goes_on_by : (u : Unix) → ((s : ℕ) → HoldsFile u.files (process_at u s)) → CanGoOn u
goes_on_by u each = record {
  waits = λ s p is lives waits.
      let own = each s p is lives waits in
      record { file = own.end.file; there = own.end.there; pipe = own.end.pipe; named = own.end.named; left = own.left };
}

-- a pending call that is a wait on an open file, or for the disk
abbrev pub Waiting : ℕ → Type 0
Waiting n = IsFileCall n ⊎ (n ≡ DISK_WAIT)

pub never_waiting : {P : Type 0} (n : ℕ) → n ≡ NOTHING_PENDING → Waiting n → P
never_waiting n free (inl call) = never_in_call n free call
never_waiting n free (inr disk) = absurd (omega (arith, free, disk))

-- Who waits so in a slot waited in it before, in the same call and with the same numbers.
pub record Waited (o : Option Process) (q : Process) : Type 0 where
  pub before : Process
  pub there : o ≡ Some before
  pub dead : before.is_zombie ≡ q.is_zombie
  pub pending : before.u.pending ≡ q.u.pending
  pub call : before.u.call ≡ q.u.call
  pub files : before.u.files ≡ q.u.files

abbrev pub WaitedIn : Option Process → Option Process → Type 0
WaitedIn old new = (q : Process) → new ≡ Some q → Waiting q.u.pending → Waited old q

abbrev pub AllWaited : List (Option Process) → List (Option Process) → Type 0
AllWaited old new = (s : ℕ) → WaitedIn (get_or old s None) (get_or new s None)

pub waited_same : (o : Option Process) → WaitedIn o o
waited_same o q is waits = record { before = q; there = is; dead = refl; pending = refl; call = refl; files = refl }

pub waited_then : (a b c : Option Process) → WaitedIn a b → WaitedIn b c → WaitedIn a c
waited_then a b c first second q is waits =
    let later = second q is waits in
    let sooner = first later.before later.there (subst Waiting (sym later.pending) waits) in
    record {
      before = sooner.before;
      there = sooner.there;
      dead = sooner.dead ∙ later.dead;
      pending = sooner.pending ∙ later.pending;
      call = sooner.call ∙ later.call;
      files = sooner.files ∙ later.files;
    }

pub all_waited_same : (ps : List (Option Process)) → AllWaited ps ps
all_waited_same ps s = waited_same (get_or ps s None)

pub all_waited_then : (a b c : List (Option Process)) → AllWaited a b → AllWaited b c → AllWaited a c
all_waited_then a b c first second s = waited_then (get_or a s None) (get_or b s None) (get_or c s None) (first s) (second s)

-- a process that waits as another does, and one that waits neither on an open file nor for the disk
pub like_waited : (p q : Process) → q.is_zombie ≡ p.is_zombie → q.u.pending ≡ p.u.pending → q.u.call ≡ p.u.call
    → q.u.files ≡ p.u.files → WaitedIn (Some p) (Some q)
like_waited p q dead pending call files r is waits =
    let same : q ≡ r = cc is in
    record {
      before = p;
      there = refl;
      dead = sym dead ∙ ap (λ (x : Process). x.is_zombie) same;
      pending = sym pending ∙ ap (λ (x : Process). x.u.pending) same;
      call = sym call ∙ ap (λ (x : Process). x.u.call) same;
      files = sym files ∙ ap (λ (x : Process). x.u.files) same;
    }

pub apart_waited : (o : Option Process) (q : Process) → (Waiting q.u.pending → ⊥) → WaitedIn o (Some q)
apart_waited o q never r is waits =
    let same : q ≡ r = cc is in absurd (never (subst (λ (x : Process). Waiting x.u.pending) (sym same) waits))

pub user_waited : (o : Option Process) (q : Process) → q.u.pending ≡ NOTHING_PENDING → WaitedIn o (Some q)
user_waited o q free = apart_waited o q (never_waiting q.u.pending free)

pub gone_waited : (o : Option Process) → WaitedIn o None
gone_waited o q is waits = absurd (cc is)

-- one slot is put
pub all_waited_put : (ps : List (Option Process)) (s : ℕ) (o : Option Process) → WaitedIn (get_or ps s None) o
    → AllWaited ps (set ps s o)
all_waited_put ps s o own r q is waits = elim (cases_eq r s) [
  | inl here ↦
      let low : s < length ps = let l = some_within (set ps s o) r q is in let same = length-set ps s o in omega (arith, l, same, here) in
      let there : o ≡ Some q = sym (get_or-set_same ps s o None low) ∙ ap (λ n. get_or (set ps s o) n None) (sym here) ∙ is in
      subst (λ n. Waited (get_or ps n None) q) (sym here) (own q there waits)
  | inr other ↦ waited_same (get_or ps r None) q (sym (get_or-set_other ps s r o None other) ∙ is) waits
]

-- 1. Processes change, and the table of open files doesn't.
waited_file : (files : List (Option OpenFile)) (old new : Option Process) → HoldsFile files old → WaitedIn old new
    → HoldsFile files new
waited_file files old new held waited q is lives waits =
    let was = waited q is (inl waits) in
    let own = held was.before was.there (was.dead ∙ lives) (subst IsFileCall (sym was.pending) waits) in
    let call : was.before.u.call ≡ q.u.call = was.call in
    let entry : slice_index was.before.u.call 0 ≡ slice_index q.u.call 0 = ap (λ l. slice_index l 0) call in
    record {
      end = record {
        file = own.end.file;
        there = ap (file_at files) (sym entry) ∙ own.end.there;
        pipe = λ piped. own.end.pipe (subst IsPipeCall (sym was.pending) piped);
        named = subst (λ l. 1 ≤ times l (slice_index q.u.call 0)) was.files (subst (λ n. 1 ≤ times was.before.u.files n) entry own.end.named);
      };
      left = subst (λ l. slice_index l 3 ≤ slice_index l 2) call own.left;
    }

pub waited_goes_on : (u v : Unix) → CanGoOn u → AllWaited u.processes v.processes → v.files ≡ u.files → CanGoOn v
waited_goes_on u v can waited files =
    goes_on_by v (λ s. subst (λ f. HoldsFile f (process_at v s)) (sym files) (waited_file u.files (process_at u s) (process_at v s) (file_held u s can) (waited s)))

pub put_goes_on : (u : Unix) (s : ℕ) (q : Process) → CanGoOn u → WaitedIn (process_at u s) (Some q) → CanGoOn (with_process u s q)
put_goes_on u s q can waited = waited_goes_on u (with_process u s q) can (all_waited_put u.processes s (Some q) waited) refl

-- A process in a slot is another, and waits in no call on a file.
pub moved_goes_on : (u : Unix) (s : ℕ) (q : Process) → CanGoOn u → s < length u.processes → (IsFileCall q.u.pending → ⊥)
    → CanGoOn (with_process u s q)
moved_goes_on u s q can low never = goes_on_by (with_process u s q) each
  where
    own : HoldsFile u.files (Some q)
    own r same living waits =
        let eq : q ≡ r = cc same in absurd (never (subst (λ (x : Process). IsFileCall x.u.pending) (sym eq) waits))

    each : (r : ℕ) → HoldsFile u.files (get_or (set u.processes s (Some q)) r None)
    each r = elim (cases_eq r s) [
      | inl here ↦ subst (HoldsFile u.files) (sym (ap (λ n. get_or (set u.processes s (Some q)) n None) here ∙ get_or-set_same u.processes s (Some q) None low)) own
      | inr other ↦ subst (HoldsFile u.files) (sym (get_or-set_other u.processes s r (Some q) None other)) (file_held u r can)
    ]

pub world_goes_on : (u : Unix) (w : World) → CanGoOn u → AllWaited u.processes w.processes → CanGoOn (with_world u w)
world_goes_on u w can waited = waited_goes_on u (with_world u w) can waited refl

-- nobody waits in a call on a file
pub none_goes_on : (u : Unix) → ((s : ℕ) (p : Process) → process_at u s ≡ Some p → p.u.pending ≡ NOTHING_PENDING) → CanGoOn u
none_goes_on u none = goes_on_by u (λ s p is lives waits. never_in_call p.u.pending (none s p is) waits)

-- What the process of a slot is handed waits with its file there,
pub handed_pends : (u : Unix) (s : ℕ) → CanGoOn u → get_or u.processes s None ≡ Some (process_of u s)
    → (process_of u s).is_zombie ≡ false
    → Pends (handed_of u (process_of u s))
handed_pends u s can is lives waits = file_held u s can (process_of u s) is lives waits

-- and so its call can go on.
pub handed_goes_on : (u : Unix) (s : ℕ) → CanGoOn u → get_or u.processes s None ≡ Some (process_of u s)
    → (process_of u s).is_zombie ≡ false
    → is_on_files (process_of u s).u.pending ≡ true → sound.CanGoOn (handed_of u (process_of u s))
handed_goes_on u s can is lives on =
    let which = on_files_cases (process_of u s).u.pending on in
    let own = handed_pends u s can is lives which in
    record { which = which; file = own.end.file; there = own.end.there; pipe = own.end.pipe; within = own.left }

-- 2. A call on files of the process of a slot. An entry that another process names has one number more at least.
pub named_twice : (ts : List (Option Told)) (s r : ℕ) (t x : Told) (entry : ℕ) → get_or ts s None ≡ Some t
    → get_or ts r None ≡ Some x → r ≢ s
    → times t.files entry + times x.files entry ≤ all_names ts entry
unfolding all_names
named_twice ts s r t x entry here there other =
    let low = some_within ts s t here in
    let rest : List (Option Told) = set ts s None in
    let change = names_set ts s None entry low in
    let old : names entry (get_or ts s None) ≡ times t.files entry = ap (names entry) here in
    let at : get_or rest r None ≡ Some x = get_or-set_other ts s r None None other ∙ there in
    let least = get_or-le-sum_by (names entry) rest r None (some_within rest r x at) in
    let one : names entry (get_or rest r None) ≡ times x.files entry = ap (names entry) at in
    omega (arith, change, old, least, one)

pub handed_back_goes_on : (u : Unix) (s : ℕ) (h : Handed) → ((entry : ℕ) → numbers_of (file_at u.files entry) ≡ all_names (told_in u.processes) entry)
    → CanGoOn u → get_or u.processes s None ≡ Some (process_of u s) → (process_of u s).is_zombie ≡ false
    → ((entry : ℕ) (file : OpenFile) → file_at u.files entry ≡ Some file → times (process_of u s).u.files entry < file.count → StaysOpen h.files entry file)
    → Pends h → CanGoOn (with_handed u s h)
handed_back_goes_on u s h counted can is lives others pends = goes_on_by (with_handed u s h) each
  where
    p : Process
    p = process_of u s

    q : Process
    q = record p { u = h.u; row = h.row; «data» = h.image.data; stack = h.image.stack }

    ps : List (Option Process)
    ps = u.processes

    own : HoldsFile h.files (Some q)
    own r same living waits =
        let eq : q ≡ r = cc same in
        subst (λ (x : Process). IsAtFile h.files x.u) eq (pends (subst (λ (x : Process). IsFileCall x.u.pending) (sym eq) waits))

    stays : (r : ℕ) → r ≢ s → HoldsFile h.files (get_or ps r None)
    stays r other x there living waits =
        let held = file_held u r can x there living waits in
        let entry : ℕ = slice_index x.u.call 0 in
        let both = named_twice (told_in ps) s r (told_of p) (told_of x) entry (told_at ps s p is lives) (told_at ps r x there living) other in
        let count = counted entry in
        let more = held.end.named in
        let numbers : numbers_of (file_at u.files entry) ≡ held.end.file.count = ap numbers_of held.end.there in
        let now = others entry held.end.file held.end.there (omega (arith, both, count, more, numbers)) in
        record {
          end = record {
            file = now.now;
            there = now.there;
            pipe = λ piped. ap (λ (k : FileKind). k.pipe) now.kind ∙ held.end.pipe piped;
            named = more;
          };
          left = held.left;
        }

    each : (r : ℕ) → HoldsFile h.files (get_or (set ps s (Some q)) r None)
    each r = elim (cases_eq r s) [
      | inl here ↦
          let low = some_within ps s p is in
          subst (HoldsFile h.files) (sym (ap (λ n. get_or (set ps s (Some q)) n None) here ∙ get_or-set_same ps s (Some q) None low)) own
      | inr other ↦ subst (HoldsFile h.files) (sym (get_or-set_other ps s r (Some q) None other)) (stays r other)
    ]

pub file_goes_on : (refs : List ℕ) (u : Unix) (s : ℕ) (h : Handed) → Owed refs u → CanGoOn u
    → get_or u.processes s None ≡ Some (process_of u s)
    → (process_of u s).is_zombie ≡ false → IsKept (handed_of u (process_of u s)) h → Pends h → CanGoOn (with_handed u s h)
file_goes_on refs u s h owed can is lives kept pends = handed_back_goes_on u s h owed.numbers can is lives kept.others pends

-- 3. fork(II): files that are shared stay open, of the same kind.
shared_end : (files : List (Option OpenFile)) (mine more : List ℕ) (pending entry : ℕ) → HasFile files mine pending entry
    → HasFile (shared files more) mine pending entry
shared_end files mine more pending entry end =
    let low = some_within files entry end.file end.there in
    record {
      file = with_more (times more entry) end.file;
      there = shared_at files more entry low ∙ ap (changed (with_more (times more entry))) end.there;
      pipe = end.pipe;
      named = end.named;
    }

pub shared_goes_on : (u : Unix) (more : List ℕ) → CanGoOn u → CanGoOn (record u { files = shared u.files more })
shared_goes_on u more can = goes_on_by (record u { files = shared u.files more }) (λ s p is lives waits.
    let own = file_held u s can p is lives waits in
    record { end = shared_end u.files p.u.files more p.u.pending (slice_index p.u.call 0) own.end; left = own.left })

pub shares_goes_on : (u : Unix) (more : List ℕ) (answer : Answer) → CanGoOn u
    → CanGoOn (record u { files = shares u.files more answer })
shares_goes_on u more (Ret r0 r1) can = shared_goes_on u more can
shares_goes_on u more (Fail e) can = waited_goes_on u (record u { files = u.files }) can (all_waited_same u.processes) refl
shares_goes_on u more (Sleep pri chan) can = waited_goes_on u (record u { files = u.files }) can (all_waited_same u.processes) refl
