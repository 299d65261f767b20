-- The tests of exec(II): those that leave the same world are one, which leaves that world where one of them refuses.
use Rattle.std.proofs.Common.{◌≡◌, ◌∙◌, ◌==◌, ◌&&◌, ◌/◌, ℕ, Bool, true, false, not, List, Option, Some, None}
use Rattle.std.proofs.Common.{if◌then◌else◌, Result, Ok, Err, is_none, IsSome, ◌*◌, ◌<◌, length, refl, sym, ap, arith}
use Rattle.std.specs.Option.{unwrap_or, option_map}
use Rattle.std.proofs.Math.ListN.{get_or-map}
use Rattle.std.specs.Prelude.{slice_index_or}
use Rattle.v6_base.specs.Access.{then_do}
use Rattle.v6_base.specs.declared.errno.Errno.{Errno}
use Rattle.v6_base.specs.declared.errno.Errno.TheVariants.{ENOEXEC, ENOMEM, EACCES, ETXTBSY}
use Rattle.fs_codec.specs.Modes.{file_type}
use Rattle.fs_codec.specs.Store.{Node}
use Rattle.fs_laws.specs.Pieces.{Moving}
use Rattle.fs_nodes.specs.Keys.{Stores, node_numbered}
use Rattle.fs_nodes.specs.FileSystem.{FileSystem}
use Rattle.fs_tree.specs.declared.user.Want.TheVariants.{Execute}
use Rattle.fs_tree.specs.Permission.{permission}
use Rattle.fs_tree.specs.Name.{name_at}
use Rattle.fs_tree.specs.Finding.{Inodes, inodes_of, find_in}
use Rattle.aout_head.specs.Header.{header_of, plan_of}
use Rattle.aout_head.specs.declared.parts.Plan.{Plan}
use Rattle.seg_regs.specs.Sizes.{is_refused}
use Rattle.mount_tab.specs.Mounted.{MountTable}
use Rattle.sys_procs.specs.declared.procs.Procs.{Procs}
use Rattle.sys_procs.specs.declared.program.Program.{Program}
use Rattle.image_keep.specs.Kept.{Kept, Shared, shared, shared_clicks, bytes_in}
use Rattle.image_keep.specs.SharedTexts.{AreLong, AreShared, HasNoText, IsTextOf, is_of_inode, found_text, row_in}
use Rattle.image_keep.proofs.TextSearch.{position_map}
use Rattle.sys_procs.specs.Process.{Process}
use Rattle.sys_procs.specs.TextTable.{Text, text_of, is_text_of, entry_of}
use Rattle.sys_procs.specs.World.{World, text_in, texts_in, with_inodes, let_go}
use Rattle.sys_procs.specs.Stack.{arguments, stack_clicks}
use Rattle.sys_procs.specs.Tests.{must, user_of, no_node, node_in}
use Rattle.sys_procs.specs.Handed.{handed, process_here}
use Rattle.sys_procs.specs.inside.Handed.{memory_here}
use Rattle.sys_procs.specs.ExecFile.{Tested, check, with_moved, clicks, entry_clicks, text_clicks_by, text_clicks_in, data_clicks}
use Rattle.sys_procs.specs.inside.Tested.{AreSized}
use Rattle.sys_procs.specs.ExecFile.{answer_to, is_magic, or_no_memory, is_busy, header_read}
use Rattle.sys_procs.specs.ExecFile.{tests_header, tests_file, tests}
use Rattle.sys_procs.proofs.MemoryLemmas.{bytes_at}

-- the entries of the texts that a call is handed are those of the texts that are kept
of_inode : (ino : ℕ) (o : Option Shared) → is_text_of ino (text_in o) ≡ is_of_inode ino o
of_inode ino None = refl
of_inode ino (Some x) = refl

pub entry_is : (k : Kept) (ino : ℕ) → entry_of (texts_in k) ino ≡ found_text k ino
entry_is k ino = position_map text_in (is_of_inode ino) (is_text_of ino) (of_inode ino) k.texts

-- a text is as long as its clicks say
pub row_clicks : (o : Option Shared) → (row_in o).clicks ≡ shared_clicks o
row_clicks None = refl
row_clicks (Some x) = refl

pub text_long : (k : Kept) (t : ℕ) → AreLong k → length (text_of (texts_in k) t).bytes ≡ 64 * (row_in (shared k t)).clicks
text_long k t long = ap length (bytes_at k.texts t) ∙ (long t ∙ ap (λ n. 64 * n) (sym (row_clicks (shared k t))))

clicks_of : (n c : ℕ) → n ≡ 64 * c → n / 64 ≡ c
clicks_of n c e = omega (arith, e)

-- The clicks of the text that a file has in an entry, where one is found.
pub found_clicks : (k : Kept) (ino t : ℕ) → AreLong k → found_text k ino ≡ Some t
    → Some (row_in (shared k t)).clicks ≡ entry_clicks (texts_in k) ino
found_clicks k ino t long found =
    sym (ap (λ o. option_map (λ e. length (text_of (texts_in k) e).bytes / 64) o) (entry_is k ino ∙ found)
    ∙ ap (λ n. Some n) (clicks_of (length (text_of (texts_in k) t).bytes) (row_in (shared k t)).clicks (text_long k t long)))

pub no_clicks : (k : Kept) (ino : ℕ) → found_text k ino ≡ None → None ≡ entry_clicks (texts_in k) ino
no_clicks k ino found = sym (ap (λ o. option_map (λ e. length (text_of (texts_in k) e).bytes / 64) o) (entry_is k ino ∙ found))

-- All texts of the file have these clicks: there is only that one.
record IsAt (o : Option Shared) (text : Text) : Type 0 where
  x : Shared
  is : o ≡ Some x
  told : text ≡ record { ino = x.row.ino; bytes = x.bytes; users = x.row.users }

there_by : (o : Option Shared) (text : Text) → text_in o ≡ Some text → IsAt o text
there_by None text e = absurd (cc e)
there_by (Some x) text e = record { x = x; is = refl; told = sym (cc e) }

text_at : (k : Kept) (e : ℕ) (text : Text) → slice_index_or (texts_in k) e None ≡ Some text → IsAt (shared k e) text
text_at k e text at = there_by (shared k e) text (sym (get_or-map text_in k.texts e None) ∙ at)

pub all_sized : (k : Kept) (ino t : ℕ) → AreShared k → AreLong k → IsTextOf k ino t
    → AreSized (texts_in k) ino (row_in (shared k t)).clicks
all_sized k ino t are long is = λ e text at named.
    let there = text_at k e text at in
    let same : e ≡ t =
    are.apart e t there.x is.0 there.is is.1 (sym (ap (λ (y : Text). y.ino) there.told) ∙ (named ∙ sym is.2)) in
    ap (λ (y : Text). length y.bytes) there.told ∙ (ap (λ o. length (bytes_in o)) (sym there.is)
    ∙ (long e ∙ (ap (λ n. 64 * shared_clicks (shared k n)) same ∙ ap (λ n. 64 * n) (sym (row_clicks (shared k t))))))

pub none_sized : (k : Kept) (ino size : ℕ) → HasNoText k ino → AreSized (texts_in k) ino size
none_sized k ino size none = λ e text at named.
    let there = text_at k e text at in
    absurd (none e there.x there.is (sym (ap (λ (y : Text). y.ino) there.told) ∙ named))

pub sized_by : (texts : List (Option Text)) (ino : ℕ) (there : Option ℕ) (plan : Plan)
    → ((size : ℕ) → AreSized texts ino (unwrap_or there size)) → 0 < text_clicks_by there plan
    → AreSized texts ino (text_clicks_by there plan)
sized_by texts ino there plan sized = by (plan.text == 0)
  where
    by : (b : Bool) → 0 < (if b then 0 else unwrap_or there (clicks plan.text))
        → AreSized texts ino (if b then 0 else unwrap_or there (clicks plan.text))
    by true some = absurd (omega (arith, some))
    by false some = sized (clicks plan.text)

-- what the header comes to, where none of the refusals before it comes
pub none_refuses : {A : Type 0} (error : Option Errno) (is_program is_busy : Bool) (rest : Result A Errno)
    → error ≡ None → is_program ≡ true → is_busy ≡ false
    → rest ≡ then_do (answer_to error) (λ _. then_do (must ENOEXEC is_program) (λ _.
    then_do (must ETXTBSY (not is_busy)) (λ _. rest)))
none_refuses error is_program is_busy rest whole program free =
    sym (λ i. then_do (answer_to (whole i)) (λ _. then_do (must ENOEXEC (program i)) (λ _.
    then_do (must ETXTBSY (not (free i))) (λ _. rest))))

-- where no image can have the sizes of the plan, or there is none
pub unfit : {A : Type 0} (r : Result Plan Errno) (refused : Plan → Bool) (made : Plan → A) (e : Errno)
    → Err e ≡ then_do r (λ plan. then_do (must ENOMEM (not (refused plan))) (λ fits. Ok plan))
    → Err e ≡ then_do r (λ plan. then_do (must ENOMEM (not (refused plan))) (λ fits. Ok (made plan)))
unfit (Err f) refused made e is = let same : e ≡ f = cc is in ap (λ x. Err x) same
unfit (Ok plan) refused made e is = by (refused plan) is
  where
    by : (b : Bool) → Err e ≡ then_do (must ENOMEM (not b)) (λ fits. Ok plan)
        → Err e ≡ then_do (must ENOMEM (not b)) (λ fits. Ok (made plan))
    by true f = let same : e ≡ ENOMEM = cc f in ap (λ x. Err x) same
    by false f = absurd (cc f)

-- a file has clicks of a text where it has an entry
pub no_entry : (texts : List (Option Text)) (ino : ℕ) → is_none (entry_clicks texts ino) ≡ is_none (entry_of texts ino)
no_entry texts ino = by (entry_of texts ino)
  where
    by : (o : Option ℕ) → is_none (option_map (λ k. length (text_of texts k).bytes / 64) o) ≡ is_none o
    by None = refl
    by (Some k) = refl

-- The program that a header of so many bytes comes to, or the refusal.
abbrev pub program_in : World → ℕ → List (List ℕ) → Plan → Program
program_in w ino args plan = record { ino = ino; plan = plan; text_clicks = text_clicks_in w.texts ino plan; arguments = args }

abbrev pub judged : World → ℕ → List (List ℕ) → List ℕ → ℕ → Option Errno → ℕ → Result Program Errno
judged w ino args head done error limit =
    then_do (answer_to error) (λ whole.
    then_do (must ENOEXEC ((done == 16) && is_magic (plan_of (header_of head)))) (λ program.
    then_do (must ETXTBSY (not (is_busy w ino (header_of head)))) (λ free.
    then_do (or_no_memory (plan_of (header_of head))) (λ plan.
    then_do (must ENOMEM (not (is_refused (text_clicks_in w.texts ino plan) (data_clicks plan) stack_clicks limit))) (λ fits.
    Ok (program_in w ino args plan))))))

-- Tests that leave the same world are one.
check_then : {A B : Type 0} (out : World) (r : Result A Errno) (f : A → Result B Errno) (next : B → Tested)
    → check out r (λ a. check out (f a) next) ≡ check out (then_do r f) next
check_then out (Ok a) f next = refl
check_then out (Err e) f next = refl

five_checks : {A B C D : Type 0} (out : World) (first : Result A Errno) (second : Result B Errno)
    (third : Result C Errno) (fourth : Result Plan Errno) (fifth : Plan → Result D Errno) (made : Plan → Program)
    (next : Program → Tested)
    → check out first (λ _. check out second (λ _. check out third (λ _. check out fourth (λ plan.
    check out (fifth plan) (λ _. next (made plan))))))
    ≡ check out (then_do first (λ _. then_do second (λ _. then_do third (λ _. then_do fourth (λ plan.
    then_do (fifth plan) (λ _. Ok (made plan))))))) next
five_checks out (Err e) second third fourth fifth made next = refl
five_checks out (Ok a) (Err e) third fourth fifth made next = refl
five_checks out (Ok a) (Ok b) (Err e) fourth fifth made next = refl
five_checks out (Ok a) (Ok b) (Ok c) (Err e) fifth made next = refl
five_checks out (Ok a) (Ok b) (Ok c) (Ok plan) fifth made next = check_then out (fifth plan) (λ _. Ok (made plan)) next

-- a program that the tests let through
abbrev pub goes_on : World → Program → Tested
goes_on w program = record { answer = Ok program; world = w }

pub header_tested : (w : World) (ino : ℕ) (args : List (List ℕ)) (m : Moving (List ℕ)) (head : List ℕ) (done : ℕ)
    (error : Option Errno) (limit : ℕ) (r : Result Program Errno)
    → m.memory ≡ head → m.done ≡ done → m.error ≡ error → limit ≡ w.limit
    → r ≡ judged w ino args head done error limit
    → check (let_go w ino) r (goes_on w) ≡ tests_header w ino args m
header_tested w ino args m head done error limit r memory number ended most is =
    ap (λ r. check (let_go w ino) r (goes_on w))
    (is ∙ sym (λ i. judged w ino args (memory i) (number i) (ended i) (sym most i)))
    ∙ sym (five_checks (let_go w ino) (answer_to m.error)
    (must ENOEXEC ((m.done == 16) && is_magic (plan_of (header_of m.memory))))
    (must ETXTBSY (not (is_busy w ino (header_of m.memory))))
    (or_no_memory (plan_of (header_of m.memory)))
    (λ plan. must ENOMEM (not (is_refused (text_clicks_in w.texts ino plan) (data_clicks plan) stack_clicks w.limit)))
    (program_in w ino args) (goes_on w))

-- the node of a number that is used
node_by : (o : Option Node) → IsSome o → o ≡ Some (unwrap_or o no_node)
node_by None used = absurd (cc)
node_by (Some node) used = refl

pub node_there : (store : Stores) (ino : ℕ) → IsSome (node_numbered store ino)
    → node_numbered store ino ≡ Some (node_in store ino)
node_there store ino used = node_by (node_numbered store ino) used

-- The tests of a file, by those in front of the header.
three_checks : {A B C : Type 0} (out : World) (first : Result A Errno) (second : Result B Errno)
    (third : Result C Errno) (next : C → Tested)
    → check out first (λ _. check out second (λ _. check out third next))
    ≡ check out (then_do first (λ _. then_do second (λ _. third))) next
three_checks out (Err e) second third next = refl
three_checks out (Ok a) (Err e) third next = refl
three_checks out (Ok a) (Ok b) third next = refl

abbrev pub reads_header : World → ℕ → List (List ℕ) → Tested
reads_header w ino args = tests_header (with_moved w ino (header_read w ino)) ino args (header_read w ino)

pub file_tested : (p : Procs) (fs : FileSystem) (s ino list : ℕ) (r : Result (List (List ℕ)) Errno)
    → r ≡ then_do (permission (node_in fs.store ino) (user_of (process_here p s)) Execute) (λ may.
    then_do (must EACCES (file_type (node_in fs.store ino).mode == 0)) (λ plain.
    arguments (memory_here p s) list))
    → check (let_go (handed p fs) ino) r (reads_header (handed p fs) ino) ≡ tests_file (handed p fs) s ino list
file_tested p fs s ino list r is =
    let w : World = handed p fs in
    let q : Process = process_here p s in
    let may = permission (node_in fs.store ino) (user_of q) Execute in
    let plain = must EACCES (file_type (node_in fs.store ino).mode == 0) in
    ap (λ r. check (let_go w ino) r (reads_header w ino)) is
    ∙ sym (three_checks (let_go w ino) may plain (arguments (memory_here p s) list) (reads_header w ino))

-- All tests, by what the search of the name comes to.
pub program_tested : (mounts : MountTable) (p : Procs) (fs : FileSystem) (s name list : ℕ) (r : Result ℕ Errno) (n : Inodes)
    → r ≡ (find_in (inodes_of fs) mounts (user_of (process_here p s)) (process_here p s).u.dir
    (name_at (memory_here p s) name)).answer
    → n ≡ (find_in (inodes_of fs) mounts (user_of (process_here p s)) (process_here p s).u.dir
    (name_at (memory_here p s) name)).inodes
    → check (with_inodes (handed p fs) n) r (λ ino. tests_file (with_inodes (handed p fs) n) s ino list)
    ≡ tests mounts (handed p fs) s name list
program_tested mounts p fs s name list r n answer inodes =
    let w : World = handed p fs in
    λ i. check (with_inodes w (inodes i)) (answer i) (λ ino. tests_file (with_inodes w (inodes i)) s ino list)

-- what goes on, where no test before it refuses
pub both_hold : {A : Type 0} (may : Result (Unit {0}) Errno) (plain : Bool) (rest : Result A Errno)
    → may ≡ Ok tt → plain ≡ true
    → rest ≡ then_do may (λ _. then_do (must EACCES plain) (λ _. rest))
both_hold may plain rest first second = sym (λ i. then_do (first i) (λ _. then_do (must EACCES (second i)) (λ _. rest)))
