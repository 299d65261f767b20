-- The tests of exec leave all processes as they are, and a program that they let through is referred to once more.
use Rattle.std.proofs.Common.{◌≡◌, ◌≢◌, ◌∙◌, ℕ, ◌+◌, ◌<◌, ◌≤◌, ◌==◌, ◌&&◌, Bool, true, false, not, if◌then◌else◌, List, length, set, slice_index, refl, sym, ap, subst, inl, inr, arith}
use Rattle.std.proofs.lemmas.Bool.{cases_eq, cases_lt, eq-eqb, ne_eqb}
use Rattle.std.proofs.lemmas.List.{get_or-set_same, get_or-set_other, get_or_past, length-set}
use Rattle.std.specs.Prelude.{Result, Ok, Err}
use Rattle.v6_base.specs.declared.errno.Errno.{Errno}
use Rattle.v6_base.specs.declared.errno.Errno.TheVariants.{ENOEXEC, ENOMEM, ENFILE, EACCES, ETXTBSY}
use Rattle.v6_base.specs.Access.{then_do}
use Rattle.fs_codec.specs.Modes.{file_type}
use Rattle.fs_codec.specs.Store.{Node}
use Rattle.fs_laws.specs.Pieces.{Moving}
use Rattle.fs_tree.specs.declared.user.Want.TheVariants.{Execute}
use Rattle.fs_tree.specs.Permission.{permission}
use Rattle.fs_tree.specs.Name.{name_at}
use Rattle.fs_tree.specs.Finding.{Finding, Inodes, can_refer, with_reference, finding, find_in}
use Rattle.fs_tree.specs.Path.{way, found}
use Rattle.aout_head.specs.Header.{Header, header_of, plan_of}
use Rattle.seg_regs.specs.Sizes.{is_refused}
use Rattle.mount_tab.specs.Mounted.{MountTable}
use Rattle.sys_procs.specs.declared.program.Program.{Program}
use Rattle.sys_procs.specs.Process.{Process, image_of}
use Rattle.sys_procs.specs.World.{World, process_of, with_inodes, let_go}
use Rattle.sys_procs.specs.Tests.{must, user_of, node_at}
use Rattle.sys_procs.specs.Stack.{arguments, stack_clicks}
use Rattle.sys_procs.specs.ExecFile.{Tested, text_clicks_in, data_clicks, check, with_moved, header_read, answer_to, is_magic, or_no_memory, is_busy, tests_header, tests_file, tests}

abbrev Keeps : World → Tested → Type 0
Keeps w t = t.world.processes ≡ w.processes

keeps_check : {A : Type 0} (w v : World) (a : Result A Errno) (next : A → Tested) → v.processes ≡ w.processes
    → ((x : A) → Keeps w (next x)) → Keeps w (check v a next)
keeps_check w v (Ok x) next same rest = rest x
keeps_check w v (Err e) next same rest = same

keeps_header : (w v : World) (ino : ℕ) (args : List (List ℕ)) (head : Moving (List ℕ)) → v.processes ≡ w.processes
    → Keeps w (tests_header v ino args head)
keeps_header w v ino args head same =
    let h : Header = header_of head.memory in
    let out : World = let_go v ino in
    keeps_check w out (answer_to head.error) _ same (λ read.
    keeps_check w out (must ENOEXEC ((head.done == 16) && is_magic (plan_of h))) _ same (λ program.
    keeps_check w out (must ETXTBSY (not (is_busy v ino h))) _ same (λ free.
    keeps_check w out (or_no_memory (plan_of h)) _ same (λ plan.
    keeps_check w out (must ENOMEM (not (is_refused (text_clicks_in v.texts ino plan) (data_clicks plan) stack_clicks v.limit)))
    _ same (λ fits. same)))))

keeps_file : (w v : World) (s ino list : ℕ) → v.processes ≡ w.processes → Keeps w (tests_file v s ino list)
keeps_file w v s ino list same =
    let p : Process = process_of v s in
    let node : Node = node_at v ino in
    let out : World = let_go v ino in
    let head : Moving (List ℕ) = header_read v ino in
    keeps_check w out (permission node (user_of p) Execute) _ same (λ may.
    keeps_check w out (must EACCES (file_type node.mode == 0)) _ same (λ plain.
    keeps_check w out (arguments (image_of v.texts p) list) _ same (λ args.
    keeps_header w (with_moved v ino head) ino args head same)))

pub tests_processes : (mounts : MountTable) (w : World) (s name list : ℕ) → (tests mounts w s name list).world.processes
    ≡ w.processes
tests_processes mounts w s name list =
    let p : Process = process_of w s in
    let found : Finding ℕ = find_in w.inodes mounts (user_of p) p.u.dir (name_at (image_of w.texts p) name) in
    keeps_check w (with_inodes w found.inodes) found.answer _ refl
    (λ ino. keeps_file w (with_inodes w found.inodes) s ino list refl)

-- A program that is let through is referred to once more, and no other inode is.
abbrev more : List ℕ → ℕ → List ℕ
more l ino = set l ino (slice_index l ino + 1)

abbrev Refers : List ℕ → Tested → Type 0
Refers base t = (program : Program) → t.answer ≡ Ok program → t.world.inodes.references ≡ more base program.ino

refers_check : {A : Type 0} (base : List ℕ) (out : World) (r : Result A Errno) (next : A → Tested)
    → ((a : A) → r ≡ Ok a → Refers base (next a))
    → Refers base (check out r next)
refers_check base out (Ok a) next rest = rest a refl
refers_check base out (Err e) next rest = λ program is. absurd (cc is)

refers_last : (base : List ℕ) (v : World) (made : Program) → v.inodes.references ≡ more base made.ino
    → Refers base (record { answer = Ok made; world = v })
refers_last base v made is = λ program same.
    let it : made ≡ program = cc same in
    is ∙ ap (λ (p : Program). more base p.ino) it

refers_header : (base : List ℕ) (v : World) (ino : ℕ) (args : List (List ℕ)) (head : Moving (List ℕ)) → v.inodes.references
    ≡ more base ino
    → Refers base (tests_header v ino args head)
refers_header base v ino args head is =
    let h : Header = header_of head.memory in
    let out : World = let_go v ino in
    refers_check base out (answer_to head.error) _ (λ read _.
    refers_check base out (must ENOEXEC ((head.done == 16) && is_magic (plan_of h))) _ (λ program _.
    refers_check base out (must ETXTBSY (not (is_busy v ino h))) _ (λ free _.
    refers_check base out (or_no_memory (plan_of h)) _ (λ plan _.
    refers_check base out
    (must ENOMEM (not (is_refused (text_clicks_in v.texts ino plan) (data_clicks plan) stack_clicks v.limit))) _ (λ fits _.
    refers_last base v
    (record { ino = ino; plan = plan; text_clicks = text_clicks_in v.texts ino plan; arguments = args }) is)))))

refers_file : (base : List ℕ) (v : World) (s ino list : ℕ) → v.inodes.references ≡ more base ino
    → Refers base (tests_file v s ino list)
refers_file base v s ino list is =
    let p : Process = process_of v s in
    let node : Node = node_at v ino in
    let out : World = let_go v ino in
    let head : Moving (List ℕ) = header_read v ino in
    refers_check base out (permission node (user_of p) Execute) _ (λ may _.
    refers_check base out (must EACCES (file_type node.mode == 0)) _ (λ plain _.
    refers_check base out (arguments (image_of v.texts p) list) _ (λ args _.
    refers_header base (with_moved v ino head) ino args head is)))

abbrev found_if : Inodes → ℕ → Bool → Finding ℕ
found_if n i b = if b then record { answer = Ok i; inodes = with_reference n i } else record { answer = Err ENFILE; inodes = n }

found_refers : (n : Inodes) (o : Result ℕ Errno) (ino : ℕ) → (finding n o).answer ≡ Ok ino → (finding n o).inodes.references
    ≡ more n.references ino
found_refers n (Err e) ino is = absurd (cc is)
found_refers n (Ok i) ino is = by (can_refer n i) is
  where
    by : (b : Bool) → (found_if n i b).answer ≡ Ok ino → (found_if n i b).inodes.references ≡ more n.references ino
    by true same = let here : i ≡ ino = cc same in ap (λ j. more n.references j) here
    by false same = absurd (cc same)

pub tests_refer : (mounts : MountTable) (w : World) (s name list : ℕ) (program : Program) → (tests mounts w s name list).answer
    ≡ Ok program
    → (tests mounts w s name list).world.inodes.references ≡ more w.inodes.references program.ino
tests_refer mounts w s name list =
    let p : Process = process_of w s in
    let o : Result ℕ Errno = then_do (way w.inodes.store mounts (user_of p) p.u.dir (name_at (image_of w.texts p) name))
    (found w.inodes.store mounts) in
    let f : Finding ℕ = finding w.inodes o in
    refers_check w.inodes.references (with_inodes w f.inodes) f.answer _ (λ ino is.
    refers_file w.inodes.references (with_inodes w f.inodes) s ino list (found_refers w.inodes o ino is))

-- So no inode loses a reference or gains two.
module _ (l : List ℕ) (ino : ℕ) where
  pub more_same : ino < length l → slice_index (more l ino) ino ≡ slice_index l ino + 1
  more_same low = get_or-set_same l ino (slice_index l ino + 1) 0 low

  pub more_other : (j : ℕ) → j ≢ ino → slice_index (more l ino) j ≡ slice_index l j
  more_other j other = get_or-set_other l ino j (slice_index l ino + 1) 0 other

  pub more_low : 0 < slice_index (more l ino) ino → ino < length l
  more_low some = elim (cases_lt ino (length l)) [
    | inl low ↦ low
    | inr past ↦ absurd (let long = length-set l ino (slice_index l ino + 1) in
        let none = get_or_past (more l ino) ino 0 (omega (arith, long, past)) in omega (arith, none, some))
  ]

  pub more_few : (most : ℕ) → 0 < slice_index (more l ino) ino → ((j : ℕ) → slice_index l j ≤ most) → (j : ℕ)
      → slice_index (more l ino) j ≤ most + 1
  more_few most some few j = elim (cases_eq j ino) [
    | inl here ↦
        (let one = more_same (more_low some) in
        let before = few ino in
        subst (λ i. slice_index (more l ino) i ≤ most + 1) (sym here) (omega (arith, one, before)))
    | inr other ↦ (let same = more_other j other in let before = few j in omega (arith, same, before))
  ]

  pub more_referred : (count : ℕ → ℕ) → 0 < slice_index (more l ino) ino → ((j : ℕ) → count j ≤ slice_index l j)
      → (j : ℕ) → count j + (if j == ino then 1 else 0) ≤ slice_index (more l ino) j
  more_referred count some referred j = elim (cases_eq j ino) [
    | inl here ↦
        (let one = more_same (more_low some) in
        let before = referred ino in
        let yes : ◌≡◌ {A = ℕ} (if ino == ino then 1 else 0) 1 = ap (λ (b : Bool). if b then 1 else 0) (eq-eqb ino ino refl) in
        subst (λ i. count i + (if i == ino then 1 else 0) ≤ slice_index (more l ino) i) (sym here)
        (omega (arith, one, before, yes)))
    | inr other ↦
        (let same = more_other j other in
        let before = referred j in
        let no : ◌≡◌ {A = ℕ} (if j == ino then 1 else 0) 0 = ap (λ (b : Bool). if b then 1 else 0) (ne_eqb j ino other) in
        omega (arith, same, before, no))
  ]
