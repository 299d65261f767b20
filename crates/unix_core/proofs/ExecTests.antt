-- exec(II): what its tests leave. They refer to the inode of the program once more, where they let it through.
use Rattle.std.proofs.Common.{◌≡◌, ◌<◌, ◌+◌, ◌==◌, ◌&&◌, ℕ, Bool, true, false, not, cond, if◌then◌else◌, List, length, IsSome, slice_index, refl, sym, ap, arith}
use Rattle.std.specs.Prelude.{Result, Ok, Err}
use Rattle.std.proofs.lemmas.Bool.{eq-eqb}
use Rattle.v6_base.specs.Access.{then_do}
use Rattle.v6_base.specs.declared.errno.Errno.{Errno}
use Rattle.v6_base.specs.declared.errno.Errno.TheVariants.{ENOEXEC, ENOMEM, ENFILE, EACCES, ETXTBSY}
use Rattle.fs_codec.specs.Modes.{file_type}
use Rattle.fs_codec.specs.Store.{Node}
use Rattle.fs_laws.specs.Pieces.{Moving}
use Rattle.fs_nodes.specs.Keys.{Stores, node_numbered}
use Rattle.fs_nodes.specs.FileSystem.{IsFileSystem}
use Rattle.fs_tree.specs.declared.user.User.{User}
use Rattle.fs_tree.specs.declared.user.Want.TheVariants.{Execute}
use Rattle.fs_tree.specs.Permission.{permission}
use Rattle.fs_tree.specs.Name.{name_at, is_rooted, start_of}
use Rattle.fs_tree.specs.Path.{way, found}
use Rattle.fs_tree.specs.Finding.{Finding, can_refer, with_reference, finding, put_back}
use Rattle.fs_tree.proofs.PathLemmas.{CrossesToNodes, way_used, found_used}
use Rattle.fs_tree.proofs.MountLemmas.{crosses_of}
use Rattle.aout_head.specs.Header.{Header, header_of, plan_of}
use Rattle.seg_regs.specs.Sizes.{is_refused}
use Rattle.sys_procs.specs.declared.program.Program.{Program}
use Rattle.sys_procs.specs.Process.{Process, image_of}
use Rattle.sys_procs.specs.World as its
use Rattle.sys_procs.specs.World.{with_inodes, let_go}
use Rattle.sys_procs.specs.Tests.{must, user_of, node_at}
use Rattle.sys_procs.specs.Stack.{arguments, stack_clicks}
use Rattle.sys_procs.specs.ExecFile.{Tested, check, with_moved, header_read, answer_to, is_magic, or_no_memory, is_busy, tests_header, tests_file, tests, text_clicks_in, data_clicks}
use Rattle.unix_core.specs.declared.world.World.{World}
use Rattle.unix_core.specs.Parts.{unix_of, IsReady}
use Rattle.abstract_unix.specs.Whole.{told_in, told_of}
use Rattle.abstract_unix.specs.Unix.{process_of}
use Rattle.abstract_unix.proofs.Owing.{dir_referred}
use Rattle.abstract_unix.proofs.Dying.{put_refs}
use Rattle.abstract_unix.proofs.Sharing.{more_within}
use Rattle.unix_core.proofs.WorldLemmas.{told_here}
use Rattle.unix_core.proofs.CameLemmas.{given}
use Rattle.unix_core.proofs.TextRefs.{one}

-- A world that differs in its inodes alone, which are referred to as before.
pub record IsOut (base x : its.World) : Type 0 where
  pub world : x ≡ with_inodes base x.inodes
  pub refs : (ino : ℕ) → slice_index x.inodes.references ino ≡ slice_index base.inodes.references ino

-- The same but for one, which is used, and is referred to once more.
pub record IsIn (base x : its.World) (d : ℕ) : Type 0 where
  pub world : x ≡ with_inodes base x.inodes
  pub refs : (ino : ℕ) → slice_index x.inodes.references ino ≡ slice_index base.inodes.references ino + one d ino
  pub used : IsSome (node_numbered base.inodes.store d)

out_again : (base x : its.World) (d : ℕ) → IsIn base x d → IsOut base (let_go x d)
out_again base x d is = record {
  world = ap (λ (v : its.World). with_inodes v (put_back x.inodes d)) is.world;
  refs = λ ino.
      let own = is.refs d in
      let itself : one d d ≡ 1 = ap (λ b. cond {A = ℕ} b 1 0) (eq-eqb d d refl) in
      let put = put_refs x.inodes.references d ino (omega (arith, own, itself)) in
      let more = is.refs ino in
      omega (arith, put, more);
}

-- what the tests have left
abbrev pub Leaves : its.World → its.World → Result Program Errno → Type 0
Leaves base x (Ok program) = IsIn base x program.ino
Leaves base x (Err e) = IsOut base x

leaves_check : {A : Type 0} (base out : its.World) (o : Result A Errno) (next : A → Tested) → IsOut base out
    → ((a : A) → Leaves base (next a).world (next a).answer) → Leaves base (check out o next).world (check out o next).answer
leaves_check base out (Ok a) next is after = after a
leaves_check base out (Err e) next is after = is

then_gives : {A B : Type 0} (r : Result A Errno) (f : A → Result B Errno) (b : B) → then_do r f ≡ Ok b
    → (a : A) × (Ok a ≡ r) × (Ok b ≡ f a)
then_gives (Ok a) f b is = (a, refl, sym is)
then_gives (Err e) f b is = absurd (cc is)

-- An inode that is used has its number among the references.
pub used_within : (w : World) (d : ℕ) → IsFileSystem w.files.tree.nodes → IsSome (node_numbered w.files.tree.nodes.store d)
    → d < length w.files.tree.nodes.references
used_within w d form used = form.low d used

module _ (w : World) (s : ℕ) (ready : IsReady w s) (form : IsFileSystem w.files.tree.nodes) where
  abbrev base : its.World
  base = given w

  leaves_header : (x : its.World) (d : ℕ) (args : List (List ℕ)) (head : Moving (List ℕ)) → IsIn base x d
      → Leaves base (tests_header x d args head).world (tests_header x d args head).answer
  leaves_header x d args head is =
      let h : Header = header_of head.memory in
      let out : its.World = let_go x d in
      let gone = out_again base x d is in
      leaves_check base out (answer_to head.error) _ gone (λ read.
      leaves_check base out (must ENOEXEC ((head.done == 16) && is_magic (plan_of h))) _ gone (λ program.
      leaves_check base out (must ETXTBSY (not (is_busy x d h))) _ gone (λ free.
      leaves_check base out (or_no_memory (plan_of h)) _ gone (λ plan.
      leaves_check base out
      (must ENOMEM (not (is_refused (text_clicks_in x.texts d plan) (data_clicks plan) stack_clicks x.limit))) _ gone
      (λ fits. is)))))

  leaves_file : (x : its.World) (d list : ℕ) → IsIn base x d
      → Leaves base (tests_file x s d list).world (tests_file x s d list).answer
  leaves_file x d list is =
      let p : Process = its.process_of x s in
      let node : Node = node_at x d in
      let out : its.World = let_go x d in
      let gone = out_again base x d is in
      leaves_check base out (permission node (user_of p) Execute) _ gone (λ may.
      leaves_check base out (must EACCES (file_type node.mode == 0)) _ gone (λ plain.
      leaves_check base out (arguments (image_of x.texts p) list) _ gone (λ args.
      let head : Moving (List ℕ) = header_read x d in
      let y : its.World = with_moved x d head in
      leaves_header y d args head
      (record { world = ap (λ (v : its.World). with_inodes v y.inodes) is.world; refs = is.refs; used = is.used }))))

  -- the tests, by what is found
  abbrev tests_by : ℕ → Finding ℕ → Tested
  tests_by list f = check (with_inodes base f.inodes) f.answer (λ ino. tests_file (with_inodes base f.inodes) s ino list)

  abbrev referred_if : ℕ → Bool → Finding ℕ
  referred_if ino b =
      if b then record { answer = Ok ino; inodes = with_reference base.inodes ino }
      else record { answer = Err ENFILE; inodes = base.inodes }

  leaves_referred : (list ino : ℕ) → IsSome (node_numbered base.inodes.store ino) → (b : Bool)
      → Leaves base (tests_by list (referred_if ino b)).world (tests_by list (referred_if ino b)).answer
  leaves_referred list ino used true =
      leaves_file (with_inodes base (with_reference base.inodes ino)) ino list
      (record { world = refl; refs = λ i. more_within base.inodes.references ino i (used_within w ino form used); used = used })
  leaves_referred list ino used false = record { world = refl; refs = λ i. refl }

  leaves_found : (list : ℕ) (o : Result ℕ Errno) → ((ino : ℕ) → o ≡ Ok ino → IsSome (node_numbered base.inodes.store ino))
      → Leaves base (tests_by list (finding base.inodes o)).world (tests_by list (finding base.inodes o)).answer
  leaves_found list (Ok ino) used = leaves_referred list ino (used ino refl) (can_refer base.inodes ino)
  leaves_found list (Err e) used = record { world = refl; refs = λ i. refl }

  -- the search begins in an inode that is used
  start_used : (bytes : List ℕ) → IsSome (node_numbered base.inodes.store (start_of (process_of (unix_of w) s).u.dir bytes))
  start_used bytes = by (is_rooted bytes)
    where
      dir : IsSome (node_numbered base.inodes.store (process_of (unix_of w) s).u.dir)
      dir = form.used (process_of (unix_of w) s).u.dir
          (dir_referred w.files.tree.nodes.references w.files.table w.files.pipes (unix_of w).texts
          (told_in (unix_of w).processes) ready.good.owed s (told_of (process_of (unix_of w) s))
          (told_here w s ready))

      by : (rooted : Bool) → IsSome (node_numbered base.inodes.store (cond rooted 1 (process_of (unix_of w) s).u.dir))
      by true = form.root
      by false = dir

  abbrev store : Stores
  store = base.inodes.store

  abbrev user : User
  user = user_of (its.process_of base s)

  abbrev dir : ℕ
  dir = (its.process_of base s).u.dir

  crosses : CrossesToNodes store w.files.tree.mounts
  crosses = crosses_of store w.files.tree.mounts ready.good.mounts form.second_root

  -- what is found is used
  found_is_used : (bytes : List ℕ) (ino : ℕ) → then_do (way store w.files.tree.mounts user dir bytes) (found store w.files.tree.mounts) ≡ Ok ino
      → IsSome (node_numbered store ino)
  found_is_used bytes ino is =
      let there = then_gives (way store w.files.tree.mounts user dir bytes) (found store w.files.tree.mounts) ino is in
      found_used store w.files.tree.mounts crosses there.0 ino (way_used store w.files.tree.mounts crosses user dir bytes there.0 there.1 (start_used bytes)) there.2

  pub leaves_tests : (name list : ℕ) → Leaves base (tests w.files.tree.mounts base s name list).world (tests w.files.tree.mounts base s name list).answer
  leaves_tests name list =
      let bytes : List ℕ = name_at (image_of base.texts (its.process_of base s)) name in
      leaves_found list (then_do (way store w.files.tree.mounts user dir bytes) (found store w.files.tree.mounts)) (found_is_used bytes)
