-- Whether a read is one of the disk, by what the kernel keeps of the process that runs.
use Rattle.std.proofs.Common.{◌≡◌, ◌∙◌, ◌<◌, ◌+◌, ◌&&◌, not, cond, ℕ, Bool, false, length, Some, Ok, Err, IsSome, slice_index, refl, sym, ap, subst, arith}
use Rattle.std.specs.Option.{unwrap_or}
use Rattle.std.proofs.lemmas.Bool.{eq-eqb, ne_eqb}
use Rattle.u_area.specs.declared.area.UArea.{UArea}
use Rattle.v6_base.specs.declared.errno.Errno.TheVariants.{EBADF}
use Rattle.fs_codec.specs.Modes.{is_device}
use Rattle.fs_nodes.specs.FileSystem.{IsFileSystem}
use Rattle.image_keep.specs.Kept as kept
use Rattle.image_keep.specs.Kept.{area_of}
use Rattle.open_files.specs.declared.file.OpenFile.{OpenFile}
use Rattle.open_files.specs.Files.{file_at, entry_of}
use Rattle.sys_files.specs.Handed.{Handed, r0, node_at, no_file, file_of}
use Rattle.sys_files.specs.Descriptors.{open_entry}
use Rattle.sys_files.specs.Sound.{IsSound}
use Rattle.sys_files.proofs.OwedLemmas.{file_referred}
use Rattle.abstract_unix.specs.Unix.{process_of}
use Rattle.abstract_unix.specs.Calls.{handed_of, is_of_disk}
use Rattle.unix_core.specs.declared.world.World.{World}
use Rattle.unix_core.specs.Parts.{unix_of, IsReady}
use Rattle.unix_core.proofs.AreaLemmas.{own_area}
use Rattle.unix_core.proofs.WorldLemmas.{references_in, mounts_is, sound_parts}

module _ (w : World) (s : ℕ) (ready : IsReady w s) (form : IsFileSystem w.files.tree.nodes) (long : length w.files.table ≡ 100)
    (holds : kept.IsKept w.procs.images.kept) (u : UArea) (is : u ≡ area_of w.procs.images.kept s) where
  abbrev h : Handed
  h = handed_of (unix_of w) (process_of (unix_of w) s)

  sound : IsSound h
  sound = sound_parts w s h ready long holds refl refl refl (sym (references_in w s ready form))
      (sym (mounts_is w.files.tree.mounts w.files.tree.nodes.store ready.good.mounts)) refl

  -- the number in R0
  number : slice_index u.files (slice_index u.r 0) ≡ slice_index h.u.files (r0 h)
  number = ap (λ (v : UArea). slice_index v.files (slice_index v.r 0)) (is ∙ own_area w s ready)

  module _ (entry : ℕ) (names : slice_index u.files (slice_index u.r 0) ≡ entry + 1) where
    its : entry_of h.u.files (r0 h) ≡ entry
    its = omega (arith, number, names)

    pub entry_open : IsSome (file_at w.files.table entry)
    entry_open = subst (λ n. IsSome (file_at w.files.table n)) its (sound.is_open (r0 h) (omega (arith, number, names)))

    module _ (file : OpenFile) (there : file_at w.files.table entry ≡ Some file) where
      pub file_there : 0 < slice_index w.files.tree.nodes.references file.ino
      file_there = subst (λ l. 0 < slice_index l file.ino) (sym (references_in w s ready form)) (file_referred h entry file sound there)

      pub open_of_disk : (not file.kind.pipe && not (is_device (node_at h file.ino).mode)) ≡ is_of_disk h (open_entry h (r0 h))
      open_of_disk =
          let one : OpenFile → Bool = λ f. not f.kind.pipe && not (is_device (node_at h f.ino).mode) in
          sym (ap (λ b. is_of_disk h (cond b (Err EBADF) (Ok (entry_of h.u.files (r0 h))))) (ne_eqb (slice_index h.u.files (r0 h)) 0 (λ e. omega (arith, e, number, names)))
          ∙ ap (λ n. one (file_of h n)) its
          ∙ ap (λ o. one (unwrap_or o no_file)) there)

  pub closed_no_disk : slice_index u.files (slice_index u.r 0) ≡ 0 → false ≡ is_of_disk h (open_entry h (r0 h))
  closed_no_disk none = sym (ap (λ b. is_of_disk h (cond b (Err EBADF) (Ok (entry_of h.u.files (r0 h))))) (eq-eqb (slice_index h.u.files (r0 h)) 0 (sym number ∙ none)))
