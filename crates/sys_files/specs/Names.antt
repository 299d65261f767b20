-- A directory is entered, a file's permissions and its owner are changed: chdir(II), chmod(II), chown(II), sync(II).
-- Lions' Commentary, `sys4.c`.
use Rattle.std.specs.Prelude.{ℕ, Bool, ◌/◌, ◌%◌, ◌==◌, ◌||◌, if◌then◌else◌, bit_and, bit_or}
use Rattle.v6_base.specs.declared.errno.Errno.TheVariants.{EPERM, ENOTDIR}
use Rattle.fs_codec.specs.Modes.{is_directory}
use Rattle.fs_codec.specs.declared.modes.TheConstants.{IALLOC}
use Rattle.fs_nodes.specs.Keys.{key_on, synced}
use Rattle.fs_tree.specs.declared.user.Want.TheVariants.{Execute}
use Rattle.fs_tree.specs.Permission.{permission}
use Rattle.fs_tree.specs.Finding.{with_reference}
use Rattle.sys_files.specs.Handed.{Handed, node_at, user_of, with_store, with_changed, let_go}
use Rattle.sys_files.specs.Did.{Did, is_done, check, must, names, finds}
use Rattle.sys_files.specs.Making.{is_super_user}

-- the current directory is another one: that one is referred to, and then the reference to the old one goes
abbrev pub entered_at : Handed → ℕ → Handed
entered_at h ino = record h { inodes = with_reference h.inodes ino; u = record h.u { dir = ino } }

abbrev pub with_directory : Handed → ℕ → Handed
with_directory h ino = let_go (entered_at h ino) h.u.dir

-- 12, chdir: a name of a directory that the user may search
abbrev pub enters_directory : Handed → ℕ → Did
enters_directory h ino =
    check h (must ENOTDIR (is_directory (node_at h ino).mode)) (λ is.
    check h (permission (node_at h ino) (user_of h.u) Execute) (λ may.
    is_done (with_directory h ino)))

abbrev pub chdir_to : Handed → ℕ → Did
chdir_to h name = finds h name enters_directory

-- The owner passes, and user 0.
abbrev pub is_owner : Handed → ℕ → Bool
is_owner h ino = ((node_at h ino).uid == h.u.uid) || is_super_user h

-- the low twelve bits of a mode are others; only user 0 sets the sticky one
abbrev pub changed_mode : ℕ → ℕ → Bool → ℕ
changed_mode old mode super =
    bit_or (bit_or (bit_and old 0o170000) (bit_and mode (if super then 0o7777 else 0o6777))) IALLOC

-- 15, chmod: a name and a mode
abbrev pub changes_mode : ℕ → ℕ → Handed → ℕ → Did
changes_mode mode now h ino =
    check h (must EPERM (is_owner h ino)) (λ may.
    is_done (with_changed h ino (record (node_at h ino) {
      mode = changed_mode (node_at h ino).mode mode (is_super_user h);
      modtime = now;
    })))

abbrev pub chmod_to : Handed → ℕ → ℕ → ℕ → Did
chmod_to h name mode now = finds h name (changes_mode mode now)

-- 16, chown: a name, and the owner in the low byte with the group in the high one
abbrev pub chown_to : Handed → ℕ → ℕ → ℕ → Did
chown_to h name owner now =
    check h (must EPERM (is_super_user h)) (λ may.
    finds h name (λ h ino.
    is_done (with_changed h ino (record (node_at h ino) { uid = owner % 256; gid = owner / 256; modtime = now }))))

-- 36, sync: the super-block of each disk goes to it, where it has changed. It names the roots of both.
abbrev pub sync_all : Handed → ℕ → Did
sync_all h now =
    names 1 (names (key_on h.inodes.store 1 1) (is_done (with_store h (synced h.inodes.store now))))
