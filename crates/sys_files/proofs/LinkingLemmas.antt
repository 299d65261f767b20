-- The tests of link, one after another.
use Rattle.std.proofs.Common.{◌≡◌, ◌<◌, ◌≤◌, ◌+◌, ◌-◌, ◌==◌, ℕ, true, false, not, List, [], ◌∷◌, Ok, Err, sym, ap, ◌∙◌}
use Rattle.std.proofs.lemmas.Bool.{lt-ltb, le-ltb}
use Rattle.v6_base.specs.declared.errno.Errno.{Errno}
use Rattle.v6_base.specs.declared.errno.Errno.TheVariants.{EPERM, EBUSY, EXDEV, EMLINK}
use Rattle.fs_codec.specs.Bytes.{entry_bytes}
use Rattle.fs_tree.specs.Finding.{Inodes}
use Rattle.sys_files.specs.Handed.{Handed, node_in, node_at, disk_of, number_of, with_inodes}
use Rattle.sys_files.specs.Did.{Did, fails, is_done, check, must}
use Rattle.sys_files.specs.Making.{entry_written, writes_entry, enters, links_in, with_links, may_link, is_covered, makes_new, enters_again, links_to, empties}
use Rattle.sys_files.proofs.PartLemmas.{passes, stops, named, not_named}

pub link_full : (h : Handed) (new now ino : ℕ) → 127 ≤ (node_at h ino).nlink → links_to new now h ino ≡ fails h EMLINK
link_full h new now ino many = ap (λ t. check h (must EMLINK t)
    (λ few. check h (must EPERM (may_link h ino)) (λ may. makes_new h new (enters_again ino now))))
    (le-ltb (node_at h ino).nlink 127 many)

module _ (h : Handed) (new now ino : ℕ) (few : (node_at h ino).nlink < 127) where
  few_links : links_to new now h ino
      ≡ check h (must EPERM (may_link h ino)) (λ may. makes_new h new (enters_again ino now))
  few_links = ap (λ t. check h (must EMLINK t)
      (λ few. check h (must EPERM (may_link h ino)) (λ may. makes_new h new (enters_again ino now))))
      (lt-ltb (node_at h ino).nlink 127 few)

  pub link_refused : may_link h ino ≡ false → links_to new now h ino ≡ fails h EPERM
  link_refused may = few_links ∙ ap (λ t. check h (must EPERM t) (λ may. makes_new h new (enters_again ino now))) may

  pub link_goes : may_link h ino ≡ true → links_to new now h ino ≡ makes_new h new (enters_again ino now)
  link_goes may = few_links ∙ ap (λ t. check h (must EPERM t) (λ may. makes_new h new (enters_again ino now))) may

-- An inode has another name on its own disk.
module _ (h : Handed) (ino now dir offset : ℕ) (name : List ℕ) where
  abbrev writes_again : Did
  writes_again = enters h dir offset name ino now (λ h. is_done (with_links h ino ((node_at h ino).nlink + 1) now))

  pub again_refused : (disk_of h ino == disk_of h dir) ≡ false → enters_again ino now h dir offset name ≡ fails h EXDEV
  again_refused other = stops h EXDEV (disk_of h ino == disk_of h dir) (λ same. writes_again) other

  pub again_goes : (disk_of h ino == disk_of h dir) ≡ true → enters_again ino now h dir offset name ≡ writes_again
  again_goes is = passes h EXDEV (disk_of h ino == disk_of h dir) (λ same. writes_again) is

  abbrev entry : List ℕ
  entry = entry_bytes (record { ino = number_of h ino; name = name })

  pub again_unwritten : (e : Errno) (n : Inodes) → (disk_of h ino == disk_of h dir) ≡ true
      → Err e ≡ (entry_written h.inodes dir offset entry now).answer
      → n ≡ (entry_written h.inodes dir offset entry now).inodes
      → enters_again ino now h dir offset name ≡ fails (with_inodes h n) e
  again_unwritten e n one answer inodes =
      again_goes one ∙ not_named h (entry_written h.inodes dir offset entry now) e n
      (λ h done. is_done (with_links h ino ((node_at h ino).nlink + 1) now)) answer inodes

  pub again_written : (u : Unit {0}) (n last : Inodes) (links more : ℕ) → (disk_of h ino == disk_of h dir) ≡ true
      → Ok u ≡ (entry_written h.inodes dir offset entry now).answer
      → n ≡ (entry_written h.inodes dir offset entry now).inodes → links ≡ (node_in n.store ino).nlink
      → more ≡ links + 1 → last ≡ links_in n ino more now
      → enters_again ino now h dir offset name ≡ is_done (with_inodes h last)
  again_written u n last links more one answer inodes are one_more is =
      again_goes one ∙ named h (entry_written h.inodes dir offset entry now) u n
      (λ h done. is_done (with_links h ino ((node_at h ino).nlink + 1) now)) answer inodes
      ∙ sym (ap (λ m. is_done (with_inodes h m)) (is ∙ ap (λ k. links_in n ino k now) (one_more ∙ ap (λ k. k + 1) are)))

-- The tests of unlink, and what it does after them.
module _ (h : Handed) (dir offset ino now : ℕ) where
  abbrev writes_none : Did
  writes_none = writes_entry h dir offset (0 ∷ 0 ∷ []) now
      (λ h. is_done (with_links h ino ((node_at h ino).nlink - 1) now))

  pub unlink_refused : may_link h ino ≡ false → empties now h dir offset ino ≡ fails h EPERM
  unlink_refused may = stops h EPERM (may_link h ino)
      (λ may. check h (must EBUSY (not (is_covered h ino))) (λ free. writes_none)) may

  may_goes : may_link h ino ≡ true
      → empties now h dir offset ino ≡ check h (must EBUSY (not (is_covered h ino))) (λ free. writes_none)
  may_goes may = passes h EPERM (may_link h ino)
      (λ may. check h (must EBUSY (not (is_covered h ino))) (λ free. writes_none)) may

  pub unlink_busy : may_link h ino ≡ true → is_covered h ino ≡ true → empties now h dir offset ino ≡ fails h EBUSY
  unlink_busy may covered =
      may_goes may ∙ stops h EBUSY (not (is_covered h ino)) (λ free. writes_none) (ap not covered)

  unlink_goes : may_link h ino ≡ true → is_covered h ino ≡ false → empties now h dir offset ino ≡ writes_none
  unlink_goes may free =
      may_goes may ∙ passes h EBUSY (not (is_covered h ino)) (λ free. writes_none) (ap not free)

  pub unlink_unwritten : (e : Errno) (n : Inodes) → may_link h ino ≡ true → is_covered h ino ≡ false
      → Err e ≡ (entry_written h.inodes dir offset (0 ∷ 0 ∷ []) now).answer
      → n ≡ (entry_written h.inodes dir offset (0 ∷ 0 ∷ []) now).inodes
      → empties now h dir offset ino ≡ fails (with_inodes h n) e
  unlink_unwritten e n may free answer inodes =
      unlink_goes may free ∙ not_named h (entry_written h.inodes dir offset (0 ∷ 0 ∷ []) now) e n
      (λ h done. is_done (with_links h ino ((node_at h ino).nlink - 1) now)) answer inodes

  pub unlink_written : (u : Unit {0}) (n last : Inodes) (links fewer : ℕ) → may_link h ino ≡ true → is_covered h ino ≡ false
      → Ok u ≡ (entry_written h.inodes dir offset (0 ∷ 0 ∷ []) now).answer
      → n ≡ (entry_written h.inodes dir offset (0 ∷ 0 ∷ []) now).inodes → links ≡ (node_in n.store ino).nlink
      → fewer ≡ links - 1 → last ≡ links_in n ino fewer now
      → empties now h dir offset ino ≡ is_done (with_inodes h last)
  unlink_written u n last links fewer may free answer inodes are less is =
      unlink_goes may free ∙ named h (entry_written h.inodes dir offset (0 ∷ 0 ∷ []) now) u n
      (λ h done. is_done (with_links h ino ((node_at h ino).nlink - 1) now)) answer inodes
      ∙ sym (ap (λ m. is_done (with_inodes h m)) (is ∙ ap (λ k. links_in n ino k now) (less ∙ ap (λ k. k - 1) are)))
