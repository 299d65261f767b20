-- The bytes that are told of a file are its two numbers and then its inode's 32 bytes.
use Rattle.std.proofs.lemmas.List.{append-nil, drop_all, take-append-le}
use Rattle.std.proofs.Math.Seq.{drop-append_seam}
use Rattle.std.proofs.Common.{◌≡◌, ◌<◌, ℕ, Bool, true, false, cond, List, [], ◌∷◌, ◌++◌, length, take, drop, Option, None, Some, slice_index, refl, sym, ap, ◌∙◌, arith, take_all}
use borrow.Rule.Slice.PartMut.{put_mid}
use Rattle.fs_codec.specs.Bytes.{bytes_of, inode_bytes}
use Rattle.fs_codec.specs.Words.{words}
use Rattle.fs_codec.proofs.BytesLemmas.{bytes_of_words, part_whole, length-bytes_of}
use Rattle.fs_codec.specs.Fields.{Inode, fields_of}
use Rattle.fs_codec.specs.Modes.{is_device}
use Rattle.fs_codec.specs.Store.{Node}
use Rattle.fs_codec.specs.declared.node.DiskNode.{DiskNode}
use Rattle.fs_codec.proofs.FieldsLemmas.{one_inode}
use Rattle.fs_nodes.specs.FileSystem.{Shows}
use Rattle.v6_base.specs.Image.{Image}
use Rattle.v6_base.specs.Copy.{store_bytes}
use Rattle.sys_files.specs.Handed.{Handed, r0, node_at, disk_of, number_of, file_of}
use Rattle.sys_files.specs.Descriptors.{open_entry}
use Rattle.sys_files.specs.Sound.{IsSound, IsKept}
use Rattle.sys_files.specs.Status.{status_bytes, with_stored, tells_status, stat_file, stat_open}
use Rattle.sys_files.proofs.OwingLemmas.{IsKeptBut, CanFind, kept_begins, kept_ends, kept_goes_on, kept_check, kept_finds}

-- an inode with no addresses but the number of a device
abbrev first_of : ℕ → ℕ → List ℕ
first_of mode device = cond (is_device mode) device 0 ∷ 0 ∷ 0 ∷ 0 ∷ 0 ∷ 0 ∷ 0 ∷ 0 ∷ []

abbrev told_of : Node → Inode
told_of file = record {
  mode = file.mode;
  nlink = file.nlink;
  uid = file.uid;
  gid = file.gid;
  size = file.size;
  addr = first_of file.mode file.device;
  actime = file.actime;
  modtime = file.modtime;
}

status_is : (dev ino : ℕ) (file : Node) → status_bytes dev ino file ≡ bytes_of (dev ∷ ino ∷ []) ++ inode_bytes (told_of file)
unfolding bytes_of inode_bytes
status_is dev ino file = refl

first_same : (t : Bool) (a b : ℕ) → (t ≡ true → a ≡ b) → cond t a 0 ≡ cond t b 0
first_same true a b is = is refl
first_same false a b is = refl

told_is : (inode : DiskNode) (file : Node) → Shows inode file
    → record (fields_of inode) { addr = first_of inode.mode (slice_index inode.addr 0) } ≡ told_of file
told_is inode file s = one_inode _ _ s.mode s.nlink s.uid s.gid s.size
    (ap (λ m. first_of m (slice_index inode.addr 0)) s.mode
    ∙ ap (λ (x : ℕ). x ∷ 0 ∷ 0 ∷ 0 ∷ 0 ∷ 0 ∷ 0 ∷ 0 ∷ []) (first_same (is_device file.mode)
    (slice_index inode.addr 0) file.device s.device))
    s.actime s.modtime

beside : (head tail rest : List ℕ) → length head ≡ 4 → length rest ≡ 32
    → put_mid 4 32 (head ++ rest) tail ≡ head ++ tail
beside head tail rest h r =
    let front : take 4 (head ++ rest) ≡ head =
    take-append-le 4 head rest (omega (arith, h)) ∙ take_all 4 head (omega (arith, h)) in
    let past : drop 4 (head ++ rest) ≡ rest = ap (λ n. drop n (head ++ rest)) (sym h) ∙ drop-append_seam head rest in
    let none : drop 32 (drop 4 (head ++ rest)) ≡ [] = ap (drop 32) past ∙ drop_all 32 rest (omega (arith, r)) in
    ap (λ l. l ++ (tail ++ drop 32 (drop 4 (head ++ rest)))) front ∙ ap (λ l. head ++ (tail ++ l)) none
    ∙ ap (λ l. head ++ l) (append-nil tail)

-- what is told, from its two parts
pub told_bytes : (dev ino : ℕ) (inode : DiskNode) (file : Node) (told : Inode) (head tail rest : List ℕ) → Shows inode file
    → told ≡ record (fields_of inode) { addr = first_of inode.mode (slice_index inode.addr 0) }
    → head ≡ bytes_of (dev ∷ ino ∷ []) → tail ≡ inode_bytes told → length rest ≡ 32 → put_mid 4 32
    (head ++ rest) tail ≡ status_bytes dev ino file
told_bytes dev ino inode file told head tail rest shows is first last r =
    let four : length head ≡ 4 = ap length first ∙ length-bytes_of (dev ∷ ino ∷ []) in
    let node : tail ≡ inode_bytes (told_of file) = last ∙ ap inode_bytes (is ∙ told_is inode file shows) in
    beside head tail rest four r ∙ ap (λ l. l ++ tail) first ∙ ap (λ l. bytes_of (dev ∷ ino ∷ []) ++ l) node
    ∙ sym (status_is dev ino file)

pub number_bytes_are : (dev ino : ℕ) (b : List ℕ) → length b ≡ 4 → ((k : ℕ) → slice_index b k < 256)
    → words b 0 2 ≡ dev ∷ ino ∷ [] → b ≡ bytes_of (dev ∷ ino ∷ [])
number_bytes_are dev ino b long fits here =
    sym (ap bytes_of (sym here) ∙ bytes_of_words b 0 2 (omega (arith, long)) fits ∙ part_whole b 4 long)

-- what stat and fstat keep
stored_same : (h : Handed) (o : Option Image) (taken : List ℕ) (old : Handed) → IsKeptBut old h taken
    → IsKeptBut old (with_stored h o).state taken
stored_same h (Some image) taken old k = kept_goes_on old h _ taken k refl refl refl refl refl refl refl
stored_same h None taken old k = k

pub stat_kept : (h : Handed) (name at : ℕ) → IsSound h → CanFind h name → IsKept h (stat_file h name at).state
stat_kept h name at sound can =
    kept_ends h _ (kept_finds h h name [] (λ h ino. tells_status h ino at) sound (kept_begins h sound) can (λ now ino k.
    stored_same now (store_bytes now.image at (status_bytes (disk_of now ino) (number_of now ino) (node_at now ino)))
    (ino ∷ []) h k))

pub stat_open_kept : (h : Handed) (at : ℕ) → IsSound h → IsKept h (stat_open h at).state
stat_open_kept h at sound =
    kept_ends h _ (kept_check h h [] (open_entry h (r0 h)) (λ entry. tells_status h (file_of h entry).ino at)
    (kept_begins h sound) (λ entry is.
    stored_same h (store_bytes h.image at (status_bytes (disk_of h (file_of h entry).ino) (number_of h (file_of h entry).ino)
    (node_at h (file_of h entry).ino))) [] h (kept_begins h sound)))
