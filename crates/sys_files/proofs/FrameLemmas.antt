-- Changes of a node, and what stays of the other disk.
use Rattle.std.proofs.Common.{◌≡◌, ◌+◌, ◌-◌, ◌==◌, ◌&&◌, ℕ, zero, suc, Bool, true, false, cond, nat_le, nat_lt, if◌then◌else◌, List, slice_index, Option, Some, None, is_some, Result, Ok, Err, refl, sym, ap, ◌∙◌, arith}
use Rattle.std.proofs.lemmas.Bool.{and_right, leb-true, leb-false, le-ltb, lt-ltb}
use Rattle.v6_base.specs.declared.errno.Errno.{Errno}
use Rattle.v6_base.specs.declared.errno.Errno.TheVariants.{ENFILE}
use Rattle.v6_base.specs.Image.{Image}
use Rattle.fs_codec.specs.Modes.{is_device}
use Rattle.fs_codec.specs.Store.{Node, Store}
use Rattle.fs_laws.specs.Numbers.{Draw, draw, new_node}
use Rattle.fs_laws.specs.Pieces.{Moving}
use Rattle.fs_nodes.specs.Disks.{Disks}
use Rattle.fs_nodes.specs.FileSystem.{referenced}
use Rattle.fs_nodes.specs.Keys.{Stores, OnItsDisk, counts, device_of, store_on, references_on, node_numbered, node_in, room_at, with_fields}
use Rattle.fs_nodes.specs.Numbers.{with_draw}
use Rattle.fs_nodes.proofs.KeyLaws.{counts_set}
use Rattle.fs_nodes.proofs.MadeLemmas.{IsNewKey, new_key}
use Rattle.fs_nodes.proofs.NumbersMake.{draw_free}
use Rattle.fs_nodes.proofs.OtherDisk.{same_stores, node_there, fields_there, cut_there}
use Rattle.fs_tree.specs.declared.made.Made.{Made}
use Rattle.fs_tree.specs.declared.user.User.{User}
use Rattle.fs_tree.specs.Entries.{written}
use Rattle.fs_tree.specs.Finding.{Inodes, Finding, can_refer, with_reference, refused, referring, finding, named_by_made, making}
use Rattle.fs_tree.proofs.OtherDisk.{put_there}
use Rattle.mount_tab.specs.Mounted.{MountTable, split_of}
use Rattle.pipe_ends.specs.declared.ends.Pipe.{Pipe}
use Rattle.pipe_ends.specs.declared.ends.Piped.TheVariants.{Done, Broken}
use Rattle.pipe_ends.specs.declared.ends.TheConstants.{PIPSIZ}
use Rattle.pipe_ends.specs.Pipes.{pipe_file, begun_again}
use Rattle.pipe_ends.specs.Reads.{PipeRead, reads, all_read, at_front, told_of_nothing, read_of, reads_some}
use Rattle.pipe_ends.specs.Writes.{WriteCall, Writing, PipeWrite, size_in, append_of, appended, ends_as, waits, unless_error, rounds, write_call, writes}
use Rattle.sys_files.specs.Handed.{Handed, with_changed, let_go}
use Rattle.sys_files.specs.Making.{new_numbered, new_in, entry_written, links_in, truncated_in, device_in}

-- The disk of a key is told by how many inodes each disk has.
abbrev disk_in : Disks ℕ → ℕ → ℕ
disk_in c key = if is_some c.second && nat_lt c.root key then 1 else 0

device_is : (s : Stores) (key : ℕ) → device_of s key ≡ disk_in (counts s) key
device_is s key = by s.root s.second where
  by : (root : Store) (o : Option Store)
      → device_of (record { root = root; second = o }) key ≡ disk_in (counts (record { root = root; second = o })) key
  by root None = refl
  by root (Some x) = refl

pub device_counted : (a b : Stores) (key : ℕ) → counts a ≡ counts b → device_of a key ≡ device_of b key
device_counted a b key same = device_is a key ∙ ap (λ (c : Disks ℕ). disk_in c key) same ∙ sym (device_is b key)

-- two changes at one key
pub on_then : (s t u : Stores) (key : ℕ) → counts t ≡ counts s → OnItsDisk s t key → OnItsDisk t u key → OnItsDisk s u key
on_then s t u key same first next = record {
  second = λ on. next.second (device_counted t s key same ∙ on) ∙ first.second on;
  root = λ on. next.root (device_counted t s key same ∙ on) ∙ first.root on;
}

-- the words of rows
pub lets_go_there : (h : Handed) (ino : ℕ) → OnItsDisk h.inodes.store (let_go h ino).inodes.store ino
lets_go_there h ino = put_there h.inodes.store ino (slice_index h.inodes.references ino) (node_numbered h.inodes.store ino)

pub changed_there : (h : Handed) (ino : ℕ) (node : Node) → OnItsDisk h.inodes.store (with_changed h ino node).inodes.store ino
changed_there h ino node = fields_there h.inodes.store ino node

pub links_there : (n : Inodes) (ino links now : ℕ) → OnItsDisk n.store (links_in n ino links now).store ino
links_there n ino links now =
    let changed : Node = record (node_in n.store ino) { nlink = links; modtime = now } in fields_there n.store ino changed

pub truncated_there : (n : Inodes) (ino now : ℕ) → OnItsDisk n.store (truncated_in n ino now).store ino
truncated_there n ino now = cut_there n.store ino (node_in n.store ino) now

pub entry_there : (n : Inodes) (dir offset : ℕ) (bytes : List ℕ) (now : ℕ)
    → OnItsDisk n.store (entry_written n dir offset bytes now).inodes.store dir
entry_there n dir offset bytes now =
    let m : Moving (Unit {0}) = written n.store dir (node_in n.store dir) offset bytes now in
    node_there n.store dir m.node m.room

pub device_there : (n : Inodes) (ino device : ℕ) → OnItsDisk n.store (device_in n ino device).store ino
device_there n ino device = by (is_device (node_in n.store ino).mode) where
  changed : Node
  changed = record (node_in n.store ino) { device = device }

  by : (b : Bool) → OnItsDisk n.store (cond b (record n { store = with_fields n.store ino changed }) n).store ino
  by true = fields_there n.store ino changed
  by false = same_stores n.store ino

-- A search for a node, or for room, leaves the stores.
store_when : {A : Type 0} (n : Inodes) (b : Bool) (x y : Finding A) → x.inodes.store ≡ n.store → y.inodes.store ≡ n.store
    → (cond b x y).inodes.store ≡ n.store
store_when n true x y p q = p
store_when n false x y p q = q

referring_store : {A : Type 0} (n : Inodes) (ino : ℕ) (a : A) → (referring n ino a).inodes.store ≡ n.store
referring_store n ino a = store_when n (can_refer n ino) (record { answer = Ok a; inodes = with_reference n ino })
    (refused n ENFILE) refl refl

pub finding_store : (n : Inodes) (r : Result ℕ Errno) → (finding n r).inodes.store ≡ n.store
finding_store n (Ok ino) = referring_store n ino ino
finding_store n (Err e) = refl

pub making_store : (n : Inodes) (r : Result Made Errno) → (making n r).inodes.store ≡ n.store
making_store n (Ok a) = referring_store n (named_by_made a) a
making_store n (Err e) = refl

-- A new node stands on the disk that was asked for: its key is one of it.
no_one : {P : Type 0} → ◌≡◌ {A = ℕ} 1 0 → P
no_one e = absurd (omega (arith, e))

no_zero : {P : Type 0} → ◌≡◌ {A = ℕ} 0 1 → P
no_zero e = absurd (omega (arith, e))

not_above : (key count : ℕ) → cond {A = ℕ} (nat_le key count) 0 1 ≡ 0 → nat_lt count key ≡ false
not_above key count e = by (nat_le key count) refl e where
  by : (b : Bool) → nat_le key count ≡ b → cond {A = ℕ} b 0 1 ≡ 0 → nat_lt count key ≡ false
  by true is f = le-ltb count key (leb-true key count is)
  by false is f = no_one f

is_above : (key count : ℕ) → cond {A = ℕ} (nat_le key count) 0 1 ≡ 1 → nat_lt count key ≡ true
is_above key count e = by (nat_le key count) refl e where
  by : (b : Bool) → nat_le key count ≡ b → cond {A = ℕ} b 0 1 ≡ 1 → nat_lt count key ≡ true
  by true is f = no_zero f
  by false is f = lt-ltb count key (leb-false key count is)

abbrev on_disks : Store → List ℕ → Option Store → Inodes
on_disks root refs o = record { store = record { root = root; second = o }; references = refs }

abbrev drawn_on : Inodes → ℕ → Draw
drawn_on n dev = draw (store_on n.store dev) (λ i. nat_lt 0 (slice_index (references_on n.store n.references dev) i))

second_when : (o : Option Store) (b : Bool) (x y : Finding ℕ) → x.inodes.store.second ≡ o → y.inodes.store.second ≡ o
    → (cond b x y).inodes.store.second ≡ o
second_when o true x y p q = p
second_when o false x y p q = q

root_when : (root : Store) (b : Bool) (x y : Finding ℕ) → x.inodes.store.root ≡ root → y.inodes.store.root ≡ root
    → (cond b x y).inodes.store.root ≡ root
root_when root true x y p q = p
root_when root false x y p q = q

module _ (root : Store) (refs : List ℕ) (mode : ℕ) (user : User) (now : ℕ) where
  abbrev node : Node
  node = new_node mode user.uid user.gid now

  -- on the root's disk: the second one stays
  known_on_root : (o : Option Store) (d : Draw) (ino : ℕ) → nat_lt root.count ino ≡ false
      → (new_numbered (on_disks root refs o) 0 mode user now d (Some ino)).inodes.store.second ≡ o
  known_on_root o d ino low =
      let s : Stores = (on_disks root refs o).store in
      second_when o (nat_lt (referenced refs) 100) _ _
      ((node_there (with_draw s 0 d) ino node (room_at s ino)).second
      (ap (λ t. cond {A = ℕ} t 1 0) (and_right (is_some o) (nat_lt root.count ino) low))) refl

  numbered_on_root : (o : Option Store) (d : Draw) (number : Option ℕ)
      → ((ino : ℕ) → number ≡ Some ino → nat_lt root.count ino ≡ false)
      → (new_numbered (on_disks root refs o) 0 mode user now d number).inodes.store.second ≡ o
  numbered_on_root o d None low = refl
  numbered_on_root o d (Some ino) low = known_on_root o d ino (low ino refl)

  on_root : (o : Option Store) → (new_in (on_disks root refs o) 0 mode user now).inodes.store.second ≡ o
  on_root o =
      let n : Inodes = on_disks root refs o in
      numbered_on_root o (drawn_on n 0) (drawn_on n 0).number (λ ino is.
      let free = draw_free (store_on n.store 0) (λ i. nat_lt 0 (slice_index (references_on n.store n.references 0) i)) ino is in
      let key : IsNewKey n.store 0 ino = new_key n.store 0 ino (omega arith) (λ other. absurd (other refl)) free in
      not_above ino root.count key.disk)

  -- on the second one: the root's stays
  known_on_second : (x : Store) (d : Draw) (ino : ℕ) → nat_lt root.count (root.count + ino) ≡ true
      → (new_numbered (on_disks root refs (Some x)) 1 mode user now d (Some ino)).inodes.store.root ≡ root
  known_on_second x d ino high =
      let s : Stores = (on_disks root refs (Some x)).store in
      root_when root (nat_lt (referenced refs) 100) _ _
      ((node_there (with_draw s 1 d) (root.count + ino) node (room_at s (root.count + ino))).root
      (ap (λ t. cond {A = ℕ} t 1 0) high)) refl

  numbered_on_second : (x : Store) (d : Draw) (number : Option ℕ)
      → ((ino : ℕ) → number ≡ Some ino → nat_lt root.count (root.count + ino) ≡ true)
      → (new_numbered (on_disks root refs (Some x)) 1 mode user now d number).inodes.store.root ≡ root
  numbered_on_second x d None high = refl
  numbered_on_second x d (Some ino) high = known_on_second x d ino (high ino refl)

  on_second : (x : Store) → (new_in (on_disks root refs (Some x)) 1 mode user now).inodes.store.root ≡ root
  on_second x =
      let n : Inodes = on_disks root refs (Some x) in
      numbered_on_second x (drawn_on n 1) (drawn_on n 1).number (λ ino is.
      let free = draw_free (store_on n.store 1) (λ i. nat_lt 0 (slice_index (references_on n.store n.references 1) i)) ino is in
      let key : IsNewKey n.store 1 (root.count + ino) = new_key n.store 1 ino (omega arith) (λ other. refl) free in
      is_above (root.count + ino) root.count key.disk)

  -- where there is no second one, none comes
  numbered_alone : (d : Draw) (number : Option ℕ)
      → (new_numbered (on_disks root refs None) 1 mode user now d number).inodes.store.second ≡ None
  numbered_alone d None = refl
  numbered_alone d (Some ino) =
      let s : Stores = (on_disks root refs None).store in
      second_when None (nat_lt (referenced refs) 100) _ _
      ((node_there (with_draw s 1 d) (root.count + ino) node (room_at s (root.count + ino))).second refl) refl

  alone : (m : MountTable) (dir : ℕ)
      → (new_in (on_disks root refs None) (split_of m dir).0 mode user now).inodes.store.second ≡ None
  alone m dir = by (nat_le dir m.first) where
    by : (b : Bool)
        → (new_in (on_disks root refs None) (cond {A = ℕ × ℕ} b (0, dir) (1, dir - m.first)).0 mode user now).inodes.store.second ≡ None
    by true = on_root None
    by false = numbered_alone (drawn_on (on_disks root refs None) 1) (drawn_on (on_disks root refs None) 1).number

  beside : (x : Store) (m : MountTable) (dir : ℕ) → m.first ≡ root.count
      → OnItsDisk (on_disks root refs (Some x)).store
      (new_in (on_disks root refs (Some x)) (split_of m dir).0 mode user now).inodes.store dir
  beside x m dir first = by (nat_le dir m.first) refl where
    by : (b : Bool) → nat_le dir m.first ≡ b → OnItsDisk (on_disks root refs (Some x)).store
        (new_in (on_disks root refs (Some x)) (cond {A = ℕ × ℕ} b (0, dir) (1, dir - m.first)).0 mode user now).inodes.store dir
    by true is =
        let low = leb-true dir m.first is in
        let here : nat_lt root.count dir ≡ false = le-ltb root.count dir (omega (arith, low, first)) in
        record {
          second = λ on. on_root (Some x);
          root = λ on. no_zero (sym (ap (λ t. cond {A = ℕ} t 1 0) here) ∙ on);
        }
    by false is =
        let high = leb-false dir m.first is in
        let here : nat_lt root.count dir ≡ true = lt-ltb root.count dir (omega (arith, high, first)) in
        record {
          second = λ on. no_one (sym (ap (λ t. cond {A = ℕ} t 1 0) here) ∙ on);
          root = λ on. on_second x;
        }

-- Nodes are made on the disk of a directory.
pub new_there : (n : Inodes) (m : MountTable) (dir mode : ℕ) (user : User) (now : ℕ) → m.first ≡ n.store.root.count
    → OnItsDisk n.store (new_in n (split_of m dir).0 mode user now).inodes.store dir
new_there n m dir mode user now first = by n.store.root n.store.second n.references first where
  by : (root : Store) (o : Option Store) (refs : List ℕ) → m.first ≡ root.count
      → OnItsDisk (on_disks root refs o).store (new_in (on_disks root refs o) (split_of m dir).0 mode user now).inodes.store dir
  by root None refs is = record { second = λ on. alone root refs mode user now m dir; root = λ on. no_zero on }
  by root (Some x) refs is = beside root refs mode user now x m dir is

-- Reads and writes of a pipe change its own inode alone.
pub read_there : (store : Stores) (ends : ℕ) (p : Pipe) (image : Image) (at count time : ℕ)
    → OnItsDisk store (reads store ends p image at count time).store p.ino
unfolding reads
read_there store ends p image at count time = by (all_read store p) where
  m : Moving Image
  m = read_of store p image at count time

  by : (all : Bool) → OnItsDisk store (cond {A = PipeRead} all (record {
    store = begun_again store p;
    image = image;
    pipe = at_front ends p;
    answer = told_of_nothing ends count;
  }) (reads_some store p m)).store p.ino
  by true = fields_there store p.ino (record (pipe_file store p) { size = 0 })
  by false = node_there store p.ino m.node m.room

error_there : (s : Stores) (w : Writing) (key : ℕ) (e : Option Errno) (on : PipeWrite) → OnItsDisk s w.store key
    → OnItsDisk s on.store key → OnItsDisk s (unless_error w e on).store key
error_there s w key None on first rest = rest
error_there s w key (Some e) on first rest = first

tests_there : (c : WriteCall) (w : Writing) (on : PipeWrite) → OnItsDisk w.store on.store w.pipe.ino
    → OnItsDisk w.store
    (cond {A = PipeWrite} (w.left == 0) (ends_as w (Done c.count)) (cond (nat_lt c.ends 2) (ends_as w Broken)
    (cond (nat_le PIPSIZ (size_in w)) (waits w) (unless_error (appended w (append_of c w)) (append_of c w).error on)))).store w.pipe.ino
tests_there c w on rest = by (w.left == 0) (nat_lt c.ends 2) (nat_le PIPSIZ (size_in w)) where
  m : Moving (Unit {0})
  m = append_of c w

  by : (none unread full : Bool) → OnItsDisk w.store
      (cond {A = PipeWrite} none (ends_as w (Done c.count)) (cond unread (ends_as w Broken)
      (cond full (waits w) (unless_error (appended w m) m.error on)))).store w.pipe.ino
  by true unread full = same_stores w.store w.pipe.ino
  by false true full = same_stores w.store w.pipe.ino
  by false false true = same_stores w.store w.pipe.ino
  by false false false = error_there w.store (appended w m) w.pipe.ino m.error on (node_there w.store w.pipe.ino m.node m.room) rest

rounds_there : (more : ℕ) (c : WriteCall) (w : Writing) → OnItsDisk w.store (rounds more c w).store w.pipe.ino
rounds_there zero c w = same_stores w.store w.pipe.ino
rounds_there (suc more) c w =
    let m : Moving (Unit {0}) = append_of c w in
    tests_there c w (rounds more c (appended w m))
    (on_then w.store (appended w m).store (rounds more c (appended w m)).store w.pipe.ino
    (counts_set w.store w.pipe.ino m.room m.node) (node_there w.store w.pipe.ino m.node m.room)
    (rounds_there more c (appended w m)))

pub write_there : (store : Stores) (ends : ℕ) (p : Pipe) (image : Image) (at count time : ℕ)
    → OnItsDisk store (writes store ends p image at count time).store p.ino
unfolding writes
write_there store ends p image at count time =
    rounds_there (suc count) (write_call ends image count time) (record { store = store; pipe = p; at = at; left = count })
