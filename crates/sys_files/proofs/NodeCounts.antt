-- Searches, and what makes, truncates and frees a node, leave how many inodes each disk has; a number that is drawn is one of a
-- node.
use Rattle.std.proofs.Common.{◌≡◌, ◌≤◌, ◌∙◌, ℕ, Bool, true, false, not, nat_lt, cond, List, slice_index, Option, Some, None, Result, Ok, Err, refl, subst, arith}
use Rattle.v6_base.specs.declared.errno.Errno.{Errno}
use Rattle.v6_base.specs.declared.errno.Errno.TheVariants.{ENFILE}
use Rattle.fs_codec.specs.Modes.{is_device}
use Rattle.fs_codec.specs.Store.{Node}
use Rattle.fs_laws.specs.Numbers.{Draw, draw, new_node}
use Rattle.fs_laws.specs.Pieces.{Moving}
use Rattle.fs_nodes.specs.Keys.{Stores, counts, key_count, key_on, store_on, references_on, node_numbered, node_in, room_at, with_fields}
use Rattle.fs_nodes.specs.FileSystem.{referenced}
use Rattle.fs_nodes.specs.Numbers.{with_draw}
use Rattle.fs_nodes.proofs.CountLaws.{counts_cut, counts_drawn}
use Rattle.fs_nodes.proofs.KeyLaws.{counts_set}
use Rattle.fs_nodes.proofs.MadeLemmas.{IsNewKey, new_key}
use Rattle.fs_nodes.proofs.NumbersMake.{draw_free}
use Rattle.fs_tree.specs.declared.made.Made.{Made}
use Rattle.fs_tree.specs.declared.user.User.{User}
use Rattle.fs_tree.specs.Entries.{written}
use Rattle.fs_tree.specs.Finding.{Inodes, Finding, can_refer, with_reference, refused, referring, finding, named_by_made, making, put_back, removing}
use Rattle.sys_files.specs.Making.{new_numbered, new_in, entry_written, links_in, truncated_in, device_in}
use Rattle.sys_files.proofs.OwingLemmas.{put_counts}

-- A search leaves the counts, and so does what frees or truncates a node.
pub put_back_counts : (n : Inodes) (ino : ℕ) → counts (put_back n ino).store ≡ counts n.store
put_back_counts n ino = put_counts n.store ino (slice_index n.references ino) (node_numbered n.store ino)

same_counts : {A : Type 0} (n : Inodes) (b : Bool) (x y : Finding A) → counts x.inodes.store ≡ counts n.store
    → counts y.inodes.store ≡ counts n.store
    → counts (cond b x y).inodes.store ≡ counts n.store
same_counts n true x y p q = p
same_counts n false x y p q = q

pub referring_counts : {A : Type 0} (n : Inodes) (ino : ℕ) (a : A) → counts (referring n ino a).inodes.store ≡ counts n.store
referring_counts n ino a = same_counts n (can_refer n ino) (record { answer = Ok a; inodes = with_reference n ino })
    (refused n ENFILE) refl refl

pub finding_counts : (n : Inodes) (r : Result ℕ Errno) → counts (finding n r).inodes.store ≡ counts n.store
finding_counts n (Ok ino) = referring_counts n ino ino
finding_counts n (Err e) = refl

pub making_counts : (n : Inodes) (r : Result Made Errno) → counts (making n r).inodes.store ≡ counts n.store
making_counts n (Ok a) = referring_counts n (named_by_made a) a
making_counts n (Err e) = refl

pub removing_counts : (n : Inodes) (r : Result (ℕ × ℕ × ℕ) Errno) → counts (removing n r).inodes.store ≡ counts n.store
removing_counts n (Ok entry) =
    same_counts n (not (can_refer n entry.0)) (refused n ENFILE) _ refl
    (same_counts n (not (can_refer (with_reference n entry.0) entry.2))
    (refused (put_back (with_reference n entry.0) entry.0) ENFILE) _
    (put_back_counts (with_reference n entry.0) entry.0) refl)
removing_counts n (Err e) = refl

numbered_counts : (n : Inodes) (dev mode : ℕ) (user : User) (now : ℕ) (d : Draw) (o : Option ℕ)
    → counts (new_numbered n dev mode user now d o).inodes.store ≡ counts n.store
numbered_counts n dev mode user now d None = counts_drawn n.store dev d
numbered_counts n dev mode user now d (Some ino) =
    same_counts n (nat_lt (referenced n.references) 100) _ _
    (counts_set (with_draw n.store dev d) (key_on n.store dev ino) (room_at n.store (key_on n.store dev ino))
    (new_node mode user.uid user.gid now)
    ∙ counts_drawn n.store dev d)
    (counts_drawn n.store dev d)

pub new_counts : (n : Inodes) (dev mode : ℕ) (user : User) (now : ℕ)
    → counts (new_in n dev mode user now).inodes.store ≡ counts n.store
new_counts n dev mode user now = numbered_counts n dev mode user now d d.number
  where
    d : Draw
    d = draw (store_on n.store dev) (λ i. nat_lt 0 (slice_index (references_on n.store n.references dev) i))

pub truncated_counts : (n : Inodes) (ino now : ℕ) → counts (truncated_in n ino now).store ≡ counts n.store
truncated_counts n ino now = counts_cut n.store ino (node_in n.store ino) now

-- a node that is changed, and bytes of a directory that are written
pub fields_counts : (store : Stores) (ino : ℕ) (node : Node) → counts (with_fields store ino node) ≡ counts store
fields_counts store ino node = counts_set store ino (room_at store ino) node

pub links_counts : (n : Inodes) (ino links now : ℕ) → counts (links_in n ino links now).store ≡ counts n.store
links_counts n ino links now =
    let changed : Node = record (node_in n.store ino) { nlink = links; modtime = now } in
    fields_counts n.store ino changed

pub entry_counts : (n : Inodes) (dir offset : ℕ) (bytes : List ℕ) (now : ℕ)
    → counts (entry_written n dir offset bytes now).inodes.store ≡ counts n.store
entry_counts n dir offset bytes now =
    let m : Moving (Unit {0}) = written n.store dir (node_in n.store dir) offset bytes now in
    counts_set n.store dir m.room m.node

device_when : (b : Bool) (n other : Inodes) → counts other.store ≡ counts n.store
    → counts (cond b other n).store ≡ counts n.store
device_when true n other same = same
device_when false n other same = refl

pub device_counts : (n : Inodes) (ino device : ℕ) → counts (device_in n ino device).store ≡ counts n.store
device_counts n ino device =
    let changed : Node = record (node_in n.store ino) { device = device } in
    device_when (is_device (node_in n.store ino).mode) n _ (fields_counts n.store ino changed)

-- A number that is drawn on the root's disk is the key of a node.
pub new_within : (n : Inodes) (mode : ℕ) (user : User) (now key : ℕ) → (new_in n 0 mode user now).answer ≡ Ok key
    → (1 ≤ key) × (key ≤ key_count n.store)
new_within n mode user now key is = by d.number refl is
  where
    is_referenced : ℕ → Bool
    is_referenced i = nat_lt 0 (slice_index (references_on n.store n.references 0) i)

    d : Draw
    d = draw (store_on n.store 0) is_referenced

    known : (i : ℕ) (b : Bool) (new old : Inodes) → d.number ≡ Some i
        → (cond {A = Finding ℕ} b (record { answer = Ok i; inodes = new }) (refused old ENFILE)).answer ≡ Ok key
        → (1 ≤ key) × (key ≤ key_count n.store)
    known i true new old e f =
        let same : i ≡ key = cc f in
        let free = draw_free (store_on n.store 0) is_referenced i e in
        let one : IsNewKey n.store 0 i = new_key n.store 0 i (omega arith) (λ other. absurd (other refl)) free in
        subst (λ k. (1 ≤ k) × (k ≤ key_count n.store)) same (one.low, one.high)
    known i false new old e f = absurd (cc f)

    by : (o : Option ℕ) → d.number ≡ o → (new_numbered n 0 mode user now d o).answer ≡ Ok key
        → (1 ≤ key) × (key ≤ key_count n.store)
    by None e f = absurd (cc f)
    by (Some i) e f = known i (nat_lt (referenced n.references) 100) _ _ e f
