-- What is found, made and entered is referred to, and what stays.
use Rattle.std.proofs.Common.{◌≡◌, ◌≢◌, ◌+◌, ◌<◌, inl, inr, ℕ, Bool, true, false, cond, List, length, slice_index, slice_set, Option, Some, None, IsSome, Result, Ok, Err, IfOk, IfErr, refl, sym, ap, ◌∙◌, subst, arith}
use Rattle.std.proofs.lemmas.Bool.{cases_lt, eq-eqb}
use Rattle.std.proofs.lemmas.List.{get_or-set_other}
use Rattle.v6_base.specs.Access.{then_do}
use Rattle.v6_base.specs.declared.errno.Errno.{Errno}
use Rattle.v6_base.specs.declared.errno.Errno.TheVariants.{ENFILE}
use Rattle.fs_codec.specs.Store.{Node}
use Rattle.fs_laws.specs.Numbers.{new_node}
use Rattle.fs_laws.specs.Pieces.{Moving}
use Rattle.fs_nodes.specs.Disks.{Disks}
use Rattle.fs_nodes.specs.Keys.{Stores, counts, node_numbered, room_at}
use Rattle.fs_nodes.specs.FileSystem.{FileSystem, SameRest, SameAroundEach, IsFileSystem}
use Rattle.fs_nodes.specs.Numbers.{MakesNode, MakesNone, next_draw, with_draw}
use Rattle.fs_nodes.proofs.CountLaws.{counts_drawn}
use Rattle.fs_nodes.proofs.KeyLaws.{counts_set, node_other, node_drawn}
use Rattle.fs_nodes.proofs.MadeLemmas.{IsNewKey, made_key}
use Rattle.fs_nodes.proofs.RestLemmas.{rest_stays, rest_then}
use Rattle.mount_tab.specs.Mounted.{MountTable, split_of}
use Rattle.fs_tree.specs.Mounting.{AreMounts}
use Rattle.fs_tree.proofs.MountLemmas.{crosses_of, disk_is, disk_there}
use Rattle.fs_tree.specs.declared.user.User.{User}
use Rattle.fs_tree.specs.declared.made.Made.{Made}
use Rattle.fs_tree.specs.declared.made.Made.TheVariants as made
use Rattle.fs_tree.specs.Name.{is_rooted, start_of}
use Rattle.fs_tree.specs.Path.{way, to_make}
use Rattle.fs_tree.specs.Entries.{WritesEntry}
use Rattle.fs_tree.specs.Finding.{Inodes, Finding, inodes_of, can_refer, with_reference, refused, referring, making, make_in, named_by_made}
use Rattle.fs_tree.proofs.EntryLemmas.{IsMadePlace, made_at, made_used_at}
use Rattle.sys_files.proofs.OwingLemmas.{once_more}
use Rattle.sys_files.specs.Entering.{HasEntry, HasMade, IsOnDisk, SameReferences, one_to, OneReferenceMore}

own : (ino : ℕ) → one_to ino ino ≡ 1
own ino = ap (λ t. cond t 1 0) (eq-eqb ino ino refl)

pub taken : (old new : FileSystem) (ino : ℕ) → OneReferenceMore old ino new → 0 < slice_index new.references ino
taken old new ino takes = let more = takes.references ino in let one = own ino in omega (arith, more, one)

pub if_ok : {A E : Type 0} (r : Result A E) (P : A → Type 0) → ((a : A) → r ≡ Ok a → P a) → IfOk r P
if_ok (Ok a) P holds = holds a refl
if_ok (Err e) P holds = tt

pub if_err : {A E : Type 0} (r : Result A E) (P : Type 0) → ((e : E) → r ≡ Err e → P) → IfErr r (λ e. P)
if_err (Ok a) P holds = tt
if_err (Err e) P holds = holds e refl

there : (o : Option Node) → IsSome o → (node : Node) × (o ≡ Some node)
there None some = absurd (cc)
there (Some node) some = (node, refl)

none_some : (o : Option Node) → IsSome o → o ≡ None → ⊥
none_some None some is = absurd (cc)
none_some (Some node) some is = absurd (cc)

started : (store : Stores) (t : Bool) (dir : ℕ) → IsSome (node_numbered store 1) → IsSome (node_numbered store dir)
    → IsSome (node_numbered store (cond t 1 dir))
started store true dir root some = root
started store false dir root some = some

pub rest_same : (old new : Disks (List (List ℕ))) → new ≡ old → SameAroundEach old new
rest_same old new is = subst (λ (l : Disks (List (List ℕ))). SameAroundEach old l) (sym is) (rest_stays old)

-- what is left of the disks by a search and a part of a call, and by a reference that goes after it
pub rest_from : (a b c : FileSystem) → b.blocks ≡ a.blocks → SameRest b c → SameRest a c
rest_from a b c found part = subst (λ (l : Disks (List (List ℕ))). SameAroundEach l c.blocks) found part

pub rest_after : (a b c d : FileSystem) → b.blocks ≡ a.blocks → SameRest b c → SameRest c d → SameRest a d
rest_after a b c d found part back =
    rest_then a.blocks c.blocks d.blocks (rest_from a b c found part) back

module _ (fs : FileSystem) (form : IsFileSystem fs) where
  pub used_low : (ino : ℕ) → IsSome (node_numbered fs.store ino) → ino < length fs.references
  used_low ino some = form.low ino some

  pub start_used : (dir : ℕ) (bytes : List ℕ) → 0 < slice_index fs.references dir
      → IsSome (node_numbered fs.store (start_of dir bytes))
  start_used dir bytes referred = started fs.store (is_rooted bytes) dir form.root (form.used dir referred)

  pub takes_one : (new : FileSystem) (ino : ℕ) → IsSome (node_numbered fs.store ino)
      → inodes_of new ≡ with_reference (inodes_of fs) ino → SameRest fs new → OneReferenceMore fs ino new
  takes_one new ino some is blocks = record {
    references = λ i. ap (λ (n : Inodes). slice_index n.references i) is
        ∙ once_more fs.references ino i (used_low ino some);
    counts = ap (λ (n : Inodes). counts n.store) is;
    blocks = blocks;
  }

  -- no number that is free is referred to
  free_unreferred : (ino : ℕ) → node_numbered fs.store ino ≡ None → slice_index fs.references ino ≡ 0
  free_unreferred ino none = elim (cases_lt 0 (slice_index fs.references ino)) [
    | inl some ↦ absurd (none_some (node_numbered fs.store ino) (form.used ino some) none)
    | inr few ↦ omega (arith, few)
  ]

-- What a search for a name that may be new refers to.
record Makes (n : Inodes) (m : Made) (r : Result Made Errno) (new : Inodes) : Type 0 where
  pub made : r ≡ Ok m
  pub inodes : new ≡ with_reference n (named_by_made m)

referring_made : (n : Inodes) (t : Bool) (a m : Made) (f : Finding Made)
    → f ≡ cond t (record { answer = Ok a; inodes = with_reference n (named_by_made a) }) (refused n ENFILE)
    → f.answer ≡ Ok m
    → Makes n m (Ok a) f.inodes
referring_made n false a m f is ok = absurd (cc)
referring_made n true a m f is ok =
    let same : a ≡ m = cc in
    record {
      made = ap Ok same;
      inodes =
          ap (λ (g : Finding Made). g.inodes) is ∙ ap (λ x. with_reference n (named_by_made x)) same;
    }

making_ok : (n : Inodes) (r : Result Made Errno) (m : Made) → (making n r).answer ≡ Ok m
    → Makes n m r (making n r).inodes
making_ok n (Ok a) m ok = referring_made n (can_refer n (named_by_made a)) a m (referring n (named_by_made a) a) refl ok
making_ok n (Err e) m ok = absurd (cc)

-- A search that is refused refers to nothing.
referring_none : (n : Inodes) (t : Bool) (a : Made) (e : Errno) (f : Finding Made)
    → f ≡ cond t (record { answer = Ok a; inodes = with_reference n (named_by_made a) }) (refused n ENFILE)
    → f.answer ≡ Err e → f.inodes ≡ n
referring_none n true a e f is err = absurd (cc)
referring_none n false a e f is err = ap (λ (g : Finding Made). g.inodes) is

making_none : (n : Inodes) (r : Result Made Errno) (e : Errno) → (making n r).answer ≡ Err e → (making n r).inodes ≡ n
making_none n (Ok a) e err =
    referring_none n (can_refer n (named_by_made a)) a e (referring n (named_by_made a) a) refl err
making_none n (Err x) e err = refl

module _ (fs new : FileSystem) (mounts : MountTable) (are : AreMounts mounts fs.store) (marks : List Bool) (user : User)
    (dir : ℕ)
    (bytes : List ℕ) (r : Result Made Errno) (form : IsFileSystem fs) (referred : 0 < slice_index fs.references dir)
    (answer : r ≡ (make_in (inodes_of fs) mounts marks user dir bytes).answer)
    (inodes : inodes_of new ≡ (make_in (inodes_of fs) mounts marks user dir bytes).inodes) (blocks : new.blocks ≡ fs.blocks)
  where
    made_is : (m : Made) → r ≡ Ok m
        → Makes (inodes_of fs) m (then_do (way fs.store mounts user dir bytes) (to_make fs.store mounts marks))
        (make_in (inodes_of fs) mounts marks user dir bytes).inodes
    made_is m ok =
        making_ok (inodes_of fs) (then_do (way fs.store mounts user dir bytes) (to_make fs.store mounts marks)) m
        (sym answer ∙ ok)

    made_one : (m : Made) → r ≡ Ok m → OneReferenceMore fs (named_by_made m) new
    made_one m ok =
        let is = made_is m ok in
        takes_one fs form new (named_by_made m)
        (made_used_at fs.store mounts (crosses_of fs.store mounts are form.second_root) marks user dir bytes m
        (start_used fs form dir bytes referred) is.made) (inodes ∙ is.inodes)
        (rest_same fs.blocks new.blocks blocks)

    pub made_takes : IfOk r (λ m. OneReferenceMore fs (named_by_made m) new)
    made_takes = if_ok r (λ m. OneReferenceMore fs (named_by_made m) new) made_one

    has_made : (m : Made) → OneReferenceMore fs (named_by_made m) new → new.store ≡ fs.store → IsMadePlace fs.store m
        → HasMade new m
    has_made (made.Found ino) takes same place = taken fs new ino takes
    has_made (made.Room at offset name) takes same place = record {
      referenced = taken fs new at takes;
      directory = λ node is. place.directory node (ap (λ (s : Stores). node_numbered s at) (sym same) ∙ is);
      begins = place.begins;
      small = place.small;
    }

    pub made_has : IfOk r (λ m. HasMade new m)
    made_has = if_ok r (λ m. HasMade new m) (λ m ok.
        let is = made_is m ok in
        has_made m (made_one m ok) (ap (λ (n : Inodes). n.store) (inodes ∙ is.inodes))
        (made_at fs.store mounts marks user dir bytes m is.made))

    pub made_none : IfErr r (λ e. SameReferences fs new)
    made_none = if_err r (SameReferences fs new) (λ e err.
        let same = inodes ∙ making_none (inodes_of fs)
        (then_do (way fs.store mounts user dir bytes) (to_make fs.store mounts marks)) e
        (sym answer ∙ err) in
        record {
          references = λ i. ap (λ (n : Inodes). slice_index n.references i) same;
          counts = ap (λ (n : Inodes). counts n.store) same;
          blocks = rest_same fs.blocks new.blocks blocks;
        })

-- An entry that is written keeps references and numbers.
pub written_keeps : (old new : FileSystem) (dir : ℕ) (m : Node → Moving (Unit {0})) (r : Result (Unit {0}) Errno)
    → IsSome (node_numbered old.store dir)
    → ((node : Node) → node_numbered old.store dir ≡ Some node → WritesEntry old.store dir (m node) new.store r)
    → new.references ≡ old.references → SameRest old new → SameReferences old new
written_keeps old new dir m r some each references blocks =
    let n = there (node_numbered old.store dir) some in
    let w = each n.0 n.1 in
    record {
      references = λ i. ap (λ l. slice_index l i) references;
      counts = ap counts w.store ∙ counts_set old.store dir (m n.0).room (m n.0).node;
      blocks = blocks;
    }

-- The disk of a directory that is referred to is there.
pub disk_has : (fs : FileSystem) → IsFileSystem fs → (mounts : MountTable) → AreMounts mounts fs.store → (dir : ℕ)
    → 0 < slice_index fs.references dir → (split_of mounts dir).0 ≢ 0 → IsSome fs.store.second
disk_has fs form mounts are dir referred other =
    let low = form.low dir (form.used dir referred) in
    let long = form.references in
    disk_there mounts fs.store dir are (omega (arith, low, long)) other

-- An inode that was made on it is of the same disk as the directory.
pub same_disk : (mounts : MountTable) (store : Stores) (dev dir ino : ℕ) → AreMounts mounts store
    → dev ≡ (split_of mounts dir).0
    → IsOnDisk (counts store) dev ino → (split_of mounts ino).0 ≡ (split_of mounts dir).0
same_disk mounts store dev dir ino are is on = disk_is mounts store ino are ∙ on ∙ is

-- A new inode, on a disk that is there.
module _ (fs new : FileSystem) (form : IsFileSystem fs) (dev mode uid gid time : ℕ) (small : dev < 2)
    (is_disk : dev ≢ 0 → IsSome fs.store.second) where
  makes_new : (ino : ℕ) → MakesNode fs dev mode uid gid time ino new → IsNewKey fs.store dev ino
  makes_new ino made = made_key fs new dev mode uid gid time ino small is_disk made

  pub new_takes : (ino : ℕ) → SameRest fs new → MakesNode fs dev mode uid gid time ino new
      → OneReferenceMore fs ino new
  new_takes ino blocks made =
      let is = makes_new ino made in
      let high = is.high in
      let none : slice_index fs.references ino ≡ 0 = free_unreferred fs form ino is.none in
      let low : ino < length fs.references = omega (arith, high, form.references) in
      record {
        references = λ i. ap (λ l. slice_index l i) made.references
            ∙ ap (λ n. slice_index (slice_set fs.references ino (n + 1)) i) (sym none)
            ∙ once_more fs.references ino i low;
        counts = ap counts made.store
            ∙ counts_set (with_draw fs.store dev (next_draw fs dev)) ino (room_at fs.store ino) (new_node mode uid gid time)
            ∙ counts_drawn fs.store dev (next_draw fs dev);
        blocks = blocks;
      }

  -- Nobody referred to it.
  pub new_fresh : (ino : ℕ) → MakesNode fs dev mode uid gid time ino new → slice_index fs.references ino ≡ 0
  new_fresh ino made = free_unreferred fs form ino (makes_new ino made).none

  -- A directory stays one.
  pub new_keeps_entry : (ino dir offset : ℕ) → MakesNode fs dev mode uid gid time ino new → HasEntry fs dir offset
      → HasEntry new dir offset
  new_keeps_entry ino dir offset made at =
      let is = makes_new ino made in
      let none : slice_index fs.references ino ≡ 0 = free_unreferred fs form ino is.none in
      let some = at.referenced in
      let other : dir ≢ ino =
      λ same. (let e : slice_index fs.references dir ≡ slice_index fs.references ino =
      ap (slice_index fs.references) same in omega (arith, e, none, some)) in
      let kept : slice_index new.references dir ≡ slice_index fs.references dir =
      ap (λ l. slice_index l dir) made.references ∙ get_or-set_other fs.references ino dir 1 0 other in
      let node_kept : node_numbered new.store dir ≡ node_numbered fs.store dir =
      ap (λ (s : Stores). node_numbered s dir) made.store
      ∙ node_other (with_draw fs.store dev (next_draw fs dev)) ino dir (room_at fs.store ino) (new_node mode uid gid time) other
      ∙ node_drawn fs.store dev (next_draw fs dev) dir in
      record {
        referenced = omega (arith, kept, some);
        directory = λ node there_is. at.directory node (sym node_kept ∙ there_is);
        begins = at.begins;
        small = at.small;
      }

  pub none_keeps_entry : (dir offset : ℕ) (e : Errno) → MakesNone fs dev e new → HasEntry fs dir offset
      → HasEntry new dir offset
  none_keeps_entry dir offset e made at = record {
    referenced = subst (λ (l : List ℕ). 0 < slice_index l dir) (sym made.references) at.referenced;
    directory = λ node there_is.
        at.directory node
        (sym (node_drawn fs.store dev (next_draw fs dev) dir) ∙ ap (λ (s : Stores). node_numbered s dir) (sym made.store)
        ∙ there_is);
    begins = at.begins;
    small = at.small;
  }

-- A search changes no store.
referring_store : (n : Inodes) (t : Bool) (a : Made)
    → (cond t (record { answer = Ok a; inodes = with_reference n (named_by_made a) }) (refused n ENFILE)).inodes.store
    ≡ n.store
referring_store n true a = refl
referring_store n false a = refl

pub making_store : (n : Inodes) (r : Result Made Errno) → (making n r).inodes.store ≡ n.store
making_store n (Ok a) = referring_store n (can_refer n (named_by_made a)) a
making_store n (Err e) = refl

-- A node that is changed keeps references and numbers.
pub changed_keeps : (old new : FileSystem) (ino : ℕ) (f : Node → Stores) → IsSome (node_numbered old.store ino)
    → ((node : Node) → node_numbered old.store ino ≡ Some node → new.store ≡ f node)
    → ((node : Node) → counts (f node) ≡ counts old.store) → new.references ≡ old.references
    → SameRest old new → SameReferences old new
changed_keeps old new ino f some each same references blocks =
    let n = there (node_numbered old.store ino) some in
    record {
      references = λ i. ap (λ l. slice_index l i) references;
      counts = ap counts (each n.0 n.1) ∙ same n.0;
      blocks = blocks;
    }
