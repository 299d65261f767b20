-- A write in two parts that meet at a block's end is one write.
use Rattle.std.proofs.Common.{◌≡◌, ◌≢◌, ◌⊎◌, ◌+◌, ◌-◌, ◌/◌, ◌%◌, ◌<◌, ◌≤◌, ◌==◌, inl, inr, ℕ, zero, suc, Bool, true, false, not, cond, List, [], ◌∷◌, nat_lt, Option, Some, None, refl, sym, ap, ◌∙◌, subst, arith, if◌then◌else◌}
use Rattle.std.proofs.lemmas.Bool.{cases_lt, cases_eq, eq-eqb, ne_eqb}
use Rattle.bmap_path.specs.declared.BlockName.{BlockName}
use Rattle.bmap_path.specs.Path.{path_of}
use Rattle.v6_base.specs.declared.errno.Errno.{Errno}
use Rattle.v6_base.specs.declared.errno.Errno.TheVariants.{EFBIG, ENOSPC, EFAULT}
use Rattle.fs_codec.specs.Modes.{is_device, is_large}
use Rattle.fs_codec.specs.Store.{Node, holds}
use Rattle.fs_laws.specs.Touch.{Touching, touching, take_names, gained}
use Rattle.fs_laws.specs.Pieces.{pieces, piece_end, Moving, going_on, writing, size_limit, with_bytes, write_file}
use Rattle.fs_laws.proofs.PieceLemmas.{no_pieces, pieces_step, touched_device, touched_room}

abbrev Writing : Type 0
Writing = Moving (Unit {0})

-- where the bytes of a write come from: so many, from so many on
abbrev pub Source : Type 0
Source = ℕ → ℕ → Option (List ℕ)

-- a write that goes on with a file, where so many bytes are done
abbrev pub going : Node → ℕ → ℕ → Writing
going node room done = record { node = node; room = room; memory = tt; done = done; error = None }

-- What two writes leave is the same, however many bytes each has done.
pub record Alike (x y : Writing) : Type 0 where
  pub node : x.node ≡ y.node
  pub room : x.room ≡ y.room
  pub error : x.error ≡ y.error

-- a write that has ended with an error
abbrev ended : Node → ℕ → ℕ → Errno → Writing
ended node room done e = record { node = node; room = room; memory = tt; done = done; error = Some e }

-- Two that end alike, and two that go on alike.
ended_alike : (done other : ℕ) (node : Node) (room : ℕ) (e : Errno) → Alike (ended node room done e) (ended node room other e)
ended_alike done other node room e = record { node = refl; room = refl; error = refl }

going_alike : (done other : ℕ) (node : Node) (room : ℕ) → Alike (going node room done) (going node room other)
going_alike done other node room = record { node = refl; room = refl; error = refl }

-- The first piece of a write.
module _ (node : Node) (room at : ℕ) where
  abbrev touch : Touching
  touch = touching node room (at / 512)

  -- what becomes of it: by the greatest size, by the touch of its block, and by the bytes that are got
  abbrev piece_so : Bool → Bool → ℕ → Option (List ℕ) → (List ℕ → Writing) → Writing
  piece_so large there done got next =
      cond large (ended node room done EFBIG)
      (cond (not there) (ended touch.node touch.room done ENOSPC) (going_on got next (ended touch.node touch.room done EFAULT)))

  abbrev piece : ℕ → ℕ → Option (List ℕ) → (List ℕ → Writing) → Writing
  piece e done got next = piece_so (nat_lt (size_limit node) e) touch.is_done done got next

  -- the write after it
  abbrev onward : Source → ℕ → ℕ → ℕ → List ℕ → Writing
  onward get end start e bytes = writing get (pieces e end) (going (with_bytes touch.node at bytes) touch.room (e - start))

  -- What holds of each way in which the piece ends holds after it.
  piece_by : (R : Writing → Writing → Type 0) (e done other : ℕ) (got gets : Option (List ℕ)) (f g : List ℕ → Writing)
      → got ≡ gets
      → ((n : Node) (r : ℕ) (error : Errno) → R (ended n r done error) (ended n r other error))
      → ((bytes : List ℕ) → R (f bytes) (g bytes)) → R (piece e done got f) (piece e other gets g)
  piece_by R e done other got gets f g same ends goes =
      subst (λ o. R (piece e done got f) (piece e other o g)) same (by (nat_lt (size_limit node) e) touch.is_done got)
    where
      by : (large there : Bool) (o : Option (List ℕ)) → R (piece_so large there done o f) (piece_so large there other o g)
      by true there o = ends node room EFBIG
      by false false o = ends touch.node touch.room ENOSPC
      by false true None = ends touch.node touch.room EFAULT
      by false true (Some bytes) = goes bytes

  -- A write begins with it.
  first_piece : (end : ℕ) (get : Source) (start : ℕ) → start ≤ at → at < end
      → writing get (pieces at end) (going node room (at - start))
      ≡ piece (piece_end at end) (at - start) (get (at - start) (piece_end at end - at)) (onward get end start (piece_end at end))
  first_piece end get start low some =
      let done : at - start + (piece_end at end - at) ≡ piece_end at end - start = omega (arith, low, some) in
      ap (λ ps. writing get ps (going node room (at - start))) (pieces_step at end some)
      ∙ ap (λ d. piece (piece_end at end) (at - start) (get (at - start) (piece_end at end - at))
      (λ bytes. writing get (pieces (piece_end at end) end) (going (with_bytes touch.node at bytes) touch.room d))) done

-- A write depends on its source only at its pieces.
module _ (end : ℕ) (get gets : Source) (start starts : ℕ) where
  abbrev one : ℕ → Node → ℕ → Writing
  one at node room = writing get (pieces at end) (going node room (at - start))

  abbrev other : ℕ → Node → ℕ → Writing
  other at node room = writing gets (pieces at end) (going node room (at - starts))

  -- where there are none
  no_writes : (at : ℕ) (node : Node) (room : ℕ) → end ≤ at → Alike (one at node room) (other at node room)
  no_writes at node room none =
      subst (λ ps. Alike (writing get ps (going node room (at - start))) (writing gets ps (going node room (at - starts))))
      (sym (no_pieces at end none)) (going_alike (at - start) (at - starts) node room)

  same_writes : (n at : ℕ) (node : Node) (room : ℕ) → end ≤ at + n → start ≤ at → starts ≤ at
      → ((v k : ℕ) → at ≤ v → v + k ≤ end → get (v - start) k ≡ gets (v - starts) k)
      → Alike (one at node room) (other at node room)
  same_writes zero at node room few low lows same = no_writes at node room (omega (arith, few))
  same_writes (suc n) at node room few low lows same = elim (cases_lt at end) [
    | inr none ↦ no_writes at node room none
    | inl some ↦
        (let e : ℕ = piece_end at end in
        let further : at + 1 ≤ piece_end at end = omega (arith, some) in
        let within : piece_end at end ≤ end = omega (arith, some) in
        let R : Writing → Type 0 = λ x. Alike x (other at node room) in
        let S : Writing → Type 0 =
        λ y. Alike (piece node room at e (at - start) (get (at - start) (e - at)) (onward node room at get end start e)) y in
        subst R (sym (first_piece node room at end get start low some))
        (subst S (sym (first_piece node room at end gets starts lows some))
        (piece_by node room at Alike e (at - start) (at - starts) (get (at - start) (e - at)) (gets (at - starts) (e - at))
        (onward node room at get end start e) (onward node room at gets end starts e)
        (same at (e - at) (omega arith) (omega (arith, within, further))) (ended_alike (at - start) (at - starts))
        (λ bytes. same_writes n e (with_bytes (touch node room at).node at bytes) (touch node room at).room
        (omega (arith, few, further)) (omega (arith, low, further)) (omega (arith, lows, further))
        (λ v k from to. same v k (omega (arith, from, further)) to)))))
  ]

-- what comes of two writes, of which the second is not begun where the first ends with an error
abbrev pub unless_ended : Option Errno → Writing → Writing → Writing
unless_ended None next end = next
unless_ended (Some e) next end = end

-- a write that goes on where another one has come to
abbrev joined : Source → ℕ → ℕ → Writing → Writing
joined get at end first = unless_ended first.error (writing get (pieces at end) (going first.node first.room 0)) first

-- A write is two, which meet at a block's end: they get the bytes that it gets.
module _ (start middle end : ℕ) (get early later : Source) (high : middle ≤ end) (border : (middle % 512 ≡ 0) ⊎ (middle ≡ end))
    (first : (v k : ℕ) → start ≤ v → v + k ≤ middle → get (v - start) k ≡ early (v - start) k)
    (second : (v k : ℕ) → middle ≤ v → v + k ≤ end → get (v - start) k ≡ later (v - middle) k)
  where
    abbrev whole : ℕ → Node → ℕ → Writing
    whole at node room = writing get (pieces at end) (going node room (at - start))

    abbrev parts : ℕ → Node → ℕ → Writing
    parts at node room = joined later middle end (writing early (pieces at middle) (going node room (at - start)))

    -- nothing is left of the first
    met : (at : ℕ) (node : Node) (room : ℕ) → start ≤ at → middle ≡ at → Alike (whole at node room) (parts at node room)
    met at node room from same =
        let none : middle - middle ≡ 0 = omega arith in
        let there : Alike (whole middle node room) (writing later (pieces middle end) (going node room (middle - middle))) =
        same_writes end get later start middle (end - middle) middle node room (omega arith) (omega (arith, from, same))
        (omega arith) second in
        subst (λ a. Alike (whole a node room) (parts a node room)) same
        (subst (λ ps. Alike (whole middle node room)
        (joined later middle end (writing early ps (going node room (middle - start)))))
        (sym (no_pieces middle middle (omega arith)))
        (subst (λ d. Alike (whole middle node room) (writing later (pieces middle end) (going node room d))) none there))

    -- where the first piece of both ends
    same_end : (at : ℕ) → at < middle → piece_end at middle ≡ piece_end at end
    same_end at some = elim border [
      | inl block ↦ omega (arith, some, block, high)
      | inr same ↦ ap (piece_end at) same
    ]

    two_writes : (n at : ℕ) (node : Node) (room : ℕ) → middle ≤ at + n → at ≤ middle → start ≤ at
        → Alike (whole at node room) (parts at node room)
    two_writes zero at node room few low from = met at node room from (omega (arith, few, low))
    two_writes (suc n) at node room few low from = elim (cases_lt at middle) [
      | inr none ↦ met at node room from (omega (arith, none, low))
      | inl some ↦
          (let e : ℕ = piece_end at end in
          let ends : piece_end at middle ≡ piece_end at end = same_end at some in
          let further : at + 1 ≤ piece_end at end = omega (arith, some, high) in
          let within : piece_end at end ≤ middle = omega (arith, some, ends) in
          let R : Writing → Type 0 = λ x. Alike x (parts at node room) in
          let S : Writing → Type 0 =
          λ y. Alike (piece node room at e (at - start) (get (at - start) (e - at)) (onward node room at get end start e))
          (joined later middle end y) in
          let Q : ℕ → Type 0 =
          λ m. S (piece node room at m (at - start) (early (at - start) (m - at)) (onward node room at early middle start m)) in
          subst R (sym (first_piece node room at end get start from (omega (arith, some, high))))
          (subst S (sym (first_piece node room at middle early start from some))
          (subst Q (sym ends)
          (piece_by node room at (λ x y. Alike x (joined later middle end y)) e (at - start) (at - start)
          (get (at - start) (e - at)) (early (at - start) (e - at)) (onward node room at get end start e)
          (onward node room at early middle start e)
          (first at (e - at) from (omega (arith, within, further))) (ended_alike (at - start) (at - start))
          (λ bytes. two_writes n e (with_bytes (touch node room at).node at bytes) (touch node room at).room
          (omega (arith, few, further)) within (omega (arith, from, further)))))))
    ]

-- What a write keeps of a file, and of the blocks that are free.
record Keeps (node : Node) (room : ℕ) (x : Writing) : Type 0 where
  pub actime : x.node.actime ≡ node.actime
  pub modtime : x.node.modtime ≡ node.modtime
  pub device : is_device x.node.mode ≡ is_device node.mode
  pub fewer : x.room ≤ room

record SameTimes (old new : Node) : Type 0 where
  pub actime : new.actime ≡ old.actime
  pub modtime : new.modtime ≡ old.modtime

taken_times : (names : List BlockName) (node : Node) (room : ℕ) → SameTimes node (take_names names node room).node
taken_times [] node room = record { actime = refl; modtime = refl }
taken_times (name ∷ names) node room =
    by (holds node name) (room == 0) (taken_times names node room) (taken_times names (gained node name) (room - 1))
  where
    by : (t s : Bool) → SameTimes node (take_names names node room).node
        → SameTimes (gained node name) (take_names names (gained node name) (room - 1)).node
        → SameTimes node (cond t (take_names names node room)
        (cond s (record { node = node; room = room; is_done = false }) (take_names names (gained node name) (room - 1)))).node
    by true s a b = a
    by false true a b = record { actime = refl; modtime = refl }
    by false false a b = record { actime = b.actime; modtime = b.modtime }

keeps_all : (node : Node) (room done : ℕ) (e : Option Errno)
    → Keeps node room (record { node = node; room = room; memory = tt; done = done; error = e })
keeps_all node room done e = record { actime = refl; modtime = refl; device = refl; fewer = omega arith }

keeps_then : (node next : Node) (room less : ℕ) (x : Writing) → Keeps node room (going next less 0) → Keeps next less x
    → Keeps node room x
keeps_then node next room less x a b =
    let fewer = a.fewer in
    let fewest = b.fewer in
    record {
      actime = b.actime ∙ a.actime;
      modtime = b.modtime ∙ a.modtime;
      device = b.device ∙ a.device;
      fewer = omega (arith, fewer, fewest);
    }

-- A touch keeps it.
touch_keeps : (node : Node) (room at : ℕ) → Keeps node room (going (touch node room at).node (touch node room at).room 0)
touch_keeps node room at =
    let times : SameTimes node (touch node room at).node = taken_times (path_of (is_large node.mode) (at / 512)) node room in
    record {
      actime = times.actime;
      modtime = times.modtime;
      device = touched_device node room (at / 512);
      fewer = touched_room node room (at / 512);
    }

-- bytes that are put into a file keep it
bytes_keep : (node : Node) (room at : ℕ) (bytes : List ℕ) → Keeps node room (going (with_bytes node at bytes) room 0)
bytes_keep node room at bytes = record { actime = refl; modtime = refl; device = refl; fewer = omega arith }

-- A write of pieces keeps it.
keeps : (get : Source) (ps : List (ℕ × ℕ)) (node : Node) (room done : ℕ) → Keeps node room (writing get ps (going node room done))
keeps get [] node room done = keeps_all node room done None
keeps get (p ∷ ps) node room done =
    by (nat_lt (size_limit node) p.1) (touch node room p.0).is_done (get done (p.1 - p.0))
    (λ bytes. keeps get ps (with_bytes (touch node room p.0).node p.0 bytes) (touch node room p.0).room (done + (p.1 - p.0)))
  where
    -- the write behind the piece
    behind : List ℕ → Writing
    behind bytes = writing get ps (going (with_bytes (touch node room p.0).node p.0 bytes) (touch node room p.0).room
        (done + (p.1 - p.0)))

    touched : (x : Writing) → Keeps (touch node room p.0).node (touch node room p.0).room x → Keeps node room x
    touched x k = keeps_then node (touch node room p.0).node room (touch node room p.0).room x (touch_keeps node room p.0) k

    by : (large there : Bool) (o : Option (List ℕ))
        → ((bytes : List ℕ) → Keeps (with_bytes (touch node room p.0).node p.0 bytes) (touch node room p.0).room (behind bytes))
        → Keeps node room (piece_so node room p.0 large there done o behind)
    by true there o rest = keeps_all node room done (Some EFBIG)
    by false false o rest = touched _ (keeps_all (touch node room p.0).node (touch node room p.0).room done (Some ENOSPC))
    by false true None rest = touched _ (keeps_all (touch node room p.0).node (touch node room p.0).room done (Some EFAULT))
    by false true (Some bytes) rest =
        touched (behind bytes) (keeps_then (touch node room p.0).node (with_bytes (touch node room p.0).node p.0 bytes)
        (touch node room p.0).room (touch node room p.0).room (behind bytes)
        (bytes_keep (touch node room p.0).node (touch node room p.0).room p.0 bytes) (rest bytes))

-- the times that a write of so many bytes sets
abbrev dated : Node → ℕ → ℕ → Node
dated node count time = if count == 0 then node else record node { actime = time; modtime = time }

-- a file of which is known whether it is a device
abbrev writes : Bool → Source → Node → ℕ → ℕ → ℕ → Writing
writes device get node room at count = cond device (going node room 0) (writing get (pieces at (at + count)) (going node room 0))

writes_keep : (device : Bool) (get : Source) (node : Node) (room at count : ℕ)
    → Keeps node room (writes device get node room at count)
writes_keep true get node room at count = keeps_all node room 0 None
writes_keep false get node room at count = keeps get (pieces at (at + count)) node room 0

no_date : (x : Node) (count time : ℕ) → count ≡ 0 → dated x count time ≡ x
no_date x count time none = ap (λ t. cond t x (record x { actime = time; modtime = time })) (eq-eqb count 0 none)

a_date : (x : Node) (count time : ℕ) → count ≢ 0 → dated x count time ≡ record x { actime = time; modtime = time }
a_date x count time some = ap (λ t. cond t x (record x { actime = time; modtime = time })) (ne_eqb count 0 some)

-- A write makes no more blocks free.
pub file_keeps : (get : Source) (node : Node) (room at count time : ℕ)
    → (write_file get node room (tt {0}) at count time).room ≤ room
file_keeps get node room at count time = (writes_keep (is_device node.mode) get (dated node count time) room at count).fewer

-- A file that was written at a time is written once more at it.
redated : (x : Node) (count time : ℕ) → x.actime ≡ time → x.modtime ≡ time → dated x count time ≡ x
redated x count time a b = by (count == 0)
  where
    same : record x { actime = time; modtime = time } ≡ x
    same = sym (λ i. record x { actime = a i; modtime = b i })

    by : (t : Bool) → cond t x (record x { actime = time; modtime = time }) ≡ x
    by true = refl
    by false = same

-- a write into the file that another one left, unless that ended with an error
abbrev pub then_write : Source → ℕ → ℕ → ℕ → Writing → Writing
then_write get at count time x = unless_ended x.error (write_file get x.node x.room (tt {0}) at count time) x

-- A write into a file, and two of which the second begins where the first ends: the second finds the file that the first left.
module _ (at k n : ℕ) (get early later : Source) (border : ((at + k) % 512 ≡ 0) ⊎ (n ≡ 0))
    (first : (v j : ℕ) → v + j ≤ k → get v j ≡ early v j) (second : (v j : ℕ) → v + j ≤ n → get (k + v) j ≡ later v j)
  where
    abbrev next : Bool → Writing → Writing
    next device x = unless_ended x.error (writes device later x.node x.room (at + k) n) x

    two_known : (device : Bool) (node : Node) (room : ℕ)
        → Alike (writes device get node room at (k + n)) (next device (writes device early node room at k))
    two_known true node room = going_alike 0 0 node room
    two_known false node room =
        let none : at - at ≡ 0 = omega arith in
        let whole : at + k + n ≡ at + (k + n) = omega arith in
        let meet : ((at + k) % 512 ≡ 0) ⊎ (at + k ≡ at + k + n) = elim border [
          | inl block ↦ inl block
          | inr nothing ↦ inr (omega (arith, nothing))
        ] in
        let two = two_writes at (at + k) (at + k + n) get early later (omega arith) meet
        (λ v j from to. first (v - at) j (omega (arith, from, to)))
        (λ v j from to. (let apart : v - at ≡ k + (v - (at + k)) = omega (arith, from) in
        ap (λ d. get d j) apart ∙ second (v - (at + k)) j (omega (arith, from, to))))
        k at node room (omega arith) (omega arith) (omega arith) in
        let P : ℕ → ℕ → Type 0 = λ e d. Alike (writing get (pieces at e) (going node room d))
        (joined later (at + k) (at + k + n) (writing early (pieces at (at + k)) (going node room d))) in
        subst (λ e. P e 0) whole (subst (λ d. P (at + k + n) d) none two)

    -- the same, where the file at which both begin is known
    begun : (node start : Node) (room time : ℕ) → dated node (k + n) time ≡ start → dated node k time ≡ start
        → start.mode ≡ node.mode
        → ((x : Node) → x.actime ≡ start.actime → x.modtime ≡ start.modtime → dated x n time ≡ x)
        → Alike (write_file get node room (tt {0}) at (k + n) time)
        (then_write later (at + k) n time (write_file early node room (tt {0}) at k time))
    begun node start room time one two mode stays =
        let device : Bool = is_device node.mode in
        let f : Writing = writes device early start room at k in
        let kept : Keeps start room f = writes_keep device early start room at k in
        let device_is : is_device f.node.mode ≡ device = kept.device ∙ ap is_device mode in
        let found : writes device later f.node f.room (at + k) n ≡ write_file later f.node f.room (tt {0}) (at + k) n time =
        ap (λ d. writes d later f.node f.room (at + k) n) (sym device_is)
        ∙ ap (λ x. writes (is_device f.node.mode) later x f.room (at + k) n) (sym (stays f.node kept.actime kept.modtime)) in
        let P : Node → Node → Type 0 = λ x y.
        Alike (writes device get x room at (k + n)) (then_write later (at + k) n time (writes device early y room at k)) in
        subst (λ x. P x (dated node k time)) (sym one)
        (subst (λ y. P start y) (sym two)
        (subst (λ x. Alike (writes device get start room at (k + n)) (unless_ended f.error x f)) found
        (two_known device start room)))

    pub two_files : (node : Node) (room time : ℕ) → (k ≡ 0 → n ≡ 0)
        → Alike (write_file get node room (tt {0}) at (k + n) time)
        (then_write later (at + k) n time (write_file early node room (tt {0}) at k time))
    two_files node room time both = elim (cases_eq k 0) [
      | inl none ↦
          (let no_more : n ≡ 0 = both none in
          let neither : k + n ≡ 0 = omega (arith, none, no_more) in
          begun node node room time (no_date node (k + n) time neither) (no_date node k time none) refl
          (λ x a b. no_date x n time no_more))
      | inr some ↦
          begun node (record node { actime = time; modtime = time }) room time
          (a_date node (k + n) time (λ e. some (omega (arith, e)))) (a_date node k time some) refl (λ x a b. redated x n time a b)
    ]
