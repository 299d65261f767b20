-- A pipe is a queue, through its reads and its writes.
use Rattle.std.proofs.Common.{◌≡◌, ◌≢◌, ◌+◌, ◌%◌, ◌^◌, ◌<◌, ◌≤◌, inl, inr, ℕ, zero, suc, Bool, true, false, cond, List, [], ◌++◌, length, take, drop, unwrap_or, Option, Some, None, refl, sym, ap, ◌∙◌, subst, arith, append_assoc, length-drop}
use Rattle.std.specs.Prelude.{nat_lt}
use Rattle.std.proofs.lemmas.Bool.{cases_eq, cases_lt}
use Rattle.std.proofs.lemmas.List.{append-nil, drop_all, drop-append-le, length-take-le}
use Rattle.v6_base.specs.Image.{Image}
use Rattle.v6_base.specs.Copy.{store_bytes}
use Rattle.v6_base.specs.declared.errno.Errno.{Errno}
use Rattle.v6_base.proofs.Copies.{load_wraps}
use Rattle.fs_codec.specs.Modes.{is_device}
use Rattle.fs_codec.specs.Store.{Node}
use Rattle.fs_laws.specs.Pieces.{Moving}
use Rattle.fs_nodes.specs.Keys.{Stores, node_numbered, room_at, with_node}
use Rattle.fs_nodes.proofs.KeyLaws.{node_set}
use Rattle.pipe_ends.specs.declared.ends.Pipe.{Pipe}
use Rattle.pipe_ends.specs.declared.ends.Piped.{Piped}
use Rattle.pipe_ends.specs.declared.ends.Piped.TheVariants.{Done, Wait, Broken, Error}
use Rattle.pipe_ends.specs.declared.ends.TheConstants.{PIPSIZ}
use Rattle.pipe_ends.specs.Pipes.{pipe_file, begun_again}
use Rattle.pipe_ends.specs.Queue.{contents, queue, IsQueue, GoesToEnd, ComesFromFront}
use Rattle.pipe_ends.specs.Reads.{PipeRead, at_front, rewound, told_of_nothing, ends_with, read_of, reads_some}
use Rattle.pipe_ends.specs.Writes.{WriteCall, Writing, PipeWrite, size_in, fitting, append_of, appended, ends_as, unless_error, rounds, write_call, writes}
use Rattle.pipe_ends.proofs.Contents.{drop_twice}
use Rattle.pipe_ends.proofs.QueueReads.{file_takes}
use Rattle.pipe_ends.proofs.QueueWrites.{Puts, loads_join, file_puts}
use Rattle.pipe_ends.proofs.RoundLemmas.{done_in, broken_in, waits_in, appends_at, less_left, after_tests, broken_says}

unwrapped : (o : Option Node) (d node : Node) → o ≡ Some node → unwrap_or o d ≡ node
unwrapped o d node is = ap (λ x. unwrap_or x d) is

file_is : (store : Stores) (p : Pipe) (node : Node) → node_numbered store p.ino ≡ Some node → pipe_file store p ≡ node
file_is store p node is = unwrapped (node_numbered store p.ino) _ node is

-- the file of a pipe after it was set
now_file : (store : Stores) (p q : Pipe) (new : Node) (room : ℕ) → IsQueue store p → q.ino ≡ p.ino
    → pipe_file (with_node store p.ino new room) q ≡ new
now_file store p q new room is same =
    file_is (with_node store p.ino new room) q new
    (ap (node_numbered (with_node store p.ino new room)) same ∙ node_set store p.ino room (pipe_file store p) new is.there)

-- A pipe stays a queue with a file that is no device, with each byte up to its end, no longer than a pipe, and read no further.
queue_stays : (store : Stores) (p q : Pipe) (new : Node) (room : ℕ) → IsQueue store p → q.ino ≡ p.ino
    → is_device new.mode ≡ false → new.size ≤ length new.body → new.size ≤ PIPSIZ → q.offset ≤ new.size
    → IsQueue (with_node store p.ino new room) q
queue_stays store p q new room is same plain whole small read =
    let now : Stores = with_node store p.ino new room in
    let file : new ≡ pipe_file now q = sym (now_file store p q new room is same) in
    record {
      there = ap (node_numbered now) same ∙ node_set store p.ino room (pipe_file store p) new is.there ∙ ap Some file;
      plain = ap (λ (n : Node). is_device n.mode) (sym file) ∙ plain;
      whole = subst (λ (n : Node). n.size ≤ length n.body) file whole;
      small = subst (λ (n : Node). n.size ≤ PIPSIZ) file small;
      read = subst (λ (n : Node). q.offset ≤ n.size) file read;
    }

-- what is left of a write goes to the end
abbrev Goes : WriteCall → Writing → PipeWrite → Type 0
Goes c w = GoesToEnd w.store w.pipe c.image w.at w.left

-- how far a write has come behind an append
abbrev behind : WriteCall → Writing → Writing
behind c w = appended w (append_of c w)

-- a write of which none is put
puts_nothing : (c : WriteCall) (w : Writing) (q : Pipe) (answer : Piped) → IsQueue w.store w.pipe → q.ino ≡ w.pipe.ino
    → q.offset ≡ w.pipe.offset → ((n : ℕ) → answer ≡ Done n → w.left ≡ 0)
    → ((left : ℕ) → answer ≡ Wait left → left ≡ w.left)
    → Goes c w (record { store = w.store; pipe = q; answer = answer })
puts_nothing c w q answer is ino offset done halts =
    let file : pipe_file w.store w.pipe ≡ pipe_file w.store q =
    sym (file_is w.store q (pipe_file w.store w.pipe) (ap (node_numbered w.store) ino ∙ is.there)) in
    let read = is.read in
    record {
      put = 0;
      few = omega arith;
      done = λ n says. sym (done n says);
      waits = λ left says. let same = halts left says in omega (arith, same);
      broken = λ says. refl;
      bytes = [];
      loaded = refl;
      behind = ap (λ n. drop n (contents (pipe_file w.store q))) offset
          ∙ ap (λ (f : Node). drop w.pipe.offset (contents f)) (sym file) ∙ sym (append-nil (queue w.store w.pipe));
      stays = record {
        there = ap (node_numbered w.store) ino ∙ is.there ∙ ap Some file;
        plain = ap (λ (n : Node). is_device n.mode) (sym file) ∙ is.plain;
        whole = subst (λ (n : Node). n.size ≤ length n.body) file is.whole;
        small = subst (λ (n : Node). n.size ≤ PIPSIZ) file is.small;
        read = subst (λ (n : Node). q.offset ≤ n.size) file (omega (arith, offset, read));
      };
    }

-- what an append has put
append_puts : (c : WriteCall) (w : Writing) → IsQueue w.store w.pipe
    → Puts c.image w.at (fitting w) (pipe_file w.store w.pipe) (append_of c w).node (append_of c w).error
append_puts c w is = file_puts c.image w.at (fitting w) c.time (room_at w.store w.pipe.ino) (pipe_file w.store w.pipe) is.plain is.whole

appended_stays : (c : WriteCall) (w : Writing) → IsQueue w.store w.pipe
    → IsQueue (behind c w).store (behind c w).pipe
appended_stays c w is =
    let puts = append_puts c w is in
    let few = puts.few in
    let size = puts.size in
    let small = is.small in
    let read = is.read in
    queue_stays w.store w.pipe (behind c w).pipe (append_of c w).node (append_of c w).room is refl
    (puts.device ∙ is.plain) puts.whole (omega (arith, few, size, small)) (omega (arith, size, read))

appended_behind : (c : WriteCall) (w : Writing) (is : IsQueue w.store w.pipe)
    → queue (behind c w).store (behind c w).pipe ≡ queue w.store w.pipe ++ (append_puts c w is).bytes
appended_behind c w is =
    let puts = append_puts c w is in
    let read = is.read in
    let old : List ℕ = contents (pipe_file w.store w.pipe) in
    let long : length old ≡ size_in w = length-take-le (size_in w) (pipe_file w.store w.pipe).body is.whole in
    ap (λ (f : Node). drop w.pipe.offset (contents f))
    (now_file w.store w.pipe (behind c w).pipe (append_of c w).node (append_of c w).room is refl)
    ∙ ap (drop w.pipe.offset) puts.behind ∙ drop-append-le w.pipe.offset old puts.bytes (omega (arith, long, read))

-- an append has an error, which ends the write
puts_error : (c : WriteCall) (w : Writing) (e : Errno) → IsQueue w.store w.pipe
    → Goes c w (ends_as (behind c w) (Error e))
puts_error c w e is =
    let puts = append_puts c w is in
    let few = puts.few in
    record {
      put = puts.put;
      few = omega (arith, few);
      done = λ n says. absurd (cc);
      waits = λ left says. absurd (cc);
      broken = λ says. absurd (cc);
      bytes = puts.bytes;
      loaded = puts.loaded;
      behind = appended_behind c w is;
      stays = appended_stays c w is;
    }

-- an append has none, and the tests come once more
puts_on : (c : WriteCall) (w : Writing) (r : PipeWrite) → IsQueue w.store w.pipe → (append_of c w).error ≡ None
    → r.answer ≢ Broken
    → Goes c (behind c w) r → Goes c w r
puts_on c w r is none whole rest =
    let puts = append_puts c w is in
    let all = puts.all none in
    let few = rest.few in
    let wrapped : (w.at + puts.put) % 65536 ≡ (w.at + fitting w) % 65536 % 65536 = omega (arith, all) in
    record {
      put = puts.put + rest.put;
      few = omega (arith, all, few);
      done = λ n says. let d = rest.done n says in omega (arith, d, all);
      waits = λ left says. let l = rest.waits left says in omega (arith, l, all);
      broken = λ says. absurd (whole says);
      bytes = puts.bytes ++ rest.bytes;
      loaded = loads_join c.image w.at puts.put rest.put puts.bytes rest.bytes puts.loaded
          (load_wraps c.image (w.at + puts.put) ((w.at + fitting w) % 65536) rest.put wrapped ∙ rest.loaded);
      behind = rest.behind ∙ ap (λ l. l ++ rest.bytes) (appended_behind c w is)
          ∙ append_assoc (queue w.store w.pipe) puts.bytes rest.bytes;
      stays = rest.stays;
    }

after_puts : (f : ℕ) (c : WriteCall) (w : Writing) (o : Option Errno) → (append_of c w).error ≡ o → IsQueue w.store w.pipe
    → 2 ≤ c.ends
    → Goes c (behind c w) (rounds f c (behind c w))
    → Goes c w (after_tests f c w)
after_puts f c w None says is both rest =
    subst (λ o. Goes c w (unless_error (behind c w) o (rounds f c (behind c w))))
    (sym says) (puts_on c w (rounds f c (behind c w)) is says
    (λ b. let less = broken_says c (behind c w) f b in absurd (omega (arith, both, less))) rest)
after_puts f c w (Some e) says is both rest =
    subst (λ o. Goes c w (unless_error (behind c w) o (rounds f c (behind c w))))
    (sym says) (puts_error c w e is)

-- What the rounds of a write put.
rounds_put : (f : ℕ) (c : WriteCall) (w : Writing) → w.left < f → IsQueue w.store w.pipe
    → Goes c w (rounds f c w)
rounds_put zero c w enough is = absurd (omega (arith, enough))
rounds_put (suc f) c w enough is = elim (cases_eq w.left 0) [
  | inl none ↦
      subst (Goes c w) (sym (done_in f c w none))
      (puts_nothing c w w.pipe (Done c.count) is refl refl (λ n says. none) (λ left says. absurd (cc)))
  | inr more ↦
      let some : 0 < w.left = omega (arith, more) in
      elim (cases_lt c.ends 2) [
        | inl less ↦
            subst (Goes c w) (sym (broken_in f c w some less))
            (puts_nothing c w w.pipe Broken is refl refl (λ n says. absurd (cc)) (λ left says. absurd (cc)))
        | inr both ↦ elim (cases_lt (size_in w) PIPSIZ) [
          | inl room ↦
              subst (Goes c w) (sym (appends_at f c w some both room))
              (after_puts f c w (append_of c w).error refl is both
              (rounds_put f c (behind c w) (less_left w f some room enough) (appended_stays c w is)))
          | inr above ↦
              subst (Goes c w) (sym (waits_in f c w some both above))
              (puts_nothing c w (record w.pipe { writer_waits = true }) (Wait w.left) is refl refl (λ n says. absurd (cc))
              (λ left says. let same : w.left ≡ left = cc in sym same))
        ]
      ]
]

-- What is written goes to the end.
pub writes_queue : (store : Stores) (ends : ℕ) (p : Pipe) (image : Image) (at count time : ℕ) → IsQueue store p
    → GoesToEnd store p image at count (writes store ends p image at count time)
unfolding writes
writes_queue store ends p image at count time is =
    rounds_put (suc count) (write_call ends image count time) (record { store = store; pipe = p; at = at; left = count })
    (omega arith) is

-- A read of a pipe of which all has been read: none is taken, and none was there.
front : (ends : ℕ) (p : Pipe) → ((at_front ends p).ino ≡ p.ino) × ((at_front ends p).offset ≡ 0)
front ends p = by (nat_lt ends 2) where
  by : (t : Bool) → ((cond t (rewound p) (record (rewound p) { reader_waits = true })).ino ≡ p.ino)
      × ((cond t (rewound p) (record (rewound p) { reader_waits = true })).offset ≡ 0)
  by true = (refl, refl)
  by false = (refl, refl)

told_none : (ends count n : ℕ) → told_of_nothing ends count ≡ Done n → n ≡ 0
told_none ends count n = by (nat_lt ends 2) where
  by : (t : Bool) → cond t (Done 0) (Wait count) ≡ Done n → n ≡ 0
  by true says = let same : 0 ≡ n = cc in sym same
  by false says = absurd (cc)

pub takes_nothing : (store : Stores) (ends : ℕ) (p : Pipe) (image : Image) (at count : ℕ) → IsQueue store p
    → p.offset ≡ (pipe_file store p).size
    → ComesFromFront store p image at count (record {
      store = begun_again store p;
      image = image;
      pipe = at_front ends p;
      answer = told_of_nothing ends count;
    })
takes_nothing store ends p image at count is read =
    let file : Node = pipe_file store p in
    let new : Node = record file { size = 0 } in
    let q : Pipe = at_front ends p in
    let at_0 = (front ends p).1 in
    let long : length (contents file) ≡ file.size = length-take-le file.size file.body is.whole in
    let none : queue store p ≡ [] = drop_all p.offset (contents file) (omega (arith, long, read)) in
    record {
      taken = 0;
      few = omega arith;
      done = λ n says.
          let zero_told = told_none ends count n says in
          let no_bytes : length (queue store p) ≡ 0 = ap length none in
          (zero_told, omega (arith, zero_told, no_bytes));
      stored = refl;
      rest = ap (λ (f : Node). drop q.offset (contents f)) (now_file store p q new (room_at store p.ino) is (front ends p).0)
          ∙ ap (λ n. drop {A = ℕ} n []) at_0 ∙ sym none;
      stays = queue_stays store p q new (room_at store p.ino) is (front ends p).0 is.plain (omega arith) (omega arith) (omega (arith, at_0));
    }

-- a read that has told its count has had no error
told_whole : (done : ℕ) (error : Option Errno) (n : ℕ) → ends_with done error ≡ Done n → (error ≡ None) × (n ≡ done)
told_whole done None n says = let same : done ≡ n = cc in (refl, sym same)
told_whole done (Some e) n says = absurd (cc)

pub takes_some : (store : Stores) (p : Pipe) (image : Image) (at count time : ℕ) → IsQueue store p
    → ComesFromFront store p image at count (reads_some store p (read_of store p image at count time))
takes_some store p image at count time is =
    let file : Node = pipe_file store p in
    let m : Moving Image = read_of store p image at count time in
    let takes = file_takes image at p.offset count time (room_at store p.ino) file is.plain is.whole in
    let q : Pipe = record p { offset = (p.offset + m.done) % 2 ^ 32 } in
    let few = takes.few in
    let read = is.read in
    let small = is.small in
    let done = takes.done in
    let size = takes.size in
    let moved : (p.offset + m.done) % 2 ^ 32 ≡ p.offset + takes.taken = omega (arith, few, read, small, done) in
    let long : length (contents file) ≡ file.size = length-take-le file.size file.body is.whole in
    let left = length-drop p.offset (contents file) in
    let here : at + 0 ≡ at = omega arith in
    record {
      taken = takes.taken;
      few = omega (arith, few, read);
      done = λ n says.
          let told = told_whole m.done m.error n says in
          let all = takes.all told.0 in
          let is_n = told.1 in
          (omega (arith, is_n, done), omega (arith, is_n, done, all, left, long, read));
      stored = ap (λ a. store_bytes image a (take takes.taken (queue store p))) (sym here) ∙ takes.stored;
      rest = ap (λ (f : Node). drop q.offset (contents f)) (now_file store p q m.node m.room is refl)
          ∙ ap (λ n. drop n (contents m.node)) moved ∙ ap (drop (p.offset + takes.taken)) takes.same
          ∙ sym (drop_twice p.offset takes.taken (contents file));
      stays = queue_stays store p q m.node m.room is refl (takes.device ∙ is.plain) takes.whole (omega (arith, size, small))
          (omega (arith, size, moved, few, read));
    }

-- the same of a call whose parts are those of what it comes to
pub same_write : (store : Stores) (p : Pipe) (image : Image) (at count : ℕ) (w : PipeWrite) (new : Stores) (q : Pipe)
    (answer : Piped) → new ≡ w.store → q ≡ w.pipe → answer ≡ w.answer → GoesToEnd store p image at count w
    → GoesToEnd store p image at count (record { store = new; pipe = q; answer = answer })
same_write store p image at count w new q answer stores pipes answers goes =
    let P : Stores → Pipe → Piped → Type 0 =
    λ s x a. GoesToEnd store p image at count (record { store = s; pipe = x; answer = a }) in
    subst (P new q) (sym answers) (subst (λ x. P new x w.answer) (sym pipes) (subst (λ s. P s w.pipe w.answer) (sym stores) goes))

pub same_read : (store : Stores) (p : Pipe) (image : Image) (at count : ℕ) (r : PipeRead) (new : Stores) (memory : Image) (q : Pipe)
    (answer : Piped) → new ≡ r.store → memory ≡ r.image → q ≡ r.pipe → answer ≡ r.answer
    → ComesFromFront store p image at count r
    → ComesFromFront store p image at count (record { store = new; image = memory; pipe = q; answer = answer })
same_read store p image at count r new memory q answer stores images pipes answers comes =
    let P : Stores → Image → Pipe → Piped → Type 0 =
    λ s i x a. ComesFromFront store p image at count (record { store = s; image = i; pipe = x; answer = a }) in
    subst (P new memory q) (sym answers)
    (subst (λ x. P new memory x r.answer) (sym pipes)
    (subst (λ i. P new i r.pipe r.answer) (sym images) (subst (λ s. P s r.image r.pipe r.answer) (sym stores) comes)))
