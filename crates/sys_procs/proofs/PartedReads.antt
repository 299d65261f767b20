-- A read of a file into zeros in two parts, of which the first ends with its block, is one read.
use Rattle.std.proofs.Common.{◌≡◌, ◌∙◌, ◌+◌, ◌-◌, ◌*◌, ◌/◌, ◌<◌, ◌≤◌, ◌==◌, inl, inr, ℕ, Bool, true, false, not, cond, if◌then◌else◌, List, [], ◌∷◌, ◌++◌, length, take, drop, min, replicate, slice_range, Option, Some, None, refl, sym, ap, subst, arith, append_assoc, length-append, length-drop}
use Rattle.std.proofs.Math.Seq.{take-append-add, drop-append-add}
use Rattle.std.proofs.lemmas.Bool.{cases_lt, ne_eqb}
use Rattle.std.proofs.lemmas.List.{length-replicate, length-take, replicate-append-replicate, drop-append-le}
use Rattle.bmap_path.specs.declared.BlockName.{BlockName}
use Rattle.bmap_path.specs.Path.{path_of}
use Rattle.v6_base.specs.declared.errno.Errno.{Errno}
use Rattle.v6_base.specs.declared.errno.Errno.TheVariants.{ENOSPC}
use Rattle.buf_cache.specs.Blocks.{patched}
use Rattle.fs_codec.specs.Modes.{is_device, is_large}
use Rattle.fs_codec.specs.Store.{Node, holds}
use Rattle.fs_laws.specs.Touch.{Touching, touching, take_names, gained}
use Rattle.fs_laws.specs.Pieces.{pieces, piece_end, Moving, stopped, reading, beginning, read_file}
use Rattle.fs_laws.proofs.PieceLemmas.{further, read_stop, read_more, read_end, touched_device, touched_room}
use Rattle.fs_nodes.specs.Copy.{put_kernel}

abbrev Reading : Type 0
Reading = Moving (List ℕ)

-- a read of so many bytes of a file, from one on, into zeros
abbrev pub part : Node → ℕ → ℕ → ℕ → ℕ → Reading
part node room from n time = read_file put_kernel node room (replicate n 0) from n time

-- bytes behind others
abbrev behind : List ℕ → Reading → Reading
behind xs m = record m { memory = xs ++ m.memory; done = length xs + m.done }

patched_behind : (xs ys bytes : List ℕ) (d : ℕ) → patched (length xs + d) bytes (xs ++ ys) ≡ xs ++ patched d bytes ys
patched_behind xs ys bytes d =
    let past : length xs + d + length bytes ≡ length xs + (d + length bytes) = omega arith in
    (λ i. take-append-add xs ys d i ++ bytes ++ drop (past i) (xs ++ ys))
    ∙ ap (λ l. (xs ++ take d ys) ++ bytes ++ l) (drop-append-add xs ys (d + length bytes))
    ∙ ap (λ l. l ++ drop (d + length bytes) ys) (append_assoc xs (take d ys) bytes)
    ∙ append_assoc xs (take d ys ++ bytes) (drop (d + length bytes) ys)

patched_long : (bytes block : List ℕ) → length bytes ≤ length block → length (patched 0 bytes block) ≡ length block
patched_long bytes block few =
    let a = length-append bytes (drop (0 + length bytes) block) in
    let b = length-drop (0 + length bytes) block in
    omega (arith, a, b, few)

patched_before : (bytes xs ys : List ℕ) → length bytes ≤ length xs → patched 0 bytes (xs ++ ys) ≡ patched 0 bytes xs ++ ys
patched_before bytes xs ys few =
    ap (λ l. bytes ++ l) (drop-append-le (0 + length bytes) xs ys (omega (arith, few)))
    ∙ sym (append_assoc bytes (drop (0 + length bytes) xs) ys)

-- A read goes on behind bytes as it does without them.
reads_behind : (places : List (ℕ × ℕ)) (xs ys : List ℕ) (node : Node) (room d : ℕ) (e : Option Errno)
    → reading put_kernel places (record { node = node; room = room; memory = xs ++ ys; done = length xs + d; error = e })
    ≡ behind xs (reading put_kernel places (record { node = node; room = room; memory = ys; done = d; error = e }))
reads_behind [] xs ys node room d e = refl
reads_behind (piece ∷ places) xs ys node room d e =
    let t : Touching = touching node room (piece.0 / 512) in
    let bytes : List ℕ = slice_range t.node.body piece.0 piece.1 in
    let n : ℕ = piece.1 - piece.0 in
    let sum : length xs + d + n ≡ length xs + (d + n) = omega arith in
    by _ _ t.is_done t.node t.room
    ((λ i. reading put_kernel places (record { node = t.node; room = t.room; memory = patched_behind xs ys bytes d i; done = sum i; error = None }))
    ∙ reads_behind places xs (patched d bytes ys) t.node t.room (d + n) None)
  where
    by : (x y : Reading) (there : Bool) (next : Node) (left : ℕ) → x ≡ behind xs y
        → cond {A = Reading} (not there) (record { node = next; room = left; memory = xs ++ ys; done = length xs + d; error = Some ENOSPC }) x
        ≡ behind xs (cond {A = Reading} (not there) (record { node = next; room = left; memory = ys; done = d; error = Some ENOSPC }) y)
    by x y true next left rest = rest
    by x y false next left rest = refl

-- What a touch keeps of a file.
record SameKept (old new : Node) : Type 0 where
  pub size : new.size ≡ old.size
  pub actime : new.actime ≡ old.actime

taken_same : (names : List BlockName) (node : Node) (room : ℕ) → SameKept node (take_names names node room).node
taken_same [] node room = record { size = refl; actime = refl }
taken_same (name ∷ names) node room =
    by (holds node name) (room == 0) (taken_same names node room) (taken_same names (gained node name) (room - 1))
  where
    by : (t s : Bool) → SameKept node (take_names names node room).node
        → SameKept (gained node name) (take_names names (gained node name) (room - 1)).node
        → SameKept node (cond t (take_names names node room)
        (cond s (record { node = node; room = room; is_done = false }) (take_names names (gained node name) (room - 1)))).node
    by true s a b = a
    by false true a b = record { size = refl; actime = refl }
    by false false a b = record { size = b.size; actime = b.actime }

touched_same : (node : Node) (room n : ℕ) → SameKept node (touching node room n).node
touched_same node room n = taken_same (path_of (is_large node.mode) n) node room

-- A read makes no block free.
reads_fewer : (places : List (ℕ × ℕ)) (node : Node) (room : ℕ) (memory : List ℕ) (d : ℕ) (e : Option Errno)
    → (reading put_kernel places (record { node = node; room = room; memory = memory; done = d; error = e })).room ≤ room
reads_fewer [] node room memory d e = omega arith
reads_fewer (piece ∷ places) node room memory d e =
    let t : Touching = touching node room (piece.0 / 512) in
    let bytes : List ℕ = slice_range t.node.body piece.0 piece.1 in
    let rest = reads_fewer places t.node t.room (patched d bytes memory) (d + (piece.1 - piece.0)) None in
    let few = touched_room node room (piece.0 / 512) in
    by _ t.is_done t.node t.room few rest
  where
    by : (y : Reading) (there : Bool) (next : Node) (left : ℕ) → left ≤ room → y.room ≤ left
        → (cond {A = Reading} (not there) (record { node = next; room = left; memory = memory; done = d; error = Some ENOSPC }) y).room ≤ room
    by y true next left few rest = omega (arith, few, rest)
    by y false next left few rest = few

-- a file of which is known whether it is a device
abbrev reads : Bool → Node → ℕ → List ℕ → List (ℕ × ℕ) → Reading
reads device node room memory places =
    cond device (beginning node room memory) (reading put_kernel places (beginning node room memory))

abbrev dated : Node → ℕ → ℕ → Node
dated node n time = if n == 0 then node else record node { actime = time }

file_fewer : (device : Bool) (node : Node) (room : ℕ) (memory : List ℕ) (places : List (ℕ × ℕ)) → (reads device node room memory places).room ≤ room
file_fewer true node room memory places = omega arith
file_fewer false node room memory places = reads_fewer places node room memory 0 None

pub part_fewer : (node : Node) (room from n time : ℕ) → (part node room from n time).room ≤ room
part_fewer node room from n time =
    file_fewer (is_device node.mode) (dated node n time) room (replicate n 0) (pieces from (min node.size (from + n)))

-- What one read comes to, by two: the second finds what the first left, or isn't begun, where the first ended with an error.
pub record Parted (whole first second : Reading) (n rest : ℕ) : Type 0 where
  pub long : length first.memory ≡ n
  pub next : first.error ≡ None → (whole.node ≡ second.node) × (whole.room ≡ second.room) × (whole.memory ≡ first.memory ++ second.memory)
  pub stop : (e : Errno) → first.error ≡ Some e → (whole.node ≡ first.node) × (whole.room ≡ first.room)
      × (whole.memory ≡ first.memory ++ replicate rest 0)

module _ (room from n rest time : ℕ) (some : 1 ≤ n) (end : from + n ≡ piece_end from (from + (n + rest))) where
  zeros : replicate {A = ℕ} (n + rest) 0 ≡ replicate n 0 ++ replicate rest 0
  zeros = sym (replicate-append-replicate {A = ℕ} n rest 0)

  redated : (x : Node) → x.actime ≡ time → dated x rest time ≡ x
  redated x is = by (rest == 0)
    where
      by : (b : Bool) → (if b then x else record x { actime = time }) ≡ x
      by true = refl
      by false = sym (λ i. record x { actime = is i })

  abbrev second : Reading → Reading
  second q = part q.node q.room (from + n) rest time

  -- The second part of a file that has no bytes there.
  none_there : (device : Bool) (x : Node) (left : ℕ) → is_device x.mode ≡ device → x.actime ≡ time → (device ≡ false → x.size ≤ from + n)
      → part x left (from + n) rest time ≡ beginning x left (replicate rest 0)
  none_there device x left is at short =
      ap (λ b. reads b (dated x rest time) left (replicate rest 0) (pieces (from + n) (min x.size (from + n + rest)))) is
      ∙ ap (λ y. reads device y left (replicate rest 0) (pieces (from + n) (min x.size (from + n + rest)))) (redated x at)
      ∙ by device short
    where
      by : (b : Bool) → (b ≡ false → x.size ≤ from + n)
          → reads b x left (replicate rest 0) (pieces (from + n) (min x.size (from + n + rest))) ≡ beginning x left (replicate rest 0)
      by true short = refl
      by false short =
          let few = short refl in
          read_end put_kernel (from + n) (min x.size (from + n + rest)) (beginning x left (replicate rest 0)) (omega (arith, few))

  -- Nothing of the file is read.
  nothing_read : (x : Node) (q r whole : Reading) → q ≡ beginning x room (replicate n 0) → r ≡ beginning x room (replicate rest 0)
      → whole ≡ beginning x room (replicate (n + rest) 0) → Parted whole q r n rest
  nothing_read x q r whole one two both = record {
    long = ap (λ (m : Reading). length m.memory) one ∙ length-replicate {A = ℕ} n 0;
    next = λ e. (
      ap (λ (m : Reading). m.node) both ∙ sym (ap (λ (m : Reading). m.node) two),
      ap (λ (m : Reading). m.room) both ∙ sym (ap (λ (m : Reading). m.room) two),
      ap (λ (m : Reading). m.memory) both ∙ zeros ∙ (λ i. (sym one i).memory ++ (sym two i).memory),
    );
    stop = λ e is. absurd (let no : None ≡ Some e = ap (λ (m : Reading). m.error) (sym one) ∙ is in cc no);
  }

  module _ (node x : Node) (same_size : x.size ≡ node.size) (device : is_device x.mode ≡ false) (at : x.actime ≡ time) (before : from < x.size) where
    abbrev e : ℕ
    e = min x.size (from + n)

    abbrev far : ℕ
    far = min x.size (from + (n + rest))

    abbrev t : Touching
    t = touching x room (from / 512)

    abbrev start : ℕ → Reading
    start k = beginning x room (replicate k 0)

    first_end : piece_end from e ≡ e
    first_end = omega (arith, end)

    whole_end : piece_end from far ≡ e
    whole_end = omega (arith, end)

    abbrev first : Reading
    first = reading put_kernel (pieces from e) (start n)

    abbrev whole : Reading
    whole = reading put_kernel (pieces from far) (start (n + rest))

    -- no block is free for a hole
    not_there : t.is_done ≡ false → (r : Reading) → Parted whole first r n rest
    not_there out r =
        let one : first ≡ stopped (start n) t ENOSPC = read_stop put_kernel from e (start n) (omega (arith, before, some)) out in
        let all : whole ≡ stopped (start (n + rest)) t ENOSPC = read_stop put_kernel from far (start (n + rest)) (omega (arith, before, some)) out in
        record {
          long = ap (λ (m : Reading). length m.memory) one ∙ length-replicate {A = ℕ} n 0;
          next = λ no. absurd (let is : Some ENOSPC ≡ None = ap (λ (m : Reading). m.error) (sym one) ∙ no in cc is);
          stop = λ _ is. (
            ap (λ (m : Reading). m.node) all ∙ sym (ap (λ (m : Reading). m.node) one),
            ap (λ (m : Reading). m.room) all ∙ sym (ap (λ (m : Reading). m.room) one),
            ap (λ (m : Reading). m.memory) all ∙ zeros ∙ ap (λ (m : Reading). m.memory ++ replicate rest 0) (sym one),
          );
        }

    abbrev bytes : List ℕ
    bytes = slice_range t.node.body from e

    few : length bytes ≤ n
    few = let is = length-take (e - from) (drop from t.node.body) in omega (arith, is)

    abbrev got : List ℕ
    got = patched 0 bytes (replicate n 0)

    long : length got ≡ n
    long = let z = length-replicate {A = ℕ} n 0 in patched_long bytes (replicate n 0) (let f = few in omega (arith, z, f)) ∙ z

    first_is : t.is_done ≡ true → first ≡ further t got (0 + (e - from))
    first_is there =
        let bytes_of : ℕ → List ℕ = λ k. patched 0 (slice_range t.node.body from k) (replicate n 0) in
        read_more put_kernel from e (start n) (bytes_of (piece_end from e)) (omega (arith, before, some)) there refl
        ∙ (λ i. reading put_kernel (pieces (first_end i) e) (further t (bytes_of (first_end i)) (0 + (first_end i - from))))
        ∙ read_end put_kernel e e (further t got (0 + (e - from))) (omega arith)

    whole_is : t.is_done ≡ true → whole ≡ reading put_kernel (pieces e far) (further t (got ++ replicate rest 0) (0 + (e - from)))
    whole_is there =
        let z = length-replicate {A = ℕ} n 0 in
        let bytes_of : ℕ → List ℕ = λ k. patched 0 (slice_range t.node.body from k) (replicate (n + rest) 0) in
        let split : bytes_of e ≡ got ++ replicate rest 0 =
        ap (patched 0 bytes) zeros ∙ patched_before bytes (replicate n 0) (replicate rest 0) (let f = few in omega (arith, z, f)) in
        read_more put_kernel from far (start (n + rest)) (bytes_of (piece_end from far)) (omega (arith, before, some)) there refl
        ∙ (λ i. reading put_kernel (pieces (whole_end i) far) (further t (bytes_of (whole_end i)) (0 + (whole_end i - from))))
        ∙ ap (λ l. reading put_kernel (pieces e far) (further t l (0 + (e - from)))) split

    abbrev last : Reading
    last = part t.node t.room (from + n) rest time

    touched : SameKept x t.node
    touched = touched_same x room (from / 512)

    still : is_device t.node.mode ≡ false
    still = touched_device x room (from / 512) ∙ device

    -- the rest of it, by whether the file has bytes there
    rest_is : t.is_done ≡ true → (whole.node ≡ last.node) × (whole.room ≡ last.room) × (whole.memory ≡ got ++ last.memory)
    rest_is there = elim (cases_lt (from + n) x.size) [
      | inl more ↦
          (let here : e ≡ from + n = omega (arith, more) in
          let done : 0 + (e - from) ≡ length got + 0 = (let l = long in omega (arith, here, l)) in
          let size = touched.size in
          let ends : far ≡ min t.node.size (from + n + rest) = omega (arith, size) in
          let it : last ≡ reading put_kernel (pieces (from + n) (min t.node.size (from + n + rest))) (beginning t.node t.room (replicate rest 0)) =
          ap (λ b. reads b (dated t.node rest time) t.room (replicate rest 0) (pieces (from + n) (min t.node.size (from + n + rest)))) still
          ∙ ap (λ y. reads false y t.room (replicate rest 0) (pieces (from + n) (min t.node.size (from + n + rest)))) (redated t.node (touched.actime ∙ at)) in
          let all : whole ≡ behind got last =
          whole_is there
          ∙ (λ i. reading put_kernel (pieces (here i) (ends i)) (further t (got ++ replicate rest 0) (done i)))
          ∙ reads_behind (pieces (from + n) (min t.node.size (from + n + rest))) got (replicate rest 0) t.node t.room 0 None
          ∙ ap (behind got) (sym it) in
          (ap (λ (m : Reading). m.node) all, ap (λ (m : Reading). m.room) all, ap (λ (m : Reading). m.memory) all))
      | inr short ↦
          (let size = touched.size in
          let it : last ≡ beginning t.node t.room (replicate rest 0) =
          none_there false t.node t.room still (touched.actime ∙ at) (λ _. omega (arith, size, short)) in
          let all : whole ≡ further t (got ++ replicate rest 0) (0 + (e - from)) =
          whole_is there ∙ read_end put_kernel e far (further t (got ++ replicate rest 0) (0 + (e - from))) (omega (arith, short)) in (
            ap (λ (m : Reading). m.node) all ∙ sym (ap (λ (m : Reading). m.node) it),
            ap (λ (m : Reading). m.room) all ∙ sym (ap (λ (m : Reading). m.room) it),
            ap (λ (m : Reading). m.memory) all ∙ ap (λ (m : Reading). got ++ m.memory) (sym it),
          ))
    ]

    is_there : t.is_done ≡ true → Parted whole first (second first) n rest
    is_there there =
        let one : first ≡ further t got (0 + (e - from)) = first_is there in
        let parts = rest_is there in
        let again : last ≡ second first = ap second (sym one) in
        record {
          long = ap (λ (m : Reading). length m.memory) one ∙ long;
          next = λ no. (
            parts.0 ∙ ap (λ (m : Reading). m.node) again,
            parts.1 ∙ ap (λ (m : Reading). m.room) again,
            parts.2 ∙ (λ i. (sym one i).memory ++ (again i).memory),
          );
          stop = λ _ is. absurd (let no : None ≡ Some _ = ap (λ (m : Reading). m.error) (sym one) ∙ is in cc no);
        }

    both : Parted whole first (second first) n rest
    both = by t.is_done refl
      where
        by : (b : Bool) → t.is_done ≡ b → Parted whole first (second first) n rest
        by true is = is_there is
        by false is = not_there is (second first)

  module _ (node : Node) where
    abbrev x : Node
    x = record node { actime = time }

    first_part : part node room from n time ≡ reads (is_device node.mode) x room (replicate n 0) (pieces from (min node.size (from + n)))
    first_part = ap (λ b. reads (is_device node.mode) (if b then node else x) room (replicate n 0) (pieces from (min node.size (from + n))))
        (ne_eqb n 0 (λ is. omega (arith, is, some)))

    whole_part : part node room from (n + rest) time
        ≡ reads (is_device node.mode) x room (replicate (n + rest) 0) (pieces from (min node.size (from + (n + rest))))
    whole_part = ap (λ b. reads (is_device node.mode) (if b then node else x) room (replicate (n + rest) 0) (pieces from (min node.size (from + (n + rest)))))
        (ne_eqb (n + rest) 0 (λ is. omega (arith, is, some)))

    known : (device : Bool) → is_device node.mode ≡ device
        → (let q = reads device x room (replicate n 0) (pieces from (min node.size (from + n))) in
        Parted (reads device x room (replicate (n + rest) 0) (pieces from (min node.size (from + (n + rest))))) q (second q) n rest)
    known true is =
        nothing_read x _ _ _ refl (none_there true x room is refl (λ no. absurd (cc no))) refl
    known false is = elim (cases_lt from node.size) [
      | inl before ↦ both node x refl is refl before
      | inr past ↦
          (let one : reading put_kernel (pieces from (min node.size (from + n))) (beginning x room (replicate n 0)) ≡ beginning x room (replicate n 0) =
          read_end put_kernel from (min node.size (from + n)) (beginning x room (replicate n 0)) (omega (arith, past)) in
          nothing_read x _ _ _ one (ap second one ∙ none_there false x room is refl (λ _. omega (arith, past)))
          (read_end put_kernel from (min node.size (from + (n + rest))) (beginning x room (replicate (n + rest) 0)) (omega (arith, past))))
    ]

    pub parted : Parted (part node room from (n + rest) time) (part node room from n time) (second (part node room from n time)) n rest
    parted =
        subst (λ q. Parted (part node room from (n + rest) time) q (second q) n rest) (sym first_part)
        (subst (λ m. Parted m (reads (is_device node.mode) x room (replicate n 0) (pieces from (min node.size (from + n))))
        (second (reads (is_device node.mode) x room (replicate n 0) (pieces from (min node.size (from + n))))) n rest) (sym whole_part)
        (known (is_device node.mode) refl))
