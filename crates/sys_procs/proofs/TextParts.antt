-- A text that is read a part at a time: a part and what comes after it are the whole.
use Rattle.std.proofs.Common.{◌≡◌, ◌∙◌, ◌+◌, ◌-◌, ◌*◌, ◌<◌, ◌≤◌, inl, inr, ℕ, Bool, true, false, cond, List, [], ◌++◌, length, take, drop, set, min, get_or, replicate, Some, None, IsSome, refl, sym, ap, arith, append_assoc, length-append}
use Rattle.std.specs.Option.{unwrap_or}
use Rattle.std.proofs.Math.Seq.{drop-append-add}
use Rattle.std.proofs.lemmas.Bool.{cases_lt}
use Rattle.std.proofs.lemmas.List.{append-nil, take-append-drop, take_at, drop-drop, drop-replicate, length-take-le, length-replicate, replicate-append-replicate, set-set, set-get_or, get_or-set_same, get_or_past}
use Rattle.v6_base.specs.declared.errno.Errno.{Errno}
use Rattle.buf_cache.specs.Blocks.{patched}
use Rattle.fs_codec.specs.Modes.{is_device}
use Rattle.fs_codec.specs.Store.{Node}
use Rattle.fs_laws.specs.Pieces.{Moving, pieces, piece_end, reading, beginning}
use Rattle.fs_laws.proofs.PieceLemmas.{read_end}
use Rattle.fs_nodes.specs.Copy.{put_kernel}
use Rattle.fs_nodes.specs.Keys.{Stores, node_numbered, room_at, with_node}
use Rattle.fs_nodes.proofs.KeyLaws.{room_set}
use Rattle.sys_procs.specs.declared.program.Program.{Program}
use Rattle.sys_procs.specs.TextTable.{Text, no_text, text_of, with_text}
use Rattle.sys_procs.specs.World.{World}
use Rattle.sys_procs.specs.Tests.{node_in}
use Rattle.sys_procs.specs.ExecFile.{with_moved}
use Rattle.sys_procs.specs.inside.Parts.{part_in, with_part}
use Rattle.sys_procs.proofs.KeptOwner.{node_put}
use Rattle.sys_procs.proofs.LoadData.{node_there}
use Rattle.sys_procs.proofs.PartedReads.{Parted, part, part_fewer, parted}
use Rattle.fs_nodes.proofs.SetTwice.{node_twice, own_node}

-- Bytes are put into a list, and others behind them.
patched_twice : (at n : ℕ) (xs ys b : List ℕ) → length xs ≡ n → at ≤ length b
    → patched (at + n) ys (patched at xs b) ≡ patched at (xs ++ ys) b
patched_twice at n xs ys b long fits =
    let front : List ℕ = take at b ++ xs in
    let rest : List ℕ = drop (at + length xs) b in
    let size : length front ≡ at + n = (let s = length-append (take at b) xs in let k = length-take-le at b fits in omega (arith, s, k, long)) in
    let past : at + n + length ys ≡ length front + length ys = omega (arith, size) in
    let all = length-append xs ys in
    let end : at + length xs + length ys ≡ at + length (xs ++ ys) = omega (arith, all) in
    (λ i. take_at front rest (at + n) size i ++ ys ++ drop (past i) (front ++ rest))
    ∙ ap (λ l. front ++ ys ++ l) (drop-append-add front rest (length ys) ∙ drop-drop (length ys) (at + length xs) b)
    ∙ (λ i. append_assoc (take at b) xs ys i ++ drop (end i) b)

-- zeros that are put where zeros stand
patched_zeros : (at n rest m : ℕ) (xs b : List ℕ) → length xs ≡ n → drop (at + n) b ≡ replicate m 0 → rest ≤ m
    → patched at xs b ≡ patched at (xs ++ replicate rest 0) b
patched_zeros at n rest m xs b long zeros few =
    let z : List ℕ = replicate rest 0 in
    let a = length-append xs z in
    let c = length-replicate {A = ℕ} rest 0 in
    let here : at + length xs ≡ at + n = omega (arith, long) in
    let end : at + n + rest ≡ at + length (xs ++ z) = omega (arith, a, c, long) in
    let sum : m ≡ rest + (m - rest) = omega (arith, few) in
    let left : drop (at + n + rest) b ≡ replicate (m - rest) 0 =
    sym (drop-drop rest (at + n) b) ∙ ap (drop rest) zeros ∙ drop-replicate {X = ℕ} rest m 0 in
    let two : drop (at + length xs) b ≡ z ++ drop (at + length (xs ++ z)) b =
    ap (λ k. drop k b) here ∙ zeros ∙ ap (λ k. replicate {A = ℕ} k 0) sum ∙ sym (replicate-append-replicate {A = ℕ} rest (m - rest) 0)
    ∙ ap (λ l. z ++ l) (sym left ∙ ap (λ k. drop k b) end) in
    ap (λ l. take at b ++ xs ++ l) two
    ∙ sym (append_assoc (take at b ++ xs) z (drop (at + length (xs ++ z)) b))
    ∙ ap (λ l. l ++ drop (at + length (xs ++ z)) b) (append_assoc (take at b) xs z)

module _ (w : World) (t : ℕ) (program : Program) (y : Text) (entry : get_or w.texts t None ≡ Some y)
    (there : IsSome (node_numbered w.inodes.store program.ino)) where
  abbrev ino : ℕ
  ino = program.ino

  abbrev store : Stores
  store = w.inodes.store

  abbrev node : Node
  node = node_in store ino

  abbrev room : ℕ
  room = room_at store ino

  abbrev old : List ℕ
  old = (text_of w.texts t).bytes

  old_is : old ≡ y.bytes
  old_is = ap (λ o. (unwrap_or o no_text).bytes) entry

  abbrev moved : Moving (List ℕ) → ℕ → World
  moved m at = record (with_moved w ino m) {
    texts = with_text w.texts t (record (text_of w.texts t) { bytes = patched at m.memory old });
  }

  low : t < length w.texts
  low = elim (cases_lt t (length w.texts)) [
    | inl h ↦ h
    | inr past ↦ absurd (let no : None ≡ Some y = sym (get_or_past w.texts t None past) ∙ entry in cc no)
  ]

  -- nothing is left to be read
  pub part_none : (at : ℕ) → with_part w t program at 0 ≡ w
  part_none at =
      (λ i. moved (m_is i) at)
      ∙ (λ i. record w { inodes = record w.inodes { store = own_node store ino node (node_there store ino there) i }; texts = texts_same i })
    where
      m_is : part_in store program at 0 w.clock.time ≡ beginning node room []
      m_is = by (is_device node.mode)
        where
          by : (b : Bool) → cond b (beginning node room (replicate 0 0))
              (reading put_kernel (pieces (16 + at) (min node.size (16 + at + 0))) (beginning node room (replicate 0 0))) ≡ beginning node room []
          by true = refl
          by false = read_end put_kernel (16 + at) (min node.size (16 + at + 0)) (beginning node room []) (omega arith)

      bytes_same : patched at [] old ≡ old
      bytes_same =
          let end : at + 0 ≡ at = omega arith in
          (λ i. append-nil (take at old) i ++ drop (end i) old) ∙ take-append-drop at old

      texts_same : with_text w.texts t (record (text_of w.texts t) { bytes = patched at [] old }) ≡ w.texts
      texts_same =
          ap (λ b. with_text w.texts t (record (text_of w.texts t) { bytes = b })) bytes_same
          ∙ ap (λ o. set w.texts t (Some (unwrap_or o no_text))) entry
          ∙ ap (set w.texts t) (sym entry)
          ∙ set-get_or w.texts t None

  module _ (at n rest : ℕ) (some : 1 ≤ n) (end : 16 + at + n ≡ piece_end (16 + at) (16 + at + (n + rest))) where
    abbrev first : Moving (List ℕ)
    first = part_in store program at n w.clock.time

    abbrev second : Moving (List ℕ)
    second = part first.node first.room (16 + at + n) rest w.clock.time

    abbrev whole : Moving (List ℕ)
    whole = part_in store program at (n + rest) w.clock.time

    two : Parted whole first second n rest
    two = parted room (16 + at) n rest w.clock.time some end node

    pub part_long : length first.memory ≡ n
    part_long = two.long

    -- a part, and then the rest
    pub part_then : first.error ≡ None → at ≤ length old
        → with_part (with_part w t program at n) t program (at + n) rest ≡ with_part w t program at (n + rest)
    part_then well fits =
        let next = two.next well in
        let here : text_of (moved first at).texts t ≡ record (text_of w.texts t) { bytes = patched at first.memory old } =
        ap (λ o. unwrap_or o no_text)
        (get_or-set_same w.texts t (Some (record (text_of w.texts t) { bytes = patched at first.memory old })) None low) in
        let place : 16 + (at + n) ≡ 16 + at + n = omega arith in
        let it : part_in (moved first at).inodes.store program (at + n) rest w.clock.time ≡ second =
        (λ i. part (node_put store ino first.node first.room there i) (room_set store ino first.room first.node i) (place i) rest w.clock.time) in
        let again = node_twice store ino first.node second.node first.room second.room
        (part_fewer node room (16 + at) n w.clock.time) (part_fewer first.node first.room (16 + at + n) rest w.clock.time) in
        (λ i. record (with_moved (moved first at) ino (it i)) {
          texts = with_text (moved first at).texts t (record (here i) { bytes = patched (at + n) (it i).memory (here i).bytes });
        })
        ∙ (λ i. record w {
          inodes = record w.inodes { store = again i };
          texts = set-set w.texts t (Some (record (text_of w.texts t) { bytes = patched at first.memory old }))
              (Some (record (text_of w.texts t) { bytes = patched_twice at n first.memory second.memory old two.long fits i })) i;
        })
        ∙ (λ i. record w {
          inodes = record w.inodes { store = with_node store ino (sym next.0 i) (sym next.1 i) };
          texts = with_text w.texts t (record (text_of w.texts t) { bytes = patched at (sym next.2 i) old });
        })

    -- a part with an error: what comes after it stays zeros
    pub part_stops : (e : Errno) (m : ℕ) → first.error ≡ Some e → drop (at + n) old ≡ replicate m 0 → rest ≤ m
        → with_part w t program at n ≡ with_part w t program at (n + rest)
    part_stops e m is zeros few =
        let stop = two.stop e is in
        let bytes : patched at first.memory old ≡ patched at whole.memory old =
        patched_zeros at n rest m first.memory old two.long zeros few ∙ ap (λ l. patched at l old) (sym stop.2) in
        λ i. record w {
          inodes = record w.inodes { store = with_node store ino (sym stop.0 i) (sym stop.1 i) };
          texts = with_text w.texts t (record (text_of w.texts t) { bytes = bytes i });
        }
