-- The text of a program is read a part at a time: what stays, and what is still to be read.
use Rattle.std.proofs.Common.{◌≡◌, ◌∙◌, ◌+◌, ◌-◌, ◌*◌, ◌<◌, ◌≤◌, ℕ, List, length, take, drop, set, get_or, replicate, Some, None, IsSome, inl, inr, sym, ap, arith, ◌++◌, length-append, length-drop}
use Rattle.std.specs.Option.{unwrap_or}
use Rattle.std.proofs.lemmas.Bool.{cases_lt}
use Rattle.std.proofs.lemmas.List.{length-replicate, take-replicate, length-take-le, drop_at, drop-drop, drop-replicate, get_or-set_same, get_or_past}
use Rattle.std.proofs.Math.ListN.{get_or-map}
use Rattle.v6_base.specs.declared.errno.Errno.{Errno}
use Rattle.v6_base.specs.Runs.{run_set}
use Rattle.fs_laws.specs.Pieces.{piece_end, read_file}
use Rattle.fs_nodes.specs.Copy.{put_kernel}
use Rattle.fs_nodes.proofs.RestLemmas.{rest_then}
use Rattle.fs_nodes.specs.FileSystem.{FileSystem}
use Rattle.fs_nodes.specs.Keys.{Stores, node_numbered, room_at}
use Rattle.fs_tree.specs.declared.tree.Tree.{Tree}
use Rattle.image_keep.specs.Kept.{Kept, Shared, shared}
use Rattle.image_keep.specs.SharedTexts.{filled}
use Rattle.image_keep.proofs.Storing.{run_over}
use Rattle.sys_procs.specs.declared.procs.Procs.{Procs}
use Rattle.sys_procs.specs.declared.program.Program.{Program}
use Rattle.sys_procs.specs.TextTable.{Text, no_text, text_of}
use Rattle.sys_procs.specs.World.{World, text_in, texts_in}
use Rattle.sys_procs.specs.Tests.{node_in}
use Rattle.sys_procs.specs.Handed.{handed}
use Rattle.sys_procs.specs.inside.Parts.{part_in, with_part, IsUnread, KeepsOthers}
use Rattle.sys_procs.proofs.TextParts.{part_none, part_then, part_stops}

-- what stays once more
pub keeps_then : (p q r : Procs) (a b c : Tree) → KeepsOthers p q a b → KeepsOthers q r b c → KeepsOthers p r a c
keeps_then p q r a b c one two = record {
  board = two.board ∙ one.board;
  references = two.references ∙ one.references;
  marks = two.marks ∙ one.marks;
  mounts = two.mounts ∙ one.mounts;
  blocks = rest_then a.nodes.blocks b.nodes.blocks c.nodes.blocks one.blocks two.blocks;
  marked = two.marked ∙ one.marked;
  alive = λ s alive. two.alive s (one.alive s alive);
}

-- a text of which nothing was read from a byte on, from a later one on
later_zeros : (k : Kept) (t clicks at end : ℕ) → at ≤ end → (unread : IsUnread k t clicks at)
    → drop end unread.text.bytes ≡ replicate (64 * clicks - end) 0
later_zeros k t clicks at end low unread =
    let nought : ℕ = 0 in
    let sum : at + (end - at) ≡ end = omega (arith, low) in
    let left : 64 * clicks - at - (end - at) ≡ 64 * clicks - end = omega (arith, low) in
    ap (λ k. drop k unread.text.bytes) (sym sum) ∙ sym (drop-drop (end - at) at unread.text.bytes)
    ∙ ap (drop (end - at)) unread.zeros ∙ drop-replicate (end - at) (64 * clicks - at) nought
    ∙ ap (λ k. replicate k nought) left

pub later_unread : (k : Kept) (t clicks at end : ℕ) → at ≤ end → IsUnread k t clicks at → IsUnread k t clicks end
later_unread k t clicks at end low unread = record {
  text = unread.text;
  there = unread.there;
  out = unread.out;
  size = unread.size;
  long = unread.long;
  zeros = later_zeros k t clicks at end low unread;
}

-- the entry of a text, as it is handed
abbrev pub text_in_entry : Shared → Text
text_in_entry x = record { ino = x.row.ino; bytes = x.bytes; users = x.row.users }

pub unread_entry : (k : Kept) (t clicks at : ℕ) (unread : IsUnread k t clicks at)
    → get_or (texts_in k) t None ≡ Some (text_in_entry unread.text)
unread_entry k t clicks at unread = get_or-map text_in k.texts t None ∙ ap text_in unread.there

-- The part that a read of as many zeros comes to.
pub part_is : (store : Stores) (program : Program) (at n time : ℕ) → n ≤ 512
    → read_file put_kernel (node_in store program.ino) (room_at store program.ino) (take n (replicate 512 0)) (16 + at)
    (length (take {A = ℕ} n (replicate 512 0))) time
    ≡ part_in store program at n time
part_is store program at n time few =
    let nought : ℕ = 0 in
    ap (λ l. read_file put_kernel (node_in store program.ino) (room_at store program.ino) l (16 + at) (length l) time)
    (take-replicate n 512 nought few)
    ∙ ap (λ k. read_file put_kernel (node_in store program.ino) (room_at store program.ino) (replicate n 0) (16 + at) k time)
    (length-replicate n nought)

-- what was put into a list, and what stands behind it
put_long : (b xs : List ℕ) (at : ℕ) → at + length xs ≤ length b → length (run_set b at xs) ≡ length b
unfolding run_set
put_long b xs at fits =
    let all = length-append (take at b ++ xs) (drop (at + length xs) b) in
    let front = length-append (take at b) xs in
    let first = length-take-le at b (omega (arith, fits)) in
    let last = length-drop (at + length xs) b in
    omega (arith, all, front, first, last, fits)

put_behind : (b xs : List ℕ) (at end : ℕ) → at + length xs ≡ end → end ≤ length b → drop end (run_set b at xs) ≡ drop end b
unfolding run_set
put_behind b xs at end here fits =
    let front = length-append (take at b) xs in
    let first = length-take-le at b (omega (arith, here, fits)) in
    drop_at (take at b ++ xs) (drop (at + length xs) b) end (omega (arith, front, first, here)) ∙ ap (λ k. drop k b) here

-- bytes are put into it up to a byte
pub filled_unread : (k l : Kept) (t clicks at end : ℕ) (bytes : List ℕ) → IsUnread k t clicks at
    → l.texts ≡ set k.texts t (filled at bytes (shared k t)) → at + length bytes ≡ end → end ≤ 64 * clicks → IsUnread l t clicks end
filled_unread k l t clicks at end bytes unread texts here fits =
    let after = later_zeros k t clicks at end (omega (arith, here)) unread in
    let long = unread.long in
    let low : t < length k.texts = elim (cases_lt t (length k.texts)) [
      | inl h ↦ h
      | inr past ↦ absurd (let no : None ≡ Some unread.text = sym (get_or_past k.texts t None past) ∙ unread.there in cc no)
    ] in
    record {
      text = record unread.text { bytes = run_set unread.text.bytes at bytes };
      there = ap (λ xs. get_or xs t None) texts ∙ get_or-set_same k.texts t (filled at bytes (shared k t)) None low
          ∙ ap (filled at bytes) unread.there
          ∙ ap (λ b. Some (record unread.text { bytes = b })) (run_over unread.text.bytes at bytes);
      out = unread.out;
      size = unread.size;
      long = put_long unread.text.bytes bytes at (omega (arith, here, fits, long)) ∙ long;
      zeros = put_behind unread.text.bytes bytes at end here (omega (arith, fits, long)) ∙ after;
    }

module _ (p q : Procs) (fs gs : FileSystem) (t clicks at next end : ℕ) (program : Program) (unread : IsUnread p.images.kept t clicks at)
    (there : IsSome (node_numbered fs.store program.ino)) (is : handed q gs ≡ with_part (handed p fs) t program at (next - at))
    (ends : 16 + next ≡ piece_end (16 + at) (16 + end)) (before : at < end) (fits : end ≤ 64 * clicks) where
  abbrev w : World
  w = handed p fs

  abbrev text : Text
  text = text_in_entry unread.text

  entry : get_or (texts_in p.images.kept) t None ≡ Some text
  entry = unread_entry p.images.kept t clicks at unread

  old_is : (text_of w.texts t).bytes ≡ unread.text.bytes
  old_is = ap (λ o. (unwrap_or o no_text).bytes) entry

  some : 1 ≤ next - at
  some = omega (arith, ends, before)

  further : at + (next - at) ≡ next
  further = omega (arith, ends, before)

  sum : next - at + (end - next) ≡ end - at
  sum = omega (arith, ends, before)

  piece : 16 + at + (next - at) ≡ piece_end (16 + at) (16 + at + (next - at + (end - next)))
  piece = omega (arith, ends, before)

  -- the next part is to be read
  pub goes_on : (part_in fs.store program at (next - at) p.table.now).error ≡ None
      → with_part (handed q gs) t program next (end - next) ≡ with_part (handed p fs) t program at (end - at)
  goes_on well =
      let long = ap length old_is ∙ unread.long in
      (λ i. with_part (is i) t program (sym further i) (end - next))
      ∙ part_then w t program text entry there at (next - at) (end - next) some piece well (omega (arith, long, before, fits))
      ∙ ap (λ n. with_part w t program at n) sum

  -- no more is to be read
  pub ends_here : (e : Errno) → (part_in fs.store program at (next - at) p.table.now).error ≡ Some e
      → IsSome (node_numbered gs.store program.ino) → IsUnread q.images.kept t clicks next
      → with_part (handed q gs) t program end (end - end) ≡ with_part (handed p fs) t program at (end - at)
  ends_here e error left after =
      let none : end - end ≡ 0 = omega arith in
      let later = later_zeros p.images.kept t clicks at next (omega (arith, ends, before)) unread in
      let zeros : drop (at + (next - at)) (text_of w.texts t).bytes ≡ replicate (64 * clicks - next) 0 =
      (λ i. drop (further i) (old_is i)) ∙ later in
      ap (λ n. with_part (handed q gs) t program end n) none
      ∙ part_none (handed q gs) t program (text_in_entry after.text) (unread_entry q.images.kept t clicks next after) left end
      ∙ is
      ∙ part_stops w t program text entry there at (next - at) (end - next) some piece e (64 * clicks - next) error zeros (omega (arith, ends, fits))
      ∙ ap (λ n. with_part w t program at n) sum
