-- What a read or a write of a pipe comes to, by the parts of the code.
use Rattle.std.proofs.Common.{◌≡◌, ◌+◌, ◌-◌, ◌%◌, ℕ, List, [], Option, Some, None, IsSome, refl, sym, ap, ◌∙◌}
use Rattle.std.proofs.lemmas.List.{append-nil}
use Rattle.v6_base.specs.Image.{Image}
use Rattle.v6_base.specs.Trace.{Item}
use Rattle.v6_base.specs.declared.answer.Answer.{Answer}
use Rattle.u_area.specs.declared.area.UArea.{UArea}
use Rattle.fs_nodes.specs.FileSystem.{FileSystem}
use Rattle.fs_nodes.specs.Keys.{Stores}
use Rattle.fs_tree.specs.Finding.{inodes_of}
use Rattle.open_files.specs.declared.file.OpenFile.{OpenFile}
use Rattle.pipe_ends.specs.declared.ends.Pipe.{Pipe}
use Rattle.pipe_ends.specs.declared.ends.Piped.{Piped}
use Rattle.pipe_ends.specs.Pipes.{ends_of}
use Rattle.pipe_ends.specs.Reads.{PipeRead, reads}
use Rattle.pipe_ends.specs.Writes.{PipeWrite, writes}
use Rattle.sys_files.specs.Handed.{Handed}
use Rattle.sys_files.specs.Did.{Did}
use Rattle.sys_files.specs.Entering.{did_with}
use Rattle.sys_files.specs.Pipes.{with_pipe}
use Rattle.sys_files.specs.Piping.{after, pipe_at, with_pipe_read, ends_read, reads_pipe, woken_by_read, with_pipe_write, ends_write, writes_pipe, woken_by_write}
use Rattle.sys_files.proofs.PipedLemmas.{read_leaves, write_leaves}

-- an open file there is
pub file_there : (o : Option OpenFile) → IsSome o → (file : OpenFile) × (o ≡ Some file)
file_there None used = absurd (cc)
file_there (Some file) used = (file, refl)

-- what is shown before the answer, and nothing else
quietly_after : (items : List Item) (h : Handed) (a : Answer)
    → after items (did_with h a) ≡ record { answer = a; state = h; items = items; named = [] }
quietly_after items h a = ap (λ (l : List Item). let d : Did = record { answer = a; state = h; items = l; named = [] } in d)
    (append-nil items)

-- what a read comes to, of this pipe
abbrev read_from : Handed → ℕ → ℕ → ℕ → ℕ → Pipe → PipeRead
read_from h entry at count now p = reads h.inodes.store (ends_of h.inodes.references p) p h.image at count now

abbrev read_of : Handed → ℕ → ℕ → ℕ → ℕ → Pipe → Did
read_of h entry at count now p =
    let r : PipeRead = read_from h entry at count now p in
    after (woken_by_read p r.pipe) (ends_read (with_pipe_read h r) p.ino entry at count r.answer)

-- what has been read, the pipe, who was woken, and the answer
pub read_comes : (h : Handed) (entry at count now : ℕ) (old new : Pipe) (fs : FileSystem) (image : Image) (pipes : List Pipe)
    (piped : Piped) (u : UArea) (result : Answer) → old ≡ pipe_at h entry
    → fs.store ≡ (read_from h entry at count now old).store → fs.references ≡ h.inodes.references
    → image ≡ (read_from h entry at count now old).image → new ≡ (read_from h entry at count now old).pipe
    → pipes ≡ with_pipe h.pipes new → piped ≡ (read_from h entry at count now old).answer
    → ((k : Handed) → k.u ≡ h.u → k.row ≡ h.row
    → ends_read k old.ino entry at count piped ≡ did_with (record k { u = u }) result)
    → reads_pipe h entry at count now
    ≡ record {
      answer = result;
      state = record h { inodes = inodes_of fs; image = image; pipes = pipes; u = u };
      items = woken_by_read old new;
      named = [];
    }
read_comes h entry at count now old new fs image pipes piped u result same store references image_is pipe pipes_is piped_is
    ends =
    let r : PipeRead = read_from h entry at count now old in
    let k : Handed = with_pipe_read h r in
    let woken : List Item = woken_by_read old r.pipe in
    let list : pipes ≡ with_pipe h.pipes r.pipe = pipes_is ∙ ap (with_pipe h.pipes) pipe in
    sym (ap (read_of h entry at count now) same)
    ∙ sym (ap (λ (p : Piped). after woken (ends_read k old.ino entry at count p)) piped_is)
    ∙ ap (after woken) (ends k refl refl)
    ∙ quietly_after woken (record k { u = u }) result
    ∙ sym (λ i. record {
      answer = result;
      state = record h {
        inodes = record { store = store i; references = references i };
        image = image_is i;
        pipes = list i;
        u = u;
      };
      items = woken_by_read old (pipe i);
      named = [];
    })

-- what a write comes to, of this pipe
abbrev write_from : Handed → ℕ → ℕ → ℕ → ℕ → Pipe → PipeWrite
write_from h at count left now p =
    writes h.inodes.store (ends_of h.inodes.references p) p h.image ((at + (count - left)) % 65536) left now

abbrev write_of : Handed → ℕ → ℕ → ℕ → ℕ → ℕ → ℕ → Pipe → Did
write_of h slot entry at count left now p =
    let w : PipeWrite = write_from h at count left now p in
    after (woken_by_write p w.pipe) (ends_write (with_pipe_write h w) slot p.ino entry at count w.answer)

-- what has been written, the pipe, who was woken, and how the call ends
pub write_comes : (h : Handed) (slot entry at count left now : ℕ) (old new : Pipe) (fs : FileSystem) (pipes : List Pipe)
    (piped : Piped)
    → old ≡ pipe_at h entry
    → fs.store ≡ (write_from h at count left now old).store → fs.references ≡ h.inodes.references
    → new ≡ (write_from h at count left now old).pipe → pipes ≡ with_pipe h.pipes new
    → piped ≡ (write_from h at count left now old).answer
    → writes_pipe h slot entry at count left now
    ≡ after (woken_by_write old new)
    (ends_write (record h { inodes = inodes_of fs; pipes = pipes }) slot old.ino entry at count piped)
write_comes h slot entry at count left now old new fs pipes piped same store references pipe pipes_is piped_is =
    let w : PipeWrite = write_from h at count left now old in
    let list : pipes ≡ with_pipe h.pipes w.pipe = pipes_is ∙ ap (with_pipe h.pipes) pipe in
    sym (ap (write_of h slot entry at count left now) same)
    ∙ sym (λ i. after (woken_by_write old (pipe i))
    (ends_write (record h { inodes = record { store = store i; references = references i }; pipes = list i }) slot old.ino
    entry at count (piped_is i)))

-- The pipe after a read is of the same inode.
pub read_ino : (store : Stores) (ends : ℕ) (p now : Pipe) (image : Image) (at count time : ℕ)
    → now ≡ (reads store ends p image at count time).pipe → now.ino ≡ p.ino
read_ino store ends p now image at count time is =
    ap (λ (x : Pipe). x.ino) is ∙ (read_leaves store ends p image at count time).ino

-- The pipe after a write is of the same inode.
pub written_ino : (store : Stores) (ends : ℕ) (p now : Pipe) (image : Image) (at count time : ℕ)
    → now ≡ (writes store ends p image at count time).pipe → now.ino ≡ p.ino
written_ino store ends p now image at count time is =
    ap (λ (x : Pipe). x.ino) is ∙ (write_leaves store ends p image at count time).leaves.ino
