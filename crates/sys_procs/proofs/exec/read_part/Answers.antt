use Rattle.std.proofs.Common.{◌≡◌, ◌∙◌, ◌-◌, ◌+◌, ◌≤◌, ℕ, List, length, take, min, replicate, refl, ap, arith}
use Rattle.std.proofs.lemmas.List.{length-replicate, take-replicate}
use Rattle.buf_cache.specs.Blocks.{patched}
use Rattle.fs_laws.specs.Pieces.{Moving}
use Rattle.fs_nodes.specs.Keys.{Stores}
use Rattle.image_keep.specs.Kept.{Kept}
use Rattle.sys_procs.specs.declared.procs.Procs.{Procs}
use Rattle.sys_procs.specs.Tests.{node_in}
use Rattle.sys_procs.specs.TextTable.{with_text, text_of}
use Rattle.sys_procs.specs.World.{World}
use Rattle.sys_procs.specs.ExecFile.{with_moved}
use Rattle.sys_procs.specs.Handed.{handed, board}
use Rattle.sys_procs.specs.inside.Parts.{part_in}
use Rattle.sys_procs.proofs.LoadData.{node_there}
use Rattle.sys_procs.proofs.SameKept.{same_alive}
use Rattle.sys_procs.proofs.FilledText.{alive_filled, places_filled, marks_filled, processes_filled, texts_filled}
use Rattle.sys_procs.proofs.ReadParts.{part_is, filled_unread}
use Rattle.sys_procs.proofs.exec.read_part.Goals as goal

pub returns-clause-state : goal.returns-clause-state
returns-clause-state c =
    let p : Procs = c.args.p.now in
    let w : World = handed p c.args.tree.now.nodes in
    let n : ℕ = c.args.end - c.args.at in
    let m : Moving (List ℕ) = part_in w.inodes.store c.args.program.now c.args.at n w.clock.time in
    let l : Kept = c.text_bytes.new.self.kept in
    let few = c.requires.few in
    let is = part_is w.inodes.store c.args.program.now c.args.at n w.clock.time (omega (arith, few)) in
    let moved =
    c.read_kernel-read.ensures.moved (node_in w.inodes.store c.args.program.now.ino)
    (node_there w.inodes.store c.args.program.now.ino (c.see.ensures.used c.args.program.now.ino c.requires.referenced)) in
    let bytes : c.read_kernel-read.new.buf ≡ m.memory = moved.memory ∙ ap (λ (x : Moving (List ℕ)). x.memory) is in
    let store = moved.store ∙ ap (λ (x : Moving (List ℕ)). (with_moved w c.args.program.now.ino x).inodes.store) is in
    let processes = processes_filled p l c.args.t c.args.at c.read_kernel-read.new.buf c.requires.unread.text c.requires.unread.there
    c.text_bytes.ensures.texts c.text_bytes.ensures.slots c.text_bytes.ensures.users p.rows.slots in
    let texts = texts_filled p l c.args.t c.args.at c.read_kernel-read.new.buf c.requires.unread.text c.requires.unread.there
    c.text_bytes.ensures.texts c.text_bytes.ensures.slots c.text_bytes.ensures.users in
    (λ i. record w {
      processes = processes i;
      inodes = record { store = store i; references = c.read_kernel-read.ensures.references i };
      texts = texts i;
      limit = min (c.text_bytes.ensures.core i) 2048;
    })
    ∙ (λ i. record (with_moved w c.args.program.now.ino m) {
      texts = with_text w.texts c.args.t (record (text_of w.texts c.args.t) {
        bytes = patched c.args.at (bytes i) (text_of w.texts c.args.t).bytes;
      });
    })

pub returns-clause-error : goal.returns-clause-error
returns-clause-error c =
    let store : Stores = c.args.tree.now.nodes.store in
    let few = c.requires.few in
    (c.read_kernel-read.ensures.moved (node_in store c.args.program.now.ino)
    (node_there store c.args.program.now.ino (c.see.ensures.used c.args.program.now.ino c.requires.referenced))).error
    ∙ ap (λ (x : Moving (List ℕ)). x.error)
    (part_is store c.args.program.now c.args.at (c.args.end - c.args.at) c.args.p.now.table.now (omega (arith, few)))

pub returns-clause-unread : goal.returns-clause-unread
returns-clause-unread c =
    let nought : ℕ = 0 in
    let n : ℕ = c.args.end - c.args.at in
    let few = c.requires.few in
    let before = c.requires.before in
    let long : length (take n (replicate 512 nought)) ≡ n =
    ap (λ (l : List ℕ). length l) (take-replicate n 512 nought (omega (arith, few))) ∙ length-replicate n nought in
    let same = c.read_kernel-read.auto.buf in
    filled_unread c.args.p.now.images.kept c.text_bytes.new.self.kept c.args.t c.args.program.now.text_clicks c.args.at c.args.end
    c.read_kernel-read.new.buf c.requires.unread c.text_bytes.ensures.texts (omega (arith, long, same, before)) c.requires.fits

pub returns-clause-others : goal.returns-clause-others
returns-clause-others c =
    let p : Procs = c.args.p.now in
    let l : Kept = c.text_bytes.new.self.kept in
    let bytes : List ℕ = c.read_kernel-read.new.buf in
    let x = c.requires.unread.text in
    let there = c.requires.unread.there in
    let texts = c.text_bytes.ensures.texts in
    let slots = c.text_bytes.ensures.slots in
    let users = c.text_bytes.ensures.users in
    let places = places_filled p l c.args.t c.args.at bytes x there texts slots users in
    record {
      board = λ i. record (board p) { texts = places i; core = c.text_bytes.ensures.core i };
      references = c.read_kernel-read.ensures.references;
      marks = refl;
      mounts = refl;
      blocks = c.read_kernel-read.ensures.rest;
      marked = marks_filled p l c.args.t c.args.at bytes x there texts slots users;
      alive = λ s alive.
          same_alive (record { rows = refl; table = refl; kept = refl; switches = refl })
          (alive_filled p l c.args.t c.args.at bytes x there texts slots users s alive);
    }
