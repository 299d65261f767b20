use Rattle.std.proofs.Common.{◌≡◌, ◌∙◌, ◌-◌, ◌<◌, ℕ, List, slice_index, sym, ap, subst, arith}
use Rattle.std.specs.Option.{unwrap_or}
use Rattle.buf_cache.specs.Blocks.{patched}
use Rattle.fs_laws.specs.Pieces.{Moving}
use Rattle.sys_procs.specs.Process.{Process}
use Rattle.sys_procs.specs.TextTable.{with_text, text_of}
use Rattle.sys_procs.specs.World.{World}
use Rattle.sys_procs.specs.ExecFile.{text_read, entry_in, with_moved}
use Rattle.sys_procs.specs.Handed.{handed}
use Rattle.sys_procs.specs.inside.Parts.{with_part}
use Rattle.sys_procs.proofs.Alive.{is_here}
use Rattle.sys_procs.proofs.TextParts.{part_none}
use Rattle.sys_procs.proofs.ReadParts.{keeps_then, text_in_entry, unread_entry}
use Rattle.sys_procs.proofs.exec.read_text.Goals as goal

pub loop-at-preserved : goal.loop-at-preserved
loop-at-preserved c = record {
  within = c.read_next-at.ensures.within;
  unread = c.read_next-at.ensures.unread;
  state = c.read_next-at.ensures.state ∙ c.loop-at.invariant.state;
  others = keeps_then _ _ _ _ _ _ c.loop-at.invariant.others c.read_next-at.ensures.others;
}

pub returns-clause-state : goal.returns-clause-state
returns-clause-state c =
    let w : World = handed c.args.p.now c.args.tree.now.nodes in
    let now : World = handed c.loop-at.p c.loop-at.tree.nodes in
    let program = c.args.program.now in
    let end = c.text_room-end.result in
    let i = c.loop-at.invariant in
    let within = i.within in
    let done = c.loop-at-test.false in
    let none : 0 ≡ end - c.loop-at.at = omega (arith, within, done) in
    let there =
    c.see.ensures.used program.ino
    (subst (λ (l : List ℕ). 0 < slice_index l program.ino) (sym i.others.references) c.requires.referenced) in
    let m : Moving (List ℕ) = text_read w program in
    let entry : c.args.t ≡ entry_in w c.args.s =
    sym (ap (λ (q : Process). unwrap_or q.text 40) (is_here c.args.p.now c.args.s c.requires.alive).process_is
    ∙ ap (λ o. unwrap_or o 40) c.requires.text) in
    sym (part_none now c.args.t program (text_in_entry i.unread.text)
    (unread_entry c.loop-at.p.images.kept c.args.t program.text_clicks c.loop-at.at i.unread) there c.loop-at.at)
    ∙ ap (λ n. with_part now c.args.t program c.loop-at.at n) none
    ∙ i.state
    ∙ ap (λ n. with_part w c.args.t program 0 n) c.text_room-end.ensures.count
    ∙ (λ j. record (with_moved w program.ino m) {
      texts = with_text w.texts (entry j) (record (text_of w.texts (entry j)) {
        bytes = patched 0 m.memory (text_of w.texts (entry j)).bytes;
      });
    })

pub returns-clause-alive : goal.returns-clause-alive
returns-clause-alive c = c.loop-at.invariant.others.alive c.args.s c.requires.alive
