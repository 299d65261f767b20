use Rattle.std.proofs.Common.{◌≡◌, ℕ, List, [], ◌++◌, sym, ap, ◌∙◌, subst, arith}
use Rattle.v6_base.specs.Image.{Image}
use Rattle.v6_base.specs.Trace.{Item, Took}
use Rattle.v6_base.proofs.Took.{took_nothing, took_then}
use Rattle.proc_tab.specs.declared.row.Row.{Row}
use Rattle.fs_nodes.proofs.RestLemmas.{rest_stays, rest_then}
use Rattle.sys_files.specs.Handed.{Handed, handed}
use Rattle.sys_files.specs.Sound.{IsSound, IsKept}
use Rattle.sys_files.specs.Descriptors.{Closing, then_closes}
use Rattle.sys_files.proofs.ClosingLemmas.{closed_below, below_none, below_more, below_all, next_sound, next_kept, next_state, next_items, kept_not, kept_then}
use Rattle.sys_files.proofs.descriptors.close_all.Goals as goal

pub loop-fd-init : goal.loop-fd-init
loop-fd-init g c = record {
  sound = c.requires.sound;
  kept = λ row image. kept_not _ (c.requires.sound row image);
  state = λ row image. ap (λ (d : Closing). d.state) (sym (below_none (handed c.args.f.now c.args.u.now row image)));
  items = λ row image. took_nothing _ _ (ap (λ (d : Closing). d.items) (below_none (handed c.args.f.now c.args.u.now row image)));
  frame = g.met.T.Trace.stays _;
  blocks = rest_stays _;
}

pub loop-fd-preserved : goal.loop-fd-preserved
loop-fd-preserved g c =
    let fd : ℕ = c.loop-fd.fd in
    let kept = c.loop-fd.invariant in
    let now : Row → Image → Handed = λ row image. handed c.loop-fd.f c.loop-fd.u row image in
    let next : Row → Image → Handed = λ row image. handed c.close_number.new.f c.close_number.new.u row image in
    let only : Handed → Closing = λ h. record { state = h; items = [] } in
    let below : Row → Image → Closing = λ row image. closed_below (handed c.args.f.now c.args.u.now row image) fd in
    record {
      sound = λ row image.
          let P : Handed → Type 0 = IsSound in
          subst P {y = next row image} (sym (c.close_number.ensures.state row image)) (next_sound (only (now row image)) fd (kept.sound row image));
      kept = λ row image.
          let P : Handed → Type 0 = IsKept (now row image) in
          kept_then _ (now row image) _ (kept.kept row image)
          (subst P {y = next row image} (sym (c.close_number.ensures.state row image)) (next_kept (only (now row image)) fd (kept.sound row image)));
      state = λ row image.
          c.close_number.ensures.state row image
          ∙ ap (λ h. (then_closes (only h) fd).state) (kept.state row image)
          ∙ sym (next_state (below row image) fd)
          ∙ ap (λ (d : Closing). d.state) (sym (below_more (handed c.args.f.now c.args.u.now row image) fd));
      items = λ row image.
          took_then _ _ _ (below row image).items (then_closes (only (now row image)) fd).items _ (kept.items row image) (c.close_number.ensures.items row image)
          (ap (λ h. (below row image).items ++ (then_closes (only h) fd).items) (kept.state row image)
          ∙ sym (next_items (below row image) fd)
          ∙ ap (λ (d : Closing). d.items) (sym (below_more (handed c.args.f.now c.args.u.now row image) fd)));
      frame = g.met.T.Trace.goes_on _ _ _ kept.frame c.close_number.ensures.frame;
      blocks = rest_then _ _ _ kept.blocks c.close_number.ensures.blocks;
    }

pub returns-clause-state : goal.returns-clause-state
returns-clause-state g c = λ row image.
    let h : Handed = handed c.args.f.now c.args.u.now row image in
    let end : c.loop-fd.fd ≡ 15 = omega (arith, c.loop-fd-test.false, c.loop-fd.auto) in
    c.loop-fd.invariant.state row image ∙ ap (λ n. (closed_below h n).state) end ∙ ap (λ (d : Closing). d.state) (below_all h)

pub returns-clause-items : goal.returns-clause-items
returns-clause-items g c = λ row image.
    let h : Handed = handed c.args.f.now c.args.u.now row image in
    let end : c.loop-fd.fd ≡ 15 = omega (arith, c.loop-fd-test.false, c.loop-fd.auto) in
    let P : List Item → Type 0 = λ l. Took (g.T.Trace.taken c.args.trace.now) l (g.T.Trace.taken c.loop-fd.trace) in
    subst P (ap (λ n. (closed_below h n).items) end ∙ ap (λ (d : Closing). d.items) (below_all h)) (c.loop-fd.invariant.items row image)
