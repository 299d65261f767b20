use Rattle.std.proofs.Common.{◌≡◌, ◌∙◌, slice_index, ap, sym}
use Rattle.u_area.specs.declared.area.UArea.{UArea}
use Rattle.pick_rules.specs.declared.table.Table.{Table}
use Rattle.image_keep.specs.Kept.{Kept, area_of}
use Rattle.image_keep.proofs.Frames.{with_area_texts}
use Rattle.sys_procs.specs.declared.procs.Procs.{Procs}
use Rattle.sys_procs.specs.Process.{Process}
use Rattle.sys_procs.proofs.Alive.{area_here}
use Rattle.sys_procs.proofs.Referred.{same_referred}
use Rattle.sys_procs.proofs.resume.wake_up.Goals as goal

pub returns-clause-state : goal.returns-clause-state
returns-clause-state c = λ fs. c.put_call.ensures.state fs

-- the directory is the one of before
same_dir : (c : goal.After-put_call) → (area_of c.put_call.new.self.images.kept c.args.s).dir ≡ (area_of c.args.p.now.images.kept c.args.s).dir
same_dir c =
    ap (λ (u : UArea). u.dir) (area_here c.put_call.new.self c.args.s c.put_call.ensures.alive)
    ∙ (ap (λ (q : Process). q.u.dir) c.put_call.ensures.here
    ∙ sym (ap (λ (u : UArea). u.dir) (area_here c.args.p.now c.args.s c.requires)))

pub returns-clause-calls : goal.returns-clause-calls
returns-clause-calls c = λ fs calls.
    let p : Procs = c.args.p.now in
    let same = c.put_call.ensures.table in
    record {
      agree = c.put_call.ensures.alive.agree;
      runs = ap (λ (t : Table). t.running) same ∙ calls.runs;
      user = calls.user;
      image = c.put_call.ensures.alive.image;
      referred = same_referred p.images.kept c.put_call.new.self.images.kept c.args.s (λ ino. slice_index fs.references ino) (same_dir c)
          (ap (λ (k : Kept). k.texts) c.put_call.ensures.images ∙ (with_area_texts p.images.kept c.args.s _).texts) calls.referred;
      few = calls.few;
    }
