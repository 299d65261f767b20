use Rattle.std.proofs.Common.{◌≡◌, ◌==◌, ◌||◌, ℕ, true, false, Some, IsSome, subst, is_some, slice_index, replicate, refl, sym, ap, ◌∙◌, inl, inr}
use Rattle.std.proofs.lemmas.Bool.{eq-eqb, ne_eqb}
use Rattle.std.proofs.lemmas.Option.{same_Some}
use Rattle.v6_base.specs.declared.answer.Answer.TheVariants.{Fail}
use Rattle.v6_base.specs.declared.errno.Errno.TheVariants.{EINTR}
use Rattle.u_area.specs.declared.layout.TheConstants.{NOTHING_PENDING, LINE_READ, LINE_WRITE, PIPE_READ}
use Rattle.u_area.specs.declared.area.UArea.{UArea}
use Rattle.u_area.specs.Pending.{IsPipeCall, IsFileCall}
use Rattle.sig_core.specs.Signals.{due}
use Rattle.fs_tree.specs.Finding.{inodes_of}
use Rattle.open_files.specs.declared.file.OpenFile.{OpenFile}
use Rattle.open_files.specs.Files.{file_at}
use Rattle.sys_files.specs.declared.files.Files.{Files}
use Rattle.sys_files.specs.Handed.{Handed, handed}
use Rattle.sys_files.specs.Entering.{did_with}
use Rattle.sys_files.specs.Moving.{goes_on_line}
use Rattle.sys_files.specs.Piping.{reads_pipe, writes_pipe}
use Rattle.sys_files.specs.Sound.{CanGoOn}
use Rattle.sys_files.proofs.DoesLemmas.{does_kept, does_by}
use Rattle.sys_files.proofs.MovingLemmas.{pending_changed}
use Rattle.sys_files.proofs.OwedLemmas.{file_referred}
use Rattle.sys_files.proofs.WriteLemmas.{resumes_kept, resume_broken, resume_lined, resume_piped}
use Rattle.sys_files.proofs.moving.resume_file.Goals as goal

pub returns-then-is_some-clause-does : goal.returns-then-is_some-clause-does
returns-then-is_some-clause-does g c =
    let h : Handed = handed c.args.f.now c.args.u.now c.args.row.now (g.S.Space.image c.args.space.now) in
    let same = pending_changed c.args.u.now NOTHING_PENDING (replicate 8 0) _ in
    let broken = ap (λ (v : UArea). is_some (due c.args.row.now v)) (sym same) ∙ ap is_some (sym c.due.ensures)
    ∙ sym c.is_some.ensures ∙ c.if-is_some.true in
    does_kept (sym (resume_broken h c.args.slot c.args.now broken) ∙ ap
    (λ (v : UArea). did_with (record h { u = v }) (Fail EINTR)) (sym same))
    (resumes_kept h c.args.slot c.args.now c.requires.sound)

-- a call on a file that isn't one of a line is one of a pipe
piped_call : (n : ℕ) → IsFileCall n → ((n == LINE_READ) || (n == LINE_WRITE)) ≡ false → IsPipeCall n
piped_call n (inl (inl is)) other =
    let e : true ≡ false = subst (λ m. ((m == LINE_READ) || (m == LINE_WRITE)) ≡ false) is other in absurd (cc)
piped_call n (inl (inr is)) other =
    let e : true ≡ false = subst (λ m. ((m == LINE_READ) || (m == LINE_WRITE)) ≡ false) is other in absurd (cc)
piped_call n (inr pipe) other = pipe

-- the entry that was kept is that of a pipe
end_kept : (h : Handed) → CanGoOn h → ((h.u.pending == LINE_READ) || (h.u.pending == LINE_WRITE)) ≡ false
    → (file : OpenFile) → file_at h.files (slice_index h.u.call 0) ≡ Some file → file.kind.pipe ≡ true
end_kept h can other file is =
    ap (λ (x : OpenFile). x.kind.pipe) (same_Some file can.file (sym is ∙ can.there)) ∙ can.pipe (piped_call h.u.pending can.which other)

pub resume_line-requires : goal.resume_line-requires
resume_line-requires g c =
    let h : Handed = handed c.args.f.now c.args.u.now c.args.row.now (g.S.Space.image c.args.space.now) in
    let can = c.requires.pending in
    record {
      used = subst IsSome (sym can.there) refl;
      referred = λ file is. file_referred h (slice_index h.u.call 0) file c.requires.sound is;
      within = can.within;
    }

pub read_pipe-requires : goal.read_pipe-requires
read_pipe-requires g c =
    let h : Handed = handed c.args.f.now c.args.u.now c.args.row.now (g.S.Space.image c.args.space.now) in
    let can = c.requires.pending in
    record {
      used = subst IsSome (sym can.there) refl;
      pipe = end_kept h can (sym c.is_on_line.ensures ∙ c.if-is_on_line.false);
      pipes = c.requires.sound.pipes;
      referred = λ file is. file_referred h (slice_index h.u.call 0) file c.requires.sound is;
    }

pub write_pipe-requires : goal.write_pipe-requires
write_pipe-requires g c =
    let h : Handed = handed c.args.f.now c.args.u.now c.args.row.now (g.S.Space.image c.args.space.now) in
    let can = c.requires.pending in
    record {
      used = subst IsSome (sym can.there) refl;
      pipe = end_kept h can (sym c.is_on_line.ensures ∙ c.if-is_on_line.false);
      pipes = c.requires.sound.pipes;
      referred = λ file is. file_referred h (slice_index h.u.call 0) file c.requires.sound is;
      left = can.within;
    }

pub returns-then-is_on_line-clause-does : goal.returns-then-is_on_line-clause-does
returns-then-is_on_line-clause-does g c =
    let image = g.S.Space.image c.args.space.now in
    let h : Handed = handed c.args.f.now c.args.u.now c.args.row.now image in
    let same = pending_changed c.args.u.now NOTHING_PENDING (replicate 8 0) _ in
    let calm = ap (λ (v : UArea). is_some (due c.args.row.now v)) (sym same) ∙ ap is_some (sym c.due.ensures)
    ∙ sym c.is_some.ensures ∙ c.if-is_some.false in
    let rest : Handed = record h { u = record h.u { pending = NOTHING_PENDING; call = replicate 8 0; codes = _ } } in
    let e = c.resume_line.ensures in
    let new : Files = c.resume_line.new.f in
    let left : ◌≡◌ {A = Handed} (handed new c.resume_line.new.u c.args.row.now (g.S.Space.image c.resume_line.new.space))
    (record rest { lines = new.lines; u = c.resume_line.new.u; image = g.S.Space.image c.resume_line.new.space }) =
    (λ i. record rest {
      inodes = inodes_of (e.tree i).nodes;
      mounts = (e.tree i).mounts;
      marks = (e.tree i).marks;
      files = e.table i;
      pipes = e.pipes i;
      lines = new.lines;
      u = c.resume_line.new.u;
      image = g.S.Space.image c.resume_line.new.space;
    }) in
    does_by (goes_on_line rest h.u.pending h.u.call)
    (ap (λ (v : UArea). goes_on_line (record h { u = v }) h.u.pending h.u.call) same
    ∙ resume_lined h c.args.slot c.args.now calm (sym c.is_on_line.ensures ∙ c.if-is_on_line.true))
    (e.answer rest refl refl refl refl refl refl) (left ∙ e.state rest refl refl refl refl refl refl)
    (e.items rest refl refl refl refl refl refl) (resumes_kept h c.args.slot c.args.now c.requires.sound)

pub returns-then-pending-eq-PIPE_READ-clause-does : goal.returns-then-pending-eq-PIPE_READ-clause-does
returns-then-pending-eq-PIPE_READ-clause-does g c =
    let h : Handed = handed c.args.f.now c.args.u.now c.args.row.now (g.S.Space.image c.args.space.now) in
    let same = pending_changed c.args.u.now NOTHING_PENDING (replicate 8 0) _ in
    let calm = ap (λ (v : UArea). is_some (due c.args.row.now v)) (sym same) ∙ ap is_some (sym c.due.ensures)
    ∙ sym c.is_some.ensures ∙ c.if-is_some.false in
    let call : ℕ → ℕ = λ i. slice_index h.u.call i in
    does_by (reads_pipe (record h { u = record h.u { pending = NOTHING_PENDING; call = replicate 8 0; codes = _ } }) (call 0) (call 1)
    (call 2) c.args.now)
    (ap (λ (v : UArea). reads_pipe (record h { u = v }) (call 0) (call 1) (call 2) c.args.now) same
    ∙ resume_piped h c.args.slot c.args.now calm true (sym c.is_on_line.ensures ∙ c.if-is_on_line.false)
    (eq-eqb h.u.pending PIPE_READ c.if-pending-eq-PIPE_READ.true))
    c.read_pipe.ensures.answer c.read_pipe.ensures.state c.read_pipe.ensures.items
    (resumes_kept h c.args.slot c.args.now c.requires.sound)

pub returns-clause-does : goal.returns-clause-does
returns-clause-does g c =
    let h : Handed = handed c.args.f.now c.args.u.now c.args.row.now (g.S.Space.image c.args.space.now) in
    let same = pending_changed c.args.u.now NOTHING_PENDING (replicate 8 0) _ in
    let calm = ap (λ (v : UArea). is_some (due c.args.row.now v)) (sym same) ∙ ap is_some (sym c.due.ensures)
    ∙ sym c.is_some.ensures ∙ c.if-is_some.false in
    let call : ℕ → ℕ = λ i. slice_index h.u.call i in
    does_by (writes_pipe (record h { u = record h.u { pending = NOTHING_PENDING; call = replicate 8 0; codes = _ } }) c.args.slot (call 0)
    (call 1) (call 2) (call 3) c.args.now)
    (ap (λ (v : UArea). writes_pipe (record h { u = v }) c.args.slot (call 0) (call 1) (call 2) (call 3) c.args.now) same
    ∙ resume_piped h c.args.slot c.args.now calm false (sym c.is_on_line.ensures ∙ c.if-is_on_line.false)
    (ne_eqb h.u.pending PIPE_READ c.if-pending-eq-PIPE_READ.false))
    c.write_pipe.ensures.answer c.write_pipe.ensures.state c.write_pipe.ensures.items
    (resumes_kept h c.args.slot c.args.now c.requires.sound)
