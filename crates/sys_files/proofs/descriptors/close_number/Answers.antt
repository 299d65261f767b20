use Rattle.std.proofs.Common.{◌≡◌, ◌⊎◌, ◌<◌, ℕ, List, length, slice_index, [], sym, ap, ◌∙◌, subst}
use Rattle.v6_base.specs.Trace.{Took}
use Rattle.v6_base.proofs.Took.{took_nothing}
use Rattle.fs_tree.specs.declared.tree.Tree.{Tree}
use Rattle.open_files.specs.declared.file.Closed.{Closed}
use Rattle.open_files.specs.declared.file.Closed.TheVariants.{Still, Last}
use Rattle.open_files.specs.Files.{file_at, entry_of}
use Rattle.pipe_ends.specs.declared.ends.Pipe.{Pipe}
use Rattle.sys_files.specs.Handed.{Handed, handed, file_of}
use Rattle.sys_files.specs.Pipes.{place_of}
use Rattle.sys_files.specs.Descriptors.{Closing}
use Rattle.sys_files.proofs.AnyLemmas.{any_row, any_image}
use Rattle.sys_files.proofs.DescriptorLemmas.{same_file, told_referred, others_referred, closes_by, closes_not}
use Rattle.sys_files.proofs.ReleasedLemmas.{told_there}
use Rattle.sys_files.proofs.descriptors.close_number.Goals as goal

pub drop_number-requires : goal.drop_number-requires
drop_number-requires g c = (c.requires any_row any_image).is_open

pub returns-in_err-told-clause-items : goal.returns-in_err-told-clause-items
returns-in_err-told-clause-items g c = λ row image.
    took_nothing _ _ (ap (λ (d : Closing). d.items)
    (closes_not (record {
      state = handed c.args.f.now c.args.u.now row image;
      items = [];
    }) c.args.fd c.in_err-told.ensures.outcome.1))

pub release-requires-clause-referenced : goal.release-requires-clause-referenced
release-requires-clause-referenced g c = λ file is.
    let h : Handed = handed c.args.f.now c.args.u.now any_row any_image in
    let out = c.in_ok-told.ensures.outcome in
    let P : Tree → Type 0 = λ t. 0 < slice_index t.nodes.references file.ino in
    subst P (sym c.drop_number.ensures.tree)
    (told_referred h c.args.fd file (c.requires any_row any_image) out.0 (sym (out.1 any_row any_image).0 ∙ is))

pub release-requires-clause-others : goal.release-requires-clause-others
release-requires-clause-others g c = λ entry file is.
    let h : Handed = handed c.args.f.now c.args.u.now any_row any_image in
    let out = c.in_ok-told.ensures.outcome in
    let P : Tree → Type 0 = λ t. 0 < slice_index t.nodes.references file.ino in
    subst P (sym c.drop_number.ensures.tree)
    (others_referred h c.args.fd (c.requires any_row any_image) out.0 entry file
    (ap (λ (n : Handed). file_at n.files entry) (sym (out.1 any_row any_image).1) ∙ is))

pub release-requires-clause-pipe : goal.release-requires-clause-pipe
release-requires-clause-pipe g c = λ file which is.
    let h : Handed = handed c.args.f.now c.args.u.now any_row any_image in
    let sound = c.requires any_row any_image in
    let out = c.in_ok-told.ensures.outcome in
    let entry : ℕ = entry_of h.u.files c.args.fd in
    let P : List Pipe → Type 0 = λ l. place_of l file.ino < length l in
    let Q : Closed → Type 0 = λ told. (told ≡ Still file) ⊎ (told ≡ Last file) in
    subst P (ap (λ (n : Handed). n.pipes) (sym (out.1 any_row any_image).1))
    (told_there h.files h.pipes entry (file_of h entry) file (same_file h entry (sound.is_open c.args.fd out.0))
    (subst Q (out.1 any_row any_image).0 which) sound.pipes is)

pub returns-clause-state : goal.returns-clause-state
returns-clause-state g c = λ row image.
    let h : Handed = handed c.args.f.now c.args.u.now row image in
    let out = c.in_ok-told.ensures.outcome in
    c.release.ensures.state c.drop_number.new.u row image
    ∙ ap (λ (d : Closing). d.state)
    (closes_by h (handed c.drop_number.new.f c.drop_number.new.u row image) c.args.fd c.in_ok-told.told out.0
    (out.1 row image).0 (out.1 row image).1)

pub returns-clause-items : goal.returns-clause-items
returns-clause-items g c = λ row image.
    let h : Handed = handed c.args.f.now c.args.u.now row image in
    let out = c.in_ok-told.ensures.outcome in
    let P : Closing → Type 0 = λ d. Took (g.T.Trace.taken c.args.trace.now) d.items (g.T.Trace.taken c.release.new.trace) in
    subst P (closes_by h (handed c.drop_number.new.f c.drop_number.new.u row image) c.args.fd c.in_ok-told.told out.0
    (out.1 row image).0 (out.1 row image).1)
    (c.release.ensures.items c.drop_number.new.u row image)
