use Rattle.std.proofs.Common.{◌<◌, ◌≡◌, ◌≤◌, ◌+◌, ◌-◌, ◌%◌, ◌==◌, ℕ, Bool, true, false, List, length, take, nat_lt, slice_index, refl, sym, ◌∙◌, ap, subst, arith}
use Rattle.std.specs.Result.{is_ok}
use Rattle.std.proofs.lemmas.Bool.{eq-eqb, ne_eqb, le-ltb}
use Rattle.v6_base.specs.Image.{Image}
use Rattle.v6_base.specs.Access.{load_byte}
use Rattle.v6_base.specs.Trace.{Item, Took, sent}
use Rattle.v6_base.specs.declared.answer.Answer.TheVariants.{Ret}
use Rattle.u_area.specs.declared.area.UArea.{UArea}
use Rattle.fs_tree.specs.Name.{readable}
use Rattle.tty_line.specs.Terminal.{Terminal}
use Rattle.tty_line.specs.Output.{shows, after_shown, written}
use Rattle.tty_line.proofs.OutputLemmas.{written_few}
use Rattle.lines_eight.specs.Lines.{terminal_at, with_terminal}
use Rattle.sys_files.specs.Handed.{Handed, line_at}
use Rattle.sys_files.specs.Did.{Did}
use Rattle.sys_files.specs.Moving.{writes_line}
use Rattle.sys_files.proofs.ShowingLemmas.{readable_few, readable_whole, readable_next}
use Rattle.sys_files.proofs.WriteLemmas.{with_shown, shows_case}
use Rattle.sys_files.proofs.moving.write_line.Goals as goal

-- how many bytes are taken, as one who is handed the lines and the memory says it
count_is : (h : Handed) (l from left n : ℕ) (lines : List Terminal) (image : Image) → h.lines ≡ lines → h.image ≡ image
    → n ≡ written (terminal_at lines l) (readable image from left) → n ≡ written (line_at h l) (readable h.image from left)
count_is h l from left n lines image lines_same image_same is =
    is ∙ sym (λ i. written (terminal_at (lines_same i) l) (readable (image_same i) from left))

-- the parts after so many bytes were shown
shown_is : (h : Handed) (l from left n : ℕ) (lines new : List Terminal) (image : Image) (u : UArea) → h.lines ≡ lines → h.image ≡ image → h.u ≡ u
    → new ≡ with_terminal lines l (after_shown (terminal_at lines l) (take n (readable image from left)))
    → ◌≡◌ {A = Handed} (record h { lines = new; u = u }) (with_shown h l (take n (readable h.image from left)))
shown_is h l from left n lines new image u lines_same image_same u_same is =
    let area = sym u_same in
    (λ i. record h { lines = is i; u = area i })
    ∙ sym (λ i. record h { lines = with_terminal (lines_same i) l (after_shown (terminal_at (lines_same i) l) (take n (readable (image_same i) from left))) })

-- whether the byte that comes next can be read, after those that were taken
can_be_read : (t : Terminal) (image : Image) (from left n : ℕ) (b : Bool) → from < 65536 → n ≡ written t (readable image from left) → n < left
    → b ≡ is_ok (load_byte image ((from + n) % 65536)) → b ≡ nat_lt n (length (readable image from left))
can_be_read t image from left n b low is less asked =
    let some = written_few t (readable image from left) in
    let few : n ≤ length (readable image from left) = omega (arith, is, some) in
    asked ∙ readable_next image from n left low (readable_whole image from n left low few) less

-- the same to one who is handed the memory
next_is : (h : Handed) (from left n : ℕ) (image : Image) (lines : List Terminal) (l : ℕ) (b : Bool) → h.image ≡ image
    → n ≡ written (terminal_at lines l) (readable image from left) → b ≡ nat_lt n (length (readable image from left))
    → nat_lt n (length (readable h.image from left)) ≡ b
next_is h from left n image lines l b image_same is can = ap (λ (m : Image). nat_lt n (length (readable m from left))) image_same ∙ sym can

-- what is shown
items_is : (h : Handed) (l entry at count done n : ℕ) (lines : List Terminal) (image : Image) → h.lines ≡ lines → h.image ≡ image
    → n ≡ written (terminal_at lines l) (readable image ((at + done) % 65536) (count - done))
    → sent l (shows (terminal_at lines l) (take n (readable image ((at + done) % 65536) (count - done)))) ≡ (writes_line h l entry at count done).items
items_is h l entry at count done n lines image lines_same image_same is =
    let from = (at + done) % 65536 in
    let left = count - done in
    sym (λ i. sent l (shows (terminal_at (lines_same i) l) (take n (readable (image_same i) from left))))
    ∙ ap (λ m. sent l (shows (line_at h l) (take m (readable h.image from left))))
    (count_is h l from left n lines image lines_same image_same is)

pub returns-then-taken-left-clause-answer : goal.returns-then-taken-left-clause-answer
returns-then-taken-left-clause-answer g c h lines_same u_same row_same image_same =
    let image = g.S.Space.image c.args.space.now in
    let from : ℕ = (c.args.at + c.args.done) % 65536 in
    let left : ℕ = c.args.count - c.args.done in
    let n : ℕ = c.show_all-taken.result in
    let within = c.requires.within in
    let is = count_is h c.args.l from left n c.args.lines.now image lines_same image_same c.show_all-taken.ensures.taken in
    let few = readable_few h.image from left in
    let end = c.if-taken-left.true in
    let case = shows_case h c.args.l c.args.entry c.args.at c.args.count c.args.done n false true is
    (le-ltb n (length (readable h.image from left)) (omega (arith, few, end))) (eq-eqb (c.args.done + n) c.args.count (omega (arith, end, within))) in
    ap (λ (u : UArea). Ret c.args.count (slice_index u.r 1)) (sym u_same) ∙ ap (λ (d : Did). d.answer) (sym case)

pub returns-then-taken-left-clause-state : goal.returns-then-taken-left-clause-state
returns-then-taken-left-clause-state g c h lines_same u_same row_same image_same =
    let image = g.S.Space.image c.args.space.now in
    let from : ℕ = (c.args.at + c.args.done) % 65536 in
    let left : ℕ = c.args.count - c.args.done in
    let n : ℕ = c.show_all-taken.result in
    let within = c.requires.within in
    let is = count_is h c.args.l from left n c.args.lines.now image lines_same image_same c.show_all-taken.ensures.taken in
    let few = readable_few h.image from left in
    let end = c.if-taken-left.true in
    let case = shows_case h c.args.l c.args.entry c.args.at c.args.count c.args.done n false true is
    (le-ltb n (length (readable h.image from left)) (omega (arith, few, end))) (eq-eqb (c.args.done + n) c.args.count (omega (arith, end, within))) in
    shown_is h c.args.l from left n c.args.lines.now c.show_all-taken.new.lines image c.args.u.now lines_same image_same u_same c.show_all-taken.ensures.line
    ∙ ap (λ (d : Did). d.state) (sym case)

pub returns-then-taken-left-clause-items : goal.returns-then-taken-left-clause-items
returns-then-taken-left-clause-items g c h lines_same image_same =
    subst (λ (items : List Item). Took (g.T.Trace.taken c.args.trace.now) items (g.T.Trace.taken c.show_all-taken.new.trace))
    (items_is h c.args.l c.args.entry c.args.at c.args.count c.args.done c.show_all-taken.result c.args.lines.now (g.S.Space.image c.args.space.now)
    lines_same image_same c.show_all-taken.ensures.taken) c.show_all-taken.ensures.items

pub returns-then-is_ok-clause-answer : goal.returns-then-is_ok-clause-answer
returns-then-is_ok-clause-answer g c h lines_same u_same row_same image_same =
    let image = g.S.Space.image c.args.space.now in
    let from : ℕ = (c.args.at + c.args.done) % 65536 in
    let left : ℕ = c.args.count - c.args.done in
    let n : ℕ = c.show_all-taken.result in
    let within = c.requires.within in
    let is = count_is h c.args.l from left n c.args.lines.now image lines_same image_same c.show_all-taken.ensures.taken in
    let can = can_be_read (terminal_at c.args.lines.now c.args.l) image from left n c.is_ok.result (omega arith) c.show_all-taken.ensures.taken
    (omega (arith, c.if-taken-left.false, c.show_all-taken.ensures.most)) (c.is_ok.ensures.value ∙ ap is_ok c.load_byte.ensures) in
    let next = next_is h from left n image c.args.lines.now c.args.l c.is_ok.result image_same c.show_all-taken.ensures.taken can in
    let case = shows_case h c.args.l c.args.entry c.args.at c.args.count c.args.done n true (c.args.done + n == c.args.count) is (next ∙ c.if-is_ok.true) refl in
    let bytes : List ℕ = readable h.image from left in
    let waits = c.wait_for_room.ensures (with_shown h c.args.l (take n bytes)) u_same row_same in
    sym (ap (λ (d : Did). d.answer) case ∙ ap (λ (d : Did). d.answer) waits)

pub returns-then-is_ok-clause-state : goal.returns-then-is_ok-clause-state
returns-then-is_ok-clause-state g c h lines_same u_same row_same image_same =
    let image = g.S.Space.image c.args.space.now in
    let from : ℕ = (c.args.at + c.args.done) % 65536 in
    let left : ℕ = c.args.count - c.args.done in
    let n : ℕ = c.show_all-taken.result in
    let within = c.requires.within in
    let is = count_is h c.args.l from left n c.args.lines.now image lines_same image_same c.show_all-taken.ensures.taken in
    let can = can_be_read (terminal_at c.args.lines.now c.args.l) image from left n c.is_ok.result (omega arith) c.show_all-taken.ensures.taken
    (omega (arith, c.if-taken-left.false, c.show_all-taken.ensures.most)) (c.is_ok.ensures.value ∙ ap is_ok c.load_byte.ensures) in
    let next = next_is h from left n image c.args.lines.now c.args.l c.is_ok.result image_same c.show_all-taken.ensures.taken can in
    let case = shows_case h c.args.l c.args.entry c.args.at c.args.count c.args.done n true (c.args.done + n == c.args.count) is (next ∙ c.if-is_ok.true) refl in
    let bytes : List ℕ = readable h.image from left in
    let waits = c.wait_for_room.ensures (with_shown h c.args.l (take n bytes)) u_same row_same in
    ap (λ (k : Handed). record k { u = c.wait_for_room.new.u })
    (shown_is h c.args.l from left n c.args.lines.now c.show_all-taken.new.lines image c.args.u.now lines_same image_same u_same c.show_all-taken.ensures.line)
    ∙ sym (ap (λ (d : Did). d.state) case ∙ ap (λ (d : Did). d.state) waits)

pub returns-then-is_ok-clause-items : goal.returns-then-is_ok-clause-items
returns-then-is_ok-clause-items g c h lines_same image_same =
    subst (λ (items : List Item). Took (g.T.Trace.taken c.args.trace.now) items (g.T.Trace.taken c.show_all-taken.new.trace))
    (items_is h c.args.l c.args.entry c.args.at c.args.count c.args.done c.show_all-taken.result c.args.lines.now (g.S.Space.image c.args.space.now)
    lines_same image_same c.show_all-taken.ensures.taken) c.show_all-taken.ensures.items

pub returns-clause-answer : goal.returns-clause-answer
returns-clause-answer g c h lines_same u_same row_same image_same =
    let image = g.S.Space.image c.args.space.now in
    let from : ℕ = (c.args.at + c.args.done) % 65536 in
    let left : ℕ = c.args.count - c.args.done in
    let n : ℕ = c.show_all-taken.result in
    let within = c.requires.within in
    let is = count_is h c.args.l from left n c.args.lines.now image lines_same image_same c.show_all-taken.ensures.taken in
    let can = can_be_read (terminal_at c.args.lines.now c.args.l) image from left n c.is_ok.result (omega arith) c.show_all-taken.ensures.taken
    (omega (arith, c.if-taken-left.false, c.show_all-taken.ensures.most)) (c.is_ok.ensures.value ∙ ap is_ok c.load_byte.ensures) in
    let next = next_is h from left n image c.args.lines.now c.args.l c.is_ok.result image_same c.show_all-taken.ensures.taken can in
    let case = shows_case h c.args.l c.args.entry c.args.at c.args.count c.args.done n false false is (next ∙ c.if-is_ok.false)
    (ne_eqb (c.args.done + n) c.args.count (λ e. omega (arith, e, within, c.if-taken-left.false))) in
    ap (λ (d : Did). d.answer) (sym case)

pub returns-clause-state : goal.returns-clause-state
returns-clause-state g c h lines_same u_same row_same image_same =
    let image = g.S.Space.image c.args.space.now in
    let from : ℕ = (c.args.at + c.args.done) % 65536 in
    let left : ℕ = c.args.count - c.args.done in
    let n : ℕ = c.show_all-taken.result in
    let within = c.requires.within in
    let is = count_is h c.args.l from left n c.args.lines.now image lines_same image_same c.show_all-taken.ensures.taken in
    let can = can_be_read (terminal_at c.args.lines.now c.args.l) image from left n c.is_ok.result (omega arith) c.show_all-taken.ensures.taken
    (omega (arith, c.if-taken-left.false, c.show_all-taken.ensures.most)) (c.is_ok.ensures.value ∙ ap is_ok c.load_byte.ensures) in
    let next = next_is h from left n image c.args.lines.now c.args.l c.is_ok.result image_same c.show_all-taken.ensures.taken can in
    let case = shows_case h c.args.l c.args.entry c.args.at c.args.count c.args.done n false false is (next ∙ c.if-is_ok.false)
    (ne_eqb (c.args.done + n) c.args.count (λ e. omega (arith, e, within, c.if-taken-left.false))) in
    shown_is h c.args.l from left n c.args.lines.now c.show_all-taken.new.lines image c.args.u.now lines_same image_same u_same c.show_all-taken.ensures.line
    ∙ ap (λ (d : Did). d.state) (sym case)

pub returns-clause-items : goal.returns-clause-items
returns-clause-items g c h lines_same image_same =
    subst (λ (items : List Item). Took (g.T.Trace.taken c.args.trace.now) items (g.T.Trace.taken c.show_all-taken.new.trace))
    (items_is h c.args.l c.args.entry c.args.at c.args.count c.args.done c.show_all-taken.result c.args.lines.now (g.S.Space.image c.args.space.now)
    lines_same image_same c.show_all-taken.ensures.taken) c.show_all-taken.ensures.items
