use Rattle.std.proofs.Common.{◌≡◌, ◌∙◌, ◌<◌, ℕ, Result, Ok, slice_index, length, refl, ap, sym, subst, arith}
use Rattle.v6_base.specs.declared.entry.Place.{Place}
use Rattle.v6_base.specs.declared.answer.Answer.{Answer}
use Rattle.v6_base.specs.declared.answer.Answer.TheVariants.{Ret}
use Rattle.v6_base.specs.declared.entry.PanicKind.{PanicKind}
use Rattle.pick_rules.specs.declared.table.Table.{Table}
use Rattle.pick_rules.specs.Table.{IsTable}
use Rattle.image_keep.specs.Moves.{forked_at}
use Rattle.fs_nodes.specs.FileSystem.{FileSystem}
use Rattle.sys_procs.specs.declared.procs.Procs.{Procs}
use Rattle.sys_procs.specs.Process.{Process, register}
use Rattle.sys_procs.specs.World.{World, change}
use Rattle.sys_procs.specs.Fork.{past_word, next_pid, with_child}
use Rattle.sys_procs.specs.Handed.{IsAlive, board, handed, process_here}
use Rattle.sys_procs.proofs.SameKept.{SameKept, same_images, same_handed, same_board, same_here, same_alive}
use Rattle.sys_procs.proofs.Slots.{fifty_processes}
use Rattle.sys_procs.proofs.Alive.{calls_alive}
use Rattle.sys_procs.proofs.Referred.{dir_referred}
use Rattle.sys_procs.proofs.Dones.{done_logged}
use Rattle.sys_procs.proofs.ForkPlaces.{fork_place}
use Rattle.sys_procs.proofs.Forks.{IsFreeSlot, free_slot, is_seated, seated, child_pid, gone_on, state_seated, board_seated, parent_alive, child_alive, parent_stays, child_is, world_forked, register_forked, next_is, logged_fork, logged_no_fork}
use Rattle.sys_procs.proofs.fork.fork_into.Goals as goal

-- It finds no place.
pub returns-in-Err-clause-does : goal.returns-in-Err-clause-does
returns-in-Err-clause-does g c =
    let p : Procs = c.args.p.now in
    let s : ℕ = c.args.s in
    let child : ℕ = c.args.child in
    let fs : FileSystem = c.args.tree.now.nodes in
    let alive : IsAlive p s = calls_alive p fs s c.requires.calls in
    let is : SameKept (record p { images = c.copy_for_fork.new.self }) p =
    same_images (c.copy_for_fork.ensures.kept ∙ ap (forked_at p.images.kept s child) c.in-Err.ensures.place) in
    done_logged (logged_no_fork (board p) s child (handed p fs)
    (fork_place p s alive c.see.ensures.images.slots ∙ c.in-Err.ensures.place)) refl
    (same_handed is fs) (same_board is)
    c.entry-in-Err.ensures.took

-- It finds one.
pub copy_for_fork-requires-clause-slot : goal.copy_for_fork-requires-clause-slot
copy_for_fork-requires-clause-slot g c =
    (free_slot c.args.p.now c.args.s c.args.child (calls_alive c.args.p.now c.args.tree.now.nodes c.args.s c.requires.calls) c.requires.free).low

pub copy_for_fork-requires-clause-nothing : goal.copy_for_fork-requires-clause-nothing
copy_for_fork-requires-clause-nothing g c =
    (free_slot c.args.p.now c.args.s c.args.child (calls_alive c.args.p.now c.args.tree.now.nodes c.args.s c.requires.calls) c.requires.free).image

pub copy_for_fork-requires-clause-no_text : goal.copy_for_fork-requires-clause-no_text
copy_for_fork-requires-clause-no_text g c =
    (free_slot c.args.p.now c.args.s c.args.child (calls_alive c.args.p.now c.args.tree.now.nodes c.args.s c.requires.calls) c.requires.free).text

pub add_row-requires-clause-child : goal.add_row-requires-clause-child
add_row-requires-clause-child g c =
    (free_slot c.args.p.now c.args.s c.args.child (calls_alive c.args.p.now c.args.tree.now.nodes c.args.s c.requires.calls) c.requires.free).low

pub go_on-requires-clause-parent : goal.go_on-requires-clause-parent
go_on-requires-clause-parent g c =
    let p : Procs = c.args.p.now in
    let alive : IsAlive p c.args.s = calls_alive p c.args.tree.now.nodes c.args.s c.requires.calls in
    same_alive
    (is_seated p c.args.s c.args.child c.in-Ok.place c.args.rows.now c.add_row.new.table c.copy_for_fork.new.self
    c.requires.rows c.add_row.ensures.table c.in-Ok.ensures.place c.copy_for_fork.ensures.kept)
    (parent_alive p c.args.s c.args.child c.in-Ok.place alive c.see.ensures.rows.long c.see.ensures.images.slots c.see.ensures.images.seats
    (free_slot p c.args.s c.args.child alive c.requires.free) (subst (λ (t : Table). IsTable t) c.add_row.ensures.table c.add_row.ensures.good))

pub go_on-requires-clause-child : goal.go_on-requires-clause-child
go_on-requires-clause-child g c =
    let p : Procs = c.args.p.now in
    let alive : IsAlive p c.args.s = calls_alive p c.args.tree.now.nodes c.args.s c.requires.calls in
    same_alive
    (is_seated p c.args.s c.args.child c.in-Ok.place c.args.rows.now c.add_row.new.table c.copy_for_fork.new.self
    c.requires.rows c.add_row.ensures.table c.in-Ok.ensures.place c.copy_for_fork.ensures.kept)
    (child_alive p c.args.s c.args.child c.in-Ok.place alive c.see.ensures.rows.long c.see.ensures.images.slots c.see.ensures.images.seats
    (free_slot p c.args.s c.args.child alive c.requires.free) (subst (λ (t : Table). IsTable t) c.add_row.ensures.table c.add_row.ensures.good))

pub go_on-requires-clause-apart : goal.go_on-requires-clause-apart
go_on-requires-clause-apart g c =
    (free_slot c.args.p.now c.args.s c.args.child (calls_alive c.args.p.now c.args.tree.now.nodes c.args.s c.requires.calls) c.requires.free).apart

pub go_on-requires-clause-referenced : goal.go_on-requires-clause-referenced
go_on-requires-clause-referenced g c =
    let p : Procs = c.args.p.now in
    let alive : IsAlive p c.args.s = calls_alive p c.args.tree.now.nodes c.args.s c.requires.calls in
    subst (λ (q : Process). 0 < slice_index c.args.tree.now.nodes.references q.u.dir)
    (sym (same_here
    (is_seated p c.args.s c.args.child c.in-Ok.place c.args.rows.now c.add_row.new.table c.copy_for_fork.new.self
    c.requires.rows c.add_row.ensures.table c.in-Ok.ensures.place c.copy_for_fork.ensures.kept) c.args.s
    ∙ (parent_stays p c.args.s c.args.child c.in-Ok.place alive c.see.ensures.rows.long c.see.ensures.images.slots c.see.ensures.images.seats
    (free_slot p c.args.s c.args.child alive c.requires.free))))
    (dir_referred p c.args.tree.now.nodes c.args.s c.requires.calls)

pub returns-in-Ok-clause-does : goal.returns-in-Ok-clause-does
returns-in-Ok-clause-does g c =
    let p : Procs = c.args.p.now in
    let fs : FileSystem = c.args.tree.now.nodes in
    let s : ℕ = c.args.s in
    let child : ℕ = c.args.child in
    let place : Place = c.in-Ok.place in
    let w : World = handed p fs in
    let alive : IsAlive p s = calls_alive p fs s c.requires.calls in
    let free : IsFreeSlot p s child = free_slot p s child alive c.requires.free in
    let fifty : length p.rows.slots ≡ 50 = c.see.ensures.rows.long in
    let images : length p.images.kept.slots ≡ 50 = c.see.ensures.images.slots in
    let seats : length p.images.kept.users ≡ 50 = c.see.ensures.images.seats in
    let done : Answer → Result Answer PanicKind = λ a. Ok a in
    let low : s < length w.processes = let below = alive.below in omega (arith, below, fifty_processes p.rows.slots p.images.kept) in
    let child_low : child < length w.processes = let below = free.low in omega (arith, below, fifty_processes p.rows.slots p.images.kept) in
    let now : SameKept (record p { rows = c.args.rows.now; table = c.add_row.new.table; images = c.copy_for_fork.new.self }) (seated p s child place) =
    is_seated p s child place c.args.rows.now c.add_row.new.table c.copy_for_fork.new.self c.requires.rows c.add_row.ensures.table c.in-Ok.ensures.place c.copy_for_fork.ensures.kept in
    let pid : (process_here (seated p s child place) child).row.pid ≡ next_pid w =
    ap (λ (q : Process). q.row.pid) (child_is p s child place alive fifty images seats free) ∙ next_is p fs fifty in
    let r1 : register (process_here (seated p s child place) s) 1 ≡ register (process_here p s) 1 =
    ap (λ (q : Process). register q 1) (parent_stays p s child place alive fifty images seats free) in
    done_logged (logged_fork (board p) s child w place
    (fork_place p s alive images ∙ c.in-Ok.ensures.place))
    (ap done (c.go_on.ensures.answer
    ∙ ((λ i. Ret (same_here now child i).row.pid (register (same_here now s i) 1))
    ∙ (ap (λ (n : ℕ). Ret n (register (process_here (seated p s child place) s) 1)) pid
    ∙ ap (λ (n : ℕ). Ret (next_pid w) n) (r1 ∙ register_forked w s child (next_pid w) free.apart child_low low)))))
    (c.go_on.ensures.state
    ∙ (ap (λ (v : World). gone_on v s child) (same_handed now fs ∙ state_seated p s child place alive fifty images seats free fs)
    ∙ (world_forked w s child (child_pid p) free.apart child_low low
    ∙ ap (λ (n : ℕ). change (with_child w s child n) s past_word) (next_is p fs fifty))))
    (c.go_on.ensures.board ∙ (same_board now ∙ board_seated p s child place alive fifty images seats free c.in-Ok.ensures.place))
    c.entry.ensures.took
