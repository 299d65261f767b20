use Rattle.std.proofs.Common.{◌≡◌, ◌∙◌, ◌+◌, ◌*◌, ◌%◌, ℕ, Bool, true, false, if◌then◌else◌, slice_index, sym, ap, subst}
use Rattle.v6_base.specs.Trace.{Took}
use Rattle.fs_nodes.proofs.RestLemmas.{rest_then}
use Rattle.fs_nodes.specs.FileSystem.{SameRest}
use Rattle.pick_rules.specs.Logged.{logged}
use Rattle.u_area.specs.declared.area.UArea.{UArea}
use Rattle.u_area.specs.Area.{fetched}
use Rattle.image_keep.specs.Kept.{Kept, IsKept, area_of, image_of, with_area, with_image}
use Rattle.sig_core.specs.declared.psig.Delivered.{Delivered}
use Rattle.sig_core.specs.declared.psig.Delivered.TheVariants.{Ends}
use Rattle.sig_core.specs.Signals.{handler_of}
use Rattle.sig_core.specs.Delivery.{Delivery, makes_core, delivery}
use Rattle.sys_files.specs.Did.{Did}
use Rattle.sys_files.specs.Core.{core_file, is_written}
use Rattle.sys_procs.specs.Agree.{board_of}
use Rattle.sys_procs.specs.declared.procs.Procs.{Procs}
use Rattle.abstract_unix.specs.Unix.{Unix, process_of}
use Rattle.abstract_unix.specs.Steps.{Steps}
use Rattle.abstract_unix.specs.Calls.{handed_of, with_handed, exits_with}
use Rattle.abstract_unix.specs.Delivery.{signal_status, dumped, ends_after, ends_by}
use Rattle.abstract_unix.specs.Turn.{is_user}
use Rattle.unix_core.specs.declared.world.World.{World}
use Rattle.unix_core.specs.Parts.{unix_of, board_in, HasCome, IsReady}
use Rattle.unix_core.proofs.AreaLemmas.{own_area}
use Rattle.unix_core.proofs.PutLemmas.{with_images, with_kept, ready_bytes}
use Rattle.unix_core.proofs.DeliveryLemmas.{told_none, delivered_none}
use Rattle.unix_core.proofs.delivery.end_by.Goals as goal

-- the file `core`, as the process writes it
abbrev core_of : World → ℕ → Did
core_of w s = core_file (handed_of (unix_of w) (process_of (unix_of w) s)) w.procs.table.now

abbrev flag : World → ℕ → ℕ
flag w s = if is_written (core_of w s).answer then dumped else 0

status_is : (w : World) (s sig : ℕ) (u : UArea) (r0 n : ℕ) → IsReady w s → u ≡ area_of w.procs.images.kept s → r0 ≡ slice_index u.r 0 → n ≡ sig
    → 256 * (r0 % 256) + n ≡ signal_status (unix_of w) s sig
status_is w s sig u r0 n ready area read same =
    (λ i. 256 * (read i % 256) + same i) ∙ ap (λ (v : UArea). 256 * (slice_index v.r 0 % 256) + sig) (area ∙ own_area w s ready)

total : (a b x y : ℕ) → a ≡ b → x ≡ y → a + x ≡ b + y
total a b x y first second = λ i. first i + second i

-- The world is as it was, and so is what is answered.
module _ (w w1 : World) (s sig : ℕ) (ready : IsReady w s) (holds : IsKept w.procs.images.kept) (zero : handler_of (area_of w.procs.images.kept s) sig ≡ 0) (told : Delivered)
    (answer : told ≡ (delivery (area_of w.procs.images.kept s) sig (image_of w.procs.images.kept s)).answer)
    (images : w1.procs.images.kept ≡ with_area (with_image w.procs.images.kept s (delivery (area_of w.procs.images.kept s) sig (image_of w.procs.images.kept s)).image) s
    (delivery (area_of w.procs.images.kept s) sig (image_of w.procs.images.kept s)).area)
    (others : w1 ≡ with_images w w1.procs.images) where
  same : w1.procs.images.kept ≡ w.procs.images.kept
  same = told_none w s ready holds sig w1.procs.images images zero

  same_unix : unix_of w1 ≡ unix_of w
  same_unix = ap unix_of others ∙ ap (λ (k : Kept). unix_of (with_kept w w1.procs.images k)) same

  same_board : board_in w1 ≡ board_in w
  same_board = ap board_in others ∙ ap (λ (k : Kept). board_in (with_kept w w1.procs.images k)) same

  same_core : core_of w1 s ≡ core_of w s
  same_core = ap (λ x. core_of x s) others ∙ ap (λ (k : Kept). core_of (with_kept w w1.procs.images k) s) same

  still_ready : IsReady w1 s
  still_ready = subst (λ x. IsReady x s) (sym others) (ready_bytes w w1.procs.images same s ready)

  still_user : is_user (process_of (unix_of w) s) ≡ true → is_user (process_of (unix_of w1) s) ≡ true
  still_user user = ap (λ (u : Unix). is_user (process_of u s)) same_unix ∙ user

  ends_so : told ≡ Ends (makes_core sig)
  ends_so = answer ∙ ap (λ (d : Delivery). d.answer) (delivered_none (area_of w.procs.images.kept s) sig (image_of w.procs.images.kept s) zero)

  -- without the file
  module _ (b : Bool) (each : (core : Bool) → told ≡ Ends core → b ≡ core) where
    abbrev by_core : Bool → Steps
    by_core x =
        if x then ends_after (unix_of w) s sig (core_file (handed_of (unix_of w) (process_of (unix_of w) s)) (unix_of w).clock.time)
        else exits_with (unix_of w) s (signal_status (unix_of w) s sig)

    without : b ≡ false → (n : ℕ) → n ≡ signal_status (unix_of w) s sig → exits_with (unix_of w1) s n ≡ ends_by (unix_of w) s sig
    without is n status =
        (λ i. exits_with (same_unix i) s (status i)) ∙ ap by_core (sym is ∙ each (makes_core sig) ends_so)

    with_file : b ≡ true → (w2 : World) (n : ℕ) → unix_of w2 ≡ with_handed (unix_of w1) s (core_of w1 s).state → n ≡ signal_status (unix_of w) s sig + flag w1 s
        → exits_with (unix_of w2) s n ≡ ends_by (unix_of w) s sig
    with_file is w2 n unix status =
        let whole : n ≡ signal_status (unix_of w) s sig + flag w s = status ∙ ap (λ (d : Did). signal_status (unix_of w) s sig + (if is_written d.answer then dumped else 0)) same_core in
        (λ i. exits_with (unix i) s (whole i))
        ∙ (λ i. exits_with (with_handed (same_unix i) s (same_core i).state) s (signal_status (unix_of w) s sig + flag w s))
        ∙ ap by_core (sym is ∙ each (makes_core sig) ends_so)

pub area_bytes-requires : goal.area_bytes-requires
area_bytes-requires g c = c.requires.ready.good.running c.args.s c.requires.ready.runs c.requires.ready.user

pub tell-told-requires-clause-image : goal.tell-told-requires-clause-image
tell-told-requires-clause-image g c = c.requires.ready.good.running c.args.s c.requires.ready.runs c.requires.ready.user

pub tell-told-requires-clause-heeded : goal.tell-told-requires-clause-heeded
tell-told-requires-clause-heeded g c = ap (λ n. n % 2) c.requires.default

pub put_core-whole-requires : goal.put_core-whole-requires
put_core-whole-requires g c =
    let w : World = c.args.world.now in
    let w1 : World = c.tell-told.new.world in
    let s = c.args.s in
    let sig = c.args.sig in
    let ready = c.requires.ready in
    let t = c.tell-told.ensures in
    record {
      ready = still_ready w w1 s sig ready t.holds c.requires.default c.tell-told.result t.answer t.images t.others;
      user = still_user w w1 s sig ready t.holds c.requires.default c.tell-told.result t.answer t.images t.others c.requires.user;
    }

pub returns-then-leaves_core : goal.returns-then-leaves_core
returns-then-leaves_core g c =
    let w : World = c.args.world.now in
    let w1 : World = c.tell-told.new.world in
    let s = c.args.s in
    let sig = c.args.sig in
    let ready = c.requires.ready in
    let t = c.tell-told.ensures in
    let p = c.put_core-whole.ensures in
    let w2 : World = c.put_core-whole.new.world in
    let e = c.end_with.ensures in
    let board : board_in w2 ≡ board_in w = ap (λ (x : Procs). board_of x.table x.images.kept) p.procs ∙ same_board w w1 s sig ready t.holds c.requires.default c.tell-told.result t.answer t.images t.others in
    let n = total _ _ _ _ (status_is w s sig (fetched c.area_bytes.result.now) c.register-r0.result c.from.result ready c.area_bytes.ensures.read c.register-r0.ensures c.from.ensures)
    (c.flag_of.ensures ∙ ap (λ b. if b then dumped else 0) p.whole) in
    let steps = with_file w w1 s sig ready t.holds c.requires.default c.tell-told.result t.answer t.images t.others
    c.leaves_core.result c.leaves_core.ensures c.if-leaves_core.true w2 _ p.unix n in
    record {
      come = subst (λ b. HasCome b (ends_by (unix_of w) s sig) c.end_with.result c.end_with.new.world) board
          (subst (λ x. HasCome (board_in w2) x c.end_with.result c.end_with.new.world) steps e.come);
      items = subst (λ b. Took (g.T.Trace.taken c.args.trace.now) (logged b (ends_by (unix_of w) s sig).effects).items (g.T.Trace.taken c.end_with.new.trace)) board
          (subst (λ (x : Steps). Took (g.T.Trace.taken c.args.trace.now) (logged (board_in w2) x.effects).items (g.T.Trace.taken c.end_with.new.trace)) steps e.items);
      good = e.good;
      covered = e.covered;
      runs = e.runs;
      frame = e.frame;
      rest = subst (λ (x : World). SameRest x.files.tree.nodes c.end_with.new.world.files.tree.nodes) t.others (rest_then _ _ _ p.rest e.rest);
      slots = e.slots ∙ p.slots ∙ t.slots;
    }

pub end_with-requires-2 : goal.end_with-requires-2
end_with-requires-2 g c =
    let w : World = c.args.world.now in
    let w1 : World = c.tell-told.new.world in
    let s = c.args.s in
    let sig = c.args.sig in
    let ready = c.requires.ready in
    let t = c.tell-told.ensures in
    record {
      ready = still_ready w w1 s sig ready t.holds c.requires.default c.tell-told.result t.answer t.images t.others;
      user = still_user w w1 s sig ready t.holds c.requires.default c.tell-told.result t.answer t.images t.others c.requires.user;
    }

pub returns : goal.returns
returns g c =
    let w : World = c.args.world.now in
    let w1 : World = c.tell-told.new.world in
    let s = c.args.s in
    let sig = c.args.sig in
    let ready = c.requires.ready in
    let t = c.tell-told.ensures in
    let e = c.end_with-2.ensures in
    let board = same_board w w1 s sig ready t.holds c.requires.default c.tell-told.result t.answer t.images t.others in
    let steps = without w w1 s sig ready t.holds c.requires.default c.tell-told.result t.answer t.images t.others
    c.leaves_core.result c.leaves_core.ensures c.if-leaves_core.false _
    (status_is w s sig (fetched c.area_bytes.result.now) c.register-r0.result c.from.result ready c.area_bytes.ensures.read c.register-r0.ensures c.from.ensures) in
    record {
      come = subst (λ b. HasCome b (ends_by (unix_of w) s sig) c.end_with-2.result c.end_with-2.new.world) board
          (subst (λ x. HasCome (board_in w1) x c.end_with-2.result c.end_with-2.new.world) steps e.come);
      items = subst (λ b. Took (g.T.Trace.taken c.args.trace.now) (logged b (ends_by (unix_of w) s sig).effects).items (g.T.Trace.taken c.end_with-2.new.trace)) board
          (subst (λ (x : Steps). Took (g.T.Trace.taken c.args.trace.now) (logged (board_in w1) x.effects).items (g.T.Trace.taken c.end_with-2.new.trace)) steps e.items);
      good = e.good;
      covered = e.covered;
      runs = e.runs;
      frame = e.frame;
      rest = subst (λ (x : World). SameRest x.files.tree.nodes c.end_with-2.new.world.files.tree.nodes) t.others e.rest;
      slots = e.slots ∙ t.slots;
    }
