use Rattle.std.proofs.Common.{◌≡◌, ◌≢◌, ◌∙◌, ◌%◌, ◌==◌, ℕ, Bool, true, false, if◌then◌else◌, Some, sym, ap, subst}
use Rattle.std.proofs.lemmas.Bool.{eq-eqb, eqb-true}
use Rattle.v6_base.specs.Trace.{Took}
use Rattle.fs_nodes.specs.FileSystem.{SameRest}
use Rattle.pick_rules.specs.Logged.{logged}
use Rattle.u_area.specs.declared.area.UArea.{UArea}
use Rattle.image_keep.specs.Kept.{Kept, area_of}
use Rattle.sig_core.specs.Signals.{due, is_signal, handler_of}
use Rattle.abstract_unix.specs.Unix.{Unix, process_of}
use Rattle.abstract_unix.specs.Steps.{Steps}
use Rattle.abstract_unix.specs.Delivery.{heeds, catches, ends_by, delivers}
use Rattle.abstract_unix.specs.Turn.{is_user}
use Rattle.sys_files.specs.declared.files.Files.{Files}
use Rattle.unix_core.specs.declared.world.World.{World}
use Rattle.unix_core.specs.Parts.{unix_of, board_in, HasCome, IsReady}
use Rattle.unix_core.proofs.AreaLemmas.{own_area}
use Rattle.unix_core.proofs.HeedLemmas.{due_some, heeds_user}
use Rattle.unix_core.proofs.delivery.deliver_to.Goals as goal

-- The signal has been heeded: the world then, and what the process has asked for.
module _ (w w1 : World) (s sig : ℕ) (ready : IsReady w s) (its : due (process_of (unix_of w) s).row (process_of (unix_of w) s).u ≡ Some sig)
    (unix : unix_of w1 ≡ heeds (unix_of w) s) (images : w1.procs.images.kept ≡ w.procs.images.kept) where
  handler : handler_of (area_of w1.procs.images.kept s) sig ≡ handler_of (process_of (unix_of w) s).u sig
  handler = ap (λ (k : Kept). handler_of (area_of k s) sig) images ∙ ap (λ (u : UArea). handler_of u sig) (own_area w s ready)

  ignored_not : (is_signal sig ≡ true) × (handler_of (process_of (unix_of w) s).u sig % 2 ≡ 0)
  ignored_not = due_some (process_of (unix_of w) s).row (process_of (unix_of w) s).u sig its

  still_heeded : handler_of (area_of w1.procs.images.kept s) sig % 2 ≡ 0
  still_heeded = ap (λ n. n % 2) handler ∙ ignored_not.1

  still_user : is_user (process_of (unix_of w) s) ≡ true → is_user (process_of (unix_of w1) s) ≡ true
  still_user user = ap (λ (u : Unix). is_user (process_of u s)) unix ∙ heeds_user w s ready ∙ user

  abbrev by_handler : Bool → Steps
  by_handler b = if b then ends_by (heeds (unix_of w) s) s sig else catches (heeds (unix_of w) s) s sig

  ends_is : (b : Bool) → b ≡ (handler_of (area_of w1.procs.images.kept s) sig == 0) → b ≡ true → ends_by (unix_of w1) s sig ≡ delivers (unix_of w) s sig
  ends_is b test is = ap (λ u. ends_by u s sig) unix ∙ ap by_handler (sym is ∙ test ∙ ap (λ n. n == 0) handler)

  catches_is : (b : Bool) → b ≡ (handler_of (area_of w1.procs.images.kept s) sig == 0) → b ≡ false → catches (unix_of w1) s sig ≡ delivers (unix_of w) s sig
  catches_is b test is = ap (λ u. catches u s sig) unix ∙ ap by_handler (sym is ∙ test ∙ ap (λ n. n == 0) handler)

has_none : (n : ℕ) (b : Bool) → b ≡ (n == 0) → b ≡ true → n ≡ 0
has_none n b test is = eqb-true n 0 (sym test ∙ is)

has_one : (n : ℕ) (b : Bool) → b ≡ (n == 0) → b ≡ false → n ≢ 0
has_one n b test is zero = let never : true ≡ false = sym (eq-eqb n 0 zero) ∙ sym test ∙ is in cc never

pub is_default-requires-clause-image : goal.is_default-requires-clause-image
is_default-requires-clause-image g c = c.heed.ensures.ready.good.running c.args.s c.heed.ensures.ready.runs c.heed.ensures.ready.user

pub is_default-requires-clause-signal : goal.is_default-requires-clause-signal
is_default-requires-clause-signal g c = (ignored_not c.args.world.now c.heed.new.world c.args.s c.args.sig c.requires.ready c.requires.due c.heed.ensures.unix c.heed.ensures.images).0

pub end_by-requires : goal.end_by-requires
end_by-requires g c =
    let h = c.heed.ensures in
    record {
      ready = h.ready;
      user = still_user c.args.world.now c.heed.new.world c.args.s c.args.sig c.requires.ready c.requires.due h.unix h.images c.requires.user;
      signal = (ignored_not c.args.world.now c.heed.new.world c.args.s c.args.sig c.requires.ready c.requires.due h.unix h.images).0;
      default = has_none _ c.is_default.result c.is_default.ensures c.if-is_default.true;
    }

pub returns-then-is_default-clause-come : goal.returns-then-is_default-clause-come
returns-then-is_default-clause-come g c =
    let w : World = c.args.world.now in
    let h = c.heed.ensures in
    subst (λ b. HasCome b (delivers (unix_of w) c.args.s c.args.sig) c.end_by.result c.end_by.new.world) h.board
    (subst (λ x. HasCome (board_in c.heed.new.world) x c.end_by.result c.end_by.new.world)
    (ends_is w c.heed.new.world c.args.s c.args.sig c.requires.ready c.requires.due h.unix h.images c.is_default.result c.is_default.ensures c.if-is_default.true)
    c.end_by.ensures.come)

pub returns-then-is_default-clause-items : goal.returns-then-is_default-clause-items
returns-then-is_default-clause-items g c =
    let w : World = c.args.world.now in
    let h = c.heed.ensures in
    subst (λ b. Took (g.T.Trace.taken c.args.trace.now) (logged b (delivers (unix_of w) c.args.s c.args.sig).effects).items (g.T.Trace.taken c.end_by.new.trace)) h.board
    (subst (λ (x : Steps). Took (g.T.Trace.taken c.args.trace.now) (logged (board_in c.heed.new.world) x.effects).items (g.T.Trace.taken c.end_by.new.trace))
    (ends_is w c.heed.new.world c.args.s c.args.sig c.requires.ready c.requires.due h.unix h.images c.is_default.result c.is_default.ensures c.if-is_default.true)
    c.end_by.ensures.items)

pub returns-then-is_default-clause-rest : goal.returns-then-is_default-clause-rest
returns-then-is_default-clause-rest g c =
    subst (λ (f : Files). SameRest f.tree.nodes c.end_by.new.world.files.tree.nodes) c.heed.ensures.files c.end_by.ensures.rest

pub catch-requires : goal.catch-requires
catch-requires g c =
    let h = c.heed.ensures in
    record {
      ready = h.ready;
      signal = (ignored_not c.args.world.now c.heed.new.world c.args.s c.args.sig c.requires.ready c.requires.due h.unix h.images).0;
      heeded = still_heeded c.args.world.now c.heed.new.world c.args.s c.args.sig c.requires.ready c.requires.due h.unix h.images;
      routine = has_one _ c.is_default.result c.is_default.ensures c.if-is_default.false;
    }

pub returns-clause-come : goal.returns-clause-come
returns-clause-come g c =
    let w : World = c.args.world.now in
    let h = c.heed.ensures in
    subst (λ b. HasCome b (delivers (unix_of w) c.args.s c.args.sig) c.catch.result c.catch.new.world) h.board
    (subst (λ x. HasCome (board_in c.heed.new.world) x c.catch.result c.catch.new.world)
    (catches_is w c.heed.new.world c.args.s c.args.sig c.requires.ready c.requires.due h.unix h.images c.is_default.result c.is_default.ensures c.if-is_default.false)
    c.catch.ensures.come)

pub returns-clause-good : goal.returns-clause-good
returns-clause-good g c goes = (c.catch.ensures.ready goes).good

pub returns-clause-items : goal.returns-clause-items
returns-clause-items g c =
    let w : World = c.args.world.now in
    let h = c.heed.ensures in
    subst (λ b. Took (g.T.Trace.taken c.args.trace.now) (logged b (delivers (unix_of w) c.args.s c.args.sig).effects).items (g.T.Trace.taken c.catch.new.trace)) h.board
    (subst (λ (x : Steps). Took (g.T.Trace.taken c.args.trace.now) (logged (board_in c.heed.new.world) x.effects).items (g.T.Trace.taken c.catch.new.trace))
    (catches_is w c.heed.new.world c.args.s c.args.sig c.requires.ready c.requires.due h.unix h.images c.is_default.result c.is_default.ensures c.if-is_default.false)
    c.catch.ensures.items)

pub returns-clause-rest : goal.returns-clause-rest
returns-clause-rest g c =
    subst (λ (f : Files). SameRest f.tree.nodes c.catch.new.world.files.tree.nodes) c.heed.ensures.files c.catch.ensures.rest
