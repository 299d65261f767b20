use Rattle.std.proofs.Common.{◌≡◌, ◌∙◌, ◌-◌, ◌%◌, ℕ, List, refl, sym, ap, arith}
use Rattle.tty_line.specs.Terminal.{Terminal}
use Rattle.pick_rules.specs.declared.table.Table.{Table}
use Rattle.abstract_unix.proofs.AtOnce.{at_once}
use Rattle.unix_core.specs.declared.world.World.{World}
use Rattle.unix_core.specs.Slots.{passed_in}
use Rattle.unix_core.specs.Parts.{unix_of, board_in}
use Rattle.unix_core.proofs.CountLemmas.{timed_same}
use Rattle.unix_core.proofs.SendLines.{sends_now, rests_now, unpaced_none, rest_unix, rest_board, rest_any, rest_took, send_unix, send_board, send_any, send_good, send_running, send_took}
use Rattle.unix_core.proofs.slots.send_after.Goals as goal

-- what is as it was
sent_others : (w v x : World) → v ≡ record w { files = record w.files { lines = v.files.lines }; procs = record w.procs { table = v.procs.table } }
    → x ≡ record v { slots = x.slots }
    → x ≡ record w { files = record w.files { lines = x.files.lines }; procs = record w.procs { table = x.procs.table }; slots = x.slots }
sent_others w v x sent others =
    let lines : v.files.lines ≡ x.files.lines = sym (ap (λ (y : World). y.files.lines) others) in
    let table : v.procs.table ≡ x.procs.table = sym (ap (λ (y : World). y.procs.table) others) in
    others
    ∙ ap (λ (y : World). record y { slots = x.slots }) sent
    ∙ (λ i. record w { files = record w.files { lines = lines i }; procs = record w.procs { table = table i }; slots = x.slots })

abbrev told : World → List Terminal → Table → World
told w lines t = record w { files = record w.files { lines = lines }; procs = record w.procs { table = t } }

-- so many slots the last send lies back
back : (w : World) (passed behind : ℕ) → passed_in w.slots ≡ passed → behind ≡ (passed - w.slots.set_at) % w.slots.pace
    → behind ≡ (passed_in w.slots - w.slots.set_at) % w.slots.pace
back w passed behind at is = is ∙ ap (λ p. (p - w.slots.set_at) % w.slots.pace) (sym at)

-- without a pace
pub returns-then-world-eq0 : goal.returns-then-world-eq0
returns-then-world-eq0 g c =
    let w : World = c.args.world.now in
    let none = (at_once (unix_of w)).sends c.if-world-eq0.true in
    record {
      unix = rest_unix w none w.slots refl;
      board = rest_board w none;
      any = rest_any w none;
      good = c.requires.good;
      counted = record { timed = c.requires.timed; sends = λ some. unpaced_none w.slots (passed_in w.slots) c.if-world-eq0.true };
      running = refl;
      others = refl;
      same = λ no. refl;
      items = rest_took w none _;
      frame = g.met.T.Trace.stays _;
    }

-- with one
pub behind-behind-requires-clause-set : goal.behind-behind-requires-clause-set
behind-behind-requires-clause-set g c = let set = c.requires.timed.set in let passed = c.requires.passed in omega (arith, set, passed)

-- between two sends
pub returns-then-behind-ne0 : goal.returns-then-behind-ne0
returns-then-behind-ne0 g c =
    let w : World = c.args.world.now in
    let e = c.renew_paced.ensures in
    let at = back w c.args.passed c.behind-behind.result c.requires.passed c.behind-behind.ensures.behind in
    let none = rests_now (unix_of w).timing (λ zero. c.if-behind-ne0.true (at ∙ zero)) in
    record {
      unix = e.unix ∙ rest_unix w none w.slots refl;
      board = ap board_in e.others ∙ rest_board w none;
      any = rest_any w none;
      good = e.good c.requires.good;
      counted = e.counted;
      running = ap (λ (x : World). x.procs.table.running) e.others;
      others = sent_others w w c.renew_paced.new.world refl e.others;
      same = λ no. ap (λ (x : World). x.procs) e.others;
      items = rest_took w none _;
      frame = g.met.T.Trace.stays _;
    }

-- The lines send.
pub send_lines-any-requires : goal.send_lines-any-requires
send_lines-any-requires g c = record { table = c.requires.good.agree.table }

pub renew_by-requires : goal.renew_by-requires
renew_by-requires g c =
    let w : World = c.args.world.now in
    let some = c.if-world-eq0.false in
    record {
      timed = timed_same w.slots (unix_of w) (unix_of (told w c.send_lines-any.new.lines c.send_lines-any.new.table)) refl refl c.requires.timed;
      behind = sym c.if-behind-ne0.false ∙ back w c.args.passed c.behind-behind.result c.requires.passed c.behind-behind.ensures.behind;
      few = omega (arith, some);
    }

pub returns : goal.returns
returns g c =
    let w : World = c.args.world.now in
    let e = c.renew_by.ensures in
    let sent = c.send_lines-any in
    let at = back w c.args.passed c.behind-behind.result c.requires.passed c.behind-behind.ensures.behind in
    let yes = sends_now (unix_of w).timing c.if-world-eq0.false (sym at ∙ c.if-behind-ne0.false) in
    record {
      unix = e.unix ∙ send_unix w c.requires.good yes sent.new.lines sent.ensures.lines sent.new.table sent.ensures.table w.slots refl;
      board = ap board_in e.others ∙ send_board w c.requires.good yes sent.new.lines sent.ensures.lines sent.new.table sent.ensures.table w.slots;
      any = send_any w c.requires.good yes sent.new.lines sent.ensures.lines sent.new.table sent.ensures.table sent.result sent.ensures.any;
      good = e.good (send_good w c.requires.good yes sent.new.lines sent.ensures.lines sent.new.table sent.ensures.table w.slots);
      counted = e.counted;
      running = ap (λ (x : World). x.procs.table.running) e.others
          ∙ send_running w c.requires.good yes sent.new.lines sent.ensures.lines sent.new.table sent.ensures.table;
      others = sent_others w (told w sent.new.lines sent.new.table) c.renew_by.new.world refl e.others;
      same = λ none. ap (λ (x : World). x.procs) e.others ∙ ap (λ (t : Table). record w.procs { table = t }) (sent.ensures.same none);
      items = send_took w c.requires.good yes sent.new.lines sent.ensures.lines sent.new.table sent.ensures.table _ _ sent.ensures.items;
      frame = sent.ensures.frame;
    }
