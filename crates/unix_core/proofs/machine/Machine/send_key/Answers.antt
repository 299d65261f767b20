use Rattle.std.proofs.Common.{◌≡◌, ◌∙◌, ℕ, Bool, List, [], refl, sym, ap, subst, map}
use Rattle.v6_base.specs.Trace.{Item, Took}
use Rattle.v6_base.proofs.Took.{took_nothing}
use Rattle.pick_rules.specs.Effects.{Show}
use Rattle.pick_rules.specs.Logged.{logged}
use Rattle.tty_line.specs.declared.line.Keyed.{Keyed}
use Rattle.tty_line.specs.declared.line.Keyed.TheVariants as key
use Rattle.unix_core.specs.declared.world.World.{World}
use Rattle.abstract_unix.specs.Unix.{Unix}
use Rattle.abstract_unix.specs.Outside.{with_key, key_lines}
use Rattle.unix_core.specs.Parts.{unix_of, board_in}
use Rattle.unix_core.proofs.KeyLemmas.{key_unix, key_board, key_good}
use Rattle.unix_core.proofs.machine.Machine.send_key.Goals as goal

pub signal_line-requires : goal.signal_line-requires
signal_line-requires g c = record { agree = c.requires.agree }

pub returns-in-Signal-clause-good : goal.returns-in-Signal-clause-good
returns-in-Signal-clause-good g c =
    let sent = c.signal_line in
    key_good c.args.self.now.world c.requires sent.new.p c.args.l c.in-Signal.sig sent.ensures.agree sent.ensures.state sent.ensures.board

pub returns-in-Signal-clause-unix : goal.returns-in-Signal-clause-unix
returns-in-Signal-clause-unix g c =
    let w : World = c.args.self.now.world in
    let sent = c.signal_line in
    key_unix w c.requires sent.new.p c.args.l c.in-Signal.sig sent.ensures.agree sent.ensures.state sent.ensures.board
    ∙ ap (λ (k : Keyed). with_key c.args.l k (unix_of w)) (sym c.in-Signal.is)

pub returns-in-Signal-clause-board : goal.returns-in-Signal-clause-board
returns-in-Signal-clause-board g c =
    let w : World = c.args.self.now.world in
    let sent = c.signal_line in
    key_board w c.requires sent.new.p c.args.l c.in-Signal.sig sent.ensures.agree sent.ensures.state sent.ensures.board
    ∙ ap (λ (k : Keyed). (logged {W = Unix} (board_in w) (map Show (key_lines c.args.l k (unix_of w)))).board) (sym c.in-Signal.is)

pub returns-in-Signal-clause-items : goal.returns-in-Signal-clause-items
returns-in-Signal-clause-items g c =
    let w : World = c.args.self.now.world in
    subst (λ (k : Keyed). Took (g.T.Trace.taken c.args.trace.now) (key_lines c.args.l k (unix_of w)) (g.T.Trace.taken c.signal_line.new.trace)) (sym c.in-Signal.is)
    (c.signal_line.ensures.items w.files.tree.nodes)

pub returns-in-Signal-clause-images : goal.returns-in-Signal-clause-images
returns-in-Signal-clause-images g c = c.signal_line.ensures.images

-- a key that sends none
none_sent : (l : ℕ) (k : Keyed) → ((n : ℕ) (show : Bool) → k ≡ key.Signal n show → ⊥) → (u : Unix) → (with_key l k u ≡ u) × (key_lines l k u ≡ [])
none_sent l key.Nothing other u = (refl, refl)
none_sent l key.Ready other u = (refl, refl)
none_sent l (key.Flushed show) other u = (refl, refl)
none_sent l (key.Signal n show) other u = absurd (other n show refl)

pub returns-in_default : goal.returns-in_default
returns-in_default g c =
    let w : World = c.args.self.now.world in
    let none = none_sent c.args.l c.args.keyed c.in_default.not-Signal (unix_of w) in record {
      good = c.requires;
      unix = sym none.0;
      board = ap (λ (items : List Item). (logged {W = Unix} (board_in w) (map Show items)).board) (sym none.1);
      items = took_nothing _ _ none.1;
      frame = g.met.T.Trace.stays _;
      files = refl;
      images = refl;
      slots = refl;
    }
