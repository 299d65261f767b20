use Rattle.std.proofs.Common.{◌≡◌, ◌∙◌, ◌+◌, ◌%◌, ◌^◌, ℕ, [], ap, sym}
use Rattle.v6_base.proofs.Took.{took_none}
use Rattle.u_area.specs.Area.{fetched}
use Rattle.pick_rules.specs.Logged.{logged}
use Rattle.sys_procs.specs.World.{World}
use Rattle.sys_procs.specs.Comes.{Comes}
use Rattle.sys_procs.specs.Handed.{board, handed}
use Rattle.sys_procs.specs.Times.{sleep_until, sleep_for}
use Rattle.sys_procs.proofs.Shown.{Says, its_call}
use Rattle.sys_procs.proofs.TimesLemmas.{sleep_is, sleep_shows_none}
use Rattle.sys_procs.proofs.times.sleep_for.Given as given
use Rattle.sys_procs.proofs.times.sleep_for.Goals as goal

abbrev until : (g : given.Over) → goal.After-sleep_until g → ℕ
until g c = (c.args.p.now.table.now + c.from.result) % 2 ^ 32

says : (g : given.Over) (c : goal.After-sleep_until g)
    → let w : World = handed c.args.p.now c.args.tree.now.nodes in
    Says c.args.p.now (sleep_for w c.args.s) [] (board c.args.p.now) (sleep_until w c.args.s (until g c)).state c.sleep_until.result
says g c =
    let w : World = handed c.args.p.now c.args.tree.now.nodes in
    let is : sleep_for w c.args.s ≡ sleep_until w c.args.s (until g c) =
    sleep_is w c.args.s (fetched c.area_bytes.result.now) c.area_bytes.ensures.read
    ∙ ap (λ n. sleep_until w c.args.s ((c.args.p.now.table.now + n) % 2 ^ 32)) (sym (c.from.ensures ∙ c.register-r0.ensures)) in
    record {
      shown = ap (λ (d : Comes). logged (board c.args.p.now) d.effects) is ∙ ap (logged (board c.args.p.now)) (sleep_shows_none w c.args.s (until g c));
      state = ap (λ (d : Comes). d.state) is;
      answer = ap (λ (d : Comes). d.answer) is ∙ sym (c.sleep_until.ensures.answer c.args.tree.now.nodes);
    }

pub returns-clause-does : goal.returns-clause-does
returns-clause-does g c =
    its_call (says g c) (c.sleep_until.ensures.state c.args.tree.now.nodes) c.sleep_until.ensures.board (took_none _)
