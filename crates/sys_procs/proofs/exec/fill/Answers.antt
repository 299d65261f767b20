use Rattle.std.proofs.Common.{◌≡◌, ◌∙◌, ℕ, ◌+◌, ◌*◌, ◌%◌, List, ap, arith}
use Rattle.v6_base.specs.Image.{Image, nseg}
use Rattle.fs_laws.specs.Pieces.{Moving, read_file}
use Rattle.fs_nodes.specs.Keys.{Stores, room_at, with_node}
use Rattle.fs_nodes.specs.Copy.{put_into}
use Rattle.sys_procs.specs.declared.program.Program.{Program}
use Rattle.sys_procs.specs.Tests.{node_in}
use Rattle.sys_procs.specs.ExecFile.{data_clicks, cleared_image, data_in}
use Rattle.sys_procs.specs.Stack.{first_stack}
use Rattle.sys_procs.proofs.LoadData.{few_segments, stack_stays, node_there}
use Rattle.sys_procs.proofs.exec.fill.Given as given
use Rattle.sys_procs.proofs.exec.fill.Goals.{After-read_at}
use Rattle.sys_procs.proofs.exec.fill.Goals as goal

-- the address at which the data begin
at_is : (g : given.Over) (c : After-read_at g) → c.data_at-at.result ≡ 8192 * nseg c.args.program.now.text_clicks
at_is g c =
    let few = few_segments c.args.program.now.text_clicks (data_clicks c.args.program.now.plan) 20 2048 c.requires.fits in
    c.data_at-at.ensures
    ∙ (let low : 8192 * nseg c.args.program.now.text_clicks % 65536
    ≡ 8192 * nseg c.args.program.now.text_clicks = omega (arith, few) in low)

-- what has been read
read_is : (g : given.Over) (c : After-read_at g) (text : List ℕ) → g.S.Space.image c.args.space.now
    ≡ cleared_image text c.args.program.now.plan
    → ◌≡◌ {A = Moving Image}
    (read_file (put_into c.data_at-at.result) (node_in c.args.nodes.now.store c.args.program.now.ino) (room_at c.args.nodes.now.store c.args.program.now.ino)
    (g.S.Space.image c.args.space.now) (16 + c.from.result) c.args.program.now.plan.init c.args.now)
    (data_in c.args.nodes.now.store text c.args.program.now c.args.now)
read_is g c text is =
    let store : Stores = c.args.nodes.now.store in
    let program : Program = c.args.program.now in
    (λ i. read_file (put_into (at_is g c i)) (node_in store program.ino) (room_at store program.ino) (is i)
    (16 + c.from.ensures i) program.plan.init c.args.now)

moved_is : (g : given.Over) (c : After-read_at g) → g.S.Space.image c.read_at.new.space
    ≡ (read_file (put_into c.data_at-at.result) (node_in c.args.nodes.now.store c.args.program.now.ino)
    (room_at c.args.nodes.now.store c.args.program.now.ino)
    (g.S.Space.image c.args.space.now) (16 + c.from.result) c.args.program.now.plan.init c.args.now).memory
moved_is g c =
    let program : Program = c.args.program.now in
    (c.read_at.ensures.moved (node_in c.args.nodes.now.store program.ino)
    (node_there c.args.nodes.now.store program.ino (c.see.ensures.used program.ino c.requires.referenced))).memory

pub put_stack-requires : goal.put_stack-requires
put_stack-requires g c =
    let at = (goal.at.put_stack-requires g c).After-read_at in
    ap (λ (m : Image). m.stack)
    (moved_is g at ∙ ap (λ (m : Moving Image). m.memory) (read_is g at c.requires.cleared.0 c.requires.cleared.2))
    ∙ stack_stays c.args.nodes.now.store c.requires.cleared.0 c.args.program.now c.args.now c.requires.cleared.1 c.requires.fits

pub returns-clause-image : goal.returns-clause-image
returns-clause-image g c = λ text is.
    let at = (goal.at.returns-clause-image g c).After-read_at in
    c.put_stack.ensures.image
    ∙ ap (λ (m : Image). record m { stack = first_stack c.args.program.now.arguments })
    (moved_is g at ∙ ap (λ (m : Moving Image). m.memory) (read_is g at text is))

pub returns-clause-store : goal.returns-clause-store
returns-clause-store g c = λ text is.
    let at = (goal.at.returns-clause-store g c).After-read_at in
    let store : Stores = c.args.nodes.now.store in
    let program : Program = c.args.program.now in
    (c.read_at.ensures.moved (node_in store program.ino)
    (node_there store program.ino (c.see.ensures.used program.ino c.requires.referenced))).store
    ∙ ap (λ (m : Moving Image). with_node store program.ino m.node m.room) (read_is g at text is)
