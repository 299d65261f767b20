-- The link is pushed, and then the registers are set.
use Rattle.std.proofs.Common.{◌≡◌, ℕ, Result, refl, sym, ap, ◌∙◌, ◌%◌}
use Rattle.v6_base.specs.declared.space.Trap.{Trap}
use Rattle.v6_base.specs.Image.{Image}
use Rattle.v6_base.specs.Access.{store_word, image_after, answer_of}
use Rattle.pdp_decode.specs.Decode.{reg_of}
use Rattle.pdp_decode.specs.declared.instr.Reg.TheVariants.{Sp, Pc}
use Rattle.pdp_step.specs.Registers.{minus}
use Rattle.pdp_step.specs.Machine.{Machine, reg_in, with_reg}
use Rattle.pdp_step.proofs.PcRows.{link_done, link_stopped}
use Rattle.pdp_step.proofs.transfers.push_link.Goals as goal

pub returns-in-Ok-clause-row : goal.returns-in-Ok-clause-row
unfolding reg_of
returns-in-Ok-clause-row g c =
    let old = g.P.Processor.machine c.args.p.now in
    let sp = minus c.reg-sp.result 2 in
    let n = reg_of (c.args.n % 8) in
    let sp_is : sp ≡ minus (reg_in old Sp) 2 = ap (λ (x : ℕ). minus x 2) c.reg-sp.ensures in
    let link_is = c.reg-link.ensures ∙ ap (λ (x : Machine). reg_in x n) c.set_pc.ensures.machine in
    let down = c.set_reg.ensures.machine ∙ ap (λ (x : Machine). with_reg x Sp sp) c.set_pc.ensures.machine in
    let image : (g.P.Processor.machine c.set_reg.new.self).image ≡ old.image = ap (λ (x : Machine). x.image) down in
    let where_ = ap (λ (x : g.P.Processor.Rest). g.P.Processor.address x c.args.place) (c.set_reg.ensures.rest ∙ c.set_pc.ensures.rest) ∙ (c.requires.top ∙ sym sp_is) in
    let first = store_word (g.P.Processor.machine c.set_reg.new.self).image (g.P.Processor.address (g.P.Processor.rest c.set_reg.new.self) c.args.place) c.reg-link.result in
    let stores : first ≡ store_word old.image sp c.reg-link.result = ap (λ (x : Image). store_word x (g.P.Processor.address (g.P.Processor.rest c.set_reg.new.self) c.args.place) c.reg-link.result) image ∙ ap (λ (x : ℕ). store_word old.image x c.reg-link.result) where_ in
    let after : image_after (g.P.Processor.machine c.set_reg.new.self).image first ≡ image_after old.image (store_word old.image sp c.reg-link.result) = ap (λ (x : Image). image_after x first) image ∙ ap (λ (x : Result Image Trap). image_after old.image x) stores in
    let mid = c.store_word.ensures.machine ∙ (ap (λ (x : Image). record (g.P.Processor.machine c.set_reg.new.self) { image = x }) after ∙ ap (λ (x : Machine). record x { image = image_after old.image (store_word old.image sp c.reg-link.result) }) down) in
    let answers = sym (ap answer_of stores) ∙ (sym c.store_word.ensures.answer ∙ c.in-Ok.is) in
    let last = c.set_reg-in-Ok-2.ensures.machine ∙ ap (λ (x : Machine). with_reg x Pc c.args.at) (c.set_reg-in-Ok.ensures.machine ∙ ap (λ (x : ℕ). with_reg (g.P.Processor.machine c.store_word.new.self) n x) c.low_word.ensures) in
    link_done old (g.P.Processor.machine c.store_word.new.self) (g.P.Processor.machine c.set_reg-in-Ok-2.new.self) c.args.pc sp c.reg-link.result c.args.at n (store_word old.image sp c.reg-link.result) (g.met.P.Processor.eight c.args.p.now) sp_is link_is refl answers mid last

pub returns-in-Err-clause-row : goal.returns-in-Err-clause-row
unfolding reg_of
returns-in-Err-clause-row g c =
    let old = g.P.Processor.machine c.args.p.now in
    let sp = minus c.reg-sp.result 2 in
    let n = reg_of (c.args.n % 8) in
    let sp_is : sp ≡ minus (reg_in old Sp) 2 = ap (λ (x : ℕ). minus x 2) c.reg-sp.ensures in
    let link_is = c.reg-link.ensures ∙ ap (λ (x : Machine). reg_in x n) c.set_pc.ensures.machine in
    let down = c.set_reg.ensures.machine ∙ ap (λ (x : Machine). with_reg x Sp sp) c.set_pc.ensures.machine in
    let image : (g.P.Processor.machine c.set_reg.new.self).image ≡ old.image = ap (λ (x : Machine). x.image) down in
    let where_ = ap (λ (x : g.P.Processor.Rest). g.P.Processor.address x c.args.place) (c.set_reg.ensures.rest ∙ c.set_pc.ensures.rest) ∙ (c.requires.top ∙ sym sp_is) in
    let first = store_word (g.P.Processor.machine c.set_reg.new.self).image (g.P.Processor.address (g.P.Processor.rest c.set_reg.new.self) c.args.place) c.reg-link.result in
    let stores : first ≡ store_word old.image sp c.reg-link.result = ap (λ (x : Image). store_word x (g.P.Processor.address (g.P.Processor.rest c.set_reg.new.self) c.args.place) c.reg-link.result) image ∙ ap (λ (x : ℕ). store_word old.image x c.reg-link.result) where_ in
    let after : image_after (g.P.Processor.machine c.set_reg.new.self).image first ≡ image_after old.image (store_word old.image sp c.reg-link.result) = ap (λ (x : Image). image_after x first) image ∙ ap (λ (x : Result Image Trap). image_after old.image x) stores in
    let mid = c.store_word.ensures.machine ∙ (ap (λ (x : Image). record (g.P.Processor.machine c.set_reg.new.self) { image = x }) after ∙ ap (λ (x : Machine). record x { image = image_after old.image (store_word old.image sp c.reg-link.result) }) down) in
    let answers = sym (ap answer_of stores) ∙ (sym c.store_word.ensures.answer ∙ c.in-Err.is) in
    link_stopped old (g.P.Processor.machine c.store_word.new.self) c.args.pc sp c.reg-link.result c.args.at n c.in-Err.trap (store_word old.image sp c.reg-link.result) (g.met.P.Processor.eight c.args.p.now) sp_is link_is refl answers mid
