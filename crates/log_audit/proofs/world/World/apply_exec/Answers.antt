use Rattle.std.proofs.Common.{◌∙◌, sym, ap, subst}
use Rattle.pick_rules.specs.Apply.{applied}
use Rattle.pick_rules.specs.Lawful.{IsOfExec}
use Rattle.log_audit.specs.World.{board_of}
use Rattle.log_audit.specs.Sound.{IsStripped, IsAfterExec}
use Rattle.log_audit.proofs.Owed.{OfText, OfShare, OfImage, ExecOwed, exec_owed}
use Rattle.log_audit.proofs.world.World.apply_exec.Goals as goal

pub make_text-requires-clause-stripped : goal.make_text-requires-clause-stripped
make_text-requires-clause-stripped c = let o : OfText c.args.self.now c.in-Text.slot c.in-Text.text c.in-Text.clicks c.in-Text.block = subst (ExecOwed c.args.self.now) c.in-Text.is (exec_owed c.args.self.now c.args.s c.args.e c.requires.stripped c.requires.of_exec c.requires.fits) in o.exec.stripped

pub make_text-requires-clause-bare : goal.make_text-requires-clause-bare
make_text-requires-clause-bare c = let o : OfText c.args.self.now c.in-Text.slot c.in-Text.text c.in-Text.clicks c.in-Text.block = subst (ExecOwed c.args.self.now) c.in-Text.is (exec_owed c.args.self.now c.args.s c.args.e c.requires.stripped c.requires.of_exec c.requires.fits) in o.exec.bare

pub make_text-requires-clause-plain : goal.make_text-requires-clause-plain
make_text-requires-clause-plain c = let o : OfText c.args.self.now c.in-Text.slot c.in-Text.text c.in-Text.clicks c.in-Text.block = subst (ExecOwed c.args.self.now) c.in-Text.is (exec_owed c.args.self.now c.args.s c.args.e c.requires.stripped c.requires.of_exec c.requires.fits) in o.plain

pub make_text-requires-clause-used : goal.make_text-requires-clause-used
make_text-requires-clause-used c = let o : OfText c.args.self.now c.in-Text.slot c.in-Text.text c.in-Text.clicks c.in-Text.block = subst (ExecOwed c.args.self.now) c.in-Text.is (exec_owed c.args.self.now c.args.s c.args.e c.requires.stripped c.requires.of_exec c.requires.fits) in o.exec.used

pub make_text-requires-clause-alive : goal.make_text-requires-clause-alive
make_text-requires-clause-alive c = let o : OfText c.args.self.now c.in-Text.slot c.in-Text.text c.in-Text.clicks c.in-Text.block = subst (ExecOwed c.args.self.now) c.in-Text.is (exec_owed c.args.self.now c.args.s c.args.e c.requires.stripped c.requires.of_exec c.requires.fits) in o.exec.alive

pub make_text-requires-clause-free : goal.make_text-requires-clause-free
make_text-requires-clause-free c = let o : OfText c.args.self.now c.in-Text.slot c.in-Text.text c.in-Text.clicks c.in-Text.block = subst (ExecOwed c.args.self.now) c.in-Text.is (exec_owed c.args.self.now c.args.s c.args.e c.requires.stripped c.requires.of_exec c.requires.fits) in o.free

pub make_text-requires-clause-some : goal.make_text-requires-clause-some
make_text-requires-clause-some c = let o : OfText c.args.self.now c.in-Text.slot c.in-Text.text c.in-Text.clicks c.in-Text.block = subst (ExecOwed c.args.self.now) c.in-Text.is (exec_owed c.args.self.now c.args.s c.args.e c.requires.stripped c.requires.of_exec c.requires.fits) in o.some

pub make_text-requires-clause-most : goal.make_text-requires-clause-most
make_text-requires-clause-most c = let o : OfText c.args.self.now c.in-Text.slot c.in-Text.text c.in-Text.clicks c.in-Text.block = subst (ExecOwed c.args.self.now) c.in-Text.is (exec_owed c.args.self.now c.args.s c.args.e c.requires.stripped c.requires.of_exec c.requires.fits) in o.most

pub make_text-requires-clause-fits : goal.make_text-requires-clause-fits
make_text-requires-clause-fits c = let o : OfText c.args.self.now c.in-Text.slot c.in-Text.text c.in-Text.clicks c.in-Text.block = subst (ExecOwed c.args.self.now) c.in-Text.is (exec_owed c.args.self.now c.args.s c.args.e c.requires.stripped c.requires.of_exec c.requires.fits) in o.found

pub returns-in-Text-clause-board : goal.returns-in-Text-clause-board
returns-in-Text-clause-board c = c.make_text.ensures.board ∙ ap (applied (board_of c.args.self.now)) (sym c.in-Text.is)

pub returns-in-Text-clause-after : goal.returns-in-Text-clause-after
returns-in-Text-clause-after c =
    subst (λ x. IsAfterExec c.args.s x c.make_text.new.self) (sym c.in-Text.is) (subst (IsStripped c.make_text.new.self) (subst (IsOfExec c.args.s) c.in-Text.is c.requires.of_exec) c.make_text.ensures.stripped)

pub share-requires-clause-stripped : goal.share-requires-clause-stripped
share-requires-clause-stripped c = let o : OfShare c.args.self.now c.in-Share.slot c.in-Share.text = subst (ExecOwed c.args.self.now) c.in-Share.is (exec_owed c.args.self.now c.args.s c.args.e c.requires.stripped c.requires.of_exec c.requires.fits) in o.exec.stripped

pub share-requires-clause-bare : goal.share-requires-clause-bare
share-requires-clause-bare c = let o : OfShare c.args.self.now c.in-Share.slot c.in-Share.text = subst (ExecOwed c.args.self.now) c.in-Share.is (exec_owed c.args.self.now c.args.s c.args.e c.requires.stripped c.requires.of_exec c.requires.fits) in o.exec.bare

pub share-requires-clause-plain : goal.share-requires-clause-plain
share-requires-clause-plain c = let o : OfShare c.args.self.now c.in-Share.slot c.in-Share.text = subst (ExecOwed c.args.self.now) c.in-Share.is (exec_owed c.args.self.now c.args.s c.args.e c.requires.stripped c.requires.of_exec c.requires.fits) in o.plain

pub share-requires-clause-used : goal.share-requires-clause-used
share-requires-clause-used c = let o : OfShare c.args.self.now c.in-Share.slot c.in-Share.text = subst (ExecOwed c.args.self.now) c.in-Share.is (exec_owed c.args.self.now c.args.s c.args.e c.requires.stripped c.requires.of_exec c.requires.fits) in o.exec.used

pub share-requires-clause-alive : goal.share-requires-clause-alive
share-requires-clause-alive c = let o : OfShare c.args.self.now c.in-Share.slot c.in-Share.text = subst (ExecOwed c.args.self.now) c.in-Share.is (exec_owed c.args.self.now c.args.s c.args.e c.requires.stripped c.requires.of_exec c.requires.fits) in o.exec.alive

pub share-requires-clause-there : goal.share-requires-clause-there
share-requires-clause-there c = let o : OfShare c.args.self.now c.in-Share.slot c.in-Share.text = subst (ExecOwed c.args.self.now) c.in-Share.is (exec_owed c.args.self.now c.args.s c.args.e c.requires.stripped c.requires.of_exec c.requires.fits) in o.there

pub returns-in-Share-clause-board : goal.returns-in-Share-clause-board
returns-in-Share-clause-board c = c.share.ensures.board ∙ ap (applied (board_of c.args.self.now)) (sym c.in-Share.is)

pub returns-in-Share-clause-after : goal.returns-in-Share-clause-after
returns-in-Share-clause-after c =
    subst (λ x. IsAfterExec c.args.s x c.share.new.self) (sym c.in-Share.is) (subst (IsStripped c.share.new.self) (subst (IsOfExec c.args.s) c.in-Share.is c.requires.of_exec) c.share.ensures.stripped)

pub image-requires-clause-stripped : goal.image-requires-clause-stripped
image-requires-clause-stripped c = let o : OfImage c.args.self.now c.in-Image.slot c.in-Image.clicks c.in-Image.place = subst (ExecOwed c.args.self.now) c.in-Image.is (exec_owed c.args.self.now c.args.s c.args.e c.requires.stripped c.requires.of_exec c.requires.fits) in o.exec.stripped

pub image-requires-clause-bare : goal.image-requires-clause-bare
image-requires-clause-bare c = let o : OfImage c.args.self.now c.in-Image.slot c.in-Image.clicks c.in-Image.place = subst (ExecOwed c.args.self.now) c.in-Image.is (exec_owed c.args.self.now c.args.s c.args.e c.requires.stripped c.requires.of_exec c.requires.fits) in o.exec.bare

pub image-requires-clause-used : goal.image-requires-clause-used
image-requires-clause-used c = let o : OfImage c.args.self.now c.in-Image.slot c.in-Image.clicks c.in-Image.place = subst (ExecOwed c.args.self.now) c.in-Image.is (exec_owed c.args.self.now c.args.s c.args.e c.requires.stripped c.requires.of_exec c.requires.fits) in o.exec.used

pub image-requires-clause-alive : goal.image-requires-clause-alive
image-requires-clause-alive c = let o : OfImage c.args.self.now c.in-Image.slot c.in-Image.clicks c.in-Image.place = subst (ExecOwed c.args.self.now) c.in-Image.is (exec_owed c.args.self.now c.args.s c.args.e c.requires.stripped c.requires.of_exec c.requires.fits) in o.exec.alive

pub image-requires-clause-some : goal.image-requires-clause-some
image-requires-clause-some c = let o : OfImage c.args.self.now c.in-Image.slot c.in-Image.clicks c.in-Image.place = subst (ExecOwed c.args.self.now) c.in-Image.is (exec_owed c.args.self.now c.args.s c.args.e c.requires.stripped c.requires.of_exec c.requires.fits) in o.some

pub image-requires-clause-most : goal.image-requires-clause-most
image-requires-clause-most c = let o : OfImage c.args.self.now c.in-Image.slot c.in-Image.clicks c.in-Image.place = subst (ExecOwed c.args.self.now) c.in-Image.is (exec_owed c.args.self.now c.args.s c.args.e c.requires.stripped c.requires.of_exec c.requires.fits) in o.most

pub image-requires-clause-found : goal.image-requires-clause-found
image-requires-clause-found c = let o : OfImage c.args.self.now c.in-Image.slot c.in-Image.clicks c.in-Image.place = subst (ExecOwed c.args.self.now) c.in-Image.is (exec_owed c.args.self.now c.args.s c.args.e c.requires.stripped c.requires.of_exec c.requires.fits) in o.found

pub returns-in-Image-clause-board : goal.returns-in-Image-clause-board
returns-in-Image-clause-board c = c.image.ensures.board ∙ ap (applied (board_of c.args.self.now)) (sym c.in-Image.is)

pub returns-in-Image-clause-after : goal.returns-in-Image-clause-after
returns-in-Image-clause-after c = subst (λ x. IsAfterExec c.args.s x c.image.new.self) (sym c.in-Image.is) c.image.ensures.whole

pub returns-in-Panic-clause-board : goal.returns-in-Panic-clause-board
unfolding applied
returns-in-Panic-clause-board c = ap (applied (board_of c.args.self.now)) (sym c.in-Panic.is)
