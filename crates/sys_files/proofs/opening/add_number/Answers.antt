use Rattle.std.proofs.Common.{◌≡◌, List, ℕ, MatchResult, slice_index, refl, sym, ap, ◌∙◌, subst}
use Rattle.v6_base.specs.declared.errno.Errno.TheVariants.{EBADF}
use Rattle.open_files.specs.Files.{opened, Drops}
use Rattle.sys_files.specs.Handed.{handed}
use Rattle.sys_files.proofs.AreaLemmas.{numbers_changed}
use Rattle.sys_files.proofs.OpeningLemmas.{opens_is, opens_not, undone}
use Rattle.sys_files.proofs.opening.add_number.Goals as goal

pub returns-then-can_open-clause-outcome : goal.returns-then-can_open-clause-outcome
returns-then-can_open-clause-outcome c =
    let a = c.in_ok-fd.ensures in (
      a.1,
      a.3,
      numbers_changed c.args.u.now _ _ ∙ ap (λ (l : List ℕ). record c.args.u.now { files = l }) a.4,
      λ row image. opens_is (handed c.args.f.now c.args.u.now row image) c.args.ino c.args.kind c.in_ok-fd.fd a.1 a.0 a.2 (sym (c.can_open.ensures (handed c.args.f.now c.args.u.now row image) refl) ∙ c.if-can_open.true),
    )

pub returns-clause-outcome : goal.returns-clause-outcome
returns-clause-outcome c =
    let a = c.in_ok-fd.ensures in
    let P : ℕ → Type 0 = λ fd. MatchResult c.drop_one.result
    (λ told. Drops c.add.new.self c.add.new.mine fd told c.drop_one.new.self c.drop_one.new.mine)
    (λ e. (e ≡ EBADF) × (slice_index c.add.new.mine fd ≡ 0) × (c.drop_one.new.self ≡ c.add.new.self) × (c.drop_one.new.mine ≡ c.add.new.mine)) in
    let back = undone c.args.f.now.table c.add.new.self c.drop_one.new.self c.args.u.now.files c.add.new.mine c.drop_one.new.mine (opened c.args.ino c.args.kind) c.in_ok-fd.fd c.drop_one.result refl a (subst P c.from.ensures c.drop_one.ensures) in (
      back.0,
      numbers_changed c.args.u.now _ _ ∙ ap (λ (l : List ℕ). record c.args.u.now { files = l }) back.1,
      λ row image. opens_not (handed c.args.f.now c.args.u.now row image) c.args.ino c.args.kind c.in_ok-fd.fd a.1 a.0 a.2 (sym (c.can_open.ensures (handed c.args.f.now c.args.u.now row image) refl) ∙ c.if-can_open.false),
    )
