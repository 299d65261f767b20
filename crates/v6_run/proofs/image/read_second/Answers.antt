use Rattle.std.proofs.Common.{◌≡◌, Some, ◌∙◌, sym, ap, take}
use Rattle.std.specs.Option.{option_map}
use Rattle.unix_core.specs.Boots.{second_fault_of}
use Rattle.v6_port.specs.Outside.{Tells}
use Rattle.v6_run.specs.declared.image.TheConstants.{IMAGE_LIMIT}
use Rattle.v6_run.proofs.OpenedLemmas.{given_and}
use Rattle.v6_run.proofs.ResultLemmas.{value_where_ok, match_where_ok}
use Rattle.v6_run.proofs.image.read_second.Goals as goal

pub returns-in-Some-clause-cause : goal.returns-in-Some-clause-cause
returns-in-Some-clause-cause g c =
    let old = g.H.Host.outside c.args.host.now in
    let image = c.args.image.now in
    let second = c.in_ok-second.second.items in
    let whole : Tells old → option_map (take IMAGE_LIMIT) (old.fixed.given c.args.name.now) ≡ Some second = value_where_ok _ _ _ c.in_ok-second.was c.read_file.ensures.bytes in
    let fault : second_fault_of image second ≡ Some c.in-Some.fault = ap (second_fault_of image) (sym c.deref.ensures.value) ∙ sym c.second_fault.ensures ∙ c.in-Some.is in (
      match_where_ok _ _ _ _ c.in_ok-second.was c.read_file.ensures.cause,
      λ told. given_and IMAGE_LIMIT (old.fixed.given c.args.name.now) second (λ l. second_fault_of image l ≡ Some c.in-Some.fault) (whole told) fault,
    )

pub returns-in-None-clause-good : goal.returns-in-None-clause-good
returns-in-None-clause-good g c = ap (second_fault_of c.args.image.now) (sym c.deref.ensures.value) ∙ sym c.second_fault.ensures ∙ c.in-None.is
