use Rattle.std.proofs.Common.{◌≡◌, Some, ◌∙◌, sym, ap, take}
use Rattle.std.specs.Option.{option_map}
use Rattle.fs_codec.specs.Faults.{image_fault}
use Rattle.v6_port.specs.Outside.{Tells}
use Rattle.v6_run.specs.declared.image.TheConstants.{IMAGE_LIMIT}
use Rattle.v6_run.proofs.OpenedLemmas.{given_and}
use Rattle.v6_run.proofs.ResultLemmas.{value_where_ok, match_where_ok}
use Rattle.v6_run.proofs.image.read_image.Goals as goal

pub returns-in-Err-clause-cause : goal.returns-in-Err-clause-cause
returns-in-Err-clause-cause g c =
    let old = g.H.Host.outside c.args.host.now in
    let image = c.in_ok-image.image.items in
    let whole : Tells old → option_map (take IMAGE_LIMIT) (old.fixed.given c.args.name.now) ≡ Some image = value_where_ok _ _ _ c.in_ok-image.was c.read_file.ensures.bytes in
    let fault : image_fault image ≡ Some c.in-Err.fault = ap image_fault (sym c.deref.ensures.value) ∙ c.in-Err.ensures in (
      match_where_ok _ _ _ _ c.in_ok-image.was c.read_file.ensures.cause,
      λ told. given_and IMAGE_LIMIT (old.fixed.given c.args.name.now) image (λ l. image_fault l ≡ Some c.in-Err.fault) (whole told) fault,
    )
