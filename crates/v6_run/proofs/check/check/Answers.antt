use Rattle.std.proofs.Common.{◌≡◌, ◌∙◌, Some, None, ap, take, is_some, count_by}
use Rattle.std.specs.Option.{option_map}
use Rattle.v6_port.specs.Outside.{Tells}
use Rattle.fs_codec.specs.Disk.{disk_of}
use Rattle.fs_codec.specs.Faults.{image_fault}
use Rattle.fs_codec.specs.Stands.{store_of}
use Rattle.v6_run.specs.declared.image.TheConstants.{IMAGE_LIMIT}
use Rattle.v6_run.proofs.OpenedLemmas.{given_and}
use Rattle.v6_run.proofs.ResultLemmas.{value_where_ok, match_where_ok}
use Rattle.v6_run.proofs.CheckLemmas.{check_done, line_given, image_line_is}
use Rattle.v6_run.proofs.check.check.Goals as goal

pub returns-clause-answers : goal.returns-clause-answers
returns-clause-answers g c =
    let old = g.H.Host.outside c.args.host.now in
    let new = g.H.Host.outside c.read_image.new.host in
    let name = c.args.name.now in
    let read = c.read_image.ensures in
    let whole : Tells old → option_map (take IMAGE_LIMIT) (old.fixed.given name) ≡ Some c.in_ok-image.image.items = value_where_ok _ _ _ c.in_ok-image.was read.bytes in
    check_done name old new read.only (match_where_ok _ _ _ _ c.in_ok-image.was read.cause)
    (λ told. given_and IMAGE_LIMIT _ c.in_ok-image.image.items (λ l. image_fault l ≡ None) (whole told) (value_where_ok _ _ _ c.in_ok-image.was read.good))

pub returns-clause-line : goal.returns-clause-line
returns-clause-line g c =
    let old = g.H.Host.outside c.args.host.now in
    let name = c.args.name.now in
    let image = c.in_ok-image.image.items in
    let whole : Tells old → option_map (take IMAGE_LIMIT) (old.fixed.given name) ≡ Some image = value_where_ok _ _ _ c.in_ok-image.was c.read_image.ensures.bytes in
    let nodes : c.tally.result.nodes ≡ count_by is_some (store_of (disk_of image)).nodes = c.tally.ensures.nodes ∙ ap (λ l. count_by is_some (store_of (disk_of l)).nodes) c.deref.ensures.value in
    let free : c.tally.result.free ≡ (store_of (disk_of image)).room = c.tally.ensures.free ∙ ap (λ l. (store_of (disk_of l)).room) c.deref.ensures.value in
    λ told. image_line_is (old.fixed.given name) _ (line_given IMAGE_LIMIT c.tally.result.nodes c.tally.result.free _ image (whole told) nodes free)
