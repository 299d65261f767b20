use Rattle.image_keep.proofs.StateOf.{kept_is}
use Rattle.image_keep.specs.Inside.{stock_in}
use Rattle.image_keep.proofs.Vacant.{room_is}
use Rattle.image_keep.proofs.images.Images.has_room.Goals as goal

pub returns : goal.returns
returns c = room_is (stock_in c.self.inside) c.args.self.now.kept c.args.clicks c.self.inside.core_map c.self.inside.swap_map c.is_room_in.result (kept_is c.self.view_is) c.self.invariant.sound c.self.invariant.maps c.is_room_in.ensures.some c.is_room_in.ensures.none
