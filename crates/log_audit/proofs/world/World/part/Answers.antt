use Rattle.std.proofs.Common.{◌∙◌, sym, ap, [], arith}
use Rattle.log_audit.specs.declared.world.World.{World}
use Rattle.log_audit.specs.World.{board_of, less_loaded, less_used}
use Rattle.log_audit.specs.Sound.{entry_at}
use Rattle.log_audit.proofs.Shared.{HasEntry, has_entry}
use Rattle.log_audit.proofs.PartLemmas.{parted_in, parted_out, parted_whole, still_there, set_there, entry_used, entry_loaded}
use Rattle.log_audit.proofs.world.World.part.Goals as goal

pub part_in-requires-clause-small : goal.part_in-requires-clause-small
part_in-requires-clause-small c = let h : HasEntry c.args.self.now c.args.s c.args.k = has_entry c.args.self.now c.args.s c.args.k [] [] c.requires.whole.loose c.requires.slot c.requires.shared in h.small

pub part_in-requires-clause-used : goal.part_in-requires-clause-used
part_in-requires-clause-used c = entry_used c.args.self.now c.args.s c.args.k c.in-Some.text c.requires.whole c.requires.slot c.requires.shared (sym c.text_of.ensures ∙ c.in-Some.is)

pub part_in-requires-clause-loaded : goal.part_in-requires-clause-loaded
part_in-requires-clause-loaded c =
    entry_loaded c.args.self.now c.args.s c.args.k c.in-Some.text c.requires.whole c.requires.slot c.requires.shared (sym c.text_of.ensures ∙ c.in-Some.is)
    (sym c.is_in_core.ensures ∙ c.if-is_in_core.true)

pub give_gone-requires-clause-loose : goal.give_gone-requires-clause-loose
give_gone-requires-clause-loose c = ([], [], c.part_in.ensures.loose [] [] c.requires.whole.loose, omega arith)

pub give_gone-requires-clause-some : goal.give_gone-requires-clause-some
give_gone-requires-clause-some c =
    entry_loaded c.args.self.now c.args.s c.args.k c.in-Some.text c.requires.whole c.requires.slot c.requires.shared (sym c.text_of.ensures ∙ c.in-Some.is)
    (sym c.is_in_core.ensures ∙ c.if-is_in_core.true)

pub returns-then-is_in_core-clause-board : goal.returns-then-is_in_core-clause-board
returns-then-is_in_core-clause-board c =
    let h : HasEntry c.args.self.now c.args.s c.args.k = has_entry c.args.self.now c.args.s c.args.k [] [] c.requires.whole.loose c.requires.slot c.requires.shared in
    c.give_gone.ensures.board ∙ ap board_of c.part_in.ensures.same
    ∙ parted_in c.args.self.now c.args.s c.args.k c.in-Some.text c.requires.whole c.requires.user h.small (sym c.is_in_core.ensures ∙ c.if-is_in_core.true) c.requires.shared (sym c.text_of.ensures ∙ c.in-Some.is)

pub returns-then-is_in_core-clause-there : goal.returns-then-is_in_core-clause-there
returns-then-is_in_core-clause-there c =
    let h : HasEntry c.args.self.now c.args.s c.args.k = has_entry c.args.self.now c.args.s c.args.k [] [] c.requires.whole.loose c.requires.slot c.requires.shared in
    still_there c.part_in.new.self c.give_gone.new.self c.args.k c.give_gone.ensures.board
    (λ f. set_there c.args.self.now.texts c.args.k (less_used (less_loaded c.in-Some.text)) c.requires.whole.loose.texts h.small (ap (λ (w : World). entry_at w.texts c.args.k) (sym c.part_in.ensures.same) ∙ f))

pub returns-then-is_in_core-clause-whole : goal.returns-then-is_in_core-clause-whole
returns-then-is_in_core-clause-whole c =
    parted_whole c.args.self.now c.give_gone.new.self c.args.s c.args.k c.requires.whole c.requires.slot c.requires.user c.requires.shared
    (c.give_gone.ensures.table ∙ ap (λ (w : World). w.table) c.part_in.ensures.same)
    (c.give_gone.ensures.loose [] [] (c.part_in.ensures.loose [] [] c.requires.whole.loose))

pub part_out-requires-clause-small : goal.part_out-requires-clause-small
part_out-requires-clause-small c = let h : HasEntry c.args.self.now c.args.s c.args.k = has_entry c.args.self.now c.args.s c.args.k [] [] c.requires.whole.loose c.requires.slot c.requires.shared in h.small

pub part_out-requires-clause-used : goal.part_out-requires-clause-used
part_out-requires-clause-used c = entry_used c.args.self.now c.args.s c.args.k c.in-Some.text c.requires.whole c.requires.slot c.requires.shared (sym c.text_of.ensures ∙ c.in-Some.is)

pub returns-else-is_in_core-clause-board : goal.returns-else-is_in_core-clause-board
returns-else-is_in_core-clause-board c =
    ap board_of c.part_out.ensures.same
    ∙ parted_out c.args.self.now c.args.s c.args.k c.in-Some.text c.requires.user (sym c.is_in_core.ensures ∙ c.if-is_in_core.false) (sym c.text_of.ensures ∙ c.in-Some.is)

pub returns-else-is_in_core-clause-there : goal.returns-else-is_in_core-clause-there
returns-else-is_in_core-clause-there c =
    let h : HasEntry c.args.self.now c.args.s c.args.k = has_entry c.args.self.now c.args.s c.args.k [] [] c.requires.whole.loose c.requires.slot c.requires.shared in
    (λ f. set_there c.args.self.now.texts c.args.k (less_used c.in-Some.text) c.requires.whole.loose.texts h.small (ap (λ (w : World). entry_at w.texts c.args.k) (sym c.part_out.ensures.same) ∙ f))

pub returns-else-is_in_core-clause-whole : goal.returns-else-is_in_core-clause-whole
returns-else-is_in_core-clause-whole c =
    parted_whole c.args.self.now c.part_out.new.self c.args.s c.args.k c.requires.whole c.requires.slot c.requires.user c.requires.shared
    (ap (λ (w : World). w.table) c.part_out.ensures.same) (c.part_out.ensures.loose [] [] c.requires.whole.loose)
