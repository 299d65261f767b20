use Rattle.file_rows.proofs.file_system.area.come_back.Goals as goal

pub fetch-requires : goal.fetch-requires
fetch-requires c = (c.args.u.now, c.stored-bytes.ensures.sized, c.stored-bytes.ensures.written)

pub returns : goal.returns
returns c = c.fetch.ensures.same c.args.u.now c.stored-bytes.ensures.sized c.stored-bytes.ensures.written
