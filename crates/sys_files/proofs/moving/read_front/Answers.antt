use Rattle.std.proofs.Common.{◌∙◌, ◌++◌, ◌∷◌, ◌+◌, [], ℕ, length, sym, ap, arith}
use Rattle.std.proofs.lemmas.List.{length-append, length-set, take_more_set}
use Rattle.std.proofs.Math.Seq.{take-length}
use Rattle.fs_tree.specs.Name.{readable}
use Rattle.sys_files.proofs.ShowingLemmas.{readable_none, readable_more, readable_stops, loaded_readable}
use Rattle.sys_files.proofs.moving.read_front.Goals as goal

pub returns-then-copy_in-clause-front : goal.returns-then-copy_in-clause-front
returns-then-copy_in-clause-front g c =
    let m = g.S.Space.image c.args.space.now in
    take-length c.copy_in.new.into ∙ sym (loaded_readable m c.args.at (length c.args.into.now) c.copy_in.new.into (omega arith) (c.copy_in.ensures.done c.if-copy_in.true))

pub loop-i-init : goal.loop-i-init
loop-i-init g c =
    let m = g.S.Space.image c.args.space.now in
    let none = readable_none m c.args.at in
    record { size = c.copy_in.ensures.long; whole = ap length none; front = sym none }

pub loop-i-preserved : goal.loop-i-preserved
loop-i-preserved g c =
    let m = g.S.Space.image c.args.space.now in
    let i : ℕ = c.loop-i.i in
    let byte : ℕ = c.in-Ok.byte in
    let size = c.loop-i.invariant.size in
    let h = c.loop-i-test.true in
    let next = readable_more m c.args.at i byte (omega arith) c.loop-i.invariant.whole c.in-Ok.ensures in
    record {
      size = length-set c.loop-i.into i byte ∙ size;
      whole = ap length next ∙ length-append (readable m c.args.at i) (byte ∷ []) ∙ ap (λ n. n + 1) c.loop-i.invariant.whole;
      front = take_more_set c.loop-i.into i byte (omega (arith, h, size)) ∙ ap (λ l. l ++ byte ∷ []) c.loop-i.invariant.front ∙ sym next;
    }

pub returns-in-Err-clause-front : goal.returns-in-Err-clause-front
returns-in-Err-clause-front g c =
    let m = g.S.Space.image c.args.space.now in
    let size = c.loop-i.invariant.size in
    let h = c.loop-i-test.true in
    c.loop-i.invariant.front ∙ sym (readable_stops m c.args.at c.loop-i.i (length c.args.into.now) c.in-Err.field-0 (omega arith) c.loop-i.invariant.whole (omega (arith, h, size)) c.in-Err.ensures)
