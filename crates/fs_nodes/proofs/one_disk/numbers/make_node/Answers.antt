use Rattle.std.proofs.Common.{◌≡◌, ◌<◌, ◌≤◌, inl, inr, ℕ, nat_lt, List, slice_set, slice_index, Option, Some, IsSome, refl, sym, ap, ◌∙◌, subst, arith, length}
use Rattle.std.proofs.lemmas.Bool.Decides.{nat_tests}
use Rattle.fs_codec.specs.Disk.{inode_count}
use Rattle.fs_laws.specs.Numbers.{Draw, with_draw}
use Rattle.fs_laws.proofs.NumbersNew.{new_inode}
use Rattle.fs_blocks.specs.State.{disk}
use Rattle.fs_nodes.specs.declared.one_disk.table.Referenced.{Referenced}
use Rattle.fs_nodes.specs.one_disk.FileSystem.{store_now}
use Rattle.fs_nodes.specs.one_disk.Table.{references_in, file_system, seen}
use Rattle.fs_nodes.specs.one_disk.Numbers.{next_draw}
use Rattle.fs_nodes.proofs.TableLemmas.{referenced_is}
use Rattle.fs_nodes.proofs.SeenLemmas.{volume_seen}
use Rattle.fs_nodes.proofs.HeldLemmas.{over}
use Rattle.fs_nodes.proofs.NumbersMake.{same_rest, same_draw, draw_free, free_is, still_free, no_entry_free, drawn_references, IsFree, new_written, new_store}
use Rattle.fs_nodes.proofs.NewLate.{Drew, EntersLate, enters_late}
use Rattle.fs_nodes.proofs.one_disk.numbers.make_node.Goals as goal
use Rattle.fs_nodes.proofs.one_disk.numbers.make_node.Goals.{After-see, After-push}

drew : (c : After-see) → Drew c.args.volume.now.state c.draw_number-number.new.volume.state c.args.table.now.items c.draw_number-number.result
drew c =
    let e = c.draw_number-number.ensures in
    let P : List Referenced → Type 0 = λ l. Drew c.args.volume.now.state c.draw_number-number.new.volume.state l c.draw_number-number.result in
    subst P c.deref.ensures.0 (record { held = e.held; number = e.number; store = e.store; rest = e.rest })

drawn : (c : After-see) → c.draw_number-number.result ≡ (next_draw (file_system (seen c.args.volume.now.state c.args.table.now.items) c.args.table.now.items)).number
drawn c = (drew c).number ∙ ap (λ (d : Draw). d.number) (same_draw (disk (seen c.args.volume.now.state c.args.table.now.items)) c.args.table.now.items (store_now (seen c.args.volume.now.state c.args.table.now.items)) c.requires.nodes.table)

stored : (c : After-see) → store_now (seen c.draw_number-number.new.volume.state c.args.table.now.items) ≡ with_draw (store_now (seen c.args.volume.now.state c.args.table.now.items)) (next_draw (file_system (seen c.args.volume.now.state c.args.table.now.items) c.args.table.now.items))
stored c = (drew c).store ∙ ap (with_draw (store_now (seen c.args.volume.now.state c.args.table.now.items))) (same_draw (disk (seen c.args.volume.now.state c.args.table.now.items)) c.args.table.now.items (store_now (seen c.args.volume.now.state c.args.table.now.items)) c.requires.nodes.table)

references : (c : After-see) → references_in (inode_count (disk (seen c.draw_number-number.new.volume.state c.args.table.now.items))) c.args.table.now.items ≡ references_in (inode_count (disk (seen c.args.volume.now.state c.args.table.now.items))) c.args.table.now.items
references c = let d = drew c in drawn_references (seen c.args.volume.now.state c.args.table.now.items) (seen c.draw_number-number.new.volume.state c.args.table.now.items) c.args.table.now.items c.requires.nodes d.rest (volume_seen c.draw_number-number.new.volume.state c.args.table.now.items (over c.draw_number-number.new.volume.state c.args.table.now.items d.held))

free_now : (c : After-see) (i : ℕ) → c.draw_number-number.result ≡ Some i → IsFree (seen c.draw_number-number.new.volume.state c.args.table.now.items) i
free_now c i is =
    let d = drew c in
    still_free (seen c.args.volume.now.state c.args.table.now.items) (seen c.draw_number-number.new.volume.state c.args.table.now.items) c.args.table.now.items i c.requires.nodes d.rest (volume_seen c.draw_number-number.new.volume.state c.args.table.now.items (over c.draw_number-number.new.volume.state c.args.table.now.items d.held))
    (free_is (seen c.args.volume.now.state c.args.table.now.items) i (draw_free (store_now (seen c.args.volume.now.state c.args.table.now.items)) (λ j. nat_lt 0 (slice_index (references_in (inode_count (disk (seen c.args.volume.now.state c.args.table.now.items))) c.args.table.now.items) j)) i (sym (drawn c) ∙ is)))

pub returns-in-None-clause-held : goal.returns-in-None-clause-held
returns-in-None-clause-held c = (drew (goal.at.returns-in-None-clause-held c).After-see).held

pub returns-in-None-clause-outcome : goal.returns-in-None-clause-outcome
returns-in-None-clause-outcome c =
    let b = (goal.at.returns-in-None-clause-outcome c).After-see in
    record {
      why = inl (sym (drawn b) ∙ c.in-None.is, refl);
      store = stored b;
      references = references b;
      blocks = c.draw_number-number.ensures.blocks;
    }

pub returns-then-is_full-clause-held : goal.returns-then-is_full-clause-held
returns-then-is_full-clause-held c = (drew (goal.at.returns-then-is_full-clause-held c).After-see).held

pub returns-then-is_full-clause-outcome : goal.returns-then-is_full-clause-outcome
returns-then-is_full-clause-outcome c =
    let b = (goal.at.returns-then-is_full-clause-outcome c).After-see in
    let long : length c.args.table.now.items ≡ 100 = (let t = c.if-is_full.true in let s = c.is_full.ensures.value in grind (arith, nat_tests)) in
    let P : Option ℕ → Type 0 = IsSome in
    record {
      why = inr (subst P (sym (sym (drawn b) ∙ c.in-Some.is)) refl, referenced_is (disk (seen c.args.volume.now.state c.args.table.now.items)) c.args.table.now.items c.requires.nodes.table ∙ long, refl);
      store = stored b;
      references = references b;
      blocks = c.draw_number-number.ensures.blocks;
    }

enters : (c : After-push) → EntersLate c.draw_number-number.new.volume.state c.args.table.now.items c.push.new.self.items c.in-Some.ino (new_inode c.args.mode c.args.uid c.args.gid c.args.time)
enters c =
    let b = (goal.at.returns-clause-held c).After-see in
    let few : length c.args.table.now.items ≤ 100 = c.is_full.ensures.fits in
    let f = free_now b c.in-Some.ino c.in-Some.is in
    let d = drew b in
    enters_late c.draw_number-number.new.volume.state c.args.table.now.items c.push.new.self.items _ c.args.mode c.args.uid c.args.gid c.args.time c.push.ensures.items d.held f (no_entry_free (seen c.draw_number-number.new.volume.state c.args.table.now.items) c.args.table.now.items c.in-Some.ino d.held.nodes few f) refl refl refl refl

pub returns-clause-held : goal.returns-clause-held
returns-clause-held c = (enters c).held

pub returns-clause-outcome : goal.returns-clause-outcome
returns-clause-outcome c =
    let b = (goal.at.returns-clause-outcome c).After-see in
    let r = referenced_is (disk (seen c.args.volume.now.state c.args.table.now.items)) c.args.table.now.items c.requires.nodes.table in
    let few : length c.args.table.now.items < 100 = (let t = c.if-is_full.false in let s = c.is_full.ensures.value in let f : length c.args.table.now.items ≤ 100 = c.is_full.ensures.fits in grind (arith, nat_tests)) in
    let f = free_now b c.in-Some.ino c.in-Some.is in
    let t = enters c in
    let w = new_written (seen c.draw_number-number.new.volume.state c.args.table.now.items) (seen c.draw_number-number.new.volume.state c.push.new.self.items) c.args.table.now.items c.in-Some.ino c.args.mode c.args.uid c.args.gid c.args.time (drew b).held.nodes f t.wrote in
    record {
      number = sym (drawn b) ∙ c.in-Some.is;
      few = omega (arith, r, few);
      store = new_store (seen c.draw_number-number.new.volume.state c.args.table.now.items) (seen c.draw_number-number.new.volume.state c.push.new.self.items) c.in-Some.ino c.args.mode c.args.uid c.args.gid c.args.time (with_draw (store_now (seen c.args.volume.now.state c.args.table.now.items)) (next_draw (file_system (seen c.args.volume.now.state c.args.table.now.items) c.args.table.now.items))) (stored b) w;
      references = t.enters.references ∙ ap (λ l. slice_set l c.in-Some.ino 1) (references b);
    }

pub returns-in-None-clause-rest : goal.returns-in-None-clause-rest
returns-in-None-clause-rest c = same_rest _ _ c.draw_number-number.ensures.blocks

pub returns-then-is_full-clause-rest : goal.returns-then-is_full-clause-rest
returns-then-is_full-clause-rest c = same_rest _ _ c.draw_number-number.ensures.blocks

pub returns-clause-rest : goal.returns-clause-rest
returns-clause-rest c = same_rest _ _ c.draw_number-number.ensures.blocks

pub returns-in-None-clause-stored : goal.returns-in-None-clause-stored
returns-in-None-clause-stored c = c.draw_number-number.ensures.stored

pub returns-then-is_full-clause-stored : goal.returns-then-is_full-clause-stored
returns-then-is_full-clause-stored c = c.draw_number-number.ensures.stored

pub returns-clause-stored : goal.returns-clause-stored
returns-clause-stored c = c.draw_number-number.ensures.stored
