use Rattle.std.proofs.Common.{◌≡◌, ℕ, cond, List, length, Option, Some, None, IfSome, take, reverse, sym, ap, ◌∙◌, subst, arith}
use Rattle.std.specs.Option.{is_some}
use Rattle.fs_codec.specs.Store.{Store}
use Rattle.fs_codec.specs.declared.super_block.SuperBlock.{SuperBlock}
use Rattle.fs_laws.specs.Numbers.{Draw, drawn, refill}
use Rattle.fs_blocks.proofs.VolumeLemmas.{good_volume}
use Rattle.fs_blocks.specs.State.{State}
use Rattle.fs_nodes.specs.one_disk.FileSystem.{store_now}
use Rattle.fs_nodes.specs.one_disk.Table.{seen}
use Rattle.fs_nodes.specs.one_disk.Numbers.{refers_to, drawn_list, drawn_from, emptied}
use Rattle.fs_nodes.proofs.SeenLemmas.{volume_seen}
use Rattle.fs_nodes.proofs.HeldLemmas.{over}
use Rattle.fs_nodes.proofs.NumbersLemmas.{now_spare, draw_one, draw_two, drawn_first, second_number, none_drawn}
use Rattle.fs_blocks.proofs.LateLemmas.{late_again}
use Rattle.fs_nodes.proofs.ReadLemmas.{late_still}
use Rattle.fs_nodes.proofs.one_disk.numbers.draw_number.Goals as goal
use Rattle.fs_nodes.proofs.one_disk.numbers.draw_number.Goals.{After-draw_from, After-draw_from-2}

pub shared_ref_as_front-list : goal.shared_ref_as_front-list
shared_ref_as_front-list c =
    let g = (good_volume _ _ c.see.ensures.sound).ninode in
    let e : c.head.result.now.ninode ≡ c.args.volume.now.state.head.ninode = ap (λ (h : SuperBlock). h.ninode) c.head.ensures.head in omega (arith, g, e)

-- the list is that of the store
list_is : (c : After-draw_from) → (store_now (seen c.args.volume.now.state c.args.table.now)).spare ≡ take c.head.result.now.ninode c.head.result.now.inode
list_is c = now_spare (seen c.args.volume.now.state c.args.table.now) (volume_seen c.args.volume.now.state c.args.table.now (over c.args.volume.now.state c.args.table.now c.requires)) ∙ sym (ap (λ (h : SuperBlock). take h.ninode h.inode) c.head.ensures.head)

was_drawn : (c : After-draw_from) (o : Option ℕ) → c.draw_from.result ≡ o → is_some (drawn (store_now (seen c.args.volume.now.state c.args.table.now)) (reverse (store_now (seen c.args.volume.now.state c.args.table.now)).spare)).number ≡ is_some o
was_drawn c o is = ap (λ l. is_some (drawn (store_now (seen c.args.volume.now.state c.args.table.now)) (reverse l)).number) (list_is c) ∙ ap is_some (sym c.draw_from.ensures.number ∙ is)

pub returns-in-Some-clause-number : goal.returns-in-Some-clause-number
returns-in-Some-clause-number c =
    let b = (goal.at.returns-in-Some-clause-number c).After-draw_from in
    let s : Store = store_now (seen c.args.volume.now.state c.args.table.now) in
    sym c.in-Some.is ∙ c.draw_from.ensures.number ∙ ap (λ l. (drawn s (reverse l)).number) (sym (list_is b))
    ∙ sym (ap (λ (d : Draw). d.number) (drawn_first s (refers_to c.args.table.now) (was_drawn b (Some c.in-Some.ino) c.in-Some.is)))

pub returns-in-Some-clause-store : goal.returns-in-Some-clause-store
returns-in-Some-clause-store c =
    let b = (goal.at.returns-in-Some-clause-store c).After-draw_from in
    let s : Store = store_now (seen c.args.volume.now.state c.args.table.now) in
    c.draw_from.ensures.store ∙ ap (drawn_from s) (sym (list_is b)) ∙ draw_one s (refers_to c.args.table.now) (was_drawn b (Some c.in-Some.ino) c.in-Some.is)

-- where none was drawn
kept : (c : After-draw_from) → c.draw_from.result ≡ None → store_now (seen c.draw_from.new.volume.state c.args.table.now) ≡ store_now (seen c.args.volume.now.state c.args.table.now)
kept c is = c.draw_from.ensures.store ∙ none_drawn (store_now (seen c.args.volume.now.state c.args.table.now)) (take c.head.result.now.ninode c.head.result.now.inode) (ap is_some (sym c.draw_from.ensures.number ∙ is))

pub empty_list-requires-clause-list : goal.empty_list-requires-clause-list
empty_list-requires-clause-list c =
    let b = (goal.at.empty_list-requires-clause-list c).After-draw_from in
    ap (λ (s : Store). s.spare) (kept b c.in_default.is) ∙ list_is b

now_empty : (c : After-draw_from-2) → store_now (seen c.refill-found.new.volume.state c.args.table.now) ≡ emptied (store_now (seen c.args.volume.now.state c.args.table.now))
now_empty c =
    let b = (goal.at.returns-clause-store c).After-draw_from in
    ap (λ (v : State). store_now (seen v c.args.table.now)) c.refill-found.ensures.same ∙ c.empty_list.ensures.store ∙ ap emptied (kept b c.in_default.is)

found : (c : After-draw_from-2) → c.deref.result.now ≡ refill (store_now (seen c.args.volume.now.state c.args.table.now)) (refers_to c.args.table.now)
found c =
    c.deref.ensures.0 ∙ c.refill-found.ensures.found ∙ ap (λ s. refill s (refers_to c.args.table.now)) (ap (λ (v : State). store_now (seen v c.args.table.now)) (sym c.refill-found.ensures.same) ∙ now_empty c)

pub returns-clause-number : goal.returns-clause-number
returns-clause-number c =
    let b = (goal.at.returns-clause-number c).After-draw_from in
    let s : Store = store_now (seen c.args.volume.now.state c.args.table.now) in
    c.draw_from-2.ensures.number ∙ ap (λ t. (drawn t (reverse c.deref.result.now)).number) (now_empty c) ∙ ap (λ l. (drawn (emptied s) (reverse l)).number) (found c)
    ∙ second_number s (refers_to c.args.table.now) (was_drawn b None c.in_default.is)

pub returns-clause-store : goal.returns-clause-store
returns-clause-store c =
    let b = (goal.at.returns-clause-store c).After-draw_from in
    let s : Store = store_now (seen c.args.volume.now.state c.args.table.now) in
    c.draw_from-2.ensures.store ∙ ap (λ t. drawn_from t c.deref.result.now) (now_empty c) ∙ ap (drawn_from (emptied s)) (found c)
    ∙ draw_two s (refers_to c.args.table.now) (was_drawn b None c.in_default.is)

pub returns-in-Some-clause-words : goal.returns-in-Some-clause-words
returns-in-Some-clause-words c =
    let b = (goal.at.returns-in-Some-clause-words c).After-draw_from in
    let s : Store = store_now (seen c.args.volume.now.state c.args.table.now) in
    let is = sym (list_is b) ∙ sym (ap (λ t. cond t s.spare (refill s (refers_to c.args.table.now))) (was_drawn b (Some c.in-Some.ino) c.in-Some.is)) in
    let P : List ℕ → Type 0 = λ l. take (length l) c.draw_from.new.volume.state.head.inode ≡ l in
    subst P is c.in-Some.ensures.words

pub returns-clause-words : goal.returns-clause-words
returns-clause-words c =
    let b = (goal.at.returns-clause-words c).After-draw_from in
    let s : Store = store_now (seen c.args.volume.now.state c.args.table.now) in
    let is : c.deref.result.now ≡ drawn_list s (refers_to c.args.table.now) =
    found c ∙ sym (ap (λ t. cond t s.spare (refill s (refers_to c.args.table.now))) (was_drawn b None c.in_default.is)) in
    let P : List ℕ → Type 0 = λ l. IfSome c.draw_from-2.result (λ _. take (length l) c.draw_from-2.new.volume.state.head.inode ≡ l) in
    subst P is c.draw_from-2.ensures.words

pub returns-in-Some-clause-stored : goal.returns-in-Some-clause-stored
returns-in-Some-clause-stored c = c.draw_from.ensures.stored

pub returns-clause-stored : goal.returns-clause-stored
returns-clause-stored c =
    let emptied_blocks = c.empty_list.ensures.blocks ∙ c.draw_from.ensures.blocks in
    let emptied_late = late_still c.args.volume.now c.draw_from.new.volume c.empty_list.new.volume c.empty_list.ensures.stored c.draw_from.ensures.stored in
    let filled_late = late_again _ _ _ _ _ emptied_blocks emptied_late c.refill-found.ensures.stored in
    late_again _ _ _ _ _ (ap (λ (v : State). v.blocks) c.refill-found.ensures.same ∙ emptied_blocks) filled_late c.draw_from-2.ensures.stored
