use Rattle.std.proofs.Common.{◌≡◌, ◌∙◌, ℕ, List, sym, ap, subst, None, is_some, count_by}
use Rattle.fs_codec.specs.Disk.{disk_of}
use Rattle.fs_codec.specs.Faults.{image_fault}
use Rattle.fs_codec.specs.Stands.{store_of}
use Rattle.buf_cache.specs.Blocks.{IsDisk}
use Rattle.fs_nodes.specs.Disks.{Disks}
use Rattle.abstract_unix.specs.Unix.{System}
use Rattle.v6_run.proofs.FinalLemmas.{text_good, text_nodes, text_room}
use Rattle.v6_run.proofs.demo.final_tally.Goals as goal

pub put_blocks-requires-clause-form : goal.put_blocks-requires-clause-form
put_blocks-requires-clause-form c = subst (λ (d : Disks (List (List ℕ))). IsDisk d.root) (sym c.finish.ensures.stored) c.finish.ensures.form

pub tally-requires : goal.tally-requires
tally-requires c =
    let stored = c.finish.new.self.stored.root in
    let form = subst (λ (d : Disks (List (List ℕ))). IsDisk d.root) (sym c.finish.ensures.stored) c.finish.ensures.form in
    subst (λ l. image_fault l ≡ None) (sym c.put_blocks.ensures) (text_good stored form _ (c.finish.ensures.below c.requires.root))

pub returns-clause-nodes : goal.returns-clause-nodes
returns-clause-nodes c =
    let stored = c.finish.new.self.stored.root in
    let form = subst (λ (d : Disks (List (List ℕ))). IsDisk d.root) (sym c.finish.ensures.stored) c.finish.ensures.form in
    c.tally.ensures.nodes ∙ ap (λ l. count_by is_some (store_of (disk_of l)).nodes) c.put_blocks.ensures
    ∙ text_nodes stored form _ (c.finish.ensures.below c.requires.root) ∙ ap (λ (m : System). count_by is_some m.unix.store.root.nodes) c.finish.ensures.system

pub returns-clause-free : goal.returns-clause-free
returns-clause-free c =
    let stored = c.finish.new.self.stored.root in
    let form = subst (λ (d : Disks (List (List ℕ))). IsDisk d.root) (sym c.finish.ensures.stored) c.finish.ensures.form in
    c.tally.ensures.free ∙ ap (λ l. (store_of (disk_of l)).room) c.put_blocks.ensures
    ∙ text_room stored form _ (c.finish.ensures.below c.requires.root) ∙ ap (λ (m : System). m.unix.store.root.room) c.finish.ensures.system
