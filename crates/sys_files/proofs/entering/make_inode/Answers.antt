use Rattle.std.proofs.Common.{◌≡◌, ◌≢◌, ◌<◌, ℕ, Result, Ok, Err, IfOk, IfErr, IsSome, MatchResult, slice_index, ap, ◌∙◌}
use Rattle.v6_base.specs.declared.errno.Errno.{Errno}
use Rattle.fs_nodes.specs.Keys.{counts}
use Rattle.fs_nodes.specs.FileSystem.{FileSystem, SameRest, IsFileSystem}
use Rattle.fs_nodes.specs.Numbers.{MakesNode, MakesNone, next_draw}
use Rattle.fs_nodes.proofs.CountLaws.{counts_drawn}
use Rattle.fs_nodes.proofs.MadeLemmas.{made_key}
use Rattle.sys_files.specs.Entering.{HasEntry, IsOnDisk, SameReferences, OneReferenceMore}
use Rattle.sys_files.proofs.EnteringLemmas.{new_takes, new_fresh, new_keeps_entry, none_keeps_entry}
use Rattle.sys_files.proofs.entering.make_inode.Goals as goal

module _ (fs new : FileSystem) (dev mode uid gid time : ℕ) (form : IsFileSystem fs) (small : dev < 2)
    (is_disk : dev ≢ 0 → IsSome fs.store.second) where
  abbrev Outcome : Result ℕ Errno → Type 0
  Outcome r = MatchResult r (λ i. MakesNode fs dev mode uid gid time i new) (λ e. MakesNone fs dev e new)

  takes : (r : Result ℕ Errno) → Outcome r → SameRest fs new → IfOk r (λ i. OneReferenceMore fs i new)
  takes (Ok i) made blocks = new_takes fs new form dev mode uid gid time small is_disk i blocks made
  takes (Err e) made blocks = tt

  fresh : (r : Result ℕ Errno) → Outcome r → IfOk r (λ i. slice_index fs.references i ≡ 0)
  fresh (Ok i) made = new_fresh fs new form dev mode uid gid time small is_disk i made
  fresh (Err e) made = tt

  disk : (r : Result ℕ Errno) → Outcome r → IfOk r (λ i. IsOnDisk (counts fs.store) dev i)
  disk (Ok i) made = (made_key fs new dev mode uid gid time i small is_disk made).disk
  disk (Err e) made = tt

  entries : (r : Result ℕ Errno) → Outcome r → (dir offset : ℕ) → HasEntry fs dir offset → HasEntry new dir offset
  entries (Ok i) made dir offset at = new_keeps_entry fs new form dev mode uid gid time small is_disk i dir offset made at
  entries (Err e) made dir offset at = none_keeps_entry fs new form dev mode uid gid time small is_disk dir offset e made at

  none : (r : Result ℕ Errno) → Outcome r → SameRest fs new → IfErr r (λ e. SameReferences fs new)
  none (Ok i) made blocks = tt
  none (Err e) made blocks = record {
    references = λ i. ap (λ l. slice_index l i) made.references;
    counts = ap counts made.store ∙ counts_drawn fs.store dev (next_draw fs dev);
    blocks = blocks;
  }

pub returns-clause-found : goal.returns-clause-found
returns-clause-found c =
    takes c.args.nodes.now c.new_node.new.self c.args.dev c.args.mode c.args.user.uid c.args.user.gid c.args.now c.see.ensures
    c.requires.device c.requires.there c.new_node.result c.new_node.ensures.outcome c.new_node.ensures.rest

pub returns-clause-fresh : goal.returns-clause-fresh
returns-clause-fresh c =
    fresh c.args.nodes.now c.new_node.new.self c.args.dev c.args.mode c.args.user.uid c.args.user.gid c.args.now c.see.ensures
    c.requires.device c.requires.there c.new_node.result c.new_node.ensures.outcome

pub returns-clause-disk : goal.returns-clause-disk
returns-clause-disk c =
    disk c.args.nodes.now c.new_node.new.self c.args.dev c.args.mode c.args.user.uid c.args.user.gid c.args.now c.see.ensures
    c.requires.device c.requires.there c.new_node.result c.new_node.ensures.outcome

pub returns-clause-entries : goal.returns-clause-entries
returns-clause-entries c =
    entries c.args.nodes.now c.new_node.new.self c.args.dev c.args.mode c.args.user.uid c.args.user.gid c.args.now c.see.ensures
    c.requires.device c.requires.there c.new_node.result c.new_node.ensures.outcome

pub returns-clause-none : goal.returns-clause-none
returns-clause-none c =
    none c.args.nodes.now c.new_node.new.self c.args.dev c.args.mode c.args.user.uid c.args.user.gid c.args.now c.see.ensures
    c.requires.device c.requires.there c.new_node.result c.new_node.ensures.outcome c.new_node.ensures.rest
