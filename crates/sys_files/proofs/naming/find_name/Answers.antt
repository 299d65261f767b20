use Rattle.std.proofs.Common.{◌≡◌, ℕ, Bool, true, false, cond, Result, Ok, Err, refl, ap, ◌∙◌}
use Rattle.v6_base.specs.Access.{then_do}
use Rattle.v6_base.specs.declared.errno.Errno.{Errno}
use Rattle.v6_base.specs.declared.errno.Errno.TheVariants.{ENFILE}
use Rattle.fs_tree.specs.Path.{way, found}
use Rattle.fs_tree.specs.Finding.{Inodes, Finding, inodes_of, can_refer, with_reference, refused, finding}
use Rattle.fs_tree.proofs.NamingLemmas.{ends_at_node, ends_referred}
use Rattle.sys_files.proofs.naming.find_name.Goals as goal

-- A search changes no store.
searched : (n : Inodes) (r : Result ℕ Errno) → (finding n r).inodes.store ≡ n.store
searched n (Ok ino) = by (can_refer n ino) where
  by : (t : Bool)
      → (cond {A = Finding ℕ} t (record { answer = Ok ino; inodes = with_reference n ino }) (refused n ENFILE)).inodes.store
      ≡ n.store
  by true = refl
  by false = refl
searched n (Err e) = refl

pub returns-clause-store : goal.returns-clause-store
returns-clause-store g c =
    let n = inodes_of c.args.tree.now.nodes in
    ap (λ (m : Inodes). m.store) c.find.ensures.inodes
    ∙ searched n (then_do (way n.store c.args.tree.now.mounts c.user_of.result c.args.u.now.dir c.at.result)
    (found n.store c.args.tree.now.mounts))

pub returns-clause-node : goal.returns-clause-node
returns-clause-node g c =
    ends_at_node c.args.tree.now.nodes c.find.new.self.nodes c.args.tree.now.mounts c.user_of.result c.args.u.now.dir
    c.at.result
    c.find.result c.see.ensures c.requires.mounts c.requires.directory c.find.ensures.answer c.find.ensures.inodes

pub returns-clause-referred : goal.returns-clause-referred
returns-clause-referred g c =
    ends_referred c.args.tree.now.nodes c.find.new.self.nodes c.args.tree.now.mounts c.user_of.result c.args.u.now.dir
    c.at.result
    c.find.result c.see.ensures c.requires.mounts c.requires.directory c.find.ensures.answer c.find.ensures.inodes
