-- What no change of files changes stays the same over one change after another, on each disk.
use Rattle.std.proofs.Common.{List, ℕ, Option, Some, None}
use Rattle.fs_laws.specs.Rest.{SameAround}
use Rattle.fs_laws.proofs.RestLemmas as each_disk
use Rattle.fs_nodes.specs.Disks.{Disks, Between}
use Rattle.fs_nodes.specs.FileSystem.{SameAroundEach}

stays : (o : Option (List (List ℕ))) → Between SameAround o o
stays None = tt
stays (Some blocks) = each_disk.rest_stays blocks

pub rest_stays : (blocks : Disks (List (List ℕ))) → SameAroundEach blocks blocks
rest_stays blocks = record { root = each_disk.rest_stays blocks.root; second = stays blocks.second }

after : (a b c : Option (List (List ℕ))) → Between SameAround a b → Between SameAround b c → Between SameAround a c
after None None None first second = tt
after None None (Some z) first second = second
after None (Some y) c first second = absurd (first)
after (Some x) None c first second = absurd (first)
after (Some x) (Some y) None first second = second
after (Some x) (Some y) (Some z) first second = each_disk.rest_then x y z first second

pub rest_then : (a b c : Disks (List (List ℕ))) → SameAroundEach a b → SameAroundEach b c → SameAroundEach a c
rest_then a b c first second = record {
  root = each_disk.rest_then a.root b.root c.root first.root second.root;
  second = after a.second b.second c.second first.second second.second;
}
