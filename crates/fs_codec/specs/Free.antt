-- The list of free blocks: file system(V) of the UNIX Programmer's Manual. It goes in groups. The super-block says how many
-- numbers its group has, and has them after that; the last of them is taken first. The block that is taken as the last of
-- a group has the next group, with its count in front. A number 0 ends the list.
use Rattle.std.specs.Prelude.{ℕ, zero, suc, not, ◌+◌, ◌-◌, ◌*◌, ◌==◌, nat_lt, nat_eq, if◌then◌else◌, List, [], ◌∷◌, Option, Some, None}
use Rattle.std.specs.List.{list_any}
use Rattle.fs_codec.specs.Words.{word}
use Rattle.fs_codec.specs.Disk.{Disk, head, is_data}
use Rattle.fs_codec.specs.declared.layout.TheConstants.{LIST_SIZE}
use Rattle.fs_codec.specs.declared.fault.ImageFault.{ImageFault}
use Rattle.fs_codec.specs.declared.fault.ImageFault.TheVariants.{FreeCount, FreeOutside}

-- so many numbers are left of the group whose count is at this place
pub record Group : Type 0 where
  pub left : ℕ
  pub block : ℕ
  pub place : ℕ

-- the number that is taken next, or 0
abbrev pub top : Disk → Group → ℕ
top disk group = if group.left == 0 then 0 else word (disk group.block) (group.place + 2 * group.left)

abbrev pub group_in : Disk → ℕ → Group
group_in disk block = record { left = word (disk block) 0; block = block; place = 0 }

-- what is left once the next number, a block's, is taken
abbrev pub after : Disk → Group → Group
after disk group =
    if group.left == 1 then group_in disk (top disk group)
    else record { left = group.left - 1; block = group.block; place = group.place }

-- the blocks that a walk of the list lists, and the fault that ends it
pub record Walk : Type 0 where
  pub blocks : List ℕ
  pub fault : Option ImageFault

abbrev pub ended : Option ImageFault → Walk
ended fault = record { blocks = []; fault = fault }

abbrev pub listing : ℕ → Walk → Walk
listing block walk = record { blocks = block ∷ walk.blocks; fault = walk.fault }

-- A walk takes blocks as allocation does, until there is none, or a fault, or a block that it has met, which it lists again.
abbrev pub walk : ℕ → Disk → Group → List ℕ → Walk
walk zero disk group met = ended None
walk (suc most) disk group met =
    let block : ℕ = top disk group in
    if block == 0 then ended None else
    (if not (is_data disk block) then ended (Some (FreeOutside block)) else
    (listing block (if list_any (nat_eq block) met then ended None else
    (if nat_lt LIST_SIZE (after disk group).left then ended (Some (FreeCount block)) else
    walk most disk (after disk group) (block ∷ met)))))

-- It meets each data block once, and one of them again, so it has fewer steps than the file system has blocks.
unfoldable pub free_walk : Disk → Walk
free_walk disk = walk (head disk).f_size disk (record { left = (head disk).nfree; block = 1; place = 4 }) []
