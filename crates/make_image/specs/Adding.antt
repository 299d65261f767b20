-- How the bytes of the inodes and of the contents grow, node by node.
use Rattle.std.specs.Prelude.{◌≡◌, ◌+◌, ◌*◌, ◌/◌, ◌≤◌, List, ◌++◌, length}
use Rattle.fs_codec.specs.declared.layout.TheConstants.{BLOCK_SIZE, INODE_SIZE}
use Rattle.make_image.specs.declared.files.TheConstants.{FIRST_BLOCK}
use Rattle.make_image.specs.declared.files.Files.{Files}
use Rattle.fs_codec.specs.Bytes.{inode_bytes}
use Rattle.make_image.specs.Padded.{padded}
use Rattle.make_image.specs.Files.{Node}
use Rattle.make_image.specs.Image.{bytes_in, blocks_of, inode, inodes, contents}

-- a node is added, with the blocks that come next
pub record AddsNode (node : Node) (old new : Files) : Type 0 where
  pub inode : new.inodes.items ≡ old.inodes.items
      ++ inode_bytes (inode (FIRST_BLOCK + length old.contents.items / BLOCK_SIZE) node)
  pub content : new.contents.items ≡ old.contents.items ++ padded (BLOCK_SIZE * blocks_of node.content) (bytes_in node.content)
  pub one : length new.inodes.items ≡ length old.inodes.items + INODE_SIZE
  pub small : length new.contents.items ≤ length old.contents.items + 4096

-- the files are these nodes
pub record Holds (nodes : List Node) (files : Files) : Type 0 where
  pub inodes : files.inodes.items ≡ inodes FIRST_BLOCK nodes
  pub contents : files.contents.items ≡ contents nodes
