-- The super-block and the regions of the image.
use Rattle.std.proofs.Common.{◌≡◌, ◌+◌, ◌-◌, ◌*◌, ◌/◌, ℕ, List, [], ◌++◌, length, refl, ap, ◌∙◌}
use Rattle.std.specs.Prelude.{replicate}
use Rattle.fs_codec.specs.declared.super_block.SuperBlock.{SuperBlock}
use Rattle.make_image.specs.declared.files.Files.{Files}
use Rattle.fs_codec.specs.Bytes.{super_bytes}
use Rattle.make_image.specs.Padded.{padded}
use Rattle.make_image.specs.Files.{nodes}
use Rattle.make_image.specs.FreeList.{FreeList, freed_down}
use Rattle.make_image.specs.Image.{super_block, first_free, build_of}
use Rattle.make_image.specs.Adding.{Holds}

headed : ℕ → List ℕ → List ℕ → SuperBlock
headed count numbers none = record { i_size = 60; f_size = 4000; nfree = count; free = numbers; ninode = 0; inode = none; flock = 0; ilock = 0; fmod = 0; ronly = 0; time = 0 }

no_numbers : replicate 100 0 ≡ padded 100 []
unfolding padded
no_numbers = refl

pub super_is : (count : ℕ) (numbers : List ℕ) (list : FreeList) → count ≡ list.nfree → numbers ≡ list.free → record { i_size = 60; f_size = 4000; nfree = count; free = numbers; ninode = 0; inode = replicate 100 0; flock = 0; ilock = 0; fmod = 0; ronly = 0; time = 0 } ≡ super_block list
unfolding headed
super_is count numbers list counted listed =
    ap (λ n. headed n numbers (replicate 100 0)) counted ∙ ap (λ f. headed list.nfree f (replicate 100 0)) listed ∙ ap (headed list.nfree list.free) no_numbers

-- the regions one after the other
pub built : (n first : ℕ) (files : Files) (a b c d e : List ℕ) → Holds (nodes n) files → first ≡ 62 + length files.contents.items / 512 → a ≡ padded 512 [] → b ≡ a ++ padded 512 (super_bytes (super_block (freed_down (4000 - first)))) → c ≡ b ++ padded (60 * 512) files.inodes.items → d ≡ c ++ files.contents.items → e ≡ d ++ (freed_down (4000 - first)).blocks → e ≡ build_of n
unfolding build_of
built n first files a b c d e held next boot head table filed free =
    let place : first ≡ first_free n = next ∙ ap (λ l. 62 + length l / 512) held.contents in
    cc
