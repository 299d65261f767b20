-- The walk of the free list, step by step, and that it lists data blocks.
use Rattle.std.proofs.Common.{◌≡◌, ◌≤◌, ◌==◌, inl, inr, ℕ, zero, suc, Bool, true, false, not, cond, if◌then◌else◌, List, [], ◌∷◌, nat_eq, nat_lt, Option, Some, None, refl, sym, ap, ◌∙◌, arith}
use Rattle.std.specs.List.{count_by, list_any}
use Rattle.std.proofs.lemmas.Bool.Decides.{eqb_tells}
use Rattle.fs_codec.specs.Disk.{Disk, head, is_data}
use Rattle.fs_codec.specs.Free.{Group, Walk, walk, free_walk, top, after, ended, listing}
use Rattle.fs_codec.specs.declared.fault.ImageFault.{ImageFault}
use Rattle.fs_codec.specs.declared.fault.ImageFault.TheVariants.{FreeCount, FreeOutside}
use Rattle.fs_codec.proofs.CountLemmas.{count-cons}

-- what comes next, by the next number
rest_of : ℕ → Disk → Group → List ℕ → ℕ → Walk
rest_of most disk group met block =
    if nat_lt 100 (after disk group).left then ended (Some (FreeCount block)) else walk most disk (after disk group) (block ∷ met)

following : ℕ → Disk → Group → List ℕ → ℕ → Walk
following most disk group met block = listing block (if list_any (nat_eq block) met then ended None else rest_of most disk group met block)

body : ℕ → Disk → Group → List ℕ → ℕ → Walk
body most disk group met block =
    if block == 0 then ended None else (if not (is_data disk block) then ended (Some (FreeOutside block)) else following most disk group met block)

walk_is : (most : ℕ) (disk : Disk) (group : Group) (met : List ℕ) (block : ℕ) → block ≡ top disk group → walk (suc most) disk group met ≡ body most disk group met block
unfolding body following rest_of
walk_is most disk group met block is = ap (body most disk group met) (sym is)

pub walk_none : (left : ℕ) (disk : Disk) (group : Group) (met : List ℕ) (block : ℕ) → block ≡ top disk group → (block == 0) ≡ true → walk left disk group met ≡ ended None
unfolding body
walk_none zero disk group met block is none = refl
walk_none (suc most) disk group met block is none =
    walk_is most disk group met block is ∙ ap (λ t. cond t (ended None) (cond (not (is_data disk block)) (ended (Some (FreeOutside block))) (following most disk group met block))) none

at_number : (most : ℕ) (disk : Disk) (group : Group) (met : List ℕ) (block : ℕ) → block ≡ top disk group → (block == 0) ≡ false
    → walk (suc most) disk group met ≡ cond (not (is_data disk block)) (ended (Some (FreeOutside block))) (following most disk group met block)
unfolding body
at_number most disk group met block is some =
    walk_is most disk group met block is ∙ ap (λ t. cond t (ended None) (cond (not (is_data disk block)) (ended (Some (FreeOutside block))) (following most disk group met block))) some

pub walk_outside : (most : ℕ) (disk : Disk) (group : Group) (met : List ℕ) (block : ℕ) → block ≡ top disk group → (block == 0) ≡ false → is_data disk block ≡ false
    → walk (suc most) disk group met ≡ ended (Some (FreeOutside block))
walk_outside most disk group met block is some out =
    at_number most disk group met block is some ∙ ap (λ t. cond (not t) (ended (Some (FreeOutside block))) (following most disk group met block)) out

at_block : (most : ℕ) (disk : Disk) (group : Group) (met : List ℕ) (block : ℕ) → block ≡ top disk group → (block == 0) ≡ false → is_data disk block ≡ true
    → walk (suc most) disk group met ≡ following most disk group met block
at_block most disk group met block is some inside =
    at_number most disk group met block is some ∙ ap (λ t. cond (not t) (ended (Some (FreeOutside block))) (following most disk group met block)) inside

pub walk_again : (most : ℕ) (disk : Disk) (group : Group) (met : List ℕ) (block : ℕ) → block ≡ top disk group → (block == 0) ≡ false → is_data disk block ≡ true → list_any (nat_eq block) met ≡ true
    → walk (suc most) disk group met ≡ listing block (ended None)
unfolding following
walk_again most disk group met block is some inside again =
    at_block most disk group met block is some inside ∙ ap (λ t. listing block (cond t (ended None) (rest_of most disk group met block))) again

at_new : (most : ℕ) (disk : Disk) (group : Group) (met : List ℕ) (block : ℕ) → block ≡ top disk group → (block == 0) ≡ false → is_data disk block ≡ true → list_any (nat_eq block) met ≡ false
    → walk (suc most) disk group met ≡ listing block (rest_of most disk group met block)
unfolding following
at_new most disk group met block is some inside new =
    at_block most disk group met block is some inside ∙ ap (λ t. listing block (cond t (ended None) (rest_of most disk group met block))) new

pub walk_count : (most : ℕ) (disk : Disk) (group : Group) (met : List ℕ) (block : ℕ) → block ≡ top disk group → (block == 0) ≡ false → is_data disk block ≡ true → list_any (nat_eq block) met ≡ false
    → nat_lt 100 (after disk group).left ≡ true → walk (suc most) disk group met ≡ listing block (ended (Some (FreeCount block)))
unfolding rest_of
walk_count most disk group met block is some inside new many =
    at_new most disk group met block is some inside new ∙ ap (λ t. listing block (cond t (ended (Some (FreeCount block))) (walk most disk (after disk group) (block ∷ met)))) many

pub walk_on : (most : ℕ) (disk : Disk) (group : Group) (met : List ℕ) (block : ℕ) → block ≡ top disk group → (block == 0) ≡ false → is_data disk block ≡ true → list_any (nat_eq block) met ≡ false
    → nat_lt 100 (after disk group).left ≡ false → walk (suc most) disk group met ≡ listing block (walk most disk (after disk group) (block ∷ met))
unfolding rest_of
walk_on most disk group met block is some inside new few =
    at_new most disk group met block is some inside new ∙ ap (λ t. listing block (cond t (ended (Some (FreeCount block))) (walk most disk (after disk group) (block ∷ met)))) few

-- each block that is listed is a data block
listed_is_data : (disk : Disk) (zero_ inside met many : Bool) (block : ℕ) (out count : Option ImageFault) (rest : Walk) → is_data disk block ≡ inside
    → ((k : ℕ) → 1 ≤ count_by (nat_eq k) rest.blocks → is_data disk k ≡ true) → (k : ℕ)
    → 1 ≤ count_by (nat_eq k) (cond zero_ (ended None) (cond (not inside) (ended out) (listing block (cond met (ended None) (cond many (ended count) rest))))).blocks → is_data disk k ≡ true
listed_is_data disk true inside met many block out count rest is each k h = absurd (omega arith)
listed_is_data disk false false met many block out count rest is each k h = absurd (omega arith)
listed_is_data disk false true met many block out count rest is each k h = elim (eqb_tells k block) [
  | inl e ↦ ap (is_data disk) e.1 ∙ is
  | inr e ↦ in_rest met many (let no : cond {A = ℕ} (nat_eq k block) 1 0 ≡ 0 = ap (λ t. cond t 1 0) e.0 in omega (arith, count-cons k block (cond met (ended None) (cond many (ended count) rest)).blocks))
] where
  in_rest : (m c : Bool) → 1 ≤ count_by (nat_eq k) (cond m (ended None) (cond c (ended count) rest)).blocks → is_data disk k ≡ true
  in_rest true c g = absurd (omega arith)
  in_rest false true g = absurd (omega arith)
  in_rest false false g = each k g

pub walk_is_data : (most : ℕ) (disk : Disk) (group : Group) (met : List ℕ) (k : ℕ) → 1 ≤ count_by (nat_eq k) (walk most disk group met).blocks → is_data disk k ≡ true
walk_is_data zero disk group met k h = absurd (omega arith)
walk_is_data (suc most) disk group met k h =
    listed_is_data disk (top disk group == 0) (is_data disk (top disk group)) (list_any (nat_eq (top disk group)) met) (nat_lt 100 (after disk group).left) (top disk group)
    (Some (FreeOutside (top disk group))) (Some (FreeCount (top disk group))) (walk most disk (after disk group) (top disk group ∷ met)) refl
    (walk_is_data most disk (after disk group) (top disk group ∷ met)) k h

pub free_is_data : (disk : Disk) (k : ℕ) → 1 ≤ count_by (nat_eq k) (free_walk disk).blocks → is_data disk k ≡ true
unfolding free_walk
free_is_data disk k h = walk_is_data (head disk).f_size disk (record { left = (head disk).nfree; block = 1; place = 4 }) [] k h
