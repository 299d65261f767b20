-- A file that gains a block holds one name more.
use Rattle.std.proofs.Common.{◌≡◌, ◌≢◌, ◌+◌, ◌-◌, ◌<◌, ◌≤◌, ◌&&◌, ◌==◌, not, inl, inr, ℕ, Bool, true, cond, map, set, slice_set, nat_lt, sym, ap, ◌∙◌, arith}
use Rattle.std.proofs.lemmas.Bool.{cases_lt, lt-ltb, le-ltb, ne_eqb}
use Rattle.std.specs.List.{range_with_len}
use Rattle.fs_codec.specs.Fields.{Inode}
use Rattle.fs_codec.specs.Modes.{holds_blocks}
use Rattle.fs_codec.specs.Disk.{Disk}
use Rattle.fs_codec.specs.Held.{address}
use Rattle.bmap_path.specs.declared.BlockName.{BlockName}
use Rattle.bmap_path.specs.declared.BlockName.TheVariants.{Data, Ind, Dbl}
use Rattle.fs_codec.specs.Store.{rank}
use Rattle.fs_codec.specs.Stands.{name_of, is_held, held_of}
use Rattle.fs_laws.specs.Gains.{Gains}
use Rattle.fs_laws.proofs.StoreLemmas.{map_set}

pub name_data : (r : ℕ) → r < 67328 → name_of r ≡ Data r
name_data r h = ap (λ t. cond t (Data r) (cond (nat_lt r 67591) (Ind (r - 67328)) Dbl)) (lt-ltb r 67328 h)

pub name_indirect : (r : ℕ) → 67328 ≤ r → r < 67591 → name_of r ≡ Ind (r - 67328)
name_indirect r h g = ap (λ t. cond t (Data r) (cond (nat_lt r 67591) (Ind (r - 67328)) Dbl)) (le-ltb r 67328 h) ∙ ap (λ t. cond t (Ind (r - 67328)) Dbl) (lt-ltb r 67591 g)

pub name_double : (r : ℕ) → 67591 ≤ r → name_of r ≡ Dbl
name_double r h = ap (λ t. cond t (Data r) (cond (nat_lt r 67591) (Ind (r - 67328)) Dbl)) (le-ltb r 67328 (omega (arith, h))) ∙ ap (λ t. cond t (Ind (r - 67328)) Dbl) (le-ltb r 67591 h)

-- the rank of the name of a rank
pub rank_name : (r : ℕ) → r < 67592 → rank (name_of r) ≡ r
rank_name r h = elim (cases_lt r 67328) [
  | inl low ↦ ap rank (name_data r low)
  | inr high ↦ elim (cases_lt r 67591) [
    | inl g ↦ (let back : 67328 + (r - 67328) ≡ r = omega (arith, high) in ap rank (name_indirect r high g) ∙ back)
    | inr g ↦ (let back : 67591 ≡ r = omega (arith, g, h) in ap rank (name_double r g) ∙ back)
  ]
]

held_when : (old new : Disk) (node next : Inode) (q : BlockName) (s t : Bool) → s ≡ true → t ≡ true → address new next q ≡ address old node q → (t && not (address new next q == 0)) ≡ (s && not (address old node q == 0))
held_when old new node next q s t e f same = ap (λ x. x && not (address new next q == 0)) f ∙ ap (λ b. not (b == 0)) same ∙ sym (ap (λ x. x && not (address old node q == 0)) e)

-- what a node holds gains the rank of the name
pub held_gains : (old new : Disk) (node next : Inode) (p : BlockName) (b r : ℕ) → Gains old node new next p b → b ≢ 0 → holds_blocks node.mode ≡ true → holds_blocks next.mode ≡ true → p ≡ name_of r → r < 67592
    → held_of new next ≡ slice_set (held_of old node) r true
unfolding held_of
held_gains old new node next p b r g some holds holds' is h =
    let here : is_held new next (name_of (0 + r)) ≡ true =
    (let zero_r : 0 + r ≡ r = omega arith in ap (λ j. is_held new next (name_of j)) zero_r ∙ ap (is_held new next) (sym is) ∙ ap (λ x. x && not (address new next p == 0)) holds' ∙ ap (λ x. not (x == 0)) g.here ∙ ap not (ne_eqb b 0 some)) in
    map_set (λ r. is_held old node (name_of r)) (λ r. is_held new next (name_of r)) 0 67592 r h
    (λ j low high other. held_when old new node next (name_of j) (holds_blocks node.mode) (holds_blocks next.mode) holds holds'
    (g.others (name_of j) (λ e. other (let a = rank_name j (omega (arith, high)) in let c = rank_name r h in let d : rank (name_of j) ≡ rank (name_of r) = ap rank (e ∙ is) in omega (arith, a, c, d)))))
    ∙ ap (λ x. set (map (λ r. is_held old node (name_of r)) (range_with_len 0 67592)) r x) here
