-- A new inode on one of the disks.
use Rattle.std.proofs.Common.{◌≡◌, ◌≢◌, ◌+◌, ◌-◌, ◌<◌, ◌≤◌, ◌&&◌, ℕ, zero, suc, Bool, true, false, cond, nat_lt, nat_le, List, [], ◌∷◌, ◌++◌, drop, take, length, slice_index, slice_set, Option, Some, None, IsSome, is_some, is_none, unwrap_or, Result, Ok, Err, MatchResult, IfOk, inl, inr, refl, sym, ap, ◌∙◌, subst, arith}
use Rattle.std.proofs.lemmas.Bool.{cases_eq}
use Rattle.std.proofs.lemmas.Bool.Decides.{nat_tests}
use Rattle.fs_nodes.proofs.JoinedLemmas.{above, below}
use Rattle.std.proofs.lemmas.List.{take_all, take-append-le, drop-append-le}
use Rattle.v6_base.specs.declared.errno.Errno.{Errno}
use Rattle.fs_codec.specs.Store.{Node, Store}
use Rattle.fs_codec.specs.Store as codec
use Rattle.fs_laws.specs.Numbers as numbers
use Rattle.fs_laws.specs.Numbers.{Draw}
use Rattle.fs_nodes.specs.one_disk.FileSystem as disk
use Rattle.fs_nodes.specs.one_disk.Numbers as disk_numbers
use Rattle.fs_nodes.proofs.NumbersMake.{draw_free}
use Rattle.fs_nodes.specs.Disks.{OfSecond}
use Rattle.fs_nodes.specs.Keys.{Stores, with_node, room_at, joined}
use Rattle.fs_nodes.specs.FileSystem.{FileSystem, AreDisks, together, referenced, held_on_second}
use Rattle.fs_nodes.specs.Numbers.{MakesNode, MakesNone, MakesNoneOn, known_after, next_draw}
use Rattle.fs_nodes.proofs.SideLemmas.{with_root, with_second, root_side, second_side, total_is, none_to_0, one_more}

taken_back : (r : List ℕ) (o : Option (List ℕ)) (n : ℕ) → length r ≡ n + 1 → take (n + 1) (joined r o) ≡ r
taken_back r None n long = take_all (n + 1) r (omega (arith, long))
taken_back r (Some s) n long =
    take-append-le (n + 1) r (drop 1 s) (omega (arith, long)) ∙ take_all (n + 1) r (omega (arith, long))

-- the draw of the root's disk
pub root_draw : (root : disk.FileSystem) (o : Option disk.FileSystem) → length root.references ≡ root.store.count + 1
    → next_draw (together (record { root = root; second = o })) 0 ≡ disk_numbers.next_draw root
root_draw root None long =
    ap (λ (l : List ℕ). numbers.draw root.store (λ i. nat_lt 0 (slice_index l i))) (taken_back root.references None root.store.count long)
root_draw root (Some s) long =
    ap (λ (l : List ℕ). numbers.draw root.store (λ i. nat_lt 0 (slice_index l i))) (taken_back root.references (Some s.references) root.store.count long)

both_true : (a b c : Bool) → (a && b && c) ≡ true → b ≡ true
both_true true true c is = refl
both_true true false c is = absurd (cc)
both_true false b c is = absurd (cc)

-- A number that is drawn is that of an inode.
pub drawn_low : (f : disk.FileSystem) (i : ℕ) → (disk_numbers.next_draw f).number ≡ Some i → i ≤ f.store.count
drawn_low f i is =
    let free = draw_free f.store (λ j. nat_lt 0 (slice_index f.references j)) i is in
    let low : nat_le i f.store.count ≡ true = both_true (nat_le 1 i) (nat_le i f.store.count) (is_none (codec.node_numbered f.store i)) free in
    grind (arith, nat_tests)

-- a node of the root's disk
root_node : (s : Store) (o : Option Store) (i : ℕ) (node : Node) (room : ℕ) → (is_some o && nat_lt s.count i) ≡ false
    → with_node (record { root = s; second = o }) i node room ≡ record { root = numbers.with_node s i node room; second = o }
unfolding with_node
root_node s o i node room low =
    ap (λ t. cond {A = Stores} t (record { root = s; second = Some (numbers.with_node (cond t (unwrap_or o s) s) (cond t (i - s.count) i) node room) })
    (record { root = numbers.with_node (cond t (unwrap_or o s) s) (cond t (i - s.count) i) node room; second = o })) low

root_room : (s : Store) (o : Option Store) (i : ℕ) → (is_some o && nat_lt s.count i) ≡ false
    → room_at (record { root = s; second = o }) i ≡ s.room
unfolding room_at
root_room s o i low = ap (λ t. (cond {A = Store} t (unwrap_or o s) s).room) low

low_of : {X : Type 0} (o : Option X) (n i : ℕ) → i ≤ n → (is_some o && nat_lt n i) ≡ false
low_of None n i le = refl
low_of (Some s) n i le = grind (arith, nat_tests)

-- What makes a node of a disk of `has_room`, and of how many inodes are referred to on both.
pub record HasRoom (has_room : Bool) (total : ℕ) : Type 0 where
  pub some : has_room ≡ true → total < 100
  pub none : has_room ≡ false → total ≡ 100

module _ (root new : disk.FileSystem) (o : Option disk.FileSystem) (mode uid gid time : ℕ) (has_room : Bool)
    (form : disk.IsFileSystem root) (form' : OfSecond disk.IsFileSystem o) (room : HasRoom has_room (referenced root.references + held_on_second o)) where
  root_ok : (i : ℕ) → (has_room ≡ true) × disk_numbers.MakesNode root mode uid gid time i new
      → MakesNode (together (record { root = root; second = o })) 0 mode uid gid time i (with_root o new)
  root_ok i m =
      let n = m.1 in
      let so : Option Store = (together (record { root = root; second = o })).store.second in
      let le = drawn_low root i n.number in
      let low : (is_some so && nat_lt root.store.count i) ≡ false = low_of so root.store.count i le in
      let d : next_draw (together (record { root = root; second = o })) 0 ≡ disk_numbers.next_draw root = root_draw root o form.references in
      let made : Node = numbers.new_node mode uid gid time in
      record {
        ino = i;
        number = ap (λ (x : Draw). x.number) d ∙ n.number;
        known = refl;
        few = (let t = total_is root o form' in let f = room.some m.0 in omega (arith, t, f));
        store = ap (λ (x : Store). record { root = x; second = so }) n.store
            ∙ sym (root_node (numbers.with_draw root.store (disk_numbers.next_draw root)) so i made root.store.room low)
            ∙ (λ j. with_node (record { root = numbers.with_draw root.store (sym d j); second = so }) i made (sym (root_room root.store so i low) j));
        references = (root_side root o i form.references (low_of o root.store.count i le)).set new 1 n.references;
      }

  root_err : (e : Errno) → MakesNoneOn root has_room e new
      → MakesNone (together (record { root = root; second = o })) 0 e (with_root o new)
  root_err e m =
      let so : Option Store = (together (record { root = root; second = o })).store.second in
      let d : next_draw (together (record { root = root; second = o })) 0 ≡ disk_numbers.next_draw root = root_draw root o form.references in
      let side = root_side root o 0 form.references (low_of o root.store.count 0 (omega arith)) in
      let P : Option ℕ → Type 0 = IsSome in
      record {
        why = elim m.why [
          | inl none ↦ inl (ap (λ (x : Draw). x.number) d ∙ none.0, none.1)
          | inr full ↦ inr (subst P (sym (ap (λ (x : Draw). x.number) d)) full.0, (let t = total_is root o form' in let f = room.none full.1 in omega (arith, t, f)), full.2)
        ];
        store =
            ap (λ (x : Store). record { root = x; second = so }) m.store
            ∙ (λ j. record { root = numbers.with_draw root.store (sym d j); second = so });
        references = side.same new m.references;
        blocks = side.blocks new m.blocks;
      }

  pub root_made : (r : Result ℕ Errno)
      → MatchResult r (λ i. (has_room ≡ true) × disk_numbers.MakesNode root mode uid gid time i new) (λ e. MakesNoneOn root has_room e new)
      → MatchResult r (λ i. MakesNode (together (record { root = root; second = o })) 0 mode uid gid time i (with_root o new))
      (λ e. MakesNone (together (record { root = root; second = o })) 0 e (with_root o new))
  root_made (Ok i) m = root_ok i m
  root_made (Err e) m = root_err e m

-- the second disk
front_zero : (s : List ℕ) (m : ℕ) → length s ≡ m + 1 → slice_index s 0 ≡ 0 → 0 ∷ drop 1 s ≡ s
front_zero [] m long none = absurd (omega (arith, long))
front_zero (x ∷ xs) m long none = ap (λ y. y ∷ xs) (sym none)

drop_all : (n : ℕ) (l : List ℕ) → length l ≤ n → drop n l ≡ []
drop_all zero [] le = refl
drop_all zero (x ∷ l) le = absurd (omega (arith, le))
drop_all (suc n) [] le = refl
drop_all (suc n) (x ∷ l) le = drop_all n l (omega (arith, le))

dropped_back : (r s : List ℕ) (n m : ℕ) → length r ≡ n + 1 → length s ≡ m + 1 → slice_index s 0 ≡ 0
    → 0 ∷ drop (n + 1) (joined r (Some s)) ≡ s
dropped_back r s n m long long' none =
    ap (λ (l : List ℕ). 0 ∷ l) (drop-append-le (n + 1) r (drop 1 s) (omega (arith, long)) ∙ ap (λ (l : List ℕ). l ++ drop 1 s) (drop_all (n + 1) r (omega (arith, long))))
    ∙ front_zero s m long' none

pub second_draw : (root second : disk.FileSystem) → disk.IsFileSystem root → disk.IsFileSystem second
    → next_draw (together (record { root = root; second = Some second })) 1 ≡ disk_numbers.next_draw second
second_draw root second form form' =
    ap (λ (l : List ℕ). numbers.draw second.store (λ i. nat_lt 0 (slice_index l i)))
    (dropped_back root.references second.references root.store.count second.store.count form.references form'.references (none_to_0 second form'))

first_true : (a b c : Bool) → (a && b && c) ≡ true → a ≡ true
first_true true b c is = refl
first_true false b c is = absurd (cc)

pub drawn_some : (f : disk.FileSystem) (i : ℕ) → (disk_numbers.next_draw f).number ≡ Some i → 1 ≤ i
drawn_some f i is =
    let free = draw_free f.store (λ j. nat_lt 0 (slice_index f.references j)) i is in
    let low : nat_le 1 i ≡ true = first_true (nat_le 1 i) (nat_le i f.store.count) (is_none (codec.node_numbered f.store i)) free in
    grind (arith, nat_tests)

second_node : (root s : Store) (key i : ℕ) (node : Node) (room : ℕ) → nat_lt root.count key ≡ true → key - root.count ≡ i
    → with_node (record { root = root; second = Some s }) key node room ≡ record { root = root; second = Some (numbers.with_node s i node room) }
unfolding with_node
second_node root s key i node room high place =
    ap (λ t. cond {A = Stores} t (record { root = root; second = Some (numbers.with_node (cond t s root) (cond t (key - root.count) key) node room) })
    (record { root = numbers.with_node (cond t s root) (cond t (key - root.count) key) node room; second = Some s })) high
    ∙ ap (λ n. record { root = root; second = Some (numbers.with_node s n node room) }) place

second_room : (root s : Store) (key : ℕ) → nat_lt root.count key ≡ true
    → room_at (record { root = root; second = Some s }) key ≡ s.room
unfolding room_at
second_room root s key high = ap (λ t. (cond {A = Store} t s root).room) high

module _ (root second new : disk.FileSystem) (mode uid gid time : ℕ) (has_room : Bool)
    (form : disk.IsFileSystem root) (form' : disk.IsFileSystem second) (room : HasRoom has_room (referenced root.references + referenced second.references)) where
  second_ok : (i : ℕ) → (has_room ≡ true) × disk_numbers.MakesNode second mode uid gid time i new
      → MakesNode (together (record { root = root; second = Some second })) 1 mode uid gid time (root.store.count + i) (with_second root new)
  second_ok i m =
      let n = m.1 in
      let some = drawn_some second i n.number in
      let lt : root.store.count < root.store.count + i = omega (arith, some) in
      let high : nat_lt root.store.count (root.store.count + i) ≡ true = grind (arith, nat_tests) in
      let place : root.store.count + i - root.store.count ≡ i = omega arith in
      let d : next_draw (together (record { root = root; second = Some second })) 1 ≡ disk_numbers.next_draw second = second_draw root second form form' in
      let made : Node = numbers.new_node mode uid gid time in
      record {
        ino = i;
        number = ap (λ (x : Draw). x.number) d ∙ n.number;
        known = refl;
        few = (let t = total_is root (Some second) form' in let f = room.some m.0 in omega (arith, t, f));
        store = ap (λ (x : Store). record { root = root.store; second = Some x }) n.store
            ∙ sym (second_node root.store (numbers.with_draw second.store (disk_numbers.next_draw second)) (root.store.count + i) i made second.store.room high place)
            ∙ (λ j. with_node (record { root = root.store; second = Some (numbers.with_draw second.store (sym d j)) }) (root.store.count + i) made (sym (second_room root.store second.store (root.store.count + i) high) j));
        references =
            (second_side root second (root.store.count + i) form.references lt).set new 1
            (n.references ∙ ap (λ k. slice_set second.references k 1) (sym place));
      }

  pub second_err : (e : Errno) → MakesNoneOn second has_room e new
      → MakesNone (together (record { root = root; second = Some second })) 1 e (with_second root new)
  second_err e m =
      let d : next_draw (together (record { root = root; second = Some second })) 1 ≡ disk_numbers.next_draw second = second_draw root second form form' in
      let side = second_side root second (root.store.count + 1) form.references (omega arith) in
      let P : Option ℕ → Type 0 = IsSome in
      record {
        why = elim m.why [
          | inl none ↦ inl (ap (λ (x : Draw). x.number) d ∙ none.0, none.1)
          | inr full ↦ inr (subst P (sym (ap (λ (x : Draw). x.number) d)) full.0, (let t = total_is root (Some second) form' in let f = room.none full.1 in omega (arith, t, f)), full.2)
        ];
        store =
            ap (λ (x : Store). record { root = root.store; second = Some x }) m.store
            ∙ (λ j. record { root = root.store; second = Some (numbers.with_draw second.store (sym d j)) });
        references = side.same new m.references;
        blocks = side.blocks new m.blocks;
      }

-- the invariant, after one more or none
pub made_kept : (own new : disk.FileSystem) (mode uid gid time : ℕ) (has_room : Bool) (others : ℕ) (r : Result ℕ Errno)
    → disk.IsFileSystem own → (has_room ≡ true → referenced own.references + others < 100)
    → referenced own.references + others ≤ 100
    → MatchResult r (λ i. (has_room ≡ true) × disk_numbers.MakesNode own mode uid gid time i new) (λ e. MakesNoneOn own has_room e new)
    → (new.store.count ≡ own.store.count) × (referenced new.references + others ≤ 100)
made_kept own new mode uid gid time has_room others (Ok i) form room most m =
    let le = drawn_low own i m.1.number in
    let long = form.references in
    let o = one_more own new i 1 (omega (arith, le, long)) m.1.references in
    let f = room m.0 in
    (ap (λ (s : Store). s.count) m.1.store, omega (arith, o, f))
made_kept own new mode uid gid time has_room others (Err e) form room most m =
    (ap (λ (s : Store). s.count) m.store, (let same = ap referenced m.references in omega (arith, same, most)))

pub room_is : (a b x y : ℕ) → a ≡ x → b ≡ y → x + y ≤ 100 → HasRoom (nat_lt (a + b) 100) (x + y)
room_is a b x y p q most = record {
  some = λ t. (let l = above (a + b) 100 t in omega (arith, l, p, q));
  none = λ t. (let l = below (a + b) 100 t in omega (arith, l, p, q, most));
}

-- With no second disk the device is the root's.
pub dev_zero : (dev : ℕ) (root : disk.FileSystem) (o : Option disk.FileSystem) (fs : FileSystem) → o ≡ None
    → together (record { root = root; second = o }) ≡ fs
    → (dev ≢ 0 → IsSome fs.store.second) → dev ≡ 0
dev_zero dev root (Some s) fs none view there = absurd (cc)
dev_zero dev root None fs none view there = elim (cases_eq dev 0) [
  | inl e ↦ e
  | inr other ↦ (let P : FileSystem → Type 0 = λ f. IsSome f.store.second in let some : false ≡ true = subst P (sym view) (there other) in absurd (cc))
]

pub root_outcome : (root new : disk.FileSystem) (o : Option disk.FileSystem) (fs : FileSystem) (dev mode uid gid time : ℕ) (has_room : Bool) (r : Result ℕ Errno)
    → disk.IsFileSystem root → OfSecond disk.IsFileSystem o → HasRoom has_room (referenced root.references + held_on_second o)
    → together (record { root = root; second = o }) ≡ fs → dev ≡ 0
    → MatchResult r (λ i. (has_room ≡ true) × disk_numbers.MakesNode root mode uid gid time i new) (λ e. MakesNoneOn root has_room e new)
    → MatchResult r (λ i. MakesNode fs dev mode uid gid time i (with_root o new)) (λ e. MakesNone fs dev e (with_root o new))
root_outcome root new o fs dev mode uid gid time has_room r form form' room view dev_is m =
    subst (λ (f : FileSystem). MatchResult r (λ i. MakesNode f dev mode uid gid time i (with_root o new)) (λ e. MakesNone f dev e (with_root o new))) view
    (subst (λ (n : ℕ). MatchResult r (λ i. MakesNode (together (record { root = root; second = o })) n mode uid gid time i (with_root o new)) (λ e. MakesNone (together (record { root = root; second = o })) n e (with_root o new))) (sym dev_is)
    (root_made root new o mode uid gid time has_room form form' room r m))

-- the second disk as a call sees it
pub record SeenSecond (root second : disk.FileSystem) (o : Option disk.FileSystem) (first dev : ℕ) (fs : FileSystem) : Type 0 where
  pub is : o ≡ Some second
  pub first_is : first ≡ root.store.count
  pub one : dev ≡ 1
  pub view : together (record { root = root; second = Some second }) ≡ fs

pub seen_second : (root second : disk.FileSystem) (o : Option disk.FileSystem) (first dev : ℕ) (fs : FileSystem)
    → AreDisks root o first → o ≡ Some second
    → dev < 2 → dev ≢ 0 → together (record { root = root; second = o }) ≡ fs → SeenSecond root second o first dev fs
seen_second root second o first dev fs are is low other view = record {
  is = is;
  first_is = (let Are : Option disk.FileSystem → Type 0 = λ x. AreDisks root x first in (subst Are is are).keys.0);
  one = omega (arith, low, other);
  view = ap (λ (x : Option disk.FileSystem). together (record { root = root; second = x })) (sym is) ∙ view;
}

pub second_ok_outcome : (root second new : disk.FileSystem) (o : Option disk.FileSystem) (first dev : ℕ) (fs : FileSystem) (mode uid gid time : ℕ) (has_room : Bool) (i : ℕ)
    → SeenSecond root second o first dev fs → disk.IsFileSystem root → disk.IsFileSystem second
    → HasRoom has_room (referenced root.references + referenced second.references)
    → (has_room ≡ true) × disk_numbers.MakesNode second mode uid gid time i new
    → MakesNode fs dev mode uid gid time (first + i) (with_second root new)
second_ok_outcome root second new o first dev fs mode uid gid time has_room i seen form form' room m =
    subst (λ (f : FileSystem). MakesNode f dev mode uid gid time (first + i) (with_second root new)) seen.view
    ((λ (n k : ℕ) (n_is : 1 ≡ n) (k_is : root.store.count ≡ k).
    subst (λ (k : ℕ). MakesNode (together (record { root = root; second = Some second })) n mode uid gid time (k + i) (with_second root new)) k_is
    (subst (λ (n : ℕ). MakesNode (together (record { root = root; second = Some second })) n mode uid gid time (root.store.count + i) (with_second root new)) n_is
    (second_ok root second new mode uid gid time has_room form form' room i m))) dev first (sym seen.one) (sym seen.first_is))

pub second_err_outcome : (root second new : disk.FileSystem) (o : Option disk.FileSystem) (first dev : ℕ) (fs : FileSystem) (has_room : Bool) (e : Errno)
    → SeenSecond root second o first dev fs → disk.IsFileSystem root → disk.IsFileSystem second
    → HasRoom has_room (referenced root.references + referenced second.references)
    → MakesNoneOn second has_room e new → MakesNone fs dev e (with_second root new)
second_err_outcome root second new o first dev fs has_room e seen form form' room m =
    subst (λ (f : FileSystem). MakesNone f dev e (with_second root new)) seen.view
    (subst (λ (n : ℕ). MakesNone (together (record { root = root; second = Some second })) n e (with_second root new)) (sym seen.one)
    (second_err root second new 0 0 0 0 has_room form form' room e m))

pub second_outcome : (root second new : disk.FileSystem) (o : Option disk.FileSystem) (first dev : ℕ) (fs : FileSystem) (mode uid gid time : ℕ) (has_room : Bool) (r : Result ℕ Errno)
    → SeenSecond root second o first dev fs → disk.IsFileSystem root → disk.IsFileSystem second
    → HasRoom has_room (referenced root.references + referenced second.references)
    → MatchResult r (λ i. (has_room ≡ true) × disk_numbers.MakesNode second mode uid gid time i new) (λ e. MakesNoneOn second has_room e new)
    → MatchResult (known_after first r) (λ i. MakesNode fs dev mode uid gid time i (with_second root new)) (λ e. MakesNone fs dev e (with_second root new))
second_outcome root second new o first dev fs mode uid gid time has_room (Ok i) seen form form' room m =
    second_ok_outcome root second new o first dev fs mode uid gid time has_room i seen form form' room m
second_outcome root second new o first dev fs mode uid gid time has_room (Err e) seen form form' room m =
    second_err_outcome root second new o first dev fs has_room e seen form form' room m

pub key_fits : (second new : disk.FileSystem) (first count mode uid gid time : ℕ) (has_room : Bool) (r : Result ℕ Errno)
    → first ≡ count → count + second.store.count ≤ 65535
    → MatchResult r (λ i. (has_room ≡ true) × disk_numbers.MakesNode second mode uid gid time i new) (λ e. MakesNoneOn second has_room e new)
    → IfOk r (λ i. first + i ≤ 65535)
key_fits second new first count mode uid gid time has_room (Ok i) is most m =
    let le = drawn_low second i m.1.number in omega (arith, le, is, most)
key_fits second new first count mode uid gid time has_room (Err e) is most m = tt
