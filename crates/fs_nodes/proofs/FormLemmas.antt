-- What is so of all file systems, from what is so of each.
use Rattle.std.proofs.Common.{◌≡◌, ◌+◌, ◌-◌, ◌<◌, ◌≤◌, ℕ, false, nat_lt, List, Option, Some, None, IsSome, inl, inr, refl, sym, ap, ◌∙◌, subst, arith}
use Rattle.std.specs.Prelude.{IsSomeAnd}
use Rattle.std.proofs.lemmas.Bool.{cases_lt}
use Rattle.std.proofs.lemmas.List.{get_or_past}
use Rattle.std.proofs.lemmas.Bool.Decides.{nat_tests}
use Rattle.buf_cache.specs.Blocks.{block_at}
use Rattle.fs_codec.specs.Store.{Node}
use Rattle.fs_codec.specs.Store as codec
use Rattle.fs_nodes.specs.one_disk.FileSystem as disk
use Rattle.fs_nodes.specs.Disks.{OfSecond}
use Rattle.fs_nodes.proofs.JoinedLemmas.{joined_long}
use Rattle.fs_nodes.specs.FileSystem.{FileSystem, AreDisks, IsFileSystem, together, referenced}
use Rattle.fs_nodes.proofs.SideLemmas.{root_side, second_side, node_is, total_is, low_used}

one_form : (root : disk.FileSystem) → disk.IsFileSystem root → IsFileSystem (together (record { root = root; second = None }))
one_form root form =
    let side = λ (key : ℕ). root_side root None key form.references refl in
    let P : Option Node → Type 0 = IsSome in
    record {
      references = (let r = form.references in omega (arith, r));
      few = form.few;
      count = form.count;
      used = λ key some. subst P (sym (node_is (side key))) (form.used key some);
      low = λ key some. low_used root key form (subst P (node_is (side key)) some);
      none = node_is (side 0) ∙ form.none;
      root = subst P (sym (node_is (side 1))) form.root;
      second_root = λ some. absurd (cc);
      keys = λ some. absurd (cc);
      blocks = form.blocks;
      second_blocks = tt;
      second_there = refl;
      second_stored = refl;
    }

two_form : (root second : disk.FileSystem) → disk.IsFileSystem root → disk.IsFileSystem second
    → referenced root.references + referenced second.references ≤ 100
    → root.store.count + second.store.count ≤ 65535 → 1 ≤ root.store.count
    → IsFileSystem (together (record { root = root; second = Some second }))
two_form root second form form' few keys some_root =
    let P : Option Node → Type 0 = IsSome in
    let low = λ (key : ℕ) (le : key ≤ root.store.count). root_side root (Some second) key form.references (not_above root.store.count key le) in
    let high = λ (key : ℕ) (lt : root.store.count < key). second_side root second key form.references lt in
    record {
      references =
          joined_long root.references second.references root.store.count second.store.count form.references form'.references;
      few = (let t = total_is root (Some second) form' in omega (arith, t, few));
      count = λ key. elim (cases_lt root.store.count key) [
        | inl lt ↦ (let s = (high key lt).refs in let c = form'.count (key - root.store.count) in omega (arith, s, c))
        | inr le ↦ (let s = (low key le).refs in let c = form.count key in omega (arith, s, c))
      ];
      used = λ key some. elim (cases_lt root.store.count key) [
        | inl lt ↦ (let s = (high key lt).refs in subst P (sym (node_is (high key lt))) (form'.used (key - root.store.count) (omega (arith, s, some))))
        | inr le ↦ (let s = (low key le).refs in subst P (sym (node_is (low key le))) (form.used key (omega (arith, s, some))))
      ];
      low = λ key some. (let long = joined_long root.references second.references root.store.count second.store.count form.references form'.references in elim (cases_lt root.store.count key) [
        | inl lt ↦ (let s = low_used second (key - root.store.count) form' (subst P (node_is (high key lt)) some) in let l = form'.references in omega (arith, s, l, long, lt))
        | inr le ↦ omega (arith, le, long)
      ]);
      none = node_is (low 0 (omega arith)) ∙ form.none;
      root = subst P (sym (node_is (low 1 some_root))) form.root;
      second_root = λ there.
          let lt : root.store.count < root.store.count + 1 = omega arith in
          let first : root.store.count + 1 - root.store.count ≡ 1 = omega arith in
          subst P (sym (node_is (high (root.store.count + 1) lt)))
          (let Q : ℕ → Type 0 = λ n. IsSome (codec.node_numbered second.store n) in subst Q (sym first) form'.root);
      keys = λ there. keys;
      blocks = form.blocks;
      second_blocks = form'.blocks;
      second_there = refl;
      second_stored = refl;
    } where
      not_above : (n key : ℕ) → key ≤ n → nat_lt n key ≡ false
      not_above n key le = grind (arith, nat_tests)

no_node : (o : Option Node) → o ≡ None → IsSome o → ⊥
no_node None is some = cc
no_node (Some x) is some = cc

root_there : (f : disk.FileSystem) → disk.IsFileSystem f → 1 ≤ f.store.count
root_there f form = elim (cases_lt 0 f.store.count) [
  | inl lt ↦ omega (arith, lt)
  | inr le ↦ absurd (no_node (codec.node_numbered f.store 1) (get_or_past f.store.nodes 1 None (let n = form.nodes in omega (arith, n, le))) form.root)
]

pub form_is : (root : disk.FileSystem) (o : Option disk.FileSystem) (first : ℕ) → AreDisks root o first
    → disk.IsFileSystem root → OfSecond disk.IsFileSystem o
    → IsFileSystem (together (record { root = root; second = o }))
form_is root None first are form form' = one_form root form
form_is root (Some second) first are form form' = two_form root second form form' are.few are.keys.1 (root_there root form)

-- A block that is stored of a second disk.
pub stored_second : (root second : disk.FileSystem) (o : Option disk.FileSystem) (fs : FileSystem) (bytes : List ℕ) (n : ℕ)
    → o ≡ Some second → together (record { root = root; second = o }) ≡ fs → bytes ≡ block_at second.stored n
    → IsSomeAnd fs.stored.second (λ stored. bytes ≡ block_at stored n)
stored_second root second o fs bytes n is view here =
    let both : together (record { root = root; second = Some second }) ≡ fs = ap (λ (x : Option disk.FileSystem). together (record { root = root; second = x })) (sym is) ∙ view in
    let P : FileSystem → Type 0 = λ f. IsSomeAnd f.stored.second (λ stored. bytes ≡ block_at stored n) in
    subst P both here
