-- How often a process that calls, which is in its directory, and the texts refer to inodes.
use Rattle.std.proofs.Common.{◌≡◌, ◌∙◌, ◌+◌, ◌-◌, ◌<◌, ◌≤◌, ◌==◌, ℕ, Bool, true, false, cond, List, length, get_or, set, map, Option, refl, sym, ap, subst, inl, inr, arith}
use Rattle.std.specs.Prelude.{count_by, slice_index}
use Rattle.std.proofs.lemmas.Bool.{cases_eq, cases_lt, eq-eqb}
use Rattle.std.proofs.lemmas.List.{get_or-set_same, get_or-set_other, get_or_past}
use Rattle.fs_nodes.specs.FileSystem.{FileSystem}
use Rattle.u_area.specs.declared.area.UArea.{UArea}
use Rattle.image_keep.specs.Kept.{Kept, Shared, area_of}
use Rattle.sys_procs.specs.declared.procs.Procs.{Procs}
use Rattle.sys_procs.specs.TextTable.{is_text_of}
use Rattle.sys_procs.specs.World.{text_in, texts_in}
use Rattle.sys_procs.specs.Agree.{refers}
use Rattle.sys_procs.specs.Handed.{Calls, process_here}
use Rattle.sys_procs.proofs.Alive.{calls_alive, area_here}

-- those of the texts are among them, and that of the directory is one more
texts_among : (b : Bool) (n most : ℕ) → cond b 1 0 + n ≤ most → n ≤ most
texts_among true n most h = omega (arith, h)
texts_among false n most h = omega (arith, h)

pub texts_referred : (p : Procs) (fs : FileSystem) (s : ℕ) → Calls p fs s → (ino : ℕ)
    → count_by (is_text_of ino) (texts_in p.images.kept) ≤ slice_index fs.references ino
texts_referred p fs s calls ino =
    texts_among ((area_of p.images.kept s).dir == ino) (count_by (is_text_of ino) (texts_in p.images.kept))
    (slice_index fs.references ino) (calls.referred ino)

here_referred : (p : Procs) (fs : FileSystem) (s : ℕ) → Calls p fs s
    → 1 + count_by (is_text_of (area_of p.images.kept s).dir) (texts_in p.images.kept) ≤ slice_index fs.references (area_of p.images.kept s).dir
here_referred p fs s calls =
    let dir : ℕ = (area_of p.images.kept s).dir in
    subst (λ b. cond b 1 0 + count_by (is_text_of dir) (texts_in p.images.kept) ≤ slice_index fs.references dir)
    (eq-eqb dir dir refl) (calls.referred dir)

pub dir_referred : (p : Procs) (fs : FileSystem) (s : ℕ) → Calls p fs s → 0 < slice_index fs.references (process_here p s).u.dir
dir_referred p fs s calls =
    subst (λ (u : UArea). 0 < slice_index fs.references u.dir) (area_here p s (calls_alive p fs s calls))
    (let some = here_referred p fs s calls in omega (arith, some))

-- Those of the texts are left when the directory is.
one_less : (refs : List ℕ) (dir ino n : ℕ) → 0 < get_or refs dir 0 → n ≤ get_or refs ino 0
    → (ino ≡ dir → 1 + n ≤ get_or refs dir 0)
    → n ≤ get_or (set refs dir (get_or refs dir 0 - 1)) ino 0
one_less refs dir ino n some most at = elim (cases_eq ino dir) [
  | inl here ↦ elim (cases_lt dir (length refs)) [
    | inl low ↦
        subst (λ m. n ≤ m)
        (sym (ap (λ i. get_or (set refs dir (get_or refs dir 0 - 1)) i 0) here ∙ get_or-set_same refs dir (get_or refs dir 0 - 1) 0 low))
        (let h = at here in omega (arith, h))
    | inr past ↦ absurd (let none : get_or refs dir 0 ≡ 0 = get_or_past refs dir 0 past in omega (arith, none, some))
  ]
  | inr other ↦ subst (λ m. n ≤ m) (sym (get_or-set_other refs dir ino (get_or refs dir 0 - 1) 0 other)) most
]

pub left_referred : (p : Procs) (fs : FileSystem) (s : ℕ) → Calls p fs s → (dir : ℕ) → dir ≡ (process_here p s).u.dir → (ino : ℕ)
    → count_by (is_text_of ino) (texts_in p.images.kept) ≤ get_or (set fs.references dir (slice_index fs.references dir - 1)) ino 0
left_referred p fs s calls dir is ino =
    let same : dir ≡ (area_of p.images.kept s).dir = is ∙ ap (λ (u : UArea). u.dir) (sym (area_here p s (calls_alive p fs s calls))) in
    one_less fs.references dir ino (count_by (is_text_of ino) (texts_in p.images.kept))
    (subst (λ d. 0 < slice_index fs.references d) (sym is) (dir_referred p fs s calls))
    (texts_referred p fs s calls ino)
    (λ e. subst (λ i. 1 + count_by (is_text_of i) (texts_in p.images.kept) ≤ slice_index fs.references dir) (sym e)
    (subst (λ d. 1 + count_by (is_text_of d) (texts_in p.images.kept) ≤ slice_index fs.references d) (sym same)
    (here_referred p fs s calls)))

-- They are the same where the directory and the texts are.
pub same_referred : (k l : Kept) (s : ℕ) (references : ℕ → ℕ) → (area_of l s).dir ≡ (area_of k s).dir → l.texts ≡ k.texts
    → ((ino : ℕ) → refers k s ino ≤ references ino) → (ino : ℕ) → refers l s ino ≤ references ino
same_referred k l s references dir texts referred ino =
    let at : ℕ → List (Option Shared) → ℕ = λ d ts. cond (d == ino) 1 0 + count_by (is_text_of ino) (map text_in ts) in
    subst (λ n. n ≤ references ino) (sym (ap (λ d. at d l.texts) dir ∙ ap (at (area_of k s).dir) texts)) (referred ino)
