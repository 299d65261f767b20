-- Ways to say that a call has done what its row says.
use Rattle.std.proofs.Common.{◌≡◌, ℕ, [], Result, Ok, Err, refl, sym, ap, ◌∙◌, subst}
use Rattle.v6_base.specs.Image.{Image}
use Rattle.v6_base.specs.Trace.{Taken, Took}
use Rattle.v6_base.specs.declared.answer.Answer.{Answer}
use Rattle.v6_base.specs.declared.answer.Answer.TheVariants.{Fail}
use Rattle.v6_base.specs.declared.errno.Errno.{Errno}
use Rattle.v6_base.proofs.Took.{took_none, took_nothing}
use Rattle.proc_tab.specs.declared.row.Row.{Row}
use Rattle.u_area.specs.declared.area.UArea.{UArea}
use Rattle.fs_nodes.specs.FileSystem.{FileSystem, IsFileSystem}
use Rattle.fs_tree.specs.Finding.{inodes_of}
use Rattle.sys_files.specs.declared.files.Files.{Files}
use Rattle.sys_files.specs.Handed.{Handed, handed}
use Rattle.sys_files.specs.Did.{Did, unnamed, fails}
use Rattle.sys_files.specs.Sound.{IsSound, IsKept}
use Rattle.sys_files.specs.Does.{Does}
use Rattle.sys_files.specs.Entering.{SameReferences, did_of, did_with}
use Rattle.sys_files.proofs.KeptLemmas.{kept_same, kept_references}
use Rattle.sys_files.proofs.OwingLemmas.{CanFind, can_find}

-- by the parts of what the row comes to
pub does_by : {old new : Handed} {result : Answer} {start end : Taken} {row : Did} (d : Did) → d ≡ row → result ≡ d.answer → new ≡ d.state
    → Took start d.items end → IsKept old row.state → Does old new result start end row
does_by {old} {new} {result} {start} {end} {row} d is answer state items kept =
    let P : Did → Type 0 = λ x. Does old new result start end x in
    let Q : Handed → Type 0 = λ h. IsKept old h in
    subst P is (record {
      answer = answer;
      state = state;
      items = items;
      kept = subst Q (sym (state ∙ ap (λ (x : Did). x.state) is)) kept;
    })

-- the same, where nothing is shown
pub does_quietly : {old new : Handed} {result : Answer} {t : Taken} {row : Did} (d : Did) → d ≡ row → result ≡ d.answer → new ≡ d.state
    → d.items ≡ [] → IsKept old row.state → Does old new result t t row
does_quietly {old} {new} {result} {t} {row} d is answer state quiet kept = does_by d is answer state (took_nothing t d.items quiet) kept

-- by one equation, where nothing is shown
pub does_as : {old new : Handed} {result : Answer} {t : Taken} {row : Did} → row ≡ did_with new result → IsKept old new → Does old new result t t row
does_as {old} {new} {result} {t} {row} is kept =
    let P : Did → Type 0 = λ x. Does old new result t t x in
    subst P (sym is) (record { answer = refl; state = refl; items = took_none t; kept = kept })

-- the same, whatever it names
pub does_unnamed : {old new : Handed} {result : Answer} {t : Taken} {row : Did} → unnamed row ≡ did_with new result
    → IsKept old new → Does old new result t t row
does_unnamed {old} {new} {result} {t} {row} is kept = record {
  answer = sym (ap (λ (x : Did). x.answer) is);
  state = sym (ap (λ (x : Did). x.state) is);
  items = took_nothing t row.items (ap (λ (x : Did). x.items) is);
  kept = kept;
}

-- the same, by what the row keeps
pub does_kept : {old new : Handed} {result : Answer} {t : Taken} {row : Did} → row ≡ did_with new result → IsKept old row.state → Does old new result t t row
does_kept {old} {new} {result} {t} {row} is kept =
    let Q : Handed → Type 0 = λ h. IsKept old h in
    does_as is (subst Q (ap (λ (x : Did). x.state) is) kept)

-- a call that is refused before anything has changed
pub does_refused : {h : Handed} {t : Taken} {e : Errno} {row : Did} → fails h e ≡ row → IsSound h → Does h h (Fail e) t t row
does_refused {h} {t} {e} {row} is sound = does_as (sym is) (kept_same h h sound refl refl refl refl refl refl refl)

-- a call of a name, by what its row keeps where the name can be found
pub does_named : (fs : FileSystem) (h : Handed) (name : ℕ) {new : Handed} {result : Answer} {t : Taken} {row : Did} → h.inodes ≡ inodes_of fs
    → IsFileSystem fs → IsSound h → (IsSound h → CanFind h name → IsKept h row.state) → result ≡ row.answer → new ≡ row.state → row.items ≡ []
    → Does h new result t t row
does_named fs h name {new} {result} {t} {row} same is sound keeps answer state quiet =
    does_quietly row refl answer state quiet (keeps sound (can_find fs h name same is sound))

told_whole : (h : Handed) (r : Result (Unit {0}) Errno) → did_of h r ≡ did_with h (did_of h r).answer
told_whole h (Ok u) = refl
told_whole h (Err e) = refl

-- a call that gives no value, by the part that does its work
pub does_whole : (old new : Handed) (r : Result (Unit {0}) Errno) {result : Answer} {t : Taken} {d : Did}
    → unnamed d ≡ did_of new r → result ≡ (did_of new r).answer → IsKept old new → Does old new result t t d
does_whole old new r did answer kept =
    does_unnamed (did ∙ told_whole new r ∙ ap (did_with new) (sym answer)) kept

-- the same where it changes no reference
pub does_part : (f now : Files) (u : UArea) (row : Row) (image : Image) (r : Result (Unit {0}) Errno) {result : Answer} {t : Taken} {d : Did}
    → IsSound (handed f u row image) → SameReferences f.tree.nodes now.tree.nodes → now.table ≡ f.table → now.pipes ≡ f.pipes
    → now.tree.mounts ≡ f.tree.mounts → unnamed d ≡ did_of (handed now u row image) r
    → result ≡ (did_of (handed now u row image) r).answer → Does (handed f u row image) (handed now u row image) result t t d
does_part f now u row image r {result} {t} {d} sound same table pipes mounts did answer =
    does_unnamed (did ∙ told_whole (handed now u row image) r ∙ ap (did_with (handed now u row image)) (sym answer))
    (kept_references (handed f u row image) (handed now u row image) sound table pipes refl refl mounts same.references
    same.counts)
