-- The row of times(II), by what can be written.
use Rattle.std.proofs.Common.{◌≡◌, ◌∙◌, ◌≢◌, ◌%◌, ℕ, true, false, cond, List, get_or, Option, Some, None, is_some, Result, Ok, refl, sym, ap}
use Rattle.std.proofs.lemmas.Bool.{ne_eqb}
use Rattle.v6_base.specs.Copy.{store_bytes}
use Rattle.v6_base.specs.Image.{Image}
use Rattle.v6_base.specs.Trace.{Taken}
use Rattle.v6_base.specs.declared.answer.Answer.{Answer}
use Rattle.v6_base.specs.declared.answer.Answer.TheVariants.{Ret, Fail}
use Rattle.v6_base.specs.declared.entry.PanicKind.{PanicKind}
use Rattle.v6_base.specs.declared.errno.Errno.TheVariants.{EFAULT}
use Rattle.fs_codec.specs.Bytes.{bytes_of}
use Rattle.fs_nodes.specs.FileSystem.{FileSystem}
use Rattle.u_area.specs.declared.area.UArea.{UArea}
use Rattle.u_area.specs.Area.{times}
use Rattle.sys_procs.specs.declared.procs.Procs.{Procs}
use Rattle.sys_procs.specs.Process.{Process, image_of}
use Rattle.sys_procs.specs.World.{World, process_of}
use Rattle.sys_procs.specs.Times.{stored, times_to}
use Rattle.sys_procs.specs.Handed.{IsAlive, board, handed}
use Rattle.sys_procs.specs.Done.{HasDone}
use Rattle.sys_procs.proofs.Dones.{answer_stays, done_none}

-- at an even address
pub times_row : (w : World) (s at : ℕ) (u : UArea) (bytes : List ℕ) → u ≡ (process_of w s).u → at % 2 ≢ 1 → bytes ≡ bytes_of (times u)
    → stored w s (store_bytes (image_of w.texts (process_of w s)) at bytes) ≡ times_to w s at
unfolding times_to
times_row w s at u bytes is even e =
    let p : Process = process_of w s in
    ap (λ (b : List ℕ). stored w s (store_bytes (image_of w.texts p) at b)) (e ∙ ap (λ (v : UArea). bytes_of (times v)) is)
    ∙ sym (ap (λ odd. stored w s (cond odd None (store_bytes (image_of w.texts p) at (bytes_of (times p.u))))) (ne_eqb (at % 2) 1 even))

-- nothing is written, or all is
module _ (p new : Procs) (fs : FileSystem) (s : ℕ) (t : Taken) (same : board new ≡ board p) where
  pub times_none : (o : Option Image) → is_some o ≡ false → handed new fs ≡ (stored (handed p fs) s o).state
      → HasDone p new fs (Ok (Fail EFAULT)) t t (stored (handed p fs) s o)
  times_none None none state = done_none _ (Fail EFAULT) refl refl state same
  times_none (Some image) none state = absurd (cc none)

  pub times_some : (u : UArea) (r0 r1 : ℕ) → r0 ≡ get_or u.r 0 0 → r1 ≡ get_or u.r 1 0 → IsAlive p s → u ≡ (process_of (handed p fs) s).u
      → (o : Option Image) → is_some o ≡ true → handed new fs ≡ (stored (handed p fs) s o).state
      → HasDone p new fs (Ok (Ret r0 r1)) t t (stored (handed p fs) s o)
  times_some u r0 r1 first second alive is None some state = absurd (cc some)
  times_some u r0 r1 first second alive is (Some image) some state =
      let done : Answer → Result Answer PanicKind = λ a. Ok a in
      done_none _ _ refl
      (ap done ((λ i. Ret (first i) (second i)) ∙ answer_stays p fs s (λ (q : Process). record q { «data» = image.data; stack = image.stack }) u alive is (λ q. refl)))
      state same
