-- A byte is put into the memory of a process: what belongs together still does, and the process has that byte.
use Rattle.std.proofs.Common.{◌≡◌, ◌≢◌, ◌∙◌, ◌<◌, ◌+◌, ℕ, zero, suc, Bool, false, true, length, set, Some, None, refl, sym, ap, subst, inl, inr, arith}
use Rattle.std.specs.Prelude.{unwrap_or}
use Rattle.std.proofs.lemmas.Bool.{cases_eq}
use Rattle.std.proofs.lemmas.List.{get_or-set_other, length-set}
use Rattle.v6_base.specs.declared.named.Named.{Named}
use Rattle.v6_base.specs.declared.named.Named.TheVariants.{InText, InData, InStack}
use Rattle.v6_base.specs.declared.named.Named.TheVariants as named_is
use Rattle.v6_base.specs.Image.{Image}
use Rattle.v6_base.specs.Access.{with_byte, image_after}
use Rattle.v6_base.specs.Words.{IsStorable}
use Rattle.v6_base.proofs.Copies.{SameLengths}
use Rattle.image_keep.specs.declared.starts.Starts.{Starts}
use Rattle.image_keep.specs.declared.running.Fixed.{Fixed}
use Rattle.image_keep.specs.Kept.{Held, Nothing, Kept, Has, HasImage, IsKept, keeping, image_in, image_of, is_alive, with_image}
use Rattle.image_keep.specs.State.{ImagesState}
use Rattle.image_keep.specs.Starts.{data_start, AreStarts}
use Rattle.image_keep.specs.Running.{IsFixed}
use Rattle.image_keep.specs.Deposits.{IsByteOf, IsNobodys, with_byte_of, IsPut}
use Rattle.image_keep.proofs.Frames.{alive_low, image_alive, with_image_other}
use Rattle.image_keep.proofs.Reading.{starts_after}
use Rattle.sys_procs.specs.Process.{Process, no_process}
use Rattle.sys_procs.specs.Process as one
use Rattle.sys_procs.specs.Handed.{IsAlive}
use Rattle.sys_procs.proofs.MemoryLemmas.{image_here}
use Rattle.abstract_unix.specs.Unix.{Unix, System, Started, process_of, with_process}
use Rattle.abstract_unix.specs.Turn.{is_user}
use Rattle.unix_core.specs.declared.world.World.{World}
use Rattle.unix_core.specs.declared.machine.Stage.{Stage}
use Rattle.unix_core.specs.declared.machine.Stage.TheVariants as stage
use Rattle.unix_core.specs.Memory.{kept_in}
use Rattle.unix_core.specs.Slots.{IsCounted}
use Rattle.abstract_unix.proofs.GoingOnLemmas.{WaitedIn, like_waited, all_waited_put}
use Rattle.unix_core.proofs.CountLemmas.{counted_waits}
use Rattle.unix_core.specs.Parts.{unix_of, system_at, phase_of, IsGood, IsRunning, IsPaused, IsKernel}
use Rattle.unix_core.specs.Deposits.{with_its_byte, with_byte_at, IsPutIn}
use Rattle.unix_core.proofs.BootKernelLemmas.{kernel_good}
use Rattle.unix_core.proofs.MachineLemmas.{runs_kernel}
use Rattle.unix_core.proofs.PutLemmas.{alive_slot, with_images, with_kept}
use Rattle.unix_core.proofs.MemoryPut.{with_memory, memory_unix, memory_board, memory_process, memory_good}

-- Where another slot's image stands stays.
starts_others : (k : Kept) (s t : ℕ) (x : Starts) (m : Image) → t ≢ s → AreStarts k t x → AreStarts (with_image k s m) t x
unfolding with_image
starts_others k s t x m other a =
    let same : keeping (with_image k s m) t ≡ keeping k t = with_image_other k s t m other in
    record {
      alive = ap is_alive same ∙ a.alive;
      text = a.text;
      image = a.image ∙ ap (data_start k.core) (sym same);
      text_len = a.text_len ∙ ap (λ y. length (image_in y).text) (sym same);
      data_len = a.data_len ∙ ap (λ y. length (image_in y).data) (sym same);
      stack_start = subst (λ y. x.stack_start + length (image_in y).stack ≡ 65536) (sym same) a.stack_start;
      core = a.core;
    }

-- another byte leaves the sizes
byte_lengths : (m : Image) (byte : Named) (b : ℕ) → SameLengths m (image_after m (with_byte m byte b))
byte_lengths m (InText i) b = record { text = refl; «data» = refl; stack = refl }
byte_lengths m (InData i) b = record { text = refl; «data» = length-set m.data i b; stack = refl }
byte_lengths m (InStack i) b = record { text = refl; «data» = refl; stack = length-set m.stack i b }
byte_lengths m named_is.Nothing b = record { text = refl; «data» = refl; stack = refl }

-- the process with that byte
process_put : (p : Process) (m : Image) (byte : Named) (b : ℕ) → IsStorable byte → m.data ≡ p.data → m.stack ≡ p.stack
    → record p { «data» = (image_after m (with_byte m byte b)).data; stack = (image_after m (with_byte m byte b)).stack } ≡ with_its_byte p byte b
process_put p m (InText i) b kind d k = absurd kind
process_put p m (InData i) b kind d k = λ j. record p { «data» = set (d j) i b; stack = k j }
process_put p m (InStack i) b kind d k = λ j. record p { «data» = d j; stack = set (k j) i b }
process_put p m named_is.Nothing b kind d k = absurd kind

above_zero : (k : Kept) (s : ℕ) (held : Held) → keeping k 0 ≡ Nothing → Has k s held → 0 < s
above_zero k zero held none has = absurd (cc (sym none ∙ has))
above_zero k (suc s) held none has = omega arith

-- who has an image lives
alive_in : (w : World) (s : ℕ) → IsGood w → IsKept w.procs.images.kept → HasImage w.procs.images.kept s → IsAlive w.procs s
alive_in w s good holds has = record {
  agree = good.agree;
  above = above_zero w.procs.images.kept s has.0 good.agree.images has.1;
  below = subst (λ n. s < n) holds.slots (alive_low w.procs.images.kept.slots s (image_alive w.procs.images.kept s has));
  image = has;
}

-- The kernel when the memory of a process is another one of the same sizes.
module _ (w : World) (x : ImagesState) (s : ℕ) (alive : IsAlive w.procs s) (image : Image) (same : SameLengths (image_of w.procs.images.kept s) image) where
  abbrev now : World
  now = with_memory w x s alive image

  user_same : (r : ℕ) → is_user (process_of (unix_of now) r) ≡ is_user (process_of (unix_of w) r)
  user_same r = elim (cases_eq r s) [
    | inl here ↦ ap (λ t. is_user (process_of (unix_of now) t)) here ∙ ap is_user (memory_process w x s alive image) ∙ ap (λ t. is_user (process_of (unix_of w) t)) (sym here)
    | inr other ↦ ap (λ (u : Unix). is_user (process_of u r)) (memory_unix w x s alive image) ∙ ap (λ o. is_user (unwrap_or o no_process)) (get_or-set_other (unix_of w).processes s r _ None other)
  ]

  fixed_same : (f : Fixed) → IsFixed w.procs.images.kept f → IsFixed now.procs.images.kept f
  fixed_same f fixed = elim (cases_eq f.slot s) [
    | inl here ↦ subst (λ r. AreStarts now.procs.images.kept r f.starts) (sym here) (starts_after w.procs.images.kept s f.starts image (subst (λ r. AreStarts w.procs.images.kept r f.starts) here fixed) same)
    | inr other ↦ starts_others w.procs.images.kept s f.slot f.starts image other fixed
  ]

  -- it waits as it did
  memory_counted : IsCounted w.slots (unix_of w) → IsCounted now.slots (unix_of now)
  memory_counted counted =
      let p : Process = process_of (unix_of w) s in
      let q : Process = record p { «data» = image.data; stack = image.stack } in
      subst (λ (u : Unix). IsCounted now.slots u) (sym (memory_unix w x s alive image))
      (counted_waits w.slots (unix_of w) (with_process (unix_of w) s q) refl refl
      (all_waited_put (unix_of w).processes s (Some q) (subst (λ o. WaitedIn o (Some q)) (sym (alive_slot w s alive)) (like_waited p q refl refl refl refl)))
      counted)

  memory_kernel : (at : Stage) → phase_of at ≡ Started → IsKernel at w → IsKernel at now
  memory_kernel stage.New started kernel = absurd (cc started)
  memory_kernel (stage.Running f) started kernel =
      let was : IsRunning f w = kernel.running f refl in
      runs_kernel now f (record {
        user = record {
          ready = record { good = memory_good w x s alive image was.user.ready.good; runs = was.user.ready.runs; user = was.user.ready.user };
          user = user_same f.slot ∙ was.user.user;
          settled = was.user.settled;
        };
        fixed = fixed_same f was.fixed;
      }) (memory_counted (kernel.counted refl))
  memory_kernel stage.Resting started kernel =
      let was : IsPaused w = kernel.resting refl in
      record {
        new = λ e. absurd (cc e);
        stopped = λ e. absurd (cc e);
        finished = λ e. absurd (cc e);
        running = λ f e. absurd (cc e);
        resting = λ e. record {
          good = memory_good w x s alive image was.good;
          settled = was.settled;
          idle = was.idle;
          calls = λ r runs above. user_same r ∙ was.calls r runs above;
        };
        counted = λ goes. memory_counted (kernel.counted refl);
        within = kernel.within;
      }
  memory_kernel stage.Stopped started kernel = absurd (cc started)
  memory_kernel stage.Finished started kernel = absurd (cc started)

-- A byte has been put.
module _ (at : Stage) (w : World) (new : ImagesState) (swap : Bool) (i b : ℕ) (started : phase_of at ≡ Started) (kernel : IsKernel at w) (holds : IsKept w.procs.images.kept) where
  put_alive : (s : ℕ) (byte : Named) → IsByteOf w.procs.images.kept swap i s byte → IsAlive w.procs s
  put_alive s byte of = alive_in w s (kernel_good at w started kernel) holds (of.0, of.1)

  abbrev image_put : ℕ → Named → Image
  image_put s byte = image_after (image_of w.procs.images.kept s) (with_byte (image_of w.procs.images.kept s) byte b)

  put_kernel : IsPut w.procs.images.kept swap i b new.kept → IsKernel at (with_images w new)
  unfolding with_byte_of
  put_kernel put =
      let m : Image = image_of w.procs.images.kept put.0 in
      subst (λ (k : Kept). IsKernel at (with_kept w new k)) (sym put.3)
      (memory_kernel w new put.0 (put_alive put.0 put.1 put.2) (image_put put.0 put.1) (byte_lengths m put.1 b) at started kernel)

  pub deposit_kernel : (r : Bool) → (r ≡ true → IsPut w.procs.images.kept swap i b new.kept) → (r ≡ false → new ≡ w.procs.images) → IsKernel at (with_images w new)
  deposit_kernel true put same = put_kernel (put refl)
  deposit_kernel false put same = subst (λ (x : ImagesState). IsKernel at (with_images w x)) (sym (same refl)) kernel

  pub put_system : (was : System) → system_at w ≡ was → w.procs.images.kept ≡ kept_in was → IsPut w.procs.images.kept swap i b new.kept → IsPutIn was swap i b (system_at (with_images w new))
  unfolding with_byte_of
  put_system was same told put =
      let s : ℕ = put.0 in
      let byte : Named = put.1 in
      let alive = put_alive s byte put.2 in
      let p : Process = process_of (unix_of w) s in
      let its : image_of w.procs.images.kept s ≡ one.image_of (unix_of w).texts p = sym (image_here w.procs s alive holds) in
      let done = process_put p (image_of w.procs.images.kept s) byte b put.2.2.kind (ap (λ (m : Image). m.data) its) (ap (λ (m : Image). m.stack) its) in
      let then_ : system_at (with_images w new) ≡ with_byte_at (system_at w) s byte b =
      ap (λ (k : Kept). system_at (with_kept w new k)) put.3
      ∙ (λ j. record {
        unix = (memory_unix w new s alive (image_put s byte) ∙ ap (with_process (unix_of w) s) done) j;
        board = memory_board w new s alive (image_put s byte) j;
      }) in
      (s, byte, subst (λ k. IsByteOf k swap i s byte) told put.2, then_ ∙ ap (λ m. with_byte_at m s byte b) same)

  pub nobodys_in : (was : System) → w.procs.images.kept ≡ kept_in was → IsNobodys w.procs.images.kept swap i → IsNobodys (kept_in was) swap i
  nobodys_in was told none = subst (λ k. IsNobodys k swap i) told none
