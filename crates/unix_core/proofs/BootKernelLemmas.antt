-- What a kernel is beside its events: the start of its run, the switches, and the end.
use Rattle.std.proofs.Common.{◌≡◌, ◌≤◌, ℕ, [], ◌∷◌, refl, ap}
use Rattle.v6_base.specs.Trace.{Log, Took, Taken}
use Rattle.v6_base.specs.declared.entry.Entry.TheVariants.{Boot}
use Rattle.v6_base.proofs.Took.{took_then}
use Rattle.fs_nodes.specs.Keys.{synced}
use Rattle.fs_nodes.specs.FileSystem.{FileSystem}
use Rattle.unix_core.specs.declared.world.World.{World}
use Rattle.unix_core.specs.declared.machine.Stage.{Stage}
use Rattle.unix_core.specs.declared.machine.Stage.TheVariants as stage
use Rattle.abstract_unix.specs.Unix.{New, Started}
use Rattle.abstract_unix.specs.Turn.{pass_of, settled_after}
use Rattle.abstract_unix.specs.Runs.{start_of, event_of, Switch, Disk, finished}
use Rattle.unix_core.specs.Memory.{kept_in}
use Rattle.unix_core.specs.State.{KernelState}
use Rattle.unix_core.specs.Parts.{unix_of, board_in, system_at, phase_of, IsGood, IsUser, IsCovered, IsKernel}
use Rattle.unix_core.proofs.SlotWorlds.{kernel_slots}
use Rattle.unix_core.proofs.GoingLemmas.{going_same}
use Rattle.unix_core.proofs.CountLemmas.{counted_same, counted_set}

pub kernel_good : (at : Stage) (w : World) → phase_of at ≡ Started → IsKernel at w → IsGood w
kernel_good stage.New w started kernel = (kernel.new refl).good
kernel_good (stage.Running f) w started kernel = (kernel.running f refl).user.ready.good
kernel_good stage.Resting w started kernel = (kernel.resting refl).good
kernel_good stage.Stopped w started kernel = absurd (cc started)
kernel_good stage.Finished w started kernel = absurd (cc started)

-- The first line of the log tells of core and of the time.
pub start_items : (w : World) → IsGood w → (a b c : Taken) → Took a (Log (Boot w.core w.procs.table.now) ∷ []) b
    → Took b (settled_after (pass_of (system_at w))).items c → Took a (start_of (system_at w)).items c
start_items w good a b c first second =
    let core = good.core in
    took_then a b c (Log (Boot w.core w.procs.table.now) ∷ []) (settled_after (pass_of (system_at w))).items (start_of (system_at w)).items first second
    (λ i. Log (Boot (core i) w.procs.table.now) ∷ (settled_after (pass_of (system_at w))).items)

-- what a kernel is to its caller, by its parts
abbrev pub told_by : Stage → World → KernelState
told_by at w = record {
  system = system_at w;
  kept = w.procs.images.kept;
  core = w.procs.images.core;
  swap = w.procs.images.swap;
  blocks = w.files.tree.nodes.blocks;
  stored = w.files.tree.nodes.stored;
  phase = phase_of at;
}

-- Where images and tree are as they were, an event has changed the system alone.
pub system_alone : (at now : Stage) (w v : World) → v.procs.images ≡ w.procs.images → v.files.tree ≡ w.files.tree → phase_of now ≡ phase_of at
    → told_by now v ≡ record (told_by at w) { system = system_at v }
system_alone at now w v images tree phase = λ i. record {
  system = system_at v;
  kept = (images i).kept;
  core = (images i).core;
  swap = (images i).swap;
  blocks = (tree i).nodes.blocks;
  stored = (tree i).nodes.stored;
  phase = phase i;
}

-- Nothing of the parts but the Unix itself knows of the switches.
module _ (w : World) (word : ℕ) where
  abbrev pub switched : World
  switched = record w { procs = record w.procs { switches = word } }

  switched_good : IsGood w → IsGood switched
  switched_good good = record {
    agree = good.agree;
    owed = good.owed;
    pending = going_same (unix_of w) (unix_of switched) refl refl good.pending;
    marks = good.marks;
    mounts = good.mounts;
    running = good.running;
    rooms = good.rooms;
    core = good.core;
  }

  switched_user : (s : ℕ) → IsUser s w → IsUser s switched
  switched_user s user = record {
    ready = record { good = switched_good user.ready.good; runs = user.ready.runs; user = user.ready.user };
    user = user.user;
    settled = user.settled;
  }

  -- and nothing that is kept
  switched_covered : IsCovered w → IsCovered switched
  unfolding kept_in
  switched_covered covered = covered

  pub switched_kernel : (at : Stage) → IsKernel at w → IsKernel at switched
  switched_kernel at kernel = record {
    new = λ e. let was = kernel.new e in record { good = switched_good was.good; runs = was.runs; nobody_out = was.nobody_out };
    stopped = λ e. switched_covered (kernel.stopped e);
    finished = λ e. switched_covered (kernel.finished e);
    running = λ f e. let was = kernel.running f e in record { user = switched_user f.slot was.user; fixed = was.fixed };
    resting = λ e. let was = kernel.resting e in record {
      good = switched_good was.good;
      settled = was.settled;
      idle = was.idle;
      calls = was.calls;
    };
    counted = λ goes. counted_same w.slots (unix_of w) (unix_of switched) refl refl refl (kernel.counted goes);
    within = kernel.within;
  }

  pub switched_system : system_at switched ≡ (event_of (Switch word) (system_at w)).next
  switched_system = refl

-- Nor of how long a transfer takes, but for the count.
module _ (w : World) (count : ℕ) (most : count ≤ 999999999) where
  abbrev pub set : World
  set = record w { slots = record w.slots { disk = count } }

  pub set_kernel : (at : Stage) → IsKernel at w → IsKernel at set
  set_kernel at kernel = kernel_slots w (record w.slots { disk = count }) at kernel.within
      (λ goes. counted_set w.slots count (unix_of w) (unix_of set) most refl refl refl (kernel.counted goes)) kernel

  pub set_system : system_at set ≡ (event_of (Disk count) (system_at w)).next
  set_system = refl

-- All is on the disk: the file system is this one.
module _ (w : World) (new : FileSystem) (store : new.store ≡ synced w.files.tree.nodes.store w.procs.table.now) where
  abbrev pub updated : World
  updated = record w { files = record w.files { tree = record w.files.tree { nodes = new } } }

  pub updated_system : system_at updated ≡ finished (system_at w)
  updated_system =
      ap (λ s. record { unix = record (unix_of w) { store = s }; board = board_in w }) store

  -- what is kept knows nothing of the disk
  pub updated_covered : IsCovered w → IsCovered updated
  unfolding kept_in
  updated_covered covered = covered

-- A run that has stopped keeps nothing together but its images, and one that is finished its files beside.
pub stopped_kernel : (w : World) → IsCovered w → w.slots.left ≤ w.slots.due → IsKernel stage.Stopped w
stopped_kernel w covered within = record {
  new = λ e. absurd (cc e);
  stopped = λ e. covered;
  finished = λ e. absurd (cc e);
  running = λ f e. absurd (cc e);
  resting = λ e. absurd (cc e);
  counted = λ goes. absurd (cc goes);
  within = within;
}

pub finished_kernel : (w : World) → IsCovered w → w.slots.left ≤ w.slots.due → IsKernel stage.Finished w
finished_kernel w covered within = record {
  new = λ e. absurd (cc e);
  stopped = λ e. absurd (cc e);
  finished = λ e. covered;
  running = λ f e. absurd (cc e);
  resting = λ e. absurd (cc e);
  counted = λ goes. absurd (cc goes);
  within = within;
}

-- the stage of a run that hasn't been started
pub new_stage : (at : Stage) → phase_of at ≡ New → at ≡ stage.New
new_stage stage.New is = refl
new_stage (stage.Running f) is = absurd (cc is)
new_stage stage.Resting is = absurd (cc is)
new_stage stage.Stopped is = absurd (cc is)
new_stage stage.Finished is = absurd (cc is)
