-- What is kept of a system is what its parts keep: Unix and board tell all of it.
use Rattle.std.specs.Prelude.{◌<◌}
use Rattle.std.specs.List.{range_with_len}
use Rattle.std.specs.Option.{unwrap_or}
use Rattle.std.proofs.Common.{◌≡◌, ◌≢◌, ◌∙◌, ℕ, zero, suc, Bool, true, false, List, map, Option, Some, None, get_or, refl, sym, ap, subst, inl, inr, arith}
use Rattle.std.proofs.Math.ListN.{get_or-map}
use Rattle.std.proofs.lemmas.Bool.{cases_eq}
use Rattle.std.proofs.lemmas.List.{same_lists, get_or_default}
use Rattle.std.proofs.lemmas.List.FromFn.{length-map-range_with_len, get_or-map-range_with_len}
use Rattle.v6_base.specs.declared.entry.Place.{Place}
use Rattle.pick_rules.specs.declared.row.TableRow.{TableRow}
use Rattle.pick_rules.specs.declared.table.Table.{Table}
use Rattle.pick_rules.specs.Board.{text_at}
use Rattle.pick_rules.specs.Table.{row_at}
use Rattle.proc_tab.specs.declared.member.Member.{Member}
use Rattle.proc_tab.specs.Processes.{Processes, AreProcesses, member_at}
use Rattle.image_keep.specs.Kept.{Held, Keeping, Nothing, Alive, Grave, Shared, Kept, IsKept, keeping, text_of}
use Rattle.image_keep.specs.Kept as kept
use Rattle.sys_procs.specs.Process.{Process, process_by, process_in}
use Rattle.sys_procs.specs.TextTable.{Text, no_text, text_bytes}
use Rattle.sys_procs.specs.World.{processes_in, text_in, texts_in}
use Rattle.sys_procs.specs.Agree.{Free, Lives, Died, kind_by, kind_of_member, text_place, Agrees, Agree, AgreeBare, board_of}
use Rattle.abstract_unix.specs.Unix.{System, Started}
use Rattle.unix_core.specs.declared.world.World.{World}
use Rattle.unix_core.specs.declared.machine.Stage.{Stage}
use Rattle.unix_core.specs.Parts.{system_at, phase_of, IsKernel}
use Rattle.unix_core.proofs.BootKernelLemmas.{kernel_good}
use Rattle.unix_core.specs.Memory.{shared_by, kept_at, kept_by, text_by, kept_in}

-- a slot
slot_kept : (texts : List (Option Text)) (o : Option Member) (row : TableRow) (x : Keeping) (text : Option ℕ) → Agrees o row x
    → ((held : Held) → x ≡ Alive held → held.image.text ≡ text_bytes texts text) → kept_by texts (process_in o x text) row.place ≡ x
slot_kept texts None row Nothing text a e = refl
slot_kept texts None row (Alive held) text a e = absurd (cc a.image)
slot_kept texts None row (Grave u block) text a e = absurd (cc a.image)
slot_kept texts (Some m) row Nothing text a e = by m.is_dead a.image
  where
    by : (b : Bool) → Free ≡ kind_by b → kept_by texts (Some (process_by m Nothing text)) row.place ≡ Nothing
    by true f = absurd (cc f)
    by false f = absurd (cc f)
slot_kept texts (Some m) row (Alive held) text a e = ap (kept_by texts (Some (process_by m (Alive held) text))) a.place ∙ by m.is_dead refl a.image
  where
    by : (b : Bool) → m.is_dead ≡ b → Lives ≡ kind_by b → kept_at texts (process_by m (Alive held) text) held.place ≡ Alive held
    by true is f = absurd (cc f)
    by false is f = rw is (ap (λ (bytes : List ℕ). Alive (record held { image = record held.image { text = bytes } })) (sym (e held refl)))
slot_kept texts (Some m) row (Grave u block) text a e = ap (kept_by texts (Some (process_by m (Grave u block) text))) a.place ∙ by m.is_dead refl a.image
  where
    by : (b : Bool) → m.is_dead ≡ b → Died ≡ kind_by b → kept_at texts (process_by m (Grave u block) text) (Place.Swap block) ≡ Grave u block
    by true is f = rw is refl
    by false is f = absurd (cc f)

-- the bytes of a slot's text
entry_bytes : (x : Option Shared) → (unwrap_or (text_in x) no_text).bytes ≡ kept.bytes_in x
entry_bytes None = refl
entry_bytes (Some x) = refl

bytes_same : (k : Kept) (t : Option ℕ) → text_bytes (texts_in k) t ≡ kept.text_bytes k t
bytes_same k None = refl
bytes_same k (Some t) = ap (λ o. (unwrap_or o no_text).bytes) (get_or-map text_in k.texts t None) ∙ entry_bytes (get_or k.texts t None)

-- a text
text_kept : (x : Option Shared) → shared_by (text_in x) (text_place x) ≡ x
text_kept None = refl
text_kept (Some x) = refl

-- who has a text lives
told_text : (o : Option Member) (x : Keeping) (text : Option ℕ) → (kind_of_member o ≢ Lives → text ≡ None) → text_by (process_in o x text) ≡ text
told_text None x text none = sym (none (λ f. cc f))
told_text (Some m) Nothing text none = refl
told_text (Some m) (Alive held) text none = refl
told_text (Some m) (Grave u block) text none = refl

-- who has no place has nothing kept
unplaced : (texts : List (Option Text)) (o : Option Process) → kept_by texts o None ≡ Nothing
unplaced texts None = refl
unplaced texts (Some p) = refl

-- What the slots and the texts of a system are, where each slot's process is told as it is kept, and who has none has no text.
module _ (v : Processes) (t : Table) (k : Kept) (processes : AreProcesses v) (kernel : keeping k 0 ≡ Nothing)
    (each : (s : ℕ) → 0 < s → s < 50 → kept_by (texts_in k) (process_in (member_at v.slots s) (keeping k s) (text_of k s)) (row_at t s).place ≡ keeping k s)
    (textless : (s : ℕ) → s < 50 → kind_of_member (member_at v.slots s) ≢ Lives → text_of k s ≡ None) (holds : IsKept k) where
  process_is : (s : ℕ) → s < 50 → get_or (processes_in v.slots k) s None ≡ process_in (member_at v.slots s) (keeping k s) (text_of k s)
  unfolding processes_in
  process_is s low = get_or-map-range_with_len (λ s. process_in (member_at v.slots s) (keeping k s) (text_of k s)) 0 50 s s None low (omega arith)

  slot_is : (s : ℕ) → s < 50 → kept_by (texts_in k) (get_or (processes_in v.slots k) s None) (row_at t s).place ≡ keeping k s
  slot_is zero low =
      ap (λ o. kept_by (texts_in k) o (row_at t 0).place) (process_is 0 low ∙ ap (λ o. process_in o (keeping k 0) (text_of k 0)) processes.kernel)
      ∙ sym kernel
  slot_is (suc n) low =
      ap (λ o. kept_by (texts_in k) o (row_at t (suc n)).place) (process_is (suc n) low)
      ∙ each (suc n) (omega arith) low

  slots_are : map (λ s. kept_by (texts_in k) (get_or (processes_in v.slots k) s None) (row_at t s).place) (range_with_len 0 50) ≡ k.slots
  slots_are =
      let f : ℕ → Keeping = λ s. kept_by (texts_in k) (get_or (processes_in v.slots k) s None) (row_at t s).place in
      same_lists (map f (range_with_len 0 50)) k.slots (length-map-range_with_len f 0 50 ∙ sym holds.slots) (λ s d low.
      let here : s < 50 = omega (arith, low, length-map-range_with_len f 0 50) in
      get_or-map-range_with_len f 0 50 s s d here (omega arith) ∙ slot_is s here ∙ get_or_default k.slots s Nothing d (omega (arith, here, holds.slots)))

  texts_are : map (λ i. shared_by (get_or (texts_in k) i None) (text_at (board_of t k) i)) (range_with_len 0 40) ≡ k.texts
  texts_are =
      let f : ℕ → Option Shared = λ i. shared_by (get_or (texts_in k) i None) (text_at (board_of t k) i) in
      same_lists (map f (range_with_len 0 40)) k.texts (length-map-range_with_len f 0 40 ∙ sym holds.table) (λ i d low.
      let here : i < 40 = omega (arith, low, length-map-range_with_len f 0 40) in
      get_or-map-range_with_len f 0 40 i i d here (omega arith)
      ∙ ap (λ o. shared_by o (text_at (board_of t k) i)) (get_or-map text_in k.texts i None)
      ∙ ap (shared_by (text_in (get_or k.texts i None))) (get_or-map text_place k.texts i None)
      ∙ text_kept (get_or k.texts i None)
      ∙ get_or_default k.texts i None d (omega (arith, here, holds.table)))

  users_are : map (λ s. text_by (get_or (processes_in v.slots k) s None)) (range_with_len 0 50) ≡ k.users
  users_are =
      let f : ℕ → Option ℕ = λ s. text_by (get_or (processes_in v.slots k) s None) in
      same_lists (map f (range_with_len 0 50)) k.users (length-map-range_with_len f 0 50 ∙ sym holds.seats) (λ s d low.
      let here : s < 50 = omega (arith, low, length-map-range_with_len f 0 50) in
      get_or-map-range_with_len f 0 50 s s d here (omega arith)
      ∙ ap text_by (process_is s here)
      ∙ told_text (member_at v.slots s) (keeping k s) (text_of k s) (textless s here)
      ∙ get_or_default k.users s None d (omega (arith, here, holds.seats)))

  kept_all : (m : System) → m.unix.processes ≡ processes_in v.slots k → m.unix.texts ≡ texts_in k → m.board ≡ board_of t k → kept_in m ≡ k
  unfolding kept_in
  kept_all m ps ts board = rw ps (rw ts (rw board (
      ap (λ xs. record {
        slots = xs;
        texts = map (λ i. shared_by (get_or (texts_in k) i None) (text_at (board_of t k) i)) (range_with_len 0 40);
        users = map (λ s. text_by (get_or (processes_in v.slots k) s None)) (range_with_len 0 50);
        core = k.core;
      }) slots_are
      ∙ ap (λ xs. record { slots = k.slots; texts = xs; users = map (λ s. text_by (get_or (processes_in v.slots k) s None)) (range_with_len 0 50); core = k.core }) texts_are
      ∙ ap (λ xs. record { slots = k.slots; texts = k.texts; users = xs; core = k.core }) users_are)))

module _ (v : Processes) (t : Table) (k : Kept) (holds : IsKept k) where
  alive_kept : (s : ℕ) → Agrees (member_at v.slots s) (row_at t s) (keeping k s)
      → kept_by (texts_in k) (process_in (member_at v.slots s) (keeping k s) (text_of k s)) (row_at t s).place ≡ keeping k s
  alive_kept s a =
      slot_kept (texts_in k) (member_at v.slots s) (row_at t s) (keeping k s) (text_of k s) a
      (λ held is. ap (λ x. (kept.image_in x).text) (sym is) ∙ holds.text s (held, is) ∙ sym (bytes_same k (text_of k s)))

  -- Where rows, slots and images belong together, what is kept is what is told.
  pub kept_is : AreProcesses v → Agree v t k → (m : System) → m.unix.processes ≡ processes_in v.slots k → m.unix.texts ≡ texts_in k
      → m.board ≡ board_of t k → kept_in m ≡ k
  kept_is processes agree = kept_all v t k processes agree.images (λ s above low. alive_kept s (agree.each s above low)) textless holds
    where
      textless : (s : ℕ) → s < 50 → kind_of_member (member_at v.slots s) ≢ Lives → text_of k s ≡ None
      textless zero low dead = agree.textless
      textless (suc n) low dead = let above : 0 < suc n = omega arith in sym (agree.text (suc n) above low) ∙ (agree.each (suc n) above low).textless dead

  -- So it is while a process has neither its old image nor its new one.
  pub bare_is : (s : ℕ) → AreProcesses v → AgreeBare v t k s → (m : System) → m.unix.processes ≡ processes_in v.slots k → m.unix.texts ≡ texts_in k
      → m.board ≡ board_of t k → kept_in m ≡ k
  bare_is s processes bare =
      kept_all v t k processes bare.images (λ r above low. elim (cases_eq r s) [
        | inl here ↦
            subst (λ q. kept_by (texts_in k) (process_in (member_at v.slots q) (keeping k q) (text_of k q)) (row_at t q).place ≡ keeping k q) (sym here)
            (ap (kept_by (texts_in k) (process_in (member_at v.slots s) (keeping k s) (text_of k s))) bare.bare.place
            ∙ unplaced (texts_in k) (process_in (member_at v.slots s) (keeping k s) (text_of k s)) ∙ sym bare.bare.image)
        | inr other ↦ alive_kept r (bare.others r above low other)
      ]) textless holds
    where
      textless : (r : ℕ) → r < 50 → kind_of_member (member_at v.slots r) ≢ Lives → text_of k r ≡ None
      textless zero low dead = bare.textless
      textless (suc n) low dead =
          let above : 0 < suc n = omega arith in
          elim (cases_eq (suc n) s) [
            | inl here ↦ absurd (dead (ap (λ q. kind_of_member (member_at v.slots q)) here ∙ bare.bare.lives))
            | inr other ↦ sym (bare.text (suc n) above low) ∙ (bare.others (suc n) above low other).textless dead
          ]

-- between two events of a run that goes on
pub told : (at : Stage) (w : World) → IsKernel at w → phase_of at ≡ Started → AreProcesses w.procs.rows → IsKept w.procs.images.kept
    → w.procs.images.kept ≡ kept_in (system_at w)
told at w kernel started processes holds =
    sym (kept_is w.procs.rows w.procs.table w.procs.images.kept holds processes (kernel_good at w started kernel).agree (system_at w) refl refl refl)
