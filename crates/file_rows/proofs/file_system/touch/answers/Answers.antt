use Rattle.std.proofs.Common.{◌≡◌, ◌<◌, ◌≤◌, inl, inr, ℕ, Bool, sym, subst}
use Rattle.std.proofs.lemmas.Bool.{cases_lt}
use Rattle.fs_codec.specs.Fields.{fields_of}
use Rattle.fs_codec.specs.Held.{addresses}
use Rattle.fs_codec.specs.declared.node.DiskNode.{DiskNode}
use Rattle.fs_laws.specs.Whole.{IsApart}
use Rattle.fs_blocks.specs.State.{State, disk}
use Rattle.fs_blocks.specs.Touch.{TakesPath}
use Rattle.file_rows.proofs.file_system.touch.answers.Goals as goal

-- a call leaves the blocks of the file apart, whatever its answer
still : (Answer : Type 0) (old new : State) (node next : DiskNode) (n : ℕ) (t : Bool) → IsApart (disk old) (addresses (disk old) (fields_of node)) → (32767 < n → Answer × (new ≡ old) × (next ≡ node))
    → (n ≤ 32767 → TakesPath old (fields_of node) n new (fields_of next) t) → IsApart (disk new) (addresses (disk new) (fields_of next))
still Answer old new node next n t apart large takes = elim (cases_lt 32767 n) [
  | inl big ↦
      (let l = large big in
      let P : State → Type 0 = λ s. IsApart (disk s) (addresses (disk s) (fields_of next)) in
      let Q : DiskNode → Type 0 = λ d. IsApart (disk old) (addresses (disk old) (fields_of d)) in
      subst P (sym l.1) (subst Q (sym l.2) apart))
  | inr low ↦ (takes low).moves.apart
]

pub loop-number-preserved : goal.loop-number-preserved
loop-number-preserved c =
    still _ c.loop-number.volume.state c.touch-found.new.self.state c.loop-number.node c.touch-found.new.node _ _ c.loop-number.invariant c.touch-found.ensures.large c.touch-found.ensures.takes
