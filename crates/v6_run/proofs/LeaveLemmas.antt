-- The disks that a run leaves are written one after the other.
use Rattle.std.proofs.Common.{◌≡◌, ◌&&◌, Bool, true, false, Option, Some, None, is_some, ℕ, Result, Ok, Err, OnOk, IfErr, MatchResult, List, [], ◌++◌, refl, sym, ◌∙◌, ap, subst}
use Rattle.v6_base.specs.Trace.{Item}
use Rattle.v6_port.specs.declared.host.OutPort.{OutPort}
use Rattle.v6_port.specs.declared.host.OutPort.TheVariants as out_port
use Rattle.v6_port.specs.Outside.{Port, Out, same, PortState, Outside, Tells, IsOpen, OnlyAt}
use Rattle.v6_port.specs.Causes.{Calm, FaultAt}
use Rattle.v6_port.proofs.CauseLemmas.{same_is, still_tells, only_then, calm_then, fault_then}
use Rattle.fs_codec.specs.Store.{Store}
use Rattle.fs_laws.specs.Rest.{SameAround}
use Rattle.fs_nodes.specs.Disks.{Between}
use Rattle.fs_nodes.specs.FileSystem.{SecondStands}
use Rattle.v6_run.specs.Ports.{final_of, second_of, HasShown, HasShownFronts}
use Rattle.v6_run.specs.Fronts.{HoldsFront}
use Rattle.v6_run.specs.Final.{second_text}
use Rattle.v6_run.specs.Outputs.{is_shown, is_other, is_left}
use Rattle.v6_run.specs.Opening.{Leaves}
use Rattle.v6_run.proofs.LinePorts.{right_true}
use Rattle.v6_run.proofs.CauseLemmas.{by_test, only_within, left_false, right_false}
use Rattle.v6_run.proofs.FrontLemmas.{front_of_nothing, front_of_all}

-- the blocks of a second disk are there where its store is
pub second_there : (stored : Option (List (List ℕ))) (store : Option Store) → SecondStands stored store → is_some stored ≡ is_some store
second_there None None stands = refl
second_there None (Some store) stands = absurd stands
second_there (Some blocks) None stands = absurd stands
second_there (Some blocks) (Some store) stands = refl

-- nor does a second disk come or go
pub second_stays : (old new : Option (List (List ℕ))) → Between SameAround old new → is_some new ≡ is_some old
second_stays None None rest = refl
second_stays None (Some new) rest = absurd rest
second_stays (Some old) None rest = absurd rest
second_stays (Some old) (Some new) rest = refl

-- whether a port is open, after a call at one that stays open
pub open_step : (p : OutPort) (a b : Outside) → OnlyAt (same (Out p)) a b → IsOpen a (Out p) → IsOpen b (Out p) → (q : OutPort) → (b.port (Out q)).is_open ≡ (a.port (Out q)).is_open
open_step p a b only before after q = by_test (same (Out p) (Out q)) _
    (λ is. subst (λ (r : Port). (b.port r).is_open ≡ (a.port r).is_open) (same_is (Out p) (Out q) is) (after ∙ sym before))
    (λ other. ap (λ (state : PortState). state.is_open) (only.others (Out q) other))

-- where there is no second disk, nothing is written of it
pub none_text : (stored : Option (List (List ℕ))) → is_some stored ≡ false → second_text stored ≡ []
none_text None none = refl
none_text (Some blocks) none = absurd (cc none)

pub none_only : (a : Outside) (two : Bool) → OnlyAt (is_other two) a a
none_only a two = record { fixed = refl; others = λ q other. refl }

pub other_only : (two : Bool) (a b : Outside) → two ≡ true → OnlyAt (same (Out out_port.Second)) a b → OnlyAt (is_other two) a b
other_only two a b is only = only_within _ _ _ _ (λ q other. ap (λ t. t && same (Out out_port.Second) q) (sym is) ∙ other) only

pub other_named : (two : Bool) → two ≡ true → is_other two (Out out_port.Second) ≡ true
other_named two is = ap (λ t. t && same (Out out_port.Second) (Out out_port.Second)) is

module _ (two : Bool) (disk other : List ℕ) (a b : Outside) (only : OnlyAt (same (Out out_port.Final)) a b) (before : IsOpen a (Out out_port.Final)) (after : IsOpen b (Out out_port.Final)) where
  only_first : OnlyAt (is_left two) a b
  only_first = only_within _ _ _ _ (λ q not. left_false (same (Out out_port.Final) q) (is_other two q) not) only

  second_still : (second_of b).bytes ≡ (second_of a).bytes
  second_still = ap (λ (state : PortState). state.bytes) (only.others (Out out_port.Second) refl)

  -- the first can't be written
  pub leaves_not : (Tells a → HoldsFront (final_of a).bytes disk (final_of b).bytes) → FaultAt (Out out_port.Final) true a b → Leaves two disk other (Err out_port.Final) a b
  leaves_not front fault = record {
    only = only_first;
    is_open = open_step out_port.Final a b only before after;
    whole = tt;
    front = λ told. (front told, subst (HoldsFront (second_of a).bytes other) (sym second_still) (front_of_nothing (second_of a).bytes other));
    cause = fault;
    named = refl;
    first = λ before. absurd (let never : false ≡ true = before in cc);
  }

  -- the first is written, and then what there is of the second
  module _ (c : Outside) (whole : Tells a → (final_of b).bytes ≡ (final_of a).bytes ++ disk) (calm : Calm a b) (later : OnlyAt (is_other two) b c)
      (still : two ≡ true → IsOpen b (Out out_port.Second)) (then_open : two ≡ true → IsOpen c (Out out_port.Second)) where
    only_both : OnlyAt (is_left two) a c
    only_both = only_then _ a b c only_first (only_within _ _ _ _ (λ q not. right_false (same (Out out_port.Final) q) (is_other two q) not) later)

    open_then : (p : OutPort) → (c.port (Out p)).is_open ≡ (b.port (Out p)).is_open
    open_then p = by_test (is_other two (Out p)) _
        (λ is. let both = parts two (same (Out out_port.Second) (Out p)) is in
        subst (λ (r : Port). (c.port r).is_open ≡ (b.port r).is_open) (same_is (Out out_port.Second) (Out p) both.1) (then_open both.0 ∙ sym (still both.0)))
        (λ not. ap (λ (state : PortState). state.is_open) (later.others (Out p) not))
      where
        parts : (s t : Bool) → (s && t) ≡ true → (s ≡ true) × (t ≡ true)
        parts true t is = (refl, is)
        parts false t is = absurd (cc is)

    open_both : (p : OutPort) → (c.port (Out p)).is_open ≡ (a.port (Out p)).is_open
    open_both p = open_then p ∙ open_step out_port.Final a b only before after p

    tells_b : Tells a → Tells b
    tells_b told = still_tells _ a b only_first told

    final_not : (t : Bool) → is_other t (Out out_port.Final) ≡ false
    final_not true = refl
    final_not false = refl

    final_whole : Tells a → (final_of c).bytes ≡ (final_of a).bytes ++ disk
    final_whole told = ap (λ (state : PortState). state.bytes) (later.others (Out out_port.Final) (final_not two)) ∙ whole told

    second_front : (Tells b → HoldsFront (second_of b).bytes other (second_of c).bytes) → Tells a → HoldsFront (second_of a).bytes other (second_of c).bytes
    second_front front told = subst (λ l. HoldsFront l other (second_of c).bytes) second_still (front (tells_b told))

    pub leaves_then : (r : Result (Unit {0}) OutPort) → OnOk r (Tells b → (second_of c).bytes ≡ (second_of b).bytes ++ other)
        → (Tells b → HoldsFront (second_of b).bytes other (second_of c).bytes) → MatchResult r (λ _. Calm b c) (λ port. FaultAt (Out port) true b c)
        → IfErr r (λ port. is_other two (Out port) ≡ true) → Leaves two disk other r a c
    leaves_then (Ok x) all front cause named = record {
      only = only_both;
      is_open = open_both;
      whole = λ told. (final_whole told, all (tells_b told) ∙ ap (λ l. l ++ other) second_still);
      front = λ told. (front_of_all (final_of a).bytes disk (final_of c).bytes (final_whole told), second_front front told);
      cause = calm_then a b c calm cause;
      named = tt;
      first = tt;
    }
    leaves_then (Err port) all front cause named = record {
      only = only_both;
      is_open = open_both;
      whole = tt;
      front = λ told. (front_of_all (final_of a).bytes disk (final_of c).bytes (final_whole told), second_front front told);
      cause = fault_then (Out port) true a b c only_first.fixed calm cause;
      named = right_true (same (Out out_port.Final) (Out port)) (is_other two (Out port)) named;
      first = λ before. final_whole;
    }

-- The same by another number of lines, and of disks, which is the same.
pub leaves_on : (m n : Bool) (disk other : List ℕ) (r : Result (Unit {0}) OutPort) (a b : Outside) → m ≡ n → Leaves m disk other r a b → Leaves n disk other r a b
leaves_on m n disk other r a b is = subst (λ two. Leaves two disk other r a b) is

pub left_on : (m n : Bool) (q : Port) → m ≡ n → is_left m q ≡ true → is_left n q ≡ true
left_on m n q is = subst (λ two. is_left two q ≡ true) is

pub shown_on : (m n : ℕ) (a b : Outside) → m ≡ n → OnlyAt (is_shown m) a b → OnlyAt (is_shown n) a b
shown_on m n a b is = subst (λ lines. OnlyAt (is_shown lines) a b) is

pub named_on : (m n : ℕ) (q : Port) → m ≡ n → is_shown m q ≡ true → is_shown n q ≡ true
named_on m n q is = subst (λ lines. is_shown lines q ≡ true) is

pub all_on : (m n : ℕ) (items : List Item) (a b : Outside) → m ≡ n → (Tells a → HasShown m items a b) → Tells a → HasShown n items a b
all_on m n items a b is = subst (λ lines. Tells a → HasShown lines items a b) is

pub fronts_on : (m n : ℕ) (items : List Item) (a b : Outside) → m ≡ n → (Tells a → HasShownFronts m items a b) → Tells a → HasShownFronts n items a b
fronts_on m n items a b is = subst (λ lines. Tells a → HasShownFronts lines items a b) is
