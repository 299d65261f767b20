-- What a call has done, from what it shows and from what it leaves.
use Rattle.std.proofs.Common.{◌≡◌, ◌∙◌, ◌<◌, ℕ, Bool, true, false, List, length, get_or, Option, Some, None, Result, Ok, Err, refl, sym, ap, subst, arith}
use Rattle.v6_base.specs.Trace.{Taken, Took}
use Rattle.v6_base.specs.declared.answer.Answer.{Answer}
use Rattle.v6_base.specs.declared.answer.Answer.TheVariants.{Ret}
use Rattle.v6_base.specs.declared.entry.PanicKind.{PanicKind}
use Rattle.v6_base.proofs.Took.{took_none}
use Rattle.pick_rules.specs.Logged.{Logged, Stop, left_by}
use Rattle.fs_nodes.specs.FileSystem.{FileSystem}
use Rattle.sys_procs.specs.declared.procs.Procs.{Procs}
use Rattle.u_area.specs.declared.area.UArea.{UArea}
use Rattle.sys_procs.specs.Process.{Process}
use Rattle.sys_procs.specs.World.{World, process_of, change}
use Rattle.sys_procs.specs.Comes.{Comes, comes, returns}
use Rattle.sys_procs.specs.Break.{grown_by}
use Rattle.sys_procs.specs.Agree.{answered, ended_by}
use Rattle.sys_procs.specs.Handed.{IsAlive, board, came, handed}
use Rattle.sys_procs.specs.Done.{HasDone, HasLeft, HasEnded, HasGrown}
use Rattle.sys_procs.proofs.Slots.{fifty_processes}
use Rattle.sys_procs.proofs.Alive.{put_here}

-- by what the log says
pub left_logged : {old new : Procs} {fs : FileSystem} {start end : Taken} {c : Comes} {l : Logged World} → came old c ≡ l
    → handed new fs ≡ left_by l.stop c.state → board new ≡ l.board → Took start l.items end → HasLeft old new fs start end c
left_logged {old} {new} {fs} {start} {end} {c} {l} log state shown items = record {
  state = state ∙ sym (ap (λ (x : Logged World). left_by x.stop c.state) log);
  shown = shown ∙ sym (ap (λ (x : Logged World). x.board) log);
  items = subst (λ (x : Logged World). Took start x.items end) (sym log) items;
}

pub done_left : {old new : Procs} {fs : FileSystem} {result : Result Answer PanicKind} {start end : Taken} {c : Comes}
    → result ≡ answered (came old c).stop c.answer → HasLeft old new fs start end c → HasDone old new fs result start end c
done_left {old} {new} {fs} {result} {start} {end} {c} answer left =
    record { answer = answer; state = left.state; shown = left.shown; items = left.items }

pub done_logged : {old new : Procs} {fs : FileSystem} {result : Result Answer PanicKind} {start end : Taken} {c : Comes} {l : Logged World}
    → came old c ≡ l → result ≡ answered l.stop c.answer → handed new fs ≡ left_by l.stop c.state → board new ≡ l.board
    → Took start l.items end → HasDone old new fs result start end c
done_logged {old} {new} {fs} {result} {start} {end} {c} {l} log answer state shown items =
    done_left (answer ∙ sym (ap (λ (x : Logged World). answered x.stop c.answer) log)) (left_logged log state shown items)

pub ended_logged : {old new : Procs} {fs : FileSystem} {result : Result
    (Unit {0}) PanicKind} {start end : Taken} {c : Comes} {l : Logged World}
    → came old c ≡ l → result ≡ ended_by l.stop → handed new fs ≡ left_by l.stop c.state → board new ≡ l.board
    → Took start l.items end → HasEnded old new fs result start end c
ended_logged {old} {new} {fs} {result} {start} {end} {c} {l} log answer state shown items = record {
  answer = answer ∙ sym (ap (λ (x : Logged World). ended_by x.stop) log);
  left = left_logged log state shown items;
}

-- the row, in its own words
pub done_as : {old new : Procs} {fs : FileSystem} {result : Result Answer PanicKind} {start end : Taken} {c row : Comes} → c ≡ row
    → HasDone old new fs result start end c → HasDone old new fs result start end row
done_as {old} {new} {fs} {result} {start} {end} is done =
    let P : Comes → Type 0 = λ x. HasDone old new fs result start end x in subst P is done

pub ended_as : {old new : Procs} {fs : FileSystem} {result : Result (Unit {0}) PanicKind} {start end : Taken} {c row : Comes}
    → c ≡ row
    → HasEnded old new fs result start end c → HasEnded old new fs result start end row
ended_as {old} {new} {fs} {result} {start} {end} is ended =
    let P : Comes → Type 0 = λ x. HasEnded old new fs result start end x in subst P is ended

-- a call that shows nothing
pub done_none : {old new : Procs} {fs : FileSystem} {result : Result Answer PanicKind} {t : Taken} {c : Comes} (w : World)
    (a : Answer)
    → comes w a ≡ c → result ≡ Ok a → handed new fs ≡ w → board new ≡ board old → HasDone old new fs result t t c
done_none {old} {new} {fs} {result} {t} {c} w a is answer state same =
    done_as is (record { answer = answer; state = state; shown = same; items = took_none t })

-- An end that didn't stop, and one that did.
pub not_stopped : (o : Option (Stop World)) (u : Unit {0}) → ended_by o ≡ Ok u → o ≡ None
not_stopped None u e = refl
not_stopped (Some stop) u e = absurd (cc e)

pub stopped : (o : Option (Stop World)) (kind : PanicKind) (answer : Answer) → ended_by o ≡ Err kind
    → answered o answer ≡ Err kind
stopped None kind answer e = absurd (cc e)
stopped (Some stop) kind answer e = let same : stop.why ≡ kind = cc e in ap (λ k. Err k) same

grown_stopped : (o : Option (Stop World)) (kind : PanicKind) (grows : Bool) → ended_by o ≡ Err kind → grown_by o grows ≡ Err kind
grown_stopped None kind grows e = absurd (cc e)
grown_stopped (Some stop) kind grows e = let same : stop.why ≡ kind = cc e in ap (λ k. Err k) same

-- a call that answers as this end does
pub done_on : {old new : Procs} {fs : FileSystem} {r : Result
    (Unit {0}) PanicKind} {result : Result Answer PanicKind} {start end : Taken} {c : Comes}
    (u : Unit {0}) → r ≡ Ok u → result ≡ Ok c.answer → HasEnded old new fs r start end c → HasDone old new fs result start end c
done_on {old} {new} {fs} {r} {result} {start} {end} {c} u ok answer ended =
    done_left (answer ∙ sym (ap (λ (o : Option (Stop World)). answered o c.answer)
    (not_stopped (came old c).stop u (sym ended.answer ∙ ok)))) ended.left

pub done_stopped : {old new : Procs} {fs : FileSystem} {r : Result (Unit {0}) PanicKind} {start end : Taken} {c : Comes}
    (kind : PanicKind) → r ≡ Err kind → HasEnded old new fs r start end c → HasDone old new fs (Err kind) start end c
done_stopped {old} {new} {fs} {r} {start} {end} {c} kind err ended =
    done_left (sym (stopped (came old c).stop kind c.answer (sym ended.answer ∙ err))) ended.left

-- A call that changes a process and lets its registers stay answers so.
pub answer_stays : (p : Procs) (fs : FileSystem) (s : ℕ) (rule : Process → Process) (u : UArea) → IsAlive p s
    → u ≡ (process_of (handed p fs) s).u → ((q : Process) → (rule q).u.r ≡ q.u.r)
    → Ret (get_or u.r 0 0) (get_or u.r 1 0) ≡ (returns (change (handed p fs) s rule) s).answer
answer_stays p fs s rule u alive is stays =
    let w : World = handed p fs in
    let low : s < length w.processes = let below = alive.below in omega (arith, below, fifty_processes p.rows.slots p.images.kept) in
    let r : u.r ≡ (process_of (change w s rule) s).u.r =
    ap (λ (v : UArea). v.r) is ∙ sym (stays (process_of w s))
    ∙ sym (ap (λ (q : Process). q.u.r) (put_here w.processes s (rule (process_of w s)) low)) in
    ap (λ (l : List ℕ). Ret (get_or l 0 0) (get_or l 1 0)) r

-- The growth of a stack.
module _ {old new : Procs} {fs : FileSystem} (w : World) (s : ℕ) where
  pub grown_on : {r : Result (Unit {0}) PanicKind} {start end : Taken} {c : Comes} {row : Option Comes} (u : Unit {0})
      → r ≡ Ok u → Some c ≡ row
      → HasEnded old new fs r start end c → HasGrown old new fs w s (Ok true) start end row
  grown_on {r} {start} {end} {c} {row} u ok is ended =
      let P : Option Comes → Type 0 = λ x. HasGrown old new fs w s (Ok true) start end x in
      subst P is (record {
        answer = sym (ap (λ (o : Option (Stop World)). grown_by o true)
            (not_stopped (came old c).stop u (sym ended.answer ∙ ok)));
        left = ended.left;
      })

  pub grown_no_further : {r : Result (Unit {0}) PanicKind} {start end : Taken} {c : Comes} {row : Option Comes}
      (kind : PanicKind) → r ≡ Err kind
      → Some c ≡ row → HasEnded old new fs r start end c → HasGrown old new fs w s (Err kind) start end row
  grown_no_further {r} {start} {end} {c} {row} kind err is ended =
      let P : Option Comes → Type 0 = λ x. HasGrown old new fs w s (Err kind) start end x in
      subst P is (record {
        answer = sym (grown_stopped (came old c).stop kind true (sym ended.answer ∙ err));
        left = ended.left;
      })

  pub grown_none : {t : Taken} {row : Option Comes} → None ≡ row → handed new fs ≡ w → board new ≡ board old
      → HasGrown old new fs w s (Ok false) t t row
  grown_none {t} {row} is state same =
      let P : Option Comes → Type 0 = λ x. HasGrown old new fs w s (Ok false) t t x in
      subst P is (record { answer = refl; left = record { state = state; shown = same; items = took_none t } })
