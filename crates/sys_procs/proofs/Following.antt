-- Effects that follow others: what the log says of all, and what a call has done that does one part after another.
use Rattle.std.proofs.Common.{◌≡◌, ◌∙◌, List, [], ◌∷◌, ◌++◌, fold, append_assoc, append-nil, Option, Some, None, Result, Err, refl, sym, ap, subst}
use Rattle.v6_base.specs.Trace.{Item, Log, Taken, Took}
use Rattle.v6_base.specs.declared.answer.Answer.{Answer}
use Rattle.v6_base.specs.declared.entry.Entry.TheVariants as line
use Rattle.v6_base.specs.declared.entry.PanicKind.{PanicKind}
use Rattle.v6_base.proofs.Took.{took_more}
use Rattle.fs_nodes.specs.FileSystem.{FileSystem}
use Rattle.pick_rules.specs.Board.{Board}
use Rattle.pick_rules.specs.Effects.{Effect, Came, Lets, Stops, came}
use Rattle.pick_rules.specs.Logged.{Logged, Stop, left_by, logged, log_one, nothing_logged, unless_stopped, with_item, with_what_came}
use Rattle.pick_rules.proofs.Stopping.{stays_stopped}
use Rattle.sys_procs.specs.declared.procs.Procs.{Procs}
use Rattle.sys_procs.specs.World.{World}
use Rattle.sys_procs.specs.Comes.{Comes}
use Rattle.sys_procs.specs.Agree.{answered}
use Rattle.sys_procs.specs.Handed.{board}
use Rattle.sys_procs.specs.Handed as parts
use Rattle.sys_procs.specs.Done.{HasDone, HasLeft}

-- a log with these items in front
abbrev pub after_items : List Item → Logged World → Logged World
after_items xs l = record l { items = xs ++ l.items }

item_after : (xs : List Item) (l : Logged World) (x : Item) → with_item (after_items xs l) x ≡ after_items xs (with_item l x)
item_after xs l x = ap (λ items. record (with_item l x) { items = items }) (append_assoc xs l.items (x ∷ []))

came_after : (xs : List Item) (l : Logged World) (c : Came World) → with_what_came (after_items xs l) c
    ≡ after_items xs (with_what_came l c)
came_after xs l (Lets x) = item_after xs l x
came_after xs l (Stops kind before) =
    ap (λ (m : Logged World). record m { stop = Some (record { why = kind; before = before }) })
    (item_after xs l (Log (line.Panic kind)))

one_after : (xs : List Item) (l : Logged World) (e : Effect World) → log_one (after_items xs l) e ≡ after_items xs (log_one l e)
unfolding log_one
one_after xs l e = by l.stop
  where
    by : (o : Option (Stop World)) → unless_stopped o (after_items xs l) (with_what_came (after_items xs l) (came l.board e))
        ≡ after_items xs (unless_stopped o l (with_what_came l (came l.board e)))
    by None = came_after xs l (came l.board e)
    by (Some stop) = refl

all_after : (xs : List Item) (l : Logged World) (es : List (Effect World)) → fold log_one (after_items xs l) es
    ≡ after_items xs (fold log_one l es)
all_after xs l [] = refl
all_after xs l (e ∷ es) = ap (λ (m : Logged World). fold log_one m es) (one_after xs l e) ∙ all_after xs (log_one l e) es

fold_both : (l : Logged World) (es fs : List (Effect World)) → fold log_one l (es ++ fs) ≡ fold log_one (fold log_one l es) fs
fold_both l [] fs = refl
fold_both l (e ∷ es) fs = fold_both (log_one l e) es fs

pub logged_after : (b : Board) (es fs : List (Effect World)) → (logged b es).stop ≡ None
    → logged b (es ++ fs) ≡ after_items (logged b es).items (logged (logged b es).board fs)
logged_after b es fs free =
    let l : Logged World = logged b es in
    let whole : l ≡ after_items l.items (nothing_logged l.board) =
    (λ i. record { items = sym (append-nil l.items) i; board = l.board; stop = free i }) in
    fold_both (nothing_logged b) es fs
    ∙ (ap (λ (m : Logged World). fold log_one m fs) whole ∙ all_after l.items (nothing_logged l.board) fs)

-- Nothing follows what has stopped.
pub logged_stopped : (b : Board) (es fs : List (Effect World)) (stop : Stop World) → (logged b es).stop ≡ Some stop
    → logged b (es ++ fs) ≡ logged b es
logged_stopped b es fs stop is =
    let l : Logged World = logged b es in
    let whole : l ≡ record { items = l.items; board = l.board; stop = Some stop } =
    λ i. record { items = l.items; board = l.board; stop = is i } in
    fold_both (nothing_logged b) es fs
    ∙ (ap (λ (m : Logged World). fold log_one m fs) whole ∙ (stays_stopped l.items l.board stop fs ∙ sym whole))

-- a call that does one thing and then another
abbrev pub both : Comes → Comes → Comes
both first rest = record rest { effects = first.effects ++ rest.effects }

pub done_after : {old mid new : Procs} {fs : FileSystem} {result : Result Answer PanicKind} {start middle end : Taken}
    (first : Comes) {rest : Comes}
    → (parts.came old first).stop ≡ None → board mid ≡ (parts.came old first).board
    → Took start (parts.came old first).items middle
    → HasDone mid new fs result middle end rest → HasDone old new fs result start end (both first rest)
done_after {old} {mid} {new} {fs} {result} {start} {middle} {end} first {rest} free shown items done =
    let l : Logged World = parts.came old first in
    let whole : parts.came old (both first rest) ≡ after_items l.items (parts.came mid rest) =
    logged_after (board old) first.effects rest.effects free
    ∙ ap (λ b. after_items l.items (logged b rest.effects)) (sym shown) in
    record {
      answer = done.answer ∙ sym (ap (λ (m : Logged World). answered m.stop rest.answer) whole);
      state = done.state ∙ sym (ap (λ (m : Logged World). left_by m.stop rest.state) whole);
      shown = done.shown ∙ sym (ap (λ (m : Logged World). m.board) whole);
      items = subst (λ (m : Logged World). Took start m.items end) (sym whole)
          (took_more start middle end l.items (parts.came mid rest).items items done.items);
    }

-- one that does not come to the other
pub done_first : {old new : Procs} {fs : FileSystem} {start end : Taken} (first rest : Comes) (stop : Stop World)
    → (parts.came old first).stop ≡ Some stop → HasLeft old new fs start end first
    → HasDone old new fs (Err stop.why) start end (both first rest)
done_first {old} {new} {fs} {start} {end} first rest stop is left =
    let whole = logged_stopped (board old) first.effects rest.effects stop is in
    let stopped : (parts.came old (both first rest)).stop ≡ Some stop = ap (λ (m : Logged World). m.stop) whole ∙ is in
    record {
      answer = sym (ap (λ o. answered o rest.answer) stopped);
      state = left.state ∙ (ap (λ o. left_by o first.state) is ∙ sym (ap (λ o. left_by o rest.state) stopped));
      shown = left.shown ∙ sym (ap (λ (m : Logged World). m.board) whole);
      items = subst (λ (m : Logged World). Took start m.items end) (sym whole) left.items;
    }
