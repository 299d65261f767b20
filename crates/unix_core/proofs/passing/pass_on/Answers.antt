use Rattle.std.proofs.Common.{◌≡◌, ℕ, List, [], ◌∷◌, ◌++◌, map, take, get_or, sym, ap, ◌∙◌, append_assoc}
use Rattle.std.proofs.lemmas.List.{get_or_default, take_more}
use Rattle.std.proofs.lemmas.List.{map-append}
use Rattle.std.proofs.lemmas.List.Sums.{fold-append}
use Rattle.v6_base.specs.Trace.{Item, Log}
use Rattle.v6_base.specs.declared.entry.Entry.{Entry}
use Rattle.v6_base.specs.declared.entry.Entry.TheVariants.{Boot, Idle}
use Rattle.v6_base.specs.declared.trace.TheConstants.{LINES}
use Rattle.v6_base.proofs.Took.{took_then}
use Rattle.pick_rules.specs.declared.table.Table.{Table}
use Rattle.unix_core.specs.Passing.{woken_by, all_woken, bytes_shown}
use Rattle.unix_core.proofs.passing.pass_on.Goals as goal

pub wake_by-requires-clause-slot : goal.wake_by-requires-clause-slot
wake_by-requires-clause-slot g c slot sig is =
    let entries : List Entry = c.entries-entries.result.now in
    let i : ℕ = c.loop-i.i in
    c.requires.slots i slot sig
    (ap (λ (l : List Entry). get_or l i Idle) (sym c.entries-entries.ensures) ∙ get_or_default entries i Idle (Boot 0 0) c.loop-i-test.true ∙ is)

one_more : (t : Table) (entries : List Entry) (e : Entry) → woken_by (all_woken t entries) e ≡ all_woken t (entries ++ e ∷ [])
one_more t entries e = sym (fold-append woken_by t entries (e ∷ []))

shown_more : (items : List Item) (entries : List Entry) (e : Entry) → (items ++ map Log entries) ++ Log e ∷ [] ≡ items ++ map Log (entries ++ e ∷ [])
shown_more items entries e = append_assoc items (map Log entries) (Log e ∷ []) ∙ ap (λ l. items ++ l) (sym (map-append Log entries (e ∷ [])))

pub loop-i-preserved : goal.loop-i-preserved
loop-i-preserved g c =
    let entries : List Entry = c.entries-entries.result.now in
    let i : ℕ = c.loop-i.i in
    let none : Entry = Boot 0 0 in
    let e : Entry = get_or entries i none in
    let next = take_more entries i none c.loop-i-test.true in record {
      good = c.wake_by.ensures.good;
      table = c.wake_by.ensures.table ∙ ap (λ (t : Table). woken_by t e) c.loop-i.invariant.table
          ∙ one_more _ (take i entries) e ∙ ap (all_woken _) (sym next);
      items = took_then _ _ _ _ _ _ c.loop-i.invariant.items c.wake_by.ensures.items
          (shown_more (bytes_shown 0 LINES c.args.tape.now) (take i entries) e ∙ ap (λ l. bytes_shown 0 LINES c.args.tape.now ++ map Log l) (sym next));
      frame = g.met.T.Trace.goes_on _ _ _ c.loop-i.invariant.frame c.wake_by.ensures.frame;
    }
