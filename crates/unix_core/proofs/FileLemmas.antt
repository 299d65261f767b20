-- What a call on files shows, and what the board of the log comes to by it.
use Rattle.std.proofs.Common.{◌≡◌, ◌<◌, ℕ, zero, suc, List, [], ◌∷◌, ◌++◌, length, map, fold, All, None, refl, sym, ap, ◌∙◌, subst, inl, inr, append_assoc, arith}
use Rattle.std.proofs.lemmas.Bool.{cases_lt}
use Rattle.std.proofs.lemmas.List.{get_or_past}
use Rattle.v6_base.specs.Trace.{Item, Log, sent, line_bytes, entries_of}
use Rattle.v6_base.specs.Tape.{Recording, bytes_of}
use Rattle.v6_base.specs.declared.trace.TheConstants.{LINES}
use Rattle.v6_base.specs.declared.entry.Entry.{Entry}
use Rattle.v6_base.specs.declared.entry.Entry.TheVariants.{Idle}
use Rattle.pick_rules.specs.declared.table.Table.{Table}
use Rattle.pick_rules.specs.Board.{Board}
use Rattle.pick_rules.specs.Apply.{applied}
use Rattle.pick_rules.specs.Effects.{Show, came}
use Rattle.pick_rules.specs.Logged.{Logged, logged, log_one, board_after}
use Rattle.image_keep.specs.Kept.{Kept}
use Rattle.sig_core.specs.declared.numbers.TheConstants.{SIGPIPE}
use Rattle.sys_files.proofs.Bounds.{IsOfCall, Fits}
use Rattle.sys_procs.specs.Agree.{board_of}
use Rattle.sys_procs.proofs.Signalled.{board_signalled}
use Rattle.sys_procs.proofs.Tables.{board_woken}
use Rattle.abstract_unix.specs.Unix.{Unix}
use Rattle.abstract_unix.specs.Calls.{bytes_from, in_order}
use Rattle.unix_core.specs.Passing.{HaveSlots, woken_by, all_woken, bytes_shown, shown_by}

-- Items that are shown in order: the board takes them one after another.
abbrev so_far : List Item → Board → Logged Unix
so_far items b = record { items = items; board = b; stop = None }

shown_after : (items before : List Item) (b : Board) → (fold log_one (so_far before b) (map Show items)).board ≡ fold board_after b items
unfolding log_one came
shown_after [] before b = refl
shown_after (item ∷ items) before b = shown_after items (before ++ item ∷ []) (board_after b item)

-- bytes are no lines of the log
sent_after : (l : ℕ) (bytes : List ℕ) (b : Board) (rest : List Item) → fold board_after b (sent l bytes ++ rest) ≡ fold board_after b rest
sent_after l [] b rest = refl
sent_after l (byte ∷ bytes) b rest = sent_after l bytes b rest

bytes_after : (l count : ℕ) (items : List Item) (b : Board) (rest : List Item)
    → fold board_after b (bytes_from l count items ++ rest) ≡ fold board_after b rest
bytes_after l zero items b rest = refl
bytes_after l (suc count) items b rest =
    ap (fold board_after b) (append_assoc (sent l (line_bytes l items)) (bytes_from (suc l) count items) rest)
    ∙ sent_after l (line_bytes l items) b (bytes_from (suc l) count items ++ rest)
    ∙ bytes_after (suc l) count items b rest

-- lines that wake sleepers, or that send the process of a slot a signal
woken_one : (t : Table) (k : Kept) (slot : ℕ) (e : Entry) → IsOfCall slot e → applied (board_of t k) e ≡ board_of (woken_by t e) k
woken_one t k slot e shown = elim shown [
  | inl wakes ↦
      ap (applied (board_of t k)) wakes.1 ∙ sym (board_woken t k wakes.0) ∙ ap (λ x. board_of (woken_by t x) k) (sym wakes.1)
  | inr sends ↦
      ap (applied (board_of t k)) sends ∙ sym (board_signalled t k slot SIGPIPE) ∙ ap (λ x. board_of (woken_by t x) k) (sym sends)
]

woken_all : (entries : List Entry) (t : Table) (k : Kept) (slot : ℕ) → All (IsOfCall slot) entries
    → fold board_after (board_of t k) (map Log entries) ≡ board_of (all_woken t entries) k
woken_all [] t k slot shown = refl
woken_all (e ∷ entries) t k slot shown =
    ap (λ b. fold board_after b (map Log entries)) (woken_one t k slot e (shown 0 e (omega arith)))
    ∙ woken_all entries (woken_by t e) k slot (λ i d low. shown (suc i) d (omega (arith, low)))

-- A tape that has all that a call on files shows, tells it in order.
module _ (tape : Recording) (items : List Item) (lines : (l : ℕ) → bytes_of tape l ≡ line_bytes l items) where
  bytes_told : (l count : ℕ) → bytes_shown l count tape ≡ bytes_from l count items
  bytes_told l zero = refl
  bytes_told l (suc count) = λ i. sent l (lines l i) ++ bytes_told (suc l) count i

  pub told_in_order : tape.entries ≡ entries_of items → shown_by tape ≡ in_order items
  told_in_order entries = λ i. bytes_told 0 LINES i ++ map Log (entries i)

-- The board after what a call on files shows is the one after the lines of its tape.
pub shown_woken : (slot : ℕ) (items : List Item) → Fits slot items → (t : Table) (k : Kept)
    → (logged {W = Unix} (board_of t k) (map Show (in_order items))).board ≡ board_of (all_woken t (entries_of items)) k
shown_woken slot items fits t k =
    shown_after (in_order items) [] (board_of t k)
    ∙ bytes_after 0 LINES items (board_of t k) (map Log (entries_of items))
    ∙ woken_all (entries_of items) t k slot fits.only_lines

-- Such lines name a slot of a process.
pub shown_slots : (slot : ℕ) (entries : List Entry) → 0 < slot → slot < 50 → All (IsOfCall slot) entries → HaveSlots entries
shown_slots slot entries above low shown i r sig is = elim (cases_lt i (length entries)) [
  | inl within ↦ elim (shown i Idle within) [
    | inl wakes ↦ absurd (let never = sym wakes.1 ∙ is in cc never)
    | inr sends ↦
        let same : slot ≡ r = (let one = sym sends ∙ is in cc one) in
        subst (λ x. (0 < x) × (x < 50)) same (above, low)
  ]
  | inr past ↦ absurd (let never = sym (get_or_past entries i Idle past) ∙ is in cc never)
]
