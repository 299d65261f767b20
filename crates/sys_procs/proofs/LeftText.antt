-- A process leaves its text: the texts that a call is handed then, the board, the marks, and what agrees.
use Rattle.std.proofs.Common.{◌≡◌, ◌≢◌, ◌∙◌, ◌-◌, ◌<◌, ◌≤◌, ◌==◌, ◌&&◌, ◌||◌, ℕ, zero, suc, cond, nat_le, not, bit_and, Bool, true, false, List, [], ◌∷◌, length, map, get_or, set, count_by, slice_index, Option, Some, None, IsSome, refl, sym, ap, subst, inl, inr, arith}
use Rattle.std.specs.Option.{unwrap_or}
use Rattle.std.proofs.lemmas.Bool.{cases_eq, cases_lt, eq-eqb, ne_eqb, eqb-true, eqb-false, leb-true, leb-false}
use Rattle.std.proofs.lemmas.List.{get_or-set_same, get_or-set_other, get_or_past, length-set, length-map, map-set, set-get_or}
use Rattle.std.proofs.lemmas.List.Sums.{get_or-le-sum_by}
use Rattle.std.proofs.Math.ListN.{get_or-map}
use Rattle.v6_base.specs.declared.entry.Place.{Place}
use Rattle.v6_base.specs.declared.entry.Place.TheVariants.{Core, Swap}
use Rattle.v6_base.specs.declared.entry.Entry.TheVariants as line
use Rattle.v6_base.specs.Trace.{Taken, Took, Log}
use Rattle.fs_codec.specs.declared.modes.TheConstants.{ISVTX}
use Rattle.fs_nodes.specs.FileSystem.{FileSystem}
use Rattle.fs_tree.specs.Finding.{inodes_of, put_back}
use Rattle.pick_rules.specs.declared.row.TableRow.{TableRow}
use Rattle.pick_rules.specs.declared.table.Table.{Table}
use Rattle.pick_rules.specs.Table.{row_at, empty_row, is_in_core}
use Rattle.pick_rules.specs.Table as table
use Rattle.pick_rules.specs.Board.{Board, TextPlace}
use Rattle.pick_rules.specs.Apply.{applied, change_row, in_table, leaves_core, parted, goes_if_unused}
use Rattle.pick_rules.specs.Apply as board_of_log
use Rattle.proc_tab.specs.declared.member.Member.{Member}
use Rattle.proc_tab.specs.Processes.{member_at}
use Rattle.text_tab.specs.declared.left.Left.{Left}
use Rattle.text_tab.specs.declared.left.Left.TheVariants.{Used, Kept, Gone}
use Rattle.text_tab.specs.Table.{left, remaining}
use Rattle.image_keep.specs.Kept.{Keeping, Nothing, Alive, Grave, Shared, keeping, shared, text_of, place_in, clicks_of, area_in, IsKept}
use Rattle.image_keep.specs.Kept as kept
use Rattle.image_keep.specs.State.{ImagesState}
use Rattle.image_keep.specs.SharedTexts.{AreShared, is_loaded, left_core, with_row, shared_left, textless, with_left_text, row_of_text, row_in}
use Rattle.swap_sched.specs.Match.{text_place}
use Rattle.swap_sched.proofs.Texts.{text_at_map, set_twice, one_fewer}
use Rattle.sys_procs.specs.declared.procs.Procs.{Procs}
use Rattle.sys_procs.specs.Process.{Process, process_in}
use Rattle.sys_procs.specs.TextTable.{Text, no_text, is_text_of, marks_of}
use Rattle.sys_procs.specs.TextTable as texts_of
use Rattle.sys_procs.specs.Texts.{goes, without_text, leaves_text, xfree}
use Rattle.sys_procs.specs.Texts as world_texts
use Rattle.sys_procs.specs.World.{World, text_in, texts_in, processes_in, change, let_go}
use Rattle.sys_procs.specs.Comes.{logs}
use Rattle.sys_procs.specs.inside.Begun.{nothing}
use Rattle.sys_procs.specs.Tests.{node_in}
use Rattle.sys_procs.specs.Done.{HasLeft}
use Rattle.sys_procs.specs.Agree.{Agrees}
use Rattle.sys_procs.specs.Handed.{IsAlive, board, handed, process_here}
use Rattle.sys_procs.proofs.Alive.{IsHere, is_here}
use Rattle.sys_procs.proofs.SameKept.{SameKept, same_handed, same_board}
use Rattle.sys_procs.proofs.Slots.{one_changed}
use Rattle.sys_procs.proofs.Tables.{logged_line}
use Rattle.sys_procs.proofs.Dones.{left_logged}
use Rattle.sys_procs.proofs.PlacingRows.{row_low, text_row}
use Rattle.sys_procs.proofs.TextMarks.{marks_same, marks_go, is_marked_there}

abbrev pub without_its_text : TableRow → TableRow
without_its_text row = record row { text = None }

-- Whether a user is the last one.
last_one : (n : ℕ) → 0 < n → nat_le n 1 ≡ (n == 1)
last_one n some = by (nat_le n 1) refl
  where
    by : (b : Bool) → nat_le n 1 ≡ b → b ≡ (n == 1)
    by true e = let l : n ≤ 1 = leb-true n 1 e in sym (eq-eqb n 1 (omega (arith, l, some)))
    by false e = let l : 1 < n = leb-false n 1 e in sym (ne_eqb n 1 (λ f. omega (arith, l, f)))

none_left : (n : ℕ) → 0 < n → (n - 1 == 0) ≡ (n == 1)
none_left n some = by (n == 1) refl
  where
    by : (b : Bool) → (n == 1) ≡ b → (n - 1 == 0) ≡ b
    by true e = let one : n ≡ 1 = eqb-true n 1 e in eq-eqb (n - 1) 0 (omega (arith, one))
    by false e = let other : n ≢ 1 = eqb-false n 1 e in ne_eqb (n - 1) 0 (λ f. omega (arith, f, other, some))

-- What the entry of a text has then, in a call's words.
abbrev text_for : Shared → Text
text_for x = record { ino = x.row.ino; bytes = x.bytes; users = x.row.users }

abbrev fewer_users : Text → Text
fewer_users text = record text { users = text.users - 1 }

abbrev text_after : Left → Shared → Option Text
text_after Used x = Some (fewer_users (text_for x))
text_after Kept x = Some (fewer_users (text_for x))
text_after Gone x = None

text_by : (l : Left) (is_in : Bool) (x : Shared)
    → text_in (with_row x.bytes (remaining l (left_core is_in x.row))) ≡ text_after l x
text_by Used true x = refl
text_by Used false x = refl
text_by Kept true x = refl
text_by Kept false x = refl
text_by Gone true x = refl
text_by Gone false x = refl

abbrev left_if : Bool → Bool → Left
left_if is_last sticky = cond is_last (cond sticky Kept Gone) Used

after_by : (is_last sticky : Bool) (x : Shared)
    → text_after (left_if is_last sticky) x ≡ cond (is_last && not sticky) None (Some (fewer_users (text_for x)))
after_by true true x = refl
after_by true false x = refl
after_by false sticky x = refl

text_remaining : (x : Shared) (is_in sticky : Bool) → 0 < x.row.users
    → text_in (shared_left is_in sticky (Some x)) ≡ world_texts.remaining sticky (Some (text_for x))
text_remaining x is_in sticky some =
    text_by (left x.row sticky) is_in x
    ∙ (after_by (x.row.users == 1) sticky x
    ∙ ap (λ b. cond (b && not sticky) None (Some (fewer_users (text_for x)))) (sym (last_one x.row.users some)))

-- whether it goes
abbrev pub is_gone : Left → Bool
is_gone Used = false
is_gone Kept = false
is_gone Gone = true

gone_by : (is_last sticky : Bool) → (is_last && not sticky) ≡ is_gone (left_if is_last sticky)
gone_by true true = refl
gone_by true false = refl
gone_by false sticky = refl

goes_is : (x : Shared) (sticky : Bool) → 0 < x.row.users → goes (text_for x) sticky ≡ is_gone (left x.row sticky)
goes_is x sticky some = ap (λ b. b && not sticky) (last_one x.row.users some) ∙ gone_by (x.row.users == 1) sticky

-- The same in the log's words: one fewer is in core, where the image is there; one fewer uses it; and it may go.
abbrev place_for : Shared → TextPlace
place_for x = record { clicks = x.row.clicks; users = x.row.users; loaded = x.row.loaded; click = x.row.at; block = x.row.block }

abbrev out_of_core : Bool → List (Option TextPlace) → ℕ → List (Option TextPlace)
out_of_core true texts t = set texts t (board_of_log.changed (get_or texts t None) one_fewer)
out_of_core false texts t = texts

abbrev less : TextPlace → TextPlace
less text = record text { users = text.users - 1 }

abbrev parted_in : List (Option TextPlace) → ℕ → List (Option TextPlace)
parted_in texts t = set texts t (board_of_log.changed (get_or texts t None) less)

abbrev kept_if : Bool → List (Option TextPlace) → ℕ → List (Option TextPlace)
kept_if true texts t = texts
kept_if false texts t = set texts t (board_of_log.kept (get_or texts t None))

abbrev fewer_if : Bool → TextPlace → TextPlace
fewer_if true text = one_fewer text
fewer_if false text = text

out_is : (is_in : Bool) (texts : List (Option TextPlace)) (t : ℕ) (y : TextPlace) → get_or texts t None ≡ Some y
    → out_of_core is_in texts t ≡ set texts t (Some (fewer_if is_in y))
out_is true texts t y e = ap (λ o. set texts t (board_of_log.changed o one_fewer)) e
out_is false texts t y e = sym (ap (set texts t) (sym e) ∙ set-get_or texts t None)

kept_twice : (texts : List (Option TextPlace)) (t : ℕ) (y z : TextPlace) → get_or texts t None ≡ Some z
    → set (set texts t (Some y)) t (board_of_log.kept (get_or (set texts t (Some y)) t None)) ≡ set texts t
    (board_of_log.kept (Some y))
kept_twice [] t y z e = absurd (cc e)
kept_twice (x ∷ texts) zero y z e = refl
kept_twice (x ∷ texts) (suc t) y z e = ap (λ l. x ∷ l) (kept_twice texts t y z e)

abbrev place_if : Bool → TextPlace → Option TextPlace
place_if true text = Some text
place_if false text = board_of_log.kept (Some text)

kept_is : (sticky : Bool) (texts : List (Option TextPlace)) (t : ℕ) (y z : TextPlace) → get_or texts t None ≡ Some z
    → kept_if sticky (set texts t (Some y)) t ≡ set texts t (place_if sticky y)
kept_is true texts t y z e = refl
kept_is false texts t y z e = kept_twice texts t y z e

abbrev place_after : Left → Bool → Shared → Option TextPlace
place_after Used is_in x = Some (less (fewer_if is_in (place_for x)))
place_after Kept is_in x = Some (less (fewer_if is_in (place_for x)))
place_after Gone is_in x = None

place_by : (l : Left) (is_in : Bool) (x : Shared)
    → text_place (with_row x.bytes (remaining l (left_core is_in x.row))) ≡ place_after l is_in x
place_by Used true x = refl
place_by Used false x = refl
place_by Kept true x = refl
place_by Kept false x = refl
place_by Gone true x = refl
place_by Gone false x = refl

users_fewer : (is_in : Bool) (x : Shared) → (less (fewer_if is_in (place_for x))).users ≡ x.row.users - 1
users_fewer true x = refl
users_fewer false x = refl

place_kept : (is_last sticky is_in : Bool) (x : Shared) → (x.row.users - 1 == 0) ≡ is_last
    → place_if sticky (less (fewer_if is_in (place_for x))) ≡ place_after (left_if is_last sticky) is_in x
place_kept true true is_in x e = refl
place_kept true false is_in x e =
    ap (λ b. cond b None (Some (less (fewer_if is_in (place_for x))))) (ap (λ n. n == 0) (users_fewer is_in x) ∙ e)
place_kept false true is_in x e = refl
place_kept false false is_in x e =
    ap (λ b. cond b None (Some (less (fewer_if is_in (place_for x))))) (ap (λ n. n == 0) (users_fewer is_in x) ∙ e)

places_left : (texts : List (Option Shared)) (t : ℕ) (x : Shared) (is_in sticky : Bool) → get_or texts t None ≡ Some x
    → 0 < x.row.users
    → kept_if sticky (parted_in (out_of_core is_in (map text_place texts) t) t) t
    ≡ map text_place (set texts t (shared_left is_in sticky (get_or texts t None)))
places_left texts t x is_in sticky e some =
    let all : List (Option TextPlace) = map text_place texts in
    let here : get_or all t None ≡ Some (place_for x) = text_at_map texts t ∙ ap text_place e in
    let y : TextPlace = fewer_if is_in (place_for x) in
    ap (λ l. kept_if sticky (parted_in l t) t) (out_is is_in all t (place_for x) here)
    ∙ (ap (λ l. kept_if sticky l t) (set_twice all t y (place_for x) less here)
    ∙ (kept_is sticky all t (less y) (place_for x) here
    ∙ (ap (set all t) (place_kept (x.row.users == 1) sticky is_in x (none_left x.row.users some)
    ∙ sym (place_by (left x.row sticky) is_in x))
    ∙ sym (map-set text_place texts t (shared_left is_in sticky (get_or texts t None))
    ∙ ap (λ o. set all t (text_place (shared_left is_in sticky o))) e))))

-- an image is in core by its row, and by what is kept
in_core_is : (x : Keeping) → is_in_core (place_in x) ≡ is_loaded x
in_core_is Nothing = refl
in_core_is (Alive held) = by held.place
  where
    by : (place : Place) → is_in_core (Some place) ≡ is_loaded (Alive (record held { place = place }))
    by (Core c) = refl
    by (Swap block) = refl
in_core_is (Grave u block) = refl

-- A process shares a text.
pub record Shares (p : Procs) (s t : ℕ) : Type 0 where
  pub alive : IsAlive p s
  pub text : text_of p.images.kept s ≡ Some t
  pub texts : AreShared p.images.kept
  pub images : IsKept p.images.kept

pub shares : {p : Procs} {s t : ℕ} → IsAlive p s → text_of p.images.kept s ≡ Some t → AreShared p.images.kept → IsKept p.images.kept
    → Shares p s t
shares {p} {s} {t} alive text texts images = record { alive = alive; text = text; texts = texts; images = images }

module _ {p : Procs} {s t : ℕ} (sticky : Bool) (h : Shares p s t) where
  abbrev x : Shared
  x = (h.texts.used s t h.text).text

  there : shared p.images.kept t ≡ Some x
  there = (h.texts.used s t h.text).there

  some : 0 < x.row.users
  some = (h.texts.used s t h.text).users

  pub is_there : IsSome (shared p.images.kept t)
  is_there = subst IsSome (sym there) refl

  abbrev is_in : Bool
  is_in = is_loaded (keeping p.images.kept s)

  abbrev pub texts : List (Option Shared)
  texts = set p.images.kept.texts t (shared_left is_in sticky (shared p.images.kept t))

  abbrev pub images : kept.Kept
  images = record p.images.kept {
    slots = set p.images.kept.slots s (textless (keeping p.images.kept s));
    texts = texts;
    users = set p.images.kept.users s None;
  }

  images_left : with_left_text p.images.kept s sticky (Some t) ≡ images
  unfolding with_left_text
  images_left = refl

  abbrev pub now : Procs
  now = record p { table = change_row p.table s without_its_text; images = record p.images { kept = images } }

  pub left_is : (rows : Table) (i : ImagesState) → rows ≡ change_row p.table s without_its_text
      → i.kept ≡ with_left_text p.images.kept s sticky (text_of p.images.kept s) → SameKept (record p { table = rows; images = i }) now
  left_is rows i table_is is = record {
    rows = refl;
    table = table_is;
    kept = is ∙ (ap (with_left_text p.images.kept s sticky) h.text ∙ images_left);
    switches = refl;
  }

  text_low : t < length p.images.kept.texts
  text_low = elim (cases_lt t (length p.images.kept.texts)) [
    | inl low ↦ low
    | inr past ↦ absurd (let none : shared p.images.kept t ≡ None = get_or_past p.images.kept.texts t None past in cc (none, there))
  ]

  -- what a call is handed
  text_is : get_or (texts_in p.images.kept) t None ≡ Some (text_for x)
  text_is = get_or-map text_in p.images.kept.texts t None ∙ ap text_in there

  texts_now : map text_in texts ≡ set (texts_in p.images.kept) t (world_texts.remaining sticky (get_or (texts_in p.images.kept) t None))
  texts_now =
      map-set text_in p.images.kept.texts t (shared_left is_in sticky (shared p.images.kept t))
      ∙ ap (set (texts_in p.images.kept) t) (ap (λ o. text_in (shared_left is_in sticky o)) there
      ∙ (text_remaining x is_in sticky some ∙ ap (world_texts.remaining sticky) (sym text_is)))

  image_now : keeping images s ≡ textless (keeping p.images.kept s)
  image_now = get_or-set_same p.images.kept.slots s (textless (keeping p.images.kept s)) Nothing
      (omega (arith, h.alive.below, h.images.slots))

  other_image : (r : ℕ) → r ≢ s → keeping images r ≡ keeping p.images.kept r
  other_image r other = get_or-set_other p.images.kept.slots s r (textless (keeping p.images.kept s)) Nothing other

  pub none_now : text_of images s ≡ None
  none_now = get_or-set_same p.images.kept.users s None None (omega (arith, h.alive.below, h.images.seats))

  other_user : (r : ℕ) → r ≢ s → text_of images r ≡ text_of p.images.kept r
  other_user r other = get_or-set_other p.images.kept.users s r None None other

  processes_now : processes_in p.rows.slots images ≡ set (processes_in p.rows.slots p.images.kept) s
      (Some (without_text (process_here p s)))
  processes_now =
      let here : IsHere p s = is_here p s h.alive in
      one_changed p.rows.slots p.rows.slots p.images.kept images s (Some (without_text (process_here p s))) h.alive.below
      (ap (λ y. process_in (member_at p.rows.slots s) y (text_of images s)) (image_now ∙ ap textless here.image_is)
      ∙ (ap (process_in (member_at p.rows.slots s) (textless (Alive here.held))) none_now
      ∙ (ap (λ o. process_in o (textless (Alive here.held)) None) here.member_is
      ∙ ap (λ (q : Process). Some (without_text q)) (sym here.process_is))))
      (λ r below other.
      ap (λ y. process_in (member_at p.rows.slots r) y (text_of images r)) (other_image r other)
      ∙ ap (process_in (member_at p.rows.slots r) (keeping p.images.kept r)) (other_user r other))

  abbrev left_state : FileSystem → World
  left_state fs =
      change (record (handed p fs) {
        texts = set (texts_in p.images.kept) t
            (world_texts.remaining sticky (get_or (texts_in p.images.kept) t None));
      }) s without_text

  state_left : (fs : FileSystem) → handed now fs ≡ left_state fs
  state_left fs = λ i. record (handed p fs) { processes = processes_now i; texts = texts_now i }

  text_told : texts_of.text_of (texts_in p.images.kept) t ≡ text_for x
  text_told = ap (λ o. unwrap_or o no_text) text_is

  goes_told : (l : Left) → l ≡ left (row_of_text p.images.kept (text_of p.images.kept s)) sticky
      → goes (texts_of.text_of (texts_in p.images.kept) t) sticky ≡ is_gone l
  goes_told l e =
      ap (λ (y : Text). goes y sticky) text_told
      ∙ (goes_is x sticky some ∙ ap is_gone (sym (e ∙ ap (λ o. left (row_of_text p.images.kept o) sticky) h.text
      ∙ ap (λ o. left (row_in o) sticky) there)))

  pub state_stays : (fs : FileSystem) (l : Left) → l ≡ left (row_of_text p.images.kept (text_of p.images.kept s)) sticky → is_gone l ≡ false
      → handed now fs ≡ leaves_text (handed p fs) s t sticky
  state_stays fs l e stays =
      state_left fs
      ∙ sym (ap (λ b. cond b (let_go (left_state fs) (texts_of.text_of (texts_in p.images.kept) t).ino) (left_state fs))
      (goes_told l e ∙ stays))

  ino_is : (ino : ℕ) → ino ≡ (row_in (shared p.images.kept t)).ino → ino ≡ x.row.ino
  ino_is ino is = is ∙ ap (λ o. (row_in o).ino) there

  pub state_goes : (fs new : FileSystem) (ino : ℕ) → Gone ≡ left (row_of_text p.images.kept (text_of p.images.kept s)) sticky
      → ino ≡ (row_in (shared p.images.kept t)).ino
      → inodes_of new ≡ put_back (inodes_of fs) ino → handed now new ≡ leaves_text (handed p fs) s t sticky
  state_goes fs new ino e is back =
      let same : ino ≡ (texts_of.text_of (texts_in p.images.kept) t).ino = ino_is ino is ∙ sym (ap (λ (y : Text). y.ino) text_told) in
      (λ i. record (state_left fs i) { inodes = (back ∙ ap (put_back (inodes_of fs)) same) i })
      ∙ sym (ap (λ b. cond b (let_go (left_state fs) (texts_of.text_of (texts_in p.images.kept) t).ino) (left_state fs))
      (goes_told Gone e))

  -- the board
  abbrev board_out : Bool → Option ℕ → Board
  board_out loaded user = in_table (cond loaded (leaves_core (board p) user) (board p)) (λ b. change_row b s without_its_text)

  abbrev board_by : Bool → Option ℕ → Board
  board_by loaded user =
      cond sticky (parted (board_out loaded user) t) (goes_if_unused (parted (board_out loaded user) t) t)

  loaded_is : table.is_loaded p.table s ≡ is_in
  loaded_is =
      ap (λ b. b || is_in_core (row_at p.table s).place) (ne_eqb s 0 (λ e. omega (arith, e, h.alive.above)))
      ∙ (ap is_in_core (h.alive.agree.each s h.alive.above h.alive.below).place ∙ in_core_is (keeping p.images.kept s))

  board_texts : (loaded is_sticky : Bool) → ◌≡◌ {A = Board}
      (cond is_sticky (parted (board_out loaded (Some t)) t) (goes_if_unused (parted (board_out loaded (Some t)) t) t))
      (record (board p) {
        table = change_row (record p.table { tout = 0 }) s without_its_text;
        texts = kept_if is_sticky (parted_in (out_of_core loaded (map text_place p.images.kept.texts) t) t) t;
      })
  board_texts true true = refl
  board_texts true false = refl
  board_texts false true = refl
  board_texts false false = refl

  pub board_left : board now ≡ applied (board p) (line.Leave s t sticky)
  unfolding applied
  board_left = sym (
      ap (λ b. board_by b (row_at p.table s).text) loaded_is
      ∙ (ap (board_by is_in) (text_row p s h.alive ∙ h.text)
      ∙ (board_texts is_in sticky
      ∙ ap (λ l. record (board p) { table = change_row (record p.table { tout = 0 }) s without_its_text; texts = l })
      (places_left p.images.kept.texts t x is_in sticky there some))))

  -- the marks
  low_in : t < length (texts_in p.images.kept)
  low_in = let long = length-map p.images.kept.texts text_in in omega (arith, text_low, long)

  alone : (r : ℕ) → is_text_of x.row.ino (get_or (texts_in p.images.kept) r None) ≡ true → r ≡ t
  alone r e = by (shared p.images.kept r) refl (sym (ap (is_text_of x.row.ino) (get_or-map text_in p.images.kept.texts r None)) ∙ e)
    where
      by : (o : Option Shared) → shared p.images.kept r ≡ o → is_text_of x.row.ino (text_in o) ≡ true → r ≡ t
      by None f g = absurd (cc g)
      by (Some y) f g = h.texts.apart r t y x f there (eqb-true y.row.ino x.row.ino g)

  pub is_marked : (marks : List Bool) (ino : ℕ) → marks ≡ marks_of (texts_in p.images.kept) → ino ≡ (row_in (shared p.images.kept t)).ino
      → ino < 65536
      → get_or marks ino false ≡ true
  is_marked marks ino are is number =
      (λ i. get_or (are i) (ino_is ino is i) false)
      ∙ is_marked_there (texts_in p.images.kept) t (text_for x) low_in text_is (subst (λ n. n < 65536) (ino_is ino is) number)

  pub referenced : (references : List ℕ)
      → ((ino : ℕ) → count_by (is_text_of ino) (texts_in p.images.kept) ≤ slice_index references ino)
      → 0 < slice_index references (row_in (shared p.images.kept t)).ino
  referenced references referred =
      let most = referred x.row.ino in
      let mine : is_text_of x.row.ino (get_or (texts_in p.images.kept) t None) ≡ true = ap (is_text_of x.row.ino) text_is
      ∙ eq-eqb x.row.ino x.row.ino refl in
      let least = get_or-le-sum_by (λ o. cond (is_text_of x.row.ino o) 1 0) (texts_in p.images.kept) t None low_in in
      let one : ◌≡◌ {A = ℕ} (cond (is_text_of x.row.ino (get_or (texts_in p.images.kept) t None)) 1 0) 1 = ap (λ b. cond b 1 0) mine in
      subst (λ n. 0 < slice_index references n) (sym (ap (λ o. (row_in o).ino) there)) (omega (arith, least, one, most))

  -- what agrees
  row_now : row_at (change_row p.table s without_its_text) s ≡ without_its_text (row_at p.table s)
  row_now = get_or-set_same p.table.rows s (without_its_text (row_at p.table s)) empty_row (row_low p s h.alive)

  other_row : (r : ℕ) → r ≢ s → row_at (change_row p.table s without_its_text) r ≡ row_at p.table r
  other_row r other = get_or-set_other p.table.rows s r (without_its_text (row_at p.table s)) empty_row other

  agrees_left : (m : Option Member) (row : TableRow) (y : Keeping) → Agrees m row y → Agrees m (without_its_text row) (textless y)
  agrees_left m row Nothing a =
      record {
        stat = a.stat;
        image = a.image;
        place = a.place;
        size = λ held e. absurd (cc e);
        quiet = a.quiet;
        textless = λ f. refl;
      }
  agrees_left m row (Alive held) a = record {
    stat = a.stat;
    image = a.image;
    place = a.place;
    size = λ other is. a.size held refl ∙ ap (λ y. clicks_of (area_in y)) is;
    quiet = a.quiet;
    textless = λ f. refl;
  }
  agrees_left m row (Grave u block) a =
      record {
        stat = a.stat;
        image = a.image;
        place = a.place;
        size = λ held e. absurd (cc e);
        quiet = a.quiet;
        textless = λ f. refl;
      }

  zero_other : 0 ≢ s
  zero_other e = let above = h.alive.above in omega (arith, e, above)

  pub is_alive : IsAlive now s
  is_alive = record {
    agree = record {
      table = record {
        last = h.alive.agree.table.last;
        running = h.alive.agree.table.running;
        ticks = h.alive.agree.table.ticks;
      };
      rows = length-set p.table.rows s (without_its_text (row_at p.table s)) ∙ h.alive.agree.rows;
      kernel = ap (λ (row : TableRow). row.place) (other_row 0 zero_other) ∙ h.alive.agree.kernel;
      images = other_image 0 zero_other ∙ h.alive.agree.images;
      each = λ r up below. elim (cases_eq r s) [
        | inl here ↦
            subst (λ n. Agrees (member_at p.rows.slots n) (row_at (change_row p.table s without_its_text) n) (keeping images n))
            (sym here)
            (subst (λ (row : TableRow). Agrees (member_at p.rows.slots s) row (keeping images s)) (sym row_now)
            (subst (λ y. Agrees (member_at p.rows.slots s) (without_its_text (row_at p.table s)) y) (sym image_now)
            (agrees_left (member_at p.rows.slots s) (row_at p.table s) (keeping p.images.kept s)
            (h.alive.agree.each s h.alive.above h.alive.below))))
        | inr other ↦
            subst (λ (row : TableRow). Agrees (member_at p.rows.slots r) row (keeping images r)) (sym (other_row r other))
            (subst (λ y. Agrees (member_at p.rows.slots r) (row_at p.table r) y) (sym (other_image r other))
            (h.alive.agree.each r up below))
      ];
      text = λ r up below. elim (cases_eq r s) [
        | inl here ↦
            ap (λ n. (row_at (change_row p.table s without_its_text) n).text) here
            ∙ (ap (λ (row : TableRow). row.text) row_now ∙ (sym none_now ∙ ap (text_of images) (sym here)))
        | inr other ↦ ap (λ (row : TableRow). row.text) (other_row r other)
            ∙ (h.alive.agree.text r up below ∙ sym (other_user r other))
      ];
      textless = other_user 0 zero_other ∙ h.alive.agree.textless;
    };
    above = h.alive.above;
    below = h.alive.below;
    image = let here : IsHere p s = is_here p s h.alive in (
      record here.held { u = record here.held.u { text_size = 0 }; image = record here.held.image { text = [] } },
      image_now ∙ ap textless here.image_is,
    );
  }

  -- the marks then
  pub marks_stay : (l : Left) → l ≡ left (row_of_text p.images.kept (text_of p.images.kept s)) sticky → is_gone l ≡ false
      → marks_of (map text_in texts) ≡ marks_of (texts_in p.images.kept)
  marks_stay l e stays =
      ap marks_of texts_now
      ∙ marks_same (texts_in p.images.kept) t (world_texts.remaining sticky (get_or (texts_in p.images.kept) t None)) (λ ino.
      ap (λ o. is_text_of ino (world_texts.remaining sticky o)) text_is
      ∙ (ap (λ b. is_text_of ino (cond b None (Some (fewer_users (text_for x)))))
      (ap (λ (y : Text). goes y sticky) (sym text_told) ∙ (goes_told l e ∙ stays))
      ∙ sym (ap (is_text_of ino) text_is)))

  pub marks_gone : (marks : List Bool) (ino : ℕ) → marks ≡ marks_of (texts_in p.images.kept) → ino ≡ (row_in (shared p.images.kept t)).ino
      → Gone ≡ left (row_of_text p.images.kept (text_of p.images.kept s)) sticky → marks_of (map text_in texts) ≡ set marks ino false
  marks_gone marks ino are is e =
      ap marks_of (texts_now ∙ ap (set (texts_in p.images.kept) t)
      (ap (world_texts.remaining sticky) text_is
      ∙ ap (λ b. cond b None (Some (fewer_users (text_for x))))
      (ap (λ (y : Text). goes y sticky) (sym text_told) ∙ goes_told Gone e)))
      ∙ (marks_go (texts_in p.images.kept) t (text_for x) low_in text_is alone
      ∙ sym (λ i. set (are i) (ino_is ino is i) false))

  -- so the call has done what its row says
  pub has_left : (old_fs new_fs : FileSystem) (new : Procs) (start end : Taken) (ino : ℕ) → SameKept new now
      → ino ≡ (row_in (shared p.images.kept t)).ino
      → handed now new_fs ≡ leaves_text (handed p old_fs) s t sticky
      → sticky ≡ not (bit_and (node_in old_fs.store ino).mode ISVTX == 0)
      → Took start (Log (line.Leave s t sticky) ∷ []) end
      → HasLeft p new new_fs start end (xfree (handed p old_fs) s (Some t) nothing)
  has_left old_fs new_fs new start end ino is ino_as state told took =
      let w : World = handed p old_fs in
      let same : ino ≡ (texts_of.text_of (texts_in p.images.kept) t).ino = ino_is ino ino_as
      ∙ sym (ap (λ (y : Text). y.ino) text_told) in
      subst (λ b. HasLeft p new new_fs start end (logs (line.Leave s t b) (nothing (leaves_text w s t b))))
      (told ∙ ap (λ n. not (bit_and (node_in old_fs.store n).mode ISVTX == 0)) same)
      (left_logged (logged_line (board p) (line.Leave s t sticky))
      (same_handed is new_fs ∙ state) (same_board is ∙ board_left) took)
