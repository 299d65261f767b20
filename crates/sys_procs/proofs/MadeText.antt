-- A process without an image makes a text: the log, the texts that a call is handed then, and the marks.
use Rattle.std.proofs.Common.{◌≡◌, ◌≢◌, ◌∙◌, ◌<◌, ◌+◌, ◌||◌, ℕ, Bool, true, false, cond, List, [], ◌∷◌, length, map, get_or, set, Option, Some, None, is_none, Ok, Err, refl, sym, ap, subst, arith}
use Rattle.std.specs.Option.{unwrap_or}
use Rattle.std.specs.List.{position_from, list_any}
use Rattle.std.proofs.lemmas.Bool.{false≢true, eq-eqb, ne_eqb}
use Rattle.std.proofs.lemmas.List.{get_or-set_same, length-map, map-set}
use Rattle.std.proofs.lemmas.List.Quantifiers.{position-Some}
use Rattle.std.proofs.lemmas.Iterator.Adapters.{position_from-zero}
use Rattle.std.proofs.Math.ListN.{get_or-map}
use Rattle.v6_base.specs.Trace.{Taken, Took, Log}
use Rattle.v6_base.specs.declared.entry.Entry.TheVariants as line
use Rattle.v6_base.specs.declared.entry.PanicKind.{PanicKind}
use Rattle.v6_base.specs.declared.entry.PanicKind.TheVariants as panic
use Rattle.fs_nodes.specs.FileSystem.{FileSystem}
use Rattle.fs_tree.specs.Finding.{inodes_of, with_reference}
use Rattle.pick_rules.specs.declared.table.Table.{Table}
use Rattle.pick_rules.specs.Board.{Board}
use Rattle.pick_rules.specs.Board as board_of_log
use Rattle.pick_rules.specs.Apply.{applied, change_row}
use Rattle.pick_rules.specs.Effects.{new_text_at}
use Rattle.pick_rules.specs.Effects as effects
use Rattle.pick_rules.specs.Logged.{Logged, Stop, logged, log_one, nothing_logged, with_what_came}
use Rattle.image_keep.specs.declared.texts.TextRefusal.{TextRefusal}
use Rattle.image_keep.specs.declared.texts.TextRefusal.TheVariants as refusal
use Rattle.image_keep.specs.Kept.{Kept, Shared, shared, text_of, IsKept}
use Rattle.image_keep.specs.State.{ImagesState}
use Rattle.image_keep.specs.Places.{swap_fit, blocks}
use Rattle.image_keep.specs.SharedTexts.{zeros_text, with_new_text, found_text, free_text, making, with_made_text, row_in}
use Rattle.image_keep.proofs.TextSearch.{position_map}
use Rattle.swap_sched.specs.Match.{text_place}
use Rattle.sys_procs.specs.declared.procs.Procs.{Procs}
use Rattle.sys_procs.specs.TextTable.{Text, is_text_of, entry_of, marks_of}
use Rattle.sys_procs.specs.Texts.{free_entry, with_entry, makes_text, xalloc_by}
use Rattle.sys_procs.specs.Texts as texts_of
use Rattle.sys_procs.specs.World.{World, text_in, texts_in}
use Rattle.sys_procs.specs.Comes.{Comes}
use Rattle.sys_procs.specs.inside.Begun.{nothing, takes, new_if, new_entry, taken_by}
use Rattle.sys_procs.specs.Handed.{board, came, handed, process_here}
use Rattle.sys_procs.specs.inside.Handed.{IsBare}
use Rattle.sys_procs.specs.Done.{HasLeft}
use Rattle.sys_procs.proofs.SameKept.{SameKept, same_images, same_handed, same_board}
use Rattle.sys_procs.proofs.Dones.{left_logged}
use Rattle.sys_procs.proofs.Tables.{logged_line}
use Rattle.sys_procs.proofs.Places.{same_free, swap_bare}
use Rattle.sys_procs.proofs.Retexted.{with_its_text, state, is_bare}
use Rattle.sys_procs.proofs.TestsLemmas.{entry_is}
use Rattle.sys_procs.proofs.TextMarks.{mark_at, marks_come}

-- What a demand for a text leaves in the log, by the entry and by the blocks that are found.
abbrev pub text_log : Board → ℕ → ℕ → World → Option ℕ → Option ℕ → Logged World
text_log b s n w None fit =
    record { items = Log (line.Panic panic.Text) ∷ []; board = b; stop = Some (record { why = panic.Text; before = w }) }
text_log b s n w (Some k) None =
    record { items = Log (line.Panic panic.Swap) ∷ []; board = b; stop = Some (record { why = panic.Swap; before = w }) }
text_log b s n w (Some k) (Some block) =
    record { items = Log (line.Text s k n block) ∷ []; board = applied b (line.Text s k n block); stop = None }

log_by : (b : Board) (s n : ℕ) (w : World) (free fit : Option ℕ)
    → with_what_came (nothing_logged b) (new_text_at w free fit (λ k block. line.Text s k n block)) ≡ text_log b s n w free fit
unfolding applied
log_by b s n w None fit = refl
log_by b s n w (Some k) None = refl
log_by b s n w (Some k) (Some block) = refl

logged_text : (b : Board) (s n : ℕ) (w : World) (free fit : Option ℕ)
    → board_of_log.free_text b ≡ free → board_of_log.swap_fit b (blocks n) ≡ fit
    → logged b (effects.Text s n w ∷ []) ≡ text_log b s n w free fit
unfolding log_one effects.came
logged_text b s n w free fit e f =
    (λ i. with_what_came (nothing_logged b) (new_text_at w (e i) (f i) (λ k block. line.Text s k n block)))
    ∙ log_by b s n w free fit

-- what comes of the call says which entry and which blocks were found
pub record IsMade (free fit : Option ℕ) (t : ℕ) : Type 0 where
  pub block : ℕ
  pub entry : free ≡ Some t
  pub blocks : fit ≡ Some block

made_by : (free fit : Option ℕ) (t : ℕ) → Ok t ≡ making free fit → IsMade free fit t
made_by None fit t e = absurd (cc e)
made_by (Some k) None t e = absurd (cc e)
made_by (Some k) (Some block) t e =
    record { block = block; entry = let same : t ≡ k = cc e in ap (λ n. Some n) (sym same); blocks = refl }

-- A text that isn't made.
record Refuses (b : Board) (k : Kept) (s ino n : ℕ) (w : World) (free fit : Option ℕ) (kind : PanicKind) : Type 0 where
  pub same : with_made_text k s ino n free fit ≡ k
  pub log : text_log b s n w free fit ≡ record {
    items = Log (line.Panic kind) ∷ [];
    board = b;
    stop = Some (record { why = kind; before = w });
  }

refused_as : (b : Board) (w : World) (from to : PanicKind) → to ≡ from
    → ◌≡◌ {A = Logged World}
    (record { items = Log (line.Panic from) ∷ []; board = b; stop = Some (record { why = from; before = w }) })
    (record { items = Log (line.Panic to) ∷ []; board = b; stop = Some (record { why = to; before = w }) })
refused_as b w from to e =
    ap (λ kind. record { items = Log (line.Panic kind) ∷ []; board = b; stop = Some (record { why = kind; before = w }) }) (sym e)

refused_by : (b : Board) (k : Kept) (s ino n : ℕ) (w : World) (free fit : Option ℕ) (r : TextRefusal) (kind : PanicKind)
    → Err r ≡ making free fit
    → (r ≡ refusal.Full → kind ≡ panic.Text) → (r ≡ refusal.NoSwap → kind ≡ panic.Swap) → Refuses b k s ino n w free fit kind
refused_by b k s ino n w None fit r kind e full swap =
    record { same = refl; log = refused_as b w panic.Text kind (full (let is : r ≡ refusal.Full = cc e in is)) }
refused_by b k s ino n w (Some j) None r kind e full swap =
    record { same = refl; log = refused_as b w panic.Swap kind (swap (let is : r ≡ refusal.NoSwap = cc e in is)) }
refused_by b k s ino n w (Some j) (Some block) r kind e full swap = absurd (cc e)

-- an inode that no text is of has no mark
none_before : {X : Type 0} (p : X → Bool) (a : ℕ) (xs : List X) → position_from p a xs ≡ None → list_any p xs ≡ false
none_before p a [] e = refl
none_before p a (x ∷ xs) e = by (p x) (none_before p (a + 1) xs) e
  where
    by : (b : Bool) → (position_from p (a + 1) xs ≡ None → list_any p xs ≡ false)
        → cond b (Some a) (position_from p (a + 1) xs) ≡ None → (b || list_any p xs) ≡ false
    by true later f = absurd (cc f)
    by false later f = later f

pub unmarked : (k : Kept) (ino : ℕ) (marks : List Bool) → marks ≡ marks_of (texts_in k) → ino < 65536 → found_text k ino ≡ None
    → get_or marks ino false ≡ false
unmarked k ino marks are number none =
    ap (λ l. get_or l ino false) are
    ∙ (mark_at (texts_in k) ino number
    ∙ none_before (is_text_of ino) 0 (texts_in k)
    (sym (position_from-zero (is_text_of ino) (texts_in k)) ∙ (entry_is k ino ∙ none)))

free_in : (o : Option Shared) → is_none (text_in o) ≡ is_none o
free_in None = refl
free_in (Some x) = refl

-- the entry that is free in a call's words
pub entry_free : (k : Kept) (t : ℕ) → free_text k ≡ Some t → t ≡ free_entry (texts_in k)
entry_free k t e = sym (ap (λ o. unwrap_or o 40) (position_map text_in is_none is_none free_in k.texts ∙ e))

-- the text that a process makes, which has none
abbrev pub makes_for : Procs → ℕ → ℕ → ℕ → FileSystem → Comes
makes_for p s ino n fs = xalloc_by (handed p fs) s ino n None (λ placed is_new. nothing placed)

pub made_in : (p : Procs) (n t : ℕ) → Ok t ≡ making (free_text p.images.kept) (swap_fit p.images.kept (blocks n))
    → IsMade (free_text p.images.kept) (swap_fit p.images.kept (blocks n)) t
made_in p n t e = made_by (free_text p.images.kept) (swap_fit p.images.kept (blocks n)) t e

-- It isn't made: what is left then, and the panic.
pub record Refused (p : Procs) (s ino n : ℕ) (fs : FileSystem) (kind : PanicKind) (i : ImagesState) (start end : Taken) : Type 0 where
  pub left : HasLeft p (record p { images = i }) fs start end (makes_for p s ino n fs)
  pub panic : taken_by (came p (makes_for p s ino n fs)).stop None ≡ Err kind

module _ (p : Procs) (s ino n : ℕ) (bare : IsBare p s) (all : IsKept p.images.kept) where
  abbrev makes : FileSystem → Comes
  makes fs = makes_for p s ino n fs

  pub text_came : (fs : FileSystem)
      → came p (makes fs) ≡ text_log (board p) s n (handed p fs) (free_text p.images.kept) (swap_fit p.images.kept (blocks n))
  text_came fs =
      logged_text (board p) s n (handed p fs) (free_text p.images.kept) (swap_fit p.images.kept (blocks n))
      (same_free p.table p.images.kept all.table) (swap_bare p.rows p.table p.images.kept s bare.agree all.slots (blocks n))

  -- It isn't made.
  pub left_refused : (fs : FileSystem) (r : TextRefusal) (kind : PanicKind) (i : ImagesState) (start end : Taken)
      → Err r ≡ making (free_text p.images.kept) (swap_fit p.images.kept (blocks n))
      → (r ≡ refusal.Full → kind ≡ panic.Text) → (r ≡ refusal.NoSwap → kind ≡ panic.Swap)
      → i.kept ≡ with_made_text p.images.kept s ino n (free_text p.images.kept) (swap_fit p.images.kept (blocks n))
      → Took start (Log (line.Panic kind) ∷ []) end → Refused p s ino n fs kind i start end
  left_refused fs r kind i start end e full swap is took =
      let free : Option ℕ = free_text p.images.kept in
      let fit : Option ℕ = swap_fit p.images.kept (blocks n) in
      let refuses = refused_by (board p) p.images.kept s ino n (handed p fs) free fit r kind e full swap in
      let it : SameKept (record p { images = i }) p = same_images (is ∙ refuses.same) in
      record {
        left = left_logged (text_came fs ∙ refuses.log) (same_handed it fs) (same_board it) took;
        panic = ap (λ (l : Logged World). taken_by l.stop None) (text_came fs ∙ refuses.log);
      }

  -- It is.
  module _ (t : ℕ) (made : IsMade (free_text p.images.kept) (swap_fit p.images.kept (blocks n)) t) where
    abbrev texts : List (Option Shared)
    texts = set p.images.kept.texts t (Some (zeros_text ino n made.block))

    abbrev pub images : Kept
    images = record p.images.kept { texts = texts; users = set p.images.kept.users s (Some t) }

    abbrev pub now : Procs
    now = record p { table = change_row p.table s (with_its_text t); images = record p.images { kept = images } }

    made_is : with_new_text p.images.kept s t ino n made.block ≡ images
    unfolding with_new_text
    made_is = refl

    pub images_made : with_made_text p.images.kept s ino n (free_text p.images.kept) (swap_fit p.images.kept (blocks n)) ≡ images
    images_made = (λ i. with_made_text p.images.kept s ino n (made.entry i) (made.blocks i)) ∙ made_is

    pub it_is : (rows : Table) (i : ImagesState) → rows ≡ change_row p.table s (with_its_text t)
        → i.kept ≡ with_made_text p.images.kept s ino n (free_text p.images.kept) (swap_fit p.images.kept (blocks n))
        → SameKept (record p { table = rows; images = i }) now
    it_is rows i table_is is = record { rows = refl; table = table_is; kept = is ∙ images_made; switches = refl }

    is_free : (o : Option Shared) → is_none o ≡ true → o ≡ None
    is_free None e = refl
    is_free (Some x) e = absurd (false≢true e)

    low : t < length p.images.kept.texts
    low = let one = position-Some is_none p.images.kept.texts t None made.entry in one.0

    free : shared p.images.kept t ≡ None
    free = let one = position-Some is_none p.images.kept.texts t None made.entry in is_free (shared p.images.kept t) one.1

    pub text_now : shared images t ≡ Some (zeros_text ino n made.block)
    text_now = get_or-set_same p.images.kept.texts t (Some (zeros_text ino n made.block)) None low

    pub user_now : text_of images s ≡ Some t
    user_now = get_or-set_same p.images.kept.users s (Some t) None (omega (arith, bare.below, all.seats))

    texts_now : map text_in texts ≡ set (texts_in p.images.kept) t (Some (texts_of.new_text ino n))
    texts_now = map-set text_in p.images.kept.texts t (Some (zeros_text ino n made.block))

    pub state_made : (fs new : FileSystem) → inodes_of new ≡ with_reference (inodes_of fs) ino
        → handed now new ≡ makes_text (handed p fs) s ino n
    state_made fs new referred =
        state p s t texts bare all.seats new
        ∙ (λ i. record (handed p fs) {
          processes = set (handed p fs).processes s (Some (with_entry t (process_here p s)));
          texts = texts_now i;
          inodes = referred i;
        })
        ∙ ap (λ k. record (handed p fs) {
          processes = set (handed p fs).processes s (Some (with_entry k (process_here p s)));
          texts = set (texts_in p.images.kept) k (Some (texts_of.new_text ino n));
          inodes = with_reference (inodes_of fs) ino;
        }) (entry_free p.images.kept t made.entry)

    pub board_made : board now ≡ applied (board p) (line.Text s t n made.block)
    unfolding applied
    board_made = ap (λ l. record {
      table = record (change_row p.table s (with_its_text t)) { tout = 0 };
      texts = l;
      core = p.images.kept.core;
    }) (map-set text_place p.images.kept.texts t (Some (zeros_text ino n made.block)))

    log_made : (fs : FileSystem) → came p (makes fs) ≡ text_log (board p) s n (handed p fs) (Some t) (Some made.block)
    log_made fs = text_came fs ∙ (λ i. text_log (board p) s n (handed p fs) (made.entry i) (made.blocks i))

    pub goes_on : (fs : FileSystem) → (came p (makes fs)).stop ≡ None
    goes_on fs = ap (λ (l : Logged World). l.stop) (log_made fs)

    pub left_made : (new : Procs) (fs after : FileSystem) (block : ℕ) (start end : Taken) → SameKept new now
        → inodes_of after ≡ with_reference (inodes_of fs) ino
        → block ≡ (row_in (shared new.images.kept t)).block → Took start (Log (line.Text s t n block) ∷ []) end
        → HasLeft p new after start end (makes fs)
    left_made new fs after block start end is referred block_is took =
        let at : block ≡ made.block = block_is ∙ ap (λ (k : Kept). (row_in (shared k t)).block) is.kept
        ∙ ap (λ o. (row_in o).block) text_now in
        left_logged (log_made fs) (same_handed is after ∙ state_made fs after referred)
        (same_board is ∙ board_made) (subst (λ m. Took start (Log (line.Text s t n m) ∷ []) end) at took)

    pub bare_made : IsBare now s
    bare_made = is_bare p s t texts bare all.seats

    low_in : t < length (texts_in p.images.kept)
    low_in = let long = length-map p.images.kept.texts text_in in let below = low in omega (arith, below, long)

    pub marks_made : (marks : List Bool) → marks ≡ marks_of (texts_in p.images.kept)
        → marks_of (map text_in texts) ≡ set marks ino true
    marks_made marks are =
        ap marks_of texts_now
        ∙ (marks_come (texts_in p.images.kept) t (texts_of.new_text ino n) low_in
        (get_or-map text_in p.images.kept.texts t None ∙ ap text_in free)
        ∙ ap (λ l. set l ino true) (sym are))

-- What a process takes that has no image: none, or the text of an entry or a new one.
abbrev pub takes_by : World → ℕ → ℕ → ℕ → Option ℕ → Comes
takes_by w s ino size o = xalloc_by w s ino size o (λ placed is_new. nothing placed)

pub takes_none : (w : World) (s ino size : ℕ) → size ≡ 0 → nothing w ≡ takes w s ino size
takes_none w s ino size e = sym (ap (λ b. cond b (nothing w) (takes_by w s ino size (entry_of w.texts ino))) (eq-eqb size 0 e))

pub takes_as : (w : World) (s ino size : ℕ) (o : Option ℕ) → size ≢ 0 → entry_of w.texts ino ≡ o
    → takes_by w s ino size o ≡ takes w s ino size
takes_as w s ino size o some e =
    ap (takes_by w s ino size) (sym e)
    ∙ sym (ap (λ b. cond b (nothing w) (takes_by w s ino size (entry_of w.texts ino))) (ne_eqb size 0 some))

pub new_as : (texts : List (Option Text)) (ino size : ℕ) (o : Option ℕ) → size ≢ 0 → entry_of texts ino ≡ o
    → new_if texts o ≡ new_entry texts ino size
new_as texts ino size o some e = ap (new_if texts) (sym e)
    ∙ sym (ap (λ b. cond b None (new_if texts (entry_of texts ino))) (ne_eqb size 0 some))

-- the answer, by the row
pub answer_as : (p : Procs) (c d : Comes) (a b : Option ℕ) → c ≡ d → a ≡ b
    → taken_by (came p c).stop a ≡ taken_by (came p d).stop b
answer_as p c d a b e f = λ i. taken_by (came p (e i)).stop (f i)

pub same_panic : (o : Option (Stop World)) (a b : Option ℕ) (kind : PanicKind) → taken_by o a ≡ Err kind → Err kind ≡ taken_by o b
same_panic None a b kind e = absurd (cc e)
same_panic (Some stop) a b kind e = sym e

pub left_as : {old new : Procs} {fs : FileSystem} {start end : Taken} {c d : Comes} → c ≡ d → HasLeft old new fs start end c
    → HasLeft old new fs start end d
left_as {old} {new} {fs} {start} {end} e left = let P : Comes → Type 0 = λ x. HasLeft old new fs start end x in subst P e left

-- sharing a text stops nowhere
pub shares_on : (p : Procs) (w : World) (s ino size t : ℕ) → (came p (takes_by w s ino size (Some t))).stop ≡ None
shares_on p w s ino size t = ap (λ (l : Logged World). l.stop) (logged_line (board p) (line.Share s t))
