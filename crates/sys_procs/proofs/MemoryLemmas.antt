-- The memory of a process: what a loan of it leaves.
use Rattle.std.specs.Option.{unwrap_or}
use Rattle.std.proofs.Common.{◌≡◌, ◌∙◌, ℕ, zero, suc, List, [], ◌∷◌, length, get_or, map, set, Option, Some, None, refl, sym, ap, subst, arith}
use Rattle.v6_base.specs.Image.{Image}
use Rattle.pick_rules.specs.declared.row.TableRow.{TableRow}
use Rattle.pick_rules.specs.Table.{row_at}
use Rattle.proc_tab.specs.declared.member.Member.{Member}
use Rattle.proc_tab.specs.Processes.{member_at}
use Rattle.image_keep.specs.Kept.{Held, Alive, Shared, Kept, IsKept, keeping, text_of, image_in, imaged, with_image}
use Rattle.image_keep.specs.Kept as kept
use Rattle.image_keep.specs.State.{ImagesState}
use Rattle.image_keep.specs.Lent.{left_of}
use Rattle.image_keep.proofs.Frames.{after, image_back, keeping_same, with_image_other, with_image_texts}
use Rattle.fs_nodes.specs.FileSystem.{FileSystem}
use Rattle.sys_procs.specs.declared.procs.Procs.{Procs}
use Rattle.sys_procs.specs.Process.{Process, image_of}
use Rattle.sys_procs.specs.TextTable.{no_text, text_bytes}
use Rattle.sys_procs.specs.World.{processes_in, text_in, texts_in, with_process}
use Rattle.sys_procs.specs.Agree.{Agrees, board_of}
use Rattle.sys_procs.specs.Handed.{board, handed, process_here, IsAlive}
use Rattle.sys_procs.specs.inside.Handed.{memory_here}
use Rattle.sys_procs.proofs.SameKept.{SameKept, same_handed, same_alive}
use Rattle.sys_procs.proofs.Slots.{image_changed}
use Rattle.sys_procs.proofs.Agreement.{agree_but}
use Rattle.sys_procs.proofs.Alive.{is_here}

-- the bytes of a slot's text
pub bytes_at : (texts : List (Option Shared)) (t : ℕ) → (unwrap_or (get_or (map text_in texts) t None) no_text).bytes ≡ kept.bytes_in (get_or texts t None)
bytes_at [] t = refl
bytes_at (None ∷ texts) zero = refl
bytes_at (Some x ∷ texts) zero = refl
bytes_at (x ∷ texts) (suc t) = bytes_at texts t

bytes_same : (k : Kept) (t : Option ℕ) → text_bytes (texts_in k) t ≡ kept.text_bytes k t
bytes_same k None = refl
bytes_same k (Some t) = bytes_at k.texts t

-- the image of a process has the bytes of its text
pub image_here : (p : Procs) (s : ℕ) → IsAlive p s → IsKept p.images.kept → memory_here p s ≡ kept.image_of p.images.kept s
image_here p s alive holds =
    let here = is_here p s alive in
    ap (image_of (texts_in p.images.kept)) here.process_is
    ∙ (ap (λ (text : List ℕ). record here.held.image { text = text })
    (bytes_same p.images.kept (text_of p.images.kept s) ∙ (sym (holds.text s alive.image) ∙ ap (λ x. (image_in x).text) here.image_is))
    ∙ sym (ap image_in here.image_is))

-- The slot has this image after the loan.
module _ (p : Procs) (s : ℕ) (alive : IsAlive p s) (long : length p.images.kept.slots ≡ 50) (m : Image) where
  image_put : processes_in p.rows.slots (with_image p.images.kept s m) ≡ set (processes_in p.rows.slots p.images.kept) s (Some (record (process_here p s) { «data» = m.data; stack = m.stack }))
  image_put =
      let here = is_here p s alive in
      image_changed p.rows.slots p.images.kept s here.member here.held alive.below here.member_is here.image_is m (omega (arith, alive.below, long))

  state_with : (fs : FileSystem) → handed (record p { images = record p.images { kept = with_image p.images.kept s m } }) fs ≡ with_process (handed p fs) s (record (process_here p s) { «data» = m.data; stack = m.stack })
  unfolding with_image
  state_with fs = ap (λ (ps : List (Option Process)). record (handed p fs) { processes = ps }) image_put

  image_agrees : (o : Option Member) (row : TableRow) (held : Held) → Agrees o row (Alive held) → Agrees o row (Alive (record held { image = m }))
  image_agrees o row held a = record {
    stat = a.stat;
    image = a.image;
    place = a.place;
    size = λ other is. a.size held refl ∙ ap (λ x. kept.clicks_of (kept.area_in x)) is;
    quiet = a.quiet;
    textless = a.textless;
  }

  slot_with : (held : Held) → keeping p.images.kept s ≡ Alive held → keeping (with_image p.images.kept s m) s ≡ Alive (record held { image = m })
  unfolding with_image
  slot_with held has = keeping_same p.images.kept s (imaged m (keeping p.images.kept s)) (omega (arith, alive.below, long)) ∙ ap (imaged m) has

  alive_with : IsAlive (record p { images = record p.images { kept = with_image p.images.kept s m } }) s
  alive_with =
      let here = is_here p s alive in
      let now : keeping (with_image p.images.kept s m) s ≡ Alive (record here.held { image = m }) = slot_with here.held here.image_is in
      let old : Agrees (member_at p.rows.slots s) (row_at p.table s) (Alive here.held) = subst (λ x. Agrees (member_at p.rows.slots s) (row_at p.table s) x) here.image_is (alive.agree.each s alive.above alive.below) in
      record {
        agree = agree_but p.rows p.rows p.table p.table p.images.kept (with_image p.images.kept s m) s alive.agree alive.above alive.agree.table refl
            (subst (λ x. Agrees (member_at p.rows.slots s) (row_at p.table s) x) (sym now) (image_agrees (member_at p.rows.slots s) (row_at p.table s) here.held old))
            (alive.agree.text s alive.above alive.below) (with_image_texts p.images.kept s m)
            (λ r other. refl) (λ r other. refl) (λ r other. with_image_other p.images.kept s r m other);
        above = alive.above;
        below = alive.below;
        image = (record here.held { image = m }, now);
      }

-- After a loan of the memory nothing else has changed.
module _ (p : Procs) (s : ℕ) (alive : IsAlive p s) (long : length p.images.kept.slots ≡ 50) (w : ImagesState) (left : left_of w.kept s ≡ left_of p.images.kept s) where
  abbrev m : Image
  m = kept.image_of w.kept s

  put : SameKept (record p { images = w }) (record p { images = record p.images { kept = with_image p.images.kept s m } })
  put = record { rows = refl; table = refl; kept = after p.images.kept w.kept s left; switches = refl }

  pub loan_state : (fs : FileSystem) → handed (record p { images = w }) fs
      ≡ with_process (handed p fs) s (record (process_here p s) { «data» = m.data; stack = m.stack })
  loan_state fs = same_handed put fs ∙ state_with p s alive long m fs

  pub loan_board : board_of p.table w.kept ≡ board p
  unfolding with_image
  loan_board = ap (λ (k : Kept). board_of p.table k) (after p.images.kept w.kept s left)

  pub loan_alive : IsAlive (record p { images = w }) s
  loan_alive = same_alive put (alive_with p s alive long m)

  -- where the image is the same, all that is kept is
  pub loan_same : m ≡ kept.image_of p.images.kept s → w.kept ≡ p.images.kept
  loan_same same = after p.images.kept w.kept s left ∙ (ap (λ m. with_image p.images.kept s m) same ∙ image_back p.images.kept s)
