-- A text has one user more: the texts that a call is handed, the board, and the marks.
use Rattle.std.proofs.Common.{◌≡◌, ◌∙◌, ◌+◌, ℕ, List, map, get_or, set, Option, Some, None, refl, sym, ap}
use Rattle.std.specs.Option.{option_map}
use Rattle.std.proofs.lemmas.List.{map-set}
use Rattle.std.proofs.Math.ListN.{get_or-map}
use Rattle.v6_base.specs.declared.entry.Entry.TheVariants as line
use Rattle.pick_rules.specs.Board.{TextPlace}
use Rattle.pick_rules.specs.Apply.{applied, change_row}
use Rattle.pick_rules.specs.Apply as board_of_log
use Rattle.text_tab.specs.Table.{joined}
use Rattle.image_keep.specs.Kept.{Shared, Kept, shared, changed}
use Rattle.swap_sched.specs.Match.{text_place}
use Rattle.image_keep.specs.SharedTexts.{with_joined_text}
use Rattle.sys_procs.specs.declared.procs.Procs.{Procs}
use Rattle.sys_procs.specs.TextTable.{is_text_of, marks_of}
use Rattle.sys_procs.specs.Texts as texts
use Rattle.sys_procs.specs.World.{text_in, texts_in}
use Rattle.sys_procs.specs.Handed.{board}
use Rattle.sys_procs.proofs.Retexted.{with_its_text}
use Rattle.sys_procs.proofs.TextMarks.{marks_same}

module _ (k : Kept) (t : ℕ) where
  abbrev pub more : List (Option Shared)
  more = set k.texts t (changed joined (shared k t))

  in_by : (o : Option Shared) → text_in (changed joined o) ≡ option_map texts.joined (text_in o)
  in_by None = refl
  in_by (Some x) = refl

  pub texts_joined : map text_in more ≡ texts.with_user (texts_in k) t
  texts_joined =
      map-set text_in k.texts t (changed joined (shared k t))
      ∙ ap (λ o. set (texts_in k) t o) (in_by (shared k t)
      ∙ ap (λ o. option_map texts.joined o) (sym (get_or-map text_in k.texts t None)))

  abbrev one_more : TextPlace → TextPlace
  one_more text = record text { users = text.users + 1 }

  place_by : (o : Option Shared) → text_place (changed joined o) ≡ board_of_log.changed (text_place o) one_more
  place_by None = refl
  place_by (Some x) = refl

  pub places_joined : map text_place more ≡ set (map text_place k.texts) t
      (board_of_log.changed (get_or (map text_place k.texts) t None) one_more)
  places_joined =
      map-set text_place k.texts t (changed joined (shared k t))
      ∙ ap (λ o. set (map text_place k.texts) t o) (place_by (shared k t)
      ∙ ap (λ o. board_of_log.changed o one_more) (sym (get_or-map text_place k.texts t None)))

  ino_by : (ino : ℕ) (o : Option Shared) → is_text_of ino (text_in (changed joined o)) ≡ is_text_of ino (text_in o)
  ino_by ino None = refl
  ino_by ino (Some x) = refl

  pub marks_joined : marks_of (map text_in more) ≡ marks_of (texts_in k)
  marks_joined =
      ap marks_of (map-set text_in k.texts t (changed joined (shared k t)))
      ∙ marks_same (texts_in k) t (text_in (changed joined (shared k t)))
      (λ ino. ino_by ino (shared k t) ∙ ap (is_text_of ino) (sym (get_or-map text_in k.texts t None)))

-- The board of a process that shares a text from now on.
module _ (p : Procs) (s t : ℕ) where
  abbrev pub joins : Procs
  joins = record p {
    table = change_row p.table s (with_its_text t);
    images = record p.images { kept = record p.images.kept { texts = more p.images.kept t; users = set p.images.kept.users s (Some t) } };
  }

  pub board_joined : board joins ≡ applied (board p) (line.Share s t)
  unfolding applied
  board_joined = λ i. record {
    table = record (change_row p.table s (with_its_text t)) { tout = 0 };
    texts = places_joined p.images.kept t i;
    core = p.images.kept.core;
  }

  pub images_joined : with_joined_text p.images.kept s t ≡ record p.images.kept {
    texts = more p.images.kept t;
    users = set p.images.kept.users s (Some t);
  }
  unfolding with_joined_text
  images_joined = refl
