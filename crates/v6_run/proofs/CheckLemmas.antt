-- What `check` answers.
use Rattle.std.proofs.Common.{◌≡◌, ℕ, false, Option, Some, None, List, take, refl, sym, ◌∙◌, ap, subst, IsSomeAnd, is_some, count_by, lit<}
use Rattle.std.specs.Option.{option_map}
use Rattle.v6_port.specs.declared.host.InPort.TheVariants as in_port
use Rattle.v6_port.specs.Outside.{In, same, Outside, Tells, OnlyAt}
use Rattle.v6_port.specs.Causes.{Calm}
use Rattle.fs_codec.specs.Disk.{disk_of}
use Rattle.fs_codec.specs.Faults.{image_fault}
use Rattle.fs_codec.specs.Stands.{store_of}
use Rattle.v6_run.specs.declared.image.TheConstants.{IMAGE_LIMIT}
use Rattle.v6_run.specs.declared.status.Status.TheVariants.{Done}
use Rattle.v6_run.specs.Words.{Check}
use Rattle.v6_run.specs.Report.{ok_line, store_line}
use Rattle.v6_run.specs.Headline.{Known, IsKnownAnd, ends_with, fault_completion, image_completion, image_line, IsComplete}
use Rattle.v6_run.specs.Answers.{Answers}
use Rattle.v6_run.proofs.LinePorts.{or_false}
use Rattle.v6_run.proofs.CauseLemmas.{only_within, left_false, not_input}
use Rattle.v6_run.proofs.AnswerLemmas.{not_so, complete_unwritten, no_output}

module _ (name : List ℕ) (old new : Outside) (only : OnlyAt (same (In in_port.Image)) old new) where
  good_completion : (given : Option (List ℕ)) → IsSomeAnd given (λ bytes. image_fault (take IMAGE_LIMIT bytes) ≡ None)
      → image_completion given (λ bytes. Known (ends_with Done)) ≡ Known (ends_with Done)
  good_completion None good = absurd good
  good_completion (Some bytes) good = ap (λ f. fault_completion f (Known (ends_with Done))) good

  pub check_done : Calm old new → (Tells old → IsSomeAnd (old.fixed.given name) (λ bytes. image_fault (take IMAGE_LIMIT bytes) ≡ None)) → Answers (Check name) Done old new
  check_done calm good = record {
    only = only_within _ _ _ _ (λ q other. left_false (same (In in_port.Image) q) false other) only;
    ends = refl;
    unreported = λ is. cc;
    complete = λ _ told. subst (λ m. IsKnownAnd m (IsComplete Done old new)) (sym (good_completion _ (good (told refl)))) (complete_unwritten Done old new (no_output old new only));
    partial = λ p is. absurd (cc);
    steps = λ p is. absurd (cc);
    order = λ told. (good told, tt);
    opened = λ told p grew. (good told, tt);
    none = λ before. not_so _ (sym before);
    closed = λ _ p is. not_so _ (sym (or_false _ ∙ not_input 0 p (lit< tt)) ∙ is);
    cause = calm;
  }

pub line_given : (n nodes free : ℕ) (given : Option (List ℕ)) (image : List ℕ) → option_map (take n) given ≡ Some image
    → nodes ≡ count_by is_some (store_of (disk_of image)).nodes → free ≡ (store_of (disk_of image)).room → IsSomeAnd given (λ bytes. store_line (store_of (disk_of (take n bytes))) ≡ ok_line nodes free)
line_given n nodes free None image is some room = cc
line_given n nodes free (Some bytes) image is some room =
    let read : take n bytes ≡ image = cc in
    ap (λ l. store_line (store_of (disk_of l))) read ∙ ap (λ m. ok_line m (store_of (disk_of image)).room) (sym some) ∙ ap (λ f. ok_line nodes f) (sym room)

pub image_line_is : (given : Option (List ℕ)) (line : List ℕ) → IsSomeAnd given (λ bytes. store_line (store_of (disk_of (take IMAGE_LIMIT bytes))) ≡ line) → image_line given ≡ line
image_line_is None line is = absurd is
image_line_is (Some bytes) line is = is
