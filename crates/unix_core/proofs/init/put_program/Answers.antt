use Rattle.std.proofs.Common.{◌≡◌, ◌∙◌, ◌++◌, List, ℕ, drop, sym, ap}
use Rattle.v6_base.specs.Image.{Image}
use Rattle.fs_codec.specs.Bytes.{bytes_of}
use Rattle.image_keep.specs.Kept.{Kept, image_of, with_image}
use Rattle.image_keep.specs.Lent.{Lent, outside_of}
use Rattle.abstract_unix.specs.Init.{init_words, init_data}
use Rattle.unix_core.proofs.LoanLemmas.{same_kept}
use Rattle.image_keep.proofs.Loans.{lent_back}
use Rattle.unix_core.proofs.init.put_program.Goals as goal

pub store_program-requires-clause-text : goal.store_program-requires-clause-text
store_program-requires-clause-text c =
    let lent = c.space-space in
    ap (λ (x : Kept). (image_of x lent.result.slot).text) (same_kept lent.ensures.images)
    ∙ ap (λ s. (image_of c.args.procs.now.images.kept s).text) lent.ensures.slot ∙ c.requires.no_text

pub returns-clause-kept : goal.returns-clause-kept
unfolding init_data
returns-clause-kept c =
    let k : Kept = c.args.procs.now.images.kept in
    let s = c.args.s in
    let lent = c.space-space in
    let done = c.store_program in
    let now : Kept = done.new.space.images.now.kept in
    let back : now ≡ with_image k s (image_of now done.new.space.slot) =
    lent_back k lent.result.images.now.kept now s lent.result.slot done.new.space.slot _ _ (same_kept lent.ensures.images) lent.ensures.slot done.ensures.rest in
    let was : image_of lent.result.images.now.kept lent.result.slot ≡ image_of k s =
    ap (λ (x : Kept). image_of x lent.result.slot) (same_kept lent.ensures.images) ∙ ap (image_of k) lent.ensures.slot in
    back ∙ ap (with_image k s) (done.ensures.image
    ∙ ap (λ (m : Image). record m { «data» = bytes_of init_words ++ drop 22 m.data }) was
    ∙ ap (λ (d : List ℕ). record (image_of k s) { «data» = bytes_of init_words ++ drop 22 d }) c.requires.cleared)

pub returns-clause-bytes : goal.returns-clause-bytes
returns-clause-bytes c =
    let lent = c.space-space in
    let done = c.store_program in
    let slot = ap (λ (l : Lent). l.slot) done.ensures.rest ∙ lent.ensures.slot in
    ap (outside_of done.new.space.images.now) (sym slot)
    ∙ ap (λ (l : Lent). l.outside) done.ensures.rest
    ∙ (λ i. outside_of (lent.ensures.images i) (lent.ensures.slot i))
