-- What is known of each slot stays what the slots have.
use Rattle.std.proofs.Common.{◌≡◌, ◌<◌, ℕ, zero, suc, Bool, true, false, List, length, get_or, set, replicate, Option, Some, None, refl, sym, ap, subst, ◌∙◌}
use Rattle.std.proofs.lemmas.List.{map-set, get_or-map, length-map}
use Rattle.v6_base.specs.declared.entry.Place.{Place}
use Rattle.v6_base.specs.Image.{Image}
use Rattle.v6_base.specs.Access.{with_byte, image_after}
use Rattle.u_area.specs.declared.area.UArea.{UArea}
use Rattle.pdp_step.specs.Machine.{Machine}
use Rattle.image_keep.specs.Kept.{Held, Keeping, Nothing, Alive, Grave, Kept, keeping, with_keeping, imaged, described, with_image, with_area, image_of, area_of, text_of, no_users, HasImage, HasGrave}
use Rattle.image_keep.specs.Lent.{left_of}
use Rattle.image_keep.specs.Deposits.{with_byte_of, IsPut}
use Rattle.image_keep.specs.Places.{with_image_at, with_grave_at}
use Rattle.image_keep.specs.Moves.{with_image_moved, forked_at}
use Rattle.image_keep.specs.Running.{with_machine_in}
use Rattle.image_keep.proofs.Frames.{after, keeping_back, left_image}
use Rattle.image_keep.proofs.PlaceFrames.{bare_moved, bare_forked}
use Rattle.part_rows.specs.declared.kind.Kind.{Kind}
use Rattle.part_rows.specs.declared.kind.Kind.TheVariants as kind
use Rattle.part_rows.specs.Kinds.{kind_of, kinds_of}

at_kind : (k : Kept) (s : ℕ) (d : Kind) → s < length (kinds_of k) → get_or (kinds_of k) s d ≡ kind_of (keeping k s)
at_kind k s d low = get_or-map kind_of k.slots s Nothing d (subst (λ n. s < n) (length-map k.slots kind_of) low)

image_by : (x : Keeping) → kind_of x ≡ kind.Image → (held : Held) × (x ≡ Alive held)
image_by Nothing is = absurd (cc is)
image_by (Alive held) is = (held, refl)
image_by (Grave u block) is = absurd (cc is)

nothing_by : (x : Keeping) → kind_of x ≡ kind.Nothing → x ≡ Nothing
nothing_by Nothing is = refl
nothing_by (Alive held) is = absurd (cc is)
nothing_by (Grave u block) is = absurd (cc is)

grave_by : (x : Keeping) → kind_of x ≡ kind.Grave → (u : UArea) × (block : ℕ) × (x ≡ Grave u block)
grave_by Nothing is = absurd (cc is)
grave_by (Alive held) is = absurd (cc is)
grave_by (Grave u block) is = (u, block, refl)

kind_at : (kinds : List Kind) (k : Kept) (s : ℕ) (d : Kind) → kinds ≡ kinds_of k → s < length kinds → get_or kinds s d ≡ kind_of (keeping k s)
kind_at kinds k s d tied low = ap (λ l. get_or l s d) tied ∙ at_kind k s d (subst (λ (l : List Kind). s < length l) tied low)

pub has_image : (kinds : List Kind) (k : Kept) (s : ℕ) (d : Kind) → kinds ≡ kinds_of k → s < length kinds → get_or kinds s d ≡ kind.Image → HasImage k s
has_image kinds k s d tied low is = image_by (keeping k s) (sym (kind_at kinds k s d tied low) ∙ is)

pub has_nothing : (kinds : List Kind) (k : Kept) (s : ℕ) (d : Kind) → kinds ≡ kinds_of k → s < length kinds → get_or kinds s d ≡ kind.Nothing → keeping k s ≡ Nothing
has_nothing kinds k s d tied low is = nothing_by (keeping k s) (sym (kind_at kinds k s d tied low) ∙ is)

pub has_grave : (kinds : List Kind) (k : Kept) (s : ℕ) (d : Kind) → kinds ≡ kinds_of k → s < length kinds → get_or kinds s d ≡ kind.Grave → HasGrave k s
has_grave kinds k s d tied low is = grave_by (keeping k s) (sym (kind_at kinds k s d tied low) ∙ is)

-- a slot keeps something else
pub tied_put : (kinds : List Kind) (k w : Kept) (s : ℕ) (x : Keeping) → kinds ≡ kinds_of k → w ≡ with_keeping k s x → set kinds s (kind_of x) ≡ kinds_of w
tied_put kinds k w s x tied is = ap (λ l. set l s (kind_of x)) tied ∙ (sym (map-set kind_of k.slots s x) ∙ ap kinds_of (sym is))

-- a slot keeps something else of its kind
kept_kind : (k : Kept) (s : ℕ) (x : Keeping) → kind_of x ≡ kind_of (keeping k s) → kinds_of (with_keeping k s x) ≡ kinds_of k
kept_kind k s x same =
    map-set kind_of k.slots s x ∙ ap (set (kinds_of k) s) same ∙ sym (map-set kind_of k.slots s (keeping k s)) ∙ ap kinds_of (keeping_back k s)

imaged_kind : (m : Image) (x : Keeping) → kind_of (imaged m x) ≡ kind_of x
imaged_kind m Nothing = refl
imaged_kind m (Alive held) = refl
imaged_kind m (Grave u block) = refl

described_kind : (u : UArea) (x : Keeping) → kind_of (described u x) ≡ kind_of x
described_kind u Nothing = refl
described_kind u (Alive held) = refl
described_kind u (Grave v block) = refl

pub tied_area : (kinds : List Kind) (k w : Kept) (s : ℕ) (u : UArea) → kinds ≡ kinds_of k → w ≡ with_area k s u → kinds ≡ kinds_of w
unfolding with_area
tied_area kinds k w s u tied is = tied ∙ (sym (kept_kind k s (described u (keeping k s)) (described_kind u (keeping k s))) ∙ ap kinds_of (sym is))

pub tied_loan : (kinds : List Kind) (k w : Kept) (s : ℕ) → kinds ≡ kinds_of k → left_of w s ≡ left_of k s → kinds ≡ kinds_of w
unfolding with_image
tied_loan kinds k w s tied same =
    let m : Image = image_of w s in
    tied ∙ (sym (kept_kind k s (imaged m (keeping k s)) (imaged_kind m (keeping k s))) ∙ ap kinds_of (sym (after k w s same)))

pub tied_image : (kinds : List Kind) (k w : Kept) (s : ℕ) (u : UArea) (m : Image) (o : Option Place) (place : Place) → kinds ≡ kinds_of k → w ≡ with_image_at k s u m o → o ≡ Some place → set kinds s kind.Image ≡ kinds_of w
tied_image kinds k w s u m o place tied is found =
    tied_put kinds k w s (Alive (record { u = u; image = m; place = place })) tied (is ∙ ap (with_image_at k s u m) found)

pub tied_no_image : (kinds : List Kind) (k w : Kept) (s : ℕ) (u : UArea) (m : Image) (o : Option Place) → kinds ≡ kinds_of k → w ≡ with_image_at k s u m o → o ≡ None → kinds ≡ kinds_of w
tied_no_image kinds k w s u m o tied is none = tied ∙ ap kinds_of (sym (is ∙ ap (with_image_at k s u m) none))

-- a slot with an image has another one, or nothing changes
pub tied_resized : (kinds : List Kind) (k w : Kept) (s : ℕ) (u : UArea) (m : Image) (o : Option Place) → kinds ≡ kinds_of k → w ≡ with_image_at k s u m o → HasImage k s → kinds ≡ kinds_of w
tied_resized kinds k w s u m None tied is has = tied ∙ ap kinds_of (sym is)
tied_resized kinds k w s u m (Some place) tied is has =
    tied ∙ (sym (kept_kind k s (Alive (record { u = u; image = m; place = place })) (sym (ap kind_of has.1))) ∙ ap kinds_of (sym is))

pub tied_grave : (kinds : List Kind) (k w : Kept) (s : ℕ) (u : UArea) (o : Option ℕ) (block : ℕ) → kinds ≡ kinds_of k → w ≡ with_grave_at k s u o → o ≡ Some block → set kinds s kind.Grave ≡ kinds_of w
tied_grave kinds k w s u o block tied is found = tied_put kinds k w s (Grave u block) tied (is ∙ ap (with_grave_at k s u) found)

pub tied_no_grave : (kinds : List Kind) (k w : Kept) (s : ℕ) (u : UArea) (o : Option ℕ) → kinds ≡ kinds_of k → w ≡ with_grave_at k s u o → o ≡ None → kinds ≡ kinds_of w
tied_no_grave kinds k w s u o tied is none = tied ∙ ap kinds_of (sym (is ∙ ap (with_grave_at k s u) none))

-- No slot has a text.
none_at : (n s : ℕ) → get_or {A = Option ℕ} (replicate n None) s None ≡ None
none_at zero s = refl
none_at (suc n) zero = refl
none_at (suc n) (suc s) = none_at n s

pub no_text : (k : Kept) (s : ℕ) → k.users ≡ no_users → text_of k s ≡ None
unfolding no_users
no_text k s plain = ap (λ users. get_or users s None) plain ∙ none_at 50 s

pub none_text : (k : Kept) (s : ℕ) → k.users ≡ no_users → None ≡ text_of k s
none_text k s plain = sym (no_text k s plain)

pub tied_moved : (kinds : List Kind) (k w : Kept) (s : ℕ) (u : UArea) (m : Image) (o : Option Place) (place : Place) → kinds ≡ kinds_of k → k.users ≡ no_users
    → w ≡ with_image_moved k s u m o → o ≡ Some place → set kinds s kind.Image ≡ kinds_of w
tied_moved kinds k w s u m o place tied plain is = tied_image kinds k w s u m o place tied (is ∙ bare_moved k s u m o (no_text k s plain))

pub tied_not_moved : (kinds : List Kind) (k w : Kept) (s : ℕ) (u : UArea) (m : Image) (o : Option Place) → kinds ≡ kinds_of k → w ≡ with_image_moved k s u m o
    → o ≡ None → kinds ≡ kinds_of w
tied_not_moved kinds k w s u m o tied is none = tied ∙ ap kinds_of (sym (is ∙ ap (with_image_moved k s u m) none))

pub tied_expanded : (kinds : List Kind) (k w : Kept) (s : ℕ) (u : UArea) (m : Image) (o : Option Place) → kinds ≡ kinds_of k → k.users ≡ no_users
    → w ≡ with_image_moved k s u m o → HasImage k s → kinds ≡ kinds_of w
tied_expanded kinds k w s u m o tied plain is = tied_resized kinds k w s u m o tied (is ∙ bare_moved k s u m o (no_text k s plain))

pub tied_forked : (kinds : List Kind) (k w : Kept) (from to : ℕ) (o : Option Place) (place : Place) → kinds ≡ kinds_of k → k.users ≡ no_users
    → w ≡ forked_at k from to o → o ≡ Some place → set kinds to kind.Image ≡ kinds_of w
tied_forked kinds k w from to o place tied plain is =
    tied_image kinds k w to (area_of k from) (image_of k from) o place tied (is ∙ bare_forked k from to o (no_text k from plain) (no_text k to plain))

pub tied_not_forked : (kinds : List Kind) (k w : Kept) (from to : ℕ) (o : Option Place) → kinds ≡ kinds_of k → w ≡ forked_at k from to o → o ≡ None → kinds ≡ kinds_of w
tied_not_forked kinds k w from to o tied is none = tied ∙ ap kinds_of (sym (is ∙ ap (forked_at k from to) none))

-- none has one afterwards
image_plain : (k : Kept) (s : ℕ) (u : UArea) (m : Image) (o : Option Place) → (with_image_at k s u m o).users ≡ k.users
image_plain k s u m None = refl
image_plain k s u m (Some place) = refl

pub plain_put : (k w : Kept) (s : ℕ) (x : Keeping) → k.users ≡ no_users → w ≡ with_keeping k s x → w.users ≡ no_users
plain_put k w s x plain is = ap (λ v. v.users) is ∙ plain

pub plain_moved : (k w : Kept) (s : ℕ) (u : UArea) (m : Image) (o : Option Place) → k.users ≡ no_users → w ≡ with_image_moved k s u m o → w.users ≡ no_users
plain_moved k w s u m o plain is = ap (λ v. v.users) (is ∙ bare_moved k s u m o (no_text k s plain)) ∙ image_plain k s u m o ∙ plain

pub plain_forked : (k w : Kept) (from to : ℕ) (o : Option Place) → k.users ≡ no_users → w ≡ forked_at k from to o → w.users ≡ no_users
plain_forked k w from to o plain is =
    ap (λ v. v.users) (is ∙ bare_forked k from to o (no_text k from plain) (no_text k to plain)) ∙ image_plain k to (area_of k from) (image_of k from) o ∙ plain

pub plain_grave : (k w : Kept) (s : ℕ) (u : UArea) (o : Option ℕ) → k.users ≡ no_users → w ≡ with_grave_at k s u o → w.users ≡ no_users
plain_grave k w s u None plain is = ap (λ v. v.users) is ∙ plain
plain_grave k w s u (Some block) plain is = ap (λ v. v.users) is ∙ plain

pub plain_area : (k w : Kept) (s : ℕ) (u : UArea) → k.users ≡ no_users → w ≡ with_area k s u → w.users ≡ no_users
unfolding with_area
plain_area k w s u plain is = ap (λ v. v.users) is ∙ plain

pub plain_loan : (k w : Kept) (s : ℕ) → k.users ≡ no_users → left_of w s ≡ left_of k s → w.users ≡ no_users
unfolding with_image
plain_loan k w s plain same = ap (λ v. v.users) (after k w s same) ∙ plain

-- a byte has been put into an image, or nothing has changed
pub tied_deposit : (kinds : List Kind) (k w : Kept) (swap : Bool) (at b : ℕ) (r : Bool) → kinds ≡ kinds_of k → (r ≡ true → IsPut k swap at b w) → (r ≡ false → w ≡ k) → kinds ≡ kinds_of w
unfolding with_image with_byte_of
tied_deposit kinds k w swap at b true tied put same =
    let p = put refl in
    let m : Image = image_after (image_of k p.0) (with_byte (image_of k p.0) p.1 b) in
    tied ∙ (sym (kept_kind k p.0 (imaged m (keeping k p.0)) (imaged_kind m (keeping k p.0))) ∙ ap kinds_of (sym p.3))
tied_deposit kinds k w swap at b false tied put same = tied ∙ ap kinds_of (sym (same refl))

pub plain_deposit : (k w : Kept) (swap : Bool) (at b : ℕ) (r : Bool) → k.users ≡ no_users → (r ≡ true → IsPut k swap at b w) → (r ≡ false → w ≡ k) → w.users ≡ no_users
unfolding with_image with_byte_of
plain_deposit k w swap at b true plain put same = ap (λ v. v.users) (put refl).3 ∙ plain
plain_deposit k w swap at b false plain put same = ap (λ v. v.users) (same refl) ∙ plain

-- an instruction is done
pub tied_machine : (kinds : List Kind) (k w : Kept) (s : ℕ) (m : Machine) → kinds ≡ kinds_of k → w ≡ with_machine_in k s m → kinds ≡ kinds_of w
tied_machine kinds k w s m tied is = tied_area kinds (with_image k s m.image) w s _ (tied_loan kinds k (with_image k s m.image) s tied (left_image k s m.image)) is

pub plain_machine : (k w : Kept) (s : ℕ) (m : Machine) → k.users ≡ no_users → w ≡ with_machine_in k s m → w.users ≡ no_users
plain_machine k w s m plain is = plain_area (with_image k s m.image) w s _ (plain_loan k (with_image k s m.image) s plain (left_image k s m.image)) is

pub ruleset ties = (tied_deposit, plain_deposit, has_image, has_nothing, has_grave, no_text, none_text, tied_put, tied_area, tied_loan, tied_moved, tied_not_moved, tied_expanded, tied_forked, tied_not_forked, tied_grave, tied_no_grave, plain_put, plain_moved, plain_forked, plain_grave, plain_area, plain_loan)
