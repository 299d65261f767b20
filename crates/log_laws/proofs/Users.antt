-- The users of the texts that are shared: which lines leave them as they are, and what the others do to them.
use Rattle.std.proofs.Common.{◌≡◌, ◌∙◌, ◌+◌, ◌-◌, ◌≤◌, ◌==◌, ℕ, zero, suc, Bool, true, false, cond, List, map, Option, Some, None, is_none, find, length, length-set, get_or, set, set-set, get_or-set_same, refl, sym, ap, subst, inl, inr}
use Rattle.std.specs.List.{range_with_len}
use Rattle.std.proofs.lemmas.Bool.{cases_lt}
use Rattle.std.proofs.lemmas.List.{map-set, set-get_or, get_or_past}
use Rattle.std.proofs.Math.ListN.{get_or-map}
use Rattle.v6_base.specs.declared.entry.Place.{Place}
use Rattle.v6_base.specs.declared.entry.Place.TheVariants.{Core, Swap}
use Rattle.v6_base.specs.declared.entry.Entry.TheVariants as line
use Rattle.pick_rules.specs.Table.{row_at, is_loaded}
use Rattle.pick_rules.specs.Board.{TextPlace, Board, text_at, with_text, free_text}
use Rattle.pick_rules.specs.Apply.{changed, change_text, kept, at_place, without_place, leaves_core, left_text, parted, goes_if_unused, joins, brought, brought_by, applied}

abbrev pub users_of : Option TextPlace → Option ℕ
users_of None = None
users_of (Some text) = Some text.users

-- the users of each text, by entries
abbrev pub users_on : Board → List (Option ℕ)
users_on b = map users_of b.texts

-- The second of two boards has the core of the first, and the users of its texts.
pub record SameRest (b c : Board) : Type 0 where
  pub core : c.core ≡ b.core
  pub users : users_on c ≡ users_on b

pub users_at : (b : Board) (k : ℕ) → get_or (users_on b) k None ≡ users_of (text_at b k)
users_at b k = get_or-map users_of b.texts k None

users_put : (b : Board) (k : ℕ) (o : Option TextPlace) → users_on (with_text b k o) ≡ set (users_on b) k (users_of o)
users_put b k o = map-set users_of b.texts k o

-- where a text has as many users as before
users_back : (b : Board) (k : ℕ) (o : Option TextPlace) → users_of o ≡ users_of (text_at b k) → users_on (with_text b k o) ≡ users_on b
users_back b k o same = users_put b k o ∙ ap (set (users_on b) k) (same ∙ sym (users_at b k)) ∙ set-get_or (users_on b) k None

users_kept : (b : Board) (k : Option ℕ) (rule : TextPlace → TextPlace) → ((text : TextPlace) → (rule text).users ≡ text.users)
    → users_on (change_text b k rule) ≡ users_on b
users_kept b None rule h = refl
users_kept b (Some k) rule h = users_back b k (changed (text_at b k) rule) (by (text_at b k))
  where
    by : (o : Option TextPlace) → users_of (changed o rule) ≡ users_of o
    by None = refl
    by (Some text) = ap Some (h text)

-- an image that goes to a place, or leaves one
pub at_users : (b : Board) (s clicks : ℕ) (place : Place) → users_on (at_place b s clicks place) ≡ users_on b
at_users b s clicks (Core c) = users_kept b (row_at b.table s).text (λ text. record text { loaded = text.loaded + 1 }) (λ text. refl)
at_users b s clicks (Swap block) = refl

core_left : (b : Board) (k : Option ℕ) (x : Bool) → users_on (cond x (leaves_core b k) b) ≡ users_on b
core_left b k true = users_kept b k (λ text. record text { loaded = text.loaded - 1 }) (λ text. refl)
core_left b k false = refl

pub without_users : (b : Board) (s : ℕ) → users_on (without_place b s) ≡ users_on b
without_users b s = core_left b (row_at b.table s).text (is_loaded b.table s)

pub moved_users : (b : Board) (s clicks : ℕ) (place : Place) → users_on (at_place (without_place b s) s clicks place) ≡ users_on b
moved_users b s clicks place = at_users (without_place b s) s clicks place ∙ without_users b s

-- one that comes in, with its text
brought_users : (b : Board) (s : ℕ) (k : Option ℕ) (c : ℕ) → users_on (brought b s k c) ≡ users_on b
brought_users b s None c = at_users b s (row_at b.table s).size (Core c)
brought_users b s (Some k) c = by (text_at b k) refl
  where
    in_core : (text : TextPlace) (x : Bool) → text_at b k ≡ Some text
        → users_on (cond x (at_place (with_text b k (Some (record text { click = c }))) s (row_at b.table s).size (Core (c + text.clicks))) (at_place b s (row_at b.table s).size (Core c)))
        ≡ users_on b
    in_core text true e =
        at_users (with_text b k (Some (record text { click = c }))) s (row_at b.table s).size (Core (c + text.clicks))
        ∙ users_back b k (Some (record text { click = c })) (ap users_of (sym e))
    in_core text false e = at_users b s (row_at b.table s).size (Core c)

    by : (o : Option TextPlace) → text_at b k ≡ o → users_on (brought_by b s k o c) ≡ users_on b
    by None e = at_users b s (row_at b.table s).size (Core c)
    by (Some text) e = in_core text (text.loaded == 0) e

pub come_users : (b : Board) (s c : ℕ) → users_on (applied b (line.SwapIn s c)) ≡ users_on b
unfolding applied
come_users b s c = brought_users b s (row_at b.table s).text c

pub gone_users : (b : Board) (s block : ℕ) → users_on (applied b (line.SwapOut s block)) ≡ users_on b
unfolding applied
gone_users b s block = moved_users b s (row_at b.table s).size (Swap block)

-- a text is joined, or left; without users it goes, unless it is sticky
abbrev pub more : Option ℕ → Option ℕ
more None = None
more (Some n) = Some (n + 1)

abbrev pub less : Option ℕ → Option ℕ
less None = None
less (Some n) = Some (n - 1)

abbrev pub unless_none : Option ℕ → Option ℕ
unless_none None = None
unless_none (Some n) = cond (n == 0) None (Some n)

abbrev pub joined_users : List (Option ℕ) → Option ℕ → List (Option ℕ)
joined_users users None = users
joined_users users (Some k) = set users k (more (get_or users k None))

abbrev pub parted_users : List (Option ℕ) → ℕ → List (Option ℕ)
parted_users users k = set users k (less (get_or users k None))

abbrev pub left_users : List (Option ℕ) → ℕ → Bool → List (Option ℕ)
left_users users k true = parted_users users k
left_users users k false = set users k (unless_none (less (get_or users k None)))

less_at : (users : List (Option ℕ)) (k : ℕ) → get_or (parted_users users k) k None ≡ less (get_or users k None)
less_at users k = elim (cases_lt k (length users)) [
  | inl low ↦ get_or-set_same users k (less (get_or users k None)) None low
  | inr past ↦
      get_or_past (parted_users users k) k None (subst (λ n. n ≤ k) (sym (length-set users k (less (get_or users k None)))) past)
      ∙ sym (ap less (get_or_past users k None past))
]

pub joined_long : (users : List (Option ℕ)) (k : Option ℕ) → length (joined_users users k) ≡ length users
joined_long users None = refl
joined_long users (Some k) = length-set users k (more (get_or users k None))

pub left_long : (users : List (Option ℕ)) (k : ℕ) (sticky : Bool) → length (left_users users k sticky) ≡ length users
left_long users k true = length-set users k (less (get_or users k None))
left_long users k false = length-set users k (unless_none (less (get_or users k None)))

pub join_users : (b : Board) (k : Option ℕ) → users_on (joins b k) ≡ joined_users (users_on b) k
join_users b None = refl
join_users b (Some k) =
    users_put b k (changed (text_at b k) (λ text. record text { users = text.users + 1 }))
    ∙ ap (set (users_on b) k) (by (text_at b k) ∙ ap more (sym (users_at b k)))
  where
    by : (o : Option TextPlace) → users_of (changed o (λ text. record text { users = text.users + 1 })) ≡ more (users_of o)
    by None = refl
    by (Some text) = refl

part_users : (b : Board) (k : ℕ) → users_on (parted b k) ≡ parted_users (users_on b) k
part_users b k =
    users_put b k (changed (text_at b k) (λ text. record text { users = text.users - 1 }))
    ∙ ap (set (users_on b) k) (by (text_at b k) ∙ ap less (sym (users_at b k)))
  where
    by : (o : Option TextPlace) → users_of (changed o (λ text. record text { users = text.users - 1 })) ≡ less (users_of o)
    by None = refl
    by (Some text) = refl

unused_users : (b : Board) (k : ℕ) → users_on (goes_if_unused b k) ≡ set (users_on b) k (unless_none (get_or (users_on b) k None))
unused_users b k = users_put b k (kept (text_at b k)) ∙ ap (set (users_on b) k) (by (text_at b k) ∙ ap unless_none (sym (users_at b k)))
  where
    unused : (text : TextPlace) (x : Bool) → users_of (cond x None (Some text)) ≡ cond x None (Some text.users)
    unused text true = refl
    unused text false = refl

    by : (o : Option TextPlace) → users_of (kept o) ≡ unless_none (users_of o)
    by None = refl
    by (Some text) = unused text (text.users == 0)

pub leave_users : (b : Board) (s k : ℕ) (sticky : Bool) → users_on (applied b (line.Leave s k sticky)) ≡ left_users (users_on b) k sticky
unfolding applied
leave_users b s k true = part_users (left_text b s) k ∙ ap (λ users. parted_users users k) (core_left b (row_at b.table s).text (is_loaded b.table s))
leave_users b s k false =
    unused_users (parted (left_text b s) k) k
    ∙ ap (λ users. set users k (unless_none (get_or users k None)))
    (part_users (left_text b s) k ∙ ap (λ users. parted_users users k) (core_left b (row_at b.table s).text (is_loaded b.table s)))
    ∙ ap (λ o. set (parted_users (users_on b) k) k (unless_none o)) (less_at (users_on b) k)
    ∙ set-set (users_on b) k (less (get_or (users_on b) k None)) (unless_none (less (get_or (users_on b) k None)))

pub text_users : (b : Board) (s k clicks block : ℕ) → users_on (applied b (line.Text s k clicks block)) ≡ set (users_on b) k (Some 1)
unfolding applied
text_users b s k clicks block = users_put b k (Some (record { clicks = clicks; users = 1; loaded = 0; click = 0; block = block }))

pub share_users : (b : Board) (s k : ℕ) → users_on (applied b (line.Share s k)) ≡ joined_users (users_on b) (Some k)
unfolding applied
share_users b s k = join_users b (Some k)

-- the lowest entry that is free
abbrev pub free_users : List (Option ℕ) → Option ℕ
free_users users = find (λ k. is_none (get_or users k None)) (range_with_len 0 40)

pub free_is : (b : Board) → free_users (users_on b) ≡ free_text b
free_is b = from 0 40
  where
    none_is : (o : Option TextPlace) → is_none (users_of o) ≡ is_none o
    none_is None = refl
    none_is (Some text) = refl

    from : (a n : ℕ) → find (λ k. is_none (get_or (users_on b) k None)) (range_with_len a n) ≡ find (λ k. is_none (text_at b k)) (range_with_len a n)
    from a zero = refl
    from a (suc n) = rw (ap is_none (users_at b a) ∙ none_is (text_at b a), from (a + 1) n) refl
