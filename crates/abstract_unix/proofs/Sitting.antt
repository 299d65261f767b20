-- The processes of a Unix as the board of the log tells them: who sits in which slot.
use Rattle.std.proofs.Common.{◌≡◌, ◌∙◌, ◌==◌, ◌+◌, ◌-◌, ◌&&◌, ◌<◌, ◌≤◌, ℕ, suc, nat_le, not, Bool, true, false, cond, List, map, [], ◌∷◌, length, find, Option, Some, None, is_none, option_map, unwrap_or, get_or, set, refl, sym, ap, subst, arith}
use Rattle.std.proofs.lemmas.Bool.{leb-true, leb-false, eq-eqb, ne_eqb}
use Rattle.std.proofs.lemmas.List.{map-set}
use Rattle.std.proofs.Math.ListN.{get_or-map}
use Rattle.std.specs.List.{position, position_from, range_with_len}
use Rattle.std.proofs.lemmas.Iterator.Adapters.{position_from-zero}
use Rattle.pick_rules.specs.Board.{Board}
use Rattle.pick_rules.specs.Lawful.{Seen}
use Rattle.u_area.specs.declared.layout.TheConstants.{NOTHING_PENDING}
use Rattle.image_keep.specs.Kept.{clicks_of}
use Rattle.log_laws.proofs.Seats.{Seat, Seats, seat_at, with_seat, InTurn, InCall}
use Rattle.log_laws.proofs.Users.{free_users, more, less, unless_none, joined_users, left_users}
use Rattle.log_laws.proofs.Deaths.{change_in}
use Rattle.sys_procs.specs.Process.{Process, no_process}
use Rattle.sys_procs.specs.TextTable.{Text}
use Rattle.sys_procs.specs.Texts.{joined, with_user, joined_by_child, remaining}
use Rattle.sys_procs.specs.World.{Clock, World}
use Rattle.abstract_unix.specs.Unix.{Unix}
use Rattle.abstract_unix.specs.Turn.{is_user}

abbrev pub seat_for : Process → Seat
seat_for p = record { dead = p.is_zombie; calling = not (is_user p); text = p.text; size = clicks_of p.u }

abbrev pub seat_of : Option Process → Option Seat
seat_of None = None
seat_of (Some p) = Some (seat_for p)

-- the users of each text that is shared
abbrev pub users_in : Option Text → Option ℕ
users_in None = None
users_in (Some text) = Some text.users

abbrev pub users : List (Option Text) → List (Option ℕ)
users texts = map users_in texts

pub users_at : (texts : List (Option Text)) (k : ℕ) → get_or (users texts) k None ≡ users_in (get_or texts k None)
users_at texts k = get_or-map users_in texts k None

-- the lowest entry that is free
free_from : (f : ℕ → Option ℕ) (a : ℕ) (texts : List (Option Text)) → ((i : ℕ) → f (a + i) ≡ get_or (users texts) i None)
    → find (λ k. is_none (f k)) (range_with_len a (length texts)) ≡ position_from is_none a texts
free_from f a [] h = refl
free_from f a (o ∷ texts) h = by o (subst (λ n. f n ≡ users_in o) (omega arith) (h 0)) (free_from f (a + 1) texts (λ i. subst (λ n. f n ≡ get_or (users texts) i None) (omega arith) (h (suc i))))
  where
    by : (o : Option Text) → f a ≡ users_in o → find (λ k. is_none (f k)) (range_with_len (a + 1) (length texts)) ≡ position_from is_none (a + 1) texts
        → cond (is_none (f a)) (Some a) (find (λ k. is_none (f k)) (range_with_len (a + 1) (length texts))) ≡ cond (is_none o) (Some a) (position_from is_none (a + 1) texts)
    by None e rest = ap (λ x. cond (is_none x) (Some a) (find (λ k. is_none (f k)) (range_with_len (a + 1) (length texts)))) e
    by (Some text) e rest = ap (λ x. cond (is_none x) (Some a) (find (λ k. is_none (f k)) (range_with_len (a + 1) (length texts)))) e ∙ rest

pub free_users_is : (texts : List (Option Text)) → length texts ≡ 40 → free_users (users texts) ≡ position is_none texts
free_users_is texts forty =
    ap (λ n. find (λ k. is_none (get_or (users texts) k None)) (range_with_len 0 n)) (sym forty)
    ∙ free_from (λ k. get_or (users texts) k None) 0 texts (λ i. ap (λ n. get_or (users texts) n None) (omega arith)) ∙ sym (position_from-zero is_none texts)

-- one is joined, or left
pub users_joined : (texts : List (Option Text)) (k : ℕ) → users (with_user texts k) ≡ joined_users (users texts) (Some k)
users_joined texts k =
    map-set users_in texts k (option_map joined (get_or texts k None)) ∙ ap (set (users texts) k) (by (get_or texts k None) ∙ ap more (sym (users_at texts k)))
  where
    by : (o : Option Text) → users_in (option_map joined o) ≡ more (users_in o)
    by None = refl
    by (Some text) = refl

pub users_of_child : (texts : List (Option Text)) (o : Option ℕ) → users (joined_by_child texts o) ≡ joined_users (users texts) o
users_of_child texts None = refl
users_of_child texts (Some k) = users_joined texts k

last_user : (n : ℕ) → nat_le n 1 ≡ (n - 1 == 0)
last_user n = by (nat_le n 1) refl
  where
    by : (x : Bool) → nat_le n 1 ≡ x → x ≡ (n - 1 == 0)
    by true e = let l : n ≤ 1 = leb-true n 1 e in sym (eq-eqb (n - 1) 0 (omega (arith, l)))
    by false e = let l : 1 < n = leb-false n 1 e in sym (ne_eqb (n - 1) 0 (λ f. omega (arith, l, f)))

pub users_left : (texts : List (Option Text)) (k : ℕ) (sticky : Bool)
    → users (set texts k (remaining sticky (get_or texts k None))) ≡ left_users (users texts) k sticky
users_left texts k true =
    map-set users_in texts k (remaining true (get_or texts k None)) ∙ ap (set (users texts) k) (by (get_or texts k None) ∙ ap less (sym (users_at texts k)))
  where
    stays : (text : Text) (x : Bool) → users_in (cond (x && false) None (Some (record text { users = text.users - 1 }))) ≡ Some (text.users - 1)
    stays text true = refl
    stays text false = refl

    by : (o : Option Text) → users_in (remaining true o) ≡ less (users_in o)
    by None = refl
    by (Some text) = stays text (nat_le text.users 1)
users_left texts k false =
    map-set users_in texts k (remaining false (get_or texts k None))
    ∙ ap (set (users texts) k) (by (get_or texts k None) ∙ ap (λ o. unless_none (less o)) (sym (users_at texts k)))
  where
    goes : (text : Text) (x : Bool) → users_in (cond (x && true) None (Some (record text { users = text.users - 1 }))) ≡ cond x None (Some (text.users - 1))
    goes text true = refl
    goes text false = refl

    by : (o : Option Text) → users_in (remaining false o) ≡ unless_none (less (users_in o))
    by None = refl
    by (Some text) = goes text (nat_le text.users 1) ∙ ap (λ x. cond x None (Some (text.users - 1))) (last_user text.users)

-- with the most clicks of an image
abbrev pub seats_in : List (Option Process) → Clock → List (Option Text) → ℕ → Seats
seats_in processes clock texts limit =
    record { slots = map seat_of processes; time = clock.time; ticks = clock.ticks; texts = users texts; most = limit }

abbrev pub seats_of : Unix → Seats
seats_of u = seats_in u.processes u.clock u.texts u.limit

-- the same of what a call is handed
abbrev pub seats_under : ℕ → World → Seats
seats_under limit w = seats_in w.processes w.clock w.texts limit

abbrev pub seats_here : World → Seats
seats_here w = seats_under w.limit w

abbrev pub process_in : List (Option Process) → ℕ → Option Process
process_in processes s = get_or processes s None

abbrev pub found_in : List (Option Process) → ℕ → Process
found_in processes s = unwrap_or (process_in processes s) no_process

pub seat_in : (processes : List (Option Process)) (clock : Clock) (texts : List (Option Text)) (limit s : ℕ)
    → seat_at (seats_in processes clock texts limit) s ≡ seat_of (process_in processes s)
seat_in processes clock texts limit s = get_or-map seat_of processes s None

-- the process that sits in a slot
pub record Sits (processes : List (Option Process)) (s : ℕ) (seat : Seat) : Type 0 where
  pub process : Process
  pub at : process_in processes s ≡ Some process
  pub is : seat_for process ≡ seat

sits_by : (processes : List (Option Process)) (s : ℕ) (seat : Seat) (o : Option Process) → process_in processes s ≡ o
    → seat_of o ≡ Some seat → Sits processes s seat
sits_by processes s seat None e f = absurd (cc f)
sits_by processes s seat (Some p) e f = record { process = p; at = e; is = cc f }

pub sits : (processes : List (Option Process)) (clock : Clock) (texts : List (Option Text)) (limit s : ℕ) (seat : Seat)
    → seat_at (seats_in processes clock texts limit) s ≡ Some seat → Sits processes s seat
sits processes clock texts limit s seat e =
    sits_by processes s seat (process_in processes s) refl (sym (seat_in processes clock texts limit s) ∙ e)

-- whoever runs sits in its slot
module _ (processes : List (Option Process)) (clock : Clock) (texts : List (Option Text)) (limit s : ℕ) (b : Board) (t : InTurn s (seats_in processes clock texts limit) b) where
  pub runner : Sits processes s t.seat
  runner = sits processes clock texts limit s t.seat t.at

  pub runner_is : found_in processes s ≡ runner.process
  runner_is = ap (λ o. unwrap_or o no_process) runner.at

  pub runner_there : process_in processes s ≡ Some (found_in processes s)
  runner_there = runner.at ∙ ap Some (sym runner_is)

  pub runner_seat : seat_for (found_in processes s) ≡ t.seat
  runner_seat = ap seat_for runner_is ∙ runner.is

  pub runner_alive : (found_in processes s).is_zombie ≡ false
  runner_alive = ap (λ x. x.dead) runner_seat ∙ t.alive

  pub runner_text : (found_in processes s).text ≡ t.seat.text
  runner_text = ap (λ x. x.text) runner_seat

-- a process is put into a slot
pub put_in : (processes : List (Option Process)) (clock : Clock) (texts : List (Option Text)) (limit s : ℕ) (p : Process)
    → seats_in (set processes s (Some p)) clock texts limit ≡ with_seat (seats_in processes clock texts limit) s (Some (seat_for p))
put_in processes clock texts limit s p =
    ap (λ slots. record { slots = slots; time = clock.time; ticks = clock.ticks; texts = users texts; most = limit })
    (map-set seat_of processes s (Some p))

-- and one is taken out
pub taken_out : (processes : List (Option Process)) (clock : Clock) (texts : List (Option Text)) (limit s : ℕ)
    → seats_in (set processes s None) clock texts limit ≡ with_seat (seats_in processes clock texts limit) s None
taken_out processes clock texts limit s =
    ap (λ slots. record { slots = slots; time = clock.time; ticks = clock.ticks; texts = users texts; most = limit })
    (map-set seat_of processes s None)

-- The running process is another: it lives, and its image has the same size and shares the same text.
module _ (processes : List (Option Process)) (clock : Clock) (texts : List (Option Text)) (limit s : ℕ) (calling : Bool) (seen : Seen) (p : Process)
    (i : InCall s calling (seats_in processes clock texts limit) seen) where
  pub changed_in : p.is_zombie ≡ false → clicks_of p.u ≡ clicks_of (found_in processes s).u → p.text ≡ (found_in processes s).text
      → InCall s (not (is_user p)) (seats_in (set processes s (Some p)) clock texts limit) seen
  changed_in alive size text = subst (λ v. InCall s (not (is_user p)) v seen) (sym (put_in processes clock texts limit s p))
      (change_in s calling (seats_in processes clock texts limit) seen i (seat_for p) alive (text ∙ runner_text processes clock texts limit s seen.board i.turn)
      (size ∙ ap (λ x. x.size) (runner_seat processes clock texts limit s seen.board i.turn)))

  -- the same, where it waits in a call or not as it did
  pub kept_in : p.is_zombie ≡ (found_in processes s).is_zombie → clicks_of p.u ≡ clicks_of (found_in processes s).u
      → p.u.pending ≡ (found_in processes s).u.pending → p.text ≡ (found_in processes s).text
      → InCall s calling (seats_in (set processes s (Some p)) clock texts limit) seen
  kept_in alive size pending text =
      subst (λ c. InCall s c (seats_in (set processes s (Some p)) clock texts limit) seen)
      (ap (λ n. not (n == NOTHING_PENDING)) pending ∙ ap (λ x. x.calling) (runner_seat processes clock texts limit s seen.board i.turn) ∙ i.calls)
      (changed_in (alive ∙ runner_alive processes clock texts limit s seen.board i.turn) size text)

-- each image has a u area
pub all_sized : (u : Unix) (r : ℕ) (seat : Seat) → seat_at (seats_of u) r ≡ Some seat → 1 ≤ seat.size
all_sized u r seat e =
    let sitter : Sits u.processes r seat = sits u.processes u.clock u.texts u.limit r seat e in
    let size : clicks_of sitter.process.u ≡ seat.size = ap (λ x. x.size) sitter.is in
    omega (arith, size)
