-- exec(II), break(II) and the growth of a stack: their effects are apt.
use Rattle.std.proofs.Common.{◌≡◌, ◌≢◌, ◌∙◌, ◌≤◌, ◌<◌, ◌+◌, ◌-◌, ◌*◌, ◌/◌, ◌==◌, ◌&&◌, ◌||◌, ℕ, not, nat_lt, nat_le, Bool, true, false, cond, List, [], ◌∷◌, map, length, Option, Some, None, option_map, Result, Ok, Err, is_none, position, unwrap_or, get_or, get_or-set_same, set, set-set, bit_and, refl, sym, ap, subst, arith}
use Rattle.buf_cache.specs.Blocks.{patched}
use Rattle.std.proofs.lemmas.Bool.{ltb-false, eqb-false}
use Rattle.std.proofs.lemmas.List.{length-map, map-set, set-get_or}
use Rattle.std.proofs.lemmas.List.Quantifiers.{position-Some}
use Rattle.v6_base.specs.Image.{Image, nseg}
use Rattle.v6_base.specs.declared.errno.Errno.{Errno}
use Rattle.v6_base.specs.declared.errno.Errno.TheVariants.{ENOEXEC, ENOMEM, EACCES, ETXTBSY}
use Rattle.v6_base.specs.declared.entry.Entry.TheVariants as line
use Rattle.fs_codec.specs.Modes.{file_type}
use Rattle.fs_codec.specs.Store.{Node}
use Rattle.fs_codec.specs.declared.modes.TheConstants.{ISUID, ISGID}
use Rattle.fs_laws.specs.Pieces.{Moving}
use Rattle.fs_tree.specs.declared.user.Want.TheVariants.{Execute}
use Rattle.fs_tree.specs.Permission.{permission}
use Rattle.fs_tree.specs.Name.{name_at}
use Rattle.fs_tree.specs.Finding.{Finding, find_in, with_reference}
use Rattle.aout_head.specs.Header.{Header, header_of, plan_of}
use Rattle.aout_head.specs.declared.parts.Plan.{Plan}
use Rattle.pick_rules.specs.Board.{placed}
use Rattle.pick_rules.specs.Effects.{lifted, came}
use Rattle.pick_rules.specs.Effects as effect
use Rattle.pick_rules.specs.Fits.{IsSize}
use Rattle.pick_rules.specs.Lawful.{Seen, seen_after}
use Rattle.log_laws.proofs.Fitting.{Apt}
use Rattle.log_laws.proofs.Seats.{Seat, Seats, InCall}
use Rattle.log_laws.proofs.Deaths.{with_own}
use Rattle.log_laws.proofs.Images.{sized, size_apt, with_text_of, InExec, bare_fits, bare_in, share_apt, text_apt, image_apt}
use Rattle.log_laws.proofs.Users.{joined_users, free_users}
use Rattle.seg_regs.specs.Sizes.{is_refused}
use Rattle.mount_tab.specs.Mounted.{MountTable}
use Rattle.sys_procs.specs.declared.program.Program.{Program}
use Rattle.u_area.specs.declared.layout.TheConstants.{NOTHING_PENDING}
use Rattle.u_area.specs.declared.area.UArea.{UArea}
use Rattle.sys_procs.specs.Process.{Process, no_process, image_of}
use Rattle.sys_procs.specs.TextTable.{Text, no_text, text_of, with_text, is_text_of, entry_of}
use Rattle.sys_procs.specs.Texts.{xfree, xalloc, xalloc_by, new_text, with_entry, shares_text, makes_text, leaves_text, is_sticky}
use Rattle.sys_procs.specs.World.{World, process_of, change, with_inodes, let_go}
use Rattle.sig_core.specs.declared.numbers.TheConstants.{SIGSEG}
use Rattle.sys_procs.specs.Comes.{Comes, fails, does, logs, returns}
use Rattle.sys_procs.specs.Tests.{must, user_of, node_at}
use Rattle.sys_procs.specs.Stack.{arguments, first_stack, stack_clicks}
use Rattle.sys_procs.specs.Break as break
use Rattle.sys_procs.specs.ExecFile as exec
use Rattle.abstract_unix.specs.Unix.{Unix}
use Rattle.abstract_unix.specs.Calls.{world_of, with_world, grows, grown_by, grows_to}
use Rattle.abstract_unix.proofs.Sitting.{seat_for, seat_of, seats_in, seats_under, seats_here, users, users_in, users_at, users_joined, free_users_is, found_in, runner_seat, runner_alive, runner_text, put_in}
use Rattle.abstract_unix.proofs.Steps.{AptBegun, signals_apt, apt_lifted, trapped}
use Rattle.abstract_unix.proofs.Rows.{FineComes, Calling, fails_fine, logged_fine}
use Rattle.abstract_unix.proofs.Exiting.{same_limit, none_left, calling_left, fits_left}

-- sizes that aren't refused are those of an image
second_false : (x y : Bool) → (x || y) ≡ false → y ≡ false
second_false true y e = absurd (cc e)
second_false false y e = e

few_clicks : (t d s most : ℕ) → is_refused t d s most ≡ false → 16 + d + s ≤ most
few_clicks t d s most e =
    let l : t + d + s + 16 ≤ most = ltb-false most (t + d + s + 16) (second_false (nat_lt 8 (nseg t + nseg d + nseg s)) (nat_lt most (t + d + s + 16)) e) in omega (arith, l)

module _ (s : ℕ) (seen : Seen) (w : World) (i : Calling s w seen) where
  abbrev v : Seats
  v = seats_here w

  is_size : (clicks : ℕ) → 16 ≤ clicks → clicks ≤ w.limit → IsSize seen.board clicks
  is_size clicks least few = record { least = least; most = let most = i.agrees.most in omega (arith, few, most) }

  -- the process has an image of another size
  resized : (q : Process) (clicks : ℕ) → seat_for q ≡ sized (seat_for (process_of w s)) clicks → (now : Seen)
      → InCall s false (with_own s v (sized i.turn.seat clicks)) now
      → InCall s false (seats_in (set w.processes s (Some q)) w.clock w.texts w.limit) now
  resized q clicks e now j = subst (λ x. InCall s false x now)
      (ap (λ seat. with_own s v (sized seat clicks)) (sym (runner_seat w.processes w.clock w.texts w.limit s seen.board i.turn))
      ∙ ap (λ seat. with_own s v seat) (sym e) ∙ sym (put_in w.processes w.clock w.texts w.limit s q)) j

  -- break and growth
  expand_fine : (t d st : ℕ) → is_refused t d st w.limit ≡ false → FineComes w.limit s seen (break.expands w s d st)
  unfolding Apt
  expand_fine t d st e = record {
    fine = size_apt s false v seen i (InCall s false (seats_in (set w.processes s (Some q)) w.clock w.texts w.limit)) n w [] fits
        (λ now j. resized q n refl now j);
  }
    where
      n : ℕ
      n = 16 + d + st

      q : Process
      q = break.sized d st (process_of w s)

      fits : IsSize seen.board n
      fits = is_size n (omega arith) (few_clicks t d st w.limit e)

module _ (s : ℕ) (seen : Seen) where
  pub break_fine : (w : World) (at : ℕ) → Calling s w seen → FineComes w.limit s seen (break.break_at w s at)
  unfolding break.break_at
  break_fine w at i = by (is_refused p.u.text_size d p.u.stack_size w.limit) refl
    where
      p : Process
      p = process_of w s

      d : ℕ
      d = break.clicks_up_to p.u.text_size at

      by : (x : Bool) → is_refused p.u.text_size d p.u.stack_size w.limit ≡ x
          → FineComes w.limit s seen (cond x (fails w ENOMEM) (break.expands w s d p.u.stack_size))
      by true e = fails_fine s seen w ENOMEM i
      by false e = expand_fine s seen w i p.u.text_size d p.u.stack_size e

  -- a stack that grows has sizes that are allowed
  grown_fits : (t d st most sp new : ℕ) → break.grown_stack t d st most sp ≡ Some new → is_refused t d new most ≡ false
  unfolding break.grown_stack
  grown_fits t d st most sp new e = outer (((sp == 0) || (st == 0)) || nat_le (65536 - 64 * st) sp) e
    where
      wanted : ℕ
      wanted = (65536 - sp) / 64 + 20

      inner : (y z : Bool) → is_refused t d wanted most ≡ z → cond (y || z) None (Some wanted) ≡ Some new → is_refused t d new most ≡ false
      inner true z f g = absurd (cc g)
      inner false true f g = absurd (cc g)
      inner false false f g = subst (λ n. is_refused t d n most ≡ false) (cc g) f

      outer : (x : Bool)
          → cond x None (cond (nat_le wanted st || is_refused t d wanted most) None (Some wanted)) ≡ Some new
          → is_refused t d new most ≡ false
      outer true g = absurd (cc g)
      outer false g = inner (nat_le wanted st) (is_refused t d wanted most) refl g

  grows_apt : (u : Unix) (c : Comes) → Apt (InCall s false (seats_under u.limit c.state)) seen c.effects
      → AptBegun s seen (grows u c)
  grows_apt u c a =
      trapped s seen (with_world u c.state) (with_world u c.state) (map (lifted (with_world u)) c.effects) (λ now j. j)
      (apt_lifted (with_world u) (InCall s false (seats_under u.limit c.state)) seen c.effects a)

  -- the stack grows for a routine, where it must and can
  pub grown_or_not_apt : (u : Unix) (sp : ℕ) → Calling s (world_of u) seen
      → AptBegun s seen (grows u (break.grown_or_not (world_of u) s (break.grow (world_of u) s sp)))
  unfolding break.grow Apt
  grown_or_not_apt u sp i = by (break.grown_stack p.u.text_size p.u.data_size p.u.stack_size u.limit sp) refl
    where
      p : Process
      p = process_of (world_of u) s

      by : (o : Option ℕ) → break.grown_stack p.u.text_size p.u.data_size p.u.stack_size u.limit sp ≡ o
          → AptBegun s seen (grows u (break.grown_or_not (world_of u) s (option_map (break.expands (world_of u) s p.u.data_size) o)))
      by None e = grows_apt u (returns (world_of u) s) i
      by (Some new) e =
          grows_apt u (break.expands (world_of u) s p.u.data_size new)
          (expand_fine s seen (world_of u) i p.u.text_size p.u.data_size new (grown_fits p.u.text_size p.u.data_size p.u.stack_size u.limit sp new e)).fine

  pub grow_apt : (u : Unix) (sp : ℕ) → Calling s (world_of u) seen → AptBegun s seen (grows_to u s sp)
  unfolding break.grow Apt
  grow_apt u sp i = by (break.grown_stack p.u.text_size p.u.data_size p.u.stack_size u.limit sp) refl
    where
      p : Process
      p = process_of (world_of u) s

      by : (o : Option ℕ) → break.grown_stack p.u.text_size p.u.data_size p.u.stack_size u.limit sp ≡ o
          → AptBegun s seen (grown_by u s (option_map (break.expands (world_of u) s p.u.data_size) o))
      by None e = signals_apt s seen u SIGSEG [] refl (omega arith) (omega arith) i
      by (Some new) e =
          grows_apt u (break.expands (world_of u) s p.u.data_size new)
          (expand_fine s seen (world_of u) i p.u.text_size p.u.data_size new (grown_fits p.u.text_size p.u.data_size p.u.stack_size u.limit sp new e)).fine

-- What the tests of exec leave of the world: all sit as they did. A program that they let through has sizes that are
-- allowed.
record AreTests (w : World) (t : exec.Tested) : Type 0 where
  same : seats_here t.world ≡ seats_here w
  sizes : (program : Program) → t.answer ≡ Ok program
      → is_refused program.text_clicks (exec.data_clicks program.plan) 20 t.world.limit ≡ false

module _ (w : World) where
  refused : (now : World) (e : Errno) → seats_here now ≡ seats_here w
      → AreTests w (record { answer = Err e; world = now })
  refused now e k = record { same = k; sizes = λ program f. absurd (cc f) }

  checked : {A : Type 0} → (now : World) (r : Result A Errno) (next : A → exec.Tested) → seats_here now ≡ seats_here w
      → ((a : A) → r ≡ Ok a → AreTests w (next a)) → AreTests w (exec.check now r next)
  checked now (Ok a) next k h = h a refl
  checked now (Err e) next k h = refused now e k

  fitting : (now : World) (ino : ℕ) (args : List (List ℕ)) (plan : Plan) → seats_here now ≡ seats_here w
      → AreTests w (exec.check (let_go now ino)
      (must ENOMEM (not (is_refused (exec.text_clicks_in now.texts ino plan) (exec.data_clicks plan) stack_clicks now.limit)))
      (λ fits. record { answer = Ok (record { ino = ino; plan = plan; text_clicks = exec.text_clicks_in now.texts ino plan; arguments = args }); world = now }))
  fitting now ino args plan k = by (is_refused (exec.text_clicks_in now.texts ino plan) (exec.data_clicks plan) stack_clicks now.limit) refl
    where
      by : (x : Bool) → is_refused (exec.text_clicks_in now.texts ino plan) (exec.data_clicks plan) stack_clicks now.limit ≡ x
          → AreTests w (exec.check (let_go now ino) (must ENOMEM (not x))
          (λ fits. record { answer = Ok (record { ino = ino; plan = plan; text_clicks = exec.text_clicks_in now.texts ino plan; arguments = args }); world = now }))
      by true e = refused (let_go now ino) ENOMEM k
      by false e = record {
        same = k;
        sizes = λ program f. subst (λ (q : Program). is_refused q.text_clicks (exec.data_clicks q.plan) 20 now.limit ≡ false) (is program f) e;
      }
        where
          tested : Program
          tested = record { ino = ino; plan = plan; text_clicks = exec.text_clicks_in now.texts ino plan; arguments = args }

          answered : Result Program Errno
          answered = Ok tested

          is : (program : Program) → answered ≡ Ok program → tested ≡ program
          is program f = cc f

  header_tests : (now : World) (ino : ℕ) (args : List (List ℕ)) (head : Moving (List ℕ)) → seats_here now ≡ seats_here w
      → AreTests w (exec.tests_header now ino args head)
  header_tests now ino args head k =
      let h : Header = header_of head.memory in
      let out : World = let_go now ino in
      let last : Plan → exec.Tested = λ plan. exec.check out (must ENOMEM (not (is_refused (exec.text_clicks_in now.texts ino plan) (exec.data_clicks plan) stack_clicks now.limit)))
      (λ fits. record { answer = Ok (record { ino = ino; plan = plan; text_clicks = exec.text_clicks_in now.texts ino plan; arguments = args }); world = now }) in
      let planned : Unit {0} → exec.Tested = λ free. exec.check out (exec.or_no_memory (plan_of h)) last in
      let idle : Unit {0} → exec.Tested = λ program. exec.check out (must ETXTBSY (not (exec.is_busy now ino h))) planned in
      let good : Unit {0} → exec.Tested = λ read. exec.check out (must ENOEXEC ((head.done == 16) && exec.is_magic (plan_of h))) idle in
      checked {A = Unit {0}} out (exec.answer_to head.error) good k (λ a e.
      checked {A = Unit {0}} out (must ENOEXEC ((head.done == 16) && exec.is_magic (plan_of h))) idle k (λ b f.
      checked {A = Unit {0}} out (must ETXTBSY (not (exec.is_busy now ino h))) planned k (λ d g.
      checked {A = Plan} out (exec.or_no_memory (plan_of h)) last k (λ plan f. fitting now ino args plan k))))

  file_tests : (now : World) (s ino list : ℕ) → seats_here now ≡ seats_here w
      → AreTests w (exec.tests_file now s ino list)
  file_tests now s ino list k =
      let q : Process = process_of now s in
      let node : Node = node_at now ino in
      let out : World = let_go now ino in
      let head : Moving (List ℕ) = exec.header_read now ino in
      let read : List (List ℕ) → exec.Tested = λ args. exec.tests_header (exec.with_moved now ino head) ino args head in
      let named : Unit {0} → exec.Tested = λ plain. exec.check out (arguments (image_of now.texts q) list) read in
      let allowed : Unit {0} → exec.Tested = λ may. exec.check out (must EACCES (file_type node.mode == 0)) named in
      checked {A = Unit {0}} out (permission node (user_of q) Execute) allowed k (λ a e.
      checked {A = Unit {0}} out (must EACCES (file_type node.mode == 0)) named k (λ b f.
      checked {A = List (List ℕ)} out (arguments (image_of now.texts q) list) read k (λ args g.
      header_tests (exec.with_moved now ino head) ino args head k)))

  all_tests : (mounts : MountTable) (s name list : ℕ) → AreTests w (exec.tests mounts w s name list)
  all_tests mounts s name list =
      let q : Process = process_of w s in
      let found : Finding ℕ = find_in w.inodes mounts (user_of q) q.u.dir (name_at (image_of w.texts q) name) in
      checked {A = ℕ} (with_inodes w found.inodes) found.answer (λ ino. exec.tests_file (with_inodes w found.inodes) s ino list) refl
      (λ ino e. file_tests (with_inodes w found.inodes) s ino list refl)

nil_apt : (W : Type 0) (Q : Seen → Type 0) (seen : Seen) → Q seen → Apt {W = W} Q seen []
unfolding Apt
nil_apt W Q seen q = q

abbrev owner_if : Bool → Node → Process → Process
owner_if x node p = cond x (record p { u = record p.u { uid = node.uid }; row = record p.row { uid = node.uid } }) p

abbrev group_if : Bool → Node → Process → Process
group_if x node p = cond x (record p { u = record p.u { gid = node.gid } }) p

-- The new image comes, when the old one is given back: whichever text the process has then.
module _ (s : ℕ) (w : World) (u : UArea) (program : Program) (seats : Seats) (seen : Seen) (i : InExec s seats seen) (sizes : is_refused program.text_clicks (exec.data_clicks program.plan) 20 w.limit ≡ false) (limit : seats.most ≡ w.limit)
    (calm : not (u.pending == NOTHING_PENDING) ≡ false) (alive : (process_of w s).is_zombie ≡ false) (text : (process_of w s).text ≡ i.turn.seat.text)
    (others : seats_here w ≡ record seats { slots = set seats.slots s (Some (seat_for (process_of w s))) }) where
  abbrev pub plan : Plan
  plan = program.plan

  abbrev pub clicks : ℕ
  clicks = exec.image_clicks plan

  image_size : IsSize seen.board clicks
  image_size =
      let few : 16 + exec.data_clicks plan + 20 ≤ w.limit = few_clicks program.text_clicks (exec.data_clicks plan) 20 w.limit sizes in
      let most = i.most in
      record { least = omega arith; most = omega (arith, few, most, limit) }

  abbrev begun_by : Process → List ℕ → Process
  begun_by p read = record p {
    u = exec.begun_area u program;
    «data» = read;
    stack = first_stack program.arguments;
  }

  seat_begins : (p : Process) (node : Node) (read : List ℕ)
      → seat_for (exec.begins u p node program read) ≡ record { dead = p.is_zombie; calling = not (u.pending == NOTHING_PENDING); text = p.text; size = clicks }
  seat_begins p node read = by (not (bit_and node.mode ISGID == 0)) (not (bit_and node.mode ISUID == 0) && not (u.uid == 0))
    where
      by : (x y : Bool) → seat_for (group_if x node (owner_if y node (begun_by p read))) ≡ record { dead = p.is_zombie; calling = not (u.pending == NOTHING_PENDING); text = p.text; size = clicks }
      by true true = refl
      by true false = refl
      by false true = refl
      by false false = refl

  -- the world then, whatever has become of inodes and of the bytes of texts
  module _ (x : World) (same : x.processes ≡ w.processes) (clock : x.clock ≡ w.clock) (texts : users x.texts ≡ users w.texts) (most : x.limit ≡ w.limit) where
    abbrev m : Moving Image
    m = exec.data_read x s program

    abbrev begun : Process
    begun = exec.begins u (process_of x s) (node_at x program.ino) program m.memory.data

    seat_is : seat_for begun ≡ sized i.turn.seat clicks
    seat_is =
        seat_begins (process_of x s) (node_at x program.ino) m.memory.data
        ∙ ap (λ (ps : List (Option Process)). record {
          dead = (found_in ps s).is_zombie;
          calling = not (u.pending == NOTHING_PENDING);
          text = (found_in ps s).text;
          size = clicks;
        }) same
        ∙ (λ j. record { dead = (alive ∙ sym i.turn.alive) j; calling = (calm ∙ sym i.calls) j; text = text j; size = clicks })

    seats_are : seats_here (exec.executes x s u program).state ≡ with_own s seats (sized i.turn.seat clicks)
    seats_are =
        put_in x.processes x.clock x.texts x.limit s begun
        ∙ (λ j. record { slots = set (map seat_of (same j)) s (Some (seat_is j)); time = (clock j).time; ticks = (clock j).ticks; texts = texts j; most = most j })
        ∙ ap (λ (v : Seats). record v { slots = set v.slots s (Some (sized i.turn.seat clicks)) }) others
        ∙ ap (λ slots. record seats { slots = slots }) (set-set seats.slots s (Some (seat_for (process_of w s))) (Some (sized i.turn.seat clicks)))

    pub image_fine : (before : World)
        → Apt (InCall s false (seats_under w.limit (exec.executes x s u program).state)) seen
        (effect.Image s clicks before ∷ (exec.executes x s u program).effects)
    image_fine before =
        image_apt s seats seen i (InCall s false (seats_under w.limit (exec.executes x s u program).state)) clicks before [] image_size
        (λ now j. nil_apt World (InCall s false (seats_under w.limit (exec.executes x s u program).state)) now
        (subst (λ v. InCall s false v now) (sym (ap (λ n. seats_under n (exec.executes x s u program).state) (sym most) ∙ seats_are)) j))

-- What follows when a process has left its text.
abbrev after_text_of : ℕ → World → Program → Comes
after_text_of s left program =
    logs (line.Bare s) (xalloc (change left s exec.bared) s program.ino program.text_clicks (λ placed is_new.
    does (effect.Image s (exec.image_clicks program.plan) placed) (exec.executes (exec.reads_text is_new placed s program) s (process_of left s).u program)))

-- A program, by a process that has left its text.
module _ (s : ℕ) (seen : Seen) (w : World) (program : Program) (i : Calling s w seen) (none : (process_of w s).text ≡ None)
    (sizes : is_refused program.text_clicks (exec.data_clicks program.plan) 20 w.limit ≡ false) where
  abbrev its_area : UArea
  its_area = (process_of w s).u

  abbrev bared : World
  bared = change w s exec.bared

  abbrev after_bare : Seen
  after_bare = seen_after seen (line.Bare s)

  abbrev here : Seats
  here = seats_here w

  bare_text : i.turn.seat.text ≡ None
  bare_text = sym (runner_text w.processes w.clock w.texts w.limit s seen.board i.turn) ∙ none

  given_up : InExec s here after_bare
  given_up = bare_in s here seen i bare_text

  abbrev next : World → Bool → Comes
  next placed is_new = does (effect.Image s (exec.image_clicks program.plan) placed) (exec.executes (exec.reads_text is_new placed s program) s its_area program)

  inside : s < length w.processes
  inside = subst (λ n. s < n) (sym i.agrees.seats ∙ length-map w.processes seat_of) i.turn.small

  -- who is in the slot then, with this text
  put_process : (q : Process) → found_in (set w.processes s (Some q)) s ≡ q
  put_process q = ap (λ o. unwrap_or o no_process) (get_or-set_same w.processes s (Some q) None inside)

  calm : not (its_area.pending == NOTHING_PENDING) ≡ false
  calm = ap (λ (x : Seat). x.calling) (runner_seat w.processes w.clock w.texts w.limit s seen.board i.turn) ∙ i.calls

  alive : (process_of w s).is_zombie ≡ false
  alive = runner_alive w.processes w.clock w.texts w.limit s seen.board i.turn

  plain_apt : Apt (InCall s false (seats_under w.limit (next bared false).state)) seen (logs (line.Bare s) (next bared false)).effects
  unfolding Apt came
  plain_apt = (
    bare_fits s here seen i bare_text,
    image_fine s bared its_area program here after_bare given_up sizes refl calm
        (ap (λ (q : Process). q.is_zombie) (put_process (exec.bared (process_of w s))) ∙ alive)
        (ap (λ (q : Process). q.text) (put_process (exec.bared (process_of w s))) ∙ runner_text w.processes w.clock w.texts w.limit s after_bare.board given_up.turn)
        (put_in w.processes w.clock w.texts w.limit s (exec.bared (process_of w s)) ∙ ap (λ (q : Process). record here { slots = set here.slots s (Some (seat_for q)) }) (sym (put_process (exec.bared (process_of w s)))))
        bared refl refl refl refl bared,
  )

  -- it has no text then
  its_bare : (j : InExec s here after_bare) → j.turn.seat.text ≡ None
  its_bare j = sym (runner_text w.processes w.clock w.texts w.limit s after_bare.board j.turn) ∙ none

  -- with a text that is there
  module _ (k : ℕ) (there : entry_of w.texts program.ino ≡ Some k) where
    abbrev with_share : Seats
    with_share = with_text_of s here given_up.turn.seat k (joined_users here.texts (Some k))

    abbrev shared : World
    shared = shares_text bared s k

    is_some_text : (o : Option Text) → is_text_of program.ino o ≡ true → (text : Text) × (o ≡ Some text)
    is_some_text None e = absurd (cc e)
    is_some_text (Some text) e = (text, refl)

    found : (text : Text) × (get_or w.texts k None ≡ Some text)
    found = let one = position-Some (is_text_of program.ino) w.texts k None there in is_some_text (get_or w.texts k None) one.1

    its_users : get_or here.texts k None ≡ Some found.0.users
    its_users = users_at w.texts k ∙ ap users_in found.1

    -- the slot is changed twice
    two : set (set w.processes s (Some (exec.bared (process_of w s)))) s (Some (with_entry k (found_in (set w.processes s (Some (exec.bared (process_of w s)))) s)))
        ≡ set w.processes s (Some (with_entry k (exec.bared (process_of w s))))
    two =
        set-set w.processes s (Some (exec.bared (process_of w s))) (Some (with_entry k (found_in (set w.processes s (Some (exec.bared (process_of w s)))) s)))
        ∙ ap (λ (q : Process). set w.processes s (Some (with_entry k q))) (put_process (exec.bared (process_of w s)))

    q : Process
    q = with_entry k (exec.bared (process_of w s))

    here_now : process_of shared s ≡ q
    unfolding q
    here_now = ap (λ (ps : List (Option Process)). found_in ps s) two ∙ put_process (with_entry k (exec.bared (process_of w s)))

    sits_now : seats_here shared ≡ record with_share { slots = set with_share.slots s (Some (seat_for (process_of shared s))) }
    unfolding q
    sits_now =
        (λ j. record { slots = map seat_of (two j); time = w.clock.time; ticks = w.clock.ticks; texts = users_joined w.texts k j; most = w.limit })
        ∙ ap (λ slots. record with_share { slots = slots }) (map-set seat_of w.processes s (Some (with_entry k (exec.bared (process_of w s)))) ∙ sym (set-set here.slots s (Some (record given_up.turn.seat { text = Some k })) (Some (seat_for (with_entry k (exec.bared (process_of w s)))))))
        ∙ ap (λ (p : Process). record with_share { slots = set with_share.slots s (Some (seat_for p)) }) (sym here_now)

    share_fine : Apt (InCall s false (seats_under w.limit (next shared false).state)) seen
        (logs (line.Bare s) (logs (line.Share s k) (next shared false))).effects
    unfolding Apt came q
    share_fine = (
      bare_fits s here seen i bare_text,
      share_apt s here after_bare given_up (its_bare given_up) (InCall s false (seats_under w.limit (next shared false).state)) k found.0.users (next shared false).effects its_users
          (λ now j. image_fine s shared its_area program with_share now j sizes refl calm
          (ap (λ (p : Process). p.is_zombie) here_now ∙ alive)
          (ap (λ (p : Process). p.text) here_now ∙ its_entry now j)
          sits_now shared refl refl refl refl shared),
    )
      where
        its_entry : (now : Seen) → (j : InExec s with_share now) → Some k ≡ j.turn.seat.text
        its_entry now j =
            let at : Some (record given_up.turn.seat { text = Some k }) ≡ Some j.turn.seat =
            sym (get_or-set_same here.slots s (Some (record given_up.turn.seat { text = Some k })) None (subst (λ n. s < n) (sym i.agrees.seats) i.turn.small)) ∙ j.turn.at in
            seat_text (record given_up.turn.seat { text = Some k }) j.turn.seat at
          where
            seat_text : (x y : Seat) → Some x ≡ Some y → x.text ≡ y.text
            seat_text x y e = let same : x ≡ y = cc e in ap (λ (z : Seat). z.text) same

  -- with one that is made
  module _ (size : ℕ) (k : ℕ) (free : free_users here.texts ≡ Some k) where
    abbrev with_new : Seats
    with_new = with_text_of s here given_up.turn.seat k (set here.texts k (Some 1))

    forty : length w.texts ≡ 40
    forty = sym (length-map w.texts users_in) ∙ i.agrees.forty

    entry_is : position is_none w.texts ≡ Some k
    entry_is = sym (free_users_is w.texts forty) ∙ free

    low : k < length w.texts
    low = let one = position-Some is_none w.texts k None entry_is in one.0

    abbrev made_at : ℕ → World
    made_at e = change (record bared { texts = with_text w.texts e (new_text program.ino size); inodes = with_reference w.inodes program.ino }) s (with_entry e)

    made_is : makes_text bared s program.ino size ≡ made_at k
    made_is = ap (λ o. made_at (unwrap_or o 40)) entry_is

    two_made : (made_at k).processes ≡ set w.processes s (Some (with_entry k (exec.bared (process_of w s))))
    two_made =
        set-set w.processes s (Some (exec.bared (process_of w s))) (Some (with_entry k (found_in (set w.processes s (Some (exec.bared (process_of w s)))) s)))
        ∙ ap (λ (p : Process). set w.processes s (Some (with_entry k p))) (put_process (exec.bared (process_of w s)))

    made_here : process_of (made_at k) s ≡ with_entry k (exec.bared (process_of w s))
    made_here = ap (λ (ps : List (Option Process)). found_in ps s) two_made ∙ put_process (with_entry k (exec.bared (process_of w s)))

    users_made : users (with_text w.texts k (new_text program.ino size)) ≡ set here.texts k (Some 1)
    users_made = map-set users_in w.texts k (Some (new_text program.ino size))

    sits_made : seats_here (made_at k) ≡ record with_new { slots = set with_new.slots s (Some (seat_for (process_of (made_at k) s))) }
    sits_made =
        (λ j. record { slots = map seat_of (two_made j); time = w.clock.time; ticks = w.clock.ticks; texts = users_made j; most = w.limit })
        ∙ ap (λ slots. record with_new { slots = slots }) (map-set seat_of w.processes s (Some (with_entry k (exec.bared (process_of w s)))) ∙ sym (set-set here.slots s (Some (record given_up.turn.seat { text = Some k })) (Some (seat_for (with_entry k (exec.bared (process_of w s)))))))
        ∙ ap (λ (p : Process). record with_new { slots = set with_new.slots s (Some (seat_for p)) }) (sym made_here)

    entry_now : exec.entry_in (made_at k) s ≡ k
    entry_now = ap (λ (p : Process). unwrap_or p.text 40) made_here

    there_now : get_or (made_at k).texts k None ≡ Some (new_text program.ino size)
    there_now = get_or-set_same w.texts k (Some (new_text program.ino size)) None low

    abbrev read_text : ℕ → Text
    read_text e = record (text_of (made_at k).texts e) { bytes = patched 0 (exec.text_read (made_at k) program).memory (text_of (made_at k).texts e).bytes }

    abbrev read_at : ℕ → List (Option Text)
    read_at e = with_text (made_at k).texts e (read_text e)

    users_read : users (exec.with_text_read (made_at k) s program).texts ≡ users (made_at k).texts
    users_read =
        ap (λ e. users (read_at e)) entry_now
        ∙ map-set users_in (made_at k).texts k (Some (read_text k))
        ∙ ap (set (users (made_at k).texts) k) (ap (λ o. Some (unwrap_or o no_text).users) there_now ∙ sym (users_at (made_at k).texts k ∙ ap users_in there_now))
        ∙ set-get_or (users (made_at k).texts) k None

    new_fine : (now : Seen) → InExec s with_new now
        → Apt (InCall s false (seats_under w.limit (next (made_at k) true).state)) now (next (made_at k) true).effects
    new_fine now j =
        image_fine s (made_at k) its_area program with_new now j sizes refl calm
        (ap (λ (p : Process). p.is_zombie) made_here ∙ alive)
        (ap (λ (p : Process). p.text) made_here ∙ its_entry now j)
        sits_made (exec.with_text_read (made_at k) s program) refl refl users_read refl (made_at k)
      where
        seat_text : (x y : Seat) → Some x ≡ Some y → x.text ≡ y.text
        seat_text x y e = let same : x ≡ y = cc e in ap (λ (z : Seat). z.text) same

        its_entry : (now : Seen) → (j : InExec s with_new now) → Some k ≡ j.turn.seat.text
        its_entry now j =
            seat_text (record given_up.turn.seat { text = Some k }) j.turn.seat
            (sym (get_or-set_same here.slots s (Some (record given_up.turn.seat { text = Some k })) None (subst (λ n. s < n) (sym i.agrees.seats) i.turn.small)) ∙ j.turn.at)

  text_fine : (size : ℕ) → 1 ≤ size → size ≤ w.limit
      → Apt (InCall s false (seats_under w.limit (next (makes_text bared s program.ino size) true).state)) seen
      (logs (line.Bare s) (does (effect.Text s size bared) (next (makes_text bared s program.ino size) true))).effects
  unfolding Apt came
  text_fine size some few = (
    bare_fits s here seen i bare_text,
    text_apt s here after_bare given_up (its_bare given_up) (InCall s false (seats_under w.limit (next (makes_text bared s program.ino size) true).state)) size bared
        (next (makes_text bared s program.ino size) true).effects some (let most = given_up.most in omega (arith, few, most))
        (λ now k free j. subst (λ (made : World). Apt (InCall s false (seats_under w.limit (next made true).state)) now (next made true).effects) (sym (made_is size k free)) (new_fine size k free now j)),
  )

  few_text : program.text_clicks ≤ w.limit
  few_text =
      let l : program.text_clicks + exec.data_clicks program.plan + 20 + 16 ≤ w.limit =
      ltb-false w.limit (program.text_clicks + exec.data_clicks program.plan + 20 + 16)
      (second_false (nat_lt 8 (nseg program.text_clicks + nseg (exec.data_clicks program.plan) + nseg 20)) (nat_lt w.limit (program.text_clicks + exec.data_clicks program.plan + 20 + 16)) sizes) in
      omega (arith, l)

  rest_fine : FineComes w.limit s seen (after_text_of s w program)
  rest_fine = by (program.text_clicks == 0) refl
    where
      by_entry : (o : Option ℕ) → entry_of w.texts program.ino ≡ o → 1 ≤ program.text_clicks
          → FineComes w.limit s seen (logs (line.Bare s) (xalloc_by bared s program.ino program.text_clicks o next))
      by_entry None e some = record { fine = text_fine program.text_clicks some few_text }
      by_entry (Some k) e some = record { fine = share_fine k e }

      by : (x : Bool) → (program.text_clicks == 0) ≡ x
          → FineComes w.limit s seen (logs (line.Bare s) (cond x (next bared false) (xalloc_by bared s program.ino program.text_clicks (entry_of w.texts program.ino) next)))
      by true e = record { fine = plain_apt }
      by false e = by_entry (entry_of w.texts program.ino) refl (some_by program.text_clicks e)
        where
          some_by : (n : ℕ) → (n == 0) ≡ false → 1 ≤ n
          some_by n f = let ne : n ≢ 0 = eqb-false n 0 f in omega (arith, ne)

-- A program, by a process with a text or without one.
loads_fine : (s : ℕ) (seen : Seen) (w : World) (program : Program) (i : Calling s w seen)
    → is_refused program.text_clicks (exec.data_clicks program.plan) 20 w.limit ≡ false → FineComes w.limit s seen (exec.loads w s program)
loads_fine s seen w program i sizes = by (process_of w s).text refl
  where
    by : (o : Option ℕ) → (process_of w s).text ≡ o → FineComes w.limit s seen (xfree w s o (λ left. after_text_of s left program))
    by None e = rest_fine s seen w program i e sizes
    by (Some k) e =
        let left : World = leaves_text w s k (is_sticky w k) in
        let limit : left.limit ≡ w.limit = same_limit s w seen i k in
        logged_fine w.limit s seen (line.Leave s k (is_sticky w k)) (after_text_of s left program) (fits_left s w seen i k e)
        (subst (λ n. FineComes n s (seen_after seen (line.Leave s k (is_sticky w k))) (after_text_of s left program)) limit
        (rest_fine s (seen_after seen (line.Leave s k (is_sticky w k))) left program (calling_left s w seen i k) (none_left s w seen i k)
        (subst (λ n. is_refused program.text_clicks (exec.data_clicks program.plan) 20 n ≡ false) (sym limit) sizes)))

module _ (mounts : MountTable) (s : ℕ) (seen : Seen) where
  pub exec_fine : (w : World) (name list : ℕ) → Calling s w seen → FineComes w.limit s seen (exec.exec_file mounts w s name list)
  unfolding exec.exec_file
  exec_fine w name list i = done t.answer refl
    where
      t : exec.Tested
      t = exec.tests mounts w s name list

      are : AreTests w t
      are = all_tests w mounts s name list

      still : Calling s t.world seen
      still = subst (λ x. InCall s false x seen) (sym are.same) i

      done : (r : Result Program Errno) → t.answer ≡ r → FineComes w.limit s seen (exec.done_by t.world s r)
      done (Err e) f =
          let limit : t.world.limit ≡ w.limit = ap (λ v. v.most) are.same in
          subst (λ n. FineComes n s seen (fails t.world e)) limit (fails_fine s seen t.world e still)
      done (Ok program) f =
          let limit : t.world.limit ≡ w.limit = ap (λ v. v.most) are.same in
          subst (λ n. FineComes n s seen (exec.loads t.world s program)) limit (loads_fine s seen t.world program still (are.sizes program f))
