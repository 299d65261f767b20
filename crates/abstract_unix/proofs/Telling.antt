-- What the terminal lines tell, one after another, fits: bytes change nothing, and who waits for a line may be woken.
use Rattle.std.proofs.Common.{◌≡◌, ◌==◌, ◌≤◌, ◌<◌, ◌+◌, ◌||◌, ℕ, suc, Bool, true, false, cond, List, [], ◌∷◌, ◌++◌, length, map, refl, sym, ap, subst, arith}
use Rattle.std.proofs.lemmas.Bool.{eqb-false}
use Rattle.std.proofs.lemmas.List.{map-append}
use Rattle.v6_base.specs.Trace.{Item, sent}
use Rattle.v6_base.specs.declared.entry.Chan.{Chan}
use Rattle.v6_base.specs.declared.entry.Chan.TheVariants as chan
use Rattle.v6_base.specs.declared.entry.Entry.TheVariants as entry
use Rattle.tty_line.specs.Terminal.{Terminal}
use Rattle.tty_line.specs.Said.{Said}
use Rattle.lines_eight.specs.Told.{keys_of, show_of, wakes_if, told, each_from, each_line}
use Rattle.pick_rules.specs.Effects.{Effect, Show, came}
use Rattle.pick_rules.specs.Ranges.{IsChannel}
use Rattle.pick_rules.specs.Lawful.{Seen, seen_after}
use Rattle.log_laws.proofs.Fitting.{Apt, wake_apt}
use Rattle.log_laws.proofs.Seats.{Seats, Paused}
use Rattle.log_laws.proofs.Lines.{wake_paused}
use Rattle.abstract_unix.specs.Unix.{Unix}

-- each line has its channels
pub keys_channel : (l : ℕ) → l < 8 → IsChannel (keys_of l)
keys_channel l few = by (l == 0) refl
  where
    by : (b : Bool) → (l == 0) ≡ b → IsChannel (cond b chan.Keys (chan.KeysOf l))
    by true is = tt
    by false is = let some = eqb-false l 0 is in (omega (arith, some), omega (arith, few))

pub show_channel : (l : ℕ) → l < 8 → IsChannel (show_of l)
show_channel l few = by (l == 0) refl
  where
    by : (b : Bool) → (l == 0) ≡ b → IsChannel (cond b chan.Show (chan.ShowOf l))
    by true is = tt
    by false is = let some = eqb-false l 0 is in (omega (arith, some), omega (arith, few))

-- bytes change nothing
pub bytes_then : (Q : Seen → Type 0) (seen : Seen) (l : ℕ) (bytes : List ℕ) (rest : List Item) (tail : List (Effect Unix))
    → Apt Q seen (map Show rest ++ tail) → Apt Q seen (map Show (sent l bytes ++ rest) ++ tail)
unfolding Apt came
bytes_then Q seen l [] rest tail a = a
bytes_then Q seen l (byte ∷ bytes) rest tail a = bytes_then Q seen l bytes rest tail a

-- who waits is woken, where that is called for
pub woken_then : (v : Seats) (seen : Seen) (b : Bool) (c : Chan) (tail : List (Effect Unix)) → IsChannel c → Paused v seen
    → ((at : Seen) → Paused v at → Apt (Paused v) at tail) → Apt (Paused v) seen (map Show (wakes_if b c) ++ tail)
woken_then v seen true c tail is p next = wake_apt (Paused v) seen c tail p.going is (next (seen_after seen (entry.Wake c)) (wake_paused v seen c p))
woken_then v seen false c tail is p next = next seen p

pub told_apt : (v : Seats) (seen : Seen) (l : ℕ) (s : Said) (tail : List (Effect Unix)) → l < 8 → Paused v seen
    → ((at : Seen) → Paused v at → Apt (Paused v) at tail) → Apt (Paused v) seen (map Show (told l s) ++ tail)
told_apt v seen l s tail few p next =
    bytes_then (Paused v) seen l s.shown (wakes_if s.keys (keys_of l) ++ wakes_if s.show (show_of l)) tail (by s.keys)
  where
    by : (b : Bool) → Apt (Paused v) seen (map Show (wakes_if b (keys_of l) ++ wakes_if s.show (show_of l)) ++ tail)
    by true =
        woken_then v seen true (keys_of l) (map Show (wakes_if s.show (show_of l)) ++ tail) (keys_channel l few) p
        (λ at q. woken_then v at s.show (show_of l) tail (show_channel l few) q next)
    by false = woken_then v seen s.show (show_of l) tail (show_channel l few) p next

-- Where nobody is woken nothing changes.
pub told_quiet : (Q : Seen → Type 0) (seen : Seen) (l : ℕ) (s : Said) (tail : List (Effect Unix)) → s.keys ≡ false → s.show ≡ false
    → Apt Q seen tail → Apt Q seen (map Show (told l s) ++ tail)
told_quiet Q seen l s tail keys show a =
    bytes_then Q seen l s.shown (wakes_if s.keys (keys_of l) ++ wakes_if s.show (show_of l)) tail (by s.keys s.show keys show)
  where
    by : (k r : Bool) → k ≡ false → r ≡ false → Apt Q seen (map Show (wakes_if k (keys_of l) ++ wakes_if r (show_of l)) ++ tail)
    by true r e f = absurd (cc e)
    by false true e f = absurd (cc f)
    by false false e f = a

-- all lines, from one on
each_apt : (v : Seats) (call : Terminal → Said) (l : ℕ) (lines : List Terminal) (seen : Seen) → l + length lines ≤ 8 → Paused v seen
    → Apt {W = Unix} (Paused v) seen (map Show (each_from l call lines).items)
unfolding Apt
each_apt v call l [] seen few p = p
each_apt v call l (t ∷ ts) seen few p =
    let s : Said = call t in
    let less : l + suc (length ts) ≤ 8 = few in
    subst (Apt {W = Unix} (Paused v) seen) (sym (map-append Show (told l s) (each_from (suc l) call ts).items))
    (told_apt v seen l s (map Show (each_from (suc l) call ts).items) (omega (arith, less)) p
    (λ at q. each_apt v call (suc l) ts at (omega (arith, less)) q))

pub lines_apt : (v : Seats) (call : Terminal → Said) (lines : List Terminal) (seen : Seen) → length lines ≤ 8 → Paused v seen
    → Apt {W = Unix} (Paused v) seen (map Show (each_line call lines).items)
lines_apt v call lines seen few p = each_apt v call 0 lines seen (omega (arith, few)) p

first_no : (x y : Bool) → (x || y) ≡ false → x ≡ false
first_no true y e = absurd (cc e)
first_no false y e = refl

second_no : (x y : Bool) → (x || y) ≡ false → y ≡ false
second_no true y e = absurd (cc e)
second_no false y e = e

each_quiet : (Q : Seen → Type 0) (call : Terminal → Said) (l : ℕ) (lines : List Terminal) (seen : Seen) → (each_from l call lines).wakes ≡ false → Q seen
    → Apt {W = Unix} Q seen (map Show (each_from l call lines).items)
unfolding Apt
each_quiet Q call l [] seen none q = q
each_quiet Q call l (t ∷ ts) seen none q =
    let s : Said = call t in
    let rest : Bool = (each_from (suc l) call ts).wakes in
    let others = second_no s.keys (s.show || rest) none in
    subst (Apt {W = Unix} Q seen) (sym (map-append Show (told l s) (each_from (suc l) call ts).items))
    (told_quiet Q seen l s (map Show (each_from (suc l) call ts).items) (first_no s.keys (s.show || rest) none) (first_no s.show rest others)
    (each_quiet Q call (suc l) ts seen (second_no s.show rest others) q))

pub lines_quiet : (Q : Seen → Type 0) (call : Terminal → Said) (lines : List Terminal) (seen : Seen) → (each_line call lines).wakes ≡ false → Q seen
    → Apt {W = Unix} Q seen (map Show (each_line call lines).items)
lines_quiet Q call lines seen none q = each_quiet Q call 0 lines seen none q

-- the lines keep their number
each_length : (call : Terminal → Said) (l : ℕ) (lines : List Terminal) → length (each_from l call lines).lines ≡ length lines
each_length call l [] = refl
each_length call l (t ∷ ts) = ap suc (each_length call (suc l) ts)

pub lines_length : (call : Terminal → Said) (lines : List Terminal) → length (each_line call lines).lines ≡ length lines
lines_length call lines = each_length call 0 lines
