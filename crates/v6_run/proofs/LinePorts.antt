-- The ports of terminal lines, and those of a run.
use Rattle.std.proofs.Common.{◌≡◌, ◌≢◌, ◌<◌, ◌≤◌, ◌+◌, ◌-◌, ℕ, zero, suc, Bool, true, false, ◌||◌, ◌&&◌, Option, Some, None, is_some, List, [], ◌∷◌, ◌++◌, map, refl, sym, ◌∙◌, ap, eqb-true, arith, lit<, lit≤}
use Rattle.std.specs.Prelude.{◌==◌, nat_le, nat_lt}
use Rattle.std.specs.List.{range_with_len}
use Rattle.std.proofs.lemmas.Bool.{ne_eqb, eqb-false, lt-ltb, ltb-true, le-leb, leb-true, leb-false}
use Rattle.v6_port.specs.declared.host.InPort.TheVariants as in_port
use Rattle.v6_port.specs.declared.host.OutPort.TheVariants as out_port
use Rattle.v6_port.specs.Outside.{Port, In, Out, port_number, same, IsThere}
use Rattle.v6_port.proofs.CauseLemmas.{not_line}
use Rattle.v6_run.specs.declared.words.Lines as count
use Rattle.v6_run.specs.declared.words.Lines.TheVariants.{One, Eight}
use Rattle.v6_run.specs.declared.words.Machine as of_run
use Rattle.v6_run.specs.declared.words.Machine.TheVariants as made
use Rattle.v6_run.specs.Words.{SecondFiles, DiskFiles, ToDisk, lines_value, machine_lines, machine_second}
use Rattle.v6_run.specs.Opened.{NamedPort, output, line_port, line_output, line_outputs, second_outputs, output_ports, has_port, AreApart}
use Rattle.v6_run.specs.Opening.{IsWritten, AreThere}
use Rattle.v6_run.specs.Outputs.{is_line, is_terminal, is_shown, is_other, is_left, is_disk_output}

-- two lines have two ports
pub lines_apart : (a b : ℕ) → a ≢ b → same (Out (line_port a)) (Out (line_port b)) ≡ false
lines_apart zero zero other = absurd (other refl)
lines_apart zero (suc b) other = not_line 4 (suc b) (lit< tt)
lines_apart (suc a) zero other = ne_eqb (9 + suc a) 4 (λ e. omega (arith, e))
lines_apart (suc a) (suc b) other = ne_eqb (9 + suc a) (9 + suc b) (λ e. other (omega (arith, e)))

-- and none has that of the log
pub log_apart : (l : ℕ) → same (Out out_port.Log) (Out (line_port l)) ≡ false
log_apart zero = refl
log_apart (suc l) = not_line 5 (suc l) (lit< tt)

pub line_apart : (l : ℕ) → same (Out (line_port l)) (Out out_port.Log) ≡ false
line_apart zero = refl
line_apart (suc l) = ne_eqb (9 + suc l) 5 (λ e. omega (arith, e))

-- there are eight
pub line_there : (l : ℕ) → l < 8 → IsThere (line_port l)
line_there zero few = tt
line_there (suc l) few = (omega arith, omega (arith, few))

-- a line's port is Term, or that of its number
pub other_port : (l : ℕ) → l ≢ 0 → out_port.Line l ≡ line_port l
other_port zero other = absurd (other refl)
other_port (suc l) other = refl

pub first_port : (l : ℕ) → l ≡ 0 → out_port.Term ≡ line_port l
first_port l is = ap line_port (sym is)

pub line_in : (lines l : ℕ) → 1 ≤ l → l < lines → is_line lines l ≡ true
line_in lines l some below = ap (λ b. b && nat_lt l lines) (le-leb 1 l some) ∙ lt-ltb l lines below

-- what goes out on one of so many lines is shown
pub line_shown : (lines l : ℕ) → l < lines → is_shown lines (Out (line_port l)) ≡ true
line_shown lines zero below = refl
line_shown lines (suc l) below = ap (λ b. b || same (Out out_port.Log) (Out (out_port.Line (suc l)))) (line_in lines (suc l) (omega arith) below)

-- Tests of numbers, joined.
pub both_told : (a b : Bool) → (a && b) ≡ true → b ≡ true
both_told true b is = is
both_told false b is = cc

pub one_told : (a b : Bool) → (a && b) ≡ true → a ≡ true
one_told true b is = refl
one_told false b is = cc

pub either_told : (a b : Bool) (P : Type 0) → (a || b) ≡ true → (a ≡ true → P) → (b ≡ true → P) → P
either_told true b P is one other = one refl
either_told false b P is one other = other is

both_ways : (a b : Bool) → (a ≡ true → b ≡ true) → (b ≡ true → a ≡ true) → a ≡ b
both_ways true b there back = sym (there refl)
both_ways false true there back = back refl
both_ways false false there back = refl

within : (a l m : ℕ) → a ≤ l → l < m → (nat_le a l && nat_lt l m) ≡ true
within a l m low high = ap (λ b. b && nat_lt l m) (le-leb a l low) ∙ lt-ltb l m high

pub is_low : (a l m : ℕ) → (nat_le a l && nat_lt l m) ≡ true → a ≤ l
is_low a l m is = leb-true a l (one_told (nat_le a l) (nat_lt l m) is)

pub is_high : (a l m : ℕ) → (nat_le a l && nat_lt l m) ≡ true → l < m
is_high a l m is = ltb-true l m (both_told (nat_le a l) (nat_lt l m) is)

-- The ports that a run opens.
pub or_false : (b : Bool) → (b || false) ≡ b
or_false true = refl
or_false false = refl

pub right_true : (a b : Bool) → b ≡ true → (a || b) ≡ true
right_true true b is = refl
right_true false b is = is

or_assoc : (a b c : Bool) → ((a || b) || c) ≡ (a || (b || c))
or_assoc true b c = refl
or_assoc false b c = refl

pub has_append : (xs ys : List NamedPort) (q : Port) → has_port (xs ++ ys) q ≡ (has_port xs q || has_port ys q)
has_append [] ys q = refl
has_append (x ∷ xs) ys q = ap (λ b. same x.port q || b) (has_append xs ys q) ∙ sym (or_assoc (same x.port q) (has_port xs q) (has_port ys q))

past_first : (a l : ℕ) → a ≤ l → (9 + a == 9 + l) ≡ false → a + 1 ≤ l
past_first a l low other = by (nat_le (a + 1) l) refl
  where
    by : (b : Bool) → nat_le (a + 1) l ≡ b → a + 1 ≤ l
    by true is = leb-true (a + 1) l is
    by false is = let high = leb-false (a + 1) l is in absurd (eqb-false (9 + a) (9 + l) other (omega (arith, low, high)))

-- one line, or those after it
module _ (a n l : ℕ) where
  there : ((9 + a == 9 + l) || (nat_le (a + 1) l && nat_lt l (a + 1 + n))) ≡ true → (nat_le a l && nat_lt l (a + suc n)) ≡ true
  there is = either_told (9 + a == 9 + l) (nat_le (a + 1) l && nat_lt l (a + 1 + n)) _ is
      (λ here. let e : 9 + a ≡ 9 + l = eqb-true (9 + a) (9 + l) here in within a l (a + suc n) (omega (arith, e)) (omega (arith, e)))
      (λ later. let low = is_low (a + 1) l (a + 1 + n) later in let high = is_high (a + 1) l (a + 1 + n) later in
      within a l (a + suc n) (omega (arith, low)) (omega (arith, high)))

  back : (nat_le a l && nat_lt l (a + suc n)) ≡ true → ((9 + a == 9 + l) || (nat_le (a + 1) l && nat_lt l (a + 1 + n))) ≡ true
  back is = by (9 + a == 9 + l) refl
    where
      by : (b : Bool) → (9 + a == 9 + l) ≡ b → (b || (nat_le (a + 1) l && nat_lt l (a + 1 + n))) ≡ true
      by true e = refl
      by false e = let high = is_high a l (a + suc n) is in within (a + 1) l (a + 1 + n) (past_first a l (is_low a l (a + suc n) is) e) (omega (arith, high))

module _ (term : List ℕ) where
  -- those of so many lines from one on
  abbrev line_list : ℕ → ℕ → List NamedPort
  line_list a n = map (line_output term) (range_with_len a n)

  lines_have : (a n l : ℕ) → has_port (line_list a n) (Out (out_port.Line l)) ≡ (nat_le a l && nat_lt l (a + n))
  lines_have a zero l = both_ways false (nat_le a l && nat_lt l (a + zero)) (λ is. absurd (cc is))
      (λ is. absurd (let low = is_low a l (a + zero) is in let high = is_high a l (a + zero) is in omega (arith, low, high)))
  lines_have a (suc n) l = ap (λ b. (9 + a == 9 + l) || b) (lines_have (a + 1) n l)
      ∙ both_ways ((9 + a == 9 + l) || (nat_le (a + 1) l && nat_lt l (a + 1 + n))) (nat_le a l && nat_lt l (a + suc n)) (there a n l) (back a n l)

  others_have : (a n : ℕ) (q : Port) → port_number q < 9 → has_port (line_list a n) q ≡ false
  others_have a zero q low = refl
  others_have a (suc n) q low = ap (λ b. b || has_port (line_list (a + 1) n) q) (ne_eqb (9 + a) (port_number q) (λ e. omega (arith, e, low))) ∙ others_have (a + 1) n q low

-- behind the console come the lines up to the last
last_line : (lines l : ℕ) → (nat_le 1 l && nat_lt l (1 + (lines - 1))) ≡ is_line lines l
last_line lines l = both_ways (nat_le 1 l && nat_lt l (1 + (lines - 1))) (nat_le 1 l && nat_lt l lines)
    (λ is. let low = is_low 1 l (1 + (lines - 1)) is in let high = is_high 1 l (1 + (lines - 1)) is in within 1 l lines low (omega (arith, low, high)))
    (λ is. let low = is_low 1 l lines is in let high = is_high 1 l lines is in within 1 l (1 + (lines - 1)) low (omega (arith, low, high)))

-- that of the second disk's file is behind them, where there is one
second_has : (second : Option SecondFiles) (q : Port) → has_port (second_outputs second) q ≡ is_other (is_some second) q
second_has None q = refl
second_has (Some second) q = or_false (same (Out out_port.Second) q)

module _ (files : DiskFiles) where
  abbrev behind : List NamedPort
  behind = output out_port.Log files.log ∷ output out_port.Final files.final_disk ∷ second_outputs files.second

  abbrev ports : List NamedPort
  ports = output_ports (ToDisk files)

  abbrev left : Port → Bool
  left q = is_left (is_some files.second) q

  behind_has : (q : Port) → has_port behind q ≡ (same (Out out_port.Log) q || left q)
  behind_has q = ap (λ b. same (Out out_port.Log) q || (same (Out out_port.Final) q || b)) (second_has files.second q)

  plain : (q : Port) → port_number q < 9 → is_terminal files.lines q ≡ same (Out out_port.Term) q → has_port ports q ≡ is_disk_output files q
  plain q low terminal =
      ap (λ b. same (Out out_port.Term) q || b)
      (has_append (line_outputs files.lines files.term) behind q ∙ ap (λ b. b || has_port behind q) (others_have files.term 1 (files.lines - 1) q low) ∙ behind_has q)
      ∙ sym (or_assoc (same (Out out_port.Term) q) (same (Out out_port.Log) q) (left q))
      ∙ ap (λ b. (b || same (Out out_port.Log) q) || left q) (sym terminal)

  pub disk_ports : (q : Port) → has_port ports q ≡ is_disk_output files q
  disk_ports (In in_port.Image) = plain (In in_port.Image) (lit< tt) refl
  disk_ports (In in_port.Script) = plain (In in_port.Script) (lit< tt) refl
  disk_ports (In in_port.Log) = plain (In in_port.Log) (lit< tt) refl
  disk_ports (In in_port.Second) = plain (In in_port.Second) (lit< tt) refl
  disk_ports (Out out_port.Term) = plain (Out out_port.Term) (lit< tt) refl
  disk_ports (Out out_port.Log) = plain (Out out_port.Log) (lit< tt) refl
  disk_ports (Out out_port.Final) = plain (Out out_port.Final) (lit< tt) refl
  disk_ports (Out out_port.Report) = plain (Out out_port.Report) (lit< tt) refl
  disk_ports (Out out_port.Second) = plain (Out out_port.Second) (lit< tt) refl
  disk_ports (Out (out_port.Line l)) =
      ap (λ b. b || has_port (line_outputs files.lines files.term ++ behind) (Out (out_port.Line l))) (not_line 4 l (lit< tt))
      ∙ has_append (line_outputs files.lines files.term) behind (Out (out_port.Line l))
      ∙ ap (λ b. b || has_port behind (Out (out_port.Line l))) (lines_have files.term 1 (files.lines - 1) l ∙ last_line files.lines l)
      ∙ ap (λ b. is_line files.lines l || b) (behind_has (Out (out_port.Line l)))
      ∙ sym (or_assoc (is_line files.lines l) (same (Out out_port.Log) (Out (out_port.Line l))) (left (Out (out_port.Line l))))

-- Each is there, and none is there twice.
pub ports_apart : (machine : of_run.Machine) (term log final_disk : List ℕ)
    → AreApart (output_ports (ToDisk (record { lines = machine_lines machine; term = term; log = log; final_disk = final_disk; second = machine_second machine })))
ports_apart (made.Lines One) term log final_disk = (refl, (refl, (refl, tt)))
ports_apart (made.Lines Eight) term log final_disk = (refl, (refl, (refl, (refl, (refl, (refl, (refl, (refl, (refl, (refl, tt))))))))))
ports_apart (made.Disks second) term log final_disk = (refl, (refl, (refl, (refl, tt))))

pub some_lines : (lines : count.Lines) → 0 < lines_value lines
some_lines One = lit< tt
some_lines Eight = lit< tt

pub few_lines : (lines : count.Lines) → lines_value lines ≤ 8
few_lines One = lit≤ tt
few_lines Eight = lit≤ tt

line_written : (l : ℕ) → 1 ≤ l → l ≤ 7 → IsWritten (Out (out_port.Line l))
line_written l low high = ((low, high), not_line 7 l (lit< tt))

lines_there : (term : List ℕ) (a n : ℕ) (others : List NamedPort) → 1 ≤ a → a + n ≤ 8 → AreThere others → AreThere (line_list term a n ++ others)
lines_there term a zero others low high there = there
lines_there term a (suc n) others low high there =
    (line_written a low (omega (arith, high)), lines_there term (a + 1) n others (omega arith) (omega (arith, high)) there)

second_there : (second : Option SecondFiles) → AreThere (second_outputs second)
second_there None = tt
second_there (Some second) = ((tt, refl), tt)

few_on : (machine : of_run.Machine) → machine_lines machine ≤ 8
few_on (made.Lines lines) = few_lines lines
few_on (made.Disks second) = lit≤ tt

pub some_on : (machine : of_run.Machine) → 0 < machine_lines machine
some_on (made.Lines lines) = some_lines lines
some_on (made.Disks second) = lit< tt

pub ports_there : (machine : of_run.Machine) (term log final_disk : List ℕ)
    → AreThere (output_ports (ToDisk (record { lines = machine_lines machine; term = term; log = log; final_disk = final_disk; second = machine_second machine })))
ports_there machine term log final_disk =
    let few = few_on machine in
    let others : List NamedPort = output out_port.Log log ∷ output out_port.Final final_disk ∷ second_outputs (machine_second machine) in
    ((tt, refl), lines_there term 1 (machine_lines machine - 1) others (lit≤ tt) (omega (arith, few)) ((tt, refl), ((tt, refl), second_there (machine_second machine))))
