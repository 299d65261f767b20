use Rattle.std.proofs.Common.{◌≡◌, ◌∙◌, ◌<◌, ◌⊎◌, ◌+◌, ◌==◌, if◌then◌else◌, ℕ, suc, cond, nat_lt, List, [], ◌∷◌, length, slice_index, slice_set, Option, Some, None, Result, Ok, Err, MatchResult, inl, inr, rules, refl, sym, ap, subst, arith}
use Rattle.std.proofs.lemmas.Bool.Decides.{eqb_tells}
use Rattle.std.proofs.lemmas.List.{get_or-set_same, get_or-set_other, length-set}
use Rattle.std.proofs.lemmas.List.Sums.{sum_by-cons}
use Rattle.v6_base.specs.declared.errno.Errno.{Errno}
use Rattle.v6_base.specs.declared.errno.Errno.TheVariants.{ENFILE}
use Rattle.buf_cache.specs.Blocks.{IsDisk}
use Rattle.fs_blocks.proofs.LateLemmas.{late_twice}
use Rattle.fs_nodes.specs.Disks.{Disks, OfSecond}
use Rattle.fs_nodes.specs.FileSystem.{FileSystem, SameFiles, referenced, LateSecond, WritesLateEach}
use Rattle.unix_core.proofs.files.take_root.Goals as goal

-- The same of a second disk: what is written late twice over is what there is.
late_second : (first stored middle blocks after : Option (List (List ℕ))) → OfSecond IsDisk first → stored ≡ first → blocks ≡ first → LateSecond stored first middle → LateSecond middle blocks after
    → after ≡ first
late_second None None middle None after form same still one two = subst (λ m. LateSecond m None after) one two
late_second None None middle (Some b) after form same still one two = absurd (cc still)
late_second None (Some s) middle blocks after form same still one two = absurd (cc same)
late_second (Some f) None middle blocks after form same still one two = absurd (cc same)
late_second (Some f) (Some s) None blocks after form same still one two = absurd one
late_second (Some f) (Some s) (Some m) None after form same still one two = absurd (cc still)
late_second (Some f) (Some s) (Some m) (Some b) None form same still one two = absurd two
late_second (Some f) (Some s) (Some m) (Some b) (Some a) form same still one two =
    let was : s ≡ f = cc same in
    let stays : b ≡ f = cc still in
    ap (λ (l : List (List ℕ)). Some l) (late_twice f s m b a form was stays one two)

late_each : (first stored middle blocks after : Disks (List (List ℕ))) → IsDisk first.root → OfSecond IsDisk first.second → stored ≡ first → blocks ≡ first
    → WritesLateEach stored first middle → WritesLateEach middle blocks after → after ≡ first
late_each first stored middle blocks after form second_form same still one two =
    let root = late_twice first.root stored.root middle.root blocks.root after.root form
    (ap (λ (d : Disks (List (List ℕ))). d.root) same) (ap (λ (d : Disks (List (List ℕ))). d.root) still) one.root two.root in
    let second = late_second first.second stored.second middle.second blocks.second after.second second_form
    (ap (λ (d : Disks (List (List ℕ))). d.second) same) (ap (λ (d : Disks (List (List ℕ))). d.second) still) one.second two.second in
    λ i. record { root = root i; second = second i }

pub returns-clause-stored : goal.returns-clause-stored
returns-clause-stored c = λ same.
    let still : c.take.new.self.blocks ≡ c.args.nodes.now.blocks = search rules in
    late_each c.args.nodes.now.blocks c.args.nodes.now.stored c.take.new.self.stored c.take.new.self.blocks c.take-2.new.self.stored
    c.see.ensures.blocks c.see.ensures.second_blocks same still c.take.ensures.stored c.take-2.ensures.stored

-- Where nobody is referred to, nobody is counted.
none_referred : (refs : List ℕ) → ((ino : ℕ) → slice_index refs ino ≡ 0) → referenced refs ≡ 0
none_referred [] none = refl
none_referred (x ∷ xs) none =
    let first : x ≡ 0 = none 0 in
    let others : referenced xs ≡ 0 = none_referred xs (λ ino. none (suc ino)) in
    let cons : referenced (0 ∷ xs) ≡ 0 + referenced xs = sum_by-cons (λ (y : ℕ). cond {A = ℕ} (nat_lt 0 y) 1 0) 0 xs in
    ap (λ n. referenced (n ∷ xs)) first ∙ omega (arith, cons, others)

-- What a take of the root leaves, where a hundred inodes are not referred to yet or it is one of them.
abbrev Takes : FileSystem → FileSystem → Result (Unit {0}) Errno → Type 0
Takes old new r = MatchResult r
    (λ u. ((0 < slice_index old.references 1) ⊎ (referenced old.references < 100))
    × SameFiles (record old { references = slice_set old.references 1 (slice_index old.references 1 + 1) }) new)
    (λ e. (e ≡ ENFILE) × (slice_index old.references 1 ≡ 0) × (referenced old.references ≡ 100) × (new ≡ old))

taken : (old new : FileSystem) (r : Result (Unit {0}) Errno) → (slice_index old.references 1 ≡ 0 → referenced old.references ≡ 100 → ⊥) → Takes old new r
    → new.references ≡ slice_set old.references 1 (slice_index old.references 1 + 1)
taken old new (Ok u) room takes = takes.1.references
taken old new (Err e) room takes = absurd (room takes.1 takes.2)

referred_twice : (first once twice : FileSystem) (r q : Result (Unit {0}) Errno) → ((ino : ℕ) → slice_index first.references ino ≡ 0)
    → 1 < length first.references → Takes first once r → Takes once twice q
    → (ino : ℕ) → slice_index twice.references ino ≡ (if ino == 1 then 2 else 0)
referred_twice first once twice r q none low takes again ino =
    let refs : List ℕ = first.references in
    let then_refs : List ℕ = once.references in
    let nobody : referenced refs ≡ 0 = none_referred refs none in
    let one : then_refs ≡ slice_set refs 1 (slice_index refs 1 + 1) = taken first once r (λ z full. omega (arith, nobody, full)) takes in
    let here : slice_index then_refs 1 ≡ 1 =
    ap (λ (l : List ℕ). slice_index l 1) one ∙ get_or-set_same refs 1 (slice_index refs 1 + 1) 0 low ∙ ap (λ n. n + 1) (none 1) in
    let two : twice.references ≡ slice_set then_refs 1 (slice_index then_refs 1 + 1) =
    taken once twice q (λ z full. omega (arith, here, z)) again in
    let long : length then_refs ≡ length refs = ap (λ (l : List ℕ). length l) one ∙ length-set refs 1 (slice_index refs 1 + 1) in
    elim (eqb_tells ino 1) [
      | inl same ↦
          ap (λ i. slice_index twice.references i) same.1 ∙ ap (λ (l : List ℕ). slice_index l 1) two
          ∙ get_or-set_same then_refs 1 (slice_index then_refs 1 + 1) 0 (omega (arith, long, low)) ∙ ap (λ n. n + 1) here
          ∙ sym (ap (λ b. if b then 2 else 0) same.0)
      | inr other ↦
          ap (λ (l : List ℕ). slice_index l ino) two ∙ get_or-set_other then_refs 1 ino (slice_index then_refs 1 + 1) 0 other.1
          ∙ ap (λ (l : List ℕ). slice_index l ino) one ∙ get_or-set_other refs 1 ino (slice_index refs 1 + 1) 0 other.1
          ∙ none ino ∙ sym (ap (λ b. if b then 2 else 0) other.0)
    ]

pub returns-clause-referred : goal.returns-clause-referred
returns-clause-referred c ino =
    referred_twice c.args.nodes.now c.take.new.self c.take-2.new.self c.take.result c.take-2.result c.requires.none
    (c.see.ensures.low 1 c.see.ensures.root) c.take.ensures.outcome c.take-2.ensures.outcome ino
