-- The words of an entry hold no space, and are read back as this entry.
use Rattle.std.proofs.Common.{◌≡◌, ◌≤◌, ℕ, Bool, true, false, List, length, Some, None, refl, sym, ◌∙◌, ap, subst, arith}
use Rattle.std.proofs.lemmas.Option.{none-some, same_Some}
use Rattle.std.proofs.lemmas.Bool.{false≢true}
use Rattle.v6_base.specs.declared.entry.Chan.{Chan}
use Rattle.v6_base.specs.declared.entry.Chan.TheVariants.{RunIn, RunOut, Tout, Keys, Show, Wait, Read, Write, Disk, KeysOf, ShowOf}
use Rattle.v6_base.specs.declared.entry.PanicKind.TheVariants as panic
use Rattle.v6_base.specs.declared.entry.Place.{Place}
use Rattle.v6_base.specs.declared.entry.Place.TheVariants as place
use Rattle.v6_base.specs.declared.entry.Entry.{Entry}
use Rattle.v6_base.specs.declared.entry.Entry.TheVariants.{Boot, Go, Idle, Trap, TickUser, TickKernel, TickIdle, Sleep, Wake, Signal, Nice, Time, Size, SizeKeep, Fork, Leave, Bare, Text, Share, Image, SwapIn, SwapOut, Exit, Reap, Panic, End}
use Rattle.v6_base.specs.LogLine.{entry_words, entry_line}
use Rattle.pick_rules.specs.Ranges.{IsSlot, IsText, IsBlock, IsSignal, IsInode, IsLine, IsChannel, IsPlace, IsInRange}
use Rattle.log_text.specs.Held.{IsByte, IsWord, HoldsChannel, HoldsPlace, IsHeld}
use Rattle.log_text.specs.inside.Reading.{words_of, entry_of}
use Rattle.log_text.proofs.SplitLemmas.{are_words, come_apart, are_short}
use Rattle.log_text.proofs.WholeLemmas.{byte_whole, word_whole, long_whole, signed_whole, channel_whole}
use Rattle.log_text.proofs.ReadLemmas.{byte_back, word_back, long_back, signed_back, channel_back}

-- the words of an entry hold no space
words_whole : (e : Entry) → IsHeld e → are_words (entry_words e) ≡ true
words_whole (Boot core time) range = rw (word_whole core range.0, long_whole time range.1) refl
words_whole (Go slot) range = rw (byte_whole slot range) refl
words_whole Idle range = refl
words_whole (Trap slot) range = rw (byte_whole slot range) refl
words_whole TickUser range = refl
words_whole TickKernel range = refl
words_whole TickIdle range = refl
words_whole (Sleep slot pri chan) range =
    rw (byte_whole slot range.0, signed_whole pri range.1, channel_whole chan range.2) refl
words_whole (Wake chan) range = rw (channel_whole chan range) refl
words_whole (Signal slot sig) range = rw (byte_whole slot range.0, byte_whole sig range.1) refl
words_whole (Nice slot nice) range = rw (byte_whole slot range.0, signed_whole nice range.1) refl
words_whole (Time time) range = rw (long_whole time range) refl
words_whole (Size slot clicks (place.Core click)) range =
    rw (byte_whole slot range.0, word_whole clicks range.1, word_whole click range.2) refl
words_whole (Size slot clicks (place.Swap block)) range =
    rw (byte_whole slot range.0, word_whole clicks range.1, word_whole block range.2) refl
words_whole (SizeKeep slot clicks) range = rw (byte_whole slot range.0, word_whole clicks range.1) refl
words_whole (Fork slot child (place.Core click)) range =
    rw (byte_whole slot range.0, byte_whole child range.1, word_whole click range.2) refl
words_whole (Fork slot child (place.Swap block)) range =
    rw (byte_whole slot range.0, byte_whole child range.1, word_whole block range.2) refl
words_whole (Leave slot text true) range = rw (byte_whole slot range.0, byte_whole text range.1) refl
words_whole (Leave slot text false) range = rw (byte_whole slot range.0, byte_whole text range.1) refl
words_whole (Bare slot) range = rw (byte_whole slot range) refl
words_whole (Text slot text clicks block) range =
    rw (byte_whole slot range.0, byte_whole text range.1, word_whole clicks range.2, word_whole block range.3) refl
words_whole (Share slot text) range = rw (byte_whole slot range.0, byte_whole text range.1) refl
words_whole (Image slot clicks (place.Core click)) range =
    rw (byte_whole slot range.0, word_whole clicks range.1, word_whole click range.2) refl
words_whole (Image slot clicks (place.Swap block)) range =
    rw (byte_whole slot range.0, word_whole clicks range.1, word_whole block range.2) refl
words_whole (SwapIn slot at) range = rw (byte_whole slot range.0, word_whole at range.1) refl
words_whole (SwapOut slot block) range = rw (byte_whole slot range.0, word_whole block range.1) refl
words_whole (Exit slot block) range = rw (byte_whole slot range.0, word_whole block range.1) refl
words_whole (Reap slot) range = rw (byte_whole slot range) refl
words_whole (Panic panic.Swap) range = refl
words_whole (Panic panic.Zombie) range = refl
words_whole (Panic panic.Text) range = refl
words_whole End range = refl

-- and are read as this entry
words_back : (e : Entry) → IsHeld e → entry_of (entry_words e) ≡ Some e
words_back (Boot core time) range = rw (word_back core range.0, long_back time range.1) refl
words_back (Go slot) range = rw (byte_back slot range) refl
words_back Idle range = refl
words_back (Trap slot) range = rw (byte_back slot range) refl
words_back TickUser range = refl
words_back TickKernel range = refl
words_back TickIdle range = refl
words_back (Sleep slot pri chan) range =
    rw (byte_back slot range.0, signed_back pri range.1, channel_back chan range.2) refl
words_back (Wake chan) range = rw (channel_back chan range) refl
words_back (Signal slot sig) range = rw (byte_back slot range.0, byte_back sig range.1) refl
words_back (Nice slot nice) range = rw (byte_back slot range.0, signed_back nice range.1) refl
words_back (Time time) range = rw (long_back time range) refl
words_back (Size slot clicks (place.Core click)) range =
    rw (byte_back slot range.0, word_back clicks range.1, word_back click range.2) refl
words_back (Size slot clicks (place.Swap block)) range =
    rw (byte_back slot range.0, word_back clicks range.1, word_back block range.2) refl
words_back (SizeKeep slot clicks) range = rw (byte_back slot range.0, word_back clicks range.1) refl
words_back (Fork slot child (place.Core click)) range =
    rw (byte_back slot range.0, byte_back child range.1, word_back click range.2) refl
words_back (Fork slot child (place.Swap block)) range =
    rw (byte_back slot range.0, byte_back child range.1, word_back block range.2) refl
words_back (Leave slot text true) range = rw (byte_back slot range.0, byte_back text range.1) refl
words_back (Leave slot text false) range = rw (byte_back slot range.0, byte_back text range.1) refl
words_back (Bare slot) range = rw (byte_back slot range) refl
words_back (Text slot text clicks block) range =
    rw (byte_back slot range.0, byte_back text range.1, word_back clicks range.2, word_back block range.3) refl
words_back (Share slot text) range = rw (byte_back slot range.0, byte_back text range.1) refl
words_back (Image slot clicks (place.Core click)) range =
    rw (byte_back slot range.0, word_back clicks range.1, word_back click range.2) refl
words_back (Image slot clicks (place.Swap block)) range =
    rw (byte_back slot range.0, word_back clicks range.1, word_back block range.2) refl
words_back (SwapIn slot at) range = rw (byte_back slot range.0, word_back at range.1) refl
words_back (SwapOut slot block) range = rw (byte_back slot range.0, word_back block range.1) refl
words_back (Exit slot block) range = rw (byte_back slot range.0, word_back block range.1) refl
words_back (Reap slot) range = rw (byte_back slot range) refl
words_back (Panic panic.Swap) range = refl
words_back (Panic panic.Zombie) range = refl
words_back (Panic panic.Text) range = refl
words_back End range = refl

slot_held : (n : ℕ) → IsSlot n → IsByte n
slot_held n range = omega arith

text_held : (n : ℕ) → IsText n → IsByte n
text_held n range = omega arith

signal_held : (n : ℕ) → IsSignal n → IsByte n
signal_held n range = omega arith

block_held : (n : ℕ) → IsBlock n → IsWord n
block_held n range = omega arith

inode_held : (n : ℕ) → IsInode n → IsWord n
inode_held n range = range.1

line_held : (n : ℕ) → IsLine n → IsByte n
line_held n range = omega arith

channel_held : (chan : Chan) → IsChannel chan → HoldsChannel chan
channel_held RunIn range = tt
channel_held RunOut range = tt
channel_held Tout range = tt
channel_held Keys range = tt
channel_held Show range = tt
channel_held (Wait slot) range = slot_held slot range
channel_held (Read inode) range = inode_held inode range
channel_held (Write inode) range = inode_held inode range
channel_held (Disk slot) range = slot_held slot range
channel_held (KeysOf line) range = line_held line range
channel_held (ShowOf line) range = line_held line range

place_held : (p : Place) → IsPlace p → HoldsPlace p
place_held (place.Core click) range = range
place_held (place.Swap block) range = block_held block range

-- numbers in their ranges are such that their fields hold
in_range_held : (e : Entry) → IsInRange e → IsHeld e
in_range_held (Boot core time) range = range
in_range_held (Go slot) range = slot_held slot range
in_range_held Idle range = tt
in_range_held (Trap slot) range = slot_held slot range
in_range_held TickUser range = tt
in_range_held TickKernel range = tt
in_range_held TickIdle range = tt
in_range_held (Sleep slot pri chan) range = (slot_held slot range.0, range.1, channel_held chan range.2)
in_range_held (Wake chan) range = channel_held chan range
in_range_held (Signal slot sig) range = (slot_held slot range.0, signal_held sig range.1)
in_range_held (Nice slot nice) range = (slot_held slot range.0, range.1)
in_range_held (Time time) range = range
in_range_held (Size slot clicks p) range = (slot_held slot range.0, range.1, place_held p range.2)
in_range_held (SizeKeep slot clicks) range = (slot_held slot range.0, range.1)
in_range_held (Fork slot child p) range = (slot_held slot range.0, slot_held child range.1, place_held p range.2)
in_range_held (Leave slot text sticky) range = (slot_held slot range.0, text_held text range.1)
in_range_held (Bare slot) range = slot_held slot range
in_range_held (Text slot text clicks block) range =
    (slot_held slot range.0, text_held text range.1, range.2, block_held block range.3)
in_range_held (Share slot text) range = (slot_held slot range.0, text_held text range.1)
in_range_held (Image slot clicks p) range = (slot_held slot range.0, range.1, place_held p range.2)
in_range_held (SwapIn slot at) range = (slot_held slot range.0, range.1)
in_range_held (SwapOut slot block) range = (slot_held slot range.0, block_held block range.1)
in_range_held (Exit slot block) range = (slot_held slot range.0, block_held block range.1)
in_range_held (Reap slot) range = slot_held slot range
in_range_held (Panic kind) range = tt
in_range_held End range = tt

-- a line is read back as its entry
line_back : (e : Entry) → IsHeld e → entry_of (words_of (entry_line e)) ≡ Some e
line_back e held = ap entry_of (come_apart (entry_words e) (words_whole e held)) ∙ words_back e held

-- and is short
pub line_short : (e : Entry) → IsHeld e → length (entry_line e) ≤ 80
line_short e held = are_short (entry_words e) (words_whole e held)

reads : (bytes : List ℕ) (e : Entry) → IsInRange e → bytes ≡ entry_line e
    → entry_of (words_of bytes) ≡ Some e
reads bytes e range same = ap (λ line. entry_of (words_of line)) same ∙ line_back e (in_range_held e range)

-- bytes that are the line of an entry in range are read as no other
pub read_once : (bytes : List ℕ) (found e : Entry) → entry_of (words_of bytes) ≡ Some found
    → IsInRange e → bytes ≡ entry_line e → found ≡ e
read_once bytes found e read range same = same_Some found e (sym read ∙ reads bytes e range same)

-- no line of one entry is a line of another
pub one_line_each : (e f : Entry) → IsHeld e → IsHeld f → entry_line e ≡ entry_line f → e ≡ f
one_line_each e f here there same =
    same_Some e f (sym (line_back e here) ∙ ap (λ line. entry_of (words_of line)) same ∙ line_back f there)

-- where the words name no entry, the bytes are no line
pub not_read : (bytes : List ℕ) → entry_of (words_of bytes) ≡ None
    → (e : Entry) → IsInRange e → bytes ≡ entry_line e → ⊥
not_read bytes none e range same = none-some e (sym none ∙ reads bytes e range same)

-- and where they name one whose line the bytes are not
pub read_wrong : (bytes : List ℕ) (found : Entry) (test : Bool) → entry_of (words_of bytes) ≡ Some found
    → (IsInRange found × (bytes ≡ entry_line found) → test ≡ true) → test ≡ false
    → (e : Entry) → IsInRange e → bytes ≡ entry_line e → ⊥
read_wrong bytes found test read passes fails e range same =
    let Fits : Entry → Type 0 = λ x. IsInRange x × (bytes ≡ entry_line x) in
    let it : Fits found = subst Fits (sym (read_once bytes found e read range same)) (range, same) in
    false≢true (sym fails ∙ passes it)
