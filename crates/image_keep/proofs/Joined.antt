use Rattle.std.proofs.Common.{◌≡◌, ℕ, ◌+◌, ◌-◌, ◌<◌, ◌≤◌, List, ◌++◌, length, ap, arith, ◌∙◌, sym}
use Rattle.std.proofs.lemmas.List.{set-append_left, set-append_right, get_or_append_left, get_or-append_right, length-append, length-replicate, with_items_is}
use Rattle.std.proofs.lemmas.List.Elements.{All-append}
use Rattle.v6_base.specs.Image.{AreBytes}
use Rattle.core_mem.specs.Bytes.{part, over}
use Rattle.core_mem.proofs.Parts.{part-left, part-right, over-left, over-right, length-part, length-over}

pub ruleset joined = (set-append_left, set-append_right, get_or_append_left, get_or-append_right, length-append)

-- a copy inside the line, by the lists in which it begins and ends
pub core_to_core : (xs ys : List ℕ) (a b n : ℕ) → a + n ≤ length xs → b + n ≤ length xs → over xs b (part xs a n) ++ ys ≡ over (xs ++ ys) b (part (xs ++ ys) a n)
core_to_core xs ys a b n h k =
    let l : length (part xs a n) ≡ n = length-part xs a n h in
    over-left xs ys b (part xs a n) (omega arith) ∙ ap (over (xs ++ ys) b) (sym (part-left xs ys a n h))

pub core_to_swap : (xs ys : List ℕ) (a b c n : ℕ) → a + n ≤ length xs → b ≡ length xs + c → xs ++ over ys c (part xs a n) ≡ over (xs ++ ys) b (part (xs ++ ys) a n)
core_to_swap xs ys a b c n h e = over-right xs ys b c (part xs a n) e ∙ ap (over (xs ++ ys) b) (sym (part-left xs ys a n h))

pub swap_to_core : (xs ys : List ℕ) (a b c n : ℕ) → a ≡ length xs + c → c + n ≤ length ys → b + n ≤ length xs → over xs b (part ys c n) ++ ys ≡ over (xs ++ ys) b (part (xs ++ ys) a n)
swap_to_core xs ys a b c n e h k =
    let l : length (part ys c n) ≡ n = length-part ys c n h in
    over-left xs ys b (part ys c n) (omega arith) ∙ ap (over (xs ++ ys) b) (sym (part-right xs ys a c n e))

pub swap_to_swap : (xs ys : List ℕ) (a b c d n : ℕ) → a ≡ length xs + c → b ≡ length xs + d → c + n ≤ length ys → xs ++ over ys d (part ys c n) ≡ over (xs ++ ys) b (part (xs ++ ys) a n)
swap_to_swap xs ys a b c d n e f h = over-right xs ys b d (part ys c n) f ∙ ap (over (xs ++ ys) b) (sym (part-right xs ys a c n e))

pub ruleset copies = (with_items_is, core_to_core, core_to_swap, swap_to_core, swap_to_swap, over-left, over-right, length-part, length-over, length-append, length-replicate)

pub ruleset reads = (length-append, part-left, part-right)

pub joined_bytes : (xs ys : List ℕ) → AreBytes xs → AreBytes ys → AreBytes (xs ++ ys)
joined_bytes xs ys a b = All-append (λ byte. byte < 256) xs ys a b
