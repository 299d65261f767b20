-- Rows of break(II) and of the growth of a stack, worked by hand.
use Rattle.std.proofs.Common.{◌≡◌, refl, true, false, Some, None}
use Rattle.seg_regs.specs.Sizes.{is_refused}
use Rattle.sys_procs.specs.Break.{clicks_up_to, grown_stack}

-- 0177700 asks for 1,023 clicks, more than the segments beside a stack hold; one address more wraps round, and so does the
-- last one
most : clicks_up_to 0 0o177700 ≡ 1023
most = refl

most_is_refused : is_refused 0 1023 20 2048 ≡ true
most_is_refused = refl

-- seven segments are the most
seven_fit : is_refused 0 896 20 2048 ≡ false
seven_fit = refl

more_is_refused : is_refused 0 897 20 2048 ≡ true
more_is_refused = refl

wraps : clicks_up_to 0 0o177701 ≡ 0
wraps = refl

last : clicks_up_to 0 0o177777 ≡ 0
last = refl

-- a byte more than a click is two
rounded : clicks_up_to 0 0o101 ≡ 2
rounded = refl

-- after a text of one click the data begin at 020000
after_text : clicks_up_to 1 0o20001 ≡ 1
after_text = refl

in_text : clicks_up_to 1 0o100 ≡ 0
in_text = refl

-- a word pushed below a stack of 20 clicks: 40 clicks
pushed : grown_stack 0 1 20 1200 64254 ≡ Some 40
unfolding grown_stack
pushed = refl

-- an address that the stack has, address 0, and an image without a stack
there : grown_stack 0 1 20 1200 64256 ≡ None
unfolding grown_stack
there = refl

at_zero : grown_stack 0 1 20 1200 0 ≡ None
unfolding grown_stack
at_zero = refl

without_stack : grown_stack 0 1 0 1200 65534 ≡ None
unfolding grown_stack
without_stack = refl

-- 1,028 clicks for address 1024: more than eight segments
too_deep : grown_stack 0 1 20 3968 1024 ≡ None
unfolding grown_stack
too_deep = refl

-- a core of 57 clicks has room for it, and one of 56 has not
fits : grown_stack 0 1 20 57 64254 ≡ Some 40
unfolding grown_stack
fits = refl

too_large : grown_stack 0 1 20 56 64254 ≡ None
unfolding grown_stack
too_large = refl
