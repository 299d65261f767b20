-- Writes that lie side by side, or one over another, are one write; and what a growing image's bytes are.
use Rattle.std.proofs.Common.{◌≡◌, ℕ, zero, suc, ◌+◌, ◌-◌, ◌*◌, ◌≤◌, ◌⊎◌, inl, inr, List, [], ◌∷◌, ◌++◌, length, take, drop, refl, sym, ap, ◌∙◌, arith, append_assoc}
use Rattle.std.specs.Prelude.{replicate}
use Rattle.std.proofs.lemmas.List.{length-take, length-drop, length-append, length-replicate, drop_at, take_all, drop-drop, take-take, drop-append-le, take-append-drop}
use Rattle.v6_base.specs.Sizes.{cut_back, cut_front}
use Rattle.core_mem.specs.Bytes.{part, over}
use Rattle.core_mem.proofs.Parts.{take-over, length-part, length-over, part-part, over-over, over-self, part-over_apart}
use Rattle.image_keep.specs.declared.row.Row.{Row}
use Rattle.image_keep.specs.Resized.{IsLess, resized_bytes}
use Rattle.image_keep.proofs.Laid.{laid}

opened : (xs : List ℕ) (i : ℕ) (ys : List ℕ) → over xs i ys ≡ take i xs ++ (ys ++ drop (i + length ys) xs)
unfolding over
opened xs i ys = refl

behind : (xs : List ℕ) (k : ℕ) (ys : List ℕ) → k + length ys ≤ length xs → drop k (over xs k ys) ≡ ys ++ drop (k + length ys) xs
unfolding over
behind xs k ys l = let t = length-take k xs in drop_at (take k xs) (ys ++ drop (k + length ys) xs) k (omega (arith, t, l))

-- a write, and then one just before it
pub over_before : (xs : List ℕ) (i j : ℕ) (ys zs : List ℕ) → i + length zs ≡ j → j + length ys ≤ length xs → over (over xs j ys) i zs ≡ over xs i (zs ++ ys)
over_before xs i j ys zs e l =
    let c = length-append zs ys in
    let same : j + length ys ≡ i + length (zs ++ ys) = omega (arith, c, e) in
    opened (over xs j ys) i zs
    ∙ ap (λ q. q ++ (zs ++ drop (i + length zs) (over xs j ys))) (take-over xs j ys i (omega (arith, e)) l)
    ∙ ap (λ q. take i xs ++ (zs ++ q)) (ap (λ n. drop n (over xs j ys)) e ∙ behind xs j ys l)
    ∙ ap (λ q. take i xs ++ q) (sym (append_assoc zs ys (drop (j + length ys) xs)))
    ∙ ap (λ n. take i xs ++ ((zs ++ ys) ++ drop n xs)) same
    ∙ sym (opened xs i (zs ++ ys))

-- a write over the front of another one
pub over_again : (xs : List ℕ) (i : ℕ) (ys zs : List ℕ) → length zs ≤ length ys → i + length ys ≤ length xs → over (over xs i ys) i zs ≡ over xs i (zs ++ drop (length zs) ys)
over_again xs i ys zs s l =
    let c = length-append zs (drop (length zs) ys) in
    let d = length-drop (length zs) ys in
    let same : i + length ys ≡ i + length (zs ++ drop (length zs) ys) = omega (arith, c, d, s) in
    opened (over xs i ys) i zs
    ∙ ap (λ q. q ++ (zs ++ drop (i + length zs) (over xs i ys))) (take-over xs i ys i (omega arith) l)
    ∙ ap (λ q. take i xs ++ (zs ++ q)) (sym (drop-drop (length zs) i (over xs i ys)) ∙ ap (drop (length zs)) (behind xs i ys l) ∙ drop-append-le (length zs) ys (drop (i + length ys) xs) s)
    ∙ ap (λ q. take i xs ++ q) (sym (append_assoc zs (drop (length zs) ys) (drop (i + length ys) xs)))
    ∙ ap (λ n. take i xs ++ ((zs ++ drop (length zs) ys) ++ drop n xs)) same
    ∙ sym (opened xs i (zs ++ drop (length zs) ys))

-- a write of nothing
pub over_none : (xs : List ℕ) (i : ℕ) → over xs i [] ≡ xs
unfolding over
over_none xs i = let e : i + 0 ≡ i = omega arith in ap (λ n. take i xs ++ drop n xs) e ∙ take-append-drop i xs

pub part_none : (xs : List ℕ) (i : ℕ) → part xs i 0 ≡ []
unfolding part
part_none xs i = refl

-- the end of a part
whole_tail : (ys : List ℕ) (n j : ℕ) → length ys ≡ n → drop j ys ≡ part ys j (n - j)
unfolding part
whole_tail ys n j e = let d = length-drop j ys in sym (take_all (n - j) (drop j ys) (omega (arith, d, e)))

pub tail_part : (xs : List ℕ) (q n j : ℕ) → j ≤ n → q + n ≤ length xs → drop j (part xs q n) ≡ part xs (q + j) (n - j)
tail_part xs q n j h l = whole_tail (part xs q n) n j (length-part xs q n l) ∙ part-part xs q n j (n - j) (omega (arith, h))

-- the front of a part
pub front_part : (xs : List ℕ) (q n m : ℕ) → m ≤ n → take m (part xs q n) ≡ part xs q m
unfolding part
front_part xs q n m h = take-take m n (drop q xs) h

pub zeros_add : (n m : ℕ) → replicate {A = ℕ} (n + m) 0 ≡ replicate n 0 ++ replicate m 0
zeros_add zero m = let e : 0 + m ≡ m = omega arith in ap (λ i. replicate {A = ℕ} i 0) e
zeros_add (suc n) m = let e : suc n + m ≡ suc (n + m) = omega arith in ap (λ i. replicate {A = ℕ} i 0) e ∙ ap (λ (l : List ℕ). 0 ∷ l) (zeros_add n m)

pub drop_zeros : (n m : ℕ) → drop n (replicate {A = ℕ} (n + m) 0) ≡ replicate m 0
drop_zeros n m = ap (drop n) (zeros_add n m) ∙ drop_at (replicate n 0) (replicate m 0) n (length-replicate {A = ℕ} n 0)

-- data that grow or are cut at their end
pub data_cut : (xs : List ℕ) (q d e x : ℕ) → IsLess x d e → q + 64 * d ≤ length xs → cut_back (64 * e) (part xs q (64 * d)) ≡ part xs q (64 * x) ++ replicate (64 * (e - x)) 0
unfolding cut_back
data_cut xs q d e x h l = by h.one
  where
    long : length (part xs q (64 * d)) ≡ 64 * d
    long = length-part xs q (64 * d) l

    by : (x ≡ d) ⊎ (x ≡ e) → take (64 * e) (part xs q (64 * d)) ++ replicate (64 * e - length (part xs q (64 * d))) 0 ≡ part xs q (64 * x) ++ replicate (64 * (e - x)) 0
    by (inl is) =
        let a = h.right in
        let n : 64 * e - length (part xs q (64 * d)) ≡ 64 * (e - x) = omega (arith, long, is, a) in
        ap (λ l. l ++ replicate (64 * e - length (part xs q (64 * d))) 0) (take_all (64 * e) (part xs q (64 * d)) (omega (arith, long, is, a)) ∙ ap (λ i. part xs q (64 * i)) (sym is))
        ∙ ap (λ i. part xs q (64 * x) ++ replicate i 0) n
    by (inr is) =
        let a = h.left in
        let n : 64 * e - length (part xs q (64 * d)) ≡ 64 * (e - x) = omega (arith, long, is, a) in
        ap (λ l. l ++ replicate (64 * e - length (part xs q (64 * d))) 0) (front_part xs q (64 * d) (64 * e) (omega (arith, is, a)) ∙ ap (λ i. part xs q (64 * i)) (sym is))
        ∙ ap (λ i. part xs q (64 * x) ++ replicate i 0) n

-- a stack that grows or is cut at its low end
pub stack_cut : (xs : List ℕ) (q k e m : ℕ) → IsLess m k e → q + 64 * k ≤ length xs → cut_front (64 * e) (part xs q (64 * k)) ≡ replicate (64 * (e - m)) 0 ++ part xs (q + 64 * (k - m)) (64 * m)
unfolding cut_front
stack_cut xs q k e m h l = by h.one
  where
    long : length (part xs q (64 * k)) ≡ 64 * k
    long = length-part xs q (64 * k) l

    by : (m ≡ k) ⊎ (m ≡ e) → replicate (64 * e - length (part xs q (64 * k))) 0 ++ drop (length (part xs q (64 * k)) - 64 * e) (part xs q (64 * k)) ≡ replicate (64 * (e - m)) 0 ++ part xs (q + 64 * (k - m)) (64 * m)
    by (inl is) =
        let a = h.right in
        let n : 64 * e - length (part xs q (64 * k)) ≡ 64 * (e - m) = omega (arith, long, is, a) in
        let z : length (part xs q (64 * k)) - 64 * e ≡ 0 = omega (arith, long, is, a) in
        let p : q ≡ q + 64 * (k - m) = omega (arith, is) in
        ap (λ i. replicate i 0 ++ drop (length (part xs q (64 * k)) - 64 * e) (part xs q (64 * k))) n
        ∙ ap (λ i. replicate (64 * (e - m)) 0 ++ drop i (part xs q (64 * k))) z
        ∙ ap (λ i. replicate (64 * (e - m)) 0 ++ part xs q (64 * i)) (sym is)
        ∙ ap (λ i. replicate (64 * (e - m)) 0 ++ part xs i (64 * m)) p
    by (inr is) =
        let a = h.left in
        let n : 64 * e - length (part xs q (64 * k)) ≡ 64 * (e - m) = omega (arith, long, is, a) in
        let z : length (part xs q (64 * k)) - 64 * e ≡ 64 * (k - m) = omega (arith, long, is, a) in
        let p : 64 * k - 64 * (k - m) ≡ 64 * m = omega (arith, a) in
        ap (λ i. replicate i 0 ++ drop (length (part xs q (64 * k)) - 64 * e) (part xs q (64 * k))) n
        ∙ ap (λ i. replicate (64 * (e - m)) 0 ++ drop i (part xs q (64 * k))) z
        ∙ ap (λ l. replicate (64 * (e - m)) 0 ++ l) (tail_part xs q (64 * k) (64 * (k - m)) (omega arith) l ∙ ap (part xs (q + 64 * (k - m))) p)

-- An image is laid at a place with other sizes: its u area and data are copied, then the end of its stack, what is between
-- is cleared, and then its u area is written.
module _ (line : List ℕ) (f t d k e g x m gap : ℕ) (a : List ℕ) (hx : IsLess x d e) (hm : IsLess m k g) (gap_is : gap ≡ (e - x) + (g - m)) (from : f + 64 * (16 + d + k) ≤ length line) (to : t + 64 * (16 + e + g) ≤ length line) (long : length a ≡ 1024) where
  abbrev kept_data : List ℕ
  kept_data = part line (f + 1024) (64 * d)

  abbrev kept_stack : List ℕ
  kept_stack = part line (f + 1024 + 64 * d) (64 * k)

  abbrev front : List ℕ
  front = part line f (64 * (16 + x))

  abbrev end : List ℕ
  end = part line (f + 1024 + 64 * d + 64 * (k - m)) (64 * m)

  abbrev between : List ℕ
  between = replicate (64 * gap) 0

  front_long : length front ≡ 64 * (16 + x)
  front_long = let i = hx.left in length-part line f (64 * (16 + x)) (omega (arith, i, from))

  end_long : length end ≡ 64 * m
  end_long = let i = hm.left in length-part line (f + 1024 + 64 * d + 64 * (k - m)) (64 * m) (omega (arith, i, from))

  between_long : length between ≡ 64 * gap
  between_long = length-replicate {A = ℕ} (64 * gap) 0

  -- all but the u area
  rest_is : drop 1024 (front ++ (between ++ end)) ≡ cut_back (64 * e) kept_data ++ cut_front (64 * g) kept_stack
  rest_is =
      let i = hx.left in
      let j : 1024 ≤ length front = (let l = front_long in omega (arith, l)) in
      let n : 64 * (16 + x) - 1024 ≡ 64 * x = omega arith in
      let z : 64 * gap ≡ 64 * (e - x) + 64 * (g - m) = omega (arith, gap_is) in
      drop-append-le 1024 front (between ++ end) j
      ∙ ap (λ l. l ++ (between ++ end)) (tail_part line f (64 * (16 + x)) 1024 (omega arith) (omega (arith, i, from)) ∙ ap (part line (f + 1024)) n)
      ∙ ap (λ l. part line (f + 1024) (64 * x) ++ (l ++ end)) (ap (λ (c : ℕ). replicate {A = ℕ} c 0) z ∙ zeros_add (64 * (e - x)) (64 * (g - m)))
      ∙ ap (λ l. part line (f + 1024) (64 * x) ++ l) (append_assoc (replicate (64 * (e - x)) 0) (replicate (64 * (g - m)) 0) end)
      ∙ sym (append_assoc (part line (f + 1024) (64 * x)) (replicate (64 * (e - x)) 0) (replicate (64 * (g - m)) 0 ++ end))
      ∙ ap (λ l. l ++ (replicate (64 * (g - m)) 0 ++ end)) (sym (data_cut line (f + 1024) d e x hx (omega (arith, from))))
      ∙ ap (λ l. cut_back (64 * e) kept_data ++ l) (sym (stack_cut line (f + 1024 + 64 * d) k g m hm (omega (arith, from))))

  pub laid_again : (stack_at gap_at : ℕ) (read : List ℕ) → stack_at ≡ t + 64 * (16 + e + (g - m)) → gap_at ≡ t + 64 * (16 + x) → read ≡ end
      → over (over (over (over line t front) stack_at read) gap_at between) t a ≡ over line t (laid a (cut_back (64 * e) kept_data) (cut_front (64 * g) kept_stack))
  laid_again stack_at gap_at read s_is g_is read_is =
      let l1 = front_long in
      let l2 = end_long in
      let l3 = between_long in
      let i = hx.right in
      let j = hm.right in
      let one : length (over line t front) ≡ length line = length-over line t front (omega (arith, l1, i, to)) in
      let c = length-append between end in
      let w = length-append front (between ++ end) in
      ap (λ r. over (over (over (over line t front) stack_at r) gap_at between) t a) read_is
      ∙ ap (λ l. over l t a) (over_before (over line t front) gap_at stack_at end between (omega (arith, s_is, g_is, l3, gap_is, i, j)) (omega (arith, s_is, l2, one, i, j, to)))
      ∙ ap (λ l. over l t a) (over-over line t front (between ++ end) gap_at (omega (arith, g_is, l1)) (omega (arith, l1, l2, l3, c, gap_is, i, j, to)))
      ∙ over_again line t (front ++ (between ++ end)) a (omega (arith, long, w, l1)) (omega (arith, w, c, l1, l2, l3, gap_is, i, j, to))
      ∙ ap (λ n. over line t (a ++ drop n (front ++ (between ++ end)))) long
      ∙ ap (λ r. over line t (a ++ r)) rest_is

pub copied_none : (line : List ℕ) (to from n : ℕ) → n ≡ 0 → line ≡ over line to (part line from (64 * n))
copied_none line to from n z = sym (ap (λ i. over line to (part line from (64 * i))) z ∙ ap (over line to) (part_none line from) ∙ over_none line to)

pub cleared_none : (line : List ℕ) (at n : ℕ) → n ≡ 0 → line ≡ over line at (replicate (64 * n) 0)
cleared_none line at n z = sym (ap (λ i. over line at (replicate {A = ℕ} (64 * i) 0)) z ∙ over_none line at)

-- the whole of it, over plain lines
pub resized_line : (line l1 l2 l3 l4 : List ℕ) (row : Row) (from to d stack x m gap stack_from stack_to gap_at : ℕ) (area : List ℕ)
    → IsLess x row.data_size d → IsLess m row.stack_size stack → 64 * (from + (16 + row.data_size + row.stack_size)) ≤ length line → 64 * (to + (16 + d + stack)) ≤ length line → length area ≡ 1024
    → (from ≡ to) ⊎ ((from + (16 + row.data_size + row.stack_size) ≤ to) ⊎ (to + (16 + d + stack) ≤ from))
    → gap ≡ (d - x) + (stack - m) → stack_from ≡ from + (16 + row.data_size + (row.stack_size - m)) → stack_to ≡ to + (16 + d + (stack - m)) → gap_at ≡ to + (16 + x)
    → l1 ≡ over line (64 * to) (part line (64 * from) (64 * (16 + x))) → l2 ≡ over l1 (64 * stack_to) (part l1 (64 * stack_from) (64 * m)) → l3 ≡ over l2 (64 * gap_at) (replicate (64 * gap) 0) → l4 ≡ over l3 (64 * to) area
    → l4 ≡ over line (64 * to) (resized_bytes line (64 * from) row d stack area)
resized_line line l1 l2 l3 l4 row from to d stack x m gap stack_from stack_to gap_at area hx hm fl tl long apart gap_is sf st ga e1 e2 e3 e4 =
    let f : ℕ = 64 * from in
    let t : ℕ = 64 * to in
    let a = hx.left in
    let b = hm.left in
    let c = hx.right in
    let g = hm.right in
    let q : 64 * stack_from ≡ f + 1024 + 64 * row.data_size + 64 * (row.stack_size - m) = omega (arith, sf, b) in
    let fl2 : f + 64 * (16 + row.data_size + row.stack_size) ≤ length line = omega (arith, fl) in
    let tl2 : t + 64 * (16 + d + stack) ≤ length line = omega (arith, tl) in
    let n1 : length (part line f (64 * (16 + x))) ≡ 64 * (16 + x) = length-part line f (64 * (16 + x)) (omega (arith, fl2, a)) in
    let read : part l1 (64 * stack_from) (64 * m) ≡ part line (f + 1024 + 64 * row.data_size + 64 * (row.stack_size - m)) (64 * m) =
    ap (λ l. part l (64 * stack_from) (64 * m)) e1
    ∙ stays apart n1
    ∙ ap (λ i. part line i (64 * m)) q in
    e4 ∙ ap (λ l. over l t area) (e3 ∙ ap (λ l. over l (64 * gap_at) (replicate (64 * gap) 0)) (e2 ∙ ap (λ l. over l (64 * stack_to) (part l1 (64 * stack_from) (64 * m))) e1))
    ∙ laid_again line f t row.data_size row.stack_size d stack x m gap area hx hm gap_is fl2 tl2 long (64 * stack_to) (64 * gap_at) (part l1 (64 * stack_from) (64 * m))
    (omega (arith, st)) (omega (arith, ga)) read
  where
    stays : (from ≡ to) ⊎ ((from + (16 + row.data_size + row.stack_size) ≤ to) ⊎ (to + (16 + d + stack) ≤ from)) → length (part line (64 * from) (64 * (16 + x))) ≡ 64 * (16 + x)
        → part (over line (64 * to) (part line (64 * from) (64 * (16 + x)))) (64 * stack_from) (64 * m) ≡ part line (64 * stack_from) (64 * m)
    stays (inl e) n = ap (λ l. part l (64 * stack_from) (64 * m))
        (ap (λ i. over line (64 * i) (part line (64 * from) (64 * (16 + x)))) (sym e) ∙ over-self line (64 * from) (64 * (16 + x)) (let a = hx.left in omega (arith, fl, a)))
    stays (inr (inl e)) n = part-over_apart line (64 * to) (part line (64 * from) (64 * (16 + x))) (64 * stack_from) (64 * m) (let c = hx.right in omega (arith, n, tl, c)) (inl (let b = hm.left in omega (arith, sf, e, b)))
    stays (inr (inr e)) n = part-over_apart line (64 * to) (part line (64 * from) (64 * (16 + x))) (64 * stack_from) (64 * m) (let c = hx.right in omega (arith, n, tl, c)) (inr (let c = hx.right in omega (arith, sf, e, n, c)))
