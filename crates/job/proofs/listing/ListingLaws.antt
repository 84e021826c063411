-- The text of an answer: its numbers of up to three digits, and how long it can get.
use mathlib.Core.Path.{◌≡◌, refl, ap, ◌∙◌}
use mathlib.Core.Bool.{Bool, true, false}
use mathlib.Core.List.{List, [], ◌∷◌, ◌++◌, append_assoc, flatten}
use Prim.Native.Nat.{ℕ, zero, suc, ◌+◌, ◌*◌, ◌/◌, ◌%◌, ◌<◌, ◌≤◌}
use native.Mathlib.Omega.{arith}
use lib.ListN.{length, take, drop, get_or, length-append, length-drop, take-append-drop}
use native.Mathlib.Numerals.{add-one}
use lib.Seq.{drop-cons, drop-drop}
use lib.Dec.{leb, ltb}
use borrow.Author.Tests.{lt-ltb, le-ltb, leb-true, leb-false}
use Rattle.coloring.specs.Places.{total}
use Rattle.coloring.specs.Outline.{cut}
use Rattle.coloring.specs.Limits.{max_contours, max_result_edges, max_stand_ins}
use Rattle.job.specs.Limits.{max_text}
use Rattle.job.specs.Listing.{digit, decimal, decimal_within, letter, space, newline, edges_word, stand_ins_word, refused_word, field}
use Rattle.job.specs.Listing.{edge_line, contour_lines, shape_lines, word_line, listing, refusal_line}

-- ---- decimals

last-digit : (d n : ℕ) → n < 10 → decimal_within (suc d) n ≡ (digit n ∷ [])
unfolding decimal_within
last-digit d n h = go (ltb n 10) (lt-ltb n 10 h)
  where
    go : (b : Bool) → b ≡ true → elim b [ true ↦ digit n ∷ [] | false ↦ decimal_within d (n / 10) ++ (digit (n % 10) ∷ []) ] ≡ (digit n ∷ [])
    go true h = refl
    go false h = cc

more_digits : (d n : ℕ) → 10 ≤ n → decimal_within (suc d) n ≡ decimal_within d (n / 10) ++ (digit (n % 10) ∷ [])
unfolding decimal_within
more_digits d n h = go (ltb n 10) (le-ltb n 10 h)
  where
    go : (b : Bool) → b ≡ false → elim b [ true ↦ digit n ∷ [] | false ↦ decimal_within d (n / 10) ++ (digit (n % 10) ∷ []) ] ≡ decimal_within d
        (n / 10) ++ (digit (n % 10) ∷ [])
    go true h = cc
    go false h = refl

pub decimal_one : (n : ℕ) → n < 10 → decimal n ≡ (digit n ∷ [])
unfolding decimal
decimal_one n h = last-digit 19 n h

pub decimal_two : (n : ℕ) → 10 ≤ n → n < 100 → decimal n ≡ (digit (n / 10) ∷ digit (n % 10) ∷ [])
unfolding decimal
decimal_two n h k = more_digits 19 n h ∙ rw (last-digit 18 (n / 10) (omega arith))

pub decimal_three : (n : ℕ) → 100 ≤ n → n < 1000 → decimal n ≡ (digit (n / 100) ∷ digit (n / 10 % 10) ∷ digit (n % 10) ∷ [])
unfolding decimal
decimal_three n h k =
    let hundreds : n / 10 / 10 ≡ n / 100 = omega arith in
    rw (← hundreds) (more_digits 19 n (omega arith) ∙ rw (more_digits 18 (n / 10) (omega arith), last-digit 17 (n / 10 / 10) (omega arith)))

-- a number by how many digits it has
pub ruleset decimals = (decimal_one, decimal_two, decimal_three)

-- ---- lengths

one-digit : (n : ℕ) → n < 10 → length (decimal n) ≡ 1
one-digit n h = ap length (decimal_one n h)

two_digits : (n : ℕ) → n < 100 → length (decimal n) ≤ 2
two_digits n h = go (leb 10 n) refl
  where
    go : (b : Bool) → leb 10 n ≡ b → length (decimal n) ≤ 2
    go true e = omega (arith, ap length (decimal_two n (leb-true 10 n e) h))
    go false e = omega (arith, one-digit n (leb-false 10 n e))

three_digits : (n : ℕ) → n < 1000 → length (decimal n) ≤ 3
three_digits n h = go (leb 100 n) refl
  where
    go : (b : Bool) → leb 100 n ≡ b → length (decimal n) ≤ 3
    go true e = omega (arith, ap length (decimal_three n (leb-true 100 n e) h))
    go false e = omega (arith, two_digits n (leb-false 100 n e))

-- a line: a contour of two digits, a place of three, a letter, a colour of one digit, three spaces and the line's end
pub line-length : (contour place kind color : ℕ) → length (edge_line contour place kind color) ≡ length (decimal contour) + length (decimal place) + length
    (decimal color) + 5
unfolding edge_line
line-length contour place kind color =
    length-append (decimal contour) _ ∙ rw (
      length-append (decimal place) (space ∷ letter kind ∷ space ∷ (decimal color ++ (newline ∷ []))),
      length-append (decimal color) (newline ∷ []),
    ) (omega arith)

line-few : (contour place kind color : ℕ) → contour < 100 → place < 1000 → color < 10 → length (edge_line contour place kind color) ≤ 11
line-few contour place kind color h k l = omega (arith, line-length contour place kind color, two_digits contour h, three_digits place k, one-digit color l)

abbrev pub AreColors : List ℕ → Type 0
AreColors colors = (i : ℕ) → get_or colors i 0 < 8

contour-few : (contour place : ℕ) (kinds colors : List ℕ) → contour < 100 → place + length kinds ≤ 1000 → AreColors colors
    → length (contour_lines contour place kinds colors) ≤ 11 * length kinds
unfolding contour_lines
contour-few contour place [] colors h k l = omega arith
contour-few contour place (kind ∷ kinds) [] h k l = omega arith
contour-few contour place (kind ∷ kinds) (color ∷ colors) h k l =
    omega (
      arith,
      length-append (edge_line contour place kind color) (contour_lines contour (suc place) kinds colors),
      line-few contour place kind color h (omega arith) (omega (arith, l 0)),
      contour-few contour (suc place) kinds colors h (omega arith) (λ i. l (suc i)),
    )

-- the colours of each contour
abbrev pub EachColors : List (List ℕ) → Type 0
EachColors colors = (i : ℕ) → AreColors (get_or colors i [])

shape_few : (contour : ℕ) (kinds colors : List (List ℕ)) → contour + length kinds ≤ 100 → length (flatten kinds) ≤ 1000 → EachColors colors
    → length (shape_lines contour kinds colors) ≤ 11 * length (flatten kinds)
unfolding shape_lines flatten
shape_few contour [] colors h k l = omega arith
shape_few contour (here ∷ kinds) [] h k l = omega arith
shape_few contour (here ∷ kinds) (marked ∷ colors) h k l =
    let sum = length-append here (flatten kinds) in
    omega (
      arith,
      sum,
      length-append (contour_lines contour 0 here marked) (shape_lines (suc contour) kinds colors),
      contour-few contour 0 here marked (omega arith) (omega arith) (l 0),
      shape_few (suc contour) kinds colors (omega arith) (omega arith) (λ i. l (suc i)),
    )

pub field-length : (n byte : ℕ) → length (field n byte) ≡ length (decimal n) + 1
field-length n byte = length-append (decimal n) (byte ∷ [])

-- a word, a number and the line's end
pub word_line_length : (word : List ℕ) (n : ℕ) → length (word_line word n) ≡ length word + length (field n newline)
unfolding word_line
word_line_length word n = length-append word (field n newline)

-- the longest text: 508 lines of 11 bytes, the line of edges of 10, and that of stand-ins of 13
pub listing-few : (kinds colors : List (List ℕ)) (stand_ins : ℕ) → length kinds ≤ max_contours → length (flatten kinds) ≤ max_result_edges
    → stand_ins ≤ max_stand_ins → EachColors colors → length (listing kinds colors stand_ins) ≤ max_text
unfolding listing
listing-few kinds colors stand_ins h k s l =
    let n = length (flatten kinds) in
    omega (
      arith,
      length-append (shape_lines 0 kinds colors) (word_line edges_word n ++ word_line stand_ins_word stand_ins),
      length-append (word_line edges_word n) (word_line stand_ins_word stand_ins),
      shape_few 0 kinds colors (omega arith) (omega arith) l,
      word_line_length edges_word n,
      field-length n newline,
      three_digits n (omega arith),
      word_line_length stand_ins_word stand_ins,
      field-length stand_ins newline,
      three_digits stand_ins (omega arith),
    )

-- no number has more than twenty digits
digits_few : (d n : ℕ) → length (decimal_within d n) ≤ d
unfolding decimal_within
digits_few zero n = omega arith
digits_few (suc d) n = go (ltb n 10) (digits_few d (n / 10))
  where
    go : (b : Bool) → length (decimal_within d (n / 10)) ≤ d
        → length {A = ℕ} (elim b [ true ↦ digit n ∷ [] | false ↦ decimal_within d (n / 10) ++ (digit (n % 10) ∷ []) ]) ≤ suc d
    go true h = omega arith
    go false h = omega (arith, length-append (decimal_within d (n / 10)) (digit (n % 10) ∷ []))

pub refusal-few : (number : ℕ) → length (refusal_line number) ≤ 29
unfolding decimal
refusal-few number = omega (arith, word_line_length refused_word number, field-length number newline, digits_few 20 number)

-- a line is three fields, with the letter and a space before the last
pub line_fields : (contour place kind color : ℕ)
    → edge_line contour place kind color ≡ field contour space ++ (field place space ++ ((letter kind ∷ space ∷ []) ++ field color newline))
unfolding edge_line
line_fields contour place kind color = simp append_assoc

-- ---- line by line

pub contour-step : (contour i : ℕ) (kinds colors : List ℕ) → i < length kinds → length colors ≡ length kinds
    → contour_lines contour i (drop i kinds) (drop i colors) ≡ edge_line contour i (get_or kinds i 0) (get_or colors i 0) ++ contour_lines contour (i + 1)
    (drop (i + 1) kinds) (drop (i + 1) colors)
unfolding contour_lines
contour-step contour i kinds colors h l = rw (drop-cons kinds i 0 h, drop-cons colors i 0 (omega arith), add-one i)

pub shape_step : (contour from n : ℕ) (lengths kinds colors : List ℕ) → contour < length lengths → n ≡ get_or lengths contour 0
    → shape_lines contour (cut (drop contour lengths) (drop from kinds)) (cut (drop contour lengths) (drop from colors))
    ≡ contour_lines contour 0 (take n (drop from kinds)) (take n (drop from colors))
    ++ shape_lines (contour + 1) (cut (drop (contour + 1) lengths) (drop (from + n) kinds)) (cut (drop (contour + 1) lengths) (drop (from + n) colors))
unfolding shape_lines cut
shape_step contour from n lengths kinds colors h e = rw (drop-cons lengths contour 0 h, ← e, drop-drop n from kinds, drop-drop n from colors, add-one contour)

pub total-step : (contour : ℕ) (lengths : List ℕ) → contour < length lengths
    → total (drop contour lengths) ≡ get_or lengths contour 0 + total (drop (contour + 1) lengths)
unfolding total
total-step contour lengths h = rw (drop-cons lengths contour 0 h, add-one contour)

-- ---- the whole text

-- all edges of a shape that is cut out of one list
concat-cut : {A : Type 0} (lengths : List ℕ) (xs : List A) → total lengths ≡ length xs → flatten (cut lengths xs) ≡ xs
unfolding total flatten cut
concat-cut [] [] e = refl
concat-cut [] (x ∷ xs) e = absurd (omega arith)
concat-cut (n ∷ lengths) xs e = rw (concat-cut lengths (drop n xs) (rw length-drop (omega arith))) (take-append-drop n xs)

pub listing_parts : (lengths kinds colors : List ℕ) (stand_ins : ℕ) → total lengths ≡ length kinds
    → listing (cut lengths kinds) (cut lengths colors) stand_ins
    ≡ shape_lines 0 (cut lengths kinds) (cut lengths colors) ++ (word_line edges_word (length kinds) ++ word_line stand_ins_word stand_ins)
unfolding listing
listing_parts lengths kinds colors stand_ins e =
    let lines = shape_lines 0 (cut lengths kinds) (cut lengths colors) in
    ap (λ (n : ℕ). lines ++ (word_line edges_word n ++ word_line stand_ins_word stand_ins)) (ap length (concat-cut lengths kinds e))
