-- A buffer that is being written from a place on: `over_from n xs buffer` has xs from place n on, and else what stood
-- there.
use mathlib.Core.Path.{◌≡◌, refl, sym, ap, ◌∙◌}
use mathlib.Core.List.{List, [], ◌∷◌, ◌++◌, append_assoc, append-nil}
use Prim.Native.Nat.{ℕ, suc, ◌+◌, ◌≤◌, ◌<◌}
use native.Mathlib.Omega.{arith}
use native.Mathlib.Numerals.{add-one}
use lib.ListN.{length, take, drop, set, length-append, length-drop, drop_of_length-le, take-append-drop}
use lib.Seq.{drop-drop, set_split, length-take-le, take_at, drop_at}
use Rattle.coloring.specs.Lists.{over_from}

module _ {A : Type 0} (n : ℕ) where
  -- as it stands after a call that wrote a part
  pub over-part : (k : ℕ) (part buffer : List A) → length part ≡ k → take n buffer ++ (part ++ drop k (drop n buffer)) ≡ over_from n part buffer
  unfolding over_from
  over-part k part buffer p = rw (← p)

  pub over-length : (k : ℕ) (part buffer : List A) → length part ≡ k → n + k ≤ length buffer → length (over_from n part buffer) ≡ length buffer
  unfolding over_from
  over-length k part buffer p h = simp (length-append, length-drop) (omega (arith, length-take-le n buffer (omega arith)))

  pub part-length : (k : ℕ) (part buffer : List A) → length part ≡ k → n + k ≤ length buffer
      → length (take n buffer ++ (part ++ drop k (drop n buffer))) ≡ length buffer
  part-length k part buffer p h = ap length (over-part k part buffer p) ∙ over-length k part buffer p h

  -- nothing is left to be written
  pub over_nothing : (buffer : List A) → over_from n [] buffer ≡ buffer
  unfolding over_from
  over_nothing buffer = take-append-drop n buffer

  -- a part is written, and the rest after it
  pub over-more : (k : ℕ) (part rest buffer : List A) → length part ≡ k → n + k ≤ length buffer
      → over_from n (part ++ rest) buffer ≡ over_from (n + k) rest (over_from n part buffer)
  unfolding over_from
  over-more k part rest buffer p h =
      let after = drop k (drop n buffer) in
      let l : length (take n buffer ++ part) ≡ n + k = length-append (take n buffer) part ∙ rw (length-take-le n buffer (omega arith), p) in
      rw (length-append part rest, p, ← drop-drop (length rest) k (drop n buffer))
      (rw (← append_assoc (take n buffer) part after, take_at (take n buffer ++ part) after (n + k) l, drop_at (take n buffer ++ part) after (n + k) l)
      (simp append_assoc))

  -- one element is stored
  pub over-next : (x : A) (rest buffer : List A) → n < length buffer → over_from n (x ∷ rest) buffer ≡ over_from (n + 1) rest (set buffer n x)
  over-next x rest buffer h =
      let e : drop (suc n) buffer ≡ drop 1 (drop n buffer) = ap (λ k. drop k buffer) (sym (add-one n)) ∙ sym (drop-drop 1 n buffer) in
      over-more 1 (x ∷ []) rest buffer refl (omega arith) ∙ rw (set_split buffer n x h, e, over-part 1 (x ∷ []) buffer refl)

-- a list as long as the buffer
pub over-all : {A : Type 0} (xs buffer : List A) → length buffer ≡ length xs → over_from 0 xs buffer ≡ xs
unfolding over_from
over-all xs buffer h = rw (drop_of_length-le buffer {i = length xs} (omega arith), append-nil)
