-- Laws on lists that the library has not: defaults, parts of parts, maps of parts, ranges.
use mathlib.Core.Path.{◌≡◌, refl, sym, ◌∙◌, ap}
use mathlib.Core.List.{List, [], ◌∷◌, ◌++◌, append-nil, map}
use Prim.Native.Nat.{ℕ, zero, suc, ◌+◌, ◌≤◌, ◌<◌}
use native.Mathlib.Nat.{add-zero, zero-add, add-suc, suc-add}
use native.Mathlib.Numerals.{add-one}
use native.Mathlib.Omega.{arith}
use lib.ListN.{length, take, drop, get_or, drop_of_length-le, length-map, get_or-map}
use lib.Seq.{take-length, drop-cons, take-nil}
use Rattle.coloring.specs.Lists.{range}

module _ {A : Type 0} where
  -- below the length the default does not matter
  pub get_d_any : (xs : List A) (i : ℕ) (d e : A) → i < length xs → get_or xs i d ≡ get_or xs i e
  get_d_any [] i d e h = absurd (omega arith)
  get_d_any (x ∷ xs) zero d e h = refl
  get_d_any (x ∷ xs) (suc i) d e h = get_d_any xs i d e (omega arith)

  -- what follows place i, from its element on
  pub drop-next : (xs : List A) (i : ℕ) (d : A) → i < length xs → drop i xs ≡ get_or xs i d ∷ drop (i + 1) xs
  drop-next xs i d h = rw add-one (drop-cons xs i d h)

  -- a copy of a whole list over one of the same length
  pub copied : (from to : List A) → length to ≡ length from → take (length from) from ++ drop (length from) to ≡ from
  copied from to e =
      let h : length to ≤ length from = omega arith in
      rw (take-length, drop_of_length-le to h) (append-nil from)

-- ---- ranges

pub get_or-range : (i k j d : ℕ) → j < k → get_or (range i k) j d ≡ i + j
unfolding range
get_or-range i zero j d h = absurd (omega arith)
get_or-range i (suc k) zero d h = sym (add-zero i)
get_or-range i (suc k) (suc j) d h = get_or-range (suc i) k j d (omega arith) ∙ omega arith

pub range_snoc : (i k : ℕ) → range i (suc k) ≡ range i k ++ ((i + k) ∷ [])
unfolding range
range_snoc i zero = rw (add-zero i)
range_snoc i (suc k) = ap (λ (l : List ℕ). i ∷ l) (range_snoc (suc i) k ∙ rw (add-suc i k, suc-add i k))

-- ---- parts

module _ {A : Type 0} where
  pub length-zero : (xs : List A) → length xs ≡ 0 → xs ≡ []
  length-zero [] e = refl
  length-zero (x ∷ xs) e = absurd (omega arith)

  -- those after some of the first are the first of those after
  pub drop-take : (n m : ℕ) (xs : List A) → drop n (take (n + m) xs) ≡ take m (drop n xs)
  drop-take zero m xs = rw zero-add
  drop-take (suc n) m [] = rw (take-nil, take-nil)
  drop-take (suc n) m (x ∷ xs) =
      let e : suc n + m ≡ suc (n + m) = omega arith in
      rw e (drop-take n m xs)

module _ {A B : Type 0} (f : A → B) where
  pub get_or_mapped : (xs : List A) (i : ℕ) (d : A) (e : B) → i < length xs → get_or (map f xs) i e ≡ f (get_or xs i d)
  get_or_mapped xs i d e h = get_d_any (map f xs) i e (f d) (simp length-map h) ∙ get_or-map f xs i d
