-- Places of a contour in walking order, from a start and around: rotated lists, and a list that is written place by
-- place in that order.
use Prim.Native.Nat.{ℕ, ◌+◌, ◌-◌, ◌%◌, ◌≤◌, ◌<◌}
use mathlib.Core.Path.{◌≡◌, sym, ap, ◌∙◌}
use mathlib.Core.Logic.{◌⊎◌, inl, inr, ⊎_elim}
use mathlib.Core.List.{List, ◌++◌}
use native.Mathlib.Nat.{mod-lt, mod-eq_of_lt, mod-eq-sub-mod}
use native.Mathlib.Decide.{dec_lt}
use native.Mathlib.Omega.{arith}
use lib.ListN.{length, get_or, take, drop, set, length-drop, length-set, get_or-append}
use lib.Seq.{get_or-take, get_or-drop, get_or-append-add, get_or-set_same, get_or-set_other, ext_get_or}
use Rattle.coloring.specs.Places.{rotate, by_place}
use Rattle.coloring.specs.Sizes.{length-by_place}

-- ---- the place after k steps from a start, of m

-- it is start + k, or that less m
abbrev Near : ℕ → ℕ → ℕ → Type 0
Near start k m = (start + k < m) × ((start + k) % m ≡ start + k)

abbrev Around : ℕ → ℕ → ℕ → Type 0
Around start k m = (m ≤ start + k) × ((start + k) % m ≡ start + k - m)

place_cases : (start k m : ℕ) → start ≤ m → k < m → Near start k m ⊎ Around start k m
place_cases start k m s h =
    elim (dec_lt (start + k) m) [
      | yes p ↦ inl (p, mod-eq_of_lt p)
      | no q ↦
          let l : m ≤ start + k = omega arith in
          inr (l, mod-eq-sub-mod l ∙ mod-eq_of_lt (omega arith))
    ]

-- different steps lead to different places
place_other : (start k i m : ℕ) → start ≤ m → k < i → i < m → (start + k) % m ≡ (start + i) % m → ⊥
place_other start k i m s h l e =
    ⊎_elim (λ a. ⊎_elim (λ b. omega arith) (λ b. omega arith) (place_cases start i m s l))
    (λ a. ⊎_elim (λ b. omega arith) (λ b. omega arith) (place_cases start i m s l))
    (place_cases start k m s (omega arith))

-- each place is reached
place_reached : (start j m : ℕ) → start ≤ m → j < m → (k : ℕ) × (k < m) × ((start + k) % m ≡ j)
place_reached start j m s h =
    elim (dec_lt j start) [
      | yes p ↦ (j + m - start, omega arith, ⊎_elim (λ a. omega arith) (λ a. omega arith) (place_cases start (j + m - start) m s (omega arith)))
      | no q ↦ (j - start, omega arith, ⊎_elim (λ a. omega arith) (λ a. omega arith) (place_cases start (j - start) m s (omega arith)))
    ]

-- back from a place that was reached
place-back : (start k m : ℕ) → start ≤ m → k < m → (m - start + (start + k) % m) % m ≡ k
place-back start k m s h =
    let back = place_cases (m - start) ((start + k) % m) m (omega arith) (mod-lt (start + k) (omega arith)) in
    ⊎_elim (λ a. ⊎_elim (λ b. omega arith) (λ b. omega arith) back) (λ a. ⊎_elim (λ b. omega arith) (λ b. omega arith) back) (place_cases start k m s h)

-- ---- rotated lists

module _ {A : Type 0} where
  pub get_or-rotate : (start : ℕ) (xs : List A) (k : ℕ) (d : A) → start ≤ length xs
      → k < length xs → get_or (rotate start xs) k d ≡ get_or xs ((start + k) % length xs) d
  unfolding rotate
  get_or-rotate start xs k d s h = ⊎_elim near around (place_cases start k (length xs) s h)
    where
      near : Near start k (length xs) → get_or (drop start xs ++ take start xs) k d ≡ get_or xs ((start + k) % length xs) d
      near a =
          get_or-append (drop start xs) (take start xs) d k (simp length-drop (omega arith))
          ∙ get_or-drop start xs k d
          ∙ ap (λ (p : ℕ). get_or xs p d) (sym a.1)

      around : Around start k (length xs) → get_or (drop start xs ++ take start xs) k d ≡ get_or xs ((start + k) % length xs) d
      around a =
          ap (λ (p : ℕ). get_or (drop start xs ++ take start xs) p d) (simp length-drop (omega arith))
          ∙ get_or-append-add (drop start xs) (take start xs) (start + k - length xs) d
          ∙ get_or-take start xs (start + k - length xs) d (omega arith)
          ∙ ap (λ (p : ℕ). get_or xs p d) (sym a.1)

  get_or-by_place : (start : ℕ) (xs : List A) (k : ℕ) (d : A) → start ≤ length xs
      → k < length xs → get_or (by_place start xs) ((start + k) % length xs) d ≡ get_or xs k d
  unfolding by_place
  get_or-by_place start xs k d s h =
      get_or-rotate (length xs - start) xs ((start + k) % length xs) d (omega arith) (mod-lt (start + k) (omega arith))
      ∙ ap (λ (p : ℕ). get_or xs p d) (place-back start k (length xs) s h)

-- ---- written in walking order: after i steps of m, the places passed hold the first i of the list

module _ {A : Type 0} (start m : ℕ) (xs : List A) (d : A) where
  pub record Walked (written : List A) (i : ℕ) : Type 0 where
    pub size : length written ≡ m
    pub passed : (k : ℕ) → k < i → get_or written ((start + k) % m) d ≡ get_or xs k d

  pub walked_more : {written : List A} {i : ℕ} → start ≤ m → i < m → Walked written i
      → (a : A) → a ≡ get_or xs i d → Walked (set written ((start + i) % m) a) (i + 1)
  walked_more {written} {i} s h w a e = record { size = length-set written place a ∙ w.size; passed = again }
    where
      place : ℕ
      place = (start + i) % m

      again : (k : ℕ) → k < i + 1 → get_or (set written place a) ((start + k) % m) d ≡ get_or xs k d
      again k l =
          elim (dec_lt k i) [
            | yes p ↦ get_or-set_other written place ((start + k) % m) a d (place_other start k i m s p h) ∙ w.passed k p
            | no q ↦
                let same : k ≡ i = omega arith in
                rw same (get_or-set_same written place a d (rw w.size (mod-lt (start + i) (omega arith))) ∙ e)
          ]

  pub walked_all : {written : List A} → length xs ≡ m → start ≤ m → Walked written m → written ≡ by_place start xs
  walked_all {written} n s w = ext_get_or d written (by_place start xs) (w.size ∙ sym n ∙ sym (length-by_place start xs)) at
    where
      at : (j : ℕ) → j < length written → get_or written j d ≡ get_or (by_place start xs) j d
      at j h =
          let r = place_reached start j m s (rw w.size at h) in
          ap (λ (p : ℕ). get_or written p d) (sym r.2)
          ∙ w.passed r.0 r.1
          ∙ sym (get_or-by_place start xs r.0 d (rw n s) (rw n r.1))
          ∙ rw n (ap (λ (p : ℕ). get_or (by_place start xs) p d) r.2)
