-- A ring of 64 places: how many wait, what is put at the end, and the first.
use mathlib.Core.Path.{◌≡◌, refl, ap}
use mathlib.Core.Logic.{◌≢◌}
use mathlib.Core.List.{List, [], ◌∷◌, ◌++◌}
use Prim.Native.Nat.{ℕ, zero, suc, ◌+◌, ◌-◌, ◌%◌, ◌<◌}
use native.Mathlib.Omega.{arith}
use native.Mathlib.Numerals.{add-one}
use lib.ListN.{length, get_or, set, drop}
use lib.Seq.{get_or-set_same, get_or-set_other}
use Rattle.std.proofs.Common.{Some, slice_get}
use Rattle.coloring.specs.Queue.{ring}

pub ring-length : (places : List ℕ) (head waiting : ℕ) → length (ring places head waiting) ≡ waiting
unfolding ring
ring-length places head zero = refl
ring-length places head (suc waiting) = ap suc (ring-length places ((head + 1) % 64) waiting)

push_at : (places : List ℕ) (head waiting p x : ℕ) → p ≡ (head + waiting) % 64 → length places ≡ 64 → head < 64 → waiting < 64
    → ring (set places p x) head (suc waiting) ≡ ring places head waiting ++ (x ∷ [])
unfolding ring
push_at places head zero p x at e h k =
    let here : p ≡ head = omega arith in
    rw (here, get_or-set_same places head x 0 (omega arith))
push_at places head (suc waiting) p x at e h k =
    let here : head ≢ p = λ q. omega arith in
    rw (get_or-set_other places p head x 0 here)
    (ap (λ l. get_or places head 0 ∷ l) (push_at places ((head + 1) % 64) waiting p x (omega arith) e (omega arith) (omega arith)))

pub ring_push : (places : List ℕ) (head waiting x : ℕ) → length places ≡ 64 → head < 64 → waiting < 64
    → ring (set places ((head + waiting) % 64) x) head (waiting + 1) ≡ ring places head waiting ++ (x ∷ [])
ring_push places head waiting x e h k = rw add-one (push_at places head waiting ((head + waiting) % 64) x refl e h k)

pub ring_first : (places : List ℕ) (head waiting : ℕ) → 0 < waiting → Some (get_or places head 0) ≡ slice_get (ring places head waiting) 0
unfolding ring
ring_first places head zero h = absurd (omega arith)
ring_first places head (suc waiting) h = refl

pub ring_rest : (places : List ℕ) (head waiting : ℕ) → 0 < waiting → ring places ((head + 1) % 64) (waiting - 1) ≡ drop 1 (ring places head waiting)
unfolding ring
ring_rest places head zero h = absurd (omega arith)
ring_rest places head (suc waiting) h = let e : suc waiting - 1 ≡ waiting = omega arith in rw e
