-- A buffer that is written from the front: what is written, and what stood beyond it.
use mathlib.Core.Path.{◌≡◌, refl, sym, ap, ◌∙◌}
use mathlib.Core.List.{List, [], ◌∷◌, ◌++◌, append_assoc, append-nil}
use Prim.Native.Nat.{ℕ, suc, ◌+◌, ◌-◌, ◌*◌, ◌≤◌, ◌<◌}
use native.Mathlib.Omega.{arith}
use lib.ListN.{length, take, drop, get_or, set, replicate, length-append, length-drop, drop_of_length-le}
use lib.ListN.{length-set, get_or-append}
use lib.Seq.{drop-cons, drop-drop, set_at, set-append_left, append_snoc, take_at, drop_at, take-suc, length-take-le}
use Rattle.math.specs.Scalar.{f0}
use Rattle.geometry.specs.EdgeSegment.{to_stored}
use Rattle.coloring.specs.Lists.{over}
use Rattle.job.specs.declared.records.Kind.{Kind}
use Rattle.job.specs.declared.records.Kind.TheVariants.{Line, Quadratic, Cubic}
use Rattle.job.specs.Patterns.{words, floats}
use Rattle.job.specs.Records.{controls}
use Rattle.job.specs.declared.buffers.JobBuffers.{JobBuffers}
use Rattle.job.specs.Buffers.{points_read, SameJobBuffers}

module _ {A : Type 0} where
  -- one element more
  pub over-more : (xs old : List A) (x : A) → length xs < length old → set (over xs old) (length xs) x ≡ over (xs ++ (x ∷ [])) old
  unfolding over
  over-more xs old x h =
      let e : suc (length xs) ≡ length (xs ++ (x ∷ [])) = sym (length-append xs (x ∷ []) ∙ omega arith) in
      rw (drop-cons old (length xs) x h, set_at xs (get_or old (length xs) x) (drop (suc (length xs)) old) x (length xs) refl, ← e)
      (sym (append_snoc xs x (drop (suc (length xs)) old)))

  pub over-length : (xs old : List A) → length xs ≤ length old → length (over xs old) ≡ length old
  unfolding over
  over-length xs old h = length-append xs (drop (length xs) old) ∙ rw length-drop (omega arith)

  -- the elements of a list, one after another
  pub over-next : (xs old : List A) (i : ℕ) (d : A) → i < length xs → length xs ≤ length old
      → set (over (take i xs) old) i (get_or xs i d) ≡ over (take (suc i) xs) old
  over-next xs old i d h k =
      let e : length (take i xs) ≡ i = length-take-le i xs (omega arith) in
      ap (λ (n : ℕ). set (over (take i xs) old) n (get_or xs i d)) (sym e) ∙ over-more (take i xs) old (get_or xs i d) (omega arith) ∙ rw (← take-suc xs i d h)

  -- what is written is at the front
  pub take-over : {n : ℕ} {new : List A} (xs old : List A) → new ≡ over xs old → n ≡ length xs → take n new ≡ xs
  unfolding over
  take-over {n = n} xs old e h = rw e (take_at xs _ n (sym h))

  pub within-over : {n : ℕ} {new : List A} (xs old : List A) → new ≡ over xs old → n ≡ length xs → n ≤ length new
  unfolding over
  within-over xs old e h = rw e (omega (arith, h, length-append xs (drop (length xs) old)))

  -- all of the buffer
  pub over-all : (xs old : List A) → length old ≤ length xs → over xs old ≡ xs
  unfolding over
  over-all xs old h = rw (drop_of_length-le old h, append-nil)

  -- an element of what is written
  pub over-set : (xs old : List A) (i : ℕ) (x : A) → i < length xs → length xs ≤ length old → set (over xs old) i x ≡ over (set xs i x) old
  unfolding over
  over-set xs old i x h k = set-append_left xs (drop (length xs) old) i x h ∙ rw (length-set xs i x)

  pub over-get_or : (xs old : List A) (i : ℕ) (d : A) → i < length xs → get_or (over xs old) i d ≡ get_or xs i d
  unfolding over
  over-get_or xs old i d h = get_or-append xs (drop (length xs) old) d i h

  -- a part more, as code writes it
  pub over-part : (xs part old : List A) (n k : ℕ) → n ≡ length xs → k ≡ length part
      → take n (over xs old) ++ (part ++ drop k (drop n (over xs old))) ≡ over (xs ++ part) old
  unfolding over
  over-part xs part old n k e f =
      rw (
        e,
        f,
        take_at xs (drop (length xs) old) (length xs) refl,
        drop_at xs (drop (length xs) old) (length xs) refl,
        drop-drop (length part) (length xs) old,
        length-append xs part,
      )
      (sym (append_assoc xs part (drop (length xs + length part) old)))

-- the control points of an edge and +0 are the edge as it is stored
pub places_from : (kind : Kind) (body : List ℕ)
    → floats (words (2 * controls kind) body) ++ replicate (8 - 2 * controls kind) f0 ≡ points_read kind body
unfolding floats words points_read to_stored
places_from Line body = refl
places_from Quadratic body = refl
places_from Cubic body = refl

-- buffers that stay the same, twice
pub same_then : {a b c : JobBuffers} → SameJobBuffers a b → SameJobBuffers b c → SameJobBuffers a c
same_then p q = record {
  lengths_same = q.lengths_same ∙ p.lengths_same;
  kinds_same = q.kinds_same ∙ p.kinds_same;
  points_same = q.points_same ∙ p.points_same;
  distances_same = q.distances_same ∙ p.distances_same;
  lengths_long = q.lengths_long ∙ p.lengths_long;
  kinds_long = q.kinds_long ∙ p.kinds_long;
  points_long = q.points_long ∙ p.points_long;
  distances_long = q.distances_long ∙ p.distances_long;
}
