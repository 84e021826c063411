-- A record's bytes: what was read is `bytes_of` the record, and the rest is left.
use mathlib.Core.Path.{◌≡◌, refl, sym, ap, ◌∙◌}
use mathlib.Core.Bool.{Bool, true, false, cond, ◌&&◌}
use mathlib.Core.List.{List, [], ◌∷◌, ◌++◌, append_assoc}
use Prim.Native.Nat.{ℕ, ◌+◌, ◌*◌, ◌^◌, ◌<◌, ◌≤◌}
use native.Mathlib.Omega.{arith}
use lib.Dec.{leb, eqb}
use lib.ListN.{length, get_or, take, drop, length-drop, take-append-drop}
use lib.Seq.{length-take-le, take_all, drop-drop, drop-cons}
use lib.Ieee.{Float}
use borrow.Author.Tests.{leb-true, eqb-true, eqb-false}
use Rattle.coloring.specs.Bools.{and_left, and_right}
use Rattle.coloring.specs.Lists.{all}
use Rattle.job.specs.declared.records.Header.{Header}
use Rattle.job.specs.declared.records.Kind.{Kind}
use Rattle.job.specs.declared.records.Kind.TheVariants.{Line, Quadratic, Cubic}
use Rattle.job.specs.declared.records.Mark.{Mark}
use Rattle.std.specs.Prelude.{Some}
use Rattle.job.specs.Patterns.{number, little, words, floats, float_bytes, is_coordinate, is_distance}
use Rattle.job.specs.Records.{Record, header, edge, distances, letters, mark_among, marks, mark_of, strategy_number, strategy_of}
use Rattle.job.specs.Records.{known_strategy, controls, edge_of, record_mark, fields_of, bytes_of}
use Rattle.job.proofs.patterns.PatternLaws.{AreBytes, number-below, floats-length}
use Rattle.job.proofs.patterns.ByteLaws.{are_taken, are_dropped, little-taken, coordinates-back, distances-back}

-- ---- the mark

-- two letters are a mark's
abbrev pub Lettered : ℕ → ℕ → Mark → Type 0
Lettered a b mark = (a ≡ (letters mark).0) × (b ≡ (letters mark).1)

letters-among : (ms : List Mark) (a b : ℕ) (mark : Mark) → mark_among ms a b ≡ Some mark → Lettered a b mark
unfolding mark_among
letters-among [] a b mark e = let z : ◌≡◌ {A = ℕ} 0 1 = cc in absurd (omega arith)
letters-among (m ∷ ms) a b mark e = go (eqb a (letters m).0) refl (eqb b (letters m).1) refl e (λ f. letters-among ms a b mark f)
  where
    go : (x : Bool) → eqb a (letters m).0 ≡ x → (y : Bool) → eqb b (letters m).1 ≡ y → cond (x && y) (Some m) (mark_among ms a b) ≡ Some mark
        → (mark_among ms a b ≡ Some mark → Lettered a b mark) → Lettered a b mark
    go true p true q e later = let same : m ≡ mark = cc in rw (← same) (eqb-true a (letters m).0 p, eqb-true b (letters m).1 q)
    go true p false q e later = later e
    go false p y q e later = later e

pub letters_of : (a b : ℕ) (mark : Mark) → mark_of a b ≡ Some mark → Lettered a b mark
unfolding mark_of
letters_of a b mark e = letters-among marks a b mark e

-- the letters and the fields, and so all the bytes
pub marked-bytes : (a b : ℕ) (bytes rest : List ℕ) (r : Record) → Lettered a b (record_mark r) → fields_of r ++ rest ≡ bytes → a ∷ b ∷ bytes ≡ bytes_of r ++
    rest
unfolding bytes_of
marked-bytes a b bytes rest r l e = rw (l.0, l.1, ← e)

-- ---- the fields of each record

strategy_back : (n : ℕ) → known_strategy n ≡ true → strategy_number (strategy_of n) ≡ n
unfolding strategy_of
strategy_back n h = go (eqb n 1) refl (eqb n 2) refl
  where
    low : 1 ≤ n
    low = leb-true 1 n (and_left (leb 1 n) (leb n 3) h)

    high : n ≤ 3
    high = leb-true n 3 (and_right (leb 1 n) (leb n 3) h)

    go : (x : Bool) → eqb n 1 ≡ x → (y : Bool) → eqb n 2 ≡ y → strategy_number (strategy_of n) ≡ n
    go true e y f = rw e (sym (eqb-true n 1 e))
    go false e true f = rw (e, f) (sym (eqb-true n 2 f))
    go false e false f = rw (e, f) (three (eqb-false n 1 e) (eqb-false n 2 f))
      where
        three : (n ≡ 1 → ⊥) → (n ≡ 2 → ⊥) → 3 ≡ n
        three p q = omega (arith, low, high)

header_fields : (h : Header) → fields_of (header h) ≡ strategy_number h.strategy ∷ (little 8 h.seed ++ little 8 h.threshold)
unfolding fields_of
header_fields h = refl

distances_fields : (ds : List Float) → fields_of (distances ds) ≡ little 2 (length ds) ++ float_bytes ds
unfolding fields_of
distances_fields ds = refl

module _ (bytes : List ℕ) (are : AreBytes bytes) where
  abbrev header_body : List ℕ
  header_body = take 17 bytes

  abbrev pub header_in : Header
  header_in = record {
    strategy = strategy_of (get_or header_body 0 0);
    seed = number (take 8 (drop 1 header_body));
    threshold = number
        (take 8 (drop 9 header_body));
  }

  word_below : (n : ℕ) → n + 8 ≤ length bytes → 17 ≤ length bytes → n + 8 ≤ 17 → number (take 8 (drop n header_body)) < 2 ^ 64
  word_below n k whole few =
      let long : length (take 8 (drop n header_body)) ≡ 8 = length-take-le 8 (drop n header_body)
      (rw length-drop (omega (arith, length-take-le 17 bytes whole))) in
      rw long at (number-below (take 8 (drop n header_body)) (are_taken 8 (drop n header_body) (are_dropped n header_body (are_taken 17 bytes are))))

  pub header-below : 17 ≤ length bytes → (header_in.seed < 2 ^ 64) × (header_in.threshold < 2 ^ 64)
  header-below whole = (word_below 1 (omega arith) whole (omega arith), word_below 9 (omega arith) whole (omega arith))

  pub header-bytes : 17 ≤ length bytes → known_strategy (get_or header_body 0 0) ≡ true → fields_of (header header_in) ++ drop 17 bytes ≡ bytes
  header-bytes whole known =
      let body = header_body in
      let long : length body ≡ 17 = length-take-le 17 bytes whole in
      let ok = are_taken 17 bytes are in
      let seed = little-taken 8 (drop 1 body) (are_dropped 1 body ok) (rw length-drop (omega arith)) in
      let threshold = little-taken 8 (drop 9 body) (are_dropped 9 body ok) (rw length-drop (omega arith)) in
      let last : take 8 (drop 9 body) ≡ drop 9 body = take_all 8 (drop 9 body) (rw length-drop (omega arith)) in
      let split : take 8 (drop 1 body) ++ drop 9 body ≡ drop 1 body = ap (λ (x : List ℕ). take 8 (drop 1 body) ++ x) (sym (drop-drop 8 1 body))
      ∙ take-append-drop 8 (drop 1 body) in
      let all : get_or body 0 0 ∷ drop 1 body ≡ body = sym (drop-cons body 0 0 (omega arith)) in
      rw (header_fields, strategy_back (get_or body 0 0) known, seed, threshold, last, split)
      (ap (λ (x : List ℕ). x ++ drop 17 bytes) all ∙ take-append-drop 17 bytes)

  floats_fields : (n : ℕ) → 8 * n ≤ length bytes → all is_coordinate (words n (take (8 * n) bytes)) ≡ true
      → float_bytes (floats (words n (take (8 * n) bytes))) ++ drop (8 * n) bytes ≡ bytes
  floats_fields n whole within =
      let body = take (8 * n) bytes in
      let long : length body ≡ 8 * n = length-take-le (8 * n) bytes whole in
      rw (coordinates-back n body (are_taken (8 * n) bytes are) (omega arith) within, take_all (8 * n) body (omega arith)) (take-append-drop (8 * n) bytes)

  pub edge-bytes : (kind : Kind) → 16 * controls kind ≤ length bytes → all is_coordinate (words (2 * controls kind) (take (16 * controls kind) bytes)) ≡ true
      → fields_of (edge (edge_of kind (floats (words (2 * controls kind) (take (16 * controls kind) bytes))))) ++ drop (16 * controls kind) bytes ≡ bytes
  unfolding fields_of words floats
  edge-bytes Line whole within = floats_fields 4 whole within
  edge-bytes Quadratic whole within = floats_fields 6 whole within
  edge-bytes Cubic whole within = floats_fields 8 whole within

  pub distances-bytes : let count = number (take 2 bytes) in 2 ≤ length bytes → 8 * count ≤ length (drop 2 bytes)
      → all is_distance (words count (drop 2 bytes)) ≡ true
      → fields_of (distances (floats (words count (drop 2 bytes)))) ++ drop (8 * count) (drop 2 bytes) ≡ bytes
  distances-bytes two whole within =
      let count = number (take 2 bytes) in
      let rest = drop 2 bytes in
      rw (
        distances_fields,
        floats-length count rest,
        little-taken 2 bytes are two,
        distances-back count rest (are_dropped 2 bytes are) whole within,
        append_assoc,
        take-append-drop (8 * count) rest,
      )
      (take-append-drop 2 bytes)
