-- The answers for `floor_root`, by the invariant of Invariants.antt.
use Rattle.std.proofs.Common.{◌≡◌, ℕ, ◌+◌, ◌*◌, ◌/◌, ◌%◌, ◌^◌, ◌<◌, ◌≤◌, ap, ◌∙◌, lt_of_lt_of_le, le_of_suc-le-suc, pow-suc, add-one, arith, pow_mono}
use Rattle.math.proofs.sqrt.Radicand.floor_root.Invariants.{Taken}
use Rattle.math.proofs.sqrt.Radicand.floor_root.Goals as goal

-- one turn, as `next_digit` ensures it
step : (n i root rem rest root' rem' : ℕ) → Taken n i root rem rest → i < 53
    → root' * root' + rem' ≡ (root * root + rem) * 4 + rest / 2 ^ 52 → root' ≤ 2 * root + 1 → rem' ≤ 2 * root'
    → Taken n (i + 1) root' rem' (rest % 2 ^ 52 * 4)
step n i root rem rest root' rem' t l e d o =
    let p : 4 ^ (i + 1) ≡ 4 ^ i * 4 = ap (λ (k : ℕ). 4 ^ k) (add-one i) ∙ pow-suc 4 i in
    let q : 2 ^ (i + 1) ≡ 2 ^ i * 2 = ap (λ (k : ℕ). 2 ^ k) (add-one i) ∙ pow-suc 2 i in
    let w : n * 4 ^ (i + 1) ≡ n * (4 ^ i * 4) = ap (λ (k : ℕ). n * k) p in
    record { turns = omega arith; whole = omega (arith, t.whole, e, w); digits = omega (arith, t.digits, q); over = o; low = omega arith }

pub next_digit-s-requires : goal.next_digit-s-requires
next_digit-s-requires c = (lt_of_lt_of_le c.loop.invariant.digits (pow_mono (le_of_suc-le-suc c.loop-test.true)), omega arith)

pub invariant_of-s : goal.invariant_of-s
invariant_of-s c = record { floor = c.loop.invariant.over }

pub loop-preserved : goal.loop-preserved
loop-preserved c =
    let s = c.next_digit-s.result in
    let e = c.next_digit-s.ensures in
    step _ _ _ _ _ _ _ c.loop.invariant c.loop-test.true e.0 e.1 s.floor

pub invariant_of-s-2 : goal.invariant_of-s-2
invariant_of-s-2 c = record { floor = c.loop.invariant.over }

-- after the last turn no digit is left
pub returns : goal.returns
returns c =
    let all : c.loop.counter ≡ 53 = omega arith in
    let t = rw all at c.loop.invariant in
    (omega (arith, t.whole, t.low), t.digits)
