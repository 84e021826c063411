-- Lists of offers to tables with a clash, computed from the definition.
use Rattle.std.specs.Prelude.{ℕ, ◌≡◌, refl, true, false, List, [], ◌∷◌, ◌++◌}
use Rattle.std.proofs.Common.{arith, ap}
use Rattle.std.proofs.lemmas.Bool.{false≢true}
use Rattle.coloring.specs.SplineTable.{Table, table_of, OfferAnswer, kept, declined, refused, offer}
use Rattle.coloring.specs.Sequence.{Pair, Run, run, strike, MayStrike, WhenOffered, NoneKept, Strikable}

abbrev pair : ℕ → ℕ → Pair
pair a b = record { a = a; b = b }

abbrev ends : List OfferAnswer → Table → Run
ends answers t = record { answers = answers; table = t }

-- ---- why lists in which an offer drops its pair are left out of the striking

-- five splines, of which 0, 1, 2 and 3 all touch: 0 and 1 clash
abbrev four_touch : Table
four_touch =
    table_of (0 ∷ 0 ∷ 1 ∷ 2 ∷ 0 ∷ [])
    ((0 ∷ 1 ∷ 1 ∷ 1 ∷ 0 ∷ []) ++ (1 ∷ 0 ∷ 1 ∷ 1 ∷ 0 ∷ []) ++ (1 ∷ 1 ∷ 0 ∷ 1 ∷ 0 ∷ []) ++ (1 ∷ 1 ∷ 1 ∷ 0 ∷ 0 ∷ []) ++ (0 ∷ 0 ∷ 0 ∷ 0 ∷ 0 ∷ []))

-- 0 and 1 are offered: declined, and their pair is dropped. Then 4 and 0 are kept.
pub dropped_then_kept :
    run four_touch (pair 0 1 ∷ pair 4 0 ∷ [])
    ≡ ends (declined 17 ∷ kept 1 ∷ []) (table_of (1 ∷ 1 ∷ 0 ∷ 2 ∷ 0 ∷ [])
    ((0 ∷ 0 ∷ 1 ∷ 1 ∷ 1 ∷ []) ++ (0 ∷ 0 ∷ 1 ∷ 1 ∷ 0 ∷ []) ++ (1 ∷ 1 ∷ 0 ∷ 1 ∷ 0 ∷ []) ++ (1 ∷ 1 ∷ 1 ∷ 0 ∷ 0 ∷ []) ++ (1 ∷ 0 ∷ 0 ∷ 0 ∷ 0 ∷ [])))
unfolding run offer
dropped_then_kept = refl

-- with the declined offer struck, 4 and 0 are declined
pub struck_then_declined : run four_touch (strike (true ∷ false ∷ []) (pair 0 1 ∷ pair 4 0 ∷ [])) ≡ ends (declined 17 ∷ []) four_touch
unfolding run offer strike
struck_then_declined = refl

-- so that not every list may be struck: here the offer that drops its pair must stay
pub not_strikable : ¬ Strikable four_touch (pair 0 1 ∷ pair 4 0 ∷ [])
unfolding run offer strike MayStrike
not_strikable may =
    let same = may (true ∷ false ∷ []) (λ e. refl, (λ e. absurd (false≢true e), tt)) in
    let z : ◌≡◌ {A = ℕ} 0 1 = cc (ap (λ (r : Run). r.answers) same) in
    omega arith

-- ---- beside a clash

-- five splines, of which 0 and 4 clash
abbrev one_clash : Table
one_clash =
    table_of (0 ∷ 2 ∷ 1 ∷ 1 ∷ 0 ∷ [])
    ((0 ∷ 1 ∷ 1 ∷ 1 ∷ 1 ∷ []) ++ (1 ∷ 0 ∷ 1 ∷ 1 ∷ 0 ∷ []) ++ (1 ∷ 1 ∷ 0 ∷ 0 ∷ 0 ∷ []) ++ (1 ∷ 1 ∷ 0 ∷ 0 ∷ 0 ∷ []) ++ (1 ∷ 0 ∷ 0 ∷ 0 ∷ 0 ∷ []))

-- refutes one that refuses or declines whatever is offered to a table with a clash. The declined offer and the refused
-- one can be left out,
pub answered_beside_a_clash :
    ((run one_clash (pair 2 3 ∷ pair 2 2 ∷ pair 4 1 ∷ [])).answers ≡ declined 16 ∷ refused 10 ∷ kept 0 ∷ [])
    × (run one_clash (pair 4 1 ∷ []) ≡ ends (kept 0 ∷ []) (run one_clash (pair 2 3 ∷ pair 2 2 ∷ pair 4 1 ∷ [])).table)
unfolding run offer
answered_beside_a_clash = (refl, refl)

-- since none of the three pairs is kept when it is offered
pub none_kept_beside_a_clash : NoneKept one_clash (pair 2 3 ∷ pair 2 2 ∷ pair 4 1 ∷ [])
unfolding WhenOffered offer
none_kept_beside_a_clash = (λ k. k.there.1 refl, (λ k. k.different refl, (λ k. k.there.1 refl, tt)))

-- refutes one that mends every clash: the walk for 4 and 0 does not come to 1 and 2, which clash as before
pub clash_stays :
    run (table_of (0 ∷ 2 ∷ 2 ∷ 1 ∷ 0 ∷ [])
    ((0 ∷ 1 ∷ 0 ∷ 1 ∷ 0 ∷ []) ++ (1 ∷ 0 ∷ 1 ∷ 0 ∷ 0 ∷ []) ++ (0 ∷ 1 ∷ 0 ∷ 0 ∷ 0 ∷ []) ++ (1 ∷ 0 ∷ 0 ∷ 0 ∷ 0 ∷ []) ++ (0 ∷ 0 ∷ 0 ∷ 0 ∷ 0 ∷ [])))
    (pair 4 0 ∷ [])
    ≡ ends (kept 0 ∷ []) (table_of (1 ∷ 2 ∷ 2 ∷ 2 ∷ 0 ∷ [])
    ((0 ∷ 1 ∷ 0 ∷ 1 ∷ 1 ∷ []) ++ (1 ∷ 0 ∷ 1 ∷ 0 ∷ 0 ∷ []) ++ (0 ∷ 1 ∷ 0 ∷ 0 ∷ 0 ∷ []) ++ (1 ∷ 0 ∷ 0 ∷ 0 ∷ 0 ∷ []) ++ (1 ∷ 0 ∷ 0 ∷ 0 ∷ 0 ∷ [])))
unfolding run offer
clash_stays = refl

-- refutes one that takes a kept pair for settled: 0 and 1 are kept and clash; offered, they get two colours
pub clash_goes : run (table_of (0 ∷ 0 ∷ []) (0 ∷ 1 ∷ 1 ∷ 0 ∷ [])) (pair 0 1 ∷ []) ≡ ends (kept 0 ∷ []) (table_of (0 ∷ 1 ∷ []) (0 ∷ 1 ∷ 1 ∷ 0 ∷ []))
unfolding run offer
clash_goes = refl
