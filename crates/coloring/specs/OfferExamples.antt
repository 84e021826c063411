-- Offers computed from the definition; each refutes a wrong program.
use Rattle.std.specs.Prelude.{ℕ, ◌≡◌, refl, List, [], ◌∷◌, ◌++◌, map, replicate}
use Rattle.coloring.specs.SplineTable.{Table, table_of, kept, declined, refused, outcome, offer}

-- refutes one that takes the lowest free colour: of {0, 2} spline 1 takes 2
pub takes_2_of_0_and_2 : offer (table_of (1 ∷ 1 ∷ []) (0 ∷ 0 ∷ 0 ∷ 0 ∷ [])) 0 1 ≡ outcome (kept 0) (1 ∷ 2 ∷ []) (0 ∷ 1 ∷ 1 ∷ 0 ∷ [])
unfolding offer
takes_2_of_0_and_2 = refl

-- refutes one that declines without a walk, or keeps no walk's counter: kept at 1, in new colours
pub kept_after_a_walk :
    offer (table_of (2 ∷ 0 ∷ 1 ∷ 1 ∷ []) ((0 ∷ 1 ∷ 1 ∷ 1 ∷ []) ++ (1 ∷ 0 ∷ 1 ∷ 0 ∷ []) ++ (1 ∷ 1 ∷ 0 ∷ 0 ∷ []) ++ (1 ∷ 0 ∷ 0 ∷ 0 ∷ []))) 3 2
    ≡ outcome (kept 1) (0 ∷ 1 ∷ 2 ∷ 1 ∷ []) ((0 ∷ 1 ∷ 1 ∷ 1 ∷ []) ++ (1 ∷ 0 ∷ 1 ∷ 0 ∷ []) ++ (1 ∷ 1 ∷ 0 ∷ 1 ∷ []) ++ (1 ∷ 0 ∷ 1 ∷ 0 ∷ []))
unfolding offer
kept_after_a_walk = refl

-- the four splines that all touch but for 0 and 1
abbrev nearly_all : List ℕ
nearly_all = (0 ∷ 0 ∷ 1 ∷ 1 ∷ []) ++ (0 ∷ 0 ∷ 1 ∷ 1 ∷ []) ++ (1 ∷ 1 ∷ 0 ∷ 1 ∷ []) ++ (1 ∷ 1 ∷ 1 ∷ 0 ∷ [])

-- refutes one whose declined offers change a colour: declined at 16, and the table is as it was
pub declined_at_16 : offer (table_of (2 ∷ 2 ∷ 0 ∷ 1 ∷ []) nearly_all) 0 1 ≡ outcome (declined 16) (2 ∷ 2 ∷ 0 ∷ 1 ∷ []) nearly_all
unfolding offer
declined_at_16 = refl

-- refutes a counter fixed at 16
pub declined_at_17 : offer (table_of (0 ∷ 0 ∷ 2 ∷ 1 ∷ []) nearly_all) 0 1 ≡ outcome (declined 17) (0 ∷ 0 ∷ 2 ∷ 1 ∷ []) nearly_all
unfolding offer
declined_at_17 = refl

-- refutes one that clears one entry, or leaves a pair that was kept before: both entries of 0 and 1 become 0
pub declined_clears_both :
    offer (table_of (0 ∷ 0 ∷ 2 ∷ 1 ∷ []) ((0 ∷ 1 ∷ 1 ∷ 1 ∷ []) ++ (1 ∷ 0 ∷ 1 ∷ 1 ∷ []) ++ (1 ∷ 1 ∷ 0 ∷ 1 ∷ []) ++ (1 ∷ 1 ∷ 1 ∷ 0 ∷ []))) 0 1
    ≡ outcome (declined 17) (0 ∷ 0 ∷ 2 ∷ 1 ∷ []) nearly_all
unfolding offer
declined_clears_both = refl

-- refutes one whose lower neighbours wait first: it keeps this offer at 1
pub upper_wait_first :
    (offer (table_of (0 ∷ 2 ∷ 1 ∷ 1 ∷ 2 ∷ [])
    ((0 ∷ 1 ∷ 1 ∷ 0 ∷ 1 ∷ []) ++ (1 ∷ 0 ∷ 1 ∷ 1 ∷ 0 ∷ []) ++ (1 ∷ 1 ∷ 0 ∷ 0 ∷ 1 ∷ []) ++ (0 ∷ 1 ∷ 0 ∷ 0 ∷ 0 ∷ []) ++ (1 ∷ 0 ∷ 1 ∷ 0 ∷ 0 ∷ []))) 3 2
    ).answer
    ≡ kept 2
unfolding offer
upper_wait_first = refl

-- refutes one that tests the counter behind the recolouring: the spline that it stops at has a free colour, with which
-- it would keep the pair
pub stopped_with_a_free_colour :
    (offer (table_of (0 ∷ 0 ∷ 1 ∷ 0 ∷ 2 ∷ 1 ∷ 2 ∷ [])
    ((0 ∷ 1 ∷ 0 ∷ 0 ∷ 1 ∷ 1 ∷ 0 ∷ []) ++ (1 ∷ 0 ∷ 1 ∷ 0 ∷ 1 ∷ 1 ∷ 0 ∷ []) ++ (0 ∷ 1 ∷ 0 ∷ 0 ∷ 0 ∷ 1 ∷ 1 ∷ [])
    ++ (0 ∷ 0 ∷ 0 ∷ 0 ∷ 0 ∷ 1 ∷ 0 ∷ []) ++ (1 ∷ 1 ∷ 0 ∷ 0 ∷ 0 ∷ 0 ∷ 1 ∷ []) ++ (1 ∷ 1 ∷ 1 ∷ 1 ∷ 0 ∷ 0 ∷ 1 ∷ [])
    ++ (0 ∷ 0 ∷ 1 ∷ 0 ∷ 1 ∷ 1 ∷ 0 ∷ []))) 3 0
    ).answer
    ≡ declined 17
unfolding offer
stopped_with_a_free_colour = refl

-- refutes one that enters no pair where the colours differ, or recolours there
pub colors_differ : offer (table_of (0 ∷ 1 ∷ []) (0 ∷ 0 ∷ 0 ∷ 0 ∷ [])) 0 1 ≡ outcome (kept 0) (0 ∷ 1 ∷ []) (0 ∷ 1 ∷ 1 ∷ 0 ∷ [])
unfolding offer
colors_differ = refl

-- ---- refusals

-- refutes one that enters the pair before it refuses, or takes a spline with itself
pub refused_unchanged : offer (table_of (0 ∷ 0 ∷ []) (0 ∷ 0 ∷ 0 ∷ 0 ∷ [])) 1 1 ≡ outcome (refused 10) (0 ∷ 0 ∷ []) (0 ∷ 0 ∷ 0 ∷ 0 ∷ [])
unfolding offer
refused_unchanged = refl

-- refutes another order of the refusals, one that refuses 64 splines, and one that takes a spline that is not there
pub refusals_in_order :
    ((offer (table_of (replicate 65 3) []) 0 0).answer ≡ refused 4)
    × ((offer (table_of (replicate 64 3) []) 0 0).answer ≡ refused 8)
    × ((offer (table_of (0 ∷ 0 ∷ []) (0 ∷ 0 ∷ 0 ∷ 0 ∷ [])) 0 2).answer ≡ refused 10)
unfolding offer
refusals_in_order = (refl, refl, refl)

-- refutes one that misses a fault: a colour above 2, an entry above 1, entries that differ both ways round, a spline
-- that touches itself
pub bad_tables :
    map (λ (t : Table). (offer t 0 1).answer)
    (table_of (3 ∷ 0 ∷ []) (0 ∷ 0 ∷ 0 ∷ 0 ∷ [])
    ∷ table_of (0 ∷ 0 ∷ []) (0 ∷ 2 ∷ 2 ∷ 0 ∷ [])
    ∷ table_of (0 ∷ 0 ∷ []) (0 ∷ 1 ∷ 0 ∷ 0 ∷ [])
    ∷ table_of (0 ∷ 0 ∷ []) (1 ∷ 0 ∷ 0 ∷ 0 ∷ [])
    ∷ [])
    ≡ replicate 4 (refused 10)
unfolding offer
bad_tables = refl
