-- One offer of a pair to a spline table, after `try_add_edge` of coloring/by_distance.rs (SCOPE, Offers), with the
-- checks before it.
use Rattle.std.specs.Prelude.{Bool, true, false, not, ◌&&◌, List, [], ◌∷◌, ℕ, zero, suc, ◌+◌, ◌*◌, length, get_or, set, leb, ltb, eqb, ◌≡◌, Result, Ok, Err}
use Rattle.coloring.specs.Recolor.{row, vertex_possible_colors, first_possible_color, Walk, recolored, stopped, recolor}
use Rattle.coloring.specs.Answers.{Check, unless, in_order}
use Rattle.coloring.specs.Limits.{max_splines}
use Rattle.coloring.specs.Refusal.{refusal_number}
use Rattle.coloring.specs.declared.spline_table.Offer.{Offer}
use Rattle.coloring.specs.declared.spline_table.Offer.TheVariants.{Kept, Declined}
use Rattle.coloring.specs.declared.spline_table.SplineTable.{SplineTable}
use Rattle.coloring.specs.declared.refusal.Refusal.{Refusal}

-- A spline table: the colour of each spline, and for n splines n × n entries by rows, not 0 where a pair is kept.
pub record Table : Type 0 where
  pub coloring : List ℕ
  pub edge_matrix : List ℕ

-- the table of two buffers
abbrev pub table_of : List ℕ → List ℕ → Table
table_of coloring edge_matrix = record { coloring = coloring; edge_matrix = edge_matrix }

abbrev pub table_in : SplineTable → Table
table_in t = table_of t.coloring.now t.edge_matrix.now

-- the buffers of two tables are the same two, and as long, whatever is in them
abbrev pub SameTable : SplineTable → SplineTable → Type 0
SameTable t u =
    (u.coloring.ghost_name ≡ t.coloring.ghost_name)
    × (u.edge_matrix.ghost_name ≡ t.edge_matrix.ghost_name)
    × (length u.coloring.now ≡ length t.coloring.now)
    × (length u.edge_matrix.now ≡ length t.edge_matrix.now)

-- An offer's answer (SCOPE, Offers): kept or declined, with its counter, or refused, with its number.
pub data OfferAnswer : Type 0 where
  kept : ℕ → OfferAnswer
  declined : ℕ → OfferAnswer
  refused : ℕ → OfferAnswer

abbrev pub rule_answer : Offer → OfferAnswer
rule_answer (Kept counter) = kept counter
rule_answer (Declined counter) = declined counter

abbrev pub offer_answer : Result Offer Refusal → OfferAnswer
offer_answer (Ok offer) = rule_answer offer
offer_answer (Err refusal) = refused (refusal_number refusal)

-- the answer to an offer, and the table afterwards
pub record Offered : Type 0 where
  pub answer : OfferAnswer
  pub table : Table

-- the answer and two buffers
abbrev pub outcome : OfferAnswer → List ℕ → List ℕ → Offered
outcome answer coloring edge_matrix = record { answer = answer; table = table_of coloring edge_matrix }

abbrev pub offered : OfferAnswer → SplineTable → Offered
offered answer t = record { answer = answer; table = table_in t }

-- the entry of spline j in the row of spline i
abbrev pub entry : ℕ → List ℕ → ℕ → ℕ → ℕ
entry n edge_matrix i j = get_or edge_matrix (i * n + j) 0

-- the entries of a pair, both set to e
abbrev pub enter_pair : ℕ → List ℕ → ℕ → ℕ → ℕ → List ℕ
enter_pair n edge_matrix a b e = set (set edge_matrix (a * n + b) e) (b * n + a) e

-- ---- the rule

-- what a walk leaves: its colours, with the pair entered; or the colours as they were, without it
abbrev pub settled : Walk → List ℕ → List ℕ → ℕ → ℕ → Offered
settled (recolored after step) coloring edge_matrix a b = outcome (kept step) after edge_matrix
settled (stopped step) coloring edge_matrix a b = outcome (declined step) coloring (enter_pair (length coloring) edge_matrix a b 0)

-- the same of the walk for a and b
unfoldable pub walked_on : List ℕ → List ℕ → ℕ → ℕ → Offered
unfolding recolor
walked_on coloring edge_matrix a b = settled (recolor coloring edge_matrix a b) coloring edge_matrix a b

-- `try_add_edge` for two different splines a and b of a sound table
unfoldable pub try_add_edge : Table → ℕ → ℕ → Offered
unfolding row vertex_possible_colors first_possible_color walked_on
try_add_edge t a b =
    let n = length t.coloring in
    let coloring = t.coloring in
    let edge_matrix = enter_pair n t.edge_matrix a b 1 in
    let possible = vertex_possible_colors coloring (row n edge_matrix b) in
    elim (eqb (get_or coloring a 0) (get_or coloring b 0)) [
      | false ↦ outcome (kept 0) coloring edge_matrix
      | true ↦
          elim (eqb possible 0) [
            | false ↦ outcome (kept 0) (set coloring b (first_possible_color possible)) edge_matrix
            | true ↦ walked_on coloring edge_matrix a b
          ]
    ]

-- ---- the checks, in the order of SCOPE, Refusals: 4, 8, 10

-- whether a test passes at each number below n
unfoldable pub all_below : ℕ → (ℕ → Bool) → Bool
all_below zero test = true
all_below (suc n) test = all_below n test && test n

-- colours 0 to 2; entries 0 or 1, the same both ways round, and 0 of a spline with itself
unfoldable pub sound : Table → Bool
unfolding all_below
sound t =
    let n = length t.coloring in
    all_below n (λ i. leb (get_or t.coloring i 0) 2
    && all_below n (λ j. leb (entry n t.edge_matrix i j) 1 && eqb (entry n t.edge_matrix i j) (entry n t.edge_matrix j i))
    && eqb (entry n t.edge_matrix i i) 0)

unfoldable pub check_offer : Table → ℕ → ℕ → List Check
unfolding sound
check_offer t a b =
    let n = length t.coloring in
    unless 4 (leb n max_splines)
    ∷ unless 8 (eqb (length t.edge_matrix) (n * n))
    ∷ unless 10 (sound t && ltb a n && ltb b n && not (eqb a b))
    ∷ []

-- what an offer of a and b to two buffers does: the first refusal with the buffers as they came, or the rule
unfoldable pub offer : Table → ℕ → ℕ → Offered
unfolding in_order check_offer try_add_edge
offer t a b = in_order (check_offer t a b) (λ number. record { answer = refused number; table = t }) (try_add_edge t a b)

-- ---- what the checks of the code promise each other

-- no number above `most`
abbrev pub at_most : ℕ → List ℕ → Bool
at_most most values = all_below (length values) (λ k. leb (get_or values k 0) most)

-- the entries before the diagonal in the row of i are the same the other way round
abbrev pub mirrored : ℕ → List ℕ → ℕ → Bool
mirrored n edge_matrix i = all_below i (λ j. eqb (entry n edge_matrix i j) (entry n edge_matrix j i))

-- so they are in each row, and each spline's entry with itself is 0
abbrev pub symmetric : ℕ → List ℕ → Bool
symmetric n edge_matrix = all_below n (λ i. mirrored n edge_matrix i && eqb (entry n edge_matrix i i) 0)
