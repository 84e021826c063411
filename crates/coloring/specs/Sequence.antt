-- Two claims about a whole list of offers to a spline table: the rule for any table, which may start with clashes, and
-- the sequence rule for one that starts without (demand 3). The terms are those of SCOPE, Demands and Offers. `offer`
-- is the definition that the contract of `try_add_edge` names.
use Rattle.std.specs.Prelude.{◌≡◌, ◌⊎◌, ◌≢◌, ℕ, ◌+◌, ◌*◌, ◌<◌, Bool, true, false, not, List, [], ◌∷◌, map, length, get_or}
use Rattle.coloring.specs.Limits.{max_splines}
use Rattle.coloring.specs.SplineTable.{Table, OfferAnswer, kept, declined, refused, sound, offer}

-- one offer's two numbers, of any value
pub record Pair : Type 0 where
  pub a : ℕ
  pub b : ℕ

-- the answers to a list of offers, and the two buffers after the last
pub record Run : Type 0 where
  pub answers : List OfferAnswer
  pub table : Table

-- each offer is made to the buffers as the one before left them
unfoldable pub run : Table → List Pair → Run
run t [] = record { answers = []; table = t }
run t (p ∷ offers) =
    let o = offer t p.a p.b in
    let r = run o.table offers in
    record { answers = o.answer ∷ r.answers; table = r.table }

-- ---- pair, kept, clash

-- the entry of j in the row of i is there and not 0
abbrev pub HasEntry : Table → ℕ → ℕ → Type 0
HasEntry t i j = (i * length t.coloring + j < length t.edge_matrix) × (get_or t.edge_matrix (i * length t.coloring + j) 0 ≢ 0)

-- A pair is two different splines; it is kept where both its entries are there and not 0.
pub record KeptPair (t : Table) (i j : ℕ) : Type 0 where
  pub first : i < length t.coloring
  pub second : j < length t.coloring
  pub different : i ≢ j
  pub there : HasEntry t i j
  pub back : HasEntry t j i

-- a clash is a kept pair whose two colours are equal
pub record Clash (t : Table) (i j : ℕ) : Type 0 where
  pub kept_pair : KeptPair t i j
  pub same_color : get_or t.coloring i 0 ≡ get_or t.coloring j 0

-- a table without one
abbrev pub NoClash : Table → Type 0
NoClash t = (i j : ℕ) → KeptPair t i j → get_or t.coloring i 0 ≢ get_or t.coloring j 0

-- ---- what an answer says

abbrev pub is_kept : OfferAnswer → Bool
is_kept (kept counter) = true
is_kept (declined counter) = false
is_kept (refused number) = false

-- the offer names the pair, in either order
abbrev pub Names : Pair → ℕ → ℕ → Type 0
Names p i j = ((p.a ≡ i) × (p.b ≡ j)) ⊎ ((p.a ≡ j) × (p.b ≡ i))

-- some offer of the list is kept and names the pair
unfoldable pub KeptOffer : List Pair → List OfferAnswer → ℕ → ℕ → Type 0
KeptOffer [] answers i j = ⊥
KeptOffer (p ∷ offers) [] i j = ⊥
KeptOffer (p ∷ offers) (o ∷ answers) i j = ((is_kept o ≡ true) × Names p i j) ⊎ KeptOffer offers answers i j

-- ---- striking

-- what is left of a list where each element marked true is struck
unfoldable pub strike : {A : Type 0} → List Bool → List A → List A
strike [] xs = xs
strike (m ∷ marks) [] = []
strike (true ∷ marks) (x ∷ xs) = strike marks xs
strike (false ∷ marks) (x ∷ xs) = x ∷ strike marks xs

-- only declined and refused offers are struck
unfoldable pub MayStrike : List Bool → List OfferAnswer → Type 0
MayStrike [] answers = Unit {0}
MayStrike (m ∷ marks) [] = Unit {0}
MayStrike (m ∷ marks) (o ∷ answers) = (m ≡ true → is_kept o ≡ false) × MayStrike marks answers

-- the marks that strike every declined and refused offer
unfoldable pub all_others : List OfferAnswer → List Bool
all_others answers = map (λ o. not (is_kept o)) answers

-- ---- where offers may be struck

-- a table at fault in itself, which refuses every offer: by its splines, its entries, or what they hold
abbrev pub AtFault : Table → Type 0
AtFault t =
    (max_splines < length t.coloring) ⊎ ((length t.edge_matrix ≢ length t.coloring * length t.coloring) ⊎ (sound t ≡ false))

-- P holds of each offer and the buffers that it is made to, those of the run itself
unfoldable pub WhenOffered : (Table → Pair → Type 0) → Table → List Pair → Type 0
WhenOffered P t [] = Unit {0}
WhenOffered P t (p ∷ offers) = P t p × WhenOffered P (offer t p.a p.b).table offers

-- each offered pair that is kept when it is offered stays kept: no offer drops its pair
abbrev pub NoneDropped : Table → List Pair → Type 0
NoneDropped t offers = WhenOffered (λ s p. KeptPair s p.a p.b → KeptPair (offer s p.a p.b).table p.a p.b) t offers

-- no offered pair clashes when it is offered
abbrev pub NoneClashes : Table → List Pair → Type 0
NoneClashes t offers = WhenOffered (λ s p. ¬ Clash s p.a p.b) t offers

-- no offered pair is kept when it is offered
abbrev pub NoneKept : Table → List Pair → Type 0
NoneKept t offers = WhenOffered (λ s p. ¬ KeptPair s p.a p.b) t offers

-- ---- the rule for any table

-- whichever declined and refused offers are struck, the others get the same answers, and both buffers end equal
abbrev pub Strikable : Table → List Pair → Type 0
Strikable t offers =
    (marks : List Bool) → MayStrike marks (run t offers).answers
    → run t (strike marks offers) ≡ record { answers = strike marks (run t offers).answers; table = (run t offers).table }

pub record ClashRule (t : Table) (offers : List Pair) : Type 0 where
  -- 1. a clash after the list is a clash of the same two splines at first, which no kept offer names
  pub clash_only : (i j : ℕ) → Clash (run t offers).table i j → Clash t i j
  pub kept_apart : (i j : ℕ) → KeptOffer offers (run t offers).answers i j → ¬ Clash (run t offers).table i j
  -- 2. a pair that is kept at the end was kept at first or some kept offer names it; where no offer drops its pair, all
  -- of these are
  pub kept_only : (i j : ℕ) → KeptPair (run t offers).table i j → KeptPair t i j ⊎ KeptOffer offers (run t offers).answers i j
  pub kept_all : NoneDropped t offers → (i j : ℕ) → KeptPair t i j ⊎ KeptOffer offers (run t offers).answers i j → KeptPair (run t offers).table i j
  -- 3. offers may be struck where no offer drops its pair; so where the table is at fault, where no offered pair
  -- clashes when it is offered, and where none is kept then
  pub struck_no_drop : NoneDropped t offers → Strikable t offers
  pub struck_at_fault : AtFault t → Strikable t offers
  pub struck_no_clash : NoneClashes t offers → Strikable t offers
  pub struck_not_kept : NoneKept t offers → Strikable t offers

-- ---- the sequence rule

pub record SequenceRule (t : Table) (offers : List Pair) : Type 0 where
  -- 1. after the list there is no clash
  pub no_clash : NoClash (run t offers).table
  -- 2. a pair is kept at the end exactly if it was kept at first or some kept offer names it
  pub kept_only : (i j : ℕ) → KeptPair (run t offers).table i j → KeptPair t i j ⊎ KeptOffer offers (run t offers).answers i j
  pub kept_all : (i j : ℕ) → KeptPair t i j ⊎ KeptOffer offers (run t offers).answers i j → KeptPair (run t offers).table i j
  -- 3. whichever declined and refused offers are struck, the others get the same answers, and both buffers end equal
  pub struck : (marks : List Bool) → MayStrike marks (run t offers).answers
      → run t (strike marks offers) ≡ record { answers = strike marks (run t offers).answers; table = (run t offers).table }
  -- 4. with all of them struck, each remaining answer is kept
  pub all_kept : map is_kept (run t (strike (all_others (run t offers).answers) offers)).answers
      ≡ map (λ p. true) (strike (all_others (run t offers).answers) offers)
