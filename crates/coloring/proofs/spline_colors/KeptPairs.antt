-- The rules for lists of offers, applied to those of by-distance colouring. Two splines that clash at the end clashed
-- before the first offer, as a zero pair whose two starting colours are equal: `clashes_from_start`. Where no zero pair
-- starts with a clash, no pair that is kept at the end has one colour on both sides: `kept_pairs_differ`.
use Prim.Native.Nat.{ℕ}
use mathlib.Core.List.{List}
use lib.Ieee.{Float}
use Rattle.coloring.specs.Sequence.{Clash, NoClash, ClashRule, SequenceRule}
use Rattle.coloring.specs.SplineColors.{offer_splines}
use Rattle.coloring.proofs.spline_table.SequenceRule.{clash_rule, sequence_rule}

module _ (n : ℕ) (distances : List Float) (seed : ℕ) where
  pub splines_clashes : ClashRule (offer_splines n distances seed).start (offer_splines n distances seed).pairs
  splines_clashes = clash_rule (offer_splines n distances seed).start (offer_splines n distances seed).pairs

  pub clashes_from_start : (i j : ℕ) → Clash (offer_splines n distances seed).ends.table i j → Clash (offer_splines n distances seed).start i j
  unfolding offer_splines
  clashes_from_start = splines_clashes.clash_only

  module _ (clear : NoClash (offer_splines n distances seed).start) where
    pub splines_sequence : SequenceRule (offer_splines n distances seed).start (offer_splines n distances seed).pairs
    splines_sequence = sequence_rule (offer_splines n distances seed).start (offer_splines n distances seed).pairs clear

    pub kept_pairs_differ : NoClash (offer_splines n distances seed).ends.table
    unfolding offer_splines
    kept_pairs_differ = splines_sequence.no_clash
