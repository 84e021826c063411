-- The order of the pairs: laws of distances, of sorting and of pairs; and that it is the only one.
pub mod DistanceLaws
pub mod InsertLaws
pub mod EachLaws
pub mod PairLaws
pub mod MergeLaws
pub mod OnlyOrder
pub mod SortedLaws
