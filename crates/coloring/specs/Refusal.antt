-- The number of each refusal, by the table of SCOPE, Refusals.
use Rattle.std.specs.Prelude.{ℕ}
use Rattle.coloring.specs.declared.refusal.Refusal.{Refusal}
use Rattle.coloring.specs.declared.refusal.Refusal.TheVariants.{Truncated, UnknownMark, MisplacedMark, TooMany, UnknownKind, BadThreshold}
use Rattle.coloring.specs.declared.refusal.Refusal.TheVariants.{BadCoordinate, LengthMismatch, BadDistance, BadTable, ResultTooShort}

abbrev pub refusal_number : Refusal → ℕ
refusal_number Truncated = 1
refusal_number UnknownMark = 2
refusal_number MisplacedMark = 3
refusal_number TooMany = 4
refusal_number UnknownKind = 5
refusal_number BadThreshold = 6
refusal_number BadCoordinate = 7
refusal_number LengthMismatch = 8
refusal_number BadDistance = 9
refusal_number BadTable = 10
refusal_number ResultTooShort = 11
