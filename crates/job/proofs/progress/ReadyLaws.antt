-- An edge comes only where a contour is open.
use Prim.Native.Nat.{◌<◌}
use lib.ListN.{length}
use Rattle.job.specs.Records.{Record, header, balanced, contour, edge, distances}
use Rattle.job.specs.Job.{Job}

abbrev pub Ready : Job → Record → Type 0
Ready job (header h) = Unit
Ready job balanced = Unit
Ready job contour = Unit
Ready job (edge e) = 0 < length job.contours
Ready job (distances ds) = Unit
