-- The four buffers that a job is read into, and how each record changes them.
use Rattle.std.specs.Prelude.{ℕ, suc, ◌+◌, ◌-◌, ◌*◌, ◌<◌, ◌≤◌, ◌≡◌, Bool, ◌&&◌, leb, length, take, drop, get_or, set, Float}
use mathlib.Core.List.{List, map, ◌++◌, flatten}
use Rattle.geometry.specs.declared.edge_segment.EdgeSegment.{EdgeSegment}
use Rattle.geometry.specs.EdgeSegment.{to_stored}
use Rattle.coloring.specs.Lists.{over}
use Rattle.coloring.specs.Outline.{Outline, kind_stored, places_stored}
use Rattle.job.specs.declared.records.Kind.{Kind}
use Rattle.job.specs.declared.records.Mark.TheVariants as mark
use Rattle.job.specs.declared.records.Item.{Item}
use Rattle.job.specs.declared.records.Item.TheVariants.{Header, Balanced, Contour, Edge, Distances}
use Rattle.job.specs.Patterns.{words, floats}
use Rattle.job.specs.declared.buffers.JobBuffers.{JobBuffers}
use Rattle.job.specs.Records.{kind_number, controls, body_size, edge_of}
use Rattle.job.specs.declared.progress.Numbers.{Numbers}
use Rattle.job.specs.Job.{Job}

-- contour lengths, the kind of each edge, eight point places an edge (SCOPE, Buffers), and the distances
pub record Buffers : Type 0 where
  pub lengths : List ℕ
  pub kinds : List ℕ
  pub points : List Float
  pub distances : List Float

abbrev pub kinds_stored : List EdgeSegment → List ℕ
kinds_stored edges = map kind_stored edges

-- unused places are +0
abbrev pub points_stored : List EdgeSegment → List Float
points_stored edges = flatten (map places_stored edges)

-- a job as it is stored
unfoldable pub stored_job : Job → Buffers
stored_job job = record {
  lengths = map (λ (contour : List EdgeSegment). length contour) job.contours;
  kinds = kinds_stored (flatten job.contours);
  points = points_stored (flatten job.contours);
  distances = job.distances;
}

-- each result written over what stood there
unfoldable pub over_each : Buffers → Buffers → Buffers
over_each written old = record {
  lengths = over written.lengths old.lengths;
  kinds = over written.kinds old.kinds;
  points = over written.points old.points;
  distances = over written.distances old.distances;
}

-- whether a job has room in buffers of these lengths, and in buffers
unfoldable pub room_for : Numbers → ℕ → ℕ → ℕ → ℕ → Bool
room_for n lengths kinds points distances = leb n.contours lengths && leb n.edges kinds && leb (8 * n.edges) points && leb n.distances distances

abbrev pub has_room : Numbers → Buffers → Bool
has_room n old = room_for n (length old.lengths) (length old.kinds) (length old.points) (length old.distances)

-- ---- in the words of contracts

abbrev pub buffers : List ℕ → List ℕ → List Float → List Float → Buffers
buffers lengths kinds points distances = record { lengths = lengths; kinds = kinds; points = points; distances = distances }

-- what the buffers of a job hold
abbrev pub buffers_in : JobBuffers → Buffers
buffers_in b = buffers b.lengths.now b.kinds.now b.points.now b.distances.now

-- the parts of buffers that a job with these numbers takes, and the outline in buffers
abbrev pub part_of : Numbers → Buffers → Buffers
part_of n b = buffers (take n.contours b.lengths) (take n.edges b.kinds) (take (8 * n.edges) b.points) (take n.distances b.distances)

abbrev pub outline_of : Buffers → Outline
outline_of b = record { lengths = b.lengths; kinds = b.kinds; points = b.points }

-- the four references lead where they led, to as many places
pub record SameJobBuffers (old new : JobBuffers) : Type 0 where
  pub lengths_same : new.lengths.ghost_name ≡ old.lengths.ghost_name
  pub kinds_same : new.kinds.ghost_name ≡ old.kinds.ghost_name
  pub points_same : new.points.ghost_name ≡ old.points.ghost_name
  pub distances_same : new.distances.ghost_name ≡ old.distances.ghost_name
  pub lengths_long : length new.lengths.now ≡ length old.lengths.now
  pub kinds_long : length new.kinds.now ≡ length old.kinds.now
  pub points_long : length new.points.now ≡ length old.points.now
  pub distances_long : length new.distances.now ≡ length old.distances.now

-- the eight places of an edge of a kind, from its bytes
unfoldable pub points_read : Kind → List ℕ → List Float
points_read kind body = (to_stored (edge_of kind (floats (words (2 * controls kind) body)))).points

-- the buffers after a record that was read with so much before it from some bytes
unfoldable pub written : Item → Numbers → List ℕ → Buffers → Buffers
unfolding points_read
written (Header h) n bytes b = b
written Balanced n bytes b = b
written Contour n bytes b = record b { lengths = set b.lengths n.contours 0 }
written (Edge kind) n bytes b = record b {
  lengths = set b.lengths (n.contours - 1) (get_or b.lengths (n.contours - 1) 0 + 1);
  kinds = set b.kinds n.edges (kind_number kind);
  points = take (8 * n.edges) b.points ++ (points_read kind (take (body_size (mark.Edge kind)) (drop 2 bytes)) ++ drop 8 (drop (8 * n.edges) b.points));
}
written (Distances count) n bytes b = record b { distances = over (floats (words count (drop 4 bytes))) b.distances }

-- there is room for a record
abbrev pub RecordFits : Item → Numbers → List ℕ → Buffers → Type 0
RecordFits (Header h) n bytes b = Unit
RecordFits Balanced n bytes b = Unit
RecordFits Contour n bytes b = n.contours < length b.lengths
RecordFits (Edge kind) n bytes b =
    (0 < n.contours) × (n.contours ≤ length b.lengths) × (get_or b.lengths (n.contours - 1) 0 < 65535)
    × (n.edges < length b.kinds) × (8 * suc n.edges ≤ length b.points) × (2 + body_size (mark.Edge kind) ≤ length bytes)
RecordFits (Distances count) n bytes b = (count ≤ length b.distances) × (4 + 8 * count ≤ length bytes)
