-- The records of a job file up to its end or its first fault (SCOPE, Job file and Refusals).
use Rattle.std.specs.Prelude.{ℕ, zero, suc, ◌+◌, ◌*◌, Bool, true, false, not, cond, ◌&&◌, ◌||◌, List, [], ◌∷◌, ◌++◌, length, take, drop, get_or, leb, ltb}
use Rattle.std.specs.Prelude.{eqb, Float, Option, Some, None, Result, Ok, Err}
use Rattle.geometry.specs.EdgeSegment.{point_at, to_stored}
use Rattle.geometry.specs.declared.edge_segment.EdgeSegment.{EdgeSegment}
use Rattle.geometry.specs.declared.edge_segment.EdgeSegment.TheVariants as segment
use Rattle.coloring.specs.Refusal.{refusal_number}
use Rattle.coloring.specs.declared.refusal.Refusal.{Refusal}
use Rattle.coloring.specs.declared.refusal.Refusal.TheVariants.{UnknownKind}
use Rattle.coloring.specs.Lists.{all}
use Rattle.coloring.specs.Limits.{max_contours, max_edges, max_distances}
use Rattle.coloring.specs.declared.settings.Division.TheVariants as division
use Rattle.job.specs.declared.records.Strategy.{Strategy}
use Rattle.job.specs.declared.records.Strategy.TheVariants.{Simple, InkTrap, ByDistance}
use Rattle.job.specs.declared.records.Header as fields
use Rattle.job.specs.declared.records.Kind.{Kind}
use Rattle.job.specs.declared.records.Kind.TheVariants.{Line, Quadratic, Cubic}
use Rattle.job.specs.declared.records.Mark.{Mark}
use Rattle.job.specs.declared.records.Mark.TheVariants.{Header, Balanced, Contour, Edge, Distances, End}
use Rattle.job.specs.declared.records.Phase.{Phase}
use Rattle.job.specs.declared.records.Phase.TheVariants.{Start, Headed, Outside, Inside, Closing}
use Rattle.job.specs.declared.records.State.{State}
use Rattle.job.specs.declared.progress.Numbers.{Numbers}
use Rattle.job.specs.declared.records.Item.{Item}
use Rattle.job.specs.declared.records.Item.TheVariants as item
use Rattle.job.specs.Patterns.{number, little, words, floats, float_bytes, is_threshold, is_coordinate, is_distance}

-- ---- marks

-- JB, BL, CT, LN, QD, CB, DS, EN
abbrev pub letters : Mark → ℕ × ℕ
letters Header = (0x4A, 0x42)
letters Balanced = (0x42, 0x4C)
letters Contour = (0x43, 0x54)
letters (Edge Line) = (0x4C, 0x4E)
letters (Edge Quadratic) = (0x51, 0x44)
letters (Edge Cubic) = (0x43, 0x42)
letters Distances = (0x44, 0x53)
letters End = (0x45, 0x4E)

abbrev pub marks : List Mark
marks = Header ∷ Balanced ∷ Contour ∷ Edge Line ∷ Edge Quadratic ∷ Edge Cubic ∷ Distances ∷ End ∷ []

-- the mark of these that has the two letters
unfoldable pub mark_among : List Mark → ℕ → ℕ → Option Mark
mark_among [] a b = None
mark_among (m ∷ rest) a b = cond (eqb a (letters m).0 && eqb b (letters m).1) (Some m) (mark_among rest a b)

unfoldable pub mark_of : ℕ → ℕ → Option Mark
unfolding mark_among
mark_of a b = mark_among marks a b

-- 1 line, 2 quadratic, 3 cubic
abbrev pub kind_number : Kind → ℕ
kind_number Line = 1
kind_number Quadratic = 2
kind_number Cubic = 3

-- the control points of an edge
abbrev pub controls : Kind → ℕ
controls Line = 2
controls Quadratic = 3
controls Cubic = 4

-- strategy, seed, threshold
abbrev pub header_size : ℕ
header_size = 17

-- how many bytes follow the mark; of DS, the count's
abbrev pub body_size : Mark → ℕ
body_size Header = header_size
body_size Balanced = 0
body_size Contour = 0
body_size (Edge kind) = 16 * controls kind
body_size Distances = 2
body_size End = 0

-- ---- strategies

-- 1 simple, 2 ink trap, 3 by distance
abbrev pub strategy_number : Strategy → ℕ
strategy_number Simple = 1
strategy_number InkTrap = 2
strategy_number ByDistance = 3

abbrev pub known_strategy : ℕ → Bool
known_strategy n = leb 1 n && leb n 3

-- the strategy of a known number
unfoldable pub strategy_of : ℕ → Strategy
strategy_of n = cond (eqb n 1) Simple (cond (eqb n 2) InkTrap ByDistance)

-- the strategy of a number
abbrev pub strategy_numbered : ℕ → Result Strategy Refusal
unfolding strategy_of
strategy_numbered n = cond (known_strategy n) (Ok (strategy_of n)) (Err UnknownKind)

-- the strategy that asks for distances
abbrev pub by_distance : Strategy → Bool
by_distance ByDistance = true
by_distance _ = false

-- ---- what may stand where

abbrev pub no_header : fields.Header
no_header = record { strategy = Simple; seed = 0; threshold = 0 }

abbrev pub start : State
start = record { phase = Start; numbers = record { header = no_header; division = division.Source; contours = 0; edges = 0; distances = 0 } }

abbrev pub at_start : Phase → Bool
at_start Start = true
at_start _ = false

-- directly after JB
abbrev pub headed : Phase → Bool
headed Headed = true
headed _ = false

-- in a contour
abbrev pub inside : Phase → Bool
inside Inside = true
inside _ = false

-- among the contours: after JB, before DS
abbrev pub among : Phase → Bool
among Start = false
among Closing = false
among _ = true

-- after DS
abbrev pub closing : Phase → Bool
closing Closing = true
closing _ = false

abbrev pub allowed : Phase → Strategy → Mark → Bool
allowed phase strategy Header = at_start phase
allowed phase strategy Balanced = headed phase
allowed phase strategy Contour = among phase
allowed phase strategy (Edge kind) = inside phase
allowed phase strategy Distances = among phase && by_distance strategy
allowed phase strategy End = closing phase || among phase && not (by_distance strategy)

-- whether one more is within the maximum; distances are counted in their record
abbrev pub below_maximum : Numbers → Mark → Bool
below_maximum n Contour = ltb n.contours max_contours
below_maximum n (Edge kind) = ltb n.edges max_edges
below_maximum n _ = true

-- ---- one record

pub data Record : Type 0 where
  header : fields.Header → Record
  balanced : Record
  contour : Record
  edge : EdgeSegment → Record
  distances : List Float → Record

-- what the first record of some bytes is: a record, with the bytes after it; the end; or the number of its fault
pub data Step : Type 0 where
  next : Record → List ℕ → Step
  ends : Step
  fails : ℕ → Step

-- what follows where a test passes, else the refusal with its number
abbrev pub step_if : Bool → ℕ → Step → Step
step_if true number step = step
step_if false number step = fails number

-- the edge of its control points
abbrev pub edge_of : Kind → List Float → EdgeSegment
edge_of Line ps = segment.Line (point_at ps 0) (point_at ps 1)
edge_of Quadratic ps = segment.Quadratic (point_at ps 0) (point_at ps 1) (point_at ps 2)
edge_of Cubic ps = segment.Cubic (point_at ps 0) (point_at ps 1) (point_at ps 2) (point_at ps 3)

abbrev pub kind_of : EdgeSegment → Kind
kind_of (segment.Line p0 p1) = Line
kind_of (segment.Quadratic p0 p1 p2) = Quadratic
kind_of (segment.Cubic p0 p1 p2 p3) = Cubic

-- the fields of a record, in their order, and the bytes after them
unfoldable pub read_header : List ℕ → List ℕ → Step
unfolding number strategy_of
read_header body rest =
    let strategy = get_or body 0 0 in
    let seed = number (take 8 (drop 1 body)) in
    let threshold = number (take 8 (drop 9 body)) in
    step_if (known_strategy strategy) 5
    (step_if (is_threshold threshold) 6
    (next (header (record { strategy = strategy_of strategy; seed = seed; threshold = threshold })) rest))

unfoldable pub read_edge : Kind → List ℕ → List ℕ → Step
unfolding words floats
read_edge kind body rest =
    let coordinates = words (2 * controls kind) body in
    step_if (all is_coordinate coordinates) 7
    (next (edge (edge_of kind (floats coordinates))) rest)

unfoldable pub read_distances : List ℕ → List ℕ → Step
unfolding number words floats
read_distances body rest =
    let count = number body in
    let patterns = words count rest in
    step_if (leb count max_distances) 4
    (step_if (leb (8 * count) (length rest)) 1
    (step_if (all is_distance patterns) 9
    (next (distances (floats patterns)) (drop (8 * count) rest))))

-- any byte after EN is one too many
unfoldable pub read_end : List ℕ → Step
read_end [] = ends
read_end (b ∷ rest) = fails 3

unfoldable pub read_body : Mark → List ℕ → List ℕ → Step
unfolding read_header read_edge read_distances read_end
read_body Header body rest = read_header body rest
read_body Balanced body rest = next balanced rest
read_body Contour body rest = next contour rest
read_body (Edge kind) body rest = read_edge kind body rest
read_body Distances body rest = read_distances body rest
read_body End body rest = read_end rest

-- 2, 3, 4, 1 for the rest, then the fields
unfoldable pub read_marked : State → Option Mark → List ℕ → Step
unfolding read_body
read_marked s None bytes = fails 2
read_marked s (Some mark) bytes =
    step_if (allowed s.phase s.numbers.header.strategy mark) 3
    (step_if (below_maximum s.numbers mark) 4
    (step_if (leb (body_size mark) (length bytes)) 1
    (read_body mark (take (body_size mark) bytes) (drop (body_size mark) bytes))))

-- 1 for the mark first
unfoldable pub read_record : State → List ℕ → Step
unfolding mark_of read_marked
read_record s [] = fails 1
read_record s (a ∷ []) = fails 1
read_record s (a ∷ b ∷ bytes) = read_marked s (mark_of a b) bytes

-- ---- and back: a record as it stands in a file

abbrev pub record_mark : Record → Mark
record_mark (header h) = Header
record_mark balanced = Balanced
record_mark contour = Contour
record_mark (edge e) = Edge (kind_of e)
record_mark (distances ds) = Distances

-- x then y of each control point
abbrev pub coordinates : EdgeSegment → List Float
coordinates e = take (2 * controls (kind_of e)) (to_stored e).points

unfoldable pub fields_of : Record → List ℕ
unfolding little float_bytes to_stored
fields_of (header h) = strategy_number h.strategy ∷ (little 8 h.seed ++ little 8 h.threshold)
fields_of balanced = []
fields_of contour = []
fields_of (edge e) = float_bytes (coordinates e)
fields_of (distances ds) = little 2 (length ds) ++ float_bytes ds

abbrev pub marked : Mark → List ℕ → List ℕ
marked mark fields = (letters mark).0 ∷ (letters mark).1 ∷ fields

unfoldable pub bytes_of : Record → List ℕ
unfolding fields_of
bytes_of r = marked (record_mark r) (fields_of r)

-- ---- what follows a record

-- a record without its floats: of an edge its kind, of DS how many distances
abbrev pub item_of : Record → Item
item_of (header h) = item.Header h
item_of balanced = item.Balanced
item_of contour = item.Contour
item_of (edge e) = item.Edge (kind_of e)
item_of (distances ds) = item.Distances (length ds)

abbrev pub phase_after : Phase → Item → Phase
phase_after phase (item.Header h) = Headed
phase_after phase item.Balanced = Outside
phase_after phase item.Contour = Inside
phase_after phase (item.Edge kind) = phase
phase_after phase (item.Distances count) = Closing

-- the numbers with a record more
abbrev pub counted : Numbers → Item → Numbers
counted n (item.Header h) = record n { header = h }
counted n item.Balanced = record n { division = division.Balanced }
counted n item.Contour = record n { contours = n.contours + 1 }
counted n (item.Edge kind) = record n { edges = n.edges + 1 }
counted n (item.Distances count) = record n { distances = count }

abbrev pub after : State → Item → State
after s item = record { phase = phase_after s.phase item; numbers = counted s.numbers item }

-- ---- a file

-- the records of a file up to its end or the first fault
pub data Records : Type 0 where
  complete : Records
  fault : ℕ → Records
  ◌then◌ : Record → Records → Records

infixr 5 ◌then◌
-- a record takes two bytes or more, so a file has no more records than bytes
unfoldable pub records_within : ℕ → State → List ℕ → Records
unfolding read_record
records_within zero s bytes = fault 1
records_within (suc n) s bytes =
    elim (read_record s bytes) [ next r rest ↦ r then records_within n (after s (item_of r)) rest | ends ↦ complete | fails number ↦ fault number ]

unfoldable pub records_from : State → List ℕ → Records
unfolding records_within
records_from s bytes = records_within (length bytes) s bytes

-- ---- in the words of contracts: what the code finds at a record

abbrev pub record_size : Record → ℕ
record_size r = length (bytes_of r)

-- an item with the bytes that its record takes, the end, or the number of a fault
pub data Finding : Type 0 where
  finds : Item → ℕ → Finding
  finished : Finding
  faulty : ℕ → Finding

-- how many bytes the record of an item takes: the mark's two, the body's, and of DS 8 for each distance
abbrev pub item_size : Item → ℕ
item_size (item.Header h) = 2 + body_size Header
item_size item.Balanced = 2 + body_size Balanced
item_size item.Contour = 2 + body_size Contour
item_size (item.Edge kind) = 2 + body_size (Edge kind)
item_size (item.Distances count) = 2 + body_size Distances + 8 * count

-- what the code reads: an item or a refusal, and with the end
abbrev pub item_answer : Result Item Refusal → Finding
item_answer (Ok item) = finds item (item_size item)
item_answer (Err r) = faulty (refusal_number r)

abbrev pub found_answer : Result (Option Item) Refusal → Finding
found_answer (Ok (Some item)) = finds item (item_size item)
found_answer (Ok None) = finished
found_answer (Err r) = faulty (refusal_number r)

abbrev pub found_of : Step → Finding
found_of (next r rest) = finds (item_of r) (record_size r)
found_of ends = finished
found_of (fails number) = faulty number
