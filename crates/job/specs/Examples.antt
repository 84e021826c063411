-- Examples computed from the definitions: files, among them those of SCOPE, Examples, what they read as and what is
-- printed, and the order of the numbers.
use Rattle.std.specs.Prelude.{ℕ, ◌≡◌, refl, true, false, List, [], ◌∷◌, ◌++◌, take, drop, replicate, Float}
use Rattle.std.specs.Float.Ieee as Ieee
use Rattle.std.specs.Float.Ieee.{of_bits, to_bits}
use Rattle.math.specs.Scalar.{f0, f1}
use Rattle.math.specs.Sqrt.{sqrt_of}
use Rattle.math.specs.Vector2.{new, add, sub, mul_scalar, div_scalar, dot, cross, squared_length, length_of, is_nonzero, normalize}
use Rattle.geometry.specs.EdgeSegment.{vmix, quadratic_tangent, quadratic_direction, direction, to_stored}
use Rattle.geometry.specs.declared.edge_segment.EdgeSegment.TheVariants.{Line, Quadratic}
use Rattle.coloring.specs.declared.settings.Division.{Division}
use Rattle.coloring.specs.declared.settings.Division.TheVariants.{Source, Balanced}
use Rattle.coloring.specs.Corners.{find_corners, corner_count, first_corner}
use Rattle.coloring.specs.Outline.{Result, result, outcome}
use Rattle.coloring.specs.Answers.{gives, refusal}
use Rattle.coloring.specs.Fill.{fill_outcome}
use Rattle.job.specs.declared.records.Strategy.{Strategy}
use Rattle.job.specs.declared.records.Strategy.TheVariants.{Simple, InkTrap, ByDistance}
use Rattle.job.specs.declared.records.Header.{Header}
use Rattle.job.specs.Job.{Job, read_job, file_of}
use Rattle.job.specs.Part.{contour_part}
use Rattle.job.specs.Color.{edge_colors, color_file, check_file, accept_job, accepted}
use Rattle.coloring.specs.PairOrder.{valid_distance}
use Rattle.coloring.specs.SplineColors.{offer_splines}
use Rattle.coloring.specs.SplineTable.{offer}
use Rattle.job.specs.Listing.{decimal, word_line, listing, refusal_line, file_text, list_file}

-- ---- files in bytes

-- eight bytes of 0, of 1, of 0.125 and of a NaN
abbrev zeros : List ℕ
zeros = 0 ∷ 0 ∷ 0 ∷ 0 ∷ 0 ∷ 0 ∷ 0 ∷ 0 ∷ []

abbrev one : List ℕ
one = 0 ∷ 0 ∷ 0 ∷ 0 ∷ 0 ∷ 0 ∷ 0xF0 ∷ 0x3F ∷ []

abbrev eighth : List ℕ
eighth = 0 ∷ 0 ∷ 0 ∷ 0 ∷ 0 ∷ 0 ∷ 0xC0 ∷ 0x3F ∷ []

abbrev no_number : List ℕ
no_number = 0 ∷ 0 ∷ 0 ∷ 0 ∷ 0 ∷ 0 ∷ 0xF8 ∷ 0x7F ∷ []

-- the marks before what follows them
abbrev JB : List ℕ → List ℕ
JB rest = 0x4A ∷ 0x42 ∷ rest

abbrev BL : List ℕ → List ℕ
BL rest = 0x42 ∷ 0x4C ∷ rest

abbrev CT : List ℕ → List ℕ
CT rest = 0x43 ∷ 0x54 ∷ rest

abbrev LN : List ℕ → List ℕ
LN rest = 0x4C ∷ 0x4E ∷ rest

abbrev DS : List ℕ → List ℕ
DS rest = 0x44 ∷ 0x53 ∷ rest

abbrev EN : List ℕ → List ℕ
EN rest = 0x45 ∷ 0x4E ∷ rest

-- JB with a strategy, seed 0 and threshold 0.125
abbrev opening : ℕ → List ℕ → List ℕ
opening strategy rest = JB (strategy ∷ zeros ++ eighth ++ rest)

-- LN from (x0, y0) to (x1, y1)
abbrev line_record : List ℕ → List ℕ → List ℕ → List ℕ → List ℕ → List ℕ
line_record x0 y0 x1 y1 rest = LN (x0 ++ y0 ++ x1 ++ y1 ++ rest)

-- ---- what they read as

-- the square (0,0) (1,0) (1,1) (0,1) of lines, strategy 1, seed 0, threshold 0.125
abbrev square_contour : List ℕ → List ℕ
square_contour rest = CT (line_record zeros zeros one zeros
    (line_record one zeros one one (line_record one one zeros one (line_record zeros one zeros zeros rest))))

abbrev pub square_file : List ℕ
square_file = opening 1 (square_contour (EN []))

abbrev header_of : Strategy → Header
header_of by = record { strategy = by; seed = 0; threshold = 0x3FC0_0000_0000_0000 }

abbrev pub square_job : Job
square_job = record {
  header = header_of Simple;
  division = Source;
  contours = (Line (new f0 f0) (new f1 f0) ∷ Line (new f1 f0) (new f1 f1) ∷ Line (new f1 f1) (new f0 f1) ∷ Line (new f0 f1) (new f0 f0) ∷ []) ∷ [];
  distances = [];
}

pub square_read : read_job square_file ≡ gives square_job
unfolding read_job of_bits
square_read = refl

-- a job without contours
pub no_contours : read_job (opening 1 (EN [])) ≡ gives (record { header = header_of Simple; division = Source; contours = []; distances = [] })
unfolding read_job of_bits
no_contours = refl

-- the same by distance: DS stands there with the count 0
pub no_distances : read_job (opening 3 (DS (0 ∷ 0 ∷ EN []))) ≡ gives
    (record { header = header_of ByDistance; division = Source; contours = []; distances = [] })
unfolding read_job of_bits
no_distances = refl

-- two contours, the first empty; an edge goes to the last
pub empty_contour : read_job (opening 2 (CT (CT (line_record zeros zeros one one (EN []))))) ≡ gives
    (record { header = header_of InkTrap; division = Source; contours = [] ∷ (Line (new f0 f0) (new f1 f1) ∷ []) ∷ []; distances = [] })
unfolding read_job of_bits
empty_contour = refl

-- 0 bytes; a file that ends before EN
pub no_bytes : read_job [] ≡ refusal 1
unfolding read_job
no_bytes = refl

pub no_end : read_job (opening 1 (CT [])) ≡ refusal 1
unfolding read_job of_bits
no_end = refl

-- ---- the order of the numbers: each file has both faults of its name, and is refused with the first

-- the earliest record with a fault decides
pub threshold_before_next_mark : read_job (JB (1 ∷ zeros ++ no_number ++ 0x3F ∷ 0x3F ∷ [])) ≡ refusal 6
unfolding read_job
threshold_before_next_mark = refl

pub cut_mark_before_unknown : read_job (0x3F ∷ []) ≡ refusal 1
unfolding read_job
cut_mark_before_unknown = refl

pub unknown_before_misplaced : read_job (0x3F ∷ 0x3F ∷ []) ≡ refusal 2
unfolding read_job
unknown_before_misplaced = refl

-- the same eight times, and 64 contours
abbrev eightfold : (List ℕ → List ℕ) → List ℕ → List ℕ
eightfold f rest = f (f (f (f (f (f (f (f rest)))))))

abbrev contours64 : List ℕ → List ℕ
contours64 rest = eightfold (eightfold CT) rest

-- a contour more, after DS
pub misplaced_before_too_many : read_job (opening 3 (contours64 (DS (0 ∷ 0 ∷ CT [])))) ≡ refusal 3
unfolding read_job
misplaced_before_too_many = refl

pub too_many_contours : read_job (opening 1 (contours64 (CT []))) ≡ refusal 4
unfolding read_job
too_many_contours = refl

-- 256 edges, and one more that is cut
abbrev edges64 : List ℕ → List ℕ
edges64 rest = eightfold (eightfold (line_record zeros zeros zeros zeros)) rest

abbrev edges256 : List ℕ → List ℕ
edges256 rest = edges64 (edges64 (edges64 (edges64 rest)))

pub too_many_edges_before_cut : read_job (opening 1 (CT (edges256 (LN [])))) ≡ refusal 4
unfolding read_job
too_many_edges_before_cut = refl

-- LN before JB, and JB again, each cut
pub misplaced_before_cut : (read_job (LN []) ≡ refusal 3) × (read_job (opening 1 (JB [])) ≡ refusal 3)
unfolding read_job
misplaced_before_cut = (refl, refl)

pub cut_before_strategy : read_job (JB (0 ∷ [])) ≡ refusal 1
unfolding read_job
cut_before_strategy = refl

pub strategy_before_threshold : read_job (JB (4 ∷ zeros ++ no_number)) ≡ refusal 5
unfolding read_job
strategy_before_threshold = refl

pub cut_before_coordinate : read_job (opening 1 (CT (LN (no_number ++ zeros)))) ≡ refusal 1
unfolding read_job
cut_before_coordinate = refl

pub coordinate : read_job (opening 1 (CT (line_record zeros zeros no_number zeros []))) ≡ refusal 7
unfolding read_job
coordinate = refl

-- ---- BL

-- the square's file and job with balanced teardrops
abbrev balanced_file : List ℕ
balanced_file = opening 1 (BL (square_contour (EN [])))

abbrev balanced_job : Job
balanced_job = record { header = square_job.header; division = Balanced; contours = square_job.contours; distances = square_job.distances }

-- refutes one that passes over BL
pub balanced_read : read_job balanced_file ≡ gives balanced_job
unfolding read_job of_bits
balanced_read = refl

-- refutes one that knows BL in jobs without distances only
pub balanced_by_distance :
    read_job (opening 3 (BL (DS (0 ∷ 0 ∷ EN [])))) ≡ gives (record { header = header_of ByDistance; division = Balanced; contours = []; distances = [] })
unfolding read_job of_bits
balanced_by_distance = refl

-- a second time, before JB, in a contour, after an edge, after DS: refutes one that takes BL anywhere
pub balanced_misplaced :
    (read_job (opening 1 (BL (BL (EN [])))) ≡ refusal 3)
    × (read_job (BL (opening 1 (EN []))) ≡ refusal 3)
    × (read_job (opening 1 (CT (BL (EN [])))) ≡ refusal 3)
    × (read_job (opening 1 (CT (line_record zeros zeros one one (BL (EN []))))) ≡ refusal 3)
    × (read_job (opening 3 (DS (0 ∷ 0 ∷ BL (EN [])))) ≡ refusal 3)
unfolding read_job of_bits
balanced_misplaced = (refl, refl, refl, refl, refl)

-- BX, and a file that ends after the B: refutes one that looks at the first letter alone
pub nearly_balanced : (read_job (opening 1 (0x42 ∷ 0x58 ∷ EN [])) ≡ refusal 2) × (read_job (opening 1 (0x42 ∷ [])) ≡ refusal 1)
unfolding read_job of_bits
nearly_balanced = (refl, refl)

-- ---- DS

pub misplaced_before_count : read_job (opening 1 (DS [])) ≡ refusal 3
unfolding read_job
misplaced_before_count = refl

pub count_cut_before_too_many : read_job (opening 3 (DS (0xFF ∷ []))) ≡ refusal 1
unfolding read_job
count_cut_before_too_many = refl

-- 2,017 and no distances
pub too_many_before_distances_cut : read_job (opening 3 (DS (0xE1 ∷ 0x07 ∷ []))) ≡ refusal 4
unfolding read_job
too_many_before_distances_cut = refl

-- the first of two distances is no number, the second is cut
pub distances_cut_before_bad : read_job (opening 3 (DS (2 ∷ 0 ∷ no_number))) ≡ refusal 1
unfolding read_job
distances_cut_before_bad = refl

pub bad_distance : read_job (opening 3 (DS (1 ∷ 0 ∷ no_number))) ≡ refusal 9
unfolding read_job
bad_distance = refl

-- ---- EN

pub end_while_distances_due : read_job (opening 3 (EN [])) ≡ refusal 3
unfolding read_job
end_while_distances_due = refl

pub byte_after_end : read_job (opening 1 (EN (0 ∷ []))) ≡ refusal 3
unfolding read_job
byte_after_end = refl

-- ---- and back

pub square_again : file_of square_job ≡ square_file
unfolding file_of to_bits of_bits
square_again = refl

-- BL stands at byte 19: refutes a writer that drops it, or puts it before EN
pub balanced_again : (file_of balanced_job ≡ balanced_file) × (take 2 (drop 19 (file_of balanced_job)) ≡ BL [])
unfolding file_of to_bits of_bits
balanced_again = (refl, refl)

-- ---- the part of one contour

pub square_part : contour_part square_file 0 ≡ square_contour []
unfolding contour_part of_bits
square_part = refl

-- refutes one that counts from JB on without BL
pub balanced-part : contour_part balanced_file 0 ≡ square_contour []
unfolding contour_part of_bits
balanced-part = refl

-- up to the next CT, up to EN and up to DS
abbrev two_contours : List ℕ
two_contours = opening 2 (CT (line_record zeros zeros one one (CT (EN []))))

pub next-part : (contour_part two_contours 0 ≡ CT (line_record zeros zeros one one [])) × (contour_part two_contours 1 ≡ CT [])
unfolding contour_part of_bits
next-part = (refl, refl)

pub last-part : contour_part (opening 3 (CT (DS (0 ∷ 0 ∷ EN [])))) 0 ≡ CT []
unfolding contour_part of_bits corner_count
last-part = refl

-- too large a number; a refused file
pub no_part : (contour_part square_file 1 ≡ []) × (contour_part (opening 1 (CT [])) 0 ≡ [])
unfolding contour_part of_bits
no_part = (refl, refl)

-- ---- after reading: 8, 11

-- buffers without a place
abbrev no_places : Result
no_places = result [] [] [] []

-- the square by distance, without a distance and without a place for it
abbrev square_alone : List ℕ
square_alone = opening 3 (square_contour (DS (0 ∷ 0 ∷ EN [])))

pub miscounted_before_short : (color_file square_alone no_places ≡ outcome (refusal 8) no_places) × (accepted square_alone ≡ false)
unfolding color_file accept_job of_bits find_corners corner_count first_corner direction sub dot cross div_scalar squared_length length_of normalize sqrt_of
    Ieee.add Ieee.sub Ieee.mul Ieee.div Ieee.ne Ieee.le Ieee.lt
miscounted_before_short = (refl, refl)

-- 66 splines: a line forth and back 33 times, each joint a corner; and no distance
abbrev forth_and_back : List ℕ → List ℕ
forth_and_back rest = line_record zeros zeros one zeros (line_record one zeros zeros zeros rest)

abbrev many_splines : List ℕ
many_splines = opening 3 (CT (forth_and_back (eightfold forth_and_back
    (eightfold forth_and_back (eightfold forth_and_back (eightfold forth_and_back (DS (0 ∷ 0 ∷ EN []))))))))

-- and a byte after EN
pub reading_before_splines : accept_job (many_splines ++ (0 ∷ [])) ≡ refusal 3
unfolding accept_job of_bits
reading_before_splines = refl

pub splines_before_miscounted : accept_job many_splines ≡ refusal 4
unfolding accept_job of_bits find_corners corner_count first_corner direction sub dot cross div_scalar squared_length length_of normalize sqrt_of Ieee.add
    Ieee.sub
    Ieee.mul Ieee.div Ieee.ne Ieee.le Ieee.lt
splines_before_miscounted = refl

-- 11 is no fault of the file
pub short : (color_file square_file no_places ≡ outcome (refusal 11) no_places) × (accepted square_file ≡ true)
unfolding color_file accept_job of_bits
short = (refl, refl)

pub square_checked : check_file square_file ≡ gives (record { contours = 1; edges = 4; splines = 4; stand_ins = 0 })
unfolding check_file of_bits find_corners corner_count first_corner direction sub dot cross div_scalar squared_length length_of normalize sqrt_of
    Ieee.add Ieee.sub Ieee.mul Ieee.div Ieee.ne Ieee.le Ieee.lt
square_checked = refl

-- ---- the colours of a teardrop

-- 46 times the line (0, 0) to (1, 0), and a quadratic that ends straight up: one corner, at the first edge
abbrev drop_job : Strategy → Division → List Float → Job
drop_job by division distances = record {
  header = header_of by;
  division = division;
  contours = (replicate 46 (Line (new f0 f0) (new f1 f0)) ++ (Quadratic (new f0 f0) (new f1 f0) (new f1 f1) ∷ [])) ∷ [];
  distances = distances;
}

-- 15 edges of a, then so many White ones and so many of b
abbrev in_runs : ℕ → ℕ → ℕ → ℕ → List (List ℕ)
in_runs a middle b last = (replicate 15 a ++ (replicate middle 7 ++ replicate last b)) ∷ []

-- refutes one that leaves the division aside, in every strategy or in one of them
pub drop-colored :
    (edge_colors (drop_job Simple Source []) ≡ in_runs 5 16 3 16)
    × (edge_colors (drop_job Simple Balanced []) ≡ in_runs 5 17 3 15)
    × (edge_colors (drop_job InkTrap Source []) ≡ in_runs 5 16 3 16)
    × (edge_colors (drop_job InkTrap Balanced []) ≡ in_runs 5 17 3 15)
    × (edge_colors (drop_job ByDistance Source (f0 ∷ [])) ≡ in_runs 3 16 6 16)
    × (edge_colors (drop_job ByDistance Balanced (f0 ∷ [])) ≡ in_runs 3 17 6 15)
unfolding edge_colors of_bits find_corners corner_count first_corner offer_splines offer valid_distance vmix quadratic_tangent quadratic_direction direction
    add sub
    mul_scalar div_scalar is_nonzero dot cross squared_length length_of normalize sqrt_of Ieee.add Ieee.sub Ieee.mul Ieee.div Ieee.neg Ieee.ne Ieee.le Ieee.lt
    Ieee.eq
drop-colored = (refl, refl, refl, refl, refl, refl)

-- ---- the text of an answer

abbrev square_text : List ℕ
square_text =
    0x30 ∷ 0x20 ∷ 0x30 ∷ 0x20 ∷ 0x4C ∷ 0x20 ∷ 0x35 ∷ 0x0A
    ∷ 0x30 ∷ 0x20 ∷ 0x31 ∷ 0x20 ∷ 0x4C ∷ 0x20 ∷ 0x33 ∷ 0x0A
    ∷ 0x30 ∷ 0x20 ∷ 0x32 ∷ 0x20 ∷ 0x4C ∷ 0x20 ∷ 0x36 ∷ 0x0A
    ∷ 0x30 ∷ 0x20 ∷ 0x33 ∷ 0x20 ∷ 0x4C ∷ 0x20 ∷ 0x33 ∷ 0x0A
    ∷ 0x65 ∷ 0x64 ∷ 0x67 ∷ 0x65 ∷ 0x73 ∷ 0x20 ∷ 0x34 ∷ 0x0A
    ∷ 0x73 ∷ 0x74 ∷ 0x61 ∷ 0x6E ∷ 0x64 ∷ 0x69 ∷ 0x6E ∷ 0x73 ∷ 0x20 ∷ 0x30 ∷ 0x0A ∷ []

-- from bytes to bytes: the square's file is printed as docs/FORMAT.md has it
pub square_printed : file_text square_file ≡ square_text
unfolding file_text of_bits to_stored find_corners corner_count first_corner direction sub dot cross div_scalar squared_length length_of normalize sqrt_of
    Ieee.add
    Ieee.sub Ieee.mul Ieee.div Ieee.ne Ieee.le Ieee.lt
square_printed = refl

-- a job without contours and with strategy 1
pub no_contours_printed : file_text (opening 1 (EN []))
    ≡ (0x65 ∷ 0x64 ∷ 0x67 ∷ 0x65 ∷ 0x73 ∷ 0x20 ∷ 0x30 ∷ 0x0A
    ∷ 0x73 ∷ 0x74 ∷ 0x61 ∷ 0x6E ∷ 0x64 ∷ 0x69 ∷ 0x6E ∷ 0x73 ∷ 0x20 ∷ 0x30 ∷ 0x0A ∷ [])
unfolding file_text of_bits
no_contours_printed = refl

-- a line from (0, 0) to (0, 0), by every strategy
abbrev dot_file : ℕ → List ℕ → List ℕ
dot_file strategy rest = opening strategy (CT (line_record zeros zeros zeros zeros rest))

abbrev dot_text : ℕ → List ℕ
dot_text color =
    0x30 ∷ 0x20 ∷ 0x30 ∷ 0x20 ∷ 0x4C ∷ 0x20 ∷ color ∷ 0x0A
    ∷ 0x65 ∷ 0x64 ∷ 0x67 ∷ 0x65 ∷ 0x73 ∷ 0x20 ∷ 0x31 ∷ 0x0A
    ∷ 0x73 ∷ 0x74 ∷ 0x61 ∷ 0x6E ∷ 0x64 ∷ 0x69 ∷ 0x6E ∷ 0x73 ∷ 0x20 ∷ 0x32 ∷ 0x0A ∷ []

-- refutes one that prints 0 always, or 1 for a line's one direction
pub dot_printed :
    (file_text (dot_file 1 (EN [])) ≡ dot_text 0x35)
    × (file_text (dot_file 2 (EN [])) ≡ dot_text 0x35)
    × (file_text (dot_file 3 (DS (0 ∷ 0 ∷ EN []))) ≡ dot_text 0x33)
unfolding file_text of_bits to_stored find_corners corner_count first_corner offer_splines valid_distance direction sub dot cross div_scalar squared_length
    length_of
    normalize sqrt_of Ieee.add Ieee.sub Ieee.mul Ieee.div Ieee.ne Ieee.le Ieee.lt
dot_printed = (refl, refl, refl)

-- three contours, the second empty: its number is passed over, and places begin anew
pub contours_printed :
    listing ((1 ∷ []) ∷ [] ∷ (2 ∷ 3 ∷ []) ∷ []) ((5 ∷ []) ∷ [] ∷ (3 ∷ 6 ∷ []) ∷ []) 6
    ≡ (0x30 ∷ 0x20 ∷ 0x30 ∷ 0x20 ∷ 0x4C ∷ 0x20 ∷ 0x35 ∷ 0x0A
    ∷ 0x32 ∷ 0x20 ∷ 0x30 ∷ 0x20 ∷ 0x51 ∷ 0x20 ∷ 0x33 ∷ 0x0A
    ∷ 0x32 ∷ 0x20 ∷ 0x31 ∷ 0x20 ∷ 0x43 ∷ 0x20 ∷ 0x36 ∷ 0x0A
    ∷ 0x65 ∷ 0x64 ∷ 0x67 ∷ 0x65 ∷ 0x73 ∷ 0x20 ∷ 0x33 ∷ 0x0A
    ∷ 0x73 ∷ 0x74 ∷ 0x61 ∷ 0x6E ∷ 0x64 ∷ 0x69 ∷ 0x6E ∷ 0x73 ∷ 0x20 ∷ 0x36 ∷ 0x0A ∷ [])
unfolding listing
contours_printed = refl

-- 0 bytes
pub no_bytes_printed : file_text [] ≡ (0x72 ∷ 0x65 ∷ 0x66 ∷ 0x75 ∷ 0x73 ∷ 0x65 ∷ 0x64 ∷ 0x20 ∷ 0x31 ∷ 0x0A ∷ [])
unfolding file_text
no_bytes_printed = refl

-- a place beyond the text keeps its byte; one place too few, and all do
pub listed : list_file [] (1 ∷ 2 ∷ 3 ∷ 4 ∷ 5 ∷ 6 ∷ 7 ∷ 8 ∷ 9 ∷ 10 ∷ 11 ∷ []) ≡ fill_outcome (gives 10)
    (0x72 ∷ 0x65 ∷ 0x66 ∷ 0x75 ∷ 0x73 ∷ 0x65 ∷ 0x64 ∷ 0x20 ∷ 0x31 ∷ 0x0A ∷ 11 ∷ [])
unfolding list_file
listed = refl

pub not_listed : list_file [] (1 ∷ 2 ∷ 3 ∷ 4 ∷ 5 ∷ 6 ∷ 7 ∷ 8 ∷ 9 ∷ []) ≡ fill_outcome (refusal 11) (1 ∷ 2 ∷ 3 ∷ 4 ∷ 5 ∷ 6 ∷ 7 ∷ 8 ∷ 9 ∷ [])
unfolding list_file
not_listed = refl

-- a number of two digits and one of three
pub decimals : (decimal 63 ≡ (0x36 ∷ 0x33 ∷ [])) × (decimal 508 ≡ (0x35 ∷ 0x30 ∷ 0x38 ∷ []))
unfolding decimal
decimals = (refl, refl)

pub refused_11 : refusal_line 11 ≡ (0x72 ∷ 0x65 ∷ 0x66 ∷ 0x75 ∷ 0x73 ∷ 0x65 ∷ 0x64 ∷ 0x20 ∷ 0x31 ∷ 0x31 ∷ 0x0A ∷ [])
unfolding word_line
refused_11 = refl
