-- The text of an answer (docs/FORMAT.md): a line for each edge of the result, then `edges` and their count, last
-- `standins` and how many stand-ins the outline has; or one line with the refusal's number.
use Rattle.std.specs.Prelude.{ℕ, zero, suc, ◌+◌, ◌/◌, ◌%◌, ◌≤◌, ◌≡◌, true, false, length, ltb, Result, Ok, Err}
use mathlib.Core.List.{List, [], ◌∷◌, ◌++◌, map, flatten}
use Rattle.coloring.specs.Refusal.{refusal_number}
use Rattle.coloring.specs.declared.refusal.Refusal.{Refusal}
use Rattle.coloring.specs.Lists.{over, over_from}
use Rattle.coloring.specs.Corners.{find_corners}
use Rattle.coloring.specs.Outline.{kind_stored}
use Rattle.coloring.specs.Answers.{Answer, gives, refusal, in_order}
use Rattle.coloring.specs.Fill.{FillOutcome, fill}
use Rattle.job.specs.declared.listing.Writer.{Writer}
use Rattle.job.specs.Job.{Job, Reading, read_job}
use Rattle.job.specs.Color.{corners_in, check_job, colored_edges, edge_colors}

-- ---- numbers and letters

abbrev pub digit : ℕ → ℕ
digit n = 48 + n

-- in decimal, with so many digits at most
unfoldable pub decimal_within : ℕ → ℕ → List ℕ
decimal_within zero n = []
decimal_within (suc digits) n = elim (ltb n 10) [ true ↦ digit n ∷ [] | false ↦ decimal_within digits (n / 10) ++ (digit (n % 10) ∷ []) ]

-- twenty digits are enough for 64 bits
unfoldable pub decimal : ℕ → List ℕ
unfolding decimal_within
decimal n = decimal_within 20 n

-- the kind 1, 2, 3 as L, Q, C
abbrev pub letter : ℕ → ℕ
letter zero = 0x3F
letter (suc zero) = 0x4C
letter (suc (suc zero)) = 0x51
letter (suc (suc (suc n))) = 0x43

abbrev pub space : ℕ
space = 0x20

abbrev pub newline : ℕ
newline = 0x0A

-- "edges ", "standins " and "refused "
abbrev pub edges_word : List ℕ
edges_word = 0x65 ∷ 0x64 ∷ 0x67 ∷ 0x65 ∷ 0x73 ∷ space ∷ []

abbrev pub stand_ins_word : List ℕ
stand_ins_word = 0x73 ∷ 0x74 ∷ 0x61 ∷ 0x6E ∷ 0x64 ∷ 0x69 ∷ 0x6E ∷ 0x73 ∷ space ∷ []

abbrev pub refused_word : List ℕ
refused_word = 0x72 ∷ 0x65 ∷ 0x66 ∷ 0x75 ∷ 0x73 ∷ 0x65 ∷ 0x64 ∷ space ∷ []

-- ---- lines

-- contour, place in it, kind, colour
unfoldable pub edge_line : ℕ → ℕ → ℕ → ℕ → List ℕ
unfolding decimal
edge_line contour place kind color = decimal contour ++ (space ∷ (decimal place ++ (space ∷ (letter kind ∷ (space ∷ (decimal color ++ (newline ∷ [])))))))

-- the edges of a contour from a place on, each with its colour; there are as many of these
unfoldable pub contour_lines : ℕ → ℕ → List ℕ → List ℕ → List ℕ
unfolding edge_line
contour_lines contour place [] colors = []
contour_lines contour place (kind ∷ kinds) [] = []
contour_lines contour place (kind ∷ kinds) (color ∷ colors) = edge_line contour place kind color ++ contour_lines contour (suc place) kinds colors

-- the contours from a number on
unfoldable pub shape_lines : ℕ → List (List ℕ) → List (List ℕ) → List ℕ
unfolding contour_lines
shape_lines contour [] colors = []
shape_lines contour (kinds ∷ shape) [] = []
shape_lines contour (kinds ∷ shape) (here ∷ colors) = contour_lines contour 0 kinds here ++ shape_lines (suc contour) shape colors

-- a word and a number
unfoldable pub word_line : List ℕ → ℕ → List ℕ
unfolding decimal
word_line word n = word ++ (decimal n ++ (newline ∷ []))

-- a coloured shape: the kinds of its edges, contour by contour, and their colours; and the stand-ins of its outline
unfoldable pub listing : List (List ℕ) → List (List ℕ) → ℕ → List ℕ
unfolding flatten shape_lines word_line
listing kinds colors stand_ins = shape_lines 0 kinds colors ++ (word_line edges_word (length (flatten kinds)) ++ word_line stand_ins_word stand_ins)

abbrev pub refusal_line : ℕ → List ℕ
refusal_line number = word_line refused_word number

-- ---- a file

-- the coloured shape of a job
abbrev pub job_text : Job → List ℕ
job_text job = listing (map (map kind_stored) (colored_edges job)) (edge_colors job) (corners_in job).stand_ins

-- its listing where the checks pass, else the refusal
unfoldable pub reading_text : Reading → List ℕ
unfolding in_order find_corners check_job colored_edges edge_colors listing word_line
reading_text (gives job) = in_order (check_job job) refusal_line (job_text job)
reading_text (refusal number) = refusal_line number

-- what `channels` prints
unfoldable pub file_text : List ℕ → List ℕ
unfolding read_job reading_text
file_text file = reading_text (read_job file)

-- the text over what stood there, and its length; 11 where it would not fit
unfoldable pub list_file : List ℕ → List ℕ → FillOutcome (List ℕ)
unfolding file_text fill
list_file file old =
    let text = file_text file in
    fill [] (length text) text old

-- ---- in the words of contracts

-- how many bytes, or the number of a refusal
abbrev pub listed_answer : Result ℕ Refusal → Answer ℕ
listed_answer (Ok n) = gives n
listed_answer (Err r) = refusal (refusal_number r)

-- a number and the byte after it
abbrev pub field : ℕ → ℕ → List ℕ
field n byte = decimal n ++ (byte ∷ [])

-- a writer has room for a text, and writes it
pub record HasRoom (w : Writer) (text : List ℕ) : Type 0 where
  pub fits : w.at + length text ≤ length w.out.now

pub record Writes (old : Writer) (text : List ℕ) (new : Writer) : Type 0 where
  pub place : new.at ≡ old.at + length text
  pub holds : new.out.now ≡ over_from old.at text old.out.now
  pub same : new.out.ghost_name ≡ old.out.ghost_name

-- a text over what stood there, and its length
pub record Printed (text old : List ℕ) (n : ℕ) (new : List ℕ) : Type 0 where
  pub counts : n ≡ length text
  pub within : n ≤ length new
  pub holds : new ≡ over text old
