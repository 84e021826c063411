-- The limits (SCOPE, Limits), and what follows from them.
use Rattle.std.specs.Prelude.{ℕ}

abbrev pub max_contours : ℕ
max_contours = 64

abbrev pub max_edges : ℕ
max_edges = 256

-- stand-ins of an outline: two an edge
abbrev pub max_stand_ins : ℕ
max_stand_ins = 512

-- edges of a result: of 63 contours with two edges each, and of one with the other 130
abbrev pub max_result_edges : ℕ
max_result_edges = 508

-- splines of a shape: one an edge, and one more for each contour of one edge with its corner
abbrev pub max_shape_splines : ℕ
max_shape_splines = 320

-- splines of a table, and of a shape whose splines are numbered
abbrev pub max_splines : ℕ
max_splines = 64

-- one distance for each pair of as many splines
abbrev pub max_distances : ℕ
max_distances = 2016
