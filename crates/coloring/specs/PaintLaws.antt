-- Laws on painting for the reader and for the crates above: what is painted may be mapped before or after, and the
-- source's own loops give the same.
use Rattle.std.specs.Prelude.{ℕ, zero, suc, ◌-◌, ◌≡◌, Bool, true, false, eqb, ℤ, pos, negsuc, length, take, drop}
use Rattle.std.proofs.Math.Path.{refl, ap}
use Rattle.std.proofs.Common.{◌∙◌}
use mathlib.Core.List.{List, [], ◌∷◌, map, map-append}
use Rattle.std.proofs.lemmas.List.{length-map}
use Rattle.std.proofs.Math.ListN.{get_or-map}
use Rattle.coloring.specs.Lists.{range, map-take, map-drop}
use Rattle.coloring.specs.Places.{by_place}
use Rattle.coloring.specs.declared.settings.Division.{Division}
use Rattle.coloring.specs.Trichotomy.{third_by}
use Rattle.coloring.specs.Corners.{corner_count, first_corner}
use Rattle.coloring.specs.Teardrop.{third_of, runs}
use Rattle.coloring.specs.Splines.{spline_count, spread, paint, paint_contours}
use Rattle.coloring.specs.Sizes.{paint-one, paint-spread}

-- ---- maps

module _ {A B : Type 0} (f : A → B) where
  map-by_place : (start : ℕ) (xs : List A) → map f (by_place start xs) ≡ by_place start (map f xs)
  unfolding by_place
  map-by_place start xs = simp (map-append, map-take, map-drop, length-map)

  third-map : (first middle last : A) (third : ℤ) → f (third_of first middle last third) ≡ third_of (f first) (f middle) (f last) third
  third-map first middle last (pos zero) = refl
  third-map first middle last (pos (suc n)) = refl
  third-map first middle last (negsuc n) = refl

  each_third : (division : Division) (first middle last : A) (m : ℕ) (places : List ℕ)
      → map f (map (λ i. third_of first middle last (third_by division i m)) places)
      ≡ map (λ i. third_of (f first) (f middle) (f last) (third_by division i m)) places
  each_third division first middle last m [] = refl
  each_third division first middle last m (i ∷ places) =
      rw (third-map first middle last (third_by division i m), each_third division first middle last m places)

  runs_map : (division : Division) (first middle last : A) (m : ℕ) → map f (runs division first middle last m) ≡ runs division (f first) (f middle) (f last) m
  unfolding runs
  runs_map division first middle last m = each_third division first middle last m (range 0 m)

  spread-map : (value : A) (values : List A) (flags : List Bool) → map f (spread value values flags) ≡ spread (f value) (map f values) flags
  unfolding spread
  spread-map value values [] = refl
  spread-map value values (false ∷ flags) = ap (λ l. f value ∷ l) (spread-map value values flags)
  spread-map value [] (true ∷ flags) = ap (λ l. f value ∷ l) (spread-map value [] flags)
  spread-map value (next ∷ values) (true ∷ flags) = ap (λ l. f next ∷ l) (spread-map next values flags)

  module _ (division : Division) (middle : A) (values : List A) (flags : List Bool) where
    map_by_count : (b : Bool) → eqb (corner_count flags) 1 ≡ b → map f (paint division middle values flags) ≡ paint division (f middle) (map f values) flags
    map_by_count true e =
        rw (
          paint-one division middle values flags e,
          paint-one division (f middle) (map f values) flags e,
          get_or-map f values 0 middle,
          get_or-map f values 1 middle,
        )
        (map-by_place (first_corner flags) _ ∙ rw runs_map)
    map_by_count false e =
        rw (
          paint-spread division middle values flags e,
          paint-spread division (f middle) (map f values) flags e,
          length-map values f,
          get_or-map f values (length values - 1) middle,
        )
        (spread-map _ values flags)

    pub paint-map : map f (paint division middle values flags) ≡ paint division (f middle) (map f values) flags
    paint-map = map_by_count (eqb (corner_count flags) 1) refl

  pub contours-map : (division : Division) (middle : A) (values : List A) (contours : List (List Bool))
      → map (map f) (paint_contours division middle values contours) ≡ paint_contours division (f middle) (map f values) contours
  unfolding paint_contours
  contours-map division middle values [] = refl
  contours-map division middle values (flags ∷ rest) =
      let count = spline_count flags in
      rw (
        paint-map division middle (take count values) flags,
        contours-map division middle (drop count values) rest,
        map-take f count values,
        map-drop f count values,
      )
