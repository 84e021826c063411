-- In which of the three runs of a teardrop an edge is: `symmetrical_trichotomy` of coloring/mod.rs, by the rule in
-- whole numbers, and the balanced rule (SCOPE, Leaves).
use Rattle.std.specs.Prelude.{ℕ, ◌-◌, ◌*◌, cond, ltb, leb, ℤ, pos, negsuc}
use Rattle.coloring.specs.declared.settings.Division.{Division}
use Rattle.coloring.specs.declared.settings.Division.TheVariants.{Source, Balanced}
use Rattle.coloring.specs.declared.trichotomy.Third.{Third}
use Rattle.coloring.specs.declared.trichotomy.Third.TheVariants.{First, Middle, Last}

-- the number that the source has for each of the three runs
abbrev pub number_of : Third → ℤ
number_of First = negsuc 0
number_of Middle = pos 0
number_of Last = pos 1

-- -1 if 46p < 15(n-1); 0 if 46p is at least that and below 31(n-1); else +1
unfoldable pub symmetrical_trichotomy : ℕ → ℕ → ℤ
symmetrical_trichotomy p n = cond (ltb (46 * p) (15 * (n - 1))) (negsuc 0) (cond (ltb (46 * p) (31 * (n - 1))) (pos 0) (pos 1))

-- -1 if 46p < 15(n-1); 0 if 15(n-1) ≤ 46p ≤ 31(n-1); else +1
unfoldable pub balanced : ℕ → ℕ → ℤ
balanced p n = cond (ltb (46 * p) (15 * (n - 1))) (negsuc 0) (cond (leb (46 * p) (31 * (n - 1))) (pos 0) (pos 1))

abbrev pub third_by : Division → ℕ → ℕ → ℤ
third_by Source = symmetrical_trichotomy
third_by Balanced = balanced
