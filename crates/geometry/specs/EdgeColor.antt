-- The colours of edges by their numbers: bit 0 red, bit 1 green, bit 2 blue.
use Rattle.std.specs.Prelude.{ℕ, zero, suc, ◌/◌, ◌%◌, ◌<◌, ◌≡◌, refl, Bool, false, List, [], ◌∷◌, get_or, eqb}
use Rattle.std.proofs.Common.{mod-lt, arith, lit<}
use Rattle.geometry.specs.declared.edge_color.EdgeColor.{EdgeColor}
use Rattle.geometry.specs.declared.edge_color.EdgeColor.TheVariants.{Black, Red, Green, Yellow, Blue, Magenta, Cyan, White}

-- the number of each colour
abbrev pub bits_of : EdgeColor → ℕ
bits_of Black = 0
bits_of Red = 1
bits_of Green = 2
bits_of Yellow = 3
bits_of Blue = 4
bits_of Magenta = 5
bits_of Cyan = 6
bits_of White = 7

-- the colours in the order of their numbers
abbrev pub colors : List EdgeColor
colors = Black ∷ Red ∷ Green ∷ Yellow ∷ Blue ∷ Magenta ∷ Cyan ∷ White ∷ []

-- the colour of the three low bits of a number
abbrev pub from_bits : ℕ → EdgeColor
from_bits b = get_or colors (b % 8) White

abbrev pub has_red : EdgeColor → Bool
has_red c = eqb (bits_of c % 2) 1

abbrev pub has_green : EdgeColor → Bool
has_green c = eqb (bits_of c / 2 % 2) 1

abbrev pub has_blue : EdgeColor → Bool
has_blue c = eqb (bits_of c / 4 % 2) 1

-- channel 0 is red, 1 green, 2 blue, and there is no other
abbrev pub has_channel : EdgeColor → ℕ → Bool
has_channel c zero = has_red c
has_channel c (suc zero) = has_green c
has_channel c (suc (suc zero)) = has_blue c
has_channel c (suc (suc (suc i))) = false

-- ---- the two numberings are inverse

pub from_bits_of : (c : EdgeColor) → from_bits (bits_of c) ≡ c
from_bits_of Black = refl
from_bits_of Red = refl
from_bits_of Green = refl
from_bits_of Yellow = refl
from_bits_of Blue = refl
from_bits_of Magenta = refl
from_bits_of Cyan = refl
from_bits_of White = refl

pub bits_below : (c : EdgeColor) → bits_of c < 8
bits_below Black = lit< tt
bits_below Red = lit< tt
bits_below Green = lit< tt
bits_below Yellow = lit< tt
bits_below Blue = lit< tt
bits_below Magenta = lit< tt
bits_below Cyan = lit< tt
bits_below White = lit< tt

-- at a number as long as the colours, by its unary form
at-color : (n : ℕ) → n < 8 → bits_of (get_or colors n White) ≡ n
at-color zero h = refl
at-color (suc zero) h = refl
at-color (suc (suc zero)) h = refl
at-color (suc (suc (suc zero))) h = refl
at-color (suc (suc (suc (suc zero)))) h = refl
at-color (suc (suc (suc (suc (suc zero))))) h = refl
at-color (suc (suc (suc (suc (suc (suc zero)))))) h = refl
at-color (suc (suc (suc (suc (suc (suc (suc zero))))))) h = refl
at-color (suc (suc (suc (suc (suc (suc (suc (suc n)))))))) h = omega arith

pub bits_of_from : (b : ℕ) → bits_of (from_bits b) ≡ b % 8
bits_of_from b = at-color (b % 8) (mod-lt b {m = 8} (lit< tt))
