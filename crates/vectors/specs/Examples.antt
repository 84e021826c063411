-- What is a record and what is none. Each refutes a `vectors_right` that takes something else for right.
use Rattle.std.specs.Prelude.{true, false, [], ◌≡◌, refl, replicate}
use Rattle.vectors.specs.Words.{word_at}
use Rattle.vectors.specs.Records.{record_bytes, known, is_record}

-- nothing at all
pub nothing_is_no_record : is_record [] ≡ false
unfolding is_record known word_at record_bytes
nothing_is_no_record = refl

-- 64 bytes of 0, a root of 0, and one byte less
pub zeros_are_a_record : is_record (replicate 64 0) ≡ true
unfolding is_record known word_at record_bytes
zeros_are_a_record = refl

pub cut_is_no_record : is_record (replicate 63 0) ≡ false
unfolding is_record known word_at record_bytes
cut_is_no_record = refl

-- a heading
pub heading_is_no_record : is_record (replicate 24 255) ≡ false
unfolding is_record known word_at record_bytes
heading_is_no_record = refl

-- the last number of a function, and the next
pub last_is_known : known 76 ≡ true
unfolding known
last_is_known = refl

pub next_is_unknown : known 77 ≡ false
unfolding known
next_is_unknown = refl
