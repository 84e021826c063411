-- `job::listing::Writer::put_line` meets its contract, field by field.
use Rattle.std.proofs.Common.{ℕ, List, [], ◌∷◌, ◌++◌, arith}
use Rattle.job.specs.Listing.{letter, field, space, newline, HasRoom, Writes}
use Rattle.job.proofs.listing.ListingLaws.{line_fields}
use Rattle.job.proofs.listing.WriterLaws.{room_first, room_then, writes_then}
use Rattle.job.proofs.listing.Writer.put_line.Goals as goal
use Rattle.job.proofs.listing.Writer.put_line.Goals.{Start, After-put_field, After-put_field-2, After-put}

-- the fields, and what is still to come after each
module _ (c : Start) where
  abbrev one : List ℕ
  one = field c.args.contour space

  abbrev two : List ℕ
  two = field c.args.place space

  abbrev three : List ℕ
  three = letter c.args.kind ∷ space ∷ []

  abbrev four : List ℕ
  four = field c.args.color newline

  room : HasRoom c.args.self.now (one ++ (two ++ (three ++ four)))
  room = rw (← line_fields) c.requires.2

pub put_field-requires : goal.put_field-requires
put_field-requires c = let s = (goal.at.put_field-requires c).Start in (c.requires.0, room_first _ _ (room s))

after_one : (c : After-put_field) → let s = (goal.at.After-put_field c).Start in HasRoom c.put_field.new.self (two s ++ (three s ++ four s))
after_one c = room_then _ _ (room (goal.at.After-put_field c).Start) c.put_field.ensures

pub put_field-requires-2 : goal.put_field-requires-2
put_field-requires-2 c = (c.requires.1, room_first _ _ (after_one (goal.at.put_field-requires-2 c).After-put_field))

after_two : (c : After-put_field-2) → let s = (goal.at.After-put_field-2 c).Start in HasRoom c.put_field-2.new.self (three s ++ four s)
after_two c = room_then _ _ (after_one (goal.at.After-put_field-2 c).After-put_field) c.put_field-2.ensures

pub put-requires : goal.put-requires
put-requires c = rw c.letter.ensures (room_first _ _ (after_two (goal.at.put-requires c).After-put_field-2))

-- the letter and the space, written
letter_is : (c : After-put) → Writes c.put_field-2.new.self (three (goal.at.After-put c).Start) c.put.new.self
letter_is c = rw (← c.letter.ensures) c.put.ensures

after_three : (c : After-put) → HasRoom c.put.new.self (four (goal.at.After-put c).Start)
after_three c = room_then _ _ (after_two (goal.at.After-put c).After-put_field-2) (letter_is c)

pub put_field-requires-3 : goal.put_field-requires-3
put_field-requires-3 c = rw c.from.ensures (omega arith, after_three (goal.at.put_field-requires-3 c).After-put)

pub returns : goal.returns
returns c =
    let at = goal.at.returns c in
    rw line_fields
    (writes_then _ _ (room at.Start) c.put_field.ensures
    (writes_then _ _ (after_one at.After-put_field) c.put_field-2.ensures
    (writes_then _ _ (after_two at.After-put_field-2) (letter_is at.After-put) (rw c.from.ensures at c.put_field-3.ensures))))
