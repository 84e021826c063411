-- Texts written one after another by a writer.
use mathlib.Core.Path.{◌≡◌, refl, sym, ap, subst, ◌∙◌}
use mathlib.Core.List.{List, [], ◌++◌, append_assoc, append-nil}
use Prim.Native.Nat.{ℕ, ◌+◌, ◌≤◌}
use native.Mathlib.Omega.{arith}
use lib.ListN.{length, take, drop, length-append, length-drop, take-append-drop}
use lib.Seq.{drop-drop, take_at, drop_at, length-take-le}
use Rattle.coloring.specs.Lists.{over_from}
use Rattle.job.specs.declared.listing.Writer.{Writer}
use Rattle.job.specs.Listing.{HasRoom, Writes, Printed}

pasted_length : (at : ℕ) (text out : List ℕ) → at + length text ≤ length out → length (over_from at text out) ≡ length out
unfolding over_from
pasted_length at text out h = simp (length-append, length-drop) (omega (arith, length-take-le at out (omega arith)))

pasted_twice : (at : ℕ) (a b out : List ℕ) → at + length a ≤ length out → over_from at (a ++ b) out ≡ over_from (at + length a) b (over_from at a out)
unfolding over_from
pasted_twice at a b out h =
    let rest = drop (length a) (drop at out) in
    let front : length (take at out ++ a) ≡ at + length a = length-append (take at out) a ∙ rw (length-take-le at out (omega arith)) in
    rw (length-append a b, ← drop-drop (length b) (length a) (drop at out))
    (rw (← append_assoc (take at out) a rest, take_at (take at out ++ a) rest (at + length a) front, drop_at (take at out ++ a) rest (at + length a) front)
    (simp append_assoc))

writes_kept : {old new : Writer} {text : List ℕ} → HasRoom old text → Writes old text new → length new.out.now ≡ length old.out.now
writes_kept {old} {text = text} room w = ap length w.holds ∙ pasted_length old.at text old.out.now room.fits

-- one text, then another
module _ {old : Writer} (a b : List ℕ) (room : HasRoom old (a ++ b)) where
  pub room_first : HasRoom old a
  room_first = record { fits = omega (arith, room.fits, length-append a b) }

  pub room_then : {mid : Writer} → Writes old a mid → HasRoom mid b
  room_then w = record { fits = omega (arith, room.fits, length-append a b, w.place, writes_kept room_first w) }

  pub writes_then : {mid new : Writer} → Writes old a mid → Writes mid b new → Writes old (a ++ b) new
  writes_then v w = record {
    place = w.place ∙ rw (length-append a b) (omega (arith, v.place));
    holds = w.holds ∙ rw (v.place, v.holds) (sym (pasted_twice old.at a b old.out.now room_first.fits));
    same = w.same ∙ v.same;
  }

-- ---- a text that is being written: what is written of it, and what is still to come

pub record Writing (whole : List ℕ) (old : Writer) (rest : List ℕ) (now : Writer) : Type 0 where
  pub text : List ℕ
  pub splits : text ++ rest ≡ whole
  pub written : Writes old text now
  pub room : HasRoom old whole

pub writing_begin : {whole : List ℕ} {old : Writer} → HasRoom old whole → Writing whole old whole old
unfolding over_from
writing_begin {old = old} room = record {
  text = [];
  splits = refl;
  written = record { place = omega arith; holds = sym (take-append-drop old.at old.out.now); same = refl };
  room = room;
}

-- what is still to come is a part and the rest
module _ {whole rest : List ℕ} {old now : Writer} (here later : List ℕ) (e : rest ≡ here ++ later) (w : Writing whole old rest now) where
  room_both : HasRoom old (w.text ++ (here ++ later))
  room_both = subst (HasRoom old) (sym w.splits ∙ ap (λ (x : List ℕ). w.text ++ x) e) w.room

  room_here : HasRoom now (here ++ later)
  room_here = room_then w.text (here ++ later) room_both w.written

  pub writing_room : HasRoom now here
  writing_room = room_first here later room_here

  pub writing_next : {next : Writer} → Writes now here next → Writing whole old later next
  writing_next v = record {
    text = w.text ++ here;
    splits = append_assoc w.text here later ∙ ap (λ (x : List ℕ). w.text ++ x) (sym e) ∙ w.splits;
    written = writes_then w.text here (room_first (w.text ++ here) later (rw append_assoc room_both)) w.written v;
    room = w.room;
  }

pub writing_end : {whole : List ℕ} {old now : Writer} → Writing whole old [] now → Writes old whole now
writing_end {old = old} {now = now} w = subst (λ (x : List ℕ). Writes old x now) (sym (append-nil w.text) ∙ w.splits) w.written

-- a text that has room in a buffer, written from its start
pub printed : {old new : Writer} {text out : List ℕ} → old.at ≡ 0 → old.out.now ≡ out → HasRoom old text → Writes old text new
    → Printed text out new.at new.out.now
unfolding over_from
printed at out room w = record {
  counts = omega (arith, w.place, at);
  within = omega (arith, w.place, writes_kept room w, room.fits);
  holds = w.holds ∙ rw (at, out);
}
