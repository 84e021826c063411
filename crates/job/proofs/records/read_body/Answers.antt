-- `job::records::read_body` meets its contract, mark by mark.
use Rattle.std.proofs.Common.{◌≡◌, sym, ap, ◌∙◌, Option, Some, Result, Ok, Err}
use Rattle.std.specs.Result.{MatchResult, IsOkAnd}
use Rattle.coloring.specs.declared.refusal.Refusal.{Refusal}
use Rattle.job.specs.declared.records.Item.{Item}
use Rattle.job.specs.Records.{item_answer, found_answer, read_body}
use Rattle.job.proofs.records.RecordLaws.{header-rest, edge-rest, size_is}
use Rattle.job.proofs.records.read_body.Goals as goal

-- an item that was read is no end
mapped : (read : Result Item Refusal) (result : Result (Option Item) Refusal)
    → MatchResult read (λ item. IsOkAnd result (λ found. found ≡ Some item)) (λ refusal. result ≡ Err refusal) → found_answer result ≡ item_answer read
mapped (Ok item) (Ok found) h = ap (λ (x : Option Item). found_answer (Ok x)) h
mapped (Ok item) (Err refusal) h = absurd h
mapped (Err refusal) result h = ap found_answer h

pub returns-in-Header : goal.returns-in-Header
unfolding read_body
returns-in-Header c =
    rw c.in-Header.is (mapped c.read_header.result c.map.result c.map.ensures.cases ∙ c.read_header.ensures
    ∙ sym (header-rest c.args.body.now c.args.rest.now))

pub returns-in-Balanced : goal.returns-in-Balanced
unfolding read_body
returns-in-Balanced c = rw (c.in-Balanced.is, size_is)

pub returns-in-Contour : goal.returns-in-Contour
unfolding read_body
returns-in-Contour c = rw (c.in-Contour.is, size_is)

pub returns-in-Edge : goal.returns-in-Edge
unfolding read_body
returns-in-Edge c =
    rw c.in-Edge.is (mapped c.read_edge.result c.map-in-Edge.result c.map-in-Edge.ensures.cases ∙ c.read_edge.ensures
    ∙ sym (edge-rest c.in-Edge.kind c.args.body.now c.args.rest.now))

pub returns-in-Distances : goal.returns-in-Distances
unfolding read_body
returns-in-Distances c =
    rw c.in-Distances.is (mapped c.read_distances.result c.map-in-Distances.result c.map-in-Distances.ensures.cases ∙ c.read_distances.ensures)

pub returns-in-End : goal.returns-in-End
unfolding read_body
returns-in-End c = rw c.in-End.is c.read_end.ensures
