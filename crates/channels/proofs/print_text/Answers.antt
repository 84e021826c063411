-- `print_text` meets its contract: what was read is the whole input, or the first bytes of it that decide its text.
use Rattle.std.proofs.Common.{◌≡◌, ℕ, ◌<◌, ◌≤◌, List, [], ◌++◌, Option, Some, None, Result, Ok, Err, Bool, true, false, length, take, refl, sym, ap, ◌∙◌}
use Rattle.std.proofs.Common.{subst, arith, length-take-le}
use Rattle.std.specs.Prelude.{IfSome, OnOk, leb}
use borrow.Author.Tests.{leb-true, leb-false}
use Rattle.std.specs.Io.KnownBytes.{Appends, Consumes, IsAtEnd}
use Rattle.std.proofs.lemmas.List.{append-nil}
use Rattle.std.proofs.lemmas.Option.{IfSome_then}
use Rattle.std.proofs.Math.Seq.{take-append_seam}
use Rattle.job.specs.Limits.{deciding_bytes}
use Rattle.job.specs.Listing.{file_text}
use Rattle.job.proofs.AnswerLaws.{take-over}
use Rattle.job.proofs.FirstBytes.{first_bytes_text}
use Rattle.channels.proofs.print_text.Goals as goal

-- the bytes read from a file; where they are fewer than decide, nothing is left of it
of_file : (read rest file : List ℕ) → length read ≤ deciding_bytes → (length read < deciding_bytes → rest ≡ []) → file ≡ read ++ rest
    → file_text read ≡ file_text file
of_file read rest file few all whole = go (leb deciding_bytes (length read)) refl
  where
    go : (b : Bool) → leb deciding_bytes (length read) ≡ b → file_text read ≡ file_text file
    go true h =
        let many : deciding_bytes ≤ length read = leb-true _ _ h in
        let exact : deciding_bytes ≡ length read = omega arith in
        let first : take deciding_bytes file ≡ read =
        ap (take deciding_bytes) whole ∙ ap (λ n. take n (read ++ rest)) exact ∙ take-append_seam read rest in
        sym (ap file_text first) ∙ first_bytes_text file
    go false h =
        let fewer : length read < deciding_bytes = leb-false _ _ h in
        ap file_text (sym (whole ∙ ap (λ xs. read ++ xs) (all fewer) ∙ append-nil read))

-- the same of a reader whose bytes are known
of_input : (known left : Option (List ℕ)) (n : ℕ) (space : List ℕ) → length space ≡ deciding_bytes → n ≤ length space
    → Consumes known left (take n space) → (n < length space → IsAtEnd left) → IfSome known (λ file. file_text (take n space) ≡ file_text file)
of_input None left n space size within bytes end = tt
of_input (Some file) None n space size within bytes end = absurd bytes
of_input (Some file) (Some rest) n space size within bytes end =
    let long : length (take n space) ≡ n = length-take-le n space within in
    of_file (take n space) rest file (omega arith) (λ h. end (omega arith)) bytes

-- what is written where the text is that of what was read
written : {T E : Type 0} (r : Result T E) (known old new : Option (List ℕ)) (read text : List ℕ) → text ≡ file_text read
    → IfSome known (λ file. file_text read ≡ file_text file) → OnOk r (Appends old new text)
    → OnOk r (IfSome known (λ file. Appends old new (file_text file)))
written (Ok x) known old new read text p q h = IfSome_then known q (λ file e. subst (Appends old new) (p ∙ e) h)
written (Err x) known old new read text p q h = tt

pub returns : goal.returns
returns g c =
    let space = c.read_full.new.space in
    let text = take-over _ _ c.text-length.ensures.holds c.text-length.ensures.counts in
    let whole = of_input _ _ c.in_ok-n.n space c.read_full.auto.space c.in_ok-n.ensures.within c.in_ok-n.ensures.bytes c.in_ok-n.ensures.end in
    written _ _ _ _ _ _ text whole c.write_all.ensures.bytes
