-- An order that shows a pair reversed (document 02, No. 5): a recording in which the chosen event x comes earlier than the event y.
-- Assumes nothing.
use Rattle.std.specs.Prelude.{ℕ, not, List, ◌++◌, leb, length, drop, Result, Ok}
use Rattle.model.specs.declared.Event.{Event}
use Rattle.model.specs.declared.Refusal.{Refusal}
use Rattle.model.specs.Refusals.{Check, unless, and_then, after}
use Rattle.model.specs.Numbers.{picked}
use Rattle.model.specs.File.{trailer_of, record_bytes, level_bytes, recording_of}
use Rattle.model.specs.Vectors.{Vectors, at_or_before, unordered}
use Rattle.model.specs.Recorded.{recorded}
use Rattle.model.specs.Question.{question_check, work_after_asking}
use Rattle.model.specs.Writing.{file_in, file_length, written_by}

-- x brought forward: the events that the vectors put at or before x, in file order, then the others, in file order
unfoldable pub bring_forward : List Event → Vectors → ℕ → List ℕ
bring_forward l X x = picked (λ a. at_or_before l X a x) (length l) ++ picked (λ a. not (at_or_before l X a x)) (length l)

-- the recording that is written: start 0, the file's edition, counts, start counts and post counts, and its records with x brought forward by
-- the recorded vectors
unfoldable pub reversed_file : List ℕ → ℕ → List ℕ
reversed_file f x =
    let E = recording_of f in
    let h = trailer_of f in
    file_in (record_bytes f h) (bring_forward E.events (recorded E) x) h.counts (level_bytes f h)

-- its length: that of the file without its preamble
abbrev pub reversed_length : List ℕ → ℕ
reversed_length f = file_length (record_bytes f (trailer_of f)) (level_bytes f (trailer_of f))

-- 15, when the vectors order the two events; then 12, when there is no room for n bytes
abbrev pub forward_check : List Event → Vectors → ℕ → ℕ → ℕ → List ℕ → Check
forward_check l X x y n out =
    unless (unordered l X x y) Refusal.Unsure λ _.
    unless (leb n (length out)) Refusal.Out λ _.
    Ok tt

-- the file's refusal, 11 and 9, as for a question; then these, by the recorded vectors
unfoldable pub reversed_check : List ℕ → ℕ → ℕ → List ℕ → List ℕ → Check
reversed_check f x y work out =
    and_then (question_check f x y work) λ _.
    let E = recording_of f in forward_check E.events (recorded E) x y (reversed_length f) out

-- what the call answers: the length
unfoldable pub reversed_of : List ℕ → ℕ → ℕ → List ℕ → List ℕ → Result ℕ Refusal
reversed_of f x y work out = written_by (reversed_length f) (reversed_check f x y work out)

-- the work memory after the call: as after analysing with budget 0, also after 15 and 12
unfoldable pub work_after_reversing : List ℕ → ℕ → ℕ → List ℕ → List ℕ
work_after_reversing f x y work = work_after_asking f x y 0 work

-- the output after the call: the recording, and beyond it what was there
unfoldable pub out_after_reversing : List ℕ → ℕ → ℕ → List ℕ → List ℕ → List ℕ
out_after_reversing f x y work out = after (reversed_check f x y work out) (λ _. reversed_file f x ++ drop (reversed_length f) out) out
