-- How a capture, version 1, is read: the values and the bytes after them, or the first fault in the
-- order of the bytes. Each reader knows the size of the whole input, at which a cut is told; what
-- is left tells how far it has come.
use Rattle.std.specs.Prelude.{ℕ, ◌-◌, ◌==◌, ◌||◌, if◌then◌else◌, nat_lt, List, [], length, take}
use Rattle.std.specs.Prelude.{drop, Option, None, Some, Result, Ok, Err}
use Rattle.std.specs.Int.{w8, w32, w64}
use Rattle.wire_base.specs.declared.scan.At.{At}
use Rattle.wire_base.specs.Reading.{Reads, ◌>>=◌, made, number_in, all_items}
use Rattle.gate_outside.specs.declared.ports.End.{End}
use Rattle.gate_outside.specs.declared.ports.Accepted.{Accepted}
use Rattle.gate_outside.specs.declared.ports.Accepted.TheVariants as accepted
use Rattle.gate_outside.specs.declared.ports.Linked.{Linked}
use Rattle.gate_outside.specs.declared.ports.Linked.TheVariants as linked
use Rattle.gate_outside.specs.declared.ports.Got.{Got}
use Rattle.gate_outside.specs.declared.ports.Got.TheVariants as got
use Rattle.gate_outside.specs.declared.ports.Put.{Put}
use Rattle.gate_outside.specs.declared.ports.Put.TheVariants as put
use Rattle.gate_outside.specs.declared.log.LogEntry.{LogEntry}
use Rattle.gate_outside.specs.declared.log.LogEntry.TheVariants as entry
use Rattle.gate_capture.specs.declared.kinds.EntryKind.{EntryKind}
use Rattle.gate_capture.specs.declared.kinds.EntryKind.TheVariants as kind
use Rattle.gate_capture.specs.declared.kinds.Answer.{Answer}
use Rattle.gate_capture.specs.declared.kinds.Answer.TheVariants as answer
use Rattle.gate_capture.specs.declared.reading.Capture.{Capture}
use Rattle.gate_capture.specs.declared.reading.CaptureFault.{CaptureFault}
use Rattle.gate_capture.specs.declared.reading.CaptureFault.TheVariants as fault
use Rattle.gate_capture.specs.Kinds.{kind_of, answer_of, end_of, next_of}

-- a part of a capture, or the first fault
abbrev pub Part : Type 0 → Type 0
Part A = Reads A (At CaptureFault)

-- the input ends inside a field; it is told at the size of the input, wherever the field began
abbrev pub cut : ℕ → ℕ → At CaptureFault
cut size at = record { fault = fault.Cut; at = size }

-- the field with which these bytes begin has no such value
abbrev pub misfit : ℕ → List ℕ → At CaptureFault
misfit size bytes = record { fault = fault.Kind; at = size - length bytes }

-- a byte, and numbers of four and eight bytes
abbrev pub octet_in : ℕ → List ℕ → Part ℕ
octet_in size = number_in (cut size) w8 size

abbrev pub long_in : ℕ → List ℕ → Part ℕ
long_in size = number_in (cut size) w32 size

abbrev pub longlong_in : ℕ → List ℕ → Part ℕ
longlong_in size = number_in (cut size) w64 size

-- one value, and another that is read by it, or the fault that the first has no such value
abbrev pub then_in : {A B : Type 0} → (ℕ → List ℕ → Part A) → (A → At CaptureFault → ℕ → List ℕ
    → Part B) → ℕ → List ℕ → Part B
then_in first second size bytes = do
  a ← first size bytes
  second a.0 (misfit size bytes) size a.1

-- a value that takes no bytes
abbrev pub value_in : {A : Type 0} → A → ℕ → List ℕ → Part A
value_in a size bytes = Ok (a, bytes)

abbrev pub known_in : {A : Type 0} → Option A → At CaptureFault → ℕ → List ℕ → Part A
known_in None fault size bytes = Err fault
known_in (Some a) fault size bytes = Ok (a, bytes)

-- the value that a byte stands for
abbrev pub byte_in : {A : Type 0} → (ℕ → Option A) → ℕ → List ℕ → Part A
byte_in value_of = then_in octet_in (λ byte fault. known_in (value_of byte) fault)

-- a number of four bytes that is at least 1 and at most so many
abbrev pub within_in : ℕ → ℕ → At CaptureFault → ℕ → List ℕ → Part ℕ
within_in most n fault size bytes = if n == 0 || nat_lt most n then Err fault else Ok (n, bytes)

abbrev pub count_in : ℕ → ℕ → List ℕ → Part ℕ
count_in most = then_in long_in (within_in most)

-- so many bytes
abbrev pub bytes_in : ℕ → ℕ → List ℕ → Part (List ℕ)
bytes_in n size bytes =
    if nat_lt (length bytes) n then Err (cut size size) else Ok (take n bytes, drop n bytes)

-- a pair and its end
abbrev pub pair_end_in : ℕ → List ℕ → Part (ℕ × End)
pair_end_in =
    then_in long_in (λ pair fault size bytes. made (λ end. (pair, end)) (byte_in end_of size bytes))

-- ---- answers

abbrev pub accepted_by : Answer → At CaptureFault → ℕ → List ℕ → Part Accepted
accepted_by answer.NotYet fault = value_in accepted.NotYet
accepted_by answer.Done fault = λ size bytes. made accepted.Pair (long_in size bytes)
accepted_by answer.Failed fault = value_in accepted.Failed
accepted_by answer.Ended fault = λ size bytes. Err fault

abbrev pub accepted_in : ℕ → List ℕ → Part Accepted
accepted_in = then_in (byte_in answer_of) accepted_by

abbrev pub linked_by : Answer → At CaptureFault → ℕ → List ℕ → Part Linked
linked_by answer.NotYet fault = λ size bytes. Err fault
linked_by answer.Done fault = value_in linked.Ok
linked_by answer.Failed fault = value_in linked.Failed
linked_by answer.Ended fault = λ size bytes. Err fault

abbrev pub linked_in : ℕ → List ℕ → Part Linked
linked_in = then_in (byte_in answer_of) linked_by

-- the answer of a read that had so much room, and the bytes that came
abbrev pub came_in : ℕ → At CaptureFault → ℕ → List ℕ → Part (Got × List ℕ)
came_in n fault size bytes = made (λ came. (got.Bytes n, came)) (bytes_in n size bytes)

abbrev pub got_by : ℕ → Answer → At CaptureFault → ℕ → List ℕ → Part (Got × List ℕ)
got_by room answer.NotYet fault = value_in (got.NotYet, [])
got_by room answer.Done fault = then_in (count_in room) came_in
got_by room answer.Failed fault = value_in (got.Failed, [])
got_by room answer.Ended fault = value_in (got.Ended, [])

abbrev pub got_in : ℕ → ℕ → List ℕ → Part (Got × List ℕ)
got_in room = then_in (byte_in answer_of) (got_by room)

-- the answer of a write that offered so many bytes
abbrev pub put_by : ℕ → Answer → At CaptureFault → ℕ → List ℕ → Part Put
put_by offered answer.NotYet fault = value_in put.NotYet
put_by offered answer.Done fault = λ size bytes. made put.Took (count_in offered size bytes)
put_by offered answer.Failed fault = value_in put.Failed
put_by offered answer.Ended fault = λ size bytes. Err fault

abbrev pub put_in : ℕ → ℕ → List ℕ → Part Put
put_in offered = then_in (byte_in answer_of) (put_by offered)

-- ---- entries

-- the greatest number of four bytes
abbrev pub most : ℕ
most = 4294967295

abbrev pub connect_in : ℕ → List ℕ → Part LogEntry
connect_in =
    then_in long_in (λ pair fault size bytes. made (entry.Connect pair) (linked_in size bytes))

abbrev pub read_in : ℕ → List ℕ → Part LogEntry
read_in =
    then_in pair_end_in (λ p fault. then_in (count_in most) (λ room fault size bytes.
    made (λ x. entry.Read p.0 p.1 room x.0 x.1) (got_in room size bytes)))

abbrev pub write_in : ℕ → List ℕ → Part LogEntry
write_in =
    then_in pair_end_in (λ p fault. then_in (count_in most) (λ n fault. then_in (bytes_in n)
    (λ bytes fault size rest.
    made (entry.Write p.0 p.1 bytes) (put_in n size rest))))

-- an entry, by its kind
abbrev pub entry_by : EntryKind → At CaptureFault → ℕ → List ℕ → Part LogEntry
entry_by kind.Accept fault = λ size bytes. made entry.Accept (accepted_in size bytes)
entry_by kind.Connect fault = connect_in
entry_by kind.Read fault = read_in
entry_by kind.Write fault = write_in
entry_by kind.Shut fault = λ size bytes. made (λ p. entry.Shut p.0 p.1) (pair_end_in size bytes)
entry_by kind.Idle fault = λ size bytes. made entry.Idle (byte_in next_of size bytes)
entry_by kind.Now fault = λ size bytes. made entry.Now (longlong_in size bytes)

abbrev pub entry_in : ℕ → List ℕ → Part LogEntry
entry_in = then_in (byte_in kind_of) entry_by

-- ---- captures

-- a letter of the start; another byte is told at its place
abbrev pub letter_is : ℕ → ℕ → At CaptureFault → ℕ → List ℕ → Part (Unit {0})
letter_is letter byte f size bytes =
    if byte == letter then Ok (tt, bytes) else Err (record { fault = fault.Magic; at = f.at })

abbrev pub letter_in : ℕ → ℕ → List ℕ → Part (Unit {0})
letter_in letter = then_in octet_in (letter_is letter)

-- the letters AGC and the version 1
abbrev pub magic_in : ℕ → List ℕ → Part (Unit {0})
magic_in =
    then_in (letter_in 65) (λ a f. then_in (letter_in 71) (λ g f. then_in (letter_in 67)
    (λ c f. letter_in 49)))

-- the start: the words of the command, behind their length
abbrev pub start_in : ℕ → List ℕ → Part (List ℕ)
start_in = then_in magic_in (λ magic fault. then_in long_in (λ n fault. bytes_in n))

-- a capture, whose words and entries fill the bytes
abbrev pub capture_in : List ℕ → Result (List ℕ × List LogEntry) (At CaptureFault)
capture_in bytes = do
  words ← start_in (length bytes) bytes
  log ← all_items (cut (length bytes)) entry_in (length bytes) words.1
  Ok (words.0, log)

-- what a capture holds, or its first fault
abbrev pub seen : Result Capture (At CaptureFault) → Result (List ℕ
    × List LogEntry) (At CaptureFault)
seen (Ok capture) = Ok (capture.words, capture.entries)
seen (Err fault) = Err fault
