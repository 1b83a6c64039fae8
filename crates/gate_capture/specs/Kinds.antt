-- The bytes of a capture that tell what follows.
use Rattle.std.specs.Prelude.{ℕ, ◌==◌, if◌then◌else◌, Option, None, Some}
use Rattle.gate_outside.specs.declared.ports.End.{End}
use Rattle.gate_outside.specs.declared.ports.End.TheVariants.{Client, Up}
use Rattle.gate_outside.specs.declared.ports.Next.{Next}
use Rattle.gate_outside.specs.declared.ports.Next.TheVariants.{Go, Stop}
use Rattle.gate_capture.specs.declared.kinds.EntryKind.{EntryKind}
use Rattle.gate_capture.specs.declared.kinds.EntryKind.TheVariants as kind
use Rattle.gate_capture.specs.declared.kinds.Answer.{Answer}
use Rattle.gate_capture.specs.declared.kinds.Answer.TheVariants as answer

-- the kind of an entry
abbrev pub kind_byte : EntryKind → ℕ
kind_byte kind.Accept = 1
kind_byte kind.Connect = 2
kind_byte kind.Read = 3
kind_byte kind.Write = 4
kind_byte kind.Shut = 5
kind_byte kind.Idle = 6
kind_byte kind.Now = 7

abbrev pub kind_of : ℕ → Option EntryKind
kind_of byte =
    if byte == 1 then Some kind.Accept else if byte == 2 then Some kind.Connect
    else if byte == 3 then Some kind.Read else if byte == 4 then Some kind.Write
    else if byte == 5 then Some kind.Shut else if byte == 6 then Some kind.Idle
    else if byte == 7 then Some kind.Now else None

-- an answer of accept, connect, read or write
abbrev pub answer_byte : Answer → ℕ
answer_byte answer.NotYet = 0
answer_byte answer.Done = 1
answer_byte answer.Failed = 2
answer_byte answer.Ended = 3

abbrev pub answer_of : ℕ → Option Answer
answer_of byte =
    if byte == 0 then Some answer.NotYet else if byte == 1 then Some answer.Done
    else if byte == 2 then Some answer.Failed else if byte == 3 then Some answer.Ended else None

-- an end of a pair
abbrev pub end_byte : End → ℕ
end_byte Client = 0
end_byte Up = 1

abbrev pub end_of : ℕ → Option End
end_of byte = if byte == 0 then Some Client else if byte == 1 then Some Up else None

-- an answer of idle
abbrev pub next_byte : Next → ℕ
next_byte Go = 0
next_byte Stop = 1

abbrev pub next_of : ℕ → Option Next
next_of byte = if byte == 0 then Some Go else if byte == 1 then Some Stop else None
