-- The listing of a capture: a line for each entry, numbered from 0.
use Rattle.std.specs.Prelude.{ℕ, ◌+◌, List, [], ◌∷◌, ◌++◌, codes, decimal}
use Rattle.gate_outside.specs.declared.ports.End.{End}
use Rattle.gate_outside.specs.declared.ports.End.TheVariants.{Client, Up}
use Rattle.gate_outside.specs.declared.ports.Accepted.{Accepted}
use Rattle.gate_outside.specs.declared.ports.Accepted.TheVariants as accepted
use Rattle.gate_outside.specs.declared.ports.Linked.{Linked}
use Rattle.gate_outside.specs.declared.ports.Linked.TheVariants as linked
use Rattle.gate_outside.specs.declared.ports.Got.{Got}
use Rattle.gate_outside.specs.declared.ports.Got.TheVariants as got
use Rattle.gate_outside.specs.declared.ports.Put.{Put}
use Rattle.gate_outside.specs.declared.ports.Put.TheVariants as put
use Rattle.gate_outside.specs.declared.ports.Next.{Next}
use Rattle.gate_outside.specs.declared.ports.Next.TheVariants as next
use Rattle.gate_outside.specs.declared.log.LogEntry.{LogEntry}
use Rattle.gate_outside.specs.declared.log.LogEntry.TheVariants as entry

abbrev pub accepted_words : Accepted → List ℕ
accepted_words (accepted.Pair pair) = codes " pair " ++ decimal pair
accepted_words accepted.NotYet = codes " notyet"
accepted_words accepted.Failed = codes " failed"

abbrev pub linked_words : Linked → List ℕ
linked_words linked.Ok = codes " ok"
linked_words linked.Failed = codes " failed"

abbrev pub got_words : Got → List ℕ
got_words (got.Bytes n) = codes " bytes " ++ decimal n
got_words got.NotYet = codes " notyet"
got_words got.Ended = codes " ended"
got_words got.Failed = codes " failed"

abbrev pub put_words : Put → List ℕ
put_words (put.Took n) = codes " took " ++ decimal n
put_words put.NotYet = codes " notyet"
put_words put.Failed = codes " failed"

abbrev pub next_words : Next → List ℕ
next_words next.Go = codes " go"
next_words next.Stop = codes " stop"

abbrev pub end_words : End → List ℕ
end_words Client = codes " client"
end_words Up = codes " up"

-- a pair and its end
abbrev pub at_end : ℕ → End → List ℕ
at_end pair end = decimal pair ++ end_words end

-- a call with its answer
abbrev pub call_words : LogEntry → List ℕ
call_words (entry.Accept answer) = codes "accept" ++ accepted_words answer
call_words (entry.Connect pair answer) = codes "connect " ++ (decimal pair ++ linked_words answer)
call_words (entry.Read pair end room answer bytes) =
    codes "read " ++ (at_end pair end ++ got_words answer)
call_words (entry.Write pair end bytes answer) =
    codes "write " ++ (at_end pair end ++ put_words answer)
call_words (entry.Shut pair end) = codes "shut " ++ at_end pair end
call_words (entry.Idle answer) = codes "idle" ++ next_words answer
call_words (entry.Now ms) = codes "now " ++ decimal ms

abbrev pub line : ℕ → LogEntry → List ℕ
line number entry = decimal number ++ (codes " " ++ (call_words entry ++ codes "\n"))

-- the lines of entries, of which the first has this number
abbrev pub lines : ℕ → List LogEntry → List ℕ
lines number [] = []
lines number (entry ∷ log) = line number entry ++ lines (number + 1) log
