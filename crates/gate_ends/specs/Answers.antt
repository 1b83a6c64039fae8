-- What the result of a call of the system says.
use Rattle.std.specs.Prelude.{ℕ, ◌==◌, if◌then◌else◌, Bool, true, false, Result, Ok, Err}
use Rattle.std.specs.IoError.{error_kind}
use Rattle.std.specs.declared.io.Error.{Error}
use Rattle.std.specs.declared.io.ErrorKind.{ErrorKind}
use Rattle.std.specs.declared.io.ErrorKind.TheVariants.{WouldBlock, NotConnected}
use Rattle.std.specs.declared.io.ErrorKind.TheVariants.{Interrupted, ConnectionAborted}
use Rattle.gate_outside.specs.declared.ports.Accepted.{Accepted}
use Rattle.gate_outside.specs.declared.ports.Accepted.TheVariants as accepted
use Rattle.gate_outside.specs.declared.ports.Got.{Got}
use Rattle.gate_outside.specs.declared.ports.Got.TheVariants as got
use Rattle.gate_outside.specs.declared.ports.Put.{Put}
use Rattle.gate_outside.specs.declared.ports.Put.TheVariants as put

-- the errors that say only that nothing could be done yet
abbrev pub is_waiting : ErrorKind → Bool
is_waiting WouldBlock = true
is_waiting NotConnected = true
is_waiting Interrupted = true
is_waiting _ = false

-- an accept may also find that the client that waited gave up
abbrev pub is_waiting_to_accept : ErrorKind → Bool
is_waiting_to_accept ConnectionAborted = true
is_waiting_to_accept WouldBlock = true
is_waiting_to_accept NotConnected = true
is_waiting_to_accept Interrupted = true
is_waiting_to_accept _ = false

-- the errors after which the system says when to ask again
abbrev pub would_wait : ErrorKind → Bool
would_wait WouldBlock = true
would_wait NotConnected = true
would_wait _ = false

abbrev pub is_used_up : {X : Type 0} → Result X Error → Bool
is_used_up (Ok x) = false
is_used_up (Err e) = would_wait (error_kind e)

-- a read of no byte met the end of the stream
abbrev pub got_of : Result ℕ Error → Got
got_of (Ok n) = if n == 0 then got.Ended else got.Bytes n
got_of (Err e) = if is_waiting (error_kind e) then got.NotYet else got.Failed

-- a write that took no byte failed
abbrev pub put_of : Result ℕ Error → Put
put_of (Ok n) = if n == 0 then put.Failed else put.Took n
put_of (Err e) = if is_waiting (error_kind e) then put.NotYet else put.Failed

-- an accept that fails is asked again, whatever the error
abbrev pub accepted_of : {X : Type 0} → ℕ → Result X Error → Accepted
accepted_of pair (Ok x) = accepted.Pair pair
accepted_of pair (Err e) = accepted.NotYet
