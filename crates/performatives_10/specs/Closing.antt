-- The frames that are written without memory (AMQP 1.0 2.7.6 to 2.7.9): settled dispositions, and
-- what ends a link, a session or a connection. They are the frames of the performatives.
use Rattle.std.specs.Int.{w16, w32, to_be_bytes}
use Rattle.std.specs.Prelude.{◌≡◌, ℕ, ◌+◌, ◌==◌, Bool, true, false, if◌then◌else◌, List, [], ◌∷◌}
use Rattle.std.specs.Prelude.{◌++◌, length, drop, Option, Some, None, option_map}
use Rattle.frames_10.specs.Frames.{frame_text}
use Rattle.frames_10.specs.declared.frame.Kind10.TheVariants.{Amqp}
use Rattle.types_10.specs.Writing.{value_text}
use Rattle.types_10.specs.Fields.{a_uint, maybe}
use Rattle.performatives_10.specs.Rows.{accepted_code, rejected_code, released_code}
use Rattle.performatives_10.specs.Conditions.{name_of}
use Rattle.performatives_10.specs.View.{error_tree}
use Rattle.performatives_10.specs.Writing.{perf_text}
use Rattle.performatives_10.specs.declared.closing.Settle.{Settle}
use Rattle.performatives_10.specs.declared.closing.Settle.TheVariants as settle
use Rattle.performatives_10.specs.declared.closing.Ending.{Ending}
use Rattle.performatives_10.specs.declared.closing.Ending.TheVariants as ending
use Rattle.performatives_10.specs.declared.condition.Condition.{Condition}
use Rattle.performatives_10.specs.declared.performative.Error10.{Error10}
use Rattle.performatives_10.specs.declared.performative.State.{State}
use Rattle.performatives_10.specs.declared.performative.State.TheVariants as state
use Rattle.performatives_10.specs.declared.performative.Perf.{Perf}
use Rattle.performatives_10.specs.declared.performative.Perf.TheVariants.{Disposition, Detach, End}
use Rattle.performatives_10.specs.declared.performative.Perf.TheVariants.{Close}

-- the frame of a performative on a channel
abbrev pub frame_of : ℕ → Perf → List ℕ
frame_of channel p = frame_text (record { kind = Amqp; channel = channel; body = perf_text p })

abbrev pub state_of : Settle → State
state_of settle.Accepted = state.Accepted
state_of settle.Rejected = state.Rejected None
state_of settle.Released = state.Released

-- the last delivery, which is absent where it is the first one
abbrev pub last_of : ℕ → ℕ → Option ℕ
last_of first last = if first == last then None else Some last

-- a settled disposition
abbrev pub settled_by : Bool → ℕ → Option ℕ → Option State → Perf
settled_by role first last s =
    Disposition
    (record { role = role; first = first; last = last; settled = true; state = s; batchable = false })

-- of the receiver
abbrev pub settling : ℕ → ℕ → Settle → Perf
settling first last s = settled_by true first (last_of first last) (Some (state_of s))

abbrev pub settle_text : ℕ → ℕ → ℕ → Settle → List ℕ
settle_text channel first last s = frame_of channel (settling first last s)

-- of the sender, without a state
abbrev pub settled_text : ℕ → ℕ → Option ℕ → List ℕ
settled_text channel first last = frame_of channel (settled_by false first last None)

abbrev pub error_by : Condition → Error10
error_by c = record { condition = name_of c; description = None }

abbrev pub error_of : Option Condition → Option Error10
error_of = option_map error_by

-- a detach closes its link
abbrev pub ending_of : Ending → Option Condition → Perf
ending_of (ending.Detach handle) c =
    Detach (record { handle = handle; closed = true; error = error_of c })
ending_of ending.End c = End (record { error = error_of c })
ending_of ending.Close c = Close (record { error = error_of c })

abbrev pub end_text : ℕ → Ending → Option Condition → List ℕ
end_text channel e c = frame_of channel (ending_of e c)

-- a text was written over the first bytes; behind it stands what stood there
abbrev pub IsWrittenOver : List ℕ → List ℕ → List ℕ → ℕ → Type 0
IsWrittenOver text old new count = (new ≡ text ++ drop count old) × (count ≡ length text)

-- what is written of an error, which is nothing where there is none
abbrev pub error_text : Option Condition → List ℕ
error_text None = []
error_text (Some c) = value_text (error_tree (error_by c))

-- the header of a frame of this size
abbrev pub head_text : ℕ → ℕ → List ℕ
head_text channel size = to_be_bytes w32 size ++ 2 ∷ 0 ∷ to_be_bytes w16 channel

-- the code of a state's descriptor
abbrev pub settle_code : Settle → ℕ
settle_code settle.Accepted = accepted_code
settle_code settle.Rejected = rejected_code
settle_code settle.Released = released_code

-- how many bytes the fields of a disposition have: its role, its first and last delivery, the rest
abbrev pub disposition_len : ℕ → Option ℕ → List ℕ → ℕ
disposition_len first last rest =
    1 + length (value_text (a_uint first)) + length (value_text (maybe a_uint last)) + length rest

-- the frame of a disposition of so many fields
abbrev pub disposition_text : ℕ → ℕ → ℕ → ℕ → Option ℕ → List ℕ → List ℕ
disposition_text channel count role first last rest =
    let items = disposition_len first last rest in
    let head = head_text channel (14 + items) in
    (((head ++ 0 ∷ 83 ∷ 21 ∷ 192 ∷ (items + 1) ∷ count ∷ role ∷ []) ++ value_text (a_uint first))
    ++ value_text (maybe a_uint last)) ++ rest

-- how many fields a detach has
abbrev pub detach_count : Option Condition → ℕ
detach_count None = 2
detach_count (Some c) = 3

-- the frame of an end or a close, whose descriptor has this code: without an error, and with one
abbrev pub bare_text : ℕ → ℕ → List ℕ
bare_text channel code = head_text channel 12 ++ 0 ∷ 83 ∷ code ∷ 69 ∷ []

abbrev pub failed_text : ℕ → ℕ → Condition → List ℕ
failed_text channel code c =
    let e = error_text (Some c) in (head_text channel (14 + length e)
    ++ 0 ∷ 83 ∷ code ∷ 192 ∷ (length e + 1) ∷ 1 ∷ []) ++ e

abbrev pub ended_text : ℕ → ℕ → Option Condition → List ℕ
ended_text channel code None = bare_text channel code
ended_text channel code (Some c) = failed_text channel code c
