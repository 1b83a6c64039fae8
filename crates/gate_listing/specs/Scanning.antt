-- The first unit of bytes, as a function of them: the line of the unit behind its offset and the
-- count of its bytes, or the first fault. The bytes end at an offset, which is the length of the
-- whole input.
use Rattle.std.specs.Prelude.{ℕ, ◌+◌, ◌-◌, ◌^◌, ◌==◌, ◌&&◌, min, max, Bool, if◌then◌else◌, List}
use Rattle.std.specs.Prelude.{length, codes, slice_index, Result, Ok, Err}
use Rattle.wire_base.specs.Reading.{◌>>=◌}
use Rattle.wire_base.specs.declared.scan.At.{At}
use Rattle.wire_base.specs.declared.scan.Scan.{Scan}
use Rattle.wire_base.specs.declared.scan.Scan.TheVariants.{Whole, More, Bad}
use Rattle.frames_091.specs.declared.frame.Kind91.{Kind91}
use Rattle.frames_091.specs.declared.frame.Kind91.TheVariants as kind
use Rattle.frames_091.specs.declared.frame.Frame91.{Frame91}
use Rattle.frames_091.specs.declared.frame.FrameFault.{FrameFault}
use Rattle.frames_091.specs.declared.header as not_091
use Rattle.frames_091.specs.FrameScan as frames_091
use Rattle.frames_091.specs.Headers as headers_091
use Rattle.methods_091.specs.Rows.{class_of, id_of}
use Rattle.methods_091.specs.Reading as methods_091
use Rattle.content_091.specs.Reading as content_091
use Rattle.content_091.specs.Properties.{Parts}
use Rattle.content_091.specs.declared.reading.HeaderFault.{HeaderFault}
use Rattle.frames_10.specs.declared.frame.Kind10.TheVariants.{Amqp, Sasl}
use Rattle.frames_10.specs.declared.frame.Frame10.{Frame10}
use Rattle.frames_10.specs.declared.frame.FrameFault10.{FrameFault10}
use Rattle.frames_10.specs.declared.header as not_10
use Rattle.frames_10.specs.FrameScan as frames_10
use Rattle.frames_10.specs.Headers as headers_10
use Rattle.performatives_10.specs.Reading as performatives_10
use Rattle.performatives_10.specs.declared.fault.PerfFault.{PerfFault}
use Rattle.performatives_10.specs.declared.fault.PerfFault.TheVariants as in_perf
use Rattle.gate_listing.specs.Names.{method_name}
use Rattle.gate_listing.specs.Units.{most_091, most_10, method_words, content_words, body_words}
use Rattle.gate_listing.specs.Units.{heartbeat_words, header_words, empty_words, performative_words}
use Rattle.gate_listing.specs.Units.{is_empty}
use Rattle.gate_listing.specs.declared.fault.UnitFault.{UnitFault}
use Rattle.gate_listing.specs.declared.fault.UnitFault.TheVariants as fault

-- a line, or the first fault
abbrev pub Words : Type 0
Words = Result (List ℕ) (At UnitFault)

-- a line and the count of the unit's bytes, or the first fault
abbrev pub Found : Type 0
Found = Result (List ℕ × ℕ) (At UnitFault)

abbrev pub fault_at : {A : Type 0} → UnitFault → ℕ → Result A (At UnitFault)
fault_at fault at = Err (record { fault = fault; at = at })

-- the offset so many bytes behind another; it stands still at its type's end
abbrev pub further : ℕ → ℕ → ℕ
further at count = min (at + count) (2 ^ 64 - 1)

-- the offset of the first byte that is left
abbrev pub place : ℕ → List ℕ → ℕ
place end bytes = end - length bytes

-- a line, with the count of the unit's bytes
abbrev pub with_size : ℕ → Words → Found
with_size size words = words >>= λ text. Ok (text, size)

-- the letter A, with which each protocol header begins
abbrev pub begins_with_a : List ℕ → Bool
begins_with_a bytes = slice_index bytes 0 == 65

-- ---- AMQP 0-9-1

-- the payload begins behind the type, the channel and the size
abbrev pub method_in : ℕ → ℕ → methods_091.Read → Words
method_in at channel (Ok m) = Ok (method_words channel (method_name (class_of m.0) (id_of m.0)))
method_in at channel (Err e) = fault_at (fault.Method e.fault) (further (further at 7) e.at)

abbrev pub content_in : ℕ → ℕ → Result Parts (At HeaderFault) → Words
content_in at channel (Ok h) = Ok (content_words channel h.0)
content_in at channel (Err e) = fault_at (fault.Content e.fault) (further (further at 7) e.at)

abbrev pub payload_in : ℕ → Kind91 → ℕ → List ℕ → Words
payload_in at kind.Method channel payload = method_in at channel (methods_091.method_in payload)
payload_in at kind.Header channel payload = content_in at channel (content_091.header_in payload)
payload_in at kind.Body channel payload = Ok (body_words channel (length payload))
payload_in at kind.Heartbeat channel payload = Ok (heartbeat_words channel)

abbrev pub frame_091_in : ℕ → ℕ → Scan Frame91 (At FrameFault) → Found
frame_091_in end at (Whole frame size) =
    with_size size (payload_in at frame.kind frame.channel frame.payload)
frame_091_in end at More = fault_at fault.Cut end
frame_091_in end at (Bad e) = fault_at (fault.Frame91 e.fault) (further at e.at)

abbrev pub header_091_in : ℕ → Scan (Unit {0}) (At not_091.NotHeader.NotHeader) → Found
header_091_in end (Whole x size) = Ok (codes "header 0-9-1", size)
header_091_in end More = fault_at fault.Cut end
header_091_in end (Bad e) = fault_at fault.NotHeader e.at

-- a protocol header is looked for at the front of the input alone
unfoldable pub unit_091_in : ℕ → List ℕ → Found
unit_091_in end bytes =
    if begins_with_a bytes && (place end bytes == 0) then header_091_in end
    (headers_091.header_scan bytes)
    else frame_091_in end (place end bytes) (frames_091.scan_of most_091 bytes)

-- ---- AMQP 1.0

-- of a value that can't be read the fault's own place counts, and of another fault that of the
-- frame
abbrev pub fault_place : ℕ → ℕ → PerfFault → ℕ
fault_place at start (in_perf.Value e) = further (further at start) e.at
fault_place at start in_perf.UnknownDescriptor = at
fault_place at start (in_perf.Missing k) = at
fault_place at start (in_perf.WrongType k) = at

-- the body begins so many bytes behind the frame's offset
abbrev pub performative_in : ℕ → ℕ → Frame10 → Result (performatives_10.Parts × ℕ) PerfFault → Words
performative_in at start frame (Ok x) =
    Ok (performative_words frame.kind frame.channel (performatives_10.code_of x.0.0)
    (length frame.body - x.1))
performative_in at start frame (Err e) = fault_at (fault.Performative e) (fault_place at start e)

abbrev pub body_in : ℕ → ℕ → Frame10 → Words
body_in at start frame =
    if is_empty frame.kind frame.body then Ok (empty_words frame.channel)
    else performative_in at start frame (performatives_10.perf_at frame.body)

abbrev pub frame_10_in : ℕ → ℕ → Scan Frame10 (At FrameFault10) → Found
frame_10_in end at (Whole frame size) = with_size size (body_in at (size - length frame.body) frame)
frame_10_in end at More = fault_at fault.Cut end
frame_10_in end at (Bad e) = fault_at (fault.Frame10 e.fault) (further at e.at)

-- what the scans for both headers say: where both find none, the fault is where the longer one of
-- both parts from the bytes
abbrev pub header_10_in : ℕ → ℕ → Scan (Unit {0}) (At not_10.NotHeader.NotHeader)
    → Scan (Unit {0}) (At not_10.NotHeader.NotHeader) → Found
header_10_in end at (Whole x size) sasl = Ok (header_words Amqp, size)
header_10_in end at More sasl = fault_at fault.Cut end
header_10_in end at (Bad e) (Whole x size) = Ok (header_words Sasl, size)
header_10_in end at (Bad e) More = fault_at fault.Cut end
header_10_in end at (Bad e) (Bad f) = fault_at fault.NotHeader (further at (max e.at f.at))

unfoldable pub unit_10_in : ℕ → List ℕ → Found
unit_10_in end bytes =
    if begins_with_a bytes
    then header_10_in end (place end bytes) (headers_10.header_scan Amqp bytes)
    (headers_10.header_scan Sasl bytes)
    else frame_10_in end (place end bytes) (frames_10.scan_of most_10 bytes)
