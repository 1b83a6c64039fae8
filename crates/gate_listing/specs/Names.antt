-- The names of methods and performatives, and of faults, as a listing prints them.
use Rattle.std.specs.Prelude.{ℕ, ◌==◌, ◌&&◌, if◌then◌else◌, List, [], ◌∷◌, codes}
use Rattle.frames_091.specs.declared.frame.FrameFault.{FrameFault}
use Rattle.frames_091.specs.declared.frame.FrameFault.TheVariants as in_frame
use Rattle.methods_091.specs.declared.reading.MethodFault.{MethodFault}
use Rattle.methods_091.specs.declared.reading.MethodFault.TheVariants as in_method
use Rattle.content_091.specs.declared.reading.HeaderFault.{HeaderFault}
use Rattle.content_091.specs.declared.reading.HeaderFault.TheVariants as in_content
use Rattle.types_10.specs.declared.fault.TypeFault.{TypeFault}
use Rattle.types_10.specs.declared.fault.TypeFault.TheVariants as in_type
use Rattle.frames_10.specs.declared.frame.FrameFault10.{FrameFault10}
use Rattle.frames_10.specs.declared.frame.FrameFault10.TheVariants as in_frame10
use Rattle.performatives_10.specs.declared.fault.PerfFault.{PerfFault}
use Rattle.performatives_10.specs.declared.fault.PerfFault.TheVariants as in_perf
use Rattle.gate_listing.specs.declared.fault.UnitFault.{UnitFault}
use Rattle.gate_listing.specs.declared.fault.UnitFault.TheVariants as fault

-- ---- methods, by the ids of the class and of the method (AMQP 0-9-1 1.3 to 1.8, with the
-- additions of RabbitMQ)

abbrev pub method_names : List (ℕ × ℕ × List ℕ)
method_names =
    (10, 10, codes "connection.start") ∷
    (10, 11, codes "connection.start-ok") ∷
    (10, 20, codes "connection.secure") ∷
    (10, 21, codes "connection.secure-ok") ∷
    (10, 30, codes "connection.tune") ∷
    (10, 31, codes "connection.tune-ok") ∷
    (10, 40, codes "connection.open") ∷
    (10, 41, codes "connection.open-ok") ∷
    (10, 50, codes "connection.close") ∷
    (10, 51, codes "connection.close-ok") ∷
    (20, 10, codes "channel.open") ∷
    (20, 11, codes "channel.open-ok") ∷
    (20, 20, codes "channel.flow") ∷
    (20, 21, codes "channel.flow-ok") ∷
    (20, 40, codes "channel.close") ∷
    (20, 41, codes "channel.close-ok") ∷
    (40, 10, codes "exchange.declare") ∷
    (40, 11, codes "exchange.declare-ok") ∷
    (40, 20, codes "exchange.delete") ∷
    (40, 21, codes "exchange.delete-ok") ∷
    (50, 10, codes "queue.declare") ∷
    (50, 11, codes "queue.declare-ok") ∷
    (50, 20, codes "queue.bind") ∷
    (50, 21, codes "queue.bind-ok") ∷
    (50, 30, codes "queue.purge") ∷
    (50, 31, codes "queue.purge-ok") ∷
    (50, 40, codes "queue.delete") ∷
    (50, 41, codes "queue.delete-ok") ∷
    (50, 50, codes "queue.unbind") ∷
    (50, 51, codes "queue.unbind-ok") ∷
    (60, 10, codes "basic.qos") ∷
    (60, 11, codes "basic.qos-ok") ∷
    (60, 20, codes "basic.consume") ∷
    (60, 21, codes "basic.consume-ok") ∷
    (60, 30, codes "basic.cancel") ∷
    (60, 31, codes "basic.cancel-ok") ∷
    (60, 40, codes "basic.publish") ∷
    (60, 50, codes "basic.return") ∷
    (60, 60, codes "basic.deliver") ∷
    (60, 70, codes "basic.get") ∷
    (60, 71, codes "basic.get-ok") ∷
    (60, 72, codes "basic.get-empty") ∷
    (60, 80, codes "basic.ack") ∷
    (60, 90, codes "basic.reject") ∷
    (60, 100, codes "basic.recover-async") ∷
    (60, 110, codes "basic.recover") ∷
    (60, 111, codes "basic.recover-ok") ∷
    (60, 120, codes "basic.nack") ∷
    (85, 10, codes "confirm.select") ∷
    (85, 11, codes "confirm.select-ok") ∷
    (90, 10, codes "tx.select") ∷
    (90, 11, codes "tx.select-ok") ∷
    (90, 20, codes "tx.commit") ∷
    (90, 21, codes "tx.commit-ok") ∷
    (90, 30, codes "tx.rollback") ∷
    (90, 31, codes "tx.rollback-ok") ∷ []

-- the name in the first row with these ids
abbrev pub named_in : List (ℕ × ℕ × List ℕ) → ℕ → ℕ → List ℕ
named_in [] class id = []
named_in (row ∷ rows) class id =
    if (row.0 == class) && (row.1 == id) then row.2 else named_in rows class id

abbrev pub method_name : ℕ → ℕ → List ℕ
method_name class id = named_in method_names class id

-- ---- performatives, by the codes of their descriptors (AMQP 1.0 2.7, 5.3.3)

abbrev pub performative_names : List (ℕ × List ℕ)
performative_names =
    (16, codes "open") ∷
    (17, codes "begin") ∷
    (18, codes "attach") ∷
    (19, codes "flow") ∷
    (20, codes "transfer") ∷
    (21, codes "disposition") ∷
    (22, codes "detach") ∷
    (23, codes "end") ∷
    (24, codes "close") ∷
    (64, codes "sasl-mechanisms") ∷
    (65, codes "sasl-init") ∷
    (66, codes "sasl-challenge") ∷
    (67, codes "sasl-response") ∷
    (68, codes "sasl-outcome") ∷ []

-- the name in the first row with this code
abbrev pub coded_in : List (ℕ × List ℕ) → ℕ → List ℕ
coded_in [] code = []
coded_in (row ∷ rows) code = if row.0 == code then row.1 else coded_in rows code

abbrev pub performative_name : ℕ → List ℕ
performative_name code = coded_in performative_names code

-- ---- faults: how the line for an input at fault ends

abbrev pub frame_fault_text : FrameFault → List ℕ
frame_fault_text in_frame.Kind = codes ": Kind\n"
frame_fault_text in_frame.Size = codes ": Size\n"
frame_fault_text in_frame.End = codes ": End\n"

abbrev pub method_fault_text : MethodFault → List ℕ
method_fault_text in_method.UnknownMethod = codes ": UnknownMethod\n"
method_fault_text in_method.Syntax = codes ": Syntax\n"

abbrev pub content_fault_text : HeaderFault → List ℕ
content_fault_text in_content.Class = codes ": Class\n"
content_fault_text in_content.Flags = codes ": Flags\n"
content_fault_text in_content.Syntax = codes ": Syntax\n"

abbrev pub frame10_fault_text : FrameFault10 → List ℕ
frame10_fault_text in_frame10.FrameSize = codes ": FrameSize\n"
frame10_fault_text in_frame10.DataOffset = codes ": DataOffset\n"
frame10_fault_text in_frame10.FrameType = codes ": FrameType\n"

abbrev pub type_fault_text : TypeFault → List ℕ
type_fault_text in_type.UnknownCode = codes ": UnknownCode\n"
type_fault_text in_type.Cut = codes ": Cut\n"
type_fault_text in_type.NotUtf8 = codes ": NotUtf8\n"
type_fault_text in_type.NotAscii = codes ": NotAscii\n"
type_fault_text in_type.Depth = codes ": Depth\n"
type_fault_text in_type.Count = codes ": Count\n"

abbrev pub perf_fault_text : PerfFault → List ℕ
perf_fault_text (in_perf.Value at) = type_fault_text at.fault
perf_fault_text in_perf.UnknownDescriptor = codes ": UnknownDescriptor\n"
perf_fault_text (in_perf.Missing place) = codes ": Missing\n"
perf_fault_text (in_perf.WrongType place) = codes ": WrongType\n"

abbrev pub fault_text : UnitFault → List ℕ
fault_text fault.Cut = codes ": Cut\n"
fault_text fault.NotHeader = codes ": NotHeader\n"
fault_text (fault.Frame91 e) = frame_fault_text e
fault_text (fault.Method e) = method_fault_text e
fault_text (fault.Content e) = content_fault_text e
fault_text (fault.Frame10 e) = frame10_fault_text e
fault_text (fault.Performative e) = perf_fault_text e
