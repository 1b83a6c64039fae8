-- The places of the order of refusals that ask of the content in progress on a channel: a method
-- within it, a frame that isn't awaited, a frame that is at fault, and the refusals of its method,
-- which come once it is whole (AMQP 0-9-1 4.2.6 and 1.8.3.7).
use Rattle.std.specs.Prelude.{ℕ, if◌then◌else◌, Option, Some, None, Ok, Err}
use Rattle.close_translate.specs.declared.codes.TheConstants.{CONTENT_TOO_LARGE, FRAME_ERROR}
use Rattle.close_translate.specs.declared.codes.TheConstants.{SYNTAX_ERROR, UNEXPECTED_FRAME}
use Rattle.close_translate.specs.declared.codes.TheConstants.{NOT_IMPLEMENTED}
use Rattle.methods_091.specs.declared.method.Method91.{Method91}
use Rattle.content_091.specs.declared.assembly.ContentFault.TheVariants as fault
use Rattle.content_091.specs.declared.assembly.Step.TheVariants as step
use Rattle.content_091.specs.declared.reading.HeaderFault.{HeaderFault}
use Rattle.content_091.specs.declared.reading.HeaderFault.TheVariants as header
use Rattle.machine_091.specs.Contents.{Taking, is_immediate}
use Rattle.machine_091.specs.RefusalsFrames.{refused}
use Rattle.machine_091.specs.declared.contents.Incoming.{Incoming}
use Rattle.machine_091.specs.declared.unit.Ruling.{Ruling}
use Rattle.machine_091.specs.declared.unit.Ruling.TheVariants as ruling

-- a method while a content is in progress
abbrev pub within_order : Option Incoming → Option Ruling
within_order None = None
within_order (Some i) = refused UNEXPECTED_FRAME

-- a header or a body that isn't awaited
abbrev pub awaited_order : Taking → Option Ruling
awaited_order (Ok x) = None
awaited_order (Err fault.Unexpected) = refused UNEXPECTED_FRAME
awaited_order (Err (fault.Header e)) = None
awaited_order (Err fault.TooLarge) = None
awaited_order (Err fault.Overrun) = None

-- the reply code of a header that can't be read
abbrev pub header_code : HeaderFault → ℕ
header_code header.Class = FRAME_ERROR
header_code header.Flags = SYNTAX_ERROR
header_code header.Syntax = SYNTAX_ERROR

-- a header that can't be read; a body that is announced too large, which closes the channel alone;
-- and one that is longer than was announced
abbrev pub fault_order : Taking → Option Ruling
fault_order (Ok x) = None
fault_order (Err fault.Unexpected) = None
fault_order (Err (fault.Header e)) = refused (header_code e.fault)
fault_order (Err fault.TooLarge) = Some (ruling.ChannelRefused CONTENT_TOO_LARGE)
fault_order (Err fault.Overrun) = refused FRAME_ERROR

-- a basic.publish that asks for a consumer at once, which this gateway doesn't do
abbrev pub immediate_order : Method91 → Option Ruling
immediate_order m = if is_immediate m then Some (ruling.MethodRefused NOT_IMPLEMENTED) else None

-- the refusals of a content's method, where the content is whole
abbrev pub publish_order : Option Incoming → Taking → Option Ruling
publish_order None t = None
publish_order (Some i) (Err e) = None
publish_order (Some i) (Ok (a, step.More)) = None
publish_order (Some i) (Ok (a, step.Whole d)) = immediate_order i.method
