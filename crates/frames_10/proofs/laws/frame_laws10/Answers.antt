use Rattle.std.proofs.Common.{refl}
use Rattle.wire_base.proofs.Headers as headers
use Rattle.frames_10.proofs.FrameLaws as frames
use Rattle.frames_10.proofs.FrameScanning as scanning
use Rattle.frames_10.proofs.HeaderLaws as laws
use Rattle.frames_10.proofs.laws.frame_laws10.Goals as goal
use Rattle.frames_10.specs.Headers.{header_bytes}
use Rattle.frames_10.specs.declared.header.NotHeader.{NotHeader}

none : NotHeader
none = record {}

pub returns-clause-scans : goal.returns-clause-scans
returns-clause-scans c = frames.scans

pub returns-clause-fault : goal.returns-clause-fault
returns-clause-fault c = frames.faults_are

pub returns-clause-apart : goal.returns-clause-apart
returns-clause-apart c = frames.apart

pub returns-clause-whole : goal.returns-clause-whole
returns-clause-whole c = frames.whole_again

pub returns-clause-settled : goal.returns-clause-settled
returns-clause-settled c = scanning.stays

pub returns-clause-header_scans : goal.returns-clause-header_scans
unfolding none
returns-clause-header_scans c kind = headers.scans none (header_bytes kind)

pub returns-clause-header_fault : goal.returns-clause-header_fault
returns-clause-header_fault c = laws.faults_are

pub returns-clause-header_apart : goal.returns-clause-header_apart
returns-clause-header_apart c kind = headers.apart (header_bytes kind)

pub returns-clause-header_whole : goal.returns-clause-header_whole
unfolding none
returns-clause-header_whole c kind rest = headers.whole_again none (header_bytes kind) tt (header_bytes kind) rest refl

pub returns-clause-header_settled : goal.returns-clause-header_settled
unfolding none
returns-clause-header_settled c kind = headers.stays none (header_bytes kind)
