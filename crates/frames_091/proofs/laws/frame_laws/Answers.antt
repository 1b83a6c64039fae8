use Rattle.frames_091.specs.Frames.{frame_text}
use Rattle.frames_091.specs.Headers.{header_bytes}
use Rattle.std.proofs.Common.{refl}
use Rattle.frames_091.proofs.FrameLaws as frames
use Rattle.frames_091.proofs.FrameScanning as scanning
use Rattle.frames_091.proofs.HeaderLaws as headers
use Rattle.frames_091.proofs.laws.frame_laws.Goals as goal

pub returns-clause-scans : goal.returns-clause-scans
returns-clause-scans c = frames.scans

pub returns-clause-fault : goal.returns-clause-fault
returns-clause-fault c = frames.faults_are

pub returns-clause-apart : goal.returns-clause-apart
returns-clause-apart c = frames.apart

pub returns-clause-whole : goal.returns-clause-whole
returns-clause-whole c limit frame rest h = frames.whole_again limit frame (frame_text frame) rest h

pub returns-clause-settled : goal.returns-clause-settled
returns-clause-settled c = scanning.stays

pub returns-clause-header_scans : goal.returns-clause-header_scans
returns-clause-header_scans c = headers.scans

pub returns-clause-header_fault : goal.returns-clause-header_fault
returns-clause-header_fault c = headers.faults_are

pub returns-clause-header_apart : goal.returns-clause-header_apart
returns-clause-header_apart c = headers.apart

pub returns-clause-header_whole : goal.returns-clause-header_whole
returns-clause-header_whole c rest = headers.whole_again tt header_bytes rest refl

pub returns-clause-header_settled : goal.returns-clause-header_settled
returns-clause-header_settled c = headers.stays
