-- The laws of the protocol headers and of their scan.
use Rattle.std.proofs.Common.{◌≡◌, ◌↔◌, List, ℕ, sym, subst}
use Rattle.wire_base.specs.Scans.{Scans, IfBad}
use Rattle.wire_base.specs.declared.scan.At.{At}
use Rattle.wire_base.specs.declared.scan.Scan.{Scan}
use Rattle.wire_base.specs.declared.scan.Scan.TheVariants.{Bad}
use Rattle.wire_base.proofs.Headers.{scans, parts, told}
use Rattle.frames_10.specs.declared.frame.Kind10.{Kind10}
use Rattle.frames_10.specs.declared.header.NotHeader.{NotHeader}
use Rattle.frames_10.specs.Headers.{IsHeader, IsHeaderFault, header_bytes, header_scan}

pub faults_are : (kind : Kind10) (bytes : List ℕ) (at : At NotHeader)
    → (header_scan kind bytes ≡ Bad at) ↔ IsHeaderFault kind bytes at
faults_are kind bytes at =
    let none : NotHeader = record {} in
    let Told : Scan (Unit {0}) (At NotHeader) → Type 0 = λ s. IfBad s (IsHeaderFault kind bytes) in
    ((λ is. subst Told is (parts none (header_bytes kind) bytes)), told none (header_bytes kind) bytes at.at)

pub scans_by : (kind : Kind10) (bytes : List ℕ) (answer : Scan (Unit {0}) (At NotHeader)) → answer ≡ header_scan kind bytes
    → Scans (IsHeader kind) bytes answer
scans_by kind bytes answer is =
    let none : NotHeader = record {} in
    let Answers : Scan (Unit {0}) (At NotHeader) → Type 0 = Scans (IsHeader kind) bytes in
    subst Answers (sym is) (scans none (header_bytes kind) bytes)

pub faults_by : (kind : Kind10) (bytes : List ℕ) (answer : Scan (Unit {0}) (At NotHeader)) → answer ≡ header_scan kind bytes
    → IfBad answer (IsHeaderFault kind bytes)
faults_by kind bytes answer is =
    let none : NotHeader = record {} in
    let Told : Scan (Unit {0}) (At NotHeader) → Type 0 = λ s. IfBad s (IsHeaderFault kind bytes) in
    subst Told (sym is) (parts none (header_bytes kind) bytes)
