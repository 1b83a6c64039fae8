-- What read_perf answers, as this crate sees it.
use Rattle.std.proofs.Common.{◌≡◌, ℕ, List, Result, Ok, Err, IfOk, refl, ◌∙◌, ap}
use Rattle.performatives_10.specs.Reading.{perf_at, seen}
use Rattle.performatives_10.specs.declared.fault.PerfFault.{PerfFault}
use Rattle.performatives_10.specs.declared.performative.Perf.{Perf}
use Rattle.machine_10.specs.Parts.{parts_of}
use Rattle.machine_10.specs.Reading.{coded_read, read_of, read_at}

coded_seen : (r : Result (Perf × ℕ) PerfFault) → read_of r ≡ coded_read (seen r)
unfolding parts_of read_of
coded_seen (Ok x) = refl
coded_seen (Err e) = refl

read_is : (r : Result (Perf × ℕ) PerfFault) (bytes : List ℕ) → seen r ≡ perf_at bytes → read_of r ≡ read_at bytes
unfolding read_at
read_is r bytes e = coded_seen r ∙ ap coded_read e

-- the same where there was memory
pub read_lifted : {E : Type 0} (r : Result (Result (Perf × ℕ) PerfFault) E) (bytes : List ℕ)
    → IfOk r (λ read. seen read ≡ perf_at bytes) → IfOk r (λ read. read_of read ≡ read_at bytes)
read_lifted (Ok read) bytes e = read_is read bytes e
read_lifted (Err m) bytes e = e
