-- The numbers of calls, and the calls that are to fail.
use Rattle.std.specs.Prelude.{ℕ, ◌+◌, ◌==◌, Bool, if◌then◌else◌, min}
use Rattle.std.specs.List.{list_any}
use Rattle.gate_outside.specs.declared.calls.Calls.{Calls}

-- counts and moments stand still at the largest number of 64 bits
abbrev pub capped : ℕ → ℕ
capped n = min n 18446744073709551615

abbrev pub one_more : ℕ → ℕ
one_more count = capped (count + 1)

-- the number of the next call stands among those that are to fail
abbrev pub is_to_fail : Calls → Bool
is_to_fail calls = list_any (λ number. number == calls.call) calls.fails

-- after a call
abbrev pub counted : Calls → Calls
counted calls = record calls { call = one_more calls.call }

-- after a call that failed
abbrev pub failed : Calls → Calls
failed calls = record calls { call = one_more calls.call; faults = one_more calls.faults }

-- after a call that fails where its number says so
abbrev pub tried : Calls → Calls
tried calls = if is_to_fail calls then failed calls else counted calls
