-- The places of the order of refusals that ask of a method before the connection runs: the one that
-- is expected, and what it says (AMQP 0-9-1 2.2.4 and 1.4.2).
use Rattle.std.specs.Prelude.{ℕ, codes, Bool, false, ◌&&◌, ◌||◌, nat_le, if◌then◌else◌, List}
use Rattle.std.specs.Prelude.{length, Option, None, Ok, Err}
use Rattle.std.specs.Str.{bytes_eq}
use Rattle.close_translate.specs.declared.codes.TheConstants.{COMMAND_INVALID, NOT_ALLOWED}
use Rattle.methods_091.specs.Arguments.{Arg}
use Rattle.methods_091.specs.Reading.{Read}
use Rattle.methods_091.specs.Rows.{Kind}
use Rattle.machine_091.specs.Ids.{is_of_kind}
use Rattle.machine_091.specs.Limits.{is_agreed}
use Rattle.machine_091.specs.Methods.{text_at, number_at}
use Rattle.machine_091.specs.RefusalsFrames.{refused}
use Rattle.machine_091.specs.declared.ids.TheConstants.{CONNECTION_START_OK, CONNECTION_TUNE_OK}
use Rattle.machine_091.specs.declared.ids.TheConstants.{CONNECTION_OPEN}
use Rattle.machine_091.specs.declared.limits.TheConstants.{RESPONSE_MAX}
use Rattle.machine_091.specs.declared.state.Connection.{Connection}
use Rattle.machine_091.specs.declared.state.Phase91.{Phase91}
use Rattle.machine_091.specs.declared.state.Phase91.TheVariants as phase
use Rattle.machine_091.specs.declared.unit.Ruling.{Ruling}

-- ---- the method that is expected

-- connection.open is expected once
abbrev pub is_expected_in : Phase91 → Bool → Kind → Bool
is_expected_in phase.Header asked k = false
is_expected_in phase.Start asked k = is_of_kind CONNECTION_START_OK k
is_expected_in phase.Tune asked k = is_of_kind CONNECTION_TUNE_OK k
is_expected_in phase.Open asked k = if asked then false else is_of_kind CONNECTION_OPEN k
is_expected_in phase.Running asked k = false
is_expected_in phase.Closing asked k = false
is_expected_in phase.Closed asked k = false

abbrev pub is_expected : Connection → Kind → Bool
is_expected c k = is_expected_in c.phase c.asked k

-- a method that can be read, other than the expected one
abbrev pub expected_order : Connection → Read → Option Ruling
expected_order c (Ok m) = if is_expected c m.0 then None else refused COMMAND_INVALID
expected_order c (Err e) = None

-- ---- what it says

-- a login by PLAIN or ANONYMOUS, whose response has at most 300 bytes
abbrev pub is_login : List ℕ → List ℕ → Bool
is_login mechanism response =
    (bytes_eq mechanism (codes "PLAIN") || bytes_eq mechanism (codes "ANONYMOUS"))
    && nat_le (length response) RESPONSE_MAX

-- the method isn't allowed
abbrev pub unless : Bool → Option Ruling
unless allowed = if allowed then None else refused NOT_ALLOWED

-- another login, other limits, or another virtual host
abbrev pub opening_refusal_in : List ℕ → List Arg → Phase91 → Option Ruling
opening_refusal_in vhost args phase.Header = None
opening_refusal_in vhost args phase.Start = unless (is_login (text_at 1 args) (text_at 2 args))
opening_refusal_in vhost args phase.Tune = unless (is_agreed (number_at 0 args) (number_at 1 args))
opening_refusal_in vhost args phase.Open = unless (bytes_eq (text_at 0 args) vhost)
opening_refusal_in vhost args phase.Running = None
opening_refusal_in vhost args phase.Closing = None
opening_refusal_in vhost args phase.Closed = None

abbrev pub opening_refusal : Connection → List Arg → Option Ruling
opening_refusal c args = opening_refusal_in c.vhost args c.phase
