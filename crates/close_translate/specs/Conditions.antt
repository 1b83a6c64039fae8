-- The error conditions of AMQP 1.0 (2.8.15 to 2.8.18) and the reply codes of AMQP 0-9-1 for them,
-- of a channel and of a connection.
use Rattle.std.specs.Prelude.{ℕ, ◌==◌, if◌then◌else◌, List, [], ◌∷◌, Option, None, Some, codes}
use Rattle.std.specs.Str.{bytes_eq}
use Rattle.close_translate.specs.declared.codes.TheConstants.{ACCESS_REFUSED, CONNECTION_FORCED}
use Rattle.close_translate.specs.declared.codes.TheConstants.{FRAME_ERROR, INTERNAL_ERROR}
use Rattle.close_translate.specs.declared.codes.TheConstants.{NOT_ALLOWED}
use Rattle.close_translate.specs.declared.codes.TheConstants.{NOT_FOUND, NOT_IMPLEMENTED}
use Rattle.close_translate.specs.declared.codes.TheConstants.{PRECONDITION_FAILED, RESOURCE_ERROR}
use Rattle.close_translate.specs.declared.codes.TheConstants.{RESOURCE_LOCKED}
use Rattle.close_translate.specs.declared.codes.TheConstants.{SYNTAX_ERROR, CHANNEL_ERROR}
use Rattle.close_translate.specs.declared.codes.TheConstants.{COMMAND_INVALID, CONTENT_TOO_LARGE}
use Rattle.close_translate.specs.declared.codes.TheConstants.{UNEXPECTED_FRAME}
use Rattle.close_translate.specs.declared.conditions.Replies.{Replies}
use Rattle.close_translate.specs.declared.conditions.Scope.{Scope}
use Rattle.close_translate.specs.declared.conditions.Scope.TheVariants.{Channel, Connection}
use Rattle.performatives_10.specs.declared.condition.Condition.{Condition}
use Rattle.performatives_10.specs.declared.condition.Condition.TheVariants as condition

-- a row of the table: the condition, the code of a channel, the code of a connection
abbrev pub rows : List (List ℕ × ℕ × ℕ)
rows =
    (codes "amqp:unauthorized-access", ACCESS_REFUSED, NOT_ALLOWED)
    ∷ (codes "amqp:not-allowed", ACCESS_REFUSED, NOT_ALLOWED)
    ∷ (codes "amqp:not-found", NOT_FOUND, INTERNAL_ERROR)
    ∷ (codes "amqp:resource-deleted", NOT_FOUND, INTERNAL_ERROR)
    ∷ (codes "amqp:resource-locked", RESOURCE_LOCKED, INTERNAL_ERROR)
    ∷ (codes "amqp:connection:forced", PRECONDITION_FAILED, CONNECTION_FORCED)
    ∷ (codes "amqp:connection:redirect", PRECONDITION_FAILED, CONNECTION_FORCED)
    ∷ (codes "amqp:connection:framing-error", PRECONDITION_FAILED, FRAME_ERROR)
    ∷ (codes "amqp:frame-size-too-small", PRECONDITION_FAILED, FRAME_ERROR)
    ∷ (codes "amqp:decode-error", PRECONDITION_FAILED, SYNTAX_ERROR)
    ∷ (codes "amqp:invalid-field", PRECONDITION_FAILED, SYNTAX_ERROR)
    ∷ (codes "amqp:resource-limit-exceeded", PRECONDITION_FAILED, RESOURCE_ERROR)
    ∷ (codes "amqp:not-implemented", PRECONDITION_FAILED, NOT_IMPLEMENTED)
    ∷ []

-- the codes that a table gives to a condition; those of one that isn't there
abbrev pub codes_in : List (List ℕ × ℕ × ℕ) → List ℕ → Replies
codes_in [] condition = record { channel = PRECONDITION_FAILED; connection = INTERNAL_ERROR }
codes_in (row ∷ more) condition =
    if bytes_eq condition row.0 then record { channel = row.1; connection = row.2 }
    else codes_in more condition

abbrev pub codes_of : List ℕ → Replies
codes_of condition = codes_in rows condition

-- without a condition a channel's precondition failed, and a connection was forced to close
abbrev pub codes_by : Option (List ℕ) → Replies
codes_by None = record { channel = PRECONDITION_FAILED; connection = CONNECTION_FORCED }
codes_by (Some condition) = codes_of condition

abbrev pub code_in : Replies → Scope → ℕ
code_in c Channel = c.channel
code_in c Connection = c.connection

abbrev pub code_by : Option (List ℕ) → Scope → ℕ
code_by condition scope = code_in (codes_by condition) scope

-- ---- the other way

-- a row of the table: the code of a refusal, and the condition with which a session ends or a
-- connection closes for it
abbrev pub conditions : List (ℕ × Condition)
conditions =
    (CONTENT_TOO_LARGE, condition.MessageSizeExceeded)
    ∷ (CONNECTION_FORCED, condition.ConnectionForced)
    ∷ (ACCESS_REFUSED, condition.NotAllowed)
    ∷ (NOT_ALLOWED, condition.NotAllowed)
    ∷ (NOT_FOUND, condition.NotFound)
    ∷ (RESOURCE_LOCKED, condition.ResourceLocked)
    ∷ (PRECONDITION_FAILED, condition.PreconditionFailed)
    ∷ (FRAME_ERROR, condition.IllegalState)
    ∷ (CHANNEL_ERROR, condition.IllegalState)
    ∷ (UNEXPECTED_FRAME, condition.IllegalState)
    ∷ (SYNTAX_ERROR, condition.DecodeError)
    ∷ (COMMAND_INVALID, condition.NotAllowed)
    ∷ (RESOURCE_ERROR, condition.ResourceLimitExceeded)
    ∷ (NOT_IMPLEMENTED, condition.NotImplemented)
    ∷ []

-- the condition that a table gives to a code; that of one that isn't there
abbrev pub condition_in : List (ℕ × Condition) → ℕ → Condition
condition_in [] code = condition.InternalError
condition_in (row ∷ more) code = if code == row.0 then row.1 else condition_in more code

abbrev pub condition_of : ℕ → Condition
condition_of code = condition_in conditions code
