-- The names of error conditions (AMQP 1.0 2.8.15 to 2.8.18).
use Rattle.std.specs.Prelude.{ℕ, List, codes}
use Rattle.performatives_10.specs.declared.condition.Condition.{Condition}
use Rattle.performatives_10.specs.declared.condition.Condition.TheVariants as condition

abbrev pub name_of : Condition → List ℕ
name_of condition.InternalError = codes "amqp:internal-error"
name_of condition.NotFound = codes "amqp:not-found"
name_of condition.UnauthorizedAccess = codes "amqp:unauthorized-access"
name_of condition.DecodeError = codes "amqp:decode-error"
name_of condition.ResourceLimitExceeded = codes "amqp:resource-limit-exceeded"
name_of condition.NotAllowed = codes "amqp:not-allowed"
name_of condition.InvalidField = codes "amqp:invalid-field"
name_of condition.NotImplemented = codes "amqp:not-implemented"
name_of condition.ResourceLocked = codes "amqp:resource-locked"
name_of condition.PreconditionFailed = codes "amqp:precondition-failed"
name_of condition.ResourceDeleted = codes "amqp:resource-deleted"
name_of condition.IllegalState = codes "amqp:illegal-state"
name_of condition.FrameSizeTooSmall = codes "amqp:frame-size-too-small"
name_of condition.ConnectionForced = codes "amqp:connection:forced"
name_of condition.FramingError = codes "amqp:connection:framing-error"
name_of condition.ConnectionRedirect = codes "amqp:connection:redirect"
name_of condition.WindowViolation = codes "amqp:session:window-violation"
name_of condition.UnattachedHandle = codes "amqp:session:unattached-handle"
name_of condition.HandleInUse = codes "amqp:session:handle-in-use"
name_of condition.TransferLimitExceeded = codes "amqp:link:transfer-limit-exceeded"
name_of condition.MessageSizeExceeded = codes "amqp:link:message-size-exceeded"
