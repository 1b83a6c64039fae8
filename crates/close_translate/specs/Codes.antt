-- The names of the reply codes of AMQP 0-9-1 (reference 1.1), with RabbitMQ's NO_ROUTE, that the
-- gateway uses.
use Rattle.std.specs.Prelude.{ℕ, ◌==◌, if◌then◌else◌, List, [], ◌∷◌, codes}
use Rattle.close_translate.specs.declared.codes.TheConstants.{CONTENT_TOO_LARGE, NO_ROUTE}
use Rattle.close_translate.specs.declared.codes.TheConstants.{CONNECTION_FORCED, INVALID_PATH}
use Rattle.close_translate.specs.declared.codes.TheConstants.{ACCESS_REFUSED, NOT_FOUND}
use Rattle.close_translate.specs.declared.codes.TheConstants.{RESOURCE_LOCKED, PRECONDITION_FAILED}
use Rattle.close_translate.specs.declared.codes.TheConstants.{FRAME_ERROR, SYNTAX_ERROR}
use Rattle.close_translate.specs.declared.codes.TheConstants.{COMMAND_INVALID, CHANNEL_ERROR}
use Rattle.close_translate.specs.declared.codes.TheConstants.{UNEXPECTED_FRAME, RESOURCE_ERROR}
use Rattle.close_translate.specs.declared.codes.TheConstants.{NOT_ALLOWED, NOT_IMPLEMENTED}
use Rattle.close_translate.specs.declared.codes.TheConstants.{INTERNAL_ERROR}

-- a row of the table: the code and its name
abbrev pub names : List (ℕ × List ℕ)
names =
    (CONTENT_TOO_LARGE, codes "CONTENT_TOO_LARGE")
    ∷ (NO_ROUTE, codes "NO_ROUTE")
    ∷ (CONNECTION_FORCED, codes "CONNECTION_FORCED")
    ∷ (INVALID_PATH, codes "INVALID_PATH")
    ∷ (ACCESS_REFUSED, codes "ACCESS_REFUSED")
    ∷ (NOT_FOUND, codes "NOT_FOUND")
    ∷ (RESOURCE_LOCKED, codes "RESOURCE_LOCKED")
    ∷ (PRECONDITION_FAILED, codes "PRECONDITION_FAILED")
    ∷ (FRAME_ERROR, codes "FRAME_ERROR")
    ∷ (SYNTAX_ERROR, codes "SYNTAX_ERROR")
    ∷ (COMMAND_INVALID, codes "COMMAND_INVALID")
    ∷ (CHANNEL_ERROR, codes "CHANNEL_ERROR")
    ∷ (UNEXPECTED_FRAME, codes "UNEXPECTED_FRAME")
    ∷ (RESOURCE_ERROR, codes "RESOURCE_ERROR")
    ∷ (NOT_ALLOWED, codes "NOT_ALLOWED")
    ∷ (NOT_IMPLEMENTED, codes "NOT_IMPLEMENTED")
    ∷ (INTERNAL_ERROR, codes "INTERNAL_ERROR")
    ∷ []

-- the name that a table gives to a code; one that isn't there is an internal error
abbrev pub name_in : List (ℕ × List ℕ) → ℕ → List ℕ
name_in [] code = codes "INTERNAL_ERROR"
name_in (row ∷ rows) code = if code == row.0 then row.1 else name_in rows code

abbrev pub name_of : ℕ → List ℕ
name_of code = name_in names code
