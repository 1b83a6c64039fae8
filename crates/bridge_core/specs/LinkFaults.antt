-- What is wrong with a performative that names a link, and what closes by it.
use Rattle.std.specs.Prelude.{ℕ, Bool, true, false, ◌==◌, ◌||◌, List, Option, None, Some}
use Rattle.close_translate.specs.declared.conditions.Scope.{Scope}
use Rattle.close_translate.specs.declared.conditions.Scope.TheVariants as scope
use Rattle.machine_10.specs.Parts.{Parts}
use Rattle.machine_10.specs.Transitions.{Meaning}
use Rattle.machine_10.specs.Transitions as means
use Rattle.performatives_10.specs.declared.condition.Condition.{Condition}
use Rattle.performatives_10.specs.declared.condition.Condition.TheVariants.{UnattachedHandle}
use Rattle.session_path.specs.Path.{PathState}
use Rattle.gate_model.specs.declared.life.SessionState.{SessionState}
use Rattle.gate_model.specs.State.{closing_error, ending_error, link_scope}
use Rattle.bridge_core.specs.declared.path_changes.LinkFault.{LinkFault}
use Rattle.bridge_core.specs.declared.path_changes.LinkFault.TheVariants.{Closes, Ends}

abbrev pub fault_in : Option Scope → Parts → List ℕ → SessionState → PathState → Option LinkFault
fault_in None p payload x s = None
fault_in (Some scope.Connection) p payload x s = Some (Closes (closing_error p s))
fault_in (Some scope.Channel) p payload x s = Some (Ends (ending_error p payload x s))

abbrev pub link_fault : Parts → List ℕ → SessionState → PathState → Option LinkFault
link_fault p payload x s = fault_in (link_scope p payload x s) p payload x s

-- a session that ends with this error
abbrev pub ended_by : Option Condition → Option LinkFault
ended_by None = None
ended_by (Some c) = Some (Ends c)

-- one whose handle isn't attached
abbrev pub ended_unless : Bool → Option LinkFault
ended_unless true = None
ended_unless false = Some (Ends UnattachedHandle)

-- ---- which may run out of memory: attaches, flows, transfers and dispositions

abbrev pub takes_memory_of : Parts → Bool
takes_memory_of p = (p.0 == 18) || ((p.0 == 19) || ((p.0 == 20) || (p.0 == 21)))

abbrev pub takes_memory_by : Meaning → Bool
takes_memory_by means.Nothing = false
takes_memory_by means.Init = false
takes_memory_by means.AmqpHeader = false
takes_memory_by means.Opened = false
takes_memory_by (means.OfSession g p payload) = takes_memory_of p
takes_memory_by (means.Closed e) = false
takes_memory_by means.Refused = false
takes_memory_by (means.Violation c) = false
