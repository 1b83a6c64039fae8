-- This file is written by tools/generate_performatives.py from the definition of AMQP 1.0.

-- A performative as its kind and its fields in order: null for an absent field.
use Rattle.std.specs.Prelude.{List, [], ◌∷◌}
use Rattle.types_10.specs.Tree.{Tree}
use Rattle.types_10.specs.Fields.{maybe, a_boolean, a_ubyte, a_ushort, a_uint, a_ulong, a_binary}
use Rattle.types_10.specs.Fields.{a_string, a_symbol, a_value}
use Rattle.types_10.specs.View.{value_tree}
use Rattle.performatives_10.specs.Rows.{error_code, received_code, accepted_code, rejected_code}
use Rattle.performatives_10.specs.Rows.{released_code, modified_code, source_code, target_code}
use Rattle.performatives_10.specs.Composites.{composite}
use Rattle.performatives_10.specs.declared.kind.PerfKind.{PerfKind}
use Rattle.performatives_10.specs.declared.kind.PerfKind.TheVariants as row
use Rattle.performatives_10.specs.declared.performative.Perf.TheVariants as perf
use Rattle.performatives_10.specs.declared.performative.State.TheVariants as state
use Rattle.performatives_10.specs.declared.performative.Error10.{Error10}
use Rattle.performatives_10.specs.declared.performative.Source10.{Source10}
use Rattle.performatives_10.specs.declared.performative.Target10.{Target10}
use Rattle.performatives_10.specs.declared.performative.State.{State}
use Rattle.performatives_10.specs.declared.performative.Perf.{Perf}
use Rattle.performatives_10.specs.declared.performative.Open.{Open}
use Rattle.performatives_10.specs.declared.performative.Begin.{Begin}
use Rattle.performatives_10.specs.declared.performative.Attach.{Attach}
use Rattle.performatives_10.specs.declared.performative.Flow.{Flow}
use Rattle.performatives_10.specs.declared.performative.Transfer.{Transfer}
use Rattle.performatives_10.specs.declared.performative.Disposition.{Disposition}
use Rattle.performatives_10.specs.declared.performative.Detach.{Detach}
use Rattle.performatives_10.specs.declared.performative.End.{End}
use Rattle.performatives_10.specs.declared.performative.Close.{Close}
use Rattle.performatives_10.specs.declared.performative.SaslMechanisms.{SaslMechanisms}
use Rattle.performatives_10.specs.declared.performative.SaslInit.{SaslInit}
use Rattle.performatives_10.specs.declared.performative.SaslChallenge.{SaslChallenge}
use Rattle.performatives_10.specs.declared.performative.SaslResponse.{SaslResponse}
use Rattle.performatives_10.specs.declared.performative.SaslOutcome.{SaslOutcome}

-- of an error its information is dropped
abbrev pub error_fields : Error10 → List Tree
error_fields p =
    a_symbol p.condition
    ∷ maybe a_string p.description
    ∷ []

abbrev pub error_tree : Error10 → Tree
error_tree p = composite error_code (error_fields p)

-- of a state only the error of a rejection is kept
abbrev pub state_tree : State → Tree
state_tree state.Received = composite received_code []
state_tree state.Accepted = composite accepted_code []
state_tree (state.Rejected e) = composite rejected_code (maybe error_tree e ∷ [])
state_tree state.Released = composite released_code []
state_tree state.Modified = composite modified_code []

abbrev pub source_fields : Source10 → List Tree
source_fields p =
    maybe a_string p.address
    ∷ maybe a_uint p.durable
    ∷ maybe a_symbol p.expiry_policy
    ∷ maybe a_uint p.timeout
    ∷ maybe a_boolean p.dynamic
    ∷ maybe a_value p.dynamic_node_properties
    ∷ maybe a_symbol p.distribution_mode
    ∷ maybe a_value p.filter
    ∷ maybe a_value p.default_outcome
    ∷ maybe a_value p.outcomes
    ∷ maybe a_value p.capabilities
    ∷ []

abbrev pub source_tree : Source10 → Tree
source_tree p = composite source_code (source_fields p)

abbrev pub target_fields : Target10 → List Tree
target_fields p =
    maybe a_string p.address
    ∷ maybe a_uint p.durable
    ∷ maybe a_symbol p.expiry_policy
    ∷ maybe a_uint p.timeout
    ∷ maybe a_boolean p.dynamic
    ∷ maybe a_value p.dynamic_node_properties
    ∷ maybe a_value p.capabilities
    ∷ []

abbrev pub target_tree : Target10 → Tree
target_tree p = composite target_code (target_fields p)

abbrev pub open_fields : Open → List Tree
open_fields p =
    a_string p.container_id
    ∷ maybe a_string p.hostname
    ∷ a_uint p.max_frame_size
    ∷ a_ushort p.channel_max
    ∷ maybe a_uint p.idle_time_out
    ∷ maybe a_value p.outgoing_locales
    ∷ maybe a_value p.incoming_locales
    ∷ maybe a_value p.offered_capabilities
    ∷ maybe a_value p.desired_capabilities
    ∷ maybe a_value p.properties
    ∷ []

abbrev pub begin_fields : Begin → List Tree
begin_fields p =
    maybe a_ushort p.remote_channel
    ∷ a_uint p.next_outgoing_id
    ∷ a_uint p.incoming_window
    ∷ a_uint p.outgoing_window
    ∷ a_uint p.handle_max
    ∷ maybe a_value p.offered_capabilities
    ∷ maybe a_value p.desired_capabilities
    ∷ maybe a_value p.properties
    ∷ []

abbrev pub attach_fields : Attach → List Tree
attach_fields p =
    a_string p.name
    ∷ a_uint p.handle
    ∷ a_boolean p.role
    ∷ a_ubyte p.snd_settle_mode
    ∷ a_ubyte p.rcv_settle_mode
    ∷ maybe source_tree p.source
    ∷ maybe target_tree p.target
    ∷ maybe a_value p.unsettled
    ∷ a_boolean p.incomplete_unsettled
    ∷ maybe a_uint p.initial_delivery_count
    ∷ maybe a_ulong p.max_message_size
    ∷ maybe a_value p.offered_capabilities
    ∷ maybe a_value p.desired_capabilities
    ∷ maybe a_value p.properties
    ∷ []

abbrev pub flow_fields : Flow → List Tree
flow_fields p =
    maybe a_uint p.next_incoming_id
    ∷ a_uint p.incoming_window
    ∷ a_uint p.next_outgoing_id
    ∷ a_uint p.outgoing_window
    ∷ maybe a_uint p.handle
    ∷ maybe a_uint p.delivery_count
    ∷ maybe a_uint p.link_credit
    ∷ maybe a_uint p.available
    ∷ a_boolean p.drain
    ∷ a_boolean p.echo
    ∷ maybe a_value p.properties
    ∷ []

abbrev pub transfer_fields : Transfer → List Tree
transfer_fields p =
    a_uint p.handle
    ∷ maybe a_uint p.delivery_id
    ∷ maybe a_binary p.delivery_tag
    ∷ maybe a_uint p.message_format
    ∷ maybe a_boolean p.settled
    ∷ a_boolean p.more
    ∷ maybe a_ubyte p.rcv_settle_mode
    ∷ maybe state_tree p.state
    ∷ a_boolean p.resume
    ∷ a_boolean p.aborted
    ∷ a_boolean p.batchable
    ∷ []

abbrev pub disposition_fields : Disposition → List Tree
disposition_fields p =
    a_boolean p.role
    ∷ a_uint p.first
    ∷ maybe a_uint p.last
    ∷ a_boolean p.settled
    ∷ maybe state_tree p.state
    ∷ a_boolean p.batchable
    ∷ []

abbrev pub detach_fields : Detach → List Tree
detach_fields p =
    a_uint p.handle
    ∷ a_boolean p.closed
    ∷ maybe error_tree p.error
    ∷ []

abbrev pub end_fields : End → List Tree
end_fields p =
    maybe error_tree p.error
    ∷ []

abbrev pub close_fields : Close → List Tree
close_fields p =
    maybe error_tree p.error
    ∷ []

abbrev pub sasl_mechanisms_fields : SaslMechanisms → List Tree
sasl_mechanisms_fields p =
    value_tree p.mechanisms
    ∷ []

abbrev pub sasl_init_fields : SaslInit → List Tree
sasl_init_fields p =
    a_symbol p.mechanism
    ∷ maybe a_binary p.initial_response
    ∷ maybe a_string p.hostname
    ∷ []

abbrev pub sasl_challenge_fields : SaslChallenge → List Tree
sasl_challenge_fields p =
    a_binary p.challenge
    ∷ []

abbrev pub sasl_response_fields : SaslResponse → List Tree
sasl_response_fields p =
    a_binary p.response
    ∷ []

abbrev pub sasl_outcome_fields : SaslOutcome → List Tree
sasl_outcome_fields p =
    a_ubyte p.code
    ∷ maybe a_binary p.additional_data
    ∷ []

-- the row of a performative
abbrev pub kind_of : Perf → PerfKind
kind_of (perf.Open p) = row.Open
kind_of (perf.Begin p) = row.Begin
kind_of (perf.Attach p) = row.Attach
kind_of (perf.Flow p) = row.Flow
kind_of (perf.Transfer p) = row.Transfer
kind_of (perf.Disposition p) = row.Disposition
kind_of (perf.Detach p) = row.Detach
kind_of (perf.End p) = row.End
kind_of (perf.Close p) = row.Close
kind_of (perf.SaslMechanisms p) = row.SaslMechanisms
kind_of (perf.SaslInit p) = row.SaslInit
kind_of (perf.SaslChallenge p) = row.SaslChallenge
kind_of (perf.SaslResponse p) = row.SaslResponse
kind_of (perf.SaslOutcome p) = row.SaslOutcome

-- its fields, in the order of that row
abbrev pub fields_of : Perf → List Tree
fields_of (perf.Open p) = open_fields p
fields_of (perf.Begin p) = begin_fields p
fields_of (perf.Attach p) = attach_fields p
fields_of (perf.Flow p) = flow_fields p
fields_of (perf.Transfer p) = transfer_fields p
fields_of (perf.Disposition p) = disposition_fields p
fields_of (perf.Detach p) = detach_fields p
fields_of (perf.End p) = end_fields p
fields_of (perf.Close p) = close_fields p
fields_of (perf.SaslMechanisms p) = sasl_mechanisms_fields p
fields_of (perf.SaslInit p) = sasl_init_fields p
fields_of (perf.SaslChallenge p) = sasl_challenge_fields p
fields_of (perf.SaslResponse p) = sasl_response_fields p
fields_of (perf.SaslOutcome p) = sasl_outcome_fields p

-- both together
abbrev pub parts_of : Perf → PerfKind × List Tree
parts_of p = (kind_of p, fields_of p)
