-- What a client is told of a message that has no image: the name of the fault, and of the part of
-- the message that it is in, as AMQP 0-9-1 has it.
use Rattle.std.specs.Prelude.{List, ℕ, ◌∷◌, ◌++◌, codes, Option, Some, None}
use Rattle.property_map.specs.declared.fault.MapFault.{MapFault}
use Rattle.property_map.specs.declared.fault.MapFault.TheVariants as fault
use Rattle.property_map.specs.declared.fault.PropName.{PropName}
use Rattle.property_map.specs.declared.fault.PropName.TheVariants as part
use Rattle.property_map.specs.declared.told.FaultName.{FaultName}
use Rattle.property_map.specs.declared.told.FaultName.TheVariants as name
use Rattle.property_map.specs.declared.told.Told.{Told}

abbrev pub fault_text : FaultName → List ℕ
fault_text name.NotUtf8 = codes "NotUtf8"
fault_text name.NotAscii = codes "NotAscii"
fault_text name.Expiration = codes "Expiration"
fault_text name.DeliveryMode = codes "DeliveryMode"
fault_text name.Time = codes "Time"
fault_text name.Reserved = codes "Reserved"
fault_text name.Repeated = codes "Repeated"
fault_text name.Depth = codes "Depth"
fault_text name.TooLong = codes "TooLong"
fault_text name.BodyKind = codes "BodyKind"
fault_text name.ValueKind = codes "ValueKind"

abbrev pub part_text : PropName → List ℕ
part_text part.Exchange = codes "exchange"
part_text part.RoutingKey = codes "routing-key"
part_text part.ContentType = codes "content-type"
part_text part.ContentEncoding = codes "content-encoding"
part_text part.Headers = codes "headers"
part_text part.DeliveryMode = codes "delivery-mode"
part_text part.Priority = codes "priority"
part_text part.CorrelationId = codes "correlation-id"
part_text part.ReplyTo = codes "reply-to"
part_text part.Expiration = codes "expiration"
part_text part.MessageId = codes "message-id"
part_text part.Timestamp = codes "timestamp"
part_text part.Kind = codes "type"
part_text part.UserId = codes "user-id"
part_text part.AppId = codes "app-id"
part_text part.ClusterId = codes "cluster-id"
part_text part.Header = codes "header"
part_text part.Body = codes "body"

-- both, with a blank between them
abbrev pub told_text : Told → List ℕ
told_text t = fault_text t.fault ++ 32 ∷ part_text t.part

abbrev pub told : FaultName → PropName → Option Told
told f p = Some (record { fault = f; part = p })

-- a fault inside the headers is one of these
abbrev pub told_of : MapFault → Option Told
told_of (fault.NotUtf8 p) = told name.NotUtf8 p
told_of (fault.NotAscii p) = told name.NotAscii p
told_of fault.Expiration = told name.Expiration part.Expiration
told_of fault.DeliveryMode = told name.DeliveryMode part.DeliveryMode
told_of (fault.Time p) = told name.Time p
told_of (fault.Reserved text) = told name.Reserved part.Headers
told_of (fault.Repeated text) = told name.Repeated part.Headers
told_of fault.Depth = told name.Depth part.Headers
told_of (fault.TooLong p) = told name.TooLong p
told_of fault.BodyKind = told name.BodyKind part.Body
told_of (fault.ValueKind p) = told name.ValueKind p
told_of fault.Memory = None
