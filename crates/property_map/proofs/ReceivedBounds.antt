-- What is received has short names, and a content header within its room.
use Rattle.std.proofs.Common.{◌≡◌, ℕ, List, Option, Some, None, IfSome, Result, Ok, Err, refl}
use Rattle.wire_base.specs.declared.scan.At.{At}
use Rattle.sections_10.specs.Reading.{message_in}
use Rattle.sections_10.specs.View.{Kept}
use Rattle.sections_10.specs.declared.reading.SectionFault.{SectionFault}
use Rattle.property_map.specs.Facts.{Facts, facts_in}
use Rattle.property_map.specs.Image091.{image_by, is_delivered_again}
use Rattle.property_map.specs.Received.{received_by, received_in, received_of, received_with}
use Rattle.property_map.specs.declared.fault.MapFault.{MapFault}
use Rattle.property_map.specs.declared.message.Message091.{Message091}
use Rattle.property_map.specs.declared.received.Received.{Received}
use Rattle.property_map.proofs.Writables.{Bounds, image_bounds}

abbrev pub AreBounded : ℕ → Option Received → Type 0
AreBounded room o = IfSome o (λ r. Bounds room r.message)

by_image : (queue : List ℕ) (room : ℕ) (f : Facts) (image : Result Message091 MapFault) → image_by queue room f ≡ image
    → AreBounded room (received_with (is_delivered_again f) image)
by_image queue room f (Ok m) e = image_bounds queue room f m e
by_image queue room f (Err x) e = tt

by_facts : (queue : List ℕ) (room : ℕ) (f : Facts) → AreBounded room (received_by queue room f)
by_facts queue room f = by_image queue room f (image_by queue room f) refl

by_message : (queue : List ℕ) (room : ℕ) (read : Result Kept (At SectionFault)) → AreBounded room (received_of queue room read)
by_message queue room (Ok k) = by_facts queue room (facts_in k)
by_message queue room (Err e) = tt

pub received_bounds : (queue : List ℕ) (room : ℕ) (bytes : List ℕ) → AreBounded room (received_in queue room bytes)
unfolding received_in
received_bounds queue room bytes = by_message queue room (message_in bytes)

-- and so has what such messages have
pub all_received : (P : Message091 → Type 0) (room : ℕ) (o : Option Received) → ((m : Message091) → Bounds room m → P m) → AreBounded room o → IfSome o (λ r. P r.message)
all_received P room None p b = tt
all_received P room (Some r) p b = p r.message b
