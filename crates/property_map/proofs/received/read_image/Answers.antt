use Rattle.std.proofs.Common.{◌≡◌, ℕ, ◌≤◌, List, length, Option, Some, None, IfOk, IfSome, Result, Ok}
use Rattle.std.proofs.Common.{Err, sym, ap, subst, ◌∙◌}
use Rattle.wire_base.specs.declared.scan.At.{At}
use Rattle.wire_base.specs.declared.memory.Memory.{Memory}
use Rattle.content_091.specs.Writing.{header_text, CanPut}
use Rattle.sections_10.specs.Grammar.{IsMessage}
use Rattle.sections_10.specs.Reading.{message_in, seen}
use Rattle.sections_10.specs.View.{kept_of}
use Rattle.sections_10.specs.declared.message.Message10.{Message10}
use Rattle.sections_10.specs.declared.reading.SectionFault.{SectionFault}
use Rattle.property_map.specs.Facts.{facts_of, facts_in, AreShallow}
use Rattle.property_map.specs.Received.{received_by, received_of, received_in, header_of, CanBeSent}
use Rattle.property_map.specs.declared.message.Message091.{Message091}
use Rattle.property_map.specs.declared.received.Received.{Received}
use Rattle.property_map.proofs.FactLaws.{message_shallow}
use Rattle.property_map.proofs.received.read_image.Goals as goal

abbrev Read : Type 0
Read = Result Message10 (At SectionFault)

-- what bytes are to a client, by what was read of them
by_read : (queue : List ℕ) (room : ℕ) (bytes : List ℕ) (read : Read) → seen read ≡ message_in bytes → received_of queue room (seen read) ≡ received_in queue room bytes
unfolding received_in
by_read queue room bytes read e = ap (received_of queue room) e

abbrev Answer : Type 0
Answer = Result (Option Received) Memory

-- a message that was read can be sent
sent : (bytes : List ℕ) (room : ℕ) (read : Read) (m n : Message10) (answer : Answer) → read ≡ Ok m → IfOk read (λ o. IsMessage (kept_of o) bytes) → facts_of n ≡ facts_in (kept_of m)
    → (AreShallow (facts_of n) → IfOk answer (λ o. IfSome o (λ x. CanBeSent room x.message))) → IfOk answer (λ o. IfSome o (λ x. CanBeSent room x.message))
sent bytes room read m n answer is found told h =
    let spelled : IsMessage (kept_of m) bytes = subst (λ (o : Read). IfOk o (λ i. IsMessage (kept_of i) bytes)) is found in
    h (subst AreShallow (sym told) (message_shallow (kept_of m) bytes spelled))

-- and so has what such messages have
of_sent : (P : Message091 → Type 0) (room : ℕ) (answer : Answer) → ((m : Message091) → CanBeSent room m → P m) → IfOk answer (λ o. IfSome o (λ x. CanBeSent room x.message)) → IfOk answer (λ o. IfSome o (λ x. P x.message))
of_sent P room (Ok (Some x)) p h = p x.message h
of_sent P room (Ok None) p h = tt
of_sent P room (Err e) p h = tt

pub returns-in-Ok-clause-received : goal.returns-in-Ok-clause-received
returns-in-Ok-clause-received c =
    let queue = c.args.queue.now in
    let room = c.args.room in
    let read = c.in_ok-message in
    let told = ap (received_by queue room) c.told_message.ensures in
    let same = ap (received_of queue room) (sym (ap seen c.in-Ok.is)) in
    subst (λ (x : Option Received). IfOk c.received_of.result (λ o. o ≡ x)) (told ∙ same ∙ by_read queue room c.args.bytes.now read.field-0 read.ensures.exact) c.received_of.ensures.received

pub returns-in-Ok-clause-exchange : goal.returns-in-Ok-clause-exchange
returns-in-Ok-clause-exchange c =
    of_sent (λ m. length m.exchange ≤ 255) c.args.room c.received_of.result (λ m h. h.exchange)
    (sent c.args.bytes.now c.args.room c.in_ok-message.field-0 c.in-Ok.message c.told_message.result c.received_of.result c.in-Ok.is c.in_ok-message.ensures.found c.told_message.ensures c.received_of.ensures.sent)

pub returns-in-Ok-clause-key : goal.returns-in-Ok-clause-key
returns-in-Ok-clause-key c =
    of_sent (λ m. length m.key ≤ 255) c.args.room c.received_of.result (λ m h. h.key)
    (sent c.args.bytes.now c.args.room c.in_ok-message.field-0 c.in-Ok.message c.told_message.result c.received_of.result c.in-Ok.is c.in_ok-message.ensures.found c.told_message.ensures c.received_of.ensures.sent)

pub returns-in-Ok-clause-header : goal.returns-in-Ok-clause-header
returns-in-Ok-clause-header c =
    of_sent (λ m. CanPut (header_of m)) c.args.room c.received_of.result (λ m h. h.header)
    (sent c.args.bytes.now c.args.room c.in_ok-message.field-0 c.in-Ok.message c.told_message.result c.received_of.result c.in-Ok.is c.in_ok-message.ensures.found c.told_message.ensures c.received_of.ensures.sent)

pub returns-in-Ok-clause-fits : goal.returns-in-Ok-clause-fits
returns-in-Ok-clause-fits c =
    of_sent (λ m. length (header_text (header_of m)) ≤ c.args.room) c.args.room c.received_of.result (λ m h. h.fits)
    (sent c.args.bytes.now c.args.room c.in_ok-message.field-0 c.in-Ok.message c.told_message.result c.received_of.result c.in-Ok.is c.in_ok-message.ensures.found c.told_message.ensures c.received_of.ensures.sent)

pub returns-in-Err-clause-received : goal.returns-in-Err-clause-received
returns-in-Err-clause-received c =
    let read = c.in_ok-message in
    ap (received_of c.args.queue.now c.args.room) (sym (ap seen c.in-Err.is)) ∙ by_read c.args.queue.now c.args.room c.args.bytes.now read.field-0 read.ensures.exact
