-- This file is written by tools/generate_performatives.py from the definition of AMQP 1.0.

-- The table of the performatives (AMQP 1.0 2.7, 5.3.3) and of the composite types inside them
-- (2.8.14, 3.4, 3.5): the code of the descriptor, and one line a field, with its need, its type and
-- its default, in the order of the standard.
use Rattle.std.specs.Prelude.{ℕ, false, List, [], ◌∷◌}
use Rattle.types_10.specs.Tree as value
use Rattle.performatives_10.specs.Fields.{boolean, ubyte, ushort, uint, ulong, binary, string}
use Rattle.performatives_10.specs.Fields.{symbol, symbols, mapping, address, anything, leaf, error}
use Rattle.performatives_10.specs.Fields.{state, source, target, Row, needs, may, has}
use Rattle.performatives_10.specs.declared.kind.PerfKind.{PerfKind}
use Rattle.performatives_10.specs.declared.kind.PerfKind.TheVariants as perf

abbrev pub error_rows : List Row
error_rows =
    needs (leaf symbol)  -- condition
    ∷ may (leaf string)  -- description
    ∷ may (leaf mapping)  -- info
    ∷ []

abbrev pub received_rows : List Row
received_rows =
    needs (leaf uint)  -- section-number
    ∷ needs (leaf ulong)  -- section-offset
    ∷ []

abbrev pub rejected_rows : List Row
rejected_rows =
    may error  -- error
    ∷ []

abbrev pub modified_rows : List Row
modified_rows =
    may (leaf boolean)  -- delivery-failed
    ∷ may (leaf boolean)  -- undeliverable-here
    ∷ may (leaf mapping)  -- message-annotations
    ∷ []

abbrev pub source_rows : List Row
source_rows =
    may (leaf address)  -- address
    ∷ may (leaf uint)  -- durable
    ∷ may (leaf symbol)  -- expiry-policy
    ∷ may (leaf uint)  -- timeout
    ∷ may (leaf boolean)  -- dynamic
    ∷ may (leaf mapping)  -- dynamic-node-properties
    ∷ may (leaf symbol)  -- distribution-mode
    ∷ may (leaf mapping)  -- filter
    ∷ may (leaf anything)  -- default-outcome
    ∷ may (leaf anything)  -- outcomes
    ∷ may (leaf anything)  -- capabilities
    ∷ []

abbrev pub target_rows : List Row
target_rows =
    may (leaf address)  -- address
    ∷ may (leaf uint)  -- durable
    ∷ may (leaf symbol)  -- expiry-policy
    ∷ may (leaf uint)  -- timeout
    ∷ may (leaf boolean)  -- dynamic
    ∷ may (leaf mapping)  -- dynamic-node-properties
    ∷ may (leaf anything)  -- capabilities
    ∷ []

abbrev pub open_rows : List Row
open_rows =
    needs (leaf string)  -- container-id
    ∷ may (leaf string)  -- hostname
    ∷ has (leaf uint) (value.uint 4294967295)  -- max-frame-size
    ∷ has (leaf ushort) (value.ushort 65535)  -- channel-max
    ∷ may (leaf uint)  -- idle-time-out
    ∷ may (leaf symbols)  -- outgoing-locales
    ∷ may (leaf symbols)  -- incoming-locales
    ∷ may (leaf symbols)  -- offered-capabilities
    ∷ may (leaf symbols)  -- desired-capabilities
    ∷ may (leaf mapping)  -- properties
    ∷ []

abbrev pub begin_rows : List Row
begin_rows =
    may (leaf ushort)  -- remote-channel
    ∷ needs (leaf uint)  -- next-outgoing-id
    ∷ needs (leaf uint)  -- incoming-window
    ∷ needs (leaf uint)  -- outgoing-window
    ∷ has (leaf uint) (value.uint 4294967295)  -- handle-max
    ∷ may (leaf symbols)  -- offered-capabilities
    ∷ may (leaf symbols)  -- desired-capabilities
    ∷ may (leaf mapping)  -- properties
    ∷ []

abbrev pub attach_rows : List Row
attach_rows =
    needs (leaf string)  -- name
    ∷ needs (leaf uint)  -- handle
    ∷ needs (leaf boolean)  -- role
    ∷ has (leaf ubyte) (value.ubyte 2)  -- snd-settle-mode
    ∷ has (leaf ubyte) (value.ubyte 0)  -- rcv-settle-mode
    ∷ may source  -- source
    ∷ may target  -- target
    ∷ may (leaf mapping)  -- unsettled
    ∷ has (leaf boolean) (value.boolean false)  -- incomplete-unsettled
    ∷ may (leaf uint)  -- initial-delivery-count
    ∷ may (leaf ulong)  -- max-message-size
    ∷ may (leaf symbols)  -- offered-capabilities
    ∷ may (leaf symbols)  -- desired-capabilities
    ∷ may (leaf mapping)  -- properties
    ∷ []

abbrev pub flow_rows : List Row
flow_rows =
    may (leaf uint)  -- next-incoming-id
    ∷ needs (leaf uint)  -- incoming-window
    ∷ needs (leaf uint)  -- next-outgoing-id
    ∷ needs (leaf uint)  -- outgoing-window
    ∷ may (leaf uint)  -- handle
    ∷ may (leaf uint)  -- delivery-count
    ∷ may (leaf uint)  -- link-credit
    ∷ may (leaf uint)  -- available
    ∷ has (leaf boolean) (value.boolean false)  -- drain
    ∷ has (leaf boolean) (value.boolean false)  -- echo
    ∷ may (leaf mapping)  -- properties
    ∷ []

abbrev pub transfer_rows : List Row
transfer_rows =
    needs (leaf uint)  -- handle
    ∷ may (leaf uint)  -- delivery-id
    ∷ may (leaf binary)  -- delivery-tag
    ∷ may (leaf uint)  -- message-format
    ∷ may (leaf boolean)  -- settled
    ∷ has (leaf boolean) (value.boolean false)  -- more
    ∷ may (leaf ubyte)  -- rcv-settle-mode
    ∷ may state  -- state
    ∷ has (leaf boolean) (value.boolean false)  -- resume
    ∷ has (leaf boolean) (value.boolean false)  -- aborted
    ∷ has (leaf boolean) (value.boolean false)  -- batchable
    ∷ []

abbrev pub disposition_rows : List Row
disposition_rows =
    needs (leaf boolean)  -- role
    ∷ needs (leaf uint)  -- first
    ∷ may (leaf uint)  -- last
    ∷ has (leaf boolean) (value.boolean false)  -- settled
    ∷ may state  -- state
    ∷ has (leaf boolean) (value.boolean false)  -- batchable
    ∷ []

abbrev pub detach_rows : List Row
detach_rows =
    needs (leaf uint)  -- handle
    ∷ has (leaf boolean) (value.boolean false)  -- closed
    ∷ may error  -- error
    ∷ []

abbrev pub end_rows : List Row
end_rows =
    may error  -- error
    ∷ []

abbrev pub close_rows : List Row
close_rows =
    may error  -- error
    ∷ []

abbrev pub sasl_mechanisms_rows : List Row
sasl_mechanisms_rows =
    needs (leaf symbols)  -- mechanisms
    ∷ []

abbrev pub sasl_init_rows : List Row
sasl_init_rows =
    needs (leaf symbol)  -- mechanism
    ∷ may (leaf binary)  -- initial-response
    ∷ may (leaf string)  -- hostname
    ∷ []

abbrev pub sasl_challenge_rows : List Row
sasl_challenge_rows =
    needs (leaf binary)  -- challenge
    ∷ []

abbrev pub sasl_response_rows : List Row
sasl_response_rows =
    needs (leaf binary)  -- response
    ∷ []

abbrev pub sasl_outcome_rows : List Row
sasl_outcome_rows =
    needs (leaf ubyte)  -- code
    ∷ may (leaf binary)  -- additional-data
    ∷ []

-- the code of the descriptor, and the fields
abbrev pub row : PerfKind → ℕ × List Row
row perf.Open = (16, open_rows)
row perf.Begin = (17, begin_rows)
row perf.Attach = (18, attach_rows)
row perf.Flow = (19, flow_rows)
row perf.Transfer = (20, transfer_rows)
row perf.Disposition = (21, disposition_rows)
row perf.Detach = (22, detach_rows)
row perf.End = (23, end_rows)
row perf.Close = (24, close_rows)
row perf.SaslMechanisms = (64, sasl_mechanisms_rows)
row perf.SaslInit = (65, sasl_init_rows)
row perf.SaslChallenge = (66, sasl_challenge_rows)
row perf.SaslResponse = (67, sasl_response_rows)
row perf.SaslOutcome = (68, sasl_outcome_rows)

-- all kinds
abbrev pub kinds : List PerfKind
kinds =
    perf.Open ∷ perf.Begin ∷ perf.Attach ∷ perf.Flow ∷ perf.Transfer ∷ perf.Disposition
    ∷ perf.Detach ∷ perf.End ∷ perf.Close ∷ perf.SaslMechanisms ∷ perf.SaslInit ∷ perf.SaslChallenge
    ∷ perf.SaslResponse ∷ perf.SaslOutcome ∷ []

-- the codes of the composite types inside performatives
abbrev pub error_code : ℕ
error_code = 29

abbrev pub received_code : ℕ
received_code = 35

abbrev pub accepted_code : ℕ
accepted_code = 36

abbrev pub rejected_code : ℕ
rejected_code = 37

abbrev pub released_code : ℕ
released_code = 38

abbrev pub modified_code : ℕ
modified_code = 39

abbrev pub source_code : ℕ
source_code = 40

abbrev pub target_code : ℕ
target_code = 41
