-- This file is written by tools/make_methods.py from the published definition of AMQP 0-9-1.

-- The table of the methods (AMQP 0-9-1 1.3 to 1.8; basic.nack and the class confirm are additions
-- of RabbitMQ): one line a method, with its class id, its method id, and the kinds of its arguments
-- in order. Nothing here names a value of an argument.
use Rattle.std.specs.Prelude.{◌==◌, if◌then◌else◌, ℕ, List, [], ◌∷◌, Option, Some, None, option_map}
use Rattle.methods_091.specs.declared.kind.MethodKind.{MethodKind}
use Rattle.methods_091.specs.declared.kind.MethodKind.TheVariants as class
use Rattle.methods_091.specs.declared.kind.ConnectionKind.{ConnectionKind}
use Rattle.methods_091.specs.declared.kind.ConnectionKind.TheVariants as in_connection
use Rattle.methods_091.specs.declared.kind.ChannelKind.{ChannelKind}
use Rattle.methods_091.specs.declared.kind.ChannelKind.TheVariants as in_channel
use Rattle.methods_091.specs.declared.kind.ExchangeKind.{ExchangeKind}
use Rattle.methods_091.specs.declared.kind.ExchangeKind.TheVariants as in_exchange
use Rattle.methods_091.specs.declared.kind.QueueKind.{QueueKind}
use Rattle.methods_091.specs.declared.kind.QueueKind.TheVariants as in_queue
use Rattle.methods_091.specs.declared.kind.BasicKind.{BasicKind}
use Rattle.methods_091.specs.declared.kind.BasicKind.TheVariants as in_basic
use Rattle.methods_091.specs.declared.kind.ConfirmKind.{ConfirmKind}
use Rattle.methods_091.specs.declared.kind.ConfirmKind.TheVariants as in_confirm
use Rattle.methods_091.specs.declared.kind.TxKind.{TxKind}
use Rattle.methods_091.specs.declared.kind.TxKind.TheVariants as in_tx

-- the kind of a method, under a name for other crates
abbrev pub Kind : Type 0
Kind = MethodKind

-- the kind of an argument (AMQP 0-9-1 4.2.5): a number of one, two, four or eight bytes, a text
-- behind a length of one or four bytes, a table, so many flags in one octet, or a reserved argument
-- of some kind
pub data ArgKind : Type 0 where
  octet : ArgKind
  short : ArgKind
  long : ArgKind
  longlong : ArgKind
  shortstr : ArgKind
  longstr : ArgKind
  fields : ArgKind
  bits : ℕ → ArgKind
  reserved : ArgKind → ArgKind

-- the class id, the method id, and the kinds of the arguments
abbrev pub row : MethodKind → ℕ × ℕ × List ArgKind
row (class.Connection in_connection.Start) =
    (10, 10, octet ∷ octet ∷ fields ∷ longstr ∷ longstr ∷ [])
row (class.Connection in_connection.StartOk) = (10, 11, fields ∷ shortstr ∷ longstr ∷ shortstr ∷ [])
row (class.Connection in_connection.Secure) = (10, 20, longstr ∷ [])
row (class.Connection in_connection.SecureOk) = (10, 21, longstr ∷ [])
row (class.Connection in_connection.Tune) = (10, 30, short ∷ long ∷ short ∷ [])
row (class.Connection in_connection.TuneOk) = (10, 31, short ∷ long ∷ short ∷ [])
row (class.Connection in_connection.Open) =
    (10, 40, shortstr ∷ reserved shortstr ∷ reserved (bits 1) ∷ [])
row (class.Connection in_connection.OpenOk) = (10, 41, reserved shortstr ∷ [])
row (class.Connection in_connection.Close) = (10, 50, short ∷ shortstr ∷ short ∷ short ∷ [])
row (class.Connection in_connection.CloseOk) = (10, 51, [])
row (class.Channel in_channel.Open) = (20, 10, reserved shortstr ∷ [])
row (class.Channel in_channel.OpenOk) = (20, 11, reserved longstr ∷ [])
row (class.Channel in_channel.Flow) = (20, 20, bits 1 ∷ [])
row (class.Channel in_channel.FlowOk) = (20, 21, bits 1 ∷ [])
row (class.Channel in_channel.Close) = (20, 40, short ∷ shortstr ∷ short ∷ short ∷ [])
row (class.Channel in_channel.CloseOk) = (20, 41, [])
row (class.Exchange in_exchange.Declare) =
    (40, 10, reserved short ∷ shortstr ∷ shortstr ∷ bits 5 ∷ fields ∷ [])
row (class.Exchange in_exchange.DeclareOk) = (40, 11, [])
row (class.Exchange in_exchange.Delete) = (40, 20, reserved short ∷ shortstr ∷ bits 2 ∷ [])
row (class.Exchange in_exchange.DeleteOk) = (40, 21, [])
row (class.Queue in_queue.Declare) = (50, 10, reserved short ∷ shortstr ∷ bits 5 ∷ fields ∷ [])
row (class.Queue in_queue.DeclareOk) = (50, 11, shortstr ∷ long ∷ long ∷ [])
row (class.Queue in_queue.Bind) =
    (50, 20, reserved short ∷ shortstr ∷ shortstr ∷ shortstr ∷ bits 1 ∷ fields ∷ [])
row (class.Queue in_queue.BindOk) = (50, 21, [])
row (class.Queue in_queue.Purge) = (50, 30, reserved short ∷ shortstr ∷ bits 1 ∷ [])
row (class.Queue in_queue.PurgeOk) = (50, 31, long ∷ [])
row (class.Queue in_queue.Delete) = (50, 40, reserved short ∷ shortstr ∷ bits 3 ∷ [])
row (class.Queue in_queue.DeleteOk) = (50, 41, long ∷ [])
row (class.Queue in_queue.Unbind) =
    (50, 50, reserved short ∷ shortstr ∷ shortstr ∷ shortstr ∷ fields ∷ [])
row (class.Queue in_queue.UnbindOk) = (50, 51, [])
row (class.Basic in_basic.Qos) = (60, 10, long ∷ short ∷ bits 1 ∷ [])
row (class.Basic in_basic.QosOk) = (60, 11, [])
row (class.Basic in_basic.Consume) =
    (60, 20, reserved short ∷ shortstr ∷ shortstr ∷ bits 4 ∷ fields ∷ [])
row (class.Basic in_basic.ConsumeOk) = (60, 21, shortstr ∷ [])
row (class.Basic in_basic.Cancel) = (60, 30, shortstr ∷ bits 1 ∷ [])
row (class.Basic in_basic.CancelOk) = (60, 31, shortstr ∷ [])
row (class.Basic in_basic.Publish) = (60, 40, reserved short ∷ shortstr ∷ shortstr ∷ bits 2 ∷ [])
row (class.Basic in_basic.Return) = (60, 50, short ∷ shortstr ∷ shortstr ∷ shortstr ∷ [])
row (class.Basic in_basic.Deliver) =
    (60, 60, shortstr ∷ longlong ∷ bits 1 ∷ shortstr ∷ shortstr ∷ [])
row (class.Basic in_basic.Get) = (60, 70, reserved short ∷ shortstr ∷ bits 1 ∷ [])
row (class.Basic in_basic.GetOk) = (60, 71, longlong ∷ bits 1 ∷ shortstr ∷ shortstr ∷ long ∷ [])
row (class.Basic in_basic.GetEmpty) = (60, 72, reserved shortstr ∷ [])
row (class.Basic in_basic.Ack) = (60, 80, longlong ∷ bits 1 ∷ [])
row (class.Basic in_basic.Reject) = (60, 90, longlong ∷ bits 1 ∷ [])
row (class.Basic in_basic.RecoverAsync) = (60, 100, bits 1 ∷ [])
row (class.Basic in_basic.Recover) = (60, 110, bits 1 ∷ [])
row (class.Basic in_basic.RecoverOk) = (60, 111, [])
row (class.Basic in_basic.Nack) = (60, 120, longlong ∷ bits 2 ∷ [])
row (class.Confirm in_confirm.Select) = (85, 10, bits 1 ∷ [])
row (class.Confirm in_confirm.SelectOk) = (85, 11, [])
row (class.Tx in_tx.Select) = (90, 10, [])
row (class.Tx in_tx.SelectOk) = (90, 11, [])
row (class.Tx in_tx.Commit) = (90, 20, [])
row (class.Tx in_tx.CommitOk) = (90, 21, [])
row (class.Tx in_tx.Rollback) = (90, 30, [])
row (class.Tx in_tx.RollbackOk) = (90, 31, [])

-- the columns of the table
abbrev pub class_of : MethodKind → ℕ
class_of k = (row k).0

abbrev pub id_of : MethodKind → ℕ
id_of k = (row k).1

abbrev pub shape : MethodKind → List ArgKind
shape k = (row k).2

-- the methods of each class
abbrev pub connection_kinds : List ConnectionKind
connection_kinds =
    in_connection.Start ∷ in_connection.StartOk ∷ in_connection.Secure ∷ in_connection.SecureOk
    ∷ in_connection.Tune ∷ in_connection.TuneOk ∷ in_connection.Open ∷ in_connection.OpenOk
    ∷ in_connection.Close ∷ in_connection.CloseOk ∷ []

abbrev pub channel_kinds : List ChannelKind
channel_kinds =
    in_channel.Open ∷ in_channel.OpenOk ∷ in_channel.Flow ∷ in_channel.FlowOk ∷ in_channel.Close
    ∷ in_channel.CloseOk ∷ []

abbrev pub exchange_kinds : List ExchangeKind
exchange_kinds =
    in_exchange.Declare ∷ in_exchange.DeclareOk ∷ in_exchange.Delete ∷ in_exchange.DeleteOk ∷ []

abbrev pub queue_kinds : List QueueKind
queue_kinds =
    in_queue.Declare ∷ in_queue.DeclareOk ∷ in_queue.Bind ∷ in_queue.BindOk ∷ in_queue.Purge
    ∷ in_queue.PurgeOk ∷ in_queue.Delete ∷ in_queue.DeleteOk ∷ in_queue.Unbind
    ∷ in_queue.UnbindOk ∷ []

abbrev pub basic_kinds : List BasicKind
basic_kinds =
    in_basic.Qos ∷ in_basic.QosOk ∷ in_basic.Consume ∷ in_basic.ConsumeOk ∷ in_basic.Cancel
    ∷ in_basic.CancelOk ∷ in_basic.Publish ∷ in_basic.Return ∷ in_basic.Deliver ∷ in_basic.Get
    ∷ in_basic.GetOk ∷ in_basic.GetEmpty ∷ in_basic.Ack ∷ in_basic.Reject ∷ in_basic.RecoverAsync
    ∷ in_basic.Recover ∷ in_basic.RecoverOk ∷ in_basic.Nack ∷ []

abbrev pub confirm_kinds : List ConfirmKind
confirm_kinds = in_confirm.Select ∷ in_confirm.SelectOk ∷ []

abbrev pub tx_kinds : List TxKind
tx_kinds =
    in_tx.Select ∷ in_tx.SelectOk ∷ in_tx.Commit ∷ in_tx.CommitOk ∷ in_tx.Rollback
    ∷ in_tx.RollbackOk ∷ []

-- the first of some kinds with this id
abbrev pub first_with : {K : Type 0} → (K → ℕ) → List K → ℕ → Option K
first_with id_in [] id = None
first_with id_in (k ∷ ks) id = if id == id_in k then Some k else first_with id_in ks id

-- the method of a class that has this id
abbrev pub connection_with : ℕ → Option ConnectionKind
connection_with id = first_with (λ k. id_of (class.Connection k)) connection_kinds id

abbrev pub channel_with : ℕ → Option ChannelKind
channel_with id = first_with (λ k. id_of (class.Channel k)) channel_kinds id

abbrev pub exchange_with : ℕ → Option ExchangeKind
exchange_with id = first_with (λ k. id_of (class.Exchange k)) exchange_kinds id

abbrev pub queue_with : ℕ → Option QueueKind
queue_with id = first_with (λ k. id_of (class.Queue k)) queue_kinds id

abbrev pub basic_with : ℕ → Option BasicKind
basic_with id = first_with (λ k. id_of (class.Basic k)) basic_kinds id

abbrev pub confirm_with : ℕ → Option ConfirmKind
confirm_with id = first_with (λ k. id_of (class.Confirm k)) confirm_kinds id

abbrev pub tx_with : ℕ → Option TxKind
tx_with id = first_with (λ k. id_of (class.Tx k)) tx_kinds id

-- the kind with this class id and this method id
abbrev pub kind_with : ℕ → ℕ → Option MethodKind
kind_with c id =
    if c == 10 then option_map class.Connection (connection_with id)
    else if c == 20 then option_map class.Channel (channel_with id)
    else if c == 40 then option_map class.Exchange (exchange_with id)
    else if c == 50 then option_map class.Queue (queue_with id)
    else if c == 60 then option_map class.Basic (basic_with id)
    else if c == 85 then option_map class.Confirm (confirm_with id)
    else if c == 90 then option_map class.Tx (tx_with id)
    else None

-- the kind within a class, for a method of that class
abbrev pub as_connection : MethodKind → Option ConnectionKind
as_connection (class.Connection k) = Some k
as_connection k = None

abbrev pub as_channel : MethodKind → Option ChannelKind
as_channel (class.Channel k) = Some k
as_channel k = None

abbrev pub as_exchange : MethodKind → Option ExchangeKind
as_exchange (class.Exchange k) = Some k
as_exchange k = None

abbrev pub as_queue : MethodKind → Option QueueKind
as_queue (class.Queue k) = Some k
as_queue k = None

abbrev pub as_basic : MethodKind → Option BasicKind
as_basic (class.Basic k) = Some k
as_basic k = None

abbrev pub as_confirm : MethodKind → Option ConfirmKind
as_confirm (class.Confirm k) = Some k
as_confirm k = None

abbrev pub as_tx : MethodKind → Option TxKind
as_tx (class.Tx k) = Some k
as_tx k = None
