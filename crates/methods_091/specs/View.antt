-- This file is written by tools/make_methods.py from the published definition of AMQP 0-9-1.

-- A method as its kind and its arguments.
use Rattle.std.specs.Prelude.{List, [], ◌∷◌}
use Rattle.methods_091.specs.Rows as rows
use Rattle.methods_091.specs.Arguments.{Arg}
use Rattle.methods_091.specs.Arguments as arg
use Rattle.methods_091.specs.declared.method.Method91.{Method91}
use Rattle.methods_091.specs.declared.method.Method91.TheVariants as method
use Rattle.methods_091.specs.declared.kind.MethodKind.{MethodKind}
use Rattle.methods_091.specs.declared.kind.MethodKind.TheVariants as class
use Rattle.methods_091.specs.declared.kind.ConnectionKind.TheVariants as in_connection
use Rattle.methods_091.specs.declared.kind.ChannelKind.TheVariants as in_channel
use Rattle.methods_091.specs.declared.kind.ExchangeKind.TheVariants as in_exchange
use Rattle.methods_091.specs.declared.kind.QueueKind.TheVariants as in_queue
use Rattle.methods_091.specs.declared.kind.BasicKind.TheVariants as in_basic
use Rattle.methods_091.specs.declared.kind.ConfirmKind.TheVariants as in_confirm
use Rattle.methods_091.specs.declared.kind.TxKind.TheVariants as in_tx

-- the row of a method
abbrev pub kind_of : Method91 → MethodKind
kind_of (method.ConnectionStart version_major version_minor server_properties mechanisms locales) =
    class.Connection in_connection.Start
kind_of (method.ConnectionStartOk client_properties mechanism response locale) =
    class.Connection in_connection.StartOk
kind_of (method.ConnectionSecure challenge) = class.Connection in_connection.Secure
kind_of (method.ConnectionSecureOk response) = class.Connection in_connection.SecureOk
kind_of (method.ConnectionTune channel_max frame_max heartbeat) =
    class.Connection in_connection.Tune
kind_of (method.ConnectionTuneOk channel_max frame_max heartbeat) =
    class.Connection in_connection.TuneOk
kind_of (method.ConnectionOpen virtual_host) = class.Connection in_connection.Open
kind_of method.ConnectionOpenOk = class.Connection in_connection.OpenOk
kind_of (method.ConnectionClose reply_code reply_text class_id method_id) =
    class.Connection in_connection.Close
kind_of method.ConnectionCloseOk = class.Connection in_connection.CloseOk
kind_of method.ChannelOpen = class.Channel in_channel.Open
kind_of method.ChannelOpenOk = class.Channel in_channel.OpenOk
kind_of (method.ChannelFlow active) = class.Channel in_channel.Flow
kind_of (method.ChannelFlowOk active) = class.Channel in_channel.FlowOk
kind_of (method.ChannelClose reply_code reply_text class_id method_id) =
    class.Channel in_channel.Close
kind_of method.ChannelCloseOk = class.Channel in_channel.CloseOk
kind_of (method.ExchangeDeclare exchange kind passive durable auto_delete internal no_wait arguments) =
    class.Exchange in_exchange.Declare
kind_of method.ExchangeDeclareOk = class.Exchange in_exchange.DeclareOk
kind_of (method.ExchangeDelete exchange if_unused no_wait) = class.Exchange in_exchange.Delete
kind_of method.ExchangeDeleteOk = class.Exchange in_exchange.DeleteOk
kind_of (method.QueueDeclare queue passive durable exclusive auto_delete no_wait arguments) =
    class.Queue in_queue.Declare
kind_of (method.QueueDeclareOk queue message_count consumer_count) = class.Queue in_queue.DeclareOk
kind_of (method.QueueBind queue exchange routing_key no_wait arguments) = class.Queue in_queue.Bind
kind_of method.QueueBindOk = class.Queue in_queue.BindOk
kind_of (method.QueuePurge queue no_wait) = class.Queue in_queue.Purge
kind_of (method.QueuePurgeOk message_count) = class.Queue in_queue.PurgeOk
kind_of (method.QueueDelete queue if_unused if_empty no_wait) = class.Queue in_queue.Delete
kind_of (method.QueueDeleteOk message_count) = class.Queue in_queue.DeleteOk
kind_of (method.QueueUnbind queue exchange routing_key arguments) = class.Queue in_queue.Unbind
kind_of method.QueueUnbindOk = class.Queue in_queue.UnbindOk
kind_of (method.BasicQos prefetch_size prefetch_count global) = class.Basic in_basic.Qos
kind_of method.BasicQosOk = class.Basic in_basic.QosOk
kind_of (method.BasicConsume queue consumer_tag no_local no_ack exclusive no_wait arguments) =
    class.Basic in_basic.Consume
kind_of (method.BasicConsumeOk consumer_tag) = class.Basic in_basic.ConsumeOk
kind_of (method.BasicCancel consumer_tag no_wait) = class.Basic in_basic.Cancel
kind_of (method.BasicCancelOk consumer_tag) = class.Basic in_basic.CancelOk
kind_of (method.BasicPublish exchange routing_key mandatory immediate) =
    class.Basic in_basic.Publish
kind_of (method.BasicReturn reply_code reply_text exchange routing_key) =
    class.Basic in_basic.Return
kind_of (method.BasicDeliver consumer_tag delivery_tag redelivered exchange routing_key) =
    class.Basic in_basic.Deliver
kind_of (method.BasicGet queue no_ack) = class.Basic in_basic.Get
kind_of (method.BasicGetOk delivery_tag redelivered exchange routing_key message_count) =
    class.Basic in_basic.GetOk
kind_of method.BasicGetEmpty = class.Basic in_basic.GetEmpty
kind_of (method.BasicAck delivery_tag multiple) = class.Basic in_basic.Ack
kind_of (method.BasicReject delivery_tag requeue) = class.Basic in_basic.Reject
kind_of (method.BasicRecoverAsync requeue) = class.Basic in_basic.RecoverAsync
kind_of (method.BasicRecover requeue) = class.Basic in_basic.Recover
kind_of method.BasicRecoverOk = class.Basic in_basic.RecoverOk
kind_of (method.BasicNack delivery_tag multiple requeue) = class.Basic in_basic.Nack
kind_of (method.ConfirmSelect no_wait) = class.Confirm in_confirm.Select
kind_of method.ConfirmSelectOk = class.Confirm in_confirm.SelectOk
kind_of method.TxSelect = class.Tx in_tx.Select
kind_of method.TxSelectOk = class.Tx in_tx.SelectOk
kind_of method.TxCommit = class.Tx in_tx.Commit
kind_of method.TxCommitOk = class.Tx in_tx.CommitOk
kind_of method.TxRollback = class.Tx in_tx.Rollback
kind_of method.TxRollbackOk = class.Tx in_tx.RollbackOk

-- the arguments of a method, in order
abbrev pub args_of : Method91 → List Arg
args_of (method.ConnectionStart version_major version_minor server_properties mechanisms locales) =
    arg.octet version_major ∷ arg.octet version_minor ∷ arg.fields server_properties
    ∷ arg.longstr mechanisms ∷ arg.longstr locales ∷ []
args_of (method.ConnectionStartOk client_properties mechanism response locale) =
    arg.fields client_properties ∷ arg.shortstr mechanism ∷ arg.longstr response
    ∷ arg.shortstr locale ∷ []
args_of (method.ConnectionSecure challenge) = arg.longstr challenge ∷ []
args_of (method.ConnectionSecureOk response) = arg.longstr response ∷ []
args_of (method.ConnectionTune channel_max frame_max heartbeat) =
    arg.short channel_max ∷ arg.long frame_max ∷ arg.short heartbeat ∷ []
args_of (method.ConnectionTuneOk channel_max frame_max heartbeat) =
    arg.short channel_max ∷ arg.long frame_max ∷ arg.short heartbeat ∷ []
args_of (method.ConnectionOpen virtual_host) =
    arg.shortstr virtual_host ∷ arg.reserved rows.shortstr ∷ arg.reserved (rows.bits 1) ∷ []
args_of method.ConnectionOpenOk = arg.reserved rows.shortstr ∷ []
args_of (method.ConnectionClose reply_code reply_text class_id method_id) =
    arg.short reply_code ∷ arg.shortstr reply_text ∷ arg.short class_id ∷ arg.short method_id ∷ []
args_of method.ConnectionCloseOk = []
args_of method.ChannelOpen = arg.reserved rows.shortstr ∷ []
args_of method.ChannelOpenOk = arg.reserved rows.longstr ∷ []
args_of (method.ChannelFlow active) = arg.bits (active ∷ []) ∷ []
args_of (method.ChannelFlowOk active) = arg.bits (active ∷ []) ∷ []
args_of (method.ChannelClose reply_code reply_text class_id method_id) =
    arg.short reply_code ∷ arg.shortstr reply_text ∷ arg.short class_id ∷ arg.short method_id ∷ []
args_of method.ChannelCloseOk = []
args_of (method.ExchangeDeclare exchange kind passive durable auto_delete internal no_wait arguments) =
    arg.reserved rows.short ∷ arg.shortstr exchange ∷ arg.shortstr kind
    ∷ arg.bits (passive ∷ durable ∷ auto_delete ∷ internal ∷ no_wait ∷ [])
    ∷ arg.fields arguments ∷ []
args_of method.ExchangeDeclareOk = []
args_of (method.ExchangeDelete exchange if_unused no_wait) =
    arg.reserved rows.short ∷ arg.shortstr exchange ∷ arg.bits (if_unused ∷ no_wait ∷ []) ∷ []
args_of method.ExchangeDeleteOk = []
args_of (method.QueueDeclare queue passive durable exclusive auto_delete no_wait arguments) =
    arg.reserved rows.short ∷ arg.shortstr queue
    ∷ arg.bits (passive ∷ durable ∷ exclusive ∷ auto_delete ∷ no_wait ∷ [])
    ∷ arg.fields arguments ∷ []
args_of (method.QueueDeclareOk queue message_count consumer_count) =
    arg.shortstr queue ∷ arg.long message_count ∷ arg.long consumer_count ∷ []
args_of (method.QueueBind queue exchange routing_key no_wait arguments) =
    arg.reserved rows.short ∷ arg.shortstr queue ∷ arg.shortstr exchange ∷ arg.shortstr routing_key
    ∷ arg.bits (no_wait ∷ []) ∷ arg.fields arguments ∷ []
args_of method.QueueBindOk = []
args_of (method.QueuePurge queue no_wait) =
    arg.reserved rows.short ∷ arg.shortstr queue ∷ arg.bits (no_wait ∷ []) ∷ []
args_of (method.QueuePurgeOk message_count) = arg.long message_count ∷ []
args_of (method.QueueDelete queue if_unused if_empty no_wait) =
    arg.reserved rows.short ∷ arg.shortstr queue
    ∷ arg.bits (if_unused ∷ if_empty ∷ no_wait ∷ []) ∷ []
args_of (method.QueueDeleteOk message_count) = arg.long message_count ∷ []
args_of (method.QueueUnbind queue exchange routing_key arguments) =
    arg.reserved rows.short ∷ arg.shortstr queue ∷ arg.shortstr exchange ∷ arg.shortstr routing_key
    ∷ arg.fields arguments ∷ []
args_of method.QueueUnbindOk = []
args_of (method.BasicQos prefetch_size prefetch_count global) =
    arg.long prefetch_size ∷ arg.short prefetch_count ∷ arg.bits (global ∷ []) ∷ []
args_of method.BasicQosOk = []
args_of (method.BasicConsume queue consumer_tag no_local no_ack exclusive no_wait arguments) =
    arg.reserved rows.short ∷ arg.shortstr queue ∷ arg.shortstr consumer_tag
    ∷ arg.bits (no_local ∷ no_ack ∷ exclusive ∷ no_wait ∷ []) ∷ arg.fields arguments ∷ []
args_of (method.BasicConsumeOk consumer_tag) = arg.shortstr consumer_tag ∷ []
args_of (method.BasicCancel consumer_tag no_wait) =
    arg.shortstr consumer_tag ∷ arg.bits (no_wait ∷ []) ∷ []
args_of (method.BasicCancelOk consumer_tag) = arg.shortstr consumer_tag ∷ []
args_of (method.BasicPublish exchange routing_key mandatory immediate) =
    arg.reserved rows.short ∷ arg.shortstr exchange ∷ arg.shortstr routing_key
    ∷ arg.bits (mandatory ∷ immediate ∷ []) ∷ []
args_of (method.BasicReturn reply_code reply_text exchange routing_key) =
    arg.short reply_code ∷ arg.shortstr reply_text ∷ arg.shortstr exchange
    ∷ arg.shortstr routing_key ∷ []
args_of (method.BasicDeliver consumer_tag delivery_tag redelivered exchange routing_key) =
    arg.shortstr consumer_tag ∷ arg.longlong delivery_tag ∷ arg.bits (redelivered ∷ [])
    ∷ arg.shortstr exchange ∷ arg.shortstr routing_key ∷ []
args_of (method.BasicGet queue no_ack) =
    arg.reserved rows.short ∷ arg.shortstr queue ∷ arg.bits (no_ack ∷ []) ∷ []
args_of (method.BasicGetOk delivery_tag redelivered exchange routing_key message_count) =
    arg.longlong delivery_tag ∷ arg.bits (redelivered ∷ []) ∷ arg.shortstr exchange
    ∷ arg.shortstr routing_key ∷ arg.long message_count ∷ []
args_of method.BasicGetEmpty = arg.reserved rows.shortstr ∷ []
args_of (method.BasicAck delivery_tag multiple) =
    arg.longlong delivery_tag ∷ arg.bits (multiple ∷ []) ∷ []
args_of (method.BasicReject delivery_tag requeue) =
    arg.longlong delivery_tag ∷ arg.bits (requeue ∷ []) ∷ []
args_of (method.BasicRecoverAsync requeue) = arg.bits (requeue ∷ []) ∷ []
args_of (method.BasicRecover requeue) = arg.bits (requeue ∷ []) ∷ []
args_of method.BasicRecoverOk = []
args_of (method.BasicNack delivery_tag multiple requeue) =
    arg.longlong delivery_tag ∷ arg.bits (multiple ∷ requeue ∷ []) ∷ []
args_of (method.ConfirmSelect no_wait) = arg.bits (no_wait ∷ []) ∷ []
args_of method.ConfirmSelectOk = []
args_of method.TxSelect = []
args_of method.TxSelectOk = []
args_of method.TxCommit = []
args_of method.TxCommitOk = []
args_of method.TxRollback = []
args_of method.TxRollbackOk = []

-- both
abbrev pub parts_of : Method91 → MethodKind × List Arg
parts_of m = (kind_of m, args_of m)
