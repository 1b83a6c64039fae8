-- This file is written by tools/make_methods.py from the published definition of AMQP 0-9-1.

-- A method is what its kind and its arguments make it.
use Rattle.std.proofs.Common.{◌≡◌, ℕ, Bool, false, List, [], get_or, refl, ap, sym, ◌∙◌}
use Rattle.tables_091.specs.Tree.{Tree}
use Rattle.methods_091.specs.Arguments.{Arg}
use Rattle.methods_091.specs.Arguments as arg
use Rattle.methods_091.specs.View.{kind_of, args_of, parts_of}
use Rattle.methods_091.specs.declared.method.Method91.{Method91}
use Rattle.methods_091.specs.declared.method.Method91.TheVariants as method
use Rattle.methods_091.specs.declared.kind.MethodKind.{MethodKind}
use Rattle.methods_091.specs.declared.kind.MethodKind.TheVariants as class
use Rattle.methods_091.specs.declared.kind.ConnectionKind.TheVariants as in_connection
use Rattle.methods_091.specs.declared.kind.ChannelKind.TheVariants as in_channel
use Rattle.methods_091.specs.declared.kind.ExchangeKind.TheVariants as in_exchange
use Rattle.methods_091.specs.declared.kind.QueueKind.TheVariants as in_queue
use Rattle.methods_091.specs.declared.kind.BasicKind.TheVariants as in_basic
use Rattle.methods_091.specs.declared.kind.ConfirmKind.TheVariants as in_confirm
use Rattle.methods_091.specs.declared.kind.TxKind.TheVariants as in_tx

-- what an argument holds

abbrev number_in : Arg → ℕ
number_in (arg.octet n) = n
number_in (arg.short n) = n
number_in (arg.long n) = n
number_in (arg.longlong n) = n
number_in a = 0

abbrev text_in : Arg → List ℕ
text_in (arg.shortstr s) = s
text_in (arg.longstr s) = s
text_in a = []

abbrev entries_in : Arg → List (List ℕ × Tree)
entries_in (arg.fields ms) = ms
entries_in a = []

abbrev flags_in : Arg → List Bool
flags_in (arg.bits bs) = bs
flags_in a = []

-- what the argument at a place holds

abbrev number : List Arg → ℕ → ℕ
number xs i = number_in (get_or xs i (arg.bits []))

abbrev text : List Arg → ℕ → List ℕ
text xs i = text_in (get_or xs i (arg.bits []))

abbrev entries : List Arg → ℕ → List (List ℕ × Tree)
entries xs i = entries_in (get_or xs i (arg.bits []))

abbrev flag : List Arg → ℕ → ℕ → Bool
flag xs i j = get_or (flags_in (get_or xs i (arg.bits []))) j false

-- the method of a kind with these arguments
abbrev rebuilt : MethodKind → List Arg → Method91
rebuilt (class.Connection in_connection.Start) xs =
    method.ConnectionStart (number xs 0) (number xs 1) (entries xs 2) (text xs 3) (text xs 4)
rebuilt (class.Connection in_connection.StartOk) xs =
    method.ConnectionStartOk (entries xs 0) (text xs 1) (text xs 2) (text xs 3)
rebuilt (class.Connection in_connection.Secure) xs = method.ConnectionSecure (text xs 0)
rebuilt (class.Connection in_connection.SecureOk) xs = method.ConnectionSecureOk (text xs 0)
rebuilt (class.Connection in_connection.Tune) xs =
    method.ConnectionTune (number xs 0) (number xs 1) (number xs 2)
rebuilt (class.Connection in_connection.TuneOk) xs =
    method.ConnectionTuneOk (number xs 0) (number xs 1) (number xs 2)
rebuilt (class.Connection in_connection.Open) xs = method.ConnectionOpen (text xs 0)
rebuilt (class.Connection in_connection.OpenOk) xs = method.ConnectionOpenOk
rebuilt (class.Connection in_connection.Close) xs =
    method.ConnectionClose (number xs 0) (text xs 1) (number xs 2) (number xs 3)
rebuilt (class.Connection in_connection.CloseOk) xs = method.ConnectionCloseOk
rebuilt (class.Channel in_channel.Open) xs = method.ChannelOpen
rebuilt (class.Channel in_channel.OpenOk) xs = method.ChannelOpenOk
rebuilt (class.Channel in_channel.Flow) xs = method.ChannelFlow (flag xs 0 0)
rebuilt (class.Channel in_channel.FlowOk) xs = method.ChannelFlowOk (flag xs 0 0)
rebuilt (class.Channel in_channel.Close) xs =
    method.ChannelClose (number xs 0) (text xs 1) (number xs 2) (number xs 3)
rebuilt (class.Channel in_channel.CloseOk) xs = method.ChannelCloseOk
rebuilt (class.Exchange in_exchange.Declare) xs =
    method.ExchangeDeclare (text xs 1) (text xs 2) (flag xs 3 0) (flag xs 3 1) (flag xs 3 2) (flag xs 3 3) (flag xs 3 4) (entries xs 4)
rebuilt (class.Exchange in_exchange.DeclareOk) xs = method.ExchangeDeclareOk
rebuilt (class.Exchange in_exchange.Delete) xs =
    method.ExchangeDelete (text xs 1) (flag xs 2 0) (flag xs 2 1)
rebuilt (class.Exchange in_exchange.DeleteOk) xs = method.ExchangeDeleteOk
rebuilt (class.Queue in_queue.Declare) xs =
    method.QueueDeclare (text xs 1) (flag xs 2 0) (flag xs 2 1) (flag xs 2 2) (flag xs 2 3) (flag xs 2 4) (entries xs 3)
rebuilt (class.Queue in_queue.DeclareOk) xs =
    method.QueueDeclareOk (text xs 0) (number xs 1) (number xs 2)
rebuilt (class.Queue in_queue.Bind) xs =
    method.QueueBind (text xs 1) (text xs 2) (text xs 3) (flag xs 4 0) (entries xs 5)
rebuilt (class.Queue in_queue.BindOk) xs = method.QueueBindOk
rebuilt (class.Queue in_queue.Purge) xs = method.QueuePurge (text xs 1) (flag xs 2 0)
rebuilt (class.Queue in_queue.PurgeOk) xs = method.QueuePurgeOk (number xs 0)
rebuilt (class.Queue in_queue.Delete) xs =
    method.QueueDelete (text xs 1) (flag xs 2 0) (flag xs 2 1) (flag xs 2 2)
rebuilt (class.Queue in_queue.DeleteOk) xs = method.QueueDeleteOk (number xs 0)
rebuilt (class.Queue in_queue.Unbind) xs =
    method.QueueUnbind (text xs 1) (text xs 2) (text xs 3) (entries xs 4)
rebuilt (class.Queue in_queue.UnbindOk) xs = method.QueueUnbindOk
rebuilt (class.Basic in_basic.Qos) xs = method.BasicQos (number xs 0) (number xs 1) (flag xs 2 0)
rebuilt (class.Basic in_basic.QosOk) xs = method.BasicQosOk
rebuilt (class.Basic in_basic.Consume) xs =
    method.BasicConsume (text xs 1) (text xs 2) (flag xs 3 0) (flag xs 3 1) (flag xs 3 2) (flag xs 3 3) (entries xs 4)
rebuilt (class.Basic in_basic.ConsumeOk) xs = method.BasicConsumeOk (text xs 0)
rebuilt (class.Basic in_basic.Cancel) xs = method.BasicCancel (text xs 0) (flag xs 1 0)
rebuilt (class.Basic in_basic.CancelOk) xs = method.BasicCancelOk (text xs 0)
rebuilt (class.Basic in_basic.Publish) xs =
    method.BasicPublish (text xs 1) (text xs 2) (flag xs 3 0) (flag xs 3 1)
rebuilt (class.Basic in_basic.Return) xs =
    method.BasicReturn (number xs 0) (text xs 1) (text xs 2) (text xs 3)
rebuilt (class.Basic in_basic.Deliver) xs =
    method.BasicDeliver (text xs 0) (number xs 1) (flag xs 2 0) (text xs 3) (text xs 4)
rebuilt (class.Basic in_basic.Get) xs = method.BasicGet (text xs 1) (flag xs 2 0)
rebuilt (class.Basic in_basic.GetOk) xs =
    method.BasicGetOk (number xs 0) (flag xs 1 0) (text xs 2) (text xs 3) (number xs 4)
rebuilt (class.Basic in_basic.GetEmpty) xs = method.BasicGetEmpty
rebuilt (class.Basic in_basic.Ack) xs = method.BasicAck (number xs 0) (flag xs 1 0)
rebuilt (class.Basic in_basic.Reject) xs = method.BasicReject (number xs 0) (flag xs 1 0)
rebuilt (class.Basic in_basic.RecoverAsync) xs = method.BasicRecoverAsync (flag xs 0 0)
rebuilt (class.Basic in_basic.Recover) xs = method.BasicRecover (flag xs 0 0)
rebuilt (class.Basic in_basic.RecoverOk) xs = method.BasicRecoverOk
rebuilt (class.Basic in_basic.Nack) xs = method.BasicNack (number xs 0) (flag xs 1 0) (flag xs 1 1)
rebuilt (class.Confirm in_confirm.Select) xs = method.ConfirmSelect (flag xs 0 0)
rebuilt (class.Confirm in_confirm.SelectOk) xs = method.ConfirmSelectOk
rebuilt (class.Tx in_tx.Select) xs = method.TxSelect
rebuilt (class.Tx in_tx.SelectOk) xs = method.TxSelectOk
rebuilt (class.Tx in_tx.Commit) xs = method.TxCommit
rebuilt (class.Tx in_tx.CommitOk) xs = method.TxCommitOk
rebuilt (class.Tx in_tx.Rollback) xs = method.TxRollback
rebuilt (class.Tx in_tx.RollbackOk) xs = method.TxRollbackOk

-- each method is rebuilt alike
rebuilt_is : (m : Method91) → rebuilt (kind_of m) (args_of m) ≡ m
rebuilt_is (method.ConnectionStart version_major version_minor server_properties mechanisms locales) =
    refl
rebuilt_is m = refl

pub same_parts : (m n : Method91) → parts_of m ≡ parts_of n → m ≡ n
same_parts m n e =
    sym (rebuilt_is m) ∙ ap (λ (p : MethodKind × List Arg). rebuilt p.0 p.1) e ∙ rebuilt_is n
