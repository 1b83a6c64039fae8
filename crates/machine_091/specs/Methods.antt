-- The methods of a channel that are passed on, from their arguments (AMQP 0-9-1 1.5 to 1.8, and
-- RabbitMQ's basic.nack and confirms).
use Rattle.std.specs.Prelude.{ℕ, zero, suc, Bool, false, List, [], ◌∷◌}
use Rattle.tables_091.specs.Tree.{Tree}
use Rattle.methods_091.specs.Arguments.{Arg}
use Rattle.methods_091.specs.Arguments as arg
use Rattle.methods_091.specs.declared.method.Method91.{Method91}
use Rattle.methods_091.specs.declared.method.Method91.TheVariants as method

-- ---- arguments of a method

-- one that is a text, and one that is a number
abbrev pub text_at : ℕ → List Arg → List ℕ
text_at k [] = []
text_at zero (arg.shortstr s ∷ args) = s
text_at zero (arg.longstr s ∷ args) = s
text_at zero (a ∷ args) = []
text_at (suc k) (a ∷ args) = text_at k args

abbrev pub number_at : ℕ → List Arg → ℕ
number_at k [] = 0
number_at zero (arg.short n ∷ args) = n
number_at zero (arg.long n ∷ args) = n
number_at zero (arg.longlong n ∷ args) = n
number_at zero (a ∷ args) = 0
number_at (suc k) (a ∷ args) = number_at k args

-- one that is a table
abbrev pub fields_at : ℕ → List Arg → List (List ℕ × Tree)
fields_at k [] = []
fields_at zero (arg.fields ms ∷ args) = ms
fields_at zero (a ∷ args) = []
fields_at (suc k) (a ∷ args) = fields_at k args

-- the flags that share an octet, and one of them
abbrev pub flags_at : ℕ → List Arg → List Bool
flags_at k [] = []
flags_at zero (arg.bits bs ∷ args) = bs
flags_at zero (a ∷ args) = []
flags_at (suc k) (a ∷ args) = flags_at k args

abbrev pub flag : ℕ → List Bool → Bool
flag k [] = false
flag zero (b ∷ bs) = b
flag (suc k) (b ∷ bs) = flag k bs

-- ---- methods

abbrev pub close_of : List Arg → Method91
close_of args =
    method.ChannelClose (number_at 0 args) (text_at 1 args) (number_at 2 args) (number_at 3 args)

abbrev pub flow_of : List Arg → Method91
flow_of args = method.ChannelFlow (flag 0 (flags_at 0 args))

abbrev pub declare_of : List Arg → Method91
declare_of args =
    let flags = flags_at 3 args in
    method.ExchangeDeclare (text_at 1 args) (text_at 2 args) (flag 0 flags) (flag 1 flags)
    (flag 2 flags) (flag 3 flags) (flag 4 flags) (fields_at 4 args)

abbrev pub queue_declare_of : List Arg → Method91
queue_declare_of args =
    let flags = flags_at 2 args in
    method.QueueDeclare (text_at 1 args) (flag 0 flags) (flag 1 flags) (flag 2 flags)
    (flag 3 flags) (flag 4 flags) (fields_at 3 args)

abbrev pub publish_of : List Arg → Method91
publish_of args =
    let flags = flags_at 3 args in
    method.BasicPublish (text_at 1 args) (text_at 2 args) (flag 0 flags) (flag 1 flags)

abbrev pub consume_of : List Arg → Method91
consume_of args =
    let flags = flags_at 3 args in
    method.BasicConsume (text_at 1 args) (text_at 2 args) (flag 0 flags) (flag 1 flags)
    (flag 2 flags) (flag 3 flags) (fields_at 4 args)

abbrev pub qos_of : List Arg → Method91
qos_of args = method.BasicQos (number_at 0 args) (number_at 1 args) (flag 0 (flags_at 2 args))

abbrev pub cancel_of : List Arg → Method91
cancel_of args = method.BasicCancel (text_at 0 args) (flag 0 (flags_at 1 args))

abbrev pub get_of : List Arg → Method91
get_of args = method.BasicGet (text_at 1 args) (flag 0 (flags_at 2 args))

abbrev pub ack_of : List Arg → Method91
ack_of args = method.BasicAck (number_at 0 args) (flag 0 (flags_at 1 args))

abbrev pub reject_of : List Arg → Method91
reject_of args = method.BasicReject (number_at 0 args) (flag 0 (flags_at 1 args))

abbrev pub nack_of : List Arg → Method91
nack_of args =
    let flags = flags_at 1 args in
    method.BasicNack (number_at 0 args) (flag 0 flags) (flag 1 flags)

abbrev pub recover_of : List Arg → Method91
recover_of args = method.BasicRecover (flag 0 (flags_at 0 args))

abbrev pub recover_async_of : List Arg → Method91
recover_async_of args = method.BasicRecoverAsync (flag 0 (flags_at 0 args))

abbrev pub select_of : List Arg → Method91
select_of args = method.ConfirmSelect (flag 0 (flags_at 0 args))
