-- What a client sends can be written again: a basic.return gives the exchange, the routing key and
-- the properties of a publish back, a queue.declare-ok the name of its queue, and
-- a basic.consume-ok, a basic.cancel-ok and each basic.deliver the tag of their consumer
-- (AMQP 0-9-1 1.7.2.2, 1.8.3.4, 1.8.3.6 to 1.8.3.9 and 4.2.6).
use Rattle.std.specs.Prelude.{◌≡◌, ℕ, ◌≤◌, length, Some}
use Rattle.wire_base.specs.Bytes.{IsBytes}
use Rattle.methods_091.specs.Writing.{CanPut}
use Rattle.methods_091.specs.declared.method.Method91.{Method91}
use Rattle.methods_091.specs.declared.method.Method91.TheVariants as method
use Rattle.content_091.specs.View.{props_of}
use Rattle.content_091.specs.Writing.{CanPutAll}
use Rattle.content_091.specs.declared.assembly.Stage.{Stage}
use Rattle.content_091.specs.declared.assembly.Stage.TheVariants as stage
use Rattle.content_091.specs.declared.assembly.Step.{Step}
use Rattle.content_091.specs.declared.assembly.Step.TheVariants as step
use Rattle.machine_091.specs.State.{content_at}
use Rattle.machine_091.specs.declared.contents.Incoming.{Incoming}
use Rattle.machine_091.specs.declared.state.Connection.{Connection}
use Rattle.machine_091.specs.declared.unit.Unit91.{Unit91}
use Rattle.machine_091.specs.declared.unit.Unit91.TheVariants as unit
use Rattle.machine_091.specs.declared.unit.Want91.{Want91}
use Rattle.machine_091.specs.declared.unit.Want91.TheVariants as want

-- ---- what is handed out

-- the names in a method that is passed on are short strings: the queue in a queue.declare, the
-- queue and the tag of a consumer, and the tag in a basic.cancel
abbrev pub HasShortNames : Method91 → Type 0
HasShortNames (method.QueueDeclare queue passive durable exclusive auto_delete no_wait arguments) =
    length queue ≤ 255
HasShortNames (method.BasicConsume queue tag no_local no_ack exclusive no_wait arguments) =
    (length queue ≤ 255) × (length tag ≤ 255)
HasShortNames (method.BasicCancel tag no_wait) = length tag ≤ 255
HasShortNames m = Unit {0}

-- the properties of a published content have a spelling, and so have the arguments of its method:
-- exchange and routing key, each of at most 255 bytes
abbrev pub CanPutBack : Want91 → Type 0
CanPutBack want.Nothing = Unit {0}
CanPutBack want.Start = Unit {0}
CanPutBack (want.Login mechanism response) = Unit {0}
CanPutBack want.Tuned = Unit {0}
CanPutBack want.OpenUp = Unit {0}
CanPutBack (want.Method n m) = HasShortNames m
CanPutBack (want.Publish n m d) = CanPutAll (props_of d.props) × CanPut m
CanPutBack (want.ChannelCloseOk n) = Unit {0}
CanPutBack want.Close = Unit {0}
CanPutBack want.CloseOk = Unit {0}
CanPutBack (want.Refuse r) = Unit {0}

-- ---- contents in progress

-- the properties of a content whose header came
abbrev pub CanPutStage : Stage → Type 0
CanPutStage stage.Begun = Unit {0}
CanPutStage (stage.Taking p) = CanPutAll (props_of p.content.props)
CanPutStage stage.Whole = Unit {0}

-- those of a content that is whole with a frame
abbrev pub CanPutStep : Step → Type 0
CanPutStep step.More = Unit {0}
CanPutStep (step.Whole d) = CanPutAll (props_of d.props)

-- the same of each content in progress, and of the method that began it
abbrev pub CanPutContents : Connection → Type 0
CanPutContents c =
    (n : ℕ) (i : Incoming) → content_at c n ≡ Some i
    → CanPutStage i.assembly.stage × CanPut i.method

-- ---- units

-- what is true of each unit: its payload is bytes
abbrev pub AreBytes : Unit91 → Type 0
AreBytes unit.Protocol = Unit {0}
AreBytes (unit.Frame f) = IsBytes f.payload
AreBytes (unit.Bad code) = Unit {0}
