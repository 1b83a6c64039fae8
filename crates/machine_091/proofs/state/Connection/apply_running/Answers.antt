use Rattle.std.proofs.Common.{◌≡◌, refl, sym, ap, ◌∙◌}
use Rattle.methods_091.specs.View.{kind_of, args_of}
use Rattle.machine_091.specs.Transitions.{Step, channel_effect, running_effect}
use Rattle.machine_091.specs.declared.unit.Want91.TheVariants as want
use Rattle.machine_091.proofs.MethodCases.{on_channel, plain_running}
use Rattle.machine_091.proofs.state.Connection.apply_running.Goals.{in-ChannelOpen, in-ChannelClose}
use Rattle.machine_091.proofs.state.Connection.apply_running.Goals.{in_default}
use Rattle.machine_091.proofs.state.Connection.apply_running.Goals as goal

-- the effect of a method that is passed on
passed_on : (c : goal.Joined-method-2) → channel_effect c.args.self.now c.args.channel (kind_of c.args.method) (args_of c.args.method)
    ≡ (c.match-method-2.self, want.Method c.args.channel c.args.method)
passed_on c =
    elim c.match-method-2.branch [
      | in-ChannelOpen w ↦ rw (w.in-ChannelOpen.is, w.self-is, w.set_channel.ensures) refl
      | in-ChannelClose w ↦ rw (w.in-ChannelClose.is, w.self-is, w.close_channel.ensures) refl
      | in_default w ↦ rw w.self-is
          (plain_running c.args.self.now.carried_max c.args.self.now c.args.channel c.args.method c.if-channel-eq0.false (record {
            not_open = w.in_default.not-ChannelOpen;
            not_close = w.in_default.not-ChannelClose;
            not_close_ok = w.in_default.not-ChannelCloseOk;
            not_publish = w.in_default.not-BasicPublish;
          }) c.requires.own)
    ]

effect : (c : goal.Joined-method-2) → running_effect c.args.self.now c.args.channel (kind_of c.args.method) (args_of c.args.method)
    ≡ (c.match-method-2.self, want.Method c.args.channel c.args.method)
effect c = on_channel c.args.self.now c.args.channel c.args.method c.if-channel-eq0.false ∙ passed_on c

pub returns-clause-state : goal.returns-clause-state
returns-clause-state c = ap (λ (x : Step). x.0) (sym (effect c))

pub returns-clause-want : goal.returns-clause-want
returns-clause-want c = ap (λ (x : Step). x.1) (sym (effect c))
