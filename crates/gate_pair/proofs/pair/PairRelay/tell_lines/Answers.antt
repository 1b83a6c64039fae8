use Rattle.std.proofs.Common.{◌≡◌, ℕ, List, false}
use Rattle.gate_outside.specs.Streams.{Appends, AppendsFront}
use Rattle.gate_relay.specs.Entries.{is_empty}
use Rattle.gate_pair.proofs.Saids.{half, appends_none, none_owed, on_false, on_true, owed_told, pair_of}
use Rattle.gate_pair.proofs.pair.PairRelay.tell_lines.Goals as goal

pub returns-then-self-clause-whole : goal.returns-then-self-clause-whole
returns-then-self-clause-whole g c =
    on_true c.tell_lines.result
    (owed_told (Appends (g.K.Sink.held c.args.report.now) (g.K.Sink.held c.tell_lines.new.report))
    (pair_of c.self.inside.bridge (half c.self.inside.client c.self.inside.client_sent) (half c.self.inside.up c.self.inside.up_sent) c.self.inside.telling) c.args.self.now c.self.view_is c.if-self.true)
    c.tell_lines.ensures.whole

pub returns-then-self-clause-some : goal.returns-then-self-clause-some
returns-then-self-clause-some g c =
    on_false c.tell_lines.result
    (owed_told (λ (bytes : List ℕ). is_empty bytes ≡ false)
    (pair_of c.self.inside.bridge (half c.self.inside.client c.self.inside.client_sent) (half c.self.inside.up c.self.inside.up_sent) c.self.inside.telling) c.args.self.now c.self.view_is c.if-self.true)
    c.tell_lines.ensures.some

pub returns-then-self-clause-part : goal.returns-then-self-clause-part
returns-then-self-clause-part g c =
    on_false c.tell_lines.result
    (owed_told (AppendsFront (g.K.Sink.held c.args.report.now) (g.K.Sink.held c.tell_lines.new.report))
    (pair_of c.self.inside.bridge (half c.self.inside.client c.self.inside.client_sent) (half c.self.inside.up c.self.inside.up_sent) c.self.inside.telling) c.args.self.now c.self.view_is c.if-self.true)
    c.tell_lines.ensures.part

pub returns-else-self-clause-whole : goal.returns-else-self-clause-whole
returns-else-self-clause-whole g c =
    none_owed (Appends (g.K.Sink.held c.args.report.now) (g.K.Sink.held c.args.report.now))
    (pair_of c.self.inside.bridge (half c.self.inside.client c.self.inside.client_sent) (half c.self.inside.up c.self.inside.up_sent) c.self.inside.telling) c.args.self.now c.self.view_is c.if-self.false
    (appends_none (g.K.Sink.held c.args.report.now))
