use Rattle.std.proofs.Common.{◌≡◌, not, rules}
use Rattle.std.proofs.lemmas.Fn.{filter_same}
use Rattle.gate_outside.specs.Ends.{is_end, closed}
use Rattle.gate_capture.proofs.replay.ReplayPorts.close.Goals as goal

pub returns : goal.returns
returns c =
    let kept : c.retain.new.self.items ≡ closed c.args.pair c.args.end c.self.inside.ends.items =
    filter_same _ (λ x. not (is_end c.args.pair c.args.end x)) _ (λ x b q t. (search rules, search rules)) _ _ c.retain.ensures.filtered in
    rw (← c.self.view_is, kept)
