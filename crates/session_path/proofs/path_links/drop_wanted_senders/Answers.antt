use Rattle.std.proofs.Common.{◌∙◌, sym, ap, drop, length, rules, arith}
use Rattle.std.proofs.lemmas.List.{drop_all}
use Rattle.session_path.proofs.Unwanted.{left_of, none_left_out}
use Rattle.session_path.proofs.path_links.drop_wanted_senders.Goals as goal

pub returns : goal.returns
returns c =
    sym (none_left_out c.loop-l.sending)
    ∙ ap (λ ks. left_of ks c.loop-l.sending) (sym (drop_all c.loop-l.l-index c.args.links.now (search rules)))
    ∙ c.loop-l.invariant
