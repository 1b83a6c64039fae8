use Rattle.std.proofs.Common.{ℕ, ap, sym}
use Rattle.bridge_core.proofs.Meets.{refused_met, sent_met}
use Rattle.bridge_core.proofs.requests.meet_publish.Goals as goal

pub returns-in-Sent-clause-ok : goal.returns-in-Sent-clause-ok
returns-in-Sent-clause-ok c ps =
    let a = c.args in
    sent_met _ ps a.channel a.method a.content a.conn.now _ _ _ _ c.in-Sent.address c.in-Sent.payload c.in-Sent.back
    c.frame_max-limit.ensures.value c.message_of-message.ensures.message c.message_of-message.ensures.mandatory c.in-Sent.is c.in_ok-address.ensures

pub returns-in-Refused-clause-ok : goal.returns-in-Refused-clause-ok
returns-in-Refused-clause-ok c ps =
    let a = c.args in
    refused_met _ ps a.channel a.method a.content a.conn.now _ c.refusal_for.result _ _ _ _ _ c.in-Refused.code c.in-Refused.told
    c.frame_max-limit.ensures.value c.message_of-message.ensures.message c.message_of-message.ensures.mandatory c.in-Refused.is c.in_ok-address.ensures
    (c.refusal_for.ensures a.method (sym (ap (λ (p : ℕ × ℕ). p.0) c.ids-ids.ensures)) (sym (ap (λ (p : ℕ × ℕ). p.1) c.ids-ids.ensures)))
    c.refuse.ensures.conn c.refuse.ensures.met
