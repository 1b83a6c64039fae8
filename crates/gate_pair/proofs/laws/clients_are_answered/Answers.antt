use Rattle.gate_pair.specs.Meaning.{steps_of}
use Rattle.gate_pair.proofs.Heard.{AreSettled, are_cut, are_heard}
use Rattle.gate_pair.proofs.Logins.{AreLoggedIn}
use Rattle.gate_pair.proofs.Picks.{picks}
use Rattle.gate_pair.proofs.Sent.{are_sent, owed}
use Rattle.gate_pair.proofs.laws.clients_are_answered.Goals as goal

pub returns : goal.returns
returns c = λ s h r.
    let settled : AreSettled = record {
      frame = c.frame_laws.ensures.settled;
      header = c.frame_laws.ensures.header_settled;
      frame_10 = c.frame_laws10.ensures.settled;
      header_10 = c.frame_laws10.ensures.header_settled;
    } in
    let logged_in : AreLoggedIn = record { forward = c.connection_laws.ensures.forward; called = c.containers_are_asked.ensures.called } in
    record {
      units_are = are_cut settled logged_in s h r;
      heard_are = are_heard settled logged_in s h r;
      sent_are = are_sent logged_in s h r;
      answers = c.clients_are_answered.ensures (steps_of s h) (picks s h r);
      owed = owed logged_in s h r;
    }
