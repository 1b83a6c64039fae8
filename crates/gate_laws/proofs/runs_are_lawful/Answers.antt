-- Each law as its function states it.
use Rattle.std.specs.Prelude.{drop}
use Rattle.gate_model.specs.Setup.{SetupText}
use Rattle.gate_pair.specs.Meaning.{pair_words}
use Rattle.gate_runs.specs.declared.limits.Limits.{Limits}
use Rattle.gate_runs.specs.Marks.{History}
use Rattle.gate_runs.specs.Serving.{Follows}
use Rattle.gate_laws.specs.Laws.{IsLawfulRun}
use Rattle.gate_laws.proofs.Points.{follows_to}
use Rattle.gate_laws.proofs.runs_are_lawful.Goals as goal

pub returns : goal.returns
returns c = λ s l m f n. at s l (drop n m) (follows_to (pair_words s) l m n f)
  where
    at : (s : SetupText) (l : Limits) (m : History) → Follows (pair_words s) l m → IsLawfulRun s l m
    at s l m f = record {
      pairs = λ p. record {
        entries = c.entries_are_lawful.ensures.lawful s l m f p;
        picks = c.entries_are_lawful.ensures.picks s l m f p;
        answers = c.clients_are_answered.ensures s l m f p;
        order = c.units_keep_their_order.ensures s l m f p;
        room = c.laden_pairs_wait.ensures.room s l m f p;
        held = c.laden_pairs_wait.ensures.most s l m f p;
        once = c.channels_are_answered_once.ensures s l m f p;
        requests = c.requests_are_answered.ensures.order s l m f p;
        met = c.requests_are_answered.ensures.met s l m f p;
        declared = c.declarations_find_queues.ensures s l m f p;
        turns = c.requests_hold_what_follows.ensures s l m f p;
        confirms = c.publishes_are_lawful.ensures.confirms s l m f p;
        returns = c.publishes_are_lawful.ensures.returns s l m f p;
        transfers = c.publishes_are_lawful.ensures.transfers s l m f p;
        credit = c.publishes_are_lawful.ensures.credit s l m f p;
        counts = c.publishes_are_lawful.ensures.counts s l m f p;
        reaches = c.publishes_reach_their_address.ensures.reaches s l m f p;
        numbers = c.publishes_reach_their_address.ensures.numbers s l m f p;
        pieces = c.publishes_are_lawful.ensures.pieces s l m f p;
        wholes = c.publishes_are_lawful.ensures.end s l m f p;
        given = c.idle_links_are_given_up.ensures s l m f p;
        delivers = c.delivers_are_lawful.ensures s l m f p;
        images = c.contents_are_lawful.ensures.images s l m f p;
        contents = c.contents_are_lawful.ensures.written s l m f p;
        together = c.contents_are_lawful.ensures.together s l m f p;
        settles = c.deliveries_are_settled.ensures.settles s l m f p;
        grants = c.deliveries_are_settled.ensures.grants s l m f p;
        credits = c.quotas_are_kept.ensures.stated s l m f p;
        quotas = c.quotas_are_kept.ensures.kept s l m f p;
        left = c.quotas_are_kept.ensures.left s l m f p;
        releases = c.deliveries_are_settled.ensures.releases s l m f p;
        taken = c.deliveries_are_settled.ensures.taken s l m f p;
        recovered = c.recovers_release_all.ensures.released s l m f p;
        unrecovered = c.recovers_release_all.ensures.others s l m f p;
        gone = c.recovers_release_all.ensures.gone s l m f p;
        lingers = c.sessions_end_in_time.ensures.lingers s l m f p;
        lost = c.sessions_end_in_time.ensures.lost s l m f p;
        errors = c.sessions_end_in_time.ensures.errors s l m f p;
        ends_once = c.sessions_end_in_time.ensures.once s l m f p;
        outcomes = c.links_are_answered_once.ensures.outcomes s l m f p;
        flows = c.links_are_answered_once.ensures.flows s l m f p;
        attaches = c.links_are_answered_once.ensures.attaches s l m f p;
        handles = c.units_name_their_links.ensures.handles s l m f p;
        heard = c.units_name_their_links.ensures.heard s l m f p;
        recorded = c.units_name_their_links.ensures.recorded s l m f p;
        sources = c.links_are_answered_once.ensures.sources s l m f p;
        faults = c.links_are_answered_once.ensures.faults s l m f p;
        passed = c.links_are_answered_once.ensures.passed s l m f p;
        stops = c.channels_close_lawfully.ensures.stops s l m f p;
        reasons = c.channels_close_lawfully.ensures.why s l m f p;
        closes_once = c.channels_close_lawfully.ensures.once s l m f p;
        life_once = c.channels_close_lawfully.ensures.life s l m f p;
        behind = c.channels_close_lawfully.ensures.behind s l m f p;
        started = c.channels_close_lawfully.ensures.started s l m f p;
        lines = c.lines_are_lawful.ensures s l m f p;
        served = c.owed_units_go.ensures.clients s l m f p;
        supplied = c.owed_units_go.ensures.containers s l m f p;
        ended = c.owed_units_go.ensures.sessions s l m f p;
        filled = c.owed_units_go.ensures.filled s l m f p;
        attached = c.owed_units_go.ensures.attached s l m f p;
        detached = c.owed_units_go.ensures.detached s l m f p;
        replied = c.owed_units_go.ensures.replies s l m f p;
        ends = c.replies_wait.ensures.ends s l m f p;
        channels = c.replies_wait.ensures.channels s l m f p;
        opens = c.replies_wait.ensures.opens s l m f p;
        begun = c.replies_wait.ensures.begun s l m f p;
        called = c.containers_are_asked.ensures.called s l m f p;
        goes = c.containers_are_asked.ensures.goes s l m f p;
        frames = c.frames_fit_clients.ensures s l m f p;
        frames_up = c.frames_fit_containers.ensures s l m f p;
        times = c.times_are_kept.ensures s l m f p;
        silences = c.silent_ends_are_given_up.ensures s l m f p;
      };
      turns = c.runs_keep_turns.ensures (pair_words s) l m f;
      lines = c.report_follows_marks.ensures.whole (pair_words s) m;
      rests = c.idle_is_at_rest.ensures.rests s l m f;
      silent = c.idle_is_at_rest.ensures.silent s l m f;
      alone = λ plain over. record {
        each = c.calls_determine_all.ensures.each (pair_words s) l m f plain;
        last = c.calls_determine_all.ensures.last (pair_words s) l m f plain over;
      };
    }
