use Rattle.gate_pair.specs.Meaning.{pair_words}
use Rattle.gate_laws.proofs.Given.{are_given}
use Rattle.gate_laws.proofs.frames_fit_containers.Goals as goal

pub returns : goal.returns
returns c = λ s l m f p form.
    let picks = c.entries_are_lawful.ensures.picks s l m f p in
    c.frames_fit_containers.ensures s _ form picks (are_given s (pair_words s) l m p form f picks)
