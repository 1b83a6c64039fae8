use Rattle.gate_pair.specs.Meaning.{pair_words}
use Rattle.gate_laws.proofs.Idles.{steady, wakes_none}
use Rattle.gate_laws.proofs.idle_is_at_rest.Goals as goal

pub returns-clause-rests : goal.returns-clause-rests
returns-clause-rests c = λ s l m f. c.idle_is_at_rest.ensures.rests (pair_words s) l m (steady s) f

pub returns-clause-silent : goal.returns-clause-silent
returns-clause-silent c = λ s l m f.
    c.idle_is_at_rest.ensures.silent (pair_words s) l m (steady s) (wakes_none s (c.entries_give_picks.ensures s)) f
