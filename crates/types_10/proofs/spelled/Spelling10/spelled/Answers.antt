use Rattle.types_10.proofs.spelled.Spelling10.spelled.Goals as goal

pub invariant_of-result : goal.invariant_of-result
invariant_of-result c = rw (c.bounds_of.ensures, c.as_slice-text.ensures) c.self.invariant

pub returns : goal.returns
returns c = rw (c.bounds_of.ensures, c.as_slice-text.ensures) c.self.view_is
