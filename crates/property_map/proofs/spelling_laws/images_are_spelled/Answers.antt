use Rattle.property_map.proofs.ImageSpells.{short_is_written}
use Rattle.property_map.proofs.ImageTexts.{text_is}
use Rattle.property_map.proofs.spelling_laws.images_are_spelled.Goals as goal

pub returns-clause-text : goal.returns-clause-text
returns-clause-text c = text_is

pub returns-clause-short : goal.returns-clause-short
returns-clause-short c = short_is_written
