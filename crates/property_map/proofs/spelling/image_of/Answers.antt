use Rattle.property_map.proofs.ImageTexts.{text_with}
use Rattle.property_map.proofs.spelling.image_of.Goals as goal

pub returns-clause-text : goal.returns-clause-text
returns-clause-text c = rw c.replace-body.ensures.value (text_with _ c.in_ok-image.image c.args.message.body c.in_ok-image.ensures.image)
