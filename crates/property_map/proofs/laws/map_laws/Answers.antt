use Rattle.property_map.proofs.ImageLaws.{image_is_right, one_image}
use Rattle.property_map.proofs.RoundTrips.{comes_back}
use Rattle.property_map.proofs.laws.map_laws.Goals as goal

pub returns-clause-right : goal.returns-clause-right
returns-clause-right c = image_is_right

pub returns-clause-one : goal.returns-clause-one
returns-clause-one c = one_image

pub returns-clause-back : goal.returns-clause-back
returns-clause-back c = comes_back
