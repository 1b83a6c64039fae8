-- The constructor of an array as the program keeps it: the descriptors, and the kind (AMQP 1.0
-- 1.6.24).
use Rattle.types_10.specs.Reading.{Shape}
use Rattle.types_10.specs.declared.reading.Shape.{Shape as Kept}

abbrev pub shape_data : Kept → Shape
shape_data s = (s.descriptors, s.kind)
