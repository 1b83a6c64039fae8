use Rattle.property_map.proofs.Rooms.{header_fits, header_stops}
use Rattle.property_map.proofs.room.fitting.Goals as goal

pub returns-in-Ok : goal.returns-in-Ok
returns-in-Ok c = header_fits c.args.room c.args.props c.in-Ok.field-0 c.in-Ok.ensures

pub returns-in-Err : goal.returns-in-Err
returns-in-Err c = header_stops c.in-Err.stop c.args.room c.args.props c.in-Err.ensures
