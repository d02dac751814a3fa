-- How a session ends at an error of its requests.
use Rattle.keep_wire.specs.declared.message.WireError.{WireError}
use Rattle.keep_wire.specs.declared.message.WireError.TheVariants as wire
use Rattle.keep_wire.specs.declared.session_end.SessionEnd.{SessionEnd}
use Rattle.keep_wire.specs.declared.session_end.SessionEnd.TheVariants as session

abbrev pub end_of : WireError → SessionEnd
end_of wire.ReadFault = session.ReadFault
end_of wire.BadHead = session.BadHead
end_of wire.LengthRequired = session.LengthRequired
end_of (wire.BodyTooLong n) = session.BodyTooLong n
end_of wire.CutBody = session.CutBody
end_of wire.NoMemory = session.NoMemory
