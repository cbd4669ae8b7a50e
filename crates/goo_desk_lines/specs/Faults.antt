-- What the faults of streams, of a desk and of bodies become.
use Rattle.goo_files_streams.specs.declared.InputFault.{InputFault}
use Rattle.goo_files_streams.specs.declared.InputFault.TheVariants as reading
use Rattle.goo_types.specs.declared.fault.Fault.{Fault}
use Rattle.goo_types.specs.declared.fault.Fault.TheVariants as desk
use Rattle.goo_desk_body.specs.declared.body_fault.BodyFault.{BodyFault}
use Rattle.goo_desk_body.specs.declared.body_fault.BodyFault.TheVariants as body
use Rattle.goo_desk_outcome.specs.declared.unreadable.Unreadable.TheVariants as reason
use Rattle.goo_desk_lines.specs.declared.unread.Unread.{Unread}
use Rattle.goo_desk_lines.specs.declared.unread.Unread.TheVariants as unread
use Rattle.goo_desk_lines.specs.declared.lines_fault.LinesFault.{LinesFault}
use Rattle.goo_desk_lines.specs.declared.lines_fault.LinesFault.TheVariants.{Read, Store, Memory}

abbrev pub of_reading : InputFault → LinesFault
of_reading reading.Read = Read
of_reading reading.TooLong = Read
of_reading reading.Memory = Memory

abbrev pub of_desk : Fault → LinesFault
of_desk desk.Store = Store
of_desk desk.Memory = Memory

-- a fault of a body is one of the line, or want of memory
abbrev pub of_body : BodyFault → Unread
of_body body.NotJson = unread.Unreadable reason.NotJson
of_body body.Shape = unread.Unreadable reason.Shape
of_body body.Field = unread.Unreadable reason.Field
of_body body.Memory = unread.Memory
