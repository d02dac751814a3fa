-- How a run ends: the exit status of the program, and the words on its standard error. This is the project's own format.
use Rattle.std.specs.Prelude.{ℕ, List, ◌∷◌, ◌++◌, codes, decimal}
use Rattle.keep_spec.specs.Config.{field_name}
use Rattle.keep_spec.specs.declared.status.AuditFault.{AuditFault}
use Rattle.keep_spec.specs.declared.status.AuditFault.TheVariants as faults
use Rattle.keep_spec.specs.declared.status.Status.{Status}
use Rattle.keep_spec.specs.declared.status.Status.TheVariants.{Done, BadWords, BadConfig, BadLine, WriteFault, ReadFault, NoMemory, LineTooLong, InputTooLong, NotEmpty, StoreFault, AuditFault as AuditFaultFound, DoorFault, PortFault}

-- the exit status; 1 is left to the system
abbrev pub exit_status : Status → ℕ
exit_status Done = 0
exit_status BadWords = 2
exit_status (BadConfig field) = 3
exit_status (BadLine number) = 4
exit_status WriteFault = 5
exit_status ReadFault = 6
exit_status NoMemory = 7
exit_status (LineTooLong number) = 8
exit_status InputTooLong = 9
exit_status (NotEmpty device) = 10
exit_status (StoreFault device) = 11
exit_status (AuditFaultFound fault) = 12
exit_status DoorFault = 13
exit_status PortFault = 17

-- a fault of an audit in words, with its numbers in decimal
abbrev pub audit_fault_text : AuditFault → List ℕ
audit_fault_text (faults.Twice tick) = codes "Twice " ++ decimal tick
audit_fault_text (faults.Stranger tick) = codes "Stranger " ++ decimal tick
audit_fault_text (faults.Skew earlier later) = codes "Skew " ++ decimal earlier ++ 32 ∷ decimal later
audit_fault_text (faults.Unissued tick) = codes "Unissued " ++ decimal tick
audit_fault_text (faults.RoundOrder earlier later) = codes "RoundOrder " ++ decimal earlier ++ 32 ∷ decimal later
audit_fault_text (faults.Unplanned tick) = codes "Unplanned " ++ decimal tick

-- a status in words, with its numbers in decimal
abbrev pub status_text : Status → List ℕ
status_text Done = codes "done"
status_text BadWords = codes "bad words"
status_text (BadConfig field) = codes "bad configuration: " ++ field_name field
status_text (BadLine number) = codes "bad line " ++ decimal number
status_text WriteFault = codes "write fault"
status_text ReadFault = codes "read fault"
status_text NoMemory = codes "no memory"
status_text (LineTooLong number) = codes "line too long: " ++ decimal number
status_text InputTooLong = codes "input too long"
status_text (NotEmpty device) = codes "device not empty: " ++ decimal device
status_text (StoreFault device) = codes "store fault: " ++ decimal device
status_text (AuditFaultFound fault) = codes "audit: " ++ audit_fault_text fault
status_text DoorFault = codes "door fault"
status_text PortFault = codes "port fault"
