-- What a fault of records is to a shelf.
use Rattle.sb_outside.specs.declared.fault.RecordsFault.{RecordsFault}
use Rattle.sb_outside.specs.declared.fault.RecordsFault.TheVariants as records
use Rattle.sb_outside.specs.declared.fault.ShelfFault.{ShelfFault}
use Rattle.sb_outside.specs.declared.fault.ShelfFault.TheVariants as shelf

-- a refusal is a failure
abbrev pub shelf_fault_of : RecordsFault → ShelfFault
shelf_fault_of records.Refused = shelf.Failed
shelf_fault_of records.Memory = shelf.Memory
