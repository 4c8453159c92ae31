-- The fields read so far, before what the rest of the record gives, are the whole record's.
use Rattle.std.proofs.Common.{◌≡◌, ◌-◌, length, take}
use Rattle.text.proofs.FieldLaws.{prepend}
use Rattle.records.specs.Records.{fields, fields_from}
use Rattle.records.proofs.read.record_in.Given as goal

abbrev pub invariant-loop-k : goal.invariant-loop-k
invariant-loop-k l = (length l.got ≡ fields) × (prepend (take l.k l.got) (fields_from (fields - l.k) l.k l.s) ≡ fields_from fields 0 l.s)
