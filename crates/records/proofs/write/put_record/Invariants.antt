-- What is left to be written of the record: the numbers of the fields that are left and all origins, then the origins of those that are left.
use Rattle.std.proofs.Common.{◌++◌, drop}
use Rattle.lent.proofs.LeftLaws.{Left}
use Rattle.records.specs.Records.{numbers_of, origins_of}
use Rattle.records.proofs.write.put_record.Given as goal

abbrev pub invariant-loop-field : goal.invariant-loop-field
invariant-loop-field l =
    let fs = l.field-items in
    Left l.initial.b l.at (numbers_of fs ++ origins_of fs) l.b l.p (numbers_of (drop l.field-index fs) ++ origins_of fs)

abbrev pub invariant-loop-field-2 : goal.invariant-loop-field-2
invariant-loop-field-2 l =
    let fs = l.field-items in
    Left l.fn.b l.at (numbers_of fs ++ origins_of fs) l.b l.p (origins_of (drop l.field-index fs))
