-- The numbers of a sheet are few enough for memory: there are tags for each of them.
use Rattle.std.proofs.Common.{arith}
use Rattle.sheets.proofs.sheet.NumberedSheet.is_lawful.Goals as goal

pub limits-requires : goal.limits-requires
limits-requires g c = omega (arith, g.met.Self.NumberedSheet.as_many_as_there_are_tags)

pub numbers-requires : goal.numbers-requires
numbers-requires g c = omega (arith, g.met.Self.NumberedSheet.as_many_as_there_are_tags)

pub admits_all-requires : goal.admits_all-requires
admits_all-requires g c = (omega (arith, g.met.Self.NumberedSheet.as_many_as_there_are_tags), omega (arith, g.met.Self.NumberedSheet.as_many_as_there_are_tags))
