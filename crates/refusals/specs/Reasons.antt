-- The number of each reason, as document 01's table has it.
use Rattle.std.specs.Prelude.{ℕ}
use Rattle.refusals.specs.declared.reason.Reason.{Reason}
use Rattle.refusals.specs.declared.reason.Reason.TheVariants.{
  NotARecord,
  Checksum,
  RecordNotTaken,
  TooLarge,
  NotAnImage,
  ContentsCount,
  ContentsLine,
  BodySum,
  UnknownKind,
  MissingKind,
  Identity,
  PressureSet,
  TemperatureSet,
  Trim,
  Note,
  NoRoom,
  BuilderLines,
  BuilderLengths,
  NoSuchLevel,
  SensorCycles,
  ReferenceCycles,
  Frequency,
  FarFromCalibration,
  SumTooLarge,
  ResultTooLarge,
}

abbrev pub number_of : Reason → ℕ
number_of NotARecord = 1
number_of Checksum = 2
number_of RecordNotTaken = 3
number_of TooLarge = 4
number_of NotAnImage = 5
number_of ContentsCount = 6
number_of ContentsLine = 7
number_of BodySum = 8
number_of UnknownKind = 9
number_of MissingKind = 10
number_of Identity = 11
number_of PressureSet = 12
number_of TemperatureSet = 13
number_of Trim = 15
number_of Note = 16
number_of NoRoom = 17
number_of BuilderLines = 18
number_of BuilderLengths = 19
number_of NoSuchLevel = 20
number_of SensorCycles = 21
number_of ReferenceCycles = 22
number_of Frequency = 23
number_of FarFromCalibration = 24
number_of SumTooLarge = 25
number_of ResultTooLarge = 26
