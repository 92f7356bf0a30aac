-- The codes of broken rules.
use Rattle.std.specs.Prelude.{ℕ}
use Rattle.mc_text.specs.declared.fault.Fault.{Fault}
use Rattle.mc_text.specs.declared.fault.Fault.TheVariants.{StrayByte, NoKind, KindNotTaken}
use Rattle.mc_text.specs.declared.fault.Fault.TheVariants.{NotVersion, NotFixed, LineEnds, Surplus}
use Rattle.mc_text.specs.declared.fault.Fault.TheVariants.{NotName, NotAngle, NotNumber}
use Rattle.mc_text.specs.declared.fault.Fault.TheVariants.{DefinedTwice, NotDefined, Measured}
use Rattle.mc_text.specs.declared.fault.Fault.TheVariants.{SameOperand, EdgeTwice, NotMeasured}
use Rattle.mc_text.specs.declared.fault.Fault.TheVariants.{ListedTwice, OutputsLack, TextEnds}
use Rattle.mc_text.specs.declared.fault.Fault.TheVariants.{BehindEnd, OtherRow, RowTwice, NoSecond}
use Rattle.mc_text.specs.declared.fault.Fault.TheVariants.{BitsDiffer, FixedTwice, SizesDiffer}
use Rattle.mc_text.specs.declared.fault.Fault.TheVariants.{StepDiffers}

abbrev pub code_of : Fault → ℕ
code_of StrayByte = 2
code_of NoKind = 3
code_of KindNotTaken = 4
code_of NotVersion = 5
code_of NotFixed = 6
code_of LineEnds = 7
code_of Surplus = 8
code_of NotName = 9
code_of NotAngle = 10
code_of NotNumber = 11
code_of DefinedTwice = 12
code_of NotDefined = 13
code_of Measured = 14
code_of SameOperand = 15
code_of EdgeTwice = 16
code_of NotMeasured = 17
code_of ListedTwice = 18
code_of OutputsLack = 19
code_of TextEnds = 20
code_of BehindEnd = 21
code_of OtherRow = 22
code_of RowTwice = 23
code_of NoSecond = 24
code_of BitsDiffer = 25
code_of FixedTwice = 26
code_of SizesDiffer = 27
code_of StepDiffers = 28
