-- The calls that reading all and writing all make.
use Rattle.std.specs.Prelude.{ℕ, List, length, Result, Ok, Err}
use Rattle.mc_io.specs.Calls.{Reads, ReadsOn, ReadsOnThen, Writes, WritesOn, WritesOnThenFails}
use Rattle.mc_io.specs.declared.end.ReadEnd.{ReadEnd}
use Rattle.mc_io.specs.declared.end.ReadEnd.TheVariants.{Fault, TooLong, Memory}

-- reads that gave bytes, and then one that gave none (`Ok`) or failed (`Fault`); at `TooLong` and
-- `Memory` none failed
abbrev pub MakesReads : {S E A : Type 0} → Reads S E → S → Result A ReadEnd → S → Type 0
MakesReads reads old (Ok bytes) new = ReadsOnThen reads old (Ok 0) new
MakesReads {E} reads old (Err Fault) new = (e : E) × ReadsOnThen reads old (Err e) new
MakesReads reads old (Err TooLong) new = ReadsOn reads old new
MakesReads reads old (Err Memory) new = ReadsOn reads old new

-- writes that took the whole text, or some of it until one failed
abbrev pub MakesWrites : {S E A : Type 0} → Writes S E → List ℕ → S → Result A E → S → Type 0
MakesWrites writes text old (Ok done) new = WritesOn writes text old (length text) new
MakesWrites writes text old (Err e) new = WritesOnThenFails writes text old new
