-- The exit number and the note of a status.
use Rattle.std.specs.Prelude.{ℕ, List, [], ◌++◌, codes}
use Rattle.std.specs.Fmt.{decimal}
use Rattle.mc_top.specs.declared.status.Status.{Status}
use Rattle.mc_top.specs.declared.status.Status.TheVariants.{Done, No, Usage, Refused, Limit}
use Rattle.mc_top.specs.declared.status.Status.TheVariants.{ReadFault, WriteFault, Memory}

-- the number with which the program ends
abbrev pub exit_of : Status → ℕ
exit_of Done = 0
exit_of No = 1
exit_of Usage = 2
exit_of (Refused code line column) = 3
exit_of (Limit which found) = 4
exit_of ReadFault = 5
exit_of WriteFault = 6
exit_of Memory = 7

-- the line that is noted
abbrev pub note_of : Status → List ℕ
note_of Done = []
note_of WriteFault = []
note_of No = codes "mcalc: no\n"
note_of Usage = codes "mcalc: usage\n"
note_of (Refused code line column) =
    codes "mcalc: refused " ++ decimal code ++ codes " at " ++ decimal line ++ codes ":"
    ++ decimal column ++ codes "\n"
note_of (Limit which found) =
    codes "mcalc: limit " ++ decimal which ++ codes " found " ++ decimal found ++ codes "\n"
note_of ReadFault = codes "mcalc: read fault\n"
note_of Memory = codes "mcalc: no memory\n"
