-- What is kept at the end is the pattern that the lines spell.
use Rattle.std.proofs.Common.{◌≡◌, ℕ, []}
use Rattle.std.proofs.Common.{map, refl}
use Rattle.std.proofs.lemmas.List.{append-nil}
use Rattle.mc_model.specs.Pattern.{Pattern}
use Rattle.mc_text.specs.Judged.{Lines}
use Rattle.mc_pattern.specs.Commands.{plain_command}
use Rattle.mc_pattern.specs.Patterns.{begun, with_outputs}
use Rattle.mc_pattern_text.specs.declared.reader.Reader.{Reader}
use Rattle.mc_pattern_text.specs.Value.{pattern_of}
use Rattle.mc_pattern_text.specs.Kept.{IsKept}

abbrev pub value_of : {half : ℕ} → Reader half → Pattern
value_of {half} k =
    with_outputs (begun k.names k.inputs (map (plain_command {h = half}) k.commands.items))
    k.outputs.items

pub spells : {half : ℕ} (k : Reader half) (lines : Lines) → IsKept k lines []
    → value_of k ≡ pattern_of half lines
spells k lines h =
    let commands = h.commands [] in
    rw (commands, h.outputs.numbers_are, h.inputs, append-nil k.names, h.names) refl
