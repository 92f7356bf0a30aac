-- What is kept before the first line.
use Rattle.std.proofs.Common.{◌≡◌, ℕ, [], false, replicate, refl}
use Rattle.mc_model.specs.Signals.{no_signal}
use Rattle.mc_pattern.proofs.Built.{built_start}
use Rattle.mc_pattern_text.specs.declared.reader.Reader.{Reader}
use Rattle.mc_pattern_text.specs.Kept.{IsKept}
use Rattle.mc_pattern_text.proofs.KeepingLine.{no_operands}
use Rattle.mc_pattern_text.proofs.MadeCommands.{no_marks, no_names}

pub starts : {half : ℕ} (k : Reader half) → k.names ≡ [] → k.inputs ≡ 0
    → k.marks ≡ replicate 256 false → k.commands.items ≡ [] → k.outputs.items ≡ []
    → k.operands.s ≡ no_signal → k.operands.t ≡ no_signal → IsKept k [] []
starts {half} k names inputs marks commands outputs s t =
    let built = built_start half [] k.permitted no_names in
    record {
      names = names;
      inputs = inputs;
      outputs = rw outputs (record { held = refl; numbers_are = refl });
      measured = rw (names, marks) (no_marks {half = half} [] 0 (replicate 256 false) built);
      operands = no_operands k.names k.operands s t;
      commands = λ more. rw commands refl;
    }
