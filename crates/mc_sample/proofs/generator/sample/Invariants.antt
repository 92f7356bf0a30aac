use Rattle.std.proofs.Common.{◌≡◌, List, ◌++◌, ◌-◌}
use Rattle.mc_model.specs.Pattern.{Gate}
use Rattle.mc_sample.specs.Generator.{gates_behind}
use Rattle.mc_sample.specs.Parts.{wired}
use Rattle.mc_sample.proofs.generator.sample.Given as goal

abbrev pub invariant-gates : goal.invariant-gates
invariant-gates l =
    (gates : List Gate) × (l.builder ≡ wired 8 gates)
    × (gates ++ gates_behind l.x (l.n - l._step) ≡ gates_behind l.n l.n)
