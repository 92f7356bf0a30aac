use Rattle.std.proofs.Common.{◌≡◌, ℕ, ◌+◌, ◌*◌, ◌<◌, [], drop, ◌-◌, ap, ◌∙◌}
use Rattle.std.proofs.Common.{arith}
use Rattle.std.proofs.lemmas.List.{get_or-take, get_or-drop}
use Rattle.mc_run.specs.Sources.{entry}
use Rattle.mc_run.proofs.tree.column_at.Goals as goal

pub returns-clause-values : goal.returns-clause-values
returns-clause-values g c = λ y h.
    let start : ℕ = c.args.b * (c.args.branches * c.args.width) + c.args.i * c.args.width in
    let e : start + y ≡ c.args.b * (c.args.branches * c.args.width) + (c.args.i * c.args.width + y) =
    omega arith in
    let n : ℕ = start + c.args.width - start in
    let l : y < n = omega arith in
    get_or-take n (drop start c.args.entries.now) y [] l
    ∙ get_or-drop start c.args.entries.now y []
    ∙ ap (entry c.args.entries.now) e
