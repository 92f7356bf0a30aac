use Rattle.std.proofs.Common.{ap, sym, List, [], ◌∙◌}
use Rattle.std.specs.Prelude.{ℕ, Option, unwrap_or, slice_get}
use Rattle.mc_extract.proofs.named.name_of.Goals as goal

pub returns : goal.returns
returns g c =
    sym (ap (λ (names : List (List ℕ)). unwrap_or (slice_get names c.args.v) [])
    (sym c.names.ensures.names)
    ∙ ap (λ (o : Option (List ℕ)). unwrap_or o []) c.name.ensures)
