use Rattle.std.proofs.Common.{◌∙◌, ap, sym, ℕ}
use Rattle.std.specs.Prelude.{Option, unwrap_or}
use Rattle.mc_cert.specs.BoundRules.{stated_in}
use Rattle.mc_cert.proofs.KeptRows.{kept_layer}
use Rattle.mc_cert.proofs.rows.Bound.stated.Goals as goal

pub returns-in-Some : goal.returns-in-Some
returns-in-Some c =
    ap (λ (o : Option ℕ). unwrap_or o 0) c.in-Some.ensures.value
    ∙ sym (kept_layer c.args.vertex c.self.inside.layers.entries)
    ∙ ap (λ b. stated_in b.layers c.args.vertex) c.self.view_is

pub returns-in-None : goal.returns-in-None
returns-in-None c =
    ap (λ (o : Option ℕ). unwrap_or o 0) c.in-None.ensures.value
    ∙ sym (kept_layer c.args.vertex c.self.inside.layers.entries)
    ∙ ap (λ b. stated_in b.layers c.args.vertex) c.self.view_is
