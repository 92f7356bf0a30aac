use Rattle.std.proofs.Common.{rules, ◌≡◌, ◌∙◌, sym, true}
use Rattle.std.proofs.lemmas.Bool.Decides.{Decides-int_eq}
use Rattle.std.proofs.lemmas.Slice.Eq.{slice_eq-Decides}
use Rattle.std.specs.Bool.{Decides}
use Rattle.mc_cyclo.proofs.cyclo.CycloRing.same.Goals as goal

pub returns : goal.returns
returns g c =
    let d : Decides c.eq.result (c.self.inside.coordinates ≡ c.other.inside.coordinates) =
    slice_eq-Decides Decides-int_eq c.self.inside.coordinates c.other.inside.coordinates
    c.eq.result c.eq.ensures in (
      λ t. sym c.self.view_is ∙ d.0 (search rules) ∙ c.other.view_is,
      λ e. let r : c.eq.result ≡ true =
          d.1 (c.self.view_is ∙ e ∙ sym c.other.view_is) in search rules,
    )
