use Rattle.std.proofs.Common.{◌∙◌, sym, ap}
use Rattle.mc_elim.specs.Basis.{Inserted, count_of}
use Rattle.mc_elim.proofs.BasisAnswers.{taken}
use Rattle.mc_elim.proofs.basis.Basis.inserted.Goals as goal

pub returns : goal.returns
returns c =
    let b = c.self.inside in
    sym (taken b.rows b.room b.inserted b.len b.vectors b.columns
    b.firsts.items b.numbers.items b.has_added
    c.self.invariant)
    ∙ ap (λ (s : Inserted). count_of s) c.self.view_is
