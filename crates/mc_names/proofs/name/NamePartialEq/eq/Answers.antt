use Rattle.std.proofs.Common.{◌∙◌}
use Rattle.mc_names.proofs.StoredNames.{stored_eq}
use Rattle.mc_names.proofs.name.NamePartialEq.eq.Goals as goal

pub returns : goal.returns
returns c =
    rw (← c.self.view_is, ← c.other.view_is)
    (c.eq.ensures
    ∙ stored_eq c.self.inside.bytes c.other.inside.bytes c.self.inside.len c.other.inside.len
    c.self.invariant c.other.invariant)
