use Rattle.std.proofs.Common.{◌≡◌, ℕ, List, [], ◌∷◌, ◌++◌, ◌∙◌, sym, ap, ap₂, arith}
use Rattle.mc_model.specs.Names.{Name}
use Rattle.mc_model.specs.Pattern.{Circuit}
use Rattle.mc_sample.specs.Parts.{wired}
use Rattle.mc_sample.proofs.SmallNumbers.{names_more}
use Rattle.mc_sample.proofs.generator.all_wires.Goals as goal

pub wires-preserved : goal.wires-preserved
wires-preserved c =
    c.in-Ok.ensures.added
    ∙ ap₂ (λ (b : Circuit) (name : Name). record b { names = b.names ++ (name ∷ []) })
    c.wires.invariant c.wire_name.ensures
    ∙ ap (λ (names : List Name). record (wired 0 []) { names = names })
    (sym (names_more c.wires.v))

pub returns : goal.returns
returns c =
    let over = c.wires-test.false in
    let most = c.wires.auto.v-end in
    let all : c.wires.v ≡ 8 = omega arith in
    c.wires.invariant ∙ ap (λ (n : ℕ). wired n []) all
