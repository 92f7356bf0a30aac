use Rattle.std.proofs.Common.{◌≡◌, ◌↔◌, ◌+◌, ◌∙◌, ℕ, MatchOption, None, Some, Option, ap, length}
use Rattle.std.proofs.Common.{arith, sym}
use Rattle.std.proofs.lemmas.List.{length-map}
use mathlib.Core.Path.{subst}
use Rattle.mc_pattern.specs.Commands.{plain_command}
use Rattle.mc_compose.specs.declared.limit.ComposeEnd.TheVariants as end
use Rattle.mc_compose.proofs.Sizes.{side_limit}
use Rattle.mc_compose.proofs.sides.limit_of.Goals as goal

pub returns-clause-limit : goal.returns-clause-limit
returns-clause-limit g c =
    let names = c.len.ensures.len in
    let more = c.len-2.ensures.len in
    let of_first = ap length c.names.ensures.names in
    let of_second = ap length c.names-2.ensures.names in
    let size1 =
    sym (length-map c.commands.result.now plain_command) ∙ ap length c.commands.ensures in
    let size2 =
    sym (length-map c.commands-2.result.now plain_command) ∙ ap length c.commands-2.ensures in
    subst
    (λ (l : Option (ℕ × ℕ)). MatchOption c.passed.result (l ≡ None)
    (λ e. (which found : ℕ) → (e ≡ end.Limit which found) ↔ (l ≡ Some (which, found))))
    (side_limit c.args.first.now c.args.second.now
    (c.len.result + c.len-2.result)
    (length c.commands.result.now + length c.commands-2.result.now) (omega arith) (omega arith))
    c.passed.ensures.limit
