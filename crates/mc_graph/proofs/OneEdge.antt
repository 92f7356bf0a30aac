-- What one command adds to the edges.
use Rattle.std.proofs.Common.{◌≡◌, ℕ, false, [], ◌∷◌, refl}
use Rattle.mc_model.specs.Bits.{same_pair}
use Rattle.mc_model.specs.Pattern.{Ent}
use Rattle.mc_model.specs.StandardForm.{is_edge}
use Rattle.mc_model.proofs.BitLemmas.{xor_false}
use Rattle.mc_pattern.specs.declared.command.Command.{Command}
use Rattle.mc_pattern.specs.declared.command.Command.TheVariants as command
use Rattle.mc_pattern.specs.Commands.{plain_command}

pub one_edge : (q r i j : ℕ) → is_edge (Ent q r ∷ []) i j ≡ same_pair i j q r
unfolding is_edge
one_edge q r i j = xor_false (same_pair i j q r)

pub no_edge : {h : ℕ} (c : Command h) → ((q r : ℕ) → c ≡ command.Ent q r → ⊥) → (i j : ℕ) →
    is_edge (plain_command c ∷ []) i j ≡ false
unfolding is_edge
no_edge (command.Prep q) none i j = refl
no_edge (command.Ent q r) none i j = absurd (none q r refl)
no_edge (command.Meas q angle s t) none i j = refl
no_edge (command.FixX q s) none i j = refl
no_edge (command.FixZ q s) none i j = refl

pub no_edges : (i j : ℕ) → is_edge [] i j ≡ false
unfolding is_edge
no_edges i j = refl
