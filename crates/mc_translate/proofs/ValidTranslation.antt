-- A translation is a valid pattern.
use Rattle.std.proofs.Common.{◌≡◌, ℕ, zero, suc, ◌+◌, ◌-◌, ◌<◌, ◌≤◌, false, not, List, [], ◌∷◌}
use Rattle.std.proofs.Common.{◌++◌, length, map, refl, sym, ◌∙◌, append_assoc, append-nil, arith}
use Rattle.std.specs.List.{list_any}
use mathlib.Core.Path.{subst}
use Rattle.mc_model.specs.Names.{with_fresh}
use Rattle.mc_model.specs.Numbers.{ListsOnce}
use Rattle.mc_model.specs.Phase.{negated}
use Rattle.mc_model.specs.Signals.{no_signal, signal_of}
use Rattle.mc_model.specs.Pattern.{Command, Prep, Ent, Meas, FixX, Gate, J, CZ, Circuit, wires}
use Rattle.mc_model.specs.Pattern.{has_constant}
use Rattle.mc_model.specs.Amplitude.{j_count}
use Rattle.mc_model.specs.Valid.{measured, IsLive, IsValid, GatesFit, IsValidPattern}
use Rattle.mc_model.specs.Valid.{IsValidCircuit}
use Rattle.mc_model.specs.Translation.{moved, translated, last_qubits, preparations, translation}
use Rattle.mc_model.specs.Translation.{qubit_count}
use Rattle.mc_model.proofs.PreparationLemmas.{prepared-preparations}
use Rattle.mc_model.proofs.ValidLemmas.{valid_with, nothing_valid}
use Rattle.mc_names.proofs.FreshNames.{with_fresh_names}
use Rattle.mc_translate.specs.Steps.{j_commands, IsStanding}
use Rattle.mc_translate.proofs.WireQubits.{standing_start, standing_cz, standing_j}
use Rattle.mc_translate.proofs.Fits.{ent_fits, meas_fits, fix_fits}
use Rattle.mc_translate.proofs.FirstWires.{preparation_next}
use Rattle.mc_translate.proofs.Outputs.{outputs_listed}
use Rattle.mc_translate.proofs.TranslationFlow.{standing_behind, length-with_fresh}

wire_live : (wires next inputs : ℕ) (at : ℕ → ℕ) (cs : List Command) (v : ℕ) → v < wires →
    IsStanding wires next at inputs cs → IsLive inputs cs (at v)
wire_live wires next inputs at cs v lt h = record {
  is_there = let below = h.wires_apart.below v lt in let size = h.size in omega arith;
  is_not_measured = h.free v lt;
}

-- the commands of a `J`
valid_j : (half wires next inputs : ℕ) (at : ℕ → ℕ) (cs : List Command) (v a : ℕ) → v < wires →
    IsStanding wires next at inputs cs → IsValid inputs cs →
    IsValid inputs (cs ++ j_commands half (at v) next a)
valid_j half wires next inputs at cs v a lt h valid =
    let q : ℕ = at v in
    let live = wire_live wires next inputs at cs v lt h in
    let unborn = h.unborn next (omega arith) in
    let one : List Command = cs ++ (Prep next ∷ []) in
    let two : List Command = one ++ (Ent q next ∷ []) in
    let meas : Command = Meas q (negated half a) no_signal no_signal in
    let three : List Command = two ++ (meas ∷ []) in
    let four : IsValid inputs (three ++ (FixX next (signal_of q) ∷ [])) =
    valid_with inputs three (FixX next (signal_of q))
    (valid_with inputs two meas
    (valid_with inputs one (Ent q next)
    (valid_with inputs cs (Prep next) valid h.size)
    (ent_fits inputs q next cs live h.size unborn))
    (meas_fits inputs q next (negated half a) cs live h.size unborn))
    (fix_fits inputs q next (negated half a) no_signal no_signal cs live h.size unborn) in
    subst (IsValid inputs)
    (append_assoc two (meas ∷ []) (FixX next (signal_of q) ∷ [])
    ∙ append_assoc one (Ent q next ∷ []) (meas ∷ FixX next (signal_of q) ∷ [])
    ∙ append_assoc cs (Prep next ∷ []) (Ent q next ∷ meas ∷ FixX next (signal_of q) ∷ []))
    four

valid_behind : (half wires next inputs : ℕ) (at : ℕ → ℕ) (cs : List Command) (gs : List Gate) →
    GatesFit wires gs → IsStanding wires next at inputs cs → IsValid inputs cs →
    IsValid inputs (cs ++ translated half gs at next)
unfolding translated
valid_behind half wires next inputs at cs [] fit h valid =
    subst (IsValid inputs) (sym (append-nil cs)) valid
valid_behind half wires next inputs at cs (J v a ∷ gs) fit h valid =
    let at' : ℕ → ℕ = moved at v next in
    let made : List Command = j_commands half (at v) next a in
    subst (IsValid inputs) (append_assoc cs made (translated half gs at' (suc next)))
    (valid_behind half wires (suc next) inputs at' (cs ++ made) gs fit.1
    (standing_j wires next inputs at cs half v a fit.0 h)
    (valid_j half wires next inputs at cs v a fit.0 h valid))
valid_behind half wires next inputs at cs (CZ v u ∷ gs) fit h valid =
    let c : Command = Ent (at v) (at u) in
    subst (IsValid inputs) (append_assoc cs (c ∷ []) (translated half gs at next))
    (valid_behind half wires next inputs at (cs ++ (c ∷ [])) gs fit.3
    (standing_cz wires next inputs at cs (at v) (at u) h)
    (valid_with inputs cs c valid (
      wire_live wires next inputs at cs v fit.0 h,
      wire_live wires next inputs at cs u fit.1 h,
      λ e. fit.2 (h.wires_apart.apart v u fit.0 fit.1 e),
    )))

-- the preparations of the wires that are no inputs
valid_preparations : (inputs n : ℕ) → IsValid inputs (preparations inputs n)
unfolding preparations
valid_preparations inputs zero = nothing_valid inputs
valid_preparations inputs (suc n) =
    subst (IsValid inputs) (sym (preparation_next inputs n))
    (valid_with inputs (preparations inputs n) (Prep (inputs + n)) (valid_preparations inputs n)
    (let made = prepared-preparations inputs n in omega arith))

pub translation_valid : (half : ℕ) (c : Circuit) → IsValidCircuit c → qubit_count c ≤ 256 →
    IsValidPattern (translation half c)
unfolding translation
translation_valid half c valid few =
    let n : ℕ = wires c in
    let early : List Command = preparations c.inputs (n - c.inputs) in
    let cs : List Command = early ++ translated half c.gates (λ v. v) n in
    let last : ℕ → ℕ = last_qubits c.gates (λ v. v) n in
    let start = standing_start n c.inputs valid.inputs in
    let standing = standing_behind half n n c.inputs (λ v. v) early c.gates valid.gates start in
    let long : length (with_fresh (j_count c.gates) c.names) ≡ n + j_count c.gates =
    length-with_fresh (j_count c.gates) c.names in
    record {
      names = with_fresh_names (j_count c.gates) c.names valid.names few;
      qubits = long ∙ standing.size;
      commands =
          valid_behind half n n c.inputs (λ v. v) early c.gates valid.gates start
          (valid_preparations c.inputs (n - c.inputs));
      outputs =
          subst (λ (m : ℕ). ListsOnce m (λ q. not (measured cs q)) (map last c.outputs)) (sym long)
          (outputs_listed n (n + j_count c.gates) last c.inputs cs c.outputs standing
          valid.outputs);
    }

-- and no signal of it has the constant
free_gates : (half : ℕ) (gs : List Gate) (at : ℕ → ℕ) (next : ℕ) →
    list_any has_constant (translated half gs at next) ≡ false
unfolding translated
free_gates half [] at next = refl
free_gates half (J v a ∷ gs) at next = free_gates half gs (moved at v next) (suc next)
free_gates half (CZ v u ∷ gs) at next = free_gates half gs at next

free_preparations : (q n : ℕ) (cs : List Command) → list_any has_constant cs ≡ false →
    list_any has_constant (preparations q n ++ cs) ≡ false
unfolding preparations
free_preparations q zero cs free = free
free_preparations q (suc n) cs free = free_preparations (suc q) n cs free

pub translation_free : (half : ℕ) (c : Circuit) →
    list_any has_constant (translation half c).commands ≡ false
unfolding translation
translation_free half c =
    free_preparations c.inputs (wires c - c.inputs) (translated half c.gates (λ v. v) (wires c))
    (free_gates half c.gates (λ v. v) (wires c))
