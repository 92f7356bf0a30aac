-- A rule keeps the types: angles below a turn, and plain signals.
use Rattle.std.proofs.Common.{ℕ, List, [], ◌∷◌, ◌++◌, subst}
use Rattle.mc_model.specs.Pattern.{Command}
use Rattle.mc_model.specs.Derivation.{Rule, XE, ZE, XM, ZM, Swap, Join, EE, Cancel, XZ, Turn}
use Rattle.mc_model.specs.Derivation.{DropEmpty, Rewrites, Step, x_first, x_second, z_first}
use Rattle.mc_model.specs.Derivation.{z_second, x_measured, z_measured, swapped, x_joined, z_joined}
use Rattle.mc_model.specs.Derivation.{edges_exchanged, same_cancelled, turned_cancelled, x_behind_z}
use Rattle.mc_model.specs.Derivation.{z_behind_x, turned, x_dropped, z_dropped}
use Rattle.mc_pattern.specs.Typed.{AllTyped}
use Rattle.mc_standard.proofs.StandardTyped.{sum_set, typed_append}
use mathlib.Core.Path.{sym}

typed_parts : (half : ℕ) (cs ds : List Command) → AllTyped half (cs ++ ds) →
    AllTyped half cs × AllTyped half ds
typed_parts half [] ds h = (tt, h)
typed_parts half (c ∷ cs) ds h =
    let rest = typed_parts half cs ds h.1 in ((h.0, rest.0), rest.1)

rule_typed : (half : ℕ) (rule : Rule) (old new : List Command) → Rewrites rule old new →
    AllTyped half old → AllTyped half new
rule_typed half XE _ _ (x_first {i} {j} {s}) h = (tt, (h.0, (h.0, tt)))
rule_typed half XE _ _ (x_second {i} {j} {s}) h = (tt, (h.0, (h.0, tt)))
rule_typed half ZE _ _ (z_first {i} {j} {s}) h = (tt, (h.0, tt))
rule_typed half ZE _ _ (z_second {i} {j} {s}) h = (tt, (h.0, tt))
rule_typed half XM _ _ (x_measured {i} {a} {r} {s} {t}) h =
    ((h.1.0.0, sum_set s r h.1.0.1 h.0, h.1.0.2), tt)
rule_typed half ZM _ _ (z_measured {i} {a} {r} {s} {t}) h =
    ((h.1.0.0, h.1.0.1, sum_set t r h.1.0.2 h.0), tt)
rule_typed half Swap _ _ (swapped {c} {d} apart unused) h = (h.1.0, (h.0, tt))
rule_typed half Join _ _ (x_joined {i} {s} {t}) h = (sum_set s t h.0 h.1.0, tt)
rule_typed half Join _ _ (z_joined {i} {s} {t}) h = (sum_set s t h.0 h.1.0, tt)
rule_typed half EE _ _ (edges_exchanged {i} {j} {q} {r}) h = (tt, (tt, tt))
rule_typed half Cancel _ _ (same_cancelled {i} {j}) h = tt
rule_typed half Cancel _ _ (turned_cancelled {i} {j}) h = tt
rule_typed half XZ _ _ (x_behind_z {i} {s} {t}) h = (h.1.0, (h.0, tt))
rule_typed half XZ _ _ (z_behind_x {i} {s} {t}) h = (h.1.0, (h.0, tt))
rule_typed half Turn _ _ (turned {i} {j}) h = (tt, tt)
rule_typed half DropEmpty _ _ (x_dropped {i}) h = tt
rule_typed half DropEmpty _ _ (z_dropped {i}) h = tt

-- a use of a rule keeps the types of a list
pub step_typed : (half inputs : ℕ) (rule : Rule) (place : ℕ) (cs ds : List Command) →
    Step inputs rule place cs ds → AllTyped half cs → AllTyped half ds
step_typed half inputs rule place cs ds s h =
    let front = typed_parts half s.before (s.old ++ s.behind)
    (subst (AllTyped half) s.from_list h) in
    let rest = typed_parts half s.old s.behind front.1 in
    subst (AllTyped half) (sym s.to_list)
    (typed_append half s.before (s.new ++ s.behind) front.0
    (typed_append half s.new s.behind (rule_typed half rule s.old s.new s.rewrites rest.0) rest.1))
