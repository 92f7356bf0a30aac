-- What the loop over the gates keeps.
use Rattle.std.proofs.Common.{◌≡◌, ℕ, zero, suc, ◌+◌, ◌-◌, ◌*◌, ◌<◌, ◌≤◌, cond, List, []}
use Rattle.std.proofs.Common.{◌∷◌, ◌++◌}
use Rattle.std.proofs.Common.{refl, sym, ◌∙◌, ap, ap₂, arith, append_assoc, append-nil, length}
use Rattle.std.proofs.Common.{length-append, get_or, set, length-set, get_or-set_same}
use Rattle.std.proofs.Common.{get_or-set_other, map, drop}
use Rattle.std.specs.Prelude.{nat_eq, All}
use Rattle.std.proofs.lemmas.Bool.{eq-eqb, ne_eqb, cases_eq}
use Rattle.std.proofs.lemmas.List.Elements.{All-head, All-tail}
use mathlib.Core.Logic.{inl, inr}
use Rattle.std.proofs.Math.Seq.{drop-cons}
use mathlib.Core.Path.{subst}
use Rattle.mc_model.specs.Numbers.{numbers_from}
use Rattle.mc_model.specs.Names.{with_fresh, fresh_name}
use Rattle.mc_model.specs.Phase.{negated}
use Rattle.mc_model.specs.Signals.{no_signal, signal_of}
use Rattle.mc_model.specs.Pattern.{Command, Prep, Ent, Meas, FixX, Gate, J, CZ, Pattern, Circuit}
use Rattle.mc_model.specs.Pattern.{wires}
use Rattle.mc_model.specs.Amplitude.{j_count}
use Rattle.mc_model.specs.Valid.{GatesFit}
use Rattle.mc_model.specs.Translation.{moved, translated, last_qubits, preparations, translation}
use Rattle.mc_model.specs.Translation.{qubit_count}
use Rattle.mc_model.proofs.PreparationLemmas.{length-preparations}
use Rattle.mc_model.proofs.NumberLists.{length-numbers_from}
use Rattle.mc_circuit.specs.Circuits.{IsCircuit}
use Rattle.mc_pattern.specs.Patterns.{begun, with_outputs}
use Rattle.mc_translate.specs.Steps.{qubit_of, j_commands, with_gate, qubits_behind, IsStanding}
use Rattle.mc_translate.specs.Steps.{CanStep}
use Rattle.mc_translate.proofs.WireQubits.{standing_start, standing_same, standing_cz, standing_j}

-- the translation looks at the qubits of the circuit's wires alone
translated_same : (half wires : ℕ) (gs : List Gate) (f g : ℕ → ℕ) (next : ℕ) → GatesFit wires gs →
    ((v : ℕ) → v < wires → f v ≡ g v) → translated half gs f next ≡ translated half gs g next
unfolding translated
translated_same half wires [] f g next fit h = refl
translated_same half wires (J v a ∷ gs) f g next fit h =
    ap₂ (λ (q : ℕ) (cs : List Command).
    Prep next ∷ Ent q next ∷ Meas q (negated half a) no_signal no_signal
    ∷ FixX next (signal_of q) ∷ cs)
    (h v fit.0)
    (translated_same half wires gs (moved f v next) (moved g v next) (suc next) fit.1
    (λ u m. ap (λ (q : ℕ). cond (nat_eq u v) next q) (h u m)))
translated_same half wires (CZ v u ∷ gs) f g next fit h =
    ap₂ (λ (q : ℕ × ℕ) (cs : List Command). Ent q.0 q.1 ∷ cs)
    (λ i. (h v fit.0 i, h u fit.1 i))
    (translated_same half wires gs f g next fit.3 h)

last_same : (wires : ℕ) (gs : List Gate) (f g : ℕ → ℕ) (next : ℕ) →
    ((v : ℕ) → v < wires → f v ≡ g v) → (v : ℕ) → v < wires →
    last_qubits gs f next v ≡ last_qubits gs g next v
unfolding last_qubits
last_same wires [] f g next h v lt = h v lt
last_same wires (J w a ∷ gs) f g next h v lt =
    last_same wires gs (moved f w next) (moved g w next) (suc next)
    (λ u m. ap (λ (q : ℕ). cond (nat_eq u w) next q) (h u m)) v lt
last_same wires (CZ w u ∷ gs) f g next h v lt = last_same wires gs f g next h v lt

-- the gates of `rest` are left, and what was made makes up the translation with theirs
pub record AreGatesLeft (half : ℕ) (c : Circuit) (at : List ℕ) (p : Pattern)
    (rest : List Gate) : Type 0 where
  pub long : length at ≡ wires c
  pub fits : GatesFit (wires c) rest
  pub standing : IsStanding (wires c) (length p.names) (qubit_of at) p.inputs p.commands
  pub qubits : length p.names + j_count rest ≡ qubit_count c
  pub room : length p.commands + 4 * length rest ≤ 131328
  pub inputs : p.inputs ≡ c.inputs
  pub names : with_fresh (j_count rest) p.names ≡ with_fresh (j_count c.gates) c.names
  pub commands : p.commands ++ translated half rest (qubit_of at) (length p.names)
      ≡ preparations c.inputs (wires c - c.inputs) ++ translated half c.gates (λ v. v) (wires c)
  pub last : (v : ℕ) → v < wires c →
      last_qubits rest (qubit_of at) (length p.names) v
      ≡ last_qubits c.gates (λ v. v) (wires c) v

moved_set : (at : List ℕ) (v r : ℕ) → v < length at → (u : ℕ) →
    moved (qubit_of at) v r u ≡ qubit_of (set at v r) u
moved_set at v r lt u = elim (cases_eq u v) [
  | inl e ↦ rw (e, eq-eqb v v refl) (sym (get_or-set_same at v r 0 lt))
  | inr ne ↦ rw (ne_eqb u v ne) (sym (get_or-set_other at v u r 0 ne))
]

pub left_behind : (half : ℕ) (c : Circuit) (at : List ℕ) (p : Pattern) (gate : Gate)
    (rest : List Gate) →
    AreGatesLeft half c at p (gate ∷ rest) →
    AreGatesLeft half c (qubits_behind at gate (length p.names)) (with_gate half at gate p) rest
unfolding translated last_qubits j_count
left_behind half c at p (J v a) rest h =
    let next : ℕ = length p.names in
    let q : ℕ = qubit_of at v in
    let at' : List ℕ = set at v next in
    let lt : v < wires c = h.fits.0 in
    let long = h.long in
    let longer : length (p.names ++ (fresh_name p.names ∷ [])) ≡ next + 1 =
    length-append p.names (fresh_name p.names ∷ []) in
    let more = length-append p.commands (j_commands half q next a) in
    let same : (u : ℕ) → u < wires c → moved (qubit_of at) v next u ≡ qubit_of at' u =
    λ u m. moved_set at v next (omega arith) u in
    let one : suc next ≡ next + 1 = omega arith in
    record {
      long = length-set at v next ∙ long;
      fits = h.fits.1;
      standing =
          rw (longer, ← one)
          (standing_same (wires c) (suc next) p.inputs (moved (qubit_of at) v next) (qubit_of at')
          (p.commands ++ j_commands half q next a) same
          (standing_j (wires c) next p.inputs (qubit_of at) p.commands half v a lt h.standing));
      qubits = let qubits = h.qubits in omega arith;
      room = let room = h.room in omega arith;
      inputs = h.inputs;
      names = h.names;
      commands =
          rw (longer, ← one)
          (ap (λ (cs : List Command). (p.commands ++ j_commands half q next a) ++ cs)
          (sym (translated_same half (wires c) rest (moved (qubit_of at) v next) (qubit_of at')
          (suc next) h.fits.1 same))
          ∙ append_assoc p.commands (j_commands half q next a) _
          ∙ h.commands);
      last = λ u m.
          rw (longer, ← one)
          (sym (last_same (wires c) rest (moved (qubit_of at) v next) (qubit_of at') (suc next) same
          u m)
          ∙ h.last u m);
    }
left_behind half c at p (CZ v u) rest h =
    let q : ℕ = qubit_of at v in
    let r : ℕ = qubit_of at u in
    let more = length-append p.commands (Ent q r ∷ []) in
    record {
      long = h.long;
      fits = h.fits.3;
      standing =
          standing_cz (wires c) (length p.names) p.inputs (qubit_of at) p.commands q r h.standing;
      qubits = h.qubits;
      room = let room = h.room in omega arith;
      inputs = h.inputs;
      names = h.names;
      commands = append_assoc p.commands (Ent q r ∷ []) _ ∙ h.commands;
      last = h.last;
    }

-- a gate that is left may be added
pub left_ready : (half : ℕ) (c : Circuit) (at : List ℕ) (p : Pattern) (gate : Gate)
    (rest : List Gate) →
    qubit_count c ≤ 256 → AreGatesLeft half c at p (gate ∷ rest) → CanStep at gate p
unfolding j_count
left_ready half c at p (J v a) rest few h = record {
  fits = rw h.long (h.fits.0, tt);
  standing = rw h.long h.standing;
  room = let qubits = h.qubits in let room = h.room in (omega arith, omega arith);
}
left_ready half c at p (CZ v u) rest few h = record {
  fits = rw h.long (h.fits.0, h.fits.1, h.fits.2, tt);
  standing = rw h.long h.standing;
  room = let room = h.room in omega arith;
}

-- at the start each wire has the qubit of its own number
qubit_from : (from n v : ℕ) → v < n → get_or (numbers_from from n) v 0 ≡ from + v
qubit_from from zero v lt = absurd (omega arith)
qubit_from from (suc n) zero lt = omega arith
qubit_from from (suc n) (suc v) lt = let h = qubit_from (suc from) n v (omega arith) in omega arith

pub left_at_start : (half : ℕ) (c : Circuit) → IsCircuit half c →
    AreGatesLeft half c (numbers_from 0 (wires c))
    (begun c.names c.inputs (preparations c.inputs (wires c - c.inputs))) c.gates
left_at_start half c h =
    let at : List ℕ = numbers_from 0 (wires c) in
    let same : (v : ℕ) → v < wires c → v ≡ qubit_of at v =
    λ v lt. let e = qubit_from 0 (wires c) v lt in omega arith in
    record {
      long = length-numbers_from 0 (wires c);
      fits = h.valid.gates;
      standing =
          standing_same (wires c) (wires c) c.inputs (λ v. v) (qubit_of at)
          (preparations c.inputs (wires c - c.inputs)) same
          (standing_start (wires c) c.inputs h.valid.inputs);
      qubits = refl;
      room =
          let few = h.few in
          let names = h.valid.names.few in
          let prepared = length-preparations c.inputs (wires c - c.inputs) in
          omega arith;
      inputs = refl;
      names = refl;
      commands =
          ap (λ (cs : List Command). preparations c.inputs (wires c - c.inputs) ++ cs)
          (sym (translated_same half (wires c) c.gates (λ v. v) (qubit_of at) (wires c)
          h.valid.gates same));
      last = λ v lt. sym (last_same (wires c) c.gates (λ v. v) (qubit_of at) (wires c) same v lt);
    }

-- at the end the pattern is the translation
same_pattern : (p q : Pattern) → p.names ≡ q.names → p.inputs ≡ q.inputs → p.outputs ≡ q.outputs →
    p.commands ≡ q.commands → p ≡ q
same_pattern p q names inputs outputs commands =
    λ i. record { names = names i; inputs = inputs i; outputs = outputs i; commands = commands i }

map_same : (n : ℕ) (f g : ℕ → ℕ) (vs : List ℕ) → All (λ v. v < n) vs →
    ((v : ℕ) → v < n → f v ≡ g v) → map f vs ≡ map g vs
map_same n f g [] below same = refl
map_same n f g (v ∷ vs) below same =
    ap₂ (λ (q : ℕ) (qs : List ℕ). q ∷ qs)
    (same v (All-head (λ u. u < n) v vs below))
    (map_same n f g vs (All-tail (λ u. u < n) v vs below) same)

pub left_none : (half : ℕ) (c : Circuit) (at : List ℕ) (p : Pattern) → IsCircuit half c →
    AreGatesLeft half c at p [] → with_outputs p (map (qubit_of at) c.outputs) ≡ translation half c
unfolding translated last_qubits j_count translation
left_none half c at p valid h =
    same_pattern (with_outputs p (map (qubit_of at) c.outputs)) (translation half c)
    h.names
    h.inputs
    (map_same (wires c) (qubit_of at) (last_qubits c.gates (λ v. v) (wires c)) c.outputs
    valid.valid.outputs.below h.last)
    (sym (append-nil p.commands) ∙ h.commands)

-- the gates from a place on are the one there and the rest
pub left_from : {G : Type 0} (plain : G → Gate) (half : ℕ) (c : Circuit) (at : List ℕ) (p : Pattern)
    (gates : List G) (i : ℕ) (gate : G) → i < length gates → gate ≡ get_or gates i gate →
    AreGatesLeft half c at p (map plain (drop i gates)) →
    AreGatesLeft half c at p (plain gate ∷ map plain (drop (i + 1) gates))
left_from plain half c at p gates i gate lt e h =
    let one : suc i ≡ i + 1 = omega arith in
    let split : drop i gates ≡ gate ∷ drop (i + 1) gates =
    drop-cons gates i gate lt
    ∙ ap₂ (λ (g : _) (n : ℕ). g ∷ drop n gates) (sym e) one in
    subst (λ (gs : List _). AreGatesLeft half c at p (map plain gs)) split h
