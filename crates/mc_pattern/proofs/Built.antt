-- What a builder keeps at each step, and the pattern that it gives.
use Rattle.std.proofs.Common.{◌≡◌, ℕ, suc, ◌+◌, ◌<◌, Bool, true, false, not, List, [], ◌∷◌, ◌++◌}
use Rattle.std.proofs.Common.{refl, sym, ◌∙◌, ap, arith, length, length-append, set, replicate}
use Rattle.std.proofs.Common.{None, get_or-set_same, get_or-set_other, IsTrue}
use Rattle.std.proofs.lemmas.Bool.{eq-eqb, ne_eqb, cases_eq, cases_lt}
use Rattle.std.proofs.lemmas.List.{get_or-replicate, get_or_past, length-replicate}
use Rattle.std.proofs.lemmas.Option.{unwrap_or-slice_get}
use mathlib.Core.Path.{fun_ext}
use mathlib.Core.Logic.{inl, inr}
use Rattle.mc_model.specs.Steps.{is_permitted}
use Rattle.mc_model.specs.Bits.{Bits, replaced, bits_of}
use Rattle.mc_model.specs.Names.{Name, AreNames}
use Rattle.mc_model.specs.Pattern.{Command, Prep, Ent, Meas, FixX, FixZ, Pattern, measured_by}
use Rattle.mc_model.specs.Valid.{prepared, measured}
use Rattle.mc_model.proofs.ValidLemmas.{valid_with, prepared-append, next_measured, none_measured}
use Rattle.mc_pattern.specs.Rules.{is_prep, marked, command_rule, output_rule}
use Rattle.mc_pattern.specs.Typed.{IsTyped, AllTyped}
use Rattle.mc_pattern.specs.Patterns.{IsPattern, IsBuilt, begun, measured_count, with_outputs}
use Rattle.mc_pattern.proofs.RuleLaws.{fits_by, lists_by}
use Rattle.mc_pattern.proofs.Listed.{length-listed, count_either}

no_command : (before : List Command) (c : Command) (behind : List Command) →
    [] ≡ before ++ (c ∷ behind) → ⊥
no_command [] c behind e = absurd (cc)
no_command (b ∷ before) c behind e = absurd (cc)

-- marks
no_marks : (n : ℕ) → bits_of (replicate n false) ≡ (λ q. false)
no_marks n = fun_ext λ q. unwrap_or-slice_get (replicate n false) q false ∙ elim (cases_lt q n) [
  | inl within ↦ get_or-replicate n q false false within
  | inr past ↦ get_or_past (replicate n false) q false (rw (length-replicate n false) past)
]

pub marks_set : (marks : List Bool) (q : ℕ) → q < length marks →
    bits_of (set marks q true) ≡ replaced (bits_of marks) q true
marks_set marks q within = fun_ext λ k.
    unwrap_or-slice_get (set marks q true) k false ∙ elim (cases_eq k q) [
      | inl e ↦ rw (e, eq-eqb q q refl) (get_or-set_same marks q true false within)
      | inr ne ↦
          rw (ne_eqb k q ne)
          (get_or-set_other marks q k true false ne ∙ sym (unwrap_or-slice_get marks k false))
    ]

-- a builder of inputs alone
pub built_start : (half : ℕ) (names : List Name) → IsTrue (is_permitted half) → AreNames names →
    IsBuilt half (begun names (length names) []) (replicate 256 false)
unfolding prepared measured
built_start half names permitted valid = record {
  begun = record {
    permitted = permitted;
    names = valid;
    qubits = omega arith;
    commands = record { at = λ before c behind e. absurd (no_command before c behind e) };
    few = omega arith;
    typed = tt;
  };
  long = refl;
  same = no_marks 256;
}

-- what a command adds to the measured qubits and to the prepared ones
measured_with : (cs : List Command) (c : Command) →
    measured (cs ++ (c ∷ [])) ≡ marked (measured cs) (measured_by c)
unfolding measured
measured_with cs (Prep q) = none_measured cs (Prep q) (λ k. refl)
measured_with cs (Ent q r) = none_measured cs (Ent q r) (λ k. refl)
measured_with cs (Meas q a s t) = next_measured cs q a s t
measured_with cs (FixX q s) = none_measured cs (FixX q s) (λ k. refl)
measured_with cs (FixZ q s) = none_measured cs (FixZ q s) (λ k. refl)

none_prepared : (cs : List Command) (c : Command) → is_prep c ≡ false →
    prepared (cs ++ (c ∷ [])) ≡ prepared cs
unfolding prepared
none_prepared cs (Prep q) no_prep = absurd (cc no_prep)
none_prepared cs (Ent q r) no_prep = prepared-append cs _ ∙ omega arith
none_prepared cs (Meas q a s t) no_prep = prepared-append cs _ ∙ omega arith
none_prepared cs (FixX q s) no_prep = prepared-append cs _ ∙ omega arith
none_prepared cs (FixZ q s) no_prep = prepared-append cs _ ∙ omega arith

one_prepared : (cs : List Command) (q : ℕ) → prepared (cs ++ (Prep q ∷ [])) ≡ suc (prepared cs)
unfolding prepared
one_prepared cs q = prepared-append cs (Prep q ∷ []) ∙ omega arith

typed_with : (half : ℕ) (cs : List Command) (c : Command) → AllTyped half cs → IsTyped half c →
    AllTyped half (cs ++ (c ∷ []))
typed_with half [] c all one = (one, tt)
typed_with half (d ∷ cs) c all one = (all.0, typed_with half cs c all.1 one)

-- one more qubit
pub built_prep : (half : ℕ) (names : List Name) (inputs : ℕ) (cs : List Command) (marks : List Bool)
    (name : Name) →
    IsBuilt half (begun names inputs cs) marks → AreNames (names ++ (name ∷ [])) →
    length cs < 262144 →
    IsBuilt half (begun (names ++ (name ∷ [])) inputs (cs ++ (Prep (length names) ∷ []))) marks
built_prep half names inputs cs marks name h valid room =
    let size = h.begun.qubits in
    let longer = length-append names (name ∷ []) in
    let more = one_prepared cs (length names) in
    record {
      begun = record {
        permitted = h.begun.permitted;
        names = valid;
        qubits = omega arith;
        commands = valid_with inputs cs (Prep (length names)) h.begun.commands size;
        few = rw (length-append cs (Prep (length names) ∷ [])) (omega arith);
        typed = typed_with half cs (Prep (length names)) h.begun.typed tt;
      };
      long = h.long;
      same = h.same ∙ sym (measured_with cs (Prep (length names)));
    }

-- one more command
pub built_push : (half : ℕ) (names : List Name) (inputs : ℕ) (cs : List Command)
    (marks marks' : List Bool) (c : Command) →
    IsBuilt half (begun names inputs cs) marks → is_prep c ≡ false → IsTyped half c →
    command_rule (length names) (bits_of marks) c ≡ None → length cs < 262144 →
    length marks' ≡ length marks → bits_of marks' ≡ marked (bits_of marks) (measured_by c) →
    IsBuilt half (begun names inputs (cs ++ (c ∷ []))) marks'
built_push half names inputs cs marks marks' c h no_prep typed unbroken room long same =
    let size = h.begun.qubits in
    let kept = none_prepared cs c no_prep in
    let rule : command_rule (length names) (measured cs) c ≡ None = rw (← h.same) unbroken in
    record {
      begun = record {
        permitted = h.begun.permitted;
        names = h.begun.names;
        qubits = omega arith;
        commands =
            valid_with inputs cs c h.begun.commands
            (fits_by half inputs cs (length names) c size no_prep typed rule);
        few = rw (length-append cs (c ∷ [])) (omega arith);
        typed = typed_with half cs c h.begun.typed typed;
      };
      long = long ∙ h.long;
      same =
          same
          ∙ ap (λ (done : Bits). marked done (measured_by c)) h.same
          ∙ sym (measured_with cs c);
    }

-- a pattern
pub built_whole : (half : ℕ) (names : List Name) (inputs : ℕ) (cs : List Command)
    (marks : List Bool) (outputs : List ℕ) →
    IsBuilt half (begun names inputs cs) marks →
    output_rule (length names) (bits_of marks) outputs ≡ None →
    IsPattern half (with_outputs (begun names inputs cs) outputs)
built_whole half names inputs cs marks outputs h unbroken = record {
  permitted = h.begun.permitted;
  valid = record {
    names = h.begun.names;
    qubits = h.begun.qubits;
    commands = h.begun.commands;
    outputs = lists_by (length names) (measured cs) outputs (rw (← h.same) unbroken);
  };
  few = h.begun.few;
  typed = h.begun.typed;
}

-- the qubits that are no outputs are measured
pub measured_others : (half : ℕ) (p : Pattern) → IsPattern half p →
    length p.outputs + measured_count p ≡ length p.names
measured_others half p h =
    let free : ℕ → Bool = λ q. not (measured p.commands q) in
    ap (λ (n : ℕ). n + measured_count p)
    (length-listed (length p.names) free p.outputs h.valid.outputs)
    ∙ count_either (length p.names) (measured p.commands)
