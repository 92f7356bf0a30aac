-- What the shifted form of a standard form is for the pattern that it is the standard form of.
use Rattle.std.proofs.Common.{◌≡◌, ◌∙◌, ℕ, Bool, List, Result, Ok, Err, IfOk, OnOk, sym, ap, subst}
use Rattle.mc_model.specs.Phase.{PhaseOps, turn}
use Rattle.mc_model.specs.Bits.{Bits}
use Rattle.mc_model.specs.Ring.{ring}
use Rattle.mc_model.specs.Pattern.{Pattern}
use Rattle.mc_model.specs.Amplitude.{branch_map}
use Rattle.mc_model.specs.Alike.{AlikeBranches}
use Rattle.mc_model.specs.Valid.{IsValidPattern}
use Rattle.mc_model.specs.StandardForm.{standard_form}
use Rattle.mc_model.specs.Shift.{new_outcomes, change_of, IsShiftedForm}
use Rattle.mc_shift.specs.Shifted.{shifted_form}
use Rattle.std.specs.declared.vec.Vec.{Vec}
use Rattle.std.specs.declared.alloc.Global.{Global}
use Rattle.mc_lex.specs.declared.end.TextEnd.{TextEnd}
use Rattle.mc_model.specs.declared.memory.Memory.{Memory}
use Rattle.mc_top.specs.declared.answer.Answer.{Answer}
use Rattle.mc_top.specs.Shift.{IsShiftedBy}

pub on_ok : {A B : Type 0} (result : Result A B) (P : Type 0) → P → OnOk result P
on_ok (Ok x) P p = p
on_ok (Err e) P p = tt

pub if_ok : {A B : Type 0} (result : Result A B) (P : Type 0) → OnOk result P →
    IfOk result (λ x. P)
if_ok (Ok x) P p = p
if_ok (Err e) P p = tt

pub on_ok_map : {A B : Type 0} (result : Result A B) (P Q : Type 0) → (P → Q) → OnOk result P →
    OnOk result Q
on_ok_map (Ok x) P Q f p = f p
on_ok_map (Err e) P Q f p = tt

-- what holds where a text was made holds of the answer with it
pub on_told : (made : Result (Vec ℕ Global) Memory) (given : Result Answer TextEnd) (P : Type 0) →
    IfOk given (λ a. made ≡ Ok a.text) → OnOk made P → OnOk given P
on_told made (Ok a) P same p =
    subst (λ (r : Result (Vec ℕ Global) Memory). OnOk r P) same p
on_told made (Err e) P same p = tt

-- putting signals in for qubits gives the shifted form
abbrev pub GivesShiftedForms : Type 0
GivesShiftedForms = (p : Pattern) → IsValidPattern p → IsShiftedForm p (shifted_form p)

pub is_shifted_form : GivesShiftedForms → (p q : Pattern) → IsValidPattern p →
    ((r : Pattern) → IsShiftedForm p r → r ≡ q) → shifted_form p ≡ q
is_shifted_form gives p q valid only = only (shifted_form p) (gives p valid)

alike_then : {E : Type 0} (ops : PhaseOps E) (p q r : Pattern) (o new : Bits) →
    AlikeBranches ops p o q o →
    ((y : List Bool) (b : Bits) → branch_map ops q o y b ≡ branch_map ops r new y b) →
    AlikeBranches ops p o r new
alike_then ops p q r o new alike same = record {
  phase = alike.phase;
  within = alike.within;
  same = λ y b. alike.same y b ∙ ap (turn ops alike.phase) (same y b);
}

-- `s` is the standard form of `p`, and `q` the shifted form of `s`
pub shifted_by : GivesShiftedForms → (half : ℕ) (p s q : Pattern) → IsValidPattern s →
    s ≡ standard_form p →
    ((r : Pattern) → IsShiftedForm s r → r ≡ q) →
    ((o : Bits) → AlikeBranches (ring half) p o s o) →
    ((o : Bits) (y : List Bool) (b : Bits) → branch_map (ring half) s o y b
    ≡ branch_map (ring half) q (new_outcomes (change_of s.commands) o) y b) →
    IsShiftedBy half p (shifted_form (standard_form p))
shifted_by gives half p s q valid form only alike maps = record {
  form = subst (λ (t : Pattern). IsShiftedForm t (shifted_form t)) form (gives s valid);
  alike = λ o.
      subst
      (λ (t : Pattern).
      AlikeBranches (ring half) p o (shifted_form t) (new_outcomes (change_of t.commands) o))
      form
      (subst
      (λ (r : Pattern). AlikeBranches (ring half) p o r (new_outcomes (change_of s.commands) o))
      (sym (is_shifted_form gives s q valid only))
      (alike_then (ring half) p s q o (new_outcomes (change_of s.commands) o) (alike o) (maps o)));
}
