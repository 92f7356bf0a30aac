-- What is found of a graph is due.
use Rattle.std.proofs.Common.{◌≡◌, ℕ, List, Bool, Option, Result, Ok, Err, IfOk, IfErr, OnOk}
use Rattle.std.proofs.Common.{refl, sym, subst, ap₂}
use Rattle.std.specs.declared.vec.Vec.{Vec}
use Rattle.std.specs.declared.alloc.Global.{Global}
use Rattle.mc_lex.specs.declared.end.TextEnd.{TextEnd}
use Rattle.mc_lex.specs.declared.end.TextEnd.TheVariants as end
use Rattle.mc_model.specs.declared.memory.Memory.{Memory}
use Rattle.mc_top.specs.declared.answer.Answer.{Answer}
use Rattle.mc_top.specs.Due.{Due, answer, Gives, GivesDue, IsDueUnless, IsLimit}

-- what is due by one relation is due by another
pub gives_too : (Owed Other : Due → Type 0) (given : Result Answer TextEnd) →
    ((due : Due) → Owed due → Other due) → GivesDue Owed given → GivesDue Other given
gives_too Owed Other (Ok made) f h = f _ h
gives_too Owed Other (Err (end.Refused code line column)) f h = f _ h
gives_too Owed Other (Err (end.Limit which found)) f h = f _ h
gives_too Owed Other (Err end.Memory) f h = tt

-- a passed limit is due
pub limit_due : (given : TextEnd) (limit : Option TextEnd) (Owed : Due → Type 0) →
    IsLimit given limit → GivesDue (IsDueUnless limit Owed) (Err given)
limit_due (end.Refused code line column) limit Owed h = rw h refl
limit_due (end.Limit which found) limit Owed h = rw h refl
limit_due end.Memory limit Owed h = tt

-- what was judged is due by its text, and by whether it holds
pub judged_due : (made : Result (Vec ℕ Global) Memory) (given : Result Answer TextEnd)
    (holds : Bool) (text : List ℕ) (Fits : Type 0) (Owed : Due → Type 0) → IfOk made (λ t. t.items ≡ text) →
    OnOk made Fits → IfOk given (λ a. made ≡ Ok a.text) → IfOk given (λ a. a.holds ≡ holds) →
    IfErr given (λ e. e ≡ end.Memory) → (Fits → (due : Due) → due ≡ answer text holds → Owed due) →
    GivesDue Owed given
judged_due made (Err e) holds text Fits Owed told fits same is memory f = rw memory tt
judged_due made (Ok a) holds text Fits Owed told fits same is memory f =
    let items : a.text.items ≡ text =
    subst (λ (r : Result (Vec ℕ Global) Memory). IfOk r (λ t. t.items ≡ text)) same told in
    f (subst (λ (r : Result (Vec ℕ Global) Memory). OnOk r Fits) same fits)
    (answer a.text.items a.holds) (ap₂ answer items is)

-- or is the one thing that is due
pub judged_gives : (made : Result (Vec ℕ Global) Memory) (given : Result Answer TextEnd)
    (holds : Bool) (text : List ℕ) → IfOk made (λ t. t.items ≡ text) →
    IfOk given (λ a. made ≡ Ok a.text) → IfOk given (λ a. a.holds ≡ holds) →
    IfErr given (λ e. e ≡ end.Memory) → Gives given (answer text holds)
judged_gives made (Err e) holds text told same is memory = rw memory tt
judged_gives made (Ok a) holds text told same is memory =
    let items : a.text.items ≡ text =
    subst (λ (r : Result (Vec ℕ Global) Memory). IfOk r (λ t. t.items ≡ text)) same told in
    sym (ap₂ answer items is)
