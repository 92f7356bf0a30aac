-- What holds of each element of two lists, or follows for each.
use Rattle.std.proofs.Common.{List, [], ◌∷◌, ◌++◌}
use Rattle.std.specs.List.{AllByRecursion}

pub all-append : {A : Type 0} (P : A → Type 0) (xs ys : List A) →
    AllByRecursion P xs → AllByRecursion P ys → AllByRecursion P (xs ++ ys)
all-append P [] ys a b = b
all-append P (x ∷ xs) ys a b = (a.0, all-append P xs ys a.1 b)

pub all-weaker : {A : Type 0} (P Q : A → Type 0) → ((x : A) → P x → Q x) → (xs : List A) →
    AllByRecursion P xs → AllByRecursion Q xs
all-weaker P Q h [] a = tt
all-weaker P Q h (x ∷ xs) a = (h x a.0, all-weaker P Q h xs a.1)
