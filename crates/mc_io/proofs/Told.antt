-- What a source told and a sink was given over two calls in a row.
use Rattle.std.proofs.Common.{List, ℕ, [], ◌++◌, Option, Some, None, refl, sym, ap, ◌∙◌}
use Rattle.std.proofs.Common.{append_assoc}
use Rattle.std.proofs.lemmas.List.{append-nil}
use Rattle.std.specs.Io.KnownBytes.{Consumes}
use Rattle.mc_io.specs.Told.{TellsAsBefore, AppendsWhereTold}

pub AppendsWhereTold-nil : (a : Option (List ℕ)) → AppendsWhereTold a a []
AppendsWhereTold-nil None = tt
AppendsWhereTold-nil (Some xs) = sym (append-nil xs)

pub AppendsWhereTold-trans : (a b c : Option (List ℕ)) (xs ys : List ℕ)
    → AppendsWhereTold a b xs → AppendsWhereTold b c ys → AppendsWhereTold a c (xs ++ ys)
AppendsWhereTold-trans a b None xs ys p q = tt
AppendsWhereTold-trans a None (Some zs) xs ys p q = absurd q
AppendsWhereTold-trans None (Some bs) (Some zs) xs ys p q = absurd p
AppendsWhereTold-trans (Some ws) (Some bs) (Some zs) xs ys p q =
    q ∙ ap (λ (v : List ℕ). v ++ ys) p ∙ append_assoc ws xs ys

pub Consumes-nil : (a : Option (List ℕ)) → Consumes a a []
Consumes-nil None = tt
Consumes-nil (Some xs) = refl

pub Consumes-trans : (a b c : Option (List ℕ)) (xs ys : List ℕ)
    → Consumes a b xs → Consumes b c ys → Consumes a c (xs ++ ys)
Consumes-trans None b c xs ys p q = tt
Consumes-trans (Some ws) None c xs ys p q = absurd p
Consumes-trans (Some ws) (Some bs) None xs ys p q = absurd q
Consumes-trans (Some ws) (Some bs) (Some zs) xs ys p q =
    p ∙ ap (λ (v : List ℕ). xs ++ v) q ∙ sym (append_assoc xs ys zs)

pub TellsAsBefore-refl : (a : Option (List ℕ)) → TellsAsBefore a a
TellsAsBefore-refl None = tt
TellsAsBefore-refl (Some xs) = tt

pub TellsAsBefore-trans : (a b c : Option (List ℕ))
    → TellsAsBefore a b → TellsAsBefore b c → TellsAsBefore a c
TellsAsBefore-trans None None None p q = tt
TellsAsBefore-trans None None (Some zs) p q = absurd q
TellsAsBefore-trans None (Some ys) c p q = absurd p
TellsAsBefore-trans (Some xs) None c p q = absurd p
TellsAsBefore-trans (Some xs) (Some ys) None p q = absurd q
TellsAsBefore-trans (Some xs) (Some ys) (Some zs) p q = tt
