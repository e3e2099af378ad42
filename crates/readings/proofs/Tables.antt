-- Tables: a statement of each row, from a test that computes over all of them.
use Rattle.std.proofs.Common.{◌≡◌, Bool, true, List, [], ◌∷◌}
use Rattle.ground.proofs.Laws.{all, and_left, and_right, ◌&◌}

abbrev pub EachOf : {A : Type 0} → (A → Type 0) → List A → Type 0
EachOf P [] = Unit {0}
EachOf P (a ∷ l) = P a × EachOf P l

pub each_of : {A : Type 0} (P : A → Type 0) (test : A → Bool) → ((a : A) → test a ≡ true → P a) → (l : List A) → all test l ≡ true → EachOf P l
each_of P test sound [] h = tt
each_of P test sound (a ∷ l) h = sound a (and_left (test a) (all test l) h) & each_of P test sound l (and_right (test a) (all test l) h)
