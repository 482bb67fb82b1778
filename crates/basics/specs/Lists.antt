-- No section of the rules: operations on lists of any element, for inner contracts.
use Rattle.std.specs.Prelude.{List, [], ◌∷◌, ◌++◌, ℕ, take, drop}

-- x put at place p, and what stood there and after moved up by one
abbrev pub put_at : {A : Type 0} → ℕ → A → List A → List A
put_at p x xs = take p xs ++ (x ∷ drop p xs)

-- P holds of every element
abbrev pub Each : {A : Type 0} → (A → Type 0) → List A → Type 0
Each P [] = Unit {0}
Each P (x ∷ xs) = P x × Each P xs
