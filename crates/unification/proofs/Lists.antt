-- Laws of lists: what holds of each element, and maps.
use mathlib.Core.Path.{◌≡◌, refl, ap, ap₂}
use mathlib.Core.List.{List, [], ◌∷◌, ◌++◌, map}

-- P holds of each element.
abbrev pub Each {ℓ} : {A : Type ℓ} → (A → Type 0) → List A → Type 0
Each P [] = Unit {0}
Each P (x ∷ xs) = P x × Each P xs

module _ {A : Type 0} (P : A → Type 0) where
  pub each_append : (xs ys : List A) → Each P xs → Each P ys → Each P (xs ++ ys)
  each_append [] ys h k = k
  each_append (x ∷ xs) ys h k = (h.0, each_append xs ys h.1 k)

module _ {A B : Type 0} (P : A → Type 0) (Q : B → Type 0) (f : A → B) (g : (a : A) → P a → Q (f a)) where
  pub each_map : (xs : List A) → Each P xs → Each Q (map f xs)
  each_map [] h = tt
  each_map (x ∷ xs) h = (g x h.0, each_map xs h.1)

module _ {A : Type 0} (P Q : A → Type 0) (g : (a : A) → P a → Q a) where
  pub each_more : (xs : List A) → Each P xs → Each Q xs
  each_more [] h = tt
  each_more (x ∷ xs) h = (g x h.0, each_more xs h.1)

module _ {A B : Type 0} (P : A → Type 0) (f g : A → B) (h : (a : A) → P a → f a ≡ g a) where
  pub map_each : (xs : List A) → Each P xs → map f xs ≡ map g xs
  map_each [] k = refl
  map_each (x ∷ xs) k = ap₂ (λ (y : B) (r : List B). y ∷ r) (h x k.0) (map_each xs k.1)

pub map_map : {A B C : Type 0} (g : B → C) (f : A → B) (xs : List A) → map g (map f xs) ≡ map (λ x. g (f x)) xs
map_map g f [] = refl
map_map {C = C} g f (x ∷ xs) = ap (λ (r : List C). g (f x) ∷ r) (map_map g f xs)

module _ {A B : Type 0} (f : A → B) where
  pub map_append : (xs ys : List A) → map f (xs ++ ys) ≡ map f xs ++ map f ys
  map_append [] ys = refl
  map_append (x ∷ xs) ys = ap (λ (r : List B). f x ∷ r) (map_append xs ys)
