-- Order-preserving sublists: `Sublist xs ys` says that ys is xs with further entries put in.
use Rattle.std.specs.Prelude.{List, [], ◌∷◌}

pub data Sublist {A : Type 0} : List A → List A → Type 0 where
  none : Sublist [] []
  keep : {a : A} {xs ys : List A} → Sublist xs ys → Sublist (a ∷ xs) (a ∷ ys)
  skip : {a : A} {xs ys : List A} → Sublist xs ys → Sublist xs (a ∷ ys)
