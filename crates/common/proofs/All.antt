-- What holds of every entry of two lists.
use mathlib.Core.List.{List, [], ◌∷◌, ◌++◌}
use Rattle.common.specs.All.{All}

-- holds of both behind each other
pub all_append : {A : Type 0} (P : A → Type 0) (xs ys : List A) → All P xs → All P ys → All P (xs ++ ys)
all_append P [] ys h g = g
all_append P (x ∷ xs) ys h g = (h.0, all_append P xs ys h.1 g)
