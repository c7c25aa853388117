-- Laws of order-preserving sublists.
use mathlib.Core.List.{List, [], ◌∷◌, ◌++◌, map}
use Rattle.common.specs.Sublist.{Sublist, none, keep, skip}

module _ {A : Type 0} where
  -- a list is a sublist of itself
  pub sublist_refl : (xs : List A) → Sublist xs xs
  sublist_refl [] = none
  sublist_refl (x ∷ xs) = keep (sublist_refl xs)

  -- the empty list is a sublist of every list
  pub sublist_nil : (xs : List A) → Sublist [] xs
  sublist_nil [] = none
  sublist_nil (x ∷ xs) = skip (sublist_nil xs)

  -- a sublist of a sublist
  pub sublist_trans : {xs ys zs : List A} → Sublist xs ys → Sublist ys zs → Sublist xs zs
  sublist_trans p none = p
  sublist_trans (keep {xs = xs} p) (keep q) = keep (sublist_trans {xs = xs} p q)
  sublist_trans (skip p) (keep q) = skip (sublist_trans p q)
  sublist_trans p (skip q) = skip (sublist_trans p q)

  -- sublists one behind the other
  pub sublist_append : {xs ys us vs : List A} → Sublist xs ys → Sublist us vs → Sublist (xs ++ us) (ys ++ vs)
  sublist_append none q = q
  sublist_append (keep p) q = keep (sublist_append p q)
  sublist_append (skip p) q = skip (sublist_append p q)

-- the same function of every entry
pub sublist_map : {A B : Type 0} (f : A → B) {xs ys : List A} → Sublist xs ys → Sublist (map f xs) (map f ys)
sublist_map f none = none
sublist_map f (keep p) = keep (sublist_map f p)
sublist_map f (skip p) = skip (sublist_map f p)
