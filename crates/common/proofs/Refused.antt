-- No refusal has the number 0.
use Rattle.std.proofs.Common.{◌≡◌, ℕ, true, false, eqb, refl, sym, ap, ◌∙◌, Result, Ok, Err, IfOk, [], ◌∷◌, get_or}
use Rattle.common.specs.Refusals.{is_refusal, refusal_number, number_in, Answers}
use Rattle.common.proofs.Bools.{apart}
use Rattle.common.specs.declared.refusals.Refusal.{Refusal}
use Rattle.common.specs.declared.refusals.Refusal.TheVariants.{SettingOutOfRange, NotPossible, NoRoom, NothingThere}
use Rattle.common.specs.declared.refusals.Refusal.TheVariants.{Occupied, NoEnd, TooFewValues, BadIdentifier, BadRtr}
use Rattle.common.specs.declared.refusals.Refusal.TheVariants.{BadDlc, TooManyValues, NoByte, BadFormat, Damaged}

pub counts : (e : Refusal) → is_refusal (refusal_number e) ≡ true
unfolding is_refusal
counts SettingOutOfRange = refl
counts NotPossible = refl
counts NoRoom = refl
counts NothingThere = refl
counts Occupied = refl
counts NoEnd = refl
counts TooFewValues = refl
counts BadIdentifier = refl
counts BadRtr = refl
counts BadDlc = refl
counts TooManyValues = refl
counts NoByte = refl
counts BadFormat = refl
counts Damaged = refl

not_0 : (e : Refusal) → eqb (refusal_number e) 0 ≡ false
not_0 SettingOutOfRange = refl
not_0 NotPossible = refl
not_0 NoRoom = refl
not_0 NothingThere = refl
not_0 Occupied = refl
not_0 NoEnd = refl
not_0 TooFewValues = refl
not_0 BadIdentifier = refl
not_0 BadRtr = refl
not_0 BadDlc = refl
not_0 TooManyValues = refl
not_0 NoByte = refl
not_0 BadFormat = refl
not_0 Damaged = refl

pub positive : (e : Refusal) → refusal_number e ≡ 0 → ⊥
positive e h = apart (sym (ap (λ (k : ℕ). eqb k 0) h) ∙ not_0 e)

-- a test that a refusal answers has failed
pub refused : (e : Refusal) (n : ℕ) → refusal_number e ≡ n → eqb n 0 ≡ false
refused e n h = ap (λ (k : ℕ). eqb k 0) (sym h) ∙ not_0 e

-- ---- one number, one answer

-- the refusal of a number
refusal_of : ℕ → Refusal
refusal_of n = get_or
    (Damaged ∷ SettingOutOfRange ∷ NotPossible ∷ NoRoom ∷ NothingThere ∷ Occupied ∷ NoEnd ∷ TooFewValues
    ∷ BadIdentifier ∷ BadRtr ∷ BadDlc ∷ TooManyValues ∷ NoByte ∷ BadFormat ∷ []) n Damaged

back : (e : Refusal) → refusal_of (refusal_number e) ≡ e
unfolding refusal_of
back SettingOutOfRange = refl
back NotPossible = refl
back NoRoom = refl
back NothingThere = refl
back Occupied = refl
back NoEnd = refl
back TooFewValues = refl
back BadIdentifier = refl
back BadRtr = refl
back BadDlc = refl
back TooManyValues = refl
back NoByte = refl
back BadFormat = refl
back Damaged = refl

pub same_refusal : (d e : Refusal) → refusal_number d ≡ refusal_number e → d ≡ e
same_refusal d e h = sym (back d) ∙ ap refusal_of h ∙ back e

-- two answers with one number, and one value where there is one, are the same
pub same_answer : {A : Type 0} (v : A) (r s : Result A Refusal) → number_in r ≡ number_in s
    → IfOk r (λ (a : A). a ≡ v) → IfOk s (λ (a : A). a ≡ v) → r ≡ s
same_answer v (Ok a) (Ok b) h p q = ap Ok (p ∙ sym q)
same_answer v (Ok a) (Err e) h p q = absurd (positive e (sym h))
same_answer v (Err d) (Ok b) h p q = absurd (positive d h)
same_answer v (Err d) (Err e) h p q = ap Err (same_refusal d e h)

pub answers_unique : {A : Type 0} {n : ℕ} {v : A} {r s : Result A Refusal} → Answers n v r → Answers n v s → r ≡ s
answers_unique {v = v} {r = r} {s = s} a b = same_answer v r s (a.number ∙ sym b.number) a.value b.value
