-- Answers by number (01, "Refusal numbers").
use Rattle.std.specs.Prelude.{ℕ, ◌≡◌, Bool, ◌&&◌, leb, Result, Ok, Err, IfOk}
use Rattle.common.specs.declared.refusals.Refusal.{Refusal}
use Rattle.common.specs.declared.refusals.Refusal.TheVariants.{SettingOutOfRange, NotPossible, NoRoom, NothingThere}
use Rattle.common.specs.declared.refusals.Refusal.TheVariants.{Occupied, NoEnd, TooFewValues, BadIdentifier, BadRtr}
use Rattle.common.specs.declared.refusals.Refusal.TheVariants.{BadDlc, TooManyValues, NoByte, BadFormat, Damaged}

-- a refusal is a number from 1 to 99; 0 is success, 100 to 103 are what a raise met
unfoldable pub is_refusal : ℕ → Bool
is_refusal n = leb 1 n && leb n 99

-- the number of each refusal
abbrev pub refusal_number : Refusal → ℕ
refusal_number SettingOutOfRange = 1
refusal_number NotPossible = 2
refusal_number NoRoom = 3
refusal_number NothingThere = 4
refusal_number Occupied = 5
refusal_number NoEnd = 6
refusal_number TooFewValues = 7
refusal_number BadIdentifier = 8
refusal_number BadRtr = 9
refusal_number BadDlc = 10
refusal_number TooManyValues = 11
refusal_number NoByte = 12
refusal_number BadFormat = 13
refusal_number Damaged = 14

-- the number of an answer: 0 beside a value, else the refusal's
abbrev pub number_in : {A : Type 0} → Result A Refusal → ℕ
number_in (Ok a) = 0
number_in (Err e) = refusal_number e

-- the answer of a call whose first refusal is n, or whose value is v where n is 0
pub record Answers {A : Type 0} (n : ℕ) (v : A) (r : Result A Refusal) : Type 0 where
  pub number : number_in r ≡ n
  pub value : IfOk r (λ (a : A). a ≡ v)
