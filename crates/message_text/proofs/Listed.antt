-- Every answer of the reader is one of the paper's, and a refusal is no more than that.
use Prim.Native.Nat.{ℕ}
use mathlib.Core.Path.{◌≡◌, refl, ap}
use mathlib.Core.List.{List}
use mathlib.Core.Bool.{Bool, true, false, ◌||◌, or-true}
use lib.ListN.{length}
use lib.Dec.{eqb, ltb}
use Rattle.std.specs.Prelude.{Result, Err}
use Rattle.common.specs.Choice.{pick}
use Rattle.common.specs.Refusals.{number_in}
use Rattle.common.specs.declared.refusals.Refusal.{Refusal}
use Rattle.common.specs.declared.refusals.Refusal.TheVariants.{NoEnd}
use Rattle.messages.specs.declared.Message.{Message}
use Rattle.numbers.specs.Numbers.{numbers, before_end}
use Rattle.message_text.specs.Reading.{read_message, judged, refused, used_of}
use Rattle.message_text.specs.declared.Said.{Said}
use Rattle.message_text.proofs.Cases.{is_refusal, read_is}

-- 0 for a message, 6 for a text with no end, or one of 7 to 12
abbrev pub listed : ℕ → Bool
listed n = eqb n 0 || eqb n 6 || is_refusal n

-- the number of the answer is 0, 6, 7, 8, 9, 10, 11 or 12 for every text
pub number_listed : (align format : ℕ) (text : List ℕ) → listed (number_in (read_message align format text).said) ≡ true
number_listed align format text =
    read_is (λ s. listed (number_in s.said) ≡ true) align format text refl (λ why l. rw (l, or-true)) (λ t. refl)

-- a refused reading says its refusal and the bytes used, none where there is no end, and no message
pub refused_zero : (align format : ℕ) (text : List ℕ) {why : Refusal} → (read_message align format text).said ≡ Err why
    → read_message align format text ≡ refused why (pick (ltb (before_end text) (length text)) (used_of text) 0)
unfolding read_message
refused_zero align format text {why} e =
    by (ltb (before_end text) (length text)) (judged align format (length (numbers text)) (numbers text)) (used_of text) e
  where
    by : (t : Bool) (said : Result Message Refusal) (used : ℕ)
        → (pick t (record { said = said; used = used }) (refused NoEnd 0)).said ≡ Err why
        → ◌≡◌ {A = Said} (pick t (record { said = said; used = used }) (refused NoEnd 0)) (refused why (pick t used 0))
    by true said used e = ap (λ s. record { said = s; used = used }) e
    by false said used e = ap (λ s. record { said = s; used = 0 }) e
