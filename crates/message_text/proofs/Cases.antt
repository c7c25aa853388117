-- The ways in which a text is judged, each with what its answer shows.
use Prim.Native.Nat.{ℕ, ◌+◌, ◌≤◌}
use mathlib.Core.Path.{◌≡◌, refl}
use mathlib.Core.List.{List, [], ◌∷◌}
use mathlib.Core.Bool.{Bool, true, false, not}
use borrow.Author.Tests.{ltb-false, not-false}
use lib.Dec.{ltb}
use lib.ListN.{length, get_or, drop}
use Rattle.std.specs.Prelude.{Result, Ok, Err}
use Rattle.common.specs.Numbers.{among}
use Rattle.common.specs.Refusals.{refusal_number}
use Rattle.common.specs.declared.refusals.Refusal.{Refusal}
use Rattle.common.specs.declared.refusals.Refusal.TheVariants.{NoEnd, TooFewValues, BadIdentifier, BadRtr, BadDlc}
use Rattle.common.specs.declared.refusals.Refusal.TheVariants.{TooManyValues, NoByte}
use Rattle.common.proofs.Choices.{pick_is}
use Rattle.ids.specs.Ids.{raw_of, is_bad}
use Rattle.ids.specs.Frames.{carried}
use Rattle.numbers.specs.Numbers.{numbers, before_end}
use Rattle.messages.specs.declared.Message.{Message}
use Rattle.message_text.specs.Reading.{used_of, parsed_header, all_bytes, data_of, refused, judged_data, judged}
use Rattle.message_text.specs.Reading.{read_message}
use Rattle.message_text.specs.declared.Said.{Said}

-- the numbers of a text with an end that is refused
abbrev pub is_refusal : ℕ → Bool
is_refusal n = among n (7 ∷ 8 ∷ 9 ∷ 10 ∷ 11 ∷ 12 ∷ [])

-- what holds of n numbers that make a message
pub record TakenFacts (align format n : ℕ) (values : List ℕ) : Type 0 where
  pub good : is_bad (raw_of align format (get_or values 0 0)) ≡ false
  pub rtr : get_or values 1 0 ≤ 1
  pub dlc : get_or values 2 0 ≤ 15
  pub enough : 3 + carried (parsed_header align format values) ≤ n
  pub bytes : all_bytes (drop 3 values) ≡ true

-- the message that they make
abbrev pub message_of : ℕ → ℕ → List ℕ → Message
message_of align format values =
    record {
      header = parsed_header align format values;
      bytes = data_of (parsed_header align format values) values;
    }

-- and what a text with these numbers says
abbrev pub taken_of : ℕ → ℕ → List ℕ → ℕ → Said
taken_of align format values used = record { said = Ok (message_of align format values); used = used }

-- what holds of each refusal and of a message holds of what numbers say
pub judged_is : (P : Result Message Refusal → Type 0) (align format n : ℕ) (values : List ℕ)
    → ((why : Refusal) → is_refusal (refusal_number why) ≡ true → P (Err why))
    → (TakenFacts align format n values → P (Ok (message_of align format values))) → P (judged align format n values)
unfolding judged judged_data
judged_is P align format n values r t =
    let h = parsed_header align format values in
    pick_is P (ltb n 3) (λ e. r TooFewValues refl)
    (λ e. pick_is P (is_bad (raw_of align format (get_or values 0 0))) (λ e. r BadIdentifier refl)
    (λ good. pick_is P (ltb 1 (get_or values 1 0)) (λ e. r BadRtr refl)
    (λ rtr. pick_is P (ltb 15 (get_or values 2 0)) (λ e. r BadDlc refl)
    (λ dlc. pick_is P (ltb n (3 + carried h)) (λ e. r TooFewValues refl)
    (λ enough. pick_is P (ltb 11 n) (λ e. r TooManyValues refl)
    (λ e. pick_is P (not (all_bytes (drop 3 values))) (λ e. r NoByte refl)
    (λ past. t (record {
      good = good;
      rtr = ltb-false 1 (get_or values 1 0) rtr;
      dlc = ltb-false 15 (get_or values 2 0) dlc;
      enough = ltb-false n (3 + carried h) enough;
      bytes = not-false (all_bytes (drop 3 values)) past;
    }))))))))

-- and holds of what a text says where it holds of refusal 6 too
pub read_is : (P : Said → Type 0) (align format : ℕ) (text : List ℕ) → P (refused NoEnd 0)
    → ((why : Refusal) → is_refusal (refusal_number why) ≡ true → P (refused why (used_of text)))
    → (TakenFacts align format (length (numbers text)) (numbers text)
    → P (taken_of align format (numbers text) (used_of text))) → P (read_message align format text)
unfolding read_message
read_is P align format text six r t =
    pick_is P (ltb (before_end text) (length text))
    (λ e. judged_is (λ said. P (record { said = said; used = used_of text })) align format (length (numbers text))
    (numbers text) r t) (λ e. six)
